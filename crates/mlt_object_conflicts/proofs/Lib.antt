mod Names
pub mod Rows
pub mod AccountPairs
pub mod AccountRows
pub mod ElementPairs
pub mod CounterPairs
pub mod AccountExact
pub mod ElementExact
pub mod CounterExact
pub mod BaseCommutes
pub mod SizeBreaks
pub mod BaseBreaks
pub mod BaseOrder
