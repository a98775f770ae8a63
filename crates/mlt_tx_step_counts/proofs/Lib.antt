mod Names
pub mod Answers
pub mod BackSteps
pub mod Extra
pub mod FirstOfTwo
pub mod Inverses
pub mod InversesOfTwo
pub mod Passes
pub mod PassesOfTwo
pub mod PendingSteps
pub mod Splitting
pub mod Stages
pub mod StagesOfTwo
pub mod WideOfTwo
