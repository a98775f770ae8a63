mod SmallNumbers
