pub mod Fitting
pub mod Users
pub mod Seats
pub mod Lines
pub mod Births
pub mod Deaths
pub mod Images
pub mod Clocks
pub mod Settles
pub mod Passes
mod WorkedRow
mod WorkedSwaps
