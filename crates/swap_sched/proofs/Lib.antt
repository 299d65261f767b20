pub mod SearchLemmas
pub mod Texts
pub mod Places
pub mod Boards
pub mod Matching
pub mod Movable
pub mod MoveLemmas
pub mod PassLemmas
pub mod Ending
pub mod Staying
pub mod Still
pub mod Fitting
mod WorkedPasses
