pub mod Pass
pub mod Match
pub mod Moved
pub mod Lines
pub mod inside
