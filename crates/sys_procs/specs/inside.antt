-- What contracts inside the crate speak of.
pub mod Sender
pub mod Packed
pub mod Begun
pub mod Parts
pub mod Handed
pub mod Tested
pub mod Seats
