pub mod Boots
pub mod Slots
pub mod Parts
pub mod Passing
pub mod Memory
pub mod State
pub mod Deposits
