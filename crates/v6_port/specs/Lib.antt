pub mod Outside
pub mod Calls
pub mod Causes
pub mod Kept
pub mod Files
pub mod Memory
