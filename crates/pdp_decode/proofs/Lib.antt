pub mod Alone
pub mod Handled
