pub mod Kinds
pub mod Alive
