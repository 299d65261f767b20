pub mod Number
pub mod Lines
pub mod Command
pub mod Asked
pub mod Script
