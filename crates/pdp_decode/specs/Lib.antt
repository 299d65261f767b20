pub mod Numbers
pub mod Table
pub mod Decode
pub mod Handlers
