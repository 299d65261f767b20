pub mod Events
pub mod Clocks
pub mod Courses
