pub mod Processes
pub mod Pids
pub mod Children
