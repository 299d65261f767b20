pub mod Judge
pub mod World
pub mod Sound
pub mod Searches
pub mod After
