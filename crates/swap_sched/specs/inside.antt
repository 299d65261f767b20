-- What contracts inside the crate speak of.
pub mod Searches
pub mod Does
