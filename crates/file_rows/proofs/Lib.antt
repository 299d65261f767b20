pub mod ReadyLemmas
pub mod ReferenceLemmas
