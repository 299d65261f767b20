pub mod WordLemmas
pub mod NumberLemmas
pub mod DigitLemmas
pub mod SplitLemmas
pub mod WholeLemmas
pub mod ReadLemmas
pub mod EntryLemmas
