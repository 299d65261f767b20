pub mod TableLemmas
pub mod SceneLemmas
