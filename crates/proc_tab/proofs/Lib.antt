pub mod SearchLemmas
pub mod PidLemmas
pub mod TableLemmas
