pub mod NumberLemmas
pub mod LineLemmas
pub mod CommandLemmas
pub mod ScriptLemmas
mod RateLemmas
