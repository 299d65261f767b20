pub mod BufferLemmas
pub mod KeptLemmas
pub mod MemoryLemmas
pub mod CauseLemmas
