pub mod ListLemmas
pub mod SlotLemmas
pub mod TickLemmas
pub mod ClockLemmas
pub mod CanLemmas
