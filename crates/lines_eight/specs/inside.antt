-- What contracts inside the crate speak of.
pub mod OnLine
