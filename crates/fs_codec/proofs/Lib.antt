pub mod WordsLemmas
pub mod FieldsLemmas
pub mod ImageLemmas
pub mod BytesLemmas
pub mod CountLemmas
pub mod FreeLemmas
pub mod LeastLemmas
