pub mod PaddedLemmas
pub mod FilesLemmas
pub mod FreeListLemmas
pub mod ImageLemmas
