pub mod Padded
pub mod Files
pub mod FreeList
pub mod Image
pub mod Adding
pub mod FreeBlocks
pub mod Demo
