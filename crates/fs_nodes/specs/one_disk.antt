-- The file system of one disk, and its inodes in memory.
pub mod FileSystem
pub mod Table
pub mod Inodes
pub mod Moves
pub mod Numbers
pub mod Setting
