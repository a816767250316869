pub mod Cells
pub mod Memories
