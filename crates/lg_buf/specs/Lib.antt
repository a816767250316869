pub mod Buffers
pub mod FixFields
pub mod Ownership
pub mod Fixing
pub mod Stores
