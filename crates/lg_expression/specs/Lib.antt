pub mod Grammar
pub mod Meanings
pub mod Reading
pub mod Steps
pub mod Units
pub mod Values
