pub mod Abis
pub mod Agrees
pub mod Arounds
pub mod Carries
pub mod Choices
pub mod Chosen
pub mod Paces
