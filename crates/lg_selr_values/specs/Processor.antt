pub mod Computations
pub mod Destinations
pub mod Numbers
pub mod Places
pub mod RvComputers
pub mod RvRows
pub mod RvTouched
pub mod Touches
