pub mod Words
pub mod Digits
pub mod Reading
pub mod Refused
pub mod Answers
