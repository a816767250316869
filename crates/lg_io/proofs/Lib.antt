pub mod CountLemmas
pub mod NamedTextLemmas
pub mod WroteLemmas
