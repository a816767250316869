mod FrontCases
mod GapLemmas
mod WordLemmas
pub mod BlankLemmas
pub mod ByteLemmas
pub mod CompleteLemmas
pub mod DigitLemmas
pub mod ExpressionTokenLemmas
pub mod FaultKindLemmas
pub mod FrontLemmas
pub mod LengthLemmas
pub mod LineLemmas
pub mod PlainLemmas
pub mod ReaderLemmas
pub mod SoundLemmas
pub mod StringLemmas
pub mod TokenLemmas
pub mod WordByteLemmas
