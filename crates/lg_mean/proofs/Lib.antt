pub mod AddressLemmas
pub mod EnteringLemmas
pub mod FitLemmas
pub mod FollowLemmas
pub mod FrameLemmas
pub mod HostLemmas
pub mod KnownLemmas
pub mod LandingLemmas
pub mod LineLemmas
pub mod ReadLemmas
pub mod ResolvedLemmas
pub mod ResultLemmas
pub mod RunLemmas
pub mod StepLemmas
pub mod SuitLemmas
pub mod TableLemmas
mod WhyLemmas
