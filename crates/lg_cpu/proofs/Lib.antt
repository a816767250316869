mod A64FaultLemmas
mod A64OperatorLemmas
mod ArgumentLemmas
mod CallLemmas
mod DecodeLemmas
mod EnteringLemmas
mod FaultLemmas
pub mod FollowLemmas
mod OperatorLemmas
mod RoomLemmas
mod RvFaultLemmas
mod SaysLemmas
mod StartLemmas
mod TargetLemmas
mod WordLemmas
mod X86FaultLemmas
mod X86NextLemmas
pub mod A64RunLemmas
pub mod A64SoundLemmas
pub mod CacheLemmas
pub mod LineCountLemmas
pub mod RunLemmas
pub mod SeriesLemmas
pub mod SoundLemmas
pub mod StepLemmas
pub mod X86RunLemmas
pub mod X86SoundLemmas
