-- Laws that the proofs of several modules share, and theorems about the definitions.
pub mod Lists
pub mod Places
pub mod ChannelLaws
pub mod Thirds
pub mod TrichotomyExact
pub mod BalancedRuns
pub mod SourceLoops
pub mod Writing
