mod Tests
pub mod Judged
pub mod Walks
pub mod First
pub mod Messages
pub mod RoundTrip
mod Registers
pub mod LookupLaws
pub mod Shifted
pub mod Whole
pub mod Joined
pub mod JoinedGood
pub mod JoinLaws
