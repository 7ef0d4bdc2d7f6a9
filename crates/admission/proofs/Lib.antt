pub mod FirstTests
pub mod Judging
pub mod Leaving
pub mod Targets
