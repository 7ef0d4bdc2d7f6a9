pub mod Values
pub mod Walk
pub mod Presence
pub mod Fields
pub mod Theorems
pub mod Frame
mod Zero
mod Places
mod Shown
mod Runs
mod Taken
mod Counts
mod Given
mod Stored
mod Cases
