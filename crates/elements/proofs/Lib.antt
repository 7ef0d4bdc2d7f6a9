pub mod Find
pub mod Table
pub mod Later
pub mod Ranges
pub mod Scans
pub mod Told
pub mod RegisterLaws
pub mod CellLaws
