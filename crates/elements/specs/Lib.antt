pub mod Table
pub mod Ranges
pub mod Registers
pub mod Private
pub mod Right
pub mod Later
pub mod Cells
