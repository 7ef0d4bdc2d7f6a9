pub mod Elements
pub mod Compared
pub mod Exactly
pub mod Reorders
pub mod Rows
mod Marked
mod Bytewise
mod Steps
mod Tops
