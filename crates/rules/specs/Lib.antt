pub mod Rules
pub mod Private
