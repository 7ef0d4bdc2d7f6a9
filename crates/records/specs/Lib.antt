pub mod Record
pub mod Write
pub mod Replay
pub mod Pieces
pub mod Private
