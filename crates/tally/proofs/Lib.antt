pub mod Accepted
pub mod ByAnswer
pub mod ByKind
pub mod Counted
pub mod Noting
pub mod Serving
pub mod Touching
