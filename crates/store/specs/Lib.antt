pub mod Numbers
pub mod Layout
pub mod Search
pub mod Header
pub mod Store
pub mod Conversion
pub mod Private
pub mod Filter
