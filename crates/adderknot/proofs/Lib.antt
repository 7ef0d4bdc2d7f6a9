mod Told
mod ByFlag
mod ByKind
