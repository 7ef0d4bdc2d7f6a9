mod Answers
pub mod ByNumber
