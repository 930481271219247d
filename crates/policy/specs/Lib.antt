pub mod Unmarked
pub mod Passing
