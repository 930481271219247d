pub mod Lawful
pub mod Case
