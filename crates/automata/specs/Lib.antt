pub mod Runs
pub mod Marks
pub mod States
