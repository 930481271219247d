pub mod Needs
pub mod Marks
pub mod Missing
