pub mod Lawfuls
pub mod Relations
pub mod Laws
pub mod Starts
