pub mod Layout
pub mod Pieces
pub mod Reads
