pub mod Tables
pub mod Masks
pub mod Between
