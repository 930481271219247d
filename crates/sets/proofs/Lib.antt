pub mod Laws
pub mod FromLowest
