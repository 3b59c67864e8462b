pub mod Building
pub mod Items
pub mod Returns
pub mod Trying
