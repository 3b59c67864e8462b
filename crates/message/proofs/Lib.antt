pub mod Numbers
pub mod Tags
pub mod Reading
pub mod Writing
