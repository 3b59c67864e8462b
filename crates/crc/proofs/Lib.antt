pub mod Xor
pub mod Linear
pub mod Root
pub mod Sixteen
pub mod Folds
pub mod Reading
pub mod Chunks
pub mod Covering
