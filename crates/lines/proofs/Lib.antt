pub mod Texts
pub mod Bytes
pub mod Answering
