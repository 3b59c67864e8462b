pub mod Forming
pub mod Rates
