pub mod Meaning
pub mod Promise
pub mod OneOutcome
