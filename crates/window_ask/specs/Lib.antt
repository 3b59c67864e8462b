pub mod Meaning
pub mod Answers
pub mod Promise
pub mod OneOutcome
