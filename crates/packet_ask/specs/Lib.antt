pub mod Meaning
pub mod Answers
pub mod Promise
pub mod OneOutcome
pub mod Parts
pub mod Keeping
pub mod Outcomes
