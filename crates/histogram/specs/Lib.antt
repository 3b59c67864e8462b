pub mod Meaning
pub mod Answers
pub mod Promise
pub mod OneOutcome
pub mod States
pub mod Outcomes
