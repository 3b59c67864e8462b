pub mod Words
pub mod Turns
pub mod Meaning
pub mod Answers
pub mod Promise
pub mod OneOutcome
pub mod Laws
