pub mod Meaning
pub mod Answers
pub mod Promise
pub mod OneOutcome
pub mod Sentence
pub mod Lengths
pub mod Cases
