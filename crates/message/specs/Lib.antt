pub mod Meaning
pub mod Answers
pub mod Laws
pub mod Promise
pub mod OneOutcome
pub mod ReadBack
