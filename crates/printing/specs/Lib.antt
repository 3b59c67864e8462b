pub mod Promise
pub mod OneOutcome
