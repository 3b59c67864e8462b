pub mod Meaning
pub mod Answers
pub mod Promise
pub mod OneOutcome
pub mod Logarithms
pub mod Eighths
pub mod RoundTrip
pub mod Cases
