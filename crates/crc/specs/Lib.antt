pub mod Meaning
pub mod Laws
pub mod Folding
pub mod Promise
pub mod OneOutcome
pub mod Sealing
