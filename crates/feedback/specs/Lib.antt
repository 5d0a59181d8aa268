pub mod FeedbackDelay
pub mod Finished
pub mod Laws
