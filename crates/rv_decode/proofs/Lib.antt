pub mod WordLemmas
pub mod FamilyLemmas
pub mod DecodedLemmas
pub mod SearchLemmas
pub mod TableLemmas
pub mod RangeLemmas
