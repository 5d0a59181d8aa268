pub mod TableLaws
pub mod RowLemmas
pub mod UnsignedLemmas
pub mod PlaceLemmas
pub mod PutLemmas
pub mod FormatLemmas
pub mod EncodeLemmas
