pub mod TableLemmas
pub mod GrowthLemmas
pub mod FineLines
