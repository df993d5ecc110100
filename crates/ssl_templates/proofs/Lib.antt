pub mod PutLemmas
pub mod RangedLaws
pub mod ExpandLaws
pub mod ArgumentLemmas
pub mod ValueLaws
