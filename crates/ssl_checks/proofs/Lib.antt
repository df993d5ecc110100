pub mod CallLaws
pub mod ArgumentLemmas
pub mod WindowLemmas
pub mod FirstLemmas
