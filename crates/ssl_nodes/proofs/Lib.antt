pub mod FewLemmas
pub mod BodyLaws
pub mod FormulaLaws
pub mod InductFormula
pub mod PutLemmas
pub mod CountLaws
