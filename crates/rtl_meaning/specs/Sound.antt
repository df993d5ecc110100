-- The expressions that can be evaluated.
use Rattle.std.specs.Prelude.{ℕ, List}
use Rattle.rtl_core.specs.declared.expr.Expr.{Expr}
use Rattle.rtl_core.specs.Terms.{term_of}
use Rattle.rtl_core.specs.SoundTerms.{AreWidths, IsSoundTerm}

-- an expression that is well formed over cells of these widths, which are from 1 to 64
pub record IsSoundExpr (widths : List ℕ) (e : Expr) : Type 0 where
  pub cells : AreWidths widths
  pub term : IsSoundTerm widths (term_of e)
