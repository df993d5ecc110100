use Rattle.std.proofs.Common.{◌≡◌, [], ◌∷◌, true, sym, ◌∙◌, subst}
use Rattle.rtl_core.specs.declared.expr.Bin.TheVariants.{Add}
use Rattle.rtl_core.specs.declared.expr.Expr.TheVariants as E
use Rattle.rtl_core.specs.Access.{is_size}
use Rattle.rtl_meaning.specs.Sound.{IsSoundExpr}
use Rattle.worked_values.proofs.TestLaws.{load_sound}
use Rattle.worked_values.proofs.rtl_meaning_tests.load_beyond.Goals as goal

pub returns : goal.returns
returns c =
    let size : is_size c.args.bytes ≡ true = sym c.can_be_loaded.ensures ∙ c.if-not-can_be_loaded.false in
    let e : E.Load c.args.bytes c.in_ok-at.at ≡ E.Load c.args.bytes (E.Bin Add (E.Cell 0) (E.Const 32 c.args.n)) =
    cc (c.in_ok-at.ensures, c.in_ok-base.ensures, c.in_ok-number.ensures, c.from.ensures) in
    subst (IsSoundExpr (32 ∷ [])) (sym e) (load_sound c.args.bytes c.args.n size c.ranges.n.fits)
