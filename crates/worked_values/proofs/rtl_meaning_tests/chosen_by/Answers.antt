use Rattle.std.proofs.Common.{◌≡◌, [], ◌∷◌, sym, subst}
use Rattle.rtl_core.specs.declared.expr.Un.TheVariants.{Neg}
use Rattle.rtl_core.specs.declared.expr.Expr.TheVariants as E
use Rattle.rtl_meaning.specs.Sound.{IsSoundExpr}
use Rattle.worked_values.proofs.TestLaws.{choice_sound}
use Rattle.worked_values.proofs.rtl_meaning_tests.chosen_by.Goals as goal

pub returns : goal.returns
returns c =
    let e : E.If c.in_ok-test.test c.in_ok-left.left c.in_ok-right.right ≡
    E.If (E.Slice (E.Cell 0) c.args.bit c.args.bit) (E.Sext 32 (E.Load 1 (E.Const 32 3))) (E.Zext 32 (E.Un Neg (E.Const 8 1))) =
    cc (c.in_ok-cell.ensures, c.in_ok-test.ensures, c.in_ok-at.ensures, c.in_ok-last.ensures, c.in_ok-one.ensures, c.in_ok-minus.ensures, c.in_ok-left.ensures, c.in_ok-right.ensures, c.in-Some.ensures.value) in
    subst (IsSoundExpr (32 ∷ [])) (sym e) (choice_sound c.args.bit c.requires)
