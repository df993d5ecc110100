use Rattle.std.proofs.Common.{◌≡◌, ◌%◌, ◌<◌, ◌^◌, [], ◌∷◌, ◌∙◌, ap, refl, subst, sym, arith}
use Rattle.std.proofs.Math.Nat.{mod-eq_of_lt}
use Rattle.rtl_core.specs.SoundTerms.{IsWidth}
use Rattle.rtl_core.specs.declared.expr.Expr.TheVariants as E
use Rattle.rtl_core.proofs.ArithmeticLaws.{pow_le}
use Rattle.rtl_meaning.specs.Sound.{IsSoundExpr}
use Rattle.worked_values.proofs.TestLaws.{operation_sound}
use Rattle.worked_values.proofs.rtl_meaning_tests.operation.Goals as goal

pub returns : goal.returns
returns c =
    let w = c.in-Some.width in
    let value : w ≡ c.args.w = c.in-Some.ensures.value in
    let bounds = c.in-Some.ensures.valid.0 refl in
    let is_width : IsWidth w = (omega (arith, bounds.0, value), omega (arith, bounds.1, value)) in
    let power = ap (λ n. 2 ^ n) value in
    let small : 2 ^ w < 2 ^ 128 = omega (arith, pow_le w 64 is_width.1) in
    let whole : 2 ^ w % 2 ^ 128 ≡ 2 ^ w = mod-eq_of_lt small in
    let left : c.args.x < 2 ^ w = omega (arith, c.if-from-w.false, c.from.ensures, power, whole) in
    let right : c.args.y < 2 ^ w = omega (arith, c.if-from-w-2.false, c.from-else-from-w.ensures, power, whole) in
    let e : E.Bin c.args.op c.in_ok-left.left c.in_ok-right.right ≡ E.Bin c.args.op (E.Const w c.args.x) (E.Const w c.args.y) =
    ap (λ a. E.Bin c.args.op a c.in_ok-right.right) c.in_ok-left.ensures ∙ ap (λ b. E.Bin c.args.op (E.Const w c.args.x) b) c.in_ok-right.ensures in
    subst (IsSoundExpr (32 ∷ [])) (sym e) (operation_sound c.args.op w c.args.x c.args.y is_width left right)
