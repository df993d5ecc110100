use Rattle.std.proofs.Common.{◌≡◌, ◌∙◌, true, sym, subst}
use Rattle.rtl_core.specs.declared.expr.Expr.TheVariants as E
use Rattle.rtl_core.specs.declared.transfer.Act.TheVariants as A
use Rattle.rtl_core.specs.SoundTerms.{IsSoundAct}
use Rattle.rtl_core.specs.Access.{is_size}
use Rattle.worked_values.proofs.SmallMachine.{loaded_has, set_wide}
use Rattle.worked_values.proofs.act_tests.load_wide.Goals as goal

pub returns : goal.returns
returns c = λ m s.
    let size : is_size c.args.bytes ≡ true = sym c.can_be_accessed.ensures ∙ c.if-not-can_be_accessed.false in
    let e : E.Zext c.double-width.result c.in_ok-loaded.loaded ≡ E.Zext 64 (E.Load c.args.bytes c.number.result) = cc (c.double-width.ensures, c.in_ok-loaded.ensures, c.in_ok-address.ensures) in
    subst (λ x. IsSoundAct m (A.SetCell 4 x)) (sym e) (set_wide m s (E.Zext 64 (E.Load c.args.bytes c.number.result)) (loaded_has m.widths c.args.bytes c.number.result size (c.number.ensures m s)))
