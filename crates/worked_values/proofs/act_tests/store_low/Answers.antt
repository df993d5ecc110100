use Rattle.std.proofs.Common.{◌≡◌, ◌∙◌, ◌-◌, ◌*◌, true, sym, subst}
use Rattle.rtl_core.specs.declared.expr.Expr.TheVariants as E
use Rattle.rtl_core.specs.declared.transfer.Act.TheVariants as A
use Rattle.rtl_core.specs.SoundTerms.{IsSoundAct}
use Rattle.rtl_core.specs.Access.{is_size}
use Rattle.worked_values.proofs.SmallMachine.{store_low}
use Rattle.worked_values.proofs.act_tests.store_low.Goals as goal

pub returns : goal.returns
returns c = λ m s.
    let size : is_size c.args.bytes ≡ true = sym c.can_be_accessed.ensures ∙ c.if-not-can_be_accessed.false in
    let e : E.Slice c.in_ok-inner.inner 0 c.top_bit.result ≡ E.Slice (E.Cell 4) 0 (8 * c.args.bytes - 1) = cc (c.in_ok-inner.ensures, c.top_bit.ensures) in
    subst (λ x. IsSoundAct m (A.Store c.args.bytes c.number.result x)) (sym e) (store_low m s c.args.bytes c.number.result size (c.number.ensures m s))
