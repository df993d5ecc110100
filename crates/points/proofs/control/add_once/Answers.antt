use Rattle.std.proofs.Common.{◌∙◌, sym, ap}
use Rattle.points.proofs.OnceLaws.{among, held_on, new_on}
use Rattle.points.proofs.control.add_once.Goals as goal

pub returns-then-holds : goal.returns-then-holds
returns-then-holds c = λ before.
    held_on c.args.nexts.now before c.args.next (ap (among c.args.next) (sym c.as_slice.ensures) ∙ sym c.holds.ensures ∙ c.if-holds.true)

pub returns : goal.returns
returns c = λ before e.
    c.in_ok-push.ensures.ok ∙ new_on c.args.nexts.now before c.args.next (ap (among c.args.next) (sym c.as_slice.ensures) ∙ sym c.holds.ensures ∙ c.if-holds.false) e
