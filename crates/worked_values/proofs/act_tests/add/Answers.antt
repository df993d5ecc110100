use Rattle.std.proofs.Common.{sym, subst}
use Rattle.std.specs.Prelude.{All}
use Rattle.rtl_core.specs.SoundTerms.{IsSoundTransfer}
use Rattle.worked_values.proofs.SmallMachine.{push_sound}
use Rattle.worked_values.proofs.act_tests.add.Goals as goal

pub returns : goal.returns
returns c = λ m s.
    subst (All (IsSoundTransfer m)) (sym c.in_ok-push.ensures.ok)
    (push_sound m c.args.transfers.now (record { guard = c.args.guard; act = c.args.act }) (c.requires.transfers m s) (record { guard = c.requires.guard m s; act = c.requires.act m s }))
