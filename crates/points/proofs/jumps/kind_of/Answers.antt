use Rattle.std.proofs.Common.{◌∙◌, sym, ap, subst}
use Rattle.std.specs.Option.{option_copied}
use Rattle.points.specs.Kinds.{jump_target}
use Rattle.points.proofs.SoundJumps.{IsAddressIfAny, jump-sound}
use Rattle.points.proofs.jumps.kind_of.Goals as goal

pub constant_target-requires-clause-width : goal.constant_target-requires-clause-width
constant_target-requires-clause-width c =
    let m = c.args.on.now.machine.now in
    let is = ap jump_target (sym c.as_slice.ensures) ∙ sym c.jump_target.ensures ∙ ap option_copied c.in-Some.is in
    subst (IsAddressIfAny m) is (jump-sound m c.args.inst.now.transfers c.requires.transfers.each)
