use Rattle.std.proofs.Common.{◌≡◌, replicate, rules}
use Rattle.c_frames.proofs.StackLaws.{first_is}
use Rattle.c_frames.proofs.variables.Variables.reserve.Goals as goal

pub returns : goal.returns
returns c =
    let globals : c.in_ok-globals.globals.items ≡ replicate 260 0 = search rules in
    first_is c.args.size c.in_ok-slots.slots.items c.push_unset.new.slots.items c.in_ok-globals.globals.items c.in_ok-slots.ensures.items c.push_unset.ensures.items globals
