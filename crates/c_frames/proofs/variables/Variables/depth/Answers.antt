use Rattle.std.proofs.Common.{sym, ap, ◌∙◌, length, take}
use Rattle.c_frames.specs.Stack.{Stack}
use Rattle.c_frames.proofs.StackLaws.{calls_count}
use Rattle.c_frames.proofs.variables.Variables.depth.Goals as goal

pub returns : goal.returns
returns c =
    let i = c.self.inside in
    sym (ap (λ (s : Stack). length s.below) (sym c.self.view_is) ∙ calls_count i.size i.depth (take i.base i.slots.items))
