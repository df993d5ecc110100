use Rattle.std.proofs.Common.{◌≡◌, ◌<◌, ◌≤◌, sym, ap, ◌∙◌, length, take, arith}
use Rattle.std.proofs.lemmas.List.{length-take-le}
use Rattle.c_frames.specs.Stack.{Stack}
use Rattle.c_frames.proofs.StackLaws.{calls_count, room_below, stacked_less, left_is}
use Rattle.c_frames.proofs.variables.Variables.leave.Goals as goal

pub overflow_sub-self : goal.overflow_sub-self
overflow_sub-self c =
    let i = c.self.inside in
    let n = ap (λ (s : Stack). length s.below) (sym c.self.view_is) ∙ calls_count i.size i.depth (take i.base i.slots.items) in
    let some : 0 < i.depth = omega (arith, n, c.requires) in
    room_below i.size i.depth i.base some c.self.invariant.below

pub overflow_sub-self-2 : goal.overflow_sub-self-2
overflow_sub-self-2 c =
    let i = c.self.inside in
    let n = ap (λ (s : Stack). length s.below) (sym c.self.view_is) ∙ calls_count i.size i.depth (take i.base i.slots.items) in
    omega (arith, n, c.requires)

pub invariant_of-self : goal.invariant_of-self
invariant_of-self c =
    let i = c.self.inside in
    let n = ap (λ (s : Stack). length s.below) (sym c.self.view_is) ∙ calls_count i.size i.depth (take i.base i.slots.items) in
    let some : 0 < i.depth = omega (arith, n, c.requires) in
    let long : i.base ≤ length i.slots.items = omega (arith, c.self.invariant.whole) in
    let len : length c.truncate.new.self.items ≡ i.base = ap length c.truncate.ensures.items ∙ length-take-le i.base i.slots.items long in
    stacked_less i.size i.depth i.base _ _ _ _ _ c.self.invariant some len c.truncate.ensures.capacity

pub returns-clause-frames : goal.returns-clause-frames
returns-clause-frames c =
    let i = c.self.inside in
    let n = ap (λ (s : Stack). length s.below) (sym c.self.view_is) ∙ calls_count i.size i.depth (take i.base i.slots.items) in
    let some : 0 < i.depth = omega (arith, n, c.requires) in
    let long : i.base ≤ length i.slots.items = omega (arith, c.self.invariant.whole) in
    ap (λ (s : Stack). s.below) (sym c.self.view_is)
    ∙ left_is i.size i.depth i.base i.slots.items c.truncate.new.self.items some c.self.invariant.below long c.truncate.ensures.items
