use Rattle.std.proofs.Common.{◌≡◌, ◌<◌, ◌+◌, ◌∷◌, None, sym, ap, ◌∙◌, length, take, replicate, arith}
use Rattle.std.proofs.lemmas.List.{length-append, length-replicate}
use Rattle.c_frames.specs.Stack.{Stack}
use Rattle.c_frames.proofs.StackLaws.{calls_count, room_above, stacked_more, entered_is}
use Rattle.c_frames.proofs.variables.Variables.enter.Goals as goal

pub push_unset-requires : goal.push_unset-requires
push_unset-requires c =
    let i = c.self.inside in
    let n = ap (λ (s : Stack). length s.below) (sym c.self.view_is) ∙ calls_count i.size i.depth (take i.base i.slots.items) in
    let few : i.depth < 65536 = omega (arith, n, c.requires) in
    room_above i.size i.depth i.base _ _ _ c.self.invariant few

pub invariant_of-self : goal.invariant_of-self
invariant_of-self c =
    let i = c.self.inside in
    let n = ap (λ (s : Stack). length s.below) (sym c.self.view_is) ∙ calls_count i.size i.depth (take i.base i.slots.items) in
    let few : i.depth < 65536 = omega (arith, n, c.requires) in
    let len : length c.push_unset.new.slots.items ≡ length i.slots.items + i.size =
    ap length c.push_unset.ensures.items ∙ length-append i.slots.items (replicate i.size None) ∙ ap (λ k. length i.slots.items + k) (length-replicate i.size None) in
    stacked_more i.size i.depth i.base _ _ _ _ _ c.self.invariant few len c.push_unset.ensures.capacity

pub returns : goal.returns
returns c =
    let i = c.self.inside in
    entered_is i.size i.depth i.base i.slots.items c.push_unset.new.slots.items i.globals.items c.self.invariant.whole c.push_unset.ensures.items
    ∙ ap (λ (s : Stack). record s { top = replicate s.size None; below = s.top ∷ s.below }) c.self.view_is
