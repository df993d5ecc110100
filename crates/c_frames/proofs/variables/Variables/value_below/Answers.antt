use Rattle.std.proofs.Common.{◌≡◌, ◌<◌, ◌≤◌, ◌∷◌, ◌-◌, sym, ap, ◌∙◌, length, take, drop, arith}
use Rattle.c_lang.specs.Value.{value}
use Rattle.c_frames.specs.Slots.{seen}
use Rattle.c_frames.specs.Stack.{Stack, calls_in}
use Rattle.c_frames.proofs.StackLaws.{calls_count, room_below, left_is}
use Rattle.c_frames.proofs.variables.Variables.value_below.Goals as goal

pub overflow_sub-self-inside : goal.overflow_sub-self-inside
overflow_sub-self-inside c =
    let i = c.self.inside in
    let n = ap (λ (s : Stack). length s.below) (sym c.self.view_is) ∙ calls_count i.size i.depth (take i.base i.slots.items) in
    let some : 0 < i.depth = omega (arith, n, c.requires) in
    room_below i.size i.depth i.base some c.self.invariant.below

pub returns : goal.returns
returns c = λ caller more is.
    let i = c.self.inside in
    let n = ap (λ (s : Stack). length s.below) (sym c.self.view_is) ∙ calls_count i.size i.depth (take i.base i.slots.items) in
    let some : 0 < i.depth = omega (arith, n, c.requires) in
    let long : i.base ≤ length i.slots.items = omega (arith, c.self.invariant.whole) in
    let front : c.split_at.result.0.now ≡ take i.base i.slots.items = c.split_at.ensures.front ∙ ap (take i.base) c.as_slice.ensures.value in
    let chain : caller ∷ more ≡ drop (i.base - i.size) c.split_at.result.0.now ∷ calls_in i.size (i.depth - 1) (take (i.base - i.size) c.split_at.result.0.now) =
    sym is ∙ ap (λ (s : Stack). s.below) (sym c.self.view_is) ∙ left_is i.size i.depth i.base i.slots.items c.split_at.result.0.now some c.self.invariant.below long front in
    let first : caller ≡ drop (i.base - i.size) c.split_at.result.0.now = cc chain in
    let same : c.split_at-2.result.1.now ≡ caller = c.split_at-2.ensures.back ∙ sym first in
    let globals : c.deref.result.now ≡ c.args.self.now.globals = c.deref.ensures.value ∙ ap (λ (s : Stack). s.globals) c.self.view_is in
    c.value_over.ensures ∙ ap (λ xs. value (seen xs c.deref.result.now) c.args.e.now) same ∙ ap (λ gs. value (seen caller gs) c.args.e.now) globals
