use Rattle.std.proofs.Common.{◌≡◌, ◌<◌, true, false, sym, ap, ◌∙◌, length, arith}
use Rattle.c_lang.specs.State.{is_global}
use Rattle.c_frames.specs.Stack.{Stack}
use Rattle.c_frames.proofs.SlotLaws.{put_global, put_local}
use Rattle.c_frames.proofs.variables.Variables.put.Goals as goal

pub returns-then-is_global-clause-globals : goal.returns-then-is_global-clause-globals
returns-then-is_global-clause-globals c =
    let i = c.self.inside in
    let kind : is_global c.args.v ≡ true = sym c.is_global.ensures ∙ c.if-is_global.true in
    let lt : c.slot_of-at.result < length i.globals.items = omega (arith, c.slot_of-at.ensures.shared kind, c.self.invariant.globals) in
    put_global i.globals.items c.args.self.now.globals c.slot_of-at.result c.args.v c.args.n c.slot_of-at.ensures.place kind lt (ap (λ (s : Stack). s.globals) c.self.view_is)

pub returns-else-is_global-clause-locals : goal.returns-else-is_global-clause-locals
returns-else-is_global-clause-locals c =
    let i = c.self.inside in
    let kind : is_global c.args.v ≡ false = sym c.is_global.ensures ∙ c.if-is_global.false in
    let size : i.size ≡ c.args.self.now.size = ap (λ (s : Stack). s.size) c.self.view_is in
    let lt : c.slot_of-at.result < i.size = omega (arith, c.requires kind, c.slot_of-at.ensures.place, size) in
    put_local i.slots.items c.args.self.now.top i.base i.size c.slot_of-at.result c.args.v c.args.n c.slot_of-at.ensures.place kind lt c.self.invariant.whole
    (ap (λ (s : Stack). s.top) c.self.view_is)
