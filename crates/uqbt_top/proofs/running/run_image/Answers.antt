use Rattle.std.proofs.Common.{true, false, refl, sym, ap, subst, ◌∙◌}
use Rattle.std.proofs.lemmas.Result.{err_from_is_err_and}
use Rattle.points.specs.Machine.{machine_run}
use Rattle.space.specs.Ranges.{memory_of}
use Rattle.uqbt_top.specs.WholeInput.{IsInput}
use Rattle.uqbt_top.proofs.BuiltLaws.{line_told, setting_by}
use Rattle.uqbt_top.proofs.RunLaws.{no_input_ran, same_view, guest_ran}
use Rattle.uqbt_top.proofs.running.run_image.Goals as goal

pub returns-then-not-branch-clause-did : goal.returns-then-not-branch-clause-did
returns-then-not-branch-clause-did g c =
    (refl, line_told c.args.on.now c.args.image.now c.in_ok-matcher.matcher c.in_ok-line_ends.field-0 false c.in_ok-matcher.ensures c.in_ok-line_ends.ensures c.if-not-branch.true, refl)

pub returns-in_err-bytes-clause-did : goal.returns-in_err-bytes-clause-did
returns-in_err-bytes-clause-did g c =
    let p = err_from_is_err_and c.from_residual-in_err-bytes.result c.from_residual-in_err-bytes.ensures.1 in
    rw (p.1, p.2)
    (no_input_ran c.args.on.now c.args.image.now c.args.steps (g.S.Source.input c.args.input.now) (g.S.Source.input c.whole_input.new.input) (g.K.Sink.output c.args.out.now) c.in_err-bytes.field-0.0
    (line_told c.args.on.now c.args.image.now c.in_ok-matcher.matcher c.in_ok-line_ends.field-0 true c.in_ok-matcher.ensures c.in_ok-line_ends.ensures c.if-not-branch.false) c.in_err-bytes.ensures.refused)

pub returns-clause-did : goal.returns-clause-did
returns-clause-did g c =
    let d = c.args.on.now in
    let i = c.args.image.now in
    let bytes = c.as_slice-2.result.now in
    let view = machine_run (setting_by c.in_ok-matcher.matcher d i) (memory_of c.as_slice.result.now) i.entry bytes c.args.steps in
    guest_ran d i c.args.steps (g.S.Source.input c.args.input.now) (g.S.Source.input c.whole_input.new.input) bytes (g.K.Sink.output c.args.out.now) (g.K.Sink.output c.run_guest.new.out) c.run_guest.result view
    (same_view d i c.args.steps c.in_ok-matcher.matcher (memory_of c.as_slice.result.now) bytes c.in_ok-matcher.ensures (ap memory_of c.as_slice.ensures ∙ c.requires.memory.memory))
    (subst (IsInput (g.S.Source.input c.args.input.now) (g.S.Source.input c.whole_input.new.input)) (sym c.as_slice-2.ensures.value) c.in_ok-bytes.ensures.whole)
    (line_told d i c.in_ok-matcher.matcher c.in_ok-line_ends.field-0 true c.in_ok-matcher.ensures c.in_ok-line_ends.ensures c.if-not-branch.false)
    c.run_guest.ensures.ran c.run_guest.ensures.refused c.run_guest.ensures.front
