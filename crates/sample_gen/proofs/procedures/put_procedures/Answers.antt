use Rattle.std.proofs.Common.{◌≡◌, ◌++◌, ◌+◌, ◌*◌, ℕ, sym, ap, ◌∙◌, arith}
use Rattle.std.proofs.lemmas.List.{append-nil}
use Rattle.std.specs.Prelude.{min}
use Rattle.std.specs.List.{flat_map, range_with_len}
use Rattle.sample_gen.specs.Numbers.{state_after}
use Rattle.sample_gen.specs.Program.{procedure, procedures, procedure_count}
use Rattle.sample_gen.proofs.Sequence.{grown, procedure-from, state_after-add}
use Rattle.sample_gen.proofs.procedures.put_procedures.Goals as goal

pub loop-place-init : goal.loop-place-init
unfolding state_after
loop-place-init c =
    let none : 0 ≡ min 0 c.args.count = omega arith in
    (sym (append-nil c.args.code.now.items), ap (state_after c.args.number) none)

pub loop-place-preserved : goal.loop-place-preserved
loop-place-preserved c =
    let before : min (50 * c.loop-place.place) c.args.count ≡ 50 * c.loop-place.place = omega arith in
    let after : 50 * c.loop-place.place + c.procedure_size.result ≡ min (50 * (c.loop-place.place + 1)) c.args.count = omega arith in
    let state : c.loop-place.numbers.state ≡ state_after c.args.number (50 * c.loop-place.place) =
    c.loop-place.invariant.1 ∙ ap (state_after c.args.number) before in (
      grown (procedure c.args.kind c.args.number c.args.count) c.loop-place.place _ _ _ _ c.loop-place.invariant.0
          c.in_ok-put_procedure.ensures.bytes (procedure-from _ _ _ _ _ _ state c.procedure_size.ensures),
      c.in_ok-put_procedure.ensures.state ∙ (ap (λ (x : ℕ). state_after x c.procedure_size.result) state
          ∙ (state_after-add c.args.number (50 * c.loop-place.place) c.procedure_size.result ∙ ap (state_after c.args.number) after)),
    )

pub returns : goal.returns
unfolding procedures
returns c =
    let all : c.loop-place.place ≡ procedure_count c.args.count = omega arith in
    c.loop-place.invariant.0
    ∙ ap (λ (n : ℕ). c.args.code.now.items ++ flat_map (procedure c.args.kind c.args.number c.args.count) (range_with_len 0 n)) all
