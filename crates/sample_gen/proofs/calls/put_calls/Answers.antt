use Rattle.std.proofs.Common.{◌≡◌, ◌++◌, ℕ, refl, ap, ◌∙◌, arith}
use Rattle.std.specs.List.{flat_map, range_with_len}
use Rattle.sample_gen.specs.Program.{call, calls_of}
use Rattle.sample_gen.proofs.Sequence.{grown}
use Rattle.sample_gen.proofs.calls.put_calls.Goals as goal

pub loop-place-preserved : goal.loop-place-preserved
loop-place-preserved c =
    grown (call c.args.kind c.args.calls) c.loop-place.place _ _ _ _ c.loop-place.invariant c.in_ok-put_call.ensures refl

pub returns : goal.returns
unfolding calls_of
returns c =
    let all : c.loop-place.place ≡ c.args.calls = omega arith in
    c.loop-place.invariant ∙ ap (λ (n : ℕ). c.args.code.now.items ++ flat_map (call c.args.kind c.args.calls) (range_with_len 0 n)) all
