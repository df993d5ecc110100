use Rattle.std.proofs.Common.{◌≡◌, [], drop}
use Rattle.std.specs.Prelude.{None}
use Rattle.c_lang.specs.State.{seen_vars}
use Rattle.c_eval.specs.Plain.{state_of, values_from}
use Rattle.c_eval.proofs.expressions.values_of.Given as goal

abbrev pub invariant-loop-e : goal.invariant-loop-e
invariant-loop-e l =
    let vars = seen_vars (state_of l.state (λ a. None)) in
    values_from l.values vars (drop l.e-index l.es) ≡ values_from [] vars l.es
