use Rattle.std.proofs.Common.{length, ap, ◌∙◌, arith}
use Rattle.sample_gen.proofs.Lengths.{code_short}
use Rattle.sample_gen.proofs.sample.Goals as goal

pub executable-requires : goal.executable-requires
executable-requires c =
    omega (arith, code_short c.args.kind c.args.number c.args.count (omega arith), ap length (c.as_slice.ensures.value ∙ c.in_ok-code.ensures))
