use Rattle.std.proofs.Common.{refl, sym, ap}
use Rattle.std.proofs.lemmas.List.{append-nil}
use Rattle.sample_gen.specs.Instructions.{instruction}
use Rattle.sample_gen.specs.Numbers.{number_at, state_after}
use Rattle.sample_gen.specs.Program.{instructions}
use Rattle.sample_gen.proofs.Sequence.{grown, number_more, state_more}
use Rattle.sample_gen.proofs.instructions.put_instructions.Goals as goal

pub loop-k-init : goal.loop-k-init
unfolding instructions state_after
loop-k-init c = (sym (append-nil c.args.code.now.items), refl)

pub loop-k-preserved : goal.loop-k-preserved
unfolding instructions
loop-k-preserved c = (
  grown (λ k. instruction c.args.kind (number_at c.args.numbers.now.state k)) c.loop-k._k _ _ _ _ c.loop-k.invariant.0
      c.in_ok-put_instruction.ensures
      (ap (instruction c.args.kind) (number_more _ _ _ _ _ c.loop-k.invariant.1 c.next_number.ensures.state c.next_number.ensures.number)),
  state_more _ _ _ _ c.loop-k.invariant.1 c.next_number.ensures.state,
)
