use Rattle.std.proofs.Common.{◌≡◌, ◌<◌, ◌≤◌, ℕ, Bool, false, List, length, replicate, get_or, sym, ◌∙◌, arith}
use Rattle.std.proofs.lemmas.List.{ext_get_or, get_or-replicate, length-replicate}
use Rattle.jumptables.proofs.partial_run.PartialRun.clear.Goals as goal

all-unset : (xs : List Bool) (n k : ℕ) → length xs ≡ n → n ≤ k → ((j : ℕ) → j < k → get_or xs j false ≡ false) → xs ≡ replicate n false
all-unset xs n k e le h = ext_get_or false xs (replicate n false) (e ∙ sym (length-replicate n false)) (λ i lt. h i (omega arith) ∙ sym (get_or-replicate n i false false (omega arith)))

pub returns-clause-known : goal.returns-clause-known
returns-clause-known c = all-unset c.loop-k.self.known (length c.args.self.now.known) c.loop-k.k c.loop-k.invariant.flags (omega arith) c.loop-k.invariant.unset
