-- Summaries are closed under what procedures enter.
use Rattle.std.proofs.Common.{◌≡◌, ℕ}
use Rattle.std.specs.Prelude.{Some}
use Rattle.points.specs.Bodies.{Procedure, called}
use Rattle.points.specs.Summaries.{Summarized, IsCallee, given, any, Reaches, itself, through, HasRef, named, whole, HasMod, assigned}
use Rattle.params.specs.SummaryLaws.{summaries_are_lawful, summaries_hold_cells}
use Rattle.params.proofs.NamedCells.{assigned-is-named, named-are-cells}

module _ (n : Summarized) where
  -- reaching goes on from the front too
  pub from-callee : (p t q : ℕ) → IsCallee n p t → Reaches n t q → Reaches n p q
  from-callee p t q c itself = through itself c
  from-callee p t q c (through {q = x} r d) = through (from-callee p t x c r) d

  refs-of : (p t c : ℕ) → IsCallee n p t → HasRef n t c → HasRef n p c
  refs-of p t c k (named {q = q} r b m z) = named (from-callee p t q k r) b m z
  refs-of p t c k (whole {q = q} r m lt z) = whole (from-callee p t q k r) m lt z

  mods-of : (p t c : ℕ) → IsCallee n p t → HasMod n t c → HasMod n p c
  mods-of p t c k (assigned {q = q} r b m z) = assigned (from-callee p t q k r) b m z

  pub mods-in : (p c : ℕ) → HasMod n p c → HasRef n p c
  mods-in p c (assigned {b = b} r body m z) = named r body (assigned-is-named n.machine n.conv (n.code.block_at b.pc) c m) z

  zero-ref : (p c : ℕ) → HasRef n p c → n.machine.zero ≡ Some c → ⊥
  zero-ref p c (named r b m z) = z
  zero-ref p c (whole r m lt z) = z

  zero-mod : (p c : ℕ) → HasMod n p c → n.machine.zero ≡ Some c → ⊥
  zero-mod p c (assigned r b m z) = z

  -- all that is reached from a procedure is a procedure
  pub reached-procedure : (p q : ℕ) → Procedure n.code n.roots p → Reaches n p q → Procedure n.code n.roots q
  reached-procedure p q h itself = h
  reached-procedure p q h (through {q = x} r (given b e)) = called (reached-procedure p x h r) b e
  reached-procedure p q h (through r (any b e t)) = t

pub lawful : summaries_are_lawful
lawful n = record {
  refs_of_callee = refs-of n;
  mods_of_callee = mods-of n;
  mods_in_refs = mods-in n;
  named_at = λ p c b h m z. named itself h m z;
  assigned_at = λ p c b h m z. assigned itself h m z;
  not_zero_ref = zero-ref n;
  not_zero_mod = zero-mod n;
}

pub hold-cells : summaries_hold_cells
hold-cells setting table roots p c sound lie (named {b = b} r body m z) = named-are-cells setting b.pc c sound lie m
hold-cells setting table roots p c sound lie (whole r m lt z) = lt
