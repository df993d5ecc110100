-- Checks that all hold.
use Rattle.std.proofs.Common.{◌≡◌, Bool, true, false, cond, List, [], ◌∷◌, Option, None, Some, refl}
use Rattle.std.specs.Option.{option_or}
use Rattle.sled_rules.specs.declared.fault.SledFault.{SledFault}
use Rattle.sled_rules.specs.Faults.{first_broken}

-- a choice that gives nothing was not taken
pub untaken : (broken : Bool) (fault : SledFault) (others : Option SledFault) → cond broken (Some fault) others ≡ None → (broken ≡ false) × (others ≡ None)
untaken true fault others h = cc
untaken false fault others h = (refl, h)

-- each of some checks holds
abbrev pub AllHold : List (Bool × SledFault) → Type 0
AllHold [] = Unit {0}
AllHold (c ∷ cs) = (c.0 ≡ false) × AllHold cs

pub all_hold : (cs : List (Bool × SledFault)) → first_broken cs ≡ None → AllHold cs
all_hold [] h = tt
all_hold (c ∷ cs) h = let both = untaken c.0 c.1 (first_broken cs) h in (both.0, all_hold cs both.1)

-- neither of two gives a fault
pub none_of : (first second : Option SledFault) → option_or first second ≡ None → (first ≡ None) × (second ≡ None)
none_of None second h = (refl, h)
none_of (Some fault) second h = cc
