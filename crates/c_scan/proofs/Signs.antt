-- Which bytes are signs.
use Rattle.std.proofs.Common.{◌≡◌, Bool, true, false, ◌&&◌, refl}

pub and_none : (b : Bool) → (b && false) ≡ false
and_none true = refl
and_none false = refl

pub ruleset sign_laws = (and_none)
