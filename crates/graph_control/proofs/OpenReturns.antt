-- A return by the call list is one behind its last open call.
use Rattle.std.proofs.Common.{◌≡◌, ℕ, List, [], ◌∷◌, Some, None, Err, refl, sym, ap, subst}
use Rattle.std.specs.List.{All}
use Rattle.std.proofs.lemmas.List.Elements.{All-head, All-tail}
use Rattle.rtl_core.specs.declared.stop.Stop.{Stop}
use Rattle.points.specs.declared.block.Member.{Member}
use Rattle.points.specs.declared.block.Member.TheVariants.{Call, Tail}
use Rattle.points.specs.Bodies.{Code}
use Rattle.points.specs.Control.{Control, returned}
use Rattle.points.specs.Machine.{Setting}
use Rattle.graph_control.specs.OpenCalls.{OpenCall, open_call}
use Rattle.graph_control.specs.Programs.{ComesBack, IsOpen}

pub returned-none : (setting : Setting) (calls : List Member) (c : Control) → open_call calls ≡ None → Err (Stop.ReturnMismatch c.target) ≡ returned setting calls c
returned-none setting [] c e = refl
returned-none setting (Tail ∷ calls) c e = returned-none setting calls c e
returned-none setting (Call back ∷ calls) c e = let no : ⊥ = cc in absurd no

pub returned-some : (setting : Setting) (calls rest : List Member) (back : ℕ) (c : Control) → open_call calls ≡ Some (record { back = back; rest = rest }) → returned setting (Call back ∷ rest) c ≡ returned setting calls c
returned-some setting [] rest back c e = let no : ⊥ = cc in absurd no
returned-some setting (Tail ∷ calls) rest back c e = returned-some setting calls rest back c e
returned-some setting (Call r ∷ calls) rest back c e =
    let same : record { back = r; rest = calls } ≡ record { back = back; rest = rest } = open_is _ _ e in
    ap (λ (o : OpenCall). returned setting (Call o.back ∷ o.rest) c) (sym same)
  where
    open_is : (a b : OpenCall) → Some a ≡ Some b → a ≡ b
    open_is a b e = cc

-- it is one that can be made
pub open-back : (code : Code) (roots : List ℕ) (calls rest : List Member) (back : ℕ) → open_call calls ≡ Some (record { back = back; rest = rest }) → All (IsOpen code roots) calls → ComesBack code roots back
open-back code roots [] rest back e all = let no : ⊥ = cc in absurd no
open-back code roots (Tail ∷ calls) rest back e all = open-back code roots calls rest back e (All-tail (IsOpen code roots) Tail calls all)
open-back code roots (Call r ∷ calls) rest back e all =
    let same : r ≡ back = back_is _ _ e in
    subst (ComesBack code roots) same (All-head (IsOpen code roots) (Call r) calls all)
  where
    back_is : (a b : OpenCall) → Some a ≡ Some b → a.back ≡ b.back
    back_is a b e = let same : a ≡ b = cc in ap (λ o. o.back) same
