-- What stands at an address, by what was found there.
use Rattle.std.proofs.Common.{◌≡◌, ℕ, ◌+◌, ◌^◌, ◌%◌, List, Option, Some, None, refl, sym, ap, ◌∙◌, subst}
use Rattle.std.specs.Prelude.{is_some, IsTrue, if◌then◌else◌}
use Rattle.rtl_core.specs.declared.conv.Conv.{Conv}
use Rattle.rtl_core.specs.declared.inst.GroundInst.{GroundInst}
use Rattle.rtl_core.specs.Code.{code_from}
use Rattle.rtl_core.specs.Grounding.{grounded}
use Rattle.rtl_core.specs.Matching.{Taken, instruction}
use Rattle.rtl_core.specs.SoundMachine.{AreSound}
use Rattle.sled_match.specs.declared.matched.MatchedInst.{MatchedInst}
use Rattle.decode.specs.At.{found, found_in, found_at}
use Rattle.decode.specs.declared.Found.{Found}
use Rattle.points.specs.Kinds.{is_named, behind_pad, second}
use Rattle.points.specs.declared.block.Standing.{Standing}
use Rattle.points.specs.declared.block.Standing.TheVariants.{Outside, Illegal}
use Rattle.points.specs.Machine.{Setting, standing, code_standing, match_standing, ground_standing}
use Rattle.points.proofs.MatchesGround.{matches_ground}
use Rattle.points.proofs.StepLaws.{HasShape, grounded-shape}

-- what was found there with all put in
abbrev pub ground_found : Setting → ℕ → MatchedInst → Option GroundInst
ground_found setting pc f = grounded setting.machine f.inst pc ((pc + f.len) % 2 ^ 32)

abbrev pub stands_by : Setting → ℕ → Found → Standing
stands_by setting pc Found.Outside = Outside
stands_by setting pc Found.Illegal = Illegal
stands_by setting pc (Found.Inst f) = ground_standing (ground_found setting pc f)

stands-match : (setting : Setting) (pc : ℕ) (o : Option Taken) → match_standing setting.machine pc o ≡ stands_by setting pc (found o)
stands-match setting pc None = refl
stands-match setting pc (Some t) = refl

stands-code : (setting : Setting) (pc : ℕ) (o : Option (List ℕ)) → code_standing setting pc o ≡ stands_by setting pc (found_in setting.encodings o)
stands-code setting pc None = refl
stands-code setting pc (Some bytes) = stands-match setting pc (instruction setting.encodings bytes)

pub stands-found : (setting : Setting) (pc : ℕ) (f : Found) → f ≡ found_at setting.encodings setting.frozen pc → standing setting pc ≡ stands_by setting pc f
stands-found setting pc f e = stands-code setting pc (code_from setting.frozen pc) ∙ ap (stands_by setting pc) (sym e)

-- ---- it has all put in

abbrev Grounds : Setting → ℕ → Found → Type 0
Grounds setting pc Found.Outside = Unit {0}
Grounds setting pc Found.Illegal = Unit {0}
Grounds setting pc (Found.Inst f) = IsTrue (is_some (ground_found setting pc f))

grounds-match : (setting : Setting) (pc : ℕ) (bytes : List ℕ) (o : Option Taken) → AreSound setting.encodings setting.machine → instruction setting.encodings bytes ≡ o → Grounds setting pc (found o)
grounds-match setting pc bytes None sound e = tt
grounds-match setting pc bytes (Some t) sound e = matches_ground setting.encodings setting.machine bytes t pc ((pc + t.len) % 2 ^ 32) sound e

grounds-code : (setting : Setting) (pc : ℕ) (o : Option (List ℕ)) → AreSound setting.encodings setting.machine → Grounds setting pc (found_in setting.encodings o)
grounds-code setting pc None sound = tt
grounds-code setting pc (Some bytes) sound = grounds-match setting pc bytes (instruction setting.encodings bytes) sound refl

pub found-grounds : (setting : Setting) (pc : ℕ) (f : MatchedInst) → AreSound setting.encodings setting.machine → Found.Inst f ≡ found_at setting.encodings setting.frozen pc
    → IsTrue (is_some (ground_found setting pc f))
found-grounds setting pc f sound e = subst (Grounds setting pc) (sym e) (grounds-code setting pc (code_from setting.frozen pc) sound)

-- ---- the address behind a pad

pad-ground : (conv : Conv) (c next : ℕ) (o : Option GroundInst) → IsTrue (is_some o) → HasShape c next o
    → behind_pad conv (ground_standing o) ≡ (if is_named conv.pads c then Some next else None)
pad-ground conv c next (Some g) some shape = ap (λ d. if is_named conv.pads d then Some g.next else None) shape.0 ∙ ap (λ n. if is_named conv.pads c then Some n else None) shape.1
pad-ground conv c next None some shape = absurd (Prim.cc (sym some))

pub second-outside : (setting : Setting) (r : ℕ) → Found.Outside ≡ found_at setting.encodings setting.frozen r → None ≡ second setting r
unfolding second
second-outside setting r e = sym (ap (behind_pad setting.conv) (stands-found setting r Found.Outside e))

pub second-illegal : (setting : Setting) (r : ℕ) → Found.Illegal ≡ found_at setting.encodings setting.frozen r → None ≡ second setting r
unfolding second
second-illegal setting r e = sym (ap (behind_pad setting.conv) (stands-found setting r Found.Illegal e))

pub second-found : (setting : Setting) (r : ℕ) (f : MatchedInst) → AreSound setting.encodings setting.machine → Found.Inst f ≡ found_at setting.encodings setting.frozen r
    → (if is_named setting.conv.pads f.inst.constructor then Some ((r + f.len) % 2 ^ 32) else None) ≡ second setting r
unfolding second
second-found setting r f sound e =
    let next = (r + f.len) % 2 ^ 32 in
    sym (ap (behind_pad setting.conv) (stands-found setting r (Found.Inst f) e)
    ∙ pad-ground setting.conv f.inst.constructor next (ground_found setting r f) (found-grounds setting r f sound e) (grounded-shape setting.machine f.inst r next))
