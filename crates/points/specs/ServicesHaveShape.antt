-- On a sound triple an instruction calls the service only where the conventions have one.
use Rattle.std.specs.Prelude.{◌≡◌, ℕ, true, IsTrue, List, Some, is_some}
use Rattle.std.specs.List.{list_any}
use Rattle.rtl_core.specs.declared.conv.Conv.{Conv}
use Rattle.rtl_core.specs.declared.encodings.Encodings.{Encodings}
use Rattle.rtl_core.specs.declared.inst.GroundInst.{GroundInst}
use Rattle.rtl_core.specs.declared.inst.Inst.{Inst}
use Rattle.rtl_core.specs.declared.machine.Machine.{Machine}
use Rattle.rtl_core.specs.Contents.{Contents}
use Rattle.rtl_core.specs.Grounding.{grounded}
use Rattle.rtl_core.specs.SoundConv.{AreSoundTogether}
use Rattle.rtl_core.specs.SoundTerms.{is_service}
use Rattle.rtl_core.specs.Transfers.{Doing, Went, all_transferred, fresh}

-- the conventions of a sound triple have a service where an instruction of the machine has a transfer that calls it
abbrev pub CallsHaveShape : Type 0
CallsHaveShape =
    (enc : Encodings) (m : Machine) (conv : Conv) (inst : Inst) (pc next : ℕ) (g : GroundInst) → AreSoundTogether enc m conv → grounded m inst pc next ≡ Some g
    → IsTrue (list_any (λ t. is_service t.act) g.transfers) → IsTrue (is_some conv.service)

-- so they have one where a service is due behind the transfers of an instruction, whatever the machine held before them
abbrev pub DueHaveShape : Type 0
DueHaveShape =
    (enc : Encodings) (m : Machine) (conv : Conv) (inst : Inst) (pc next : ℕ) (g : GroundInst) → AreSoundTogether enc m conv → grounded m inst pc next ≡ Some g
    → (at : ℕ) (cells : List ℕ) (memory : Contents) (saved : List (List ℕ)) (d : Doing) → all_transferred m at g.transfers (fresh cells memory saved) ≡ Went d
    → d.service ≡ true → IsTrue (is_some conv.service)
