-- An answer that is exact is sound, and its names name its cells.
use Rattle.std.proofs.Common.{◌≡◌, true, List, Option, Some, None, refl, subst}
use Rattle.std.specs.Prelude.{All, Result, Ok, Err, IfOk}
use Rattle.ssl_syntax.specs.declared.line.SslLine.{SslLine}
use Rattle.ssl_syntax.specs.Texts.{is_line}
use Rattle.rtl_core.specs.declared.encodings.Encodings.{Encodings}
use Rattle.rtl_core.specs.declared.machine.NamedMachine.{NamedMachine}
use Rattle.rtl_core.specs.SoundEncodings.{IsSoundEncodings}
use Rattle.rtl_core.specs.SoundMachine.{AreSound, NamesItsCells}
use Rattle.ssl_rules.specs.declared.fault.SslFault.{SslFault}
use Rattle.ssl_rules.specs.Given.{given_by}
use Rattle.ssl_rules.specs.Faults.{fault_of}
use Rattle.ssl_rules.specs.Machines.{named_machine, normal}
use Rattle.ssl_sound.proofs.Sound.{machine-is-sound, names-its-cells}

-- a normal form comes from lines without a fault
record IsGivenBy (enc : Encodings) (lines : List SslLine) (named : NamedMachine) : Type 0 where
  none : fault_of enc lines ≡ None
  same : named_machine enc (given_by enc lines) ≡ named

given_normal : (enc : Encodings) (lines : List SslLine) (named : NamedMachine) → normal enc lines ≡ Ok named → IsGivenBy enc lines named
given_normal enc lines named h = by (fault_of enc lines) refl
  where
    by : (o : Option SslFault) → fault_of enc lines ≡ o → IsGivenBy enc lines named
    by None e = let same : Ok (named_machine enc (given_by enc lines)) ≡ Ok named = rw e at h in record { none = e; same = cc }
    by (Some fault) e = let same : Err fault ≡ Ok named = rw e at h in cc

pub sound_machine : (enc : Encodings) (lines : List SslLine) (r : Result NamedMachine SslFault) → IsSoundEncodings enc → All (λ line. is_line line ≡ true) lines
    → IfOk r (λ named. normal enc lines ≡ Ok named) → IfOk r (λ named. AreSound enc named.machine)
sound_machine enc lines (Ok named) sound values h =
    let g = given_normal enc lines named h in
    subst (λ n. AreSound enc n.machine) g.same (machine-is-sound enc sound lines values g.none)
sound_machine enc lines (Err fault) sound values h = tt

pub named_cells : (enc : Encodings) (lines : List SslLine) (r : Result NamedMachine SslFault) → IsSoundEncodings enc → All (λ line. is_line line ≡ true) lines
    → IfOk r (λ named. normal enc lines ≡ Ok named) → IfOk r NamesItsCells
named_cells enc lines (Ok named) sound values h =
    let g = given_normal enc lines named h in
    subst NamesItsCells g.same (names-its-cells enc sound lines values g.none)
named_cells enc lines (Err fault) sound values h = tt
