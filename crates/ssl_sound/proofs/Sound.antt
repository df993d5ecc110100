-- A description of instructions without a fault describes a sound machine, whose cells its names name.
use Rattle.std.proofs.Common.{◌≡◌, ℕ, ◌+◌, ◌<◌, ◌≤◌, true, List, [], ◌∷◌, map, length, None, refl, ap, arith}
use Rattle.std.proofs.lemmas.List.Elements.{All-get_or, All-weaker}
use Rattle.std.specs.Prelude.{All}
use Rattle.ssl_syntax.specs.declared.line.SslLine.{SslLine}
use Rattle.ssl_syntax.specs.Texts.{is_line}
use Rattle.rtl_core.specs.declared.encodings.Coded.{Coded}
use Rattle.rtl_core.specs.declared.encodings.Encodings.{Encodings}
use Rattle.rtl_core.specs.declared.machine.Machine.{Machine}
use Rattle.rtl_core.specs.declared.machine.WinShape.{WinShape}
use Rattle.rtl_core.specs.SoundEncodings.{IsSoundEncodings}
use Rattle.rtl_core.specs.SoundMachine.{AreSoundWindows, IsSoundMachine, AreSound, NamesItsCells}
use Rattle.rtl_core.specs.SoundTerms.{IsWidth}
use Rattle.ssl_rules.specs.Given.{Given, nothing_given, given_by}
use Rattle.ssl_rules.specs.Faults.{first_fault, missing_from, fault_of}
use Rattle.ssl_rules.specs.Machines.{forms_from, machine_of, named_machine}
use Rattle.ssl_sound.proofs.Measures.{none_parts}
use Rattle.ssl_sound.proofs.Frames.{frame_of}
use Rattle.ssl_sound.proofs.WindowCells.{AreFit}
use Rattle.ssl_sound.proofs.Machine.{IsWhole, whole, form-sound, counted}

same-count : (G : Given) (from : ℕ) (ks : List Coded) → length (forms_from G from ks) ≡ length ks
same-count G from [] = refl
same-count G from (k ∷ ks) = let rest : length (forms_from G (from + 1) ks) ≡ length ks = same-count G (from + 1) ks in omega arith

same-kinds : (G : Given) (from : ℕ) (ks : List Coded) → map (λ f. f.kinds) (forms_from G from ks) ≡ map (λ k. k.kinds) ks
same-kinds G from [] = refl
same-kinds G from (k ∷ ks) = ap (λ l. k.kinds ∷ l) (same-kinds G (from + 1) ks)

windows-sound : (m : Machine) (w : WinShape) → AreFit m.widths m.zero w → AreSoundWindows m w
windows-sound m w fit = record {
  some = fit.some;
  few = fit.few;
  out = fit.out;
  local = fit.local;
  in_ = fit.in_;
  out_local = fit.out_local;
  local_in = fit.local_in;
  out_in = fit.out_in;
}

machine-sound : (enc : Encodings) → IsSoundEncodings enc → (G : Given) → IsWhole enc G → missing_from G 0 enc.constructors ≡ None → IsSoundMachine (machine_of enc G)
machine-sound enc sound G w none =
    let s = w.so_far in
    let m : Machine = machine_of enc G in
    let count : length m.forms ≡ length enc.constructors = same-count G 0 enc.constructors in
    let few : length enc.constructors ≤ 4096 = sound.count in
    let few_files : length G.tables.files + length G.tables.functions ≤ 4096 = s.tables.few in
    record {
      delay = s.delay;
      count = s.tables.count;
      widths = record { each = λ c below. All-get_or IsWidth G.tables.widths c 0 below s.tables.widths };
      zeroed = s.zeroed;
      windows = λ shape e. windows-sound m shape (s.windows shape e);
      few_files = omega arith;
      files = s.tables.files;
      few_forms = omega arith;
      types = record {
        first = sound.types.first;
        type_of = sound.types.type_of;
        each = λ t cs is. let of = sound.types.each t cs is in (
          of.0,
          All-weaker (λ c. (c < length enc.constructors) × (sound.types.type_of c ≡ t)) (λ c. (c < length m.forms) × (sound.types.type_of c ≡ t))
              (λ c h. let below : c < length enc.constructors = h.0 in (omega arith, h.1)) cs of.1,
        );
        listed = λ c below. sound.types.listed c (omega arith);
      };
      most = sound.most;
      stands = (frame_of enc G).stands;
      forms = form-sound enc sound G w.right none;
      few = sound.few;
      nodes = counted enc sound G w.right none;
    }

pub machine-is-sound : (enc : Encodings) → IsSoundEncodings enc → (lines : List SslLine) → All (λ line. is_line line ≡ true) lines → fault_of enc lines ≡ None
    → AreSound enc (machine_of enc (given_by enc lines))
machine-is-sound enc sound lines formed none =
    let G : Given = given_by enc lines in
    let o = none_parts (first_fault enc nothing_given lines) (missing_from G 0 enc.constructors) none in
    record {
      encodings = sound;
      machine = machine-sound enc sound G (whole enc sound lines formed none) o.1;
      order = refl;
      types = refl;
      kinds = same-kinds G 0 enc.constructors;
    }

pub names-its-cells : (enc : Encodings) → IsSoundEncodings enc → (lines : List SslLine) → All (λ line. is_line line ≡ true) lines → fault_of enc lines ≡ None
    → NamesItsCells (named_machine enc (given_by enc lines))
names-its-cells enc sound lines formed none = (whole enc sound lines formed none).so_far.tables.cells
