-- What is built of files, and what is done with them.
use Rattle.std.proofs.Common.{◌≡◌, ℕ, Bool, ◌+◌, ◌<◌, List, [], ◌∷◌, ◌++◌, length, map, take, get_or, refl, sym, ap, ◌∙◌, subst, arith}
use Rattle.std.specs.Prelude.{IfOk, IfErr, Result, Ok, Err}
use Rattle.rtl_core.specs.declared.encodings.Encodings.{Encodings}
use Rattle.points.specs.Machine.{Setting}
use Rattle.load_image.specs.declared.image.Image.{Image}
use Rattle.descriptions.specs.declared.described.Described.{Described}
use Rattle.edge_io.specs.Output.{Output}
use Rattle.elf32.specs.declared.elf.Segment.{Segment}
use Rattle.load_image.specs.Mapped.{segment_part}
use Rattle.line_reading.proofs.TextLaws.{take_next}
use Rattle.c_lang.specs.declared.tree.CSeg.{CSeg}
use Rattle.stepper.specs.LineEnds.{ends_within}
use Rattle.c_control.specs.Programs.{segment_of}
use Rattle.c_lang.specs.declared.tree.Program.{Program}
use Rattle.program_graph.specs.Described.{IsOver, most_points}
use Rattle.rtl_core.specs.FirstMemory.{Part}
use Rattle.translation.specs.Translations.{IsTranslation, parts_of as segment_parts}
use Rattle.uqbt_top.specs.declared.outcome.Outcome.{Outcome}
use Rattle.uqbt_top.specs.declared.outcome.Outcome.TheVariants.{Done, Ran, Agreed, Differs, Spent, Usage, Description, Executable, InputTooLong, FileTooLong, NoMemory, WriteFault, ReadFault}
use Rattle.uqbt_top.specs.declared.outcome.ExeFault.{ExeFault}
use Rattle.uqbt_top.specs.declared.outcome.ExeFault.TheVariants.{Elf as InElf, AreaOverlap, TooLarge}
use Rattle.uqbt_top.specs.Built.{AreOf, AreRefused, BodiesAreOver, Descriptions, Extent, IsExeFault, IsFileFault, IsImageOf, IsLong, IsRefused, IsRefusedExe, of_check, parts_of, setting_with, with_exe}
use Rattle.uqbt_top.specs.Checking.{CheckRead}
use Rattle.uqbt_top.specs.Translating.{TranslateRead}

-- ---- segments

maps-push : (ls : List Segment) (s : Segment) → map segment_of (map segment_part (ls ++ s ∷ [])) ≡ map segment_of (map segment_part ls) ++ segment_of (segment_part s) ∷ []
maps-push [] s = refl
maps-push (l ∷ ls) s = ap (λ cs. segment_of (segment_part l) ∷ cs) (maps-push ls s)

-- one segment more
pub segment_more : (ls : List Segment) (i : ℕ) (s : Segment) (out new : List CSeg) → i < length ls → s ≡ get_or ls i s → out ≡ map segment_of (map segment_part (take i ls))
    → new ≡ out ++ segment_of (segment_part s) ∷ [] → new ≡ map segment_of (map segment_part (take (i + 1) ls))
segment_more ls i s out new h at o n =
    n ∙ ap (λ cs. cs ++ segment_of (segment_part s) ∷ []) o
    ∙ sym (ap (λ l. map segment_of (map segment_part l)) (take_next ls i s h ∙ ap (λ z. take i ls ++ z ∷ []) (sym at)) ∙ maps-push (take i ls) s)

-- ---- checks

-- three texts are these
pub three_texts : (texts : List (List ℕ)) (a b c d e f : List ℕ) → length texts ≡ 3 → a ≡ get_or texts 0 d → b ≡ get_or texts 1 e → c ≡ get_or texts 2 f → texts ≡ a ∷ b ∷ c ∷ []
three_texts [] a b c d e f n x y z = absurd (omega (arith, n))
three_texts (p ∷ []) a b c d e f n x y z = absurd (omega (arith, n))
three_texts (p ∷ q ∷ []) a b c d e f n x y z = absurd (omega (arith, n))
three_texts (p ∷ q ∷ r ∷ []) a b c d e f n x y z = rw (x, y, z) refl
three_texts (p ∷ q ∷ r ∷ s ∷ ts) a b c d e f n x y z = absurd (omega (arith, n))

-- four texts are these
pub four_texts : (texts : List (List ℕ)) (a b c v d e f g : List ℕ) → length texts ≡ 4 → a ≡ get_or texts 0 d → b ≡ get_or texts 1 e → c ≡ get_or texts 2 f → v ≡ get_or texts 3 g → texts ≡ a ∷ b ∷ c ∷ v ∷ []
four_texts [] a b c v d e f g n x y z w = absurd (omega (arith, n))
four_texts (p ∷ []) a b c v d e f g n x y z w = absurd (omega (arith, n))
four_texts (p ∷ q ∷ []) a b c v d e f g n x y z w = absurd (omega (arith, n))
four_texts (p ∷ q ∷ r ∷ []) a b c v d e f g n x y z w = absurd (omega (arith, n))
four_texts (p ∷ q ∷ r ∷ s ∷ []) a b c v d e f g n x y z w = rw (x, y, z, w) refl
four_texts (p ∷ q ∷ r ∷ s ∷ u ∷ ts) a b c v d e f g n x y z w = absurd (omega (arith, n))

-- descriptions that are refused
pub check_refused : (texts : List (List ℕ)) (t : Descriptions) (o : Outcome) → texts ≡ of_check t → AreRefused t o → (out : Output) → CheckRead texts out out o
check_refused texts t (Description file fault) is r out = record { texts = t; whole = is; did = r; kept = refl }
check_refused texts t NoMemory is r out = record { texts = t; whole = is; did = tt; kept = refl }
check_refused texts t o is r out = absurd r

-- a fault that the file shows is the first fault, whatever the limit
pub file-fault : (over : Extent) (d : Described) (exe : List ℕ) (fault : ExeFault) → IsFileFault d exe fault → IsExeFault over d exe fault
file-fault over d exe (InElf fault) h = h
file-fault over d exe (AreaOverlap index) h = h
file-fault over d exe (TooLarge points) h = absurd h

-- ---- translations

-- an executable whose file has a fault is refused
pub file-refused : (t : Descriptions) (exe : List ℕ) (d : Described) (o : Outcome) → AreOf t d → IsRefusedExe (IsFileFault d exe) o → IsRefused t exe o
file-refused t exe d (Executable fault) of r = record { described = d; of = of; first = file-fault BodiesAreOver d exe fault r }
file-refused t exe d NoMemory of r = tt
file-refused t exe d Done of r = absurd r
file-refused t exe d (Ran stop) of r = absurd r
file-refused t exe d (Agreed stop) of r = absurd r
file-refused t exe d (Differs at) of r = absurd r
file-refused t exe d Spent of r = absurd r
file-refused t exe d Usage of r = absurd r
file-refused t exe d (Description file fault) of r = absurd r
file-refused t exe d InputTooLong of r = absurd r
file-refused t exe d (FileTooLong file) of r = absurd r
file-refused t exe d WriteFault of r = absurd r
file-refused t exe d ReadFault of r = absurd r

-- files of which nothing is translated
pub translate_refused : (texts : List (List ℕ)) (t : Descriptions) (exe : List ℕ) (o : Outcome) (out : Output) → texts ≡ with_exe t exe → IsRefused t exe o → TranslateRead texts out out o
translate_refused texts t exe (Description file fault) out is r = record { texts = t; exe = exe; whole = is; did = r }
translate_refused texts t exe (Executable fault) out is r = record { texts = t; exe = exe; whole = is; did = r }
translate_refused texts t exe NoMemory out is r = record { texts = t; exe = exe; whole = is; did = tt }
translate_refused texts t exe o out is r = absurd r

-- a machine with an image, by encodings that are its own
abbrev pub setting_by : Encodings → Described → Image → Setting
setting_by e d i = record { encodings = e; machine = d.named.machine; conv = d.conv; frozen = i.frozen }

-- segments are those of their parts, and back
pub same-parts : (ps : List Part) → segment_parts (map segment_of ps) ≡ ps
same-parts [] = refl
same-parts (p ∷ ps) = let e = same-parts ps in λ i. p ∷ e i

module _ (d : Described) (i : Image) (e : Encodings) (same : e ≡ d.encodings) where
  -- what is a translation of the machine that was built is one of the described machine
  pub is-translated : (segments : List CSeg) (p : Program) → segments ≡ map segment_of (parts_of i) → IsTranslation (setting_by e d i) i.entry i.symbols (segment_parts segments) p
      → IsTranslation (setting_with d i) i.entry i.symbols (parts_of i) p
  is-translated segments p are h =
      subst (λ x. IsTranslation (setting_by x d i) i.entry i.symbols (parts_of i) p) same
      (subst (λ ps. IsTranslation (setting_by e d i) i.entry i.symbols ps p) (ap segment_parts are ∙ same-parts (parts_of i)) h)

  -- and so is what is too large
  pub is-over : IsOver (setting_by e d i) i.entry i.symbols → BodiesAreOver d i
  is-over h = subst (λ x. IsOver (setting_by x d i) i.entry i.symbols) same h

  pub not-over : (IsOver (setting_by e d i) i.entry i.symbols → ⊥) → BodiesAreOver d i → ⊥
  not-over few h = few (subst (λ x. IsOver (setting_by x d i) i.entry i.symbols) (sym same) h)

-- whether its line ends, by what was built of it
pub line_told : (d : Described) (i : Image) (e : Encodings) (told v : Bool) → e ≡ d.encodings → told ≡ ends_within (setting_by e d i) most_points i.entry → told ≡ v
    → ends_within (setting_with d i) most_points i.entry ≡ v
line_told d i e told v same ends is = ap (λ x. ends_within (setting_by x d i) most_points i.entry) (sym same) ∙ sym ends ∙ is

-- why an image has no program is why its executable is refused
pub is_refused : (t : Descriptions) (exe : List ℕ) (d : Described) (i : Image) (o : Outcome) → AreOf t d → IsImageOf d exe i → IsLong d i o → IsRefused t exe o
is_refused t exe d i (Executable (TooLarge points)) of loaded long =
    record { described = d; of = of; first = record { number = long.0; image = i; loaded = loaded; so = long.1 } }
is_refused t exe d i NoMemory of loaded long = tt
is_refused t exe d i o of loaded long = absurd long

-- from two facts of a value to another
pub if_ok : {T E : Type 0} (r : Result T E) (P Q R : T → Type 0) → ((x : T) → P x → Q x → R x) → IfOk r P → IfOk r Q → IfOk r R
if_ok (Ok x) P Q R both p q = both x p q
if_ok (Err e) P Q R both p q = tt

-- from one fact of an error to another
pub if_err : {T E : Type 0} (r : Result T E) (P Q : E → Type 0) → ((e : E) → P e → Q e) → IfErr r P → IfErr r Q
if_err (Ok x) P Q more holds = tt
if_err (Err e) P Q more holds = more e holds
