-- Sound tables: widths in range, files and names that are right, and the limits.
use Rattle.std.proofs.Common.{◌≡◌, ℕ, zero, suc, ◌+◌, ◌-◌, ◌<◌, ◌≤◌, List, [], ◌∷◌, ◌++◌, length, get_or, replicate, Option, Some, None, refl, sym, ap, ◌∙◌, subst, arith, length-append}
use Rattle.std.proofs.lemmas.List.{get_or_append_left, get_or-append-add, get_or-replicate, length-replicate}
use Rattle.std.proofs.lemmas.List.Elements.{All-nil, All-cons, All-head, All-push, All-append, All-weaker, All-replicate}
use Rattle.std.proofs.lemmas.Map.Entries.{All-lookup}
use Rattle.std.proofs.lemmas.Option.{none-some, same_Some}
use Rattle.std.specs.Prelude.{slice_get, option_map, option_and_then, All, IfSome, nat_eq}
use Rattle.std.specs.Cmp.Lexicographic.{pointwise}
use Rattle.ssl_syntax.specs.declared.line.CellName.{CellName}
use Rattle.rtl_core.specs.declared.machine.CellPart.{CellPart}
use Rattle.rtl_core.specs.declared.names.CellGroup.{CellGroup}
use Rattle.rtl_core.specs.CellNames.{cells_in}
use Rattle.rtl_core.specs.SoundTemplates.{IsPart, IsFile, part_width, file_width}
use Rattle.rtl_core.specs.SoundTerms.{IsWidth}
use Rattle.rtl_core.proofs.GroundPlaces.{All-slice_get}
use Rattle.ssl_rules.specs.declared.tables.Meaning.{Meaning}
use Rattle.ssl_rules.specs.declared.tables.Meaning.TheVariants as meaning
use Rattle.ssl_rules.specs.declared.tables.Function.{Function}
use Rattle.ssl_rules.specs.declared.tables.Tables.{Tables}
use Rattle.ssl_rules.specs.Lookup.{named}
use Rattle.ssl_rules.specs.Names.{cell_at, cell_number}
use Rattle.ssl_rules.specs.TableGrowth.{no_tables, whole_cells, with_cell, with_cells, with_view, with_function}

-- a cell that a name stands for is there
abbrev pub IsThere : ℕ → Meaning → Type 0
IsThere n (meaning.Cell c) = c < n
IsThere n _ = Unit {0}

abbrev pub IsGroup : ℕ → CellGroup → Type 0
IsGroup n group = (i : ℕ) → i < cells_in group → group.first + i < n

pub record AreSoundTables (t : Tables) : Type 0 where
  pub names : All (λ e. IsThere (length t.widths) e.1) t.names
  pub cells : All (λ e. IsGroup (length t.widths) e.1) t.cells
  pub widths : All IsWidth t.widths
  pub count : length t.widths ≤ 120
  pub files : All (IsFile t.widths) t.files
  pub few : length t.files + length t.functions ≤ 4096

pub no_tables-sound : AreSoundTables no_tables
no_tables-sound = record {
  names = All-nil (λ e. IsThere 0 e.1);
  cells = All-nil (λ e. IsGroup 0 e.1);
  widths = All-nil IsWidth;
  count = omega arith;
  files = All-nil (IsFile []);
  few = omega arith;
}

-- ---- more cells

there-more : (n k : ℕ) → n ≤ k → (m : Meaning) → IsThere n m → IsThere k m
there-more n k h (meaning.Cell c) below = omega arith
there-more n k h (meaning.Cells f) below = tt
there-more n k h (meaning.View f) below = tt
there-more n k h (meaning.Function f) below = tt

pub names-more : (n k : ℕ) → n ≤ k → (names : List (List ℕ × Meaning)) → All (λ e. IsThere n e.1) names → All (λ e. IsThere k e.1) names
names-more n k h names all = All-weaker (λ e. IsThere n e.1) (λ e. IsThere k e.1) (λ e p. there-more n k h e.1 p) names all

group-more : (n k : ℕ) → n ≤ k → (group : CellGroup) → IsGroup n group → IsGroup k group
group-more n k h group all = λ i below. let there : group.first + i < n = all i below in omega arith

groups-more : (n k : ℕ) → n ≤ k → (cells : List (List ℕ × CellGroup)) → All (λ e. IsGroup n e.1) cells → All (λ e. IsGroup k e.1) cells
groups-more n k h cells all = All-weaker (λ e. IsGroup n e.1) (λ e. IsGroup k e.1) (λ e p. group-more n k h e.1 p) cells all

part-more : (widths more : List ℕ) (p : CellPart) → IsPart widths p → IsPart (widths ++ more) p
part-more widths more p part =
    let count : length (widths ++ more) ≡ length widths + length more = length-append widths more in
    let there : p.cell < length widths = part.0 in
    let same : get_or (widths ++ more) p.cell 0 ≡ get_or widths p.cell 0 = get_or_append_left widths more 0 p.cell there in
    (omega arith, part.1, subst (λ w. p.hi < w) (sym same) part.2)

file-more : (widths more : List ℕ) (parts : List CellPart) → IsFile widths parts → IsFile (widths ++ more) parts
file-more widths more parts all =
    All-weaker (λ p. IsPart widths p × (part_width p ≡ file_width (Some parts))) (λ p. IsPart (widths ++ more) p × (part_width p ≡ file_width (Some parts)))
    (λ p h. (part-more widths more p h.0, h.1)) parts all

pub files-more : (widths more : List ℕ) (files : List (List CellPart)) → All (IsFile widths) files → All (IsFile (widths ++ more)) files
files-more widths more files all = All-weaker (IsFile widths) (IsFile (widths ++ more)) (λ parts h. file-more widths more parts h) files all

-- parts of one width are a file
pub file-of : (widths : List ℕ) (w : ℕ) (parts : List CellPart) → All (λ p. IsPart widths p × (part_width p ≡ w)) parts → IsFile widths parts
file-of widths w [] all = All-nil (λ p. IsPart widths p × (part_width p ≡ 0))
file-of widths w (p ∷ ps) all =
    let first = All-head (λ p. IsPart widths p × (part_width p ≡ w)) p ps all in
    All-weaker (λ p. IsPart widths p × (part_width p ≡ w)) (λ q. IsPart widths q × (part_width q ≡ part_width p)) (λ q h. (h.0, h.1 ∙ sym first.1)) (p ∷ ps) all

-- ---- cell NAME W

pub cell-sound : (t : Tables) (name : List ℕ) (w : ℕ) → AreSoundTables t → IsWidth w → length t.widths + 1 ≤ 120 → AreSoundTables (with_cell t name w)
cell-sound t name w s width room =
    let count : length (t.widths ++ w ∷ []) ≡ length t.widths + 1 = length-append t.widths (w ∷ []) in
    let more : length t.widths ≤ length (t.widths ++ w ∷ []) = omega arith in
    let last : length t.widths < length (t.widths ++ w ∷ []) = omega arith in
    record {
      names = All-push (λ e. IsThere (length (t.widths ++ w ∷ [])) e.1) t.names (name, meaning.Cell (length t.widths))
          (names-more (length t.widths) (length (t.widths ++ w ∷ [])) more t.names s.names) last;
      cells = All-push (λ e. IsGroup (length (t.widths ++ w ∷ [])) e.1) t.cells (name, record { first = length t.widths; count = None })
          (groups-more (length t.widths) (length (t.widths ++ w ∷ [])) more t.cells s.cells) (λ i below. omega arith);
      widths = All-push IsWidth t.widths w s.widths width;
      count = omega arith;
      files = files-more t.widths (w ∷ []) t.files s.files;
      few = s.few;
    }

-- ---- cells NAME [ N ] W

whole-parts : (widths : List ℕ) (w : ℕ) → 1 ≤ w → (n first : ℕ) → ((i : ℕ) → i < n → (first + i < length widths) × (get_or widths (first + i) 0 ≡ w))
    → All (λ p. IsPart widths p × (part_width p ≡ w)) (whole_cells first w n)
whole-parts widths w some zero first there = All-nil (λ p. IsPart widths p × (part_width p ≡ w))
whole-parts widths w some (suc n) first there =
    let here = there 0 (omega arith) in
    let zero_ : first + 0 ≡ first = omega arith in
    let is : get_or widths first 0 ≡ w = ap (λ c. get_or widths c 0) (sym zero_) ∙ here.1 in
    let below : first + 0 < length widths = here.0 in
    let inside : first < length widths = omega arith in
    let top : w - 1 < w = omega arith in
    let width : w - 1 + 1 - 0 ≡ w = omega arith in
    All-cons (λ p. IsPart widths p × (part_width p ≡ w)) (record { cell = first; lo = 0; hi = w - 1 }) (whole_cells (first + 1) w n)
    ((inside, omega arith, subst (λ v. w - 1 < v) (sym is) top), width)
    (whole-parts widths w some n (first + 1) (λ i below.
    let next : first + suc i ≡ first + 1 + i = omega arith in
    subst (λ c. (c < length widths) × (get_or widths c 0 ≡ w)) next (there (suc i) (omega arith))))

pub cells-sound : (t : Tables) (name : List ℕ) (n w : ℕ) → AreSoundTables t → IsWidth w → length t.widths + n ≤ 120 → length t.files + length t.functions < 4096
    → AreSoundTables (with_cells t name n w)
cells-sound t name n w s width room place =
    let new : List ℕ = t.widths ++ replicate n w in
    let copies : length (replicate n w) ≡ n = length-replicate n w in
    let count : length new ≡ length t.widths + length (replicate n w) = length-append t.widths (replicate n w) in
    let more : length t.widths ≤ length new = omega arith in
    let one : length (t.files ++ whole_cells (length t.widths) w n ∷ []) ≡ length t.files + 1 = length-append t.files (whole_cells (length t.widths) w n ∷ []) in
    record {
      names = All-push (λ e. IsThere (length new) e.1) t.names (name, meaning.Cells (length t.files)) (names-more (length t.widths) (length new) more t.names s.names) tt;
      cells = All-push (λ e. IsGroup (length new) e.1) t.cells (name, record { first = length t.widths; count = Some n })
          (groups-more (length t.widths) (length new) more t.cells s.cells) (λ i below. omega arith);
      widths = All-append IsWidth t.widths (replicate n w) s.widths (All-replicate IsWidth n w width);
      count = omega arith;
      files = All-push (IsFile new) t.files (whole_cells (length t.widths) w n) (files-more t.widths (replicate n w) t.files s.files)
          (file-of new w (whole_cells (length t.widths) w n) (whole-parts new w width.0 n (length t.widths) (λ i below.
          (omega arith, get_or-append-add t.widths (replicate n w) i 0 ∙ get_or-replicate n i w 0 below))));
      few = omega arith;
    }

-- ---- views and functions

pub view-sound : (t : Tables) (name : List ℕ) (parts : List CellPart) → AreSoundTables t → IsFile t.widths parts → length t.files + length t.functions < 4096
    → AreSoundTables (with_view t name parts)
view-sound t name parts s file place =
    let one : length (t.files ++ parts ∷ []) ≡ length t.files + 1 = length-append t.files (parts ∷ []) in
    record {
      names = All-push (λ e. IsThere (length t.widths) e.1) t.names (name, meaning.View (length t.files)) s.names tt;
      cells = s.cells;
      widths = s.widths;
      count = s.count;
      files = All-push (IsFile t.widths) t.files parts s.files file;
      few = omega arith;
    }

pub function-sound : (t : Tables) (name : List ℕ) (f : Function) → AreSoundTables t → length t.files + length t.functions < 4096 → AreSoundTables (with_function t name f)
function-sound t name f s place =
    let one : length (t.functions ++ f ∷ []) ≡ length t.functions + 1 = length-append t.functions (f ∷ []) in
    record {
      names = All-push (λ e. IsThere (length t.widths) e.1) t.names (name, meaning.Function (length t.functions)) s.names tt;
      cells = s.cells;
      widths = s.widths;
      count = s.count;
      files = s.files;
      few = omega arith;
    }

-- ---- a CELL

pub named-there : (t : Tables) → AreSoundTables t → (name : List ℕ) (m : Meaning) → named t.names name ≡ Some m → IsThere (length t.widths) m
named-there t s name m e = subst (λ o. IfSome o (IsThere (length t.widths))) e (All-lookup (IsThere (length t.widths)) (pointwise nat_eq name) t.names s.names)

file-cell : (t : Tables) (i c : ℕ) (parts : List CellPart) (o : Option CellPart) → IsFile t.widths parts → slice_get parts i ≡ o → option_map (λ p. p.cell) o ≡ Some c → c < length t.widths
file-cell t i c parts None file is e = absurd (none-some c e)
file-cell t i c parts (Some p) file is e =
    let lies = All-slice_get (λ p. IsPart t.widths p × (part_width p ≡ file_width (Some parts))) parts i p is file in
    subst (λ d. d < length t.widths) (same_Some p.cell c e) lies.0.0

of-file : (t : Tables) → AreSoundTables t → (f i c : ℕ) (o : Option (List CellPart)) → slice_get t.files f ≡ o
    → option_map (λ p. p.cell) (option_and_then (λ parts. slice_get parts i) o) ≡ Some c → c < length t.widths
of-file t s f i c None is e = absurd (none-some c e)
of-file t s f i c (Some parts) is e = file-cell t i c parts (slice_get parts i) (All-slice_get (IsFile t.widths) t.files f parts is s.files) refl e

number-of : (t : Tables) → AreSoundTables t → (index : Option ℕ) (c : ℕ) (o : Option Meaning) → ((m : Meaning) → o ≡ Some m → IsThere (length t.widths) m)
    → option_and_then (cell_at t index) o ≡ Some c → c < length t.widths
number-of t s index c None there e = absurd (none-some c e)
number-of t s None c (Some (meaning.Cell d)) there e = subst (λ x. x < length t.widths) (same_Some d c e) (there (meaning.Cell d) refl)
number-of t s (Some i) c (Some (meaning.Cell d)) there e = absurd (none-some c e)
number-of t s None c (Some (meaning.Cells f)) there e = absurd (none-some c e)
number-of t s (Some i) c (Some (meaning.Cells f)) there e = of-file t s f i c (slice_get t.files f) refl e
number-of t s None c (Some (meaning.View f)) there e = absurd (none-some c e)
number-of t s (Some i) c (Some (meaning.View f)) there e = absurd (none-some c e)
number-of t s None c (Some (meaning.Function f)) there e = absurd (none-some c e)
number-of t s (Some i) c (Some (meaning.Function f)) there e = absurd (none-some c e)

pub cell-there : (t : Tables) → AreSoundTables t → (cell : CellName) (c : ℕ) → cell_number t cell ≡ Some c → c < length t.widths
cell-there t s cell c e = number-of t s cell.index c (named t.names cell.name) (named-there t s cell.name) e
