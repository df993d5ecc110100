-- Where names are looked up: what they stand for is there in the machine of all lines.
use Rattle.std.proofs.Common.{◌≡◌, ℕ, ◌+◌, ◌-◌, ◌^◌, ◌<◌, ◌&&◌, Bool, true, false, cond, List, length, get_or, Option, Some, None, refl, sym, ap, ◌∙◌, subst, arith}
use Rattle.std.proofs.lemmas.Bool.{and_parts, eqb-true, leb-true}
use Rattle.std.proofs.lemmas.Option.{none-some, same_Some, slice_get_within, slice_get-get_or, get_or_from_slice_get}
use Rattle.std.specs.Prelude.{slice_get, slice_index, unwrap_or, option_map, option_and_then, nat_le, nat_eq}
use Rattle.std.specs.Option.{option_or}
use Rattle.rtl_core.specs.declared.encodings.OperandKind.{OperandKind}
use Rattle.rtl_core.specs.declared.encodings.OperandKind.TheVariants as kind
use Rattle.rtl_core.specs.declared.machine.CellPart.{CellPart}
use Rattle.rtl_core.specs.SoundTemplates.{IsPart, IsFile, IsIndex, part_width, file_width}
use Rattle.rtl_core.proofs.GroundPlaces.{All-slice_get}
use Rattle.ssl_rules.specs.declared.formula.Formula.{Formula}
use Rattle.ssl_rules.specs.declared.formula.Formula.TheVariants as F
use Rattle.ssl_rules.specs.declared.tables.Meaning.{Meaning}
use Rattle.ssl_rules.specs.declared.tables.Meaning.TheVariants as meaning
use Rattle.ssl_rules.specs.declared.tables.Own.{Own}
use Rattle.ssl_rules.specs.declared.tables.Own.TheVariants.{Field, Typed, Param}
use Rattle.ssl_rules.specs.declared.tables.Lone.{Lone}
use Rattle.ssl_rules.specs.declared.tables.Lone.TheVariants as lone
use Rattle.ssl_rules.specs.declared.tables.Function.{Function}
use Rattle.ssl_rules.specs.declared.tables.Tables.{Tables}
use Rattle.ssl_rules.specs.Lookup.{named}
use Rattle.ssl_rules.specs.Names.{Scope, file_named, part_named, function_named, field_of, field_named, lone_named, cell_of_meaning}
use Rattle.ssl_rules.specs.Widths.{cell_width, in_width, at_width, at_op_width, indexed_width}
use Rattle.ssl_rules.specs.Formulas.{is_whole, chosen_part}
use Rattle.ssl_sound.proofs.Good.{Frame, IsRight, IsGood, IsGoodFunction}
use Rattle.ssl_sound.proofs.Closing.{Closes}
use Rattle.ssl_sound.proofs.Measures.{in_width-some}

-- tables that the machine of all lines begins with, whose names and files are right
pub record IsInFrame (E : Frame) (t : Tables) : Type 0 where
  pub cells : (name : List ℕ) (c : ℕ) → named t.names name ≡ Some (meaning.Cell c) → c < length t.widths
  pub widths : (c w : ℕ) → slice_get t.widths c ≡ Some w → slice_get E.machine.widths c ≡ Some w
  pub files : (f : ℕ) (parts : List CellPart) → slice_get t.files f ≡ Some parts → slice_get E.machine.files f ≡ Some parts
  pub parts : (f : ℕ) (parts : List CellPart) → slice_get t.files f ≡ Some parts → IsFile t.widths parts

-- a name of the line itself
abbrev pub IsOwn : Frame → List OperandKind → (Formula → Formula) → Own → Type 0
IsOwn E kinds close (Field k w) = slice_get kinds k ≡ Some (kind.Field w)
IsOwn E kinds close (Typed k st) = IsRight E kinds k st
IsOwn E kinds close (Param k w) = IsGood E kinds (close (F.Param k)) w

pub record IsGoodScope (E : Frame) (kinds : List OperandKind) (close : Formula → Formula) (s : Scope) : Type 0 where
  pub closes : Closes close
  pub tables : IsInFrame E s.tables
  pub own : (name : List ℕ) (o : Own) → named s.own name ≡ Some o → IsOwn E kinds close o
  pub functions : (name : List ℕ) (f : Function) → function_named s.tables name ≡ Some f → IsGoodFunction E f

-- ---- cells

pub record IsCellOf (E : Frame) (t : Tables) (c : ℕ) : Type 0 where
  pub there : c < length E.machine.widths
  pub width : slice_index E.machine.widths c ≡ cell_width t c
  pub first : slice_index t.widths c ≡ cell_width t c

pub cell-in : (E : Frame) (t : Tables) → IsInFrame E t → (c : ℕ) → c < length t.widths → IsCellOf E t c
cell-in E t i c below =
    let w : ℕ = get_or t.widths c 0 in
    let here : slice_get t.widths c ≡ Some w = slice_get-get_or t.widths c 0 below in
    let there : slice_get E.machine.widths c ≡ Some w = i.widths c w here in
    let is : w ≡ cell_width t c = sym (ap (λ o. unwrap_or o 0) here) in
    record {
      there = slice_get_within E.machine.widths c w there;
      width = get_or_from_slice_get E.machine.widths c w 0 there ∙ is;
      first = is;
    }

-- a part of a file lies in its cell, in the end too
pub part-in : (E : Frame) (t : Tables) → IsInFrame E t → (p : CellPart) → IsPart t.widths p → IsPart E.machine.widths p
part-in E t i p part =
    let c = cell-in E t i p.cell part.0 in
    (c.there, part.1, subst (λ w. p.hi < w) (c.first ∙ sym c.width) part.2)

-- ---- NAME

-- what a name without brackets stands for is right
abbrev pub IsLone : Frame → List OperandKind → (Formula → Formula) → Tables → Lone → Type 0
IsLone E kinds close t (lone.Own o) = IsOwn E kinds close o
IsLone E kinds close t (lone.Cell c) = IsCellOf E t c

lone-of : (E : Frame) (kinds : List OperandKind) (close : Formula → Formula) (s : Scope) → IsGoodScope E kinds close s → (name : List ℕ) (l : Lone) (o : Option Own) (m : Option Meaning)
    → named s.own name ≡ o → named s.tables.names name ≡ m
    → option_or (option_map lone.Own o) (option_map lone.Cell (option_and_then cell_of_meaning m)) ≡ Some l → IsLone E kinds close s.tables l
lone-of E kinds close s g name l (Some o) m is means e = subst (IsLone E kinds close s.tables) (same_Some (lone.Own o) l e) (g.own name o is)
lone-of E kinds close s g name l None None is means e = absurd (none-some l e)
lone-of E kinds close s g name l None (Some (meaning.Cell c)) is means e =
    subst (IsLone E kinds close s.tables) (same_Some (lone.Cell c) l e) (cell-in E s.tables g.tables c (g.tables.cells name c means))
lone-of E kinds close s g name l None (Some (meaning.Cells f)) is means e = absurd (none-some l e)
lone-of E kinds close s g name l None (Some (meaning.View f)) is means e = absurd (none-some l e)
lone-of E kinds close s g name l None (Some (meaning.Function f)) is means e = absurd (none-some l e)

pub lone-right : (E : Frame) (kinds : List OperandKind) (close : Formula → Formula) (s : Scope) → IsGoodScope E kinds close s → (name : List ℕ) (l : Lone) → lone_named s name ≡ Some l
    → IsLone E kinds close s.tables l
lone-right E kinds close s g name l e = lone-of E kinds close s g name l (named s.own name) (named s.tables.names name) refl refl e

-- ---- NAME [ NUMBER ]

pub record IsPartAt (E : Frame) (t : Tables) (o : Option CellPart) (w : ℕ) : Type 0 where
  pub part : CellPart
  pub is : o ≡ Some part
  pub lies : IsPart E.machine.widths part
  pub width : part_width part ≡ w
  pub whole : is_whole t part ≡ true → slice_index E.machine.widths part.cell ≡ w

whole-width : (lo hi cell w : ℕ) → ((nat_eq lo 0) && (nat_eq (hi + 1) cell)) ≡ true → hi + 1 - lo ≡ w → cell ≡ w
whole-width lo hi cell w e width =
    let t = and_parts (nat_eq lo 0) (nat_eq (hi + 1) cell) e in
    let zero_ : lo ≡ 0 = eqb-true lo 0 t.0 in
    let top : hi + 1 ≡ cell = eqb-true (hi + 1) cell t.1 in
    omega arith

at-last : (E : Frame) (t : Tables) → IsInFrame E t → (index w : ℕ) (parts : List CellPart) (r : Option CellPart) → IsFile t.widths parts → slice_get parts index ≡ r
    → option_and_then (λ p. in_width (part_width p)) r ≡ Some w → IsPartAt E t r w
at-last E t i index w parts None file is e = absurd (none-some w e)
at-last E t i index w parts (Some p) file is e =
    let lies = All-slice_get (λ p. IsPart t.widths p × (part_width p ≡ file_width (Some parts))) parts index p is file in
    let width = (in_width-some (part_width p) w e).1 in
    let c = cell-in E t i p.cell lies.0.0 in
    record {
      part = p;
      is = refl;
      lies = part-in E t i p lies.0;
      width = width;
      whole = λ h. c.width ∙ whole-width p.lo p.hi (cell_width t p.cell) w h width;
    }

at-file : (E : Frame) (t : Tables) → IsInFrame E t → (index w f : ℕ) (q : Option (List CellPart)) → slice_get t.files f ≡ q
    → option_and_then (λ p. in_width (part_width p)) (option_and_then (λ parts. slice_get parts index) q) ≡ Some w
    → IsPartAt E t (option_and_then (λ parts. slice_get parts index) q) w
at-file E t i index w f None is e = absurd (none-some w e)
at-file E t i index w f (Some parts) is e = at-last E t i index w parts (slice_get parts index) (i.parts f parts is) refl e

at-of : (E : Frame) (t : Tables) → IsInFrame E t → (index w : ℕ) (o : Option ℕ)
    → option_and_then (λ p. in_width (part_width p)) (option_and_then (λ parts. slice_get parts index) (option_and_then (slice_get t.files) o)) ≡ Some w
    → IsPartAt E t (option_and_then (λ parts. slice_get parts index) (option_and_then (slice_get t.files) o)) w
at-of E t i index w None e = absurd (none-some w e)
at-of E t i index w (Some f) e = at-file E t i index w f (slice_get t.files f) refl e

pub part-at : (E : Frame) (t : Tables) → IsInFrame E t → (name : List ℕ) (index w : ℕ) → at_width t name index ≡ Some w → IsPartAt E t (part_named t name index) w
part-at E t i name index w e = at-of E t i index w (file_named t name) e

-- ---- NAME [ OP ]

pub record IsIndexed (E : Frame) (kinds : List OperandKind) (chosen : Option (ℕ × ℕ)) (w : ℕ) : Type 0 where
  pub file : ℕ
  pub operand : ℕ
  pub is : chosen ≡ Some (file, operand)
  pub index : IsIndex (slice_get E.machine.files file) (slice_get kinds operand)
  pub width : file_width (slice_get E.machine.files file) ≡ w

enough : (t : Bool) (o : Option ℕ) (w : ℕ) → cond t o None ≡ Some w → t ≡ true
enough true o w e = refl
enough false o w e = absurd (none-some w e)

behind_test : (t : Bool) (o : Option ℕ) (w : ℕ) → cond t o None ≡ Some w → o ≡ Some w
behind_test true o w e = e
behind_test false o w e = absurd (none-some w e)

no_field : (q : Option (List CellPart)) (w : ℕ) → option_and_then (λ parts. None) q ≡ Some w → ⊥
no_field None w e = none-some w e
no_field (Some parts) w e = none-some w e

indexed-file : (E : Frame) (kinds : List OperandKind) (t : Tables) → IsInFrame E t → (w f : ℕ) (field : ℕ × ℕ) (q : Option (List CellPart)) → slice_get t.files f ≡ q
    → slice_get kinds field.0 ≡ Some (kind.Field field.1) → option_and_then (λ parts. indexed_width parts field) q ≡ Some w → IsIndexed E kinds (Some (f, field.0)) w
indexed-file E kinds t i w f field None is operand e = absurd (none-some w e)
indexed-file E kinds t i w f field (Some parts) is operand e =
    let there : slice_get E.machine.files f ≡ Some parts = i.files f parts is in
    let few : nat_le (2 ^ field.1) (length parts) ≡ true = enough (nat_le (2 ^ field.1) (length parts)) (in_width (file_width (Some parts))) w e in
    let width : in_width (file_width (Some parts)) ≡ Some w = behind_test (nat_le (2 ^ field.1) (length parts)) (in_width (file_width (Some parts))) w e in
    record {
      file = f;
      operand = field.0;
      is = refl;
      index = subst (λ o. IsIndex o (slice_get kinds field.0)) (sym there) (subst (λ o. IsIndex (Some parts) o) (sym operand) (leb-true (2 ^ field.1) (length parts) few));
      width = ap file_width there ∙ (in_width-some (file_width (Some parts)) w width).1;
    }

indexed-of : (E : Frame) (kinds : List OperandKind) (t : Tables) → IsInFrame E t → (w : ℕ) (file : Option ℕ) (field : Option (ℕ × ℕ))
    → ((x : ℕ × ℕ) → field ≡ Some x → slice_get kinds x.0 ≡ Some (kind.Field x.1))
    → option_and_then (λ parts. option_and_then (indexed_width parts) field) (option_and_then (slice_get t.files) file) ≡ Some w
    → IsIndexed E kinds (option_and_then (λ f. option_map (λ x. (f, x.0)) field) file) w
indexed-of E kinds t i w None field fields e = absurd (none-some w e)
indexed-of E kinds t i w (Some f) None fields e = absurd (no_field (slice_get t.files f) w e)
indexed-of E kinds t i w (Some f) (Some x) fields e = indexed-file E kinds t i w f x (slice_get t.files f) refl (fields x refl) e

own-field : (E : Frame) (kinds : List OperandKind) (close : Formula → Formula) (o : Option Own) → ((x : Own) → o ≡ Some x → IsOwn E kinds close x)
    → (x : ℕ × ℕ) → option_and_then field_of o ≡ Some x → slice_get kinds x.0 ≡ Some (kind.Field x.1)
own-field E kinds close None own x e = absurd (none-some x e)
own-field E kinds close (Some (Field k w)) own x e =
    let is : (k, w) ≡ x = same_Some (k, w) x e in
    subst (λ (y : ℕ × ℕ). slice_get kinds y.0 ≡ Some (kind.Field y.1)) is (own (Field k w) refl)
own-field E kinds close (Some (Typed k st)) own x e = absurd (none-some x e)
own-field E kinds close (Some (Param k w)) own x e = absurd (none-some x e)

pub part-indexed : (E : Frame) (kinds : List OperandKind) (close : Formula → Formula) (s : Scope) → IsGoodScope E kinds close s → (name op : List ℕ) (w : ℕ)
    → at_op_width s name op ≡ Some w → IsIndexed E kinds (chosen_part s name op) w
part-indexed E kinds close s g name op w e =
    indexed-of E kinds s.tables g.tables w (file_named s.tables name) (field_named s op) (own-field E kinds close (named s.own op) (g.own op)) e
