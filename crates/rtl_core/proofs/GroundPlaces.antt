-- What operands and places come to once they are put in: they are there, and have the widths that were asked.
use Rattle.std.proofs.Common.{◌≡◌, ℕ, zero, suc, ◌+◌, ◌-◌, ◌*◌, ◌^◌, ◌<◌, ◌==◌, ◌&&◌, Bool, true, false, if◌then◌else◌, List, [], ◌∷◌, length, get_or, slice_get, unwrap_or, Option, Some, None, option_and_then, All, IfSome, refl, sym, ◌∙◌, subst, arith}
use Rattle.std.proofs.lemmas.Bool.{eqb-true, and_parts}
use Rattle.std.proofs.lemmas.Option.{slice_get_within, slice_get-get_or, get_or_from_slice_get}
use Rattle.std.proofs.lemmas.List.Elements.{All-get_or}
use Rattle.rtl_core.specs.declared.encodings.OperandKind.{OperandKind}
use Rattle.rtl_core.specs.declared.encodings.OperandKind.TheVariants.{Field, Typed}
use Rattle.rtl_core.specs.declared.expr.Expr.{Expr}
use Rattle.rtl_core.specs.declared.expr.Expr.TheVariants as E
use Rattle.rtl_core.specs.declared.machine.Machine.{Machine}
use Rattle.rtl_core.specs.declared.machine.CellPart.{CellPart}
use Rattle.rtl_core.specs.Access.{is_size}
use Rattle.rtl_core.specs.Terms.{term_of, width_of}
use Rattle.rtl_core.specs.SoundTerms.{IsWidth, IsSoundTerm, HasWidth}
use Rattle.rtl_core.specs.Grounding.{Place, Whole, Bits, Bytes, Argument, Number, Value, At, place_value, argument_value, argument_place, argument_index, part_place}
use Rattle.rtl_core.specs.SoundTemplates.{IsPart, IsFile, IsPlaceType, IsIndex, HasValue, HasPlace, part_width, file_width, kind_width}
use Rattle.rtl_core.proofs.TermLaws.{term-Const, term-Cell, term-Load, term-Slice}

pub All-slice_get : {X : Type 0} → (P : X → Type 0) (xs : List X) (i : ℕ) (x : X) → slice_get xs i ≡ Some x → All P xs → P x
All-slice_get P xs i x e all = subst P (get_or_from_slice_get xs i x x e) (All-get_or P xs i x (slice_get_within xs i x e) all)

-- ---- places

-- a place with all put in that is there
abbrev pub IsSoundAt : List ℕ → Place → Type 0
IsSoundAt widths (Whole c) = c < length widths
IsSoundAt widths (Bits c lo hi) = IsPart widths (record { cell = c; lo = lo; hi = hi })
IsSoundAt widths (Bytes n a) = (is_size n ≡ true) × HasWidth widths a 32

abbrev pub at_width : List ℕ → Place → ℕ
at_width widths (Whole c) = get_or widths c 0
at_width widths (Bits c lo hi) = hi + 1 - lo
at_width widths (Bytes n a) = 8 * n

-- a place that is there and has this width
pub record IsAt (widths : List ℕ) (p : Place) (w : ℕ) : Type 0 where
  pub there : IsSoundAt widths p
  pub width : at_width widths p ≡ w

-- an expression from its term
pub HasWidth-is : (widths : List ℕ) (e : Expr) (w : ℕ) → IsSoundTerm widths (term_of e) → width_of widths (term_of e) ≡ w → HasWidth widths e w
HasWidth-is widths e w s h = (s, h)

pub place_value-sound : (widths : List ℕ) (p : Place) (w : ℕ) → IsAt widths p w → HasWidth widths (place_value p) w
place_value-sound widths (Whole c) w s = rw (term-Cell c) (s.there, s.width)
place_value-sound widths (Bits c lo hi) w s = rw (term-Slice (E.Cell c) lo hi, term-Cell c) ((s.there.0, s.there.1, s.there.2), s.width)
place_value-sound widths (Bytes n a) w s = rw (term-Load n a) ((s.there.1.0, s.there.1.1, s.there.0), s.width)

-- ---- files

part_at-sound : (m : Machine) (p : CellPart) (whole : Bool) → (((p.lo == 0) && (p.hi + 1 == get_or m.widths p.cell 0)) ≡ whole) → IsPart m.widths p
    → IsAt m.widths (if whole then Whole p.cell else Bits p.cell p.lo p.hi) (part_width p)
part_at-sound m p true e s =
    let h = and_parts (p.lo == 0) (p.hi + 1 == get_or m.widths p.cell 0) e in
    let lo : p.lo ≡ 0 = eqb-true p.lo 0 h.0 in
    let hi : p.hi + 1 ≡ get_or m.widths p.cell 0 = eqb-true (p.hi + 1) (get_or m.widths p.cell 0) h.1 in
    record { there = s.0; width = omega arith }
part_at-sound m p false e s = record { there = s; width = refl }

pub part_place-sound : (m : Machine) (p : CellPart) → IsPart m.widths p → IsAt m.widths (part_place m p) (part_width p)
part_place-sound m p s = part_at-sound m p ((p.lo == 0) && (p.hi + 1 == get_or m.widths p.cell 0)) refl s

-- ---- operands

-- what an operand of a kind is: a number that fits, or a value or place of its type's width
abbrev pub Fits : Machine → (ℕ → ℕ) → OperandKind → Argument → Type 0
Fits m stands (Field w) (Number v n) = (v ≡ w) × IsWidth w × (n < 2 ^ w)
Fits m stands (Field w) _ = ⊥
Fits m stands (Typed zero) a = Unit {0}
Fits m stands (Typed (suc t)) (Number v n) = ⊥
Fits m stands (Typed (suc t)) (Value e) = HasWidth m.widths e (stands (suc t)) × (IsPlaceType m (suc t) → ⊥)
Fits m stands (Typed (suc t)) (At p) = IsAt m.widths p (stands (suc t))

abbrev pub FitsAny : Machine → (ℕ → ℕ) → Option OperandKind → Argument → Type 0
FitsAny m stands None a = Unit {0}
FitsAny m stands (Some kind) a = Fits m stands kind a

-- operands, one after another
abbrev pub FitAll : Machine → (ℕ → ℕ) → List OperandKind → List Argument → Type 0
FitAll m stands [] [] = Unit {0}
FitAll m stands (kind ∷ kinds) (a ∷ as') = Fits m stands kind a × FitAll m stands kinds as'
FitAll m stands _ _ = ⊥

pub FitAll-at : (m : Machine) (stands : ℕ → ℕ) (kinds : List OperandKind) (arguments : List Argument) (k : ℕ) → FitAll m stands kinds arguments
    → FitsAny m stands (slice_get kinds k) (unwrap_or (slice_get arguments k) (Number 1 0))
FitAll-at m stands [] [] k s = tt
FitAll-at m stands (kind ∷ kinds) [] k s = absurd s
FitAll-at m stands [] (a ∷ as') k s = absurd s
FitAll-at m stands (kind ∷ kinds) (a ∷ as') zero s = s.0
FitAll-at m stands (kind ∷ kinds) (a ∷ as') (suc k) s = FitAll-at m stands kinds as' k s.1

-- an operand as a value
pub value-sound : (m : Machine) (stands : ℕ → ℕ) (kind : Option OperandKind) (a : Argument) → FitsAny m stands kind a → HasValue kind
    → HasWidth m.widths (argument_value a) (kind_width stands kind)
value-sound m stands None a s h = absurd h
value-sound m stands (Some (Field w)) (Number v n) s h = rw (term-Const v n) ((subst IsWidth (sym s.0) s.1, (let P : ℕ → Type 0 = λ x. n < 2 ^ x in subst P (sym s.0) s.2)), s.0)
value-sound m stands (Some (Field w)) (Value e) s h = absurd s
value-sound m stands (Some (Field w)) (At p) s h = absurd s
value-sound m stands (Some (Typed zero)) a s h = absurd h
value-sound m stands (Some (Typed (suc t))) (Number v n) s h = absurd s
value-sound m stands (Some (Typed (suc t))) (Value e) s h = s.0
value-sound m stands (Some (Typed (suc t))) (At p) s h = place_value-sound m.widths p (stands (suc t)) s

-- an operand as a place
pub place-sound : (m : Machine) (stands : ℕ → ℕ) (kind : Option OperandKind) (a : Argument) → FitsAny m stands kind a → HasPlace m kind
    → IsAt m.widths (argument_place a) (kind_width stands kind)
place-sound m stands None a s h = absurd h
place-sound m stands (Some (Field w)) a s h = absurd h
place-sound m stands (Some (Typed zero)) a s h = absurd h
place-sound m stands (Some (Typed (suc t))) (Number v n) s h = absurd s
place-sound m stands (Some (Typed (suc t))) (Value e) s h = absurd (s.1 h)
place-sound m stands (Some (Typed (suc t))) (At p) s h = s

-- an operand as an index
pub file-sound : (m : Machine) (stands : ℕ → ℕ) (file : Option (List CellPart)) (kind : Option OperandKind) (a : Argument) (d : CellPart)
    → IfSome file (IsFile m.widths) → FitsAny m stands kind a → IsIndex file kind
    → IsAt m.widths (part_place m (unwrap_or (option_and_then (λ parts. slice_get parts (argument_index a)) file) d)) (file_width file)
file-sound m stands None kind a d f s h = absurd h
file-sound m stands (Some parts) None a d f s h = absurd h
file-sound m stands (Some parts) (Some (Typed t)) a d f s h = absurd h
file-sound m stands (Some parts) (Some (Field w)) (Value e) d f s h = absurd s
file-sound m stands (Some parts) (Some (Field w)) (At p) d f s h = absurd s
file-sound m stands (Some parts) (Some (Field w)) (Number v n) d f s h =
    let lt : n < length parts = omega (arith, s.2, h) in
    let there = All-get_or (λ p. IsPart m.widths p × (part_width p ≡ file_width (Some parts))) parts n d lt f in
    let at = part_place-sound m (get_or parts n d) there.0 in
    rw (slice_get-get_or parts n d lt) (record { there = at.there; width = at.width ∙ there.1 })
