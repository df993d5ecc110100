-- Alternatives, and what names stand for, when they are sound.
use Rattle.std.proofs.Common.{◌≡◌, ℕ, zero, suc, ◌+◌, ◌-◌, ◌<◌, ◌≤◌, Bool, true, false, List, [], ◌∷◌, ◌++◌, Option, Some, None, length, map, ap, refl, sym, subst, ◌∙◌, arith, max}
use Rattle.std.specs.Prelude.{All, IfSome, slice_get}
use Rattle.std.specs.List.{concat}
use Rattle.std.proofs.lemmas.List.{map-append, append-nil}
use Rattle.std.proofs.lemmas.List.Folds.{concat-append}
use Rattle.std.proofs.lemmas.List.Elements.{All-nil, All-cons, All-head, All-tail, All-append, All-weaker}
use Rattle.rtl_core.specs.declared.encodings.OperandKind.{OperandKind}
use Rattle.rtl_core.specs.declared.encodings.OperandKind.TheVariants as K
use Rattle.rtl_core.specs.declared.encodings.Bind.{Bind}
use Rattle.rtl_core.specs.declared.encodings.Test.{Test}
use Rattle.rtl_core.specs.declared.encodings.Typed.{Typed}
use Rattle.rtl_core.specs.declared.encodings.Item.{Item}
use Rattle.rtl_core.specs.SoundEncodings.{IsSoundTest, IsSoundBind, IsSoundTyped, IsSoundItem, IsToken, item_binds, items_bind}
use Rattle.sled_rules.specs.declared.meaning.Field.{Field}
use Rattle.sled_rules.specs.declared.meaning.NamedPattern.{NamedPattern}
use Rattle.sled_rules.specs.declared.meaning.Start.{Start}
use Rattle.sled_rules.specs.declared.meaning.Start.TheVariants.{Nothing, One, Several}
use Rattle.sled_rules.specs.declared.meaning.Meaning.{Meaning}
use Rattle.sled_rules.specs.declared.meaning.Meaning.TheVariants as means
use Rattle.sled_rules.specs.Alternatives.{both, nothing_asked, onto_first}
use Rattle.sled_core.proofs.Full.{Full}

-- a field lies in its token
pub record IsInToken (f : Field) : Type 0 where
  pub order : f.lo ≤ f.hi
  pub within : f.hi < f.token.bits
  pub width : IsToken f.token.bits None

-- the bits of the first token
abbrev pub first_bits : List Item → ℕ
first_bits [] = 0
first_bits (it ∷ items) = it.bits

-- what starts over this token, or over several, starts with so many bits
abbrev pub StartsWith : Start → ℕ → Type 0
StartsWith Nothing bits = ⊥
StartsWith (One t) bits = t.bits ≡ bits
StartsWith Several bits = Unit {0}

-- items that bind these operands; where no operand is there they start as is said
pub record IsRow (plain : Type 0) (kinds : List OperandKind) (start : Start) (bs : List ℕ) (items : List Item) : Type 0 where
  pub some : 0 < length items
  pub each : All (IsSoundItem kinds) items
  pub bound : items_bind items ≡ bs
  pub starts : plain → StartsWith start (first_bits items)

-- an alternative of a named pattern
abbrev pub IsPlainRow : Start → List Item → Type 0
IsPlainRow start items = IsRow (Unit {0}) [] start [] items

-- what a name stands for
abbrev pub IsSoundMeaning : Meaning → Type 0
IsSoundMeaning means.Token = Unit {0}
IsSoundMeaning (means.Field f) = IsInToken f
IsSoundMeaning (means.Pattern p) = Full (IsPlainRow p.start) p.alternatives
IsSoundMeaning means.Constructor = Unit {0}
IsSoundMeaning (means.Type t) = Unit {0}

-- ---- an item without operands is one of any constructor

no_element : {X : Type 0} (k : ℕ) (x : X) → slice_get [] k ≡ Some x → ⊥
no_element zero x h = cc
no_element (suc k) x h = cc

bind_of_any : (kinds : List OperandKind) (bits : ℕ) (b : Bind) → IsSoundBind [] bits b → IsSoundBind kinds bits b
bind_of_any kinds bits b h = absurd (no_element b.operand (K.Field (b.hi + 1 - b.lo)) h.2)

typed_of_any : (kinds : List OperandKind) (o : Option Typed) → IsSoundTyped [] o → IsSoundTyped kinds o
typed_of_any kinds None h = h
typed_of_any kinds (Some t) h = absurd (no_element t.operand (K.Typed t.kind) h)

item_of_any : (kinds : List OperandKind) (it : Item) → IsSoundItem [] it → IsSoundItem kinds it
item_of_any kinds it s = record {
  token = s.token;
  tests = s.tests;
  binds = All-weaker (IsSoundBind [] it.bits) (IsSoundBind kinds it.bits) (bind_of_any kinds it.bits) it.binds s.binds;
  typed = typed_of_any kinds it.typed s.typed;
}

pub row_of_any : (plain : Type 0) (kinds : List OperandKind) (start : Start) (items : List Item) → IsPlainRow start items → IsRow plain kinds start [] items
row_of_any plain kinds start items r = record {
  some = r.some;
  each = All-weaker (IsSoundItem []) (IsSoundItem kinds) (item_of_any kinds) items r.each;
  bound = r.bound;
  starts = λ p. r.starts tt;
}

pub no_bind : (bits : ℕ) (bs : List Bind) → All (IsSoundBind [] bits) bs → bs ≡ []
no_bind bits [] h = refl
no_bind bits (b ∷ bs) h = absurd (no_element b.operand (K.Field (b.hi + 1 - b.lo)) (All-head (IsSoundBind [] bits) b bs h).2)

pub no_typed : (o : Option Typed) → IsSoundTyped [] o → o ≡ None
no_typed None h = refl
no_typed (Some t) h = absurd (no_element t.operand (K.Typed t.kind) h)

-- what an item without a typed operand binds
pub untyped_binds : (bits : ℕ) (tests : List Test) (binds : List Bind) (typed : Option Typed) → typed ≡ None
    → item_binds (record { bits = bits; tests = tests; binds = binds; typed = typed }) ≡ map (λ b. b.operand) binds
untyped_binds bits tests binds None h = append-nil (map (λ b. b.operand) binds)
untyped_binds bits tests binds (Some t) h = cc

plain_item : (it : Item) → IsSoundItem [] it → item_binds it ≡ []
plain_item it s = untyped_binds it.bits it.tests it.binds it.typed (no_typed it.typed s.typed) ∙ ap (map (λ b. b.operand)) (no_bind it.bits it.binds s.binds)

-- without operands nothing is bound
pub plain_binds : (items : List Item) → All (IsSoundItem []) items → items_bind items ≡ []
plain_binds [] h = refl
plain_binds (it ∷ items) h = ap (λ bs. bs ++ items_bind items) (plain_item it (All-head (IsSoundItem []) it items h)) ∙ plain_binds items (All-tail (IsSoundItem []) it items h)

-- ---- rows behind one another, and over nothing

append_binds : (x y : List Item) → items_bind (x ++ y) ≡ items_bind x ++ items_bind y
append_binds x y = ap concat (map-append item_binds x y) ∙ concat-append (map item_binds x) (map item_binds y)

more_first : (x y : List Item) → 0 < length x → first_bits (x ++ y) ≡ first_bits x
more_first [] y h = absurd (omega (arith, h))
more_first (it ∷ x) y h = refl

some_more : (x y : List Item) → 0 < length x → 0 < length (x ++ y)
some_more [] y h = absurd (omega (arith, h))
some_more (it ∷ x) y h = omega arith

pub row_append : (plain : Type 0) (kinds : List OperandKind) (s u : Start) (bs cs : List ℕ) (x y : List Item) → IsRow plain kinds s bs x → IsRow plain kinds u cs y
    → IsRow plain kinds s (bs ++ cs) (x ++ y)
row_append plain kinds s u bs cs x y a b = record {
  some = some_more x y a.some;
  each = All-append (IsSoundItem kinds) x y a.each b.each;
  bound = append_binds x y ∙ ap (λ zs. zs ++ items_bind y) a.bound ∙ ap (λ zs. bs ++ zs) b.bound;
  starts = λ p. subst (StartsWith s) (sym (more_first x y a.some)) (a.starts p);
}

onto_nothing : (items : List Item) → 0 < length items → onto_first (nothing_asked ∷ []) items ≡ items
onto_nothing [] h = absurd (omega (arith, h))
onto_nothing (it ∷ items) h =
    let e : max 0 it.bits ≡ it.bits = omega arith in
    ap (λ b. record { bits = b; tests = it.tests; binds = it.binds; typed = it.typed } ∷ items) e

pub row_onto : (plain : Type 0) (kinds : List OperandKind) (s : Start) (bs : List ℕ) (x y : List Item) → x ≡ nothing_asked ∷ [] → IsRow plain kinds s bs y
    → IsRow plain kinds s bs (onto_first x y)
row_onto plain kinds s bs x y e r = subst (IsRow plain kinds s bs) (sym (ap (λ z. onto_first z y) e ∙ onto_nothing y r.some)) r
