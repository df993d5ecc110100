-- What lines give is sound.
use Rattle.std.proofs.Common.{◌≡◌, ◌≢◌, ℕ, zero, suc, ◌+◌, ◌-◌, ◌<◌, ◌≤◌, ◌==◌, ◌||◌, ◌⊎◌, inl, inr, max, cond, not, Bool, true, false, List, [], ◌∷◌, ◌++◌, Option, Some, None, is_some, length, map, fold, ap, refl, sym, subst, ◌∙◌, arith, nat_eq, codes}
use Rattle.std.specs.Prelude.{All, IfSome, slice_get, unwrap_or}
use Rattle.std.specs.List.{list_any}
use Rattle.std.specs.Cmp.Lexicographic.{pointwise, same_text}
use Rattle.std.proofs.lemmas.List.Elements.{All-nil, All-cons, All-head, All-tail, All-append, All-weaker}
use Rattle.std.proofs.lemmas.Bool.Decides.{nat_tests}
use Rattle.rtl_core.specs.declared.encodings.OperandKind.{OperandKind}
use Rattle.rtl_core.specs.declared.encodings.OperandKind.TheVariants as K
use Rattle.rtl_core.specs.declared.encodings.Coded.{Coded}
use Rattle.rtl_core.specs.declared.encodings.Encodings.{Encodings}
use Rattle.rtl_core.specs.SoundEncodings.{IsKind, Rises, IsSoundCoded, IsSoundEncodings, IsWithin}
use Rattle.sled_syntax.specs.declared.line.FieldDef.{FieldDef}
use Rattle.sled_rules.specs.declared.facts.Facts.{Facts}
use Rattle.sled_rules.specs.declared.meaning.Token.{Token}
use Rattle.sled_rules.specs.declared.meaning.Field.{Field}
use Rattle.sled_rules.specs.declared.meaning.Meaning.{Meaning}
use Rattle.sled_rules.specs.declared.meaning.Meaning.TheVariants as means
use Rattle.sled_rules.specs.declared.known.Known.{Known}
use Rattle.sled_rules.specs.Meanings.{Table, named, is_given}
use Rattle.sled_rules.specs.Operands.{is_listed, kind_of, kinds_of, operand_of}
use Rattle.sled_rules.specs.Sizes.{longest_of, most_of}
use Rattle.sled_rules.specs.Counts.{IsCounted}
use Rattle.sled_rules.specs.Known.{nothing_known}
use Rattle.sled_rules.specs.Normal.{encodings_of}
use Rattle.sled_rules.specs.Faults.{are_known_operands, is_used}
use Rattle.sled_core.proofs.Rows.{IsInToken, IsSoundMeaning}
use Rattle.sled_core.proofs.Parts.{IsScene}
use Rattle.sled_core.proofs.OperandPlaces.{kinds_at, same_name}
use Rattle.sled_core.proofs.Types.{AreOf, IsOpen}
use Rattle.sled_core.proofs.Sizes.{IsMarkedKind}

-- ---- names

-- what is said of each entry is said of what a name stands for
pub found_entry : (P : List ℕ × Meaning → Type 0) (es : Table) (name : List ℕ) → All P es → IfSome (named es name) (λ m. P (name, m))
found_entry P [] name h = tt
found_entry P (e ∷ es) name h = by (pointwise nat_eq name e.0) refl (found_entry P es name (All-tail P e es h))
  where
    by : (b : Bool) → pointwise nat_eq name e.0 ≡ b → IfSome (named es name) (λ m. P (name, m)) → IfSome (cond b (Some e.1) (named es name)) (λ m. P (name, m))
    by true same rest = subst (λ n. P (n, e.1)) (sym (same_text name e.0 (sym same))) (All-head P e es h)
    by false same rest = rest

-- a type's name is the one of its number, and the type is there
abbrev pub IsEntry : (ℕ → List ℕ) → (ℕ → Type 0) → List ℕ × Meaning → Type 0
IsEntry name_of P (name, means.Type t) = (name ≡ name_of t) × P t
IsEntry name_of P _ = Unit {0}

abbrev pub HasSoundMeaning : List ℕ × Meaning → Type 0
HasSoundMeaning e = IsSoundMeaning e.1

-- ---- the invariant

-- what lines without a fault give
pub record IsSoundKnown (k : Known) : Type 0 where
  pub counted : IsCounted k
  pub facts : length k.facts ≡ length k.types
  pub meanings : All HasSoundMeaning k.names
  pub name_of : ℕ → List ℕ
  pub instructions : name_of 0 ≡ codes "instruction"
  pub entries : All (IsEntry name_of (IsOpen k.types)) k.names
  pub type_of : ℕ → ℕ
  pub types : AreOf type_of k.types (length k.constructors)
  pub given : All (λ c. is_given k.names c.name ≡ true) k.constructors
  pub distinct : (b c : ℕ) (i j : Coded) → slice_get k.constructors b ≡ Some i → slice_get k.constructors c ≡ Some j → i.name ≡ j.name → b ≡ c
  pub each : (c : ℕ) (j : Coded) → slice_get k.constructors c ≡ Some j → IsSoundCoded k.types c j
  pub marked : (c : ℕ) (j : Coded) → slice_get k.constructors c ≡ Some j → All (IsMarkedKind k.facts) j.kinds
  pub named : (t : ℕ) → is_used k.facts t ≡ true → is_given k.names (name_of t) ≡ true
  pub sizes : (c : ℕ) (j : Coded) → slice_get k.constructors c ≡ Some j → IsWithin (most_of k.facts) (longest_of k.facts) (type_of c) j
  pub few : (t : ℕ) → most_of k.facts t ≤ 8
  pub short : (t : ℕ) → longest_of k.facts t ≤ 32

-- sound at the end
pub sound_encodings : (k : Known) → IsSoundKnown k → IsSoundEncodings (encodings_of k)
sound_encodings k s = record {
  count = s.counted.constructors;
  types = record { first = s.types.first; type_of = s.type_of; each = s.types.each; listed = s.types.listed };
  names = s.distinct;
  each = s.each;
  most = most_of k.facts;
  longest = longest_of k.facts;
  sizes = s.sizes;
  few = s.few;
  short = s.short;
}

no_element : {X : Type 0} {Y : Type 0} (c : ℕ) (j : X) → slice_get [] c ≡ Some j → Y
no_element zero j h = cc
no_element (suc c) j h = cc

-- before any line
pub nothing_sound : IsSoundKnown nothing_known
nothing_sound = record {
  counted = record { types = omega arith; constructors = omega arith };
  facts = refl;
  meanings = All-nil HasSoundMeaning;
  name_of = λ t. codes "instruction";
  instructions = refl;
  entries = All-nil (IsEntry (λ t. codes "instruction") (IsOpen nothing_known.types));
  type_of = λ c. 0;
  types = record { first = omega arith; each = first_type; listed = λ c h. absurd (omega (arith, h)) };
  given = All-nil (λ c. is_given nothing_known.names c.name ≡ true);
  distinct = λ b c i j h k e. no_element b i h;
  each = λ c j h. no_element c j h;
  marked = λ c j h. no_element c j h;
  named = λ t h. unused t h;
  sizes = λ c j h. no_element c j h;
  few = first_most;
  short = first_longest;
}
  where
    first_type : (t : ℕ) (cs : List ℕ) → slice_get ([] ∷ []) t ≡ Some cs → Rises cs × All (λ c. (c < 0) × (0 ≡ t)) cs
    first_type zero [] h = (tt, All-nil (λ c. (c < 0) × (0 ≡ 0)))
    first_type zero (c ∷ cs) h = cc
    first_type (suc t) cs h = no_element t cs h

    unused : (t : ℕ) → is_used nothing_known.facts t ≡ true → is_given nothing_known.names (codes "instruction") ≡ true
    unused zero h = cc
    unused (suc zero) h = cc
    unused (suc (suc t)) h = cc

    first_most : (t : ℕ) → most_of nothing_known.facts t ≤ 8
    first_most zero = omega arith
    first_most (suc zero) = omega arith
    first_most (suc (suc t)) = omega arith

    first_longest : (t : ℕ) → longest_of nothing_known.facts t ≤ 32
    first_longest zero = omega arith
    first_longest (suc zero) = omega arith
    first_longest (suc (suc t)) = omega arith

-- ---- scenes

pub sound_names : (k : Known) → IsSoundKnown k → (name : List ℕ) → IfSome (named k.names name) IsSoundMeaning
sound_names k s name = found_entry HasSoundMeaning k.names name s.meanings

-- without operands
pub bare_scene : (k : Known) → IsSoundKnown k → IsScene k.names [] []
bare_scene k s = record { meanings = sound_names k s; places = λ name kind listed is. let no : is_listed [] name ≡ false = refl in cc (no, listed) }

-- with the operands of a constructor
pub full_scene : (k : Known) (ops : List (List ℕ)) → IsSoundKnown k → are_known_operands k.names ops ≡ true → IsScene k.names ops (kinds_of k.names ops)
full_scene k ops s known = record { meanings = sound_names k s; places = λ name kind listed is. kinds_at k.names ops name kind known listed is }

-- ---- names more

pub given_left : (es fs : Table) (name : List ℕ) → is_given es name ≡ true → is_given (es ++ fs) name ≡ true
given_left [] fs name h = cc
given_left (e ∷ es) fs name h = by (pointwise nat_eq name e.0) h (given_left es fs name)
  where
    by : (b : Bool) → is_some (cond b (Some e.1) (named es name)) ≡ true → (is_given es name ≡ true → is_given (es ++ fs) name ≡ true) → is_some (cond b (Some e.1) (named (es ++ fs) name)) ≡ true
    by true h rest = refl
    by false h rest = rest h

pub given_last : (es : Table) (name : List ℕ) (m : Meaning) → is_given (es ++ (name, m) ∷ []) name ≡ true
given_last [] name m = ap (λ b. is_some (cond b (Some m) None)) (same_name name)
given_last (e ∷ es) name m = by (pointwise nat_eq name e.0) (given_last es name m)
  where
    by : (b : Bool) → is_given (es ++ (name, m) ∷ []) name ≡ true → is_some (cond b (Some e.1) (named (es ++ (name, m) ∷ []) name)) ≡ true
    by true rest = refl
    by false rest = rest

pub entry_weaker : (name_of next : ℕ → List ℕ) (P Q : ℕ → Type 0) → ((t : ℕ) → P t → next t ≡ name_of t) → ((t : ℕ) → P t → Q t) → (e : List ℕ × Meaning) → IsEntry name_of P e → IsEntry next Q e
entry_weaker name_of next P Q same h (name, means.Type t) p = (p.0 ∙ sym (same t p.1), h t p.1)
entry_weaker name_of next P Q same h (name, means.Token) p = tt
entry_weaker name_of next P Q same h (name, means.Field f) p = tt
entry_weaker name_of next P Q same h (name, means.Pattern q) p = tt
entry_weaker name_of next P Q same h (name, means.Constructor) p = tt

-- names that are no types, as long as the rest is the same
pub with_names : (k : Known) (es : Table) (next : Known) → IsSoundKnown k → next.names ≡ k.names ++ es → next.types ≡ k.types → next.facts ≡ k.facts → next.constructors ≡ k.constructors
    → IsCounted next → All HasSoundMeaning es → ((name_of : ℕ → List ℕ) → All (IsEntry name_of (IsOpen k.types)) es) → IsSoundKnown next
with_names k es next s names types facts constructors counted meanings entries = record {
  counted = counted;
  facts = ap length facts ∙ s.facts ∙ sym (ap length types);
  meanings = subst (All HasSoundMeaning) (sym names) (All-append HasSoundMeaning k.names es s.meanings meanings);
  name_of = s.name_of;
  instructions = s.instructions;
  entries =
      subst (λ ts. All (IsEntry s.name_of (IsOpen ts)) next.names) (sym types)
      (subst (All (IsEntry s.name_of (IsOpen k.types))) (sym names) (All-append (IsEntry s.name_of (IsOpen k.types)) k.names es s.entries (entries s.name_of)));
  type_of = s.type_of;
  types = subst (λ ts. AreOf s.type_of ts (length next.constructors)) (sym types) (subst (λ cs. AreOf s.type_of k.types (length cs)) (sym constructors) s.types);
  given =
      subst (All (λ c. is_given next.names c.name ≡ true)) (sym constructors)
      (All-weaker (λ c. is_given k.names c.name ≡ true) (λ c. is_given next.names c.name ≡ true) (λ c h. wider_names c.name h) k.constructors s.given);
  distinct = subst (λ cs. (b c : ℕ) (i j : Coded) → slice_get cs b ≡ Some i → slice_get cs c ≡ Some j → i.name ≡ j.name → b ≡ c) (sym constructors) s.distinct;
  each =
      subst (λ ts. (c : ℕ) (j : Coded) → slice_get next.constructors c ≡ Some j → IsSoundCoded ts c j) (sym types)
      (subst (λ cs. (c : ℕ) (j : Coded) → slice_get cs c ≡ Some j → IsSoundCoded k.types c j) (sym constructors) s.each);
  marked =
      subst (λ fs. (c : ℕ) (j : Coded) → slice_get next.constructors c ≡ Some j → All (IsMarkedKind fs) j.kinds) (sym facts)
      (subst (λ cs. (c : ℕ) (j : Coded) → slice_get cs c ≡ Some j → All (IsMarkedKind k.facts) j.kinds) (sym constructors) s.marked);
  named = λ t h. wider_names (s.name_of t) (s.named t (subst (λ fs. is_used fs t ≡ true) facts h));
  sizes =
      subst (λ fs. (c : ℕ) (j : Coded) → slice_get next.constructors c ≡ Some j → IsWithin (most_of fs) (longest_of fs) (s.type_of c) j) (sym facts)
      (subst (λ cs. (c : ℕ) (j : Coded) → slice_get cs c ≡ Some j → IsWithin (most_of k.facts) (longest_of k.facts) (s.type_of c) j) (sym constructors) s.sizes);
  few = subst (λ fs. (t : ℕ) → most_of fs t ≤ 8) (sym facts) s.few;
  short = subst (λ fs. (t : ℕ) → longest_of fs t ≤ 32) (sym facts) s.short;
}
  where
    wider_names : (name : List ℕ) → is_given k.names name ≡ true → is_given next.names name ≡ true
    wider_names name h = subst (λ ns. is_given ns name ≡ true) (sym names) (given_left k.names es name h)
