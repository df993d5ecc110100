-- The samples are sound.
use Rattle.std.proofs.Common.{◌≡◌, ℕ, zero, suc, ◌-◌, ◌+◌, ◌<◌, ◌≤◌, List, [], ◌∷◌, Option, None, Some, All, refl, sym, subst, inl, inr, arith, lit<, lit≤, slice_get, true, ap, ◌∙◌, get_or, sum_by, count_by, ◌==◌, ◌^◌, ◌⊎◌}
use Rattle.std.proofs.lemmas.List.Elements.{All-nil, All-cons}
use Rattle.std.proofs.lemmas.Option.{same_Some}
use Rattle.rtl_core.specs.declared.encodings.OperandKind.TheVariants.{Field, Typed}
use Rattle.rtl_core.specs.declared.encodings.OperandKind.{OperandKind}
use Rattle.rtl_core.specs.SoundEncodings.{AreTypes, Rises, IsOf, IsKind, IsSoundTest, IsSoundBind, IsSoundItem, IsSoundAlternative, IsSoundCoded, IsWithin, IsSoundEncodings, IsToken, item_size, item_binds, items_bind}
use Rattle.rtl_core.specs.declared.encodings.Coded.{Coded}
use Rattle.rtl_core.specs.declared.encodings.Encodings.{Encodings}
use Rattle.rtl_core.specs.declared.encodings.Item.{Item}
use Rattle.worked_values.specs.Samples.{token_with, one_way, overlapping, nested}

one : {X : Type 0} → (P : X → Type 0) (x : X) → P x → All P (x ∷ [])
one P x p = All-cons P x [] p (All-nil P)

two : {X : Type 0} → (P : X → Type 0) (x y : X) → P x → P y → All P (x ∷ y ∷ [])
two P x y p q = All-cons P x (y ∷ []) p (one P y q)

-- what is at a place of a list of two
at_two : {X : Type 0} → (Q : ℕ → X → Type 0) (x y : X) → Q 0 x → Q 1 y → (i : ℕ) (z : X) → slice_get (x ∷ y ∷ []) i ≡ Some z → Q i z
at_two Q x y p q zero z e = subst (Q 0) (same_Some x z e) p
at_two Q x y p q (suc zero) z e = subst (Q 1) (same_Some y z e) q
at_two Q x y p q (suc (suc i)) z e = cc

-- what is at a place of a list of one
at_one : {X : Type 0} → (Q : ℕ → X → Type 0) (x : X) → Q 0 x → (i : ℕ) (z : X) → slice_get (x ∷ []) i ≡ Some z → Q i z
at_one Q x p zero z e = subst (Q 0) (same_Some x z e) p
at_one Q x p (suc i) z e = cc

-- what holds of two numbers
below_two : (Q : ℕ → Type 0) → Q 0 → Q 1 → (c : ℕ) → c < 2 → Q c
below_two Q p q zero h = p
below_two Q p q (suc zero) h = q
below_two Q p q (suc (suc c)) h = absurd (omega arith)

-- two letters are two names
letters_differ : (a b : ℕ) → a ∷ [] ≡ b ∷ [] → a < b → ⊥
letters_differ a b e h = let same : a ≡ b = ap (λ xs. get_or xs 0 0) e in omega arith

-- two constructors whose names differ
names_differ : (x y : Coded) → (x.name ≡ y.name → ⊥) → (b c : ℕ) (j k : Coded) → slice_get (x ∷ y ∷ []) b ≡ Some j → slice_get (x ∷ y ∷ []) c ≡ Some k
    → j.name ≡ k.name → b ≡ c
names_differ x y differ zero zero j k p q e = refl
names_differ x y differ (suc zero) (suc zero) j k p q e = refl
names_differ x y differ zero (suc zero) j k p q e =
    absurd (differ (ap (λ d. d.name) (same_Some x j p) ∙ e ∙ ap (λ d. d.name) (sym (same_Some y k q))))
names_differ x y differ (suc zero) zero j k p q e =
    absurd (differ (ap (λ d. d.name) (same_Some x k q) ∙ sym e ∙ ap (λ d. d.name) (sym (same_Some y j p))))
names_differ x y differ (suc (suc b)) c j k p q e = cc
names_differ x y differ zero (suc (suc c)) j k p q e = cc
names_differ x y differ (suc zero) (suc (suc c)) j k p q e = cc

-- a constructor of one alternative without operands
plain_sound : (types : List (List ℕ)) (c : ℕ) (name : List ℕ) (it : Item) → IsSoundItem [] it → item_binds it ≡ [] → IsSoundCoded types c (one_way name [] (it ∷ []))
plain_sound types c name it h e =
    let way : IsSoundAlternative [] (it ∷ []) = record { some = lit< tt; few = lit≤ tt; each = one (IsSoundItem []) it h; one = λ k h. absurd (omega arith) } in
    record { kinds = All-nil (IsKind types c); some = lit< tt; few = lit≤ tt; each = one (IsSoundAlternative []) (it ∷ []) way }

-- a token with one test
token_sound : (kinds : List OperandKind) (bits lo hi value : ℕ) → (bits ≡ 8) ⊎ (bits ≡ 16) ⊎ (bits ≡ 32) ⊎ ((bits ≡ 0) × ⊥) → lo ≤ hi → hi < bits → value < 2 ^ (hi + 1 - lo)
    → IsSoundItem kinds (token_with bits lo hi value)
token_sound kinds bits lo hi value b p q r = record {
  token = token b;
  tests = one (IsSoundTest bits) (record { lo = lo; hi = hi; equal = true; value = value }) (p, q, r);
  binds = All-nil (IsSoundBind kinds bits);
  typed = tt;
}
  where
    token : (bits ≡ 8) ⊎ (bits ≡ 16) ⊎ (bits ≡ 32) ⊎ ((bits ≡ 0) × ⊥) → IsToken bits None
    token h = elim h [ inl e ↦ inl e | inr h ↦ inr (elim h [ inl e ↦ inl e | inr h ↦ inr (elim h [ inl e ↦ inl e | inr p ↦ absurd p.1 ]) ]) ]

word_within : (t : ℕ) (name : List ℕ) (lo hi value : ℕ) → IsWithin (λ _. 0) (λ _. 4) t (one_way name [] (token_with 32 lo hi value ∷ []))
word_within t name lo hi value =
    record { numbers = lit≤ tt; bytes = one (λ items. sum_by (item_size (λ _. 4)) items ≤ 4) (token_with 32 lo hi value ∷ []) (lit≤ tt) }

pub overlapping-sound : IsSoundEncodings overlapping
overlapping-sound = record {
  count = lit≤ tt;
  types = record {
    first = lit< tt;
    type_of = λ _. 0;
    each = at_one (λ t cs. Rises cs × All (λ c. (c < 2) × ◌≡◌ {A = ℕ} 0 t) cs) (0 ∷ 1 ∷ [])
        ((one (λ d. 0 < d) 1 (lit< tt), (All-nil (λ d. 1 < d), tt)), two (λ c. (c < 2) × ◌≡◌ {A = ℕ} 0 0) 0 1 (lit< tt, refl) (lit< tt, refl));
    listed = below_two (λ c. IsOf overlapping.types 0 c) (0 ∷ 1 ∷ [], refl, refl) (0 ∷ 1 ∷ [], refl, refl);
  };
  names = names_differ _ _ (λ e. letters_differ 65 66 e (lit< tt));
  each = at_two (λ c k. IsSoundCoded overlapping.types c k) _ _
      (plain_sound overlapping.types 0 _ _ (token_sound [] 32 30 31 0 (inr (inr (inl refl))) (lit≤ tt) (lit< tt) (lit< tt)) refl)
      (plain_sound overlapping.types 1 _ _ (token_sound [] 32 0 31 0x01000000 (inr (inr (inl refl))) (lit≤ tt) (lit< tt) (lit< tt)) refl);
  most = λ _. 0;
  longest = λ _. 4;
  sizes = at_two (λ c k. IsWithin (λ _. 0) (λ _. 4) 0 k) _ _ (word_within 0 _ 30 31 0) (word_within 0 _ 0 31 0x01000000);
  few = λ _. lit≤ tt;
  short = λ _. lit≤ tt;
}

-- the byte of a register, and the register of a push
abbrev register : Item
register = record { bits = 8; tests = []; binds = record { lo = 0; hi = 7; operand = 0 } ∷ []; typed = None }

abbrev pushed : Item
pushed = record { bits = 0; tests = []; binds = []; typed = Some (record { kind = 1; operand = 0 }) }

register_sound : IsSoundItem (Field 8 ∷ []) register
register_sound = record {
  token = inl refl;
  tests = All-nil (IsSoundTest 8);
  binds = one (IsSoundBind (Field 8 ∷ []) 8) (record { lo = 0; hi = 7; operand = 0 }) (lit≤ tt, lit< tt, refl);
  typed = tt;
}

pushed_sound : IsSoundItem (Typed 1 ∷ []) pushed
pushed_sound = record { token = inr (inr (inr (refl, refl))); tests = All-nil (IsSoundTest 0); binds = All-nil (IsSoundBind (Typed 1 ∷ []) 0); typed = refl }

-- the one operand is bound once
bound_once : (items : List Item) → count_by (λ j. j == 0) (items_bind items) ≡ 1 → (k : ℕ) → k < 1 → count_by (λ j. j == k) (items_bind items) ≡ 1
bound_once items e zero h = e
bound_once items e (suc k) h = absurd (omega arith)

register_coded : IsSoundCoded nested.types 0 (one_way (82 ∷ []) (Field 8 ∷ []) (register ∷ []))
register_coded =
    let way : IsSoundAlternative (Field 8 ∷ []) (register ∷ []) =
    record { some = lit< tt; few = lit≤ tt; each = one (IsSoundItem (Field 8 ∷ [])) register register_sound; one = bound_once (register ∷ []) refl } in
    record {
      kinds = one (IsKind nested.types 0) (Field 8) (lit≤ tt, lit≤ tt);
      some = lit< tt;
      few = lit≤ tt;
      each = one (IsSoundAlternative (Field 8 ∷ [])) (register ∷ []) way;
    }

push_coded : IsSoundCoded nested.types 1 (one_way (80 ∷ []) (Typed 1 ∷ []) (token_with 8 0 7 0x50 ∷ pushed ∷ []))
push_coded =
    let way : IsSoundAlternative (Typed 1 ∷ []) (token_with 8 0 7 0x50 ∷ pushed ∷ []) = record {
      some = lit< tt;
      few = lit≤ tt;
      each = two (IsSoundItem (Typed 1 ∷ [])) _ _ (token_sound (Typed 1 ∷ []) 8 0 7 0x50 (inl refl) (lit≤ tt) (lit< tt) (lit< tt)) pushed_sound;
      one = bound_once (token_with 8 0 7 0x50 ∷ pushed ∷ []) refl;
    } in
    record {
      kinds = one (IsKind nested.types 1) (Typed 1) (0 ∷ [], refl, lit< tt, one (λ d. d < 1) 0 (lit< tt));
      some = lit< tt;
      few = lit≤ tt;
      each = one (IsSoundAlternative (Typed 1 ∷ [])) (token_with 8 0 7 0x50 ∷ pushed ∷ []) way;
    }

-- a register has one number and one byte, a push two
abbrev nested_size : ℕ → ℕ
nested_size t = 2 - t

pub nested-sound : IsSoundEncodings nested
nested-sound = record {
  count = lit≤ tt;
  types = record {
    first = lit< tt;
    type_of = λ c. 1 - c;
    each = at_two (λ t cs. Rises cs × All (λ c. (c < 2) × (1 - c ≡ t)) cs) (1 ∷ []) (0 ∷ [])
        ((All-nil (λ d. 1 < d), tt), one (λ c. (c < 2) × (1 - c ≡ 0)) 1 (lit< tt, refl))
        ((All-nil (λ d. 0 < d), tt), one (λ c. (c < 2) × (1 - c ≡ 1)) 0 (lit< tt, refl));
    listed = below_two (λ c. IsOf nested.types (1 - c) c) (0 ∷ [], refl, refl) (1 ∷ [], refl, refl);
  };
  names = names_differ _ _ (λ e. letters_differ 80 82 (sym e) (lit< tt));
  each = at_two (λ c k. IsSoundCoded nested.types c k) _ _ register_coded push_coded;
  most = nested_size;
  longest = nested_size;
  sizes = at_two (λ c k. IsWithin nested_size nested_size (1 - c) k) _ _
      (record { numbers = lit≤ tt; bytes = one (λ items. sum_by (item_size nested_size) items ≤ 1) (register ∷ []) (lit≤ tt) })
      (record { numbers = lit≤ tt; bytes = one (λ items. sum_by (item_size nested_size) items ≤ 2) (token_with 8 0 7 0x50 ∷ pushed ∷ []) (lit≤ tt) });
  few = λ t. omega arith;
  short = λ t. omega arith;
}

pub ruleset sound_samples = (overlapping-sound, nested-sound)
