-- The rules of `uq_machine`, by the two tests that the code makes of it.
use Rattle.std.proofs.Common.{◌≡◌, ℕ, Bool, true, false, ◌&&◌, [], ◌∷◌, length, Option, Some, None, refl, sym, ap, ◌∙◌}
use Rattle.std.specs.Prelude.{◌==◌, nat_le, slice_index, not}
use Rattle.std.proofs.lemmas.Bool.{eqb-true}
use Rattle.c_lang.specs.Items.{Text, Array, Machine}
use Rattle.c_lang.specs.StaticRules.{broken_by, first_failed, heap_range, is_below_end, is_flag, is_whole, most_heap, most_stack, placed, share_byte, sized, stack_range}
use Rattle.c_rules.specs.Spans.{HasAreas}

-- the least rule by the tests of sizes and of places
abbrev outcome : Bool → Bool → Option ℕ
outcome s p = first_failed 1 (true ∷ true ∷ true ∷ s ∷ p ∷ true ∷ [])

module _ (t : Text) (a : Array) (s : Bool) (e : s ≡ sized t (Machine a)) where
  pub not_sized : s ≡ false → Some 4 ≡ broken_by t (Machine a)
  not_sized f = ap (λ b. outcome b (placed t (Machine a))) (sym f ∙ e)

  module _ (p : Bool) (g : p ≡ placed t (Machine a)) (is : s ≡ true) where
    pub not_placed : p ≡ false → Some 5 ≡ broken_by t (Machine a)
    not_placed f = ap (λ b. outcome b false) (sym is ∙ e) ∙ ap (λ b. outcome (sized t (Machine a)) b) (sym f ∙ g)

    pub all_kept : p ≡ true → None ≡ broken_by t (Machine a)
    all_kept f = ap (λ b. outcome b true) (sym is ∙ e) ∙ ap (λ b. outcome (sized t (Machine a)) b) (sym f ∙ g)

-- ---- what the rules give

-- a text of one array
abbrev alone : Array → Text
alone a = record { machine = a; segments = []; table = a; prototypes = []; functions = []; entry = 0; first = [] }

second_of : (a b c d e : Bool) → (a && b && c && d && e) ≡ true → b ≡ true
second_of true true c d e h = refl
second_of true false c d e h = absurd cc
second_of false b c d e h = absurd cc

long_by : (a : Array) → sized (alone a) (Machine a) ≡ true → length a.numbers ≡ 14
long_by a h =
    eqb-true (length a.numbers) 14
    (second_of (is_whole a) (length a.numbers == 14) (is_flag (slice_index a.numbers 0)) (is_flag (slice_index a.numbers 1)) (is_flag (slice_index a.numbers 13)) h)

pub is_long : (a : Array) (s : Bool) → ((t : Text) → s ≡ sized t (Machine a)) → s ≡ true → length a.numbers ≡ 14
is_long a s e h = long_by a (sym (e (alone a)) ∙ h)

both_kept : (s p : Bool) → None ≡ outcome s p → (s ≡ true) × (p ≡ true)
both_kept true true e = (refl, refl)
both_kept true false e = absurd cc
both_kept false p e = absurd cc

inner_two : (a b c d e : Bool) → (a && b && (c && (d && true)) && e) ≡ true → (c ≡ true) × (d ≡ true)
inner_two true true true true e h = (refl, refl)
inner_two true true true false e h = absurd cc
inner_two true true false d e h = absurd cc
inner_two true false c d e h = absurd cc
inner_two false b c d e h = absurd cc

pub areas : (a : Array) → ((t : Text) → None ≡ broken_by t (Machine a)) → HasAreas a
areas a h =
    let k = both_kept (sized (alone a) (Machine a)) (placed (alone a) (Machine a)) (h (alone a)) in
    let l =
    inner_two (nat_le (heap_range a).len most_heap) (nat_le (stack_range a).len most_stack) (is_below_end (heap_range a)) (is_below_end (stack_range a))
    (not (share_byte (heap_range a) (stack_range a))) k.1 in
    record { long = long_by a k.0; heap = l.0; stack = l.1 }
