-- The rule on segments and areas, by the spans that the code makes of them.
use Rattle.std.proofs.Common.{◌≡◌, ℕ, ◌+◌, ◌^◌, Bool, true, false, ◌&&◌, List, [], ◌∷◌, ◌++◌, map, Option, Some, refl, sym, ap, ◌∙◌, subst, append_assoc}
use Rattle.std.specs.Prelude.{nat_le, option_map, sum_by}
use Rattle.std.specs.List.{All, list_all}
use Rattle.std.proofs.lemmas.Bool.{le-leb, leb-true}
use Rattle.std.proofs.lemmas.List.{map_push}
use Rattle.std.proofs.lemmas.List.Elements.{All-head, All-push, All-tail}
use Rattle.std.proofs.lemmas.List.Sums.{sum_by-cons}
use Rattle.c_lang.specs.Items.{Array}
use Rattle.c_lang.specs.StaticRules.{Range, heap_range, is_below_end, most_image, no_two, segment_ranges, share_byte, stack_range}
use Rattle.c_rules.specs.declared.spans.Span.{Span}
use Rattle.c_rules.specs.Spans.{AreSpans, EndsBelow, HasAreas, is_placed, range}

-- what the spans of the rows tell, read from an equal list
pub spans_of : {V : Type 0} (ns ms : List ℕ) (found : Option V) (v : V) (items : V → List Span) → ns ≡ ms → AreSpans ns (option_map items found) → found ≡ Some v → AreSpans ms (Some (items v))
spans_of ns ms found v items same are is =
    let some : AreSpans ns (Some (items v)) = subst (λ o. AreSpans ns (option_map items o)) is are in
    subst (λ ks. AreSpans ks (Some (items v))) same some

all_below : (spans : List Span) → All EndsBelow spans → list_all is_below_end (map range spans) ≡ true
all_below [] h = refl
all_below (s ∷ spans) h = rw (le-leb (s.base + s.len) (2 ^ 32) (All-head EndsBelow s spans h)) (all_below spans (All-tail EndsBelow s spans h))

sum_ranges : (spans : List Span) → sum_by (λ r. r.len) (map range spans) ≡ sum_by (λ s. s.len) spans
sum_ranges [] = refl
sum_ranges (s ∷ spans) =
    sum_by-cons (λ (r : Range). r.len) (range s) (map range spans) ∙ ap (λ n. s.len + n) (sum_ranges spans) ∙ sym (sum_by-cons (λ (x : Span). x.len) s spans)

abbrev both_areas : Array → List Range
both_areas machine = heap_range machine ∷ stack_range machine ∷ []

placed_by : (machine : Array) (spans : List Span) (rs : List Range) → map range spans ≡ rs → All EndsBelow spans
    → (list_all is_below_end rs && nat_le (sum_by (λ r. r.len) rs) most_image && no_two share_byte (rs ++ both_areas machine))
    ≡ (nat_le (sum_by (λ s. s.len) spans) most_image && no_two share_byte (map range spans ++ both_areas machine))
placed_by machine spans rs e below =
    ap (λ qs. list_all is_below_end qs && nat_le (sum_by (λ r. r.len) qs) most_image && no_two share_byte (qs ++ both_areas machine)) (sym e) ∙ rw (all_below spans below, sum_ranges spans) refl

module _ (machine table : Array) (spans : List Span) (small : Bool) (are : AreSpans table.numbers (Some spans)) (is : small ≡ nat_le (sum_by (λ s. s.len) spans) most_image) where
  whole : is_placed machine table ≡ (small && no_two share_byte (map range spans ++ both_areas machine))
  whole = placed_by machine spans (segment_ranges table) are.0 are.1 ∙ ap (λ b. b && no_two share_byte (map range spans ++ both_areas machine)) (sym is)

  pub too_large : small ≡ false → false ≡ is_placed machine table
  too_large e = sym (whole ∙ ap (λ b. b && no_two share_byte (map range spans ++ both_areas machine)) e)

  pub lie_placed : (all : List Span) (apart : Bool) → small ≡ true → map range all ≡ map range spans ++ both_areas machine → apart ≡ no_two share_byte (map range all) → apart ≡ is_placed machine table
  lie_placed all apart e same h = h ∙ ap (no_two share_byte) same ∙ sym (whole ∙ ap (λ b. b && no_two share_byte (map range spans ++ both_areas machine)) e)

-- ---- the spans with those of the areas

ends : (s : Span) (r : Range) → range s ≡ r → is_below_end r ≡ true → EndsBelow s
ends s r e h = leb-true (s.base + s.len) (2 ^ 32) (subst (λ q. is_below_end q ≡ true) (sym e) h)

module _ (machine : Array) (areas : HasAreas machine) (spans one two : List Span) (heap stack : Span) (first : one ≡ spans ++ heap ∷ []) (second : two ≡ one ++ stack ∷ []) (heap_is : range heap ≡ heap_range machine) (stack_is : range stack ≡ stack_range machine) where
  pub all_end : All EndsBelow spans → All EndsBelow two
  all_end h =
      let more : All EndsBelow one = subst (All EndsBelow) (sym first) (All-push EndsBelow spans heap h (ends heap (heap_range machine) heap_is areas.heap)) in
      subst (All EndsBelow) (sym second) (All-push EndsBelow one stack more (ends stack (stack_range machine) stack_is areas.stack))

  pub all_ranges : map range two ≡ map range spans ++ both_areas machine
  all_ranges =
      ap (map range) second ∙ map_push range one stack ∙ ap (λ ss. map range ss ++ range stack ∷ []) first ∙ ap (λ rs. rs ++ range stack ∷ []) (map_push range spans heap)
      ∙ append_assoc (map range spans) (range heap ∷ []) (range stack ∷ []) ∙ (λ i. map range spans ++ heap_is i ∷ stack_is i ∷ [])
