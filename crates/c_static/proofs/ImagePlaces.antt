-- The segments of an executable are parts in their places.
use Rattle.std.proofs.Common.{◌≡◌, ◌+◌, ◌^◌, ◌<◌, ◌≤◌, false, List, [], ◌∷◌, map, length, inl, inr, refl, sym, ap, ◌∙◌, subst, arith, get_or}
use Rattle.std.specs.Prelude.{All, sum_by}
use Rattle.std.proofs.lemmas.List.{get_or-map, length-map}
use Rattle.std.proofs.lemmas.List.Elements.{All-nil, All-cons, All-head, All-tail}
use Rattle.std.proofs.lemmas.List.Sums.{sum_by-cons}
use Rattle.rtl_core.specs.FirstMemory.{Part, area}
use Rattle.elf32.specs.declared.elf.Segment.{Segment}
use Rattle.load_image.specs.Areas.{SharesByte}
use Rattle.load_image.specs.Mapped.{segment_part}
use Rattle.c_static.specs.Images.{SegmentsArePlaced}
use Rattle.c_static.specs.Laws.{AreApart}

-- what holds of the part of each segment holds of all parts
each-part : (Q : Segment → Type 0) (P : Part → Type 0) → ((s : Segment) → Q s → P (segment_part s)) → (ss : List Segment) → All Q ss → All P (map segment_part ss)
each-part Q P f [] h = All-nil P
each-part Q P f (s ∷ ss) h = All-cons P (segment_part s) (map segment_part ss) (f s (All-head Q s ss h)) (each-part Q P f ss (All-tail Q s ss h))

total-is : (ss : List Segment) → sum_by (λ p. p.len) (map segment_part ss) ≡ sum_by (λ s. s.len) ss
total-is [] = refl
total-is (s ∷ ss) = sum_by-cons (λ (p : Part). p.len) (segment_part s) (map segment_part ss) ∙ ap (λ n. s.len + n) (total-is ss) ∙ sym (sum_by-cons (λ (x : Segment). x.len) s ss)

no_segment : Segment
no_segment = record { header = 0; base = 0; len = 0; write = false; exec = false; bytes = [] }

pub segments-are-placed : SegmentsArePlaced
segments-are-placed conv segments loadable beside =
    let parts = map segment_part segments in
    let few = loadable.size in
    let total = total-is segments in
    record {
      apart = λ i j d lt within.
          let size = length-map segments segment_part in
          let in_segments : j < length segments = omega (arith, within, size) in
          let at_i = get_or-map segment_part segments i no_segment d (omega (arith, lt, in_segments)) in
          let at_j = get_or-map segment_part segments j no_segment d in_segments in
          subst (λ p. AreApart p (get_or parts j d)) (sym at_i) (subst (λ p. AreApart (segment_part (get_or segments i no_segment)) p) (sym at_j) (loadable.apart i j no_segment lt in_segments));
      from_heap = each-part (λ s. ¬ SharesByte conv s) (AreApart (area conv.heap_base conv.heap_size)) (λ s not a in_area in_part. not (record { address = a; in_segment = in_part; in_area = inl in_area })) segments beside;
      from_stack = each-part (λ s. ¬ SharesByte conv s) (AreApart (area conv.stack_base conv.stack_size)) (λ s not a in_area in_part. not (record { address = a; in_segment = in_part; in_area = inr in_area })) segments beside;
      ends = each-part (λ s. s.base + s.len ≤ 2 ^ 32) (λ p. p.base + p.len ≤ 2 ^ 32) (λ s le. le) segments loadable.ends;
      bytes = each-part (λ s. length s.bytes ≤ s.len) (λ p. length p.bytes ≤ p.len) (λ s le. le) segments loadable.bytes;
      size = omega (arith, few, total);
    }
