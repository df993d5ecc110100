-- What holds of an executable where a check finds no fault.
use Rattle.std.proofs.Common.{◌≡◌, ℕ, ◌+◌, ◌-◌, ◌^◌, ◌<◌, ◌≤◌, min, max, Bool, true, false, ltb, eqb, not, List, [], ◌∷◌, ◌++◌, length, get_or, take, drop, map, sum_by, slice_index, filter, All, AllPairs, Option, Some, None, is_some, Result, Ok, refl, sym, ap, ◌∙◌, subst, append_assoc, inl, inr, ◌*◌, arith}
use Rattle.std.specs.Bool.{then_some}
use Rattle.std.specs.List.{list_any}
use Rattle.std.specs.Option.{option_or}
use Rattle.std.proofs.lemmas.Bool.{ltb-false, not-false, eqb-true, and_cases, or_parts}
use Rattle.std.proofs.lemmas.List.{drop_more, take_more, drop_all, get_or-map, length-map, length-take, append-nil}
use Rattle.std.proofs.lemmas.List.Elements.{All-nil, All-push, All-map, All-weaker}
use Rattle.std.proofs.lemmas.List.Sums.{sum_by-cons}
use Rattle.std.proofs.lemmas.List.Quantifiers.{all_pairs_push}
use Rattle.rtl_core.specs.declared.conv.Conv.{Conv}
use Rattle.rtl_core.specs.declared.expr.Order.{Order}
use Rattle.elf32.specs.declared.elf.Segment.{Segment}
use Rattle.elf32.specs.declared.fault.ElfFault.{ElfFault}
use Rattle.elf32.specs.declared.fault.ElfFault.TheVariants as faults
use Rattle.elf32.specs.declared.headers.ProgramHeader.{ProgramHeader}
use Rattle.elf32.specs.Headers.{file_type, machine_kind, header_count, headers_at, headers, is_load, loads, entry}
use Rattle.elf32.specs.Faults.{has_magic, order_byte, header_fault, interp_fault, end_of, shares_byte, load_fault, loads_fault, total, image_fault, first_fault, are_headers_cut}
use Rattle.elf32.proofs.SpanLaws.{none_at}
use Rattle.elf32.specs.Reading.{segment_of, contents, unless, elf_of, AreApart, AreLoadable}
use Rattle.elf32.specs.Symbols.{symbols}
use Rattle.elf32.specs.declared.elf.Elf.{Elf}

-- ---- one list of checks

none_first : {X : Type 0} (a b : Option X) → option_or a b ≡ None → a ≡ None
none_first None b e = refl
none_first (Some x) b e = cc

none_rest : {X : Type 0} (a b : Option X) → option_or a b ≡ None → b ≡ None
none_rest None b e = e
none_rest (Some x) b e = cc

untold : {X : Type 0} (b : Bool) (x : X) → then_some b x ≡ None → b ≡ false
untold true x e = cc
untold false x e = refl

-- ---- segments

-- what a segment without fault keeps
pub record Passes (len : ℕ) (before : List ProgramHeader) (h : ProgramHeader) : Type 0 where
  pub whole : h.offset + h.file_size ≤ len
  pub sizes : h.file_size ≤ h.memory_size
  pub range : end_of h ≤ 2 ^ 32
  pub apart : list_any (shares_byte h) before ≡ false

pub passes : (len : ℕ) (before : List ProgramHeader) (h : ProgramHeader) → load_fault len before h ≡ None → Passes len before h
unfolding load_fault
passes len before h none =
    let rest = none_rest _ _ none in
    let rest2 = none_rest _ _ rest in
    let rest3 = none_rest _ _ rest2 in
    record {
      whole = ltb-false _ _ (untold _ _ (none_first _ _ none));
      sizes = ltb-false _ _ (untold _ _ (none_first _ _ rest));
      range = ltb-false _ _ (untold _ _ (none_first _ _ rest2));
      apart = untold _ _ (none_first _ _ rest3);
    }

-- the walk over the segments, one step on
loads_fault-cons : (len : ℕ) (before : List ProgramHeader) (h : ProgramHeader) (hs : List ProgramHeader) → loads_fault len before (h ∷ hs) ≡ option_or (load_fault len before h) (loads_fault len (before ++ h ∷ []) hs)
unfolding loads_fault
loads_fault-cons len before h hs = refl

loads_fault_step : (len : ℕ) (hs : List ProgramHeader) (i : ℕ) (d : ProgramHeader) → i < length hs → loads_fault len (take i hs) (drop i hs) ≡ option_or (load_fault len (take i hs) (get_or hs i d)) (loads_fault len (take (i + 1) hs) (drop (i + 1) hs))
loads_fault_step len hs i d lt =
    ap (loads_fault len (take i hs)) (drop_more hs i d lt)
    ∙ loads_fault-cons len (take i hs) (get_or hs i d) (drop (i + 1) hs)
    ∙ ap (λ xs. option_or (load_fault len (take i hs) (get_or hs i d)) (loads_fault len xs (drop (i + 1) hs))) (sym (take_more hs i d lt))

pub loads_fault_more : (len : ℕ) (hs : List ProgramHeader) (i : ℕ) (d : ProgramHeader) → i < length hs → load_fault len (take i hs) (get_or hs i d) ≡ None → loads_fault len (take i hs) (drop i hs) ≡ loads_fault len (take (i + 1) hs) (drop (i + 1) hs)
loads_fault_more len hs i d lt none =
    loads_fault_step len hs i d lt ∙ ap (λ o. option_or o (loads_fault len (take (i + 1) hs) (drop (i + 1) hs))) none

pub loads_fault_found : (len : ℕ) (hs : List ProgramHeader) (i : ℕ) (d : ProgramHeader) (fault : ElfFault) → i < length hs → load_fault len (take i hs) (get_or hs i d) ≡ Some fault → loads_fault len (take i hs) (drop i hs) ≡ Some fault
loads_fault_found len hs i d fault lt found =
    loads_fault_step len hs i d lt ∙ ap (λ o. option_or o (loads_fault len (take (i + 1) hs) (drop (i + 1) hs))) found

pub loads_fault_end : (len : ℕ) (before hs : List ProgramHeader) (i : ℕ) → length hs ≤ i → loads_fault len before (drop i hs) ≡ None
unfolding loads_fault
loads_fault_end len before hs i le = ap (loads_fault len before) (drop_all i hs le)

-- the walk stops at a segment with a fault, and goes on behind one without
pub found_here : (len : ℕ) (hs : List ProgramHeader) (i : ℕ) (d : ProgramHeader) (o : Option ElfFault) → i < length hs → is_some o ≡ true → o ≡ load_fault len (take i hs) (get_or hs i d) → o ≡ loads_fault len (take i hs) (drop i hs)
found_here len hs i d None lt some is = cc
found_here len hs i d (Some fault) lt some is = sym (loads_fault_found len hs i d fault lt (sym is))

pub none_here : (o : Option ElfFault) → is_some o ≡ false → o ≡ None
none_here None none = refl
none_here (Some fault) none = cc

-- segments of which none has a fault
pub record AreGood (len : ℕ) (hs : List ProgramHeader) : Type 0 where
  pub apart : AllPairs (λ g h. shares_byte h g ≡ false) hs
  pub whole : All (λ h. h.offset + h.file_size ≤ len) hs
  pub sizes : All (λ h. h.file_size ≤ h.memory_size) hs
  pub range : All (λ h. end_of h ≤ 2 ^ 32) hs

good_more : (len : ℕ) (before : List ProgramHeader) (h : ProgramHeader) → AreGood len before → Passes len before h → AreGood len (before ++ h ∷ [])
good_more len before h good pass = record {
  apart = all_pairs_push (λ g h. shares_byte h g ≡ false) before h good.apart (λ k d lt. none_at (shares_byte h) before k d lt pass.apart);
  whole = All-push (λ h. h.offset + h.file_size ≤ len) before h good.whole pass.whole;
  sizes = All-push (λ h. h.file_size ≤ h.memory_size) before h good.sizes pass.sizes;
  range = All-push (λ h. end_of h ≤ 2 ^ 32) before h good.range pass.range;
}

good_all : (len : ℕ) (before hs : List ProgramHeader) → AreGood len before → loads_fault len before hs ≡ None → AreGood len (before ++ hs)
good_all len before [] good none = subst (AreGood len) (sym (append-nil before)) good
good_all len before (h ∷ hs) good none =
    let step = sym (loads_fault-cons len before h hs) ∙ none in
    let pass = passes len before h (none_first _ _ step) in
    subst (AreGood len) (append_assoc before (h ∷ []) hs) (good_all len (before ++ h ∷ []) hs (good_more len before h good pass) (none_rest _ _ step))

pub good : (len : ℕ) (hs : List ProgramHeader) → loads_fault len [] hs ≡ None → AreGood len hs
good len hs none = good_all len [] hs (record {
  apart = λ i j d l h. absurd (omega arith);
  whole = All-nil (λ h. h.offset + h.file_size ≤ len);
  sizes = All-nil (λ h. h.file_size ≤ h.memory_size);
  range = All-nil (λ h. end_of h ≤ 2 ^ 32);
}) none

-- ---- the image

-- segments without fault, seen as segments
empty : ProgramHeader
empty = record { index = 0; kind = 0; offset = 0; address = 0; file_size = 0; memory_size = 0; flags = 0 }

apart_from : (file : List ℕ) (g h : ProgramHeader) → shares_byte h g ≡ false → AreApart (segment_of file g) (segment_of file h)
apart_from file g h none a in_g in_h =
    let apart : min (end_of h) (end_of g) ≤ max h.address g.address = ltb-false _ _ none in
    omega arith

pairs_map : {X Y : Type 0} (f : X → Y) (R : Y → Y → Type 0) (xs : List X) (d : X) → AllPairs (λ x y. R (f x) (f y)) xs → AllPairs R (map f xs)
pairs_map f R xs d pairs i j e lt in_list =
    let long = length-map xs f in
    rw (get_or-map f xs i d e (omega arith), get_or-map f xs j d e (omega arith)) (pairs i j d lt (omega arith))

total_map : (file : List ℕ) (hs : List ProgramHeader) → sum_by (λ s. s.len) (map (segment_of file) hs) ≡ total hs
total_map file [] = refl
total_map file (h ∷ hs) =
    sum_by-cons (λ (s : Segment). s.len) (segment_of file h) (map (segment_of file) hs)
    ∙ ap (λ n. h.memory_size + n) (total_map file hs)
    ∙ sym (sum_by-cons (λ (g : ProgramHeader). g.memory_size) h hs)

bytes_fit : (file : List ℕ) (h : ProgramHeader) → h.file_size ≤ h.memory_size → length (segment_of file h).bytes ≤ (segment_of file h).len
bytes_fit file h le =
    let size = length-take (h.offset + h.file_size - h.offset) (drop h.offset file) in
    omega arith

pub loadable : (file : List ℕ) (hs : List ProgramHeader) (a : ℕ) → loads_fault (length file) [] hs ≡ None → image_fault a hs ≡ None → AreLoadable (map (segment_of file) hs)
unfolding image_fault
loadable file hs a none image =
    let fine = good (length file) hs none in
    let small : total hs ≤ 16777216 = ltb-false _ _ (untold _ _ (none_first _ _ (none_rest _ _ image))) in
    record {
      apart = pairs_map (segment_of file) AreApart hs empty (λ i j d lt h. apart_from file (get_or hs i d) (get_or hs j d) (fine.apart i j d lt h));
      ends = All-map (λ s. s.base + s.len ≤ 2 ^ 32) (segment_of file) hs fine.range;
      bytes = All-map (λ s. length s.bytes ≤ s.len) (segment_of file) hs (All-weaker (λ h. h.file_size ≤ h.memory_size) (λ h. length (segment_of file h).bytes ≤ (segment_of file h).len) (bytes_fit file) hs fine.sizes);
      size = subst (λ n. n ≤ 16777216) (sym (total_map file hs)) small;
    }

-- every check of an executable without fault
pub record NoFault (file : List ℕ) (conv : Conv) (order : Order) : Type 0 where
  pub header : header_fault file conv order ≡ None
  pub interp : interp_fault (headers order file) ≡ None
  pub loads_pass : loads_fault (length file) [] (loads order file) ≡ None
  pub image : image_fault (entry order file) (loads order file) ≡ None

pub no_fault : (file : List ℕ) (conv : Conv) (order : Order) → first_fault file conv order ≡ None → NoFault file conv order
unfolding first_fault
no_fault file conv order none =
    let rest = none_rest _ _ none in
    let rest2 = none_rest _ _ rest in
    record {
      header = none_first _ _ none;
      interp = none_first _ _ rest;
      loads_pass = none_first _ _ rest2;
      image = none_first _ _ (none_rest _ _ rest2);
    }

-- what an executable without fault denotes can be loaded
pub loadable_elf : (file : List ℕ) (conv : Conv) (order : Order) → first_fault file conv order ≡ None → AreLoadable (map (segment_of file) (loads order file))
loadable_elf file conv order none =
    let checks = no_fault file conv order none in
    loadable file (loads order file) (entry order file) checks.loads_pass checks.image

-- ---- the file header

-- a file header without fault: it is whole, and so are the program headers
pub record IsWhole (file : List ℕ) (order : Order) : Type 0 where
  pub long : 52 ≤ length file
  pub headers_lie : 0 < header_count order file → headers_at order file + 32 * header_count order file ≤ length file

headers_whole : (order : Order) (file : List ℕ) → are_headers_cut order file ≡ false → 0 < header_count order file → headers_at order file + 32 * header_count order file ≤ length file
headers_whole order file uncut some =
    elim (and_cases _ _ uncut) [
      | inl none ↦ absurd (none_there (header_count order file) none some)
      | inr rest ↦ ltb-false _ _ ((or_parts _ _ rest).1)
    ]
  where
    none_there : (n : ℕ) → not (eqb n 0) ≡ false → 0 < n → ⊥
    none_there n e lt = let zero_is : n ≡ 0 = eqb-true n 0 (not-false _ e) in omega arith

pub header_passes : (file : List ℕ) (conv : Conv) (order : Order) → header_fault file conv order ≡ None → IsWhole file order
unfolding header_fault
header_passes file conv order none =
    let rest = none_rest (then_some (ltb (length file) 52) faults.Short) _ none in
    let rest2 = none_rest (then_some (not (has_magic file)) faults.Magic) _ rest in
    let rest3 = none_rest (then_some (not (eqb (slice_index file 4) 1)) faults.Class) _ rest2 in
    let rest4 = none_rest (then_some (not (eqb (slice_index file 5) (order_byte order))) faults.Order) _ rest3 in
    let rest5 = none_rest (then_some (not (eqb (file_type order file) 2)) (faults.FileType (file_type order file))) _ rest4 in
    let rest6 = none_rest (then_some (not (eqb (machine_kind order file) conv.elf)) (faults.MachineKind (machine_kind order file))) _ rest5 in
    record {
      long = ltb-false (length file) 52 (untold (ltb (length file) 52) faults.Short (none_first (then_some (ltb (length file) 52) faults.Short) _ none));
      headers_lie = headers_whole order file (untold (are_headers_cut order file) faults.HeadersCut (none_first (then_some (are_headers_cut order file) faults.HeadersCut) None rest6));
    }

-- ---- all checks

-- the first fault, where the checks before it find none
pub fault_of_loads : (file : List ℕ) (conv : Conv) (order : Order) (fault : ElfFault) → header_fault file conv order ≡ None → interp_fault (headers order file) ≡ None → loads_fault (length file) [] (loads order file) ≡ Some fault → first_fault file conv order ≡ Some fault
unfolding first_fault
fault_of_loads file conv order fault header interp found = rw (header, interp, found) refl

pub fault_of_image : (file : List ℕ) (conv : Conv) (order : Order) (o : Option ElfFault) → header_fault file conv order ≡ None → interp_fault (headers order file) ≡ None → loads_fault (length file) [] (loads order file) ≡ None → image_fault (entry order file) (loads order file) ≡ o → first_fault file conv order ≡ o
unfolding first_fault
fault_of_image file conv order None header interp passed found = rw (header, interp, passed, found) refl
fault_of_image file conv order (Some fault) header interp passed found = rw (header, interp, passed, found) refl

-- a file without fault has a file header, and the bytes of its segments
pub is_long : (file : List ℕ) (conv : Conv) (order : Order) → first_fault file conv order ≡ None → 52 ≤ length file
is_long file conv order none = (header_passes file conv order (no_fault file conv order none).header).long

pub loads_whole : (file : List ℕ) (conv : Conv) (order : Order) → first_fault file conv order ≡ None → All (λ h. h.offset + h.file_size ≤ length file) (loads order file)
loads_whole file conv order none = (good (length file) (loads order file) (no_fault file conv order none).loads_pass).whole

-- the headers of the segments, as the code takes them
pub loads_are : (order : Order) (file : List ℕ) (hs : List ProgramHeader) → hs ≡ headers order file → filter is_load hs ≡ loads order file
unfolding loads
loads_are order file hs is = ap (filter is_load) is

-- what a file without fault denotes
pub denoted : (file : List ℕ) (conv : Conv) (order : Order) (elf : Elf) → first_fault file conv order ≡ None → elf.entry ≡ entry order file → elf.segments ≡ map (segment_of file) (loads order file) → elf.symbols ≡ symbols order file → elf_of file conv order ≡ Ok elf
unfolding contents
denoted file conv order elf none is_entry is_segments is_symbols =
    let found : Elf = contents order file in
    let by_entry : ℕ → Result Elf ElfFault = λ e. Ok (record { entry = e; segments = found.segments; symbols = found.symbols }) in
    let by_segments : List Segment → Result Elf ElfFault = λ s. Ok (record { entry = elf.entry; segments = s; symbols = found.symbols }) in
    let by_symbols : List ℕ → Result Elf ElfFault = λ s. Ok (record { entry = elf.entry; segments = elf.segments; symbols = s }) in
    ap (λ o. unless o found) none ∙ ap by_entry (sym is_entry) ∙ ap by_segments (sym is_segments) ∙ ap by_symbols (sym is_symbols)
