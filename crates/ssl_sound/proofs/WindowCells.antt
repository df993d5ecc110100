-- Windows and the zero cell: what the tests of their lines show, and that it stays.
use Rattle.std.proofs.Common.{◌≡◌, ◌≢◌, ℕ, zero, suc, ◌+◌, ◌<◌, ◌≤◌, inl, inr, ◌&&◌, ◌||◌, Bool, true, false, not, List, ◌++◌, length, get_or, Option, Some, None, refl, sym, ap, ◌∙◌, subst, arith, length-append}
use Rattle.std.proofs.lemmas.Bool.{and_parts, or_cases, or_parts, and_from, leb-true, le-leb, lt-ltb, not-true, true≢false, both_ways}
use Rattle.std.proofs.lemmas.List.{get_or_append_left}
use Rattle.std.proofs.lemmas.Option.{none-some, same_Some, slice_get-get_or}
use Rattle.std.specs.Prelude.{slice_index, unwrap_or, nat_le, nat_lt}
use Rattle.std.specs.Option.{option_or}
use Rattle.rtl_core.specs.declared.machine.WinShape.{WinShape}
use Rattle.rtl_core.specs.SoundMachine.{AreApart}
use Rattle.ssl_rules.specs.declared.tables.Tables.{Tables}
use Rattle.ssl_rules.specs.Widths.{asked, cell_width}
use Rattle.ssl_rules.specs.Windows.{is_from, is_window_cell, are_apart, holds_zero, are_there, is_zero, are_windows, group_differs, windows_differ}
use Rattle.ssl_sound.proofs.Measures.{none_parts, asked-same}

-- so many cells from the first on are there, have 32 bits, and none is the zero cell
abbrev pub AreCells : List ℕ → Option ℕ → ℕ → ℕ → Type 0
AreCells widths zeroed first count = (i : ℕ) → i < count → (first + i < length widths) × (slice_index widths (first + i) ≡ 32) × (zeroed ≢ Some (first + i))

pub record AreFit (widths : List ℕ) (zeroed : Option ℕ) (w : WinShape) : Type 0 where
  pub some : 1 ≤ w.count
  pub few : w.count ≤ 8
  pub out : AreCells widths zeroed w.out_first w.count
  pub local : AreCells widths zeroed w.local_first w.count
  pub in_ : AreCells widths zeroed w.in_first w.count
  pub out_local : AreApart w.count w.out_first w.local_first
  pub local_in : AreApart w.count w.local_first w.in_first
  pub out_in : AreApart w.count w.out_first w.in_first

-- ---- more cells

cells-more : (widths more : List ℕ) (zeroed : Option ℕ) (first count : ℕ) → AreCells widths zeroed first count → AreCells (widths ++ more) zeroed first count
cells-more widths more zeroed first count all = λ i below.
    let h = all i below in
    let there : first + i < length widths = h.0 in
    let longer : length (widths ++ more) ≡ length widths + length more = length-append widths more in
    (omega arith, get_or_append_left widths more 0 (first + i) there ∙ h.1, h.2)

pub fit-more : (widths more : List ℕ) (zeroed : Option ℕ) (w : WinShape) → AreFit widths zeroed w → AreFit (widths ++ more) zeroed w
fit-more widths more zeroed w fit = record {
  some = fit.some;
  few = fit.few;
  out = cells-more widths more zeroed w.out_first w.count fit.out;
  local = cells-more widths more zeroed w.local_first w.count fit.local;
  in_ = cells-more widths more zeroed w.in_first w.count fit.in_;
  out_local = fit.out_local;
  local_in = fit.local_in;
  out_in = fit.out_in;
}

-- ---- zero CELL

from-at : (first count i : ℕ) → i < count → is_from first count (first + i) ≡ true
from-at first count i below =
    let low : first ≤ first + i = omega arith in
    let high : first + i < first + count = omega arith in
    and_from (nat_le first (first + i)) (nat_lt (first + i) (first + count)) (le-leb first (first + i) low) (lt-ltb (first + i) (first + count) high)

not-at : (first count z i : ℕ) → is_from first count z ≡ false → i < count → Some z ≢ Some (first + i)
not-at first count z i other below e =
    both_ways (is_from first count z) other (ap (is_from first count) (same_Some z (first + i) e) ∙ from-at first count i below)

cells-zero : (widths : List ℕ) (old : Option ℕ) (z first count : ℕ) → is_from first count z ≡ false → AreCells widths old first count → AreCells widths (Some z) first count
cells-zero widths old z first count other all = λ i below. let h = all i below in (h.0, h.1, not-at first count z i other below)

pub fit-zero : (widths : List ℕ) (old : Option ℕ) (z : ℕ) (w : WinShape) → is_window_cell w z ≡ false → AreFit widths old w → AreFit widths (Some z) w
fit-zero widths old z w other fit =
    let o = or_parts (is_from w.out_first w.count z) (is_from w.local_first w.count z || is_from w.in_first w.count z) other in
    let l = or_parts (is_from w.local_first w.count z) (is_from w.in_first w.count z) o.1 in
    record {
      some = fit.some;
      few = fit.few;
      out = cells-zero widths old z w.out_first w.count o.0 fit.out;
      local = cells-zero widths old z w.local_first w.count l.0 fit.local;
      in_ = cells-zero widths old z w.in_first w.count l.1 fit.in_;
      out_local = fit.out_local;
      local_in = fit.local_in;
      out_in = fit.out_in;
    }

-- a zero cell is there, and is no cell of the windows that are there
pub record IsZeroed (zeroed : Option ℕ) (windows : Option WinShape) : Type 0 where
  pub cell : ℕ
  pub is : zeroed ≡ Some cell
  pub apart : (w : WinShape) → windows ≡ Some w → is_window_cell w cell ≡ false

pub zero-parts : (zeroed : Option ℕ) (windows : Option WinShape) → is_zero zeroed windows ≡ true → IsZeroed zeroed windows
zero-parts None windows e = absurd (true≢false (sym e))
zero-parts (Some c) None e = record { cell = c; is = refl; apart = λ w is. absurd (none-some w is) }
zero-parts (Some c) (Some w) e =
    let other : is_window_cell w c ≡ false = not-true (is_window_cell w c) e in
    record { cell = c; is = refl; apart = λ v is. subst (λ (x : WinShape). is_window_cell x c ≡ false) (same_Some w v is) other }

-- ---- windows CELL CELL CELL N

not-zero : (zeroed : Option ℕ) (first count : ℕ) → holds_zero zeroed count first ≡ false → (i : ℕ) → i < count → zeroed ≢ Some (first + i)
not-zero None first count other i below e = none-some (first + i) e
not-zero (Some z) first count other i below e = not-at first count z i other below e

-- each of several cells has 32 bits
group-same : (t : Tables) (n first : ℕ) → group_differs t first n ≡ None → (i : ℕ) → i < n → cell_width t (first + i) ≡ 32
group-same t zero first e i below = absurd (omega arith)
group-same t (suc n) first e zero below =
    let o = none_parts (asked 32 (Some (cell_width t first))) (group_differs t (first + 1) n) e in
    let zero_ : first + 0 ≡ first = omega arith in
    ap (cell_width t) zero_ ∙ asked-same 32 (cell_width t first) o.0
group-same t (suc n) first e (suc i) below =
    let o = none_parts (asked 32 (Some (cell_width t first))) (group_differs t (first + 1) n) e in
    let next : first + suc i ≡ first + 1 + i = omega arith in
    ap (cell_width t) next ∙ group-same t n (first + 1) o.1 i (omega arith)

cells-tested : (t : Tables) (zeroed : Option ℕ) (first count : ℕ) → are_there t zeroed count first ≡ true → group_differs t first count ≡ None → AreCells t.widths zeroed first count
cells-tested t zeroed first count there same = λ i below.
    let h = and_parts (nat_le (first + count) (length t.widths)) (not (holds_zero zeroed count first)) there in
    let end : first + count ≤ length t.widths = leb-true (first + count) (length t.widths) h.0 in
    let inside : first + i < length t.widths = omega arith in
    let width : get_or t.widths (first + i) 0 ≡ cell_width t (first + i) = sym (ap (λ o. unwrap_or o 0) (slice_get-get_or t.widths (first + i) 0 inside)) in
    (inside, width ∙ group-same t count first same i below, not-zero zeroed first count (not-true (holds_zero zeroed count first) h.1) i below)

apart-tested : (count a b : ℕ) → are_apart count a b ≡ true → AreApart count a b
apart-tested count a b e =
    elim (or_cases (nat_le (a + count) b) (nat_le (b + count) a) e) [
      | inl h ↦ inl (leb-true (a + count) b h)
      | inr h ↦ inr (leb-true (b + count) a h)
    ]

pub windows-tested : (t : Tables) (zeroed : Option ℕ) (w : WinShape) → are_windows t zeroed w ≡ true → windows_differ t w ≡ None → AreFit t.widths zeroed w
windows-tested t zeroed w tested same =
    let n : ℕ = w.count in
    let sizes : Bool = nat_le 1 n && nat_le n 8 in
    let places : Bool = are_there t zeroed n w.out_first && (are_there t zeroed n w.local_first && are_there t zeroed n w.in_first) in
    let aparts : Bool = are_apart n w.out_first w.local_first && (are_apart n w.local_first w.in_first && are_apart n w.out_first w.in_first) in
    let all = and_parts (sizes && places) aparts tested in
    let first = and_parts sizes places all.0 in
    let size = and_parts (nat_le 1 n) (nat_le n 8) first.0 in
    let p = and_parts (are_there t zeroed n w.out_first) (are_there t zeroed n w.local_first && are_there t zeroed n w.in_first) first.1 in
    let q = and_parts (are_there t zeroed n w.local_first) (are_there t zeroed n w.in_first) p.1 in
    let a = and_parts (are_apart n w.out_first w.local_first) (are_apart n w.local_first w.in_first && are_apart n w.out_first w.in_first) all.1 in
    let b = and_parts (are_apart n w.local_first w.in_first) (are_apart n w.out_first w.in_first) a.1 in
    let d = none_parts (group_differs t w.out_first n) (option_or (group_differs t w.local_first n) (group_differs t w.in_first n)) same in
    let e = none_parts (group_differs t w.local_first n) (group_differs t w.in_first n) d.1 in
    record {
      some = leb-true 1 n size.0;
      few = leb-true n 8 size.1;
      out = cells-tested t zeroed w.out_first n p.0 d.0;
      local = cells-tested t zeroed w.local_first n q.0 e.0;
      in_ = cells-tested t zeroed w.in_first n q.1 e.1;
      out_local = apart-tested n w.out_first w.local_first a.0;
      local_in = apart-tested n w.local_first w.in_first b.0;
      out_in = apart-tested n w.out_first w.in_first b.1;
    }
