-- The tokens of arrays determine their numbers, those the header and the segments, and those of `uq_main` the first call.
use Rattle.std.proofs.Common.{◌≡◌, ℕ, ◌+◌, ◌<◌, ◌^◌, Bool, true, false, List, [], ◌∷◌, ◌++◌, length, drop, map, get_or, refl, sym, ap, ◌∙◌, arith, append_assoc}
use Rattle.std.specs.Prelude.{codes}
use Rattle.rtl_core.specs.declared.expr.Order.{Order}
use Rattle.rtl_core.specs.declared.expr.Order.TheVariants.{Little, Big}
use Rattle.c_lang.specs.declared.tree.CSeg.{CSeg}
use Rattle.c_lang.specs.declared.tree.Header.{Header}
use Rattle.rtl_core.specs.Arithmetic.{flag}
use Rattle.c_lang.specs.Items.{Array, or_zero, segment_array, order_number, header_numbers, table_numbers}
use Rattle.c_text.proofs.Parts.{segments_toks}
use Rattle.c_text.specs.Tokens.{Token, name, plain, long, word, mark}
use Rattle.c_text.specs.Words.{function_word, segment_word}
use Rattle.c_text.specs.Expressions.{listed}
use Rattle.c_text.specs.Items.{array_toks, main_toks}
use Rattle.c_unique.proofs.Alike.{Alike}
use Rattle.c_unique.proofs.Names.{function_same}
use Rattle.c_unique.proofs.Rows.{first_letter, Each, each_all, Sure, no_comma, listed_same, commas_same}

-- ---- arrays

abbrev plain_number : ℕ → List Token
plain_number n = plain n ∷ []

abbrev long_number : ℕ → List Token
long_number n = long n ∷ []

-- a number needs nothing more
abbrev Any : ℕ → Type 0
Any n = Unit {0}

any : (ns : List ℕ) → Each Any ns
any ns = each_all Any (λ n. tt) ns

plain_same : (n : ℕ) → Sure plain_number Any n
plain_same n m r s h k e = record { same = cc; rest = ap (drop 1) e }

long_same : (n : ℕ) → Sure long_number Any n
long_same n m r s h k e = record { same = cc; rest = ap (drop 1) e }

no_plain_closes : (r : List Token) (n : ℕ) (t : List Token) → Any n → plain_number n ++ t ≡ mark "}" ∷ r → ⊥
no_plain_closes r n t h e = cc

no_comma_closes : (r t : List Token) → mark "," ∷ t ≡ mark "}" ∷ r → ⊥
no_comma_closes r t e = let letters = ap first_letter e in omega (arith, letters)

-- the tokens of an array and those behind it
abbrev spell_array : List ℕ → List ℕ → Array → List Token → List Token
spell_array of_type named a r =
    word "const" ∷ name of_type ∷ name named ∷ mark "[" ∷ plain a.declared ∷ mark "]" ∷ mark "=" ∷ mark "{" ∷ (listed plain_number a.numbers ++ mark "}" ∷ mark ";" ∷ r)

spelled_array : (of_type named : List ℕ) (a : Array) (r : List Token) → array_toks of_type named a ++ r ≡ spell_array of_type named a r
spelled_array of_type named a r =
    ap (λ ts. word "const" ∷ name of_type ∷ name named ∷ mark "[" ∷ plain a.declared ∷ mark "]" ∷ mark "=" ∷ mark "{" ∷ ts) (append_assoc (listed plain_number a.numbers) (mark "}" ∷ mark ";" ∷ []) r)

pub array_same : (t n u m : List ℕ) (a b : Array) (r s : List Token) → array_toks t n a ++ r ≡ array_toks u m b ++ s → Alike a b r s
array_same t n u m a b r s e =
    let forms : spell_array t n a r ≡ spell_array u m b s = sym (spelled_array t n a r) ∙ e ∙ spelled_array u m b s in
    let lengths : a.declared ≡ b.declared = cc in
    let all = listed_same plain_number Any a.numbers b.numbers (mark "}" ∷ mark ";" ∷ r) (mark "}" ∷ mark ";" ∷ s) (each_all (Sure plain_number Any) plain_same a.numbers)
    (no_plain_closes (mark ";" ∷ r)) (no_plain_closes (mark ";" ∷ s)) (no_comma_closes (mark ";" ∷ r)) (no_comma_closes (mark ";" ∷ s)) (any a.numbers) (any b.numbers) (ap (drop 8) forms) in
    record { same = λ i. record { declared = lengths i; numbers = all.same i }; rest = ap (drop 2) all.rest }

-- ---- the header

flag_same : (a b : Bool) → flag a ≡ flag b → a ≡ b
flag_same true true e = refl
flag_same false false e = refl
flag_same true false e = absurd (omega (arith, e))
flag_same false true e = absurd (omega (arith, e))

order_same : (a b : Order) → order_number a ≡ order_number b → a ≡ b
order_same Little Little e = refl
order_same Big Big e = refl
order_same Little Big e = absurd (omega (arith, e))
order_same Big Little e = absurd (omega (arith, e))

pub header_same : (a b : Header) → header_numbers a ≡ header_numbers b → a ≡ b
header_same a b e =
    let nth = λ (k : ℕ). ap (λ ns. get_or ns k 0) e in
    let order = order_same a.order b.order (nth 0) in
    let align = flag_same a.align b.align (nth 1) in
    let carry = flag_same a.carry b.carry (nth 13) in
    λ i. record {
      order = order i;
      align = align i;
      heap_base = nth 2 i;
      heap_size = nth 3 i;
      stack_base = nth 4 i;
      stack_size = nth 5 i;
      exit = nth 6 i;
      read = nth 7 i;
      write = nth 8 i;
      brk = nth 9 i;
      fault = nth 10 i;
      descriptor = nth 11 i;
      unknown = nth 12 i;
      carry = carry i;
    }

-- ---- segments

-- no segment's bytes begin here
abbrev pub NoSegment : List Token → Type 0
NoSegment r = (t : List Token) → word "const" ∷ word "u8" ∷ t ≡ r → ⊥

-- the tokens behind the first two of an array
abbrev array_rest : List ℕ → Array → List Token → List Token
array_rest named a r = name named ∷ mark "[" ∷ plain a.declared ∷ mark "]" ∷ mark "=" ∷ mark "{" ∷ (listed plain_number a.numbers ++ mark "}" ∷ mark ";" ∷ r)

first_segment : (k : ℕ) (s : CSeg) (ss : List CSeg) (r : List Token) → segments_toks k (s ∷ ss) ++ r ≡ array_toks (codes "u8") (segment_word k) (segment_array s) ++ (segments_toks (k + 1) ss ++ r)
first_segment k s ss r = append_assoc (array_toks (codes "u8") (segment_word k) (segment_array s)) (segments_toks (k + 1) ss) r

begins : (k : ℕ) (s : CSeg) (ss : List CSeg) (r : List Token) → segments_toks k (s ∷ ss) ++ r ≡ word "const" ∷ word "u8" ∷ array_rest (segment_word k) (segment_array s) (segments_toks (k + 1) ss ++ r)
begins k s ss r = first_segment k s ss r ∙ spelled_array (codes "u8") (segment_word k) (segment_array s) (segments_toks (k + 1) ss ++ r)

pub segments_same : (k : ℕ) (ss ts : List CSeg) (r s : List Token) → NoSegment r → NoSegment s → segments_toks k ss ++ r ≡ segments_toks k ts ++ s
    → Alike (map segment_array ss) (map segment_array ts) r s
segments_same k [] [] r s p q e = record { same = refl; rest = e }
segments_same k [] (t ∷ ts) r s p q e = absurd (p (array_rest (segment_word k) (segment_array t) (segments_toks (k + 1) ts ++ s)) (sym (e ∙ begins k t ts s)))
segments_same k (x ∷ ss) [] r s p q e = absurd (q (array_rest (segment_word k) (segment_array x) (segments_toks (k + 1) ss ++ r)) (sym (begins k x ss r) ∙ e))
segments_same k (x ∷ ss) (t ∷ ts) r s p q e =
    let one = array_same (codes "u8") (segment_word k) (codes "u8") (segment_word k) (segment_array x) (segment_array t) (segments_toks (k + 1) ss ++ r) (segments_toks (k + 1) ts ++ s)
    (sym (first_segment k x ss r) ∙ e ∙ first_segment k t ts s) in
    let more = segments_same (k + 1) ss ts r s p q one.rest in
    record { same = λ i. one.same i ∷ more.same i; rest = more.rest }

-- an array of one 0 and one of nothing differ in the length that the table has
bytes_same : (xs ys : List ℕ) → length xs ≡ length ys → or_zero xs ≡ or_zero ys → xs ≡ ys
bytes_same [] [] l e = refl
bytes_same [] (y ∷ ys) l e = absurd (omega (arith, l))
bytes_same (x ∷ xs) [] l e = absurd (omega (arith, l))
bytes_same (x ∷ xs) (y ∷ ys) l e = e

rows_same : (ss ts : List CSeg) → map segment_array ss ≡ map segment_array ts → table_numbers ss ≡ table_numbers ts → ss ≡ ts
rows_same [] [] f e = refl
rows_same [] (t ∷ ts) f e = cc
rows_same (s ∷ ss) [] f e = cc
rows_same (s ∷ ss) (t ∷ ts) f e =
    let nth = λ (k : ℕ). ap (λ ns. get_or ns k 0) e in
    let write = flag_same s.write t.write (nth 1) in
    let arrays : segment_array s ≡ segment_array t = cc in
    let others : map segment_array ss ≡ map segment_array ts = cc in
    let bytes = bytes_same s.bytes t.bytes (nth 2) (ap (λ a. a.numbers) arrays) in
    let more = rows_same ss ts others (ap (drop 4) e) in
    λ i. record { base = nth 0 i; write = write i; len = nth 3 i; bytes = bytes i } ∷ more i

pub table_same : (ss ts : List CSeg) → map segment_array ss ≡ map segment_array ts → or_zero (table_numbers ss) ≡ or_zero (table_numbers ts) → ss ≡ ts
table_same [] [] f e = refl
table_same [] (t ∷ ts) f e = cc
table_same (s ∷ ss) [] f e = cc
table_same (s ∷ ss) (t ∷ ts) f e = rows_same (s ∷ ss) (t ∷ ts) f e

-- ---- the first call

-- the first call is the same
pub record SameCall (entry other : ℕ) (first others : List ℕ) : Type 0 where
  pub entry_same : entry ≡ other
  pub first_same : first ≡ others

pub main_same : (entry other : ℕ) (first others : List ℕ) → entry < 2 ^ 32 → other < 2 ^ 32 → main_toks entry first ≡ main_toks other others → SameCall entry other first others
main_same entry other first others h k e =
    let names : function_word entry ≡ function_word other = cc in
    let close = mark ";" ∷ mark "}" ∷ [] in
    let all = commas_same long_number Any first others (mark ")" ∷ close) (mark ")" ∷ close) (each_all (Sure long_number Any) long_same first) (no_comma close) (no_comma close)
    (any first) (any others) (ap (drop 9) e) in
    record { entry_same = function_same entry other h k names; first_same = all.same }
