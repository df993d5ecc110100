-- What one more physical line does to what the code keeps.
use Rattle.std.proofs.Common.{◌≡◌, ℕ, ◌+◌, ◌<◌, ◌≤◌, Bool, true, false, zero, suc, cond, List, [], ◌∷◌, ◌++◌, length, map, set, get_or, Some, None, refl, sym, ap, ◌∙◌, arith, ⊎_elim, length-append}
use Rattle.std.specs.Prelude.{min, nat_lt}
use Rattle.std.proofs.lemmas.Bool.{le-ltb, lt-ltb, ltb-true, cases_lt}
use Rattle.std.proofs.lemmas.List.{map_push, length-map}
use Rattle.text_lex.specs.declared.token.Token.{Token}
use Rattle.text_lex.specs.declared.token.LogicalLine.{LogicalLine}
use Rattle.text_lex.specs.declared.reading.Reading.{Reading}
use Rattle.text_lex.specs.Lines.{Line, line_at, continued}
use Rattle.text_lex.specs.Tokens.{tokens_of}
use Rattle.text_lex.specs.Faults.{is_long, first_where, tokens_at}
use Rattle.text_lex.specs.Readings.{first_of, long_at, last_len, Shows}
use Rattle.text_lex.proofs.TokenLaws.{tokens_over}

-- the last of one line and more
abbrev final : Line → List Line → Line
final line [] = line
final line (next ∷ lines) = final next lines

-- a line more at the end
first_push : (lines : List Line) (p : Line) → first_where is_long (lines ++ p ∷ []) ≡ first_of (first_where is_long lines) (long_at p.number (length p.bytes))
first_push [] p = refl
first_push (line ∷ lines) p = by (is_long line) (first_push lines p)
  where
    by : (t : Bool) → first_where is_long (lines ++ p ∷ []) ≡ first_of (first_where is_long lines) (long_at p.number (length p.bytes)) → cond t (Some line.number) (first_where is_long (lines ++ p ∷ [])) ≡ first_of (cond t (Some line.number) (first_where is_long lines)) (long_at p.number (length p.bytes))
    by true before = refl
    by false before = before

last_push : (lines : List Line) (p : Line) → last_len (lines ++ p ∷ []) ≡ length p.bytes
last_push [] p = refl
last_push (line ∷ []) p = refl
last_push (line ∷ next ∷ lines) p = last_push (next ∷ lines) p

pub begun : (lines : List Line) (n : ℕ) (b : List ℕ) (old new : Reading) (v : LogicalLine) → Shows old lines → new.lines.items ≡ old.lines.items ++ v ∷ [] → v ≡ tokens_at (line_at n b) → new.last_len ≡ min (length b) 65536 → new.long ≡ first_of old.long (long_at n (length b)) → Shows new (lines ++ line_at n b ∷ [])
begun lines n b old new v shows pushed is size long = record {
  tokens = pushed ∙ (λ i. shows.tokens i ++ is i ∷ []) ∙ sym (map_push tokens_at lines (line_at n b));
  last = size ∙ ap (λ k. min k 65536) (sym (last_push lines (line_at n b)));
  long = long ∙ ap (λ o. first_of o (long_at n (length b))) shows.long ∙ sym (first_push lines (line_at n b));
}

-- a longer line stays too long
longer_stays : (m k : ℕ) → nat_lt 65535 m ≡ true → nat_lt 65535 (m + k) ≡ true
longer_stays m k h = lt-ltb 65535 (m + k) (omega (arith, ltb-true 65535 m h))

first_on : (line : Line) (lines : List Line) (p : Line) → first_where is_long (continued (line ∷ lines) p) ≡ first_of (first_where is_long (line ∷ lines)) (long_at (final line lines).number (length (final line lines).bytes + 1 + length p.bytes))
first_on line [] p = ap (λ k. long_at line.number k) size ∙ by (is_long line) refl
  where
    size : length (line.bytes ++ 32 ∷ p.bytes) ≡ length line.bytes + 1 + length p.bytes
    size = length-append line.bytes (32 ∷ p.bytes) ∙ omega arith

    more : length line.bytes + 1 + length p.bytes ≡ length line.bytes + (1 + length p.bytes)
    more = omega arith

    by : (t : Bool) → is_long line ≡ t → long_at line.number (length line.bytes + 1 + length p.bytes) ≡ first_of (cond t (Some line.number) None) (long_at line.number (length line.bytes + 1 + length p.bytes))
    by true h = ap (λ k. long_at line.number k) more ∙ ap (λ u. cond u (Some line.number) None) (longer_stays (length line.bytes) (1 + length p.bytes) h)
    by false h = refl
first_on line (next ∷ lines) p = by (is_long line) (first_on next lines p)
  where
    by : (t : Bool) → first_where is_long (continued (next ∷ lines) p) ≡ first_of (first_where is_long (next ∷ lines)) (long_at (final next lines).number (length (final next lines).bytes + 1 + length p.bytes)) → cond t (Some line.number) (first_where is_long (continued (next ∷ lines) p)) ≡ first_of (cond t (Some line.number) (first_where is_long (next ∷ lines))) (long_at (final next lines).number (length (final next lines).bytes + 1 + length p.bytes))
    by true before = refl
    by false before = before

last_on : (line : Line) (lines : List Line) (p : Line) → last_len (continued (line ∷ lines) p) ≡ length (final line lines).bytes + 1 + length p.bytes
last_on line [] p = length-append line.bytes (32 ∷ p.bytes) ∙ omega arith
last_on line (next ∷ []) p = last_on next [] p
last_on line (next ∷ other ∷ lines) p = last_on next (other ∷ lines) p

last_is : (line : Line) (lines : List Line) → last_len (line ∷ lines) ≡ length (final line lines).bytes
last_is line [] = refl
last_is line (next ∷ lines) = last_is next lines

final_at : (line : Line) (lines : List Line) (k : ℕ) (d : LogicalLine) → k ≡ length lines → get_or (map tokens_at (line ∷ lines)) k d ≡ tokens_at (final line lines)
final_at line [] zero d e = refl
final_at line [] (suc k) d e = absurd (omega arith)
final_at line (next ∷ lines) zero d e = absurd (omega arith)
final_at line (next ∷ lines) (suc k) d e = final_at next lines k d (omega arith)

set_on : (line : Line) (lines : List Line) (p : Line) (k : ℕ) (w : LogicalLine) → k ≡ length lines → w ≡ tokens_at (line_at (final line lines).number ((final line lines).bytes ++ 32 ∷ p.bytes)) → set (map tokens_at (line ∷ lines)) k w ≡ map tokens_at (continued (line ∷ lines) p)
set_on line [] p zero w e is = ap (λ v. v ∷ []) is
set_on line [] p (suc k) w e is = absurd (omega arith)
set_on line (next ∷ lines) p zero w e is = absurd (omega arith)
set_on line (next ∷ lines) p (suc k) w e is = ap (λ vs. tokens_at line ∷ vs) (set_on next lines p k w (omega arith) is)

-- the cap hides no line that is too long
capped : (m k n : ℕ) → long_at n (min m 65536 + 1 + k) ≡ long_at n (m + 1 + k)
capped m k n = ap (λ t. cond t (Some n) None) (⊎_elim
    (λ (l : 65535 < m + 1 + k). lt-ltb 65535 (min m 65536 + 1 + k) (omega arith) ∙ sym (lt-ltb 65535 (m + 1 + k) l))
    (λ (l : m + 1 + k ≤ 65535). le-ltb 65535 (min m 65536 + 1 + k) (omega arith) ∙ sym (le-ltb 65535 (m + 1 + k) l))
    (cases_lt 65535 (m + 1 + k)))

pub went_on : (lines : List Line) (n : ℕ) (b : List ℕ) (old new : Reading) (k : ℕ) (v : LogicalLine) (tokens : List Token) → Shows old lines → k + 1 ≡ length old.lines.items → v ≡ get_or old.lines.items k v → tokens ≡ v.tokens ++ tokens_of b → new.lines.items ≡ set old.lines.items k (record { number = v.number; tokens = tokens }) → new.last_len ≡ min (old.last_len + 1 + length b) 65536 → new.long ≡ first_of old.long (long_at v.number (old.last_len + 1 + length b)) → Shows new (continued lines (line_at n b))
went_on [] n b old new k v tokens shows count v_is tokens_are written size long = absurd (omega (arith, ap length shows.tokens))
went_on (line ∷ lines) n b old new k v tokens shows count v_is tokens_are written size long =
    let last : Line = final line lines in
    let place : k ≡ length lines = omega (arith, ap length shows.tokens, length-map (line ∷ lines) tokens_at) in
    let v_last : v ≡ tokens_at last = v_is ∙ ap (λ vs. get_or vs k v) shows.tokens ∙ final_at line lines k v place in
    let number : v.number ≡ last.number = ap (λ (u : LogicalLine). u.number) v_last in
    let joined : tokens ≡ tokens_of (last.bytes ++ 32 ∷ b) = tokens_are ∙ ap (λ (u : LogicalLine). u.tokens ++ tokens_of b) v_last ∙ sym (tokens_over 32 last.bytes b refl) in
    let len : old.last_len ≡ min (length last.bytes) 65536 = shows.last ∙ ap (λ m. min m 65536) (last_is line lines) in
    record {
      tokens = written ∙ ap (λ vs. set vs k (record { number = v.number; tokens = tokens })) shows.tokens ∙ set_on line lines (line_at n b) k (record { number = v.number; tokens = tokens }) place (λ i. record { number = number i; tokens = joined i });
      last = size ∙ omega (arith, len, last_on line lines (line_at n b));
      long = long ∙ (λ i. first_of (shows.long i) (long_at (number i) (len i + 1 + length b))) ∙ ap (first_of (first_where is_long (line ∷ lines))) (capped (length last.bytes) (length b) last.number) ∙ sym (first_on line lines (line_at n b));
    }
