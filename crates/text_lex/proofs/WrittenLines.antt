-- The logical lines of a text of whole lines.
use Rattle.std.proofs.Common.{◌≡◌, ◌≢◌, ℕ, ◌+◌, ◌-◌, ◌≤◌, Bool, true, false, suc, not, cond, List, [], ◌∷◌, ◌++◌, length, map, Some, None, Ok, refl, sym, ap, ◌∙◌, arith, inl, inr, ⊎_elim, append_assoc}
use Rattle.std.specs.Prelude.{◌==◌}
use Rattle.std.specs.List.{All, list_all, prefix_len, take_while, fold}
use Rattle.std.proofs.lemmas.Bool.{and_parts, not-true, eqb-true, le-ltb, true≢false, cases_eq}
use Rattle.std.proofs.lemmas.List.{append-nil, take_all}
use Rattle.text_lex.specs.declared.token.LexFault.TheVariants.{ManyLines}
use Rattle.std.proofs.lemmas.List.Elements.{All-head, All-tail}
use Rattle.text_lex.specs.Bytes.{is_blank, is_plain}
use Rattle.text_lex.specs.Lines.{Line, line_at, begins_with, physical_lines, uncommented, numbered, contents_of, with_line, logical_lines}
use Rattle.text_lex.specs.Faults.{is_bad, is_long, first_where, least_fault, tokens_at, unless, lines}
use Rattle.text_lex.specs.Spelling.{IsWhole, text_of, counted}
use Rattle.text_lex.proofs.DigitValues.{passes_at}
use Rattle.text_lex.proofs.LineEnds.{ended, return_kept}

-- where each byte passes, one that does not is not there
lacks : (p : ℕ → Bool) (c : ℕ) (bs : List ℕ) → p c ≡ false → list_all p bs ≡ true → list_all (λ b. not (b == c)) bs ≡ true
lacks p c [] h k = refl
lacks p c (b ∷ bs) h k =
    let parts = and_parts (p b) (list_all p bs) k in
    rw (differs (b == c) refl parts.0, lacks p c bs h parts.1) refl
  where
    differs : (t : Bool) → (b == c) ≡ t → p b ≡ true → not (b == c) ≡ true
    differs true e passes = absurd (true≢false (sym passes ∙ ap p (eqb-true b c e) ∙ h))
    differs false e passes = ap not e

whole_ends : (l rest : List ℕ) → IsWhole l → physical_lines ((l ++ 10 ∷ []) ++ rest) ≡ l ∷ physical_lines rest
whole_ends l rest w =
    ap physical_lines (append_assoc l (10 ∷ []) rest)
    ∙ ended l rest (lacks is_plain 10 l refl w.plain)
    ∙ ap (λ first. first ∷ physical_lines rest) (return_kept l (⊎_elim inl (λ (some : length l ≢ 0). inr (λ e. true≢false (sym (passes_at is_plain l (length l - 1) w.plain (omega arith)) ∙ ap is_plain e))) (cases_eq (length l) 0)))

whole_lines : (ls : List (List ℕ)) → All IsWhole ls → physical_lines (text_of ls) ≡ ls ++ [] ∷ []
unfolding physical_lines
whole_lines [] h = refl
whole_lines (l ∷ ls) h = whole_ends l (text_of ls) (All-head IsWhole l ls h) ∙ ap (λ rest. l ∷ rest) (whole_lines ls (All-tail IsWhole l ls h))

full : (p : ℕ → Bool) (bs : List ℕ) → list_all p bs ≡ true → prefix_len p bs ≡ length bs
full p [] h = refl
full p (b ∷ bs) h =
    let parts = and_parts (p b) (list_all p bs) h in
    let one : 1 + prefix_len p bs ≡ suc (length bs) = omega (arith, full p bs parts.1) in
    rw parts.0 one

takes_all : (p : ℕ → Bool) (bs : List ℕ) → list_all p bs ≡ true → take_while p bs ≡ bs
takes_all p bs h = take_all (prefix_len p bs) bs (omega (arith, full p bs h))

whole_contents : (n : ℕ) (ls : List (List ℕ)) → All IsWhole ls → numbered n (ls ++ [] ∷ []) ≡ counted n ls ++ line_at (n + length ls) [] ∷ []
whole_contents n [] h = let same : n ≡ n + 0 = omega arith in ap (λ k. line_at k [] ∷ []) same
whole_contents n (l ∷ ls) h =
    let more : n + 1 + length ls ≡ n + suc (length ls) = omega arith in
    let first : uncommented l ≡ l = takes_all (λ b. not (b == 35)) l (All-head IsWhole l ls h).no_comment in
    (λ i. line_at n (first i) ∷ whole_contents (n + 1) ls (All-tail IsWhole l ls h) i) ∙ ap (λ k. line_at n l ∷ (counted (n + 1) ls ++ line_at k [] ∷ [])) more

begins_anew : (lines : List Line) (n : ℕ) (l : List ℕ) → begins_with (λ b. not (is_blank b)) l ≡ true → with_line lines (line_at n l) ≡ lines ++ line_at n l ∷ []
begins_anew lines n [] h = cc
begins_anew lines n (b ∷ bs) h = rw (not-true (is_blank b) h) refl

whole_logical : (n k : ℕ) (before : List Line) (ls : List (List ℕ)) → All IsWhole ls → fold with_line before (counted n ls ++ line_at k [] ∷ []) ≡ before ++ counted n ls
whole_logical n k before [] h = sym (append-nil before)
whole_logical n k before (l ∷ ls) h =
    ap (λ lines. fold with_line lines (counted (n + 1) ls ++ line_at k [] ∷ [])) (begins_anew before n l (All-head IsWhole l ls h).begins)
    ∙ whole_logical (n + 1) k (before ++ line_at n l ∷ []) ls (All-tail IsWhole l ls h)
    ∙ append_assoc before (line_at n l ∷ []) (counted (n + 1) ls)

none_bad : (n k : ℕ) (ls : List (List ℕ)) → All IsWhole ls → first_where is_bad (counted n ls ++ line_at k [] ∷ []) ≡ None
none_bad n k [] h = refl
none_bad n k (l ∷ ls) h = rw (All-head IsWhole l ls h).plain (none_bad (n + 1) k ls (All-tail IsWhole l ls h))

none_long : (n : ℕ) (ls : List (List ℕ)) → All IsWhole ls → first_where is_long (counted n ls) ≡ None
none_long n [] h = refl
none_long n (l ∷ ls) h = rw (le-ltb 65535 (length l) (All-head IsWhole l ls h).short) (none_long (n + 1) ls (All-tail IsWhole l ls h))

count_is : (n : ℕ) (ls : List (List ℕ)) → length (counted n ls) ≡ length ls
count_is n [] = refl
count_is n (l ∷ ls) = ap suc (count_is (n + 1) ls)

pub lines_written : (ls : List (List ℕ)) → All IsWhole ls → length ls ≤ 65535 → lines (text_of ls) ≡ Ok (map tokens_at (counted 1 ls))
lines_written ls h few =
    let contents : contents_of (text_of ls) ≡ counted 1 ls ++ line_at (1 + length ls) [] ∷ [] = ap (numbered 1) (whole_lines ls h) ∙ whole_contents 1 ls h in
    let logical : logical_lines (text_of ls) ≡ counted 1 ls = ap (fold with_line []) contents ∙ whole_logical 1 (1 + length ls) [] ls h in
    let bad : first_where is_bad (contents_of (text_of ls)) ≡ None = ap (first_where is_bad) contents ∙ none_bad 1 (1 + length ls) ls h in
    let long : first_where is_long (logical_lines (text_of ls)) ≡ None = ap (first_where is_long) logical ∙ none_long 1 ls h in
    let count : length (logical_lines (text_of ls)) ≡ length ls = ap length logical ∙ count_is 1 ls in
    (λ i. unless (least_fault (bad i) (long i) (count i)) (map tokens_at (logical i))) ∙ ap (λ t. unless (cond t (Some ManyLines) None) (map tokens_at (counted 1 ls))) (le-ltb 65535 (length ls) few)
