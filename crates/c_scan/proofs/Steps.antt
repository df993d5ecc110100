-- How the tokens of a text go on from a place.
use Rattle.std.proofs.Common.{◌≡◌, ℕ, ◌+◌, ◌-◌, ◌<◌, ◌≤◌, true, false, List, [], ◌∷◌, length, drop, get_or, Option, Some, None, Result, Ok, Err, refl, sym, ap, ◌∙◌, subst, arith, length-drop, ◌⊎◌, inl, inr, ⊎_elim}
use Rattle.std.proofs.lemmas.Bool.{cases_eq}
use Rattle.std.proofs.lemmas.List.{drop-drop, drop_all, get_or-drop}
use Rattle.c_text.specs.Tokens.{Token, is_blank, token_of, tokens}
use Rattle.scan.specs.Scan.{told, lex, front}
use Rattle.scan.proofs.Longest.{longest_bounds}
use Rattle.scan.proofs.Steps.{lex_blank, lex_token, lex_none}
use Rattle.c_scan.specs.declared.front.Found.{Found}
use Rattle.c_scan.specs.Found.{HasDigits, measured, token}
use Rattle.c_scan.specs.Left.{Ended, IsAhead, IsLexed, IsUnlexed, Taken, from_front, left, left_of}

some_left : (text : List ℕ) (at : ℕ) → at < length text → 0 < length (drop at text)
some_left text at l = let e : length (drop at text) ≡ length text - at = length-drop at text in omega arith

first_is : (text : List ℕ) (at : ℕ) → get_or (drop at text) 0 0 ≡ get_or text at 0
first_is text at = get_or-drop at text 0 0 ∙ (let e : at + 0 ≡ at = omega arith in ap (λ k. get_or text k 0) e)

-- behind a blank the same tokens stand
pub blank_step : (text : List ℕ) (at from : ℕ) → at < length text → is_blank (get_or text at 0) ≡ true → tokens (drop at text) ≡ tokens (drop from text) → tokens (drop (at + 1) text) ≡ tokens (drop from text)
blank_step text at from l b h =
    ap tokens (sym (drop-drop 1 at text)) ∙ sym (lex_blank token_of is_blank (drop at text) (some_left text at l) (ap is_blank (first_is text at) ∙ b)) ∙ h

pub ruleset blank_laws = (blank_step)

nothing : tokens [] ≡ Ok []
unfolding lex
nothing = refl

pub at_length : (text : List ℕ) (at : ℕ) → at ≡ length text → tokens (drop at text) ≡ Ok []
at_length text at e = ap tokens (drop_all at text (omega arith)) ∙ nothing

-- a token behind blanks
pub next_found : (text : List ℕ) (from s end : ℕ) (f : Found) → from ≤ s → s ≤ length text → tokens (drop s text) ≡ tokens (drop from text) → (s < length text → is_blank (get_or text s 0) ≡ false) → measured (Some f) ≡ front token_of (drop s text) → HasDigits f → end ≡ s + f.len
    → Taken text from f end
next_found text from s end f o w h stops is d e =
    let bounds = longest_bounds token_of (length (drop s text)) (drop s text) f.len (token f) (sym is) in
    let size : length (drop s text) ≡ length text - s = length-drop s text in
    let here : s < length text = omega (arith, bounds.0, bounds.1) in
    let stands = sym h ∙ lex_token token_of is_blank (drop s text) f.len (token f) (some_left text s here) bounds.0 (ap is_blank (first_is text s) ∙ stops here) (sym is) ∙ ap (λ bs. told (token f ∷ []) (tokens bs)) (drop-drop f.len s text ∙ ap (λ k. drop k text) (sym e)) in
    record { stands = stands; onward = omega (arith, bounds.0); within = omega (arith, bounds.1); digits = d }

pub end_within : (text : List ℕ) (s : ℕ) (f : Found) → s ≤ length text → measured (Some f) ≡ front token_of (drop s text) → s + f.len ≤ length text
end_within text s f w is =
    let bounds = longest_bounds token_of (length (drop s text)) (drop s text) f.len (token f) (sym is) in
    omega (arith, bounds.1, length-drop s text)

-- no token behind blanks
pub none_found : (text : List ℕ) (from s : ℕ) → s ≤ length text → tokens (drop s text) ≡ tokens (drop from text) → (s < length text → is_blank (get_or text s 0) ≡ false) → None ≡ front token_of (drop s text) → Ended text from s
none_found text from s w h stops is =
    record {
      within = w;
      over = λ e. sym h ∙ at_length text s e;
      stops = λ l. sym h ∙ lex_none token_of is_blank (drop s text) (some_left text s l) (ap is_blank (first_is text s) ∙ stops l) (sym is) ∙ ap Err (length-drop s text);
    }

-- what was found from a place on is so of the whole text
pub record Onward (text : List ℕ) (at : ℕ) : Type 0 where
  pub within : at ≤ length text
  pub lexed : IsLexed (tokens (drop at text)) → IsLexed (tokens text)
  pub stops : (n : ℕ) → tokens (drop at text) ≡ Err n → tokens text ≡ Err n

told_lexed : (t : Token) (r : Result (List Token) ℕ) → IsLexed r → IsLexed (told (t ∷ []) r)
told_lexed t (Ok ts) h = tt
told_lexed t (Err n) h = absurd h

lexed_told : (t : Token) (r : Result (List Token) ℕ) → IsLexed (told (t ∷ []) r) → (left_of (told (t ∷ []) r) ≡ t ∷ left_of r) × IsLexed r
lexed_told t (Ok ts) h = (refl, tt)
lexed_told t (Err n) h = absurd h

pub onward : (text : List ℕ) (at end : ℕ) (f : Found) → Onward text at → Taken text at f end → Onward text end
onward text at end f o t = record {
  within = t.within;
  lexed = λ h. o.lexed (subst IsLexed (sym t.stands) (told_lexed (token f) (tokens (drop end text)) h));
  stops = λ n e. o.stops n (t.stands ∙ ap (told (token f ∷ [])) e);
}

pub onward_none : (text : List ℕ) → Onward text 0
onward_none text = record { within = omega arith; lexed = λ h. h; stops = λ n e. e }

pub step_smaller : (text : List ℕ) (at end : ℕ) (f : Found) → Taken text at f end → length text - end < length text - at
step_smaller text at end f t = omega (arith, t.onward, t.within)

pub all_lexed : (text : List ℕ) (at end : ℕ) → Onward text at → Ended text at end → end ≡ length text → IsLexed (tokens text)
all_lexed text at end o t e = o.lexed (subst IsLexed (sym (t.over e)) tt)

pub one_unlexed : (text : List ℕ) (at end : ℕ) → Onward text at → Ended text at end → (end ≡ length text → ⊥) → IsUnlexed text end
one_unlexed text at end o t n = let l : end < length text = omega (arith, t.within, n) in record { within = l; stops = o.stops (length text - end) (t.stops l) }

-- the cursor's next token
pub ahead_found : (text : List ℕ) (from end : ℕ) (f : Found) → IsLexed (tokens (drop from text)) → Taken text from f end → IsAhead text from (Some f) end
unfolding left
ahead_found text from end f h t =
    let parts = lexed_told (token f) (tokens (drop end text)) (subst IsLexed t.stands h) in
    record { tokens_are = sym (ap left_of t.stands ∙ parts.0); within = t.within; lexed = parts.1; digits = t.digits }

short : (n m : ℕ) → n ≤ m → (n < m) ⊎ (n ≡ m)
short n m l = ⊎_elim (λ e. inr e) (λ e. inl (omega arith)) (cases_eq n m)

no_error : (r : Result (List Token) ℕ) (n : ℕ) → IsLexed r → r ≡ Err n → ⊥
no_error r n h e = subst IsLexed e h

pub ahead_none : (text : List ℕ) (from end : ℕ) → IsLexed (tokens (drop from text)) → Ended text from end → IsAhead text from None (length text)
unfolding left
ahead_none text from end h t =
    let at_end : end ≡ length text = ⊎_elim (λ l. absurd (no_error (tokens (drop from text)) (length text - end) h (t.stops l))) (λ e. e) (short end (length text) t.within) in
    record { tokens_are = sym (ap left_of (t.over at_end)); within = omega arith; lexed = subst IsLexed (sym (at_length text (length text) refl)) tt; digits = tt }

-- the tokens behind the one in front
pub past_front : (front : Option Found) (ts : List Token) → 0 < length (from_front front ts) → drop 1 (from_front front ts) ≡ ts
past_front None ts l = absurd (omega arith)
past_front (Some f) ts l = refl
