-- What follows a blank changes no token before it.
use Rattle.std.proofs.Common.{◌≡◌, ℕ, ◌+◌, ◌-◌, ◌<◌, ◌≤◌, Bool, true, false, zero, suc, cond, List, [], ◌∷◌, ◌++◌, length, take, Option, Some, None, Result, Ok, Err, refl, sym, ap, ◌∙◌, subst, arith, ⊎_elim, append_assoc, length-append}
use Rattle.std.specs.Prelude.{slice_get}
use Rattle.std.proofs.lemmas.List.{take-append-le, append-nil, get_or_append_left, get_or_at}
use Rattle.std.proofs.lemmas.Option.{slice_get-get_or, slice_get_past}
use Rattle.std.proofs.lemmas.Bool.{cases_order}
use Rattle.scan.specs.Scan.{longer, longest, front, told, lexed, lex}
use Rattle.scan.specs.Laws.{IsSeparated, Writes}
use Rattle.scan.proofs.Longest.{longest_bounds, longest_cut}
use Rattle.scan.proofs.Steps.{told_nil, told_told}

take_over : (a y : List ℕ) (k : ℕ) → take (length a + k) (a ++ y) ≡ a ++ take k y
take_over [] y k = grind arith
take_over (x ∷ a) y k = let e : length (x ∷ a) + k ≡ suc (length a + k) = omega arith in rw e (ap (λ l. x ∷ l) (take_over a y k))

module _ {T : Type 0} (token_of : List ℕ → Option ℕ → Option T) (is_blank : ℕ → Bool) (laws : IsSeparated token_of is_blank) where
  -- a word before the blank is the token that it was
  stays : (c : ℕ) (a b : List ℕ) (n : ℕ) → is_blank c ≡ true → n ≤ length a → token_of (take n (a ++ c ∷ b)) (slice_get (a ++ c ∷ b) n) ≡ token_of (take n a) (slice_get a n)
  stays c a b n h l =
      let word : take n (a ++ c ∷ b) ≡ take n a = take-append-le n a (c ∷ b) l in
      let sum = length-append a (c ∷ b) in
      ⊎_elim
      (λ (e : n ≡ length a).
      let there : slice_get (a ++ c ∷ b) n ≡ Some c = slice_get-get_or (a ++ c ∷ b) n 0 (omega arith) ∙ ap Some (get_or_at a c b 0 n (sym e)) in
      let past : slice_get a n ≡ None = slice_get_past a n (omega arith) in
      (λ i. token_of (word i) (there i)) ∙ laws.as_end c (take n a) h ∙ ap (token_of (take n a)) (sym past))
      (λ o. ⊎_elim
      (λ (lt : n < length a).
      let there : slice_get (a ++ c ∷ b) n ≡ slice_get a n = slice_get-get_or (a ++ c ∷ b) n 0 (omega arith) ∙ ap Some (get_or_append_left a (c ∷ b) 0 n lt) ∙ sym (slice_get-get_or a n 0 lt) in
      λ i. token_of (word i) (there i))
      (λ gt. absurd (omega arith)) o)
      (cases_order n (length a))

  within : (c : ℕ) (a b : List ℕ) (n : ℕ) → is_blank c ≡ true → n ≤ length a → longest token_of n (a ++ c ∷ b) ≡ longest token_of n a
  unfolding longest
  within c a b zero h l = refl
  within c a b (suc n) h l = λ i. longer (stays c a b (suc n) h l i) (suc n) (within c a b n h (omega arith) i)

  -- a word with the blank in it is no token
  beyond : (c : ℕ) (a b : List ℕ) (k : ℕ) → is_blank c ≡ true → length a < k → token_of (take k (a ++ c ∷ b)) (slice_get (a ++ c ∷ b) k) ≡ None
  beyond c a b k h l =
      let more : k ≡ length a + suc (k - length a - 1) = omega arith in
      let over : take k (a ++ c ∷ b) ≡ a ++ c ∷ take (k - length a - 1) b = ap (λ m. take m (a ++ c ∷ b)) more ∙ take_over a (c ∷ b) (suc (k - length a - 1)) in
      ap (λ w. token_of w (slice_get (a ++ c ∷ b) k)) over ∙ laws.never_over c a (take (k - length a - 1) b) _ h

  pub front_over : (c : ℕ) (a b : List ℕ) → is_blank c ≡ true → front token_of (a ++ c ∷ b) ≡ front token_of a
  front_over c a b h = longest_cut token_of (length (a ++ c ∷ b)) (length a) (a ++ c ∷ b) (omega (arith, length-append a (c ∷ b))) (λ k l m. beyond c a b k h l) ∙ within c a b (length a) h (omega arith)

  module _ (c : ℕ) (h : is_blank c ≡ true) (x : ℕ) (a b : List ℕ) (ts : List T) (ih : (k : ℕ) (us : List T) → k ≤ length a → lex token_of is_blank k a ≡ Ok us → lex token_of is_blank k (a ++ c ∷ b) ≡ told us (lex token_of is_blank 0 b)) where
    behind : (n : ℕ) (t : T) (r : Result (List T) ℕ) → n ≤ length a → lex token_of is_blank n a ≡ r → told (t ∷ []) r ≡ Ok ts → told (t ∷ []) (lex token_of is_blank n (a ++ c ∷ b)) ≡ told ts (lex token_of is_blank 0 b)
    behind n t (Err left) l q e = cc
    behind n t (Ok us) l q e =
        let all : t ∷ us ≡ ts = cc in
        ap (told (t ∷ [])) (ih n us l q) ∙ told_told (t ∷ []) us (lex token_of is_blank 0 b) ∙ ap (λ vs. told vs (lex token_of is_blank 0 b)) all

    found : (o : Option (ℕ × T)) → front token_of (x ∷ a) ≡ o → lexed o (length (x ∷ a)) (λ skip. lex token_of is_blank skip a) ≡ Ok ts → lexed o (length (x ∷ a ++ c ∷ b)) (λ skip. lex token_of is_blank skip (a ++ c ∷ b)) ≡ told ts (lex token_of is_blank 0 b)
    found None q e = cc
    found (Some f) q e =
        let bounds = longest_bounds token_of (length (x ∷ a)) (x ∷ a) f.0 f.1 q in
        behind (f.0 - 1) f.1 (lex token_of is_blank (f.0 - 1) a) (omega (arith, bounds.0, bounds.1)) refl e

    stepped : (p : Bool) → cond p (lex token_of is_blank 0 a) (lexed (front token_of (x ∷ a)) (length (x ∷ a)) (λ skip. lex token_of is_blank skip a)) ≡ Ok ts → cond p (lex token_of is_blank 0 (a ++ c ∷ b)) (lexed (front token_of (x ∷ a ++ c ∷ b)) (length (x ∷ a ++ c ∷ b)) (λ skip. lex token_of is_blank skip (a ++ c ∷ b))) ≡ told ts (lex token_of is_blank 0 b)
    stepped true e = ih 0 ts (omega arith) e
    stepped false e = ap (λ o. lexed o (length (x ∷ a ++ c ∷ b)) (λ skip. lex token_of is_blank skip (a ++ c ∷ b))) (front_over c (x ∷ a) b h) ∙ found (front token_of (x ∷ a)) refl e

  -- the tokens before a blank stay, and those behind it follow
  pub lex_over : (c : ℕ) (a b : List ℕ) (k : ℕ) (ts : List T) → is_blank c ≡ true → k ≤ length a → lex token_of is_blank k a ≡ Ok ts → lex token_of is_blank k (a ++ c ∷ b) ≡ told ts (lex token_of is_blank 0 b)
  unfolding lex
  lex_over c [] b zero ts h l e = rw h (let none : [] ≡ ts = cc in subst (λ us. lex token_of is_blank 0 b ≡ told us (lex token_of is_blank 0 b)) none (sym (told_nil (lex token_of is_blank 0 b))))
  lex_over c [] b (suc k) ts h l e = absurd (omega arith)
  lex_over c (x ∷ a) b (suc k) ts h l e = lex_over c a b k ts h (omega arith) e
  lex_over c (x ∷ a) b zero ts h l e = stepped c h x a b ts (λ k us l q. lex_over c a b k us h l q) (is_blank x) e

  -- a text with these tokens, and a blank
  pub writes_text : (c : ℕ) (w : List ℕ) (ts : List T) → is_blank c ≡ true → lex token_of is_blank 0 w ≡ Ok ts → Writes token_of is_blank (w ++ c ∷ []) ts
  writes_text c w ts h e = record { always = λ rest. ap (lex token_of is_blank 0) (append_assoc w (c ∷ []) rest) ∙ lex_over c w rest 0 ts h (omega arith) e }

module _ {T : Type 0} {token_of : List ℕ → Option ℕ → Option T} {is_blank : ℕ → Bool} where
  pub writes_nothing : Writes token_of is_blank [] []
  writes_nothing = record { always = λ rest. sym (told_nil (lex token_of is_blank 0 rest)) }

  -- one behind the other
  pub writes_both : {v w : List ℕ} {ts us : List T} → Writes token_of is_blank v ts → Writes token_of is_blank w us → Writes token_of is_blank (v ++ w) (ts ++ us)
  writes_both {v} {w} {ts} {us} f g = record { always = λ rest. ap (lex token_of is_blank 0) (append_assoc v w rest) ∙ f.always (w ++ rest) ∙ ap (told ts) (g.always rest) ∙ told_told ts us (lex token_of is_blank 0 rest) }

  -- in the end the tokens of the text are these
  pub writes_all : {w : List ℕ} {ts : List T} → Writes token_of is_blank w ts → lex token_of is_blank 0 w ≡ Ok ts
  unfolding lex
  writes_all {w} {ts} f = ap (lex token_of is_blank 0) (sym (append-nil w)) ∙ f.always [] ∙ ap Ok (append-nil ts)
