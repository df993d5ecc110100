-- A lexer's steps from left to right.
use Rattle.std.proofs.Common.{◌≡◌, ℕ, ◌-◌, ◌<◌, Bool, true, false, zero, suc, List, [], ◌∷◌, ◌++◌, length, take, drop, get_or, Option, Some, None, Result, Ok, Err, refl, sym, ap, ◌∙◌, arith, append_assoc}
use Rattle.std.specs.Prelude.{slice_get}
use Rattle.std.proofs.Math.Seq.{drop-length}
use Rattle.std.proofs.lemmas.List.{take_all}
use Rattle.std.proofs.lemmas.Option.{slice_get_past}
use Rattle.scan.specs.Scan.{longer, longest, front, told, lex}

module _ {T : Type 0} where
  pub told_nil : (r : Result (List T) ℕ) → told [] r ≡ r
  told_nil (Ok us) = refl
  told_nil (Err left) = refl

  pub told_told : (ts us : List T) (r : Result (List T) ℕ) → told ts (told us r) ≡ told (ts ++ us) r
  told_told ts us (Ok vs) = ap Ok (sym (append_assoc ts us vs))
  told_told ts us (Err left) = refl

module _ {T : Type 0} (token_of : List ℕ → Option ℕ → Option T) (is_blank : ℕ → Bool) where
  -- skipped bytes are left out
  pub lex_skip : (k : ℕ) (bs : List ℕ) → lex token_of is_blank k bs ≡ lex token_of is_blank 0 (drop k bs)
  unfolding lex
  lex_skip zero bs = refl
  lex_skip (suc k) [] = refl
  lex_skip (suc k) (b ∷ bs) = lex_skip k bs

  -- a blank is passed over
  pub lex_blank : (bs : List ℕ) → 0 < length bs → is_blank (get_or bs 0 0) ≡ true → lex token_of is_blank 0 bs ≡ lex token_of is_blank 0 (drop 1 bs)
  unfolding lex
  lex_blank [] l h = absurd (omega arith)
  lex_blank (b ∷ bs) l h = rw h refl

  -- the token at the front, and those behind it
  pub lex_token : (bs : List ℕ) (n : ℕ) (t : T) → 0 < length bs → 0 < n → is_blank (get_or bs 0 0) ≡ false → front token_of bs ≡ Some (n, t) → lex token_of is_blank 0 bs ≡ told (t ∷ []) (lex token_of is_blank 0 (drop n bs))
  unfolding lex
  lex_token [] n t l p h e = absurd (omega arith)
  lex_token (b ∷ bs) zero t l p h e = absurd (omega arith)
  lex_token (b ∷ bs) (suc n) t l p h e = rw (h, e) (let less : suc n - 1 ≡ n = omega arith in rw less (ap (told (t ∷ [])) (lex_skip n bs)))

  -- no token at the front
  pub lex_none : (bs : List ℕ) → 0 < length bs → is_blank (get_or bs 0 0) ≡ false → front token_of bs ≡ None → lex token_of is_blank 0 bs ≡ Err (length bs)
  unfolding lex
  lex_none [] l h e = absurd (omega arith)
  lex_none (b ∷ bs) l h e = rw (h, e) refl

  -- a word that is a token by itself
  pub lex_word : (w : List ℕ) (t : T) → 0 < length w → is_blank (get_or w 0 0) ≡ false → token_of w None ≡ Some t → lex token_of is_blank 0 w ≡ Ok (t ∷ [])
  unfolding lex longest
  lex_word [] t l h e = absurd (omega arith)
  lex_word (b ∷ bs) t l h e =
      let n : ℕ = length bs in
      let word : take n bs ≡ bs = take_all n bs (omega arith) in
      let past : slice_get (b ∷ bs) (suc n) ≡ None = slice_get_past (b ∷ bs) (suc n) (omega arith) in
      let here : front token_of (b ∷ bs) ≡ Some (suc n, t) = ap (λ o. longer o (suc n) (longest token_of n (b ∷ bs))) ((λ i. token_of (b ∷ word i) (past i)) ∙ e) in
      lex_token (b ∷ bs) (suc n) t l (omega arith) h here ∙ ap (λ r. told (t ∷ []) (lex token_of is_blank 0 r)) (drop-length bs)
