-- The search for a sign in the list of signs.
use Rattle.std.proofs.Common.{◌≡◌, ℕ, ◌+◌, ◌<◌, true, false, cond, List, [], drop, get_or, Some, None, sym, ap, ◌∙◌}
use Rattle.std.specs.List.{position_from}
use Rattle.std.specs.Str.{bytes_eq}
use Rattle.std.proofs.lemmas.List.{drop_more}
use Rattle.text_lex.specs.Tokens.{signs, sign_index}

module _ (w : List ℕ) (k : ℕ) (before : position_from (λ s. bytes_eq s w) 0 signs ≡ position_from (λ s. bytes_eq s w) k (drop k signs)) where
  here : k < 32 → position_from (λ s. bytes_eq s w) 0 signs ≡ cond (bytes_eq (get_or signs k []) w) (Some k) (position_from (λ s. bytes_eq s w) (k + 1) (drop (k + 1) signs))
  here l = before ∙ ap (position_from (λ s. bytes_eq s w) k) (drop_more signs k [] l)

  pub found : k < 32 → bytes_eq (get_or signs k []) w ≡ true → Some k ≡ sign_index w
  unfolding sign_index
  found l e = sym (here l ∙ ap (λ t. cond t (Some k) (position_from (λ s. bytes_eq s w) (k + 1) (drop (k + 1) signs))) e)

  pub later : k < 32 → bytes_eq (get_or signs k []) w ≡ false → position_from (λ s. bytes_eq s w) 0 signs ≡ position_from (λ s. bytes_eq s w) (k + 1) (drop (k + 1) signs)
  later l e = here l ∙ ap (λ t. cond t (Some k) (position_from (λ s. bytes_eq s w) (k + 1) (drop (k + 1) signs))) e

  pub never : k ≡ 32 → None ≡ sign_index w
  unfolding sign_index
  never l = sym (before ∙ ap (λ j. position_from (λ s. bytes_eq s w) j (drop j signs)) l)
