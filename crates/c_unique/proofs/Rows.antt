-- Things in a row are determined, where each is, and where nothing behind the row begins as one of them does.
use Rattle.std.proofs.Common.{◌≡◌, ℕ, List, [], ◌∷◌, ◌++◌, drop, map, get_or, refl, sym, ap, ◌∙◌, arith, append_assoc}
use Rattle.std.specs.List.{flat_map}
use Rattle.c_lang.specs.Spellable.{total}
use Rattle.std.specs.List.{All}
use Rattle.std.proofs.lemmas.List.Elements.{All-head, All-tail}
use Rattle.c_text.specs.Tokens.{Token, name, sign, mark}
use Rattle.c_text.specs.Expressions.{listed, commas}
use Rattle.c_unique.proofs.Alike.{Alike}

-- the first letter of the first token, if it has letters
abbrev pub first_letter : List Token → ℕ
first_letter (name w ∷ ts) = get_or w 0 0
first_letter (sign w ∷ ts) = get_or w 0 0
first_letter _ = 0

-- the same of each
abbrev pub Each : {X : Type 0} → (X → Type 0) → List X → Type 0
Each P [] = Unit {0}
Each P (x ∷ xs) = P x × Each P xs

pub each_all : {X : Type 0} (P : X → Type 0) → ((x : X) → P x) → (xs : List X) → Each P xs
each_all P f [] = tt
each_all P f (x ∷ xs) = (f x, each_all P f xs)

pub each_in : {X : Type 0} (P : X → Type 0) (xs : List X) → All P xs → Each P xs
each_in P [] h = tt
each_in P (x ∷ xs) h = (All-head P x xs h, each_in P xs (All-tail P x xs h))

-- no number has too many bits where none of all has
pub each_fits : {X : Type 0} (misfits : X → ℕ) (xs : List X) → total (map misfits xs) ≡ 0 → Each (λ x. misfits x ≡ 0) xs
each_fits misfits [] h = tt
each_fits misfits (x ∷ xs) h = (omega arith, each_fits misfits xs (omega arith))

-- what spells x spells no other that has a form, whatever is behind it
abbrev pub Sure : {X : Type 0} → (X → List Token) → (X → Type 0) → X → Type 0
Sure {X} f Fits x = (y : X) (r s : List Token) → Fits x → Fits y → f x ++ r ≡ f y ++ s → Alike x y r s

-- these tokens do not begin with one of the things
abbrev pub Ends : {X : Type 0} → (X → List Token) → (X → Type 0) → List Token → Type 0
Ends {X} f Fits r = (x : X) (t : List Token) → Fits x → f x ++ t ≡ r → ⊥

module _ {X : Type 0} (f : X → List Token) (Fits : X → Type 0) where
  pub row_same : (xs ys : List X) (r s : List Token) → Each (Sure f Fits) xs → Ends f Fits r → Ends f Fits s
      → Each Fits xs → Each Fits ys → flat_map f xs ++ r ≡ flat_map f ys ++ s → Alike xs ys r s
  row_same [] [] r s sure n m h k e = record { same = refl; rest = e }
  row_same [] (y ∷ ys) r s sure n m h k e = absurd (n y (flat_map f ys ++ s) k.0 (sym (e ∙ append_assoc (f y) (flat_map f ys) s)))
  row_same (x ∷ xs) [] r s sure n m h k e = absurd (m x (flat_map f xs ++ r) h.0 (sym (append_assoc (f x) (flat_map f xs) r) ∙ e))
  row_same (x ∷ xs) (y ∷ ys) r s sure n m h k e =
      let one = sure.0 y (flat_map f xs ++ r) (flat_map f ys ++ s) h.0 k.0 (sym (append_assoc (f x) (flat_map f xs) r) ∙ e ∙ append_assoc (f y) (flat_map f ys) s) in
      let more = row_same xs ys r s sure.1 n m h.1 k.1 one.rest in
      let p : x ≡ y = one.same in
      let q : xs ≡ ys = more.same in
      record { same = cc; rest = more.rest }

  abbrev behind_comma : X → List Token
  behind_comma x = mark "," ∷ f x

  comma_sure : (x : X) → Sure f Fits x → Sure behind_comma Fits x
  comma_sure x sure y r s h k e = let one = sure y r s h k (ap (drop 1) e) in record { same = one.same; rest = one.rest }

  comma_each : (xs : List X) → Each (Sure f Fits) xs → Each (Sure behind_comma Fits) xs
  comma_each [] each = tt
  comma_each (x ∷ xs) each = (comma_sure x each.0, comma_each xs each.1)

-- these tokens do not begin with a comma
abbrev pub NoComma : List Token → Type 0
NoComma r = (t : List Token) → mark "," ∷ t ≡ r → ⊥

pub no_comma : (ts : List Token) → NoComma (mark ")" ∷ ts)
no_comma ts t e = let letters = ap first_letter e in omega (arith, letters)

module _ {X : Type 0} (f : X → List Token) (Fits : X → Type 0) where
  pub commas_same : (xs ys : List X) (r s : List Token) → Each (Sure f Fits) xs → NoComma r → NoComma s
      → Each Fits xs → Each Fits ys → commas f xs ++ r ≡ commas f ys ++ s → Alike xs ys r s
  commas_same xs ys r s sure n m h k e =
      row_same (behind_comma f Fits) Fits xs ys r s (comma_each f Fits xs sure) (λ x t l o. n (f x ++ t) o) (λ x t l o. m (f x ++ t) o) h k e

  pub listed_same : (xs ys : List X) (r s : List Token) → Each (Sure f Fits) xs → Ends f Fits r → Ends f Fits s → NoComma r → NoComma s
      → Each Fits xs → Each Fits ys → listed f xs ++ r ≡ listed f ys ++ s → Alike xs ys r s
  listed_same [] [] r s sure n m nc mc h k e = record { same = refl; rest = e }
  listed_same [] (y ∷ ys) r s sure n m nc mc h k e = absurd (n y (commas f ys ++ s) k.0 (sym (e ∙ append_assoc (f y) (commas f ys) s)))
  listed_same (x ∷ xs) [] r s sure n m nc mc h k e = absurd (m x (commas f xs ++ r) h.0 (sym (append_assoc (f x) (commas f xs) r) ∙ e))
  listed_same (x ∷ xs) (y ∷ ys) r s sure n m nc mc h k e =
      let one = sure.0 y (commas f xs ++ r) (commas f ys ++ s) h.0 k.0 (sym (append_assoc (f x) (commas f xs) r) ∙ e ∙ append_assoc (f y) (commas f ys) s) in
      let more = commas_same xs ys r s sure.1 nc mc h.1 k.1 one.rest in
      let p : x ≡ y = one.same in
      let q : xs ≡ ys = more.same in
      record { same = cc; rest = more.rest }
