-- The most nodes of the templates of some constructors.
use Rattle.std.proofs.Common.{◌≡◌, ℕ, ◌+◌, ◌<◌, ◌≤◌, max, List, ◌∷◌, length, get_or, drop, unwrap_or, sym, ap, ◌∙◌, arith}
use Rattle.std.specs.Prelude.{option_map}
use Rattle.std.proofs.Math.ListN.{drop_of_length-le}
use Rattle.std.proofs.lemmas.List.{drop_more}
use Rattle.ssl_rules.specs.Given.{Given, Made, most_of, template_for}

-- of k constructors, against all
pub record AreMostTo (g : Given) (cs : List ℕ) (k read assigned : ℕ) : Type 0 where
  pub read_rest : max read (most_of (λ m. m.read) g (drop k cs)) ≡ most_of (λ m. m.read) g cs
  pub assigned_rest : max assigned (most_of (λ m. m.assigned) g (drop k cs)) ≡ most_of (λ m. m.assigned) g cs

swap : (new old rest : ℕ) → max (max new old) rest ≡ max old (max new rest)
swap new old rest = omega arith

pub one_most : (count : Made → ℕ) (g : Given) (cs : List ℕ) (k old new c : ℕ) → k < length cs → c ≡ get_or cs k c → max old (most_of count g (drop k cs)) ≡ most_of count g cs
    → new ≡ unwrap_or (option_map count (template_for g c)) 0 → max (max new old) (most_of count g (drop (k + 1) cs)) ≡ most_of count g cs
one_most count g cs k old new c h is was e =
    let d : drop k cs ≡ c ∷ drop (k + 1) cs = drop_more cs k c h ∙ ap (λ y. y ∷ drop (k + 1) cs) (sym is) in
    swap new old (most_of count g (drop (k + 1) cs)) ∙ ap (λ n. max old (max n (most_of count g (drop (k + 1) cs)))) e
    ∙ ap (λ l. max old (most_of count g l)) (sym d) ∙ was

no_more : (n : ℕ) → n ≡ max n 0
no_more n = omega arith

pub all_most : (count : Made → ℕ) (g : Given) (cs : List ℕ) (k most : ℕ) → length cs ≤ k → max most (most_of count g (drop k cs)) ≡ most_of count g cs → most ≡ most_of count g cs
all_most count g cs k most h was = no_more most ∙ ap (λ l. max most (most_of count g l)) (sym (drop_of_length-le cs h)) ∙ was
