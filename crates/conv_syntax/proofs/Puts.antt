-- Tokens put one behind another.
use Rattle.std.proofs.Common.{◌≡◌, ℕ, List, [], ◌∷◌, ◌++◌, ap, ◌∙◌, append_assoc}
use Rattle.std.specs.Prelude.{codes}
use Rattle.text_lex.specs.declared.token.Token.{Token}
use Rattle.text_lex.specs.declared.token.Token.TheVariants.{Name, Number}
use Rattle.conv_syntax.specs.Lines.{errors_toks}

pub errors_put : (o x y z : List Token) (f d u : ℕ) → x ≡ o ++ Name (codes "fault") ∷ Number f ∷ [] → y ≡ x ++ Name (codes "descriptor") ∷ Number d ∷ [] → z ≡ y ++ Name (codes "unknown") ∷ Number u ∷ [] → z ≡ o ++ errors_toks f d u
errors_put o x y z f d u hx hy hz =
    let a : List Token = Name (codes "fault") ∷ Number f ∷ [] in
    let b : List Token = Name (codes "descriptor") ∷ Number d ∷ [] in
    let c : List Token = Name (codes "unknown") ∷ Number u ∷ [] in
    hz ∙ ap (λ l. l ++ c) hy ∙ ap (λ l. (l ++ b) ++ c) hx ∙ append_assoc (o ++ a) b c ∙ append_assoc o a (b ++ c)
