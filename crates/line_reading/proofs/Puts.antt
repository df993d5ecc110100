-- Tokens put one behind another.
use Rattle.std.proofs.Common.{◌≡◌, ℕ, ◌+◌, ◌<◌, List, [], ◌∷◌, ◌++◌, length, take, get_or, sym, ap, ◌∙◌, append_assoc}
use Rattle.std.proofs.lemmas.List.{append-nil}
use Rattle.text_lex.specs.declared.token.Token.{Token}
use Rattle.text_lex.specs.declared.token.Token.TheVariants.{Sign}
use Rattle.line_reading.specs.Spelling.{each_behind}
use Rattle.line_reading.proofs.TextLaws.{take_next}

-- one more thing behind its sign
pub behind_push : {A : Type 0} (k : ℕ) (spell : A → List Token) (xs : List A) (x : A) → each_behind k spell (xs ++ x ∷ []) ≡ each_behind k spell xs ++ Sign k ∷ spell x
behind_push k spell [] x = ap (λ ts. Sign k ∷ ts) (append-nil (spell x))
behind_push k spell (y ∷ ys) x =
    ap (λ ts. Sign k ∷ ts) (ap (λ ts. spell y ++ ts) (behind_push k spell ys x) ∙ sym (append_assoc (spell y) (each_behind k spell ys) (Sign k ∷ spell x)))

-- the things up to one more of a list are put
pub put_more : {A : Type 0} (k : ℕ) (spell : A → List Token) (base out mid new : List Token) (ls : List A) (i : ℕ) (x : A) → i < length ls → x ≡ get_or ls i x → out ≡ base ++ each_behind k spell (take i ls) → mid ≡ out ++ Sign k ∷ [] → new ≡ mid ++ spell x → new ≡ base ++ each_behind k spell (take (i + 1) ls)
put_more k spell base out mid new ls i x h at o m n =
    let whole : each_behind k spell (take (i + 1) ls) ≡ each_behind k spell (take i ls) ++ Sign k ∷ spell x =
    ap (each_behind k spell) (take_next ls i x h ∙ ap (λ z. take i ls ++ z ∷ []) (sym at)) ∙ behind_push k spell (take i ls) x in
    n ∙ ap (λ ts. ts ++ spell x) (m ∙ ap (λ ts. ts ++ Sign k ∷ []) o)
    ∙ append_assoc (base ++ each_behind k spell (take i ls)) (Sign k ∷ []) (spell x)
    ∙ append_assoc base (each_behind k spell (take i ls)) (Sign k ∷ spell x)
    ∙ ap (λ ts. base ++ ts) (sym whole)
