-- The tokens of expressions of several parts, put one behind another.
use Rattle.std.proofs.Common.{◌≡◌, ℕ, List, [], ◌∷◌, ◌++◌, sym, ap, ◌∙◌, append_assoc}
use Rattle.text_lex.specs.declared.token.Token.{Token}
use Rattle.text_lex.specs.declared.token.Token.TheVariants.{Name, Sign}
use Rattle.line_reading.specs.Signs.{open_paren, close_paren, comma}
use Rattle.ssl_syntax.specs.declared.line.SslExpr.{SslExpr}
use Rattle.ssl_syntax.specs.declared.line.SslExpr.TheVariants as E
use Rattle.ssl_syntax.specs.declared.words.Word.TheVariants as word
use Rattle.ssl_syntax.specs.Words.{word_bytes}
use Rattle.ssl_syntax.specs.Expressions.{expr_toks}
use Rattle.ssl_syntax.proofs.ExprLaws.{toks-Bin, toks-If}

put_both : (o p q ts us : List Token) → p ≡ o ++ ts → q ≡ p ++ us → q ≡ o ++ (ts ++ us)
put_both o p q ts us h k = k ∙ ap (λ z. z ++ us) h ∙ append_assoc o ts us

pub put_bin : (o p q r : List Token) (e : SslExpr) (op : ℕ) (a b : SslExpr) → e ≡ E.Bin op a b → p ≡ o ++ Sign open_paren ∷ [] → q ≡ p ++ (expr_toks a ++ Sign op ∷ []) → r ≡ q ++ (expr_toks b ++ Sign close_paren ∷ []) → r ≡ o ++ expr_toks e
put_bin o p q r e op a b is h k l =
    let left : List Token = Sign open_paren ∷ (expr_toks a ++ Sign op ∷ []) in
    let right : List Token = expr_toks b ++ Sign close_paren ∷ [] in
    let both : q ≡ o ++ left = put_both o p q (Sign open_paren ∷ []) (expr_toks a ++ Sign op ∷ []) h k in
    let flat : left ++ right ≡ expr_toks (E.Bin op a b) = simp append_assoc (sym (toks-Bin op a b)) in
    put_both o q r left right both l ∙ ap (λ ts. o ++ ts) (flat ∙ sym (ap expr_toks is))

pub put_if : (o p q r s : List Token) (e c a b : SslExpr) → e ≡ E.If c a b → p ≡ o ++ Name (word_bytes word.If) ∷ Sign open_paren ∷ [] → q ≡ p ++ (expr_toks c ++ Sign comma ∷ []) → r ≡ q ++ (expr_toks a ++ Sign comma ∷ []) → s ≡ r ++ (expr_toks b ++ Sign close_paren ∷ []) → s ≡ o ++ expr_toks e
put_if o p q r s e c a b is h k l m =
    let front : List Token = Name (word_bytes word.If) ∷ Sign open_paren ∷ [] in
    let test : List Token = expr_toks c ++ Sign comma ∷ [] in
    let first : List Token = expr_toks a ++ Sign comma ∷ [] in
    let second : List Token = expr_toks b ++ Sign close_paren ∷ [] in
    let two : q ≡ o ++ (front ++ test) = put_both o p q front test h k in
    let three : r ≡ o ++ ((front ++ test) ++ first) = put_both o q r (front ++ test) first two l in
    let flat : ((front ++ test) ++ first) ++ second ≡ expr_toks (E.If c a b) = simp append_assoc (sym (toks-If c a b)) in
    put_both o r s ((front ++ test) ++ first) second three m ∙ ap (λ ts. o ++ ts) (flat ∙ sym (ap expr_toks is))
