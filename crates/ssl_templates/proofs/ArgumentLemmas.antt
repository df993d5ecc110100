-- One argument of a call more.
use Rattle.std.proofs.Common.{◌≡◌, ℕ, ◌+◌, ◌<◌, ◌≤◌, Bool, true, List, [], ◌∷◌, ◌++◌, map, length, get_or, drop, sym, ap, ◌∙◌, arith}
use Rattle.std.specs.List.{list_all}
use Rattle.std.proofs.lemmas.Bool.{true_from_ne_false, false≢true}
use Rattle.std.proofs.lemmas.List.{drop_more, drop_all, append_assoc, append-nil, length_push}
use Rattle.std.proofs.lemmas.List.Folds.{list_all_at}
use Rattle.ssl_syntax.specs.declared.line.SslExpr.{SslExpr}
use Rattle.ssl_rules.specs.declared.formula.Formula.{Formula}
use Rattle.ssl_rules.specs.Names.{Scope}
use Rattle.ssl_rules.specs.Formulas.{expanded, put_in}
use Rattle.ssl_templates.specs.Params.{has_param}
use Rattle.ssl_templates.specs.Ranged.{is_ranged}
use Rattle.ssl_templates.proofs.PutLemmas.{put-one}

-- one of those that all pass
pub all-at : {X : Type 0} (p : X → Bool) (xs : List X) (k : ℕ) (x : X) → k < length xs → x ≡ get_or xs k x → list_all p xs ≡ true → p x ≡ true
all-at p xs k x h is all = ap p is ∙ true_from_ne_false (p (get_or xs k x)) (λ no. false≢true (sym (list_all_at p xs k x h no) ∙ all))

-- where k arguments are there: what they and those to come give, where all are in range
pub record ArePut (s : Scope) (body : Formula) (args : List SslExpr) (k : ℕ) (put : List Formula) : Type 0 where
  pub count : length put ≡ k
  pub exact : list_all (is_ranged s) args ≡ true → put_in (put ++ map (expanded s) (drop k args)) body ≡ put_in (map (expanded s) args) body

pub ArePut-more : (s : Scope) (body : Formula) (args : List SslExpr) (k : ℕ) (put : List Formula) (e : SslExpr) (f : Formula) → k < length args → e ≡ get_or args k e
    → (is_ranged s e ≡ true → has_param (length put) body ≡ true → f ≡ expanded s e) → ArePut s body args k put → ArePut s body args (k + 1) (put ++ f ∷ [])
ArePut-more s body args k put e f h is same r =
    let behind : List SslExpr = drop (k + 1) args in
    let d : drop k args ≡ e ∷ behind = drop_more args k e h ∙ ap (λ x. x ∷ behind) (sym is) in
    let rest : List Formula = map (expanded s) behind in
    record {
      count = omega (arith, length_push put f);
      exact = λ ranged.
          ap (λ l. put_in l body) (append_assoc put (f ∷ []) rest)
          ∙ put-one put rest f (expanded s e) body (same (all-at (is_ranged s) args k e h is ranged))
          ∙ ap (λ l. put_in (put ++ map (expanded s) l) body) (sym d) ∙ r.exact ranged;
    }

-- where all arguments are there
pub ArePut-all : (s : Scope) (body : Formula) (args : List SslExpr) (k : ℕ) (put : List Formula) → length args ≤ k → ArePut s body args k put
    → list_all (is_ranged s) args ≡ true → put_in put body ≡ put_in (map (expanded s) args) body
ArePut-all s body args k put h r ranged =
    ap (λ l. put_in l body) (sym (append-nil put)) ∙ ap (λ l. put_in (put ++ map (expanded s) l) body) (sym (drop_all k args h)) ∙ r.exact ranged
