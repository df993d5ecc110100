-- The kind of a statement or of an end, by its first and its third token.
use Rattle.std.proofs.Common.{◌≡◌, ℕ, zero, suc, List, [], ◌∷◌, ◌++◌, drop, get_or, refl, ap, ◌∙◌}
use Rattle.std.specs.Prelude.{◌==◌, if◌then◌else◌, codes}
use Rattle.std.specs.Str.{bytes_eq}
use Rattle.c_lang.specs.declared.tree.CExpr.{CExpr}
use Rattle.c_lang.specs.declared.tree.CExpr.TheOpen.{CExpr-F}
use Rattle.c_lang.specs.declared.tree.Var.{Var}
use Rattle.c_lang.specs.declared.tree.Var.TheVariants.{Ra, Pt, Cell, Temp, Result, Wn, Depth, ServeR, ServeE}
use Rattle.c_text.specs.Tokens.{Token, name}
use Rattle.c_text.specs.Expressions.{expr_toks, var_token}
use Rattle.c_unique.proofs.Expressions.{spell, spelled, by_form}

-- the first name, if a name is first
abbrev first_word : List Token → List ℕ
first_word (name w ∷ ts) = w
first_word _ = []

-- the kind of what begins with a name; 0 for the name of a variable
abbrev pub word_kind : List ℕ → ℕ
word_kind w =
    if bytes_eq w (codes "uq_store") then 4 else (if bytes_eq w (codes "uq_w") then 5 else (if bytes_eq w (codes "uq_serve") then 6
    else (if bytes_eq w (codes "if") then 8 else (if bytes_eq w (codes "uq_stop") then 9 else (if bytes_eq w (codes "goto") then 10
    else (if bytes_eq w (codes "switch") then 11 else (if bytes_eq w (codes "return") then 12 else (if bytes_eq w (codes "uq_end") then 13
    else (if get_or w 0 0 == 102 then 7 else 0)))))))))

-- the kind of what is set to this
abbrev pub value_kind : List Token → ℕ
value_kind (name w ∷ ts) = if bytes_eq w (codes "uq_load") then 2 else (if bytes_eq w (codes "uq_w") then 3 else 1)
value_kind _ = 1

abbrev either_kind : ℕ → ℕ → ℕ
either_kind zero k = k
either_kind (suc n) k = suc n

abbrev pub kind : List Token → ℕ
kind ts = either_kind (word_kind (first_word ts)) (value_kind (drop 2 ts))

-- a variable is set
pub of_set : (v : Var) (t : Token) (ts : List Token) → kind (var_token v ∷ t ∷ ts) ≡ value_kind ts
of_set Ra t ts = refl
of_set Pt t ts = refl
of_set (Cell i) t ts = refl
of_set (Temp k) t ts = refl
of_set (Result i) t ts = refl
of_set Wn t ts = refl
of_set Depth t ts = refl
of_set ServeR t ts = refl
of_set ServeE t ts = refl

value_var : (v : Var) (r : List Token) → value_kind (var_token v ∷ r) ≡ 1
value_var Ra r = refl
value_var Pt r = refl
value_var (Cell i) r = refl
value_var (Temp k) r = refl
value_var (Result i) r = refl
value_var Wn r = refl
value_var Depth r = refl
value_var ServeR r = refl
value_var ServeE r = refl

value_form : (z : CExpr-F CExpr) (r : List Token) → value_kind (spell z r) ≡ 1
value_form (CExpr-F.Num n) r = refl
value_form (CExpr-F.Of v) r = value_var v r
value_form (CExpr-F.Bin op a b) r = refl
value_form (CExpr-F.Choose c a b) r = refl

-- an expression is neither a load nor a saved window
pub value_expr : (r : List Token) (e : CExpr) → value_kind (expr_toks e ++ r) ≡ 1
value_expr r = by_form (λ e. value_kind (expr_toks e ++ r) ≡ 1) (λ z. ap value_kind (spelled z r) ∙ value_form z r)
