-- Expressions, from their tokens to the tree and back.
use Rattle.std.proofs.Common.{◌≡◌, ℕ, ◌<◌, zero, suc, false, length, List, [], ◌∷◌, ◌++◌, refl, sym, ap, ◌∙◌, subst, arith, append_assoc}
use Rattle.c_lang.proofs.SpellingLaws.{fits, has_bits}
use Rattle.c_lang.specs.declared.tree.COp.{COp}
use Rattle.c_lang.specs.declared.tree.COp.TheVariants.{Add, Sub, Mul, Div, Rem, And, Or, Xor, Shl, Shr, Eq, Ne, Lt, Le}
use Rattle.c_lang.specs.declared.tree.CExpr.{CExpr}
use Rattle.c_lang.specs.declared.tree.CExpr.TheVariants as E
use Rattle.c_lang.specs.declared.tree.CExpr.TheOpen.{CExpr-F}
use Rattle.c_text.specs.Tokens.{Token, mark, name, word, sign}
use Rattle.c_lang.specs.declared.tree.Var.{Var}
use Rattle.c_lang.specs.declared.tree.Var.TheVariants.{Ra, Pt, Cell, Temp, Result, Wn, Depth, ServeR, ServeE}
use Rattle.c_text.specs.Expressions.{expr_toks, op_sign, var_token}
use Rattle.std.specs.Prelude.{codes}
use Rattle.c_scan.specs.Readings.{takes, Reader, followed, at, at_name, long_number}
use Rattle.c_read.specs.Combined.{before}
use Rattle.c_read.specs.Expressions.{IsExpr, variable, inside, branches, operand, read_behind_first, read_by_first, read_expr}
use Rattle.c_read.proofs.SyntaxLaws.{FrontIs, GivesBack, Mirrors, Builds, no_read, in_sequence, sign_asked, both_mirrored, before_mirrored, behind_mirrored, made_fronts, made_read, either_fronts}
use Rattle.c_read.proofs.Words.{named_mirrored, signed_mirrored, long_mirrored, var_meaning, op_meaning}
use Rattle.std.proofs.lemmas.List.{append-nil}
use Rattle.c_read.proofs.Loops.{OpensUnlike, Consumes, consumes_from}
use Rattle.c_read.proofs.ExprLaws.{from_layer, spell, spelled, layer_depth, depth, layer_misfits, misfits, by_layer}

-- the numbers and the depth of one layer
record LayerFits (n : ℕ) (x : CExpr-F CExpr) : Type 0 where
  deep : layer_depth x < n
  fit : layer_misfits x ≡ 0

layer_fits : (n : ℕ) (x : CExpr-F CExpr) → IsExpr n (from_layer x) → LayerFits n x
layer_fits n x p = record { deep = subst (λ k. k < n) (depth x) p.depth; fit = sym (misfits x) ∙ p.fits }

fits_layer : (n : ℕ) (x : CExpr-F CExpr) → LayerFits n x → IsExpr n (from_layer x)
fits_layer n x p = record { depth = subst (λ k. k < n) (sym (depth x)) p.deep; fits = misfits x ∙ p.fit }

module _ (inner : Reader CExpr) (n : ℕ) (exact : Mirrors (inside inner) (IsExpr n)) where
  branches_mirrored : Mirrors (branches inner) (λ x. IsExpr n x.0 × IsExpr n x.1)
  branches_mirrored = before_mirrored _ _ _ (sign_asked _) (both_mirrored _ _ _ _ exact (before_mirrored _ _ _ (sign_asked _) (behind_mirrored _ _ _ (sign_asked _) exact)))

  operand_mirrored : Mirrors (operand inner) (λ x. Unit {0} × IsExpr n x.1)
  operand_mirrored = both_mirrored _ _ _ _ (signed_mirrored _ _ _ op_meaning) (behind_mirrored _ _ _ (sign_asked _) exact)

  -- what is spelled behind `(` and the first part
  module _ (a : CExpr) (p : IsExpr n a) where
    abbrev front : List Token → List Token
    front given = mark "(" ∷ (expr_toks a ++ given)

    choose_makes : (x : CExpr × CExpr) → Builds front (λ x. E.Choose a x.0 x.1) (branches inner).spell expr_toks (λ x. IsExpr n x.0 × IsExpr n x.1) (IsExpr (suc n)) x
    choose_makes x = record {
      same = λ remain. let e : front ((branches inner).spell x ++ remain) ≡ spell (CExpr-F.Choose a x.0 x.1) remain = simp append_assoc in e ∙ sym (spelled (CExpr-F.Choose a x.0 x.1) remain);
      proper = λ q. fits_layer (suc n) (CExpr-F.Choose a x.0 x.1) (record { deep = omega (arith, p.depth, q.0.depth, q.1.depth); fit = omega (arith, p.fits, q.0.fits, q.1.fits) });
    }

    bin_makes : (x : COp × CExpr) → Builds front (λ x. E.Bin x.0 a x.1) (operand inner).spell expr_toks (λ x. Unit {0} × IsExpr n x.1) (IsExpr (suc n)) x
    bin_makes x = record {
      same = λ remain. let e : front ((operand inner).spell x ++ remain) ≡ spell (CExpr-F.Bin x.0 a x.1) remain = simp append_assoc in e ∙ sym (spelled (CExpr-F.Bin x.0 a x.1) remain);
      proper = λ q. fits_layer (suc n) (CExpr-F.Bin x.0 a x.1) (record { deep = omega (arith, p.depth, q.1.depth); fit = omega (arith, p.fits, q.1.fits) });
    }

    rest_fronts : (given : List Token) (y : CExpr) (remain : List Token) → read_behind_first inner a given ≡ takes y remain → FrontIs {A = CExpr} expr_toks (IsExpr (suc n)) (front given) y remain
    unfolding read_behind_first
    rest_fronts given y remain h =
        either_fronts (at (mark "?") given) _ _ (λ y remain. FrontIs {A = CExpr} expr_toks (IsExpr (suc n)) (front given) y remain) y remain
        (made_fronts _ (branches inner) _ expr_toks (IsExpr (suc n)) front branches_mirrored choose_makes given)
        (made_fronts _ (operand inner) _ expr_toks (IsExpr (suc n)) front operand_mirrored bin_makes given) h

  form_fronts : (given : List Token) (y : CExpr) (remain : List Token) → read_by_first inner given ≡ takes y remain → FrontIs {A = CExpr} expr_toks (IsExpr (suc n)) given y remain
  unfolding read_by_first
  form_fronts given y remain h =
      either_fronts (at (mark "(") given) _ _ (λ y remain. FrontIs {A = CExpr} expr_toks (IsExpr (suc n)) given y remain) y remain grouped
      (λ y remain. either_fronts (at_name given) _ _ (λ y remain. FrontIs {A = CExpr} expr_toks (IsExpr (suc n)) given y remain) y remain
      (made_fronts E.Of variable _ expr_toks (IsExpr (suc n)) (λ given. given) (named_mirrored _ _ _ var_meaning) (λ v. record {
        same = λ remain. sym (spelled (CExpr-F.Of v) remain);
        proper = λ q. fits_layer (suc n) (CExpr-F.Of v) (record { deep = omega arith; fit = q });
      }) given)
      (made_fronts E.Num long_number _ expr_toks (IsExpr (suc n)) (λ given. given) long_mirrored (λ v. record {
        same = λ remain. sym (spelled (CExpr-F.Num v) remain);
        proper = λ q. fits_layer (suc n) (CExpr-F.Num v) (record { deep = omega arith; fit = fits 64 v q });
      }) given)) h
    where
      grouped : (y : CExpr) (remain : List Token) → followed ((before (mark "(") (inside inner)).read given) (read_behind_first inner) ≡ takes y remain → FrontIs {A = CExpr} expr_toks (IsExpr (suc n)) given y remain
      grouped y remain h =
          let one = in_sequence ((before (mark "(") (inside inner)).read given) (read_behind_first inner) y remain h in
          let a = (before_mirrored (mark "(") (inside inner) (IsExpr n) (sign_asked _) exact).only_these.seen_front given one.x one.mid one.first in
          let b = rest_fronts one.x a.proper one.mid y remain one.second in
          record { spelled = a.spelled ∙ b.spelled; proper = b.proper }

  no_question : (op : COp) (given : List Token) → at (mark "?") (sign (op_sign op) ∷ given) ≡ false
  no_question Add given = refl
  no_question Sub given = refl
  no_question Mul given = refl
  no_question Div given = refl
  no_question Rem given = refl
  no_question And given = refl
  no_question Or given = refl
  no_question Xor given = refl
  no_question Shl given = refl
  no_question Shr given = refl
  no_question Eq given = refl
  no_question Ne given = refl
  no_question Lt given = refl
  no_question Le given = refl

  -- a tree of any form, from its tokens
  form_read : (x : CExpr-F CExpr) (remain : List Token) → LayerFits (suc n) x → read_by_first inner (spell x remain) ≡ takes (from_layer x) remain
  unfolding read_by_first read_behind_first
  form_read (CExpr-F.Num m) remain p = made_read E.Num long_number _ expr_toks (IsExpr (suc n)) long_mirrored m (spell (CExpr-F.Num m) remain) remain (has_bits 64 m p.fit) refl
  form_read (CExpr-F.Of v) remain p = made_read E.Of variable _ expr_toks (IsExpr (suc n)) (named_mirrored _ _ _ var_meaning) v (spell (CExpr-F.Of v) remain) remain p.fit refl
  form_read (CExpr-F.Bin op a b) remain p =
      let pa : IsExpr n a = record { depth = omega (arith, p.deep); fits = omega (arith, p.fit) } in
      let pb : IsExpr n b = record { depth = omega (arith, p.deep); fits = omega (arith, p.fit) } in
      rw ((exact.all_these a pa).read_back (sign (op_sign op) ∷ (expr_toks b ++ mark ")" ∷ remain)), no_question op (expr_toks b ++ mark ")" ∷ remain))
      (made_read (λ x. E.Bin x.0 a x.1) (operand inner) _ expr_toks (IsExpr (suc n)) operand_mirrored (op, b) (sign (op_sign op) ∷ (expr_toks b ++ mark ")" ∷ remain)) remain (tt, pb) (simp append_assoc))
  form_read (CExpr-F.Choose c a b) remain p =
      let pc : IsExpr n c = record { depth = omega (arith, p.deep); fits = omega (arith, p.fit) } in
      let pa : IsExpr n a = record { depth = omega (arith, p.deep); fits = omega (arith, p.fit) } in
      let pb : IsExpr n b = record { depth = omega (arith, p.deep); fits = omega (arith, p.fit) } in
      rw ((exact.all_these c pc).read_back (mark "?" ∷ (expr_toks a ++ mark ":" ∷ (expr_toks b ++ mark ")" ∷ remain))))
      (made_read (λ x. E.Choose c x.0 x.1) (branches inner) _ expr_toks (IsExpr (suc n)) branches_mirrored (a, b) (mark "?" ∷ (expr_toks a ++ mark ":" ∷ (expr_toks b ++ mark ")" ∷ remain))) remain (pa, pb) (simp append_assoc))

  level_mirrored : Mirrors (inside (read_by_first inner)) (IsExpr (suc n))
  level_mirrored = record {
    only_these = record { seen_front = form_fronts };
    all_these = λ e. by_layer (λ e. IsExpr (suc n) e → GivesBack (read_by_first inner) expr_toks e) (λ x p. record { read_back = λ remain. ap (read_by_first inner) (spelled x remain) ∙ form_read x remain (layer_fits (suc n) x p) }) e;
  }

-- at any number of levels
pub expr_mirrored : (n : ℕ) → Mirrors (inside (read_expr n)) (IsExpr n)
unfolding read_expr
expr_mirrored zero = record { only_these = record { seen_front = λ given x remain h. no_read x remain h }; all_these = λ e p. let l = p.depth in absurd (omega arith) }
expr_mirrored (suc n) = level_mirrored (read_expr n) n (expr_mirrored n)

-- ---- the first token of an expression

no_name : (v : Var) (given : List Token) (t : List ℕ) → t ≡ codes "uq_load" → at (name t) (var_token v ∷ given) ≡ false
no_name v given t e = rw e (by v)
  where
    by : (v : Var) → at (name (codes "uq_load")) (var_token v ∷ given) ≡ false
    by Ra = refl
    by Pt = refl
    by (Cell i) = refl
    by (Temp k) = refl
    by (Result i) = refl
    by Wn = refl
    by Depth = refl
    by ServeR = refl
    by ServeE = refl

no_window_name : (v : Var) (given : List Token) → at (name (codes "uq_w")) (var_token v ∷ given) ≡ false
no_window_name Ra given = refl
no_window_name Pt given = refl
no_window_name (Cell i) given = refl
no_window_name (Temp k) given = refl
no_window_name (Result i) given = refl
no_window_name Wn given = refl
no_window_name Depth given = refl
no_window_name ServeR given = refl
no_window_name ServeE given = refl

-- no closing sign and no name of a call comes first
pub record Begins (given : List Token) : Type 0 where
  pub some : 0 < length given
  pub no_paren : at (mark ")") given ≡ false
  pub no_load : at (word "uq_load") given ≡ false
  pub no_window : at (word "uq_w") given ≡ false

layer_begins : (x : CExpr-F CExpr) (remain : List Token) → Begins (spell x remain)
layer_begins (CExpr-F.Num n) remain = record { some = omega arith; no_paren = refl; no_load = refl; no_window = refl }
layer_begins (CExpr-F.Of v) remain = record { some = omega arith; no_paren = refl; no_load = no_name v remain (codes "uq_load") refl; no_window = no_window_name v remain }
layer_begins (CExpr-F.Bin op a b) remain = record { some = omega arith; no_paren = refl; no_load = refl; no_window = refl }
layer_begins (CExpr-F.Choose c a b) remain = record { some = omega arith; no_paren = refl; no_load = refl; no_window = refl }

pub expr_begins : (e : CExpr) (remain : List Token) → Begins (expr_toks e ++ remain)
expr_begins e remain = by_layer (λ e. Begins (expr_toks e ++ remain)) (λ x. subst Begins (sym (spelled x remain)) (layer_begins x remain)) e

pub expr_starts : (n : ℕ) → OpensUnlike (mark ")") (inside (read_expr n)) (IsExpr n)
expr_starts n = record {
  filled = λ e p. subst (λ given. 0 < length given) (append-nil (expr_toks e)) (expr_begins e []).some;
  opens = λ e remain p. (expr_begins e remain).no_paren;
}

pub expr_consumes : (n : ℕ) → Consumes (read_expr n)
expr_consumes n = consumes_from (inside (read_expr n)) (IsExpr n) (expr_mirrored n).only_these (expr_starts n).filled
