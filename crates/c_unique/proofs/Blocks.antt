-- The tokens of a block determine it, and where it ends.
use Rattle.std.proofs.Common.{◌≡◌, ℕ, ◌<◌, List, ◌∷◌, ◌++◌, drop, refl, sym, ap, ◌∙◌, arith, append_assoc}
use Rattle.std.specs.List.{flat_map}
use Rattle.rtl_core.specs.declared.point.Point.{Point}
use Rattle.c_lang.specs.declared.tree.Case.{Case}
use Rattle.c_lang.specs.declared.tree.CBlock.{CBlock}
use Rattle.c_lang.specs.declared.tree.CExpr.{CExpr}
use Rattle.c_lang.specs.declared.tree.End.{End}
use Rattle.c_lang.specs.declared.tree.End.TheVariants.{Goto, Branch, Switch, Return, Finish}
use Rattle.c_lang.specs.declared.tree.Stmt.{Stmt, map-Stmt}
use Rattle.c_lang.specs.declared.tree.Stmt.TheOpen.{Stmt-F}
use Rattle.c_text.specs.Tokens.{Token, name, plain, word, mark}
use Rattle.c_text.specs.Words.{label_word}
use Rattle.c_text.specs.Expressions.{expr_toks}
use Rattle.c_text.specs.Statements.{stmt_toks}
use Rattle.c_text.specs.Blocks.{case_toks, end_toks, block_toks}
use Rattle.c_lang.specs.Spellable.{node_stmt_misfits, stmt_misfits, case_misfits, end_misfits, StmtHasForm, BlockHasForm}
use Rattle.std.specs.List.{All}
use Rattle.std.proofs.lemmas.List.Elements.{All-weaker}
use Rattle.c_unique.proofs.Alike.{Alike}
use Rattle.c_unique.proofs.Names.{label_same}
use Rattle.c_unique.proofs.Rows.{each_all, each_in, each_fits, Sure, row_same}
use Rattle.c_unique.proofs.Expressions.{ExprFits, expr_same}
use Rattle.c_unique.proofs.FirstTokens.{kind}
use Rattle.c_unique.proofs.Statements.{spell_stmt, spelled_stmt, stmt_kind, has_kind, stmt_by_form, StmtFits, SureStmt, stmt_same, misfits_by_form}

-- the tokens behind `default`
abbrev default_rest : ℕ → CExpr → List Token → List Token
default_rest n value r = mark ":" ∷ word "uq_end" ∷ mark "(" ∷ plain n ∷ mark "," ∷ (expr_toks value ++ mark ")" ∷ mark ";" ∷ mark "}" ∷ r)

-- the tokens of an end and those behind it
abbrev spell_end : End → List Token → List Token
spell_end (Goto to) r = word "goto" ∷ name (label_word to) ∷ mark ";" ∷ r
spell_end (Branch e to or_to) r =
    word "if" ∷ mark "(" ∷ (expr_toks e ++ mark ")" ∷ word "goto" ∷ name (label_word to) ∷ mark ";" ∷ word "goto" ∷ name (label_word or_to) ∷ mark ";" ∷ r)
spell_end (Switch e cases n value) r =
    word "switch" ∷ mark "(" ∷ (expr_toks e ++ mark ")" ∷ mark "{" ∷ (flat_map case_toks cases ++ word "default" ∷ default_rest n value r))
spell_end Return r = word "return" ∷ mark ";" ∷ r
spell_end (Finish n e) r = word "uq_end" ∷ mark "(" ∷ plain n ∷ mark "," ∷ (expr_toks e ++ mark ")" ∷ mark ";" ∷ r)

spelled_end : (e : End) (r : List Token) → end_toks e ++ r ≡ spell_end e r
spelled_end (Goto to) r = refl
spelled_end (Branch e to or_to) r = simp append_assoc
spelled_end (Switch e cases n value) r = simp append_assoc
spelled_end Return r = refl
spelled_end (Finish n e) r = simp append_assoc

-- the kinds of ends
abbrev end_kind : End → ℕ
end_kind (Branch e to or_to) = 8
end_kind (Goto to) = 10
end_kind (Switch e cases n value) = 11
end_kind Return = 12
end_kind (Finish n e) = 13

end_has_kind : (e : End) (r : List Token) → kind (spell_end e r) ≡ end_kind e
end_has_kind (Goto to) r = refl
end_has_kind (Branch e to or_to) r = refl
end_has_kind (Switch e cases n value) r = refl
end_has_kind Return r = refl
end_has_kind (Finish n e) r = refl

-- each number of a case has few enough bits
abbrev CaseFits : Case → Type 0
CaseFits c = case_misfits c ≡ 0

case_same : (c : Case) → Sure case_toks CaseFits c
case_same c d r s h k e =
    let values : c.value ≡ d.value = cc in
    let names : label_word c.to ≡ label_word d.to = cc in
    let labels = label_same c.to d.to (omega arith) (omega arith) names in
    record { same = λ i. record { value = values i; to = labels i }; rest = ap (drop 6) e }

no_case : (ts : List Token) (c : Case) (t : List Token) → CaseFits c → case_toks c ++ t ≡ word "default" ∷ ts → ⊥
no_case ts c t h e = cc

spelled_same : (a b : End) (r s : List Token) → end_misfits a ≡ 0 → end_misfits b ≡ 0 → end_kind a ≡ end_kind b → spell_end a r ≡ spell_end b s → Alike a b r s
spelled_same (Goto p) (Goto q) r s h k t e =
    let names : label_word p ≡ label_word q = cc in
    let labels = label_same p q h k names in
    record { same = ap Goto labels; rest = ap (drop 3) e }
spelled_same (Branch a p u) (Branch b q v) r s h k t e =
    let one = expr_same a b (mark ")" ∷ word "goto" ∷ name (label_word p) ∷ mark ";" ∷ word "goto" ∷ name (label_word u) ∷ mark ";" ∷ r)
    (mark ")" ∷ word "goto" ∷ name (label_word q) ∷ mark ";" ∷ word "goto" ∷ name (label_word v) ∷ mark ";" ∷ s) (omega arith) (omega arith) (ap (drop 2) e) in
    let behind = one.rest in
    let names : label_word p ≡ label_word q = cc in
    let others : label_word u ≡ label_word v = cc in
    let to = label_same p q (omega arith) (omega arith) names in
    let or_to = label_same u v (omega arith) (omega arith) others in
    record { same = λ i. Branch (one.same i) (to i) (or_to i); rest = ap (drop 7) behind }
spelled_same (Switch a cs n x) (Switch b ds m y) r s h k t e =
    let one = expr_same a b (mark ")" ∷ mark "{" ∷ (flat_map case_toks cs ++ word "default" ∷ default_rest n x r)) (mark ")" ∷ mark "{" ∷ (flat_map case_toks ds ++ word "default" ∷ default_rest m y s))
    (omega arith) (omega arith) (ap (drop 2) e) in
    let all = row_same case_toks CaseFits cs ds (word "default" ∷ default_rest n x r) (word "default" ∷ default_rest m y s) (each_all (Sure case_toks CaseFits) case_same cs)
    (no_case (default_rest n x r)) (no_case (default_rest m y s)) (each_fits case_misfits cs (omega arith)) (each_fits case_misfits ds (omega arith)) (ap (drop 2) one.rest) in
    let behind = all.rest in
    let numbers : n ≡ m = cc in
    let two = expr_same x y (mark ")" ∷ mark ";" ∷ mark "}" ∷ r) (mark ")" ∷ mark ";" ∷ mark "}" ∷ s) (omega arith) (omega arith) (ap (drop 6) behind) in
    record { same = λ i. Switch (one.same i) (all.same i) (numbers i) (two.same i); rest = ap (drop 3) two.rest }
spelled_same Return Return r s h k t e = record { same = refl; rest = ap (drop 2) e }
spelled_same (Finish n a) (Finish m b) r s h k t e =
    let numbers : n ≡ m = cc in
    let one = expr_same a b (mark ")" ∷ mark ";" ∷ r) (mark ")" ∷ mark ";" ∷ s) (omega arith) (omega arith) (ap (drop 4) e) in
    record { same = λ i. Finish (numbers i) (one.same i); rest = ap (drop 2) one.rest }
spelled_same a b r s _ _ t _ = absurd (omega (arith, t))

end_same : (a b : End) (r s : List Token) → end_misfits a ≡ 0 → end_misfits b ≡ 0 → end_toks a ++ r ≡ end_toks b ++ s → Alike a b r s
end_same a b r s h k e =
    let forms : spell_end a r ≡ spell_end b s = sym (spelled_end a r) ∙ e ∙ spelled_end b s in
    spelled_same a b r s h k (sym (end_has_kind a r) ∙ ap kind forms ∙ end_has_kind b s) forms

-- only a branch begins as a statement does, as an `if`, and `goto` tells it from one
below_ends : (z : Stmt-F Stmt) → stmt_kind z < 10
below_ends (Stmt-F.Set v e) = omega arith
below_ends (Stmt-F.Load v size e) = omega arith
below_ends (Stmt-F.TakeW v e) = omega arith
below_ends (Stmt-F.Store size a e) = omega arith
below_ends (Stmt-F.PutW a e) = omega arith
below_ends (Stmt-F.Serve n x y z) = omega arith
below_ends (Stmt-F.Call f es) = omega arith
below_ends (Stmt-F.If e inner) = omega arith
below_ends (Stmt-F.Stop n e) = omega arith

no_form_branches : (z : Stmt-F Stmt) (b : CExpr) (p q : Point) (t r : List Token) → node_stmt_misfits (map-Stmt Stmt ℕ stmt_misfits z) ≡ 0 → ExprFits b → stmt_kind z ≡ 8
    → spell_stmt z t ≡ spell_end (Branch b p q) r → ⊥
no_form_branches (Stmt-F.If a xs) b p q t r h k kinds e =
    let one = expr_same a b (mark ")" ∷ mark "{" ∷ (flat_map stmt_toks xs ++ mark "}" ∷ t)) (mark ")" ∷ word "goto" ∷ name (label_word p) ∷ mark ";" ∷ word "goto" ∷ name (label_word q) ∷ mark ";" ∷ r)
    (omega arith) k (ap (drop 2) e) in
    let behind = one.rest in
    cc
no_form_branches z b p q t r _ _ kinds _ = omega (arith, kinds)

no_form_ends : (z : Stmt-F Stmt) (x : End) (t r : List Token) → node_stmt_misfits (map-Stmt Stmt ℕ stmt_misfits z) ≡ 0 → end_misfits x ≡ 0 → stmt_kind z ≡ end_kind x
    → spell_stmt z t ≡ spell_end x r → ⊥
no_form_ends z (Branch b p q) t r h k kinds e = no_form_branches z b p q t r h (omega arith) kinds e
no_form_ends z (Goto to) t r _ _ kinds _ = let below = below_ends z in omega (arith, kinds, below)
no_form_ends z (Switch e cases n value) t r _ _ kinds _ = let below = below_ends z in omega (arith, kinds, below)
no_form_ends z Return t r _ _ kinds _ = let below = below_ends z in omega (arith, kinds, below)
no_form_ends z (Finish n e) t r _ _ kinds _ = let below = below_ends z in omega (arith, kinds, below)

no_stmt_ends : (x : End) (r : List Token) → end_misfits x ≡ 0 → (s : Stmt) (t : List Token) → StmtFits s → stmt_toks s ++ t ≡ end_toks x ++ r → ⊥
no_stmt_ends x r k s t = stmt_by_form (λ s. StmtFits s → stmt_toks s ++ t ≡ end_toks x ++ r → ⊥)
    (λ z h e.
    let forms : spell_stmt z t ≡ spell_end x r = sym (spelled_stmt z t) ∙ e ∙ spelled_end x r in
    no_form_ends z x t r (sym (misfits_by_form z) ∙ h) k (sym (has_kind z t) ∙ ap kind forms ∙ end_has_kind x r) forms) s

-- the numbers of statements that have a form
numbers_of : (ss : List Stmt) → All StmtHasForm ss → All StmtFits ss
numbers_of ss h = All-weaker StmtHasForm StmtFits (λ s h. h.numbers) ss h

pub block_same : (b : CBlock) → Sure block_toks BlockHasForm b
block_same a b r s h k e =
    let names : label_word a.label ≡ label_word b.label = cc in
    let labels = label_same a.label b.label h.label k.label names in
    let all = row_same stmt_toks StmtFits a.stmts b.stmts (end_toks a.end ++ r) (end_toks b.end ++ s) (each_all SureStmt stmt_same a.stmts)
    (no_stmt_ends a.end r h.end_numbers) (no_stmt_ends b.end s k.end_numbers) (each_in StmtFits a.stmts (numbers_of a.stmts h.stmts)) (each_in StmtFits b.stmts (numbers_of b.stmts k.stmts))
    (sym (append_assoc (flat_map stmt_toks a.stmts) (end_toks a.end) r) ∙ ap (drop 3) e ∙ append_assoc (flat_map stmt_toks b.stmts) (end_toks b.end) s) in
    let last = end_same a.end b.end r s h.end_numbers k.end_numbers all.rest in
    record { same = λ i. record { label = labels i; stmts = all.same i; end = last.same i }; rest = last.rest }
