-- Statements, from their tokens to the tree and back.
use Rattle.std.proofs.Common.{◌≡◌, ℕ, ◌<◌, ◌≤◌, ◌^◌, zero, suc, false, length, drop, List, [], ◌∷◌, ◌++◌, map, refl, sym, ap, ◌∙◌, subst, arith, append_assoc}
use Rattle.std.specs.Prelude.{not}
use Rattle.std.proofs.lemmas.List.{append-nil}
use Rattle.c_lang.specs.declared.tree.CExpr.{CExpr}
use Rattle.c_lang.specs.declared.tree.Stmt.{Stmt}
use Rattle.c_lang.specs.declared.tree.Stmt.TheVariants as S
use Rattle.c_lang.specs.declared.tree.Stmt.TheOpen.{Stmt-F}
use Rattle.c_lang.specs.declared.tree.Var.{Var}
use Rattle.c_lang.specs.declared.tree.Var.TheVariants.{Ra, Pt, Cell, Temp, Result, Wn, Depth, ServeR, ServeE}
use Rattle.c_lang.specs.Spellable.{nesting, largest, ifs, above, deepest, total, expr_misfits, stmt_misfits, var_misfits}
use Rattle.c_lang.proofs.SpellingLaws.{fits, has_bits}
use Rattle.c_text.specs.Tokens.{Token, mark, plain, word, sign}
use Rattle.c_text.specs.Expressions.{expr_toks, var_token}
use Rattle.c_text.specs.Statements.{stmt_toks}
use Rattle.c_scan.specs.Readings.{takes, Reader, followed, at, at_function}
use Rattle.c_read.specs.Combined.{Each, in_turn, before, behind}
use Rattle.c_read.specs.Expressions.{IsExpr, expr, variable}
use Rattle.c_read.specs.Statements.{IsStmt, value, load, window, store, put, serve, stop, call, condition, deeper_stmt, stmts_within, in_braces, read_loaded, read_word_taken, read_assigned, read_stored, read_word_put, read_service, read_stopped, read_called, read_guarded, read_right_side, read_by_first, read_statement}
use Rattle.c_read.proofs.SyntaxLaws.{FrontIs, GivesBack, Mirrors, no_read, in_sequence, sign_asked, word_asked, both_mirrored, before_mirrored, behind_mirrored, made_fronts, made_read, either_fronts}
use Rattle.c_read.proofs.Loops.{Consumes, consumes_from, enclosed_mirrored, paren_closer, while_mark_mirrored}
use Rattle.c_read.proofs.Words.{named_mirrored, plain_mirrored, var_meaning}
use Rattle.c_read.proofs.NamedPlaces.{function_meaning}
use Rattle.c_read.proofs.ExprExact.{expr_mirrored, expr_begins, expr_starts}
use Rattle.c_read.proofs.StmtLaws.{from_layer, spell, spelled, layer_ifs, nested, layer_deepest, deep, layer_misfits, misfits, by_layer}

-- the numbers and the depth of one layer
record LayerFits (n : ℕ) (x : Stmt-F Stmt) : Type 0 where
  level : layer_ifs x < n
  exprs : layer_deepest x ≤ 2000
  fit : layer_misfits x ≡ 0

layer_fits : (n : ℕ) (x : Stmt-F Stmt) → IsStmt n (from_layer x) → LayerFits n x
layer_fits n x p = record { level = subst (λ k. k < n) (nested x) p.nested; exprs = subst (λ k. k ≤ 2000) (deep x) p.exprs; fit = sym (misfits x) ∙ p.fits }

fits_layer : (n : ℕ) (x : Stmt-F Stmt) → LayerFits n x → IsStmt n (from_layer x)
fits_layer n x p = record { nested = subst (λ k. k < n) (sym (nested x)) p.level; exprs = subst (λ k. k ≤ 2000) (sym (deep x)) p.exprs; fits = misfits x ∙ p.fit }

abbrev IsE : CExpr → Type 0
IsE = IsExpr 2001

to_expr : (e : CExpr) → nesting e ≤ 2000 → expr_misfits e ≡ 0 → IsE e
to_expr e l f = record { depth = omega arith; fits = f }

-- ---- arguments, and statements in braces

record AreDeep (es : List CExpr) : Type 0 where
  shallow : largest (map nesting es) ≤ 2000
  fit : total (map expr_misfits es) ≡ 0

each_deep : (es : List CExpr) → Each IsE es → AreDeep es
each_deep [] p = record { shallow = omega arith; fit = refl }
each_deep (e ∷ es) p =
    let rec = each_deep es p.1 in
    let a = p.0.depth in
    let b = rec.shallow in
    record { shallow = omega arith; fit = omega (arith, p.0.fits, rec.fit) }

deep_each : (es : List CExpr) → largest (map nesting es) ≤ 2000 → total (map expr_misfits es) ≡ 0 → Each IsE es
deep_each [] l f = tt
deep_each (e ∷ es) l f = (to_expr e (omega (arith, l)) (omega (arith, f)), deep_each es (omega (arith, l)) (omega (arith, f)))

record AreInside (n : ℕ) (xs : List Stmt) : Type 0 where
  level : above (map ifs xs) ≤ n
  shallow : largest (map deepest xs) ≤ 2000
  fit : total (map stmt_misfits xs) ≡ 0

each_inside : (n : ℕ) (xs : List Stmt) → Each (IsStmt n) xs → AreInside n xs
each_inside n [] p = record { level = omega arith; shallow = omega arith; fit = refl }
each_inside n (x ∷ xs) p =
    let rec = each_inside n xs p.1 in
    let a = p.0.nested in
    let b = p.0.exprs in
    let c = rec.level in
    let d = rec.shallow in
    record { level = omega arith; shallow = omega arith; fit = omega (arith, p.0.fits, rec.fit) }

inside_each : (n : ℕ) (xs : List Stmt) → above (map ifs xs) ≤ n → largest (map deepest xs) ≤ 2000 → total (map stmt_misfits xs) ≡ 0 → Each (IsStmt n) xs
inside_each n [] l d f = tt
inside_each n (x ∷ xs) l d f = (record { nested = omega (arith, l); exprs = omega (arith, d); fits = omega (arith, f) }, inside_each n xs (omega (arith, l)) (omega (arith, d)) (omega (arith, f)))

-- ---- what stands behind each first name

abbrev IsSize : ℕ → Type 0
IsSize n = n < 2 ^ 64

e_mirrored : Mirrors expr IsE
e_mirrored = expr_mirrored 2001

-- an expression that two signs close
closed : (a b : List ℕ) → Mirrors (behind (behind expr (sign a)) (sign b)) IsE
closed a b = behind_mirrored _ _ _ (sign_asked b) (behind_mirrored _ _ _ (sign_asked a) e_mirrored)

value_mirrored : Mirrors value IsE
value_mirrored = behind_mirrored _ _ _ (sign_asked _) e_mirrored

load_mirrored : Mirrors load (λ x. IsSize x.0 × IsE x.1)
load_mirrored = before_mirrored _ _ _ (word_asked _) (before_mirrored _ _ _ (sign_asked _) (both_mirrored _ _ _ _ plain_mirrored (before_mirrored _ _ _ (sign_asked _) (closed _ _))))

window_mirrored : Mirrors window IsE
window_mirrored = before_mirrored _ _ _ (word_asked _) (before_mirrored _ _ _ (sign_asked _) (closed _ _))

store_mirrored : Mirrors store (λ x. IsSize x.0 × (IsE x.1.0 × IsE x.1.1))
store_mirrored =
    before_mirrored _ _ _ (word_asked _) (before_mirrored _ _ _ (sign_asked _) (both_mirrored _ _ _ (λ x. IsE x.0 × IsE x.1) plain_mirrored
    (before_mirrored _ _ _ (sign_asked _) (both_mirrored _ _ _ _ e_mirrored (before_mirrored _ _ _ (sign_asked _) (closed _ _))))))

put_mirrored : Mirrors put (λ x. IsE x.0 × IsE x.1)
put_mirrored = before_mirrored _ _ _ (word_asked _) (before_mirrored _ _ _ (sign_asked _) (both_mirrored _ _ _ _ (closed _ _) value_mirrored))

serve_mirrored : Mirrors serve (λ x. IsE x.0 × (IsE x.1.0 × (IsE x.1.1.0 × IsE x.1.1.1)))
serve_mirrored =
    before_mirrored _ _ _ (word_asked _) (before_mirrored _ _ _ (sign_asked _) (both_mirrored _ _ _ (λ x. IsE x.0 × (IsE x.1.0 × IsE x.1.1)) e_mirrored
    (before_mirrored _ _ _ (sign_asked _) (both_mirrored _ _ _ (λ x. IsE x.0 × IsE x.1) e_mirrored
    (before_mirrored _ _ _ (sign_asked _) (both_mirrored _ _ _ _ e_mirrored (before_mirrored _ _ _ (sign_asked _) (closed _ _))))))))

stop_mirrored : Mirrors stop (λ x. IsSize x.0 × IsE x.1)
stop_mirrored = before_mirrored _ _ _ (word_asked _) (before_mirrored _ _ _ (sign_asked _) (both_mirrored _ _ _ _ plain_mirrored (before_mirrored _ _ _ (sign_asked _) (closed _ _))))

call_mirrored : Mirrors call (λ x. x.0 < 2 ^ 32 × Each IsE x.1)
call_mirrored =
    both_mirrored _ _ _ (Each IsE) (named_mirrored _ _ _ function_meaning)
    (before_mirrored _ _ _ (sign_asked _) (behind_mirrored _ _ _ (sign_asked _) (enclosed_mirrored (mark ")") expr IsE paren_closer e_mirrored (expr_starts 2001))))

pub condition_mirrored : Mirrors condition IsE
condition_mirrored = before_mirrored _ _ _ (word_asked _) (before_mirrored _ _ _ (sign_asked _) (behind_mirrored _ _ _ (sign_asked _) e_mirrored))

target_mirrored : Mirrors (behind variable (mark "=")) (λ v. var_misfits v ≡ 0)
target_mirrored = behind_mirrored _ _ _ (sign_asked _) (named_mirrored _ _ _ var_meaning)

-- ---- the first token of a statement

-- a variable's name is none of the words that begin other statements
record IsPlain (t : Token) : Type 0 where
  store : (given : List Token) → at (word "uq_store") (t ∷ given) ≡ false
  window : (given : List Token) → at (word "uq_w") (t ∷ given) ≡ false
  serve : (given : List Token) → at (word "uq_serve") (t ∷ given) ≡ false
  stop : (given : List Token) → at (word "uq_stop") (t ∷ given) ≡ false
  condition : (given : List Token) → at (word "if") (t ∷ given) ≡ false
  call : (given : List Token) → at_function (t ∷ given) ≡ false
  close : (given : List Token) → at (mark "}") (t ∷ given) ≡ false

plain_var : (v : Var) → IsPlain (var_token v)
plain_var Ra = record { store = λ given. refl; window = λ given. refl; serve = λ given. refl; stop = λ given. refl; condition = λ given. refl; call = λ given. refl; close = λ given. refl }
plain_var Pt = record { store = λ given. refl; window = λ given. refl; serve = λ given. refl; stop = λ given. refl; condition = λ given. refl; call = λ given. refl; close = λ given. refl }
plain_var (Cell i) = record { store = λ given. refl; window = λ given. refl; serve = λ given. refl; stop = λ given. refl; condition = λ given. refl; call = λ given. refl; close = λ given. refl }
plain_var (Temp k) = record { store = λ given. refl; window = λ given. refl; serve = λ given. refl; stop = λ given. refl; condition = λ given. refl; call = λ given. refl; close = λ given. refl }
plain_var (Result i) = record { store = λ given. refl; window = λ given. refl; serve = λ given. refl; stop = λ given. refl; condition = λ given. refl; call = λ given. refl; close = λ given. refl }
plain_var Wn = record { store = λ given. refl; window = λ given. refl; serve = λ given. refl; stop = λ given. refl; condition = λ given. refl; call = λ given. refl; close = λ given. refl }
plain_var Depth = record { store = λ given. refl; window = λ given. refl; serve = λ given. refl; stop = λ given. refl; condition = λ given. refl; call = λ given. refl; close = λ given. refl }
plain_var ServeR = record { store = λ given. refl; window = λ given. refl; serve = λ given. refl; stop = λ given. refl; condition = λ given. refl; call = λ given. refl; close = λ given. refl }
plain_var ServeE = record { store = λ given. refl; window = λ given. refl; serve = λ given. refl; stop = λ given. refl; condition = λ given. refl; call = λ given. refl; close = λ given. refl }

layer_begins : (x : Stmt-F Stmt) (remain : List Token) → (0 < length (spell x remain)) × (at (mark "}") (spell x remain) ≡ false)
layer_begins (Stmt-F.Set v e) remain = (omega arith, (plain_var v).close (drop 1 (spell (Stmt-F.Set v e) remain)))
layer_begins (Stmt-F.Load v n e) remain = (omega arith, (plain_var v).close (drop 1 (spell (Stmt-F.Load v n e) remain)))
layer_begins (Stmt-F.Store n a e) remain = (omega arith, refl)
layer_begins (Stmt-F.TakeW v e) remain = (omega arith, (plain_var v).close (drop 1 (spell (Stmt-F.TakeW v e) remain)))
layer_begins (Stmt-F.PutW a e) remain = (omega arith, refl)
layer_begins (Stmt-F.Serve n x y z) remain = (omega arith, refl)
layer_begins (Stmt-F.Call f es) remain = (omega arith, refl)
layer_begins (Stmt-F.If e inner) remain = (omega arith, refl)
layer_begins (Stmt-F.Stop n e) remain = (omega arith, refl)

pub stmt_begins : (s : Stmt) (remain : List Token) → (0 < length (stmt_toks s ++ remain)) × (at (mark "}") (stmt_toks s ++ remain) ≡ false)
stmt_begins s remain = by_layer (λ s. (0 < length (stmt_toks s ++ remain)) × (at (mark "}") (stmt_toks s ++ remain) ≡ false)) (λ x. subst (λ given. (0 < length given) × (at (mark "}") given ≡ false)) (sym (spelled x remain)) (layer_begins x remain)) s

pub filled : (s : Stmt) → 0 < length (stmt_toks s)
filled s = subst (λ given. 0 < length given) (append-nil (stmt_toks s)) (stmt_begins s []).0

-- ---- a statement by its form

module _ (inner : Reader Stmt) (n : ℕ) (exact : Mirrors (deeper_stmt inner) (IsStmt n)) where
  pub inner_mirrored : Mirrors (stmts_within inner) (Each (IsStmt n))
  inner_mirrored = while_mark_mirrored (λ given. not (at (mark "}") given)) (deeper_stmt inner) (mark "}") (IsStmt n) (sign_asked _) exact
      (record { filled = λ s p. filled s; begins = λ s remain p. rw ((stmt_begins s remain).1) refl; ends = λ y remain q. refl })

  if_mirrored : Mirrors (in_turn condition (in_braces inner)) (λ x. IsE x.0 × Each (IsStmt n) x.1)
  if_mirrored = both_mirrored _ _ _ _ condition_mirrored (before_mirrored _ _ _ (sign_asked _) inner_mirrored)

  abbrev Q : Stmt → Type 0
  Q = IsStmt (suc n)

  abbrev Shown : List Token → Stmt → List Token → Type 0
  Shown given y remain = FrontIs {A = Stmt} stmt_toks Q given y remain

  store_fronts : (given : List Token) (y : Stmt) (remain : List Token) → read_stored given ≡ takes y remain → Shown given y remain
  unfolding read_stored
  store_fronts given = made_fronts _ store _ stmt_toks Q (λ given. given) store_mirrored (λ x. record {
    same = λ remain. let e : store.spell x ++ remain ≡ spell (Stmt-F.Store x.0 x.1.0 x.1.1) remain = simp append_assoc in e ∙ sym (spelled (Stmt-F.Store x.0 x.1.0 x.1.1) remain);
    proper = λ q. let a = q.1.0.depth in let b = q.1.1.depth in fits_layer (suc n) (Stmt-F.Store x.0 x.1.0 x.1.1) (record { level = omega arith; exprs = omega arith; fit = omega (arith, fits 64 x.0 q.0, q.1.0.fits, q.1.1.fits) });
  }) given

  put_fronts : (given : List Token) (y : Stmt) (remain : List Token) → read_word_put given ≡ takes y remain → Shown given y remain
  unfolding read_word_put
  put_fronts given = made_fronts _ put _ stmt_toks Q (λ given. given) put_mirrored (λ x. record {
    same = λ remain. let e : put.spell x ++ remain ≡ spell (Stmt-F.PutW x.0 x.1) remain = simp append_assoc in e ∙ sym (spelled (Stmt-F.PutW x.0 x.1) remain);
    proper = λ q. let a = q.0.depth in let b = q.1.depth in fits_layer (suc n) (Stmt-F.PutW x.0 x.1) (record { level = omega arith; exprs = omega arith; fit = omega (arith, q.0.fits, q.1.fits) });
  }) given

  serve_fronts : (given : List Token) (y : Stmt) (remain : List Token) → read_service given ≡ takes y remain → Shown given y remain
  unfolding read_service
  serve_fronts given = made_fronts _ serve _ stmt_toks Q (λ given. given) serve_mirrored (λ x. record {
    same = λ remain. let e : serve.spell x ++ remain ≡ spell (Stmt-F.Serve x.0 x.1.0 x.1.1.0 x.1.1.1) remain = simp append_assoc in e ∙ sym (spelled (Stmt-F.Serve x.0 x.1.0 x.1.1.0 x.1.1.1) remain);
    proper = λ q. let a = q.0.depth in let b = q.1.0.depth in let c = q.1.1.0.depth in let d = q.1.1.1.depth in fits_layer (suc n) (Stmt-F.Serve x.0 x.1.0 x.1.1.0 x.1.1.1) (record { level = omega arith; exprs = omega arith; fit = omega (arith, q.0.fits, q.1.0.fits, q.1.1.0.fits, q.1.1.1.fits) });
  }) given

  stop_fronts : (given : List Token) (y : Stmt) (remain : List Token) → read_stopped given ≡ takes y remain → Shown given y remain
  unfolding read_stopped
  stop_fronts given = made_fronts _ stop _ stmt_toks Q (λ given. given) stop_mirrored (λ x. record {
    same = λ remain. let e : stop.spell x ++ remain ≡ spell (Stmt-F.Stop x.0 x.1) remain = simp append_assoc in e ∙ sym (spelled (Stmt-F.Stop x.0 x.1) remain);
    proper = λ q. let a = q.1.depth in fits_layer (suc n) (Stmt-F.Stop x.0 x.1) (record { level = omega arith; exprs = omega arith; fit = omega (arith, fits 64 x.0 q.0, q.1.fits) });
  }) given

  call_fronts : (given : List Token) (y : Stmt) (remain : List Token) → read_called given ≡ takes y remain → Shown given y remain
  unfolding read_called
  call_fronts given = made_fronts _ call _ stmt_toks Q (λ given. given) call_mirrored (λ x. record {
    same = λ remain. let e : call.spell x ++ remain ≡ spell (Stmt-F.Call x.0 x.1) remain = simp append_assoc in e ∙ sym (spelled (Stmt-F.Call x.0 x.1) remain);
    proper = λ q. let d = each_deep x.1 q.1 in fits_layer (suc n) (Stmt-F.Call x.0 x.1) (record { level = omega arith; exprs = d.shallow; fit = omega (arith, fits 32 x.0 q.0, d.fit) });
  }) given

  if_fronts : (given : List Token) (y : Stmt) (remain : List Token) → read_guarded inner given ≡ takes y remain → Shown given y remain
  unfolding read_guarded
  if_fronts given = made_fronts _ (in_turn condition (in_braces inner)) _ stmt_toks Q (λ given. given) if_mirrored (λ x. record {
    same = λ remain. let e : (in_turn condition (in_braces inner)).spell x ++ remain ≡ spell (Stmt-F.If x.0 x.1) remain = simp append_assoc in e ∙ sym (spelled (Stmt-F.If x.0 x.1) remain);
    proper = λ q. let a = q.0.depth in let d = each_inside n x.1 q.1 in let l = d.level in let m = d.shallow in fits_layer (suc n) (Stmt-F.If x.0 x.1) (record { level = omega arith; exprs = omega arith; fit = omega (arith, q.0.fits, d.fit) });
  }) given

  -- where a variable and `=` stand in front
  module _ (v : Var) (p : var_misfits v ≡ 0) where
    abbrev front : List Token → List Token
    front given = var_token v ∷ mark "=" ∷ given

    set_fronts : (given : List Token) (y : Stmt) (remain : List Token) → read_assigned v given ≡ takes y remain → Shown (front given) y remain
    unfolding read_assigned
    set_fronts given = made_fronts _ value _ stmt_toks Q front value_mirrored (λ x. record {
      same = λ remain. let e : front (value.spell x ++ remain) ≡ spell (Stmt-F.Set v x) remain = simp append_assoc in e ∙ sym (spelled (Stmt-F.Set v x) remain);
      proper = λ q. let a = q.depth in fits_layer (suc n) (Stmt-F.Set v x) (record { level = omega arith; exprs = omega arith; fit = omega (arith, p, q.fits) });
    }) given

    load_fronts : (given : List Token) (y : Stmt) (remain : List Token) → read_loaded v given ≡ takes y remain → Shown (front given) y remain
    unfolding read_loaded
    load_fronts given = made_fronts _ load _ stmt_toks Q front load_mirrored (λ x. record {
      same = λ remain. let e : front (load.spell x ++ remain) ≡ spell (Stmt-F.Load v x.0 x.1) remain = simp append_assoc in e ∙ sym (spelled (Stmt-F.Load v x.0 x.1) remain);
      proper = λ q. let a = q.1.depth in fits_layer (suc n) (Stmt-F.Load v x.0 x.1) (record { level = omega arith; exprs = omega arith; fit = omega (arith, p, fits 64 x.0 q.0, q.1.fits) });
    }) given

    window_fronts : (given : List Token) (y : Stmt) (remain : List Token) → read_word_taken v given ≡ takes y remain → Shown (front given) y remain
    unfolding read_word_taken
    window_fronts given = made_fronts _ window _ stmt_toks Q front window_mirrored (λ x. record {
      same = λ remain. let e : front (window.spell x ++ remain) ≡ spell (Stmt-F.TakeW v x) remain = simp append_assoc in e ∙ sym (spelled (Stmt-F.TakeW v x) remain);
      proper = λ q. let a = q.depth in fits_layer (suc n) (Stmt-F.TakeW v x) (record { level = omega arith; exprs = omega arith; fit = omega (arith, p, q.fits) });
    }) given

    value_fronts : (given : List Token) (y : Stmt) (remain : List Token) → read_right_side v given ≡ takes y remain → Shown (front given) y remain
    unfolding read_right_side
    value_fronts given y remain =
        either_fronts (at (word "uq_load") given) _ _ (Shown (front given)) y remain (load_fronts given)
        (λ y remain. either_fronts (at (word "uq_w") given) _ _ (Shown (front given)) y remain (window_fronts given) (set_fronts given))

  target_fronts : (given : List Token) (y : Stmt) (remain : List Token) → followed ((behind variable (mark "=")).read given) read_right_side ≡ takes y remain → Shown given y remain
  target_fronts given y remain h =
      let one = in_sequence ((behind variable (mark "=")).read given) read_right_side y remain h in
      let a = target_mirrored.only_these.seen_front given one.x one.mid one.first in
      let b = value_fronts one.x a.proper one.mid y remain one.second in
      record { spelled = a.spelled ∙ b.spelled; proper = b.proper }

  form_fronts : (given : List Token) (y : Stmt) (remain : List Token) → read_by_first inner given ≡ takes y remain → Shown given y remain
  unfolding read_by_first
  form_fronts given y remain =
      either_fronts (at (word "uq_store") given) _ _ (Shown given) y remain (store_fronts given)
      (λ y remain. either_fronts (at (word "uq_w") given) _ _ (Shown given) y remain (put_fronts given)
      (λ y remain. either_fronts (at (word "uq_serve") given) _ _ (Shown given) y remain (serve_fronts given)
      (λ y remain. either_fronts (at (word "uq_stop") given) _ _ (Shown given) y remain (stop_fronts given)
      (λ y remain. either_fronts (at (word "if") given) _ _ (Shown given) y remain (if_fronts given)
      (λ y remain. either_fronts (at_function given) _ _ (Shown given) y remain (call_fronts given) (target_fronts given))))))

  -- an assignment is told by its variable
  set_to : (v : Var) (given : List Token) → var_misfits v ≡ 0 → read_by_first inner (var_token v ∷ mark "=" ∷ given) ≡ read_right_side v given
  unfolding read_by_first
  set_to v given p =
      let k = plain_var v in
      rw (k.store _, k.window _, k.serve _, k.stop _, k.condition _, k.call _)
      (ap (λ o. followed o read_right_side) ((target_mirrored.all_these v p).read_back given))

  form_read : (x : Stmt-F Stmt) (remain : List Token) → LayerFits (suc n) x → read_by_first inner (spell x remain) ≡ takes (from_layer x) remain
  unfolding read_by_first read_right_side read_stored read_word_put read_service read_stopped read_guarded read_called read_assigned read_loaded read_word_taken
  form_read (Stmt-F.Set v e) remain p =
      let d = p.exprs in
      let b = expr_begins e (mark ";" ∷ remain) in
      set_to v (expr_toks e ++ mark ";" ∷ remain) (omega (arith, p.fit))
      ∙ rw (b.no_load, b.no_window) (made_read (S.Set v) value _ stmt_toks Q value_mirrored e (expr_toks e ++ mark ";" ∷ remain) remain (to_expr e (omega arith) (omega (arith, p.fit))) (simp append_assoc))
  form_read (Stmt-F.Load v m e) remain p =
      let d = p.exprs in
      let given = word "uq_load" ∷ mark "(" ∷ plain m ∷ mark "," ∷ (expr_toks e ++ mark ")" ∷ mark ";" ∷ remain) in
      set_to v given (omega (arith, p.fit)) ∙ made_read (λ x. S.Load v x.0 x.1) load _ stmt_toks Q load_mirrored (m, e) given remain (has_bits 64 m (omega (arith, p.fit)), to_expr e (omega arith) (omega (arith, p.fit))) (simp append_assoc)
  form_read (Stmt-F.Store m a e) remain p =
      let d = p.exprs in
      made_read (λ x. S.Store x.0 x.1.0 x.1.1) store _ stmt_toks Q store_mirrored (m, (a, e)) (spell (Stmt-F.Store m a e) remain) remain (has_bits 64 m (omega (arith, p.fit)), (to_expr a (omega arith) (omega (arith, p.fit)), to_expr e (omega arith) (omega (arith, p.fit)))) (simp append_assoc)
  form_read (Stmt-F.TakeW v e) remain p =
      let d = p.exprs in
      let given = word "uq_w" ∷ mark "[" ∷ (expr_toks e ++ mark "]" ∷ mark ";" ∷ remain) in
      set_to v given (omega (arith, p.fit)) ∙ made_read (S.TakeW v) window _ stmt_toks Q window_mirrored e given remain (to_expr e (omega arith) (omega (arith, p.fit))) (simp append_assoc)
  form_read (Stmt-F.PutW a e) remain p =
      let d = p.exprs in
      made_read (λ x. S.PutW x.0 x.1) put _ stmt_toks Q put_mirrored (a, e) (spell (Stmt-F.PutW a e) remain) remain (to_expr a (omega arith) (omega (arith, p.fit)), to_expr e (omega arith) (omega (arith, p.fit))) (simp append_assoc)
  form_read (Stmt-F.Serve m x y z) remain p =
      let d = p.exprs in
      made_read (λ x. S.Serve x.0 x.1.0 x.1.1.0 x.1.1.1) serve _ stmt_toks Q serve_mirrored (m, (x, (y, z))) (spell (Stmt-F.Serve m x y z) remain) remain
      (to_expr m (omega arith) (omega (arith, p.fit)), (to_expr x (omega arith) (omega (arith, p.fit)), (to_expr y (omega arith) (omega (arith, p.fit)), to_expr z (omega arith) (omega (arith, p.fit))))) (simp append_assoc)
  form_read (Stmt-F.Call g es) remain p =
      made_read (λ x. S.Call x.0 x.1) call _ stmt_toks Q call_mirrored (g, es) (spell (Stmt-F.Call g es) remain) remain (has_bits 32 g (omega (arith, p.fit)), deep_each es p.exprs (omega (arith, p.fit))) (simp append_assoc)
  form_read (Stmt-F.If e xs) remain p =
      let l = p.level in
      let d = p.exprs in
      made_read (λ x. S.If x.0 x.1) (in_turn condition (in_braces inner)) _ stmt_toks Q if_mirrored (e, xs) (spell (Stmt-F.If e xs) remain) remain
      (to_expr e (omega arith) (omega (arith, p.fit)), inside_each n xs (omega arith) (omega arith) (omega (arith, p.fit))) (simp append_assoc)
  form_read (Stmt-F.Stop m e) remain p =
      let d = p.exprs in
      made_read (λ x. S.Stop x.0 x.1) stop _ stmt_toks Q stop_mirrored (m, e) (spell (Stmt-F.Stop m e) remain) remain (has_bits 64 m (omega (arith, p.fit)), to_expr e (omega arith) (omega (arith, p.fit))) (simp append_assoc)

  level_mirrored : Mirrors (deeper_stmt (read_by_first inner)) (IsStmt (suc n))
  level_mirrored = record {
    only_these = record { seen_front = form_fronts };
    all_these = λ s. by_layer (λ s. IsStmt (suc n) s → GivesBack (read_by_first inner) stmt_toks s) (λ x p. record { read_back = λ remain. ap (read_by_first inner) (spelled x remain) ∙ form_read x remain (layer_fits (suc n) x p) }) s;
  }

-- inside any number of `if`s
pub stmt_mirrored : (n : ℕ) → Mirrors (deeper_stmt (read_statement n)) (IsStmt n)
unfolding read_statement
stmt_mirrored zero = record { only_these = record { seen_front = λ given x remain h. no_read x remain h }; all_these = λ s p. let l = p.nested in absurd (omega arith) }
stmt_mirrored (suc n) = level_mirrored (read_statement n) n (stmt_mirrored n)

pub stmt_consumes : (n : ℕ) → Consumes (read_statement n)
stmt_consumes n = consumes_from (deeper_stmt (read_statement n)) (IsStmt n) (stmt_mirrored n).only_these (λ s p. filled s)

pub next_mirrored : Mirrors (before (mark ",") expr) IsE
next_mirrored = before_mirrored (mark ",") expr IsE (sign_asked _) e_mirrored

pub next_consumes : Consumes (before (mark ",") expr).read
next_consumes = consumes_from (before (mark ",") expr) IsE next_mirrored.only_these (λ e p. omega arith)

-- an `if` from its condition and its body
pub stmt_if : (n : ℕ) (c : CExpr) (xs : List Stmt) → IsE c → Each (IsStmt n) xs → IsStmt (suc n) (S.If c xs)
stmt_if n c xs p q =
    let a = p.depth in
    let d = each_inside n xs q in
    let l = d.level in
    let m = d.shallow in
    fits_layer (suc n) (Stmt-F.If c xs) (record { level = omega arith; exprs = omega arith; fit = omega (arith, p.fits, d.fit) })

-- a condition and a body from their `if`
pub if_parts : (n : ℕ) (c : CExpr) (xs : List Stmt) → IsStmt (suc n) (S.If c xs) → IsE c × Each (IsStmt n) xs
if_parts n c xs p =
    let q = layer_fits (suc n) (Stmt-F.If c xs) p in
    let l = q.level in
    let d = q.exprs in
    (to_expr c (omega arith) (omega (arith, q.fit)), inside_each n xs (omega arith) (omega arith) (omega (arith, q.fit)))
