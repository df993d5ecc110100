-- What is read has a form, and what has a form is read: the parts of items as the language defines them.
use Rattle.std.proofs.Common.{◌≡◌, ℕ, ◌<◌, ◌≤◌, ◌^◌, List, [], ◌∷◌, map, refl, arith}
use Rattle.std.specs.List.{All}
use Rattle.std.proofs.lemmas.List.Elements.{All-nil, All-cons, All-head, All-tail}
use Rattle.c_lang.specs.declared.tree.Case.{Case}
use Rattle.c_lang.specs.declared.tree.CBlock.{CBlock}
use Rattle.c_lang.specs.declared.tree.CExpr.{CExpr}
use Rattle.c_lang.specs.declared.tree.End.{End}
use Rattle.c_lang.specs.declared.tree.End.TheVariants.{Goto, Branch, Switch, Return, Finish}
use Rattle.c_lang.specs.declared.tree.Function.{Function}
use Rattle.c_lang.specs.declared.tree.Stmt.{Stmt}
use Rattle.c_lang.specs.Items.{Array, Prototype, prototype_of}
use Rattle.c_lang.specs.Spellable.{ArrayHasForm, BlockHasForm, FunctionHasForm, PrototypeHasForm, StmtHasForm, case_misfits, end_deepest, end_misfits, expr_misfits, nesting, total}
use Rattle.c_lang.proofs.SpellingLaws.{fits, has_bits}
use Rattle.c_read.specs.Combined.{Each}
use Rattle.c_read.specs.Expressions.{IsExpr}
use Rattle.c_read.specs.Statements.{IsStmt}
use Rattle.c_read.specs.Blocks.{IsBlock, IsEnd, IsPoint}
use Rattle.c_read.specs.Functions.{IsFunction, IsPrototype}

-- ---- lists

pub each_all : {A : Type 0} (P Q : A → Type 0) → ((x : A) → P x → Q x) → (xs : List A) → Each P xs → All Q xs
each_all P Q f [] h = All-nil Q
each_all P Q f (x ∷ xs) h = All-cons Q x xs (f x h.0) (each_all P Q f xs h.1)

pub all_each : {A : Type 0} (P Q : A → Type 0) → ((x : A) → P x → Q x) → (xs : List A) → All P xs → Each Q xs
all_each P Q f [] h = tt
all_each P Q f (x ∷ xs) h = (f x (All-head P x xs h), all_each P Q f xs (All-tail P x xs h))

-- ---- statements and ends

stmt_form : (s : Stmt) → IsStmt 201 s → StmtHasForm s
stmt_form s p = record { exprs = p.exprs; nested = omega (arith, p.nested); numbers = p.fits }

form_stmt : (s : Stmt) → StmtHasForm s → IsStmt 201 s
form_stmt s p = record { nested = omega (arith, p.nested); exprs = p.exprs; fits = p.numbers }

abbrev IsCase : Case → Type 0
IsCase c = (c.value < 2 ^ 64) × IsPoint c.to

cases_form : (cs : List Case) → Each IsCase cs → total (map case_misfits cs) ≡ 0
cases_form [] p = refl
cases_form (c ∷ cs) p = omega (arith, fits 64 c.value p.0.0, p.0.1, cases_form cs p.1)

form_cases : (cs : List Case) → total (map case_misfits cs) ≡ 0 → Each IsCase cs
form_cases [] p = tt
form_cases (c ∷ cs) p = ((has_bits 64 c.value (omega (arith, p)), omega (arith, p)), form_cases cs (omega (arith, p)))

to_expr : (e : CExpr) → nesting e ≤ 2000 → expr_misfits e ≡ 0 → IsExpr 2001 e
to_expr e l f = record { depth = omega (arith, l); fits = f }

record EndHasForm (e : End) : Type 0 where
  exprs : end_deepest e ≤ 2000
  numbers : end_misfits e ≡ 0

end_form : (e : End) → IsEnd e → EndHasForm e
end_form (Goto to) p = record { exprs = omega arith; numbers = p }
end_form (Branch e to or_to) p = record { exprs = omega (arith, p.0.depth); numbers = omega (arith, p.0.fits, p.1.0, p.1.1) }
end_form (Switch e cs n x) p = record { exprs = omega (arith, p.0.depth, p.1.1.1.depth); numbers = omega (arith, p.0.fits, cases_form cs p.1.0, fits 64 n p.1.1.0, p.1.1.1.fits) }
end_form Return p = record { exprs = omega arith; numbers = refl }
end_form (Finish n e) p = record { exprs = omega (arith, p.1.depth); numbers = omega (arith, fits 64 n p.0, p.1.fits) }

form_end : (e : End) → end_deepest e ≤ 2000 → end_misfits e ≡ 0 → IsEnd e
form_end (Goto to) d m = m
form_end (Branch e to or_to) d m = (to_expr e (omega (arith, d)) (omega (arith, m)), (omega (arith, m), omega (arith, m)))
form_end (Switch e cs n x) d m = (to_expr e (omega (arith, d)) (omega (arith, m)), (form_cases cs (omega (arith, m)), (has_bits 64 n (omega (arith, m)), to_expr x (omega (arith, d)) (omega (arith, m)))))
form_end Return d m = tt
form_end (Finish n e) d m = (has_bits 64 n (omega (arith, m)), to_expr e (omega (arith, d)) (omega (arith, m)))

-- ---- blocks and functions

block_form : (b : CBlock) → IsBlock b → BlockHasForm b
block_form b p =
    let e = end_form b.end p.lines.1 in
    record { label = p.label; stmts = each_all (IsStmt 201) StmtHasForm stmt_form b.stmts p.lines.0; end_exprs = e.exprs; end_numbers = e.numbers }

form_block : (b : CBlock) → BlockHasForm b → IsBlock b
form_block b p = record { label = p.label; lines = (all_each StmtHasForm (IsStmt 201) form_stmt b.stmts p.stmts, form_end b.end p.end_exprs p.end_numbers) }

abbrev IsCell : ℕ → Type 0
IsCell i = i < 256

abbrev Narrow : ℕ → Type 0
Narrow i = i < 2 ^ 8

pub prototype_form : (p : Prototype) → IsPrototype p → PrototypeHasForm p
prototype_form p q = record { address = q.entry; cells = each_all IsCell Narrow (λ i l. l) p.params q.params }

pub form_prototype : (p : Prototype) → PrototypeHasForm p → IsPrototype p
form_prototype p q = record { entry = q.address; params = all_each Narrow IsCell (λ i l. l) p.params q.cells }

pub function_form : (f : Function) → IsFunction f → FunctionHasForm f
function_form f p = record {
  head = prototype_form (prototype_of f) p.head;
  others = each_all IsCell Narrow (λ i l. l) f.cells p.cells;
  temporaries = p.temps;
  each = each_all IsBlock BlockHasForm block_form f.blocks p.blocks;
}

pub form_function : (f : Function) → FunctionHasForm f → IsFunction f
form_function f p = record {
  head = form_prototype (prototype_of f) p.head;
  cells = all_each Narrow IsCell (λ i l. l) f.cells p.others;
  temps = p.temporaries;
  blocks = all_each BlockHasForm IsBlock form_block f.blocks p.each;
}

-- ---- arrays

pub array_form : (bits bound : ℕ) → bound ≡ 2 ^ bits → (a : Array) → a.declared < 2 ^ 64 → Each (λ n. n < bound) a.numbers → ArrayHasForm bits a
array_form bits bound e a d ns = record { length_fits = d; each = each_all (λ n. n < bound) (λ n. n < 2 ^ bits) (λ n l. omega (arith, l, e)) a.numbers ns }

pub form_array : (bits bound : ℕ) → bound ≡ 2 ^ bits → (a : Array) → ArrayHasForm bits a → Each (λ n. n < bound) a.numbers
form_array bits bound e a p = all_each (λ n. n < 2 ^ bits) (λ n. n < bound) (λ n l. omega (arith, l, e)) a.numbers p.each
