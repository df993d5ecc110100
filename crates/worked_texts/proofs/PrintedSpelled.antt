-- The two programs of the tests have spellings.
use Rattle.std.proofs.Common.{◌≡◌, ℕ, ◌^◌, ◌<◌, ◌≤◌, List, [], ◌∷◌, arith}
use Rattle.std.specs.List.{All}
use Rattle.std.proofs.lemmas.List.Elements.{All-nil, All-from_recursion}
use Rattle.c_lang.specs.declared.tree.CBlock.{CBlock}
use Rattle.c_lang.specs.declared.tree.Stmt.{Stmt}
use Rattle.c_lang.specs.declared.tree.Stmt.TheVariants.{Set, Load, Store, TakeW, PutW, Serve}
use Rattle.c_lang.specs.declared.tree.CExpr.TheVariants.{Num, Of, Bin}
use Rattle.c_lang.specs.declared.tree.COp.TheVariants.{Add}
use Rattle.c_lang.specs.declared.tree.Var.TheVariants.{Cell, Temp, Wn}
use Rattle.c_lang.specs.Items.{header_numbers}
use Rattle.c_lang.specs.Spellable.{deepest, ifs, stmt_misfits, end_deepest, end_misfits, StmtHasForm, BlockHasForm, FunctionHasForm, SegmentFits, SegmentsFit, HasSpelling}
use Rattle.c_lang.proofs.SpellingLaws.{parts_spelled}
use Rattle.worked_texts.proofs.FormLaws.{form_laws}
use Rattle.worked_texts.specs.PrintedPrograms.{header, small_program, layout_call, outer_if, layout_stmts, layout_switch, layout_blocks, layout_function, layout_program}

header_words : All (λ n. n < 2 ^ 32) (header_numbers header)
header_words = All-from_recursion (λ n. n < 2 ^ 32) (header_numbers header) (omega arith, (omega arith, (omega arith, (omega arith, (omega arith, (omega arith, (omega arith, (omega arith, (omega arith, (omega arith, (omega arith, (omega arith, (omega arith, (omega arith, tt))))))))))))))

no_segments : SegmentsFit []
no_segments = record { few = omega arith; each = All-nil SegmentFits }

pub small_spelled : HasSpelling small_program
small_spelled = parts_spelled small_program header_words no_segments (All-nil FunctionHasForm) (omega arith) (All-from_recursion (λ n. n < 2 ^ 64) (0 ∷ 7 ∷ []) (omega arith, (omega arith, tt)))

-- ---- statements

formed : (s : Stmt) (n m : ℕ) → deepest s ≡ n → ifs s ≡ m → n ≤ 2000 → m ≤ 200 → stmt_misfits s ≡ 0 → StmtHasForm s
formed s n m d i ln lm k = record { exprs = omega (arith, d, ln); nested = omega (arith, i, lm); numbers = k }

sum_form : StmtHasForm (Set (Temp 0) (Bin Add (Of (Cell 8)) (Num 1)))
sum_form = formed _ 1 0 (simp form_laws) (simp form_laws) (omega arith) (omega arith) (simp form_laws)

load_form : StmtHasForm (Load (Temp 1) 4 (Of (Temp 0)))
load_form = formed _ 0 0 (simp form_laws) (simp form_laws) (omega arith) (omega arith) (simp form_laws)

store_form : StmtHasForm (Store 4 (Of (Temp 0)) (Of (Temp 1)))
store_form = formed _ 0 0 (simp form_laws) (simp form_laws) (omega arith) (omega arith) (simp form_laws)

take_form : StmtHasForm (TakeW (Cell 10) (Of Wn))
take_form = formed _ 0 0 (simp form_laws) (simp form_laws) (omega arith) (omega arith) (simp form_laws)

put_form : StmtHasForm (PutW (Num 3) (Of (Cell 10)))
put_form = formed _ 0 0 (simp form_laws) (simp form_laws) (omega arith) (omega arith) (simp form_laws)

serve_form : StmtHasForm (Serve (Of (Cell 8)) (Of (Cell 9)) (Of (Cell 10)) (Num 0))
serve_form = formed _ 0 0 (simp form_laws) (simp form_laws) (omega arith) (omega arith) (simp form_laws)

call_form : StmtHasForm layout_call
call_form = formed layout_call 0 0 (simp form_laws) (simp form_laws) (omega arith) (omega arith) (simp form_laws)

if_form : StmtHasForm outer_if
if_form = formed outer_if 0 2 (simp form_laws) (simp form_laws) (omega arith) (omega arith) (simp form_laws)

-- ---- blocks

stmts_form : All StmtHasForm layout_stmts
stmts_form = All-from_recursion StmtHasForm layout_stmts (sum_form, (load_form, (store_form, (take_form, (put_form, (serve_form, (call_form, (if_form, tt))))))))

no_stmts : All StmtHasForm []
no_stmts = All-nil StmtHasForm

bounded : (a n : ℕ) → a ≡ n → n ≤ 2000 → a ≤ 2000
bounded a n e l = omega (arith, e, l)

blocks_form : All BlockHasForm layout_blocks
blocks_form = All-from_recursion BlockHasForm layout_blocks (
  record { label = omega arith; stmts = stmts_form; end_exprs = bounded _ 0 (simp form_laws) (omega arith); end_numbers = simp form_laws },
  (
    record { label = omega arith; stmts = no_stmts; end_exprs = bounded (end_deepest layout_switch) 1 (simp form_laws) (omega arith); end_numbers = simp form_laws },
    (
      record { label = omega arith; stmts = no_stmts; end_exprs = omega arith; end_numbers = omega arith },
      (
        record { label = omega arith; stmts = no_stmts; end_exprs = omega arith; end_numbers = omega arith },
        (record { label = omega arith; stmts = no_stmts; end_exprs = bounded _ 0 (simp form_laws) (omega arith); end_numbers = simp form_laws }, tt),
      ),
    ),
  ),
)

function_form : FunctionHasForm layout_function
function_form = record {
  head = record { address = omega arith; cells = All-from_recursion (λ i. i < 2 ^ 8) (8 ∷ 9 ∷ []) (omega arith, (omega arith, tt)) };
  others = All-from_recursion (λ i. i < 2 ^ 8) (10 ∷ []) (omega arith, tt);
  temporaries = omega arith;
  each = blocks_form;
}

pub layout_spelled : HasSpelling layout_program
layout_spelled =
    parts_spelled layout_program header_words no_segments (All-from_recursion FunctionHasForm (layout_function ∷ []) (function_form, tt)) (omega arith) (All-nil (λ n. n < 2 ^ 64))
