-- The parts of a block's text, from what is read to what is spelled, and back.
use Rattle.std.proofs.Common.{◌≡◌, ◌<◌, ◌^◌, List, ◌++◌, refl, sym, ◌∙◌, arith, append_assoc}
use Rattle.c_lang.specs.declared.tree.Case.{Case}
use Rattle.c_lang.specs.declared.tree.CExpr.{CExpr}
use Rattle.c_lang.specs.declared.tree.End.{End}
use Rattle.c_lang.specs.declared.tree.End.TheVariants as N
use Rattle.c_lang.specs.declared.tree.Stmt.TheVariants as S
use Rattle.c_lang.specs.declared.tree.Stmt.TheOpen.{Stmt-F}
use Rattle.c_text.specs.Tokens.{Token, mark, word}
use Rattle.c_text.specs.Blocks.{end_toks}
use Rattle.c_read.specs.declared.blocks.BlockPart.{BlockPart}
use Rattle.c_read.specs.declared.blocks.BlockPart.TheVariants as part
use Rattle.c_scan.specs.Readings.{Outcome, takes, at}
use Rattle.c_read.specs.Combined.{Each, mapped, in_turn}
use Rattle.c_read.specs.Expressions.{IsExpr, expr}
use Rattle.c_read.specs.Statements.{IsStmt, condition, in_braces, deeper_stmt, read_statement}
use Rattle.c_read.specs.Blocks.{goto, finish, leave, case, made_case, read_choice, case_syntax, default, switch, cases, read_jump, read_ending, read_return, read_switch, read_branching, read_behind_condition, read_block_part, IsPoint, IsEnd, block_part_toks, IsBlockPart}
use Rattle.c_read.proofs.SyntaxLaws.{FrontIs, Mirrors, in_sequence, front_same, sign_asked, word_asked, both_mirrored, before_mirrored, behind_mirrored, made_fronts, made_read, either_fronts}
use Rattle.c_read.proofs.Loops.{Consumes, consumes_from, only_mirrored, while_then_mirrored}
use Rattle.c_read.proofs.Words.{named_mirrored, plain_mirrored, long_mirrored}
use Rattle.c_read.proofs.NamedPlaces.{label_meaning}
use Rattle.c_read.proofs.ExprExact.{expr_mirrored}
use Rattle.c_read.proofs.StmtLaws as forms
use Rattle.c_read.proofs.StmtExact.{stmt_mirrored, inner_mirrored, condition_mirrored, stmt_if}

abbrev IsE : CExpr → Type 0
IsE = IsExpr 2001

e_mirrored : Mirrors expr IsE
e_mirrored = expr_mirrored 2001

pub goto_mirrored : Mirrors goto IsPoint
goto_mirrored = before_mirrored _ _ _ (word_asked _) (behind_mirrored _ _ _ (sign_asked _) (named_mirrored _ _ _ label_meaning))

pub finish_mirrored : Mirrors finish (λ x. (x.0 < 2 ^ 64) × IsE x.1)
finish_mirrored = before_mirrored _ _ _ (word_asked _) (before_mirrored _ _ _ (sign_asked _) (both_mirrored _ _ _ IsE plain_mirrored (before_mirrored _ _ _ (sign_asked _) (behind_mirrored _ _ _ (sign_asked _) (behind_mirrored _ _ _ (sign_asked _) e_mirrored)))))

leave_mirrored : Mirrors leave (λ _. Unit {0})
leave_mirrored = before_mirrored _ _ _ (word_asked _) (only_mirrored _ (sign_asked _))

abbrev IsCase : Case → Type 0
IsCase c = (c.value < 2 ^ 64) × IsPoint c.to

pair_mirrored : Mirrors case (λ x. (x.0 < 2 ^ 64) × IsPoint x.1)
pair_mirrored = before_mirrored _ _ _ (word_asked _) (both_mirrored _ _ _ IsPoint long_mirrored (before_mirrored _ _ _ (sign_asked _) goto_mirrored))

case_mirrored : Mirrors case_syntax IsCase
unfolding read_choice
case_mirrored = record {
  only_these = record { seen_front = made_fronts made_case case _ case_syntax.spell IsCase (λ given. given) pair_mirrored (λ x. record { same = λ remain. refl; proper = λ q. q }) };
  all_these = λ c p. record { read_back = λ remain. made_read made_case case _ case_syntax.spell IsCase pair_mirrored (c.value, c.to) (case_syntax.spell c ++ remain) remain p refl };
}

default_mirrored : Mirrors default (λ x. (x.0 < 2 ^ 64) × IsE x.1)
default_mirrored = before_mirrored _ _ _ (word_asked _) (before_mirrored _ _ _ (sign_asked _) (behind_mirrored _ _ _ (sign_asked _) finish_mirrored))

pub switch_mirrored : Mirrors (in_turn switch cases) (λ x. IsE x.0 × (Each IsCase x.1.0 × ((x.1.1.0 < 2 ^ 64) × IsE x.1.1.1)))
switch_mirrored =
    both_mirrored _ _ _ (λ x. Each IsCase x.0 × ((x.1.0 < 2 ^ 64) × IsE x.1.1)) (before_mirrored _ _ _ (word_asked _) (before_mirrored _ _ _ (sign_asked _) (behind_mirrored _ _ _ (sign_asked _) (behind_mirrored _ _ _ (sign_asked _) e_mirrored))))
    (while_then_mirrored (at (word "case")) case_syntax default IsCase (λ x. (x.0 < 2 ^ 64) × IsE x.1) case_mirrored default_mirrored
    (record { filled = λ c p. omega arith; begins = λ c remain p. refl; ends = λ y remain q. refl }))

-- ---- one statement or end

abbrev Shown : List Token → BlockPart → List Token → Type 0
Shown given y remain = FrontIs {A = BlockPart} block_part_toks IsBlockPart given y remain

-- an end, as the part that closes a block
last_fronts : (front given : List Token) (o : Outcome End) → ((e : End) (remain : List Token) → o ≡ takes e remain → FrontIs {A = End} end_toks IsEnd front e remain) → (y : BlockPart) (remain : List Token) → mapped part.Final o ≡ takes y remain → Shown front y remain
last_fronts front given o f y remain h =
    let one = in_sequence o (λ x rest. takes (part.Final x) rest) y remain h in
    let a = f one.x one.mid one.first in
    front_same (part.Final one.x) y one.mid remain one.second (record { spelled = a.spelled; proper = a.proper })

goto_fronts : (given : List Token) (e : End) (remain : List Token) → read_jump given ≡ takes e remain → FrontIs {A = End} end_toks IsEnd given e remain
unfolding read_jump
goto_fronts given = made_fronts N.Goto goto _ end_toks IsEnd (λ given. given) goto_mirrored (λ x. record { same = λ remain. refl; proper = λ q. q }) given

finish_fronts : (given : List Token) (e : End) (remain : List Token) → read_ending given ≡ takes e remain → FrontIs {A = End} end_toks IsEnd given e remain
unfolding read_ending
finish_fronts given = made_fronts _ finish _ end_toks IsEnd (λ given. given) finish_mirrored (λ x. record { same = λ remain. simp append_assoc; proper = λ q. q }) given

leave_fronts : (given : List Token) (e : End) (remain : List Token) → read_return given ≡ takes e remain → FrontIs {A = End} end_toks IsEnd given e remain
unfolding read_return
leave_fronts given = made_fronts _ leave _ end_toks IsEnd (λ given. given) leave_mirrored (λ x. record { same = λ remain. refl; proper = λ q. q }) given

switch_fronts : (given : List Token) (e : End) (remain : List Token) → read_switch given ≡ takes e remain → FrontIs {A = End} end_toks IsEnd given e remain
unfolding read_switch
switch_fronts given = made_fronts _ (in_turn switch cases) _ end_toks IsEnd (λ given. given) switch_mirrored (λ x. record { same = λ remain. simp append_assoc; proper = λ q. q }) given

behind_if_fronts : (c : CExpr) → IsE c → (given : List Token) (y : BlockPart) (remain : List Token) → read_behind_condition c given ≡ takes y remain → Shown (condition.spell c ++ given) y remain
unfolding read_behind_condition read_branching
behind_if_fronts c p given y remain =
    either_fronts (at (mark "{") given) _ _ (Shown (condition.spell c ++ given)) y remain
    (made_fronts (λ xs. part.Inner (S.If c xs)) (in_braces (read_statement 200)) _ block_part_toks IsBlockPart (λ given. condition.spell c ++ given) (before_mirrored _ _ _ (sign_asked _) (inner_mirrored (read_statement 200) 200 (stmt_mirrored 200)))
    (λ xs. record { same = λ remain. let e : condition.spell c ++ ((in_braces (read_statement 200)).spell xs ++ remain) ≡ forms.spell (Stmt-F.If c xs) remain = simp append_assoc in e ∙ sym (forms.spelled (Stmt-F.If c xs) remain); proper = λ q. stmt_if 200 c xs p q }) given)
    (last_fronts (condition.spell c ++ given) given _ (made_fronts (λ x. N.Branch c x.0 x.1) (in_turn goto goto) _ end_toks IsEnd (λ given. condition.spell c ++ given) (both_mirrored _ _ _ IsPoint goto_mirrored goto_mirrored)
    (λ x. record { same = λ remain. simp append_assoc; proper = λ q. (p, q) }) given))

pub line_fronts : (given : List Token) (y : BlockPart) (remain : List Token) → read_block_part given ≡ takes y remain → Shown given y remain
unfolding read_block_part
line_fronts given y remain =
    either_fronts (at (word "goto") given) _ _ (Shown given) y remain (last_fronts given given _ (goto_fronts given))
    (λ y remain. either_fronts (at (word "switch") given) _ _ (Shown given) y remain (last_fronts given given _ (switch_fronts given))
    (λ y remain. either_fronts (at (word "return") given) _ _ (Shown given) y remain (last_fronts given given _ (leave_fronts given))
    (λ y remain. either_fronts (at (word "uq_end") given) _ _ (Shown given) y remain (last_fronts given given _ (finish_fronts given))
    (λ y remain. either_fronts (at (word "if") given) _ _ (Shown given) y remain
    (λ y remain h.
    let one = in_sequence (condition.read given) read_behind_condition y remain h in
    let a = condition_mirrored.only_these.seen_front given one.x one.mid one.first in
    let b = behind_if_fronts one.x a.proper one.mid y remain one.second in
    record { spelled = a.spelled ∙ b.spelled; proper = b.proper })
    (made_fronts part.Inner (deeper_stmt (read_statement 201)) (IsStmt 201) block_part_toks IsBlockPart (λ given. given) (stmt_mirrored 201) (λ s. record { same = λ remain. refl; proper = λ q. q }) given)))))

pub case_consumes : Consumes read_choice
case_consumes = consumes_from case_syntax IsCase case_mirrored.only_these (λ c p. omega arith)
