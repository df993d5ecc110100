-- How the ends of blocks are read, and blocks.
use Rattle.std.specs.Prelude.{◌≡◌, ℕ, zero, suc, ◌<◌, ◌^◌, List, [], ◌∷◌, ◌++◌, flat_map, length, if◌then◌else◌}
use Rattle.rtl_core.specs.declared.point.Point.{Point}
use Rattle.c_lang.specs.declared.tree.Case.{Case}
use Rattle.c_lang.specs.declared.tree.CBlock.{CBlock}
use Rattle.c_lang.specs.declared.tree.CExpr.{CExpr}
use Rattle.c_lang.specs.declared.tree.End.{End}
use Rattle.c_lang.specs.declared.tree.End.TheVariants as N
use Rattle.c_lang.specs.declared.tree.Stmt.{Stmt}
use Rattle.c_lang.specs.declared.tree.Stmt.TheVariants as S
use Rattle.c_lang.specs.Spellable.{point_misfits}
use Rattle.c_text.specs.Tokens.{Token, mark, word}
use Rattle.c_text.specs.Words.{label_word}
use Rattle.c_text.specs.Statements.{stmt_toks}
use Rattle.c_text.specs.Blocks.{block_toks, case_toks, end_toks}
use Rattle.c_scan.specs.Readings.{refuses, takes, Reader, followed, at, Syntax, exactly, name_of, long_number}
use Rattle.c_scan.specs.Names.{label_of}
use Rattle.c_read.specs.declared.blocks.BlockPart.{BlockPart}
use Rattle.c_read.specs.declared.blocks.BlockPart.TheVariants as part
use Rattle.c_read.specs.Combined.{Each, in_turn, before, behind, mapped, prefixed, many_then}
use Rattle.c_read.specs.Expressions.{IsExpr, expr}
use Rattle.c_read.specs.Statements.{IsStmt, condition, in_braces, read_statement, number_and_value}

-- the name of a point
abbrev pub label : Syntax Point
label = name_of label_word label_of

-- a jump: `goto L;`
abbrev pub goto : Syntax Point
goto = before (word "goto") (behind label (mark ";"))

-- the call of `uq_end`
abbrev pub finish : Syntax (ℕ × CExpr)
finish = before (word "uq_end") number_and_value

-- `return;`
abbrev pub leave : Syntax (Unit {0})
leave = before (word "return") (exactly (mark ";"))

-- the case of a number and its target
abbrev pub made_case : ℕ × Point → Case
made_case x = record { value = x.0; to = x.1 }

-- a case of a switch and its jump
abbrev pub case : Syntax (ℕ × Point)
case = before (word "case") (in_turn long_number (before (mark ":") goto))

-- a case, read
unfoldable pub read_choice : Reader Case
read_choice given = mapped made_case (case.read given)

-- a case, both ways
abbrev pub case_syntax : Syntax Case
case_syntax = record { spell = case_toks; read = read_choice }

-- the default, which ends, and the closing brace
abbrev pub default : Syntax (ℕ × CExpr)
default = before (word "default") (before (mark ":") (behind finish (mark "}")))

-- the head of a switch
abbrev pub switch : Syntax CExpr
switch = before (word "switch") (before (mark "(") (behind (behind expr (mark ")")) (mark "{")))

-- all cases, and the number and the expression of the default
abbrev pub cases : Syntax (List Case × (ℕ × CExpr))
cases = many_then (at (word "case")) case_syntax default

-- the end of each kind, read: a jump
unfoldable pub read_jump : Reader End
read_jump given = mapped N.Goto (goto.read given)

-- the end of a run
unfoldable pub read_ending : Reader End
read_ending given = mapped (λ x. N.Finish x.0 x.1) (finish.read given)

-- a return
unfoldable pub read_return : Reader End
read_return given = mapped (λ _. N.Return) (leave.read given)

-- a switch
unfoldable pub read_switch : Reader End
read_switch given = mapped (λ x. N.Switch x.0 x.1.0 x.1.1.0 x.1.1.1) ((in_turn switch cases).read given)

-- two jumps, behind a condition that is read
unfoldable pub read_branching : CExpr → Reader End
read_branching e given = mapped (λ x. N.Branch e x.0 x.1) ((in_turn goto goto).read given)

-- where a condition in parentheses stands in front
unfoldable pub read_behind_condition : CExpr → Reader BlockPart
read_behind_condition e given = if at (mark "{") given then mapped (λ xs. part.Inner (S.If e xs)) ((in_braces (read_statement 200)).read given) else mapped part.Final (read_branching e given)

-- the next part of a block, by its first word
unfoldable pub read_block_part : Reader BlockPart
read_block_part given =
    if at (word "goto") given then mapped part.Final (read_jump given)
    else (if at (word "switch") given then mapped part.Final (read_switch given)
    else (if at (word "return") given then mapped part.Final (read_return given)
    else (if at (word "uq_end") given then mapped part.Final (read_ending given)
    else (if at (word "if") given then followed (condition.read given) read_behind_condition
    else mapped part.Inner (read_statement 201 given)))))

-- behind a statement more parts follow, behind an end none
abbrev pub then_parts : Reader (List Stmt × End) → BlockPart → Reader (List Stmt × End)
then_parts others (part.Inner s) given = prefixed (s ∷ []) (others given)
then_parts others (part.Final e) given = takes ([], e) given

-- the parts of a block, as many as there may be
unfoldable pub read_block_parts : ℕ → Reader (List Stmt × End)
read_block_parts zero given = refuses
read_block_parts (suc n) given = followed (read_block_part given) (then_parts (read_block_parts n))

-- all parts of a block
abbrev pub block_parts_toks : List Stmt × End → List Token
block_parts_toks x = flat_map stmt_toks x.0 ++ end_toks x.1

-- the parts of a block, both ways
abbrev pub lines : Syntax (List Stmt × End)
lines = record { spell = block_parts_toks; read = λ given. read_block_parts (suc (length given)) given }

-- L : ; and the lines behind it
abbrev pub block : Syntax (Point × (List Stmt × End))
block = in_turn label (before (mark ":") (before (mark ";") lines))

-- the block of a label, statements and an end
abbrev pub made_block : Point × (List Stmt × End) → CBlock
made_block x = record { label = x.0; stmts = x.1.0; «end» = x.1.1 }

-- a block, read
unfoldable pub read_block : Reader CBlock
read_block given = mapped made_block (block.read given)

-- a block, both ways
abbrev pub block_syntax : Syntax CBlock
block_syntax = record { spell = block_toks; read = read_block }

-- ---- which are read

-- the addresses in a label fit
abbrev pub IsPoint : Point → Type 0
IsPoint p = point_misfits p ≡ 0

-- the numbers of an end fit, and its expressions nest no deeper than they may
abbrev pub IsEnd : End → Type 0
IsEnd (N.Goto to) = IsPoint to
IsEnd (N.Branch e to or_to) = IsExpr 2001 e × (IsPoint to × IsPoint or_to)
IsEnd (N.Switch e cs n x) = IsExpr 2001 e × (Each (λ c. (c.value < 2 ^ 64) × IsPoint c.to) cs × ((n < 2 ^ 64) × IsExpr 2001 x))
IsEnd N.Return = Unit {0}
IsEnd (N.Finish n e) = (n < 2 ^ 64) × IsExpr 2001 e

-- how a part of a block is spelled
abbrev pub block_part_toks : BlockPart → List Token
block_part_toks (part.Inner s) = stmt_toks s
block_part_toks (part.Final e) = end_toks e

-- a part of a block has a form
abbrev pub IsBlockPart : BlockPart → Type 0
IsBlockPart (part.Inner s) = IsStmt 201 s
IsBlockPart (part.Final e) = IsEnd e

-- all parts of a block have a form
abbrev pub AreBlockParts : List Stmt × End → Type 0
AreBlockParts x = Each (IsStmt 201) x.0 × IsEnd x.1

-- a block has a form
pub record IsBlock (b : CBlock) : Type 0 where
  pub label : IsPoint b.label
  pub lines : AreBlockParts (b.stmts, b.end)
