-- The parts of a block's text, read back from what is spelled.
use Rattle.std.proofs.Common.{◌≡◌, drop, List, ◌∷◌, ◌++◌, refl, sym, ap, ◌∙◌, append_assoc}
use Rattle.std.specs.Prelude.{flat_map}
use Rattle.c_lang.specs.declared.tree.CExpr.{CExpr}
use Rattle.c_lang.specs.declared.tree.End.{End}
use Rattle.c_lang.specs.declared.tree.End.TheVariants as N
use Rattle.c_lang.specs.declared.tree.Stmt.{Stmt}
use Rattle.c_lang.specs.declared.tree.Stmt.TheVariants as S
use Rattle.c_lang.specs.declared.tree.Stmt.TheOpen.{Stmt-F}
use Rattle.c_lang.specs.declared.tree.Var.{Var}
use Rattle.c_lang.specs.declared.tree.Var.TheVariants.{Ra, Pt, Cell, Temp, Result, Wn, Depth, ServeR, ServeE}
use Rattle.c_text.specs.Tokens.{Token, mark}
use Rattle.c_text.specs.Expressions.{var_token}
use Rattle.c_text.specs.Statements.{stmt_toks}
use Rattle.c_text.specs.Blocks.{goto_toks, end_toks}
use Rattle.c_read.specs.declared.blocks.BlockPart.{BlockPart}
use Rattle.c_read.specs.declared.blocks.BlockPart.TheVariants as part
use Rattle.c_scan.specs.Readings.{takes, followed}
use Rattle.c_read.specs.Combined.{Each, mapped, in_turn}
use Rattle.rtl_core.specs.declared.point.Point.{Point}
use Rattle.c_read.specs.Expressions.{IsExpr}
use Rattle.c_read.specs.Statements.{IsStmt, condition, in_braces, read_statement}
use Rattle.c_read.specs.Blocks.{goto, finish, switch, cases, read_jump, read_ending, read_return, read_switch, read_branching, read_behind_condition, read_block_part, IsPoint, IsEnd, block_part_toks, IsBlockPart}
use Rattle.c_read.proofs.SyntaxLaws.{sign_asked, before_mirrored, both_mirrored, made_read}
use Rattle.c_read.proofs.BlockExact.{goto_mirrored, finish_mirrored, switch_mirrored}
use Rattle.c_read.proofs.StmtLaws as forms
use Rattle.c_read.proofs.StmtExact.{stmt_mirrored, inner_mirrored, condition_mirrored, if_parts}

-- where a condition in parentheses stands in front
if_line : (c : CExpr) (behind : List Token) → IsExpr 2001 c → read_block_part (condition.spell c ++ behind) ≡ read_behind_condition c behind
unfolding read_block_part
if_line c behind p = ap (λ o. followed o read_behind_condition) ((condition_mirrored.all_these c p).read_back behind)

branch_read : (c : CExpr) (to or_to : Point) (remain : List Token) → IsExpr 2001 c → IsPoint to × IsPoint or_to → read_behind_condition c (goto_toks to ++ (goto_toks or_to ++ remain)) ≡ takes (part.Final (N.Branch c to or_to)) remain
unfolding read_behind_condition read_branching
branch_read c to or_to remain p q =
    ap (mapped part.Final) (made_read (λ x. N.Branch c x.0 x.1) (in_turn goto goto) _ end_toks IsEnd (both_mirrored _ _ _ _ goto_mirrored goto_mirrored) (to, or_to) (goto_toks to ++ (goto_toks or_to ++ remain)) remain q (simp append_assoc))

end_read : (e : End) (remain : List Token) → IsEnd e → read_block_part (end_toks e ++ remain) ≡ takes (part.Final e) remain
unfolding read_block_part read_jump read_ending read_return read_switch
end_read (N.Goto to) remain p = ap (mapped part.Final) (made_read N.Goto goto _ end_toks IsEnd goto_mirrored to (goto_toks to ++ remain) remain p refl)
end_read (N.Branch e to or_to) remain p =
    let cut : end_toks (N.Branch e to or_to) ++ remain ≡ condition.spell e ++ (goto_toks to ++ (goto_toks or_to ++ remain)) = simp append_assoc in
    ap read_block_part cut ∙ if_line e (goto_toks to ++ (goto_toks or_to ++ remain)) p.0 ∙ branch_read e to or_to remain p.0 p.1
end_read (N.Switch e cs n x) remain p =
    ap (mapped part.Final) (made_read (λ x. N.Switch x.0 x.1.0 x.1.1.0 x.1.1.1) (in_turn switch cases) _ end_toks IsEnd switch_mirrored (e, (cs, (n, x))) (end_toks (N.Switch e cs n x) ++ remain) remain p (simp append_assoc))
end_read N.Return remain p = refl
end_read (N.Finish n e) remain p = ap (mapped part.Final) (made_read (λ x. N.Finish x.0 x.1) finish _ end_toks IsEnd finish_mirrored (n, e) (end_toks (N.Finish n e) ++ remain) remain p (simp append_assoc))

-- a name of a variable begins an assignment and no end
var_line : (v : Var) (given : List Token) → read_block_part (var_token v ∷ given) ≡ mapped part.Inner (read_statement 201 (var_token v ∷ given))
unfolding read_block_part
var_line Ra given = refl
var_line Pt given = refl
var_line (Cell i) given = refl
var_line (Temp k) given = refl
var_line (Result i) given = refl
var_line Wn given = refl
var_line Depth given = refl
var_line ServeR given = refl
var_line ServeE given = refl

braced_read : (c : CExpr) (xs : List Stmt) (remain : List Token) → Each (IsStmt 200) xs → read_behind_condition c (mark "{" ∷ (flat_map stmt_toks xs ++ mark "}" ∷ remain)) ≡ takes (part.Inner (S.If c xs)) remain
unfolding read_behind_condition
braced_read c xs remain q =
    made_read (λ xs. part.Inner (S.If c xs)) (in_braces (read_statement 200)) _ block_part_toks IsBlockPart (before_mirrored _ _ _ (sign_asked _) (inner_mirrored (read_statement 200) 200 (stmt_mirrored 200))) xs (mark "{" ∷ (flat_map stmt_toks xs ++ mark "}" ∷ remain)) remain q (simp append_assoc)

if_read : (c : CExpr) (xs : List Stmt) (remain : List Token) → IsStmt 201 (S.If c xs) → read_block_part (forms.spell (Stmt-F.If c xs) remain) ≡ takes (part.Inner (S.If c xs)) remain
if_read c xs remain p =
    let q = if_parts 200 c xs p in
    let behind : List Token = mark "{" ∷ (flat_map stmt_toks xs ++ mark "}" ∷ remain) in
    let cut : forms.spell (Stmt-F.If c xs) remain ≡ condition.spell c ++ behind = simp append_assoc in
    ap read_block_part cut ∙ if_line c behind q.0 ∙ braced_read c xs remain q.1

-- what is no `if` is told as a statement at once
stmt_line : (x : Stmt-F Stmt) (remain : List Token) → IsStmt 201 (forms.from_layer x) → read_statement 201 (forms.spell x remain) ≡ takes (forms.from_layer x) remain → read_block_part (forms.spell x remain) ≡ takes (part.Inner (forms.from_layer x)) remain
unfolding read_block_part
stmt_line (Stmt-F.Set v e) remain p h = var_line v (drop 1 (forms.spell (Stmt-F.Set v e) remain)) ∙ ap (mapped part.Inner) h
stmt_line (Stmt-F.Load v n e) remain p h = var_line v (drop 1 (forms.spell (Stmt-F.Load v n e) remain)) ∙ ap (mapped part.Inner) h
stmt_line (Stmt-F.Store n a e) remain p h = ap (mapped part.Inner) h
stmt_line (Stmt-F.TakeW v e) remain p h = var_line v (drop 1 (forms.spell (Stmt-F.TakeW v e) remain)) ∙ ap (mapped part.Inner) h
stmt_line (Stmt-F.PutW a e) remain p h = ap (mapped part.Inner) h
stmt_line (Stmt-F.Serve n x y z) remain p h = ap (mapped part.Inner) h
stmt_line (Stmt-F.Call f es) remain p h = ap (mapped part.Inner) h
stmt_line (Stmt-F.If c xs) remain p h = if_read c xs remain p
stmt_line (Stmt-F.Stop n e) remain p h = ap (mapped part.Inner) h

within_read : (s : Stmt) (remain : List Token) → IsStmt 201 s → read_block_part (stmt_toks s ++ remain) ≡ takes (part.Inner s) remain
within_read s remain =
    forms.by_layer (λ s. IsStmt 201 s → read_block_part (stmt_toks s ++ remain) ≡ takes (part.Inner s) remain)
    (λ x p. ap read_block_part (forms.spelled x remain) ∙ stmt_line x remain p (ap (read_statement 201) (sym (forms.spelled x remain)) ∙ ((stmt_mirrored 201).all_these (forms.from_layer x) p).read_back remain)) s

pub line_read : (l : BlockPart) (remain : List Token) → IsBlockPart l → read_block_part (block_part_toks l ++ remain) ≡ takes l remain
line_read (part.Inner s) remain p = within_read s remain p
line_read (part.Final e) remain p = end_read e remain p
