-- How blocks and their ends are spelled.
use Rattle.std.specs.Prelude.{ℕ, List, [], ◌∷◌, ◌++◌, flat_map}
use Rattle.rtl_core.specs.declared.point.Point.{Point}
use Rattle.c_lang.specs.declared.tree.Case.{Case}
use Rattle.c_lang.specs.declared.tree.CBlock.{CBlock}
use Rattle.c_lang.specs.declared.tree.CExpr.{CExpr}
use Rattle.c_lang.specs.declared.tree.End.{End}
use Rattle.c_lang.specs.declared.tree.End.TheVariants.{Goto, Branch, Switch, Return, Finish}
use Rattle.c_text.specs.Tokens.{Token, name, plain, long, word, mark}
use Rattle.c_text.specs.Words.{label_word}
use Rattle.c_text.specs.Expressions.{expr_toks}
use Rattle.c_text.specs.Statements.{stmt_toks}

-- goto L;
abbrev pub goto_toks : Point → List Token
goto_toks to = word "goto" ∷ name (label_word to) ∷ mark ";" ∷ []

-- uq_end(N, E);
abbrev pub finish_toks : ℕ → CExpr → List Token
finish_toks n e = word "uq_end" ∷ mark "(" ∷ plain n ∷ mark "," ∷ (expr_toks e ++ mark ")" ∷ mark ";" ∷ [])

-- case Null: goto L;
abbrev pub case_toks : Case → List Token
case_toks c = word "case" ∷ long c.value ∷ mark ":" ∷ goto_toks c.to

-- switch (E) {
abbrev pub switch_toks : CExpr → List Token
switch_toks e = word "switch" ∷ mark "(" ∷ (expr_toks e ++ mark ")" ∷ mark "{" ∷ [])

-- default: uq_end(N, E); }
abbrev pub default_toks : ℕ → CExpr → List Token
default_toks n e =
    word "default" ∷ mark ":" ∷ word "uq_end" ∷ mark "(" ∷ plain n ∷ mark "," ∷ (expr_toks e ++ mark ")" ∷ mark ";" ∷ mark "}" ∷ [])

-- the end of a block
abbrev pub end_toks : End → List Token
-- goto L;
end_toks (Goto to) = goto_toks to
-- if (E) goto L; goto L;
end_toks (Branch e to or_to) = word "if" ∷ mark "(" ∷ (expr_toks e ++ mark ")" ∷ (goto_toks to ++ goto_toks or_to))
-- switch (E) { case Null: goto L; .. default: uq_end(N, E); }
end_toks (Switch e cases n value) = switch_toks e ++ (flat_map case_toks cases ++ default_toks n value)
-- return;
end_toks Return = word "return" ∷ mark ";" ∷ []
-- uq_end(N, E);
end_toks (Finish n e) = finish_toks n e

-- LABEL: ;, statements, and an end
abbrev pub block_toks : CBlock → List Token
block_toks b = name (label_word b.label) ∷ mark ":" ∷ mark ";" ∷ (flat_map stmt_toks b.stmts ++ end_toks b.end)
