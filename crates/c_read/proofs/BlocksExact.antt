-- Blocks: what is read is spelled so, and what is spelled is read.
use Rattle.std.proofs.Common.{◌≡◌, ◌≤◌, suc, length, List, [], ◌∷◌, ◌++◌, refl, ap, arith, append_assoc, length-append}
use Rattle.std.specs.Prelude.{flat_map}
use Rattle.c_lang.specs.declared.tree.End.{End}
use Rattle.c_lang.specs.declared.tree.Stmt.{Stmt}
use Rattle.rtl_core.specs.declared.point.Point.{Point}
use Rattle.c_text.specs.Tokens.{Token}
use Rattle.c_text.specs.Statements.{stmt_toks}
use Rattle.c_text.specs.Blocks.{block_toks, end_toks}
use Rattle.c_scan.specs.Readings.{takes}
use Rattle.c_read.specs.Blocks.{AreBlockParts, IsBlock, IsPoint, block, block_syntax, lines, block_parts_toks, made_block, read_block}
use Rattle.c_read.proofs.SyntaxLaws.{Mirrors, Builds, sign_asked, both_mirrored, before_mirrored, made_fronts, made_read}
use Rattle.c_read.proofs.Loops.{Consumes, consumes_from}
use Rattle.c_read.proofs.Words.{named_mirrored}
use Rattle.c_read.proofs.NamedPlaces.{label_meaning}
use Rattle.c_read.proofs.StmtExact.{filled}
use Rattle.c_read.proofs.LinesExact.{lines_fronts, lines_read}

-- each statement has a token
longer : (xs : List Stmt) (remain : List Token) → length xs ≤ length (flat_map stmt_toks xs ++ remain)
longer [] remain = omega arith
longer (x ∷ xs) remain =
    let e : flat_map stmt_toks (x ∷ xs) ++ remain ≡ stmt_toks x ++ (flat_map stmt_toks xs ++ remain) = append_assoc (stmt_toks x) (flat_map stmt_toks xs) remain in
    omega (arith, filled x, longer xs remain, ap length e, length-append (stmt_toks x) (flat_map stmt_toks xs ++ remain))

lines_whole : (x : List Stmt × End) (remain : List Token) → AreBlockParts x → lines.read (block_parts_toks x ++ remain) ≡ takes x remain
lines_whole x remain p =
    let e : block_parts_toks x ++ remain ≡ flat_map stmt_toks x.0 ++ (end_toks x.1 ++ remain) = append_assoc (flat_map stmt_toks x.0) (end_toks x.1) remain in
    rw e (lines_read (suc (length (flat_map stmt_toks x.0 ++ (end_toks x.1 ++ remain)))) x.0 x.1 remain (omega (arith, longer x.0 (end_toks x.1 ++ remain))) p.0 p.1)

lines_mirrored : Mirrors lines AreBlockParts
lines_mirrored = record { only_these = record { seen_front = λ given. lines_fronts (suc (length given)) given }; all_these = λ x p. record { read_back = λ remain. lines_whole x remain p } }

parts_mirrored : Mirrors block (λ x. IsPoint x.0 × AreBlockParts x.1)
parts_mirrored = both_mirrored _ _ _ AreBlockParts (named_mirrored _ _ _ label_meaning) (before_mirrored _ _ _ (sign_asked _) (before_mirrored _ _ _ (sign_asked _) lines_mirrored))

block_makes : (x : Point × (List Stmt × End)) → Builds (λ given. given) made_block block.spell block_toks (λ x. IsPoint x.0 × AreBlockParts x.1) IsBlock x
block_makes x = record { same = λ remain. refl; proper = λ q. record { label = q.0; lines = q.1 } }

pub block_mirrored : Mirrors block_syntax IsBlock
unfolding read_block
block_mirrored = record {
  only_these = record { seen_front = made_fronts made_block block _ block_toks IsBlock (λ given. given) parts_mirrored block_makes };
  all_these = λ b p. record { read_back = λ remain. made_read made_block block _ block_toks IsBlock parts_mirrored (b.label, (b.stmts, b.end)) (block_toks b ++ remain) remain (p.label, p.lines) refl };
}

pub block_consumes : Consumes read_block
block_consumes = consumes_from block_syntax IsBlock block_mirrored.only_these (λ b p. omega arith)
