-- All statements of a block and its end, both ways.
use Rattle.std.proofs.Common.{◌≡◌, ℕ, ◌<◌, zero, suc, length, List, [], ◌∷◌, ◌++◌, refl, ap, ◌∙◌, arith, append_assoc}
use Rattle.std.specs.Prelude.{flat_map}
use Rattle.c_lang.specs.declared.tree.End.{End}
use Rattle.c_lang.specs.declared.tree.Stmt.{Stmt}
use Rattle.c_text.specs.Tokens.{Token}
use Rattle.c_text.specs.Statements.{stmt_toks}
use Rattle.c_text.specs.Blocks.{end_toks}
use Rattle.c_read.specs.declared.blocks.BlockPart.{BlockPart}
use Rattle.c_read.specs.declared.blocks.BlockPart.TheVariants as part
use Rattle.c_scan.specs.Readings.{takes}
use Rattle.c_read.specs.Combined.{Each}
use Rattle.c_read.specs.Statements.{IsStmt}
use Rattle.c_read.specs.Blocks.{read_block_part, read_block_parts, then_parts, IsEnd, block_part_toks, block_parts_toks, IsBlockPart, AreBlockParts}
use Rattle.c_read.proofs.SyntaxLaws.{FrontIs, no_read, in_sequence, front_same}
use Rattle.c_read.proofs.Loops.{prefixed_parts}
use Rattle.c_read.proofs.BlockExact.{line_fronts}
use Rattle.c_read.proofs.LineExact.{line_read}

abbrev Shown : List Token → List Stmt × End → List Token → Type 0
Shown given x remain = FrontIs {A = List Stmt × End} block_parts_toks AreBlockParts given x remain

then_fronts : (n : ℕ) → ((given : List Token) (x : List Stmt × End) (remain : List Token) → read_block_parts n given ≡ takes x remain → Shown given x remain) → (given mid : List Token) (l : BlockPart) (x : List Stmt × End) (remain : List Token) → FrontIs {A = BlockPart} block_part_toks IsBlockPart given l mid → then_parts (read_block_parts n) l mid ≡ takes x remain → Shown given x remain
then_fronts n rec given mid (part.Inner s) x remain a h =
    let o = prefixed_parts (s ∷ []) (read_block_parts n mid) x remain h in
    let b = rec mid o.zs remain o.was in
    let e : stmt_toks s ++ ((flat_map stmt_toks o.zs.0 ++ end_toks o.zs.1) ++ remain) ≡ block_parts_toks (s ∷ o.zs.0, o.zs.1) ++ remain = simp append_assoc in
    front_same (s ∷ o.zs.0, o.zs.1) x remain remain (ap (λ z. takes z remain) o.same) (record {
      spelled = a.spelled ∙ ap (λ m. stmt_toks s ++ m) b.spelled ∙ e;
      proper = ((a.proper, b.proper.0), b.proper.1);
    })
then_fronts n rec given mid (part.Final e) x remain a h = front_same ([], e) x mid remain h (record { spelled = a.spelled; proper = (tt, a.proper) })

pub lines_fronts : (n : ℕ) (given : List Token) (x : List Stmt × End) (remain : List Token) → read_block_parts n given ≡ takes x remain → Shown given x remain
unfolding read_block_parts
lines_fronts zero given x remain h = no_read x remain h
lines_fronts (suc n) given x remain h =
    let p = in_sequence (read_block_part given) (then_parts (read_block_parts n)) x remain h in
    then_fronts n (lines_fronts n) given p.mid p.x x remain (line_fronts given p.x p.mid p.first) p.second

pub lines_read : (n : ℕ) (xs : List Stmt) (e : End) (remain : List Token) → length xs < n → Each (IsStmt 201) xs → IsEnd e → read_block_parts n (flat_map stmt_toks xs ++ (end_toks e ++ remain)) ≡ takes (xs, e) remain
unfolding read_block_parts
lines_read zero xs e remain l p q = absurd (omega arith)
lines_read (suc n) [] e remain l p q = rw (line_read (part.Final e) remain q) refl
lines_read (suc n) (x ∷ xs) e remain l p q =
    let rest : List Token = flat_map stmt_toks xs ++ (end_toks e ++ remain) in
    rw (append_assoc (stmt_toks x) (flat_map stmt_toks xs) (end_toks e ++ remain), line_read (part.Inner x) rest p.0, lines_read n xs e remain (omega arith) p.1 q) refl
