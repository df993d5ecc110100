-- How far the code is in a block's text.
use Rattle.std.proofs.Common.{◌≡◌, ℕ, ◌+◌, ◌<◌, zero, suc, length, List, [], ◌∷◌, ◌++◌, Err, refl, sym, ap, ◌∙◌, arith, append_assoc, length-append}
use Rattle.std.proofs.lemmas.List.{append-nil}
use Rattle.c_lang.specs.declared.tree.End.{End}
use Rattle.c_lang.specs.declared.tree.End.TheVariants as N
use Rattle.c_lang.specs.declared.tree.Stmt.{Stmt}
use Rattle.c_text.specs.Tokens.{Token}
use Rattle.c_text.specs.Blocks.{end_toks}
use Rattle.c_scan.specs.declared.stop.Stop.{Stop}
use Rattle.c_scan.specs.declared.stop.Stop.TheVariants.{Malformed, NoMemory}
use Rattle.c_read.specs.declared.blocks.BlockPart.{BlockPart}
use Rattle.c_read.specs.declared.blocks.BlockPart.TheVariants as part
use Rattle.c_scan.specs.Readings.{Outcome, refuses, takes, Tells}
use Rattle.c_read.specs.Combined.{prefixed}
use Rattle.c_read.specs.Blocks.{read_block_part, read_block_parts, block_part_toks}
use Rattle.c_read.proofs.Loops.{Consumes}
use Rattle.c_read.proofs.BlockExact.{line_fronts}
use Rattle.c_read.proofs.StmtExact.{filled}

end_filled : (e : End) → 0 < length (end_toks e)
end_filled (N.Goto to) = omega arith
end_filled (N.Branch e to or_to) = omega arith
end_filled (N.Switch e cs n x) = omega arith
end_filled N.Return = omega arith
end_filled (N.Finish n e) = omega arith

line_filled : (l : BlockPart) → 0 < length (block_part_toks l)
line_filled (part.Inner s) = filled s
line_filled (part.Final e) = end_filled e

pub line_consumes : Consumes read_block_part
line_consumes = record {
  consumes = λ given x remain h.
      let s = line_fronts given x remain h in
      let f = line_filled x in
      let e : length given ≡ length (block_part_toks x) + length remain = ap length s.spelled ∙ length-append (block_part_toks x) remain in
      omega arith;
}

-- the statements that are there so far, in front of what the tokens ahead give
pub record MidwayParts (entire : List Token) (so_far : List Stmt) (given : List Token) : Type 0 where
  pub left : ℕ
  pub enough : length given < left
  pub same : read_block_parts (suc (length entire)) entire ≡ prefixed so_far (read_block_parts left given)

none : (o : Outcome (List Stmt × End)) → o ≡ prefixed [] o
none refuses = refl
none (takes x remain) = refl

twice : (xs ys : List Stmt) (o : Outcome (List Stmt × End)) → prefixed xs (prefixed ys o) ≡ prefixed (xs ++ ys) o
twice xs ys refuses = refl
twice xs ys (takes z remain) = ap (λ l. takes (l, z.1) remain) (sym (append_assoc xs ys z.0))

pub parts_first : (entire : List Token) → MidwayParts entire [] entire
parts_first entire = record { left = suc (length entire); enough = omega arith; same = none (read_block_parts (suc (length entire)) entire) }

on_from : (entire : List Token) (so_far new : List Stmt) (given mid : List Token) (s : Stmt) (left : ℕ) → length given < left → read_block_parts (suc (length entire)) entire ≡ prefixed so_far (read_block_parts left given) → read_block_part given ≡ takes (part.Inner s) mid → new ≡ so_far ++ s ∷ [] → MidwayParts entire new mid
unfolding read_block_parts
on_from entire so_far new given mid s zero l same h is = absurd (omega arith)
on_from entire so_far new given mid s (suc n) l same h is =
    let m = line_consumes.consumes given (part.Inner s) mid h in
    record { left = n; enough = omega arith; same = same ∙ rw h (twice so_far (s ∷ []) (read_block_parts n mid)) ∙ ap (λ l. prefixed l (read_block_parts n mid)) (sym is) }

pub parts_on : (entire : List Token) (so_far new : List Stmt) (given mid : List Token) (s : Stmt) → MidwayParts entire so_far given → read_block_part given ≡ takes (part.Inner s) mid → new ≡ so_far ++ s ∷ [] → MidwayParts entire new mid
parts_on entire so_far new given mid s g h is = on_from entire so_far new given mid s g.left g.enough g.same h is

end_from : (entire : List Token) (so_far : List Stmt) (given rest : List Token) (e : End) (left : ℕ) → length given < left → read_block_parts (suc (length entire)) entire ≡ prefixed so_far (read_block_parts left given) → read_block_part given ≡ takes (part.Final e) rest → read_block_parts (suc (length entire)) entire ≡ takes (so_far, e) rest
unfolding read_block_parts
end_from entire so_far given rest e zero l same h = absurd (omega arith)
end_from entire so_far given rest e (suc n) l same h = same ∙ rw h (ap (λ l. takes (l, e) rest) (append-nil so_far))

pub parts_end : (entire : List Token) (so_far : List Stmt) (given rest : List Token) (e : End) → MidwayParts entire so_far given → read_block_part given ≡ takes (part.Final e) rest → read_block_parts (suc (length entire)) entire ≡ takes (so_far, e) rest
parts_end entire so_far given rest e g h = end_from entire so_far given rest e g.left g.enough g.same h

stop_by : (entire : List Token) (so_far : List Stmt) (given : List Token) (left : ℕ) → length given < left → read_block_parts (suc (length entire)) entire ≡ prefixed so_far (read_block_parts left given) → read_block_part given ≡ refuses → read_block_parts (suc (length entire)) entire ≡ refuses
unfolding read_block_parts
stop_by entire so_far given zero l same h = absurd (omega arith)
stop_by entire so_far given (suc n) l same h = same ∙ rw h refl

pub parts_stop : (entire : List Token) (so_far : List Stmt) (given : List Token) (e : Stop) (rest more : List Token) → MidwayParts entire so_far given → Tells {A = BlockPart} (Err e) rest (read_block_part given) → Tells {A = List Stmt × End} (Err e) more (read_block_parts (suc (length entire)) entire)
parts_stop entire so_far given Malformed rest more g h = stop_by entire so_far given g.left g.enough g.same h
parts_stop entire so_far given NoMemory rest more g h = tt

pub ruleset part_loop = (parts_first, parts_on, parts_end)
