-- The first line and the items are a text of the program.
use Rattle.std.proofs.Common.{ℕ, List, [], ◌∷◌, ◌++◌, refl, sym, subst}
use Rattle.scan.specs.Laws.{Writes}
use Rattle.scan.proofs.Blanks.{writes_both, writes_all}
use Rattle.edge_io.specs.Output.{Output, TookPart}
use Rattle.c_lang.specs.declared.tree.Program.{Program}
use Rattle.c_lang.specs.Spellable.{HasSpelling}
use Rattle.c_text.specs.Tokens.{token_of, is_blank}
use Rattle.c_text.specs.Items.{program_toks}
use Rattle.c_text.specs.Spells.{Spells, first_line}
use Rattle.c_text.specs.Output.{Took, Wrote, Broke, TookText, TookPartOfText}
use Rattle.c_text.proofs.Written.{took_both, part_here, part_then}
use Rattle.c_text.proofs.Proper.{program_text, text_behind}

abbrev pub line : List ℕ
line = first_line ++ 10 ∷ []

spelled : (p : Program) (rest : List ℕ) → HasSpelling p → Writes token_of is_blank rest (program_toks p) → Spells (line ++ rest) p
spelled p rest h w = record { possible = h; rest = rest; first = refl; behind = writes_all w }

pub whole_text : {o q r : Output} {p : Program} → HasSpelling p → Took o q line → Wrote q r (program_toks p) → TookText o r p
whole_text {p = p} h t w = record { text = line ++ w.text; spells = spelled p w.text h w.writes; took = took_both t w.took }

pub part_of_line : {o q : Output} (p : Program) → HasSpelling p → TookPart o q line → TookPartOfText o q p
part_of_line p h t = let rest = program_text p in record { text = line ++ rest.text; spells = spelled p rest.text h rest.writes; part = part_here rest.text t }

pub part_of_items : {o q r : Output} {p : Program} → HasSpelling p → Took o q line → Broke q r (program_toks p) → TookPartOfText o r p
part_of_items {p = p} h t b =
    let rest = text_behind p b.front b.back b.split in
    record {
      text = line ++ (b.text ++ rest.text);
      spells = spelled p (b.text ++ rest.text) h (subst (Writes token_of is_blank (b.text ++ rest.text)) (sym b.split) (writes_both b.writes rest.writes));
      part = part_then t (part_here rest.text b.part);
    }
