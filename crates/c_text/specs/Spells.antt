-- Which texts are those of a program.
use Rattle.std.specs.Prelude.{◌≡◌, ℕ, List, ◌∷◌, ◌++◌, codes, Ok}
use Rattle.c_lang.specs.declared.tree.Program.{Program}
use Rattle.c_lang.specs.Spellable.{HasSpelling}
use Rattle.c_text.specs.Tokens.{tokens}
use Rattle.c_text.specs.Items.{program_toks}

-- the first line of each C text
abbrev pub first_line : List ℕ
first_line = codes "#include \"uqbt.h\""

-- the text is the first line and, behind a line feed, the tokens of a program that has a spelling
pub record Spells (text : List ℕ) (p : Program) : Type 0 where
  pub possible : HasSpelling p
  pub rest : List ℕ
  pub first : text ≡ first_line ++ 10 ∷ rest
  pub behind : tokens rest ≡ Ok (program_toks p)
