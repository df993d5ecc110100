-- What a sink took of a text, by its bytes and by its tokens.
use Rattle.std.specs.Prelude.{◌≡◌, ℕ, ◌≤◌, List, ◌++◌}
use Rattle.scan.specs.Laws.{Writes}
use Rattle.edge_io.specs.Told.{followed}
use Rattle.edge_io.specs.Output.{Output, TookPart}
use Rattle.c_lang.specs.declared.tree.Program.{Program}
use Rattle.c_text.specs.Tokens.{Token, token_of, is_blank}
use Rattle.c_text.specs.Spells.{Spells}

-- the sink took these bytes
pub record Took (old new : Output) (bytes : List ℕ) : Type 0 where
  pub later : old.faults ≤ new.faults
  pub taken : new.taken ≡ followed old.taken bytes

-- the sink took a text that adds these tokens, whatever follows
pub record Wrote (old new : Output) (ts : List Token) : Type 0 where
  pub text : List ℕ
  pub writes : Writes token_of is_blank text ts
  pub took : Took old new text

-- the sink failed after it took a proper front of a text that adds tokens with which these begin
pub record Broke (old new : Output) (ts : List Token) : Type 0 where
  pub front : List Token
  pub back : List Token
  pub split : ts ≡ front ++ back
  pub text : List ℕ
  pub writes : Writes token_of is_blank text front
  pub part : TookPart old new text

-- the sink took a text of the program
pub record TookText (old new : Output) (p : Program) : Type 0 where
  pub text : List ℕ
  pub spells : Spells text p
  pub took : Took old new text

-- the sink failed after it took a proper front of a text of the program
pub record TookPartOfText (old new : Output) (p : Program) : Type 0 where
  pub text : List ℕ
  pub spells : Spells text p
  pub part : TookPart old new text
