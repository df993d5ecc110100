-- What a C text is read as: a program, or its first fault.
use Rattle.std.specs.Prelude.{◌≡◌, ◌≢◌, ℕ, ◌+◌, ◌-◌, ◌==◌, List, drop, flat_map, length, take, zero, suc, Some, Result, Ok, Err, not}
use Rattle.std.specs.List.{All, count_by, take_while}
use Rattle.c_lang.specs.declared.tree.Program.{Program}
use Rattle.c_lang.specs.Items.{Text, items}
use Rattle.c_lang.specs.Spellable.{ItemHasForm}
use Rattle.c_lang.specs.StaticRules.{IsStatic, static_fault}
use Rattle.c_text.specs.Tokens.{Token, tokens}
use Rattle.c_text.specs.Items.{item_toks}
use Rattle.c_text.specs.Spells.{Spells, first_line}
use Rattle.c_read.specs.declared.fault.CFault.{CFault}
use Rattle.c_read.specs.declared.fault.CFault.TheVariants.{Lex, BadItem, Static, NoMemory}
use Rattle.c_read.specs.Pieces.{IsBadItem}

-- the bytes before the first line feed
abbrev pub line_of : List ℕ → List ℕ
line_of text = take_while (λ b. not (b == 10)) text

-- the bytes behind the first line feed
abbrev pub behind_line : List ℕ → List ℕ
behind_line text = drop (length (line_of text) + 1) text

-- the line of the byte at a place: one more than the line feeds before it
abbrev pub line_at : List ℕ → ℕ → ℕ
line_at text at = 1 + count_by (λ b. b == 10) (take at text)

-- the first byte behind the first line that is no blank and begins no token stands on this line
pub record IsLex (text : List ℕ) (line : ℕ) : Type 0 where
  pub left : ℕ
  pub stops : tokens (behind_line text) ≡ Err left
  pub line_is : line ≡ line_at text (length text - left)

-- the text spells these items, each of which has a form
pub record SpellsText (text : List ℕ) (t : Text) : Type 0 where
  pub first : line_of text ≡ first_line
  pub behind : tokens (behind_line text) ≡ Ok (flat_map item_toks (items t))
  pub forms : All ItemHasForm (items t)

-- the first line is another one
pub record IsFirstBad (text : List ℕ) : Type 0 where
  pub given : List Token
  pub lexed : tokens (behind_line text) ≡ Ok given
  pub other : line_of text ≢ first_line

-- behind the first line so many items stand, and none that may stand next
pub record IsLaterBad (text : List ℕ) (k : ℕ) : Type 0 where
  pub given : List Token
  pub lexed : tokens (behind_line text) ≡ Ok given
  pub first : line_of text ≡ first_line
  pub bad : IsBadItem given k

-- the item of this number is the least that has no form at its place
abbrev pub IsBad : List ℕ → ℕ → Type 0
IsBad text zero = IsFirstBad text
IsBad text (suc k) = IsLaterBad text k

-- the text spells items of which this one is the least that breaks a static rule, and this the least rule that it breaks
pub record IsBroken (text : List ℕ) (item rule : ℕ) : Type 0 where
  pub t : Text
  pub spells : SpellsText text t
  pub fault : static_fault t ≡ Some (item, rule)

-- what a fault says of a text
abbrev pub IsFault : List ℕ → CFault → Type 0
IsFault text (Lex line) = IsLex text line
IsFault text (BadItem index) = IsBad text index
IsFault text (Static index rule) = IsBroken text index rule
IsFault text NoMemory = Unit {0}

-- the text spells the program, which keeps the static rules
pub record IsCText (text : List ℕ) (p : Program) : Type 0 where
  pub spells : Spells text p
  pub keeps : IsStatic p

-- what a text is read as
abbrev pub IsReadAs : List ℕ → Result Program CFault → Type 0
IsReadAs text (Ok p) = IsCText text p
IsReadAs text (Err f) = IsFault text f

-- a text that spells a program which keeps the static rules is read as that program, where there is memory
abbrev pub ReadsBack : Type 0
ReadsBack = (text : List ℕ) (p : Program) (r : Result Program CFault) → IsCText text p → IsReadAs text r → (r ≡ Err NoMemory → ⊥) → r ≡ Ok p
