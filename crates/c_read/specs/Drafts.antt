-- The items of a text by their kinds, and what the code makes of them.
use Rattle.std.specs.Prelude.{◌≡◌, ℕ, zero, suc, ◌+◌, List, [], ◌∷◌, ◌++◌, map, Option, Some, None}
use Rattle.c_lang.specs.Items.{Array, Text}
use Rattle.c_rules.specs.declared.parts.Parts.{Parts}
use Rattle.c_rules.specs.Texts.{text}
use Rattle.c_text.specs.Tokens.{Token}
use Rattle.c_read.specs.declared.draft.Draft.{Draft}
use Rattle.c_read.specs.declared.fault.CFault.{CFault}
use Rattle.c_read.specs.declared.fault.CFault.TheVariants.{Lex, BadItem, Static, NoMemory}
use Rattle.c_read.specs.declared.pieces.Piece.{Piece}
use Rattle.c_read.specs.declared.pieces.Piece.TheVariants as piece
use Rattle.c_read.specs.declared.pieces.Stage.TheVariants as stage
use Rattle.c_read.specs.Pieces.{IsBadItem, Stand}

-- one item more
abbrev pub with_piece : Draft → Piece → Draft
with_piece d (piece.Machine a) = record d { machines = d.machines ++ a ∷ [] }
with_piece d (piece.Segment k a) = record d { segments = d.segments ++ a ∷ [] }
with_piece d (piece.Table a) = record d { tables = d.tables ++ a ∷ [] }
with_piece d (piece.Declared p) = record d { prototypes = d.prototypes ++ p ∷ [] }
with_piece d (piece.Defined f) = record d { functions = d.functions ++ f ∷ [] }
with_piece d (piece.Main entry first) = record d { calls = d.calls ++ record { entry = entry; first = first } ∷ [] }

-- no items
abbrev pub nothing : Draft
nothing = record { machines = []; segments = []; tables = []; prototypes = []; functions = []; calls = [] }

-- items one after another
abbrev pub with_all : Draft → List Piece → Draft
with_all d [] = d
with_all d (p ∷ ps) = with_all (with_piece d p) ps

-- the items of a whole text by their kinds
abbrev pub draft_of : Text → Draft
draft_of t = record {
  machines = t.machine ∷ [];
  segments = t.segments;
  tables = t.table ∷ [];
  prototypes = t.prototypes;
  functions = t.functions;
  calls = record { entry = t.entry; first = t.first } ∷ [];
}

-- the parts of the text whose items these are
abbrev pub AreParts : Draft → Option Parts → Type 0
AreParts d None = (t : Text) → d ≡ draft_of t → ⊥
AreParts d (Some parts) = (t : Text) → d ≡ draft_of t → text parts ≡ t

-- segments with their places, counted from k on
abbrev pub placed : ℕ → List Array → List Piece
placed k [] = []
placed k (a ∷ as') = piece.Segment k a ∷ placed (k + 1) as'

-- the items of a text behind its first line
abbrev pub pieces : Text → List Piece
pieces t =
    piece.Machine t.machine
    ∷ (placed 0 t.segments ++ (piece.Table t.table ∷ (map piece.Declared t.prototypes ++ (map piece.Defined t.functions ++ piece.Main t.entry t.first ∷ []))))

-- these are the tokens of a text of these parts, each of whose items has a form
abbrev pub IsPartsOf : List Token → Parts → Type 0
IsPartsOf given parts = Stand given (pieces (text parts)) stage.Over []

-- the first item that does not stand, 1 being the first one behind the first line
abbrev pub IsItemFault : List Token → CFault → Type 0
IsItemFault given (Lex line) = ⊥
IsItemFault given (BadItem zero) = ⊥
IsItemFault given (BadItem (suc k)) = IsBadItem given k
IsItemFault given (Static index rule) = ⊥
IsItemFault given NoMemory = Unit {0}
