-- How transfers are spelled, and which are transfers.
use Rattle.std.specs.Prelude.{ℕ, ◌&&◌, Bool, true, List, [], ◌∷◌, ◌++◌, Option, Some, None}
use Rattle.text_lex.specs.declared.token.Token.{Token}
use Rattle.text_lex.specs.declared.token.Token.TheVariants.{Name, Number, Sign}
use Rattle.ssl_syntax.specs.declared.line.CellName.{CellName}
use Rattle.ssl_syntax.specs.declared.line.SslPlace.{SslPlace}
use Rattle.ssl_syntax.specs.declared.line.SslPlace.TheVariants as place
use Rattle.ssl_syntax.specs.declared.line.SslAct.{SslAct}
use Rattle.ssl_syntax.specs.declared.line.SslAct.TheVariants as act
use Rattle.ssl_syntax.specs.declared.line.SslExpr.{SslExpr}
use Rattle.ssl_syntax.specs.declared.line.SslTransfer.{SslTransfer}
use Rattle.ssl_syntax.specs.declared.words.Word.TheVariants as word
use Rattle.line_reading.specs.Signs.{becomes, guards, open_paren, close_paren, open_bracket, close_bracket, comma, star}
use Rattle.ssl_syntax.specs.Words.{is_load, load_word, word_bytes, is_free}
use Rattle.ssl_syntax.specs.Expressions.{expr_toks, is_expr}

-- behind a name: [ NUMBER ], or nothing
abbrev pub index_toks : Option ℕ → List Token
index_toks None = []
index_toks (Some index) = Sign open_bracket ∷ Number index ∷ Sign close_bracket ∷ []

-- NAME or NAME [ NUMBER ]
abbrev pub cell_toks : CellName → List Token
cell_toks cell = Name cell.name ∷ index_toks cell.index

-- bits ( CELL , LO , HI )
abbrev pub bits_toks : CellName → ℕ → ℕ → List Token
bits_toks cell lo hi =
    Name (word_bytes word.Bits) ∷ Sign open_paren ∷ (cell_toks cell ++ Sign comma ∷ Number lo ∷ Sign comma ∷ Number hi ∷ Sign close_paren ∷ [])

-- what is assigned
abbrev pub place_toks : SslPlace → List Token
-- NAME
place_toks (place.Named name) = Name name ∷ []
-- NAME [ NUMBER ]
place_toks (place.At name index) = Name name ∷ Sign open_bracket ∷ Number index ∷ Sign close_bracket ∷ []
-- NAME [ OP ]
place_toks (place.AtOp name op) = Name name ∷ Sign open_bracket ∷ Name op ∷ Sign close_bracket ∷ []
-- bits ( CELL , LO , HI )
place_toks (place.Bits cell lo hi) = bits_toks cell lo hi
-- m8 [ E ]
place_toks (place.Load bits address) = Name (load_word bits) ∷ Sign open_bracket ∷ (expr_toks address ++ Sign close_bracket ∷ [])

-- no name is a reserved word, a load has bits that a load can have, and its address is an expression
abbrev pub is_place : SslPlace → Bool
is_place (place.Named name) = is_free name
is_place (place.At name index) = is_free name
is_place (place.AtOp name op) = is_free name && is_free op
is_place (place.Bits cell lo hi) = is_free cell.name
is_place (place.Load bits address) = is_load bits && is_expr address

-- what is done
abbrev pub act_toks : SslAct → List Token
-- * W * PLACE := E
act_toks (act.Assign width to value) =
    Sign star ∷ Number width ∷ Sign star ∷ (place_toks to ++ Sign becomes ∷ expr_toks value)
-- jump E
act_toks (act.Jump target) = Name (word_bytes word.Jump) ∷ expr_toks target
-- annul
act_toks act.Annul = Name (word_bytes word.Annul) ∷ []
-- trap E
act_toks (act.Trap number) = Name (word_bytes word.Trap) ∷ expr_toks number
-- service
act_toks act.Service = Name (word_bytes word.Service) ∷ []
-- wsave
act_toks act.WinSave = Name (word_bytes word.WinSave) ∷ []
-- wrestore
act_toks act.WinRestore = Name (word_bytes word.WinRestore) ∷ []

-- its places are places and its expressions are expressions
abbrev pub is_act : SslAct → Bool
is_act (act.Assign width to value) = is_place to && is_expr value
is_act (act.Jump target) = is_expr target
is_act (act.Trap number) = is_expr number
is_act _ = true

-- E => , or nothing
abbrev pub guard_toks : Option SslExpr → List Token
guard_toks None = []
guard_toks (Some guard) = expr_toks guard ++ Sign guards ∷ []

-- there is no guard, or it is an expression
abbrev pub is_guard : Option SslExpr → Bool
is_guard None = true
is_guard (Some guard) = is_expr guard

-- ACT or E => ACT
abbrev pub transfer_toks : SslTransfer → List Token
transfer_toks t = guard_toks t.guard ++ act_toks t.act

abbrev pub is_transfer : SslTransfer → Bool
is_transfer t = is_guard t.guard && is_act t.act
