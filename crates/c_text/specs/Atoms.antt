-- Which tokens the writer's atoms stand for.
use Rattle.std.specs.Prelude.{Bool, false, ◌&&◌, ℕ, List, [], ◌∷◌, ◌++◌}
use Rattle.std.specs.List.{list_all}
use Rattle.c_text.specs.declared.atoms.Atom.{Atom}
use Rattle.c_text.specs.declared.atoms.Atom.TheVariants.{Name, Sign, Gap, Plain, Long, Variable, Label, Function, Segment, Expr, Args}
use Rattle.c_text.specs.Tokens.{Token, name, plain, long, sign, is_letter, is_word, is_sign}
use Rattle.c_text.specs.Gaps.{ends_word, gap_toks, is_gap}
use Rattle.c_text.specs.Words.{label_word, function_word, segment_word}
use Rattle.c_text.specs.Expressions.{expr_toks, listed, var_token}

-- the bytes are a name
abbrev pub is_name : List ℕ → Bool
is_name [] = false
is_name (b ∷ bs) = is_letter b && list_all is_word bs

-- the tokens of an atom
abbrev pub atom_toks : Atom → List Token
atom_toks (Name letters gap) = name letters.now ∷ gap_toks gap.now
atom_toks (Sign bytes) = sign bytes.now ∷ []
atom_toks (Gap gap) = gap_toks gap.now
atom_toks (Plain n gap) = plain n ∷ gap_toks gap.now
atom_toks (Long n gap) = long n ∷ gap_toks gap.now
atom_toks (Variable v gap) = var_token v ∷ gap_toks gap.now
atom_toks (Label p gap) = name (label_word p) ∷ gap_toks gap.now
atom_toks (Function entry gap) = name (function_word entry) ∷ gap_toks gap.now
atom_toks (Segment k gap) = name (segment_word k) ∷ gap_toks gap.now
atom_toks (Expr e gap) = expr_toks e.now ++ gap_toks gap.now
atom_toks (Args es gap) = listed expr_toks es.now ++ gap_toks gap.now

-- the tokens of an atom, and then these
abbrev pub before : Atom → List Token → List Token
before (Expr e gap) ts = expr_toks e.now ++ (gap_toks gap.now ++ ts)
before (Args es gap) ts = listed expr_toks es.now ++ (gap_toks gap.now ++ ts)
before atom ts = atom_toks atom ++ ts

-- the tokens of atoms, one behind the other
abbrev pub line_toks : List Atom → List Token
line_toks [] = []
line_toks (atom ∷ atoms) = before atom (line_toks atoms)

-- what is to be a name is one, what is to be a sign is one, and the gap behind a word ends it
abbrev pub is_proper : Atom → Bool
is_proper (Name letters gap) = is_name letters.now && ends_word gap.now
is_proper (Sign bytes) = is_sign bytes.now
is_proper (Gap gap) = is_gap gap.now
is_proper (Plain n gap) = ends_word gap.now
is_proper (Long n gap) = ends_word gap.now
is_proper (Variable v gap) = ends_word gap.now
is_proper (Label p gap) = ends_word gap.now
is_proper (Function entry gap) = ends_word gap.now
is_proper (Segment k gap) = ends_word gap.now
is_proper (Expr e gap) = ends_word gap.now
is_proper (Args es gap) = ends_word gap.now
