-- The tokens of a line of atoms, atom by atom.
use Rattle.std.proofs.Common.{◌≡◌, List, [], ◌∷◌, ◌++◌, refl, sym, ap, ◌∙◌, append_assoc}
use Rattle.std.specs.List.{flat_map}
use Rattle.c_text.specs.declared.atoms.Atom.{Atom}
use Rattle.c_text.specs.declared.atoms.Atom.TheVariants.{Name, Sign, Gap, Plain, Long, Variable, Label, Function, Segment, Expr, Args}
use Rattle.c_text.specs.Atoms.{atom_toks, before, line_toks}
use Rattle.c_text.specs.Expressions.{expr_toks, listed}
use Rattle.c_text.specs.Gaps.{gap_toks}
use Rattle.c_text.specs.Tokens.{Token}

pub before_is : (a : Atom) (ts : List Token) → before a ts ≡ atom_toks a ++ ts
before_is (Name letters gap) ts = refl
before_is (Sign bytes) ts = refl
before_is (Gap gap) ts = refl
before_is (Plain n gap) ts = refl
before_is (Long n gap) ts = refl
before_is (Variable v gap) ts = refl
before_is (Label p gap) ts = refl
before_is (Function entry gap) ts = refl
before_is (Segment k gap) ts = refl
before_is (Expr e gap) ts = sym (append_assoc (expr_toks e.now) (gap_toks gap.now) ts)
before_is (Args es gap) ts = sym (append_assoc (listed expr_toks es.now) (gap_toks gap.now) ts)

pub line_is : (atoms : List Atom) → line_toks atoms ≡ flat_map atom_toks atoms
line_is [] = refl
line_is (a ∷ atoms) = before_is a (line_toks atoms) ∙ ap (λ ts. atom_toks a ++ ts) (line_is atoms)
