use Rattle.std.proofs.Common.{arith, ap, sym}
use Rattle.c_text.specs.Atoms.{atom_toks}
use Rattle.c_text.proofs.Lines.{line_is}
use Rattle.c_text.proofs.Loops.{wrote_next, broke_next, wrote_end}
use Rattle.c_text.proofs.Written.{any_err, wrote_as, broke_as}
use Rattle.c_text.proofs.atoms.put_atoms.Goals as goal

pub returns-in_err-put_atom-clause-broke : goal.returns-in_err-put_atom-clause-broke
returns-in_err-put_atom-clause-broke g c = any_err _ (broke_as (line_is c.args.atoms.now) (broke_next atom_toks c.args.atoms.now c.loop-atom.atom-index c.atom-item.result (omega arith) c.loop-atom.invariant (broke_as (ap atom_toks (sym c.atom-item.is)) c.in_err-put_atom.ensures.broke)))

pub loop-atom-preserved : goal.loop-atom-preserved
loop-atom-preserved g c = wrote_next atom_toks c.args.atoms.now c.loop-atom.atom-index c.atom-item.result (omega arith) c.loop-atom.invariant (wrote_as (ap atom_toks (sym c.atom-item.is)) c.in_ok-put_atom.ensures.wrote)

pub returns-clause-wrote : goal.returns-clause-wrote
returns-clause-wrote g c = wrote_as (line_is c.args.atoms.now) (wrote_end atom_toks c.args.atoms.now c.loop-atom.atom-index c.loop-atom-test.false c.loop-atom.invariant)
