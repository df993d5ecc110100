use Rattle.std.proofs.Common.{take}
use Rattle.std.specs.List.{flat_map}
use Rattle.c_text.specs.Atoms.{atom_toks}
use Rattle.c_text.specs.Output.{Wrote}
use Rattle.c_text.proofs.atoms.put_atoms.Given as goal

abbrev pub invariant-loop-atom : goal.invariant-loop-atom
invariant-loop-atom g l = Wrote (g.K.Sink.output l.initial.out) (g.K.Sink.output l.out) (flat_map atom_toks (take l.atom-index l.atoms))
