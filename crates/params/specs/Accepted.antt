-- When a graph is one of a sound triple.
use Rattle.std.specs.Prelude.{ℕ, List}
use Rattle.rtl_core.specs.declared.conv.Conv.{Conv}
use Rattle.rtl_core.specs.declared.encodings.Encodings.{Encodings}
use Rattle.rtl_core.specs.declared.frozen.Frozen.{Frozen}
use Rattle.rtl_core.specs.declared.machine.Machine.{Machine}
use Rattle.rtl_core.specs.SoundConv.{AreSoundTogether}
use Rattle.points.specs.Bundles.{LieInMemory}
use Rattle.points.specs.declared.graph.Graph.{Graph}
use Rattle.points.specs.Bodies.{code_of}
use Rattle.points.specs.Graphs.{IsGraph}
use Rattle.points.specs.Machine.{Setting}

-- a machine and its conventions with encodings, and the bytes that no store changes
abbrev pub setting_of : Machine → Conv → Encodings → Frozen → Setting
setting_of m conv encodings frozen = record { encodings = encodings; machine = m; conv = conv; frozen = frozen }

-- a sound triple, and a graph of one of its programs
pub record IsAccepted (setting : Setting) (table : ℕ → List ℕ) (roots : List ℕ) (g : Graph) : Type 0 where
  pub sound : AreSoundTogether setting.encodings setting.machine setting.conv
  pub lie : LieInMemory setting.frozen
  pub is : IsGraph (code_of setting table) roots g
