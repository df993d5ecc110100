-- What follows of summaries, whatever the program is.
use Rattle.std.specs.Prelude.{◌≡◌, ◌≢◌, ℕ, ◌<◌, List, length, Some}
use Rattle.std.specs.List.{Contains}
use Rattle.rtl_core.specs.declared.conv.Conv.{Conv}
use Rattle.rtl_core.specs.declared.machine.Machine.{Machine}
use Rattle.rtl_core.specs.declared.point.Point.{Point}
use Rattle.rtl_core.specs.SoundConv.{AreSoundTogether}
use Rattle.points.specs.declared.block.Block.{Block}
use Rattle.points.specs.declared.graph.Graph.{Graph}
use Rattle.points.specs.declared.graph.Summary.{Summary}
use Rattle.points.specs.Bundles.{LieInMemory}
use Rattle.points.specs.Machine.{Setting}
use Rattle.points.specs.Kinds.{block_at}
use Rattle.points.specs.Bodies.{code_of, Body}
use Rattle.points.specs.Summaries.{Summarized, IsCallee, HasRef, HasMod, AreSummaries, AreWholeSummaries, block_names, block_assigns}

-- the program of a setting, with these tables and roots
abbrev pub summarized : Setting → (ℕ → List ℕ) → List ℕ → Summarized
summarized setting table roots = record { code = code_of setting table; roots = roots; machine = setting.machine; conv = setting.conv }

-- what is assigned is named
abbrev pub assigned_is_named : Type 0
assigned_is_named = (m : Machine) (conv : Conv) (b : Block) (c : ℕ) → Contains (block_assigns m conv b) c → Contains (block_names m conv b) c

-- on a sound triple named cells are cells of the machine
abbrev pub named_are_cells : Type 0
named_are_cells = (setting : Setting) (pc c : ℕ) → AreSoundTogether setting.encodings setting.machine setting.conv → LieInMemory setting.frozen
    → Contains (block_names setting.machine setting.conv (block_at setting pc)) c → c < length setting.machine.widths

-- what a translation uses of summaries
pub record AreLawful (n : Summarized) : Type 0 where
  -- what a procedure that is entered reads or assigns, the one that enters it does
  pub refs_of_callee : (p t c : ℕ) → IsCallee n p t → HasRef n t c → HasRef n p c
  pub mods_of_callee : (p t c : ℕ) → IsCallee n p t → HasMod n t c → HasMod n p c
  -- what is assigned is among what is read or assigned
  pub mods_in_refs : (p c : ℕ) → HasMod n p c → HasRef n p c
  -- what a point of a body names and assigns is there
  pub named_at : (p c : ℕ) (b : Point) → Body n.code p b → Contains (block_names n.machine n.conv (n.code.block_at b.pc)) c → n.machine.zero ≢ Some c → HasRef n p c
  pub assigned_at : (p c : ℕ) (b : Point) → Body n.code p b → Contains (block_assigns n.machine n.conv (n.code.block_at b.pc)) c → n.machine.zero ≢ Some c → HasMod n p c
  -- the zero cell is in none
  pub not_zero_ref : (p c : ℕ) → HasRef n p c → n.machine.zero ≢ Some c
  pub not_zero_mod : (p c : ℕ) → HasMod n p c → n.machine.zero ≢ Some c

abbrev pub summaries_are_lawful : Type 0
summaries_are_lawful = (n : Summarized) → AreLawful n

-- the summaries of a sound triple hold cells of the machine alone
abbrev pub summaries_hold_cells : Type 0
summaries_hold_cells = (setting : Setting) (table : ℕ → List ℕ) (roots : List ℕ) (p c : ℕ) → AreSoundTogether setting.encodings setting.machine setting.conv
    → LieInMemory setting.frozen → HasRef (summarized setting table roots) p c → c < length setting.machine.widths

-- two lists of summaries of one graph are equal
abbrev pub summaries_are_one : Type 0
summaries_are_one = (n : Summarized) (g : Graph) (xs ys : List Summary) → AreSummaries n g xs → AreSummaries n g ys → xs ≡ ys

-- so are two of whole registers
abbrev pub whole_summaries_are_one : Type 0
whole_summaries_are_one = (m : Machine) (g : Graph) (xs ys : List Summary) → AreWholeSummaries m g xs → AreWholeSummaries m g ys → xs ≡ ys
