-- The program of a graph keeps the static rules of a C text. The rule on how much one function may declare is aside: whether it is
-- kept depends on the program that is translated.
use Rattle.std.specs.Prelude.{ℕ, ◌+◌, ◌^◌, ◌<◌, ◌≤◌, Bool, List, length, sum_by, All, AllPairs}
use Rattle.std.specs.List.{Contains}
use Rattle.rtl_core.specs.declared.conv.Conv.{Conv}
use Rattle.rtl_core.specs.FirstMemory.{Part, area}
use Rattle.points.specs.declared.graph.Graph.{Graph}
use Rattle.points.specs.declared.graph.Summary.{Summary}
use Rattle.points.specs.Machine.{Setting}
use Rattle.c_lang.specs.declared.tree.Program.{Program}
use Rattle.c_lang.specs.Items.{Text, Item}
use Rattle.c_lang.specs.StaticRules.{Keeps, once, known, counted, sized, placed}
use Rattle.params.specs.ByEntry.{AreMoving}
use Rattle.c_program.specs.Planning.{IsDescribed, AreSummariesOf, graph_program}

-- ---- the parts of an image in their places

-- an address lies in a part
abbrev pub IsIn : ℕ → Part → Type 0
IsIn a p = (p.base ≤ a) × (a < p.base + p.len)

-- no address lies in both
abbrev pub AreApart : Part → Part → Type 0
AreApart p q = (a : ℕ) → IsIn a p → ¬ IsIn a q

-- the parts share no byte with one another, the heap and the stack, end at 2^32 at most, have no more bytes than their length, and are
-- not too large together
pub record ArePlaced (conv : Conv) (parts : List Part) : Type 0 where
  pub apart : AllPairs AreApart parts
  pub from_heap : All (AreApart (area conv.heap_base conv.heap_size)) parts
  pub from_stack : All (AreApart (area conv.stack_base conv.stack_size)) parts
  pub ends : All (λ p. p.base + p.len ≤ 2 ^ 32) parts
  pub bytes : All (λ p. length p.bytes ≤ p.len) parts
  pub size : sum_by (λ p. p.len) parts ≤ 16777216

-- ---- the laws

-- the program of a graph with its summaries keeps a rule, whatever its image
abbrev pub GraphKeeps : (Text → Item → Bool) → Type 0
GraphKeeps rule = (setting : Setting) (table : ℕ → List ℕ) (roots : List ℕ) (g : Graph) (sums : List Summary) (others : List ℕ) (parts : List Part) (entry : ℕ)
    → IsDescribed setting table roots g → AreSummariesOf setting table roots g sums → AreMoving setting.machine others → Contains roots entry
    → Keeps rule (graph_program setting table g sums others parts entry)

-- the same where the parts of its image are in their places
abbrev pub PlacedGraphKeeps : (Text → Item → Bool) → Type 0
PlacedGraphKeeps rule = (setting : Setting) (table : ℕ → List ℕ) (roots : List ℕ) (g : Graph) (sums : List Summary) (others : List ℕ) (parts : List Part) (entry : ℕ)
    → IsDescribed setting table roots g → AreSummariesOf setting table roots g sums → AreMoving setting.machine others → Contains roots entry → ArePlaced setting.conv parts
    → Keeps rule (graph_program setting table g sums others parts entry)

-- nothing is declared twice
abbrev pub GraphKeepsOnce : Type 0
GraphKeepsOnce = GraphKeeps once

-- what is named is declared
abbrev pub GraphKeepsKnown : Type 0
GraphKeepsKnown = GraphKeeps known

-- a call has as many arguments as its function has parameters
abbrev pub GraphKeepsCounted : Type 0
GraphKeepsCounted = GraphKeeps counted

-- accesses, arrays and flags have their sizes
abbrev pub GraphKeepsSized : Type 0
GraphKeepsSized = PlacedGraphKeeps sized

-- segments and areas lie apart and within their limits
abbrev pub GraphKeepsPlaced : Type 0
GraphKeepsPlaced = PlacedGraphKeeps placed

-- a program that keeps the five rules
pub record KeepsFive (p : Program) : Type 0 where
  pub once : Keeps once p
  pub known : Keeps known p
  pub counted : Keeps counted p
  pub sized : Keeps sized p
  pub placed : Keeps placed p

-- all five together
abbrev pub GraphIsStatic : Type 0
GraphIsStatic = (setting : Setting) (table : ℕ → List ℕ) (roots : List ℕ) (g : Graph) (sums : List Summary) (others : List ℕ) (parts : List Part) (entry : ℕ)
    → IsDescribed setting table roots g → AreSummariesOf setting table roots g sums → AreMoving setting.machine others → Contains roots entry → ArePlaced setting.conv parts
    → KeepsFive (graph_program setting table g sums others parts entry)
