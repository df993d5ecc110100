-- What the search for a table keeps and finds on its way.
use Rattle.std.specs.Prelude.{◌≡◌, ◌≢◌, ℕ, zero, suc, ◌+◌, ◌<◌, ◌≤◌, ◌++◌, false, List, [], length, Option, None, Some, option_to_list}
use Rattle.rtl_core.specs.declared.frozen.Frozen.{Frozen}
use Rattle.points.specs.Machine.{Setting}
use Rattle.points.specs.PartialRuns.{PartialEnd}
use Rattle.points.specs.Tables.{Trial, IsLeast, IsBounded, IsBoundedBy, GivesCode, IsOpen, EndsAt, AreTargets, end_for, most_before, most_back}
use Rattle.jumptables.specs.declared.links.Link.{Link}
use Rattle.jumptables.specs.declared.search.Search.{Search}
use Rattle.jumptables.specs.declared.search.Kind.{Kind}
use Rattle.jumptables.specs.declared.search.Kind.TheVariants.{Bounded, Open}
use Rattle.jumptables.specs.declared.search.Choice.{Choice}
use Rattle.points.specs.Bundles.{setting_of}
use Rattle.jumptables.specs.Runs.{IsReady}
use Rattle.jumptables.specs.Links.{IsSoundLink, AreLinks, walked, counted}
use Rattle.jumptables.specs.Mentions.{idle_end}

-- what is searched: the jump at an address, and the instructions kept before it
pub record Sought : Type 0 where
  pub setting : Setting
  pub at : ℕ
  pub jump : Link
  pub links : List (Option Link)

abbrev pub sought : Search → Sought
sought r = record { setting = setting_of r.on; at = r.at; jump = r.jump; links = r.links }

-- what a search asks
pub record IsSearchable (g : Sought) : Type 0 where
  pub ready : IsReady g.setting
  pub jump : IsSoundLink g.setting g.jump
  pub links : AreLinks g.setting g.at g.links

-- a cell that is tried
pub record IsTried (g : Sought) (c : ℕ) : Type 0 where
  pub there : c < length g.setting.machine.widths
  pub not_zero : g.setting.machine.zero ≢ Some c

-- the way from a start, with a cell
abbrev pub trial_at : Sought → (start c : ℕ) → Trial
trial_at g start c = record { start = start; before = walked g.links g.at most_before start; cell = c }

-- what its runs come to
abbrev pub runs : Sought → (start c : ℕ) → ℕ → PartialEnd
runs g start c = end_for g.setting g.jump.inst (trial_at g start c)

-- what its runs come to with a cell that it does not mention
abbrev pub idle_of : Sought → (start : ℕ) → PartialEnd
idle_of g start = idle_end g.setting (walked g.links g.at most_before start) g.jump.inst

-- ---- one trial

-- the least number that has P, or none
abbrev pub FindsLeast : (ℕ → Type 0) → Option ℕ → Type 0
FindsLeast P None = (x : ℕ) → P x → ⊥
FindsLeast P (Some x) = IsLeast P x

abbrev pub FindsBound : (ℕ → PartialEnd) → Option ℕ → Type 0
FindsBound f None = IsBounded f → ⊥
FindsBound f (Some n) = IsBoundedBy f n

-- the known targets for the numbers below n, in the order of the numbers
abbrev pub known_below : (ℕ → PartialEnd) → ℕ → List ℕ
known_below f zero = []
known_below f (suc n) = known_below f n ++ option_to_list ((f n).target)

-- a run stays, and gives a target in code
pub record StaysInCode (frozen : Frozen) (e : PartialEnd) : Type 0 where
  pub stays : e.leaves ≡ false
  pub gives : GivesCode frozen e

abbrev pub Suits : Frozen → Kind → (ℕ → PartialEnd) → Type 0
Suits frozen Bounded f = IsBounded f
Suits frozen Open f = IsOpen frozen f

-- the same of a cell that is not mentioned
abbrev pub SuitsIdly : Frozen → Kind → PartialEnd → Type 0
SuitsIdly frozen Bounded e = ⊥
SuitsIdly frozen Open e = StaysInCode frozen e

-- a start with a cell is of a kind
pub record Works (g : Sought) (kind : Kind) (start c : ℕ) : Type 0 where
  pub cell : IsTried g c
  pub suits : Suits g.setting.frozen kind (runs g start c)

-- and the way from there leads to the jump over n instructions
pub record IsGood (g : Sought) (kind : Kind) (n start c : ℕ) : Type 0 where
  pub count : counted g.links g.at most_before start ≡ Some n
  pub works : Works g kind start c

-- ---- the first trial

pub record IsNear (g : Sought) (start : ℕ) : Type 0 where
  pub within : start ≤ g.at
  pub near : g.at ≤ start + most_back

-- no start has a way of n instructions with a cell of the kind
abbrev pub NoneOf : Sought → Kind → ℕ → Type 0
NoneOf g kind n = (start c : ℕ) → IsNear g start → IsGood g kind n start c → ⊥

-- the first of n instructions
pub record IsFirstOf (g : Sought) (kind : Kind) (n : ℕ) (ch : Choice) : Type 0 where
  pub near : IsNear g ch.start
  pub good : IsGood g kind n ch.start ch.cell
  pub lower : (c : ℕ) → c < ch.cell → IsGood g kind n ch.start c → ⊥
  pub nearer : (start c : ℕ) → ch.start < start → IsNear g start → IsGood g kind n start c → ⊥

abbrev pub FindsFirstOf : Sought → Kind → ℕ → Option Choice → Type 0
FindsFirstOf g kind n None = NoneOf g kind n
FindsFirstOf g kind n (Some ch) = IsFirstOf g kind n ch

-- the first of all
pub record IsFirstIn (g : Sought) (kind : Kind) (ch : Choice) : Type 0 where
  pub count : ℕ
  pub few : count ≤ most_before
  pub first : IsFirstOf g kind count ch
  pub shorter : (n : ℕ) → n < count → NoneOf g kind n

abbrev pub FindsFirst : Sought → Kind → Option Choice → Type 0
FindsFirst g kind None = (n : ℕ) → n ≤ most_before → NoneOf g kind n
FindsFirst g kind (Some ch) = IsFirstIn g kind ch

-- ---- the table

-- where the table of a kind ends
abbrev pub Ends : Frozen → Kind → (ℕ → PartialEnd) → ℕ → Type 0
Ends frozen Bounded f n = IsBoundedBy f n
Ends frozen Open f n = EndsAt frozen f n

pub record IsTableBy (frozen : Frozen) (kind : Kind) (f : ℕ → PartialEnd) (targets : List ℕ) : Type 0 where
  pub end : ℕ
  pub ends : Ends frozen kind f end
  pub are : AreTargets f end targets

-- the table of the first trial of a kind
pub record IsFirstTable (g : Sought) (kind : Kind) (targets : List ℕ) : Type 0 where
  pub choice : Choice
  pub first : IsFirstIn g kind choice
  pub table : IsTableBy g.setting.frozen kind (runs g choice.start choice.cell) targets

abbrev pub FindsTable : Sought → Kind → Option (List ℕ) → Type 0
FindsTable g kind None = FindsFirst g kind None
FindsTable g kind (Some targets) = IsFirstTable g kind targets

-- a bounded table where there is one, else an open one, else none
pub data IsTableFound (g : Sought) (targets : List ℕ) : Type 0 where
  by_bound : IsFirstTable g Bounded targets → IsTableFound g targets
  by_code : FindsFirst g Bounded None → IsFirstTable g Open targets → IsTableFound g targets
  by_none : FindsFirst g Bounded None → FindsFirst g Open None → targets ≡ [] → IsTableFound g targets
