-- The instructions before a jump as a search keeps them, and the walk over them from a start.
use Rattle.std.specs.Prelude.{◌≡◌, ℕ, zero, suc, ◌+◌, ◌-◌, ◌<◌, ◌≤◌, ◌==◌, ◌||◌, nat_lt, Bool, false, if◌then◌else◌, List, [], ◌∷◌, length, slice_index_or, Option, None, Some, option_map, All}
use Rattle.rtl_core.specs.declared.inst.GroundInst.{GroundInst}
use Rattle.rtl_core.specs.SoundTerms.{IsSoundTransfer}
use Rattle.points.specs.declared.block.Standing.{Standing}
use Rattle.points.specs.declared.block.Standing.TheVariants.{Outside, Illegal, Stands}
use Rattle.points.specs.Machine.{Setting}
use Rattle.points.specs.Tables.{IsLink, most_back}
use Rattle.jumptables.specs.declared.links.Link.{Link}
use Rattle.jumptables.specs.Mentions.{mentioned_of}

-- the instruction that stands at an address, where one does
abbrev pub inst_of : Standing → Option GroundInst
inst_of (Stands inst) = Some inst
inst_of Illegal = None
inst_of Outside = None

-- an instruction whose transfers are sound, with the flags of the cells that it mentions
pub record IsSoundLink (s : Setting) (link : Link) : Type 0 where
  pub sound : All (IsSoundTransfer s.machine) link.inst.transfers
  pub mentioned : link.mentioned ≡ mentioned_of (length s.machine.widths) link.inst

-- it may stand in a chain to a jump
pub record MayStand (s : Setting) (at pc : ℕ) (link : Link) : Type 0 where
  pub is : IsLink s at pc link.inst
  pub sound : IsSoundLink s link

-- what of a chain stands at an address
abbrev pub FindsLink : Setting → (at pc : ℕ) → Option Link → Type 0
FindsLink s at pc None = (i : GroundInst) → IsLink s at pc i → ⊥
FindsLink s at pc (Some link) = MayStand s at pc link

-- the one kept for an address before the jump: it stands at the place of the number of bytes between them
abbrev pub link_at : List (Option Link) → (at pc : ℕ) → Option Link
link_at links at pc = if nat_lt pc at then slice_index_or links (at - pc) None else None

-- all near enough to the jump are kept
pub record AreLinks (s : Setting) (at : ℕ) (links : List (Option Link)) : Type 0 where
  pub each : (pc : ℕ) → pc < at → at ≤ pc + most_back → FindsLink s at pc (link_at links at pc)
  pub near : (pc : ℕ) (link : Link) → link_at links at pc ≡ Some link → (pc < at) × (at ≤ pc + most_back)

-- the instructions on the way from an address, at most so many
abbrev pub walked_on : (ℕ → List GroundInst) → Option Link → List GroundInst
walked_on rest None = []
walked_on rest (Some link) = link.inst ∷ rest link.inst.next

abbrev pub walked : List (Option Link) → (at most pc : ℕ) → List GroundInst
walked links at zero pc = []
walked links at (suc most) pc = walked_on (walked links at most) (link_at links at pc)

-- how many they are, where the way leads to the jump
abbrev pub counted_on : (ℕ → Option ℕ) → Option Link → Option ℕ
counted_on rest None = None
counted_on rest (Some link) = option_map (λ n. suc n) (rest link.inst.next)

abbrev pub counted : List (Option Link) → (at most pc : ℕ) → Option ℕ
counted links at zero pc = if pc == at then Some 0 else None
counted links at (suc most) pc = if pc == at then Some 0 else counted_on (counted links at most) (link_at links at pc)

-- whether one of them mentions a cell
abbrev pub mention_on : (ℕ → Bool) → (c : ℕ) → Option Link → Bool
mention_on rest c None = false
mention_on rest c (Some link) = slice_index_or link.mentioned c false || rest link.inst.next

abbrev pub mention : List (Option Link) → (at c most pc : ℕ) → Bool
mention links at c zero pc = false
mention links at c (suc most) pc = mention_on (mention links at c most) c (link_at links at pc)
