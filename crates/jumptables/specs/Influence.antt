-- Which cells the number in one cell reaches on the way to a jump, and whether it decides what is done there. Where it decides
-- nothing, a jump on the way is taken for each number or for none.
use Rattle.std.specs.Prelude.{ℕ, zero, suc, ◌||◌, Bool, true, false, if◌then◌else◌, List, [], ◌∷◌, slice_index_or, slice_set, Option, None, Some}
use Rattle.rtl_core.specs.declared.expr.Expr.{Expr}
use Rattle.rtl_core.specs.declared.transfer.Act.{Act}
use Rattle.rtl_core.specs.declared.transfer.Act.TheVariants.{SetCell, SetSlice, Store, Jump, Annul, Trap, Service, WinSave, WinRestore}
use Rattle.rtl_core.specs.declared.transfer.Transfer.{Transfer}
use Rattle.rtl_core.specs.Terms.{Term, Const, Cell, Load, Unary, Binary, Slice, Zext, Sext, Choice, term_of}
use Rattle.jumptables.specs.declared.links.Link.{Link}
use Rattle.jumptables.specs.Links.{link_at}

-- a term mentions a cell that is reached; there is a flag for each cell
abbrev pub touches : List Bool → Term → Bool
touches flags (Const w n) = false
touches flags (Cell c) = slice_index_or flags c false
touches flags (Load b a) = touches flags a
touches flags (Unary op a) = touches flags a
touches flags (Binary op a b) = touches flags a || touches flags b
touches flags (Slice a lo hi) = touches flags a
touches flags (Zext w a) = touches flags a
touches flags (Sext w a) = touches flags a
touches flags (Choice c a b) = touches flags c || (touches flags a || touches flags b)

abbrev pub touches_guard : List Bool → Option Expr → Bool
touches_guard flags None = false
touches_guard flags (Some e) = touches flags (term_of e)

-- a cell that is assigned is reached by what its guard or its value mentions
abbrev pub reached : List Bool → Option Expr → Expr → (c : ℕ) → List Bool
reached flags guard e c = if touches_guard flags guard || touches flags (term_of e) then slice_set flags c true else flags

abbrev pub spreads_act : Option Expr → Act → List Bool → List Bool
spreads_act guard (SetCell c e) flags = reached flags guard e c
spreads_act guard (SetSlice c lo hi e) flags = reached flags guard e c
spreads_act guard (Store n a e) flags = flags
spreads_act guard (Jump e) flags = flags
spreads_act guard Annul flags = flags
spreads_act guard (Trap e) flags = flags
spreads_act guard Service flags = flags
spreads_act guard WinSave flags = flags
spreads_act guard WinRestore flags = flags

-- whether a guard of more than an assignment is reached
abbrev pub decides_act : Option Expr → Act → List Bool → Bool
decides_act guard (SetCell c e) flags = false
decides_act guard (SetSlice c lo hi e) flags = false
decides_act guard (Store n a e) flags = false
decides_act guard (Jump e) flags = touches_guard flags guard
decides_act guard Annul flags = touches_guard flags guard
decides_act guard (Trap e) flags = false
decides_act guard Service flags = touches_guard flags guard
decides_act guard WinSave flags = touches_guard flags guard
decides_act guard WinRestore flags = touches_guard flags guard

abbrev pub spreads : List Transfer → List Bool → List Bool
spreads [] flags = flags
spreads (t ∷ ts) flags = spreads ts (spreads_act t.guard t.act flags)

abbrev pub decides : List Transfer → List Bool → Bool
decides [] flags = false
decides (t ∷ ts) flags = decides_act t.guard t.act flags || decides ts (spreads_act t.guard t.act flags)

-- the same on the way from an address, over at most so many instructions
abbrev pub decides_on : (ℕ → List Bool → Bool) → List Bool → Option Link → Bool
decides_on rest flags None = false
decides_on rest flags (Some link) = decides link.inst.transfers flags || rest link.inst.next (spreads link.inst.transfers flags)

abbrev pub way_decides : List (Option Link) → (at most pc : ℕ) → List Bool → Bool
way_decides links at zero pc flags = false
way_decides links at (suc most) pc flags = decides_on (way_decides links at most) flags (link_at links at pc)
