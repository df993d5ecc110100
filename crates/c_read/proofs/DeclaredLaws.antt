-- What the variables of a function declare, as the code counts it.
use Rattle.std.proofs.Common.{◌≡◌, ℕ, ◌+◌, ◌-◌, ◌<◌, ◌≤◌, zero, suc, List, [], ◌∷◌, ◌++◌, length, drop, slice_get, Option, Some, None, option_map, refl, sym, ap, ◌∙◌, subst, arith, append_assoc, length-append}
use Rattle.std.proofs.lemmas.List.{append-nil}
use Rattle.c_lang.specs.declared.tree.Var.{Var}
use Rattle.c_lang.specs.declared.tree.Var.TheVariants.{Ra, Pt, Cell, Temp, Result, Wn, Depth, ServeR, ServeE}
use Rattle.c_scan.specs.Names.{cell_in}
use Rattle.c_read.specs.Functions.{AreCells, declared, temps_from}

abbrev Declared : Type 0
Declared = List ℕ × ℕ

abbrev with_number : ℕ → List ℕ → Option Declared
with_number n cells = Some (cells, n)

-- these cells in front of what the others declare
abbrev cells_then : List ℕ → Option Declared → Option Declared
cells_then cells o = option_map (λ d. (cells ++ d.0, d.1)) o

-- these cells stand in front
pub record InCells (vs : List Var) (cells : List ℕ) : Type 0 where
  pub within : length cells ≤ length vs
  pub rest : declared vs ≡ cells_then cells (declared (drop (length cells) vs))

nothing_then : (o : Option Declared) → o ≡ cells_then [] o
nothing_then None = refl
nothing_then (Some d) = refl

pub in_none : (vs : List Var) → InCells vs []
in_none vs = record { within = omega arith; rest = nothing_then (declared vs) }

-- the variable at a place, and those behind it
record Stands (vs : List Var) (at i : ℕ) : Type 0 where
  within : at < length vs
  rest : drop at vs ≡ Cell i ∷ drop (at + 1) vs

none_some : {P : Type 0} (i : ℕ) → None ≡ Some i → P
none_some i e = absurd (cc)

cell_stands : (vs : List Var) (at i : ℕ) → cell_in (slice_get vs at) ≡ Some i → Stands vs at i
cell_stands [] at i e = none_some i e
cell_stands (Cell j ∷ vs) zero i e = let same : j ≡ i = cc in record { within = omega arith; rest = ap (λ k. Cell k ∷ vs) same }
cell_stands (Ra ∷ vs) zero i e = none_some i e
cell_stands (Pt ∷ vs) zero i e = none_some i e
cell_stands (Temp j ∷ vs) zero i e = none_some i e
cell_stands (Result j ∷ vs) zero i e = none_some i e
cell_stands (Wn ∷ vs) zero i e = none_some i e
cell_stands (Depth ∷ vs) zero i e = none_some i e
cell_stands (ServeR ∷ vs) zero i e = none_some i e
cell_stands (ServeE ∷ vs) zero i e = none_some i e
cell_stands (v ∷ vs) (suc at) i e =
    let s = cell_stands vs at i e in
    let more : suc at + 1 ≡ suc (at + 1) = omega arith in
    record { within = omega (arith, s.within); rest = s.rest ∙ ap (λ j. Cell i ∷ drop j (v ∷ vs)) (sym more) }

both_then : (cells : List ℕ) (i : ℕ) (o : Option Declared) → cells_then cells (cells_then (i ∷ []) o) ≡ cells_then (cells ++ i ∷ []) o
both_then cells i None = refl
both_then cells i (Some d) = ap (with_number d.1) (sym (append_assoc cells (i ∷ []) d.0))

pub in_more : (vs : List Var) (cells new : List ℕ) (i : ℕ) → InCells vs cells → cell_in (slice_get vs (length cells)) ≡ Some i → new ≡ cells ++ i ∷ [] → InCells vs new
in_more vs cells new i h e n =
    let s = cell_stands vs (length cells) i e in
    let longer : length (cells ++ i ∷ []) ≡ length cells + 1 = length-append cells (i ∷ []) in
    subst (InCells vs) (sym n) (record {
      within = omega (arith, s.within, longer);
      rest = h.rest ∙ ap (λ us. cells_then cells (declared us)) s.rest ∙ both_then cells i (declared (drop (length cells + 1) vs)) ∙ ap (λ k. cells_then (cells ++ i ∷ []) (declared (drop k vs))) (sym longer);
    })

pub less_behind : (vs : List Var) (cells new : List ℕ) (i : ℕ) → cell_in (slice_get vs (length cells)) ≡ Some i → new ≡ cells ++ i ∷ [] → length vs - length new < length vs - length cells
less_behind vs cells new i e n = omega (arith, (cell_stands vs (length cells) i e).within, ap length n, length-append cells (i ∷ []))

-- no cell stands in front
no_cell : (vs : List Var) → cell_in (slice_get vs 0) ≡ None → declared vs ≡ option_map (λ n. ([], n)) (temps_from 0 vs)
no_cell [] e = refl
no_cell (Cell j ∷ vs) e = none_some j (sym e)
no_cell (Ra ∷ vs) e = refl
no_cell (Pt ∷ vs) e = refl
no_cell (Temp j ∷ vs) e = refl
no_cell (Result j ∷ vs) e = refl
no_cell (Wn ∷ vs) e = refl
no_cell (Depth ∷ vs) e = refl
no_cell (ServeR ∷ vs) e = refl
no_cell (ServeE ∷ vs) e = refl

get_behind : (vs : List Var) (at : ℕ) → slice_get (drop at vs) 0 ≡ slice_get vs at
get_behind vs zero = refl
get_behind [] (suc at) = refl
get_behind (v ∷ vs) (suc at) = get_behind vs at

abbrev with_cells : List ℕ → Option ℕ → Option Declared
with_cells cells o = option_map (λ n. (cells, n)) o

ended : (cells : List ℕ) (o : Option ℕ) → cells_then cells (with_cells [] o) ≡ with_cells (cells ++ []) o
ended cells None = refl
ended cells (Some n) = refl

all_cells : (cells : List ℕ) (o : Option ℕ) → cells ++ [] ≡ cells → with_cells (cells ++ []) o ≡ with_cells cells o
all_cells cells None e = refl
all_cells cells (Some n) e = ap (with_number n) e

pub in_end : (vs : List Var) (cells : List ℕ) → InCells vs cells → cell_in (slice_get vs (length cells)) ≡ None → AreCells vs cells
in_end vs cells h e =
    let us : List Var = drop (length cells) vs in
    record {
      within = h.within;
      rest = h.rest ∙ ap (cells_then cells) (no_cell us (ap cell_in (get_behind vs (length cells)) ∙ e)) ∙ ended cells (temps_from 0 us) ∙ all_cells cells (temps_from 0 us) (append-nil cells);
    }

-- what all variables declare
pub all_declared : (vs : List Var) (cells : List ℕ) (n : ℕ) → AreCells vs cells → Some n ≡ temps_from 0 (drop (length cells) vs) → declared vs ≡ Some (cells, n)
all_declared vs cells n h e = h.rest ∙ ap (with_cells cells) (sym e)

pub none_declared : (vs : List Var) (cells : List ℕ) → AreCells vs cells → None ≡ temps_from 0 (drop (length cells) vs) → declared vs ≡ None
none_declared vs cells h e = h.rest ∙ ap (with_cells cells) (sym e)

pub ruleset declared_laws = (all_declared, none_declared)
