-- The graph with the one table of each jump is the graph with any.
use Rattle.std.proofs.Common.{◌≡◌, ◌≢◌, ℕ, ◌+◌, ◌<◌, ◌≤◌, ◌^◌, true, false, true≢false, Bool, List, [], ◌∷◌, length, map, inl, inr, refl, sym, ap, ◌∙◌, subst, arith}
use Rattle.std.specs.Prelude.{◌⊎◌, ◌==◌, ◌&&◌}
use Rattle.std.specs.List.{All, Contains, IsDistinct}
use Rattle.std.specs.List.Sorted.{IsStrictlySortedBy}
use Rattle.std.specs.Ordering.{nat_cmp}
use Rattle.std.specs.declared.cmp.Ordering.TheVariants.{Less}
use Rattle.std.proofs.lemmas.Bool.{cases_lt, eqb-true}
use Rattle.std.proofs.lemmas.List.{length-map}
use Rattle.std.proofs.lemmas.List.Elements.{All-map, All-weaker, All-from_recursion, recursion_from_All}
use Rattle.std.proofs.lemmas.Map.Keys.{IsDistinct-cons, sorted_head, sorted_tail}
use Rattle.rtl_core.specs.declared.inst.GroundInst.{GroundInst}
use Rattle.points.specs.Bundles.{LieInMemory}
use Rattle.points.specs.declared.block.Block.{Block}
use Rattle.points.specs.declared.graph.Graph.{Graph}
use Rattle.points.specs.Bodies.{Code, code_of, roots_of, Body, Procedure}
use Rattle.points.specs.Flows.{is_computed, HasTables}
use Rattle.points.specs.Graphs.{IsGraph}
use Rattle.points.specs.Kinds.{block_at}
use Rattle.points.specs.Machine.{Setting}
use Rattle.points.specs.Tables.{IsTable}
use Rattle.points.proofs.CodeControl.{code_is_control}
use Rattle.jumptables.proofs.OneTable.{one-table}
use Rattle.jumptables.proofs.TheTable.{the_table, has_tables}
use Rattle.discover.specs.declared.discovery.DiscoverFault.{DiscoverFault}
use Rattle.discover.specs.declared.discovery.DiscoverFault.TheVariants.{TooLarge, NoMemory}
use Rattle.discover.specs.GraphLaws.{AgreeOnJumps, AreAlike}
use Rattle.discover.specs.Places.{start, InBody, IsTooLarge, same_place}
use Rattle.discover.proofs.SameTables.{are_alike}
use Rattle.c_control.proofs.Performing.{stands}
use Rattle.program_graph.specs.Described.{IsGraphOf, IsOver, IsFault, most_points}
use Rattle.params.proofs.Members.{both-below}
use Rattle.params.proofs.NamedCells.{stands-below}

-- ---- tables

-- the table that was found is the one
pub table-is : (s : Setting) (a : ℕ) (targets : List ℕ) → a < 2 ^ 32 → is_computed (block_at s a) ≡ true → IsTable s a targets → targets ≡ the_table s a
table-is s a targets lt e h = one-table s a targets (the_table s a) h ((has_tables s).each a lt e)

-- where no computed plain jump stands there is none
pub no-table : (s : Setting) (a : ℕ) → is_computed (block_at s a) ≡ false → the_table s a ≡ []
unfolding the_table
no-table s a e = rw (e) refl

-- a computed plain jump stands below 2^32
pub jump-below : (s : Setting) (a : ℕ) → LieInMemory s.frozen → is_computed (block_at s a) ≡ true → a < 2 ^ 32
jump-below s a lie e = by (block_at s a) refl e
  where
    by : (b : Block) → block_at s a ≡ b → is_computed b ≡ true → a < 2 ^ 32
    by Block.Outside f h = absurd (true≢false (sym h))
    by Block.Illegal f h = absurd (true≢false (sym h))
    by (Block.Inst inst kind) f h = stands-below s a inst lie (stands s a inst kind f)

-- two functions that give the tables are one where a computed plain jump stands
pub same-jumps : (s : Setting) (t u : ℕ → List ℕ) → LieInMemory s.frozen → HasTables s t → HasTables s u → (a : ℕ) → is_computed (block_at s a) ≡ true → t a ≡ u a
same-jumps s t u lie h k a e = let lt = jump-below s a lie e in one-table s a (t a) (u a) (h.each a lt e) (k.each a lt e)

agree : (s : Setting) (table : ℕ → List ℕ) → LieInMemory s.frozen → HasTables s table → AgreeOnJumps (code_of s (the_table s)) table
agree s table lie h = record { each = same-jumps s (the_table s) table lie (has_tables s) h }

-- so are all tables alike
pub alike-tables : (s : Setting) (table : ℕ → List ℕ) (roots : List ℕ) → LieInMemory s.frozen → HasTables s table → AreAlike (code_of s (the_table s)) (code_of s table) roots
alike-tables s table roots lie h = are_alike (code_of s (the_table s)) table (code_is_control s (the_table s)) (agree s table lie h) roots

-- ---- how many procedures

starts-apart : (x y : ℕ) → nat_cmp x y ≡ Less → same_place (start x) (start y) ≡ false
starts-apart x y less = by (x == y) refl
  where
    self : x ≡ y → ⊥
    self e = let again : nat_cmp y y ≡ Less = subst (λ z. nat_cmp z y ≡ Less) e less in both-below y y again again

    by : (b : Bool) → (x == y) ≡ b → same_place (start x) (start y) ≡ false
    by true e = absurd (self (eqb-true x y e))
    by false e = rw (e) refl

starts-distinct : (xs : List ℕ) → IsStrictlySortedBy nat_cmp xs → IsDistinct same_place (map start xs)
unfolding IsDistinct
starts-distinct [] s = tt
starts-distinct (x ∷ xs) s =
    IsDistinct-cons same_place (start x) (map start xs)
    (recursion_from_All (λ y. same_place (start x) y ≡ false) (map start xs)
    (All-map (λ y. same_place (start x) y ≡ false) start xs
    (All-weaker (λ y. nat_cmp x y ≡ Less) (λ y. same_place (start x) (start y) ≡ false) (λ y less. starts-apart x y less) xs (All-from_recursion (λ y. nat_cmp x y ≡ Less) xs (sorted_head nat_cmp x xs s)))))
    (starts-distinct xs (sorted_tail nat_cmp x xs s))

-- each procedure has a point
pub few-procs : (code : Code) (roots : List ℕ) (g : Graph) (limit : ℕ) → IsGraph code roots g → (IsTooLarge code roots limit → ⊥) → length g.procs ≤ limit
few-procs code roots g limit is enough = by (cases_lt limit (length g.procs))
  where
    entries : List ℕ
    entries = map (λ p. p.entry) g.procs

    more : limit < length g.procs → IsTooLarge code roots limit
    more lt = record {
      some = map start entries;
      distinct = starts-distinct entries is.procs_rise;
      all = All-map (InBody code roots) start entries (All-weaker (Procedure code roots) (λ p. InBody code roots (start p)) (λ p h. record { procedure = h; body = Body.first }) entries is.procs.sound);
      more = omega (arith, lt, length-map entries start, length-map g.procs (λ (p : Rattle.points.specs.declared.graph.Proc.Proc). p.entry));
    }

    by : (limit < length g.procs) ⊎ (length g.procs ≤ limit) → length g.procs ≤ limit
    by (inl lt) = absurd (enough (more lt))
    by (inr le) = le

-- ---- what the search tells

module _ (s : Setting) (lie : LieInMemory s.frozen) (entry : ℕ) (symbols : List ℕ) where
  abbrev roots : List ℕ
  roots = roots_of s entry symbols

  abbrev code : Code
  code = code_of s (the_table s)

  -- its graph is that of the program
  pub graph-of : (g : Graph) → IsGraph code roots g → IsGraphOf s entry symbols g
  graph-of g is = record { each = λ table h. (alike-tables s table roots lie h).graphs g is }

  -- a program is too large for all functions that give the tables, or for none
  pub is-over : IsTooLarge code roots most_points → IsOver s entry symbols
  is-over h = record { each = λ table t. ((alike-tables s table roots lie t).too_large most_points).0 h }

  pub not-over : (IsTooLarge code roots most_points → ⊥) → IsOver s entry symbols → ⊥
  not-over few over = few (over.each (the_table s) (has_tables s))

  -- its fault is that of the program
  pub fault-of : (f : DiscoverFault) → (f ≢ NoMemory → (f ≡ TooLarge (most_points + 1)) × IsTooLarge code roots most_points) → IsFault s entry symbols f
  fault-of NoMemory h = tt
  fault-of (TooLarge points) h =
      let r = h (λ e. let no : ⊥ = cc in no) in
      let same : points ≡ most_points + 1 = let e = r.0 in cc in
      (same, is-over r.1)
