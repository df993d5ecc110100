-- The program of a graph keeps the static rules.
use Rattle.std.proofs.Common.{◌≡◌, ℕ, zero, suc, Bool, true, false, List, [], ◌∷◌, ◌++◌, map, take, length, slice_get, append-nil, Some, option_map, refl, sym, ap, ◌∙◌, subst, arith, eq-eqb}
use Rattle.std.specs.Prelude.{IsTrue, All, is_some, not, slice_index, ◌==◌, if◌then◌else◌}
use Rattle.std.specs.List.{Contains, list_all}
use Rattle.std.specs.List.Sorted.{IsStrictlySortedBy}
use Rattle.std.specs.Option.{option_map_or}
use Rattle.std.specs.Ordering.{nat_cmp}
use Rattle.std.proofs.lemmas.Bool.{and_from}
use Rattle.std.proofs.lemmas.List.{length-map, take-map}
use Rattle.std.proofs.lemmas.List.Elements.{All-head, All-tail}
use Rattle.std.proofs.lemmas.List.Folds.{list_all-append}
use Rattle.rtl_core.specs.FirstMemory.{Part, first_cells}
use Rattle.points.specs.declared.graph.Graph.{Graph}
use Rattle.points.specs.declared.graph.Proc.{Proc}
use Rattle.points.specs.declared.graph.Summary.{Summary}
use Rattle.points.specs.Bodies.{Code, code_of, Procedure}
use Rattle.points.specs.Machine.{Setting}
use Rattle.points.proofs.CodeControl.{no_jump_waits_for_itself}
use Rattle.c_lang.specs.declared.tree.CBlock.{CBlock}
use Rattle.c_lang.specs.declared.tree.Function.{Function}
use Rattle.c_lang.specs.declared.tree.Program.{Program}
use Rattle.c_lang.specs.Items.{Text, Item, Include, Machine, Segment, Table, Declared, Defined, Main, Array, Prototype, numbered, items, text_of, segment_array, table_numbers, prototype_of, mentions}
use Rattle.c_lang.specs.State.{has}
use Rattle.c_lang.specs.StaticRules.{is_declared, is_counted, is_access, is_like, is_whole, prototype_at, takes, no_twice, no_two, once, known, counted, sized, placed}
use Rattle.c_lang.specs.Step.{same_point}
use Rattle.c_control.specs.Plans.{Plan}
use Rattle.c_control.specs.Programs.{HasFunction}
use Rattle.c_control.proofs.Frames.{Emission}
use Rattle.params.specs.ByEntry.{AreMoving, refs_of}
use Rattle.params.proofs.PlanClosed.{to-has}
use Rattle.c_program.specs.Functions.{function_of, functions_of, nodes_at}
use Rattle.c_program.specs.Planning.{AreSummariesOf, IsDescribed, entries, graph_plan, graph_program}
use Rattle.c_program.proofs.GraphFunctions.{graph-is-planned}
use Rattle.c_static.specs.Laws.{ArePlaced, GraphKeepsOnce, GraphKeepsKnown, GraphKeepsCounted, GraphKeepsSized, GraphKeepsPlaced, GraphIsStatic}
use Rattle.c_static.proofs.Arrays.{machine-sized, filled-whole, table-is, machine-placed, table-placed}
use Rattle.c_static.proofs.Bodies.{body-apart, is-procedure, of-body}
use Rattle.c_static.proofs.FunctionFacts.{HasBlocks, found-one, found-prototype, has-blocks, like-itself}
use Rattle.c_static.proofs.FunctionSays.{IsFine, all-fine, each-test}
use Rattle.c_static.proofs.Labels.{labels-once}
use Rattle.c_static.proofs.Lists.{got-in, got-mapped, not-before, numbered-each, rises-once}
use Rattle.c_static.proofs.PieceSays.{AllLeaves}
use Rattle.c_static.proofs.Saying.{Each}
use Rattle.c_static.proofs.TreeLeaves.{each-entry}

-- ---- items

-- a test of each part of a text is one of all items
all-items : (test : Item → Bool) (t : Text) → test Include ≡ true → test (Machine t.machine) ≡ true → list_all test (numbered Segment 0 t.segments) ≡ true → test (Table t.table) ≡ true
    → list_all test (numbered Declared 0 t.prototypes) ≡ true → list_all test (numbered Defined 0 t.functions) ≡ true → test (Main t.entry t.first) ≡ true → list_all test (items t) ≡ true
all-items test t include machine segments table prototypes functions main =
    and_from (test Include) _ include (and_from (test (Machine t.machine)) _ machine
    (both (numbered Segment 0 t.segments) (Table t.table ∷ (numbered Declared 0 t.prototypes ++ (numbered Defined 0 t.functions ++ Main t.entry t.first ∷ []))) segments (and_from (test (Table t.table)) _ table
    (both (numbered Declared 0 t.prototypes) (numbered Defined 0 t.functions ++ Main t.entry t.first ∷ []) prototypes (both (numbered Defined 0 t.functions) (Main t.entry t.first ∷ []) functions (and_from (test (Main t.entry t.first)) true main refl))))))
  where
    both : (xs ys : List Item) → list_all test xs ≡ true → list_all test ys ≡ true → list_all test (xs ++ ys) ≡ true
    both xs ys h k = list_all-append test xs ys ∙ and_from (list_all test xs) (list_all test ys) h k

-- ---- cells that rise

rises-by : (sums : List Summary) (others : List ℕ) (p : ℕ) → All (λ s. IsStrictlySortedBy nat_cmp s.refs) sums → IsStrictlySortedBy nat_cmp others → IsStrictlySortedBy nat_cmp (refs_of sums others p)
rises-by [] others p h o = o
rises-by (s ∷ ss) others p h o = by (s.entry == p) (rises-by ss others p (All-tail (λ s. IsStrictlySortedBy nat_cmp s.refs) s ss h) o)
  where
    by : (b : Bool) → IsStrictlySortedBy nat_cmp (refs_of ss others p) → IsStrictlySortedBy nat_cmp (if b then s.refs else refs_of ss others p)
    by true rest = All-head (λ s. IsStrictlySortedBy nat_cmp s.refs) s ss h
    by false rest = rest

module _ (setting : Setting) (table : ℕ → List ℕ) (roots : List ℕ) (g : Graph) (sums : List Summary) (others : List ℕ) (parts : List Part) (entry : ℕ) (d : IsDescribed setting table roots g) (are : AreSummariesOf setting table roots g sums)
    (moving : AreMoving setting.machine others) (at_root : Contains roots entry) where
  abbrev plan : Plan
  plan = graph_plan setting table g.procs sums others

  abbrev program : Program
  program = graph_program setting table g sums others parts entry

  abbrev t : Text
  t = text_of program

  abbrev code : Code
  code = code_of setting table

  abbrev emission : Emission
  emission = record { plan = plan; roots = roots; parts = parts; entry = entry; program = program; planned = graph-is-planned setting table roots g sums others parts entry d are moving at_root }

  rise : AreSummariesOf setting table roots g sums → All (λ s. IsStrictlySortedBy nat_cmp s.refs) sums
  rise (AreSummariesOf.least s) = λ k x lt. (s.each k x lt).refs_rise
  rise (AreSummariesOf.whole s) = λ k x lt. (s.each k x lt).refs_rise

  refs-rise : (p : ℕ) → IsStrictlySortedBy nat_cmp (plan.refs p)
  refs-rise p = rises-by sums others p (rise are) moving.rise

  -- ---- functions

  -- a function of the program is that of a procedure
  record IsOf (f : Function) : Type 0 where
    proc : Proc
    there : Contains g.procs proc
    is : function_of plan g.nodes proc.entry proc.body ≡ f

  is-of : (k : ℕ) (f : Function) → slice_get program.functions k ≡ Some f → IsOf f
  is-of k f e = let got = got-mapped (λ (p : Proc). function_of plan g.nodes p.entry p.body) g.procs k f e in record { proc = got.0; there = got-in g.procs k got.0 got.1; is = got.2 }

  leaves : AllLeaves (λ x. IsTrue (plan.flow.is_procedure x)) plan.tree
  leaves =
      let i = d.graph.procs.whole entry (Procedure.root at_root) in
      each-entry (λ x. IsTrue (has (entries g.procs) x)) (entries g.procs) (omega (arith, i.1)) (λ x c. to-has (entries g.procs) x c)

  module _ (proc : Proc) (there : Contains g.procs proc) where
    abbrev q : ℕ
    q = proc.entry

    abbrev f : Function
    f = function_of plan g.nodes q proc.body

    procedure : Procedure code roots q
    procedure = is-procedure code roots g d.graph proc there

    fn : HasFunction plan program q
    fn = emission.planned.functions q procedure

    blocks-of : HasBlocks plan q f
    blocks-of = has-blocks plan program q fn f (found-one plan g.nodes 0 g.procs proc fn.found d.graph.procs_rise there fn.is)

    fine : Each (λ m. IsFine t f m) (mentions f)
    fine = all-fine emission q procedure leaves f refl blocks-of (nodes_at g.nodes proc.body) refl (λ n c. of-body code roots g d.graph proc there n c)

    once-defined : (k : ℕ) → once t (Defined k f) ≡ true
    once-defined k =
        and_from (no_twice (f.params ++ [])) (no_two same_point (map (λ (b : CBlock). b.label) f.blocks)) (ap no_twice (append-nil f.params) ∙ rises-once f.params (refs-rise q))
        (labels-once plan q (nodes_at g.nodes proc.body) (body-apart code roots g d.graph proc there) (λ n c. no_jump_waits_for_itself setting table q n.point d.sound.machine.encodings (of-body code roots g d.graph proc there n c)))

    declared-all : list_all (is_declared t f) (mentions f) ≡ true
    declared-all = each-test (λ m. IsFine t f m) (is_declared t f) (λ m h. h.declared) (mentions f) fine

    counted-defined : list_all (is_counted t) (mentions f) ≡ true
    counted-defined = each-test (λ m. IsFine t f m) (is_counted t) (λ m h. h.counted) (mentions f) fine

    sized-defined : list_all is_access (mentions f) ≡ true
    sized-defined = each-test (λ m. IsFine t f m) is_access (λ m h. h.access) (mentions f) fine

  -- ---- what each function keeps

  each-defined : (rule : Text → Item → Bool) → ((k : ℕ) (proc : Proc) → Contains g.procs proc → slice_get program.functions k ≡ Some (function_of plan g.nodes proc.entry proc.body) → rule t (Defined k (function_of plan g.nodes proc.entry proc.body)) ≡ true)
      → list_all (rule t) (numbered Defined 0 program.functions) ≡ true
  each-defined rule h =
      numbered-each (rule t) Defined program.functions (λ k f e.
      let o = is-of k f e in
      subst (λ (x : Function). rule t (Defined k x) ≡ true) o.is (h k o.proc o.there (e ∙ ap Some (sym o.is))))

  -- an array of a segment
  segment-got : (k : ℕ) (a : Array) → slice_get t.segments k ≡ Some a → is_whole a ≡ true
  segment-got k a e = let got = got-mapped segment_array program.segments k a e in subst (λ (x : Array). is_whole x ≡ true) got.2 (filled-whole got.0.bytes)

  -- the prototypes stand at the entries of the procedures
  entries-are : (procs : List Proc) → map (λ (p : Prototype). p.entry) (map prototype_of (functions_of plan g.nodes procs)) ≡ entries procs
  entries-are [] = refl
  entries-are (p ∷ ps) = ap (λ es. p.entry ∷ es) (entries-are ps)

  entry-got : (fs : List Prototype) (k : ℕ) (p : Prototype) → slice_get fs k ≡ Some p → slice_get (map (λ (x : Prototype). x.entry) fs) k ≡ Some p.entry
  entry-got [] k p e = let no : ⊥ = cc in absurd no
  entry-got (x ∷ xs) zero p e = let same : x ≡ p = cc in ap (λ (y : Prototype). Some y.entry) same
  entry-got (x ∷ xs) (suc k) p e = entry-got xs k p e

  pub keeps-once : list_all (once t) (items t) ≡ true
  keeps-once =
      all-items (once t) t refl refl (numbered-each (once t) Segment t.segments (λ k a e. refl)) refl (numbered-each (once t) Declared t.prototypes declared) (each-defined once (λ k proc c e. once-defined proc c k)) refl
    where
      unseen : (k : ℕ) (p : Prototype) → slice_get t.prototypes k ≡ Some p → has (map (λ (x : Prototype). x.entry) (take k t.prototypes)) p.entry ≡ false
      unseen k p e =
          ap (λ es. has es p.entry) (sym (take-map (λ (x : Prototype). x.entry) k t.prototypes))
          ∙ not-before (map (λ (x : Prototype). x.entry) t.prototypes) k p.entry (subst (IsStrictlySortedBy nat_cmp) (sym (entries-are g.procs)) d.graph.procs_rise) (entry-got t.prototypes k p e)

      declared : (k : ℕ) (p : Prototype) → slice_get t.prototypes k ≡ Some p → once t (Declared k p) ≡ true
      declared k p e =
          let got = got-mapped prototype_of program.functions k p e in
          let o = is-of k got.0 got.1 in
          let params : plan.refs o.proc.entry ≡ p.params = ap (λ (f : Function). f.params) o.is ∙ ap (λ (x : Prototype). x.params) got.2 in
          and_from (no_twice p.params) (not (has (map (λ (x : Prototype). x.entry) (take k t.prototypes)) p.entry)) (subst (λ l. no_twice l ≡ true) params (rises-once (plan.refs o.proc.entry) (refs-rise o.proc.entry))) (ap not (unseen k p e))

  first-found : prototype_at t.prototypes entry ≡ Some (prototype_of (emission.planned.functions entry (Procedure.root at_root)).found.function)
  first-found = let fn = emission.planned.functions entry (Procedure.root at_root) in found-prototype 0 program.functions entry fn.found fn.is

  pub keeps-known : list_all (known t) (items t) ≡ true
  keeps-known =
      all-items (known t) t refl refl (numbered-each (known t) Segment t.segments (λ k a e. refl)) refl (numbered-each (known t) Declared t.prototypes declared) (each-defined known defined) (ap is_some first-found)
    where
      declared : (k : ℕ) (p : Prototype) → slice_get t.prototypes k ≡ Some p → known t (Declared k p) ≡ true
      declared k p e =
          let got = got-mapped prototype_of program.functions k p e in
          ap (λ o. is_like p (option_map prototype_of o)) got.1 ∙ ap (λ x. is_like p (Some x)) got.2 ∙ like-itself p

      got-prototype : (fs : List Function) (k : ℕ) (f : Function) → slice_get fs k ≡ Some f → slice_get (map prototype_of fs) k ≡ Some (prototype_of f)
      got-prototype [] k f e = let no : ⊥ = cc in absurd no
      got-prototype (x ∷ xs) zero f e = let same : x ≡ f = cc in ap (λ (y : Function). Some (prototype_of y)) same
      got-prototype (x ∷ xs) (suc k) f e = got-prototype xs k f e

      defined : (k : ℕ) (proc : Proc) → Contains g.procs proc → slice_get program.functions k ≡ Some (function_of plan g.nodes proc.entry proc.body) → known t (Defined k (function_of plan g.nodes proc.entry proc.body)) ≡ true
      defined k proc c e =
          let f = function_of plan g.nodes proc.entry proc.body in
          and_from (is_like (prototype_of f) (slice_get t.prototypes k)) (list_all (is_declared t f) (mentions f)) (ap (is_like (prototype_of f)) (got-prototype program.functions k f e) ∙ like-itself (prototype_of f)) (declared-all proc c)

  pub keeps-counted : list_all (counted t) (items t) ≡ true
  keeps-counted =
      all-items (counted t) t refl refl (numbered-each (counted t) Segment t.segments (λ k a e. refl)) refl (numbered-each (counted t) Declared t.prototypes (λ k p e. refl)) (each-defined counted (λ k proc c e. counted-defined proc c)) main
    where
      main : takes t entry (length program.first) ≡ true
      main =
          let fn = emission.planned.functions entry (Procedure.root at_root) in
          let size : length program.first ≡ length fn.found.function.params = length-map (plan.refs entry) (λ c. slice_index (first_cells setting.machine setting.conv) c) ∙ ap length (sym fn.params) in
          ap (λ o. option_map_or (λ (p : Prototype). length program.first == length p.params) o true) first-found ∙ eq-eqb (length program.first) (length fn.found.function.params) size

  pub keeps-sized : ArePlaced setting.conv parts → list_all (sized t) (items t) ≡ true
  keeps-sized places =
      all-items (sized t) t refl (machine-sized t program.header) (numbered-each (sized t) Segment t.segments segment-got) (and_from (is_whole t.table) _ (filled-whole (table_numbers program.segments)) (table-is parts places.bytes))
      (numbered-each (sized t) Declared t.prototypes (λ k p e. refl)) (each-defined sized (λ k proc c e. sized-defined proc c)) refl

  pub keeps-placed : ArePlaced setting.conv parts → list_all (placed t) (items t) ≡ true
  keeps-placed places =
      all-items (placed t) t refl (machine-placed t setting.machine setting.conv d.sound.conv) (numbered-each (placed t) Segment t.segments (λ k a e. refl)) (table-placed t setting.machine setting.conv parts refl d.sound.conv places)
      (numbered-each (placed t) Declared t.prototypes (λ k p e. refl)) (each-defined placed (λ k proc c e. refl)) refl

-- ---- the laws

pub graph-keeps-once : GraphKeepsOnce
graph-keeps-once = keeps-once

pub graph-keeps-known : GraphKeepsKnown
graph-keeps-known = keeps-known

pub graph-keeps-counted : GraphKeepsCounted
graph-keeps-counted = keeps-counted

pub graph-keeps-sized : GraphKeepsSized
graph-keeps-sized = keeps-sized

pub graph-keeps-placed : GraphKeepsPlaced
graph-keeps-placed = keeps-placed

pub graph-is-static : GraphIsStatic
graph-is-static setting table roots g sums others parts entry d are moving at_root places = record {
  once = keeps-once setting table roots g sums others parts entry d are moving at_root;
  known = keeps-known setting table roots g sums others parts entry d are moving at_root;
  counted = keeps-counted setting table roots g sums others parts entry d are moving at_root;
  sized = keeps-sized setting table roots g sums others parts entry d are moving at_root places;
  placed = keeps-placed setting table roots g sums others parts entry d are moving at_root places;
}
