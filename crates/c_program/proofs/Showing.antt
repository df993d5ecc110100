-- The parts of a graph with summaries show its plan.
use Rattle.std.proofs.Common.{◌≡◌, ℕ, ◌+◌, ◌-◌, ◌^◌, ◌%◌, ◌<◌, ◌≤◌, Bool, true, false, if◌then◌else◌, List, [], ◌∷◌, length, map, All, get_or, inl, inr, Some, refl, sym, ap, ◌∙◌, subst, arith}
use Rattle.std.specs.Prelude.{◌⊎◌, ◌==◌}
use Rattle.std.specs.List.{Contains}
use Rattle.std.specs.List.Sorted.{IsNonDecreasingBy, IsStrictlySortedBy}
use Rattle.std.specs.Ordering.{nat_cmp}
use Rattle.std.proofs.lemmas.Bool.{eq-eqb, eqb-true}
use Rattle.std.proofs.lemmas.List.{length-map, get_or-map}
use Rattle.std.proofs.lemmas.List.Elements.{All-contains, Contains-get_or}
use Rattle.std.proofs.lemmas.Map.Keys.{non_decreasing_from_sorted, sorted_tail}
use Rattle.points.specs.declared.graph.Graph.{Graph}
use Rattle.points.specs.declared.graph.Node.{Node}
use Rattle.points.specs.declared.graph.Pad.{Pad}
use Rattle.points.specs.declared.graph.Summary.{Summary}
use Rattle.points.specs.Bodies.{Code, code_of, IsReached}
use Rattle.points.specs.Graphs.{HasPad, points_of}
use Rattle.points.specs.Kinds.{block_at, second, further}
use Rattle.points.specs.Machine.{Setting}
use Rattle.points.proofs.Behind.{second_is_behind}
use Rattle.params.specs.ByEntry.{mods_of, refs_of}
use Rattle.params.proofs.Members.{above, both-below, only-in, split-in}
use Rattle.c_control.specs.Plans.{Plan, pad_by}
use Rattle.c_program.specs.declared.sources.Sources.{Sources}
use Rattle.c_program.specs.Planning.{AreSummariesOf, IsDescribed, graph_plan}
use Rattle.c_program.specs.Ready.{IsReady}
use Rattle.c_program.specs.Shown.{IsPadOf, IsSummaryOf, Shows, entries_of}
use Rattle.c_program.specs.Trees.{tree_of}
use Rattle.c_program.proofs.SmallPoints.{back-small, body-small, procedure-small}
use Rattle.c_program.proofs.Sourcing.{AreParts, entries-same, inst-known}

-- ascending keys do not fall
rises : {X : Type 0} (n : X → ℕ) (xs : List X) → IsStrictlySortedBy nat_cmp (map n xs) → IsNonDecreasingBy n xs
rises n xs h i j d le lt =
    let size = length-map xs n in
    let lt' : j < length (map n xs) = omega (arith, size, lt) in
    let at = non_decreasing_from_sorted (map n xs) h i j (n d) le lt' in
    let before : i < length xs = omega (arith, le, lt) in
    subst (λ k. k ≤ n (get_or xs j d)) (get_or-map n xs i d (n d) before) (subst (λ k. get_or (map n xs) i (n d) ≤ k) (get_or-map n xs j d (n d) lt) at)

-- a summary is found by its entry, where entries ascend
summary-of : (sums : List Summary) (others : List ℕ) → IsStrictlySortedBy nat_cmp (entries_of sums) → (s : Summary) → Contains sums s → (refs_of sums others s.entry ≡ s.refs) × (mods_of sums others s.entry ≡ s.mods)
summary-of [] others h s i = let no : ⊥ = omega (arith, i.1) in absurd no
summary-of (t ∷ ss) others h s i = by (split-in t s ss i) (summary-of ss others (sorted_tail nat_cmp t.entry (entries_of ss) h) s)
  where
    apart : Contains ss s → (b : Bool) → (t.entry == s.entry) ≡ b → b ≡ false
    apart c false e = refl
    apart c true e =
        let less = above t.entry (entries_of ss) h s.entry (Rattle.params.proofs.Members.to-mapped (λ (u : Summary). u.entry) ss s c) in
        let same = eqb-true t.entry s.entry e in
        let self = subst (λ k. nat_cmp k s.entry ≡ Rattle.std.specs.declared.cmp.Ordering.TheVariants.Less) same less in
        absurd (both-below s.entry s.entry self self)

    by : (t ≡ s) ⊎ Contains ss s → (Contains ss s → (refs_of ss others s.entry ≡ s.refs) × (mods_of ss others s.entry ≡ s.mods)) → (refs_of (t ∷ ss) others s.entry ≡ s.refs) × (mods_of (t ∷ ss) others s.entry ≡ s.mods)
    by (inl same) later =
        let e = eq-eqb t.entry s.entry (ap (λ (u : Summary). u.entry) same) in
        (ap (λ b. if b then t.refs else refs_of ss others s.entry) e ∙ ap (λ (u : Summary). u.refs) same, ap (λ b. if b then t.mods else mods_of ss others s.entry) e ∙ ap (λ (u : Summary). u.mods) same)
    by (inr c) later =
        let e = apart c (t.entry == s.entry) refl in
        let rest = later c in
        (ap (λ b. if b then t.refs else refs_of ss others s.entry) e ∙ rest.0, ap (λ b. if b then t.mods else mods_of ss others s.entry) e ∙ rest.1)

-- a pad stands near its return address
pub near : (back bytes s : ℕ) → back < 2 ^ 32 → bytes ≤ 32 → s ≡ further back bytes → pad_by back (Some s) < 2 ^ 31
near back bytes s lt few is =
    let same : (further back bytes + (2 ^ 32 - back)) % 2 ^ 32 ≡ bytes = grind (arith, lt, few) in
    subst (λ k. (k + (2 ^ 32 - back)) % 2 ^ 32 < 2 ^ 31) (sym is) (omega (arith, same, few))

-- the summaries ascend
entries-rise : (setting : Setting) (table : ℕ → List ℕ) (roots : List ℕ) (g : Graph) (sums : List Summary) → IsDescribed setting table roots g → AreSummariesOf setting table roots g sums → IsStrictlySortedBy nat_cmp (entries_of sums)
entries-rise setting table roots g sums d are = subst (IsStrictlySortedBy nat_cmp) (sym (entries-same setting table roots g sums are)) d.graph.procs_rise

pub sums-rise : (setting : Setting) (table : ℕ → List ℕ) (roots : List ℕ) (g : Graph) (sums : List Summary) → IsDescribed setting table roots g → AreSummariesOf setting table roots g sums → IsNonDecreasingBy (λ s. s.entry) sums
sums-rise setting table roots g sums d are = rises (λ s. s.entry) sums (entries-rise setting table roots g sums d are)

module _ (setting : Setting) (table : ℕ → List ℕ) (roots : List ℕ) (g : Graph) (sums : List Summary) (others : List ℕ) (entry : ℕ) (d : IsDescribed setting table roots g) (are : AreSummariesOf setting table roots g sums)
    (at_root : Contains roots entry) (on : Sources) (parts : AreParts setting g sums on) (own : Contains sums on.own.now) where
  abbrev plan : Plan
  plan = graph_plan setting table g.procs sums others

  abbrev code : Code
  code = code_of setting table

  pub summaries : (s : Summary) → Contains sums s → IsSummaryOf plan s
  summaries s i = let is = summary-of sums others (entries-rise setting table roots g sums d are) s i in record { refs = is.0; mods = is.1 }

  pad-is : (p : Pad) → HasPad code roots p.at → second setting p.at ≡ Some p.second → IsPadOf plan p
  pad-is p h e =
      let behind = (second_is_behind setting p.at p.second d.sound.machine.encodings e).0 in
      let entry-lt = procedure-small setting table d.sound d.tables_small roots d.roots_small h.reached.entry h.reached.procedure in
      let at = body-small setting table d.sound d.tables_small h.reached.entry h.point entry-lt h.reached.body in
      record { second = e; near = near p.at behind.bytes p.second (back-small setting table d.sound d.tables_small h.point p.at at h.calls) behind.length.few behind.is }

  -- the data are those of the plan
  pub shows : Shows plan on
  shows = record {
    sound = d.sound;
    machine = sym parts.machine;
    conv = sym parts.conv;
    tables_rise = subst (λ ts. IsNonDecreasingBy (λ t. t.at) ts) (sym parts.tables) (rises (λ t. t.at) g.tables d.graph.tables_rise);
    tables = subst (λ ts. All (λ t. table t.at ≡ t.targets) ts) (sym parts.tables) (λ k d' within. sym (d.graph.targets k d' within));
    pads_rise = subst (λ ps. IsNonDecreasingBy (λ p. p.at) ps) (sym parts.pads) (rises (λ p. p.at) g.pads d.graph.pads_rise);
    pads = subst (λ ps. All (IsPadOf plan) ps) (sym parts.pads) (λ k d' within. pad-is (get_or g.pads k d') (All-contains (HasPad code roots) (map (λ (p : Pad). p.at) g.pads) (get_or g.pads k d').at d.graph.pads.sound (mapped (λ (p : Pad). p.at) g.pads k d' within)) (d.graph.seconds k d' within));
    sums_rise = subst (λ ss. IsNonDecreasingBy (λ s. s.entry) ss) (sym parts.sums_are) (sums-rise setting table roots g sums d are);
    sums = subst (λ ss. All (IsSummaryOf plan) ss) (sym parts.sums_are) (λ k d' within. summaries (get_or sums k d') (Contains-get_or sums k d' within));
    some = subst (λ ss. 1 ≤ length ss) (sym parts.sums_are) some;
    own = summaries on.own.now own;
    tree = ap tree_of (sym (ap entries_of parts.sums_are ∙ entries-same setting table roots g sums are));
  }
    where
      mapped : {X : Type 0} (f : X → ℕ) (xs : List X) (k : ℕ) (d : X) → k < length xs → Contains (map f xs) (f (get_or xs k d))
      mapped f xs k d within =
          let size = length-map xs f in
          let within' : k < length (map f xs) = omega (arith, size, within) in
          (k, within', get_or-map f xs k d (f (get_or xs k d)) within)

      some : 1 ≤ length sums
      some = omega (arith, own.1)

  -- each node has what its block asks for
  pub all-ready : All (IsReady plan on) g.nodes
  all-ready k n within = ready (get_or g.nodes k n) (d.graph.blocks k n within) (All-contains (IsReached code roots) (points_of g.nodes) (get_or g.nodes k n).point d.graph.nodes.sound (k, inside, get_or-map (λ (n : Node). n.point) g.nodes k n (get_or g.nodes k n).point within))
    where
      inside : k < length (points_of g.nodes)
      inside = omega (arith, length-map g.nodes (λ (n : Node). n.point), within)

      ready : (n : Node) → n.block ≡ block_at setting n.point.pc → IsReached code roots n.point → IsReady plan on n
      ready n e r = record {
        here = sym e;
        known = λ inst kind is. inst-known setting table roots g sums others d are on parts r.entry n.point r.procedure r.body inst kind (sym e ∙ is);
      }
