-- The summaries that the columns of a graph give are exact.
use Rattle.std.proofs.Common.{◌≡◌, ◌≢◌, ℕ, ◌+◌, ◌<◌, ◌≤◌, Bool, true, false, List, [], ◌∷◌, ◌++◌, length, get_or, Some, refl, sym, ◌∙◌, ap, subst, arith, inl, inr, zero, suc, append-nil, eqb-true, eq-eqb}
use Rattle.std.specs.Prelude.{◌⊎◌, ◌&&◌, ◌==◌, map, not, if◌then◌else◌, slice_get}
use Rattle.std.specs.List.{Contains, flat_map, range_with_len}
use Rattle.std.specs.Option.{option_map}
use Rattle.std.proofs.lemmas.List.Elements.{All-weaker, All-contains_itself, Contains-append_left, Contains-append_right, Contains-append_cases}
use Rattle.std.proofs.lemmas.List.FromFn.{length-range_with_len, get_or-range_with_len}
use Rattle.std.proofs.lemmas.Option.{slice_get-map, slice_get_within, get_or_from_slice_get}
use Rattle.rtl_core.specs.declared.point.Point.{Point}
use Rattle.points.specs.declared.graph.Graph.{Graph}
use Rattle.points.specs.declared.graph.Proc.{Proc}
use Rattle.points.specs.declared.graph.Summary.{Summary}
use Rattle.points.specs.Bodies.{Code, code_of, Enters, Body, Procedure}
use Rattle.points.specs.Exactly.{IsExactly}
use Rattle.points.specs.Machine.{Setting}
use Rattle.points.specs.Summaries.{Summarized, EntersAny, IsCallee, given, any, Reaches, itself, through, HasRef, named, whole, HasMod, assigned, IsSummary, AreSummaries, cells_in_row}
use Rattle.params.specs.declared.parts.Part.{Part}
use Rattle.params.specs.Accepted.{IsAccepted}
use Rattle.params.specs.Cells.{is_zero, is_chosen, marked_cells}
use Rattle.params.specs.Leading.{row, AreRows, Leads, start, on, mark, IsUser, AreUsers}
use Rattle.params.specs.Listed.{AreCalls, AreCellColumns, summary_at, summaries_at}
use Rattle.params.specs.Parts.{has_no_targets, proc_part, proc_opens, proc_opens_if_any, is_opener, is_whole, whole_part, place_part}
use Rattle.params.specs.SummaryLaws.{summarized}
use Rattle.params.proofs.Members.{none-in, first-in, later-in, split-in, from-mapped}
use Rattle.params.proofs.Lawful.{reached-procedure}
use Rattle.params.proofs.NamedCells.{assigned-is-named, named-are-cells}
use Rattle.params.proofs.Choosing.{range-rises, in-range, from-range, from-filter, to-filter, chosen-rise, not-zero, to-not-zero}
use Rattle.params.proofs.Turning.{same-key}
use Rattle.params.proofs.Arriving.{both}
use Rattle.params.proofs.Bodies.{in-at, at-in, from-any, to-any, some-at, from-part, to-part, to-enters, from-enters, from-opens, to-opens, is-procedure}

-- all that constant calls reach from a procedure
data Calls (n : Summarized) (p : ℕ) : ℕ → Type 0 where
  here : Calls n p p
  further : {q t : ℕ} {b : Point} → Calls n p q → Body n.code q b → Enters n.code b t → Calls n p t

-- constant calls reach a procedure that may enter any
record Opens (n : Summarized) (p : ℕ) : Type 0 where
  last : ℕ
  reached : Calls n p last
  point : Point
  body : Body n.code last point
  enters : EntersAny n.code point

module _ (n : Summarized) where
  from-calls : (p q : ℕ) → Calls n p q → Reaches n p q
  from-calls p q here = itself
  from-calls p q (further {q = x} c b e) = through (from-calls p x c) (given b e)

  calls-procedure : (p q : ℕ) → Procedure n.code n.roots p → Calls n p q → Procedure n.code n.roots q
  calls-procedure p q h c = reached-procedure n p q h (from-calls p q c)

  -- a call in front of others
  before : (p t q : ℕ) (b : Point) → Body n.code p b → Enters n.code b t → Calls n t q → Calls n p q
  before p t q b body e here = further here body e
  before p t q b body e (further {q = x} c d f) = further (before p t x b body e c) d f

  step-split : (p x t : ℕ) → IsCallee n x t → Calls n p x ⊎ Opens n p → Calls n p t ⊎ Opens n p
  step-split p x t (given b e) (inl c) = inl (further c b e)
  step-split p x t (any {b = b} body e k) (inl c) = inr (record { last = x; reached = c; point = b; body = body; enters = e })
  step-split p x t k (inr o) = inr o

  -- what a procedure reaches constant calls reach, or they reach one that may enter any
  split : (p q : ℕ) → Reaches n p q → Calls n p q ⊎ Opens n p
  split p q itself = inl here
  split p q (through {q = x} r k) = step-split p x q k (split p x r)

module _ (setting : Setting) (table : ℕ → List ℕ) (roots : List ℕ) (g : Graph) (acc : IsAccepted setting table roots g) where
  abbrev code : Code
  code = code_of setting table

  abbrev n : Summarized
  n = summarized setting table roots

  abbrev entry : Proc → ℕ
  entry = λ (p : Proc). p.entry

  abbrev entries : List ℕ
  entries = map entry g.procs

  abbrev parts : Part → List (List ℕ)
  parts part = map (proc_part setting.machine setting.conv part g.nodes) g.procs

  -- ---- procedures by their places

  entry-at : (i : ℕ) (p : Proc) → slice_get g.procs i ≡ Some p → slice_get entries i ≡ Some p.entry
  entry-at i p e = slice_get-map entry g.procs i ∙ ap (option_map entry) e

  key-at : (i : ℕ) (p : Proc) → slice_get g.procs i ≡ Some p → get_or entries i 0 ≡ p.entry
  key-at i p e = get_or_from_slice_get entries i p.entry 0 (entry-at i p e)

  part-at : (part : Part) (i : ℕ) (p : Proc) → slice_get g.procs i ≡ Some p → row (parts part) i ≡ proc_part setting.machine setting.conv part g.nodes p
  part-at part i p e = get_or_from_slice_get (parts part) i _ [] (slice_get-map (proc_part setting.machine setting.conv part g.nodes) g.procs i ∙ ap (option_map (proc_part setting.machine setting.conv part g.nodes)) e)

  record At (t : ℕ) : Type 0 where
    place : ℕ
    proc : Proc
    there : slice_get g.procs place ≡ Some proc
    is : proc.entry ≡ t

  find : (t : ℕ) → Procedure code roots t → At t
  find t h =
      let m = from-mapped entry g.procs t (acc.is.procs.whole t h) in
      let k = at-in g.procs m.0 m.1 in
      record { place = k.0; proc = m.0; there = k.1; is = m.2 }

  entry-within : (i : ℕ) (p : Proc) → slice_get g.procs i ≡ Some p → i < length entries
  entry-within i p e = slice_get_within entries i p.entry (entry-at i p e)

  same-place : (i j : ℕ) (p q : Proc) → slice_get g.procs i ≡ Some p → slice_get g.procs j ≡ Some q → p.entry ≡ q.entry → i ≡ j
  same-place i j p q e f s = same-key entries acc.is.procs_rise i j (entry-within i p e) (entry-within j q f) (key-at i p e ∙ s ∙ sym (key-at j q f))

  -- ---- calls, by rows

  module _ (callers : List (List ℕ)) (rows : AreRows entries (parts Part.Calls) callers) (starts : List ℕ) where
    record Led (p : Proc) : Type 0 where
      last : ℕ
      proc : Proc
      is_start : Contains starts last
      there : slice_get g.procs last ≡ Some proc
      calls : Calls n p.entry proc.entry

    to-calls : (i : ℕ) (p : Proc) → slice_get g.procs i ≡ Some p → Leads callers starts i → Led p
    to-calls i p e (start c) = record { last = i; proc = p; is_start = c; there = e; calls = here }
    to-calls i p e (on {p = j} l c) = by (places j c) (λ q f. to-calls j q f l)
      where
        places : (j : ℕ) → Contains (row callers j) i → j < length g.procs
        places j c = let k = within callers j i c in let r = rows.count in let z = lengths g.procs in omega (arith, k, r, z)
          where
            within : (rs : List (List ℕ)) (k x : ℕ) → Contains (row rs k) x → k < length rs
            within [] k x h = none-in x h
            within (r ∷ rs) zero x h = omega arith
            within (r ∷ rs) (suc k) x h = let z = within rs k x h in omega (arith, z)

            lengths : (ps : List Proc) → length (map entry ps) ≡ length ps
            lengths [] = refl
            lengths (p ∷ ps) = let z = lengths ps in omega (arith, z)

        by : j < length g.procs → ((q : Proc) → slice_get g.procs j ≡ Some q → Led q) → Led p
        by lt more =
            let s = some-at g.procs j lt in
            let q = s.0 in
            let d = more q s.1 in
            let t = subst (Contains (row (parts Part.Calls) i)) (key-at j q s.1) ((rows.exactly j i (entry-within j q s.1)).0 c) in
            let u = subst (λ l. Contains l q.entry) (part-at Part.Calls i p e ∙ append-nil _) t in
            let w = from-part setting table roots g acc.is Part.Calls p q.entry (in-at g.procs i p e) u in
            record { last = d.last; proc = d.proc; is_start = d.is_start; there = d.there; calls = before n p.entry q.entry d.proc.entry w.0 w.1 (to-enters setting table w.0 q.entry w.2) d.calls }

    to-leads : (i : ℕ) (p : Proc) (t : ℕ) → slice_get g.procs i ≡ Some p → Calls n p.entry t → (l : ℕ) (q : Proc) → slice_get g.procs l ≡ Some q → q.entry ≡ t → Leads callers starts l → Leads callers starts i
    to-leads i p t e here l q f s d = subst (Leads callers starts) (same-place l i q p f e s) d
    to-leads i p t e (further {q = x} {b = b} c body enters) l q f s d =
        let a = find x (calls-procedure n p.entry x (is-procedure setting table roots g acc.is p (in-at g.procs i p e)) c) in
        let u = to-part setting table roots g acc.is Part.Calls a.proc b t (in-at g.procs a.place a.proc a.there) (subst (λ y. Body code y b) (sym a.is) body) (from-enters setting table b t enters) in
        let w = subst (λ r. Contains r t) (sym (part-at Part.Calls a.place a.proc a.there ∙ append-nil _)) u in
        let v = (rows.exactly l a.place (entry-within l q f)).1 (subst (Contains (row (parts Part.Calls) a.place)) (sym (key-at l q f ∙ s)) w) in
        to-leads i p x e c a.place a.proc a.there a.is (on d v)

  -- ---- one part of the cells

  -- what it is to have a cell, by the list of some procedure that is reached
  pub record IsPart (part : Part) (Has : ℕ → ℕ → Type 0) : Type 0 where
    pub gives : (p q c : ℕ) (r : Proc) → Reaches n p q → Contains g.procs r → r.entry ≡ q → Contains (proc_part setting.machine setting.conv part g.nodes r) c → setting.machine.zero ≢ Some c → Has p c
    pub there : (p c : ℕ) → Has p c → (c < length setting.machine.widths) × (setting.machine.zero ≢ Some c)
    pub from : (p c : ℕ) → Has p c → (q : ℕ) × Reaches n p q × ((r : Proc) → Contains g.procs r → r.entry ≡ q → Contains (proc_part setting.machine setting.conv part g.nodes r) c)

  module _ (part : Part) (Has : ℕ → ℕ → Type 0) (is : IsPart part Has) (callers : List (List ℕ)) (openers : List ℕ) (columns : List (List Bool))
      (calls : AreCalls setting.machine setting.conv g callers openers) (cols : AreCellColumns setting.machine setting.conv g part callers openers columns) where
    abbrev count : ℕ
    count = length setting.machine.widths

    rows : AreRows entries (parts Part.Calls) callers
    rows = calls.callers_are acc.is.procs_rise

    users : AreRows (range_with_len 0 count) (parts part) cols.users
    users = cols.users_are (range-rises count)

    cell-key : (c : ℕ) → c < count → get_or (range_with_len 0 count) c 0 ≡ c
    cell-key c lt = let z : 0 + c ≡ c = omega arith in get_or-range_with_len 0 count c 0 lt ∙ z

    cell-within : (c : ℕ) → c < count → c < length (range_with_len 0 count)
    cell-within c lt = let l = length-range_with_len 0 count in omega (arith, lt, l)

    from-user : (c i : ℕ) (r : Proc) → c < count → slice_get g.procs i ≡ Some r → Contains (row cols.users c) i → Contains (proc_part setting.machine setting.conv part g.nodes r) c
    from-user c i r lt e h = subst (λ l. Contains l c) (part-at part i r e) (subst (Contains (row (parts part) i)) (cell-key c lt) ((users.exactly c i (cell-within c lt)).0 h))

    to-user : (c i : ℕ) (r : Proc) → c < count → slice_get g.procs i ≡ Some r → Contains (proc_part setting.machine setting.conv part g.nodes r) c → Contains (row cols.users c) i
    to-user c i r lt e h = (users.exactly c i (cell-within c lt)).1 (subst (Contains (row (parts part) i)) (sym (cell-key c lt)) (subst (λ l. Contains l c) (sym (part-at part i r e)) h))

    row-proc : (c i : ℕ) → c < count → Contains (row cols.users c) i → (r : Proc) × (slice_get g.procs i ≡ Some r)
    row-proc c i lt h = some-at g.procs i (lengths g.procs i ((users.exactly c i (cell-within c lt)).0 h))
      where
        lengths : (ps : List Proc) (i : ℕ) → Contains (row (map (proc_part setting.machine setting.conv part g.nodes) ps) i) (get_or (range_with_len 0 count) c 0) → i < length ps
        lengths [] i h = none-in _ h
        lengths (p ∷ ps) zero h = omega arith
        lengths (p ∷ ps) (suc i) h = let z = lengths ps i h in omega (arith, z)

    opener-opens : (i : ℕ) (r : Proc) → slice_get g.procs i ≡ Some r → Contains openers i → proc_opens setting.machine (has_no_targets g.tables) g.nodes r ≡ true
    opener-opens i r e h =
        let f = from-filter (is_opener setting.machine (has_no_targets g.tables) g) (range_with_len 0 (length g.procs)) i (subst (λ l. Contains l i) calls.openers_are h) in
        sym (ap (proc_opens_if_any setting.machine (has_no_targets g.tables) g.nodes) e) ∙ f.1

    opens-opener : (i : ℕ) (r : Proc) → slice_get g.procs i ≡ Some r → proc_opens setting.machine (has_no_targets g.tables) g.nodes r ≡ true → Contains openers i
    opens-opener i r e h =
        subst (λ l. Contains l i) (sym calls.openers_are)
        (to-filter (is_opener setting.machine (has_no_targets g.tables) g) (range_with_len 0 (length g.procs)) i (in-range (length g.procs) i (slice_get_within g.procs i r e)) (ap (proc_opens_if_any setting.machine (has_no_targets g.tables) g.nodes) e ∙ h))

    -- one that uses a cell has it
    has-cell : (c i : ℕ) (p : Proc) → c < count → setting.machine.zero ≢ Some c → slice_get g.procs i ≡ Some p → IsUser callers openers (row cols.users c) i → Has p.entry c
    has-cell c i p lt z e u =
        let d = to-calls callers rows (row cols.users c ++ openers) i p e u.led in
        by d (Contains-append_cases (row cols.users c) openers d.last d.is_start)
      where
        by : (d : Led callers rows (row cols.users c ++ openers) p) → Contains (row cols.users c) d.last ⊎ Contains openers d.last → Has p.entry c
        by d (inl h) = is.gives p.entry d.proc.entry c d.proc (from-calls n p.entry d.proc.entry d.calls) (in-at g.procs d.last d.proc d.there) refl (from-user c d.last d.proc lt d.there h) z
        by d (inr h) =
            let o = from-opens setting table roots g acc.is d.proc (in-at g.procs d.last d.proc d.there) (opener-opens d.last d.proc d.there h) in
            let s = row-proc c u.some lt u.is in
            let m = in-at g.procs u.some s.0 s.1 in
            is.gives p.entry s.0.entry c s.0 (through (from-calls n p.entry d.proc.entry d.calls) (any o.1 o.2 (is-procedure setting table roots g acc.is s.0 m))) m refl (from-user c u.some s.0 lt s.1 u.is) z

    -- one that has a cell uses it
    uses-cell : (c i : ℕ) (p : Proc) → slice_get g.procs i ≡ Some p → Has p.entry c → IsUser callers openers (row cols.users c) i
    uses-cell c i p e h =
        let f = is.from p.entry c h in
        let lt = (is.there p.entry c h).0 in
        let a = find f.0 (reached-procedure n p.entry f.0 (is-procedure setting table roots g acc.is p (in-at g.procs i p e)) f.1) in
        let u = to-user c a.place a.proc lt a.there (f.2 a.proc (in-at g.procs a.place a.proc a.there) a.is) in
        record {
          some = a.place;
          is = u;
          led = elim (split n p.entry f.0 f.1) [
            | inl k ↦ to-leads callers rows (row cols.users c ++ openers) i p f.0 e k a.place a.proc a.there a.is (start (Contains-append_left (row cols.users c) openers a.place u))
            | inr o ↦ (
                let b = find o.last (calls-procedure n p.entry o.last (is-procedure setting table roots g acc.is p (in-at g.procs i p e)) o.reached) in
                let w = to-opens setting table roots g acc.is b.proc o.point (in-at g.procs b.place b.proc b.there) (subst (λ y. Body code y o.point) (sym b.is) o.body) o.enters in
                to-leads callers rows (row cols.users c ++ openers) i p o.last e o.reached b.place b.proc b.there b.is (start (Contains-append_right (row cols.users c) openers b.place (opens-opener b.place b.proc b.there w))))
          ];
        }

    columns-long : length columns ≡ count
    columns-long = cols.columns_are.count ∙ cols.count

    within-callers : (i : ℕ) (p : Proc) → slice_get g.procs i ≡ Some p → i < length callers
    within-callers i p e = let k = entry-within i p e in let r = rows.count in omega (arith, k, r)

    users-at : (c : ℕ) → c < count → AreUsers callers openers (row cols.users c) (get_or columns c [])
    users-at c lt = cols.columns_are.each c (let k = cols.count in omega (arith, lt, k))

    -- the cells that are listed of a procedure are exactly those that it has
    pub cells-exact : (i : ℕ) (p : Proc) → slice_get g.procs i ≡ Some p → IsExactly (Has p.entry) (marked_cells columns setting.machine.zero i)
    cells-exact i p e = record {
      sound = All-weaker (Contains cells) (Has p.entry) (λ c h. sound c h) cells (All-contains_itself cells);
      whole = λ c h. whole-cell c h;
    }
      where
        cells : List ℕ
        cells = marked_cells columns setting.machine.zero i

        chosen : ℕ → Bool
        chosen = is_chosen columns setting.machine.zero i

        sound : (c : ℕ) → Contains (marked_cells columns setting.machine.zero i) c → Has p.entry c
        sound c h =
            let f = from-filter (is_chosen columns setting.machine.zero i) (range_with_len 0 (length columns)) c h in
            let lt : c < count = (let a = from-range (length columns) c f.0 in let l = columns-long in omega (arith, a, l)) in
            let b = both (mark (get_or columns c []) i) (not (is_zero setting.machine.zero c)) f.1 in
            has-cell c i p lt (not-zero setting.machine.zero c b.1) e (((users-at c lt).exactly i (within-callers i p e)).0 b.0)

        whole-cell : (c : ℕ) → Has p.entry c → Contains (marked_cells columns setting.machine.zero i) c
        whole-cell c h =
            let t = is.there p.entry c h in
            let m = ((users-at c t.0).exactly i (within-callers i p e)).1 (uses-cell c i p e h) in
            to-filter (is_chosen columns setting.machine.zero i) (range_with_len 0 (length columns)) c (in-range (length columns) c (let l = columns-long in let lt = t.0 in omega (arith, lt, l)))
            (ap (λ b. b && not (is_zero setting.machine.zero c)) m ∙ to-not-zero setting.machine.zero c t.1)

  -- ---- both parts

  row-cells : (first k c : ℕ) → Contains (cells_in_row first k) c → c < first + k
  row-cells first zero c h = none-in c h
  row-cells first (suc k) c h = elim (split-in first c (cells_in_row (first + 1) k) h) [ inl e ↦ omega (arith, e) | inr r ↦ (let z = row-cells (first + 1) k c r in omega (arith, z)) ]

  in-row : (first k c : ℕ) → first ≤ c → c < first + k → Contains (cells_in_row first k) c
  in-row first zero c le lt = absurd (omega (arith, le, lt))
  in-row first (suc k) c le lt = by (λ m. in-row (first + 1) k c m (omega (arith, lt))) (grind (arith, le))
    where
      by : (first + 1 ≤ c → Contains (cells_in_row (first + 1) k) c) → (first ≡ c) ⊎ (first + 1 ≤ c) → Contains (cells_in_row first (suc k)) c
      by more (inl e) = subst (Contains (cells_in_row first (suc k))) e (first-in first (cells_in_row (first + 1) k))
      by more (inr m) = later-in first c (cells_in_row (first + 1) k) (more m)

  whole-named : (e : ℕ) → is_whole setting.conv e ≡ true → Contains setting.conv.wholes e
  whole-named e h = let a = from-any (λ w. w == e) setting.conv.wholes h in subst (Contains setting.conv.wholes) (eqb-true a.0 e a.2) a.1

  refs-part : IsPart Part.Names (HasRef n)
  refs-part = record {
    gives = λ p q c r reach m e h z. elim (Contains-append_cases (flat_map (place_part setting.machine setting.conv Part.Names g.nodes) r.body) (whole_part setting.machine setting.conv Part.Names r.entry) c h) [
      | inl i ↦ (let w = from-part setting table roots g acc.is Part.Names r c m i in named reach (subst (λ y. Body code y w.0) e w.1) w.2 z)
      | inr i ↦ (let w = whole-in r.entry c i in whole reach (subst (Contains setting.conv.wholes) e w.0) w.1 z)
    ];
    there = λ p c h. there p c h;
    from = λ p c h. from p c h;
  }
    where
      whole-in : (e c : ℕ) → Contains (whole_part setting.machine setting.conv Part.Names e) c → Contains setting.conv.wholes e × (c < length setting.machine.widths)
      whole-in e c h = by (is_whole setting.conv e) refl h
        where
          by : (b : Bool) → is_whole setting.conv e ≡ b → Contains (if b then cells_in_row 0 (length setting.machine.widths) else []) c → Contains setting.conv.wholes e × (c < length setting.machine.widths)
          by true w h = (whole-named e w, (let z = row-cells 0 (length setting.machine.widths) c h in omega (arith, z)))
          by false w h = none-in c h

      there : (p c : ℕ) → HasRef n p c → (c < length setting.machine.widths) × (setting.machine.zero ≢ Some c)
      there p c (named {b = b} r body m z) = (named-are-cells setting b.pc c acc.sound acc.lie m, z)
      there p c (whole r m lt z) = (lt, z)

      from : (p c : ℕ) → HasRef n p c → (q : ℕ) × Reaches n p q × ((r : Proc) → Contains g.procs r → r.entry ≡ q → Contains (proc_part setting.machine setting.conv Part.Names g.nodes r) c)
      from p c (named {q = q} {b = b} reach body m z) = (q, reach, λ r i e. Contains-append_left _ (whole_part setting.machine setting.conv Part.Names r.entry) c (to-part setting table roots g acc.is Part.Names r b c i (subst (λ y. Body code y b) (sym e) body) m))
      from p c (whole {q = q} reach m lt z) = (
        q,
        reach,
        λ r i e. Contains-append_right (flat_map (place_part setting.machine setting.conv Part.Names g.nodes) r.body) _ c
            (subst (λ b. Contains (if b then cells_in_row 0 (length setting.machine.widths) else []) c) (sym (to-any (λ w. w == r.entry) setting.conv.wholes q m (eq-eqb q r.entry (sym e)))) (in-row 0 (length setting.machine.widths) c (omega arith) (omega (arith, lt)))),
      )

  mods-part : IsPart Part.Assigns (HasMod n)
  mods-part = record {
    gives = λ p q c r reach m e h z. (let w = from-part setting table roots g acc.is Part.Assigns r c m (subst (λ l. Contains l c) (append-nil _) h) in assigned reach (subst (λ y. Body code y w.0) e w.1) w.2 z);
    there = λ p c h. there p c h;
    from = λ p c h. from p c h;
  }
    where
      there : (p c : ℕ) → HasMod n p c → (c < length setting.machine.widths) × (setting.machine.zero ≢ Some c)
      there p c (assigned {b = b} r body m z) = (named-are-cells setting b.pc c acc.sound acc.lie (assigned-is-named setting.machine setting.conv (code.block_at b.pc) c m), z)

      from : (p c : ℕ) → HasMod n p c → (q : ℕ) × Reaches n p q × ((r : Proc) → Contains g.procs r → r.entry ≡ q → Contains (proc_part setting.machine setting.conv Part.Assigns g.nodes r) c)
      from p c (assigned {q = q} {b = b} reach body m z) = (q, reach, λ r i e. Contains-append_left _ [] c (to-part setting table roots g acc.is Part.Assigns r b c i (subst (λ y. Body code y b) (sym e) body) m))

  -- ---- the summaries

  module _ (callers : List (List ℕ)) (openers : List ℕ) (reads writes : List (List Bool)) (calls : AreCalls setting.machine setting.conv g callers openers)
      (read : AreCellColumns setting.machine setting.conv g Part.Names callers openers reads) (written : AreCellColumns setting.machine setting.conv g Part.Assigns callers openers writes) where
    summary-is : (i : ℕ) (p : Proc) → slice_get g.procs i ≡ Some p → IsSummary n (summary_at reads writes setting.machine.zero i p)
    summary-is i p e = record {
      refs_rise = chosen-rise (is_chosen reads setting.machine.zero i) (length reads);
      refs = cells-exact Part.Names (HasRef n) refs-part callers openers reads calls read i p e;
      mods_rise = chosen-rise (is_chosen writes setting.machine.zero i) (length writes);
      mods = cells-exact Part.Assigns (HasMod n) mods-part callers openers writes calls written i p e;
    }

    same-entries : (k : ℕ) (ps : List Proc) → map (λ (s : Summary). s.entry) (summaries_at reads writes setting.machine.zero k ps) ≡ map entry ps
    same-entries k [] = refl
    same-entries k (p ∷ ps) = ap (λ l. p.entry ∷ l) (same-entries (k + 1) ps)

    each-is : (k : ℕ) (ps : List Proc) → ((j : ℕ) (p : Proc) → slice_get ps j ≡ Some p → IsSummary n (summary_at reads writes setting.machine.zero (k + j) p)) → (s : Summary) → Contains (summaries_at reads writes setting.machine.zero k ps) s → IsSummary n s
    each-is k [] h s c = none-in s c
    each-is k (p ∷ ps) h s c = elim (split-in (summary_at reads writes setting.machine.zero k p) s (summaries_at reads writes setting.machine.zero (k + 1) ps) c) [
      | inl e ↦ subst (IsSummary n) e (let z : k + 0 ≡ k = omega arith in subst (λ j. IsSummary n (summary_at reads writes setting.machine.zero j p)) z (h 0 p refl))
      | inr r ↦ each-is (k + 1) ps (λ j q f. let z : k + suc j ≡ (k + 1) + j = omega arith in subst (λ i. IsSummary n (summary_at reads writes setting.machine.zero i q)) z (h (suc j) q f)) s r
    ]

    pub summaries-are : (found : List Summary) → found ≡ summaries_at reads writes setting.machine.zero 0 g.procs → AreSummaries n g found
    summaries-are found e = subst (AreSummaries n g) (sym e) (record {
      entries = same-entries 0 g.procs;
      each = All-weaker (Contains all) (IsSummary n) (λ s c. each-is 0 g.procs (λ j p f. let z : j ≡ 0 + j = omega arith in subst (λ i. IsSummary n (summary_at reads writes setting.machine.zero i p)) z (summary-is j p f)) s c) all (All-contains_itself all);
    })
      where
        all : List Summary
        all = summaries_at reads writes setting.machine.zero 0 g.procs
