-- A guest that goes on, one step after another.
use Rattle.std.proofs.Common.{◌≡◌, ◌≢◌, ℕ, ◌+◌, ◌<◌, ◌≤◌, suc, List, [], ◌∷◌, ◌++◌, append_assoc, append-nil, length, take, Option, Some, None, refl, sym, ap, ◌∙◌, subst, arith, length-append}
use Rattle.std.specs.Prelude.{is_some}
use Rattle.std.proofs.lemmas.List.{take-append-le}
use Rattle.lockstep.specs.Runs.{Goes, Ends, after}
use Rattle.lockstep.proofs.Steps.{after-add}
use Rattle.rtl_core.specs.declared.stop.RunEnd.{RunEnd}
use Rattle.rtl_core.specs.declared.stop.RunEnd.TheVariants.{Stopped, Spent, WriteFault}
use Rattle.rtl_core.specs.declared.stop.Stop.{Stop}
use Rattle.points.specs.Control.{Flow}
use Rattle.points.specs.Running.{State, MNext, step}
use Rattle.edge_io.specs.Counts.{counted}
use Rattle.edge_io.specs.Output.{Output, TookPart}
use Rattle.edge_io.specs.Told.{followed}
use Rattle.runner.specs.Shown.{Shown, IsReady, state_of, moment}
use Rattle.runner.specs.Ran.{Moment, ran, written, Came, Took, end_after, AddsWritten, TellsStop}
use Rattle.runner.proofs.Stretches.{Extends, output_in, stays, front-of}

-- ---- told bytes

pub followed-nil : (told : Option (List ℕ)) → told ≡ followed told []
followed-nil None = refl
followed-nil (Some xs) = ap Some (sym (append-nil xs))

followed-on : (told : Option (List ℕ)) (a b : List ℕ) → followed (followed told a) b ≡ followed told (a ++ b)
followed-on None a b = refl
followed-on (Some xs) a b = ap Some (append_assoc xs a b)

-- the front of one piece behind another
take-behind : (w p rest : List ℕ) (k : ℕ) → k ≤ length p → take (length w + k) ((w ++ p) ++ rest) ≡ w ++ take k p
take-behind [] p rest k le = let e : 0 + k ≡ k = omega arith in ap (λ n. take n (p ++ rest)) e ∙ take-append-le k p rest le
take-behind (x ∷ w) p rest k le =
    let e : suc (length w) + k ≡ suc (length w + k) = omega arith in
    ap (λ n. take n (x ∷ ((w ++ p) ++ rest))) e ∙ ap (λ xs. x ∷ xs) (take-behind w p rest k le)

-- a sink that failed in the second piece has failed in the whole
part-behind : (a b c : Output) (w p whole : List ℕ) → b.taken ≡ followed a.taken w → a.faults ≤ b.faults → Extends (w ++ p) whole → TookPart b c p → TookPart a c whole
part-behind a b c w p whole taken later e t =
    let le : t.count ≤ length p = omega (arith, t.proper) in
    record {
      count = length w + t.count;
      proper = omega (arith, t.proper, ap length e.is, length-append (w ++ p) e.rest, length-append w p);
      taken =
          t.taken ∙ ap (λ o. followed o (take t.count p)) taken ∙ followed-on a.taken w (take t.count p)
          ∙ ap (followed a.taken) (sym (ap (take (length w + t.count)) e.is ∙ take-behind w p e.rest t.count le));
      rose = let rose : counted b.faults 1 ≤ c.faults = t.rose in omega (arith, later, rose);
    }

-- ---- one step

output-moment : (stop : Option Stop) (s : State) → output_in (moment stop s) ≡ s.output
output-moment None s = refl
output-moment (Some stop) s = refl

-- one step from a moment wrote this and led there
abbrev pub LedOn : Flow → Moment → Option Stop → List ℕ → Moment → Type 0
LedOn f old stop p new = (before : List ℕ) → moment stop (state_of (before ++ p) new.frames new.state) ≡ step f (state_of before old.frames old.state)

module _ (f : Flow) (old new : Moment) (stop : Option Stop) (p : List ℕ) (h : LedOn f old stop p new) where
  -- what it wrote is what one step appends
  pub written-one : written f old 1 ≡ p
  written-one = sym (ap output_in (h [])) ∙ output-moment stop (state_of ([] ++ p) new.frames new.state)

  pub adds-one : AddsWritten f old 1
  adds-one before = sym (ap output_in (h before)) ∙ output-moment stop (state_of (before ++ p) new.frames new.state) ∙ ap (λ q. before ++ q) (sym written-one)

came-by : (f : Flow) (old new : Moment) (stop : Option Stop) (p : List ℕ) → written f old 1 ≡ p → LedOn f old stop p new → Came f (end_after stop) old new 1
came-by f old new None p w h = λ before. sym (h before) ∙ ap (λ q. Goes (state_of (before ++ q) new.frames new.state)) (sym w)
came-by f old new (Some stop) p w h = λ before. sym (h before) ∙ ap (λ q. Ends (before ++ q) stop) (sym w)

-- it went on or stopped
pub came-one : (f : Flow) (old new : Moment) (stop : Option Stop) (p : List ℕ) → LedOn f old stop p new → Came f (end_after stop) old new 1
came-one f old new stop p h = came-by f old new stop p (written-one f old new stop p h) h

-- all that it wrote was taken
pub took-one : (a b : Output) (stop : Option Stop) (w p : List ℕ) → w ≡ p → b.taken ≡ followed a.taken p → Took (end_after stop) a b w
took-one a b None w p e h = h ∙ ap (followed a.taken) (sym e)
took-one a b (Some stop) w p e h = h ∙ ap (followed a.taken) (sym e)

-- it can go on, unless it stopped
pub ready-again : (new : Shown) (stop : Option Stop) (end : RunEnd) → end ≡ end_after stop → end ≡ Spent → new.stopped ≡ is_some stop → new.state.streams.pending ≡ [] → IsReady new
ready-again new None end is spent stopped empty = record { going = stopped; empty = empty }
ready-again new (Some stop) end is spent stopped empty = let no : ⊥ = cc in absurd no

-- a step that spent its steps did not stop
pub not-stopped : (stop : Option Stop) (end : RunEnd) → end ≡ end_after stop → end ≡ Spent → stop ≡ None
not-stopped None end is spent = refl
not-stopped (Some stop) end is spent = let no : ⊥ = cc in absurd no

-- and where it stopped it says so
pub stop-told : (new : Shown) (stop : Option Stop) (end : RunEnd) → end ≡ end_after stop → new.stopped ≡ is_some stop → TellsStop end new
stop-told new None end is stopped = subst (λ e. TellsStop e new) (sym is) tt
stop-told new (Some stop) end is stopped = subst (λ e. TellsStop e new) (sym is) stopped

-- ---- some steps

-- i steps went from one moment to another, with their output taken
pub record Gone (f : Flow) (old now : Moment) (a b : Output) (i : ℕ) : Type 0 where
  pub came : Came f Spent old now i
  pub taken : b.taken ≡ followed a.taken (written f old i)
  pub later : a.faults ≤ b.faults

pub gone-none : (f : Flow) (old : Moment) (a : Output) → Gone f old old a a 0
gone-none f old a = record {
  came = λ before. ap (λ o. Goes (state_of o old.frames old.state)) (sym (append-nil before));
  taken = followed-nil a.taken;
  later = omega arith;
}

-- all of them
pub gone-all : (f : Flow) (old now : Moment) (a b : Output) (i n : ℕ) → n ≤ i → i ≤ n → Gone f old now a b i → Gone f old now a b n
gone-all f old now a b i n le ge g = let e : i ≡ n = omega arith in subst (λ k. Gone f old now a b k) e g

module _ (f : Flow) (old now : Moment) (a b : Output) (i : ℕ) (g : Gone f old now a b i) where
  -- one step more, which leads somewhere from the moment now
  behind : (p : List ℕ) (x : List ℕ → MNext) → ((before : List ℕ) → ran f now 1 before ≡ x (before ++ p)) → (before : List ℕ) → ran f old (i + 1) before ≡ x (before ++ (written f old i ++ p))
  behind p x k before =
      let w = written f old i in
      after-add (step f) i 1 (Goes (state_of before old.frames old.state)) ∙ ap (after (step f) 1) (g.came before) ∙ k (before ++ w) ∙ ap x (append_assoc before w p)

  -- its output
  pub written-more : AddsWritten f now 1 → written f old (i + 1) ≡ written f old i ++ written f now 1
  written-more adds = ap output_in (after-add (step f) i 1 (Goes (state_of [] old.frames old.state)) ∙ ap (after (step f) 1) (g.came [])) ∙ adds (written f old i)

  gone : (new : Moment) (c : Output) → AddsWritten f now 1 → Came f Spent now new 1 → c.taken ≡ followed b.taken (written f now 1) → b.faults ≤ c.faults → Gone f old new a c (i + 1)
  gone new c adds came taken later = record {
    came = λ before. behind (written f now 1) (λ o. Goes (state_of o new.frames new.state)) came before ∙ ap (λ o. Goes (state_of (before ++ o) new.frames new.state)) (sym (written-more adds));
    taken = taken ∙ ap (λ t. followed t (written f now 1)) g.taken ∙ followed-on a.taken (written f old i) (written f now 1) ∙ ap (followed a.taken) (sym (written-more adds));
    later = omega (arith, g.later, later);
  }

  -- it went on
  pub gone-on : (new : Moment) (c : Output) (end : RunEnd) → end ≡ Spent → AddsWritten f now 1 → Came f end now new 1 → Took end b c (written f now 1) → b.faults ≤ c.faults → Gone f old new a c (i + 1)
  gone-on new c end is adds came took later = gone new c adds (subst (λ e. Came f e now new 1) is came) (subst (λ e. Took e b c (written f now 1)) is took) later

  module _ (n : ℕ) (below : i < n) where
    -- it stopped
    stopped-at : (stop : Stop) → ((before : List ℕ) → ran f now 1 before ≡ Ends (before ++ written f now 1) stop) → (before : List ℕ) → ran f old n before ≡ Ends (before ++ (written f old i ++ written f now 1)) stop
    stopped-at stop k before =
        let le : i + 1 ≤ n = omega arith in
        stays f (i + 1) n (Goes (state_of before old.frames old.state)) (before ++ (written f old i ++ written f now 1)) stop le (behind (written f now 1) (λ o. Ends o stop) k before)

    written-stopped : (stop : Stop) → ((before : List ℕ) → ran f now 1 before ≡ Ends (before ++ written f now 1) stop) → written f old n ≡ written f old i ++ written f now 1
    written-stopped stop k = ap output_in (stopped-at stop k [])

    -- the output of all steps begins with that of the steps so far and that of one more
    more : AddsWritten f now 1 → Extends (written f old i ++ written f now 1) (written f old n)
    more adds = let le : i + 1 ≤ n = omega arith in subst (λ o. Extends o (written f old n)) (written-more adds) (front-of f (i + 1) n (Goes (state_of [] old.frames old.state)) le)

    -- where the run ended
    pub came-end : (end : RunEnd) (new : Moment) → end ≢ Spent → Came f end now new 1 → Came f end old new n
    came-end (Stopped stop) new goes k = λ before. stopped-at stop k before ∙ ap (λ o. Ends (before ++ o) stop) (sym (written-stopped stop k))
    came-end Spent new goes k = absurd (goes refl)
    came-end WriteFault new goes k = tt

    -- and what was taken
    pub took-end : (end : RunEnd) (new : Moment) (c : Output) → end ≢ Spent → AddsWritten f now 1 → Came f end now new 1 → Took end b c (written f now 1) → Took end a c (written f old n)
    took-end (Stopped stop) new c goes adds k t =
        t ∙ ap (λ o. followed o (written f now 1)) g.taken ∙ followed-on a.taken (written f old i) (written f now 1) ∙ ap (followed a.taken) (sym (written-stopped stop k))
    took-end Spent new c goes adds k t = absurd (goes refl)
    took-end WriteFault new c goes adds k t = part-behind a b c (written f old i) (written f now 1) (written f old n) g.taken g.later (more adds) t
