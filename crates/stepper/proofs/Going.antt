-- A guest that goes on, one step after another.
use Rattle.std.proofs.Common.{◌≡◌, ◌≢◌, ℕ, ◌+◌, ◌<◌, ◌≤◌, suc, List, [], ◌∷◌, ◌++◌, append_assoc, append-nil, length, take, Option, Some, None, refl, sym, ap, ◌∙◌, subst, arith, length-append}
use Rattle.std.specs.Prelude.{is_some}
use Rattle.std.proofs.lemmas.List.{take-append-le}
use Rattle.lockstep.specs.Runs.{Goes, Ends, after}
use Rattle.lockstep.proofs.Steps.{after-add}
use Rattle.rtl_core.specs.declared.stop.RunEnd.{RunEnd}
use Rattle.rtl_core.specs.declared.stop.RunEnd.TheVariants.{Stopped, Spent, WriteFault}
use Rattle.rtl_core.specs.declared.stop.Stop.{Stop}
use Rattle.points.specs.Machine.{State, MNext, step}
use Rattle.edge_io.specs.Counts.{counted}
use Rattle.edge_io.specs.Output.{Output, TookPart}
use Rattle.edge_io.specs.Told.{followed}
use Rattle.stepper.specs.Shown.{Shown, IsReady, state_of, moment}
use Rattle.stepper.specs.Ran.{ran, written, Came, Took, TookPrefix, end_after, AddsWritten, TellsStop, MadeSome}
use Rattle.stepper.proofs.Stretches.{Extends, output_in, take-front, stays, front-of}

-- ---- told bytes

pub followed-nil : (told : Option (List ℕ)) → told ≡ followed told []
followed-nil None = refl
followed-nil (Some xs) = ap Some (sym (append-nil xs))

followed-on : (told : Option (List ℕ)) (a b : List ℕ) → followed (followed told a) b ≡ followed told (a ++ b)
followed-on None a b = refl
followed-on (Some xs) a b = ap Some (append_assoc xs a b)

-- the front of one piece behind another
take-behind : (w p rest : List ℕ) (k : ℕ) → k ≤ length p → take (length w + k) ((w ++ p) ++ rest) ≡ w ++ take k p
take-behind [] p rest k le = let e : 0 + k ≡ k = omega arith in ap (λ n. take n (p ++ rest)) e ∙ take-append-le k p rest le
take-behind (x ∷ w) p rest k le =
    let e : suc (length w) + k ≡ suc (length w + k) = omega arith in
    ap (λ n. take n (x ∷ ((w ++ p) ++ rest))) e ∙ ap (λ xs. x ∷ xs) (take-behind w p rest k le)

-- a sink that failed in the second piece has failed in the whole
part-behind : (a b c : Output) (w p whole : List ℕ) → b.taken ≡ followed a.taken w → a.faults ≤ b.faults → Extends (w ++ p) whole → TookPart b c p → TookPart a c whole
part-behind a b c w p whole taken later e t =
    let le : t.count ≤ length p = omega (arith, t.proper) in
    record {
      count = length w + t.count;
      proper = omega (arith, t.proper, ap length e.is, length-append (w ++ p) e.rest, length-append w p);
      taken =
          t.taken ∙ ap (λ o. followed o (take t.count p)) taken ∙ followed-on a.taken w (take t.count p)
          ∙ ap (followed a.taken) (sym (ap (take (length w + t.count)) e.is ∙ take-behind w p e.rest t.count le));
      rose = let rose : counted b.faults 1 ≤ c.faults = t.rose in omega (arith, later, rose);
    }

-- ---- one step

output-moment : (stop : Option Stop) (s : State) → output_in (moment stop s) ≡ s.output
output-moment None s = refl
output-moment (Some stop) s = refl

module _ (old new : Shown) (stop : Option Stop) (p : List ℕ) (h : (before : List ℕ) → moment stop (state_of (before ++ p) new.state) ≡ step old.setting (state_of before old.state)) where
  -- what it wrote is what one step appends
  pub written-one : written old 1 ≡ p
  written-one = sym (ap output_in (h [])) ∙ output-moment stop (state_of ([] ++ p) new.state)

  pub adds-one : AddsWritten old 1
  adds-one before = sym (ap output_in (h before)) ∙ output-moment stop (state_of (before ++ p) new.state) ∙ ap (λ q. before ++ q) (sym written-one)

came-by : (old new : Shown) (stop : Option Stop) (p : List ℕ) → written old 1 ≡ p
    → ((before : List ℕ) → moment stop (state_of (before ++ p) new.state) ≡ step old.setting (state_of before old.state)) → Came (end_after stop) old new 1
came-by old new None p w h = λ before. sym (h before) ∙ ap (λ q. Goes (state_of (before ++ q) new.state)) (sym w)
came-by old new (Some stop) p w h = λ before. sym (h before) ∙ ap (λ q. Ends (before ++ q) stop) (sym w)

-- it went on or stopped
pub came-one : (old new : Shown) (stop : Option Stop) (p : List ℕ)
    → ((before : List ℕ) → moment stop (state_of (before ++ p) new.state) ≡ step old.setting (state_of before old.state)) → Came (end_after stop) old new 1
came-one old new stop p h = came-by old new stop p (written-one old new stop p h) h

-- all that it wrote was taken
pub took-one : (a b : Output) (stop : Option Stop) (w p : List ℕ) → w ≡ p → b.taken ≡ followed a.taken p → Took (end_after stop) a b w
took-one a b None w p e h = h ∙ ap (followed a.taken) (sym e)
took-one a b (Some stop) w p e h = h ∙ ap (followed a.taken) (sym e)

-- it can go on, unless it stopped
pub ready-again : (new : Shown) (stop : Option Stop) (end : RunEnd) → end ≡ end_after stop → end ≡ Spent → new.stopped ≡ is_some stop → new.state.streams.pending ≡ [] → IsReady new
ready-again new None end is spent stopped empty = record { going = stopped; empty = empty }
ready-again new (Some stop) end is spent stopped empty = let no : ⊥ = cc in absurd no

-- and where it stopped it says so
pub stop-told : (new : Shown) (stop : Option Stop) (end : RunEnd) → end ≡ end_after stop → new.stopped ≡ is_some stop → TellsStop end new
stop-told new None end is stopped = subst (λ e. TellsStop e new) (sym is) tt
stop-told new (Some stop) end is stopped = subst (λ e. TellsStop e new) (sym is) stopped

-- nothing was taken
pub took-none : (a : Output) (bytes : List ℕ) → TookPrefix a a bytes
took-none a bytes = record { count = 0; within = omega arith; taken = followed-nil a.taken }

-- ---- some steps

-- i steps went from one guest to another, with their output taken
pub record Gone (old now : Shown) (a b : Output) (i : ℕ) : Type 0 where
  pub came : Came Spent old now i
  pub taken : b.taken ≡ followed a.taken (written old i)
  pub later : a.faults ≤ b.faults
  pub setting : now.setting ≡ old.setting
  pub ready : IsReady now

pub gone-none : (old : Shown) (a : Output) → IsReady old → Gone old old a a 0
gone-none old a ready = record {
  came = λ before. ap (λ o. Goes (state_of o old.state)) (sym (append-nil before));
  taken = followed-nil a.taken;
  later = omega arith;
  setting = refl;
  ready = ready;
}

-- all of them
pub gone-all : (old now : Shown) (a b : Output) (i n : ℕ) → n ≤ i → i ≤ n → Gone old now a b i → Gone old now a b n
gone-all old now a b i n le ge g = let e : i ≡ n = omega arith in subst (λ k. Gone old now a b k) e g

module _ (old now : Shown) (a b : Output) (i : ℕ) (g : Gone old now a b i) where
  -- one step more, which leads somewhere from the guest now
  behind : (p : List ℕ) (x : List ℕ → MNext) → ((before : List ℕ) → ran now 1 before ≡ x (before ++ p)) → (before : List ℕ) → ran old (i + 1) before ≡ x (before ++ (written old i ++ p))
  behind p x k before =
      let w = written old i in
      let here : after (step old.setting) 1 (Goes (state_of (before ++ w) now.state)) ≡ x ((before ++ w) ++ p) = subst (λ s. after (step s) 1 (Goes (state_of (before ++ w) now.state)) ≡ x ((before ++ w) ++ p)) g.setting (k (before ++ w)) in
      after-add (step old.setting) i 1 (Goes (state_of before old.state)) ∙ ap (after (step old.setting) 1) (g.came before) ∙ here ∙ ap x (append_assoc before w p)

  -- its output
  pub written-more : AddsWritten now 1 → written old (i + 1) ≡ written old i ++ written now 1
  written-more adds =
      let w = written old i in
      let s = old.setting in
      let here : output_in (after (step s) 1 (Goes (state_of w now.state))) ≡ w ++ written now 1 = subst (λ t. output_in (after (step t) 1 (Goes (state_of w now.state))) ≡ w ++ written now 1) g.setting (adds w) in
      ap output_in (after-add (step s) i 1 (Goes (state_of [] old.state)) ∙ ap (after (step s) 1) (g.came [])) ∙ here

  gone : (new : Shown) (c : Output) → AddsWritten now 1 → Came Spent now new 1 → c.taken ≡ followed b.taken (written now 1) → b.faults ≤ c.faults → new.setting ≡ now.setting → IsReady new → Gone old new a c (i + 1)
  gone new c adds came taken later setting ready = record {
    came = λ before. behind (written now 1) (λ o. Goes (state_of o new.state)) came before ∙ ap (λ o. Goes (state_of (before ++ o) new.state)) (sym (written-more adds));
    taken = taken ∙ ap (λ t. followed t (written now 1)) g.taken ∙ followed-on a.taken (written old i) (written now 1) ∙ ap (followed a.taken) (sym (written-more adds));
    later = omega (arith, g.later, later);
    setting = setting ∙ g.setting;
    ready = ready;
  }

  -- it went on
  pub gone-on : (new : Shown) (c : Output) (end : RunEnd) → end ≡ Spent → AddsWritten now 1 → Came end now new 1 → Took end b c (written now 1) → b.faults ≤ c.faults → new.setting ≡ now.setting → (end ≡ Spent → IsReady new)
      → Gone old new a c (i + 1)
  gone-on new c end is adds came took later setting ready =
      gone new c adds (subst (λ e. Came e now new 1) is came) (subst (λ e. Took e b c (written now 1)) is took) later setting (ready is)

  module _ (n : ℕ) (below : i < n) where
    -- it stopped
    stopped-at : (stop : Stop) → ((before : List ℕ) → ran now 1 before ≡ Ends (before ++ written now 1) stop) → (before : List ℕ) → ran old n before ≡ Ends (before ++ (written old i ++ written now 1)) stop
    stopped-at stop k before =
        let le : i + 1 ≤ n = omega arith in
        stays old.setting (i + 1) n (Goes (state_of before old.state)) (before ++ (written old i ++ written now 1)) stop le (behind (written now 1) (λ o. Ends o stop) k before)

    written-stopped : (stop : Stop) → ((before : List ℕ) → ran now 1 before ≡ Ends (before ++ written now 1) stop) → written old n ≡ written old i ++ written now 1
    written-stopped stop k = ap output_in (stopped-at stop k [])

    -- the output of all steps begins with that of the steps so far and that of one more
    more : AddsWritten now 1 → Extends (written old i ++ written now 1) (written old n)
    more adds = let le : i + 1 ≤ n = omega arith in subst (λ o. Extends o (written old n)) (written-more adds) (front-of old.setting (i + 1) n (Goes (state_of [] old.state)) le)

    -- where the run ended
    pub came-end : (end : RunEnd) (new : Shown) → end ≢ Spent → Came end now new 1 → Came end old new n
    came-end (Stopped stop) new goes k = λ before. stopped-at stop k before ∙ ap (λ o. Ends (before ++ o) stop) (sym (written-stopped stop k))
    came-end Spent new goes k = absurd (goes refl)
    came-end WriteFault new goes k = tt

    -- and what was taken
    pub took-end : (end : RunEnd) (new : Shown) (c : Output) → end ≢ Spent → AddsWritten now 1 → Came end now new 1 → Took end b c (written now 1) → Took end a c (written old n)
    took-end (Stopped stop) new c goes adds k t =
        t ∙ ap (λ o. followed o (written now 1)) g.taken ∙ followed-on a.taken (written old i) (written now 1) ∙ ap (followed a.taken) (sym (written-stopped stop k))
    took-end Spent new c goes adds k t = absurd (goes refl)
    took-end WriteFault new c goes adds k t = part-behind a b c (written old i) (written now 1) (written old n) g.taken g.later (more adds) t

    -- want of memory
    pub took-front : TookPrefix a b (written old n)
    took-front =
        let le : i ≤ n = omega arith in
        let e = front-of old.setting i n (Goes (state_of [] old.state)) le in
        let w = written old i in
        record {
          count = length w;
          within = omega (arith, ap length e.is, length-append w e.rest);
          taken = g.taken ∙ ap (followed a.taken) (sym (ap (take (length w)) e.is ∙ take-front w e.rest));
        }

-- some steps went, and there was no memory for the next one
pub made-some : (old now new : Shown) (a b c : Output) (i n : ℕ) → i < n → Gone old now a b i → new ≡ now → c ≡ b → MadeSome old new n a c
made-some old now new a b c i n below g same kept = record {
  steps = i;
  within = omega (arith, below);
  came = subst (λ s. Came Spent old s i) (sym same) g.came;
  took = ap (λ o. o.taken) kept ∙ g.taken;
  ready = subst IsReady (sym same) g.ready;
}
