-- The search over places finds exactly the points of the bodies of the procedures.
use Rattle.std.proofs.Common.{◌∷◌, flat_map, ◌≡◌, ℕ, List, [], refl, sym, subst, inl, inr}
use Rattle.std.specs.Prelude.{◌⊎◌, map, Option, Some, None}
use Rattle.std.specs.List.{All, Contains}
use Rattle.std.proofs.lemmas.List.Elements.{All-weaker, Contains-append_left, Contains-append_right, Contains-append_cases}
use Rattle.rtl_core.specs.declared.point.Point.{Point}
use Rattle.rtl_core.specs.declared.point.Slot.{Slot}
use Rattle.rtl_core.specs.declared.point.Slot.TheVariants.{Seq, To, Dyn, CallTo, CallDyn, Ret}
use Rattle.points.specs.declared.block.Next.{Next}
use Rattle.points.specs.declared.block.Next.TheVariants.{Goes, Table, Calls, CallsAny, Returns, Couples}
use Rattle.points.specs.Courses.{point, arrival_next}
use Rattle.points.specs.Exactly.{IsExactly}
use Rattle.points.specs.Bodies.{Code, nexts, arrivals, Enters, CallsBack, given, any, LeadsTo, goes, jumps, back, past, Body, first, next, Procedure, root, called}
use Rattle.worklist.specs.Closures.{InClosure, start as started, step, AreMore}
use Rattle.worklist.proofs.Members.{no_member, head_member, tail_member, member_cases, only_member, from_joined, into_joined, from_mapped, into_mapped}
use Rattle.discover.specs.declared.place.Place.{Place}
use Rattle.discover.specs.Places.{place, place_at, start, second_places, back_places, places_of, waiting_places, behind, InBody, same_place}

module _ (code : Code) (roots : List ℕ) where
  -- ---- what is behind a place of a body is in a body

  module _ (p : Place) (h : InBody code roots p) where
    abbrev Behind : Place → Type 0
    Behind q = InBody code roots q

    led_to : (q : Point) → LeadsTo code p.point q → Behind (place p.entry q)
    led_to q l = record { procedure = h.procedure; body = next h.body l }

    entered : (t : ℕ) → Enters code p.point t → Behind (start t)
    entered t e = record { procedure = called h.procedure h.body e; body = first }

    arrives : (n : Next) → Contains (nexts code p.point) n → Contains (arrivals code p.point) n
    arrives n c = tail_member (arrival_next p.point.slot) n (nexts code p.point) c

    waiting_behind : (s : Slot) → p.point.slot ≡ s → (q : Place) → Contains (waiting_places s) q → Behind q
    waiting_behind Seq e q m = absurd (no_member q m)
    waiting_behind (To t) e q m = absurd (no_member q m)
    waiting_behind (Dyn a) e q m = absurd (no_member q m)
    waiting_behind (CallTo t r) e q m =
        let here = subst (λ s. Contains (arrival_next s ∷ nexts code p.point) (Calls t r)) (sym e) (head_member (Calls t r) (nexts code p.point)) in
        subst Behind (only_member (start t) q m) (entered t (record { back = r; calls = here }))
    waiting_behind (CallDyn r) e q m = absurd (no_member q m)
    waiting_behind Ret e q m = absurd (no_member q m)

    second_behind : (r : ℕ) (o : Option ℕ) → code.second r ≡ o → CallsBack (nexts code p.point) r → (q : Place) → Contains (second_places p.entry o) q → Behind q
    second_behind r None e c q m = absurd (no_member q m)
    second_behind r (Some s) e c q m = subst Behind (only_member (place_at p.entry s) q m) (led_to (point s Seq) (past c e))

    back_behind : (r : ℕ) → CallsBack (nexts code p.point) r → (q : Place) → Contains (back_places code p.entry r) q → Behind q
    back_behind r c q m = by (member_cases (place_at p.entry r) q (second_places p.entry (code.second r)) m)
      where
        by : (place_at p.entry r ≡ q) ⊎ Contains (second_places p.entry (code.second r)) q → Behind q
        by (inl f) = subst Behind f (led_to (point r Seq) (back c))
        by (inr n) = second_behind r (code.second r) refl c q n

    one_behind : (n : Next) → Contains (nexts code p.point) n → (q : Place) → Contains (places_of code p.entry n) q → Behind q
    one_behind (Goes x) c q m = subst Behind (only_member (place p.entry x) q m) (led_to x (goes c))
    one_behind (Table a) c q m =
        let r = from_mapped (place_at p.entry) (code.table a) q m in
        subst Behind r.2 (led_to (point r.0 Seq) (jumps c r.1))
    one_behind (Calls t r) c q m = by (member_cases (start t) q (back_places code p.entry r) m)
      where
        by : (start t ≡ q) ⊎ Contains (back_places code p.entry r) q → Behind q
        by (inl f) = subst Behind f (entered t (record { back = r; calls = arrives (Calls t r) c }))
        by (inr n) = back_behind r (given c) q n
    one_behind (CallsAny r) c q m = back_behind r (any c) q m
    one_behind Returns c q m = absurd (no_member q m)
    one_behind Couples c q m = absurd (no_member q m)

    all_behind : (q : Place) → Contains (behind code p) q → Behind q
    all_behind q m = by (Contains-append_cases (waiting_places p.point.slot) (flat_map (places_of code p.entry) (nexts code p.point)) q m)
      where
        by : Contains (waiting_places p.point.slot) q ⊎ Contains (flat_map (places_of code p.entry) (nexts code p.point)) q → Behind q
        by (inl w) = waiting_behind p.point.slot refl q w
        by (inr n) = let r = from_joined (places_of code p.entry) (nexts code p.point) q n in one_behind r.0 r.1 q r.2

  -- ---- what a step leads to or enters is behind

  module _ (p : Place) where
    among : (n : Next) → Contains (nexts code p.point) n → (q : Place) → Contains (places_of code p.entry n) q → Contains (behind code p) q
    among n c q m = Contains-append_right (waiting_places p.point.slot) (flat_map (places_of code p.entry) (nexts code p.point)) q (into_joined (places_of code p.entry) (nexts code p.point) n q c m)

    with_back : (r : ℕ) → CallsBack (nexts code p.point) r → (q : Place) → Contains (back_places code p.entry r) q → Contains (behind code p) q
    with_back r (given {t} c) q m = among (Calls t r) c q (tail_member (start t) q (back_places code p.entry r) m)
    with_back r (any c) q m = among (CallsAny r) c q m

    second_there : (s : ℕ) (o : Option ℕ) → o ≡ Some s → Contains (second_places p.entry o) (place_at p.entry s)
    second_there s o e = subst (λ x. Contains (second_places p.entry x) (place_at p.entry s)) (sym e) (head_member (place_at p.entry s) [])

    leads_there : (q : Point) → LeadsTo code p.point q → Contains (behind code p) (place p.entry q)
    leads_there q (goes c) = among (Goes q) c (place p.entry q) (head_member (place p.entry q) [])
    leads_there q (jumps {a = a} {t = t} c m) = among (Table a) c (place_at p.entry t) (into_mapped (place_at p.entry) (code.table a) t m)
    leads_there q (back {r = r} c) = with_back r c (place_at p.entry r) (head_member (place_at p.entry r) (second_places p.entry (code.second r)))
    leads_there q (past {r = r} {s = s} c e) = with_back r c (place_at p.entry s) (tail_member (place_at p.entry r) (place_at p.entry s) (second_places p.entry (code.second r)) (second_there s (code.second r) e))

    waits : (s : Slot) (t r : ℕ) → arrival_next s ≡ Calls t r → Contains (waiting_places s) (start t)
    waits Seq t r e = absurd (cc)
    waits (To u) t r e = absurd (cc)
    waits (Dyn a) t r e = absurd (cc)
    waits (CallTo u b) t r e = let f : u ≡ t = cc in subst (λ x. Contains (start u ∷ []) (start x)) f (head_member (start u) [])
    waits (CallDyn b) t r e = absurd (cc)
    waits Ret t r e = absurd (cc)

    enters_there : (t : ℕ) → Enters code p.point t → Contains (behind code p) (start t)
    enters_there t e = by (member_cases (arrival_next p.point.slot) (Calls t e.back) (nexts code p.point) e.calls)
      where
        by : (arrival_next p.point.slot ≡ Calls t e.back) ⊎ Contains (nexts code p.point) (Calls t e.back) → Contains (behind code p) (start t)
        by (inl f) = Contains-append_left (waiting_places p.point.slot) (flat_map (places_of code p.entry) (nexts code p.point)) (start t) (waits p.point.slot t e.back f)
        by (inr c) = among (Calls t e.back) c (start t) (head_member (start t) (back_places code p.entry e.back))

  -- ---- the closure

  abbrev Found : Place → Type 0
  Found p = InClosure (behind code) (map start roots) p

  sound : (p : Place) → Found p → InBody code roots p
  sound p (started c) = let r = from_mapped start roots p c in subst (InBody code roots) r.2 (record { procedure = root r.1; body = first })
  sound q (step {x = p} f c) = all_behind p (sound p f) q c

  found_body : (entry : ℕ) (q : Point) → Found (start entry) → Body code entry q → Found (place entry q)
  found_body entry q f first = f
  found_body entry q f (next {p = z} b l) = step (found_body entry z f b) (leads_there (place entry z) q l)

  found_procedure : (entry : ℕ) → Procedure code roots entry → Found (start entry)
  found_procedure entry (root c) = started (into_mapped start roots entry c)
  found_procedure t (called {p = p} {q = q} h b e) = step (found_body p q (found_procedure p h) b) (enters_there (place p q) t e)

  whole : (p : Place) → InBody code roots p → Found p
  whole p h = found_body p.entry p.point (found_procedure p.entry h.procedure) h.body

  -- what was found from the starts is all that is in bodies
  pub exactly_found : (starts keys : List Place) → starts ≡ map start roots → All (InClosure (behind code) starts) keys → ((p : Place) → InClosure (behind code) starts p → Contains keys p) → IsExactly (InBody code roots) keys
  exactly_found starts keys e only all = record {
    sound = All-weaker Found (InBody code roots) sound keys (subst (λ l. All (InClosure (behind code) l) keys) e only);
    whole = λ p b. all p (subst (λ l. InClosure (behind code) l p) (sym e) (whole p b));
  }

  module _ (starts : List Place) (limit : ℕ) (e : starts ≡ map start roots) where
    pub too_large : AreMore same_place limit (InClosure (behind code) starts) → AreMore same_place limit (InBody code roots)
    too_large h = record { some = h.some; distinct = h.distinct; all = All-weaker Found (InBody code roots) sound h.some (subst (λ l. All (InClosure (behind code) l) h.some) e h.all); more = h.more }

    pub found_too_many : AreMore same_place limit (InBody code roots) → AreMore same_place limit (InClosure (behind code) starts)
    found_too_many h = record { some = h.some; distinct = h.distinct; all = subst (λ l. All (InClosure (behind code) l) h.some) (sym e) (All-weaker (InBody code roots) Found whole h.some h.all); more = h.more }
