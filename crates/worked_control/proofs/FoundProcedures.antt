-- The procedures of a worked program: points that hold the entries of procedures, and all that follows them, hold each body.
use Rattle.std.proofs.Common.{◌≡◌, ℕ, suc, inl, inr, ◌==◌, ◌&&◌, Bool, true, true≢false, IsTrue, List, [], ◌∷◌, Option, Some, None, All, refl, sym, ap, ◌∙◌, subst, arith, rules}
use Rattle.std.specs.List.{Contains, list_any, list_all}
use Rattle.std.proofs.lemmas.Bool.{and_parts, and_from, or_cases, eqb-true}
use Rattle.std.proofs.lemmas.List.Elements.{All-cons, All-nil, All-head, All-tail, All-contains}
use Rattle.rtl_core.specs.declared.point.Point.{Point}
use Rattle.rtl_core.specs.declared.point.Slot.TheVariants.{Seq, Dyn, CallTo, Ret}
use Rattle.rtl_core.specs.contracts.point.PointPartialEq.TheImpl as point_equality
use Rattle.rtl_core.specs.Code.{code_from}
use Rattle.rtl_core.specs.Matching.{type_taken}
use Rattle.points.specs.declared.block.Next.{Next}
use Rattle.points.specs.declared.block.Next.TheVariants.{Goes, Table, Calls, CallsAny, Returns, Couples}
use Rattle.points.specs.Bodies.{Code, code_of, nexts, arrivals, CallsBack, given, LeadsTo, goes, jumps, back, past, Body, first, next, Procedure, root, called, roots_of}
use Rattle.points.specs.Courses.{point, after, arrival_next}
use Rattle.worked_control.specs.WorkedMachine.{Program, entry, machine, setting_of, flow_of}
use Rattle.worked_control.specs.WorkedPrograms.{tail_jump}
use Rattle.worked_control.specs.WorkedProcedures.{TailsAreProcedures}
use Rattle.worked_control.proofs.Computed.{Placed, block-is, block_seen, op_at, second_at, second-is}
use Rattle.worked_control.proofs.Placed.{placed}
use Rattle.worked_control.proofs.WorkedRuns.{Stands}

abbrev same : Point → Point → Bool
same = point_equality.eq-value.it

same-is : (a b : Point) → same a b ≡ true → a ≡ b
same-is a b h = search rules

-- what holds of all of a list holds of one that is found in it
among : {X : Type 0} (P : X → Type 0) (eq : X → X → Bool) → ((a b : X) → eq a b ≡ true → a ≡ b) → (x : X) (xs : List X) → All P xs → list_any (λ y. eq y x) xs ≡ true → P x
among P eq is x [] all h = absurd (true≢false (sym h))
among P eq is x (y ∷ ys) all h =
    elim (or_cases (eq y x) (list_any (λ y. eq y x) ys) h) [
      | inl e ↦ subst P (is y x e) (All-head P y ys all)
      | inr r ↦ among P eq is x ys (All-tail P y ys all) r
    ]

passed : {X : Type 0} (f : X → Bool) (xs : List X) → list_all f xs ≡ true → All (λ x. f x ≡ true) xs
passed f [] h = All-nil (λ x. f x ≡ true)
passed f (x ∷ xs) h = let parts = and_parts (f x) (list_all f xs) h in All-cons (λ x. f x ≡ true) x xs parts.0 (passed f xs parts.1)

module _ (p : Program) (points : List Point) (placed : Placed p entry p.ops) where
  abbrev code : Code
  code = code_of (setting_of p) (λ a. p.targets)

  abbrev is_procedure : ℕ → Bool
  is_procedure = (flow_of p).is_procedure

  abbrev holds : Point → Bool
  holds q = list_any (λ o. same o q) points

  abbrev holds_second : Option ℕ → Bool
  holds_second None = true
  holds_second (Some r) = holds (point r Seq)

  abbrev second_seen : ℕ → Option ℕ
  second_seen r = second_at p is_procedure (flow_of p).table r

  abbrev holds_back : ℕ → Bool
  holds_back r = holds (point r Seq) && holds_second (second_seen r)

  abbrev is_held : Next → Bool
  is_held (Goes q) = holds q
  is_held (Table a) = list_all (λ t. holds (point t Seq)) p.targets
  is_held (Calls t r) = is_procedure t && (holds (point t Seq) && holds_back r)
  is_held (CallsAny r) = holds_back r
  is_held Returns = true
  is_held Couples = true

  -- all that control can do at a point, by the instruction that the program's list has there
  abbrev arrivals_seen : Point → List Next
  arrivals_seen q = arrival_next q.slot ∷ after (machine p.delay) q (block_seen p is_procedure (flow_of p).table (op_at p is_procedure (flow_of p).table q.pc) q.pc)

  nexts-is : (q : Point) → nexts code q ≡ after (machine p.delay) q (block_seen p is_procedure (flow_of p).table (op_at p is_procedure (flow_of p).table q.pc) q.pc)
  nexts-is q = ap (after (machine p.delay) q) (block-is p is_procedure (flow_of p).table placed q.pc)

  arrivals-is : (q : Point) → arrivals code q ≡ arrivals_seen q
  arrivals-is q = ap (λ ns. arrival_next q.slot ∷ ns) (nexts-is q)

  module _ (closed : list_all (λ q. list_all is_held (arrivals_seen q)) points ≡ true) (roots : List ℕ) (rooted : list_all (λ t. is_procedure t && holds (point t Seq)) roots ≡ true) where
    held : (q : Point) → holds q ≡ true → (n : Next) → Contains (arrivals code q) n → is_held n ≡ true
    held q h n c =
        let all = among (λ q. list_all is_held (arrivals_seen q) ≡ true) same same-is q points (passed (λ q. list_all is_held (arrivals_seen q)) points closed) h in
        let P : List Next → Type 0 = λ ns. Contains ns n in
        All-contains (λ n. is_held n ≡ true) (arrivals_seen q) n (passed is_held (arrivals_seen q) all) (subst P (arrivals-is q) c)

    later : (q : Point) (n : Next) → Contains (nexts code q) n → Contains (arrivals code q) n
    later q n c = (suc c.0, omega (arith, c.1), c.2)

    back-held : (q : Point) (r : ℕ) → holds q ≡ true → CallsBack (nexts code q) r → holds_back r ≡ true
    back-held q r h (given {t = t} c) =
        let parts = and_parts (is_procedure t) (holds (point t Seq) && holds_back r) (held q h (Calls t r) (later q (Calls t r) c)) in
        (and_parts (holds (point t Seq)) (holds_back r) parts.1).1
    back-held q r h (CallsBack.any c) = held q h (CallsAny r) (later q (CallsAny r) c)

    leads : (q o : Point) → holds q ≡ true → LeadsTo code q o → holds o ≡ true
    leads q o h (goes c) = held q h (Goes o) (later q (Goes o) c)
    leads q o h (jumps {a = a} {t = t} c listed) =
        All-contains (λ t. holds (point t Seq) ≡ true) p.targets t (passed (λ t. holds (point t Seq)) p.targets (held q h (Table a) (later q (Table a) c))) listed
    leads q o h (back {r = r} c) = (and_parts (holds (point r Seq)) (holds_second (second_seen r)) (back-held q r h c)).0
    leads q o h (past {r = r} {s = s} c e) =
        let parts = and_parts (holds (point r Seq)) (holds_second (second_seen r)) (back-held q r h c) in
        let found : second_seen r ≡ Some s = sym (second-is p is_procedure (flow_of p).table placed r) ∙ e in
        let P : Option ℕ → Type 0 = λ x. holds_second x ≡ true in
        subst P found parts.1

    body : (t : ℕ) (q : Point) → holds (point t Seq) ≡ true → Body code t q → holds q ≡ true
    body t q h first = h
    body t q h (next {p = o} b l) = leads o q (body t o h b) l

    procedure : (t : ℕ) → Procedure code roots t → (is_procedure t && holds (point t Seq)) ≡ true
    procedure t (root c) = All-contains (λ t. (is_procedure t && holds (point t Seq)) ≡ true) roots t (passed (λ t. is_procedure t && holds (point t Seq)) roots rooted) c
    procedure t (called {p = s} {q = q} pr b e) =
        let start = (and_parts (is_procedure s) (holds (point s Seq)) (procedure s pr)).1 in
        let parts = and_parts (is_procedure t) (holds (point t Seq) && holds_back e.back) (held q (body s q start b) (Calls t e.back) e.calls) in
        and_from (is_procedure t) (holds (point t Seq)) parts.0 (and_parts (holds (point t Seq)) (holds_back e.back) parts.1).0

-- ---- the program with a tail jump

abbrev tails : Program
tails = tail_jump (0x1000 ∷ 0x1010 ∷ 0x1020 ∷ [])

abbrev tail_roots : List ℕ
tail_roots = roots_of (setting_of tails) entry (0x1020 ∷ [])

-- its points
abbrev tail_points : List Point
tail_points =
    point 0x1000 Seq ∷ point 0x1004 (CallTo 0x1010 0x1008) ∷ point 0x1008 Seq ∷ point 0x100C Seq ∷ point 0x1010 Seq
    ∷ point 0x1014 Seq ∷ point 0x1018 (Dyn 0x1014) ∷ point 0x1020 Seq ∷ point 0x1024 Seq ∷ point 0x1028 Ret ∷ []

tails-stand : Stands tails
unfolding code_from type_taken
tails-stand = (refl, refl)

abbrev tails-placed : Placed tails entry tails.ops
tails-placed = placed tails entry tails.ops tails-stand.0 tails-stand.1

abbrev tail_code : Code
tail_code = code_of (setting_of tails) (λ a. tails.targets)

found-tails : (t : ℕ) → Procedure tail_code tail_roots t → IsTrue ((flow_of tails).is_procedure t)
unfolding code_from
found-tails t pr =
    (and_parts ((flow_of tails).is_procedure t) (holds tails tail_points tails-placed (point t Seq)) (procedure tails tail_points tails-placed refl tail_roots refl t pr)).0

to_slot : Contains (nexts tail_code (point 0x1000 Seq)) (Goes (point 0x1004 (CallTo 0x1010 0x1008)))
to_slot =
    let P : List Next → Type 0 = λ ns. Contains ns (Goes (point 0x1004 (CallTo 0x1010 0x1008))) in
    subst P (sym (nexts-is tails tail_points tails-placed (point 0x1000 Seq))) (0, omega arith, refl)

each-tail : All (Procedure tail_code tail_roots) (0x1000 ∷ 0x1010 ∷ 0x1020 ∷ [])
unfolding code_from
each-tail =
    All-cons (Procedure tail_code tail_roots) 0x1000 (0x1010 ∷ 0x1020 ∷ []) (root (0, omega arith, refl))
    (All-cons (Procedure tail_code tail_roots) 0x1010 (0x1020 ∷ []) (called (root {p = 0x1000} (0, omega arith, refl)) (next first (goes to_slot)) (record { back = 0x1008; calls = (0, omega arith, refl) }))
    (All-cons (Procedure tail_code tail_roots) 0x1020 [] (root (1, omega arith, refl)) (All-nil (Procedure tail_code tail_roots))))

pub tails_are_procedures : TailsAreProcedures
tails_are_procedures = record {
  each = λ t. (
    (λ h. among (Procedure tail_code tail_roots) (λ a b. a == b) eqb-true t (0x1000 ∷ 0x1010 ∷ 0x1020 ∷ []) each-tail h),
    (λ pr. found-tails t pr),
  );
}
