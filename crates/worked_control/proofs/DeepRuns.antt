-- The runs that fill the call list, by induction over their rounds.
use Rattle.std.proofs.Common.{◌≡◌, ℕ, zero, suc, ◌+◌, ◌-◌, ◌*◌, ◌==◌, Bool, true, false, List, [], ◌∷◌, length, Ok, Err, refl, sym, ap, ◌∙◌, subst, arith}
use Rattle.std.specs.Prelude.{if◌then◌else◌}
use Rattle.std.proofs.lemmas.Bool.{ne_eqb, eq-eqb}
use Rattle.lockstep.specs.Runs.{Running, Stopped, Goes, Ends, after, machine_view}
use Rattle.lockstep.proofs.Steps.{after-add}
use Rattle.rtl_core.specs.declared.point.Slot.TheVariants as S
use Rattle.rtl_core.specs.declared.stop.Stop.{Stop}
use Rattle.rtl_core.specs.Arithmetic.{binary}
use Rattle.rtl_core.specs.Code.{code_from}
use Rattle.rtl_core.specs.Contents.{Contents}
use Rattle.rtl_core.specs.Matching.{type_taken}
use Rattle.points.specs.declared.block.Member.{Member}
use Rattle.points.specs.declared.block.Member.TheVariants.{Call, Tail}
use Rattle.points.specs.Courses.{point}
use Rattle.points.specs.Control.{Control}
use Rattle.points.specs.Running.{State, MNext, moved}
use Rattle.worked_control.specs.WorkedMachine.{entry, conv, flow_of, StopsBehind}
use Rattle.worked_control.specs.WorkedPrograms.{calls_itself, jumps_to_itself, CallListIsFull}
use Rattle.worked_control.proofs.Computed.{step_at}
use Rattle.worked_control.proofs.WorkedRuns.{stops-behind}

-- a procedure is entered, unless the list is full
abbrev entered_unless : Bool → Control → State → MNext
entered_unless full c s = if full then Ends s.output Stop.CallDepth else Goes (record s { control = c })

moved-unless : (full : Bool) (c : Control) (s : State) → moved (if full then Err Stop.CallDepth else Ok c) s ≡ entered_unless full c s
moved-unless true c s = refl
moved-unless false c s = refl

-- rounds of so many steps, each of which adds a member to the list, or stops where it is full
module _ (step : State → MNext) (width : ℕ) (member : Member) (at : (link aim target : ℕ) → List Member → State)
    (round : (link aim target : ℕ) (calls : List Member) → length calls ≡ 65536 → after step width (Goes (at link aim target calls)) ≡ Ends [] Stop.CallDepth)
    (on : (link aim target : ℕ) (calls : List Member) → (length calls ≡ 65536 → ⊥)
    → (l : ℕ) × (a : ℕ) × (t : ℕ) × (after step width (Goes (at link aim target calls)) ≡ Goes (at l a t (member ∷ calls)))) where
  -- after some rounds the list is full, and what comes then is seen
  fills : (P : MNext → Type 0) (n : ℕ) → ((l a t : ℕ) (calls : List Member) → length calls ≡ 65536 → P (after step n (Goes (at l a t calls))))
      → (k m : ℕ) (l a t : ℕ) (calls : List Member) → length calls + k ≡ 65536 → m ≡ k * width + n → P (after step m (Goes (at l a t calls)))
  fills P n full zero m l a t calls e em = subst (λ m. P (after step m (Goes (at l a t calls)))) (let z : n ≡ m = omega (arith, em) in z) (full l a t calls (omega (arith, e)))
  fills P n full (suc k) m l a t calls e em =
      let next = on l a t calls (λ z. omega (arith, e, z)) in
      let rest = fills P n full k (k * width + n) next.0 next.1 next.2 (member ∷ calls) (omega (arith, e)) refl in
      let same : after step m (Goes (at l a t calls)) ≡ after step (k * width + n) (Goes (at next.0 next.1 next.2 (member ∷ calls))) =
      ap (λ i. after step i (Goes (at l a t calls))) (let z : m ≡ width + (k * width + n) = omega (arith, em) in z)
      ∙ after-add step width (k * width + n) (Goes (at l a t calls)) ∙ ap (after step (k * width + n)) next.3 in
      subst P (sym same) rest

-- nothing is seen of the run but that it goes on, and that the list is full
abbrev GoesOn : MNext → Type 0
GoesOn x = machine_view (λ s. s.output) x ≡ Running []

abbrev IsFull : MNext → Type 0
IsFull x = machine_view (λ s. s.output) x ≡ Stopped [] Stop.CallDepth

module _ (memory : Contents) (input : List ℕ) where
  -- at the entry, with what the last round left
  abbrev start : (link aim target : ℕ) → List Member → State
  start link aim target calls = record {
    cells = 0 ∷ link ∷ aim ∷ 0 ∷ (conv.stack_base + conv.stack_size - conv.room) ∷ [];
    memory = memory;
    saved = [];
    control = record { point = point entry S.Seq; target = target; calls = calls };
    input = input;
    output = [];
    heap_end = conv.heap_base;
  }

  -- ---- calls

  abbrev call_step : State → MNext
  call_step = step_at calls_itself (flow_of calls_itself).is_procedure (flow_of calls_itself).table

  abbrev called : List Member → Control
  called calls = record { point = point entry S.Seq; target = 0x1000; calls = Call 0x1008 ∷ calls }

  abbrev in_call : ℕ → List Member → State
  in_call aim calls = record (start 0x1000 aim 0x1000 calls) { control = record { point = point 0x1004 (S.CallTo 0x1000 0x1008); target = 0x1000; calls = calls } }

  call_turn : (link aim target : ℕ) (calls : List Member)
      → after call_step 2 (Goes (start link aim target calls)) ≡ entered_unless (length calls == 65536) (called calls) (in_call aim calls)
  unfolding binary
  call_turn link aim target calls = moved-unless (length calls == 65536) (called calls) (in_call aim calls)

  call_stops : (link aim target : ℕ) (calls : List Member) → length calls ≡ 65536 → after call_step 2 (Goes (start link aim target calls)) ≡ Ends [] Stop.CallDepth
  call_stops link aim target calls e = call_turn link aim target calls ∙ ap (λ b. entered_unless b (called calls) (in_call aim calls)) (eq-eqb (length calls) 65536 e)

  call_on : (link aim target : ℕ) (calls : List Member) → (length calls ≡ 65536 → ⊥)
      → (l : ℕ) × (a : ℕ) × (t : ℕ) × (after call_step 2 (Goes (start link aim target calls)) ≡ Goes (start l a t (Call 0x1008 ∷ calls)))
  call_on link aim target calls few =
      (0x1000, aim, 0x1000, call_turn link aim target calls ∙ ap (λ b. entered_unless b (called calls) (in_call aim calls)) (ne_eqb (length calls) 65536 few))

  call_runs : (l a t : ℕ) (calls : List Member) → length calls ≡ 65536 → GoesOn (after call_step 1 (Goes (start l a t calls)))
  call_runs l a t calls e = refl

  calls_run : (n : ℕ) → n ≡ 65536 * 2 + 1 → GoesOn (after call_step n (Goes (start 0 0 0 [])))
  calls_run n e = fills call_step 2 (Call 0x1008) start call_stops call_on GoesOn 1 call_runs 65536 n 0 0 0 [] refl e

  calls_stop : (n : ℕ) → n ≡ 65536 * 2 + 2 → IsFull (after call_step n (Goes (start 0 0 0 [])))
  calls_stop n e =
      fills call_step 2 (Call 0x1008) start call_stops call_on IsFull 2 (λ l a t calls full. ap (machine_view (λ s. s.output)) (call_stops l a t calls full)) 65536 n 0 0 0 [] refl e

  -- ---- tail jumps

  abbrev tail_step : State → MNext
  tail_step = step_at jumps_to_itself (flow_of jumps_to_itself).is_procedure (flow_of jumps_to_itself).table

  abbrev tailed : List Member → Control
  tailed calls = record { point = point entry S.Seq; target = 0x1000; calls = Tail ∷ calls }

  abbrev in_tail : ℕ → List Member → State
  in_tail link calls = record (start link 0x1000 0x1000 calls) { control = record { point = point 0x1008 (S.Dyn 0x1004); target = 0x1000; calls = calls } }

  tail_turn : (link aim target : ℕ) (calls : List Member)
      → after tail_step 3 (Goes (start link aim target calls)) ≡ entered_unless (length calls == 65536) (tailed calls) (in_tail link calls)
  unfolding binary
  tail_turn link aim target calls = moved-unless (length calls == 65536) (tailed calls) (in_tail link calls)

  tail_stops : (link aim target : ℕ) (calls : List Member) → length calls ≡ 65536 → after tail_step 3 (Goes (start link aim target calls)) ≡ Ends [] Stop.CallDepth
  tail_stops link aim target calls e = tail_turn link aim target calls ∙ ap (λ b. entered_unless b (tailed calls) (in_tail link calls)) (eq-eqb (length calls) 65536 e)

  tail_on : (link aim target : ℕ) (calls : List Member) → (length calls ≡ 65536 → ⊥)
      → (l : ℕ) × (a : ℕ) × (t : ℕ) × (after tail_step 3 (Goes (start link aim target calls)) ≡ Goes (start l a t (Tail ∷ calls)))
  tail_on link aim target calls few =
      (link, 0x1000, 0x1000, tail_turn link aim target calls ∙ ap (λ b. entered_unless b (tailed calls) (in_tail link calls)) (ne_eqb (length calls) 65536 few))

  tail_runs : (l a t : ℕ) (calls : List Member) → length calls ≡ 65536 → GoesOn (after tail_step 2 (Goes (start l a t calls)))
  tail_runs l a t calls e = refl

  tails_run : (n : ℕ) → n ≡ 65536 * 3 + 2 → GoesOn (after tail_step n (Goes (start 0 0 0 [])))
  tails_run n e = fills tail_step 3 Tail start tail_stops tail_on GoesOn 2 tail_runs 65536 n 0 0 0 [] refl e

  tails_stop : (n : ℕ) → n ≡ 65536 * 3 + 3 → IsFull (after tail_step n (Goes (start 0 0 0 [])))
  tails_stop n e =
      fills tail_step 3 Tail start tail_stops tail_on IsFull 3 (λ l a t calls full. ap (machine_view (λ s. s.output)) (tail_stops l a t calls full)) 65536 n 0 0 0 [] refl e

calls_fill : (n : ℕ) → n ≡ 65536 * 2 + 1 → StopsBehind calls_itself n Stop.CallDepth
unfolding code_from type_taken
calls_fill n e = stops-behind calls_itself n Stop.CallDepth (refl, refl) (λ memory input. (calls_run memory input n e, calls_stop memory input (suc n) (omega (arith, e))))

tails_fill : (n : ℕ) → n ≡ 65536 * 3 + 2 → StopsBehind jumps_to_itself n Stop.CallDepth
unfolding code_from type_taken
tails_fill n e = stops-behind jumps_to_itself n Stop.CallDepth (refl, refl) (λ memory input. (tails_run memory input n e, tails_stop memory input (suc n) (omega (arith, e))))

pub call_list_is_full : CallListIsFull
call_list_is_full = record { calls = calls_fill 131073 refl; tails = tails_fill 196610 refl }
