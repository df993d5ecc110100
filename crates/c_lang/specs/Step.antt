-- One step of the C text: a statement, a condition, an end, a call or a return.
use Rattle.std.specs.Prelude.{ℕ, ◌+◌, ◌%◌, ◌^◌, ◌==◌, ◌&&◌, nat_lt, Bool, true, false, if◌then◌else◌, Option, Some, None, Result, Ok, Err, List, [], ◌∷◌, ◌++◌, length, slice_get, option_map}
use Rattle.lockstep.specs.Runs.{Goes}
use Rattle.rtl_core.specs.declared.stop.Stop.{Stop}
use Rattle.rtl_core.specs.declared.stop.Trap.{Trap}
use Rattle.rtl_core.specs.declared.stop.Reply.{Reply}
use Rattle.rtl_core.specs.declared.conv.Numbers.{Numbers}
use Rattle.rtl_core.specs.declared.point.Point.{Point}
use Rattle.rtl_core.specs.declared.point.Slot.{Slot}
use Rattle.rtl_core.specs.declared.point.Slot.TheVariants.{Seq, To, Dyn, CallTo, CallDyn, Ret}
use Rattle.rtl_core.specs.Access.{is_size, loaded, stored}
use Rattle.rtl_core.specs.Services.{Served, served, result_of, error_of}
use Rattle.rtl_core.specs.Value.{choice}
use Rattle.c_lang.specs.declared.tree.Var.{Var}
use Rattle.c_lang.specs.declared.tree.Var.TheVariants.{Ra, Cell, ServeR, ServeE}
use Rattle.c_lang.specs.declared.tree.CExpr.{CExpr}
use Rattle.c_lang.specs.declared.tree.Stmt.{Stmt, out-Stmt}
use Rattle.c_lang.specs.declared.tree.Stmt.TheOpen.{Stmt-F}
use Rattle.c_lang.specs.declared.tree.End.{End}
use Rattle.c_lang.specs.declared.tree.End.TheVariants.{Goto, Branch, Switch, Return, Finish}
use Rattle.c_lang.specs.declared.tree.Case.{Case}
use Rattle.c_lang.specs.declared.tree.CBlock.{CBlock}
use Rattle.c_lang.specs.declared.tree.Function.{Function}
use Rattle.c_lang.specs.declared.tree.Header.{Header}
use Rattle.c_lang.specs.declared.tree.Program.{Program}
use Rattle.c_lang.specs.Value.{Vars, value}
use Rattle.c_lang.specs.State.{Place, Nowhere, At, Frame, State, CNext, with_var, seen_vars, declared_in, stuck, stops, to_place, put, with_word, with_world}

-- goes on with what is there, or is stuck
abbrev pub given : {A : Type 0} → Program → State → Option A → (A → CNext) → CNext
given p s None go = stuck p s
given p s (Some x) go = go x

-- goes on with the value of an expression, or is stuck
abbrev pub with_value : Program → State → CExpr → (ℕ → CNext) → CNext
with_value p s e go = given p s (value (seen_vars s) e) go

-- goes on with the values of some expressions, or is stuck
abbrev pub with_values : Program → State → List CExpr → (List ℕ → CNext) → CNext
with_values p s [] go = go []
with_values p s (e ∷ es) go = with_value p s e (λ n. with_values p s es (λ ns. go (n ∷ ns)))

-- ---- variables, `uq_w` and stops

-- a variable set, and on at a place; stuck where the function has no such variable
abbrev pub assign : Program → State → Place → Var → ℕ → CNext
assign p s place v n = if declared_in (slice_get p.functions s.top.function) v then Goes (put (to_place s place) v n) else stuck p s

-- how many words `uq_w` has
abbrev pub most_words : ℕ
most_words = 1048576

-- a word of `uq_w` into a variable
abbrev pub take_word : Program → State → Place → Var → ℕ → CNext
take_word p s place v i = if nat_lt i most_words then assign p s place v (s.outer.words i) else stuck p s

-- a number into a word of `uq_w`
abbrev pub put_word : Program → State → Place → ℕ → ℕ → CNext
put_word p s place i n = if nat_lt i most_words then Goes (with_word (to_place s place) i n) else stuck p s

-- the stops that a program can name, in the order of their numbers, with this value
abbrev pub named_stops : ℕ → List Stop
named_stops v =
    Stop.Exit v ∷ Stop.Illegal v ∷ Stop.MemoryFault v ∷ Stop.Misaligned v ∷ Stop.Divide v ∷ Stop.Trap v ∷ Stop.WindowFull ∷ Stop.WindowEmpty
    ∷ Stop.Undiscovered v ∷ Stop.ReturnMismatch v ∷ Stop.CallDepth ∷ Stop.Couple v ∷ []

-- the run stops with a number and a value, which is taken modulo 2^32; stuck at a number over 11
abbrev pub stop_with : Program → State → ℕ → ℕ → CNext
stop_with p s k v = given p s (slice_get (named_stops (v % 2 ^ 32)) k) (stops s)

-- ---- memory and services

-- the stop of a fault of memory
abbrev pub memory_stop : Trap → Stop
memory_stop (Trap.Memory a) = Stop.MemoryFault a
memory_stop (Trap.Misaligned a) = Stop.Misaligned a
memory_stop Trap.Divide = Stop.Divide 0

-- goes on with what memory gave, or stops
abbrev pub with_access : {A : Type 0} → State → Result A Trap → (A → CNext) → CNext
with_access s (Err trap) go = stops s (memory_stop trap)
with_access s (Ok x) go = go x

-- a load of some bytes into a variable
abbrev pub load_into : Program → State → Place → Var → ℕ → ℕ → CNext
load_into p s place v n a =
    if is_size n then with_access s (loaded p.header.order p.header.align s.outer.world.memory n a) (assign p s place v) else stuck p s

-- a store of some bytes
abbrev pub store_at : Program → State → Place → ℕ → ℕ → ℕ → CNext
store_at p s place n a v =
    if is_size n then with_access s (stored p.header.order p.header.align s.outer.world.memory n a v) (λ mem. Goes (with_world (to_place s place) (record s.outer.world { memory = mem })))
    else stuck p s

-- the numbers of the header's services
abbrev pub numbers_in : Header → Numbers
numbers_in h = record {
  exit = h.exit;
  read = h.read;
  write = h.write;
  brk = h.brk;
  fault = h.fault;
  descriptor = h.descriptor;
  unknown = h.unknown;
  heap_base = h.heap_base;
  heap_size = h.heap_size;
}

-- on with a service's world, its output, its result in `uq_r` and its error flag in `uq_e`
abbrev pub answered : Program → State → Place → Served → State
answered p s place done =
    put (put (record (to_place s place) { outer = record s.outer { world = done.world; output = s.outer.output ++ done.written } })
    ServeR (result_of p.header.carry done.reply)) ServeE (error_of done.reply)

-- an exit ends the run, any other answer goes on
abbrev pub unless_exit : State → Reply → State → CNext
unless_exit s (Reply.Exit x) next = stops s (Stop.Exit x)
unless_exit s (Reply.Value k) next = Goes next
unless_exit s (Reply.Error e) next = Goes next

-- what a service did
abbrev pub with_answer : Program → State → Place → Served → CNext
with_answer p s place done = unless_exit s done.reply (answered p s place done)

-- a service; its number and arguments are taken modulo 2^32
abbrev pub serve : Program → State → Place → ℕ → ℕ → ℕ → ℕ → CNext
serve p s place number x y z = with_answer p s place (served (numbers_in p.header) (number % 2 ^ 32) (x % 2 ^ 32) (y % 2 ^ 32) (z % 2 ^ 32) s.outer.world)

-- ---- calls and returns

-- a function with its place among all
pub record Found : Type 0 where
  pub index : ℕ
  pub function : Function

-- the first function of an address
abbrev pub function_from : ℕ → List Function → ℕ → Option Found
function_from i [] entry = None
function_from i (f ∷ fs) entry = if f.entry == entry then Some (record { index = i; function = f }) else function_from (i + 1) fs entry

-- where a call begins: at the first block
abbrev pub first_place : List CBlock → Place
first_place [] = Nowhere
first_place (b ∷ bs) = At b.stmts b.end

-- no variable is set
abbrev pub no_vars : Vars
no_vars v = None

-- the cells set from the arguments; none where their numbers differ
abbrev pub cells_set : List ℕ → List ℕ → Option Vars
cells_set [] [] = Some no_vars
cells_set (c ∷ cs) (n ∷ ns) = option_map (λ vars. with_var vars (Cell c) n) (cells_set cs ns)
cells_set _ _ = None

-- the parameters set from the arguments, of which the first is `ra`
abbrev pub parameters : Function → List ℕ → Option Vars
parameters f [] = None
parameters f (ra ∷ ns) = option_map (λ vars. with_var vars Ra ra) (cells_set f.params ns)

-- a call's first frame
abbrev pub frame_of : Found → Vars → Frame
frame_of f vars = record { function = f.index; place = first_place f.function.blocks; vars = vars }

-- how many frames there can be
abbrev pub most_frames : ℕ
most_frames = 65537

-- a call with these arguments; the caller goes on behind it
abbrev pub called : Program → State → Place → ℕ → List ℕ → CNext
called p s place entry ns =
    given p s (function_from 0 p.functions entry) (λ f. given p s (parameters f.function ns) (λ vars.
    if nat_lt (length s.below + 1) most_frames
    then Goes (record { top = frame_of f vars; below = (to_place s place).top ∷ s.below; outer = s.outer })
    else stuck p s))

-- a return gives the frame below back; the first function does not return
abbrev pub returned : Program → State → List Frame → CNext
returned p s [] = stuck p s
returned p s (frame ∷ frames) = Goes (record { top = frame; below = frames; outer = s.outer })

-- ---- blocks and ends

-- whether two slots are one
abbrev pub same_slot : Slot → Slot → Bool
same_slot Seq Seq = true
same_slot (To t) (To u) = t == u
same_slot (Dyn a) (Dyn b) = a == b
same_slot (CallTo t r) (CallTo u q) = (t == u) && (r == q)
same_slot (CallDyn r) (CallDyn q) = r == q
same_slot Ret Ret = true
same_slot _ _ = false

-- whether two points are one
abbrev pub same_point : Point → Point → Bool
same_point a b = (a.pc == b.pc) && same_slot a.slot b.slot

-- the first block of a label
abbrev pub block_of : List CBlock → Point → Option CBlock
block_of [] to = None
block_of (b ∷ bs) to = if same_point b.label to then Some b else block_of bs to

-- the blocks of a function that may not be there
abbrev pub blocks_in : Option Function → List CBlock
blocks_in None = []
blocks_in (Some f) = f.blocks

-- on at a label of the same function
unfoldable pub go_to : Program → State → Point → CNext
go_to p s to = given p s (block_of (blocks_in (slice_get p.functions s.top.function)) to) (λ b. Goes (to_place s (At b.stmts b.end)))

-- the first case of a number
abbrev pub case_of : List Case → ℕ → Option Point
case_of [] n = None
case_of (c ∷ cs) n = if c.value == n then Some c.to else case_of cs n

-- on at a case, or else by the default
abbrev pub or_default : Option Point → CNext → (Point → CNext) → CNext
or_default None other go = other
or_default (Some to) other go = go to

-- what an end does
unfoldable pub ended : Program → State → End → CNext
ended p s (Goto to) = go_to p s to
ended p s (Branch e first second) = with_value p s e (λ n. go_to p s (choice n first second))
ended p s (Switch e cases k other) = with_value p s e (λ n. or_default (case_of cases n) (with_value p s other (stop_with p s k)) (go_to p s))
ended p s Return = returned p s s.below
ended p s (Finish k e) = with_value p s e (stop_with p s k)

-- ---- statements

-- what a statement does, with these statements and this end behind it
abbrev pub done_at : Program → State → Stmt-F Stmt → List Stmt → End → CNext
done_at p s (Stmt-F.Set v e) rest end = with_value p s e (assign p s (At rest end) v)
done_at p s (Stmt-F.Load v n e) rest end = with_value p s e (load_into p s (At rest end) v n)
done_at p s (Stmt-F.Store n a e) rest end = with_value p s a (λ at. with_value p s e (store_at p s (At rest end) n at))
done_at p s (Stmt-F.TakeW v e) rest end = with_value p s e (take_word p s (At rest end) v)
done_at p s (Stmt-F.PutW i e) rest end = with_value p s i (λ at. with_value p s e (put_word p s (At rest end) at))
done_at p s (Stmt-F.Serve n x y z) rest end =
    with_value p s n (λ n'. with_value p s x (λ x'. with_value p s y (λ y'. with_value p s z (serve p s (At rest end) n' x' y'))))
done_at p s (Stmt-F.Call entry es) rest end = with_values p s es (called p s (At rest end) entry)
done_at p s (Stmt-F.If e body) rest end = with_value p s e (λ n. Goes (to_place s (At (choice n (body ++ rest) rest) end)))
done_at p s (Stmt-F.Stop k e) rest end = with_value p s e (stop_with p s k)

-- the same of a whole statement
unfoldable pub done : Program → State → Stmt → List Stmt → End → CNext
done p s x rest end = done_at p s (out-Stmt x) rest end

-- one step at a place
abbrev pub step_at : Program → State → Place → CNext
step_at p s Nowhere = stuck p s
step_at p s (At [] end) = ended p s end
step_at p s (At (x ∷ rest) end) = done p s x rest end

-- one step of a run
abbrev pub step : Program → State → CNext
step p s = step_at p s s.top.place
