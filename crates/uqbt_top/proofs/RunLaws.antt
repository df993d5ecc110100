-- What a run of the machine shows, and how the answers of `run` follow from it.
use Rattle.std.proofs.Common.{◌≡◌, ◌⊎◌, inl, inr, ℕ, ◌+◌, ◌-◌, Bool, true, false, true≢false, List, [], ◌++◌, length, map, Some, refl, sym, ap, ◌∙◌, subst, arith}
use Rattle.std.proofs.Math.Path.{fun_ext}
use Rattle.std.proofs.lemmas.Bool.{le-ltb, leb-true}
use Rattle.std.specs.Prelude.{nat_le, nat_lt, ◌&&◌, if◌then◌else◌, slice_index, Result, Ok, Err, IfOk, IfErr, OnErr}
use Rattle.lockstep.specs.Runs.{Goes, Ends, View, after, machine_view, HasOutput}
use Rattle.lockstep.specs.Meets.{next_out}
use Rattle.edge_io.specs.Input.{Input}
use Rattle.edge_io.specs.Output.{Output}
use Rattle.rtl_core.specs.Contents.{Contents}
use Rattle.rtl_core.specs.FirstMemory.{areas, parts_memory, with_block}
use Rattle.rtl_core.specs.declared.conv.Conv.{Conv}
use Rattle.rtl_core.specs.declared.encodings.Encodings.{Encodings}
use Rattle.rtl_core.specs.declared.stop.Stop.{Stop}
use Rattle.rtl_core.specs.declared.stop.RunEnd.{RunEnd}
use Rattle.rtl_core.specs.declared.stop.RunEnd.TheVariants as end
use Rattle.points.specs.Machine.{Setting, State, MNext, step, first_state, machine_run}
use Rattle.elf32.specs.declared.elf.Elf.{Elf}
use Rattle.space.specs.Ranges.{memory_of}
use Rattle.program_graph.specs.Described.{most_points}
use Rattle.load_image.specs.Made.{image_of}
use Rattle.load_image.specs.Mapped.{AreBuildable, segment_part}
use Rattle.load_image.specs.declared.image.Image.{Image}
use Rattle.stepper.specs.LineEnds.{ends_within}
use Rattle.descriptions.specs.declared.described.Described.{Described}
use Rattle.stepper.specs.Shown.{Shown, state_of}
use Rattle.stepper.specs.Ran.{ran, written, Came, Took, TookPrefix}
use Rattle.uqbt_top.specs.declared.outcome.ExeFault.TheVariants.{Elf as InElf, AreaOverlap, TooLarge}
use Rattle.uqbt_top.specs.declared.outcome.Outcome.{Outcome}
use Rattle.uqbt_top.specs.declared.outcome.Outcome.TheVariants.{Done, Ran, Agreed, Differs, Spent, Usage, Description, Executable, InputTooLong, FileTooLong, NoMemory, WriteFault, ReadFault}
use Rattle.uqbt_top.specs.Built.{Descriptions, AreOf, AreRefused, IsFileFault, IsImageOf, IsRefusedExe, LineIsOver, setting_with, parts_of}
use Rattle.uqbt_top.specs.WholeInput.{IsInput, NoInput}
use Rattle.uqbt_top.specs.Running.{BrokeOff, HasMemory, IsUntouched, LineRan, LoadedRan, MachineRan, RunDid, StoppedSo, TookSome, WentOn, WithImage, image_memory, no_block, outcome_of_run, seen}
use Rattle.stepper.proofs.Going.{took-none}
use Rattle.uqbt_top.proofs.BuiltLaws.{file-fault, setting_by}

-- ---- the machine

abbrev output : State → List ℕ
output s = s.output

-- what is seen of a guest is what is seen of the machine that it was built for
pub guest_seen : (g : Shown) (setting : Setting) (memory : Contents) (entry : ℕ) (input : List ℕ) (n : ℕ) → g.setting ≡ setting
    → state_of [] g.state ≡ first_state setting memory entry input → machine_view output (ran g n []) ≡ machine_run setting memory entry input n
guest_seen g setting memory entry input n same first =
    ap (λ s. machine_view output (after (step s) n (Goes (state_of [] g.state)))) same
    ∙ ap (λ a. machine_view output (after (step setting) n (Goes a))) first

has_output : (x : MNext) → HasOutput (machine_view output x) (next_out output x)
has_output (Goes s) = refl
has_output (Ends out stop) = refl

shown-by : (old : Shown) (n : ℕ) (view : View Stop) → machine_view output (ran old n []) ≡ view → HasOutput view (written old n)
shown-by old n view v = subst (λ w. HasOutput w (written old n)) v (has_output (ran old n []))

-- how a run ended
pub ran_so : (e : RunEnd) (old new : Shown) (n : ℕ) (view : View Stop) (out out' : Output) → machine_view output (ran old n []) ≡ view → Came e old new n
    → Took e out out' (written old n) → MachineRan view out out' e
ran_so (end.Stopped stop) old new n view out out' v came took = record { written = written old n; is = sym v ∙ ap (machine_view output) (came []); took = took }
ran_so end.Spent old new n view out out' v came took = record { written = written old n; is = sym v ∙ ap (machine_view output) (came []); took = took }
ran_so end.WriteFault old new n view out out' v came took = record { written = written old n; shown = shown-by old n view v; took = took }

-- a run for which there is no memory
pub nothing_taken : (setting : Setting) (memory : Contents) (entry : ℕ) (input : List ℕ) (n : ℕ) (out : Output) → TookSome (machine_run setting memory entry input n) out out
nothing_taken setting memory entry input n out =
    let last = after (step setting) n (Goes (first_state setting memory entry input)) in
    record { written = next_out output last; shown = has_output last; took = took-none out (next_out output last) }

-- what was taken of a run that had no memory
pub took_some : (old : Shown) (n : ℕ) (view : View Stop) (out out' : Output) → machine_view output (ran old n []) ≡ view → TookPrefix out out' (written old n)
    → TookSome view out out'
took_some old n view out out' v took = record { written = written old n; shown = shown-by old n view v; took = took }

-- ---- an image

-- where no bytes stand in the stack the first memory is that of the parts alone
pub no_block_put : (conv : Conv) (m : Contents) → with_block (no_block conv) m ≡ m
unfolding with_block
no_block_put conv m = fun_ext (λ a. by a (nat_le conv.stack_base a) refl)
  where
    by : (a : ℕ) (b : Bool) → nat_le conv.stack_base a ≡ b
        → (if b && nat_lt a (conv.stack_base + length {A = ℕ} []) then Some (record { byte = slice_index [] (a - conv.stack_base); writes = true }) else m a) ≡ m a
    by a false e = refl
    by a true e =
        let none : length {A = ℕ} [] ≡ 0 = refl in
        rw (le-ltb a (conv.stack_base + length {A = ℕ} []) (omega (arith, none, leb-true conv.stack_base a e))) refl

-- the ranges of an image make its first memory
pub image_has_memory : (d : Described) (i : Image) (elf : Elf) → i ≡ image_of elf d.conv → AreBuildable i.ranges
    → memory_of i.ranges ≡ parts_memory (map segment_part elf.segments ++ areas d.conv) → HasMemory d i
image_has_memory d i elf is buildable m = record {
  buildable = buildable;
  memory = m ∙ ap (λ ss. parts_memory (map segment_part ss ++ areas d.conv)) (sym (ap (λ x. x.segments) is)) ∙ sym (no_block_put d.conv (parts_memory (parts_of i ++ areas d.conv)));
}

-- a line that ends is not over
not-over : (d : Described) (i : Image) → ends_within (setting_with d i) most_points i.entry ≡ true → LineIsOver d i → ⊥
not-over d i short over = true≢false (sym short ∙ over)

-- the input isn't had
pub no_input_ran : (d : Described) (i : Image) (n : ℕ) (input input' : Input) (out : Output) (o : Outcome) → ends_within (setting_with d i) most_points i.entry ≡ true → NoInput input input' o
    → LoadedRan d i n input input' out out o
no_input_ran d i n input input' out InputTooLong short none = record { within = not-over d i short; did = none }
no_input_ran d i n input input' out ReadFault short none = record { within = not-over d i short; did = none }
no_input_ran d i n input input' out NoMemory short none = inr (record { within = not-over d i short; did = inl (none, refl) })
no_input_ran d i n input input' out o short none = absurd none

-- the machine of an image, by what was built of it
pub same_view : (d : Described) (i : Image) (n : ℕ) (e : Encodings) (memory : Contents) (bytes : List ℕ) → e ≡ d.encodings → memory ≡ image_memory d i
    → machine_run (setting_by e d i) memory i.entry bytes n ≡ seen d i n bytes
same_view d i n e memory bytes same m =
    ap (λ x. machine_run (setting_by x d i) memory i.entry bytes n) same ∙ ap (λ x. machine_run (setting_with d i) x i.entry bytes n) m

-- it was run on the whole input
pub guest_ran : (d : Described) (i : Image) (n : ℕ) (input input' : Input) (bytes : List ℕ) (out out' : Output) (r : Result RunEnd Outcome) (view : View Stop) → view ≡ seen d i n bytes
    → IsInput input input' bytes → ends_within (setting_with d i) most_points i.entry ≡ true
    → IfOk r (MachineRan view out out') → IfErr r (λ o. o ≡ NoMemory) → OnErr r (TookSome view out out') → LoadedRan d i n input input' out out' (outcome_of_run r)
guest_ran d i n input input' bytes out out' (Ok (end.Stopped stop)) view v whole short ran refused front =
    record { within = not-over d i short; did = record { bytes = bytes; whole = whole; so = subst (λ w. StoppedSo stop w out out') v ran } }
guest_ran d i n input input' bytes out out' (Ok end.Spent) view v whole short ran refused front =
    record { within = not-over d i short; did = record { bytes = bytes; whole = whole; so = subst (λ w. WentOn w out out') v ran } }
guest_ran d i n input input' bytes out out' (Ok end.WriteFault) view v whole short ran refused front =
    record { within = not-over d i short; did = record { bytes = bytes; whole = whole; so = subst (λ w. BrokeOff w out out') v ran } }
guest_ran d i n input input' bytes out out' (Err o) view v whole short ran refused front =
    subst (LoadedRan d i n input input' out out') (sym refused)
    (inr (record { within = not-over d i short; did = inr (record { bytes = bytes; whole = whole; so = subst (λ w. TookSome w out out') v front }) }))

-- ---- files

-- descriptions that are refused
pub run_refused : (t : Descriptions) (exe : List ℕ) (n : ℕ) (input : Input) (out : Output) (o : Outcome) → AreRefused t o → RunDid t exe n input input out out o
run_refused t exe n input out (Description file fault) r = (r, refl)
run_refused t exe n input out NoMemory r = inl (refl, refl)
run_refused t exe n input out o r = absurd r

-- an executable that is refused
pub exe_refused : (t : Descriptions) (exe : List ℕ) (d : Described) (n : ℕ) (input : Input) (out : Output) (o : Outcome) → AreOf t d → IsRefusedExe (IsFileFault d exe) o
    → RunDid t exe n input input out out o
exe_refused t exe d n input out (Executable fault) of r = (record { described = d; of = of; first = file-fault LineIsOver d exe fault r }, refl)
exe_refused t exe d n input out NoMemory of r = inl (refl, refl)
exe_refused t exe d n input out o of r = absurd r

module _ (t : Descriptions) (exe : List ℕ) (d : Described) (i : Image) (n : ℕ) (input input' : Input) (out out' : Output) (of : AreOf t d) (loaded : IsImageOf d exe i) where
  with_image : (o : Outcome) → LineRan d i n input input' out out' o → WithImage t exe n input input' out out' o
  with_image o line = record { described = d; image = i; runnable = record { of = of; loaded = loaded; within = line.within }; did = line.did }

  by_memory : IsUntouched input input' out out' ⊎ LineRan d i n input input' out out' NoMemory → RunDid t exe n input input' out out' NoMemory
  by_memory (inl still) = inl still
  by_memory (inr line) = inr (with_image NoMemory line)

  -- what was done with an image was done with its file
  pub loaded_ran : (o : Outcome) → LoadedRan d i n input input' out out' o → RunDid t exe n input input' out out' o
  loaded_ran (Executable (TooLarge points)) did =
      (record { described = d; of = of; first = record { number = did.0; image = i; loaded = loaded; so = did.1 } }, did.2)
  loaded_ran (Executable (InElf fault)) did = absurd did.did
  loaded_ran (Executable (AreaOverlap index)) did = absurd did.did
  loaded_ran NoMemory did = by_memory did
  loaded_ran (Ran stop) did = with_image (Ran stop) did
  loaded_ran Spent did = with_image Spent did
  loaded_ran WriteFault did = with_image WriteFault did
  loaded_ran InputTooLong did = with_image InputTooLong did
  loaded_ran ReadFault did = with_image ReadFault did
  loaded_ran Done did = absurd did.did
  loaded_ran (Agreed stop) did = absurd did.did
  loaded_ran (Differs at) did = absurd did.did
  loaded_ran Usage did = absurd did.did
  loaded_ran (Description file fault) did = absurd did.did
  loaded_ran (FileTooLong file) did = absurd did.did
