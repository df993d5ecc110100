-- What `run` does with its files' bytes and the input, by the answer.
use Rattle.std.specs.Prelude.{◌≡◌, ◌⊎◌, ℕ, List, Result, Ok, Err, []}
use Rattle.lockstep.specs.Runs.{View, Running, Stopped, HasOutput}
use Rattle.edge_io.specs.Told.{followed}
use Rattle.edge_io.specs.Input.{Input}
use Rattle.edge_io.specs.Output.{Output, TookPart}
use Rattle.rtl_core.specs.Contents.{Contents}
use Rattle.rtl_core.specs.FirstMemory.{Block, first_memory}
use Rattle.rtl_core.specs.declared.conv.Conv.{Conv}
use Rattle.rtl_core.specs.declared.stop.Stop.{Stop}
use Rattle.rtl_core.specs.declared.stop.RunEnd.{RunEnd}
use Rattle.rtl_core.specs.declared.stop.RunEnd.TheVariants as end
use Rattle.points.specs.Machine.{machine_run}
use Rattle.space.specs.Ranges.{memory_of}
use Rattle.load_image.specs.Mapped.{AreBuildable}
use Rattle.load_image.specs.declared.image.Image.{Image}
use Rattle.descriptions.specs.declared.described.Described.{Described}
use Rattle.stepper.specs.Ran.{TookPrefix}
use Rattle.uqbt_top.specs.declared.outcome.ExeFault.TheVariants.{TooLarge}
use Rattle.uqbt_top.specs.declared.outcome.Outcome.{Outcome}
use Rattle.uqbt_top.specs.declared.outcome.Outcome.TheVariants.{Description, Executable, NoMemory, Ran, Spent, InputTooLong, WriteFault, ReadFault}
use Rattle.uqbt_top.specs.Built.{Descriptions, IsFirstFault, IsRunnable, IsUnusable, LineIsOver, setting_with, parts_of, with_exe}
use Rattle.uqbt_top.specs.WholeInput.{CameMore, CameSome, InputFailed, OnInput}

-- ---- the machine

-- no bytes in the stack
abbrev pub no_block : Conv → Block
no_block conv = record { place = conv.stack_base; bytes = [] }

-- the memory before the first instruction: the segments, the heap and the stack, as for a translation
abbrev pub image_memory : Described → Image → Contents
image_memory d i = first_memory (parts_of i) d.conv (no_block d.conv)

-- it can be built of the ranges of the image
pub record HasMemory (d : Described) (i : Image) : Type 0 where
  pub buildable : AreBuildable i.ranges
  pub memory : memory_of i.ranges ≡ image_memory d i

-- what is seen of the machine after n instructions on an input
abbrev pub seen : Described → Image → ℕ → List ℕ → View Stop
seen d i n input = machine_run (setting_with d i) (image_memory d i) i.entry input n

-- ---- the run

-- the run came to this stop, and the sink took all that it wrote
pub record StoppedSo (stop : Stop) (view : View Stop) (out out' : Output) : Type 0 where
  pub written : List ℕ
  pub is : view ≡ Stopped written stop
  pub took : out'.taken ≡ followed out.taken written

-- the run came to no stop, and the sink took all that it wrote
pub record WentOn (view : View Stop) (out out' : Output) : Type 0 where
  pub written : List ℕ
  pub is : view ≡ Running written
  pub took : out'.taken ≡ followed out.taken written

-- the sink failed after it took a proper front of what the run writes
pub record BrokeOff (view : View Stop) (out out' : Output) : Type 0 where
  pub written : List ℕ
  pub shown : HasOutput view written
  pub took : TookPart out out' written

-- the sink took a front of what the run writes
pub record TookSome (view : View Stop) (out out' : Output) : Type 0 where
  pub written : List ℕ
  pub shown : HasOutput view written
  pub took : TookPrefix out out' written

-- how a run ended, by what is seen of it, and what the sink took
abbrev pub MachineRan : View Stop → Output → Output → RunEnd → Type 0
MachineRan view out out' (end.Stopped stop) = StoppedSo stop view out out'
MachineRan view out out' end.Spent = WentOn view out out'
MachineRan view out out' end.WriteFault = BrokeOff view out out'

-- what was done with an image, by the answer
abbrev pub ImageRan : Described → Image → ℕ → Input → Input → Output → Output → Outcome → Type 0
ImageRan d i n input input' out out' (Ran stop) = OnInput input input' (λ bytes. StoppedSo stop (seen d i n bytes) out out')
ImageRan d i n input input' out out' Spent = OnInput input input' (λ bytes. WentOn (seen d i n bytes) out out')
ImageRan d i n input input' out out' WriteFault = OnInput input input' (λ bytes. BrokeOff (seen d i n bytes) out out')
ImageRan d i n input input' out out' InputTooLong = CameMore input input'
ImageRan d i n input input' out out' ReadFault = InputFailed input input'
ImageRan d i n input input' out out' NoMemory = (CameSome input input' × (out' ≡ out)) ⊎ OnInput input input' (λ bytes. TookSome (seen d i n bytes) out out')
ImageRan d i n input input' out out' _ = ⊥

-- the line of the image has its end, and this was done with it
pub record LineRan (d : Described) (i : Image) (n : ℕ) (input input' : Input) (out out' : Output) (outcome : Outcome) : Type 0 where
  pub within : LineIsOver d i → ⊥
  pub did : ImageRan d i n input input' out out' outcome

-- nothing was taken or put
abbrev pub IsUntouched : Input → Input → Output → Output → Type 0
IsUntouched input input' out out' = (input' ≡ input) × (out' ≡ out)

-- the same by the answer, or why it was not
abbrev pub LoadedRan : Described → Image → ℕ → Input → Input → Output → Output → Outcome → Type 0
LoadedRan d i n input input' out out' (Executable (TooLarge points)) = (points ≡ 131073) × LineIsOver d i × (input' ≡ input)
LoadedRan d i n input input' out out' NoMemory = IsUntouched input input' out out' ⊎ LineRan d i n input input' out out' NoMemory
LoadedRan d i n input input' out out' outcome = LineRan d i n input input' out out' outcome

-- ---- by the files

-- the executable has no fault, and this was done with its image
pub record WithImage (t : Descriptions) (exe : List ℕ) (n : ℕ) (input input' : Input) (out out' : Output) (outcome : Outcome) : Type 0 where
  pub described : Described
  pub image : Image
  pub runnable : IsRunnable LineIsOver t exe described image
  pub did : ImageRan described image n input input' out out' outcome

-- what `run` did with the files' bytes, by the answer
abbrev pub RunDid : Descriptions → List ℕ → ℕ → Input → Input → Output → Output → Outcome → Type 0
RunDid t exe n input input' out out' (Description file fault) = IsFirstFault t file fault × (input' ≡ input)
RunDid t exe n input input' out out' (Executable fault) = IsUnusable LineIsOver t exe fault × (input' ≡ input)
RunDid t exe n input input' out out' NoMemory = IsUntouched input input' out out' ⊎ WithImage t exe n input input' out out' NoMemory
RunDid t exe n input input' out out' outcome = WithImage t exe n input input' out out' outcome

-- the bytes of the files of `run`, and what was done with them
pub record RunRead (bytes : List (List ℕ)) (steps : ℕ) (input input' : Input) (out out' : Output) (outcome : Outcome) : Type 0 where
  pub texts : Descriptions
  pub exe : List ℕ
  pub whole : bytes ≡ with_exe texts exe
  pub did : RunDid texts exe steps input input' out out' outcome

-- how a run ended, as an answer of the program
abbrev pub outcome_of_end : RunEnd → Outcome
outcome_of_end (end.Stopped stop) = Ran stop
outcome_of_end end.Spent = Spent
outcome_of_end end.WriteFault = WriteFault

-- what a private call of the run answers, as an answer of the program
abbrev pub outcome_of_run : Result RunEnd Outcome → Outcome
outcome_of_run (Ok e) = outcome_of_end e
outcome_of_run (Err o) = o

-- ---- what stays

-- a fact of `run` for the answers before the output
abbrev pub RunKeepsOut : Outcome → Type 0 → Type 0
RunKeepsOut (Ran stop) kept = Unit {0}
RunKeepsOut Spent kept = Unit {0}
RunKeepsOut WriteFault kept = Unit {0}
RunKeepsOut NoMemory kept = Unit {0}
RunKeepsOut _ kept = kept

-- a fact of `run` for the answers before the input
abbrev pub RunKeepsInput : Outcome → Type 0 → Type 0
RunKeepsInput (Ran stop) kept = Unit {0}
RunKeepsInput Spent kept = Unit {0}
RunKeepsInput WriteFault kept = Unit {0}
RunKeepsInput NoMemory kept = Unit {0}
RunKeepsInput InputTooLong kept = Unit {0}
RunKeepsInput ReadFault kept = Unit {0}
RunKeepsInput _ kept = kept
