-- The services of the operating system: exit, read, write and brk.
use Rattle.std.specs.Prelude.{ℕ, ◌+◌, ◌-◌, ◌%◌, ◌^◌, ◌==◌, ◌&&◌, ◌||◌, min, nat_le, Bool, true, false, if◌then◌else◌, List, [], length, take, drop, slice_index, is_some, Option, Some, None}
use Rattle.rtl_core.specs.declared.stop.Reply.{Reply}
use Rattle.rtl_core.specs.declared.stop.Reply.TheVariants.{Exit, Value, Error}
use Rattle.rtl_core.specs.declared.conv.Conv.{Conv}
use Rattle.rtl_core.specs.declared.conv.Numbers.{Numbers}
use Rattle.rtl_core.specs.declared.conv.ServiceShape.{ServiceShape}
use Rattle.rtl_core.specs.Contents.{Contents, is_mapped, is_writable, first_fault, bytes_from, put_all}
use Rattle.rtl_core.specs.Transfers.{put_cell}

-- what a service sees and changes beside its cells: memory, the rest of the input and the break
pub record World : Type 0 where
  pub memory : Contents
  pub input : List ℕ
  pub heap_end : ℕ

-- what a service comes to: its answer, the bytes that it writes, and the world after it
pub record Served : Type 0 where
  pub reply : Reply
  pub written : List ℕ
  pub world : World

-- an answer that changes nothing
abbrev pub only : Reply → World → Served
only reply world = record { reply = reply; written = []; world = world }

-- the most bytes that one write takes
abbrev pub most_written : ℕ
most_written = 65536

-- whether the k bytes from y on all pass; of no bytes none is looked at
abbrev pub all_pass : Option ℕ → Bool
all_pass None = true
all_pass (Some a) = false

-- read of descriptor x into z bytes from y on
abbrev pub reading : Numbers → ℕ → ℕ → ℕ → World → Served
reading n x y z world =
    let k = min z (length world.input) in
    if x == 0 then
    (if all_pass (first_fault is_writable world.memory y k)
    then record { reply = Value k; written = []; world = record world { memory = put_all world.memory y (take k world.input); input = drop k world.input } }
    else only (Error n.fault) world)
    else only (Error n.descriptor) world

-- write of the z bytes from y on to descriptor x
abbrev pub writing : Numbers → ℕ → ℕ → ℕ → World → Served
writing n x y z world =
    let k = min z most_written in
    if (x == 1) || (x == 2) then
    (if all_pass (first_fault is_mapped world.memory y k)
    then record { reply = Value k; written = bytes_from world.memory y k; world = world }
    else only (Error n.fault) world)
    else only (Error n.descriptor) world

-- brk: the break is x where x lies in the heap or at its end, else it stays
abbrev pub breaking : Numbers → ℕ → World → Served
breaking n x world =
    let heap_end = if nat_le n.heap_base x && nat_le x (n.heap_base + n.heap_size) then x else world.heap_end in
    record { reply = Value heap_end; written = []; world = record world { heap_end = heap_end } }

-- the service of this number with these arguments: the first whose number it is
unfoldable pub served : Numbers → ℕ → ℕ → ℕ → ℕ → World → Served
served n number x y z world =
    if number == n.exit then only (Exit x) world
    else (if number == n.read then reading n x y z world
    else (if number == n.write then writing n x y z world
    else (if number == n.brk then breaking n x world
    else only (Error n.unknown) world)))

-- an error's number as a result: itself beside an error cell, its negative without one
abbrev pub error_value : Bool → ℕ → ℕ
error_value carry e = if carry then e else (2 ^ 32 - e) % 2 ^ 32

-- the result and the error flag of an answer
abbrev pub result_of : Bool → Reply → ℕ
result_of carry (Exit x) = 0
result_of carry (Value k) = k
result_of carry (Error e) = error_value carry e

abbrev pub error_of : Reply → ℕ
error_of (Error e) = 1
error_of _ = 0

-- the numbers of a convention's services
abbrev pub numbers_of : Conv → ServiceShape → Numbers
numbers_of conv s = record {
  exit = s.exit;
  read = s.read;
  write = s.write;
  brk = s.brk;
  fault = s.fault;
  descriptor = s.descriptor;
  unknown = s.unknown;
  heap_base = conv.heap_base;
  heap_size = conv.heap_size;
}

-- an error flag put into its cell, where there is one
abbrev pub flagged : Option ℕ → Option ℕ → ℕ → List ℕ → List ℕ
flagged zero_cell None e cells = cells
flagged zero_cell (Some c) e cells = put_cell zero_cell c e cells

-- an answer put into the cells: the result, then the error flag; an exit puts nothing
abbrev pub answered : Option ℕ → ServiceShape → Reply → List ℕ → List ℕ
answered zero_cell s (Exit x) cells = cells
answered zero_cell s reply cells = flagged zero_cell s.error (error_of reply) (put_cell zero_cell s.result (result_of (is_some s.error) reply) cells)

-- the service that the cells ask for
abbrev pub asked : Conv → ServiceShape → List ℕ → World → Served
asked conv s cells world =
    served (numbers_of conv s) (slice_index cells s.number) (slice_index cells s.arg_x) (slice_index cells s.arg_y) (slice_index cells s.arg_z) world
