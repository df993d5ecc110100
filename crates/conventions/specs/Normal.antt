-- The conventions that lines give, or their first fault.
use Rattle.std.specs.Prelude.{ℕ, Bool, is_some, List, [], ◌∷◌, Option, Some, None, unwrap_or, Result, if◌then◌else◌}
use Rattle.std.specs.List.{list_any}
use Rattle.std.specs.Option.{option_or}
use Rattle.rtl_core.specs.declared.encodings.Encodings.{Encodings}
use Rattle.rtl_core.specs.declared.machine.Machine.{Machine}
use Rattle.rtl_core.specs.declared.machine.NamedMachine.{NamedMachine}
use Rattle.rtl_core.specs.declared.conv.Conv.{Conv}
use Rattle.rtl_core.specs.declared.conv.ServiceShape.{ServiceShape}
use Rattle.rtl_core.specs.SoundConv.{calls_service}
use Rattle.conv_syntax.specs.declared.line.ConvLine.{ConvLine}
use Rattle.conventions.specs.declared.fact.Area.{Area}
use Rattle.conventions.specs.declared.fact.StackArea.{StackArea}
use Rattle.conventions.specs.declared.fact.ServiceCells.{ServiceCells}
use Rattle.conventions.specs.declared.fact.ErrorNumbers.{ErrorNumbers}
use Rattle.conventions.specs.declared.said.Said.{Said}
use Rattle.conventions.specs.declared.fault.ConvFault.{ConvFault}
use Rattle.conventions.specs.declared.fault.ConvFault.TheVariants.{Missing}
use Rattle.conventions.specs.Names.{instructions}
use Rattle.conventions.specs.Facts.{◌>>=◌}
use Rattle.conventions.specs.Said.{said_by, facts_of}
use Rattle.conventions.specs.Faults.{first_fault, unless}

-- some instruction calls the service
abbrev pub serves : Machine → Bool
serves m = list_any (λ form. calls_service form.template) m.forms

-- a kind of line by its number, and whether it is there
abbrev pub service_kinds : Said → List (ℕ × Bool)
service_kinds said =
    (4, is_some said.service) ∷ (5, is_some said.exit) ∷ (6, is_some said.read) ∷ (7, is_some said.write) ∷ (8, is_some said.brk) ∷ (9, is_some said.errors) ∷ []

-- the kinds without which there are no conventions
abbrev pub wanted_kinds : Bool → Said → List (ℕ × Bool)
wanted_kinds serves said =
    (1, is_some said.elf) ∷ (2, is_some said.stack) ∷ (3, is_some said.heap) ∷ (if serves then service_kinds said else [])

-- the first kind that is not there
abbrev pub first_missing : List (ℕ × Bool) → Option ConvFault
first_missing [] = None
first_missing (kind ∷ kinds) = if kind.1 then first_missing kinds else Some (Missing kind.0)

abbrev pub missing_fault : Bool → Said → Option ConvFault
missing_fault serves said = first_missing (wanted_kinds serves said)

-- the service, where all six of its lines are there
abbrev pub shape : ServiceCells → ℕ → ℕ → ℕ → ℕ → ErrorNumbers → ServiceShape
shape cells exit read write brk errors = record {
  number = cells.number;
  arg_x = cells.arg_x;
  arg_y = cells.arg_y;
  arg_z = cells.arg_z;
  result = cells.result;
  error = cells.error;
  exit = exit;
  read = read;
  write = write;
  brk = brk;
  fault = errors.fault;
  descriptor = errors.descriptor;
  unknown = errors.unknown;
}

abbrev pub service_said : Said → Option ServiceShape
service_said said = do
  cells ← said.service
  exit ← said.exit
  read ← said.read
  write ← said.write
  brk ← said.brk
  errors ← said.errors
  Some (shape cells exit read write brk errors)

-- the conventions of a stack, a heap and what else is said
abbrev pub conv_with : Said → ℕ → StackArea → Area → Conv
conv_with said elf stack heap = record {
  elf = elf;
  stack_cell = stack.cell;
  stack_base = stack.base;
  stack_size = stack.size;
  room = stack.room;
  heap_base = heap.base;
  heap_size = heap.size;
  service = service_said said;
  link = said.link;
  calls = said.calls;
  returns = said.returns;
  entries = said.entries;
  wholes = said.wholes;
  pads = said.pads;
  args = said.args;
}

-- what stands for a stack and a heap that are not there
abbrev pub no_stack : StackArea
no_stack = record { cell = 0; base = 0; size = 0; room = 0 }

abbrev pub no_heap : Area
no_heap = record { base = 0; size = 0 }

-- the conventions that are said where no kind is missing
abbrev pub conv_of : Said → Conv
conv_of said = conv_with said (unwrap_or said.elf 0) (unwrap_or said.stack no_stack) (unwrap_or said.heap no_heap)

-- the normal form of the lines of a convention file, or the first fault: that of the first line with one, and where
-- no line has one, that of the first kind that is missing
abbrev pub normal : Encodings → NamedMachine → List ConvLine → Result Conv ConvFault
normal enc named lines =
    let table = instructions enc in
    let said = said_by (facts_of table named lines) in
    unless (option_or (first_fault table named [] lines) (missing_fault (serves named.machine) said)) (conv_of said)
