-- A small described machine, a part of SPARC V8: `or` with a constant, and the trap that calls a service
-- (The SPARC Architecture Manual, Version 8, B.11 and B.27); and a program of three instructions for it.
use Rattle.std.specs.Prelude.{◌≡◌, ℕ, zero, suc, ◌+◌, ◌++◌, List, [], ◌∷◌, Some, None, true, false, length, replicate, codes}
use Rattle.rtl_core.specs.declared.conv.Conv.{Conv}
use Rattle.rtl_core.specs.declared.conv.ServiceShape.{ServiceShape}
use Rattle.rtl_core.specs.declared.encodings.Bind.{Bind}
use Rattle.rtl_core.specs.declared.encodings.Coded.{Coded}
use Rattle.rtl_core.specs.declared.encodings.Encodings.{Encodings}
use Rattle.rtl_core.specs.declared.encodings.OperandKind.{OperandKind}
use Rattle.rtl_core.specs.declared.encodings.OperandKind.TheVariants.{Field}
use Rattle.rtl_core.specs.declared.encodings.Test.{Test}
use Rattle.rtl_core.specs.declared.expr.Bin.TheVariants.{Or}
use Rattle.rtl_core.specs.declared.expr.Order.TheVariants.{Big}
use Rattle.rtl_core.specs.declared.machine.CellPart.{CellPart}
use Rattle.rtl_core.specs.declared.machine.Machine.{Machine}
use Rattle.rtl_core.specs.declared.template.TAct.TheVariants.{Assign, Service}
use Rattle.rtl_core.specs.declared.template.TExpr.TheVariants.{Bin, Sext, Operand, FileAt}
use Rattle.rtl_core.specs.declared.template.TPlace.TheVariants as TPlace
use Rattle.rtl_core.specs.declared.template.Template.TheVariants.{Acts}
use Rattle.rtl_core.specs.FirstMemory.{Part}
use Rattle.rtl_core.specs.SoundConv.{AreSoundTogether}
use Rattle.rtl_core.specs.Contents.{Contents}
use Rattle.rtl_core.specs.declared.stop.Stop.TheVariants.{Exit}
use Rattle.lockstep.specs.Runs.{Running, Stopped}
use Rattle.points.specs.Machine.{Setting, machine_run}

-- a test that bits are a number
abbrev pub is : ℕ → ℕ → ℕ → Test
is lo hi value = record { lo = lo; hi = hi; equal = true; value = value }

-- an instruction of one word
abbrev pub one_word : List ℕ → List OperandKind → List Test → List Bind → Coded
one_word name kinds tests binds =
    record { name = name; kinds = kinds; alternatives = (record { bits = 32; tests = tests; binds = binds; typed = None } ∷ []) ∷ [] }

-- the operands of `or`: a source register, a constant of 13 bits, the target register
abbrev pub or_kinds : List OperandKind
or_kinds = Field 5 ∷ Field 13 ∷ Field 5 ∷ []

-- what tells an `or`, and where its operands lie
abbrev pub or_tests : List Test
or_tests = is 30 31 2 ∷ is 19 24 2 ∷ is 13 13 1 ∷ []

abbrev pub or_binds : List Bind
or_binds = record { lo = 14; hi = 18; operand = 0 } ∷ record { lo = 0; hi = 12; operand = 1 } ∷ record { lo = 25; hi = 29; operand = 2 } ∷ []

-- what tells the trap that calls a service
abbrev pub service_tests : List Test
service_tests = is 0 31 0x91D02010 ∷ []

abbrev pub small_encodings : Encodings
small_encodings = record {
  order = Big;
  constructors =
      one_word (codes "ORI") or_kinds or_tests or_binds
      ∷ one_word (codes "TA") [] service_tests []
      ∷ [];
  types = (0 ∷ 1 ∷ []) ∷ [];
}

-- n whole cells of 32 bits from the first on
abbrev whole_cells : ℕ → ℕ → List CellPart
whole_cells first zero = []
whole_cells first (suc n) = record { cell = first; lo = 0; hi = 31 } ∷ whole_cells (first + 1) n

-- 32 registers of 32 bits, of which the first is always 0, and an error flag
abbrev pub small_machine : Machine
small_machine = record {
  order = Big;
  align = true;
  delay = Some 4;
  widths = replicate 32 32 ++ 1 ∷ [];
  zero = Some 0;
  windows = None;
  files = whole_cells 0 32 ∷ [];
  forms =
      record { kinds = or_kinds; template = Acts (record { guard = None; act = Assign (TPlace.FileAt 0 2) (Bin Or (FileAt 0 0) (Sext 32 (Operand 1))) } ∷ []) }
      ∷ record { kinds = []; template = Acts (record { guard = None; act = Service } ∷ []) }
      ∷ [];
  types = (0 ∷ 1 ∷ []) ∷ [];
  most_nodes = 5;
}

abbrev small_service : ServiceShape
small_service = record {
  number = 1;
  arg_x = 8;
  arg_y = 9;
  arg_z = 10;
  result = 8;
  error = Some 32;
  exit = 1;
  read = 3;
  write = 4;
  brk = 17;
  fault = 14;
  descriptor = 9;
  unknown = 90;
}

abbrev pub small_conv : Conv
small_conv = record {
  elf = 2;
  stack_cell = 14;
  stack_base = 0xEF000000;
  stack_size = 0x00800000;
  room = 256;
  heap_base = 0x20000000;
  heap_size = 0x01000000;
  service = Some small_service;
  link = None;
  calls = [];
  returns = [];
  entries = [];
  wholes = [];
  pads = [];
  args = None;
}

-- where its programs begin
abbrev pub small_entry : ℕ
small_entry = 0x00010000

-- a program of these bytes
abbrev pub small_setting : List ℕ → Setting
small_setting code = record {
  encodings = small_encodings;
  machine = small_machine;
  conv = small_conv;
  frozen = record { parts = record { base = small_entry; code = true; bytes = code } ∷ [] };
}

-- its part of the first memory
abbrev pub small_parts : List ℕ → List Part
small_parts code = record { base = small_entry; len = length code; writes = false; bytes = code } ∷ []

-- the number 1 into register 1, the number 3 into register 8, a service: exit with status 3
abbrev pub exit_code : List ℕ
exit_code = 0x82 ∷ 0x10 ∷ 0x20 ∷ 0x01 ∷ 0x90 ∷ 0x10 ∷ 0x20 ∷ 0x03 ∷ 0x91 ∷ 0xD0 ∷ 0x20 ∷ 0x10 ∷ []

-- by the definitions, that program has no stop and no output after two instructions, and exits with 3
-- at the third, whatever the rest of its memory and its input are
abbrev pub ExitsWithThree : Type 0
ExitsWithThree = (memory : Contents) (input : List ℕ) →
    (machine_run (small_setting exit_code) memory small_entry input 2 ≡ Running []) × (machine_run (small_setting exit_code) memory small_entry input 3 ≡ Stopped [] (Exit 3))

-- the small machine, its encodings and its conventions are sound together
abbrev pub SmallIsSound : Type 0
SmallIsSound = AreSoundTogether small_encodings small_machine small_conv
