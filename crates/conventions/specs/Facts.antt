-- What one line says, its names resolved to numbers; nothing where a name is unknown.
use Rattle.std.specs.Prelude.{ℕ, List, Option, Some, None, option_map, option_and_then}
use Rattle.rtl_core.specs.declared.machine.NamedMachine.{NamedMachine}
use Rattle.conv_syntax.specs.declared.line.ConvBody.{ConvBody}
use Rattle.conv_syntax.specs.declared.line.ConvBody.TheVariants as body
use Rattle.conv_syntax.specs.declared.line.ConvCell.{ConvCell}
use Rattle.conv_syntax.specs.declared.line.StackLine.{StackLine}
use Rattle.conv_syntax.specs.declared.line.ServiceLine.{ServiceLine}
use Rattle.conventions.specs.declared.fact.Fact.{Fact}
use Rattle.conventions.specs.declared.fact.Fact.TheVariants as fact
use Rattle.conventions.specs.declared.fact.Area.{Area}
use Rattle.conventions.specs.declared.fact.StackArea.{StackArea}
use Rattle.conventions.specs.declared.fact.ServiceCells.{ServiceCells}
use Rattle.conventions.specs.declared.fact.ErrorNumbers.{ErrorNumbers}
use Rattle.conventions.specs.Names.{cell_of, instruction_of}

-- one thing, and then another
infixl 10 ◌>>=◌
abbrev pub ◌>>=◌ : {A B : Type 0} → Option A → (A → Option B) → Option B
found >>= next = option_and_then next found

-- the error cell, where there is one
abbrev pub error_cell : NamedMachine → Option ConvCell → Option (Option ℕ)
error_cell named None = Some None
error_cell named (Some cell) = option_map (λ c. Some c) (cell_of named cell)

abbrev pub cells : ℕ → ℕ → ℕ → ℕ → ℕ → Option ℕ → ServiceCells
cells number x y z answer error = record { number = number; arg_x = x; arg_y = y; arg_z = z; result = answer; error = error }

-- the cells of a service
abbrev pub service_cells : NamedMachine → ServiceLine → Option ServiceCells
service_cells named line = do
  number ← cell_of named line.number
  x ← cell_of named line.arg_x
  y ← cell_of named line.arg_y
  z ← cell_of named line.arg_z
  answer ← cell_of named line.result
  error ← error_cell named line.error
  Some (cells number x y z answer error)

abbrev pub stack_area : StackLine → ℕ → StackArea
stack_area line cell = record { cell = cell; base = line.base; size = line.size; room = line.room }

abbrev pub area : ℕ → ℕ → Area
area base size = record { base = base; size = size }

abbrev pub error_numbers : ℕ → ℕ → ℕ → ErrorNumbers
error_numbers fault descriptor unknown = record { fault = fault; descriptor = descriptor; unknown = unknown }

-- what a line says
abbrev pub fact_of : List (List ℕ × ℕ) → NamedMachine → ConvBody → Option Fact
fact_of table named (body.Elf n) = Some (fact.Elf n)
fact_of table named (body.Stack line) = option_map (λ cell. fact.Stack (stack_area line cell)) (cell_of named line.cell)
fact_of table named (body.Heap base size) = Some (fact.Heap (area base size))
fact_of table named (body.Service line) = option_map (λ found. fact.Service found) (service_cells named line)
fact_of table named (body.Exit n) = Some (fact.Exit n)
fact_of table named (body.Read n) = Some (fact.Read n)
fact_of table named (body.Write n) = Some (fact.Write n)
fact_of table named (body.Brk n) = Some (fact.Brk n)
fact_of table named (body.Errors fault descriptor unknown) = Some (fact.Errors (error_numbers fault descriptor unknown))
fact_of table named (body.Link cell) = option_map (λ c. fact.Link c) (cell_of named cell)
fact_of table named (body.Call name) = option_map (λ c. fact.Call c) (instruction_of table name)
fact_of table named (body.Return name) = option_map (λ c. fact.Return c) (instruction_of table name)
fact_of table named (body.Entry n) = Some (fact.Entry n)
fact_of table named (body.Whole n) = Some (fact.Whole n)
fact_of table named (body.Pad name) = option_map (λ c. fact.Pad c) (instruction_of table name)
fact_of table named (body.Args n) = Some (fact.Args n)
