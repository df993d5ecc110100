-- What several lines say together.
use Rattle.std.specs.Prelude.{ℕ, List, [], ◌∷◌, ◌++◌, Option, Some, None}
use Rattle.std.specs.List.{filter_map}
use Rattle.std.specs.Option.{option_or}
use Rattle.rtl_core.specs.declared.machine.NamedMachine.{NamedMachine}
use Rattle.conv_syntax.specs.declared.line.ConvLine.{ConvLine}
use Rattle.conventions.specs.declared.fact.Fact.{Fact}
use Rattle.conventions.specs.declared.fact.Fact.TheVariants.{Elf, Stack, Heap, Service, Exit, Read, Write, Brk, Errors, Link, Call, Return, Entry, Whole, Pad, Args}
use Rattle.conventions.specs.declared.fact.Area.{Area}
use Rattle.conventions.specs.declared.fact.StackArea.{StackArea}
use Rattle.conventions.specs.declared.fact.ServiceCells.{ServiceCells}
use Rattle.conventions.specs.declared.fact.ErrorNumbers.{ErrorNumbers}
use Rattle.conventions.specs.declared.said.Said.{Said}
use Rattle.conventions.specs.Facts.{fact_of}

-- ---- what a fact is of one kind

abbrev pub as_elf : Fact → Option ℕ
as_elf (Elf n) = Some n
as_elf _ = None

abbrev pub as_stack : Fact → Option StackArea
as_stack (Stack area) = Some area
as_stack _ = None

abbrev pub as_heap : Fact → Option Area
as_heap (Heap area) = Some area
as_heap _ = None

abbrev pub as_service : Fact → Option ServiceCells
as_service (Service cells) = Some cells
as_service _ = None

abbrev pub as_exit : Fact → Option ℕ
as_exit (Exit n) = Some n
as_exit _ = None

abbrev pub as_read : Fact → Option ℕ
as_read (Read n) = Some n
as_read _ = None

abbrev pub as_write : Fact → Option ℕ
as_write (Write n) = Some n
as_write _ = None

abbrev pub as_brk : Fact → Option ℕ
as_brk (Brk n) = Some n
as_brk _ = None

abbrev pub as_errors : Fact → Option ErrorNumbers
as_errors (Errors numbers) = Some numbers
as_errors _ = None

abbrev pub as_link : Fact → Option ℕ
as_link (Link cell) = Some cell
as_link _ = None

abbrev pub as_call : Fact → Option ℕ
as_call (Call c) = Some c
as_call _ = None

abbrev pub as_return : Fact → Option ℕ
as_return (Return c) = Some c
as_return _ = None

abbrev pub as_entry : Fact → Option ℕ
as_entry (Entry a) = Some a
as_entry _ = None

abbrev pub as_whole : Fact → Option ℕ
as_whole (Whole a) = Some a
as_whole _ = None

abbrev pub as_pad : Fact → Option ℕ
as_pad (Pad c) = Some c
as_pad _ = None

abbrev pub as_args : Fact → Option ℕ
as_args (Args n) = Some n
as_args _ = None

-- ---- all facts

-- what the line of a kind says, where there is one; the last where there are more
unfoldable pub line_of : {A : Type 0} → (Fact → Option A) → List Fact → Option A
line_of as_kind [] = None
line_of as_kind (f ∷ fs) = option_or (line_of as_kind fs) (as_kind f)

-- what facts say together: the line of each kind that stands once, and all lines of each other kind, in order
abbrev pub said_by : List Fact → Said
said_by facts = record {
  elf = line_of as_elf facts;
  stack = line_of as_stack facts;
  heap = line_of as_heap facts;
  service = line_of as_service facts;
  exit = line_of as_exit facts;
  read = line_of as_read facts;
  write = line_of as_write facts;
  brk = line_of as_brk facts;
  errors = line_of as_errors facts;
  link = line_of as_link facts;
  calls = filter_map as_call facts;
  returns = filter_map as_return facts;
  entries = filter_map as_entry facts;
  wholes = filter_map as_whole facts;
  pads = filter_map as_pad facts;
  args = line_of as_args facts;
}

-- the facts of lines whose names are known
abbrev pub facts_of : List (List ℕ × ℕ) → NamedMachine → List ConvLine → List Fact
facts_of table named lines = filter_map (λ line. fact_of table named line.body) lines

-- ---- one fact more

-- one value more, where there is one
abbrev pub pushed : {A : Type 0} → Option A → List A → List A
pushed None xs = xs
pushed (Some x) xs = xs ++ x ∷ []

-- what is said with one fact more
abbrev pub with_fact : Said → Fact → Said
with_fact said f = record {
  elf = option_or (as_elf f) said.elf;
  stack = option_or (as_stack f) said.stack;
  heap = option_or (as_heap f) said.heap;
  service = option_or (as_service f) said.service;
  exit = option_or (as_exit f) said.exit;
  read = option_or (as_read f) said.read;
  write = option_or (as_write f) said.write;
  brk = option_or (as_brk f) said.brk;
  errors = option_or (as_errors f) said.errors;
  link = option_or (as_link f) said.link;
  calls = pushed (as_call f) said.calls;
  returns = pushed (as_return f) said.returns;
  entries = pushed (as_entry f) said.entries;
  wholes = pushed (as_whole f) said.wholes;
  pads = pushed (as_pad f) said.pads;
  args = option_or (as_args f) said.args;
}
