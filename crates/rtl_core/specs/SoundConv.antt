-- When conventions are sound, alone and for a machine.
use Rattle.std.specs.Prelude.{◌≡◌, ◌≢◌, ℕ, ◌+◌, ◌-◌, ◌%◌, ◌^◌, ◌<◌, ◌≤◌, ◌⊎◌, Bool, true, false, length, slice_index, is_some, Option, Some, None, All, IsTrue}
use Rattle.std.specs.List.{list_any}
use Rattle.rtl_core.specs.declared.conv.Conv.{Conv}
use Rattle.rtl_core.specs.declared.conv.ServiceShape.{ServiceShape}
use Rattle.rtl_core.specs.declared.encodings.Encodings.{Encodings}
use Rattle.rtl_core.specs.declared.machine.Machine.{Machine}
use Rattle.rtl_core.specs.declared.template.Template.{Template}
use Rattle.rtl_core.specs.declared.template.Template.TheVariants.{Acts}
use Rattle.rtl_core.specs.Grounding.{is_of_type}
use Rattle.rtl_core.specs.SoundMachine.{AreSound}
use Rattle.rtl_core.specs.SoundTemplates.{is_tservice}

-- ---- alone

-- an area of whole pages, not empty and not over a limit, that ends at 2^32 at most
pub record IsArea (limit first bytes : ℕ) : Type 0 where
  pub base : first % 4096 ≡ 0
  pub size : bytes % 4096 ≡ 0
  pub some : 0 < bytes
  pub few : bytes ≤ limit
  pub end : first + bytes ≤ 2 ^ 32

abbrev pub IsWord : ℕ → Type 0
IsWord n = n < 2 ^ 32

-- the numbers of services and errors have 32 bits
pub record AreServiceNumbers (s : ServiceShape) : Type 0 where
  pub exit : IsWord s.exit
  pub read : IsWord s.read
  pub write : IsWord s.write
  pub brk : IsWord s.brk
  pub fault : IsWord s.fault
  pub descriptor : IsWord s.descriptor
  pub unknown : IsWord s.unknown

-- the block of the arguments stands at a word above the first value of the stack cell, in its room
pub record IsArgsOffset (room offset : ℕ) : Type 0 where
  pub within : offset ≤ room
  pub aligned : offset % 4 ≡ 0

-- sound conventions: heap and stack lie apart, and the first value of the stack cell is in the stack and has 32 bits
pub record IsSoundConv (conv : Conv) : Type 0 where
  pub elf : conv.elf < 2 ^ 16
  pub stack : IsArea 8388608 conv.stack_base conv.stack_size
  pub heap : IsArea 16777216 conv.heap_base conv.heap_size
  pub apart : (conv.stack_base + conv.stack_size ≤ conv.heap_base) ⊎ (conv.heap_base + conv.heap_size ≤ conv.stack_base)
  pub room : conv.room ≤ conv.stack_size
  pub aligned : conv.room % 8 ≡ 0
  pub first : IsWord (conv.stack_base + conv.stack_size - conv.room)
  pub numbers : (s : ServiceShape) → conv.service ≡ Some s → AreServiceNumbers s
  pub entries : All IsWord conv.entries
  pub wholes : All IsWord conv.wholes
  pub args : (offset : ℕ) → conv.args ≡ Some offset → IsArgsOffset conv.room offset

-- ---- for a machine

-- a cell of so many bits
abbrev pub IsCellOf : Machine → ℕ → ℕ → Type 0
IsCellOf m w c = (c < length m.widths) × (slice_index m.widths c ≡ w)

-- the same of a cell that may not be there
abbrev pub IsCellIfAny : Machine → ℕ → Option ℕ → Type 0
IsCellIfAny m w None = Unit {0}
IsCellIfAny m w (Some c) = IsCellOf m w c

-- the cells of a service have 32 bits, that of the error flag has 1
pub record AreServiceCells (m : Machine) (s : ServiceShape) : Type 0 where
  pub number : IsCellOf m 32 s.number
  pub arg_x : IsCellOf m 32 s.arg_x
  pub arg_y : IsCellOf m 32 s.arg_y
  pub arg_z : IsCellOf m 32 s.arg_z
  pub result : IsCellOf m 32 s.result
  pub error : IsCellIfAny m 1 s.error

-- whether a template calls the service
abbrev pub calls_service : Template → Bool
calls_service (Acts ts) = list_any (λ t. is_tservice t.act) ts
calls_service _ = false

-- conventions that are sound for a machine: cells of the right widths, calls, returns and pads are instructions, and
-- a service where a template calls it
pub record FitsMachine (conv : Conv) (m : Machine) : Type 0 where
  pub stack : IsCellOf m 32 conv.stack_cell
  pub moving : m.zero ≢ Some conv.stack_cell
  pub cells : (s : ServiceShape) → conv.service ≡ Some s → AreServiceCells m s
  pub link : IsCellIfAny m 32 conv.link
  pub calls : All (λ c. is_of_type m 0 c ≡ true) conv.calls
  pub returns : All (λ c. is_of_type m 0 c ≡ true) conv.returns
  pub pads : All (λ c. is_of_type m 0 c ≡ true) conv.pads
  pub service : IsTrue (list_any (λ form. calls_service form.template) m.forms) → IsTrue (is_some conv.service)

-- a sound triple
pub record AreSoundTogether (enc : Encodings) (m : Machine) (c : Conv) : Type 0 where
  pub machine : AreSound enc m
  pub conv : IsSoundConv c
  pub fits : FitsMachine c m
