-- A small described machine with delay slots or without, and programs of its own instructions: what control does with them
-- is read from the number with which they stop, whose digits tell in order which instructions were done.
use Rattle.std.specs.Prelude.{◌≡◌, ℕ, zero, suc, ◌+◌, ◌/◌, ◌%◌, ◌==◌, true, List, [], ◌∷◌, ◌++◌, Option, Some, None}
use Rattle.std.specs.List.{list_any}
use Rattle.rtl_core.specs.declared.conv.Conv.{Conv}
use Rattle.rtl_core.specs.declared.encodings.Coded.{Coded}
use Rattle.rtl_core.specs.declared.encodings.Encodings.{Encodings}
use Rattle.rtl_core.specs.declared.encodings.OperandKind.{OperandKind}
use Rattle.rtl_core.specs.declared.encodings.OperandKind.TheVariants.{Field}
use Rattle.rtl_core.specs.declared.expr.Bin.TheVariants.{Add, Mul}
use Rattle.rtl_core.specs.declared.expr.Un.TheVariants.{Not}
use Rattle.rtl_core.specs.declared.expr.Order.TheVariants.{Big}
use Rattle.rtl_core.specs.declared.machine.Form.{Form}
use Rattle.rtl_core.specs.declared.machine.Machine.{Machine}
use Rattle.rtl_core.specs.declared.stop.Stop.{Stop}
use Rattle.rtl_core.specs.declared.template.TAct.{TAct}
use Rattle.rtl_core.specs.declared.template.TAct.TheVariants as A
use Rattle.rtl_core.specs.declared.template.TExpr.{TExpr}
use Rattle.rtl_core.specs.declared.template.TExpr.TheVariants as T
use Rattle.rtl_core.specs.declared.template.TPlace.TheVariants as P
use Rattle.rtl_core.specs.declared.template.TTransfer.{TTransfer}
use Rattle.rtl_core.specs.declared.template.Template.TheVariants.{Acts}
use Rattle.rtl_core.specs.Contents.{Contents}
use Rattle.lockstep.specs.Runs.{Running, Stopped}
use Rattle.points.specs.Control.{Flow}
use Rattle.points.specs.Machine.{Setting}
use Rattle.points.specs.Running.{machine_run}

-- ---- instructions

-- an instruction of the machine, with its constant where it has one
pub data Op : Type 0 where
  -- the result gets one digit more, in base 16
  note : ℕ → Op
  -- the run ends, with the result
  stop : Op
  -- the aim, the link, or the flag is this number
  aim : ℕ → Op
  link : ℕ → Op
  flag : ℕ → Op
  -- a plain jump; one that annuls its slot
  jump : ℕ → Op
  jump_annul : ℕ → Op
  -- a plain jump where the flag is set; one that annuls its slot where it is not
  branch : ℕ → Op
  branch_annul : ℕ → Op
  -- a plain jump to the aim
  go : Op
  -- a call; a call of what stands at the aim; each leaves its own address in the link
  call : ℕ → Op
  call_aim : Op
  -- a return behind the call, and behind its slot where there is one; the same 4 bytes further
  ret : Op
  ret_past : Op
  -- a pad, which ends the run where it is done
  pad : Op

-- its constructor
abbrev pub constructor_of : Op → ℕ
constructor_of (note n) = 0
constructor_of stop = 1
constructor_of (aim n) = 2
constructor_of (link n) = 3
constructor_of (flag n) = 4
constructor_of (jump n) = 5
constructor_of (jump_annul n) = 6
constructor_of (branch n) = 7
constructor_of (branch_annul n) = 8
constructor_of go = 9
constructor_of (call n) = 10
constructor_of call_aim = 11
constructor_of ret = 12
constructor_of ret_past = 13
constructor_of pad = 14

-- its constant, below 2^16
abbrev pub constant_of : Op → ℕ
constant_of (note n) = n
constant_of (aim n) = n
constant_of (link n) = n
constant_of (flag n) = n
constant_of (jump n) = n
constant_of (jump_annul n) = n
constant_of (branch n) = n
constant_of (branch_annul n) = n
constant_of (call n) = n
constant_of _ = 0

-- its four bytes: the constructor, nothing, the constant
abbrev pub word_of : Op → List ℕ
word_of op = constructor_of op ∷ 0 ∷ constant_of op / 256 ∷ constant_of op % 256 ∷ []

-- a program's bytes
abbrev pub bytes_of : List Op → List ℕ
bytes_of [] = []
bytes_of (op ∷ ops) = word_of op ++ bytes_of ops

-- ---- the description

-- every constructor has one constant of 16 bits
abbrev pub kinds : List OperandKind
kinds = Field 16 ∷ []

-- the constructor of this number: one word, with the number in its first byte
abbrev coded : ℕ → Coded
coded c = record {
  name = c ∷ [];
  kinds = kinds;
  alternatives = (record {
    bits = 32;
    tests = record { lo = 24; hi = 31; equal = true; value = c } ∷ [];
    binds = record { lo = 0; hi = 15; operand = 0 } ∷ [];
    typed = None;
  } ∷ []) ∷ [];
}

-- so many constructors from the first on
abbrev all_coded : (first count : ℕ) → List Coded
all_coded first zero = []
all_coded first (suc n) = coded first ∷ all_coded (first + 1) n

-- all constructors are instructions
abbrev pub types : List (List ℕ)
types = (0 ∷ 1 ∷ 2 ∷ 3 ∷ 4 ∷ 5 ∷ 6 ∷ 7 ∷ 8 ∷ 9 ∷ 10 ∷ 11 ∷ 12 ∷ 13 ∷ 14 ∷ []) ∷ []

abbrev pub encodings : Encodings
encodings = record { order = Big; constructors = all_coded 0 15; types = types }

-- the constant as a number of 32 bits
abbrev constant : TExpr
constant = T.Zext 32 (T.Operand 0)

-- the result with one digit more
abbrev noted : TExpr
noted = T.Bin Add (T.Bin Mul (T.Cell 0) (T.Const 32 16)) constant

-- so far behind what the link holds
abbrev behind_link : ℕ → TExpr
behind_link n = T.Bin Add (T.Cell 1) (T.Const 32 n)

-- done each time, where the flag is set, and where it is not
abbrev always : TAct → TTransfer
always act = record { guard = None; act = act }

abbrev where_set : TAct → TTransfer
where_set act = record { guard = Some (T.Cell 3); act = act }

abbrev where_clear : TAct → TTransfer
where_clear act = record { guard = Some (T.Un Not (T.Cell 3)); act = act }

abbrev form : List TTransfer → Form
form ts = record { kinds = kinds; template = Acts ts }

-- the bytes of a slot, where there is one
abbrev pub slot_bytes : Option ℕ → ℕ
slot_bytes None = 0
slot_bytes (Some d) = d

-- what the constructors do, in their order
abbrev pub forms : Option ℕ → List Form
forms delay =
    form (always (A.Assign (P.Cell 0) noted) ∷ [])
    ∷ form (always (A.Trap (T.Cell 0)) ∷ [])
    ∷ form (always (A.Assign (P.Cell 2) constant) ∷ [])
    ∷ form (always (A.Assign (P.Cell 1) constant) ∷ [])
    ∷ form (always (A.Assign (P.Cell 3) (T.Slice (T.Operand 0) 0 0)) ∷ [])
    ∷ form (always (A.Jump constant) ∷ [])
    ∷ form (always (A.Jump constant) ∷ always A.Annul ∷ [])
    ∷ form (where_set (A.Jump constant) ∷ [])
    ∷ form (where_set (A.Jump constant) ∷ where_clear A.Annul ∷ [])
    ∷ form (always (A.Jump (T.Cell 2)) ∷ [])
    ∷ form (always (A.Assign (P.Cell 1) T.Pc) ∷ always (A.Jump constant) ∷ [])
    ∷ form (always (A.Assign (P.Cell 1) T.Pc) ∷ always (A.Jump (T.Cell 2)) ∷ [])
    ∷ form (always (A.Jump (behind_link (4 + slot_bytes delay))) ∷ [])
    ∷ form (always (A.Jump (behind_link (8 + slot_bytes delay))) ∷ [])
    ∷ form (always (A.Trap (T.Const 32 0xDEAD)) ∷ [])
    ∷ []

-- five cells: the result, the link, the aim, the flag of one bit, and the stack
abbrev pub machine : Option ℕ → Machine
machine delay = record {
  order = Big;
  align = true;
  delay = delay;
  widths = 32 ∷ 32 ∷ 32 ∷ 1 ∷ 32 ∷ [];
  zero = None;
  windows = None;
  files = [];
  forms = forms delay;
  types = types;
  most_nodes = 6;
}

abbrev pub conv : Conv
conv = record {
  elf = 2;
  stack_cell = 4;
  stack_base = 0xEF000000;
  stack_size = 0x00800000;
  room = 256;
  heap_base = 0x20000000;
  heap_size = 0x01000000;
  service = None;
  link = Some 1;
  calls = 10 ∷ 11 ∷ [];
  returns = 12 ∷ 13 ∷ [];
  entries = [];
  wholes = [];
  pads = 14 ∷ [];
  args = None;
}

-- ---- programs

-- where each program begins
abbrev pub entry : ℕ
entry = 0x1000

-- a program: the bytes of a slot, the instructions, where procedures begin, and the targets of its computed plain jump
pub record Program : Type 0 where
  pub delay : Option ℕ
  pub ops : List Op
  pub procedures : List ℕ
  pub targets : List ℕ

abbrev pub setting_of : Program → Setting
setting_of p = record {
  encodings = encodings;
  machine = machine p.delay;
  conv = conv;
  frozen = record { parts = record { base = entry; code = true; bytes = bytes_of p.ops } ∷ [] };
}

abbrev pub flow_of : Program → Flow
flow_of p = record {
  setting = setting_of p;
  is_procedure = λ a. list_any (λ b. b == a) p.procedures;
  table = λ a. p.targets;
}

-- the run goes on for so many instructions, and stops at the next, with no output, whatever memory and input are
pub record StopsBehind (p : Program) (n : ℕ) (why : Stop) : Type 0 where
  pub runs : (memory : Contents) (input : List ℕ) → machine_run (flow_of p) memory entry input n ≡ Running []
  pub stops : (memory : Contents) (input : List ℕ) → machine_run (flow_of p) memory entry input (suc n) ≡ Stopped [] why

-- slots of four bytes, no computed jumps
abbrev pub delayed : List Op → Program
delayed ops = record { delay = Some 4; ops = ops; procedures = []; targets = [] }

-- no slots, no computed jumps
abbrev pub undelayed : List Op → Program
undelayed ops = record { delay = None; ops = ops; procedures = []; targets = [] }
