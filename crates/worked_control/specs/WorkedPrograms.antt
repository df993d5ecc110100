-- What control does on worked programs. The first instruction stands at 0x1000, and each has 4 bytes.
-- The SPARC Architecture Manual, Version 8, "Delayed Control Transfers", "Branch on Integer Condition Codes Instructions",
-- "Call and Link Instruction", "Jump and Link Instruction"; the call list and the named stops are this project's own.
use Rattle.std.specs.Prelude.{List, [], ◌∷◌, Some, None, ℕ}
use Rattle.rtl_core.specs.declared.stop.Stop.TheVariants.{Trap, Couple, ReturnMismatch, Undiscovered, CallDepth}
use Rattle.worked_control.specs.WorkedMachine.{Op, note, stop, aim, link, flag, jump, jump_annul, branch, branch_annul, go, call, call_aim, ret, ret_past, pad, Program, StopsBehind, delayed, undelayed}

-- ---- slots

-- the instruction in the slot of a jump that is done is done too: whether the jump is plain or guarded by a flag that is set; and
-- the flag is read before the slot's instruction changes it
pub record SlotIsDone : Type 0 where
  pub jumps : StopsBehind (delayed (jump 0x100C ∷ note 1 ∷ note 7 ∷ stop ∷ [])) 2 (Trap 1)
  pub taken : StopsBehind (delayed (flag 1 ∷ branch 0x1010 ∷ note 1 ∷ note 7 ∷ stop ∷ [])) 3 (Trap 1)
  pub untaken : StopsBehind (delayed (branch 0x1010 ∷ note 1 ∷ note 2 ∷ note 3 ∷ stop ∷ [])) 4 (Trap 0x123)
  pub before : StopsBehind (delayed (flag 1 ∷ branch 0x1010 ∷ flag 0 ∷ note 7 ∷ stop ∷ [])) 3 (Trap 0)

-- a branch that annuls and is not taken passes its slot over; where it is taken, the slot is done
abbrev pub UntakenPassesSlot : Type 0
UntakenPassesSlot =
    StopsBehind (delayed (branch_annul 0x1018 ∷ note 1 ∷ flag 1 ∷ branch_annul 0x1018 ∷ note 2 ∷ note 8 ∷ stop ∷ [])) 4 (Trap 2)

-- a jump that always annuls passes its slot over
abbrev pub AnnulledJumpPassesSlot : Type 0
AnnulledJumpPassesSlot = StopsBehind (delayed (jump_annul 0x100C ∷ note 1 ∷ note 7 ∷ stop ∷ [])) 1 (Trap 0)

-- a jump in the slot of a jump: one instruction at the first target, and then the second target. What stands at the first
-- target is passed over where the second jump annuls, or where it is not taken and annuls
pub record JumpInSlot : Type 0 where
  pub jumps : StopsBehind (delayed (jump 0x100C ∷ jump 0x1014 ∷ note 1 ∷ note 5 ∷ note 7 ∷ note 9 ∷ stop ∷ [])) 4 (Trap 0x59)
  pub annulled : StopsBehind (delayed (jump 0x100C ∷ jump_annul 0x1014 ∷ note 1 ∷ note 5 ∷ note 7 ∷ note 9 ∷ stop ∷ [])) 3 (Trap 9)
  pub untaken : StopsBehind (delayed (jump 0x100C ∷ branch 0x1014 ∷ note 1 ∷ note 5 ∷ note 7 ∷ note 9 ∷ stop ∷ [])) 5 (Trap 0x579)
  pub passed : StopsBehind (delayed (jump 0x100C ∷ branch_annul 0x1014 ∷ note 1 ∷ note 5 ∷ note 7 ∷ note 9 ∷ stop ∷ [])) 4 (Trap 0x79)
  pub three : StopsBehind (delayed (jump 0x100C ∷ jump 0x1014 ∷ note 1 ∷ jump 0x101C ∷ note 7 ∷ note 9 ∷ note 8 ∷ stop ∷ [])) 4 (Trap 9)

-- in the slot of a plain jump no call, return or computed jump may stand, and in the slot of a call, a return or a computed
-- jump no jump that is done and no annul; the stop names the slot
pub record Couples : Type 0 where
  pub calls : StopsBehind (delayed (jump 0x1008 ∷ call 0x1008 ∷ stop ∷ [])) 1 (Couple 0x1004)
  pub calls_aim : StopsBehind (delayed (jump 0x1008 ∷ call_aim ∷ stop ∷ [])) 1 (Couple 0x1004)
  pub returns : StopsBehind (delayed (jump 0x1008 ∷ ret ∷ stop ∷ [])) 1 (Couple 0x1004)
  pub goes : StopsBehind (delayed (jump 0x1008 ∷ go ∷ stop ∷ [])) 1 (Couple 0x1004)
  pub in_call : StopsBehind (delayed (call 0x1008 ∷ jump 0x1008 ∷ stop ∷ [])) 1 (Couple 0x1004)
  pub two_calls : StopsBehind (delayed (call 0x1008 ∷ call 0x1008 ∷ stop ∷ [])) 1 (Couple 0x1004)
  pub in_return : StopsBehind (delayed (ret ∷ jump 0x1008 ∷ stop ∷ [])) 1 (Couple 0x1004)
  pub in_go : StopsBehind (delayed (aim 0x100C ∷ go ∷ jump_annul 0x100C ∷ stop ∷ [])) 2 (Couple 0x1008)
  pub annuls : StopsBehind (delayed (call 0x1008 ∷ branch_annul 0x1008 ∷ stop ∷ [])) 1 (Couple 0x1004)
  -- a branch that is not taken, and does not annul, may stand there
  pub untaken : StopsBehind (delayed (call 0x1008 ∷ branch 0x1008 ∷ stop ∷ [])) 2 (Trap 0)

-- ---- calls and returns

-- a call, its slot, the procedure, the return's slot, and on behind the call's slot
abbrev pub CallReturns : Type 0
CallReturns = StopsBehind (delayed (call 0x1010 ∷ note 1 ∷ note 4 ∷ stop ∷ note 2 ∷ ret ∷ note 3 ∷ [])) 6 (Trap 0x1234)

-- a call in whose slot the link is assigned hands its caller's return address on: the return leads to the first caller.
-- Where the link is assigned behind the slot, the return address of the inner call is still asked for
pub record SiblingIsAJump : Type 0 where
  pub sibling : StopsBehind (delayed (call 0x1010 ∷ note 1 ∷ note 5 ∷ stop ∷ call 0x1018 ∷ link 0x1000 ∷ note 2 ∷ ret ∷ note 3 ∷ [])) 8 (Trap 0x1235)
  pub inner : StopsBehind (delayed (call 0x1010 ∷ note 1 ∷ note 5 ∷ stop ∷ call 0x1018 ∷ note 6 ∷ link 0x1000 ∷ ret ∷ note 3 ∷ [])) 6 (ReturnMismatch 0x1008)
  pub computed : StopsBehind (record { delay = Some 4; ops = aim 0x101C ∷ call 0x1014 ∷ note 1 ∷ note 5 ∷ stop ∷ call_aim ∷ link 0x1004 ∷ note 2 ∷ ret ∷ note 3 ∷ []; procedures = 0x101C ∷ []; targets = [] }) 9 (Trap 0x1235)

-- a return to an address other than that of the last open call, and a return with no open call, stop with their target
pub record OtherReturnStops : Type 0 where
  pub other : StopsBehind (delayed (call 0x1010 ∷ note 1 ∷ note 4 ∷ stop ∷ link 0x1004 ∷ ret ∷ note 3 ∷ [])) 4 (ReturnMismatch 0x100C)
  pub entry : StopsBehind (delayed (ret ∷ note 1 ∷ [])) 1 (ReturnMismatch 8)
  pub twice : StopsBehind (delayed (call 0x1010 ∷ note 1 ∷ ret ∷ note 4 ∷ ret ∷ note 2 ∷ [])) 5 (ReturnMismatch 0x1008)

-- a return to the second return point of a call, which is behind the pad that stands at its return address; without a pad there is
-- none; a return to the pad itself does it
pub record ReturnPastPad : Type 0 where
  pub past : StopsBehind (delayed (call 0x1014 ∷ note 1 ∷ pad ∷ note 3 ∷ stop ∷ ret_past ∷ note 2 ∷ [])) 5 (Trap 0x123)
  pub bare : StopsBehind (delayed (call 0x1014 ∷ note 1 ∷ note 6 ∷ note 3 ∷ stop ∷ ret_past ∷ note 2 ∷ [])) 3 (ReturnMismatch 0x100C)
  pub itself : StopsBehind (delayed (call 0x1014 ∷ note 1 ∷ pad ∷ note 3 ∷ stop ∷ ret ∷ note 2 ∷ [])) 4 (Trap 0xDEAD)

-- a call of what stands at the aim enters a procedure, and stops where none begins
pub record ComputedCall : Type 0 where
  pub enters : StopsBehind (record { delay = Some 4; ops = aim 0x1014 ∷ call_aim ∷ note 1 ∷ note 4 ∷ stop ∷ note 2 ∷ ret ∷ note 3 ∷ []; procedures = 0x1014 ∷ []; targets = [] }) 7 (Trap 0x1234)
  pub misses : StopsBehind (record { delay = Some 4; ops = aim 0x1014 ∷ call_aim ∷ note 1 ∷ note 4 ∷ stop ∷ note 2 ∷ ret ∷ note 3 ∷ []; procedures = 0x1000 ∷ []; targets = [] }) 2 (Undiscovered 0x1014)

-- ---- computed jumps

-- a computed jump to the aim, with a table of three
abbrev pub three_ways : (t : ℕ) → Op → Program
three_ways t slot = record {
  delay = Some 4;
  ops = aim t ∷ go ∷ slot ∷ note 7 ∷ note 2 ∷ stop ∷ note 3 ∷ stop ∷ note 4 ∷ stop ∷ [];
  procedures = 0x1000 ∷ 0x100C ∷ [];
  targets = 0x1010 ∷ 0x1018 ∷ 0x1020 ∷ [];
}

-- it leads to each of them, and to nothing else, not even to a procedure; the target is that of the jump, whatever its slot does to the aim
pub record TableLeads : Type 0 where
  pub first : StopsBehind (three_ways 0x1010 (note 1)) 4 (Trap 0x12)
  pub second : StopsBehind (three_ways 0x1018 (note 1)) 4 (Trap 0x13)
  pub third : StopsBehind (three_ways 0x1020 (note 1)) 4 (Trap 0x14)
  pub none : StopsBehind (three_ways 0x100C (note 1)) 2 (Undiscovered 0x100C)
  pub kept : StopsBehind (three_ways 0x1010 (aim 0x1018)) 4 (Trap 2)

-- a procedure that leaves by a computed jump without a table, to a second one, which returns
abbrev pub tail_jump : (procedures : List ℕ) → Program
tail_jump procedures = record {
  delay = Some 4;
  ops = call 0x1010 ∷ note 1 ∷ note 5 ∷ stop ∷ aim 0x1020 ∷ go ∷ note 2 ∷ note 7 ∷ note 3 ∷ ret ∷ note 4 ∷ [];
  procedures = procedures;
  targets = [];
}

-- the same with a third procedure
abbrev pub two_tail_jumps : Program
two_tail_jumps = record {
  delay = Some 4;
  ops = call 0x1010 ∷ note 1 ∷ note 5 ∷ stop ∷ aim 0x1020 ∷ go ∷ note 2 ∷ stop ∷ aim 0x1030 ∷ go ∷ note 3 ∷ stop ∷ ret ∷ note 4 ∷ [];
  procedures = 0x1000 ∷ 0x1010 ∷ 0x1020 ∷ 0x1030 ∷ [];
  targets = [];
}

-- the return leads over tail jumps to the first caller; without a procedure at its target a tail jump stops, and a return over
-- it without a caller stops too
pub record TailReturns : Type 0 where
  pub once : StopsBehind (tail_jump (0x1000 ∷ 0x1010 ∷ 0x1020 ∷ [])) 9 (Trap 0x12345)
  pub twice : StopsBehind two_tail_jumps 11 (Trap 0x12345)
  pub misses : StopsBehind (tail_jump (0x1000 ∷ 0x1010 ∷ [])) 4 (Undiscovered 0x1020)
  pub alone : StopsBehind (record { delay = Some 4; ops = aim 0x1010 ∷ go ∷ note 1 ∷ stop ∷ ret ∷ note 2 ∷ []; procedures = 0x1010 ∷ []; targets = [] }) 4 (ReturnMismatch 8)

-- ---- the call list

-- a procedure that calls itself, and one that leaves by a computed jump to itself
abbrev pub calls_itself : Program
calls_itself = delayed (call 0x1000 ∷ note 0 ∷ [])

abbrev pub jumps_to_itself : Program
jumps_to_itself = record { delay = Some 4; ops = aim 0x1000 ∷ go ∷ note 0 ∷ []; procedures = 0x1000 ∷ []; targets = [] }

-- the list takes 65,536 members, calls or tail jumps; the next one stops, behind its slot
pub record CallListIsFull : Type 0 where
  pub calls : StopsBehind calls_itself 131073 CallDepth
  pub tails : StopsBehind jumps_to_itself 196610 CallDepth

-- ---- without slots

-- a jump, a call and a return are done at once, and an annul does nothing; a call is a call whatever stands behind it
pub record Undelayed : Type 0 where
  pub jumps : StopsBehind (undelayed (jump 0x1008 ∷ note 1 ∷ stop ∷ [])) 1 (Trap 0)
  pub annuls : StopsBehind (undelayed (branch_annul 0x100C ∷ note 1 ∷ note 2 ∷ stop ∷ [])) 3 (Trap 0x12)
  pub both : StopsBehind (undelayed (jump_annul 0x1008 ∷ note 1 ∷ stop ∷ [])) 1 (Trap 0)
  pub calls : StopsBehind (undelayed (call 0x100C ∷ note 2 ∷ stop ∷ stop ∷ [])) 1 (Trap 0)
  pub returns : StopsBehind (undelayed (call 0x100C ∷ note 2 ∷ stop ∷ note 1 ∷ ret ∷ [])) 4 (Trap 0x12)
  pub relinks : StopsBehind (undelayed (call 0x100C ∷ link 0 ∷ stop ∷ note 1 ∷ ret ∷ [])) 4 (Trap 1)
  pub past_pad : StopsBehind (undelayed (call 0x1010 ∷ pad ∷ note 2 ∷ stop ∷ note 1 ∷ ret_past ∷ [])) 4 (Trap 0x12)
  pub mismatches : StopsBehind (undelayed (ret ∷ [])) 0 (ReturnMismatch 4)
  pub misses : StopsBehind (undelayed (aim 0x2000 ∷ go ∷ [])) 1 (Undiscovered 0x2000)
  pub computed : StopsBehind (record { delay = None; ops = aim 0x1010 ∷ call_aim ∷ note 2 ∷ stop ∷ note 1 ∷ ret ∷ []; procedures = 0x1010 ∷ []; targets = [] }) 5 (Trap 0x12)
  pub tail : StopsBehind (record { delay = None; ops = call 0x100C ∷ note 3 ∷ stop ∷ note 1 ∷ aim 0x1018 ∷ go ∷ note 2 ∷ ret ∷ []; procedures = 0x1018 ∷ []; targets = [] }) 7 (Trap 0x123)

-- ---- ends

-- behind the last instruction there is no code
abbrev pub RunsOff : Type 0
RunsOff = StopsBehind (delayed (note 1 ∷ note 2 ∷ [])) 2 (Undiscovered 0x1008)
