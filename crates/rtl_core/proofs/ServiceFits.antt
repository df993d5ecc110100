-- What a service answers has 32 bits, and so has the break.
use Rattle.std.proofs.Common.{ℕ, ◌+◌, ◌^◌, ◌<◌, ◌||◌, Bool, true, false, [], length, arith, min}
use Rattle.std.specs.Prelude.{◌==◌, ◌&&◌, ◌-◌, if◌then◌else◌, take, drop, nat_le}
use Rattle.std.proofs.Math.Nat.{mod-lt}
use Rattle.std.proofs.lemmas.Nat.{pow_pos}
use Rattle.rtl_core.specs.declared.conv.Numbers.{Numbers}
use Rattle.rtl_core.specs.declared.stop.Reply.{Reply}
use Rattle.rtl_core.specs.declared.stop.Reply.TheVariants.{Exit, Value, Error}
use Rattle.rtl_core.specs.Contents.{is_mapped, is_writable, first_fault, bytes_from, put_all}
use Rattle.rtl_core.specs.Services.{World, Served, only, most_written, all_pass, reading, writing, breaking, served, result_of, error_of}

-- results and errors are below 2^32
abbrev pub FitsReply : Reply → Type 0
FitsReply (Exit x) = Unit {0}
FitsReply (Value k) = k < 2 ^ 32
FitsReply (Error e) = e < 2 ^ 32

pub record FitsServed (done : Served) : Type 0 where
  pub answer : FitsReply done.reply
  pub break_fits : done.world.heap_end < 2 ^ 32

-- the numbers of errors are words
pub record AreErrorWords (n : Numbers) : Type 0 where
  pub fault : n.fault < 2 ^ 32
  pub descriptor : n.descriptor < 2 ^ 32
  pub unknown : n.unknown < 2 ^ 32

chosen-fits : (b : Bool) (one other : Served) → FitsServed one → FitsServed other → FitsServed (if b then one else other)
chosen-fits true one other h k = h
chosen-fits false one other h k = k

module _ (n : Numbers) (words : AreErrorWords n) (world : World) (fits : world.heap_end < 2 ^ 32) where
  reading-fits : (x y z : ℕ) → z < 2 ^ 32 → FitsServed (reading n x y z world)
  reading-fits x y z h =
      let k = min z (length world.input) in
      let small : k < 2 ^ 32 = omega arith in
      let failed : FitsServed (only (Error n.fault) world) = record { answer = words.fault; break_fits = fits } in
      let wrong : FitsServed (only (Error n.descriptor) world) = record { answer = words.descriptor; break_fits = fits } in
      let done : Served = record { reply = Value k; written = []; world = record world { memory = put_all world.memory y (take k world.input); input = drop k world.input } } in
      let went : FitsServed done = record { answer = small; break_fits = fits } in
      let b = all_pass (first_fault is_writable world.memory y k) in
      chosen-fits (x == 0) (if b then done else only (Error n.fault) world) (only (Error n.descriptor) world) (chosen-fits b done (only (Error n.fault) world) went failed) wrong

  writing-fits : (x y z : ℕ) → z < 2 ^ 32 → FitsServed (writing n x y z world)
  writing-fits x y z h =
      let k = min z most_written in
      let small : k < 2 ^ 32 = omega arith in
      let failed : FitsServed (only (Error n.fault) world) = record { answer = words.fault; break_fits = fits } in
      let wrong : FitsServed (only (Error n.descriptor) world) = record { answer = words.descriptor; break_fits = fits } in
      let done : Served = record { reply = Value k; written = bytes_from world.memory y k; world = world } in
      let went : FitsServed done = record { answer = small; break_fits = fits } in
      let b = all_pass (first_fault is_mapped world.memory y k) in
      chosen-fits ((x == 1) || (x == 2)) (if b then done else only (Error n.fault) world) (only (Error n.descriptor) world) (chosen-fits b done (only (Error n.fault) world) went failed) wrong

  breaking-fits : (x : ℕ) → x < 2 ^ 32 → FitsServed (breaking n x world)
  breaking-fits x h = by (nat_le n.heap_base x && nat_le x (n.heap_base + n.heap_size))
    where
      by : (b : Bool) → let heap_end = if b then x else world.heap_end in FitsServed (record { reply = Value heap_end; written = []; world = record world { heap_end = heap_end } })
      by true = record { answer = h; break_fits = h }
      by false = record { answer = fits; break_fits = fits }

  pub served-fits : (number x y z : ℕ) → x < 2 ^ 32 → z < 2 ^ 32 → FitsServed (served n number x y z world)
  unfolding served
  served-fits number x y z hx hz =
      let unknown : FitsServed (only (Error n.unknown) world) = record { answer = words.unknown; break_fits = fits } in
      let exits : FitsServed (only (Exit x) world) = record { answer = tt; break_fits = fits } in
      let last = chosen-fits (number == n.brk) (breaking n x world) (only (Error n.unknown) world) (breaking-fits x hx) unknown in
      let third = chosen-fits (number == n.write) (writing n x y z world) (if number == n.brk then breaking n x world else only (Error n.unknown) world) (writing-fits x y z hz) last in
      let second = chosen-fits (number == n.read) (reading n x y z world) (if number == n.write then writing n x y z world else (if number == n.brk then breaking n x world else only (Error n.unknown) world)) (reading-fits x y z hz) third in
      chosen-fits (number == n.exit) (only (Exit x) world)
      (if number == n.read then reading n x y z world else (if number == n.write then writing n x y z world else (if number == n.brk then breaking n x world else only (Error n.unknown) world))) exits second

-- what is put into the result cell and into the error cell
pub result-fits : (carry : Bool) (reply : Reply) → FitsReply reply → result_of carry reply < 2 ^ 32
result-fits carry (Exit x) h = omega arith
result-fits carry (Value k) h = h
result-fits true (Error e) h = h
result-fits false (Error e) h = mod-lt (2 ^ 32 - e) (pow_pos 32)

pub error-fits : (reply : Reply) → error_of reply < 2
error-fits (Exit x) = omega arith
error-fits (Value k) = omega arith
error-fits (Error e) = omega arith
