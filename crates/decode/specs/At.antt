-- What stands at an address of code.
use Rattle.std.specs.Prelude.{ℕ, ◌<◌, ◌^◌, List, length, Option, None, Some, All}
use Rattle.rtl_core.specs.declared.encodings.Encodings.{Encodings}
use Rattle.rtl_core.specs.declared.frozen.Frozen.{Frozen}
use Rattle.rtl_core.specs.Code.{code_from}
use Rattle.rtl_core.specs.Matching.{Taken, instruction}
use Rattle.sled_match.specs.Matched.{matched_inst}
use Rattle.decode.specs.declared.Found.{Found}
use Rattle.decode.specs.declared.Found.TheVariants.{Inst, Illegal, Outside}

-- an instruction, where one matched
abbrev pub found : Option Taken → Found
found None = Illegal
found (Some t) = Inst (matched_inst t)

-- what stands at the front of the code from an address on, where it is code
abbrev pub found_in : Encodings → Option (List ℕ) → Found
found_in enc None = Outside
found_in enc (Some bytes) = found (instruction enc bytes)

-- what stands at an address
abbrev pub found_at : Encodings → Frozen → ℕ → Found
found_at enc frozen pc = found_in enc (code_from frozen pc)

-- each part has fewer than 2^32 bytes
abbrev pub AreShort : Frozen → Type 0
AreShort frozen = All (λ p. length p.bytes < 2 ^ 32) frozen.parts
