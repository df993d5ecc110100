-- The normal form of a description of encodings, or its first fault.
use Rattle.std.specs.Prelude.{ℕ, List, [], ◌∷◌, ◌++◌, Option, Some, None, Result, Ok, Err, fold, unwrap_or}
use Rattle.std.specs.Option.{option_or}
use Rattle.rtl_core.specs.declared.encodings.Encodings.{Encodings}
use Rattle.rtl_core.specs.declared.expr.Order.TheVariants.{Big}
use Rattle.sled_syntax.specs.declared.line.SledLine.{SledLine}
use Rattle.sled_rules.specs.declared.fault.SledFault.{SledFault}
use Rattle.sled_rules.specs.declared.known.Known.{Known}
use Rattle.sled_rules.specs.Known.{nothing_known, with_line}
use Rattle.sled_rules.specs.Faults.{line_fault}

-- what lines give behind others
abbrev pub known_after : Known → List SledLine → Known
known_after k lines = fold (λ before line. with_line before line.body) k lines

-- what lines give
abbrev pub known : List SledLine → Known
known lines = known_after nothing_known lines

-- the fault of the first line that has one, behind others that give this
abbrev pub fault_after : Known → List SledLine → Option SledFault
fault_after k [] = None
fault_after k (line ∷ lines) = option_or (line_fault k line.number line.body) (fault_after (with_line k line.body) lines)

abbrev pub first_fault : List SledLine → Option SledFault
first_fault lines = fault_after nothing_known lines

-- without a line that says it the order is the big one
abbrev pub encodings_of : Known → Encodings
encodings_of k = record { order = unwrap_or k.order Big; constructors = k.constructors; types = k.types }

-- the normal form, or the first fault
abbrev pub normal : List SledLine → Result Encodings SledFault
normal lines = answer (first_fault lines)
  where
    answer : Option SledFault → Result Encodings SledFault
    answer None = Ok (encodings_of (known lines))
    answer (Some fault) = Err fault
