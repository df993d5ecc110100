-- How many types and constructors lines give.
use Rattle.std.proofs.Common.{◌≡◌, ℕ, ◌+◌, ◌<◌, ◌≤◌, ◌||◌, Bool, true, false, cond, List, [], ◌∷◌, ◌++◌, length, set, Option, None, Some, refl, sym, ap, ◌∙◌, arith, length-set, leb}
use Rattle.std.proofs.lemmas.List.{length_push}
use Rattle.std.proofs.lemmas.Bool.Decides.{nat_tests}
use Rattle.sled_syntax.specs.declared.line.SledBody.{SledBody}
use Rattle.sled_syntax.specs.declared.line.SledBody.TheVariants as body
use Rattle.sled_syntax.specs.declared.line.SledPattern.{SledPattern}
use Rattle.sled_rules.specs.declared.known.Known.{Known}
use Rattle.rtl_core.specs.declared.encodings.Coded.{Coded}
use Rattle.sled_rules.specs.declared.fault.SledFault.{SledFault}
use Rattle.sled_rules.specs.declared.fault.SledFault.TheVariants as faults
use Rattle.sled_rules.specs.Meanings.{is_given}
use Rattle.sled_rules.specs.Alternatives.{alternatives}
use Rattle.sled_rules.specs.Sizes.{is_large}
use Rattle.sled_rules.specs.Known.{is_instruction, opened, type_name, with_constructor, with_line, with_type}
use Rattle.sled_rules.specs.Faults.{constructor_checks, constructor_fault, first_broken, line_fault, size_fault}
use Rattle.sled_rules.specs.Counts.{IsCounted}
use Rattle.sled_rules.proofs.BrokenLaws.{none_of, untaken}
use Rattle.sled_rules.proofs.TakenLaws.{or_false}

pub few_behind_type : (k : Known) (type : List ℕ) → (with_type type k).constructors ≡ k.constructors
few_behind_type k type = by (is_given k.names type)
  where
    by : (b : Bool) → (cond b k (opened type k)).constructors ≡ k.constructors
    by true = refl
    by false = refl

types_opened : (k : Known) (type : List ℕ) → length (opened type k).types ≤ length k.types + 1
types_opened k type = by (is_instruction type)
  where
    by : (b : Bool) → length (cond b k.types (k.types ++ [] ∷ [])) ≤ length k.types + 1
    by true = omega arith
    by false = omega (arith, length_push k.types [])

types_behind : (k : Known) (type : List ℕ) → length (with_type type k).types ≤ length k.types + 1
types_behind k type = by (is_given k.names type)
  where
    by : (b : Bool) → length (cond b k (opened type k)).types ≤ length k.types + 1
    by true = omega arith
    by false = types_opened k type

below_limit : (n : ℕ) → leb 4096 n ≡ false → n < 4096
below_limit n h = grind (arith, nat_tests)

pub few_constructors : (k : Known) (line : ℕ) (name : List ℕ) (ops : List (List ℕ)) (type : List ℕ) (p : SledPattern)
    → constructor_fault k line name ops type p ≡ None → length k.constructors < 4096
few_constructors k line name ops type p h =
    let over : Bool = leb 4096 (length k.constructors) || is_large k.facts (alternatives k.names ops p) in
    let late = none_of (first_broken (constructor_checks k line name ops type p)) (size_fault k line ops p) h in
    let small = untaken over (faults.TooMany line) None late.1 in
    below_limit (length k.constructors) (or_false (leb 4096 (length k.constructors)) (is_large k.facts (alternatives k.names ops p)) small.0).0

counted_constructor : (k : Known) (name : List ℕ) (ops : List (List ℕ)) (type : List ℕ) (p : SledPattern) → IsCounted k → length k.constructors < 4096
    → IsCounted (with_constructor name ops type p k)
counted_constructor k name ops type p counted few = record {
  types = omega (arith, types_behind k type, ap length (few_behind_type k type), counted.types, length-set {A = List ℕ}, length_push {X = Coded});
  constructors = omega (arith, ap length (few_behind_type k type), length_push {X = Coded});
}

pub counted_line : (k : Known) (line : ℕ) (b : SledBody) → IsCounted k → line_fault k line b ≡ None → IsCounted (with_line k b)
counted_line k line (body.ByteOrder big) counted h = record { types = counted.types; constructors = counted.constructors }
counted_line k line (body.Fields token width fields) counted h = record { types = counted.types; constructors = counted.constructors }
counted_line k line (body.Pattern name p) counted h = record { types = counted.types; constructors = counted.constructors }
counted_line k line (body.Constructor name ops of_type p) counted h =
    counted_constructor k name ops (type_name of_type) p counted (few_constructors k line name ops (type_name of_type) p h)
