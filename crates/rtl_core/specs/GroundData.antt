-- What the code's places, operands and sites stand for while a template is put in.
use Rattle.std.specs.Prelude.{ℕ, List, Option, option_map, drop, map}
use Rattle.rtl_core.specs.Grounding.{Place, Whole, Bits, Bytes, Argument, Number, Value, At, Site}
use Rattle.rtl_core.specs.declared.site.Place.{Place as CodePlace}
use Rattle.rtl_core.specs.declared.site.Argument.{Argument as CodeArgument}
use Rattle.rtl_core.specs.declared.site.Site.{Site as CodeSite}

-- the place
abbrev pub place_of : CodePlace → Place
place_of (CodePlace.Whole c) = Whole c
place_of (CodePlace.Bits c lo hi) = Bits c lo hi
place_of (CodePlace.Bytes n a) = Bytes n a

-- the operand
abbrev pub argument_of : CodeArgument → Argument
argument_of (CodeArgument.Number w n) = Number w n
argument_of (CodeArgument.Value e) = Value e
argument_of (CodeArgument.At p) = At (place_of p)

-- the site
abbrev pub site_of : CodeSite → Site
site_of s = record { arguments = map argument_of s.arguments; pc = s.pc; next = s.next }

-- an operand that was read, and the numbers behind those that it took
abbrev pub one_read : List ℕ → Option (CodeArgument × ℕ) → Option (Argument × List ℕ)
one_read leaves r = option_map (λ x. (argument_of x.0, drop x.1 leaves)) r

-- operands that were read, and the numbers behind those that they took
abbrev pub some_read : List ℕ → Option (List CodeArgument × ℕ) → Option (List Argument × List ℕ)
some_read leaves r = option_map (λ x. (map argument_of x.0, drop x.1 leaves)) r

-- the operands of an instruction
abbrev pub arguments_of : Option (List CodeArgument) → Option (List Argument)
arguments_of r = option_map (map argument_of) r
