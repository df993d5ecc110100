-- Numbers as the bytes of a machine.
use Rattle.std.specs.Prelude.{ℕ, List}
use Rattle.std.specs.List.{flat_map}
use Rattle.byteorder.specs.Endian.{big_bytes, little_bytes}
use Rattle.sample_gen.specs.declared.kind.Kind.{Kind}
use Rattle.sample_gen.specs.declared.kind.Kind.TheVariants.{Sparc, I386}

-- a number as so many bytes: the highest first on a SPARC, the lowest first on an 80386
abbrev pub bytes_of : Kind → ℕ → ℕ → List ℕ
bytes_of Sparc n x = big_bytes n x
bytes_of I386 n x = little_bytes n x

-- numbers as two bytes each
unfoldable pub halves : Kind → List ℕ → List ℕ
halves kind xs = flat_map (bytes_of kind 2) xs

-- numbers as four bytes each
unfoldable pub words : Kind → List ℕ → List ℕ
words kind xs = flat_map (bytes_of kind 4) xs
