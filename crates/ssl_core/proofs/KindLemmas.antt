-- Few operands, in sound encodings.
use Rattle.std.proofs.Common.{◌≡◌, ℕ, ◌≤◌, List, [], ◌∷◌, length, Option, Some, None, refl, sym, subst, arith, unwrap_or}
use Rattle.std.specs.Prelude.{option_map, slice_get}
use Rattle.std.proofs.lemmas.List.Sums.{sum_by-cons}
use Rattle.rtl_core.specs.declared.encodings.OperandKind.{OperandKind}
use Rattle.rtl_core.specs.declared.encodings.OperandKind.TheVariants.{Field, Typed}
use Rattle.rtl_core.specs.declared.encodings.Coded.{Coded}
use Rattle.rtl_core.specs.declared.encodings.Encodings.{Encodings}
use Rattle.rtl_core.specs.SoundEncodings.{IsSoundEncodings, kind_size, list_size}
use Rattle.ssl_rules.specs.Given.{kinds_of}

kind_size_some : (most : ℕ → ℕ) (kind : OperandKind) → 1 ≤ kind_size most kind
kind_size_some most (Field w) = omega arith
kind_size_some most (Typed t) = omega arith

length-list_size : (most : ℕ → ℕ) (ks : List OperandKind) → length ks ≤ list_size most ks
length-list_size most [] = omega arith
length-list_size most (kind ∷ ks) = omega (arith, sum_by-cons (kind_size most) kind ks, kind_size_some most kind, length-list_size most ks)

few_of : (enc : Encodings) (c : ℕ) (o : Option Coded) → IsSoundEncodings enc → slice_get enc.constructors c ≡ o → length (unwrap_or (option_map (λ k. k.kinds) o) []) ≤ 8
few_of enc c None s e = omega arith
few_of enc c (Some k) s e =
    let within = (s.sizes c k e).numbers in
    let most = s.few (s.types.type_of c) in
    omega (arith, within, most, length-list_size s.most k.kinds)

pub few_kinds : (enc : Encodings) (n : ℕ) (kinds : List OperandKind) → IsSoundEncodings enc → kinds ≡ kinds_of enc n → length kinds ≤ 8
few_kinds enc n kinds s e = subst (λ ks. length ks ≤ 8) (sym e) (few_of enc n (slice_get enc.constructors n) s refl)
