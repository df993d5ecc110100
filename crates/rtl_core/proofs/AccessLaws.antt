-- Laws of loads and stores.
use Rattle.std.proofs.Common.{◌≡◌, ℕ, zero, suc, ◌+◌, ◌*◌, ◌^◌, ◌<◌, ◌≤◌, Bool, true, false, List, refl, sym, ap, ◌∙◌, subst, arith}
use Rattle.std.specs.Prelude.{Option, Some, None, IfOk, slice_index, unwrap_or}
use Rattle.std.proofs.lemmas.Nat.{pow-add}
use Rattle.std.proofs.Math.Nat.{mod-lt, pow-suc}
use Rattle.byteorder.specs.Numbers.{big_from-lt, little_from-lt}
use Rattle.rtl_core.specs.declared.expr.Order.{Order}
use Rattle.rtl_core.specs.declared.expr.Order.TheVariants.{Little, Big}
use Rattle.rtl_core.specs.declared.stop.Trap.{Trap}
use Rattle.rtl_core.specs.Contents.{Held, Contents, byte_of, is_mapped, held_at, bytes_from}
use Rattle.rtl_core.specs.Access.{number, is_size, access_fault, unless, loaded}
use Rattle.rtl_core.proofs.ByteLaws.{faultless_below}

-- a size is from 1 to 8
pub size_bounds : (n : ℕ) → is_size n ≡ true → (1 ≤ n) × (n ≤ 8)
size_bounds n h = grind arith

-- an access without a fault is below 2^32
pub accessed_below : (align : Bool) (p : Option Held → Bool) (m : Contents) (n a : ℕ) → p None ≡ false → is_size n ≡ true → access_fault align p m n a ≡ None → a < 2 ^ 32
accessed_below align p m n a none size e = faultless_below p m a n none (size_bounds n size).0 (grind arith)

byte_small : (m : Contents) (n a i : ℕ) → slice_index (bytes_from m a n) i < 256
unfolding bytes_from
byte_small m zero a i = omega arith
byte_small m (suc n) a zero = mod-lt (unwrap_or (byte_of (held_at m a)) 0) (omega arith)
byte_small m (suc n) a (suc i) = byte_small m n (a + 1) i

pub pow_bytes : (n : ℕ) → 256 ^ n ≡ 2 ^ (8 * n)
pow_bytes zero = refl
pow_bytes (suc n) =
    let e : 8 + 8 * n ≡ 8 * suc n = omega arith in
    pow-suc 256 n ∙ (let i : 256 ^ n * 256 ≡ 2 ^ 8 * 2 ^ (8 * n) = omega (arith, pow_bytes n) in i) ∙ sym (pow-add 2 8 (8 * n)) ∙ ap (λ k. 2 ^ k) e

number_small : (order : Order) (n : ℕ) (bytes : List ℕ) → ((i : ℕ) → slice_index bytes i < 256) → number order n bytes < 256 ^ n
number_small Little n bytes h = little_from-lt 0 n bytes h
number_small Big n bytes h = big_from-lt 0 n bytes h

unless_small : (o : Option Trap) (n k : ℕ) → n < 2 ^ k → IfOk (unless o n) (λ v. v < 2 ^ k)
unless_small None n k h = h
unless_small (Some trap) n k h = tt

-- what is loaded fits its size
pub loaded_fits : (order : Order) (align : Bool) (m : Contents) (n a : ℕ) → IfOk (loaded order align m n a) (λ v. v < 2 ^ (8 * n))
unfolding loaded
loaded_fits order align m n a =
    unless_small (access_fault align is_mapped m n a) (number order n (bytes_from m a n)) (8 * n)
    (subst (λ k. number order n (bytes_from m a n) < k) (pow_bytes n) (number_small order n (bytes_from m a n) (byte_small m n a)))
