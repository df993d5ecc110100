-- Laws of the sequence of numbers, and of pieces that a loop puts one behind another.
use Rattle.std.proofs.Common.{◌≡◌, ℕ, zero, suc, ◌+◌, ◌*◌, ◌/◌, ◌%◌, ◌^◌, List, ◌++◌, refl, sym, ap, ◌∙◌, arith, add-one}
use Rattle.std.proofs.Math.Nat.{add-suc, div-add-mod, mul-add-mod_self_left}
use Rattle.std.proofs.lemmas.List.{append-nil, append_assoc}
use Rattle.std.specs.List.{flat_map, range_with_len}
use Rattle.sample_gen.specs.Numbers.{next_state, state_after, number_at}
use Rattle.sample_gen.specs.Instructions.{instruction}
use Rattle.sample_gen.specs.Program.{instructions, procedure, procedure_size, return_bytes}
use Rattle.sample_gen.specs.declared.kind.Kind.{Kind}

-- a remainder is taken once
pub mod-add : (a b m : ℕ) → (a % m + b) % m ≡ (a + b) % m
mod-add a b m =
    let whole : m * (a / m) + (a % m + b) ≡ a + b = omega (arith, div-add-mod a m) in
    sym (mul-add-mod_self_left m (a / m) (a % m + b)) ∙ ap (λ (n : ℕ). n % m) whole

-- one piece more of a list that a function makes of places
pub flat_map-range_more : (f : ℕ → List ℕ) (a n j : ℕ) → a + n ≡ j → flat_map f (range_with_len a (suc n)) ≡ flat_map f (range_with_len a n) ++ f j
flat_map-range_more f a zero j e =
    let here : a ≡ j = omega arith in
    append-nil (f a) ∙ ap f here
flat_map-range_more f a (suc n) j e =
    ap (λ (xs : List ℕ). f a ++ xs) (flat_map-range_more f (a + 1) n j (omega arith)) ∙ sym (append_assoc (f a) (flat_map f (range_with_len (a + 1) n)) (f j))

-- what a loop has put, and one piece more
pub grown : (f : ℕ → List ℕ) (n : ℕ) (old xs ys piece : List ℕ) → xs ≡ old ++ flat_map f (range_with_len 0 n) → ys ≡ xs ++ piece → piece ≡ f n
    → ys ≡ old ++ flat_map f (range_with_len 0 (n + 1))
grown f n old xs ys piece before put is =
    let joined : flat_map f (range_with_len 0 n) ++ piece ≡ flat_map f (range_with_len 0 (suc n)) =
    ap (λ (p : List ℕ). flat_map f (range_with_len 0 n) ++ p) is ∙ sym (flat_map-range_more f 0 n n (omega arith)) in
    rw add-one (put ∙ (ap (λ (zs : List ℕ). zs ++ piece) before ∙ (append_assoc old (flat_map f (range_with_len 0 n)) piece ∙ ap (λ (zs : List ℕ). old ++ zs) joined)))

-- the next state
pub state_more : (s k x y : ℕ) → x ≡ state_after s k → y ≡ next_state x → y ≡ state_after s (k + 1)
unfolding state_after
state_more s k x y before step = rw add-one (step ∙ ap next_state before)

-- the next number
pub number_more : (s k x y h : ℕ) → x ≡ state_after s k → y ≡ next_state x → h ≡ y / 2 ^ 33 → h ≡ number_at s k
unfolding state_after number_at
number_more s k x y h before step is = is ∙ ap (λ (n : ℕ). n / 2 ^ 33) (step ∙ ap next_state before)

-- steps after steps
pub state_after-add : (s a n : ℕ) → state_after (state_after s a) n ≡ state_after s (a + n)
unfolding state_after
state_after-add s a zero =
    let here : a ≡ a + 0 = omega arith in
    ap (state_after s) here
state_after-add s a (suc n) = rw add-suc (ap next_state (state_after-add s a n))

-- numbers after steps are those of later places
pub number_at-add : (s a k : ℕ) → number_at (state_after s a) k ≡ number_at s (a + k)
unfolding number_at
number_at-add s a k = ap (λ (x : ℕ). x / 2 ^ 33) (state_after-add s a (suc k) ∙ ap (state_after s) (add-suc a k))

-- instructions from a state after steps are those of later places
pub instructions-from : (kind : Kind) (s a b n : ℕ) → instructions kind (state_after s a) b n ≡ instructions kind s (a + b) n
unfolding instructions
instructions-from kind s a b zero = refl
instructions-from kind s a b (suc n) =
    let place : a + (b + 1) ≡ a + b + 1 = omega arith in
    let rest : instructions kind (state_after s a) (b + 1) n ≡ instructions kind s (a + b + 1) n =
    instructions-from kind s a (b + 1) n ∙ ap (λ (p : ℕ). instructions kind s p n) place in
    ap (λ (h : ℕ). instruction kind h ++ instructions kind (state_after s a) (b + 1) n) (number_at-add s a b)
    ∙ ap (λ (xs : List ℕ). instruction kind (number_at s (a + b)) ++ xs) rest

-- a procedure, from the state in which it finds the sequence
pub procedure-from : (kind : Kind) (number count p x size : ℕ) → x ≡ state_after number (50 * p) → size ≡ procedure_size count p
    → instructions kind x 0 size ++ return_bytes kind ≡ procedure kind number count p
unfolding procedure
procedure-from kind number count p x size state full =
    let place : 50 * p + 0 ≡ 50 * p = omega arith in
    let made : instructions kind x 0 size ≡ instructions kind number (50 * p) (procedure_size count p) =
    ap (λ (y : ℕ). instructions kind y 0 size) state ∙ (instructions-from kind number (50 * p) 0 size
    ∙ (ap (λ (q : ℕ). instructions kind number q size) place ∙ ap (instructions kind number (50 * p)) full)) in
    ap (λ (xs : List ℕ). xs ++ return_bytes kind) made
