-- The slots of the calls below the one on top.
use Rattle.std.proofs.Common.{◌≡◌, ℕ, zero, suc, ◌+◌, ◌-◌, ◌*◌, ◌<◌, ◌≤◌, Option, None, List, [], ◌∷◌, ◌++◌, length, take, drop, replicate, refl, sym, ap, ◌∙◌, arith}
use Rattle.std.proofs.Math.Nat.{suc-mul}
use Rattle.std.proofs.Math.Seq.{drop-append_seam, take-append_seam}
use Rattle.std.proofs.lemmas.List.{length-take-le}
use Rattle.c_frames.specs.Stack.{Stack, calls_in, IsStacked}

-- how many calls there are
pub calls_count : (size depth : ℕ) (slots : List (Option ℕ)) → length (calls_in size depth slots) ≡ depth
unfolding calls_in
calls_count size zero slots = refl
calls_count size (suc depth) slots = ap suc (calls_count size depth (take (length slots - size) slots))

-- no call
pub calls_none : (size : ℕ) (slots : List (Option ℕ)) → calls_in size 0 slots ≡ []
unfolding calls_in
calls_none size slots = refl

-- one call more
pub calls_more : (size depth base : ℕ) (slots : List (Option ℕ)) → length slots ≡ base + size
    → calls_in size (suc depth) slots ≡ drop base slots ∷ calls_in size depth (take base slots)
unfolding calls_in
calls_more size depth base slots count =
    let e : length slots - size ≡ base = omega arith in
    ap (λ n. drop n slots ∷ calls_in size depth (take n slots)) e

-- a call below has its slots below
pub room_below : (size depth base : ℕ) → 0 < depth → base ≡ depth * size → size ≤ base
room_below size zero base h e = absurd (omega arith)
room_below size (suc depth) base h e = let m = suc-mul depth size in omega (arith, m, e)

at_most : (size depth most : ℕ) → depth ≤ most → depth * size ≤ most * size
at_most size zero most h = omega arith
at_most size (suc depth) zero h = absurd (omega arith)
at_most size (suc depth) (suc most) h =
    let a = suc-mul depth size in
    let b = suc-mul most size in
    let c = at_most size depth most (omega arith) in
    omega (arith, a, b, c)

-- one call more has room where fewer than 65,536 stand below
pub room_above : (size depth base count capacity shared : ℕ) → IsStacked size depth base count capacity shared → depth < 65536 → count + size ≤ capacity
room_above size depth base count capacity shared s lt =
    let a = suc-mul (suc depth) size in
    let b = suc-mul depth size in
    let most : suc (suc depth) ≤ 65537 = omega (arith, lt) in
    let c = at_most size (suc (suc depth)) 65537 most in
    omega (arith, a, b, c, s.below, s.whole, s.room)

-- one call more
pub stacked_more : (size depth base count capacity shared new capacity' : ℕ) → IsStacked size depth base count capacity shared → depth < 65536 → new ≡ count + size → capacity' ≡ capacity
    → IsStacked size (depth + 1) (base + size) new capacity' shared
stacked_more size depth base count capacity shared new capacity' s lt e f =
    let b = suc-mul depth size in
    let one : depth + 1 ≡ suc depth = omega arith in
    record {
      below = omega (arith, b, s.below) ∙ ap (λ d. d * size) (sym one);
      whole = omega (arith, e, s.whole);
      most = omega (arith, lt);
      room = omega (arith, s.room, f);
      small = s.small;
      globals = s.globals;
    }

-- one call fewer
pub stacked_less : (size depth base count capacity shared new capacity' : ℕ) → IsStacked size depth base count capacity shared → 0 < depth → new ≡ base → capacity' ≡ capacity
    → IsStacked size (depth - 1) (base - size) new capacity' shared
stacked_less size zero base count capacity shared new capacity' s lt e f = absurd (omega arith)
stacked_less size (suc depth) base count capacity shared new capacity' s lt e f =
    let b = suc-mul depth size in
    let one : suc depth - 1 ≡ depth = omega arith in
    let less : base - size ≡ depth * size = omega (arith, b, s.below) in
    record {
      below = less ∙ ap (λ d. d * size) (sym one);
      whole = omega (arith, b, s.below, e);
      most = omega (arith, s.most);
      room = omega (arith, s.room, f);
      small = s.small;
      globals = s.globals;
    }

-- what is shown once a call is opened
pub entered_is : (size depth base : ℕ) (slots new : List (Option ℕ)) (globals : List ℕ) → length slots ≡ base + size → new ≡ slots ++ replicate size None
    → (let shown : Stack = record { size = size; top = drop (base + size) new; below = calls_in size (depth + 1) (take (base + size) new); globals = globals } in shown)
    ≡ (let shown : Stack = record { size = size; top = replicate size None; below = drop base slots ∷ calls_in size depth (take base slots); globals = globals } in shown)
entered_is size depth base slots new globals count e =
    let fresh : List (Option ℕ) = replicate size None in
    let top : drop (base + size) new ≡ fresh = ap (drop (base + size)) e ∙ ap (λ n. drop n (slots ++ fresh)) (sym count) ∙ drop-append_seam slots fresh in
    let front : take (base + size) new ≡ slots = ap (take (base + size)) e ∙ ap (λ n. take n (slots ++ fresh)) (sym count) ∙ take-append_seam slots fresh in
    let one : depth + 1 ≡ suc depth = omega arith in
    let below : calls_in size (depth + 1) (take (base + size) new) ≡ drop base slots ∷ calls_in size depth (take base slots) =
    ap (λ d. calls_in size d (take (base + size) new)) one ∙ ap (calls_in size (suc depth)) front ∙ calls_more size depth base slots count in
    ap (λ t. shown t (calls_in size (depth + 1) (take (base + size) new))) top ∙ ap (shown fresh) below
  where
    shown : List (Option ℕ) → List (List (Option ℕ)) → Stack
    shown top below = record { size = size; top = top; below = below; globals = globals }

-- the calls below are the next one and those below it
pub left_is : (size depth base : ℕ) (slots new : List (Option ℕ)) → 0 < depth → base ≡ depth * size → base ≤ length slots → new ≡ take base slots
    → calls_in size depth (take base slots) ≡ drop (base - size) new ∷ calls_in size (depth - 1) (take (base - size) new)
left_is size zero base slots new lt e long same = absurd (omega arith)
left_is size (suc depth) base slots new lt e long same =
    let le : size ≤ base = room_below size (suc depth) base lt e in
    let len : length (take base slots) ≡ (base - size) + size = length-take-le base slots long ∙ omega (arith, le) in
    let one : depth ≡ suc depth - 1 = omega arith in
    calls_more size depth (base - size) (take base slots) len
    ∙ ap (λ xs. drop (base - size) xs ∷ calls_in size depth (take (base - size) xs)) (sym same)
    ∙ ap (λ d. drop (base - size) new ∷ calls_in size d (take (base - size) new)) one

-- what is shown at first
pub first_is : (size : ℕ) (slots new : List (Option ℕ)) (globals : List ℕ) → slots ≡ [] → new ≡ slots ++ replicate size None → globals ≡ replicate 260 0
    → (let shown : Stack = record { size = size; top = drop 0 new; below = calls_in size 0 (take 0 new); globals = globals } in shown)
    ≡ (let shown : Stack = record { size = size; top = replicate size None; below = []; globals = replicate 260 0 } in shown)
first_is size slots new globals none e f =
    let fresh : List (Option ℕ) = replicate size None in
    ap (λ t. shown t (calls_in size 0 (take 0 new)) globals) (e ∙ ap (λ xs. xs ++ fresh) none) ∙ ap (λ b. shown fresh b globals) (calls_none size (take 0 new)) ∙ ap (shown fresh []) f
  where
    shown : List (Option ℕ) → List (List (Option ℕ)) → List ℕ → Stack
    shown top below globals = record { size = size; top = top; below = below; globals = globals }
