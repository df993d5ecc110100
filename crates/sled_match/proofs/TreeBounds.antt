-- How many nodes and entries a tree adds.
use Rattle.std.proofs.Common.{◌≡◌, ℕ, zero, suc, ◌+◌, ◌*◌, ◌^◌, ◌<◌, ◌≤◌, List, [], ◌∷◌, ◌++◌, length, take, get_or, count_by, sum_by, cond, length-append, append-nil, append_assoc, refl, sym, ◌∙◌, ap, subst, arith, All, ◌-◌, slice_get, Option, None, Some}
use Rattle.std.proofs.lemmas.List.Sums.{sum_by-append, sum_by_more, sum_by_more_le, sum_by-take-le}
use Rattle.std.proofs.lemmas.List.Elements.{All-weaker}
use Rattle.std.specs.Option.{unwrap_or}
use Rattle.rtl_core.specs.declared.encodings.Encodings.{Encodings}
use Rattle.rtl_core.specs.SoundEncodings.{Rises, IsSoundEncodings}
use Rattle.sled_match.specs.Walks.{instructions}
use Rattle.sled_match.specs.declared.tree.Node.{Node}
use Rattle.sled_match.specs.declared.tree.Node.TheVariants.{Leaf, Inner}
use Rattle.sled_match.specs.Split.{IsSmallSplit}
use Rattle.sled_match.specs.TreeSizes.{is_inner, held, room, AreAdded, IsSmallTree}

-- ---- room

pub room-plus : (levels a b : ℕ) → room levels (a + b) ≡ room levels a + room levels b
room-plus zero a b = refl
room-plus (suc levels) a b = omega (arith, room-plus levels a b)

pub room-twice : (levels m n : ℕ) → m ≤ 2 * n → room levels m ≤ 2 * room levels n
room-twice zero m n h = omega arith
room-twice (suc levels) m n h = omega (arith, h, room-twice levels m n h)

pub room-some : (levels n : ℕ) → 0 < levels → n ≤ room levels n
room-some zero n h = absurd (omega (arith, h))
room-some (suc levels) n h = omega arith

-- ---- what is added

pub added-none : (levels : ℕ) (nodes : List Node) → AreAdded levels 0 0 nodes nodes
added-none levels nodes = record { more = []; is = sym (append-nil nodes); inner = omega arith; few = omega arith; listed = omega arith }

pub added-both : (levels t u m n : ℕ) (old mid new : List Node) → AreAdded levels t m old mid → AreAdded levels u n mid new → AreAdded levels (t + u) (m + n) old new
added-both levels t u m n old mid new g h =
    let p : room levels (m + n) ≡ room levels m + room levels n = room-plus levels m n in
    let i : count_by is_inner (g.more ++ h.more) ≡ count_by is_inner g.more + count_by is_inner h.more = sum_by-append (λ x. cond (is_inner x) 1 0) g.more h.more in
    let l : length (g.more ++ h.more) ≡ length g.more + length h.more = length-append g.more h.more in
    let k : sum_by held (g.more ++ h.more) ≡ sum_by held g.more + sum_by held h.more = sum_by-append held g.more h.more in record {
      more = g.more ++ h.more;
      is = h.is ∙ ap (λ xs. xs ++ h.more) g.is ∙ append_assoc old g.more h.more;
      inner = omega (arith, p, i, g.inner, h.inner);
      few = omega (arith, p, l, g.few, h.few);
      listed = omega (arith, p, k, g.listed, h.listed);
    }

pub added-leaf : (levels : ℕ) (old new : List Node) (ds : List ℕ) → new ≡ old ++ Leaf ds ∷ [] → AreAdded levels 1 (length ds) old new
added-leaf levels old new ds e = record { more = Leaf ds ∷ []; is = e; inner = omega arith; few = omega arith; listed = omega arith }

pub added-inner : (below trees m n place : ℕ) (branches : List ℕ) (first old new : List Node) → 4 < n → trees ≤ n → m ≤ 2 * n → AreAdded below trees m first old
    → new ≡ old ++ Inner place branches ∷ [] → AreAdded (suc below) 1 n first new
added-inner below trees m n place branches first old new many t h g e =
    let p : room below m ≤ 2 * room below n = room-twice below m n h in
    let i : count_by is_inner (g.more ++ Inner place branches ∷ []) ≡ count_by is_inner g.more + 1 = sum_by-append (λ x. cond (is_inner x) 1 0) g.more (Inner place branches ∷ []) in
    let l : length (g.more ++ Inner place branches ∷ []) ≡ length g.more + 1 = length-append g.more (Inner place branches ∷ []) in
    let k : sum_by held (g.more ++ Inner place branches ∷ []) ≡ sum_by held g.more + 0 = sum_by-append held g.more (Inner place branches ∷ []) in record {
      more = g.more ++ Inner place branches ∷ [];
      is = e ∙ ap (λ xs. xs ++ Inner place branches ∷ []) g.is ∙ append_assoc first g.more (Inner place branches ∷ []);
      inner = omega (arith, p, i, g.inner, many);
      few = omega (arith, p, l, g.few, t);
      listed = omega (arith, p, k, g.listed, h);
    }

-- the lists so far, with one more
pub lists_more : (lists : List (List ℕ)) (i : ℕ) (list : List ℕ) → i < length lists → list ≡ get_or lists i list
    → sum_by length (take (i + 1) lists) ≡ sum_by length (take i lists) + length list
lists_more lists i list h e = sum_by_more length lists i list h ∙ ap (λ x. sum_by length (take i lists) + length x) (sym e)

-- the lists so far of a small split
pub small_so_far : (n i : ℕ) (lists : List (List ℕ)) → IsSmallSplit n lists → i ≤ length lists → (i ≤ n) × (sum_by length (take i lists) ≤ 2 * n)
small_so_far n i lists small h = (omega (arith, small.fewer, h), omega (arith, small.held, sum_by-take-le length lists i))

added-length : (levels t m : ℕ) (old new : List Node) → AreAdded levels t m old new → length new ≤ length old + (t + room levels m)
added-length levels t m old new g =
    let e : length new ≡ length old + length g.more = ap length g.is ∙ length-append old g.more in omega (arith, e, g.few)

-- there is room for the tree of one more list
pub room_left : (below i n : ℕ) (first nodes : List Node) (lists : List (List ℕ)) (list : List ℕ) → IsSmallSplit n lists
    → AreAdded below i (sum_by length (take i lists)) first nodes → i < length lists → list ≡ get_or lists i list
    → length first + (1 + room (suc below) n) < 2 ^ 32 → length nodes + (1 + room below (length list)) < 2 ^ 32
room_left below i n first nodes lists list small g lt is h =
    let s : ℕ = sum_by length (take i lists) in
    let q : length list ≡ length (get_or lists i list) = ap length is in
    let sum : s + length (get_or lists i list) ≤ sum_by length lists = sum_by_more_le length lists i list lt in
    let p : room below (s + length list) ≡ room below s + room below (length list) = room-plus below s (length list) in
    let t : room below (s + length list) ≤ 2 * room below n = room-twice below (s + length list) n (omega (arith, q, sum, small.held)) in
    omega (arith, p, t, added-length below i s first nodes g, small.fewer, lt, h)

-- there is room for the node above them
pub room_above : (below i n : ℕ) (first nodes : List Node) (lists : List (List ℕ)) → IsSmallSplit n lists
    → AreAdded below i (sum_by length (take i lists)) first nodes → i ≤ length lists
    → length first + (1 + room (suc below) n) < 2 ^ 32 → length nodes < 2 ^ 32
room_above below i n first nodes lists small g le h =
    let s : ℕ = sum_by length (take i lists) in
    let (few, twice) = small_so_far n i lists small le in
    omega (arith, room-twice below s n twice, added-length below i s first nodes g, few, h)

-- numbers that rise and are below n are at most n
pub rises-few : (lo n : ℕ) (cs : List ℕ) → Rises cs → All (λ c. c < n) cs → All (λ c. lo ≤ c) cs → lo ≤ n → length cs ≤ n - lo
rises-few lo n [] r h l e = omega arith
rises-few lo n (c ∷ cs) r h l e =
    let below : c < n = h 0 c (omega arith) in
    let from : lo ≤ c = l 0 c (omega arith) in
    let rest : length cs ≤ n - (c + 1) = rises-few (c + 1) n cs r.1 (λ k d lt. h (suc k) d (omega (arith, lt)))
    (λ k d lt. let s : c < get_or cs k d = r.0 k d lt in omega (arith, s)) (omega (arith, below)) in
    omega (arith, rest, below, from)

pub instructions-few : (enc : Encodings) → IsSoundEncodings enc → length (instructions enc) ≤ 4096
instructions-few enc sound = at_type (slice_get enc.types 0) refl
  where
    at_type : (o : Option (List ℕ)) → slice_get enc.types 0 ≡ o → length (unwrap_or o []) ≤ 4096
    at_type None e = omega arith
    at_type (Some cs) e =
        let (rises, all) = sound.types.each 0 cs e in
        let few : length cs ≤ length enc.constructors - 0 = rises-few 0 (length enc.constructors) cs rises
        (All-weaker (λ c. (c < length enc.constructors) × (sound.types.type_of c ≡ 0)) (λ c. c < length enc.constructors) (λ c p. p.0) cs all)
        (λ k d lt. omega arith) (omega arith) in
        omega (arith, few, sound.count)

-- a whole tree
pub small-tree : (n : ℕ) (nodes : List Node) → AreAdded 3 1 n [] nodes → IsSmallTree n nodes
small-tree n nodes g = record {
  inner = subst (λ xs. 5 * count_by is_inner xs ≤ 7 * n) (sym g.is) (omega (arith, g.inner));
  few = subst (λ xs. length xs ≤ 1 + 7 * n) (sym g.is) (omega (arith, g.few));
  listed = subst (λ xs. sum_by held xs ≤ 8 * n) (sym g.is) (omega (arith, g.listed));
}
