-- The steps of building a tree.
use Rattle.std.proofs.Common.{◌≡◌, ℕ, suc, ◌+◌, ◌*◌, ◌<◌, ◌≤◌, List, [], ◌∷◌, ◌++◌, length, length-append, get_or, slice_get, map, Some, Result, Ok, Err, IfOk, refl, sym, ◌∙◌, ap, subst, arith, below_more, option_map}
use Rattle.std.proofs.lemmas.Option.{slice_get-map, slice_get_within, get_or_from_slice_get}
use Rattle.std.proofs.lemmas.List.{get_or_append_left, get_or_default}
use Rattle.std.proofs.Math.Seq.{get_or-append_seam}
use Rattle.std.specs.declared.alloc.AllocError.{AllocError}
use Rattle.sled_match.specs.declared.tree.Node.{Node}
use Rattle.sled_match.specs.declared.tree.Node.TheVariants.{Leaf, Inner}
use Rattle.sled_match.specs.Pruned.{Pruning, kept, IsNodeOf, IsTreeOf}
use Rattle.sled_match.specs.Split.{IsSplit, IsListOf}
use Rattle.sled_match.specs.TreeSizes.{AreAdded}
use Rattle.sled_match.proofs.TreeLaws.{slice_get-grown, IsTreeOf-grown}
use Rattle.sled_match.proofs.TreeBounds.{added-leaf, added-inner}

pub slice_get-seam : {X : Type 0} → (xs : List X) (x : X) → slice_get (xs ++ x ∷ []) (length xs) ≡ Some x
slice_get-seam [] x = refl
slice_get-seam (y ∷ xs) x = slice_get-seam xs x

-- ---- splits

pub IsSplit-none : (allows : Pruning) (place : ℕ) (cs : List ℕ) → IsSplit allows place cs [] [] 0
IsSplit-none allows place cs = record { count = refl; few = omega arith; each = λ k h. absurd (omega (arith, h)) }

-- the next key leaves a list that is there
pub IsSplit-old : (allows : Pruning) (place : ℕ) (cs : List ℕ) (lists : List (List ℕ)) (index : List ℕ) (n at : ℕ) → IsSplit allows place cs lists index n
    → slice_get lists at ≡ Some (kept allows place n cs) → IsSplit allows place cs lists (index ++ at ∷ []) (n + 1)
IsSplit-old allows place cs lists index n at h e = record {
  count = length-append index (at ∷ []) ∙ ap (λ m. m + 1) h.count;
  few = omega (arith, h.few);
  each = below_more (IsListOf allows place cs lists (index ++ at ∷ [])) n
      (λ k lt. let (j, p, q) = h.each k lt in (j, slice_get-grown index (at ∷ []) k j p, q))
      (at, subst (λ m. slice_get (index ++ at ∷ []) m ≡ Some at) h.count (slice_get-seam index at), e);
}

-- the next key leaves a new list
pub IsSplit-new : (allows : Pruning) (place : ℕ) (cs : List ℕ) (lists : List (List ℕ)) (index : List ℕ) (n : ℕ) (mine : List ℕ) → IsSplit allows place cs lists index n
    → mine ≡ kept allows place n cs → IsSplit allows place cs (lists ++ mine ∷ []) (index ++ length lists ∷ []) (n + 1)
IsSplit-new allows place cs lists index n mine h e =
    let longer : length (lists ++ mine ∷ []) ≡ length lists + 1 = length-append lists (mine ∷ []) in record {
      count = length-append index (length lists ∷ []) ∙ ap (λ m. m + 1) h.count;
      few = omega (arith, h.few, longer);
      each = below_more (IsListOf allows place cs (lists ++ mine ∷ []) (index ++ length lists ∷ [])) n
          (λ k lt. let (j, p, q) = h.each k lt in
          (j, slice_get-grown index (length lists ∷ []) k j p, slice_get-grown lists (mine ∷ []) j (kept allows place k cs) q)) (
            length lists,
            subst (λ m. slice_get (index ++ length lists ∷ []) m ≡ Some (length lists)) h.count (slice_get-seam index (length lists)),
            slice_get-seam lists mine ∙ ap Some e,
          );
    }

-- a split at equal lists
pub IsSplit-by : (allows : Pruning) (place : ℕ) (cs : List ℕ) (lists kin : List (List ℕ)) (index same : List ℕ) (n : ℕ) → lists ≡ kin → index ≡ same
    → IsSplit allows place cs kin same n → IsSplit allows place cs lists index n
IsSplit-by allows place cs lists kin index same n e f h =
    subst (λ xs. IsSplit allows place cs xs index n) (sym e) (subst (λ xs. IsSplit allows place cs kin xs n) (sym f) h)

-- ---- trees

-- a node is added at the end
abbrev pub IsPut : List Node → List Node → Node → ℕ → Type 0
IsPut old new n at = (at ≡ length old) × (new ≡ old ++ n ∷ [])

pub IsTreeOf-put : (levels : ℕ) (allows : Pruning) (old new : List Node) (n : Node) (at : ℕ) (cs : List ℕ) → IsPut old new n at
    → IsNodeOf (IsTreeOf levels allows new) allows cs n → IsTreeOf (suc levels) allows new at cs
unfolding IsTreeOf
IsTreeOf-put levels allows old new n at cs added h =
    (n, ap (slice_get new) added.0 ∙ ap (λ xs. slice_get xs (length old)) added.1 ∙ slice_get-seam old n, h)

-- a leaf that lists all is a tree
pub leaf_put : (levels : ℕ) (allows : Pruning) (old new : List Node) (ds cs : List ℕ) (r : Result ℕ AllocError) → ds ≡ cs
    → IfOk r (IsPut old new (Leaf ds)) → IfOk r (λ at. AreAdded levels 1 (length cs) old new × IsTreeOf (suc levels) allows new at cs)
leaf_put levels allows old new ds cs (Ok at) e h =
    (subst (λ xs. AreAdded levels 1 (length xs) old new) e (added-leaf levels old new ds h.1), IsTreeOf-put levels allows old new (Leaf ds) at cs h e)
leaf_put levels allows old new ds cs (Err f) e h = tt

-- the children so far are trees of the lists so far
abbrev pub AreTreesOf : ℕ → Pruning → List Node → List ℕ → List (List ℕ) → ℕ → Type 0
AreTreesOf levels allows nodes children lists i = (j : ℕ) → j < i → IsTreeOf levels allows nodes (get_or children j 0) (get_or lists j [])

pub AreTreesOf-more : (levels : ℕ) (allows : Pruning) (old new more : List Node) (children : List ℕ) (lists : List (List ℕ)) (i child : ℕ) (list : List ℕ)
    → new ≡ old ++ more → length children ≡ i → AreTreesOf levels allows old children lists i → IsTreeOf levels allows new child list → i < length lists → list ≡ get_or lists i list
    → AreTreesOf levels allows new (children ++ child ∷ []) lists (i + 1)
AreTreesOf-more levels allows old new more children lists i child list g e trees tree lt is =
    below_more (λ j. IsTreeOf levels allows new (get_or (children ++ child ∷ []) j 0) (get_or lists j [])) i
    (λ j h. let p : get_or (children ++ child ∷ []) j 0 ≡ get_or children j 0 = get_or_append_left children (child ∷ []) 0 j (omega (arith, h, e)) in
    subst (λ at. IsTreeOf levels allows new at (get_or lists j [])) (sym p) (IsTreeOf-grown levels allows old new more (get_or children j 0) (get_or lists j []) g (trees j h)))
    (let p : get_or (children ++ child ∷ []) i 0 ≡ child = subst (λ m. get_or (children ++ child ∷ []) m 0 ≡ child) e (get_or-append_seam children child [] 0) in
    let q : list ≡ get_or lists i [] = is ∙ get_or_default lists i list [] lt in
    subst (λ at. IsTreeOf levels allows new at (get_or lists i [])) (sym p) (subst (IsTreeOf levels allows new child) q tree))

-- an inner node whose branches lead to the trees of a split's lists
pub inner_put : (levels : ℕ) (allows : Pruning) (first old new : List Node) (place : ℕ) (cs : List ℕ) (lists : List (List ℕ)) (index children branches : List ℕ)
    (trees m : ℕ) (r : Result ℕ AllocError) → 4 < length cs → trees ≤ length cs → m ≤ 2 * length cs → IsSplit allows place cs lists index 257
    → AreAdded levels trees m first old → AreTreesOf (suc levels) allows old children lists (length lists)
    → branches ≡ map (λ at. get_or children at 0) index → IfOk r (IsPut old new (Inner place branches))
    → IfOk r (λ at. AreAdded (suc levels) 1 (length cs) first new × IsTreeOf (suc (suc levels)) allows new at cs)
inner_put levels allows first old new place cs lists index children branches trees m (Err f) many few twice split g all e h = tt
inner_put levels allows first old new place cs lists index children branches trees m (Ok at) many few twice split g all e h = (
  added-inner levels trees m (length cs) place branches first old new many few twice g h.1,
  IsTreeOf-put (suc levels) allows old new (Inner place branches) at cs h
      (λ k lt. let (j, p, q) = split.each k lt in
      let f : slice_get branches k ≡ Some (get_or children j 0) = ap (λ xs. slice_get xs k) e ∙ slice_get-map (λ at. get_or children at 0) index k ∙ ap (λ o. option_map (λ at. get_or children at 0) o) p in
      let s : get_or lists j [] ≡ kept allows place k cs = get_or_from_slice_get lists j (kept allows place k cs) [] q in (
        get_or children j 0,
        f,
        subst (IsTreeOf (suc levels) allows new (get_or children j 0)) s
            (IsTreeOf-grown (suc levels) allows old new (Inner place branches ∷ []) (get_or children j 0) (get_or lists j []) h.1 (all j (slice_get_within lists j (kept allows place k cs) q))),
      )),
)
