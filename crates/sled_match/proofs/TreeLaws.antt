-- What holds of trees: they list what a scan needs, and stay when nodes are added.
use Rattle.std.proofs.Common.{◌≡◌, ◌≢◌, ℕ, zero, suc, ◌-◌, ◌<◌, ◌≤◌, Bool, true, false, List, [], ◌∷◌, ◌++◌, slice_get, Option, None, Some, All, refl, sym, ◌∙◌, ap, arith}
use Rattle.std.proofs.lemmas.Option.{slice_get_within}
use Rattle.std.specs.List.{filter}
use Rattle.std.specs.Option.{option_or}
use Rattle.sled_match.specs.declared.tree.Node.{Node}
use Rattle.sled_match.specs.declared.tree.Node.TheVariants.{Leaf, Inner}
use Rattle.sled_match.specs.Tree.{key, along, at_node, listed}
use Rattle.rtl_core.specs.Matching.{Taken, first_matching}
use Rattle.sled_match.specs.Pruned.{Pruning, kept, IsNodeOf, IsTreeOf, IsSound}

-- one level
pub listed-some : (levels : ℕ) (nodes : List Node) (at : ℕ) (bytes : List ℕ) → 0 < levels
    → listed levels nodes at bytes ≡ at_node (λ next. listed (levels - 1) nodes next bytes) bytes (slice_get nodes at)
unfolding listed
listed-some zero nodes at bytes h = absurd (omega arith)
listed-some (suc n) nodes at bytes h = let p : suc n - 1 ≡ n = omega arith in ap (λ m. at_node (λ next. listed m nodes next bytes) bytes (slice_get nodes at)) (sym p)

pub listed-zero : (levels : ℕ) (nodes : List Node) (at : ℕ) (bytes : List ℕ) → levels ≤ 0 → listed levels nodes at bytes ≡ []
unfolding listed
listed-zero zero nodes at bytes h = refl
listed-zero (suc n) nodes at bytes h = absurd (omega arith)

-- the ways that a walk goes at a node
pub listed-none : (levels : ℕ) (nodes : List Node) (at : ℕ) (bytes : List ℕ) → 0 < levels → None ≡ slice_get nodes at → listed levels nodes at bytes ≡ []
listed-none levels nodes at bytes h e = listed-some levels nodes at bytes h ∙ ap (at_node (λ next. listed (levels - 1) nodes next bytes) bytes) (sym e)

pub listed-leaf : (levels : ℕ) (nodes : List Node) (at : ℕ) (bytes cs : List ℕ) → 0 < levels → Some (Leaf cs) ≡ slice_get nodes at → listed levels nodes at bytes ≡ cs
listed-leaf levels nodes at bytes cs h e = listed-some levels nodes at bytes h ∙ ap (at_node (λ next. listed (levels - 1) nodes next bytes) bytes) (sym e)

pub listed-inner : (levels : ℕ) (nodes : List Node) (at : ℕ) (bytes : List ℕ) (place : ℕ) (branches : List ℕ) (o : Option ℕ) → 0 < levels
    → Some (Inner place branches) ≡ slice_get nodes at → o ≡ slice_get branches (key place bytes)
    → listed levels nodes at bytes ≡ along (λ next. listed (levels - 1) nodes next bytes) o
listed-inner levels nodes at bytes place branches o h e f =
    listed-some levels nodes at bytes h
    ∙ ap (at_node (λ next. listed (levels - 1) nodes next bytes) bytes) (sym e)
    ∙ ap (along (λ next. listed (levels - 1) nodes next bytes)) (sym f)

-- the key at a place of bytes is one of 257
pub key-below : (place : ℕ) (bytes : List ℕ) → All (λ b. b < 256) bytes → key place bytes < 257
key-below place [] all = omega arith
key-below zero (b ∷ bs) all = let h : b < 256 = all 0 b (omega arith) in omega (arith, h)
key-below (suc place) (b ∷ bs) all = key-below place bs (λ k d h. all (suc k) d (omega (arith, h)))

-- leaving out what takes nothing
pub first_matching-filter : (p : ℕ → Bool) (taken : ℕ → Option Taken) → ((c : ℕ) → p c ≢ true → taken c ≡ None) → (cs : List ℕ)
    → first_matching taken (filter p cs) ≡ first_matching taken cs
first_matching-filter p taken sound [] = refl
first_matching-filter p taken sound (c ∷ cs) = by_case (p c) refl (first_matching-filter p taken sound cs)
  where
    by_case : (b : Bool) → p c ≡ b → first_matching taken (filter p cs) ≡ first_matching taken cs → first_matching taken (filter p (c ∷ cs)) ≡ first_matching taken (c ∷ cs)
    by_case true e ih = rw e (ap (λ o. option_or (taken c) o) ih)
    by_case false e ih = let no : taken c ≡ None = sound c (λ t. let q : true ≡ false = sym t ∙ e in cc) in rw (e, no) ih

-- what a node lists, where the nodes below it list what a scan needs
pub at_node-scan : (allows : Pruning) (taken : ℕ → List ℕ → Option Taken) → IsSound allows taken → (bytes : List ℕ) → All (λ b. b < 256) bytes
    → (below : ℕ → List ℕ) (is : ℕ → List ℕ → Type 0)
    → ((next : ℕ) (cs : List ℕ) → is next cs → first_matching (λ c. taken c bytes) (below next) ≡ first_matching (λ c. taken c bytes) cs)
    → (n : Node) (cs : List ℕ) → IsNodeOf is allows cs n
    → first_matching (λ c. taken c bytes) (at_node below bytes (Some n)) ≡ first_matching (λ c. taken c bytes) cs
at_node-scan allows taken sound bytes fits below is ih (Leaf ds) cs h = ap (first_matching (λ c. taken c bytes)) h
at_node-scan allows taken sound bytes fits below is ih (Inner place branches) cs h =
    let (next, e, t) = h (key place bytes) (key-below place bytes fits) in
    ap (λ o. first_matching (λ c. taken c bytes) (along below o)) e
    ∙ ih next (kept allows place (key place bytes) cs) t
    ∙ first_matching-filter (λ c. allows c place (key place bytes)) (λ c. taken c bytes) (λ c no. sound c place bytes fits no) cs

-- the first that the tree lists and that takes anything is the first of all
pub listed-scan : (allows : Pruning) (taken : ℕ → List ℕ → Option Taken) → IsSound allows taken → (bytes : List ℕ) → All (λ b. b < 256) bytes
    → (levels : ℕ) (nodes : List Node) (at : ℕ) (cs : List ℕ) → IsTreeOf levels allows nodes at cs
    → first_matching (λ c. taken c bytes) (listed levels nodes at bytes) ≡ first_matching (λ c. taken c bytes) cs
unfolding listed IsTreeOf
listed-scan allows taken sound bytes fits zero nodes at cs h = absurd h
listed-scan allows taken sound bytes fits (suc levels) nodes at cs h =
    let (n, e, t) = h in
    ap (λ o. first_matching (λ c. taken c bytes) (at_node (λ next. listed levels nodes next bytes) bytes o)) e
    ∙ at_node-scan allows taken sound bytes fits (λ next. listed levels nodes next bytes) (IsTreeOf levels allows nodes)
    (λ next ds u. listed-scan allows taken sound bytes fits levels nodes next ds u) n cs t

-- ---- adding nodes

pub slice_get-grown : {X : Type 0} → (xs ys : List X) (i : ℕ) (x : X) → slice_get xs i ≡ Some x → slice_get (xs ++ ys) i ≡ Some x
slice_get-grown [] ys i x e = absurd (omega (arith, slice_get_within [] i x e))
slice_get-grown (y ∷ xs) ys zero x e = e
slice_get-grown (y ∷ xs) ys (suc i) x e = slice_get-grown xs ys i x e

pub IsNodeOf-mono : (below above : ℕ → List ℕ → Type 0) (allows : Pruning) → ((next : ℕ) (cs : List ℕ) → below next cs → above next cs)
    → (n : Node) (cs : List ℕ) → IsNodeOf below allows cs n → IsNodeOf above allows cs n
IsNodeOf-mono below above allows up (Leaf ds) cs h = h
IsNodeOf-mono below above allows up (Inner place branches) cs h = λ k lt. let (next, e, t) = h k lt in (next, e, up next (kept allows place k cs) t)

pub IsTreeOf-grown : (levels : ℕ) (allows : Pruning) (nodes new more : List Node) (at : ℕ) (cs : List ℕ) → new ≡ nodes ++ more → IsTreeOf levels allows nodes at cs
    → IsTreeOf levels allows new at cs
unfolding IsTreeOf
IsTreeOf-grown zero allows nodes new more at cs p h = absurd h
IsTreeOf-grown (suc levels) allows nodes new more at cs p h =
    let (n, e, t) = h in (
      n,
      ap (λ xs. slice_get xs at) p ∙ slice_get-grown nodes more at n e,
      IsNodeOf-mono (IsTreeOf levels allows nodes) (IsTreeOf levels allows new) allows (λ next ds u. IsTreeOf-grown levels allows nodes new more next ds p u) n cs t,
    )
