use Rattle.std.proofs.Common.{◌≡◌, ℕ, ◌+◌, ◌<◌, ◌≤◌, sum_by, Bool, true, false, cond, List, [], ◌∷◌, ◌++◌, length, take, get_or, max, count_by, refl, sym, ap, ◌∙◌, arith, add-zero}
use Rattle.std.proofs.lemmas.List.{take_more, length-take}
use Rattle.std.proofs.lemmas.List.Sums.{count_by_more_yes, count_by_more_no, count_by-le-length, get_or-le-sum_by}
use Rattle.sled_match.specs.declared.tree.Node.{Node}
use Rattle.sled_match.specs.TreeSizes.{is_inner, is_leaf, held, longest}
use Rattle.sled_match.proofs.tree.Tree.measured.Goals as goal

count_more : (p : Node → Bool) (xs : List Node) (i : ℕ) (n : Node) → i < length xs → n ≡ get_or xs i n
    → count_by p (take (i + 1) xs) ≡ count_by p (take i xs) + count_by p (n ∷ [])
count_more p xs i n h is = by_case (p n) refl
  where
    by_case : (b : Bool) → p n ≡ b → count_by p (take (i + 1) xs) ≡ count_by p (take i xs) + count_by p (n ∷ [])
    by_case true e =
        let q : count_by p (n ∷ []) ≡ 1 = ap (λ b. 0 + cond b 1 0) e in
        count_by_more_yes p xs i n h (ap p (sym is) ∙ e) ∙ ap (λ m. count_by p (take i xs) + m) (sym q)
    by_case false e =
        let q : count_by p (n ∷ []) ≡ 0 = ap (λ b. 0 + cond b 1 0) e in
        count_by_more_no p xs i n h (ap p (sym is) ∙ e) ∙ sym (add-zero (count_by p (take i xs))) ∙ ap (λ m. count_by p (take i xs) + m) (sym q)

longest-append : (xs : List Node) (n : Node) → longest (xs ++ n ∷ []) ≡ max (held n) (longest xs)
longest-append [] n = omega arith
longest-append (x ∷ xs) n = omega (arith, longest-append xs n)

longest_more : (xs : List Node) (i : ℕ) (n : Node) → i < length xs → n ≡ get_or xs i n → longest (take (i + 1) xs) ≡ max (held n) (longest (take i xs))
longest_more xs i n h e = ap longest (take_more xs i n h ∙ ap (λ y. take i xs ++ y ∷ []) (sym e)) ∙ longest-append (take i xs) n

-- no more of the nodes so far pass a test than there are
count_few : (p : Node → Bool) (xs : List Node) (i : ℕ) → count_by p (take i xs) ≤ i
count_few p xs i = omega (arith, count_by-le-length p (take i xs), length-take i xs)

pub with-size-requires-clause-inner : goal.with-size-requires-clause-inner
with-size-requires-clause-inner c =
    let e : length c.as_slice-node-items.result.now ≡ length c.args.self.now.nodes = ap length c.as_slice-node-items.ensures in
    omega (arith, e, c.loop-node.invariant.0, count_few is_inner c.as_slice-node-items.result.now c.loop-node.node-index, c.loop-node-test.true, c.requires.few)

pub with-size-requires-clause-leaves : goal.with-size-requires-clause-leaves
with-size-requires-clause-leaves c =
    let e : length c.as_slice-node-items.result.now ≡ length c.args.self.now.nodes = ap length c.as_slice-node-items.ensures in
    omega (arith, e, c.loop-node.invariant.1, count_few is_leaf c.as_slice-node-items.result.now c.loop-node.node-index, c.loop-node-test.true, c.requires.few)

pub with-size-requires-clause-short : goal.with-size-requires-clause-short
with-size-requires-clause-short c =
    let p : held c.node-item.result ≡ held (get_or c.as_slice-node-items.result.now c.loop-node.node-index c.node-item.result) = ap held c.node-item.is in
    let q : sum_by held c.as_slice-node-items.result.now ≡ sum_by held c.args.self.now.nodes = ap (sum_by held) c.as_slice-node-items.ensures in
    omega (arith, p, q, get_or-le-sum_by held c.as_slice-node-items.result.now c.loop-node.node-index c.node-item.result c.loop-node-test.true, c.requires.short)

pub loop-node-preserved : goal.loop-node-preserved
loop-node-preserved c = (
  c.with-size.ensures.inner ∙ ap (λ m. m + count_by is_inner (c.node-item.result ∷ [])) c.loop-node.invariant.0
      ∙ sym (count_more is_inner c.as_slice-node-items.result.now c.loop-node.node-index c.node-item.result c.loop-node-test.true c.node-item.is),
  c.with-size.ensures.leaves ∙ ap (λ m. m + count_by is_leaf (c.node-item.result ∷ [])) c.loop-node.invariant.1
      ∙ sym (count_more is_leaf c.as_slice-node-items.result.now c.loop-node.node-index c.node-item.result c.loop-node-test.true c.node-item.is),
  c.with-size.ensures.longest ∙ ap (max (held c.node-item.result)) c.loop-node.invariant.2
      ∙ sym (longest_more c.as_slice-node-items.result.now c.loop-node.node-index c.node-item.result c.loop-node-test.true c.node-item.is),
)
