-- What was written when a loop over a list is at a place.
use Rattle.std.proofs.Common.{◌≡◌, ℕ, ◌+◌, ◌<◌, ◌≤◌, zero, suc, List, [], ◌∷◌, ◌++◌, length, take, drop, get_or, refl, sym, ap, ◌∙◌, arith, append_assoc}
use Rattle.std.specs.List.{flat_map}
use Rattle.std.proofs.lemmas.List.{append-nil, take_all}
use Rattle.edge_io.specs.Output.{Output}
use Rattle.c_text.specs.Tokens.{Token}
use Rattle.c_lang.specs.declared.tree.CSeg.{CSeg}
use Rattle.c_lang.specs.Items.{Segment, segment_array}
use Rattle.c_lang.specs.declared.tree.Var.TheVariants.{Temp}
use Rattle.c_text.specs.Functions.{local_toks, temps_toks}
use Rattle.c_text.specs.Items.{item_toks}
use Rattle.c_text.proofs.Parts.{segments_toks}
use Rattle.c_text.specs.Output.{Wrote, Broke}
use Rattle.c_text.proofs.Written.{wrote_both, broke_then, broke_here, wrote_as, broke_as}

module _ {X : Type 0} (f : X → List Token) where
  flat_map_next : (xs : List X) (i : ℕ) (d : X) → i < length xs → flat_map f (take (i + 1) xs) ≡ flat_map f (take i xs) ++ f (get_or xs i d)
  flat_map_next [] i d l = absurd (omega arith)
  flat_map_next (x ∷ xs) zero d l = append-nil (f x)
  flat_map_next (x ∷ xs) (suc i) d l = let e : suc i + 1 ≡ suc (i + 1) = omega arith in rw e (ap (λ ts. f x ++ ts) (flat_map_next xs i d (omega arith)) ∙ sym (append_assoc (f x) (flat_map f (take i xs)) (f (get_or xs i d))))

  flat_map_split : (xs : List X) (i : ℕ) (d : X) → i < length xs → flat_map f xs ≡ flat_map f (take i xs) ++ (f (get_or xs i d) ++ flat_map f (drop (suc i) xs))
  flat_map_split [] i d l = absurd (omega arith)
  flat_map_split (x ∷ xs) zero d l = refl
  flat_map_split (x ∷ xs) (suc i) d l = ap (λ ts. f x ++ ts) (flat_map_split xs i d (omega arith)) ∙ sym (append_assoc (f x) (flat_map f (take i xs)) (f (get_or xs i d) ++ flat_map f (drop (suc i) xs)))

  -- the next element was written, too
  pub wrote_next : {o p q : Output} (xs : List X) (i : ℕ) (d : X) → i < length xs → Wrote o p (flat_map f (take i xs)) → Wrote p q (f (get_or xs i d)) → Wrote o q (flat_map f (take (i + 1) xs))
  wrote_next xs i d l a b = wrote_as (flat_map_next xs i d l) (wrote_both a b)

  -- writing the next element broke off
  pub broke_next : {o p q : Output} (xs : List X) (i : ℕ) (d : X) → i < length xs → Wrote o p (flat_map f (take i xs)) → Broke p q (f (get_or xs i d)) → Broke o q (flat_map f xs)
  broke_next xs i d l a b = broke_as (flat_map_split xs i d l) (broke_then a (broke_here _ b))

  -- all were written
  pub wrote_end : {o q : Output} (xs : List X) (i : ℕ) → length xs ≤ i → Wrote o q (flat_map f (take i xs)) → Wrote o q (flat_map f xs)
  wrote_end xs i l a = wrote_as (ap (flat_map f) (sym (take_all i xs l))) a

temps_next : (k i : ℕ) → temps_toks k (i + 1) ≡ temps_toks k i ++ local_toks (Temp (k + i))
temps_next k zero = let e : k ≡ k + 0 = omega arith in ap (λ j. local_toks (Temp j)) e
temps_next k (suc i) =
    let e : suc i + 1 ≡ suc (i + 1) = omega arith in
    let j : k + 1 + i ≡ k + suc i = omega arith in
    rw e (ap (λ ts. local_toks (Temp k) ++ ts) (temps_next (k + 1) i ∙ ap (λ m. temps_toks (k + 1) i ++ local_toks (Temp m)) j))

temps_split : (k i n : ℕ) → i < n → (rest : List Token) × (temps_toks k n ≡ temps_toks k i ++ (local_toks (Temp (k + i)) ++ rest))
temps_split k i zero l = absurd (omega arith)
temps_split k zero (suc n) l = (temps_toks (k + 1) n, let e : k ≡ k + 0 = omega arith in ap (λ j. local_toks (Temp j) ++ temps_toks (k + 1) n) e)
temps_split k (suc i) (suc n) l =
    let r = temps_split (k + 1) i n (omega arith) in
    let j : k + 1 + i ≡ k + suc i = omega arith in
    (r.0, ap (λ ts. local_toks (Temp k) ++ ts) (r.1 ∙ ap (λ m. temps_toks (k + 1) i ++ (local_toks (Temp m) ++ r.0)) j))

-- the next temporary was declared, too
pub wrote_temp : {o p q : Output} (i : ℕ) → Wrote o p (temps_toks 0 i) → Wrote p q (local_toks (Temp i)) → Wrote o q (temps_toks 0 (i + 1))
wrote_temp i a b = let e : i ≡ 0 + i = omega arith in wrote_as (temps_next 0 i) (wrote_both a (wrote_as (ap (λ j. local_toks (Temp j)) (sym e)) b))

-- declaring the next temporary broke off
pub broke_temp : {o p q : Output} (i n : ℕ) → i < n → Wrote o p (temps_toks 0 i) → Broke p q (local_toks (Temp i)) → Broke o q (temps_toks 0 n)
broke_temp i n l a b =
    let r = temps_split 0 i n l in
    let e : i ≡ 0 + i = omega arith in
    broke_as r.1 (broke_then a (broke_here r.0 (broke_as (ap (λ j. local_toks (Temp j)) (sym e)) b)))

-- the array of a segment
abbrev segment_toks : ℕ → CSeg → List Token
segment_toks k s = item_toks (Segment k (segment_array s))

segments_next : (k : ℕ) (ss : List CSeg) (i : ℕ) (d : CSeg) → i < length ss → segments_toks k (take (i + 1) ss) ≡ segments_toks k (take i ss) ++ segment_toks (k + i) (get_or ss i d)
segments_next k [] i d l = absurd (omega arith)
segments_next k (s ∷ ss) zero d l = let e : k ≡ k + 0 = omega arith in append-nil (segment_toks k s) ∙ ap (λ j. segment_toks j s) e
segments_next k (s ∷ ss) (suc i) d l =
    let e : suc i + 1 ≡ suc (i + 1) = omega arith in
    let j : k + 1 + i ≡ k + suc i = omega arith in
    rw e (ap (λ ts. segment_toks k s ++ ts) (segments_next (k + 1) ss i d (omega arith) ∙ ap (λ m. segments_toks (k + 1) (take i ss) ++ segment_toks m (get_or ss i d)) j) ∙ sym (append_assoc (segment_toks k s) (segments_toks (k + 1) (take i ss)) (segment_toks (k + suc i) (get_or ss i d))))

segments_split : (k : ℕ) (ss : List CSeg) (i : ℕ) (d : CSeg) → i < length ss → (rest : List Token) × (segments_toks k ss ≡ segments_toks k (take i ss) ++ (segment_toks (k + i) (get_or ss i d) ++ rest))
segments_split k [] i d l = absurd (omega arith)
segments_split k (s ∷ ss) zero d l = (segments_toks (k + 1) ss, let e : k ≡ k + 0 = omega arith in ap (λ j. segment_toks j s ++ segments_toks (k + 1) ss) e)
segments_split k (s ∷ ss) (suc i) d l =
    let r = segments_split (k + 1) ss i d (omega arith) in
    let j : k + 1 + i ≡ k + suc i = omega arith in
    (r.0, ap (λ ts. segment_toks k s ++ ts) (r.1 ∙ ap (λ m. segments_toks (k + 1) (take i ss) ++ (segment_toks m (get_or ss i d) ++ r.0)) j) ∙ sym (append_assoc (segment_toks k s) (segments_toks (k + 1) (take i ss)) (segment_toks (k + suc i) (get_or ss i d) ++ r.0)))

-- the next segment was written, too
pub wrote_segment : {o p q : Output} (ss : List CSeg) (i : ℕ) (d s : CSeg) → i < length ss → s ≡ get_or ss i d → Wrote o p (segments_toks 0 (take i ss)) → Wrote p q (segment_toks i s) → Wrote o q (segments_toks 0 (take (i + 1) ss))
wrote_segment ss i d s l is a b = let e : i ≡ 0 + i = omega arith in wrote_as (segments_next 0 ss i d l) (wrote_both a (wrote_as (sym (λ j. segment_toks (e j) (is j))) b))

-- writing the next segment broke off
pub broke_segment : {o p q : Output} (ss : List CSeg) (i : ℕ) (d s : CSeg) → i < length ss → s ≡ get_or ss i d → Wrote o p (segments_toks 0 (take i ss)) → Broke p q (segment_toks i s) → Broke o q (segments_toks 0 ss)
broke_segment ss i d s l is a b =
    let r = segments_split 0 ss i d l in
    let e : i ≡ 0 + i = omega arith in
    broke_as r.1 (broke_then a (broke_here r.0 (broke_as (sym (λ j. segment_toks (e j) (is j))) b)))

-- all segments were written
pub wrote_segments : {o q : Output} (ss : List CSeg) (i : ℕ) → length ss ≤ i → Wrote o q (segments_toks 0 (take i ss)) → Wrote o q (segments_toks 0 ss)
wrote_segments ss i l a = wrote_as (ap (segments_toks 0) (sym (take_all i ss l))) a
