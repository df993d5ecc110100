-- A match of sound encodings takes 1 to 32 bytes.
use Rattle.std.proofs.Common.{◌≡◌, ℕ, zero, suc, ◌+◌, ◌/◌, ◌<◌, ◌≤◌, inl, inr, List, [], ◌∷◌, length, drop, replicate, slice_get, sum_by, Option, Some, None, option_map, All, IfSome, refl, sym, subst, arith}
use Rattle.std.proofs.lemmas.List.Elements.{All-head, All-tail}
use Rattle.std.proofs.lemmas.List.Sums.{sum_by-cons}
use Rattle.std.specs.List.{list_all}
use Rattle.rtl_core.specs.declared.encodings.Encodings.{Encodings}
use Rattle.rtl_core.specs.declared.encodings.Item.{Item}
use Rattle.rtl_core.specs.declared.encodings.OperandKind.{OperandKind}
use Rattle.rtl_core.specs.declared.encodings.Typed.{Typed}
use Rattle.rtl_core.specs.declared.expr.Order.{Order}
use Rattle.rtl_core.specs.Matching.{Taken, Finder, type_taken, first_matching, constructor_taken, first_taken, items_taken, item_taken, rest_taken, bound, joined, token, holds}
use Rattle.rtl_core.specs.SoundEncodings.{IsToken, IsSoundItem, IsSoundAlternative, IsSoundEncodings, item_size}
use Rattle.sled_match.proofs.Sizes.{IfSome-and_then, IfSome-map, IfSome-or, IfSome-any}
use Rattle.points.proofs.MatchesSpell.{IfSome-where}
use Rattle.points.specs.MatchLengths.{MatchesHaveLength}

-- a number of bytes from one to another
abbrev IsIn : ℕ → ℕ → ℕ → Type 0
IsIn least most n = (least ≤ n) × (n ≤ most)

module _ (longest : ℕ → ℕ) where
  -- the operands of a type take a byte at least, and at most what `longest` says
  abbrev AreShort : Finder → Type 0
  AreShort find = (t : ℕ) (bytes : List ℕ) → IfSome (find t bytes) (λ r. IsIn 1 (longest t) r.len)

  -- the most bytes of an item with this typed operand
  abbrev size_by : ℕ → Option Typed → ℕ
  size_by bits None = bits / 8
  size_by bits (Some t) = longest t.kind

  size-is : (it : Item) (typed : Option Typed) → it.typed ≡ typed → item_size longest it ≡ size_by it.bits typed
  size-is it None e = rw e refl
  size-is it (Some t) e = rw e refl

  -- a token that no typed operand stands behind has a byte at least
  token-some : (bits : ℕ) → IsToken bits None → 1 ≤ bits / 8
  token-some bits (inl e) = rw e (omega arith)
  token-some bits (inr (inl e)) = rw e (omega arith)
  token-some bits (inr (inr (inl e))) = rw e (omega arith)
  token-some bits (inr (inr (inr h))) = absurd (Prim.cc (sym h.1))

  rest-length : (find : Finder) → AreShort find → (bits : ℕ) (typed : Option Typed) (slots : List (List ℕ)) (bytes : List ℕ) → IsToken bits typed
      → IfSome (rest_taken find typed (bits / 8) slots bytes) (λ r. IsIn 1 (size_by bits typed) r.1)
  rest-length find short bits None slots bytes h = (token-some bits h, omega arith)
  rest-length find short bits (Some t) slots bytes h =
      IfSome-map _ (find t.kind bytes) (λ r. IsIn 1 (longest t.kind) r.len) (λ r. IsIn 1 (longest t.kind) r.1) (short t.kind bytes) (λ r p. p)

  item-length : (find : Finder) → AreShort find → (order : Order) (kinds : List OperandKind) (it : Item) (slots : List (List ℕ)) (bytes : List ℕ) → IsSoundItem kinds it
      → IfSome (item_taken find order it slots bytes) (λ r. IsIn 1 (item_size longest it) r.1)
  item-length find short order kinds it slots bytes sound =
      let P : List (List ℕ) × ℕ → Type 0 = λ r. IsIn 1 (item_size longest it) r.1 in
      IfSome-and_then _ (token order it.bits bytes) (λ _. Unit {0}) P (IfSome-any (token order it.bits bytes) (λ _. Unit {0}) (λ _ _. tt))
      (λ tok _. IfSome-where (list_all (holds tok) it.tests) P (rest_taken find it.typed (it.bits / 8) (bound tok it.binds slots) bytes)
      (subst (λ n. IfSome (rest_taken find it.typed (it.bits / 8) (bound tok it.binds slots) bytes) (λ r. IsIn 1 n r.1)) (sym (size-is it it.typed refl))
      (rest-length find short it.bits it.typed (bound tok it.binds slots) bytes sound.token)))

  items-length : (find : Finder) → AreShort find → (order : Order) (kinds : List OperandKind) (its : List Item) (slots : List (List ℕ)) (n : ℕ) (bytes : List ℕ)
      → All (IsSoundItem kinds) its → IfSome (items_taken find order its slots n bytes) (λ r. IsIn (n + length its) (n + sum_by (item_size longest) its) r.1)
  items-length find short order kinds [] slots n bytes all = (omega arith, omega arith)
  items-length find short order kinds (it ∷ its) slots n bytes all =
      IfSome-and_then _ (item_taken find order it slots bytes) (λ r. IsIn 1 (item_size longest it) r.1)
      (λ r. IsIn (n + length (it ∷ its)) (n + sum_by (item_size longest) (it ∷ its)) r.1)
      (item-length find short order kinds it slots bytes (All-head (IsSoundItem kinds) it its all))
      (λ r p. IfSome-map-in (items_taken find order its r.0 (n + r.1) (drop r.1 bytes)) r.1 p (items-length find short order kinds its r.0 (n + r.1) (drop r.1 bytes) (All-tail (IsSoundItem kinds) it its all)))
    where
      IfSome-map-in : (o : Option (List (List ℕ) × ℕ)) (k : ℕ) → IsIn 1 (item_size longest it) k
          → IfSome o (λ r. IsIn (n + k + length its) (n + k + sum_by (item_size longest) its) r.1)
          → IfSome o (λ r. IsIn (n + length (it ∷ its)) (n + sum_by (item_size longest) (it ∷ its)) r.1)
      IfSome-map-in None k p h = tt
      IfSome-map-in (Some r) k p h = (omega (arith, h.0, p.0), omega (arith, h.1, p.1, sum_by-cons (item_size longest) it its))

  first-length : (find : Finder) → AreShort find → (order : Order) (kinds : List OperandKind) (alternatives : List (List Item)) (bytes : List ℕ) (most : ℕ)
      → All (IsSoundAlternative kinds) alternatives → All (λ items. sum_by (item_size longest) items ≤ most) alternatives
      → IfSome (first_taken find order alternatives bytes) (λ r. IsIn 1 most r.1)
  first-length find short order kinds [] bytes most all few = tt
  first-length find short order kinds (a ∷ rest) bytes most all few =
      let sound = All-head (IsSoundAlternative kinds) a rest all in
      let within : sum_by (item_size longest) a ≤ most = All-head (λ items. sum_by (item_size longest) items ≤ most) a rest few in
      IfSome-or (option_map (λ r. (joined r.0, r.1)) (items_taken find order a (replicate 8 []) 0 bytes)) (first_taken find order rest bytes) (λ r. IsIn 1 most r.1)
      (IfSome-map (λ r. (joined r.0, r.1)) (items_taken find order a (replicate 8 []) 0 bytes) (λ r. IsIn (0 + length a) (0 + sum_by (item_size longest) a) r.1) (λ r. IsIn 1 most r.1)
      (items-length find short order kinds a (replicate 8 []) 0 bytes sound.each) (λ r p. wider a r.1 sound.some within p))
      (first-length find short order kinds rest bytes most (All-tail (IsSoundAlternative kinds) a rest all) (All-tail (λ items. sum_by (item_size longest) items ≤ most) a rest few))
    where
      wider : (a : List Item) (k : ℕ) → 0 < length a → sum_by (item_size longest) a ≤ most → IsIn (0 + length a) (0 + sum_by (item_size longest) a) k → IsIn 1 most k
      wider a k some few p = (omega (arith, p.0), omega (arith, p.1))

module _ (enc : Encodings) (sound : IsSoundEncodings enc) where
  coded-length : (find : Finder) (bytes : List ℕ) (t c : ℕ) → AreShort sound.longest find → sound.types.type_of c ≡ t
      → IfSome (constructor_taken find enc bytes c) (λ r. IsIn 1 (sound.longest t) r.len)
  coded-length find bytes t c short e =
      IfSome-and_then (λ k. option_map (λ r. record { constructor = c; leaves = r.0; len = r.1 }) (first_taken find enc.order k.alternatives bytes)) (slice_get enc.constructors c)
      (λ k. slice_get enc.constructors c ≡ Some k) (λ r. IsIn 1 (sound.longest t) r.len) (IfSome-any (slice_get enc.constructors c) _ (λ k q. q))
      (λ k q. IfSome-map _ (first_taken find enc.order k.alternatives bytes) (λ r. IsIn 1 (sound.longest t) r.1) (λ r. IsIn 1 (sound.longest t) r.len)
      (first-length sound.longest find short enc.order k.kinds k.alternatives bytes (sound.longest t) (sound.each c k q).each
      (subst (λ u. All (λ items. sum_by (item_size sound.longest) items ≤ sound.longest u) k.alternatives) e (sound.sizes c k q).bytes))
      (λ r p. p))

  abbrev IsOfType : ℕ → ℕ → Type 0
  IsOfType t c = (c < length enc.constructors) × (sound.types.type_of c ≡ t)

  first-of-type : (find : Finder) (bytes cs : List ℕ) (t : ℕ) → AreShort sound.longest find → All (IsOfType t) cs
      → IfSome (first_matching (constructor_taken find enc bytes) cs) (λ r. IsIn 1 (sound.longest t) r.len)
  first-of-type find bytes [] t short all = tt
  first-of-type find bytes (c ∷ cs) t short all =
      IfSome-or _ (first_matching (constructor_taken find enc bytes) cs) (λ r. IsIn 1 (sound.longest t) r.len)
      (coded-length find bytes t c short (All-head (IsOfType t) c cs all).1) (first-of-type find bytes cs t short (All-tail (IsOfType t) c cs all))

  type-length : (deep t : ℕ) (bytes : List ℕ) → IfSome (type_taken deep enc t bytes) (λ r. IsIn 1 (sound.longest t) r.len)
  unfolding type_taken
  type-length zero t bytes = tt
  type-length (suc deep) t bytes =
      IfSome-and_then (first_matching (constructor_taken (type_taken deep enc) enc bytes)) (slice_get enc.types t)
      (λ cs. slice_get enc.types t ≡ Some cs) (λ r. IsIn 1 (sound.longest t) r.len) (IfSome-any (slice_get enc.types t) _ (λ cs e. e))
      (λ cs e. first-of-type (type_taken deep enc) bytes cs t (type-length deep) (sound.types.each t cs e).1)

pub match_lengths : MatchesHaveLength
match_lengths enc bytes t sound e =
    let P : Option Taken → Type 0 = λ o. IfSome o (λ r. IsIn 1 (sound.longest 0) r.len) in
    let h : IsIn 1 (sound.longest 0) t.len = subst P e (type-length enc sound (length enc.constructors) 0 bytes) in
    let short = sound.short 0 in
    record { some = h.0; few = omega (arith, h.1) }
