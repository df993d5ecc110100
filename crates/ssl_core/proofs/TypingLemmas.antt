-- A table with the type of each constructor, filled type by type.
use Rattle.std.proofs.Common.{◌≡◌, ◌≢◌, ℕ, ◌+◌, ◌<◌, ◌≤◌, Bool, true, false, cond, ◌||◌, List, [], length, get_or, take, replicate, Some, refl, sym, ap, subst, ◌∙◌, ◌⊎◌, inl, inr, arith, eqb, ltb, eqb-true, eq-eqb, unwrap_or}
use Rattle.std.specs.Prelude.{slice_get, slice_set}
use Rattle.std.specs.List.{list_any}
use Rattle.std.proofs.lemmas.Bool.{cases_Bool, cases_lt, true≢false}
use Rattle.std.proofs.lemmas.Bool.Decides.{nat_tests}
use Rattle.std.proofs.lemmas.List.{get_or-set_same, get_or-set_other, get_or-replicate, length-replicate, length-set, take_all}
use Rattle.std.proofs.lemmas.List.Folds.{list_any_more}
use Rattle.std.proofs.lemmas.Option.{slice_get-get_or, slice_get_past, unwrap_or-slice_get}
use Rattle.rtl_core.specs.declared.encodings.Encodings.{Encodings}
use Rattle.rtl_core.specs.SoundEncodings.{AreTypes}
use Rattle.ssl_rules.specs.Given.{type_of}
use Rattle.ssl_core.specs.Typing.{AreTyped, IsTypePut}
use Rattle.ssl_core.proofs.TypeLemmas.{is_of-type, type_of-within, type_past}

-- what stands by a constructor
abbrev by_place : List ℕ → ℕ → ℕ
by_place types c = unwrap_or (slice_get types c) 0

-- ---- the constructors of one type

module _ (old : List ℕ) (t : ℕ) where
  pub put_none : IsTypePut old old [] t
  put_none = record { count = refl; found = λ c h. refl }

  set_at : (new : List ℕ) (d c : ℕ) → c < length new → (eqb d c ≡ true) ⊎ (eqb d c ≡ false) → get_or (slice_set new d t) c 0 ≡ cond (eqb d c) t (get_or new c 0)
  set_at new d c h (inl y) =
      ap (λ i. get_or (slice_set new i t) c 0) (eqb-true d c y) ∙ get_or-set_same new c t 0 h ∙ ap (λ b. cond b t (get_or new c 0)) (sym y)
  set_at new d c h (inr n) =
      let other : c ≢ d = λ same. true≢false (sym (eq-eqb d c (sym same)) ∙ n) in
      get_or-set_other new d c t 0 other ∙ ap (λ b. cond b t (get_or new c 0)) (sym n)

  put_at : (new : List ℕ) (d c : ℕ) → c < length new → by_place (slice_set new d t) c ≡ cond (eqb d c) t (by_place new c)
  put_at new d c h =
      unwrap_or-slice_get (slice_set new d t) c 0 ∙ set_at new d c h (cases_Bool (eqb d c)) ∙ ap (cond (eqb d c) t) (sym (unwrap_or-slice_get new c 0))

  either : (a b : Bool) (x y : ℕ) → cond b x (cond a x y) ≡ cond (a || b) x y
  either true true x y = refl
  either true false x y = refl
  either false true x y = refl
  either false false x y = refl

  pub put_more : (new cs : List ℕ) (i d : ℕ) → i < length cs → d ≡ get_or cs i 0 → IsTypePut old new (take i cs) t → IsTypePut old (slice_set new d t) (take (i + 1) cs) t
  put_more new cs i d h e p = record {
    count = length-set new d t ∙ p.count;
    found = λ c w.
        put_at new d c (subst (λ n. c < n) (sym p.count) w) ∙ ap (cond (eqb d c) t) (p.found c w)
        ∙ either (list_any (λ k. eqb k c) (take i cs)) (eqb d c) t (by_place old c)
        ∙ ap (λ b. cond b t (by_place old c)) (ap (λ x. list_any (λ k. eqb k c) (take i cs) || eqb x c) e ∙ sym (list_any_more (λ k. eqb k c) cs i 0 h));
  }

  pub put_all : (new cs : List ℕ) (i : ℕ) → length cs ≤ i → IsTypePut old new (take i cs) t → IsTypePut old new cs t
  put_all new cs i h p = subst (λ ds. IsTypePut old new ds t) (take_all i cs h) p

-- ---- the types before the k-th

pub record AreTypedTo (enc : Encodings) (k : ℕ) (types : List ℕ) : Type 0 where
  pub count : length types ≡ length enc.constructors
  pub found : (c : ℕ) → c < length enc.constructors → by_place types c ≡ cond (ltb (type_of enc c) k) (type_of enc c) 0

none_below : (x : ℕ) → 0 ≡ cond (ltb x 0) x 0
none_below x = ap (λ b. cond b x 0) (sym (none x))
  where
    none : (x : ℕ) → ltb x 0 ≡ false
    none x = grind (arith, nat_tests)

pub typed_none : (enc : Encodings) (types : List ℕ) (n : ℕ) → types ≡ replicate n 0 → n ≡ length enc.constructors → AreTypedTo enc 0 types
typed_none enc types n e h = record {
  count = ap length e ∙ length-replicate n 0 ∙ h;
  found = λ c w.
      unwrap_or-slice_get types c 0 ∙ ap (λ ts. get_or ts c 0) e ∙ get_or-replicate n c 0 0 (subst (λ m. c < m) (sym h) w) ∙ none_below (type_of enc c);
}

one_more : (k x : ℕ) → cond (eqb k x) k (cond (ltb x k) x 0) ≡ cond (ltb x (k + 1)) x 0
one_more k x = by (cases_Bool (eqb k x))
  where
    here : (k x : ℕ) → k ≡ x → ltb x (k + 1) ≡ true
    here k x h = grind (arith, nat_tests)

    there : (k x : ℕ) → eqb k x ≡ false → ltb x (k + 1) ≡ ltb x k
    there k x h = grind (arith, nat_tests)

    by : (eqb k x ≡ true) ⊎ (eqb k x ≡ false) → cond (eqb k x) k (cond (ltb x k) x 0) ≡ cond (ltb x (k + 1)) x 0
    by (inl y) = ap (λ b. cond b k (cond (ltb x k) x 0)) y ∙ eqb-true k x y ∙ ap (λ b. cond b x 0) (sym (here k x (eqb-true k x y)))
    by (inr n) = ap (λ b. cond b k (cond (ltb x k) x 0)) n ∙ ap (λ b. cond b x 0) (sym (there k x n))

module _ (enc : Encodings) (a : AreTypes enc.types (length enc.constructors)) where
  pub typed_more : (old new : List ℕ) (k : ℕ) (cs : List ℕ) → k < length enc.types → cs ≡ get_or enc.types k cs → AreTypedTo enc k old → IsTypePut old new cs k → AreTypedTo enc (k + 1) new
  typed_more old new k cs h e was put =
      let at : unwrap_or (slice_get enc.types k) [] ≡ cs = ap (λ o. unwrap_or o []) (slice_get-get_or enc.types k cs h ∙ ap Some (sym e)) in
      record {
        count = put.count ∙ was.count;
        found = λ c w.
            put.found c (subst (λ n. c < n) (sym was.count) w)
            ∙ ap (λ b. cond b k (by_place old c)) (ap (list_any (λ d. eqb d c)) (sym at) ∙ is_of-type enc a c k w)
            ∙ ap (cond (eqb k (type_of enc c)) k) (was.found c w) ∙ one_more k (type_of enc c);
      }

  is_below : (x k : ℕ) → x < k → ltb x k ≡ true
  is_below x k h = grind (arith, nat_tests)

  pub typed_all : (types : List ℕ) (k : ℕ) → length enc.types ≤ k → AreTypedTo enc k types → AreTyped enc types
  typed_all types k h t = record { found = λ c. by c (cases_lt c (length enc.constructors)) }
    where
      by : (c : ℕ) → (c < length enc.constructors) ⊎ (length enc.constructors ≤ c) → by_place types c ≡ type_of enc c
      by c (inl w) =
          let within : type_of enc c < length enc.types = type_of-within enc a c w in
          let below : type_of enc c < k = omega arith in
          t.found c w ∙ ap (λ b. cond b (type_of enc c) 0) (is_below (type_of enc c) k below)
      by c (inr past) =
          ap (λ o. unwrap_or o 0) (slice_get_past types c (subst (λ n. n ≤ c) (sym t.count) past)) ∙ sym (type_past enc a c past)

  -- as the loop over the types sees it
  pub table_more : (items : List (List ℕ)) (old new : List ℕ) (k : ℕ) (cs slice : List ℕ) → items ≡ enc.types → k < length items → cs ≡ get_or items k cs → slice ≡ cs
      → IsTypePut old new slice k → AreTypedTo enc k old → AreTypedTo enc (k + 1) new
  table_more items old new k cs slice t h e s put was =
      typed_more old new k cs (subst (λ ts. k < length ts) t h) (e ∙ ap (λ ts. get_or ts k cs) t) was (subst (λ ds. IsTypePut old new ds k) s put)

  pub table_all : (items : List (List ℕ)) (types : List ℕ) (k : ℕ) → items ≡ enc.types → length items ≤ k → AreTypedTo enc k types → AreTyped enc types
  table_all items types k t h was = typed_all types k (subst (λ ts. length ts ≤ k) t h) was
