-- The constructors of types, as types are opened and get constructors.
use Rattle.std.proofs.Common.{◌≡◌, ◌≢◌, ℕ, zero, suc, ◌+◌, ◌<◌, ◌≤◌, ◌==◌, ◌||◌, ◌⊎◌, inl, inr, cond, Bool, true, false, List, [], ◌∷◌, ◌++◌, Option, Some, None, length, ap, refl, sym, subst, ◌∙◌, arith, length-set}
use Rattle.std.specs.Prelude.{All, slice_get, slice_set}
use Rattle.std.specs.List.{list_any}
use Rattle.std.proofs.lemmas.List.{length-append}
use Rattle.std.proofs.lemmas.List.Folds.{list_any-append}
use Rattle.std.proofs.lemmas.List.Elements.{All-nil, All-cons, All-head, All-tail, All-append, All-weaker}
use Rattle.std.proofs.lemmas.Bool.{eqb-true, eqb-false, eq-eqb}
use Rattle.std.proofs.lemmas.Option.{slice_get_within}
use Rattle.rtl_core.specs.declared.encodings.OperandKind.{OperandKind}
use Rattle.rtl_core.specs.declared.encodings.OperandKind.TheVariants as K
use Rattle.rtl_core.specs.SoundEncodings.{IsBefore, IsKind, IsOf, Rises}
use Rattle.sled_core.proofs.Lookups.{get_left, get_push, set_other, set_same}

-- the types of n constructors, by the type of each
pub record AreOf (type_of : ℕ → ℕ) (types : List (List ℕ)) (n : ℕ) : Type 0 where
  pub first : 0 < length types
  pub each : (t : ℕ) (cs : List ℕ) → slice_get types t ≡ Some cs → Rises cs × All (λ c. (c < n) × (type_of c ≡ t)) cs
  pub listed : (c : ℕ) → c < n → IsOf types (type_of c) c

-- one type more, which has no constructor yet
pub types_opened : (type_of : ℕ → ℕ) (types : List (List ℕ)) (n : ℕ) → AreOf type_of types n → AreOf type_of (types ++ [] ∷ []) n
types_opened type_of types n are = record {
  first = omega (arith, are.first, length-append types ([] ∷ []));
  each = λ t cs h. by t cs (get_push types [] t cs h);
  listed = λ c lt. let of = are.listed c lt in (of.0, get_left types ([] ∷ []) (type_of c) of.0 of.1, of.2);
}
  where
    by : (t : ℕ) (cs : List ℕ) → (slice_get types t ≡ Some cs) ⊎ ((t ≡ length types) × ([] ≡ cs)) → Rises cs × All (λ c. (c < n) × (type_of c ≡ t)) cs
    by t cs (inl h) = are.each t cs h
    by t cs (inr h) = subst (λ ds. Rises ds × All (λ c. (c < n) × (type_of c ≡ t)) ds) h.1 (tt, All-nil (λ c. (c < n) × (type_of c ≡ t)))

rises_push : (n : ℕ) (cs : List ℕ) → Rises cs → All (λ c. c < n) cs → Rises (cs ++ n ∷ [])
rises_push n [] r h = (All-nil (λ d. n < d), tt)
rises_push n (c ∷ cs) r h =
    (All-append (λ d. c < d) cs (n ∷ []) r.0 (All-cons (λ d. c < d) n [] (All-head (λ c. c < n) c cs h) (All-nil (λ d. c < d))), rises_push n cs r.1 (All-tail (λ c. c < n) c cs h))

-- the type of each constructor where constructor n is of type t
abbrev pub typed_by : (ℕ → ℕ) → ℕ → ℕ → ℕ → ℕ
typed_by type_of n t c = cond (c == n) t (type_of c)

pub typed_last : (type_of : ℕ → ℕ) (n t : ℕ) → typed_by type_of n t n ≡ t
typed_last type_of n t = ap (λ b. cond b t (type_of n)) (eq-eqb n n refl)

pub typed_old : (type_of : ℕ → ℕ) (n t c : ℕ) → c < n → typed_by type_of n t c ≡ type_of c
typed_old type_of n t c lt = by (c == n) refl
  where
    by : (b : Bool) → (c == n) ≡ b → cond b t (type_of c) ≡ type_of c
    by false e = refl
    by true e = absurd (omega (arith, lt, eqb-true c n e))

last_any : (n : ℕ) (cs : List ℕ) → list_any (λ d. d == n) (cs ++ n ∷ []) ≡ true
last_any n [] = ap (λ b. b || false) (eq-eqb n n refl)
last_any n (c ∷ cs) = by (c == n) (last_any n cs)
  where
    by : (b : Bool) → list_any (λ d. d == n) (cs ++ n ∷ []) ≡ true → (b || list_any (λ d. d == n) (cs ++ n ∷ [])) ≡ true
    by true h = refl
    by false h = h

older_any : (c n : ℕ) (cs : List ℕ) → list_any (λ d. d == c) cs ≡ true → list_any (λ d. d == c) (cs ++ n ∷ []) ≡ true
older_any c n cs h = list_any-append (λ d. d == c) cs (n ∷ []) ∙ ap (λ b. b || list_any (λ d. d == c) (n ∷ [])) h

same_element : {X : Type 0} (o : Option X) (x y : X) → o ≡ Some x → o ≡ Some y → x ≡ y
same_element o x y e f = cc (e, f)

-- constructor n is of type t
pub types_added : (type_of : ℕ → ℕ) (types : List (List ℕ)) (n t : ℕ) (cs : List ℕ) → AreOf type_of types n → slice_get types t ≡ Some cs
    → AreOf (typed_by type_of n t) (slice_set types t (cs ++ n ∷ [])) (n + 1)
types_added type_of types n t cs are at = record {
  first = omega (arith, are.first, length-set types t (cs ++ n ∷ []));
  each = λ u ds h. by u ds (u == t) refl h;
  listed = λ c lt. of c (c == n) refl lt;
}
  where
    P : ℕ → ℕ → Type 0
    P u c = (c < n + 1) × (typed_by type_of n t c ≡ u)

    old : (u c : ℕ) → (c < n) × (type_of c ≡ u) → P u c
    old u c h = (omega (arith, h.0), typed_old type_of n t c h.0 ∙ h.1)

    by : (u : ℕ) (ds : List ℕ) (b : Bool) → (u == t) ≡ b → slice_get (slice_set types t (cs ++ n ∷ [])) u ≡ Some ds → Rises ds × All (P u) ds
    by u ds true e h =
        let same : u ≡ t = eqb-true u t e in
        let is : cs ++ n ∷ [] ≡ ds =
        same_element (slice_get (slice_set types t (cs ++ n ∷ [])) t) (cs ++ n ∷ []) ds (set_same types t cs (cs ++ n ∷ []) at)
        (subst (λ v. slice_get (slice_set types t (cs ++ n ∷ [])) v ≡ Some ds) same h) in
        let before = are.each t cs at in
        subst (λ es. Rises es × All (P u) es) is (
          rises_push n cs before.0 (All-weaker (λ c. (c < n) × (type_of c ≡ t)) (λ c. c < n) (λ c p. p.0) cs before.1),
          All-append (P u) cs (n ∷ []) (All-weaker (λ c. (c < n) × (type_of c ≡ t)) (P u) (λ c p. old u c (p.0, p.1 ∙ sym same)) cs before.1)
              (All-cons (P u) n [] (omega arith, typed_last type_of n t ∙ sym same) (All-nil (P u))),
        )
    by u ds false e h =
        let before = are.each u ds (sym (set_other types t u (cs ++ n ∷ []) (eqb-false u t e)) ∙ h) in
        (before.0, All-weaker (λ c. (c < n) × (type_of c ≡ u)) (P u) (old u) ds before.1)

    moved : (u c : ℕ) (b : Bool) → (u == t) ≡ b → IsOf types u c → IsOf (slice_set types t (cs ++ n ∷ [])) u c
    moved u c true e h =
        let same : u ≡ t = eqb-true u t e in
        let is : h.0 ≡ cs = same_element (slice_get types t) h.0 cs (subst (λ v. slice_get types v ≡ Some h.0) same h.1) at in
        subst (λ v. IsOf (slice_set types t (cs ++ n ∷ [])) v c) (sym same)
        (cs ++ n ∷ [], set_same types t cs (cs ++ n ∷ []) at, older_any c n cs (subst (λ ds. list_any (λ d. d == c) ds ≡ true) is h.2))
    moved u c false e h = (h.0, set_other types t u (cs ++ n ∷ []) (eqb-false u t e) ∙ h.1, h.2)

    of : (c : ℕ) (b : Bool) → (c == n) ≡ b → c < n + 1 → IsOf (slice_set types t (cs ++ n ∷ [])) (typed_by type_of n t c) c
    of c true e lt =
        let same : c ≡ n = eqb-true c n e in
        subst (λ d. IsOf (slice_set types t (cs ++ n ∷ [])) (typed_by type_of n t d) d) (sym same)
        (subst (λ u. IsOf (slice_set types t (cs ++ n ∷ [])) u n) (sym (typed_last type_of n t)) (cs ++ n ∷ [], set_same types t cs (cs ++ n ∷ []) at, last_any n cs))
    of c false e lt =
        let before : c < n = let no = eqb-false c n e in omega (arith, lt, no) in
        subst (λ u. IsOf (slice_set types t (cs ++ n ∷ [])) u c) (sym (typed_old type_of n t c before))
        (moved (type_of c) c (type_of c == t) refl (are.listed c before))

-- ---- kinds of operands

-- an operand is not of this type
abbrev pub IsNot : ℕ → OperandKind → Type 0
IsNot t (K.Field w) = Unit {0}
IsNot t (K.Typed u) = u ≢ t

-- a type that is there and has a constructor
pub record IsOpen (types : List (List ℕ)) (t : ℕ) : Type 0 where
  pub constructors : List ℕ
  pub at : slice_get types t ≡ Some constructors
  pub some : 0 < length constructors

pub kind_opened : (types : List (List ℕ)) (c : ℕ) (kind : OperandKind) → IsKind types c kind → IsKind (types ++ [] ∷ []) c kind
kind_opened types c (K.Field w) h = h
kind_opened types c (K.Typed u) h = (h.0, get_left types ([] ∷ []) u h.0 h.1, h.2, h.3)

pub kind_added : (types : List (List ℕ)) (c t : ℕ) (cs : List ℕ) (kind : OperandKind) → IsNot t kind → IsKind types c kind → IsKind (slice_set types t cs) c kind
kind_added types c t cs (K.Field w) not_ h = h
kind_added types c t cs (K.Typed u) not_ h = (h.0, set_other types t u cs not_ ∙ h.1, h.2, h.3)

pub open_opened : (types : List (List ℕ)) (u : ℕ) → IsOpen types u → IsOpen (types ++ [] ∷ []) u
open_opened types u h = record { constructors = h.constructors; at = get_left types ([] ∷ []) u h.constructors h.at; some = h.some }

open_last : (types : List (List ℕ)) (t n u : ℕ) (cs : List ℕ) → slice_get types t ≡ Some cs → u ≡ t → IsOpen (slice_set types t (cs ++ n ∷ [])) u
open_last types t n u cs at e =
    subst (IsOpen (slice_set types t (cs ++ n ∷ []))) (sym e)
    (record { constructors = cs ++ n ∷ []; at = set_same types t cs (cs ++ n ∷ []) at; some = omega (arith, length-append cs (n ∷ [])) })

pub open_added : (types : List (List ℕ)) (t n u : ℕ) (cs : List ℕ) → slice_get types t ≡ Some cs → IsOpen types u ⊎ (u ≡ t) → IsOpen (slice_set types t (cs ++ n ∷ [])) u
open_added types t n u cs at (inr e) = open_last types t n u cs at e
open_added types t n u cs at (inl h) = by (u == t) refl
  where
    by : (b : Bool) → (u == t) ≡ b → IsOpen (slice_set types t (cs ++ n ∷ [])) u
    by true e = open_last types t n u cs at (eqb-true u t e)
    by false e = record { constructors = h.constructors; at = set_other types t u (cs ++ n ∷ []) (eqb-false u t e) ∙ h.at; some = h.some }
