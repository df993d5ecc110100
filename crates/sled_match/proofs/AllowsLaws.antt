-- What a constructor does not allow it does not take.
use Rattle.std.proofs.Common.{◌≡◌, ◌≢◌, ℕ, zero, suc, ◌+◌, ◌-◌, ◌/◌, ◌<◌, ◌≤◌, Bool, true, false, not, ◌&&◌, ◌||◌, if◌then◌else◌, nat_le, nat_lt, nat_eq, List, [], ◌∷◌, ◌++◌, length, below_more, drop, replicate, get_or, slice_get, slice_index, map, Option, None, Some, option_map, option_and_then, All, refl, sym, ◌∙◌, ap, subst, arith, max, min, Result, Ok, Err, IfOk, Fits, w8}
use Rattle.std.proofs.lemmas.Bool.{leb-true, eqb-true, eq-eqb, ltb-true, ltb-false}
use Rattle.std.proofs.lemmas.List.{get_or-drop, get_or_default, get_or_append_left}
use Rattle.std.proofs.Math.Seq.{get_or-append_seam}
use Rattle.std.proofs.lemmas.List.FromFn.{get_or-range_with_len, length-range_with_len}
use Rattle.std.proofs.lemmas.Option.{slice_get-map, slice_get_within, get_or_from_slice_get, slice_get-get_or}
use Rattle.std.specs.List.{list_all, list_any, range_with_len}
use Rattle.std.specs.Option.{option_or, unwrap_or}
use Rattle.rtl_core.specs.Access.{number}
use Rattle.rtl_core.specs.Arithmetic.{bits_of}
use Rattle.rtl_core.specs.declared.expr.Order.{Order}
use Rattle.rtl_core.specs.declared.encodings.Test.{Test}
use Rattle.rtl_core.specs.declared.encodings.Typed.{Typed}
use Rattle.rtl_core.specs.declared.encodings.Item.{Item}
use Rattle.rtl_core.specs.declared.encodings.Coded.{Coded}
use Rattle.rtl_core.specs.declared.encodings.Encodings.{Encodings}
use Rattle.rtl_core.specs.Matching.{Finder, token, holds, bound, rest_taken, item_taken, items_taken, first_taken, constructor_taken, joined}
use Rattle.rtl_core.specs.Matching.{type_taken, first_matching}
use Rattle.sled_match.specs.declared.tree.Node.{Node}
use Rattle.sled_match.specs.declared.tree.Tree.{Tree}
use Rattle.std.specs.declared.alloc.AllocError.{AllocError}
use Rattle.sled_match.specs.Matched.{matched_inst, taken_of}
use Rattle.sled_match.specs.declared.matched.MatchedInst.{MatchedInst}
use Rattle.sled_match.specs.declared.tree.TheConstants.{LEVELS}
use Rattle.sled_match.specs.Pruned.{answer, answer_at, answer_in, allowed_in, IsSound, IsTreeOf}
use Rattle.sled_match.proofs.TreeLaws.{listed-scan}
use Rattle.sled_match.specs.Walks.{IsScan, instructions}
use Rattle.sled_match.specs.Ready.{IsTestReady, IsAlternativeReady, AreReady}
use Rattle.sled_match.specs.Allows.{low_bit, shared_allow, unequal_allows, test_allows, token_allows, beyond, items_allow, coded_allows, keys_of, places_of, IsRow, AreRows}
use Rattle.sled_match.proofs.Steps.{All-slice_get}
use Rattle.sled_match.proofs.TokenBytes.{bits_inner, token_byte}

-- ---- tests

true_false : {X : Type 0} → (b : Bool) → b ≡ true → b ≡ false → X
true_false b e f = let q : true ≡ false = sym e ∙ f in let no : ⊥ = cc in absurd no

shared_sound : (a b low tok : ℕ) (t : Test) → t.lo ≤ a → low ≤ a → b ≤ t.hi → b ≤ low + 7 → bits_of t.lo t.hi tok ≡ t.value → (o : Bool) → nat_le a b ≡ o
    → shared_allow a b low (bits_of low (low + 7) tok) t ≡ true
shared_sound a b low tok t h1 h2 h3 h4 e true p =
    let le : a ≤ b = leb-true a b p in
    rw p (eq-eqb (bits_of (a - low) (b - low) (bits_of low (low + 7) tok)) (bits_of (a - t.lo) (b - t.lo) t.value)
    (bits_inner low a b (low + 7) tok h2 le h4 ∙ sym (bits_inner t.lo a b t.hi tok h1 le h3) ∙ ap (bits_of (a - t.lo) (b - t.lo)) e))
shared_sound a b low tok t h1 h2 h3 h4 e false p = rw p refl

unequal_sound : (low tok : ℕ) (t : Test) → IsTestReady t → not (nat_eq (bits_of t.lo t.hi tok) t.value) ≡ true → (o u : Bool) → nat_le low t.lo ≡ o → nat_le t.hi (low + 7) ≡ u
    → unequal_allows low (bits_of low (low + 7) tok) t ≡ true
unequal_sound low tok t ready e true true p q =
    rw (p, q) (ap (λ n. not (nat_eq n t.value)) (bits_inner low t.lo t.hi (low + 7) tok (leb-true low t.lo p) ready.0 (leb-true t.hi (low + 7) q)) ∙ e)
unequal_sound low tok t ready e true false p q = rw (p, q) refl
unequal_sound low tok t ready e false u p q = rw p refl

pub test_sound : (low tok : ℕ) (t : Test) → IsTestReady t → holds tok t ≡ true → (o : Bool) → t.equal ≡ o → test_allows low (bits_of low (low + 7) tok) t ≡ true
test_sound low tok t ready h true p =
    let e : nat_eq (bits_of t.lo t.hi tok) t.value ≡ true = ap (λ b. if b then nat_eq (bits_of t.lo t.hi tok) t.value else not (nat_eq (bits_of t.lo t.hi tok) t.value)) (sym p) ∙ h in
    rw p (shared_sound (max t.lo low) (min t.hi (low + 7)) low tok t (omega arith) (omega arith) (omega arith) (omega arith) (eqb-true (bits_of t.lo t.hi tok) t.value e)
    (nat_le (max t.lo low) (min t.hi (low + 7))) refl)
test_sound low tok t ready h false p =
    let e : not (nat_eq (bits_of t.lo t.hi tok) t.value) ≡ true = ap (λ b. if b then nat_eq (bits_of t.lo t.hi tok) t.value else not (nat_eq (bits_of t.lo t.hi tok) t.value)) (sym p) ∙ h in
    rw p (unequal_sound low tok t ready e (nat_le low t.lo) (nat_le t.hi (low + 7)) refl refl)

and_both : (a b : Bool) → a && b ≡ true → (a ≡ true) × (b ≡ true)
and_both true b e = (refl, e)
and_both false b e = let no : ⊥ = cc in absurd no

pub tests_sound : (low tok : ℕ) (ts : List Test) → All IsTestReady ts → list_all (holds tok) ts ≡ true → list_all (test_allows low (bits_of low (low + 7) tok)) ts ≡ true
tests_sound low tok [] ready h = refl
tests_sound low tok (t ∷ ts) ready h =
    let (h1, h2) = and_both (holds tok t) (list_all (holds tok) ts) h in
    let e : test_allows low (bits_of low (low + 7) tok) t ≡ true = test_sound low tok t (ready 0 t (omega arith)) h1 t.equal refl in
    rw e (tests_sound low tok ts (λ k d lt. ready (suc k) d (omega (arith, lt))) h2)

-- ---- items

abbrev pub IsPlain : Item → Type 0
IsPlain it = All IsTestReady it.tests

and_then_none : {X Y : Type 0} → (f : X → Option Y) (o : Option X) → ((x : X) → o ≡ Some x → f x ≡ None) → option_and_then f o ≡ None
and_then_none f None h = refl
and_then_none f (Some x) h = h x refl

some_is : {X : Type 0} → {x y : X} → Some x ≡ Some y → x ≡ y
some_is e = cc

-- a token that is there
token_is : (order : Order) (bits : ℕ) (bytes : List ℕ) (tok : ℕ) (o : Bool) → nat_le (bits / 8) (length bytes) ≡ o → token order bits bytes ≡ Some tok
    → (bits / 8 ≤ length bytes) × (number order (bits / 8) bytes ≡ tok)
token_is order bits bytes tok true p e = (leb-true (bits / 8) (length bytes) p, some_is (ap (λ b. if b then Some (number order (bits / 8) bytes) else None) (sym p) ∙ e))
token_is order bits bytes tok false p e = let q : None ≡ Some tok = ap (λ b. if b then Some (number order (bits / 8) bytes) else None) (sym p) ∙ e in let no : ⊥ = cc in absurd no

abbrev pub AreBytes : List ℕ → Type 0
AreBytes bytes = All (λ b. b < 256) bytes

below_256 : (bytes : List ℕ) → AreBytes bytes → (k : ℕ) → slice_index bytes k < 256
below_256 [] fits k = omega arith
below_256 (b ∷ bs) fits zero = fits 0 b (omega arith)
below_256 (b ∷ bs) fits (suc k) = below_256 bs (λ j d lt. fits (suc j) d (omega (arith, lt))) k

key_is : (bytes : List ℕ) (place : ℕ) → place < length bytes → get_or bytes place 256 ≡ slice_index bytes place
key_is [] place h = absurd (omega (arith, h))
key_is (b ∷ bs) zero h = refl
key_is (b ∷ bs) (suc place) h = key_is bs place (omega (arith, h))

tests_told : (order : Order) (size : ℕ) (ts : List Test) (place : ℕ) (bytes : List ℕ) → All IsTestReady ts → AreBytes bytes → size ≤ length bytes → place < size
    → list_all (holds (number order size bytes)) ts ≡ true → token_allows order size ts place (get_or bytes place 256) ≡ true
tests_told order size ts place bytes ready fits long within h =
    let small : slice_index bytes place < 256 = below_256 bytes fits place in
    let e : get_or bytes place 256 ≡ slice_index bytes place = key_is bytes place (omega (arith, long, within)) in
    let b : bits_of (low_bit order size place) (low_bit order size place + 7) (number order size bytes) ≡ slice_index bytes place =
    token_byte order size place bytes (below_256 bytes fits) within in
    let off : nat_le 256 (slice_index bytes place) ≡ false = not_le 256 (slice_index bytes place) small in
    ap (token_allows order size ts place) e ∙ ap (λ o. if o then false else list_all (test_allows (low_bit order size place) (slice_index bytes place)) ts) off
    ∙ ap (λ k. list_all (test_allows (low_bit order size place) k) ts) (sym b) ∙ tests_sound (low_bit order size place) (number order size bytes) ts ready h
  where
    not_le : (m n : ℕ) → n < m → nat_le m n ≡ false
    not_le m n lt = grind arith

-- an item whose token does not allow the byte at a place within it takes nothing
item_none : (find : Finder) (order : Order) (it : Item) (slots : List (List ℕ)) (place : ℕ) (bytes : List ℕ) → IsPlain it → AreBytes bytes → place < it.bits / 8
    → token_allows order (it.bits / 8) it.tests place (get_or bytes place 256) ≡ false → item_taken find order it slots bytes ≡ None
item_none find order it slots place bytes ready fits within e =
    and_then_none (λ tok. if list_all (holds tok) it.tests then rest_taken find it.typed (it.bits / 8) (bound tok it.binds slots) bytes else None) (token order it.bits bytes)
    (λ tok p. here tok (token_is order it.bits bytes tok (nat_le (it.bits / 8) (length bytes)) refl p) (list_all (holds tok) it.tests) refl)
  where
    here : (tok : ℕ) → (it.bits / 8 ≤ length bytes) × (number order (it.bits / 8) bytes ≡ tok) → (o : Bool) → list_all (holds tok) it.tests ≡ o
        → (if list_all (holds tok) it.tests then rest_taken find it.typed (it.bits / 8) (bound tok it.binds slots) bytes else None) ≡ None
    here tok (long, is) true p =
        true_false (token_allows order (it.bits / 8) it.tests place (get_or bytes place 256))
        (tests_told order (it.bits / 8) it.tests place bytes ready fits long within (subst (λ n. list_all (holds n) it.tests ≡ true) (sym is) p)) e
    here tok (long, is) false p = rw p refl

-- an item with no typed operand moves on by its token
and_then_some : {X Y : Type 0} → (f : X → Option Y) (P : Y → Type 0) (o : Option X) (y : Y) → ((x : X) → f x ≡ Some y → P y) → option_and_then f o ≡ Some y → P y
and_then_some f P None y h e = let no : ⊥ = cc in absurd no
and_then_some f P (Some x) y h e = h x e

rest_moves : (find : Finder) (typed : Option Typed) (size : ℕ) (slots : List (List ℕ)) (bytes : List ℕ) (r : List (List ℕ) × ℕ) → typed ≡ None
    → (b : Bool) → (if b then rest_taken find typed size slots bytes else None) ≡ Some r → r.1 ≡ size
rest_moves find None size slots bytes r e true p = ap (λ q. q.1) (sym (some_is p))
rest_moves find None size slots bytes r e false p = let no : ⊥ = cc in absurd no
rest_moves find (Some t) size slots bytes r e b p = let no : ⊥ = cc in absurd no

item_moves : (find : Finder) (order : Order) (it : Item) (slots : List (List ℕ)) (bytes : List ℕ) (r : List (List ℕ) × ℕ) → it.typed ≡ None
    → item_taken find order it slots bytes ≡ Some r → r.1 ≡ it.bits / 8
item_moves find order it slots bytes r e p =
    and_then_some (λ tok. if list_all (holds tok) it.tests then rest_taken find it.typed (it.bits / 8) (bound tok it.binds slots) bytes else None) (λ q. q.1 ≡ it.bits / 8)
    (token order it.bits bytes) r (λ tok q. rest_moves find it.typed (it.bits / 8) (bound tok it.binds slots) bytes r e (list_all (holds tok) it.tests) q) p

AreBytes-drop : (n : ℕ) (bytes : List ℕ) → AreBytes bytes → AreBytes (drop n bytes)
AreBytes-drop zero bytes fits = fits
AreBytes-drop (suc n) [] fits = fits
AreBytes-drop (suc n) (b ∷ bs) fits = AreBytes-drop n bs (λ j d lt. fits (suc j) d (omega (arith, lt)))

beyond_none : (typed : Option Typed) (b : Bool) → beyond typed b ≡ false → (typed ≡ None) × (b ≡ false)
beyond_none None b e = (refl, e)
beyond_none (Some t) b e = let no : ⊥ = cc in absurd no

-- where the token of the first item ends before the place
onward : (find : Finder) (order : Order) (it : Item) (its : List Item) (slots : List (List ℕ)) (n place : ℕ) (bytes : List ℕ) → it.bits / 8 ≤ place → it.typed ≡ None
    → items_allow order its (place - it.bits / 8) (get_or bytes place 256) ≡ false
    → ((m : ℕ) (more : List (List ℕ)) → items_allow order its (place - it.bits / 8) (get_or (drop m bytes) (place - it.bits / 8) 256) ≡ false
    → items_taken find order its more (n + m) (drop m bytes) ≡ None)
    → items_taken find order (it ∷ its) slots n bytes ≡ None
onward find order it its slots n place bytes le e f ih =
    and_then_none (λ r. items_taken find order its r.0 (n + r.1) (drop r.1 bytes)) (item_taken find order it slots bytes)
    (λ r p. let m : r.1 ≡ it.bits / 8 = item_moves find order it slots bytes r e p in
    let q : r.1 + (place - it.bits / 8) ≡ place = omega (arith, m, le) in
    ih r.1 r.0 (ap (items_allow order its (place - it.bits / 8)) (get_or-drop r.1 bytes (place - it.bits / 8) 256 ∙ ap (λ k. get_or bytes k 256) q) ∙ f))

-- items that do not allow the byte at a place take nothing
pub items_none : (find : Finder) (order : Order) (items : List Item) (slots : List (List ℕ)) (n place : ℕ) (bytes : List ℕ) → All IsPlain items → AreBytes bytes
    → items_allow order items place (get_or bytes place 256) ≡ false → items_taken find order items slots n bytes ≡ None
items_none find order [] slots n place bytes ready fits e = let no : ⊥ = cc in absurd no
items_none find order (it ∷ its) slots n place bytes ready fits e =
    by_case (nat_lt place (it.bits / 8)) refl
    (λ m more f. items_none find order its more (n + m) (place - it.bits / 8) (drop m bytes) (λ k d lt. ready (suc k) d (omega (arith, lt))) (AreBytes-drop m bytes fits) f)
  where
    by_case : (o : Bool) → nat_lt place (it.bits / 8) ≡ o
        → ((m : ℕ) (more : List (List ℕ)) → items_allow order its (place - it.bits / 8) (get_or (drop m bytes) (place - it.bits / 8) 256) ≡ false
        → items_taken find order its more (n + m) (drop m bytes) ≡ None)
        → items_taken find order (it ∷ its) slots n bytes ≡ None
    by_case true p ih =
        let f : token_allows order (it.bits / 8) it.tests place (get_or bytes place 256) ≡ false =
        ap (λ o. if o then token_allows order (it.bits / 8) it.tests place (get_or bytes place 256) else beyond it.typed (items_allow order its (place - it.bits / 8) (get_or bytes place 256))) (sym p) ∙ e in
        ap (option_and_then (λ r. items_taken find order its r.0 (n + r.1) (drop r.1 bytes)))
        (item_none find order it slots place bytes (ready 0 it (omega arith)) fits (ltb-true place (it.bits / 8) p) f)
    by_case false p ih =
        let f : beyond it.typed (items_allow order its (place - it.bits / 8) (get_or bytes place 256)) ≡ false =
        ap (λ o. if o then token_allows order (it.bits / 8) it.tests place (get_or bytes place 256) else beyond it.typed (items_allow order its (place - it.bits / 8) (get_or bytes place 256))) (sym p) ∙ e in
        let (g, h) = beyond_none it.typed (items_allow order its (place - it.bits / 8) (get_or bytes place 256)) f in
        onward find order it its slots n place bytes (ltb-false place (it.bits / 8) p) g h ih

-- ---- constructors

or_none : (a b : Bool) → a || b ≡ false → (a ≡ false) × (b ≡ false)
or_none true b e = let no : ⊥ = cc in absurd no
or_none false b e = (refl, e)

pub first_none : (find : Finder) (order : Order) (alternatives : List (List Item)) (place : ℕ) (bytes : List ℕ) → All (All IsPlain) alternatives → AreBytes bytes
    → list_any (λ items. items_allow order items place (get_or bytes place 256)) alternatives ≡ false → first_taken find order alternatives bytes ≡ None
first_none find order [] place bytes ready fits e = refl
first_none find order (a ∷ rest) place bytes ready fits e =
    let (f, g) = or_none (items_allow order a place (get_or bytes place 256)) (list_any (λ items. items_allow order items place (get_or bytes place 256)) rest) e in
    ap (λ o. option_or (option_map (λ r. (joined r.0, r.1)) o) (first_taken find order rest bytes)) (items_none find order a (replicate 8 []) 0 place bytes (ready 0 a (omega arith)) fits f)
    ∙ first_none find order rest place bytes (λ k d lt. ready (suc k) d (omega (arith, lt))) fits g

pub constructor_none : (find : Finder) (enc : Encodings) (c place : ℕ) (bytes : List ℕ) → All (λ k. All (All IsPlain) k.alternatives) enc.constructors → AreBytes bytes
    → ((k : Coded) → slice_get enc.constructors c ≡ Some k → coded_allows enc.order k place (get_or bytes place 256) ≡ false) → constructor_taken find enc bytes c ≡ None
constructor_none find enc c place bytes ready fits h =
    and_then_none (λ k. option_map (λ r. record { constructor = c; leaves = r.0; len = r.1 }) (first_taken find enc.order k.alternatives bytes)) (slice_get enc.constructors c)
    (λ k p. let all : All (All IsPlain) k.alternatives = All-slice_get (λ x. All (All IsPlain) x.alternatives) enc.constructors c k (sym p) ready in
    ap (option_map (λ r. record { constructor = c; leaves = r.0; len = r.1 })) (first_none find enc.order k.alternatives place bytes all fits (h k p)))

-- ready alternatives have tokens of at most 32 bits, and tests within a token
pub alternatives_plain : (enc : Encodings) (k : Coded) → All (IsAlternativeReady enc) k.alternatives → All (All (λ it. (it.bits ≤ 32) × All IsTestReady it.tests)) k.alternatives
alternatives_plain enc k ready = λ i a lt. λ j it lu. let r = (ready i a lt).each j it lu in (r.bits, r.tests)

pub constructors_plain : (enc : Encodings) → AreReady enc → All (λ k. All (All IsPlain) k.alternatives) enc.constructors
constructors_plain enc ready = λ n k lt. λ i a lu. λ j it lv. (((ready n k lt) i a lu).each j it lv).tests

-- ---- the table of answers

in_range : (n k m : ℕ) → slice_get (range_with_len 0 n) k ≡ Some m → m ≡ k
in_range n k m e =
    let h : k < n = subst (λ l. k < l) (length-range_with_len 0 n) (slice_get_within (range_with_len 0 n) k m e) in
    let z : 0 + k ≡ k = omega arith in
    sym (get_or_from_slice_get (range_with_len 0 n) k m 0 e) ∙ get_or-range_with_len 0 n k 0 h ∙ z

not_true : (b : Bool) → b ≢ true → b ≡ false
not_true true bad = absurd (bad refl)
not_true false bad = refl

table_keys : (f : ℕ → Bool) (k : ℕ) → answer (slice_get (map f (range_with_len 0 257)) k) ≢ true → f k ≡ false
table_keys f k bad = by_case (slice_get (range_with_len 0 257) k) refl
  where
    by_case : (o : Option ℕ) → slice_get (range_with_len 0 257) k ≡ o → f k ≡ false
    by_case None e = absurd (bad (ap answer (slice_get-map f (range_with_len 0 257) k ∙ ap (option_map f) e)))
    by_case (Some m) e =
        let p : m ≡ k = in_range 257 k m e in
        not_true (f k) (λ t. bad (ap answer (slice_get-map f (range_with_len 0 257) k ∙ ap (option_map f) e) ∙ ap f p ∙ t))

table_places : (f : ℕ → List Bool) (place k : ℕ) → answer_at k (slice_get (map f (range_with_len 0 4)) place) ≢ true → answer (slice_get (f place) k) ≢ true
table_places f place k bad = by_case (slice_get (range_with_len 0 4) place) refl
  where
    by_case : (o : Option ℕ) → slice_get (range_with_len 0 4) place ≡ o → answer (slice_get (f place) k) ≢ true
    by_case None e = absurd (bad (ap (answer_at k) (slice_get-map f (range_with_len 0 4) place ∙ ap (option_map f) e)))
    by_case (Some m) e = λ t.
        let p : m ≡ place = in_range 4 place m e in
        bad (ap (answer_at k) (slice_get-map f (range_with_len 0 4) place ∙ ap (option_map f) e) ∙ ap (λ x. answer (slice_get (f x) k)) p ∙ t)

-- the answers of a constructor are right
pub places-right : (order : Order) (coded : Coded) (row : List (List Bool)) → row ≡ places_of order coded → IsRow order coded row
places-right order coded row e = λ place k bad.
    table_keys (coded_allows order coded place) k
    (table_places (keys_of order coded) place k (λ t. bad (ap (λ r. answer_in place k (Some r)) e ∙ t)))

pub row-right : (order : Order) (coded : Coded) (r : Result (List (List Bool)) AllocError) → IfOk r (λ it. it ≡ places_of order coded) → IfOk r (λ it. IsRow order coded it)
row-right order coded (Ok row) h = places-right order coded row h
row-right order coded (Err f) h = tt

-- what a row that allows all does not allow
pub nothing-refused : (order : Order) (coded : Coded) → IsRow order coded []
nothing-refused order coded = λ place k bad. absurd (bad refl)

-- the rows so far are right, and one more
pub rows_more : (order : Order) (xs : List Coded) (rows : List (List (List Bool))) (i : ℕ) (coded : Coded) (row : List (List Bool)) → length rows ≡ i
    → coded ≡ get_or xs i coded → IsRow order coded row → ((j : ℕ) → j < i → (k : Coded) → slice_get xs j ≡ Some k → IsRow order k (get_or rows j []))
    → (j : ℕ) → j < i + 1 → (k : Coded) → slice_get xs j ≡ Some k → IsRow order k (get_or (rows ++ row ∷ []) j [])
rows_more order xs rows i coded row e is right h =
    below_more (λ j. (k : Coded) → slice_get xs j ≡ Some k → IsRow order k (get_or (rows ++ row ∷ []) j [])) i
    (λ j lt k p. let q : get_or (rows ++ row ∷ []) j [] ≡ get_or rows j [] = get_or_append_left rows (row ∷ []) [] j (omega (arith, lt, e)) in
    subst (IsRow order k) (sym q) (h j lt k p))
    (λ k p. let q : get_or (rows ++ row ∷ []) i [] ≡ row = subst (λ m. get_or (rows ++ row ∷ []) m [] ≡ row) e (get_or-append_seam rows row [] []) in
    let same : coded ≡ k = is ∙ get_or_from_slice_get xs i k coded p in
    subst (λ x. IsRow order x (get_or (rows ++ row ∷ []) i [])) same (subst (IsRow order coded) (sym q) right))

pub rows_all : (enc : Encodings) (rows : List (List (List Bool))) → length rows ≡ length enc.constructors
    → ((j : ℕ) → j < length enc.constructors → (k : Coded) → slice_get enc.constructors j ≡ Some k → IsRow enc.order k (get_or rows j [])) → AreRows enc rows
rows_all enc rows e h = λ c coded p place k bad.
    let lt : c < length enc.constructors = slice_get_within enc.constructors c coded p in
    h c lt coded p place k (λ t. bad (ap (answer_in place k) (slice_get-get_or rows c [] (omega (arith, lt, e))) ∙ t))

-- what the rows of some encodings do not allow they do not take
pub rows_sound : (enc : Encodings) (rows : List (List (List Bool))) → AreReady enc → AreRows enc rows → (deep : ℕ)
    → IsSound (allowed_in rows) (λ c bytes. constructor_taken (type_taken deep enc) enc bytes c)
rows_sound enc rows ready right deep = λ c place bytes fits bad.
    constructor_none (type_taken deep enc) enc c place bytes (constructors_plain enc ready) fits
    (λ k p. right c k p place (get_or bytes place 256) bad)

-- the tree of a type's constructors lists what a scan needs
pub tree_scans : (enc : Encodings) (rows : List (List (List Bool))) (nodes : List Node) (root : ℕ) (cs : List ℕ) → AreReady enc → AreRows enc rows
    → IsTreeOf LEVELS (allowed_in rows) nodes root cs → IsScan enc nodes root cs
tree_scans enc rows nodes root cs ready right tree = λ deep bytes fits.
    listed-scan (allowed_in rows) (λ c bs. constructor_taken (type_taken deep enc) enc bs c) (rows_sound enc rows ready right deep) bytes fits LEVELS nodes root cs tree

-- a type that is there or not
pub type_scans : (d : ℕ) (enc : Encodings) (bytes : List ℕ) (deep : ℕ) → deep ≡ suc d
    → type_taken deep enc 0 bytes ≡ first_matching (constructor_taken (type_taken d enc) enc bytes) (instructions enc)
unfolding type_taken
type_scans d enc bytes deep e = ap (λ m. type_taken m enc 0 bytes) e ∙ at_type (slice_get enc.types 0)
  where
    at_type : (o : Option (List ℕ)) → option_and_then (first_matching (constructor_taken (type_taken d enc) enc bytes)) o
        ≡ first_matching (constructor_taken (type_taken d enc) enc bytes) (unwrap_or o [])
    at_type None = refl
    at_type (Some cs) = refl

-- no constructor, no instruction
pub instruction-none : (enc : Encodings) (bytes : List ℕ) (deep : ℕ) → deep ≡ 0 → type_taken deep enc 0 bytes ≡ None
unfolding type_taken
instruction-none enc bytes deep e = ap (λ m. type_taken m enc 0 bytes) e

pub build_scans : (enc : Encodings) (rows : List (List (List Bool))) (cs : List ℕ) (r : Result Tree AllocError) → AreReady enc → AreRows enc rows
    → IfOk r (λ tree. IsTreeOf LEVELS (allowed_in rows) tree.nodes tree.root cs) → IfOk r (λ tree. IsScan enc tree.nodes tree.root cs)
build_scans enc rows cs (Ok tree) ready right h = tree_scans enc rows tree.nodes tree.root cs ready right h
build_scans enc rows cs (Err f) ready right h = tt

pub bytes_fit : (xs : List ℕ) → ((i : ℕ) → Fits w8 (get_or xs i 0)) → AreBytes xs
bytes_fit xs h = λ k d lt. let e : get_or xs k d ≡ get_or xs k 0 = get_or_default xs k d 0 lt in let f : Fits w8 (get_or xs k 0) = h k in omega (arith, e, f)

pub matched_of : (o : Option MatchedInst) → o ≡ option_map matched_inst (taken_of o)
matched_of None = refl
matched_of (Some f) = refl
