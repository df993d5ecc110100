-- How the code reads lists: what it has so far, and what it is still to read.
use Rattle.std.proofs.Common.{◌≡◌, ℕ, ◌+◌, ◌<◌, ◌≤◌, zero, suc, true, false, List, [], ◌∷◌, ◌++◌, length, drop, Err, refl, sym, ap, ◌∙◌, subst, arith, append_assoc, length-append}
use Rattle.std.proofs.lemmas.List.{append-nil}
use Rattle.text_lex.specs.declared.token.Token.{Token}
use Rattle.line_reading.specs.declared.stop.Stop.{Stop}
use Rattle.line_reading.specs.declared.stop.Stop.TheVariants.{Malformed, NoMemory}
use Rattle.line_reading.specs.Readings.{Read, fails, reads, Reader, Told, begins, without, onto, up_to, items}
use Rattle.line_reading.proofs.ListReads.{IsSound, at_sign}

-- no reader gives back more than it was given
pub record IsShorter {A : Type 0} (one : Reader A) : Type 0 where
  pub shorter : (ts : List Token) (x : A) (r : List Token) → one ts ≡ reads x r → length r ≤ length ts

pub shorter_from_sound : {A : Type 0} (one : Reader A) (spell : A → List Token) (P : A → Type 0) → IsSound one spell P → IsShorter one
shorter_from_sound one spell P sound = record {
  shorter = λ ts x r h.
      let s = sound.shown ts x r h in
      let e : length ts ≡ length (spell x) + length r = ap length s.spelled ∙ length-append (spell x) r in
      omega arith;
}

-- these are the first items of the whole, and these tokens are left
pub record Going {A : Type 0} (k : ℕ) (one : Reader A) (whole : List Token) (out : List A) (ts : List Token) : Type 0 where
  pub left : ℕ
  pub enough : length ts ≤ left
  pub same : items k one whole ≡ onto out (up_to left k one ts)

pub go_first : {A : Type 0} (k : ℕ) (one : Reader A) (whole : List Token) (x : A) (out : List A) (ts : List Token) → one whole ≡ reads x ts → out ≡ x ∷ [] → Going k one whole out ts
unfolding items
go_first k one whole x out ts h is = record { left = length ts; enough = omega arith; same = rw (h, is) refl }

pub onto_onto : {A : Type 0} (xs ys : List A) (o : Read (List A)) → onto xs (onto ys o) ≡ onto (xs ++ ys) o
onto_onto xs ys fails = refl
onto_onto xs ys (reads zs r) = ap (λ l. reads l r) (sym (append_assoc xs ys zs))

up_to_more : {A : Type 0} (k n : ℕ) (one : Reader A) (ts : List Token) (x : A) (mid : List Token) → begins k ts ≡ true → one (drop 1 ts) ≡ reads x mid → up_to (suc n) k one ts ≡ onto (x ∷ []) (up_to n k one mid)
unfolding up_to
up_to_more k n one ts x mid b h = rw (b, h) refl

up_to_fails : {A : Type 0} (k n : ℕ) (one : Reader A) (ts : List Token) → begins k ts ≡ true → one (drop 1 ts) ≡ fails → up_to (suc n) k one ts ≡ fails
unfolding up_to
up_to_fails k n one ts b h = rw (b, h) refl

up_to_end : {A : Type 0} (k n : ℕ) (one : Reader A) (ts : List Token) → begins k ts ≡ false → up_to n k one ts ≡ reads [] ts
unfolding up_to
up_to_end k zero one ts b = refl
up_to_end k (suc n) one ts b = rw b refl

some_left : (k : ℕ) (ts : List Token) → begins k ts ≡ true → length ts ≡ suc (length (drop 1 ts))
some_left k ts b = ap length (at_sign k ts b)

go_from : {A : Type 0} (k : ℕ) (one : Reader A) (whole : List Token) (out new : List A) (ts : List Token) (x : A) (mid : List Token) → IsShorter one → (left : ℕ) → length ts ≤ left → items k one whole ≡ onto out (up_to left k one ts) → begins k ts ≡ true → one (drop 1 ts) ≡ reads x mid → new ≡ out ++ x ∷ [] → Going k one whole new mid
go_from k one whole out new ts x mid short zero l same b h is = let e = some_left k ts b in absurd (omega arith)
go_from k one whole out new ts x mid short (suc n) l same b h is =
    let e = some_left k ts b in
    let m = short.shorter (drop 1 ts) x mid h in
    record { left = n; enough = omega arith; same = same ∙ ap (onto out) (up_to_more k n one ts x mid b h) ∙ onto_onto out (x ∷ []) (up_to n k one mid) ∙ ap (λ l. onto l (up_to n k one mid)) (sym is) }

pub go_on : {A : Type 0} (k : ℕ) (one : Reader A) (whole : List Token) (out new : List A) (ts : List Token) (x : A) (mid : List Token) → IsShorter one → Going k one whole out ts → begins k ts ≡ true → one (drop 1 ts) ≡ reads x mid → new ≡ out ++ x ∷ [] → Going k one whole new mid
go_on k one whole out new ts x mid short g b h is = go_from k one whole out new ts x mid short g.left g.enough g.same b h is

pub go_end : {A : Type 0} (k : ℕ) (one : Reader A) (whole : List Token) (out : List A) (ts : List Token) → Going k one whole out ts → begins k ts ≡ false → items k one whole ≡ reads out ts
go_end k one whole out ts g b = g.same ∙ ap (onto out) (up_to_end k g.left one ts b) ∙ ap (λ l. reads l ts) (append-nil out)

broken_from : {A : Type 0} (k : ℕ) (one : Reader A) (whole : List Token) (out : List A) (ts : List Token) (left : ℕ) → length ts ≤ left → items k one whole ≡ onto out (up_to left k one ts) → begins k ts ≡ true → one (drop 1 ts) ≡ fails → items k one whole ≡ fails
broken_from k one whole out ts zero l same b h = let e = some_left k ts b in absurd (omega arith)
broken_from k one whole out ts (suc n) l same b h = same ∙ ap (onto out) (up_to_fails k n one ts b h)

-- where an item is broken, so is the list
pub go_stops : {A : Type 0} (k : ℕ) (one : Reader A) (whole : List Token) (out : List A) (ts : List Token) (stop : Stop) (rest more : List Token) → Going k one whole out ts → begins k ts ≡ true → Told {A = A} (Err stop) rest (one (drop 1 ts)) → Told {A = List A} (Err stop) more (items k one whole)
go_stops k one whole out ts Malformed rest more g b h = broken_from k one whole out ts g.left g.enough g.same b h
go_stops k one whole out ts NoMemory rest more g b h = tt

pub first_stops : {A : Type 0} (k : ℕ) (one : Reader A) (whole : List Token) (stop : Stop) (rest more : List Token) → Told {A = A} (Err stop) rest (one whole) → Told {A = List A} (Err stop) more (items k one whole)
unfolding items
first_stops k one whole Malformed rest more h = rw h refl
first_stops k one whole NoMemory rest more h = tt

-- the tokens behind a sign that stood in front
pub behind_sign : (k : ℕ) (ts more : List Token) → more ≡ without k ts → begins k ts ≡ true → more ≡ drop 1 ts
behind_sign k ts more is b = is ∙ rw b refl

pub no_sign : (k : ℕ) (ts more : List Token) → more ≡ without k ts → begins k ts ≡ false → more ≡ ts
no_sign k ts more is b = is ∙ rw b refl

-- an item and the sign before it take some tokens
pub item_falls : {A : Type 0} (k : ℕ) (one : Reader A) (ts more : List Token) (x : A) (mid : List Token) → IsShorter one → more ≡ without k ts → begins k ts ≡ true → one more ≡ reads x mid → length mid < length ts
item_falls k one ts more x mid short behind b h =
    let e = some_left k ts b in
    let m = short.shorter more x mid h in
    let d : length more ≡ length (drop 1 ts) = ap length (behind_sign k ts more behind b) in
    omega arith

-- the loop over items, one after another
pub loop_on : {A : Type 0} (k : ℕ) (one : Reader A) (whole : List Token) (out new : List A) (ts more : List Token) (x : A) (mid : List Token) → IsShorter one → Going k one whole out ts → more ≡ without k ts → begins k ts ≡ true → one more ≡ reads x mid → new ≡ out ++ x ∷ [] → Going k one whole new mid
loop_on k one whole out new ts more x mid short g behind b h is = go_on k one whole out new ts x mid short g b (ap one (sym (behind_sign k ts more behind b)) ∙ h) is

pub loop_end : {A : Type 0} (k : ℕ) (one : Reader A) (whole : List Token) (out : List A) (ts more : List Token) → Going k one whole out ts → more ≡ without k ts → begins k ts ≡ false → items k one whole ≡ reads out more
loop_end k one whole out ts more g behind b = go_end k one whole out ts g b ∙ ap (λ m. reads out m) (sym (no_sign k ts more behind b))

pub loop_stops : {A : Type 0} (k : ℕ) (one : Reader A) (whole : List Token) (out : List A) (ts behind : List Token) (stop : Stop) (rest more : List Token) → Going k one whole out ts → behind ≡ without k ts → begins k ts ≡ true → Told {A = A} (Err stop) rest (one behind) → Told {A = List A} (Err stop) more (items k one whole)
loop_stops {A} k one whole out ts behind stop rest more g is b h =
    go_stops k one whole out ts stop rest more g b (subst (λ us. Told {A = A} (Err stop) rest (one us)) (behind_sign k ts behind is b) h)

pub ruleset loop_laws = (go_first, loop_on, loop_end, loop_stops, first_stops)
