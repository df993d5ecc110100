-- Pieces that a sink takes one after the other.
use Rattle.std.proofs.Common.{◌≡◌, ◌∙◌, ◌⊎◌, inl, inr, ℕ, suc, ◌+◌, ◌<◌, ◌≤◌, List, [], ◌∷◌, ◌++◌, length, take, drop, get_or, map, refl, sym, ap, arith, append_assoc, length-append, drop-cons}
use Rattle.std.proofs.lemmas.List.{take-append-drop, take_more, take-append-le, append-nil}
use Rattle.std.proofs.lemmas.Bool.{false≢true}
use Rattle.std.specs.Prelude.{Option, Some, None, Result, Ok, Err, OnOk, OnErr, true, false}
use Rattle.std.specs.Result.{is_err}
use Rattle.std.specs.Borrow.{Bor}
use Rattle.edge_io.specs.Counts.{Rose}
use Rattle.edge_io.specs.Told.{followed}
use Rattle.edge_io.specs.Output.{Output, TookPart, TookFront}
use Rattle.uqbt_top.specs.Message.{joined}

-- the bytes of pieces that are lent
abbrev pub lent : List (Bor (List ℕ)) → List ℕ
lent pieces = joined (map (λ p. p.now) pieces)

lent-append : (ps qs : List (Bor (List ℕ))) → lent (ps ++ qs) ≡ lent ps ++ lent qs
lent-append [] qs = refl
lent-append (p ∷ ps) qs = ap (λ bs. p.now ++ bs) (lent-append ps qs) ∙ sym (append_assoc p.now (lent ps) (lent qs))

-- all pieces, round the one at i
pub lent_round : (ps : List (Bor (List ℕ))) (i : ℕ) (d : Bor (List ℕ)) → i < length ps
    → lent ps ≡ lent (take i ps) ++ ((get_or ps i d).now ++ lent (drop (suc i) ps))
lent_round ps i d lt =
    ap lent (sym (take-append-drop i ps)) ∙ lent-append (take i ps) (drop i ps)
    ∙ ap (λ qs. lent (take i ps) ++ lent qs) (drop-cons ps i d lt)

-- the pieces up to the one at i, and that one
pub lent_more : (ps : List (Bor (List ℕ))) (i : ℕ) (d : Bor (List ℕ)) → i < length ps
    → lent (take (i + 1) ps) ≡ lent (take i ps) ++ (get_or ps i d).now
lent_more ps i d lt =
    ap lent (take_more ps i d lt) ∙ lent-append (take i ps) (get_or ps i d ∷ [])
    ∙ ap (λ bs. lent (take i ps) ++ bs) (append-nil (get_or ps i d).now)

-- bytes behind bytes
pub followed_on : (told : Option (List ℕ)) (xs ys : List ℕ) → followed (followed told xs) ys ≡ followed told (xs ++ ys)
followed_on None xs ys = refl
followed_on (Some zs) xs ys = ap Some (append_assoc zs xs ys)

take_on : (xs ys : List ℕ) (n : ℕ) → xs ++ take n ys ≡ take (length xs + n) (xs ++ ys)
take_on [] ys n = let none : length {A = ℕ} [] + n ≡ n = omega arith in rw none refl
take_on (x ∷ xs) ys n =
    let more : length (x ∷ xs) + n ≡ suc (length xs + n) = omega arith in
    rw more (ap (λ zs. x ∷ zs) (take_on xs ys n))

later_cause : (old mid new : Output) (xs ys : List ℕ) (n : ℕ) → old.faults ≤ mid.faults → (n ≡ length ys) ⊎ Rose mid.faults new.faults
    → (length xs + n ≡ length (xs ++ ys)) ⊎ Rose old.faults new.faults
later_cause old mid new xs ys n later (inl all) = inl (omega (arith, all, length-append xs ys))
later_cause old mid new xs ys n later (inr rose) = inr (omega (arith, later, rose))

-- a front behind what was taken before
pub front_behind : (old mid new : Output) (xs ys : List ℕ) → mid.taken ≡ followed old.taken xs → old.faults ≤ mid.faults
    → TookFront mid new ys → TookFront old new (xs ++ ys)
front_behind old mid new xs ys taken later front = record {
  count = length xs + front.count;
  within = omega (arith, front.within, length-append xs ys);
  taken = front.taken ∙ ap (λ t. followed t (take front.count ys)) taken ∙ followed_on old.taken xs (take front.count ys)
      ∙ ap (λ bs. followed old.taken bs) (take_on xs ys front.count);
  cause = later_cause old mid new xs ys front.count later front.cause;
  later = omega (arith, later, front.later);
}

-- a part of a piece is a front of all that begins with it
pub front_of_part : (old new : Output) (xs ys : List ℕ) → TookPart old new xs → old.faults ≤ new.faults → TookFront old new (xs ++ ys)
front_of_part old new xs ys part later =
    let short : part.count ≤ length xs = omega (arith, part.proper) in
    record {
      count = part.count;
      within = omega (arith, part.proper, length-append xs ys);
      taken = part.taken ∙ ap (λ bs. followed old.taken bs) (sym (take-append-le part.count xs ys short));
      cause = inr part.rose;
      later = later;
    }

-- what holds of an answer that is a fault, or isn't
pub on_err : {T E : Type 0} (r : Result T E) (P : Type 0) → true ≡ is_err r → OnErr r P → P
on_err (Ok x) P is holds = absurd (false≢true (sym is))
on_err (Err e) P is holds = holds

pub on_ok : {T E : Type 0} (r : Result T E) (P : Type 0) → false ≡ is_err r → OnOk r P → P
on_ok (Ok x) P is holds = holds
on_ok (Err e) P is holds = absurd (false≢true is)
