-- Told bytes that grow or shrink piece by piece.
use Rattle.std.proofs.Common.{◌≡◌, ℕ, ◌+◌, ◌-◌, ◌≤◌, List, ◌++◌, length, take, drop, take-add, refl, sym, ap, ◌∙◌, append_assoc, arith, length-take, length-drop, length-append}
use Rattle.std.proofs.lemmas.List.{take_at, take-append-drop, drop-drop}
use Rattle.std.specs.Prelude.{◌<◌, ◌↔◌, IsErrOf, Option, Some, None, Result}
use Rattle.edge_io.specs.Counts.{counted}
use Rattle.edge_io.specs.Told.{followed, preceded}
use Rattle.edge_io.specs.Input.{Input, Gave, Came}
use Rattle.edge_io.specs.declared.source.ReadEnd.{ReadEnd}
use Rattle.edge_io.specs.declared.source.ReadEnd.TheVariants.{TooLong}

-- the first d items, and n more behind them, are the first d + n
pub followed-take : (told : Option (List ℕ)) (xs : List ℕ) (d n : ℕ) →
    followed (followed told (take d xs)) (take n (drop d xs)) ≡ followed told (take (d + n) xs)
followed-take None xs d n = refl
followed-take (Some ys) xs d n =
    ap Some (append_assoc ys (take d xs) (take n (drop d xs)) ∙ ap (λ zs. ys ++ zs) (sym (take-add d n xs)))

-- a put takes n items of the rest of a piece, of which d were taken before
pub put_on : (old mid new : Option (List ℕ)) (piece rest : List ℕ) (d n : ℕ) →
    mid ≡ followed old (take d piece) → rest ≡ drop d piece → new ≡ followed mid (take n rest) →
    new ≡ followed old (take (d + n) piece)
put_on old mid new piece rest d n before is_rest took =
    took ∙ ap (λ told. followed told (take n rest)) before
    ∙ ap (λ xs. followed (followed old (take d piece)) (take n xs)) is_rest
    ∙ followed-take old piece d n

-- what comes in two pieces
pub preceded-append : (told : Option (List ℕ)) (xs ys : List ℕ) →
    preceded xs (preceded ys told) ≡ preceded (xs ++ ys) told
preceded-append None xs ys = refl
preceded-append (Some zs) xs ys = ap Some (sym (append_assoc xs ys zs))

-- a count that goes up twice
pub counted-counted : (count a b : ℕ) → counted (counted count a) b ≡ counted count (a + b)
counted-counted count a b = omega arith

-- n bytes more from the front of a buffer
pub length_more : (bytes buffer : List ℕ) (n : ℕ) → n ≤ length buffer →
    length (bytes ++ take n buffer) ≡ length bytes + n
length_more bytes buffer n fits = simp (length-append, length-take) (omega arith)

-- a take gives n bytes more
pub gave_on : (old mid new : Input) (bytes buffer : List ℕ) (n : ℕ) →
    Gave old mid bytes → n ≤ length buffer →
    mid.left ≡ preceded (take n buffer) new.left → new.given ≡ counted mid.given n →
    Gave old new (bytes ++ take n buffer)
gave_on old mid new bytes buffer n before fits left given = record {
  left = before.left ∙ ap (λ told. preceded bytes told) left ∙ preceded-append new.left bytes (take n buffer);
  given = given ∙ ap (λ count. counted count n) before.given ∙ counted-counted old.given (length bytes) n
      ∙ ap (λ k. counted old.given k) (sym (length_more bytes buffer n fits));
}

-- a take gave n bytes more, and the answer was too long exactly if these were too many
pub came_on : {T : Type 0} (limit : ℕ) (old mid new : Input) (result : Result T ReadEnd)
    (bytes buffer : List ℕ) (n : ℕ) →
    Gave old mid bytes → n ≤ length buffer →
    mid.left ≡ preceded (take n buffer) new.left → new.given ≡ counted mid.given n →
    (IsErrOf result TooLong ↔ (limit < length bytes + n)) → Came limit old new result
came_on limit old mid new result bytes buffer n before fits left given too_long = record {
  bytes = bytes ++ take n buffer;
  gave = gave_on old mid new bytes buffer n before fits left given;
  too_long = let e = length_more bytes buffer n fits in rw e too_long;
}

-- what was copied from a place stands before what is left behind it
pub copied_from : (bytes copied rest : List ℕ) (at n : ℕ) →
    at + n ≤ length bytes → copied ≡ take (at + n - at) (drop at bytes) →
    drop at bytes ≡ take n (copied ++ rest) ++ drop (at + n) bytes
copied_from bytes copied rest at n fits is =
    let count : at + n - at ≡ n = omega arith in
    let same : copied ≡ take n (drop at bytes) = is ∙ ap (λ k. take k (drop at bytes)) count in
    let len : length copied ≡ n = ap length same ∙ simp (length-take, length-drop) (omega arith) in
    sym (ap (λ xs. xs ++ drop (at + n) bytes) (take_at copied rest n len ∙ same)
    ∙ ap (λ xs. take n (drop at bytes) ++ xs) (sym (drop-drop n at bytes))
    ∙ take-append-drop n (drop at bytes))
