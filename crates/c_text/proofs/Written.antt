-- How what a sink took composes.
use Rattle.std.proofs.Common.{subst, ◌≡◌, ℕ, ◌+◌, ◌≤◌, true, suc, List, [], ◌∷◌, ◌++◌, length, take, Option, Some, None, Ok, Err, refl, sym, ap, ◌∙◌, arith, append_assoc, length-append}
use Rattle.std.proofs.lemmas.List.{append-nil, take-append-le}
use Rattle.std.specs.Prelude.{Result, OnErr}
use Rattle.scan.proofs.Blanks.{writes_nothing, writes_both}
use Rattle.edge_io.specs.Told.{followed}
use Rattle.edge_io.specs.Counts.{Rose}
use Rattle.edge_io.specs.Output.{Output, TookPart}
use Rattle.c_text.specs.Tokens.{Token, word_token}
use Rattle.c_text.specs.Output.{Took, Wrote, Broke}
use Rattle.c_text.specs.Gaps.{is_gap, ends_word, gap_toks}
use Rattle.c_text.proofs.Gaps.{writes_gap, writes_word}

followed_both : (told : Option (List ℕ)) (v w : List ℕ) → followed (followed told v) w ≡ followed told (v ++ w)
followed_both None v w = refl
followed_both (Some xs) v w = ap Some (append_assoc xs v w)

followed_nothing : (told : Option (List ℕ)) → told ≡ followed told []
followed_nothing None = refl
followed_nothing (Some xs) = ap Some (sym (append-nil xs))

take_over : (v w : List ℕ) (n : ℕ) → take (length v + n) (v ++ w) ≡ v ++ take n w
take_over [] w n = grind arith
take_over (x ∷ v) w n = let e : length (x ∷ v) + n ≡ suc (length v + n) = omega arith in rw e (ap (λ l. x ∷ l) (take_over v w n))

rose_later : (a b c : ℕ) → a ≤ b → Rose b c → Rose a c
rose_later a b c l r = omega (arith, r)

-- bytes
pub took_nothing : {o : Output} → Took o o []
took_nothing {o} = record { later = omega arith; taken = followed_nothing o.taken }

pub took_both : {o p q : Output} {v w : List ℕ} → Took o p v → Took p q w → Took o q (v ++ w)
took_both {o} {p} {q} {v} {w} f g = record { later = omega (arith, f.later, g.later); taken = g.taken ∙ ap (λ t. followed t w) f.taken ∙ followed_both o.taken v w }

pub part_here : {o q : Output} {v : List ℕ} (w : List ℕ) → TookPart o q v → TookPart o q (v ++ w)
part_here {o} {q} {v} w f = record {
  count = f.count;
  proper = omega (arith, f.proper, length-append v w);
  taken = f.taken ∙ ap (followed o.taken) (sym (take-append-le f.count v w (omega (arith, f.proper))));
  rose = f.rose;
}

pub part_then : {o p q : Output} {v w : List ℕ} → Took o p v → TookPart p q w → TookPart o q (v ++ w)
part_then {o} {p} {q} {v} {w} f g = record {
  count = length v + g.count;
  proper = omega (arith, g.proper, length-append v w);
  taken = g.taken ∙ ap (λ t. followed t (take g.count w)) f.taken ∙ followed_both o.taken v (take g.count w) ∙ ap (followed o.taken) (sym (take_over v w g.count));
  rose = rose_later o.faults p.faults q.faults f.later g.rose;
}

-- tokens
pub wrote_nothing : {o : Output} → Wrote o o []
wrote_nothing {o} = record { text = []; writes = writes_nothing; took = took_nothing }

pub wrote_both : {o p q : Output} {ts us : List Token} → Wrote o p ts → Wrote p q us → Wrote o q (ts ++ us)
wrote_both f g = record { text = f.text ++ g.text; writes = writes_both f.writes g.writes; took = took_both f.took g.took }

pub broke_here : {o q : Output} {ts : List Token} (us : List Token) → Broke o q ts → Broke o q (ts ++ us)
broke_here {o} {q} {ts} us f = record { front = f.front; back = f.back ++ us; split = ap (λ xs. xs ++ us) f.split ∙ append_assoc f.front f.back us; text = f.text; writes = f.writes; part = f.part }

pub broke_then : {o p q : Output} {ts us : List Token} → Wrote o p ts → Broke p q us → Broke o q (ts ++ us)
broke_then {o} {p} {q} {ts} {us} f g = record {
  front = ts ++ g.front;
  back = g.back;
  split = ap (λ xs. ts ++ xs) g.split ∙ sym (append_assoc ts g.front g.back);
  text = f.text ++ g.text;
  writes = writes_both f.writes g.writes;
  part = part_then f.took g.part;
}

-- the same where the first are one, two or three tokens
pub wrote_one : {o p q : Output} {t : Token} {us : List Token} → Wrote o p (t ∷ []) → Wrote p q us → Wrote o q (t ∷ us)
wrote_one f g = wrote_both f g

pub wrote_two : {o p q : Output} {s t : Token} {us : List Token} → Wrote o p (s ∷ t ∷ []) → Wrote p q us → Wrote o q (s ∷ t ∷ us)
wrote_two f g = wrote_both f g

pub broke_one : {o p q : Output} {t : Token} {us : List Token} → Wrote o p (t ∷ []) → Broke p q us → Broke o q (t ∷ us)
broke_one f g = broke_then f g

pub broke_two : {o p q : Output} {s t : Token} {us : List Token} → Wrote o p (s ∷ t ∷ []) → Broke p q us → Broke o q (s ∷ t ∷ us)
broke_two f g = broke_then f g

pub broke_at_one : {o q : Output} {t : Token} (us : List Token) → Broke o q (t ∷ []) → Broke o q (t ∷ us)
broke_at_one us f = broke_here us f

pub broke_at_two : {o q : Output} {s t : Token} (us : List Token) → Broke o q (s ∷ t ∷ []) → Broke o q (s ∷ t ∷ us)
broke_at_two us f = broke_here us f

-- a gap was put, or a front of it
pub wrote_gap : {o q : Output} (gap : List ℕ) → is_gap gap ≡ true → Took o q gap → Wrote o q (gap_toks gap)
wrote_gap gap h f = record { text = gap; writes = writes_gap gap h; took = f }

pub broke_gap : {o q : Output} (gap : List ℕ) → is_gap gap ≡ true → TookPart o q gap → Broke o q (gap_toks gap)
broke_gap gap h f = record { front = gap_toks gap; back = []; split = sym (append-nil (gap_toks gap)); text = gap; writes = writes_gap gap h; part = f }

-- a word and the gap behind it were put, or a front of them
pub wrote_word : {o q : Output} {t : Token} (w gap : List ℕ) → ends_word gap ≡ true → word_token w ≡ Some t → Took o q (w ++ gap) → Wrote o q (t ∷ gap_toks gap)
wrote_word {o} {q} {t} w gap h e f = record { text = w ++ gap; writes = writes_word w gap t h e; took = f }

pub broke_word : {o q : Output} {t : Token} (w gap : List ℕ) → ends_word gap ≡ true → word_token w ≡ Some t → TookPart o q (w ++ gap) → Broke o q (t ∷ gap_toks gap)
broke_word {o} {q} {t} w gap h e f =
    record { front = t ∷ gap_toks gap; back = []; split = sym (append-nil (t ∷ gap_toks gap)); text = w ++ gap; writes = writes_word w gap t h e; part = f }

-- the same tokens, written otherwise
pub wrote_as : {o q : Output} {us ts : List Token} → us ≡ ts → Wrote o q ts → Wrote o q us
wrote_as {o} {q} e f = subst (Wrote o q) (sym e) f

pub broke_as : {o q : Output} {us ts : List Token} → us ≡ ts → Broke o q ts → Broke o q us
broke_as {o} {q} e f = subst (Broke o q) (sym e) f

-- what holds at any error
pub any_err : {T E P : Type 0} (r : Result T E) → P → OnErr r P
any_err (Ok v) p = tt
any_err (Err e) p = p
