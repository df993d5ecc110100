-- The fields of a token: what is spelled is read, what is read was spelled, and the loop of the code.
use Rattle.std.proofs.Common.{◌≡◌, ℕ, ◌+◌, ◌<◌, ◌≤◌, ◌==◌, zero, suc, true, false, List, [], ◌∷◌, ◌++◌, length, take, get_or, Err, refl, sym, ap, ◌∙◌, subst, arith, append_assoc, length-append}
use Rattle.std.proofs.lemmas.Bool.{true≢false, eqb-true, eq-eqb}
use Rattle.std.proofs.lemmas.List.{append-nil}
use Rattle.text_lex.specs.declared.token.Token.{Token}
use Rattle.text_lex.specs.declared.token.Token.TheVariants.{Name, Number, Sign}
use Rattle.line_reading.specs.declared.stop.Stop.{Stop}
use Rattle.line_reading.specs.declared.stop.Stop.TheVariants.{Malformed, NoMemory}
use Rattle.line_reading.specs.Signs.{colon}
use Rattle.line_reading.specs.Readings.{Read, fails, reads, Reader, after, ◌>>=◌, give, sign, number, any_name, onto, Told}
use Rattle.line_reading.proofs.ListReads.{IsShown, IsSound, never, through, as_read, past_sign, past_number, onto_through}
use Rattle.line_reading.proofs.NameReads.{Always, past_name}
use Rattle.line_reading.proofs.Loops.{IsShorter, shorter_from_sound, onto_onto}
use Rattle.line_reading.proofs.TextLaws.{take_next}
use Rattle.sled_syntax.specs.declared.line.FieldDef.{FieldDef}
use Rattle.sled_syntax.specs.Lines.{field_toks, fields_toks}
use Rattle.sled_syntax.specs.LineReaders.{field_of, read_field, fields_up_to, read_fields}

field_at : (ts : List Token) (f : FieldDef) (r : List Token) → read_field ts ≡ reads f r → IsShown field_toks Always ts f r
unfolding read_field
field_at ts f r h =
    let n = past_name (λ name. number >>= (λ lo. sign colon >>= (λ _. number >>= (λ hi. give (field_of name lo hi))))) ts f r h in
    let l = past_number (λ lo. sign colon >>= (λ _. number >>= (λ hi. give (field_of n.name lo hi)))) n.mid f r n.second in
    let c = past_sign colon (number >>= (λ hi. give (field_of n.name l.value hi))) l.mid f r l.second in
    let u = past_number (λ hi. give (field_of n.name l.value hi)) c.mid f r c.second in
    as_read (field_of n.name l.value u.value) f u.mid r u.second (record {
      spelled = n.front ∙ ap (λ us. Name n.name ∷ us) (l.front ∙ ap (λ us. Number l.value ∷ us) (c.front ∙ ap (λ us. Sign colon ∷ us) u.front));
      proper = tt;
    })

field_reads : (f : FieldDef) (r : List Token) → read_field (field_toks f ++ r) ≡ reads f r
unfolding read_field
field_reads f r = refl

up_to_step : (n : ℕ) (f : FieldDef) (fs : List FieldDef) (r : List Token) → fields_up_to n r ≡ reads fs [] → fields_up_to (suc n) (field_toks f ++ r) ≡ reads (f ∷ fs) []
unfolding fields_up_to
up_to_step n f fs r h = rw (field_reads f r, h) refl

up_to_nothing : (n : ℕ) → fields_up_to n [] ≡ reads [] []
unfolding fields_up_to
up_to_nothing zero = refl
up_to_nothing (suc n) = refl

up_to_reads : (n : ℕ) (fs : List FieldDef) → length (fields_toks fs) ≤ n → fields_up_to n (fields_toks fs) ≡ reads fs []
up_to_reads n [] l = up_to_nothing n
up_to_reads zero (f ∷ fs) l = absurd (omega arith)
up_to_reads (suc n) (f ∷ fs) l = up_to_step n f fs (fields_toks fs) (up_to_reads n fs (omega arith))

-- fields are read from their tokens
pub fields_reads : (fs : List FieldDef) → read_fields (fields_toks fs) ≡ reads fs []
unfolding read_fields
fields_reads fs = up_to_reads (length (fields_toks fs)) fs (omega arith)

nothing_shown : (ts : List Token) (fs : List FieldDef) (r : List Token) → reads [] ts ≡ reads fs r → ts ≡ fields_toks fs ++ r
nothing_shown ts fs r h = let s = as_read {spell = fields_toks} {P = Always} {ts = ts} [] fs ts r h (record { spelled = refl; proper = tt }) in s.spelled

up_to_sound : (n : ℕ) (ts : List Token) (fs : List FieldDef) (r : List Token) → fields_up_to n ts ≡ reads fs r → ts ≡ fields_toks fs ++ r
unfolding fields_up_to
up_to_sound zero ts fs r h = nothing_shown ts fs r h
up_to_sound (suc n) [] fs r h = nothing_shown [] fs r h
up_to_sound (suc n) (t ∷ ts) fs r h =
    let f = through (read_field (t ∷ ts)) (λ f more. onto (f ∷ []) (fields_up_to n more)) fs r h in
    let s = field_at (t ∷ ts) f.x f.mid f.first in
    let o = onto_through (f.x ∷ []) (fields_up_to n f.mid) fs r f.second in
    let rec = up_to_sound n f.mid o.zs r o.was in
    s.spelled ∙ ap (λ us. field_toks f.x ++ us) rec ∙ sym (append_assoc (field_toks f.x) (fields_toks o.zs) r) ∙ ap (λ zs. fields_toks zs ++ r) o.whole

-- fields that are read were spelled
pub fields_sound : (ts : List Token) (fs : List FieldDef) (r : List Token) → read_fields ts ≡ reads fs r → ts ≡ fields_toks fs ++ r
unfolding read_fields
fields_sound ts fs r h = up_to_sound (length ts) ts fs r h

field_shorter : IsShorter read_field
field_shorter = shorter_from_sound read_field field_toks Always (record { shown = field_at })

-- these are the first fields of the whole, and these tokens are left
pub record FieldsGoing (whole : List Token) (out : List FieldDef) (ts : List Token) : Type 0 where
  pub left : ℕ
  pub enough : length ts ≤ left
  pub same : read_fields whole ≡ onto out (fields_up_to left ts)

onto_nothing : {A : Type 0} (o : Read (List A)) → o ≡ onto [] o
onto_nothing fails = refl
onto_nothing (reads xs r) = refl

pub fields_start : (whole : List Token) (out : List FieldDef) → out ≡ [] → FieldsGoing whole out whole
unfolding read_fields
fields_start whole out is = record { left = length whole; enough = omega arith; same = onto_nothing (fields_up_to (length whole) whole) ∙ ap (λ l. onto l (fields_up_to (length whole) whole)) (sym is) }

more_step : (n : ℕ) (t : Token) (ts : List Token) (f : FieldDef) (mid : List Token) → read_field (t ∷ ts) ≡ reads f mid → fields_up_to (suc n) (t ∷ ts) ≡ onto (f ∷ []) (fields_up_to n mid)
unfolding fields_up_to
more_step n t ts f mid h = rw h refl

fails_step : (n : ℕ) (t : Token) (ts : List Token) → read_field (t ∷ ts) ≡ fails → fields_up_to (suc n) (t ∷ ts) ≡ fails
unfolding fields_up_to
fails_step n t ts h = rw h refl

field_takes : (ts mid : List Token) (f : FieldDef) → read_field ts ≡ reads f mid → length mid < length ts
field_takes ts mid f h =
    let s = field_at ts f mid h in
    let e : length ts ≡ length (field_toks f) + length mid = ap length s.spelled ∙ length-append (field_toks f) mid in
    omega arith

no_field : (f : FieldDef) (mid : List Token) → read_field [] ≡ reads f mid → ⊥
unfolding read_field
no_field f mid h = never f mid h

going_from : (whole : List Token) (out new : List FieldDef) (ts : List Token) (f : FieldDef) (mid : List Token) (left : ℕ) → length ts ≤ left → read_fields whole ≡ onto out (fields_up_to left ts) → read_field ts ≡ reads f mid → new ≡ out ++ f ∷ [] → FieldsGoing whole new mid
going_from whole out new [] f mid left l same h is = absurd (no_field f mid h)
going_from whole out new (t ∷ ts) f mid zero l same h is = absurd (omega arith)
going_from whole out new (t ∷ ts) f mid (suc n) l same h is =
    let m = field_takes (t ∷ ts) mid f h in
    record { left = n; enough = omega arith; same = same ∙ ap (onto out) (more_step n t ts f mid h) ∙ onto_onto out (f ∷ []) (fields_up_to n mid) ∙ ap (λ l. onto l (fields_up_to n mid)) (sym is) }

pub fields_on : (whole : List Token) (out new : List FieldDef) (ts : List Token) (f : FieldDef) (mid : List Token) → FieldsGoing whole out ts → read_field ts ≡ reads f mid → new ≡ out ++ f ∷ [] → FieldsGoing whole new mid
fields_on whole out new ts f mid g h is = going_from whole out new ts f mid g.left g.enough g.same h is

no_length : (ts : List Token) → (length ts == 0) ≡ true → ts ≡ []
no_length [] h = refl
no_length (t ∷ ts) h = let e = eqb-true (length (t ∷ ts)) 0 h in absurd (omega arith)

some_length : (ts : List Token) → (length ts == 0) ≡ false → ts ≡ [] → ⊥
some_length ts h e = true≢false (sym (eq-eqb (length ts) 0 (ap length e)) ∙ h)

pub fields_end : (whole : List Token) (out : List FieldDef) (ts : List Token) → FieldsGoing whole out ts → (length ts == 0) ≡ true → read_fields whole ≡ reads out ts
fields_end whole out ts g z = let e = no_length ts z in
    g.same ∙ ap (λ us. onto out (fields_up_to g.left us)) e ∙ ap (onto out) (up_to_nothing g.left) ∙ ap (λ l. reads l []) (append-nil out) ∙ ap (λ us. reads out us) (sym e)

broken_from : (whole : List Token) (out : List FieldDef) (ts : List Token) (left : ℕ) → length ts ≤ left → (ts ≡ [] → ⊥) → read_fields whole ≡ onto out (fields_up_to left ts) → read_field ts ≡ fails → read_fields whole ≡ fails
broken_from whole out [] left l some same h = absurd (some refl)
broken_from whole out (t ∷ ts) zero l some same h = absurd (omega arith)
broken_from whole out (t ∷ ts) (suc n) l some same h = same ∙ ap (onto out) (fails_step n t ts h)

-- where a field is broken, so is the list
pub fields_stop : (whole : List Token) (out : List FieldDef) (ts : List Token) (stop : Stop) (rest more : List Token) → FieldsGoing whole out ts → (length ts == 0) ≡ false → Told {A = FieldDef} (Err stop) rest (read_field ts) → Told {A = List FieldDef} (Err stop) more (read_fields whole)
fields_stop whole out ts Malformed rest more g some h = broken_from whole out ts g.left g.enough (some_length ts some) g.same h
fields_stop whole out ts NoMemory rest more g some h = tt

pub field_falls : (ts mid : List Token) (f : FieldDef) → read_field ts ≡ reads f mid → length mid < length ts
field_falls ts mid f h = field_takes ts mid f h

pub ruleset field_laws = (fields_start, fields_on, fields_end, fields_stop)

fields_push : (fs : List FieldDef) (f : FieldDef) → fields_toks (fs ++ f ∷ []) ≡ fields_toks fs ++ field_toks f
fields_push [] f = append-nil (field_toks f)
fields_push (g ∷ fs) f = ap (λ ts. field_toks g ++ ts) (fields_push fs f) ∙ sym (append_assoc (field_toks g) (fields_toks fs) (field_toks f))

-- the fields up to one more are put
pub put_more_fields : (base out new : List Token) (fs : List FieldDef) (i : ℕ) (f : FieldDef) → i < length fs → f ≡ get_or fs i f → out ≡ base ++ fields_toks (take i fs) → new ≡ out ++ field_toks f → new ≡ base ++ fields_toks (take (i + 1) fs)
put_more_fields base out new fs i f h at o n =
    n ∙ ap (λ ts. ts ++ field_toks f) o ∙ append_assoc base (fields_toks (take i fs)) (field_toks f)
    ∙ ap (λ ts. base ++ ts) (sym (ap fields_toks (take_next fs i f h ∙ ap (λ z. take i fs ++ z ∷ []) (sym at)) ∙ fields_push (take i fs) f))
