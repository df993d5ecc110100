-- Patterns: what is read was spelled.
use Rattle.std.proofs.Common.{◌≡◌, ℕ, Bool, true, false, ◌&&◌, not, List, [], ◌∷◌, ◌++◌, drop, Option, Some, None, refl, sym, ap, ◌∙◌, ◌⊎◌, inl, inr, append_assoc}
use Rattle.std.specs.List.{list_all}
use Rattle.std.proofs.lemmas.Bool.{cases_Bool}
use Rattle.text_lex.specs.declared.token.Token.{Token}
use Rattle.text_lex.specs.declared.token.Token.TheVariants.{Name, Number, Sign}
use Rattle.line_reading.specs.Signs.{dots, differs, semicolon, equals, ampersand, bar}
use Rattle.line_reading.specs.Spelling.{each_behind, listed, is_empty}
use Rattle.line_reading.specs.Readings.{Read, fails, reads, Reader, after, ◌>>=◌, give, begins, chosen, sign, number, any_name, items}
use Rattle.line_reading.proofs.ListReads.{Each, IsShown, IsSound, Several, through, as_read, at_sign, past_sign, past_number, items_sound}
use Rattle.line_reading.proofs.NameReads.{Always, past_name}
use Rattle.line_reading.proofs.Loops.{IsShorter, shorter_from_sound}
use Rattle.sled_syntax.specs.declared.line.SledPattern.{SledPattern}
use Rattle.sled_syntax.specs.declared.line.SledItem.{SledItem}
use Rattle.sled_syntax.specs.declared.line.Part.{Part}
use Rattle.sled_syntax.specs.declared.line.Part.TheVariants as part
use Rattle.sled_syntax.specs.Lines.{part_toks, rest_toks, item_toks, sequence_toks, pattern_toks, is_item, is_sequence, is_pattern}
use Rattle.sled_syntax.specs.LineReaders.{part_behind, read_part, item_of, read_rest, read_item, read_sequence, pattern_of, read_pattern}

-- a part by what stands behind its name
part_ended : (name : List ℕ) (mid : List Token) (p : Part) (r : List Token) → part_behind name mid ≡ reads p r → Name name ∷ mid ≡ part_toks p ++ r
unfolding part_behind
part_ended name mid p r h = by (cases_Bool (begins equals mid)) (cases_Bool (begins differs mid))
  where
    by : (begins equals mid ≡ true) ⊎ (begins equals mid ≡ false) → (begins differs mid ≡ true) ⊎ (begins differs mid ≡ false) → Name name ∷ mid ≡ part_toks p ++ r
    by (inl e) d =
        let n = past_number (λ value. give (part.Equal name value)) (drop 1 mid) p r (rw e at h) in
        let s = as_read {spell = part_toks} {P = Always} {ts = Name name ∷ mid} (part.Equal name n.value) p n.mid r n.second (record { spelled = ap (λ us. Name name ∷ us) (at_sign equals mid e ∙ ap (λ us. Sign equals ∷ us) n.front); proper = tt }) in
        s.spelled
    by (inr e) (inl d) =
        let n = past_number (λ value. give (part.Differs name value)) (drop 1 mid) p r (rw (e, d) at h) in
        let s = as_read {spell = part_toks} {P = Always} {ts = Name name ∷ mid} (part.Differs name n.value) p n.mid r n.second (record { spelled = ap (λ us. Name name ∷ us) (at_sign differs mid d ∙ ap (λ us. Sign differs ∷ us) n.front); proper = tt }) in
        s.spelled
    by (inr e) (inr d) =
        let s = as_read {spell = part_toks} {P = Always} {ts = Name name ∷ mid} (part.Lone name) p mid r (rw (e, d) at h) (record { spelled = refl; proper = tt }) in
        s.spelled

part_at : (ts : List Token) (p : Part) (r : List Token) → read_part ts ≡ reads p r → IsShown part_toks Always ts p r
unfolding read_part
part_at ts p r h =
    let n = past_name part_behind ts p r h in
    record { spelled = n.front ∙ part_ended n.name n.mid p r n.second; proper = tt }

pub part_sound : IsSound read_part part_toks Always
part_sound = record { shown = part_at }

rest_at : (ts : List Token) (o : Option (List ℕ)) (r : List Token) → read_rest ts ≡ reads o r → IsShown rest_toks Always ts o r
unfolding read_rest
rest_at ts o r h = by (cases_Bool (begins dots ts))
  where
    by : (begins dots ts ≡ true) ⊎ (begins dots ts ≡ false) → IsShown rest_toks Always ts o r
    by (inr e) = as_read None o ts r (rw e at h) (record { spelled = refl; proper = tt })
    by (inl e) =
        let a = past_sign ampersand (any_name >>= (λ name. give (Some name))) (drop 1 ts) o r (rw e at h) in
        let n = past_name (λ name. give (Some name)) a.mid o r a.second in
        as_read (Some n.name) o n.mid r n.second (record {
          spelled = at_sign dots ts e ∙ ap (λ us. Sign dots ∷ us) (a.front ∙ ap (λ us. Sign ampersand ∷ us) n.front);
          proper = tt;
        })

abbrev pub IsItem : SledItem → Type 0
IsItem x = is_item x ≡ true

some_there : {A : Type 0} (P : A → Type 0) (xs : List A) → Several P xs → not (is_empty xs) ≡ true
some_there P [] h = absurd h
some_there P (x ∷ xs) h = refl

item_at : (ts : List Token) (i : SledItem) (r : List Token) → read_item ts ≡ reads i r → IsShown item_toks IsItem ts i r
unfolding read_item
item_at ts i r h =
    let p = through (items ampersand read_part ts) (λ parts. read_rest >>= (λ rest. give (item_of parts rest))) i r h in
    let sp = items_sound ampersand read_part part_toks Always part_sound ts p.x p.mid p.first in
    let o = through (read_rest p.mid) (λ rest. give (item_of p.x rest)) i r p.second in
    let so = rest_at p.mid o.x o.mid o.first in
    as_read (item_of p.x o.x) i o.mid r o.second (record {
      spelled = sp.spelled ∙ ap (λ us. listed ampersand part_toks p.x ++ us) so.spelled ∙ sym (append_assoc (listed ampersand part_toks p.x) (rest_toks o.x) o.mid);
      proper = some_there Always p.x sp.proper;
    })

pub item_sound : IsSound read_item item_toks IsItem
item_sound = record { shown = item_at }

abbrev pub IsSequence : List SledItem → Type 0
IsSequence xs = is_sequence xs ≡ true

each_true : {A : Type 0} (f : A → Bool) (xs : List A) → Each (λ x. f x ≡ true) xs → list_all f xs ≡ true
each_true f [] h = refl
each_true f (x ∷ xs) h = rw (h.0, each_true f xs h.1) refl

several_true : {A : Type 0} (f : A → Bool) (xs : List A) → Several (λ x. f x ≡ true) xs → (not (is_empty xs) && list_all f xs) ≡ true
several_true f [] h = absurd h
several_true f (x ∷ xs) h = each_true f (x ∷ xs) h

sequence_at : (ts : List Token) (xs : List SledItem) (r : List Token) → read_sequence ts ≡ reads xs r → IsShown sequence_toks IsSequence ts xs r
sequence_at ts xs r h =
    let s = items_sound semicolon read_item item_toks IsItem item_sound ts xs r h in
    record { spelled = s.spelled; proper = several_true is_item xs s.proper }

pub sequence_sound : IsSound read_sequence sequence_toks IsSequence
sequence_sound = record { shown = sequence_at }

abbrev pub IsPattern : SledPattern → Type 0
IsPattern p = is_pattern p ≡ true

pub pattern_at : (ts : List Token) (p : SledPattern) (r : List Token) → read_pattern ts ≡ reads p r → IsShown pattern_toks IsPattern ts p r
unfolding read_pattern
pattern_at ts p r h =
    let a = through (items bar read_sequence ts) (λ alternatives. give (pattern_of alternatives)) p r h in
    let s = items_sound bar read_sequence sequence_toks IsSequence sequence_sound ts a.x a.mid a.first in
    as_read (pattern_of a.x) p a.mid r a.second (record { spelled = s.spelled; proper = several_true is_sequence a.x s.proper })

pub part_shorter : IsShorter read_part
part_shorter = shorter_from_sound read_part part_toks Always part_sound

pub item_shorter : IsShorter read_item
item_shorter = shorter_from_sound read_item item_toks IsItem item_sound

pub sequence_shorter : IsShorter read_sequence
sequence_shorter = shorter_from_sound read_sequence sequence_toks IsSequence sequence_sound
