-- Patterns: what is spelled is read.
use Rattle.std.proofs.Common.{◌≡◌, ℕ, Bool, true, false, ◌&&◌, not, List, [], ◌∷◌, ◌++◌, Option, Some, None, refl, sym, ap, ◌∙◌, append_assoc}
use Rattle.std.specs.List.{list_all}
use Rattle.std.proofs.lemmas.Bool.{true≢false, and_parts}
use Rattle.std.proofs.lemmas.List.{append-nil}
use Rattle.text_lex.specs.declared.token.Token.{Token}
use Rattle.text_lex.specs.declared.token.Token.TheVariants.{Name, Number, Sign, Bad}
use Rattle.line_reading.specs.Signs.{dots, differs, semicolon, equals, ampersand, bar}
use Rattle.line_reading.specs.Spelling.{each_behind, listed, is_empty}
use Rattle.line_reading.specs.Readings.{Read, fails, reads, Reader, begins, items}
use Rattle.line_reading.proofs.ListReads.{Each, IsRead, items_reads}
use Rattle.sled_syntax.specs.declared.line.SledPattern.{SledPattern}
use Rattle.sled_syntax.specs.declared.line.SledItem.{SledItem}
use Rattle.sled_syntax.specs.declared.line.Part.{Part}
use Rattle.sled_syntax.specs.declared.line.Part.TheVariants as part
use Rattle.sled_syntax.specs.Lines.{part_toks, rest_toks, item_toks, sequence_toks, pattern_toks, is_item, is_sequence, is_pattern}
use Rattle.sled_syntax.specs.LineReaders.{part_behind, read_part, item_of, read_rest, read_item, read_sequence, pattern_of, read_pattern, begins_any_name}

-- what can stand behind a part
pub record BehindPart (r : List Token) : Type 0 where
  pub no_equals : begins equals r ≡ false
  pub no_differs : begins differs r ≡ false

-- what can stand behind an item
pub record BehindItem (r : List Token) : Type 0 where
  pub part : BehindPart r
  pub no_ampersand : begins ampersand r ≡ false
  pub no_dots : begins dots r ≡ false

-- what can stand behind a sequence
pub record BehindSequence (r : List Token) : Type 0 where
  pub item : BehindItem r
  pub no_semicolon : begins semicolon r ≡ false

ampersand_behind : (r : List Token) → BehindPart (Sign ampersand ∷ r)
ampersand_behind r = record { no_equals = refl; no_differs = refl }

semicolon_behind : (r : List Token) → BehindItem (Sign semicolon ∷ r)
semicolon_behind r = record { part = record { no_equals = refl; no_differs = refl }; no_ampersand = refl; no_dots = refl }

bar_behind : (r : List Token) → BehindSequence (Sign bar ∷ r)
bar_behind r = record { item = record { part = record { no_equals = refl; no_differs = refl }; no_ampersand = refl; no_dots = refl }; no_semicolon = refl }

end_behind : BehindSequence []
end_behind = record { item = record { part = record { no_equals = refl; no_differs = refl }; no_ampersand = refl; no_dots = refl }; no_semicolon = refl }

part_reads : (p : Part) (r : List Token) → BehindPart r → read_part (part_toks p ++ r) ≡ reads p r
unfolding read_part part_behind
part_reads (part.Equal n v) r h = refl
part_reads (part.Differs n v) r h = refl
part_reads (part.Lone n) r h = rw (h.no_equals, h.no_differs) refl

each_part : (ps : List Part) → Each (IsRead BehindPart read_part part_toks) ps
each_part [] = tt
each_part (p ∷ ps) = (record { always = part_reads p }, each_part ps)

rest_reads : (o : Option (List ℕ)) (r : List Token) → BehindItem r → read_rest (rest_toks o ++ r) ≡ reads o r
unfolding read_rest
rest_reads None r h = rw h.no_dots refl
rest_reads (Some name) r h = refl

rest_behind : (o : Option (List ℕ)) (r : List Token) → BehindItem r → BehindPart (rest_toks o ++ r)
rest_behind None r h = h.part
rest_behind (Some name) r h = record { no_equals = refl; no_differs = refl }

rest_other : (o : Option (List ℕ)) (r : List Token) → BehindItem r → begins ampersand (rest_toks o ++ r) ≡ false
rest_other None r h = h.no_ampersand
rest_other (Some name) r h = refl

item_step : (ts mid r : List Token) (ps : List Part) (o : Option (List ℕ)) → items ampersand read_part ts ≡ reads ps mid → read_rest mid ≡ reads o r → read_item ts ≡ reads (item_of ps o) r
unfolding read_item
item_step ts mid r ps o h k = rw (h, k) refl

item_made : (ps : List Part) (o : Option (List ℕ)) (r : List Token) → not (is_empty ps) ≡ true → BehindItem r → read_item ((listed ampersand part_toks ps ++ rest_toks o) ++ r) ≡ reads (item_of ps o) r
item_made [] o r f h = absurd (true≢false (sym f))
item_made (p ∷ ps) o r f h =
    let back : List Token = rest_toks o ++ r in
    let e = append_assoc (listed ampersand part_toks (p ∷ ps)) (rest_toks o) r in
    ap read_item e
    ∙ item_step (listed ampersand part_toks (p ∷ ps) ++ back) back r (p ∷ ps) o (items_reads BehindPart ampersand read_part part_toks ampersand_behind p ps back (each_part (p ∷ ps)) (rest_behind o r h) (rest_other o r h)) (rest_reads o r h)

pub item_reads : (i : SledItem) (r : List Token) → is_item i ≡ true → BehindItem r → read_item (item_toks i ++ r) ≡ reads i r
item_reads i r f h = item_made i.parts i.rest r f h

each_item : (xs : List SledItem) → list_all is_item xs ≡ true → Each (IsRead BehindItem read_item item_toks) xs
each_item [] f = tt
each_item (x ∷ xs) f =
    let p = and_parts (is_item x) (list_all is_item xs) f in
    (record { always = λ r h. item_reads x r p.0 h }, each_item xs p.1)

pub sequence_reads : (xs : List SledItem) (r : List Token) → is_sequence xs ≡ true → BehindSequence r → read_sequence (sequence_toks xs ++ r) ≡ reads xs r
sequence_reads [] r f h = absurd (true≢false (sym f))
sequence_reads (x ∷ xs) r f h = items_reads BehindItem semicolon read_item item_toks semicolon_behind x xs r (each_item (x ∷ xs) f) h.item h.no_semicolon

each_sequence : (xs : List (List SledItem)) → list_all is_sequence xs ≡ true → Each (IsRead BehindSequence read_sequence sequence_toks) xs
each_sequence [] f = tt
each_sequence (x ∷ xs) f =
    let p = and_parts (is_sequence x) (list_all is_sequence xs) f in
    (record { always = λ r h. sequence_reads x r p.0 h }, each_sequence xs p.1)

pattern_step : (ts r : List Token) (xs : List (List SledItem)) → items bar read_sequence ts ≡ reads xs r → read_pattern ts ≡ reads (pattern_of xs) r
unfolding read_pattern
pattern_step ts r xs h = rw h refl

pattern_made : (xs : List (List SledItem)) → is_pattern (pattern_of xs) ≡ true → read_pattern (listed bar sequence_toks xs) ≡ reads (pattern_of xs) []
pattern_made [] f = absurd (true≢false (sym f))
pattern_made (x ∷ xs) f =
    ap read_pattern (sym (append-nil (listed bar sequence_toks (x ∷ xs))))
    ∙ pattern_step (listed bar sequence_toks (x ∷ xs) ++ []) [] (x ∷ xs) (items_reads BehindSequence bar read_sequence sequence_toks bar_behind x xs [] (each_sequence (x ∷ xs) f) end_behind refl)

-- a pattern is read from its tokens
pub pattern_reads : (p : SledPattern) → is_pattern p ≡ true → read_pattern (pattern_toks p) ≡ reads p []
pattern_reads p f = pattern_made p.alternatives f

-- no name stands in front
behind_no_name : {A : Type 0} (k : ℕ) (spell : A → List Token) (xs : List A) (r : List Token) → begins_any_name r ≡ false → begins_any_name (each_behind k spell xs ++ r) ≡ false
behind_no_name k spell [] r h = h
behind_no_name k spell (x ∷ xs) r h = refl

rest_no_name : (o : Option (List ℕ)) (r : List Token) → begins_any_name r ≡ false → begins_any_name (rest_toks o ++ r) ≡ false
rest_no_name None r h = h
rest_no_name (Some name) r h = refl

-- the tokens begin with a name, and no other name is behind it
pub record NameFirst (ts : List Token) : Type 0 where
  pub name : List ℕ
  pub tail : List Token
  pub front : ts ≡ Name name ∷ tail
  pub alone : begins_any_name tail ≡ false

part_first : (p : Part) (r : List Token) → begins_any_name r ≡ false → NameFirst (part_toks p ++ r)
part_first (part.Equal n v) r h = record { name = n; tail = Sign equals ∷ Number v ∷ r; front = refl; alone = refl }
part_first (part.Differs n v) r h = record { name = n; tail = Sign differs ∷ Number v ∷ r; front = refl; alone = refl }
part_first (part.Lone n) r h = record { name = n; tail = r; front = refl; alone = h }

moved : (ts us : List Token) → ts ≡ us → NameFirst us → NameFirst ts
moved ts us e n = record { name = n.name; tail = n.tail; front = e ∙ n.front; alone = n.alone }

item_first : (ps : List Part) (o : Option (List ℕ)) (r : List Token) → not (is_empty ps) ≡ true → begins_any_name r ≡ false → NameFirst ((listed ampersand part_toks ps ++ rest_toks o) ++ r)
item_first [] o r f h = absurd (true≢false (sym f))
item_first (p ∷ ps) o r f h =
    let back : List Token = rest_toks o ++ r in
    let e = append_assoc (listed ampersand part_toks (p ∷ ps)) (rest_toks o) r ∙ append_assoc (part_toks p) (each_behind ampersand part_toks ps) back in
    moved ((listed ampersand part_toks (p ∷ ps) ++ rest_toks o) ++ r) (part_toks p ++ (each_behind ampersand part_toks ps ++ back)) e
    (part_first p (each_behind ampersand part_toks ps ++ back) (behind_no_name ampersand part_toks ps back (rest_no_name o r h)))

sequence_first : (xs : List SledItem) (r : List Token) → is_sequence xs ≡ true → begins_any_name r ≡ false → NameFirst (sequence_toks xs ++ r)
sequence_first [] r f h = absurd (true≢false (sym f))
sequence_first (x ∷ xs) r f h =
    let p = and_parts (is_item x) (list_all is_item xs) f in
    let back : List Token = each_behind semicolon item_toks xs ++ r in
    moved (sequence_toks (x ∷ xs) ++ r) (item_toks x ++ back) (append_assoc (item_toks x) (each_behind semicolon item_toks xs) r)
    (item_first x.parts x.rest back p.0 (behind_no_name semicolon item_toks xs r h))

pattern_begun : (xs : List (List SledItem)) → is_pattern (pattern_of xs) ≡ true → NameFirst (listed bar sequence_toks xs)
pattern_begun [] f = absurd (true≢false (sym f))
pattern_begun (x ∷ xs) f =
    let p = and_parts (is_sequence x) (list_all is_sequence xs) f in
    let back : List Token = each_behind bar sequence_toks xs in
    let none : begins_any_name back ≡ false = ap begins_any_name (sym (append-nil back)) ∙ behind_no_name bar sequence_toks xs [] refl in
    sequence_first x back p.0 none

-- a pattern begins with a name, and no other name is behind it
pub pattern_first : (p : SledPattern) → is_pattern p ≡ true → NameFirst (pattern_toks p)
pattern_first p f = pattern_begun p.alternatives f
