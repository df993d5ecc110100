-- Items and sequences: every choice is a row that binds what the item or the sequence binds.
use Rattle.std.proofs.Common.{◌≡◌, ℕ, zero, suc, ◌+◌, ◌<◌, ◌≤◌, ◌==◌, ◌&&◌, ◌||◌, ◌⊎◌, inl, inr, not, cond, Bool, true, false, List, [], ◌∷◌, ◌++◌, Option, Some, None, length, map, is_some, is_none, fold, ap, refl, sym, subst, ◌∙◌, arith, max}
use Rattle.std.specs.Prelude.{All, IfSome, slice_get, option_and_then, option_to_list}
use Rattle.std.specs.List.{list_all, list_any, filter_map, flat_map, cons_option}
use Rattle.std.specs.Option.{option_or}
use Rattle.std.proofs.lemmas.List.{append-nil}
use Rattle.std.proofs.lemmas.List.Sums.{fold-append}
use Rattle.std.proofs.lemmas.List.Elements.{All-nil, All-cons, All-head, All-tail, All-append, filter_map-append}
use Rattle.std.proofs.lemmas.Bool.{eqb-true}
use Rattle.std.proofs.lemmas.Bool.Decides.{nat_tests}
use Rattle.rtl_core.specs.declared.encodings.OperandKind.{OperandKind}
use Rattle.rtl_core.specs.declared.encodings.OperandKind.TheVariants as K
use Rattle.rtl_core.specs.declared.encodings.Item.{Item}
use Rattle.rtl_core.specs.declared.encodings.Typed.{Typed}
use Rattle.rtl_core.specs.SoundEncodings.{IsSoundBind, IsSoundItem, IsSoundTest, IsToken}
use Rattle.sled_syntax.specs.declared.line.Part.{Part}
use Rattle.sled_syntax.specs.declared.line.Part.TheVariants.{Equal, Differs, Lone}
use Rattle.sled_syntax.specs.declared.line.SledItem.{SledItem}
use Rattle.sled_syntax.specs.Lines.{is_item}
use Rattle.sled_rules.specs.declared.facts.Facts.{Facts}
use Rattle.sled_rules.specs.declared.meaning.Token.{Token}
use Rattle.sled_rules.specs.declared.meaning.Field.{Field}
use Rattle.sled_rules.specs.declared.meaning.Start.{Start}
use Rattle.sled_rules.specs.declared.meaning.Start.TheVariants.{Nothing, One, Several}
use Rattle.sled_rules.specs.declared.meaning.Meaning.{Meaning}
use Rattle.sled_rules.specs.declared.meaning.Meaning.TheVariants as means
use Rattle.sled_rules.specs.Meanings.{Table, named, is_field, is_type}
use Rattle.sled_rules.specs.Operands.{is_listed, item_binds as sled_item_binds, kind_of, operand_of, part_binds, place, sequence_binds}
use Rattle.sled_rules.specs.Starts.{item_start, join, meaning_start, part_start, parts_of, rest_part, sequence_start, start_of}
use Rattle.sled_rules.specs.Alternatives.{both, choices, item_choices, lone_choices, nothing_asked, onto_first, part_choices, sequence_choices, test_choices, typed_item}
use Rattle.sled_rules.specs.Faults.{is_known_item, is_known_part, is_known_rest, is_lone, is_longer, is_longer_part, is_mixed, is_over, is_over_part, is_several, is_whole}
use Rattle.sled_rules.proofs.TakenLaws.{or_false}
use Rattle.sled_core.proofs.Full.{Full, full_choices, full_one, full_weaker, all_left}
use Rattle.sled_core.proofs.Rows.{IsInToken, IsPlainRow, IsRow, IsSoundMeaning, StartsWith, no_typed, row_append, row_of_any, row_onto}
use Rattle.sled_core.proofs.Parts.{Agrees, IsFinePart, IsPartly, IsScene, all_parts, length_one, listed_one, lone_partly, row_of_partly, test_partly}

pub and_both : (a b : Bool) → (a && b) ≡ true → (a ≡ true) × (b ≡ true)
and_both true b h = (refl, h)
and_both false b h = cc

-- ---- the token of an item over one

abbrev pub starts_fold : Table → List Facts → Start → List Part → Start
starts_fold names facts s parts = fold (λ s part. join s (part_start names facts part)) s parts

several_stays : (names : Table) (facts : List Facts) (parts : List Part) → starts_fold names facts Several parts ≡ Several
several_stays names facts [] = refl
several_stays names facts (part ∷ parts) = several_stays names facts parts

pub not_several : (names : Table) (facts : List Facts) (parts : List Part) → is_several (starts_fold names facts Several parts) ≡ false → ⊥
not_several names facts parts h = let e : is_several (starts_fold names facts Several parts) ≡ true = ap is_several (several_stays names facts parts) in cc (e, h)

-- the next part agrees, and the token stays
record Joined (t : Token) (s : Start) : Type 0 where
  agrees : Agrees t.bits s
  stays : join (One t) s ≡ One t

join_one : (t : Token) (s : Start) → (join (One t) s ≡ Several → ⊥) → Joined t s
join_one t Nothing h = record { agrees = tt; stays = refl }
join_one t Several h = absurd (h refl)
join_one t (One u) h = by ((t.place == u.place) && (t.bits == u.bits)) refl h
  where
    by : (b : Bool) → ((t.place == u.place) && (t.bits == u.bits)) ≡ b → (cond b (One t) Several ≡ Several → ⊥) → Joined t (One u)
    by true e h =
        let both = and_both (t.place == u.place) (t.bits == u.bits) e in
        record { agrees = sym (eqb-true t.bits u.bits both.1); stays = ap (λ b. cond b (One t) Several) e }
    by false e h = absurd (h refl)

-- all parts agree with the token where not several are there
pub record AllJoined (names : Table) (facts : List Facts) (t : Token) (parts : List Part) : Type 0 where
  pub agree : All (λ part. Agrees t.bits (part_start names facts part)) parts
  pub stays : starts_fold names facts (One t) parts ≡ One t

pub all_joined : (names : Table) (facts : List Facts) (t : Token) (parts : List Part) → is_several (starts_fold names facts (One t) parts) ≡ false → AllJoined names facts t parts
all_joined names facts t [] h = record { agree = All-nil (λ part. Agrees t.bits (part_start names facts part)); stays = refl }
all_joined names facts t (part ∷ parts) h =
    let one : Joined t (part_start names facts part) =
    join_one t (part_start names facts part) (λ e. not_several names facts parts (subst (λ s. is_several (starts_fold names facts s parts) ≡ false) e h)) in
    let rest : AllJoined names facts t parts = all_joined names facts t parts (subst (λ s. is_several (starts_fold names facts s parts) ≡ false) one.stays h) in
    record {
      agree = All-cons (λ part. Agrees t.bits (part_start names facts part)) part parts one.agrees rest.agree;
      stays = ap (λ s. starts_fold names facts s parts) one.stays ∙ rest.stays;
    }

-- the first part starts over one token
pub record IsOver (s : Start) : Type 0 where
  pub t : Token
  pub one : s ≡ One t
  pub wide : IsToken t.bits None

untyped_token : (bits : ℕ) (typed : Option Typed) → typed ≡ None → IsToken bits typed → IsToken bits None
untyped_token bits None e h = h
untyped_token bits (Some t) e h = cc

row_token : (t : Token) (items : List Item) → length items ≡ 1 → IsPlainRow (One t) items → IsToken t.bits None
row_token t [] one row = cc
row_token t (it ∷ []) one row =
    let item : IsSoundItem [] it = All-head (IsSoundItem []) it [] row.each in
    untyped_token t.bits it.typed (no_typed it.typed item.typed) (subst (λ n. IsToken n it.typed) (sym (row.starts tt)) item.token)
row_token t (it ∷ next ∷ items) one row = absurd (omega (arith, one))

token_of_rows : (t : Token) (rows : List (List Item)) → list_any (λ items. not (length items == 1)) rows ≡ false → Full (IsPlainRow (One t)) rows → IsToken t.bits None
token_of_rows t [] one full = absurd (omega (arith, full.some))
token_of_rows t (items ∷ rows) one full =
    row_token t items (length_one (length items) (or_false (not (length items == 1)) (list_any (λ items. not (length items == 1)) rows) one).0)
    (All-head (IsPlainRow (One t)) items rows full.each)

nothing_starts : (rows : List (List Item)) → Full (IsPlainRow Nothing) rows → ⊥
nothing_starts [] full = absurd (omega (arith, full.some))
nothing_starts (items ∷ rows) full = (All-head (IsPlainRow Nothing) items rows full.each).starts tt

pattern_over : (s : Start) (rows : List (List Item)) → list_any (λ items. not (length items == 1)) rows ≡ false → Full (IsPlainRow s) rows → (s ≡ Several → ⊥) → IsOver s
pattern_over Nothing rows one full several = absurd (nothing_starts rows full)
pattern_over (One t) rows one full several = record { t = t; one = refl; wide = token_of_rows t rows one full }
pattern_over Several rows one full several = absurd (several refl)

-- a meaning that may stand over one token with others
meaning_over : (facts : List Facts) (o : Option Meaning) → IfSome o IsSoundMeaning → (is_field o ≡ true) ⊎ ((ops : List (List ℕ)) × (name : List ℕ) × (is_lone ops name o ≡ true)) → is_longer o ≡ false
    → (meaning_start facts o ≡ Several → ⊥) → IsOver (meaning_start facts o)
meaning_over facts (Some (means.Field f)) s known longer several = record { t = f.token; one = refl; wide = s.width }
meaning_over facts (Some (means.Pattern p)) s known longer several = pattern_over p.start p.alternatives longer s several
meaning_over facts (Some (means.Type t)) s known longer several = cc
meaning_over facts None s (inl h) longer several = cc
meaning_over facts None s (inr h) longer several = let e = h.2 in cc
meaning_over facts (Some means.Token) s (inl h) longer several = cc
meaning_over facts (Some means.Token) s (inr h) longer several = let e = h.2 in cc
meaning_over facts (Some means.Constructor) s (inl h) longer several = cc
meaning_over facts (Some means.Constructor) s (inr h) longer several = let e = h.2 in cc

not_longer_field : (o : Option Meaning) → is_field o ≡ true → is_longer o ≡ false
not_longer_field None h = cc
not_longer_field (Some means.Token) h = cc
not_longer_field (Some (means.Field f)) h = refl
not_longer_field (Some (means.Pattern p)) h = cc
not_longer_field (Some means.Constructor) h = cc
not_longer_field (Some (means.Type t)) h = cc

pub part_over : (names : Table) (facts : List Facts) (ops : List (List ℕ)) (kinds : List OperandKind) (part : Part) → IsScene names ops kinds → is_known_part names ops part ≡ true
    → is_longer_part names part ≡ false → (part_start names facts part ≡ Several → ⊥) → IsOver (part_start names facts part)
part_over names facts ops kinds (Equal name value) s known longer several =
    meaning_over facts (named names name) (s.meanings name) (inl known) (not_longer_field (named names name) known) several
part_over names facts ops kinds (Differs name value) s known longer several =
    meaning_over facts (named names name) (s.meanings name) (inl known) (not_longer_field (named names name) known) several
part_over names facts ops kinds (Lone name) s known longer several = meaning_over facts (named names name) (s.meanings name) (inr (ops, name, known)) longer several

-- ---- an item of one part

-- a meaning alone
lone_rows : (plain : Type 0) (kinds : List OperandKind) (facts : List Facts) (ops : List (List ℕ)) (name : List ℕ) (o : Option Meaning) → (plain → is_listed ops name ≡ false) → IfSome o IsSoundMeaning
    → is_lone ops name o ≡ true → ((kind : OperandKind) → is_listed ops name ≡ true → kind_of o ≡ Some kind → slice_get kinds (operand_of ops name) ≡ Some kind)
    → Full (IsRow plain kinds (meaning_start facts o) (option_to_list (option_and_then (λ kind. place ops name) (kind_of o)))) (lone_choices (operand_of ops name) o)
lone_rows plain kinds facts ops name None bare s known at = cc
lone_rows plain kinds facts ops name (Some (means.Field f)) bare s known at =
    let bs : List ℕ = option_to_list (place ops name) in
    full_weaker (IsPartly kinds f.token.bits f.token.bits bs) (IsRow plain kinds (One f.token) bs) (lone_choices (operand_of ops name) (Some (means.Field f)))
    (λ items p. row_of_partly plain kinds (One f.token) f.token.bits bs items s.width refl p)
    (lone_partly kinds facts ops name (Some (means.Field f)) f.token.bits s known refl refl at)
lone_rows plain kinds facts ops name (Some (means.Pattern p)) bare s known at =
    full_weaker (IsPlainRow p.start) (IsRow plain kinds p.start []) p.alternatives (row_of_any plain kinds p.start) s
lone_rows plain kinds facts ops name (Some (means.Type t)) bare s known at =
    let bs : List ℕ = option_to_list (place ops name) in
    full_one (IsRow plain kinds (start_of facts t) bs) (typed_item (operand_of ops name) t ∷ []) (record {
      some = omega arith;
      each = All-cons (IsSoundItem kinds) (typed_item (operand_of ops name) t) [] (record {
        token = inr (inr (inr (refl, refl)));
        tests = All-nil (IsSoundTest 0);
        binds = All-nil (IsSoundBind kinds 0);
        typed = at (K.Typed t) known refl;
      }) (All-nil (IsSoundItem kinds));
      bound = sym (listed_one (place ops name) known);
      starts = λ h. let e = bare h in cc (e, known);
    })
lone_rows plain kinds facts ops name (Some means.Token) bare s known at = cc
lone_rows plain kinds facts ops name (Some means.Constructor) bare s known at = cc

test_rows : (plain : Type 0) (kinds : List OperandKind) (facts : List Facts) (equal : Bool) (value : ℕ) (o : Option Meaning) → IfSome o IsSoundMeaning → is_field o ≡ true → is_over value o ≡ false
    → Full (IsRow plain kinds (meaning_start facts o) []) (test_choices equal value o)
test_rows plain kinds facts equal value None s field over = cc
test_rows plain kinds facts equal value (Some (means.Field f)) s field over =
    full_weaker (IsPartly kinds f.token.bits f.token.bits []) (IsRow plain kinds (One f.token) []) (test_choices equal value (Some (means.Field f)))
    (λ items p. row_of_partly plain kinds (One f.token) f.token.bits [] items s.width refl p)
    (test_partly kinds facts equal value (Some (means.Field f)) f.token.bits s field over refl)
test_rows plain kinds facts equal value (Some means.Token) s field over = cc
test_rows plain kinds facts equal value (Some (means.Pattern p)) s field over = cc
test_rows plain kinds facts equal value (Some means.Constructor) s field over = cc
test_rows plain kinds facts equal value (Some (means.Type t)) s field over = cc

-- without operands no name is listed
pub none_listed : (ops : List (List ℕ)) (name : List ℕ) → ops ≡ [] → is_listed ops name ≡ false
none_listed [] name e = refl
none_listed (op ∷ ops) name e = cc

part_rows : (names : Table) (facts : List Facts) (ops : List (List ℕ)) (kinds : List OperandKind) (part : Part) → IsScene names ops kinds → is_known_part names ops part ≡ true
    → is_over_part names part ≡ false → Full (IsRow (ops ≡ []) kinds (part_start names facts part) (option_to_list (part_binds names ops part))) (part_choices names ops part)
part_rows names facts ops kinds (Equal name value) s known over = test_rows (ops ≡ []) kinds facts true value (named names name) (s.meanings name) known over
part_rows names facts ops kinds (Differs name value) s known over = test_rows (ops ≡ []) kinds facts false value (named names name) (s.meanings name) known over
part_rows names facts ops kinds (Lone name) s known over =
    lone_rows (ops ≡ []) kinds facts ops name (named names name) (none_listed ops name) (s.meanings name) known (s.places name)

pub cons_nil : (o : Option ℕ) → option_to_list o ≡ cons_option o []
cons_nil None = refl
cons_nil (Some k) = refl

pub whole_rows : (names : Table) (facts : List Facts) (ops : List (List ℕ)) (kinds : List OperandKind) (part : Part) → IsScene names ops kinds → is_known_part names ops part ≡ true
    → is_over_part names part ≡ false
    → Full (IsRow (ops ≡ []) kinds (join Nothing (part_start names facts part)) (filter_map (part_binds names ops) (part ∷ []))) (choices onto_first ((nothing_asked ∷ []) ∷ []) (part_choices names ops part))
whole_rows names facts ops kinds part s known over =
    let start : Start = part_start names facts part in
    let bs : List ℕ = option_to_list (part_binds names ops part) in
    let ys : List (List Item) = choices onto_first ((nothing_asked ∷ []) ∷ []) (part_choices names ops part) in
    let P : List ℕ → Type 0 = λ cs. Full (IsRow (ops ≡ []) kinds start cs) ys in
    subst P (cons_nil (part_binds names ops part))
    (full_choices (λ x. x ≡ nothing_asked ∷ []) (IsRow (ops ≡ []) kinds start bs) (IsRow (ops ≡ []) kinds start bs) onto_first
    (λ x y e r. row_onto (ops ≡ []) kinds start bs x y e r) ((nothing_asked ∷ []) ∷ []) (part_choices names ops part)
    (full_one (λ x. x ≡ nothing_asked ∷ []) (nothing_asked ∷ []) refl) (part_rows names facts ops kinds part s known over))
