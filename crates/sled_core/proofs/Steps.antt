-- Each line without a fault keeps what is known sound.
use Rattle.std.proofs.Common.{◌≡◌, ◌≢◌, ℕ, zero, suc, ◌+◌, ◌-◌, ◌<◌, ◌≤◌, ◌==◌, ◌&&◌, ◌||◌, ◌⊎◌, inl, inr, max, cond, not, Bool, true, false, List, [], ◌∷◌, ◌++◌, Option, Some, None, is_some, is_none, length, map, fold, ap, refl, sym, subst, ◌∙◌, arith, nat_eq, codes, ltb, leb}
use Rattle.std.specs.Prelude.{All, IfSome, slice_get, sum_by, unwrap_or, Ok, Err, Result, IfOk, MatchResult}
use Rattle.std.specs.List.{list_any, cons_option}
use Rattle.std.specs.Option.{option_map_or, option_or}
use Rattle.std.specs.Cmp.Lexicographic.{pointwise, same_text}
use Rattle.std.proofs.lemmas.List.{append-nil, length-append}
use Rattle.std.proofs.lemmas.List.Elements.{All-nil, All-cons, All-head, All-tail, All-append, All-weaker}
use Rattle.std.proofs.lemmas.Bool.{eqb-true, eqb-false, eq-eqb}
use Rattle.std.proofs.lemmas.Bool.Decides.{nat_tests}
use Rattle.std.proofs.lemmas.Option.{slice_get_within, slice_get_past}
use Rattle.rtl_core.specs.declared.encodings.OperandKind.{OperandKind}
use Rattle.rtl_core.specs.declared.encodings.OperandKind.TheVariants as K
use Rattle.rtl_core.specs.declared.encodings.Coded.{Coded}
use Rattle.rtl_core.specs.declared.encodings.Encodings.{Encodings}
use Rattle.rtl_core.specs.declared.encodings.Item.{Item}
use Rattle.rtl_core.specs.SoundEncodings.{IsKind, IsSoundAlternative, IsSoundEncodings, IsToken, item_size, list_size}
use Rattle.sled_syntax.specs.declared.line.FieldDef.{FieldDef}
use Rattle.sled_syntax.specs.declared.line.SledPattern.{SledPattern}
use Rattle.sled_syntax.specs.declared.line.SledBody.{SledBody}
use Rattle.sled_syntax.specs.declared.line.SledBody.TheVariants as body
use Rattle.sled_syntax.specs.declared.line.SledLine.{SledLine}
use Rattle.sled_syntax.specs.Lines.{IsSledLine, is_body, is_pattern}
use Rattle.sled_rules.specs.declared.facts.Facts.{Facts}
use Rattle.sled_rules.specs.declared.fault.SledFault.{SledFault}
use Rattle.sled_rules.specs.declared.fault.SledFault.TheVariants as faults
use Rattle.sled_rules.specs.declared.meaning.Token.{Token}
use Rattle.sled_rules.specs.declared.meaning.Field.{Field}
use Rattle.sled_rules.specs.declared.meaning.Meaning.{Meaning}
use Rattle.sled_rules.specs.declared.meaning.Meaning.TheVariants as means
use Rattle.sled_rules.specs.declared.known.Known.{Known}
use Rattle.sled_rules.specs.declared.known.Size.{Size}
use Rattle.sled_rules.specs.Meanings.{Table, named, is_given, is_taken, is_type}
use Rattle.sled_rules.specs.Operands.{is_listed, kind_of, kinds_of}
use Rattle.sled_rules.specs.Starts.{pattern_start}
use Rattle.sled_rules.specs.Alternatives.{alternatives}
use Rattle.sled_rules.specs.Sizes.{bytes_of, is_large, is_long, longest, longest_of, most_of}
use Rattle.sled_rules.specs.Counts.{IsCounted}
use Rattle.sled_rules.specs.Known.{coded, field_entry, is_instruction, kind_number, next_type, no_facts, nothing_known, opened, size_of, type_name, type_number, with_coded, with_constructor, with_fields, with_line, with_order, with_pattern, with_type}
use Rattle.sled_rules.specs.Normal.{encodings_of, fault_after, first_fault, known, known_after, normal}
use Rattle.sled_rules.specs.Faults.{are_known_operands, constructor_checks, constructor_fault, fields_fault, first_broken, is_known_pattern, is_late, is_outside, is_token_width, is_twice, is_unknown, is_used, line_fault, names_given, pattern_checks, pattern_fault, size_fault, some_bound_twice, some_listed_twice, some_mixed, some_outside, some_over, some_taken, some_unbound}
use Rattle.sled_rules.proofs.BrokenLaws.{AllHold, all_hold, none_of, untaken}
use Rattle.sled_rules.proofs.TakenLaws.{fresh_first, not_given, or_false}
use Rattle.sled_rules.proofs.CountedLaws.{counted_line}
use Rattle.sled_rules.proofs.LineLaws.{fine_fields, fresh_behind_type}
use Rattle.sled_core.proofs.Full.{Full}
use Rattle.sled_core.proofs.Rows.{IsInToken, IsPlainRow, IsSoundMeaning}
use Rattle.sled_core.proofs.Items.{and_both}
use Rattle.sled_core.proofs.OperandPlaces.{listed_behind, listed_first, same_name}
use Rattle.sled_core.proofs.Lookups.{get_last, get_left, get_push}
use Rattle.sled_core.proofs.Patterns.{IsBound, IsFinePattern, IsShort, all_both, all_short, at_most, fine_pattern, sound_alternatives, sound_pattern, sound_rows}
use Rattle.sled_core.proofs.Types.{AreOf, IsNot, IsOpen, kind_opened, open_opened, types_opened}
use Rattle.sled_core.proofs.Sizes.{each_longest, longest_short, push_longest, push_most, push_used}
use Rattle.sled_core.proofs.Known.{HasSoundMeaning, IsEntry, IsSoundKnown, bare_scene, entry_weaker, found_entry, full_scene, given_left, nothing_sound, sound_encodings, sound_names, with_names}
use Rattle.sled_core.proofs.Added.{IsNew, IsOpened, constructor_added}

-- ---- fields

token_width : (width : ℕ) → is_token_width width ≡ true → IsToken width None
token_width width h = by (width == 8) (width == 16) (width == 32) refl refl refl h
  where
    by : (a b c : Bool) → (width == 8) ≡ a → (width == 16) ≡ b → (width == 32) ≡ c → (a || b || c) ≡ true → IsToken width None
    by true b c e f g h = inl (eqb-true width 8 e)
    by false true c e f g h = inr (inl (eqb-true width 16 f))
    by false false true e f g h = inr (inr (inl (eqb-true width 32 g)))
    by false false false e f g h = cc

not_not : (b : Bool) → not b ≡ false → b ≡ true
not_not true h = refl
not_not false h = cc

field_inside : (token : Token) (f : FieldDef) → IsToken token.bits None → is_outside token.bits f ≡ false → IsInToken (record { token = token; lo = f.lo; hi = f.hi })
field_inside token f width h =
    let two = or_false (ltb f.hi f.lo) (leb token.bits f.hi) h in
    record { order = at_most f.hi f.lo two.0; within = below token.bits f.hi two.1; width = width }
  where
    below : (a b : ℕ) → leb a b ≡ false → b < a
    below a b h = grind (arith, nat_tests)

entries_sound : (token : Token) (fields : List FieldDef) → IsToken token.bits None → list_any (is_outside token.bits) fields ≡ false → All HasSoundMeaning (map (field_entry token) fields)
entries_sound token [] width h = All-nil HasSoundMeaning
entries_sound token (f ∷ fields) width h =
    let two = or_false (is_outside token.bits f) (list_any (is_outside token.bits) fields) h in
    All-cons HasSoundMeaning (field_entry token f) (map (field_entry token) fields) (field_inside token f width two.0) (entries_sound token fields width two.1)

no_types : (name_of : ℕ → List ℕ) (P : ℕ → Type 0) (token : Token) (fields : List FieldDef) → All (IsEntry name_of P) (map (field_entry token) fields)
no_types name_of P token [] = All-nil (IsEntry name_of P)
no_types name_of P token (f ∷ fields) = All-cons (IsEntry name_of P) (field_entry token f) (map (field_entry token) fields) tt (no_types name_of P token fields)

fields_step : (k : Known) (line : ℕ) (token : List ℕ) (width : ℕ) (fields : List FieldDef) → IsSoundKnown k → IsCounted (with_fields token width fields k) → fields_fault k line token width fields ≡ None
    → IsSoundKnown (with_fields token width fields k)
fields_step k line token width fields s counted h =
    let fine = fine_fields k line token width fields h in
    let two = or_false (not (is_token_width width)) (list_any (is_outside width) fields) fine.inside in
    let t : Token = record { place = length k.names; bits = width } in
    let wide : IsToken width None = token_width width (not_not (is_token_width width) two.0) in
    with_names k ((token, means.Token) ∷ map (field_entry t) fields) (with_fields token width fields k) s refl refl refl refl counted
    (All-cons HasSoundMeaning (token, means.Token) (map (field_entry t) fields) tt (entries_sound t fields wide two.1))
    (λ name_of. All-cons (IsEntry name_of (IsOpen k.types)) (token, means.Token) (map (field_entry t) fields) tt (no_types name_of (IsOpen k.types) t fields))

-- ---- patterns

pattern_step : (k : Known) (line : ℕ) (name : List ℕ) (p : SledPattern) → IsSoundKnown k → IsCounted (with_pattern name p k) → is_pattern p ≡ true → pattern_fault k line name p ≡ None
    → IsSoundKnown (with_pattern name p k)
pattern_step k line name p s counted formed h =
    let checks = none_of (first_broken (pattern_checks k line name p)) _ h in
    let all : AllHold (pattern_checks k line name p) = all_hold (pattern_checks k line name p) checks.0 in
    let fine : IsFinePattern k.names k.facts [] p = fine_pattern k.names k.facts [] p (not_not (is_known_pattern k.names [] p) all.0) all.1.1.0 all.1.1.1.0 formed in
    let entry : List ℕ × Meaning = (name, means.Pattern (record { alternatives = alternatives k.names [] p; start = pattern_start k.names k.facts p })) in
    with_names k (entry ∷ []) (with_pattern name p k) s refl refl refl refl counted
    (All-cons HasSoundMeaning entry [] (sound_pattern k.names k.facts p (bare_scene k s) fine) (All-nil HasSoundMeaning))
    (λ name_of. All-cons (IsEntry name_of (IsOpen k.types)) entry [] tt (All-nil (IsEntry name_of (IsOpen k.types))))

-- ---- the type of a constructor

-- a type's name is that of its number, and the type is there
type_entry : (k : Known) (s : IsSoundKnown k) (name : List ℕ) (t : ℕ) → named k.names name ≡ Some (means.Type t) → (name ≡ s.name_of t) × IsOpen k.types t
type_entry k s name t e = subst (λ o. IfSome o (λ m. IsEntry s.name_of (IsOpen k.types) (name, m))) e (found_entry (IsEntry s.name_of (IsOpen k.types)) k.names name s.entries)

type_given : (k : Known) (s : IsSoundKnown k) (ops : List (List ℕ)) (type : List ℕ) (t : ℕ) → named k.names type ≡ Some (means.Type t) → is_used k.facts t ≡ false → is_listed ops type ≡ false
    → IsOpened k k s ops t
type_given k s ops type t is unused unlisted =
    let entry = type_entry k s type t is in
    record {
      constructors = refl;
      cs = entry.1.constructors;
      at = entry.1.at;
      types = s.types;
      facts = s.facts;
      most = λ u. refl;
      longest = λ u. refl;
      used = λ u. refl;
      unused = unused;
      kinds = λ c kind h. h;
      meanings = s.meanings;
      name_of = s.name_of;
      instructions = s.instructions;
      entries = All-weaker (IsEntry s.name_of (IsOpen k.types)) (IsEntry s.name_of (λ u. IsOpen k.types u ⊎ (u ≡ t))) (entry_weaker s.name_of s.name_of (IsOpen k.types) (λ u. IsOpen k.types u ⊎ (u ≡ t)) (λ u h. refl) (λ u h. inl h)) k.names s.entries;
      given = λ name h. h;
      same = λ u h. refl;
      fresh = λ name u listed e same.
          let other = type_entry k s name u e in
          let one : name ≡ type = other.0 ∙ ap s.name_of same ∙ sym entry.0 in
          let yes_ : is_listed ops type ≡ true = subst (λ n. is_listed ops n ≡ true) one listed in
          cc (yes_, unlisted);
    }

not_named : (o : Option Meaning) (m : Meaning) → o ≡ None → o ≡ Some m → ⊥
not_named o m e f = cc (e, f)

first_at : (types : List (List ℕ)) → 0 < length types → slice_get types 0 ≡ Some (unwrap_or (slice_get types 0) [])
first_at [] h = absurd (omega (arith, h))
first_at (cs ∷ types) h = refl

unused_without : (k : Known) (s : IsSoundKnown k) (t : ℕ) → is_given k.names (s.name_of t) ≡ false → is_used k.facts t ≡ false
unused_without k s t h = by (is_used k.facts t) refl
  where
    by : (b : Bool) → is_used k.facts t ≡ b → is_used k.facts t ≡ false
    by false e = e
    by true e = let yes_ = s.named t e in cc (yes_, h)

-- the first instruction
instruction_opened : (k : Known) (s : IsSoundKnown k) (ops : List (List ℕ)) (type : List ℕ) → named k.names type ≡ None → type ≡ codes "instruction"
    → IsOpened k (record k { names = k.names ++ (type, means.Type 0) ∷ [] }) s ops 0
instruction_opened k s ops type absent is =
    let named_so : type ≡ s.name_of 0 = is ∙ sym s.instructions in
    let P : ℕ → Type 0 = λ u. IsOpen k.types u ⊎ (u ≡ 0) in
    record {
      constructors = refl;
      cs = unwrap_or (slice_get k.types 0) [];
      at = first_at k.types s.types.first;
      types = s.types;
      facts = s.facts;
      most = λ u. refl;
      longest = λ u. refl;
      used = λ u. refl;
      unused = unused_without k s 0 (subst (λ n. is_given k.names n ≡ false) named_so (ap is_some absent));
      kinds = λ c kind h. h;
      meanings = All-append HasSoundMeaning k.names ((type, means.Type 0) ∷ []) s.meanings (All-cons HasSoundMeaning (type, means.Type 0) [] tt (All-nil HasSoundMeaning));
      name_of = s.name_of;
      instructions = s.instructions;
      entries =
          All-append (IsEntry s.name_of P) k.names ((type, means.Type 0) ∷ [])
          (All-weaker (IsEntry s.name_of (IsOpen k.types)) (IsEntry s.name_of P) (entry_weaker s.name_of s.name_of (IsOpen k.types) P (λ u h. refl) (λ u h. inl h)) k.names s.entries)
          (All-cons (IsEntry s.name_of P) (type, means.Type 0) [] (named_so, inr refl) (All-nil (IsEntry s.name_of P)));
      given = λ name h. given_left k.names ((type, means.Type 0) ∷ []) name h;
      same = λ u h. refl;
      fresh = λ name u listed e same.
          let other = type_entry k s name u e in
          let one : name ≡ type = other.0 ∙ ap s.name_of same ∙ sym named_so in
          not_named (named k.names type) (means.Type u) absent (subst (λ n. named k.names n ≡ Some (means.Type u)) one e);
    }

open_within : (types : List (List ℕ)) (u : ℕ) → IsOpen types u → u < length types
open_within types u h = slice_get_within types u h.constructors h.at

-- the first constructor of another type
type_opened : (k : Known) (s : IsSoundKnown k) (ops : List (List ℕ)) (type : List ℕ) → named k.names type ≡ None
    → IsOpened k (record k { names = k.names ++ (type, means.Type (length k.types)) ∷ []; types = k.types ++ [] ∷ []; facts = k.facts ++ no_facts ∷ [] }) s ops (length k.types)
type_opened k s ops type absent =
    let t : ℕ = length k.types in
    let name_of : ℕ → List ℕ = λ u. cond (u == t) type (s.name_of u) in
    let same : (u : ℕ) → u ≢ t → name_of u ≡ s.name_of u = λ u h. other u (u == t) refl h in
    let P : ℕ → Type 0 = λ u. IsOpen (k.types ++ [] ∷ []) u ⊎ (u ≡ t) in
    record {
      constructors = refl;
      cs = [];
      at = get_last k.types [];
      types = types_opened s.type_of k.types (length k.constructors) s.types;
      facts = length-append k.facts (no_facts ∷ []) ∙ ap (λ n. n + 1) s.facts ∙ sym (length-append k.types ([] ∷ []));
      most = push_most k.facts;
      longest = push_longest k.facts;
      used = push_used k.facts;
      unused = ap (used_in) (slice_get_past k.facts t (omega (arith, s.facts)));
      kinds = λ c kind h. kind_opened k.types c kind h;
      meanings = All-append HasSoundMeaning k.names ((type, means.Type t) ∷ []) s.meanings (All-cons HasSoundMeaning (type, means.Type t) [] tt (All-nil HasSoundMeaning));
      name_of = name_of;
      instructions = same 0 (λ e. absurd (omega (arith, e, s.types.first))) ∙ s.instructions;
      entries =
          All-append (IsEntry name_of P) k.names ((type, means.Type t) ∷ [])
          (All-weaker (IsEntry s.name_of (IsOpen k.types)) (IsEntry name_of P)
          (entry_weaker s.name_of name_of (IsOpen k.types) P (λ u h. same u (λ e. absurd (omega (arith, e, open_within k.types u h)))) (λ u h. inl (open_opened k.types u h))) k.names s.entries)
          (All-cons (IsEntry name_of P) (type, means.Type t) [] (sym (ap (λ b. cond b type (s.name_of t)) (eq-eqb t t refl)), inr refl) (All-nil (IsEntry name_of P)));
      given = λ name h. given_left k.names ((type, means.Type t) ∷ []) name h;
      same = same;
      fresh = λ name u listed e same. let entry = type_entry k s name u e in absurd (omega (arith, same, open_within k.types u entry.1));
    }
  where
    used_in : Option Facts → Bool
    used_in o = option_map_or (λ f. f.used) o false

    other : (u : ℕ) (b : Bool) → (u == length k.types) ≡ b → u ≢ length k.types → cond b type (s.name_of u) ≡ s.name_of u
    other u true e h = absurd (h (eqb-true u (length k.types) e))
    other u false e h = refl

no_type : (k : Known) (s : IsSoundKnown k) (ops : List (List ℕ)) (type : List ℕ) → named k.names type ≡ None → IsOpened k (opened type k) s ops (next_type type k)
no_type k s ops type absent = by (is_instruction type) refl
  where
    by : (b : Bool) → is_instruction type ≡ b
        → IsOpened k (record k { names = k.names ++ (type, means.Type (cond b 0 (length k.types))) ∷ []; types = cond b k.types (k.types ++ [] ∷ []); facts = cond b k.facts (k.facts ++ no_facts ∷ []) }) s ops
        (cond b 0 (length k.types))
    by true e = instruction_opened k s ops type absent (same_text type (codes "instruction") (sym e))
    by false e = type_opened k s ops type absent

-- the type that a constructor is of is there, and open
type_there : (k : Known) (s : IsSoundKnown k) (ops : List (List ℕ)) (type : List ℕ) → (is_type (named k.names type) ≡ false → is_given k.names type ≡ false)
    → is_late k.facts ops type (named k.names type) ≡ false → IsOpened k (with_type type k) s ops (type_number type k)
type_there k s ops type free late = by (named k.names type) refl free late
  where
    by : (o : Option Meaning) → named k.names type ≡ o → (is_type o ≡ false → is_some o ≡ false) → is_late k.facts ops type o ≡ false
        → IsOpened k (cond (is_some o) k (opened type k)) s ops (kind_number (next_type type k) o)
    by None e free late = no_type k s ops type e
    by (Some (means.Type t)) e free late = let two = or_false (is_used k.facts t) (is_listed ops type) late in type_given k s ops type t e two.0 two.1
    by (Some means.Token) e free late = let no = free refl in cc
    by (Some (means.Field f)) e free late = let no = free refl in cc
    by (Some (means.Pattern p)) e free late = let no = free refl in cc
    by (Some means.Constructor) e free late = let no = free refl in cc

-- ---- constructors

-- what is said of each kind by the names of the operands
each_kind : (names : Table) (ops : List (List ℕ)) (P : OperandKind → Type 0) → ((name : List ℕ) (kind : OperandKind) → is_listed ops name ≡ true → kind_of (named names name) ≡ Some kind → P kind)
    → All P (kinds_of names ops)
each_kind names ops P h = by ops (λ name listed. listed)
  where
    one : (name : List ℕ) (o : Option OperandKind) (ks : List OperandKind) → is_listed ops name ≡ true → kind_of (named names name) ≡ o → All P ks → All P (cons_option o ks)
    one name None ks listed e rest = rest
    one name (Some kind) ks listed e rest = All-cons P kind ks (h name kind listed e) rest

    by : (more : List (List ℕ)) → ((name : List ℕ) → is_listed more name ≡ true → is_listed ops name ≡ true) → All P (kinds_of names more)
    by [] listed = All-nil P
    by (op ∷ more) listed =
        one op (kind_of (named names op)) (kinds_of names more) (listed op (listed_first op more)) refl (by more (λ name there. listed name (listed_behind op more name there)))

token_most : (bits : ℕ) → IsToken bits None → bits ≤ 32
token_most bits (inl e) = omega (arith, e)
token_most bits (inr (inl e)) = omega (arith, e)
token_most bits (inr (inr (inl e))) = omega (arith, e)
token_most bits (inr (inr (inr h))) = let e : false ≡ true = h.1 in cc

typed_meaning : (o : Option Meaning) (u : ℕ) → kind_of o ≡ Some (K.Typed u) → o ≡ Some (means.Type u)
typed_meaning None u h = cc
typed_meaning (Some means.Token) u h = cc
typed_meaning (Some (means.Field f)) u h = cc
typed_meaning (Some (means.Pattern p)) u h = cc
typed_meaning (Some means.Constructor) u h = cc
typed_meaning (Some (means.Type t)) u h = cc

field_width : (o : Option Meaning) (w : ℕ) → IfSome o IsSoundMeaning → kind_of o ≡ Some (K.Field w) → (1 ≤ w) × (w ≤ 32)
field_width None w s h = cc
field_width (Some means.Token) w s h = cc
field_width (Some (means.Field f)) w s h =
    let e : f.hi + 1 - f.lo ≡ w = cc in
    let most : f.token.bits ≤ 32 = token_most f.token.bits s.width in
    (omega (arith, e, s.order), omega (arith, e, s.within, most))
field_width (Some (means.Pattern p)) w s h = cc
field_width (Some means.Constructor) w s h = cc
field_width (Some (means.Type t)) w s h = cc

operand_kind : (k : Known) (s : IsSoundKnown k) (name : List ℕ) (kind : OperandKind) → kind_of (named k.names name) ≡ Some kind → IsKind k.types (length k.constructors) kind
operand_kind k s name (K.Field w) e = field_width (named k.names name) w (sound_names k s name) e
operand_kind k s name (K.Typed u) e =
    let open_ : IsOpen k.types u = (type_entry k s name u (typed_meaning (named k.names name) u e)).1 in
    let each = s.types.each u open_.constructors open_.at in
    (open_.constructors, open_.at, open_.some, All-weaker (λ c. (c < length k.constructors) × (s.type_of c ≡ u)) (λ c. c < length k.constructors) (λ c h. h.0) open_.constructors each.1)

operand_other : (k next : Known) (s : IsSoundKnown k) (ops : List (List ℕ)) (t : ℕ) → IsOpened k next s ops t → (name : List ℕ) (kind : OperandKind) → is_listed ops name ≡ true
    → kind_of (named k.names name) ≡ Some kind → IsNot t kind
operand_other k next s ops t o name (K.Field w) listed e = tt
operand_other k next s ops t o name (K.Typed u) listed e = o.fresh name u listed (typed_meaning (named k.names name) u e)

operand_named : (k : Known) (s : IsSoundKnown k) (name : List ℕ) (kind : OperandKind) → kind_of (named k.names name) ≡ Some kind → (u : ℕ) → kind ≡ K.Typed u
    → is_given k.names (s.name_of u) ≡ true
operand_named k s name kind e u same =
    let there : named k.names name ≡ Some (means.Type u) = typed_meaning (named k.names name) u (e ∙ ap Some same) in
    let entry = type_entry k s name u there in
    subst (λ n. is_given k.names n ≡ true) entry.0 (ap is_some there)

constructor_step : (k : Known) (line : ℕ) (name : List ℕ) (ops : List (List ℕ)) (type : List ℕ) (p : SledPattern) → IsSoundKnown k → IsCounted (with_constructor name ops type p k) → is_pattern p ≡ true
    → constructor_fault k line name ops type p ≡ None → IsSoundKnown (with_constructor name ops type p k)
constructor_step k line name ops type p s counted formed h =
    let both = none_of (first_broken (constructor_checks k line name ops type p)) (size_fault k line ops p) h in
    let all : AllHold (constructor_checks k line name ops type p) = all_hold (constructor_checks k line name ops type p) both.0 in
    let rows : List (List Item) = alternatives k.names ops p in
    let ks : List OperandKind = kinds_of k.names ops in
    let unknown = or_false (not (are_known_operands k.names ops && is_known_pattern k.names ops p)) (some_unbound k.names ops p) all.0 in
    let known_two = and_both (are_known_operands k.names ops) (is_known_pattern k.names ops p) (not_not (are_known_operands k.names ops && is_known_pattern k.names ops p) unknown.0) in
    let twice = or_false (some_taken k.names [] (names_given k.names name type) || some_listed_twice ops) (some_bound_twice k.names ops p) all.1.0 in
    let once = or_false (some_taken k.names [] (names_given k.names name type)) (some_listed_twice ops) twice.0 in
    let over : Bool = leb 4096 (length k.constructors) || is_large k.facts rows in
    let small = or_false (leb 4096 (length k.constructors)) (is_large k.facts rows) (untaken over (faults.TooMany line) None both.1).0 in
    let few = or_false (ltb 256 (length rows)) (list_any (is_long k.facts) rows) small.1 in
    let fine : IsFinePattern k.names k.facts ops p = fine_pattern k.names k.facts ops p known_two.1 all.1.1.0 all.1.1.1.0 formed in
    let bound : Full (IsBound ks) rows = sound_alternatives k.names k.facts ops p (full_scene k ops s known_two.0) known_two.0 once.1 unknown.1 twice.1 fine in
    let short : All (IsShort k.facts) rows = all_short k.facts rows few.1 in
    let free : is_type (named k.names type) ≡ false → is_given k.names type ≡ false =
    λ e. not_given k.names type (fresh_first k.names [] type (name ∷ []) (subst (λ b. some_taken k.names [] (cond b (name ∷ []) (type ∷ name ∷ [])) ≡ false) e once.0)).taken in
    let t : ℕ = type_number type k in
    let next : Known = with_type type k in
    let c : Coded = coded name ops p k in
    let size : Size = size_of p c k in
    let o : IsOpened k next s ops t = type_there k s ops type free all.1.1.1.1.0 in
    let new : IsNew k next s t size c =
    record {
      fresh = fresh_behind_type k name type once.0;
      kinds = each_kind k.names ops (IsKind k.types (length k.constructors)) (λ name kind listed e. operand_kind k s name kind e);
      other = each_kind k.names ops (IsNot t) (operand_other k next s ops t o);
      named = each_kind k.names ops (λ kind. (u : ℕ) → kind ≡ K.Typed u → is_given k.names (s.name_of u) ≡ true) (λ name kind listed e. operand_named k s name kind e);
      rows = record { some = bound.some; each = sound_rows ks k.facts rows bound.each short };
      few = at_most 256 (length rows) few.0;
      numbers = refl;
      least = at_most 8 (list_size (most_of k.facts) ks) all.1.1.1.1.1.0;
      bytes = each_longest k.facts rows;
      short = longest_short k.facts rows 32 (All-weaker (IsShort k.facts) (λ items. bytes_of k.facts items ≤ 32) (λ items q. q.bytes) rows short);
      counted = counted;
    } in
    constructor_added k next s ops t size c o new

-- ---- lines

order_step : (k : Known) (big : Bool) → IsSoundKnown k → IsCounted (with_order big k) → IsSoundKnown (with_order big k)
order_step k big s counted =
    with_names k [] (with_order big k) s (sym (append-nil k.names)) refl refl refl counted (All-nil HasSoundMeaning) (λ name_of. All-nil (IsEntry name_of (IsOpen k.types)))

line_step : (k : Known) (line : ℕ) (b : SledBody) → IsSoundKnown k → IsCounted (with_line k b) → is_body b ≡ true → line_fault k line b ≡ None → IsSoundKnown (with_line k b)
line_step k line (body.ByteOrder big) s counted formed h = order_step k big s counted
line_step k line (body.Fields token width fields) s counted formed h = fields_step k line token width fields s counted h
line_step k line (body.Pattern name p) s counted formed h = pattern_step k line name p s counted formed h
line_step k line (body.Constructor name ops of_type p) s counted formed h = constructor_step k line name ops (type_name of_type) p s counted formed h

known_sound : (k : Known) (lines : List SledLine) → IsSoundKnown k → All IsSledLine lines → fault_after k lines ≡ None → IsSoundKnown (known_after k lines)
known_sound k [] s values h = s
known_sound k (line ∷ lines) s values h =
    let two = none_of (line_fault k line.number line.body) (fault_after (with_line k line.body) lines) h in
    let value = All-head IsSledLine line lines values in
    known_sound (with_line k line.body) lines (line_step k line.number line.body s (counted_line k line.number line.body s.counted two.0) value.parts two.0) (All-tail IsSledLine line lines values) two.1

-- encodings of lines without a fault
sound_lines : (lines : List SledLine) → All IsSledLine lines → first_fault lines ≡ None → IsSoundEncodings (encodings_of (known lines))
sound_lines lines values h = sound_encodings (known lines) (known_sound nothing_known lines nothing_sound values h)

-- a normal form is sound
pub normal_is_sound : (lines : List SledLine) (enc : Encodings) → All IsSledLine lines → normal lines ≡ Ok enc → IsSoundEncodings enc
normal_is_sound lines enc values h = by (first_fault lines) refl
  where
    by : (o : Option SledFault) → first_fault lines ≡ o → IsSoundEncodings enc
    by None e = let same : Ok (encodings_of (known lines)) ≡ Ok enc = rw e at h in subst IsSoundEncodings (cc same) (sound_lines lines values e)
    by (Some fault) e = let same : Err fault ≡ Ok enc = rw e at h in cc

-- an answer that is exact is sound
pub sound_answer : (lines : List SledLine) (r : Result Encodings SledFault) (F : SledFault → Type 0) → All IsSledLine lines → MatchResult r (λ enc. normal lines ≡ Ok enc) F → IfOk r IsSoundEncodings
sound_answer lines (Ok enc) F values h = normal_is_sound lines enc values h
sound_answer lines (Err fault) F values h = tt
