-- Parts over one token: what they ask lies in the token, and they bind their operands in order.
use Rattle.std.proofs.Common.{◌≡◌, ℕ, zero, suc, ◌+◌, ◌-◌, ◌<◌, ◌≤◌, ◌%◌, ◌^◌, ◌==◌, max, not, Bool, true, false, List, [], ◌∷◌, ◌++◌, Option, Some, None, length, map, is_some, fold, ap, refl, sym, subst, ◌∙◌, arith, leb}
use Rattle.std.specs.Prelude.{All, IfSome, slice_get, unwrap_or, option_and_then, option_to_list}
use Rattle.std.specs.List.{list_any, filter_map, cons_option}
use Rattle.std.specs.Option.{option_or}
use Rattle.std.proofs.lemmas.List.{map-append, append-nil}
use Rattle.std.proofs.lemmas.List.Elements.{All-nil, All-cons, All-head, All-tail, All-append}
use Rattle.std.proofs.lemmas.Bool.Decides.{nat_tests}
use Rattle.rtl_core.specs.declared.encodings.OperandKind.{OperandKind}
use Rattle.rtl_core.specs.declared.encodings.OperandKind.TheVariants as K
use Rattle.rtl_core.specs.declared.encodings.Item.{Item}
use Rattle.rtl_core.specs.declared.encodings.Typed.{Typed}
use Rattle.rtl_core.specs.SoundEncodings.{IsSoundTest, IsSoundBind, IsSoundItem, IsSoundTyped, IsToken}
use Rattle.sled_syntax.specs.declared.line.Part.{Part}
use Rattle.sled_syntax.specs.declared.line.Part.TheVariants.{Equal, Differs, Lone}
use Rattle.sled_rules.specs.declared.facts.Facts.{Facts}
use Rattle.sled_rules.specs.declared.meaning.Field.{Field}
use Rattle.sled_rules.specs.declared.meaning.Start.{Start}
use Rattle.sled_rules.specs.declared.meaning.Start.TheVariants.{Nothing, One, Several}
use Rattle.sled_rules.specs.declared.meaning.Meaning.{Meaning}
use Rattle.sled_rules.specs.declared.meaning.Meaning.TheVariants as means
use Rattle.sled_rules.specs.Meanings.{Table, named, is_field}
use Rattle.sled_rules.specs.Operands.{is_listed, kind_of, name_binds, operand_of, part_binds, place}
use Rattle.sled_rules.specs.Starts.{meaning_start, part_start}
use Rattle.sled_rules.specs.Alternatives.{both, bound, choices, lone_choices, nothing_asked, onto_first, part_choices, test_choices, tested, typed_item}
use Rattle.sled_rules.specs.Faults.{is_known_part, is_lone, is_longer, is_longer_part, is_over, is_over_part}
use Rattle.sled_rules.proofs.TakenLaws.{or_false}
use Rattle.sled_core.proofs.Full.{Full, full_choices, full_one, full_weaker}
use Rattle.sled_core.proofs.Rows.{IsInToken, IsPlainRow, IsRow, IsSoundMeaning, StartsWith, first_bits, no_bind, no_typed, plain_binds, row_of_any, untyped_binds}

-- what names stand for is sound, and each operand that is listed has its kind at its place
pub record IsScene (names : Table) (ops : List (List ℕ)) (kinds : List OperandKind) : Type 0 where
  pub meanings : (name : List ℕ) → IfSome (named names name) IsSoundMeaning
  pub places : (name : List ℕ) (kind : OperandKind) → is_listed ops name ≡ true → kind_of (named names name) ≡ Some kind → slice_get kinds (operand_of ops name) ≡ Some kind

-- some parts over a token of `bits` bits, which bind these operands; the item so far has `width` bits
pub record IsPartly (kinds : List OperandKind) (bits width : ℕ) (bs : List ℕ) (items : List Item) : Type 0 where
  pub it : Item
  pub alone : items ≡ it ∷ []
  pub wide : it.bits ≡ width
  pub untyped : it.typed ≡ None
  pub tests : All (IsSoundTest bits) it.tests
  pub binds : All (IsSoundBind kinds bits) it.binds
  pub bound : map (λ b. b.operand) it.binds ≡ bs

partly_none : (kinds : List OperandKind) (bits : ℕ) → IsPartly kinds bits 0 [] (nothing_asked ∷ [])
partly_none kinds bits = record {
  it = nothing_asked;
  alone = refl;
  wide = refl;
  untyped = refl;
  tests = All-nil (IsSoundTest bits);
  binds = All-nil (IsSoundBind kinds bits);
  bound = refl;
}

pub wider : (width bits a b : ℕ) → width ≤ bits → a ≡ width → b ≡ bits → max a b ≡ bits
wider width bits a b h e f = omega arith

-- one part more
partly_more : (kinds : List OperandKind) (bits width : ℕ) (bs cs : List ℕ) (x y : List Item) → width ≤ bits → IsPartly kinds bits width bs x → IsPartly kinds bits bits cs y
    → IsPartly kinds bits bits (bs ++ cs) (onto_first x y)
partly_more kinds bits width bs cs x y h p q = record {
  it = both p.it q.it;
  alone = ap (λ zs. onto_first zs y) p.alone ∙ ap (onto_first (p.it ∷ [])) q.alone;
  wide = wider width bits p.it.bits q.it.bits h p.wide q.wide;
  untyped = ap (λ t. option_or t q.it.typed) p.untyped ∙ q.untyped;
  tests = All-append (IsSoundTest bits) p.it.tests q.it.tests p.tests q.tests;
  binds = All-append (IsSoundBind kinds bits) p.it.binds q.it.binds p.binds q.binds;
  bound = map-append (λ b. b.operand) p.it.binds q.it.binds ∙ ap (λ zs. zs ++ map (λ b. b.operand) q.it.binds) p.bound ∙ ap (λ zs. bs ++ zs) q.bound;
}

-- parts alone as a row
pub row_of_partly : (plain : Type 0) (kinds : List OperandKind) (s : Start) (bits : ℕ) (bs : List ℕ) (items : List Item) → IsToken bits None → StartsWith s bits
    → IsPartly kinds bits bits bs items → IsRow plain kinds s bs items
row_of_partly plain kinds s bits bs items token start p =
    let P : List Item → Type 0 = IsRow plain kinds s bs in
    subst P (sym p.alone) (record {
      some = omega arith;
      each = All-cons (IsSoundItem kinds) p.it [] (record {
        token = subst (IsToken p.it.bits) (sym p.untyped) (subst (λ n. IsToken n None) (sym p.wide) token);
        tests = subst (λ n. All (IsSoundTest n) p.it.tests) (sym p.wide) p.tests;
        binds = subst (λ n. All (IsSoundBind kinds n) p.it.binds) (sym p.wide) p.binds;
        typed = by p.it.typed p.untyped;
      }) (All-nil (IsSoundItem kinds));
      bound = append-nil _ ∙ untyped_binds p.it.bits p.it.tests p.it.binds p.it.typed p.untyped ∙ p.bound;
      starts = λ h. subst (StartsWith s) (sym p.wide) start;
    })
  where
    by : (o : Option Typed) → o ≡ None → IsSoundTyped kinds o
    by None e = tt
    by (Some t) e = cc

-- ---- one part

-- a number that fits a field of at most 32 bits keeps its value
fitting : (value n : ℕ) → leb (2 ^ n) value ≡ false → value % 2 ^ 32 < 2 ^ n
fitting value n h =
    let small : value < 2 ^ n = grind (arith, nat_tests) in
    let less : value % 2 ^ 32 ≤ value = omega arith in
    omega arith

tested_partly : (kinds : List OperandKind) (equal : Bool) (value : ℕ) (f : Field) (bits : ℕ) → IsInToken f → f.token.bits ≡ bits → leb (2 ^ (f.hi + 1 - f.lo)) value ≡ false
    → IsPartly kinds bits bits [] (tested equal value f ∷ [])
tested_partly kinds equal value f bits s e h = record {
  it = tested equal value f;
  alone = refl;
  wide = e;
  untyped = refl;
  tests = All-cons (IsSoundTest bits) _ [] (s.order, subst (λ n. f.hi < n) e s.within, fitting value (f.hi + 1 - f.lo) h) (All-nil (IsSoundTest bits));
  binds = All-nil (IsSoundBind kinds bits);
  bound = refl;
}

bound_partly : (kinds : List OperandKind) (k : ℕ) (f : Field) (bits : ℕ) → IsInToken f → f.token.bits ≡ bits → slice_get kinds k ≡ Some (K.Field (f.hi + 1 - f.lo))
    → IsPartly kinds bits bits (k ∷ []) (bound k f ∷ [])
bound_partly kinds k f bits s e at = record {
  it = bound k f;
  alone = refl;
  wide = e;
  untyped = refl;
  tests = All-nil (IsSoundTest bits);
  binds = All-cons (IsSoundBind kinds bits) _ [] (s.order, subst (λ n. f.hi < n) e s.within, at) (All-nil (IsSoundBind kinds bits));
  bound = refl;
}

-- a part starts with a token of so many bits
abbrev pub Agrees : ℕ → Start → Type 0
Agrees bits Nothing = Unit {0}
Agrees bits (One t) = t.bits ≡ bits
Agrees bits Several = ⊥

pub test_partly : (kinds : List OperandKind) (facts : List Facts) (equal : Bool) (value : ℕ) (o : Option Meaning) (bits : ℕ) → IfSome o IsSoundMeaning → is_field o ≡ true → is_over value o ≡ false
    → Agrees bits (meaning_start facts o) → Full (IsPartly kinds bits bits []) (test_choices equal value o)
test_partly kinds facts equal value None bits s field over agrees = cc
test_partly kinds facts equal value (Some (means.Field f)) bits s field over agrees =
    full_one (IsPartly kinds bits bits []) (tested equal value f ∷ []) (tested_partly kinds equal value f bits s agrees over)
test_partly kinds facts equal value (Some means.Token) bits s field over agrees = cc
test_partly kinds facts equal value (Some (means.Pattern p)) bits s field over agrees = cc
test_partly kinds facts equal value (Some means.Constructor) bits s field over agrees = cc
test_partly kinds facts equal value (Some (means.Type t)) bits s field over agrees = cc

-- an operand that is listed, as a list
pub listed_one : (o : Option ℕ) → is_some o ≡ true → option_to_list o ≡ unwrap_or o 0 ∷ []
listed_one None h = cc
listed_one (Some k) h = refl

-- an alternative of one item, over a token of so many bits
alone_partly : (kinds : List OperandKind) (s : Start) (bits : ℕ) (items : List Item) → Agrees bits s → length items ≡ 1 → IsPlainRow s items → IsPartly kinds bits bits [] items
alone_partly kinds s bits [] agrees one r = cc
alone_partly kinds s bits (it ∷ []) agrees one r =
    let row = row_of_any (Unit {0}) kinds s (it ∷ []) r in
    let plain = All-head (IsSoundItem []) it [] r.each in
    let item = All-head (IsSoundItem kinds) it [] row.each in
    let width : it.bits ≡ bits = same s agrees (r.starts tt) in
    record {
      it = it;
      alone = refl;
      wide = width;
      untyped = no_typed it.typed plain.typed;
      tests = subst (λ n. All (IsSoundTest n) it.tests) width item.tests;
      binds = subst (λ n. All (IsSoundBind kinds n) it.binds) width item.binds;
      bound = ap (map (λ b. b.operand)) (no_bind it.bits it.binds plain.binds);
    }
  where
    same : (s : Start) → Agrees bits s → StartsWith s it.bits → it.bits ≡ bits
    same Nothing a b = absurd b
    same (One t) a b = sym b ∙ a
    same Several a b = absurd a
alone_partly kinds s bits (it ∷ next ∷ items) agrees one r = absurd (omega (arith, one))

pub length_one : (n : ℕ) → not (n == 1) ≡ false → n ≡ 1
length_one n h = grind (arith, nat_tests)

single_partly : (kinds : List OperandKind) (s : Start) (bits : ℕ) (rows : List (List Item)) → Agrees bits s → list_any (λ items. not (length items == 1)) rows ≡ false
    → All (IsPlainRow s) rows → All (IsPartly kinds bits bits []) rows
single_partly kinds s bits [] agrees one h = All-nil (IsPartly kinds bits bits [])
single_partly kinds s bits (items ∷ rows) agrees one h =
    let two = or_false (not (length items == 1)) (list_any (λ items. not (length items == 1)) rows) one in
    All-cons (IsPartly kinds bits bits []) items rows (alone_partly kinds s bits items agrees (length_one (length items) two.0) (All-head (IsPlainRow s) items rows h))
    (single_partly kinds s bits rows agrees two.1 (All-tail (IsPlainRow s) items rows h))

pub lone_partly : (kinds : List OperandKind) (facts : List Facts) (ops : List (List ℕ)) (name : List ℕ) (o : Option Meaning) (bits : ℕ) → IfSome o IsSoundMeaning → is_lone ops name o ≡ true
    → is_longer o ≡ false → Agrees bits (meaning_start facts o) → ((kind : OperandKind) → is_listed ops name ≡ true → kind_of o ≡ Some kind → slice_get kinds (operand_of ops name) ≡ Some kind)
    → Full (IsPartly kinds bits bits (option_to_list (option_and_then (λ kind. place ops name) (kind_of o)))) (lone_choices (operand_of ops name) o)
lone_partly kinds facts ops name None bits s known longer agrees at = cc
lone_partly kinds facts ops name (Some (means.Field f)) bits s known longer agrees at =
    let P : List ℕ → Type 0 = λ bs. Full (IsPartly kinds bits bits bs) ((bound (operand_of ops name) f ∷ []) ∷ []) in
    subst P (sym (listed_one (place ops name) known))
    (full_one (IsPartly kinds bits bits (operand_of ops name ∷ [])) (bound (operand_of ops name) f ∷ [])
    (bound_partly kinds (operand_of ops name) f bits s agrees (at (K.Field (f.hi + 1 - f.lo)) known refl)))
lone_partly kinds facts ops name (Some (means.Pattern p)) bits s known longer agrees at =
    record { some = s.some; each = single_partly kinds p.start bits p.alternatives agrees longer s.each }
lone_partly kinds facts ops name (Some means.Token) bits s known longer agrees at = cc
lone_partly kinds facts ops name (Some means.Constructor) bits s known longer agrees at = cc
lone_partly kinds facts ops name (Some (means.Type t)) bits s known longer agrees at = cc

-- what a part of an item over one token has to be
pub record IsFinePart (names : Table) (facts : List Facts) (ops : List (List ℕ)) (bits : ℕ) (part : Part) : Type 0 where
  pub known : is_known_part names ops part ≡ true
  pub over : is_over_part names part ≡ false
  pub longer : is_longer_part names part ≡ false
  pub agrees : Agrees bits (part_start names facts part)

pub part_partly : (names : Table) (facts : List Facts) (ops : List (List ℕ)) (kinds : List OperandKind) (bits : ℕ) (part : Part) → IsScene names ops kinds → IsFinePart names facts ops bits part
    → Full (IsPartly kinds bits bits (option_to_list (part_binds names ops part))) (part_choices names ops part)
part_partly names facts ops kinds bits (Equal name value) s fine = test_partly kinds facts true value (named names name) bits (s.meanings name) fine.known fine.over fine.agrees
part_partly names facts ops kinds bits (Differs name value) s fine = test_partly kinds facts false value (named names name) bits (s.meanings name) fine.known fine.over fine.agrees
part_partly names facts ops kinds bits (Lone name) s fine =
    lone_partly kinds facts ops name (named names name) bits (s.meanings name) fine.known fine.longer fine.agrees (s.places name)

-- ---- several parts

cons_list : (bs : List ℕ) (o : Option ℕ) (cs : List ℕ) → (bs ++ option_to_list o) ++ cs ≡ bs ++ cons_option o cs
cons_list [] None cs = refl
cons_list [] (Some k) cs = refl
cons_list (b ∷ bs) o cs = ap (λ zs. b ∷ zs) (cons_list bs o cs)

behind_parts : (names : Table) (facts : List Facts) (ops : List (List ℕ)) (kinds : List OperandKind) (bits : ℕ) (bs : List ℕ) (parts : List Part) (xs : List (List Item)) → IsScene names ops kinds
    → All (IsFinePart names facts ops bits) parts → Full (IsPartly kinds bits bits bs) xs
    → Full (IsPartly kinds bits bits (bs ++ filter_map (part_binds names ops) parts)) (fold (λ xs part. choices onto_first xs (part_choices names ops part)) xs parts)
behind_parts names facts ops kinds bits bs [] xs s fine full = let P : List ℕ → Type 0 = λ cs. Full (IsPartly kinds bits bits cs) xs in subst P (sym (append-nil bs)) full
behind_parts names facts ops kinds bits bs (part ∷ parts) xs s fine full =
    let F : List (List Item) → Part → List (List Item) = λ xs part. choices onto_first xs (part_choices names ops part) in
    let B : Option ℕ = part_binds names ops part in
    let one : Full (IsPartly kinds bits bits (option_to_list B)) (part_choices names ops part) =
    part_partly names facts ops kinds bits part s (All-head (IsFinePart names facts ops bits) part parts fine) in
    let next : Full (IsPartly kinds bits bits (bs ++ option_to_list B)) (choices onto_first xs (part_choices names ops part)) =
    full_choices (IsPartly kinds bits bits bs) (IsPartly kinds bits bits (option_to_list B)) (IsPartly kinds bits bits (bs ++ option_to_list B)) onto_first
    (λ x y p q. partly_more kinds bits bits bs (option_to_list B) x y (omega arith) p q) xs (part_choices names ops part) full one in
    let rest = behind_parts names facts ops kinds bits (bs ++ option_to_list B) parts (choices onto_first xs (part_choices names ops part)) s
    (All-tail (IsFinePart names facts ops bits) part parts fine) next in
    let P : List ℕ → Type 0 = λ cs. Full (IsPartly kinds bits bits cs) (fold F (choices onto_first xs (part_choices names ops part)) parts) in
    subst P (cons_list bs B (filter_map (part_binds names ops) parts)) rest

-- all parts of an item
pub all_parts : (names : Table) (facts : List Facts) (ops : List (List ℕ)) (kinds : List OperandKind) (bits : ℕ) (part : Part) (parts : List Part) → IsScene names ops kinds
    → All (IsFinePart names facts ops bits) (part ∷ parts)
    → Full (IsPartly kinds bits bits (filter_map (part_binds names ops) (part ∷ parts)))
    (fold (λ xs part. choices onto_first xs (part_choices names ops part)) ((nothing_asked ∷ []) ∷ []) (part ∷ parts))
all_parts names facts ops kinds bits part parts s fine =
    let F : List (List Item) → Part → List (List Item) = λ xs part. choices onto_first xs (part_choices names ops part) in
    let B : Option ℕ = part_binds names ops part in
    let one : Full (IsPartly kinds bits bits (option_to_list B)) (part_choices names ops part) =
    part_partly names facts ops kinds bits part s (All-head (IsFinePart names facts ops bits) part parts fine) in
    let first : Full (IsPartly kinds bits bits (option_to_list B)) (choices onto_first ((nothing_asked ∷ []) ∷ []) (part_choices names ops part)) =
    full_choices (IsPartly kinds bits 0 []) (IsPartly kinds bits bits (option_to_list B)) (IsPartly kinds bits bits (option_to_list B)) onto_first
    (λ x y p q. partly_more kinds bits 0 [] (option_to_list B) x y (omega arith) p q) ((nothing_asked ∷ []) ∷ []) (part_choices names ops part)
    (full_one (IsPartly kinds bits 0 []) (nothing_asked ∷ []) (partly_none kinds bits)) one in
    let rest = behind_parts names facts ops kinds bits (option_to_list B) parts (choices onto_first ((nothing_asked ∷ []) ∷ []) (part_choices names ops part)) s
    (All-tail (IsFinePart names facts ops bits) part parts fine) first in
    let P : List ℕ → Type 0 = λ cs. Full (IsPartly kinds bits bits cs) (fold F (choices onto_first ((nothing_asked ∷ []) ∷ []) (part_choices names ops part)) parts) in
    subst P (cons_list [] B (filter_map (part_binds names ops) parts)) rest
