-- What a text is read as, by its parts.
use Rattle.std.proofs.Common.{◌≡◌, ◌≢◌, ℕ, ◌+◌, ◌<◌, ◌-◌, ◌^◌, zero, suc, List, [], ◌∷◌, ◌++◌, length, map, Some, None, Ok, refl, sym, ap, ◌∙◌, subst, arith, length-append}
use Rattle.std.specs.Prelude.{flat_map}
use Rattle.std.specs.List.{All}
use Rattle.std.proofs.lemmas.List.{append-nil, length-map}
use Rattle.std.proofs.lemmas.List.Elements.{All-append, All-cons, All-head, All-nil, All-tail}
use Rattle.c_lang.specs.declared.tree.Program.{Program}
use Rattle.c_lang.specs.Items.{Array, Text, Item, Include, Machine, Segment, Table, Declared, Defined, Main, items, numbered}
use Rattle.c_lang.specs.Spellable.{ItemHasForm}
use Rattle.c_lang.specs.StaticRules.{static_fault}
use Rattle.c_lang.proofs.StaticLaws.{faultless-static}
use Rattle.c_text.specs.Tokens.{Token, tokens}
use Rattle.c_text.specs.Items.{item_toks}
use Rattle.c_text.specs.Spells.{first_line}
use Rattle.c_scan.specs.Left.{IsLexed, left}
use Rattle.c_rules.specs.declared.parts.Parts.{Parts}
use Rattle.c_rules.specs.Texts.{text}
use Rattle.c_read.specs.declared.fault.CFault.{CFault}
use Rattle.c_read.specs.declared.fault.CFault.TheVariants.{Lex, BadItem, Static, NoMemory}
use Rattle.c_read.specs.declared.pieces.Piece.{Piece}
use Rattle.c_read.specs.declared.pieces.Piece.TheVariants as piece
use Rattle.c_read.specs.declared.pieces.Stage.TheVariants as stage
use Rattle.c_read.specs.Pieces.{IsPiece, piece_toks}
use Rattle.c_read.specs.Drafts.{IsItemFault, IsPartsOf, pieces, placed}
use Rattle.c_read.specs.Programs.{IsProgramOf, MayBeProgram}
use Rattle.c_read.specs.Texts.{IsBroken, IsCText, IsFault, IsFirstBad, SpellsText, behind_line}
use Rattle.c_read.proofs.LineLaws.{Cut, few_tokens, lexed_is, parted, some_line}
use Rattle.c_read.proofs.Reading.{few_stand}
use Rattle.c_read.proofs.Whole.{left_all, right_all, whole_toks}

-- ---- the forms of the items of a text

segment_items : (k : ℕ) (ss : List Array) → All IsPiece (placed k ss) → All ItemHasForm (numbered Segment k ss)
segment_items k [] h = All-nil ItemHasForm
segment_items k (s ∷ ss) h =
    let rest = placed (k + 1) ss in
    All-cons ItemHasForm (Segment k s) (numbered Segment (k + 1) ss) (All-head IsPiece (piece.Segment k s) rest h) (segment_items (k + 1) ss (All-tail IsPiece (piece.Segment k s) rest h))

other_items : {A : Type 0} (item : ℕ → A → Item) (one : A → Piece) → ((k : ℕ) (x : A) → IsPiece (one x) → ItemHasForm (item k x)) → (k : ℕ) (xs : List A) → All IsPiece (map one xs) → All ItemHasForm (numbered item k xs)
other_items item one f k [] h = All-nil ItemHasForm
other_items item one f k (x ∷ xs) h =
    All-cons ItemHasForm (item k x) (numbered item (k + 1) xs) (f k x (All-head IsPiece (one x) (map one xs) h)) (other_items item one f (k + 1) xs (All-tail IsPiece (one x) (map one xs) h))

pub forms_of : (t : Text) → All IsPiece (pieces t) → All ItemHasForm (items t)
forms_of t h =
    let last : List Piece = piece.Main t.entry t.first ∷ [] in
    let functions : List Piece = map piece.Defined t.functions ++ last in
    let code : List Piece = map piece.Declared t.prototypes ++ functions in
    let ds = numbered Declared 0 t.prototypes in
    let fs = numbered Defined 0 t.functions in
    let main = Main t.entry t.first ∷ [] in
    let ss = numbered Segment 0 t.segments in
    let h1 = All-tail IsPiece (piece.Machine t.machine) (placed 0 t.segments ++ (piece.Table t.table ∷ code)) h in
    let h2 = right_all IsPiece (placed 0 t.segments) (piece.Table t.table ∷ code) h1 in
    let h3 = All-tail IsPiece (piece.Table t.table) code h2 in
    let h4 = right_all IsPiece (map piece.Declared t.prototypes) functions h3 in
    All-cons ItemHasForm Include (Machine t.machine ∷ (ss ++ (Table t.table ∷ (ds ++ (fs ++ main))))) tt
    (All-cons ItemHasForm (Machine t.machine) (ss ++ (Table t.table ∷ (ds ++ (fs ++ main)))) (All-head IsPiece (piece.Machine t.machine) (placed 0 t.segments ++ (piece.Table t.table ∷ code)) h)
    (All-append ItemHasForm ss (Table t.table ∷ (ds ++ (fs ++ main))) (segment_items 0 t.segments (left_all IsPiece (placed 0 t.segments) (piece.Table t.table ∷ code) h1))
    (All-cons ItemHasForm (Table t.table) (ds ++ (fs ++ main)) (All-head IsPiece (piece.Table t.table) code h2)
    (All-append ItemHasForm ds (fs ++ main) (other_items Declared piece.Declared (λ k x h. h) 0 t.prototypes (left_all IsPiece (map piece.Declared t.prototypes) functions h3))
    (All-append ItemHasForm fs main (other_items Defined piece.Defined (λ k x h. h) 0 t.functions (left_all IsPiece (map piece.Defined t.functions) last h4))
    (All-cons ItemHasForm (Main t.entry t.first) [] (All-head IsPiece (piece.Main t.entry t.first) [] (right_all IsPiece (map piece.Defined t.functions) last h4)) (All-nil ItemHasForm)))))))

-- ---- how many there are

placed_count : (k : ℕ) (ss : List Array) → length (placed k ss) ≡ length ss
placed_count k [] = refl
placed_count k (s ∷ ss) = ap suc (placed_count (k + 1) ss)

pieces_count : (t : Text) → length (pieces t) ≡ 3 + length t.segments + length t.prototypes + length t.functions
pieces_count t =
    let last : List Piece = piece.Main t.entry t.first ∷ [] in
    let functions : List Piece = map piece.Defined t.functions ++ last in
    let code : List Piece = map piece.Declared t.prototypes ++ functions in
    omega (
      arith,
      placed_count 0 t.segments,
      length-append (placed 0 t.segments) (piece.Table t.table ∷ code),
      length-append (map piece.Declared t.prototypes) functions,
      length-append (map piece.Defined t.functions) last,
      length-map t.prototypes piece.Declared,
      length-map t.functions piece.Defined,
    )

pub parts_few : (ts : List Token) (parts : Parts) → IsPartsOf ts parts → length ts < 2 ^ 32 - 2 → 3 + length parts.segments + length parts.prototypes + length parts.functions < 2 ^ 32
parts_few ts parts h l = omega (arith, l, few_stand ts [] (pieces (text parts)) stage.Over h, pieces_count (text parts))

-- ---- what a text is read as

module _ (bytes first rest : List ℕ) (c : Cut bytes first rest) (lexed : IsLexed (tokens rest)) where
  behind_is : tokens (behind_line bytes) ≡ Ok (left rest)
  behind_is = ap tokens (sym c.rest_is) ∙ lexed_is rest lexed

  pub first_bad : first ≢ first_line → IsFirstBad bytes
  first_bad n = record { given = left rest; lexed = behind_is; other = λ e. n (c.first_is ∙ e) }

  pub fault_later : (f : CFault) → first ≡ first_line → IsItemFault (left rest) f → IsFault bytes f
  fault_later (Lex line) e h = absurd h
  fault_later (BadItem zero) e h = absurd h
  fault_later (BadItem (suc k)) e h = record { given = left rest; lexed = behind_is; first = sym c.first_is ∙ e; bad = h }
  fault_later (Static index rule) e h = absurd h
  fault_later NoMemory e h = tt

  spells : (parts : Parts) → first ≡ first_line → IsPartsOf (left rest) parts → SpellsText bytes (text parts)
  spells parts e h = record {
    first = sym c.first_is ∙ e;
    behind = behind_is ∙ ap Ok (h.spelled ∙ append-nil (flat_map piece_toks (pieces (text parts))) ∙ sym (whole_toks (text parts)));
    forms = forms_of (text parts) h.proper;
  }

  pub broken : (parts : Parts) (item rule : ℕ) → first ≡ first_line → IsPartsOf (left rest) parts → Some (item, rule) ≡ static_fault (text parts) → IsBroken bytes item rule
  broken parts item rule e h f = record { t = text parts; spells = spells parts e h; fault = sym f }

  some_rest : (parts : Parts) → IsPartsOf (left rest) parts → 0 < length rest
  some_rest parts h = omega (arith, few_tokens rest lexed, few_stand (left rest) [] (pieces (text parts)) stage.Over h, pieces_count (text parts))

  pub program_is : (parts : Parts) (p : Program) → first ≡ first_line → IsPartsOf (left rest) parts → None ≡ static_fault (text parts) → IsProgramOf parts p → IsCText bytes p
  program_is parts p e h f same =
      let s = spells parts e h in
      record {
        spells = record {
          possible = record { each = subst (λ t. All ItemHasForm (items t)) (sym same) s.forms };
          rest = behind_line bytes;
          first = parted bytes (some_line bytes (subst (λ r. 0 < length r) c.rest_is (some_rest parts h))) ∙ ap (λ l. l ++ 10 ∷ behind_line bytes) (sym c.first_is ∙ e);
          behind = s.behind ∙ ap (λ t. Ok (flat_map item_toks (items t))) (sym same);
        };
        keeps = faultless-static p (ap static_fault same ∙ sym f);
      }

pub may_be : (ts : List Token) (parts : Parts) → IsPartsOf ts parts → None ≡ static_fault (text parts) → MayBeProgram parts
may_be ts parts h f = record { forms = forms_of (text parts) h.proper; keeps = sym f }
