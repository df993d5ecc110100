-- The loop over items: what stands, by its kinds, and how many it is.
use Rattle.std.proofs.Common.{◌≡◌, ℕ, ◌+◌, ◌-◌, ◌<◌, ◌≤◌, ◌^◌, Bool, true, false, suc, List, [], ◌∷◌, ◌++◌, length, Some, None, refl, sym, ap, ◌∙◌, subst, arith, ◌⊎◌, inl, inr, length-append}
use Rattle.std.specs.Prelude.{MatchBool, flat_map, ◌==◌}
use Rattle.std.proofs.lemmas.Bool.{cases_Bool}
use Rattle.c_lang.specs.Items.{Text}
use Rattle.c_rules.specs.declared.parts.Parts.{Parts}
use Rattle.c_text.specs.Tokens.{Token}
use Rattle.c_scan.specs.Readings.{refuses, takes, at_end}
use Rattle.c_read.specs.declared.draft.Draft.{Draft}
use Rattle.c_read.specs.declared.fault.CFault.TheVariants.{BadItem}
use Rattle.c_read.specs.declared.pieces.Piece.{Piece}
use Rattle.c_read.specs.declared.pieces.Piece.TheVariants as piece
use Rattle.c_read.specs.declared.pieces.Stage.{Stage}
use Rattle.c_read.specs.declared.pieces.Stage.TheVariants as stage
use Rattle.c_read.specs.Pieces.{IsBadItem, IsNear, Stand, along, next, piece_toks, read_piece}
use Rattle.c_read.specs.Drafts.{AreParts, IsItemFault, IsPartsOf, draft_of, nothing, pieces, with_all, with_piece}
use Rattle.c_read.proofs.PieceExact.{piece_filled}
use Rattle.c_read.proofs.TextLaws.{whole_stands, some_behind_main, no_item_may, no_item_reads, one_more_stands, nothing_stands}
use Rattle.c_read.proofs.Whole.{one_more, whole_draft, whole_from}

-- items stand up to this stage, by their kinds, and the next one has this number
pub record Reading (ts : List Token) (s : Stage) (rest : List Token) (d : Draft) (n : ℕ) : Type 0 where
  pub stood : List Piece
  pub stand : Stand ts stood s rest
  pub kinds : d ≡ with_all nothing stood
  pub number : n ≡ length stood + 1

-- what the code tells of the last stage
pub not_over : (s : Stage) (r : Bool) → MatchBool r (s ≡ stage.Over) (s ≡ stage.Over → ⊥) → r ≡ false → s ≡ stage.Over → ⊥
not_over s true h e = absurd (cc)
not_over s false h e = h

pub over_is : (s : Stage) (r : Bool) → MatchBool r (s ≡ stage.Over) (s ≡ stage.Over → ⊥) → r ≡ true → s ≡ stage.Over
over_is s true h e = h
over_is s false h e = absurd (cc)

pub start : (ts : List Token) → Reading ts stage.Start ts nothing 1
start ts = record { stood = []; stand = nothing_stands ts; kinds = refl; number = refl }

pub goes_on : (ts mid rest : List Token) (s t : Stage) (d new : Draft) (p : Piece) (n : ℕ) → Reading ts s mid d n → read_piece mid ≡ takes p rest → next s p ≡ Some t → new ≡ with_piece d p → Reading ts t rest new (n + 1)
goes_on ts mid rest s t d new p n r h m is = record {
  stood = r.stood ++ p ∷ [];
  stand = one_more_stands ts r.stood (r.stood ++ p ∷ []) s t mid rest p r.stand h m refl;
  kinds = is ∙ ap (λ d. with_piece d p) r.kinds ∙ one_more nothing r.stood p;
  number = omega (arith, r.number, length-append r.stood (p ∷ []));
}

-- the fault of this number
fault : (ts : List Token) (n k : ℕ) → n ≡ k + 1 → IsBadItem ts k → IsItemFault ts (BadItem n)
fault ts n k e b = let more : n ≡ suc k = omega (arith, e) in subst (λ m. IsItemFault ts (BadItem m)) (sym more) b

pub none_reads : (ts mid : List Token) (s : Stage) (d : Draft) (n : ℕ) → Reading ts s mid d n → (s ≡ stage.Over → ⊥) → read_piece mid ≡ refuses → IsItemFault ts (BadItem n)
none_reads ts mid s d n r more h = fault ts n (length r.stood) r.number (no_item_reads ts r.stood s mid (length r.stood) r.stand more h refl)

pub none_follows : (ts mid rest : List Token) (s : Stage) (d : Draft) (p : Piece) (n : ℕ) → Reading ts s mid d n → (s ≡ stage.Over → ⊥) → read_piece mid ≡ takes p rest → None ≡ next s p → IsItemFault ts (BadItem n)
none_follows ts mid rest s d p n r more h m = fault ts n (length r.stood) r.number (no_item_may ts r.stood s mid rest p (length r.stood) r.stand more h (sym m) refl)

pub more_follows : (ts mid : List Token) (s : Stage) (d : Draft) (n : ℕ) → Reading ts s mid d n → s ≡ stage.Over → at_end mid ≡ false → IsItemFault ts (BadItem n)
more_follows ts mid s d n r over end = fault ts n (length r.stood) r.number (some_behind_main ts r.stood s mid (length r.stood) r.stand over end refl)

-- the items of a text, and its parts
pub record Ended (ts : List Token) (d : Draft) : Type 0 where
  pub t : Text
  pub same : d ≡ draft_of t
  pub stand : Stand ts (pieces t) stage.Over []

pub ends : (ts mid : List Token) (s : Stage) (d : Draft) (n : ℕ) → Reading ts s mid d n → s ≡ stage.Over → at_end mid ≡ true → Ended ts d
ends ts mid s d n r over end =
    let whole = whole_stands ts r.stood s mid r.stand over end in
    let w = whole_from r.stood whole.stages in
    record { t = w.t; same = r.kinds ∙ ap (with_all nothing) w.same ∙ whole_draft w.t; stand = subst (λ ps. Stand ts ps stage.Over []) w.same whole }

pub no_parts : (ts : List Token) (d : Draft) → Ended ts d → AreParts d None → ⊥
no_parts ts d e a = a e.t e.same

pub parts_are : (ts : List Token) (d : Draft) (parts : Parts) → Ended ts d → AreParts d (Some parts) → IsPartsOf ts parts
parts_are ts d parts e a = subst (λ t. Stand ts (pieces t) stage.Over []) (sym (a e.t e.same)) e.stand

-- ---- how many there are

few : (ps : List Piece) → length ps ≤ length (flat_map piece_toks ps)
few [] = omega arith
few (p ∷ ps) = omega (arith, piece_filled p, few ps, length-append (piece_toks p) (flat_map piece_toks ps))

pub few_stand : (ts rest : List Token) (ps : List Piece) (s : Stage) → Stand ts ps s rest → length ps + length rest ≤ length ts
few_stand ts rest ps s h = omega (arith, few ps, ap length h.spelled, length-append (flat_map piece_toks ps) rest)

-- no segment stands behind `uq_segs`
over_none : (k : ℕ) (ps : List Piece) → along stage.Over ps ≡ Some (stage.Segments k) → ⊥
over_none k [] e = absurd (cc)
over_none k (p ∷ ps) e = absurd (cc)

defining_none : (k : ℕ) (ps : List Piece) → along stage.Defining ps ≡ Some (stage.Segments k) → ⊥
defining_none k [] e = absurd (cc)
defining_none k (piece.Defined f ∷ ps) e = defining_none k ps e
defining_none k (piece.Main entry first ∷ ps) e = over_none k ps e
defining_none k (piece.Machine a ∷ ps) e = absurd (cc)
defining_none k (piece.Segment j a ∷ ps) e = absurd (cc)
defining_none k (piece.Table a ∷ ps) e = absurd (cc)
defining_none k (piece.Declared p ∷ ps) e = absurd (cc)

declaring_none : (k : ℕ) (ps : List Piece) → along stage.Declaring ps ≡ Some (stage.Segments k) → ⊥
declaring_none k [] e = absurd (cc)
declaring_none k (piece.Declared p ∷ ps) e = declaring_none k ps e
declaring_none k (piece.Defined f ∷ ps) e = defining_none k ps e
declaring_none k (piece.Main entry first ∷ ps) e = over_none k ps e
declaring_none k (piece.Machine a ∷ ps) e = absurd (cc)
declaring_none k (piece.Segment j a ∷ ps) e = absurd (cc)
declaring_none k (piece.Table a ∷ ps) e = absurd (cc)

segments_few : (j k : ℕ) (ps : List Piece) → along (stage.Segments j) ps ≡ Some (stage.Segments k) → k ≤ j + length ps
segments_few j k [] e = let same : j ≡ k = cc in omega (arith, same)
segments_few j k (piece.Segment i a ∷ ps) e = by (cases_Bool (i == j)) (segments_few (j + 1) k ps)
  where
    by : ((i == j) ≡ true) ⊎ ((i == j) ≡ false) → (along (stage.Segments (j + 1)) ps ≡ Some (stage.Segments k) → k ≤ j + 1 + length ps) → k ≤ j + suc (length ps)
    by (inl b) rec = omega (arith, rec (rw b at e))
    by (inr b) rec = absurd (let none : None ≡ Some (stage.Segments k) = rw b at e in cc)
segments_few j k (piece.Table a ∷ ps) e = absurd (declaring_none k ps e)
segments_few j k (piece.Machine a ∷ ps) e = absurd (cc)
segments_few j k (piece.Declared p ∷ ps) e = absurd (cc)
segments_few j k (piece.Defined f ∷ ps) e = absurd (cc)
segments_few j k (piece.Main entry first ∷ ps) e = absurd (cc)

started_few : (k : ℕ) (ps : List Piece) → along stage.Start ps ≡ Some (stage.Segments k) → k ≤ length ps
started_few k [] e = absurd (cc)
started_few k (piece.Machine a ∷ ps) e = omega (arith, segments_few 0 k ps e)
started_few k (piece.Segment i a ∷ ps) e = absurd (cc)
started_few k (piece.Table a ∷ ps) e = absurd (cc)
started_few k (piece.Declared p ∷ ps) e = absurd (cc)
started_few k (piece.Defined f ∷ ps) e = absurd (cc)
started_few k (piece.Main entry first ∷ ps) e = absurd (cc)

stage_near : (s : Stage) (ps : List Piece) → along stage.Start ps ≡ Some s → length ps + 1 < 2 ^ 64 → IsNear s
stage_near (stage.Segments k) ps e l = omega (arith, l, started_few k ps e)
stage_near stage.Start ps e l = tt
stage_near stage.Declaring ps e l = tt
stage_near stage.Defining ps e l = tt
stage_near stage.Over ps e l = tt

pub near : (ts mid : List Token) (s : Stage) (d : Draft) (n : ℕ) → Reading ts s mid d n → length ts < 2 ^ 32 - 2 → IsNear s
near ts mid s d n r l = stage_near s r.stood r.stand.stages (omega (arith, l, few_stand ts mid r.stood s r.stand))

pub number_fits : (ts mid : List Token) (s : Stage) (d : Draft) (n : ℕ) → Reading ts s mid d n → length ts < 2 ^ 32 - 2 → n + 1 < 2 ^ 32
number_fits ts mid s d n r l = omega (arith, l, r.number, few_stand ts mid r.stood s r.stand)
