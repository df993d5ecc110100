-- What the items so far are, one item on, and at each fault.
use Rattle.std.proofs.Common.{◌≡◌, ℕ, true, false, List, [], ◌∷◌, ◌++◌, length, Option, Some, None, refl, sym, ap, ◌∙◌, subst, append_assoc}
use Rattle.std.specs.Prelude.{flat_map, option_and_then}
use Rattle.std.proofs.lemmas.List.{append-nil}
use Rattle.std.proofs.lemmas.List.Elements.{All-append, All-cons, All-nil}
use Rattle.std.proofs.lemmas.Grind.{flat_map-append}
use Rattle.c_text.specs.Tokens.{Token}
use Rattle.c_read.specs.declared.pieces.Piece.{Piece}
use Rattle.c_read.specs.declared.pieces.Stage.{Stage}
use Rattle.c_read.specs.declared.pieces.Stage.TheVariants as stage
use Rattle.c_scan.specs.Readings.{refuses, takes, at_end}
use Rattle.c_read.specs.Pieces.{IsPiece, piece_toks, next, along, Stand, IsBadItem, read_piece}
use Rattle.c_read.proofs.OneReading.{IsWholeText}
use Rattle.c_read.proofs.SyntaxLaws.{no_read}
use Rattle.c_read.proofs.PieceExact.{piece_mirrored}

pub nothing_stands : (given : List Token) → Stand given [] stage.Start given
nothing_stands given = record { spelled = refl; proper = All-nil IsPiece; stages = refl }

and_then_none : (s : Stage) (ps : List Piece) (o : Option Stage) → option_and_then (λ t. along t ps) o ≡ Some s → o ≡ None → ⊥
and_then_none s ps None h e = absurd (cc)
and_then_none s ps (Some t) h e = absurd (cc)

along_more : (a s t : Stage) (ps : List Piece) (p : Piece) → along a ps ≡ Some s → next s p ≡ Some t → along a (ps ++ p ∷ []) ≡ Some t
along_more a s t [] p h n = let e : a ≡ s = cc in rw (e, n) refl
along_more a s t (q ∷ ps) p h n = by (next a q) h (λ b h. along_more b s t ps p h n)
  where
    by : (o : Option Stage) → option_and_then (λ t. along t ps) o ≡ Some s → ((b : Stage) → along b ps ≡ Some s → along b (ps ++ p ∷ []) ≡ Some t) → option_and_then (λ t. along t (ps ++ p ∷ [])) o ≡ Some t
    by None h rec = absurd (cc)
    by (Some b) h rec = rec b h

pub one_more_stands : (given : List Token) (ps new : List Piece) (s t : Stage) (mid rest : List Token) (p : Piece) → Stand given ps s mid → read_piece mid ≡ takes p rest → next s p ≡ Some t → new ≡ ps ++ p ∷ [] → Stand given new t rest
one_more_stands given ps new s t mid rest p k h n is =
    let a = piece_mirrored.only_these.seen_front mid p rest h in
    let e : flat_map piece_toks (ps ++ p ∷ []) ≡ flat_map piece_toks ps ++ piece_toks p = flat_map-append piece_toks ps (p ∷ []) ∙ ap (λ l. flat_map piece_toks ps ++ l) (append-nil (piece_toks p)) in
    subst (λ l. Stand given l t rest) (sym is) (record {
      spelled = k.spelled ∙ ap (λ m. flat_map piece_toks ps ++ m) a.spelled ∙ sym (append_assoc (flat_map piece_toks ps) (piece_toks p) rest) ∙ ap (λ l. l ++ rest) (sym e);
      proper = All-append IsPiece ps (p ∷ []) k.proper (All-cons IsPiece p [] a.proper (All-nil IsPiece));
      stages = along_more stage.Start s t ps p k.stages n;
    })

pub no_item_reads : (given : List Token) (ps : List Piece) (s : Stage) (mid : List Token) (k : ℕ) → Stand given ps s mid → (s ≡ stage.Over → ⊥) → read_piece mid ≡ refuses → k ≡ length ps → IsBadItem given k
no_item_reads given ps s mid k h more f n = record {
  before = ps;
  reached = s;
  rest = mid;
  stand = h;
  number = n;
  stuck = λ p t remain q m e. let w : read_piece mid ≡ takes p remain = ap read_piece e ∙ (piece_mirrored.all_these p q).read_back remain in no_read p remain (sym f ∙ w);
  unfinished = λ over e. more over;
}

same_value : (p q : Piece) (remain u : List Token) → takes p remain ≡ takes q u → p ≡ q
same_value p q remain u e = cc

pub no_item_may : (given : List Token) (ps : List Piece) (s : Stage) (mid rest : List Token) (p : Piece) (k : ℕ) → Stand given ps s mid → (s ≡ stage.Over → ⊥) → read_piece mid ≡ takes p rest → next s p ≡ None → k ≡ length ps → IsBadItem given k
no_item_may given ps s mid rest p k h more f none n = record {
  before = ps;
  reached = s;
  rest = mid;
  stand = h;
  number = n;
  stuck = λ q t remain proper m e.
      let w : read_piece mid ≡ takes q remain = ap read_piece e ∙ (piece_mirrored.all_these q proper).read_back remain in
      let same : q ≡ p = same_value q p remain rest (sym w ∙ f) in
      let both : Some t ≡ None = sym m ∙ ap (next s) same ∙ none in
      absurd (cc);
  unfinished = λ over e. more over;
}

over_none : (p : Piece) → next stage.Over p ≡ None
over_none p = refl

at_end_is : (given : List Token) → at_end given ≡ true → given ≡ []
at_end_is [] h = refl
at_end_is (t ∷ given) h = absurd (cc)

not_end : (given : List Token) → at_end given ≡ false → given ≡ [] → ⊥
not_end [] h e = absurd (cc)
not_end (t ∷ given) h e = absurd (cc)

pub some_behind_main : (given : List Token) (ps : List Piece) (s : Stage) (mid : List Token) (k : ℕ) → Stand given ps s mid → s ≡ stage.Over → at_end mid ≡ false → k ≡ length ps → IsBadItem given k
some_behind_main given ps s mid k h over end n = record {
  before = ps;
  reached = s;
  rest = mid;
  stand = h;
  number = n;
  stuck = λ q t remain proper m e. let both : Some t ≡ None = sym m ∙ ap (λ s. next s q) over ∙ over_none q in absurd (cc);
  unfinished = λ _. not_end mid end;
}

pub whole_stands : (given : List Token) (ps : List Piece) (s : Stage) (mid : List Token) → Stand given ps s mid → s ≡ stage.Over → at_end mid ≡ true → IsWholeText given ps
whole_stands given ps s mid h over end = subst (λ s. Stand given ps s []) over (subst (λ m. Stand given ps s m) (at_end_is mid end) h)

pub ruleset text_laws = (nothing_stands, one_more_stands, no_item_reads, no_item_may, some_behind_main, whole_stands)
