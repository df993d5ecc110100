-- Two readings of the same tokens are one: the items of the shorter begin the longer.
use Rattle.std.proofs.Common.{◌≡◌, ℕ, ◌≤◌, zero, suc, List, [], ◌∷◌, ◌++◌, length, Option, Some, None, refl, sym, ap, ◌∙◌, subst, arith, ◌⊎◌, inl, inr, append_assoc}
use Rattle.std.specs.Prelude.{flat_map, option_and_then}
use Rattle.std.specs.List.{All}
use Rattle.std.proofs.lemmas.List.{append-nil}
use Rattle.std.proofs.lemmas.List.Elements.{All-head, All-tail}
use Rattle.c_text.specs.Tokens.{Token}
use Rattle.c_read.specs.declared.pieces.Piece.{Piece}
use Rattle.c_read.specs.declared.pieces.Stage.{Stage}
use Rattle.c_read.specs.declared.pieces.Stage.TheVariants as stage
use Rattle.c_scan.specs.Readings.{takes}
use Rattle.c_read.specs.Pieces.{IsPiece, piece_toks, next, along, Stand, IsBadItem, read_piece}
use Rattle.c_read.proofs.PieceExact.{piece_mirrored}

-- a whole text: `uq_main` is its last item, and nothing is left
abbrev pub IsWholeText : List Token → List Piece → Type 0
IsWholeText given ps = Stand given ps stage.Over []

abbrev all_toks : List Piece → List Token
all_toks ps = flat_map piece_toks ps

-- one reading goes on where another ends
record Extends (ps qs : List Piece) (s t : Stage) (remain u : List Token) : Type 0 where
  more : List Piece
  whole : qs ≡ ps ++ more
  left : remain ≡ all_toks more ++ u
  proper : All IsPiece more
  stages : along s more ≡ Some t

-- both begin with one item
record SameFirst (p q : Piece) (remain u : List Token) : Type 0 where
  same : p ≡ q
  rest : remain ≡ u

first_alike : (p q : Piece) (remain u : List Token) → IsPiece p → IsPiece q → piece_toks p ++ remain ≡ piece_toks q ++ u → SameFirst p q remain u
first_alike p q remain u a b e =
    let both : takes p remain ≡ takes q u = sym ((piece_mirrored.all_these p a).read_back remain) ∙ ap read_piece e ∙ (piece_mirrored.all_these q b).read_back u in
    record { same = cc; rest = cc }

extended : (ps qs : List Piece) (a s t : Stage) (remain u : List Token) → all_toks ps ++ remain ≡ all_toks qs ++ u → All IsPiece ps → All IsPiece qs → along a ps ≡ Some s → along a qs ≡ Some t → length ps ≤ length qs → Extends ps qs s t remain u
extended [] qs a s t remain u e p q x y l = let same : a ≡ s = cc in record { more = qs; whole = refl; left = e; proper = q; stages = ap (λ b. along b qs) (sym same) ∙ y }
extended (p ∷ ps) [] a s t remain u e pp qq x y l = absurd (omega arith)
extended (p ∷ ps) (q ∷ qs) a s t remain u e pp qq x y l =
    let f = first_alike p q (all_toks ps ++ remain) (all_toks qs ++ u) (All-head IsPiece p ps pp) (All-head IsPiece q qs qq) (sym (append_assoc (piece_toks p) (all_toks ps) remain) ∙ e ∙ append_assoc (piece_toks q) (all_toks qs) u) in
    by (next a p) refl x (subst (λ n. option_and_then (λ t. along t qs) (next a n) ≡ Some t) (sym f.same) y) f
    (λ b x y. extended ps qs b s t remain u f.rest (All-tail IsPiece p ps pp) (All-tail IsPiece q qs qq) x y (omega arith))
  where
    by : (o : Option Stage) → next a p ≡ o → option_and_then (λ t. along t ps) o ≡ Some s → option_and_then (λ t. along t qs) (next a p) ≡ Some t → SameFirst p q (all_toks ps ++ remain) (all_toks qs ++ u) → ((b : Stage) → along b ps ≡ Some s → along b qs ≡ Some t → Extends ps qs s t remain u) → Extends (p ∷ ps) (q ∷ qs) s t remain u
    by None n x y f rec = absurd (cc)
    by (Some b) n x y f rec =
        let c = rec b x (ap (option_and_then (λ t. along t qs)) (sym n) ∙ y) in
        record { more = c.more; whole = ap (λ h. h ∷ qs) (sym f.same) ∙ ap (λ l. p ∷ l) c.whole; left = c.left; proper = c.proper; stages = c.stages }

both_extended : (given : List Token) (ps qs : List Piece) (s t : Stage) (remain u : List Token) → Stand given ps s remain → Stand given qs t u → length ps ≤ length qs → Extends ps qs s t remain u
both_extended given ps qs s t remain u a b l = extended ps qs stage.Start s t remain u (sym a.spelled ∙ b.spelled) a.proper b.proper a.stages b.stages l

-- where nothing may stand next, the other reading ends too
record NoMore (s t : Stage) (more : List Piece) (remain u : List Token) : Type 0 where
  none : more ≡ []
  rest : remain ≡ u
  same : s ≡ t

no_more_stands : (s t : Stage) (more : List Piece) (remain u : List Token) → ((p : Piece) (t : Stage) (v : List Token) → IsPiece p → next s p ≡ Some t → remain ≡ piece_toks p ++ v → ⊥) → remain ≡ all_toks more ++ u → All IsPiece more → along s more ≡ Some t → NoMore s t more remain u
no_more_stands s t [] remain u stuck e p x = record { none = refl; rest = e; same = cc }
no_more_stands s t (m ∷ ms) remain u stuck e p x = by (next s m) refl x
  where
    by : (o : Option Stage) → next s m ≡ o → option_and_then (λ t. along t ms) o ≡ Some t → NoMore s t (m ∷ ms) remain u
    by None n x = absurd (cc)
    by (Some b) n x = absurd (stuck m b (all_toks ms ++ u) (All-head IsPiece m ms p) n (e ∙ append_assoc (piece_toks m) (all_toks ms) u))

over_is_stuck : (remain : List Token) (p : Piece) (t : Stage) (v : List Token) → IsPiece p → next stage.Over p ≡ Some t → remain ≡ piece_toks p ++ v → ⊥
over_is_stuck remain p t v q n e = absurd (cc)

either_longer : (m n : ℕ) → (m ≤ n) ⊎ (n ≤ m)
either_longer zero n = inl (omega arith)
either_longer (suc m) zero = inr (omega arith)
either_longer (suc m) (suc n) = by (either_longer m n)
  where
    by : (m ≤ n) ⊎ (n ≤ m) → (suc m ≤ suc n) ⊎ (suc n ≤ suc m)
    by (inl l) = inl (omega arith)
    by (inr l) = inr (omega arith)

text_is_all : (given : List Token) (ps qs : List Piece) (t : Stage) (u : List Token) → IsWholeText given ps → Stand given qs t u → length ps ≤ length qs → (qs ≡ ps) × (t ≡ stage.Over) × (u ≡ [])
text_is_all given ps qs t u a b l =
    let c = both_extended given ps qs stage.Over t [] u a b l in
    let e = no_more_stands stage.Over t c.more [] u (over_is_stuck []) c.left c.proper c.stages in
    (c.whole ∙ ap (λ m. ps ++ m) e.none ∙ append-nil ps, sym e.same, sym e.rest)

pub same_texts : (given : List Token) (ps qs : List Piece) → IsWholeText given ps → IsWholeText given qs → ps ≡ qs
same_texts given ps qs a b = by (either_longer (length ps) (length qs))
  where
    by : (length ps ≤ length qs) ⊎ (length qs ≤ length ps) → ps ≡ qs
    by (inl l) = sym (text_is_all given ps qs stage.Over [] a b l).0
    by (inr l) = (text_is_all given qs ps stage.Over [] b a l).0

fault_is_all : (given : List Token) (j : ℕ) (qs : List Piece) (t : Stage) (u : List Token) (a : IsBadItem given j) → Stand given qs t u → length a.before ≤ length qs → (qs ≡ a.before) × (a.reached ≡ t) × (a.rest ≡ u)
fault_is_all given j qs t u a b l =
    let c = both_extended given a.before qs a.reached t a.rest u a.stand b l in
    let e = no_more_stands a.reached t c.more a.rest u a.stuck c.left c.proper c.stages in
    (c.whole ∙ ap (λ m. a.before ++ m) e.none ∙ append-nil a.before, e.same, e.rest)

pub same_faults : (given : List Token) (j k : ℕ) → IsBadItem given j → IsBadItem given k → j ≡ k
same_faults given j k a b = by (either_longer (length a.before) (length b.before))
  where
    by : (length a.before ≤ length b.before) ⊎ (length b.before ≤ length a.before) → j ≡ k
    by (inl l) = a.number ∙ ap length (sym (fault_is_all given j b.before b.reached b.rest a b.stand l).0) ∙ sym b.number
    by (inr l) = a.number ∙ ap length (fault_is_all given k a.before a.reached a.rest b a.stand l).0 ∙ sym b.number

pub no_both : (given : List Token) (ps : List Piece) (k : ℕ) → IsWholeText given ps → IsBadItem given k → ⊥
no_both given ps k a b = by (either_longer (length ps) (length b.before))
  where
    by : (length ps ≤ length b.before) ⊎ (length b.before ≤ length ps) → ⊥
    by (inl l) = let e = text_is_all given ps b.before b.reached b.rest a b.stand l in b.unfinished e.1 e.2
    by (inr l) = let e = fault_is_all given k ps stage.Over [] b a l in b.unfinished e.1 e.2
