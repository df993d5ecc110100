-- The items of a whole text, one after another and by their kinds.
use Rattle.std.proofs.Common.{◌≡◌, ℕ, ◌+◌, true, false, List, [], ◌∷◌, ◌++◌, map, Some, None, refl, sym, ap, ◌∙◌, append_assoc, ◌⊎◌, inl, inr}
use Rattle.std.specs.Prelude.{flat_map, ◌==◌}
use Rattle.std.specs.List.{All}
use Rattle.std.proofs.lemmas.Bool.{cases_Bool, eqb-true, eq-eqb}
use Rattle.std.proofs.lemmas.Grind.{flat_map-append}
use Rattle.std.proofs.lemmas.List.{append-nil}
use Rattle.std.proofs.lemmas.List.Elements.{All-append, All-cons, All-head, All-nil, All-tail}
use Rattle.c_lang.specs.Spellable.{ItemHasForm}
use Rattle.c_lang.specs.declared.tree.Function.{Function}
use Rattle.c_lang.specs.Items.{Array, Prototype, Text, Item, Include, Machine, Segment, Table, Declared, Defined, Main, items, numbered}
use Rattle.c_text.specs.Tokens.{Token}
use Rattle.c_text.specs.Items.{item_toks}
use Rattle.c_read.specs.declared.draft.Draft.{Draft}
use Rattle.c_read.specs.declared.pieces.Piece.{Piece}
use Rattle.c_read.specs.declared.pieces.Piece.TheVariants as piece
use Rattle.c_read.specs.declared.pieces.Stage.{Stage}
use Rattle.c_read.specs.declared.pieces.Stage.TheVariants as stage
use Rattle.c_read.specs.Pieces.{IsPiece, along, piece_toks}
use Rattle.c_read.specs.Drafts.{draft_of, nothing, pieces, placed, with_all, with_piece}

-- ---- which lists of items lead to the end

no_stage : {P : Type 0} (s : Stage) → None ≡ Some s → P
no_stage s e = absurd (cc)

other_stage : {P : Type 0} (s t : Stage) → (s ≡ t → ⊥) → Some s ≡ Some t → P
other_stage s t n e = let same : s ≡ t = cc in absurd (n same)

record Functions (ps : List Piece) : Type 0 where
  functions : List Function
  entry : ℕ
  first : List ℕ
  same : ps ≡ map piece.Defined functions ++ piece.Main entry first ∷ []

-- nothing stands behind the last
over_last : (ps : List Piece) → along stage.Over ps ≡ Some stage.Over → ps ≡ []
over_last [] e = refl
over_last (p ∷ ps) e = no_stage stage.Over e

defining : (ps : List Piece) → along stage.Defining ps ≡ Some stage.Over → Functions ps
defining [] e = other_stage stage.Defining stage.Over (λ e. absurd (cc)) e
defining (piece.Defined f ∷ ps) e = let r = defining ps e in record { functions = f ∷ r.functions; entry = r.entry; first = r.first; same = ap (λ qs. piece.Defined f ∷ qs) r.same }
defining (piece.Main entry first ∷ ps) e = record { functions = []; entry = entry; first = first; same = ap (λ qs. piece.Main entry first ∷ qs) (over_last ps e) }
defining (piece.Machine a ∷ ps) e = no_stage stage.Over e
defining (piece.Segment k a ∷ ps) e = no_stage stage.Over e
defining (piece.Table a ∷ ps) e = no_stage stage.Over e
defining (piece.Declared p ∷ ps) e = no_stage stage.Over e

record Code (ps : List Piece) : Type 0 where
  prototypes : List Prototype
  functions : List Function
  entry : ℕ
  first : List ℕ
  same : ps ≡ map piece.Declared prototypes ++ (map piece.Defined functions ++ piece.Main entry first ∷ [])

declaring : (ps : List Piece) → along stage.Declaring ps ≡ Some stage.Over → Code ps
declaring [] e = other_stage stage.Declaring stage.Over (λ e. absurd (cc)) e
declaring (piece.Declared p ∷ ps) e = let r = declaring ps e in record { prototypes = p ∷ r.prototypes; functions = r.functions; entry = r.entry; first = r.first; same = ap (λ qs. piece.Declared p ∷ qs) r.same }
declaring (piece.Defined f ∷ ps) e = let r = defining ps e in record { prototypes = []; functions = f ∷ r.functions; entry = r.entry; first = r.first; same = ap (λ qs. piece.Defined f ∷ qs) r.same }
declaring (piece.Main entry first ∷ ps) e = record { prototypes = []; functions = []; entry = entry; first = first; same = ap (λ qs. piece.Main entry first ∷ qs) (over_last ps e) }
declaring (piece.Machine a ∷ ps) e = no_stage stage.Over e
declaring (piece.Segment k a ∷ ps) e = no_stage stage.Over e
declaring (piece.Table a ∷ ps) e = no_stage stage.Over e

record Data (k : ℕ) (ps : List Piece) : Type 0 where
  segments : List Array
  table : Array
  rest : List Piece
  code : Code rest
  same : ps ≡ placed k segments ++ piece.Table table ∷ rest

data_from : (k : ℕ) (ps : List Piece) → along (stage.Segments k) ps ≡ Some stage.Over → Data k ps
data_from k [] e = other_stage (stage.Segments k) stage.Over (λ e. absurd (cc)) e
data_from k (piece.Segment j a ∷ ps) e = by (cases_Bool (j == k)) (data_from (k + 1) ps)
  where
    by : ((j == k) ≡ true) ⊎ ((j == k) ≡ false) → (along (stage.Segments (k + 1)) ps ≡ Some stage.Over → Data (k + 1) ps) → Data k (piece.Segment j a ∷ ps)
    by (inl b) rec =
        let r = rec (rw b at e) in
        record { segments = a ∷ r.segments; table = r.table; rest = r.rest; code = r.code; same = (λ i. piece.Segment (eqb-true j k b i) a ∷ r.same i) }
    by (inr b) rec = no_stage stage.Over (rw b at e)
data_from k (piece.Table a ∷ ps) e = record { segments = []; table = a; rest = ps; code = declaring ps e; same = refl }
data_from k (piece.Machine a ∷ ps) e = no_stage stage.Over e
data_from k (piece.Declared p ∷ ps) e = no_stage stage.Over e
data_from k (piece.Defined f ∷ ps) e = no_stage stage.Over e
data_from k (piece.Main entry first ∷ ps) e = no_stage stage.Over e

-- the items are those of a text
pub record IsWhole (ps : List Piece) : Type 0 where
  pub t : Text
  pub same : ps ≡ pieces t

pub whole_from : (ps : List Piece) → along stage.Start ps ≡ Some stage.Over → IsWhole ps
whole_from [] e = other_stage stage.Start stage.Over (λ e. absurd (cc)) e
whole_from (piece.Machine a ∷ ps) e =
    let d = data_from 0 ps e in
    let c = d.code in
    record {
      t = record { machine = a; segments = d.segments; table = d.table; prototypes = c.prototypes; functions = c.functions; entry = c.entry; first = c.first };
      same = ap (λ qs. piece.Machine a ∷ qs) (d.same ∙ ap (λ qs. placed 0 d.segments ++ piece.Table d.table ∷ qs) c.same);
    }
whole_from (piece.Segment k a ∷ ps) e = no_stage stage.Over e
whole_from (piece.Table a ∷ ps) e = no_stage stage.Over e
whole_from (piece.Declared p ∷ ps) e = no_stage stage.Over e
whole_from (piece.Defined f ∷ ps) e = no_stage stage.Over e
whole_from (piece.Main entry first ∷ ps) e = no_stage stage.Over e

-- and those of a text lead there
functions_lead : (fs : List Function) (entry : ℕ) (first : List ℕ) → along stage.Defining (map piece.Defined fs ++ piece.Main entry first ∷ []) ≡ Some stage.Over
functions_lead [] entry first = refl
functions_lead (f ∷ fs) entry first = functions_lead fs entry first

code_leads : (ps : List Prototype) (fs : List Function) (entry : ℕ) (first : List ℕ) → along stage.Declaring (map piece.Declared ps ++ (map piece.Defined fs ++ piece.Main entry first ∷ [])) ≡ Some stage.Over
code_leads [] [] entry first = refl
code_leads [] (f ∷ fs) entry first = functions_lead fs entry first
code_leads (p ∷ ps) fs entry first = code_leads ps fs entry first

data_leads : (k : ℕ) (ss : List Array) (table : Array) (rest : List Piece) → along stage.Declaring rest ≡ Some stage.Over → along (stage.Segments k) (placed k ss ++ piece.Table table ∷ rest) ≡ Some stage.Over
data_leads k [] table rest e = e
data_leads k (s ∷ ss) table rest e = rw (eq-eqb k k refl) (data_leads (k + 1) ss table rest e)

pub whole_leads : (t : Text) → along stage.Start (pieces t) ≡ Some stage.Over
whole_leads t = data_leads 0 t.segments t.table (map piece.Declared t.prototypes ++ (map piece.Defined t.functions ++ piece.Main t.entry t.first ∷ [])) (code_leads t.prototypes t.functions t.entry t.first)

-- ---- by their kinds

all_both : (d : Draft) (ps qs : List Piece) → with_all d (ps ++ qs) ≡ with_all (with_all d ps) qs
all_both d [] qs = refl
all_both d (p ∷ ps) qs = all_both (with_piece d p) ps qs

all_segments : (d : Draft) (k : ℕ) (ss : List Array) → with_all d (placed k ss) ≡ record d { segments = d.segments ++ ss }
all_segments d k [] = ap (λ xs. record d { segments = xs }) (sym (append-nil d.segments))
all_segments d k (s ∷ ss) = all_segments (record d { segments = d.segments ++ s ∷ [] }) (k + 1) ss ∙ ap (λ xs. record d { segments = xs }) (append_assoc d.segments (s ∷ []) ss)

all_prototypes : (d : Draft) (ps : List Prototype) → with_all d (map piece.Declared ps) ≡ record d { prototypes = d.prototypes ++ ps }
all_prototypes d [] = ap (λ xs. record d { prototypes = xs }) (sym (append-nil d.prototypes))
all_prototypes d (p ∷ ps) = all_prototypes (record d { prototypes = d.prototypes ++ p ∷ [] }) ps ∙ ap (λ xs. record d { prototypes = xs }) (append_assoc d.prototypes (p ∷ []) ps)

all_functions : (d : Draft) (fs : List Function) → with_all d (map piece.Defined fs) ≡ record d { functions = d.functions ++ fs }
all_functions d [] = ap (λ xs. record d { functions = xs }) (sym (append-nil d.functions))
all_functions d (f ∷ fs) = all_functions (record d { functions = d.functions ++ f ∷ [] }) fs ∙ ap (λ xs. record d { functions = xs }) (append_assoc d.functions (f ∷ []) fs)

pub whole_draft : (t : Text) → with_all nothing (pieces t) ≡ draft_of t
whole_draft t =
    let d0 : Draft = with_piece nothing (piece.Machine t.machine) in
    let d1 : Draft = record d0 { segments = t.segments } in
    let d2 : Draft = with_piece d1 (piece.Table t.table) in
    let d3 : Draft = record d2 { prototypes = t.prototypes } in
    let last : List Piece = map piece.Defined t.functions ++ piece.Main t.entry t.first ∷ [] in
    all_both d0 (placed 0 t.segments) (piece.Table t.table ∷ (map piece.Declared t.prototypes ++ last))
    ∙ ap (λ d. with_all d (piece.Table t.table ∷ (map piece.Declared t.prototypes ++ last))) (all_segments d0 0 t.segments)
    ∙ all_both d2 (map piece.Declared t.prototypes) last ∙ ap (λ d. with_all d last) (all_prototypes d2 t.prototypes)
    ∙ all_both d3 (map piece.Defined t.functions) (piece.Main t.entry t.first ∷ []) ∙ ap (λ d. with_all d (piece.Main t.entry t.first ∷ [])) (all_functions d3 t.functions)

pub one_more : (d : Draft) (ps : List Piece) (p : Piece) → with_piece (with_all d ps) p ≡ with_all d (ps ++ p ∷ [])
one_more d ps p = sym (all_both d ps (p ∷ []))

-- ---- the tokens of the items, and their forms

-- a piece and an item with the same tokens
same_toks : {A : Type 0} (item : ℕ → A → Item) (one : A → Piece) → ((k : ℕ) (x : A) → item_toks (item k x) ≡ piece_toks (one x)) → (k : ℕ) (xs : List A) → flat_map item_toks (numbered item k xs) ≡ flat_map piece_toks (map one xs)
same_toks item one h k [] = refl
same_toks item one h k (x ∷ xs) = (λ i. h k x i ++ same_toks item one h (k + 1) xs i)

segment_toks : (k : ℕ) (ss : List Array) → flat_map item_toks (numbered Segment k ss) ≡ flat_map piece_toks (placed k ss)
segment_toks k [] = refl
segment_toks k (s ∷ ss) = ap (λ ts. item_toks (Segment k s) ++ ts) (segment_toks (k + 1) ss)

pub whole_toks : (t : Text) → flat_map item_toks (items t) ≡ flat_map piece_toks (pieces t)
whole_toks t =
    let machine : List Token = item_toks (Machine t.machine) in
    let table : List Token = item_toks (Table t.table) in
    let main : List Token = item_toks (Main t.entry t.first) ++ [] in
    ap (λ ts. machine ++ ts)
    (flat_map-append item_toks (numbered Segment 0 t.segments) (Table t.table ∷ (numbered Declared 0 t.prototypes ++ (numbered Defined 0 t.functions ++ Main t.entry t.first ∷ [])))
    ∙ (λ i. segment_toks 0 t.segments i
    ++ (table
    ++ (flat_map-append item_toks (numbered Declared 0 t.prototypes) (numbered Defined 0 t.functions ++ Main t.entry t.first ∷ [])
    ∙ (λ i. same_toks Declared piece.Declared (λ k x. refl) 0 t.prototypes i
    ++ (flat_map-append item_toks (numbered Defined 0 t.functions) (Main t.entry t.first ∷ []) ∙ ap (λ ts. ts ++ main) (same_toks Defined piece.Defined (λ k x. refl) 0 t.functions)) i)) i))
    ∙ sym
    (flat_map-append piece_toks (placed 0 t.segments) (piece.Table t.table ∷ (map piece.Declared t.prototypes ++ (map piece.Defined t.functions ++ piece.Main t.entry t.first ∷ [])))
    ∙ ap (λ ts. flat_map piece_toks (placed 0 t.segments) ++ (table ++ ts))
    (flat_map-append piece_toks (map piece.Declared t.prototypes) (map piece.Defined t.functions ++ piece.Main t.entry t.first ∷ [])
    ∙ ap (λ ts. flat_map piece_toks (map piece.Declared t.prototypes) ++ ts) (flat_map-append piece_toks (map piece.Defined t.functions) (piece.Main t.entry t.first ∷ [])))))

segment_forms : (k : ℕ) (ss : List Array) → All ItemHasForm (numbered Segment k ss) → All IsPiece (placed k ss)
segment_forms k [] h = All-nil IsPiece
segment_forms k (s ∷ ss) h =
    let rest = numbered Segment (k + 1) ss in
    All-cons IsPiece (piece.Segment k s) (placed (k + 1) ss) (All-head ItemHasForm (Segment k s) rest h) (segment_forms (k + 1) ss (All-tail ItemHasForm (Segment k s) rest h))

other_forms : {A : Type 0} (item : ℕ → A → Item) (one : A → Piece) → ((k : ℕ) (x : A) → ItemHasForm (item k x) → IsPiece (one x)) → (k : ℕ) (xs : List A) → All ItemHasForm (numbered item k xs) → All IsPiece (map one xs)
other_forms item one f k [] h = All-nil IsPiece
other_forms item one f k (x ∷ xs) h =
    let rest = numbered item (k + 1) xs in
    All-cons IsPiece (one x) (map one xs) (f k x (All-head ItemHasForm (item k x) rest h)) (other_forms item one f (k + 1) xs (All-tail ItemHasForm (item k x) rest h))

-- a part of a list
pub left_all : {A : Type 0} (P : A → Type 0) (xs ys : List A) → All P (xs ++ ys) → All P xs
left_all P [] ys h = All-nil P
left_all P (x ∷ xs) ys h = All-cons P x xs (All-head P x (xs ++ ys) h) (left_all P xs ys (All-tail P x (xs ++ ys) h))

pub right_all : {A : Type 0} (P : A → Type 0) (xs ys : List A) → All P (xs ++ ys) → All P ys
right_all P [] ys h = h
right_all P (x ∷ xs) ys h = right_all P xs ys (All-tail P x (xs ++ ys) h)

pub whole_forms : (t : Text) → All ItemHasForm (items t) → All IsPiece (pieces t)
whole_forms t h =
    let ds = numbered Declared 0 t.prototypes in
    let fs = numbered Defined 0 t.functions in
    let main = Main t.entry t.first ∷ [] in
    let ss = numbered Segment 0 t.segments in
    let h1 = All-tail ItemHasForm Include (Machine t.machine ∷ (ss ++ (Table t.table ∷ (ds ++ (fs ++ main))))) h in
    let h2 = All-tail ItemHasForm (Machine t.machine) (ss ++ (Table t.table ∷ (ds ++ (fs ++ main)))) h1 in
    let h3 = right_all ItemHasForm ss (Table t.table ∷ (ds ++ (fs ++ main))) h2 in
    let h4 = All-tail ItemHasForm (Table t.table) (ds ++ (fs ++ main)) h3 in
    let h5 = right_all ItemHasForm ds (fs ++ main) h4 in
    let last : List Piece = piece.Main t.entry t.first ∷ [] in
    let functions : List Piece = map piece.Defined t.functions ++ last in
    let code : List Piece = map piece.Declared t.prototypes ++ functions in
    All-cons IsPiece (piece.Machine t.machine) (placed 0 t.segments ++ (piece.Table t.table ∷ code)) (All-head ItemHasForm (Machine t.machine) (ss ++ (Table t.table ∷ (ds ++ (fs ++ main)))) h1)
    (All-append IsPiece (placed 0 t.segments) (piece.Table t.table ∷ code) (segment_forms 0 t.segments (left_all ItemHasForm ss (Table t.table ∷ (ds ++ (fs ++ main))) h2))
    (All-cons IsPiece (piece.Table t.table) code (All-head ItemHasForm (Table t.table) (ds ++ (fs ++ main)) h3)
    (All-append IsPiece (map piece.Declared t.prototypes) functions (other_forms Declared piece.Declared (λ k x h. h) 0 t.prototypes (left_all ItemHasForm ds (fs ++ main) h4))
    (All-append IsPiece (map piece.Defined t.functions) last (other_forms Defined piece.Defined (λ k x h. h) 0 t.functions (left_all ItemHasForm fs main h5))
    (All-cons IsPiece (piece.Main t.entry t.first) [] (All-head ItemHasForm (Main t.entry t.first) [] (right_all ItemHasForm fs main h5)) (All-nil IsPiece))))))
