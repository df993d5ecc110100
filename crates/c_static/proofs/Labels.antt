-- No two blocks of a function have one label.
use Rattle.std.proofs.Common.{rules, ◌≡◌, ◌≢◌, ℕ, Bool, true, false, List, [], ◌∷◌, ◌++◌, map, Some, None, refl, sym, ap, ◌∙◌, subst}
use Rattle.std.specs.Prelude.{not, ◌&&◌, if◌then◌else◌}
use Rattle.std.specs.List.{AllByRecursion, Contains}
use Rattle.std.proofs.lemmas.List.{map-append}
use Rattle.rtl_core.specs.declared.point.Point.{Point}
use Rattle.rtl_core.specs.declared.point.Slot.{Slot}
use Rattle.rtl_core.specs.declared.point.Slot.TheVariants.{Seq, To, Dyn, CallTo, CallDyn, Ret}
use Rattle.rtl_core.specs.contracts.point.PointPartialEq.TheImpl as point_equality
use Rattle.points.specs.declared.block.Block.{Block}
use Rattle.points.specs.declared.block.Block.TheVariants.{Inst}
use Rattle.points.specs.declared.graph.Node.{Node}
use Rattle.points.specs.Courses.{point, pending, halts, jump_mode, annul_mode}
use Rattle.points.specs.Graphs.{points_of}
use Rattle.points.specs.Kinds.{block_at}
use Rattle.c_lang.specs.declared.tree.CBlock.{CBlock}
use Rattle.c_lang.specs.Step.{same_point}
use Rattle.c_lang.specs.StaticRules.{no_two}
use Rattle.c_control.specs.Blocks.{block_c, further_at as further_by, further_of_block, labelled, arrival_code, leaves_apart, annul_for}
use Rattle.c_control.specs.Plans.{Plan, further_label}
use Rattle.c_program.specs.Functions.{block_if_any, blocks_of, is_entry}
use Rattle.c_program.proofs.BlockLookups.{same-true}
use Rattle.params.proofs.Members.{first-in, later-in}
use Rattle.c_static.proofs.Split.{row, entry_at, other_at, further_at, split}
use Rattle.c_static.proofs.Lists.{Apart, apart-no_two, apart-joined, each-joined}

abbrev pub labels : List CBlock → List Point
labels bs = map (λ b. b.label) bs

labels-joined : (xs ys : List CBlock) → labels (xs ++ ys) ≡ labels xs ++ labels ys
labels-joined xs ys = map-append (λ (b : CBlock). b.label) xs ys

-- the blocks of one point in a part: none, or one whose label belongs to the point
data Few (K : Point → Point → Type 0) (a : Point) : List CBlock → Type 0 where
  none : Few K a []
  one : (b : CBlock) → K a b.label → Few K a (b ∷ [])

module _ (at : Point → List CBlock) (K : Point → Point → Type 0) (apart : (a b l : Point) → K a l → K b l → a ≡ b) (few : (a : Point) → Few K a (at a)) where
  -- all labels of the part have what those of each point have
  each-label : (Q : Point → Type 0) (ns : List Node) → ((n : Node) → Contains ns n → (l : Point) → K n.point l → Q l) → AllByRecursion Q (labels (row at ns))
  each-label Q [] h = tt
  each-label Q (n ∷ ns) h =
      subst (AllByRecursion Q) (sym (labels-joined (at n.point) (row at ns)))
      (each-joined Q (labels (at n.point)) (labels (row at ns)) (by (at n.point) (few n.point)) (each-label Q ns (λ m c. h m (later-in n m ns c))))
    where
      by : (bs : List CBlock) → Few K n.point bs → AllByRecursion Q (labels bs)
      by bs none = tt
      by bs (one b k) = (h n (first-in n ns) b.label k, tt)

  -- a label of another point is not among them
  unlike : (a l : Point) → K a l → (ns : List Node) → AllByRecursion (λ x. a ≢ x) (points_of ns) → AllByRecursion (λ y. l ≢ y) (labels (row at ns))
  unlike a l k [] h = tt
  unlike a l k (n ∷ ns) h =
      subst (AllByRecursion (λ y. l ≢ y)) (sym (labels-joined (at n.point) (row at ns)))
      (each-joined (λ y. l ≢ y) (labels (at n.point)) (labels (row at ns)) (by (at n.point) (few n.point)) (unlike a l k ns h.1))
    where
      by : (bs : List CBlock) → Few K n.point bs → AllByRecursion (λ y. l ≢ y) (labels bs)
      by bs none = tt
      by bs (one b k') = (λ e. h.0 (apart a n.point b.label (subst (K a) e k) k'), tt)

  row-apart : (ns : List Node) → Apart (points_of ns) → Apart (labels (row at ns))
  row-apart [] h = tt
  row-apart (n ∷ ns) h = subst Apart (sym (labels-joined (at n.point) (row at ns))) (by (row-apart ns h.1) (at n.point) (few n.point))
    where
      by : Apart (labels (row at ns)) → (bs : List CBlock) → Few K n.point bs → Apart (labels bs ++ labels (row at ns))
      by rest bs none = rest
      by rest bs (one b k) = (unlike n.point b.label k ns h.0, rest)

module _ (plan : Plan) (p : ℕ) where
  point-is : (a b : Point) → point_equality.eq-value.it a b ≡ true → a ≡ b
  point-is a b e = search (rules, e)

  entry-itself : point_equality.eq-value.it (point p Seq) (point p Seq) ≡ true
  entry-itself = search rules

  -- ---- which labels a point has in each part

  abbrev EntryOf : Point → Point → Type 0
  EntryOf a l = (a ≡ l) × (l ≡ point p Seq)

  abbrev OtherOf : Point → Point → Type 0
  OtherOf a l = (a ≡ l) × (l ≢ point p Seq)

  abbrev FurtherOf : Point → Point → Type 0
  FurtherOf a l = (a ≡ point a.pc Seq) × (l ≡ further_label a.pc)

  few-entry : (a : Point) → Few EntryOf a (entry_at plan p a)
  few-entry a = by (is_entry p a) refl
    where
      by : (b : Bool) → is_entry p a ≡ b → Few EntryOf a (if b then block_c plan p a ∷ [] else [])
      by true e = one (block_c plan p a) (refl, point-is a (point p Seq) e)
      by false e = none

  few-others : (a : Point) → Few OtherOf a (other_at plan p a)
  few-others a = by (is_entry p a) refl
    where
      by : (b : Bool) → is_entry p a ≡ b → Few OtherOf a (if b then [] else block_c plan p a ∷ [])
      by true e = none
      by false e = one (block_c plan p a) (refl, λ at. let no : true ≡ false = sym (ap (is_entry p) at ∙ entry-itself) ∙ e in let none : ⊥ = cc in none)

  few-further : (a : Point) → Few FurtherOf a (further_at plan p a)
  few-further a = by-slot a.slot refl
    where
      chosen : a ≡ point a.pc Seq → (b : Bool) (c : CBlock) → c.label ≡ further_label a.pc → Few FurtherOf a (block_if_any (if b then Some c else None))
      chosen fresh true c l = one c (fresh, l)
      chosen fresh false c l = none

      made : a ≡ point a.pc Seq → (k : Block) → Few FurtherOf a (block_if_any (further_of_block plan p a.pc k))
      made fresh Block.Outside = none
      made fresh Block.Illegal = none
      made fresh (Inst inst kind) =
          chosen fresh (not (halts inst.transfers) && leaves_apart plan (jump_mode inst.transfers) (annul_for plan.flow.setting.machine.delay (annul_mode inst.transfers)) (pending a.pc kind))
          (labelled (further_label a.pc) (arrival_code plan p (pending a.pc kind))) refl

      by-slot : (s : Slot) → a.slot ≡ s → Few FurtherOf a (block_if_any (further_by plan p a.pc s))
      by-slot Seq e = made (ap (point a.pc) e) (block_at plan.flow.setting a.pc)
      by-slot (To t) e = none
      by-slot (Dyn t) e = none
      by-slot (CallTo t r) e = none
      by-slot (CallDyn r) e = none
      by-slot Ret e = none

  entry-apart : (a b l : Point) → EntryOf a l → EntryOf b l → a ≡ b
  entry-apart a b l h k = h.0 ∙ sym k.0

  other-apart : (a b l : Point) → OtherOf a l → OtherOf b l → a ≡ b
  other-apart a b l h k = h.0 ∙ sym k.0

  further-apart : (a b l : Point) → FurtherOf a l → FurtherOf b l → a ≡ b
  further-apart a b l h k =
      let pc : a.pc ≡ b.pc = ap (λ (x : Point). x.pc) (sym h.1 ∙ k.1) in
      h.0 ∙ ap (λ n. point n Seq) pc ∙ sym k.0

  -- ---- all of them

  -- a label of no jump that waits for itself
  abbrev Plain : Point → Type 0
  Plain l = l.slot ≢ Dyn l.pc

  pub labels-apart : (ns : List Node) → Apart (points_of ns) → ((n : Node) → Contains ns n → n.point.slot ≢ Dyn n.point.pc) → Apart (labels (blocks_of plan p ns))
  labels-apart ns h plain =
      let E = row (entry_at plan p) ns in
      let O = row (other_at plan p) ns in
      let F = row (further_at plan p) ns in
      let front : Apart (labels E ++ labels O) =
      apart-joined (λ l. l ≡ point p Seq) (λ l. l ≢ point p Seq) (λ x y e ne same. ne (sym same ∙ e)) (labels E) (labels O) (row-apart (entry_at plan p) EntryOf entry-apart few-entry ns h)
      (each-label (entry_at plan p) EntryOf entry-apart few-entry (λ l. l ≡ point p Seq) ns (λ n c l k. k.1)) (row-apart (other_at plan p) OtherOf other-apart few-others ns h)
      (each-label (other_at plan p) OtherOf other-apart few-others (λ l. l ≢ point p Seq) ns (λ n c l k. k.1)) in
      let plain-front : AllByRecursion Plain (labels E ++ labels O) =
      each-joined Plain (labels E) (labels O) (each-label (entry_at plan p) EntryOf entry-apart few-entry Plain ns (λ n c l k. subst Plain k.0 (plain n c))) (each-label (other_at plan p) OtherOf other-apart few-others Plain ns (λ n c l k. subst Plain k.0 (plain n c))) in
      let waits : AllByRecursion (λ l. l.slot ≡ Dyn l.pc) (labels F) =
      each-label (further_at plan p) FurtherOf further-apart few-further (λ l. l.slot ≡ Dyn l.pc) ns (λ n c l k. let slot : l.slot ≡ Dyn n.point.pc = ap (λ (x : Point). x.slot) k.1 in let pc : l.pc ≡ n.point.pc = ap (λ (x : Point). x.pc) k.1 in slot ∙ ap Dyn (sym pc)) in
      let joined : Apart ((labels E ++ labels O) ++ labels F) =
      apart-joined Plain (λ l. l.slot ≡ Dyn l.pc) (λ x y q r same. q (subst (λ (l : Point). l.slot ≡ Dyn l.pc) (sym same) r)) (labels E ++ labels O) (labels F) front plain-front (row-apart (further_at plan p) FurtherOf further-apart few-further ns h) waits in
      subst Apart (sym (ap labels (split plan p ns) ∙ labels-joined (E ++ O) F ∙ ap (λ l. l ++ labels F) (labels-joined E O))) joined

  pub labels-once : (ns : List Node) → Apart (points_of ns) → ((n : Node) → Contains ns n → n.point.slot ≢ Dyn n.point.pc) → no_two same_point (labels (blocks_of plan p ns)) ≡ true
  labels-once ns h plain = apart-no_two same_point same-true (labels (blocks_of plan p ns)) (labels-apart ns h plain)
