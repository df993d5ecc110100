-- The function of a procedure is in its program, with all its blocks.
use Rattle.std.proofs.Common.{rules, ◌≡◌, ◌≢◌, ℕ, suc, ◌+◌, ◌≤◌, Bool, true, false, ◌==◌, ◌&&◌, if◌then◌else◌, List, [], ◌∷◌, ◌++◌, map, max, inl, inr, Option, Some, None, refl, sym, ap, ◌∙◌, subst, arith}
use Rattle.std.specs.Prelude.{◌⊎◌, not, slice_get}
use Rattle.std.specs.List.{Contains}
use Rattle.std.proofs.lemmas.Bool.{eq-eqb}
use Rattle.rtl_core.specs.declared.point.Point.{Point}
use Rattle.rtl_core.specs.declared.point.Slot.{Slot}
use Rattle.rtl_core.specs.declared.point.Slot.TheVariants.{Seq, To, Dyn, CallTo, CallDyn, Ret}
use Rattle.rtl_core.specs.contracts.point.PointPartialEq.TheImpl as point_equality
use Rattle.points.specs.declared.block.Block.{Block}
use Rattle.points.specs.declared.block.Block.TheVariants.{Inst}
use Rattle.points.specs.declared.graph.Node.{Node}
use Rattle.points.specs.declared.graph.Proc.{Proc}
use Rattle.points.specs.Courses.{annul_mode, halts, jump_mode, pending, point}
use Rattle.points.specs.Kinds.{block_at}
use Rattle.c_lang.specs.declared.tree.CBlock.{CBlock}
use Rattle.c_lang.specs.declared.tree.Function.{Function}
use Rattle.c_lang.specs.State.{At}
use Rattle.c_lang.specs.Step.{block_of, first_place, function_from}
use Rattle.c_control.specs.Blocks.{annul_for, arrival_code, block_c, code_at, further_at, further_c, further_of_block, labelled, leaves_apart}
use Rattle.c_control.specs.Plans.{Plan, further_label}
use Rattle.params.proofs.Members.{first-in, later-in, none-in, split-in}
use Rattle.c_program.specs.Functions.{block_if_any, block_need, blocks_of, function_of, functions_of, is_entry, most_need, part_of, point_part}
use Rattle.c_program.specs.declared.functions.Part.{Part}
use Rattle.c_program.specs.declared.functions.Part.TheVariants.{Entry, Others, Further}
use Rattle.c_program.proofs.BlockLookups.{Each, nothing, more, HasLabel, here, each-append, found-front, found-in, label-back, label-front, passed}

point-is : (a b : Point) → point_equality.eq-value.it a b ≡ true → a ≡ b
point-is a b e = search (rules, e)

-- ---- the function

-- the function of a procedure among those of all
pub record IsAmong (plan : Plan) (nodes : List Node) (i : ℕ) (procs : List Proc) (p : ℕ) : Type 0 where
  pub proc : Proc
  pub in_procs : Contains procs proc
  pub place : ℕ
  pub is : function_from i (functions_of plan nodes procs) p ≡ Some (record { index = i + place; function = function_of plan nodes p proc.body })
  pub there : slice_get (functions_of plan nodes procs) place ≡ Some (function_of plan nodes p proc.body)
  pub entry : proc.entry ≡ p

pub function-among : (plan : Plan) (nodes : List Node) (i : ℕ) (procs : List Proc) (p : ℕ) → Contains (map (λ q. q.entry) procs) p → IsAmong plan nodes i procs p
function-among plan nodes i [] p h = none-in p h
function-among plan nodes i (q ∷ qs) p h = by (q.entry == p) refl (split-in q.entry p (map (λ q. q.entry) qs) h) (function-among plan nodes (i + 1) qs p)
  where
    f : Function
    f = function_of plan nodes q.entry q.body

    by : (b : Bool) → (q.entry == p) ≡ b → (q.entry ≡ p) ⊎ Contains (map (λ q. q.entry) qs) p → (Contains (map (λ q. q.entry) qs) p → IsAmong plan nodes (i + 1) qs p) → IsAmong plan nodes i (q ∷ qs) p
    by true e c rest =
        let same : q.entry ≡ p = Rattle.std.proofs.lemmas.Bool.eqb-true q.entry p e in
        let whole : function_of plan nodes q.entry q.body ≡ function_of plan nodes p q.body = ap (λ k. function_of plan nodes k q.body) same in
        let zero-more : i ≡ i + 0 = omega arith in
        record {
          proc = q;
          in_procs = first-in q qs;
          place = 0;
          is = ap (λ b. if b then Some (record { index = i; function = function_of plan nodes q.entry q.body }) else function_from (i + 1) (functions_of plan nodes qs) p) e
              ∙ ap (λ k. let r : Rattle.c_lang.specs.Step.Found = record { index = k; function = function_of plan nodes q.entry q.body } in Some r) zero-more
              ∙ ap (λ g. let r : Rattle.c_lang.specs.Step.Found = record { index = i + 0; function = g } in Some r) whole;
          there = ap Some whole;
          entry = same;
        }
    by false e (inl same) rest = let no : true ≡ false = sym (eq-eqb q.entry p same) ∙ e in let none : ⊥ = cc in absurd none
    by false e (inr c) rest =
        let r = rest c in
        let one-more : i + 1 + r.place ≡ i + suc r.place = omega arith in
        record {
          proc = r.proc;
          in_procs = later-in q r.proc qs r.in_procs;
          place = suc r.place;
          is = ap (λ b. if b then Some (record { index = i; function = function_of plan nodes q.entry q.body }) else function_from (i + 1) (functions_of plan nodes qs) p) e ∙ r.is
              ∙ ap (λ k. let r' : Rattle.c_lang.specs.Step.Found = record { index = k; function = function_of plan nodes p r.proc.body } in Some r') one-more;
          there = r.there;
          entry = r.entry;
        }

-- ---- temporaries

pub need-among : (ns : List Node) (n : Node) → Contains ns n → block_need n.block ≤ most_need ns
need-among [] n h = none-in n h
need-among (m ∷ ns) n h = by (split-in m n ns h) (need-among ns n)
  where
    by : (m ≡ n) ⊎ Contains ns n → (Contains ns n → block_need n.block ≤ most_need ns) → block_need n.block ≤ max (block_need m.block) (most_need ns)
    by (inl e) rest = let same = ap (λ (k : Node). block_need k.block) e in omega (arith, same)
    by (inr c) rest = omega (arith, rest c)

module _ (plan : Plan) (p : ℕ) where
  -- ---- the first block

  pub first-is : (ns : List Node) (rest : List CBlock) (n : Node) → Contains ns n → n.point ≡ point p Seq → first_place (part_of plan p Entry ns ++ rest) ≡ At (code_at plan p (point p Seq)).stmts (code_at plan p (point p Seq)).end
  first-is [] rest n h e = none-in n h
  first-is (m ∷ ns) rest n h e = by (is_entry p m.point) refl (split-in m n ns h) (first-is ns rest n)
    where
      by : (b : Bool) → is_entry p m.point ≡ b → (m ≡ n) ⊎ Contains ns n → (Contains ns n → n.point ≡ point p Seq → first_place (part_of plan p Entry ns ++ rest) ≡ At (code_at plan p (point p Seq)).stmts (code_at plan p (point p Seq)).end)
          → first_place (((if b then block_c plan p m.point ∷ [] else []) ++ part_of plan p Entry ns) ++ rest) ≡ At (code_at plan p (point p Seq)).stmts (code_at plan p (point p Seq)).end
      by true f c later' = let at = point-is m.point (point p Seq) f in ap (λ b. At (code_at plan p b).stmts (code_at plan p b).end) at
      by false f (inr c) later' = later' c e
      by false f (inl same) later' =
          let at : m.point ≡ point p Seq = ap (λ (k : Node). k.point) same ∙ e in
          let yes : is_entry p m.point ≡ true = ap (is_entry p) at ∙ entry-itself in
          let none : ⊥ = let w = sym yes ∙ f in cc in absurd none
        where
          entry-itself : point_equality.eq-value.it (point p Seq) (point p Seq) ≡ true
          entry-itself = search rules

  -- ---- the blocks of points

  -- a block of a point is that under its own label
  abbrev IsPoint : (Point → Type 0) → CBlock → Type 0
  IsPoint P b = (b ≡ block_c plan p b.label) × P b.label

  each-point : (P : Point → Type 0) (part : Part) → (part ≡ Entry) ⊎ (part ≡ Others) → (ns : List Node) → ((n : Node) → Contains ns n → P n.point) → Each (IsPoint P) (part_of plan p part ns)
  each-point P part which [] h = nothing
  each-point P part which (n ∷ ns) h =
      each-append (IsPoint P) (point_part plan p part n.point) (part_of plan p part ns) (by part which) (each-point P part which ns (λ m c. h m (later-in n m ns c)))
    where
      one : Each (IsPoint P) (block_c plan p n.point ∷ [])
      one = more (refl, h n (first-in n ns)) nothing

      if-entry : (b : Bool) → Each (IsPoint P) (if b then block_c plan p n.point ∷ [] else [])
      if-entry true = one
      if-entry false = nothing

      if-other : (b : Bool) → Each (IsPoint P) (if b then [] else block_c plan p n.point ∷ [])
      if-other true = nothing
      if-other false = one

      by : (part : Part) → (part ≡ Entry) ⊎ (part ≡ Others) → Each (IsPoint P) (point_part plan p part n.point)
      by Entry w = if-entry (is_entry p n.point)
      by Others w = if-other (is_entry p n.point)
      by Further (inl e) = let no : ⊥ = cc in absurd no
      by Further (inr e) = let no : ⊥ = cc in absurd no

  each-front : (P : Point → Type 0) (ns : List Node) → ((n : Node) → Contains ns n → P n.point) → Each (IsPoint P) (part_of plan p Entry ns ++ part_of plan p Others ns)
  each-front P ns h = each-append (IsPoint P) (part_of plan p Entry ns) (part_of plan p Others ns) (each-point P Entry (inl refl) ns h) (each-point P Others (inr refl) ns h)

  -- each point has a block there
  labelled-in : (ns : List Node) (n : Node) → Contains ns n → HasLabel n.point (part_of plan p Entry ns) ⊎ HasLabel n.point (part_of plan p Others ns)
  labelled-in [] n h = none-in n h
  labelled-in (m ∷ ns) n h = by (split-in m n ns h) (labelled-in ns n)
    where
      here-is : m ≡ n → (b : Bool) → HasLabel n.point ((if b then block_c plan p m.point ∷ [] else []) ++ part_of plan p Entry ns) ⊎ HasLabel n.point ((if b then [] else block_c plan p m.point ∷ []) ++ part_of plan p Others ns)
      here-is e true = inl (here (ap (λ (k : Node). k.point) e))
      here-is e false = inr (here (ap (λ (k : Node). k.point) e))

      by : (m ≡ n) ⊎ Contains ns n → (Contains ns n → HasLabel n.point (part_of plan p Entry ns) ⊎ HasLabel n.point (part_of plan p Others ns))
          → HasLabel n.point (part_of plan p Entry (m ∷ ns)) ⊎ HasLabel n.point (part_of plan p Others (m ∷ ns))
      by (inl e) rest = here-is e (is_entry p m.point)
      by (inr c) rest = behind (rest c)
        where
          behind : HasLabel n.point (part_of plan p Entry ns) ⊎ HasLabel n.point (part_of plan p Others ns) → HasLabel n.point (part_of plan p Entry (m ∷ ns)) ⊎ HasLabel n.point (part_of plan p Others (m ∷ ns))
          behind (inl l) = inl (label-back n.point (point_part plan p Entry m.point) (part_of plan p Entry ns) l)
          behind (inr l) = inr (label-back n.point (point_part plan p Others m.point) (part_of plan p Others ns) l)

  pub block-is : (ns : List Node) (n : Node) → Contains ns n → block_of (blocks_of plan p ns) n.point ≡ Some (block_c plan p n.point)
  block-is ns n c =
      let front = part_of plan p Entry ns ++ part_of plan p Others ns in
      let f = found-in (IsPoint (λ b. Unit {0})) n.point front (each-front (λ b. Unit {0}) ns (λ m d. tt)) (labels (labelled-in ns n c)) in
      found-front n.point (block_c plan p n.point) front (part_of plan p Further ns) (f.is ∙ ap Some (f.has.0 ∙ ap (block_c plan p) f.label))
    where
      labels : HasLabel n.point (part_of plan p Entry ns) ⊎ HasLabel n.point (part_of plan p Others ns) → HasLabel n.point (part_of plan p Entry ns ++ part_of plan p Others ns)
      labels (inl l) = label-front n.point (part_of plan p Entry ns) (part_of plan p Others ns) l
      labels (inr l) = label-back n.point (part_of plan p Entry ns) (part_of plan p Others ns) l

  -- ---- the further blocks

  -- a further block is that of its address
  abbrev IsFurther : CBlock → Type 0
  IsFurther b = (further_c plan p (point b.label.pc Seq) ≡ Some b) × (b.label ≡ further_label b.label.pc)

  further-by : (pc : ℕ) (slot : Slot) (blk : CBlock) → further_at plan p pc slot ≡ Some blk → (slot ≡ Seq) × (blk.label ≡ further_label pc)
  further-by pc Seq blk e = (refl, made (block_at plan.flow.setting pc) e)
    where
      chosen : (q : Bool) (x : CBlock) → x.label ≡ further_label pc → (if q then Some x else None) ≡ Some blk → blk.label ≡ further_label pc
      chosen true x l f = let same : x ≡ blk = cc in subst (λ (y : CBlock). y.label ≡ further_label pc) same l
      chosen false x l f = let no : ⊥ = cc in absurd no

      made : (k : Block) → further_of_block plan p pc k ≡ Some blk → blk.label ≡ further_label pc
      made Block.Outside f = let no : ⊥ = cc in absurd no
      made Block.Illegal f = let no : ⊥ = cc in absurd no
      made (Inst inst kind) f =
          chosen (not (halts inst.transfers) && leaves_apart plan (jump_mode inst.transfers) (annul_for plan.flow.setting.machine.delay (annul_mode inst.transfers)) (pending pc kind)) (labelled (further_label pc) (arrival_code plan p (pending pc kind))) refl f
  further-by pc (To t) blk e = let no : ⊥ = cc in absurd no
  further-by pc (Dyn t) blk e = let no : ⊥ = cc in absurd no
  further-by pc (CallTo t back) blk e = let no : ⊥ = cc in absurd no
  further-by pc (CallDyn back) blk e = let no : ⊥ = cc in absurd no
  further-by pc Ret blk e = let no : ⊥ = cc in absurd no

  further-seq : (b : Point) (blk : CBlock) → further_c plan p b ≡ Some blk → b ≡ point b.pc Seq
  further-seq b blk e = ap (point b.pc) (further-by b.pc b.slot blk e).0

  further-label-is : (b : Point) (blk : CBlock) → further_c plan p b ≡ Some blk → blk.label ≡ further_label b.pc
  further-label-is b blk e = (further-by b.pc b.slot blk e).1

  each-further : (ns : List Node) → Each IsFurther (part_of plan p Further ns)
  each-further [] = nothing
  each-further (n ∷ ns) = each-append IsFurther (point_part plan p Further n.point) (part_of plan p Further ns) (by (further_c plan p n.point) refl) (each-further ns)
    where
      by : (o : Option CBlock) → further_c plan p n.point ≡ o → Each IsFurther (block_if_any o)
      by None e = nothing
      by (Some blk) e =
          let label = further-label-is n.point blk e in
          let pc : blk.label.pc ≡ n.point.pc = ap (λ (b : Point). b.pc) label in
          more (ap (λ k. further_c plan p (point k Seq)) pc ∙ ap (further_c plan p) (sym (further-seq n.point blk e)) ∙ e, label ∙ ap further_label (sym pc)) nothing

  label-further : (ns : List Node) (n : Node) (blk : CBlock) → Contains ns n → further_c plan p n.point ≡ Some blk → HasLabel blk.label (part_of plan p Further ns)
  label-further [] n blk c e = none-in n c
  label-further (m ∷ ns) n blk c e = by (split-in m n ns c) (label-further ns n blk)
    where
      by : (m ≡ n) ⊎ Contains ns n → (Contains ns n → further_c plan p n.point ≡ Some blk → HasLabel blk.label (part_of plan p Further ns)) → HasLabel blk.label (part_of plan p Further (m ∷ ns))
      by (inl same) rest =
          let at : further_c plan p m.point ≡ Some blk = ap (λ (k : Node). further_c plan p k.point) same ∙ e in
          subst (λ o. HasLabel blk.label (block_if_any o ++ part_of plan p Further ns)) (sym at) (here refl)
      by (inr d) rest = label-back blk.label (point_part plan p Further m.point) (part_of plan p Further ns) (rest d e)

  each-weaker : (P Q : CBlock → Type 0) → ((b : CBlock) → P b → Q b) → (bs : List CBlock) → Each P bs → Each Q bs
  each-weaker P Q w [] g = nothing
  each-weaker P Q w (b ∷ bs) (more h g) = more (w b h) (each-weaker P Q w bs g)

  pub further-is : (ns : List Node) (n : Node) (blk : CBlock) → Contains ns n → further_c plan p n.point ≡ Some blk → ((m : Node) → Contains ns m → m.point.slot ≢ Dyn m.point.pc) → block_of (blocks_of plan p ns) blk.label ≡ Some blk
  further-is ns n blk c e apart =
      let front = part_of plan p Entry ns ++ part_of plan p Others ns in
      let label = further-label-is n.point blk e in
      let P = λ (q : Point). q ≢ blk.label in
      let others : Each (λ b. b.label ≢ blk.label) front = each-weaker (IsPoint P) (λ b. b.label ≢ blk.label) (λ b h. h.1) front (each-front P ns (λ m d same.
      let to = same ∙ label in
      let slot : m.point.slot ≡ Dyn n.point.pc = ap (λ (b : Point). b.slot) to in
      let pc : m.point.pc ≡ n.point.pc = ap (λ (b : Point). b.pc) to in
      apart m d (slot ∙ ap Dyn (sym pc)))) in
      let f = found-in IsFurther blk.label (part_of plan p Further ns) (each-further ns) (label-further ns n blk c e) in
      let pc : f.block.label.pc ≡ n.point.pc = ap (λ (b : Point). b.pc) (f.label ∙ label) in
      let same : Some blk ≡ Some f.block = sym e ∙ ap (further_c plan p) (further-seq n.point blk e) ∙ ap (λ k. further_c plan p (point k Seq)) (sym pc) ∙ f.has.0 in
      passed blk.label front (part_of plan p Further ns) others ∙ f.is ∙ sym same
