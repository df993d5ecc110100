-- The blocks of a function are found at their labels.
use Rattle.std.proofs.Common.{◌≡◌, ◌≢◌, Bool, true, false, ◌&&◌, ◌==◌, if◌then◌else◌, List, [], ◌∷◌, ◌++◌, Some, refl, sym, ap, ◌∙◌, subst, eq-eqb}
use Rattle.std.proofs.lemmas.Bool.{eqb-true}
use Rattle.rtl_core.specs.declared.point.Point.{Point}
use Rattle.rtl_core.specs.declared.point.Slot.{Slot}
use Rattle.rtl_core.specs.declared.point.Slot.TheVariants.{Seq, To, Dyn, CallTo, CallDyn, Ret}
use Rattle.points.specs.Courses.{point}
use Rattle.c_lang.specs.declared.tree.CBlock.{CBlock}
use Rattle.c_lang.specs.Step.{block_of, same_point, same_slot}

-- ---- points

pub no_true : {A : Type 0} → false ≡ true → A
no_true e = let no : ⊥ = cc in absurd no

both : (a b : Bool) → (a && b) ≡ true → (a ≡ true) × (b ≡ true)
both true true h = (refl, refl)
both true false h = no_true h
both false b h = no_true h

and-both : (a b : Bool) → a ≡ true → b ≡ true → (a && b) ≡ true
and-both a b p q = rw (p, q)

slot-true : (a b : Slot) → same_slot a b ≡ true → a ≡ b
slot-true Seq Seq h = refl
slot-true (To t) (To u) h = ap To (eqb-true t u h)
slot-true (Dyn t) (Dyn u) h = ap Dyn (eqb-true t u h)
slot-true (CallTo t r) (CallTo u q) h = let b = both (t == u) (r == q) h in let x = eqb-true t u b.0 in let y = eqb-true r q b.1 in cc
slot-true (CallDyn t) (CallDyn u) h = ap CallDyn (eqb-true t u h)
slot-true Ret Ret h = refl
slot-true a b h = no_true h

slot-refl : (a : Slot) → same_slot a a ≡ true
slot-refl Seq = refl
slot-refl (To t) = eq-eqb t t refl
slot-refl (Dyn t) = eq-eqb t t refl
slot-refl (CallTo t r) = and-both (t == t) (r == r) (eq-eqb t t refl) (eq-eqb r r refl)
slot-refl (CallDyn t) = eq-eqb t t refl
slot-refl Ret = refl

pub same-true : (a b : Point) → same_point a b ≡ true → a ≡ b
same-true a b h =
    let l = both (a.pc == b.pc) (same_slot a.slot b.slot) h in
    let x : a.pc ≡ b.pc = eqb-true a.pc b.pc l.0 in
    let y : a.slot ≡ b.slot = slot-true a.slot b.slot l.1 in
    ap (λ pc. point pc a.slot) x ∙ ap (λ slot. point b.pc slot) y

pub same-refl : (a : Point) → same_point a a ≡ true
same-refl a = and-both (a.pc == a.pc) (same_slot a.slot a.slot) (eq-eqb a.pc a.pc refl) (slot-refl a.slot)

pub same-is : (a b : Point) → a ≡ b → same_point a b ≡ true
same-is a b e = subst (λ x. same_point a x ≡ true) e (same-refl a)

-- ---- look-ups

-- some block has this label
pub data HasLabel (to : Point) : List CBlock → Type 0 where
  here : {b : CBlock} {bs : List CBlock} → b.label ≡ to → HasLabel to (b ∷ bs)
  later : {b : CBlock} {bs : List CBlock} → HasLabel to bs → HasLabel to (b ∷ bs)

-- each block of a list has a property
pub data Each (P : CBlock → Type 0) : List CBlock → Type 0 where
  nothing : Each P []
  more : {b : CBlock} {bs : List CBlock} → P b → Each P bs → Each P (b ∷ bs)

pub each-append : (P : CBlock → Type 0) (xs ys : List CBlock) → Each P xs → Each P ys → Each P (xs ++ ys)
each-append P [] ys nothing h = h
each-append P (x ∷ xs) ys (more p g) h = more p (each-append P xs ys g h)

pub label-front : (to : Point) (xs ys : List CBlock) → HasLabel to xs → HasLabel to (xs ++ ys)
label-front to [] ys h = elim h [ ]
label-front to (x ∷ xs) ys (here e) = here e
label-front to (x ∷ xs) ys (later h) = later (label-front to xs ys h)

pub label-back : (to : Point) (xs ys : List CBlock) → HasLabel to ys → HasLabel to (xs ++ ys)
label-back to [] ys h = h
label-back to (x ∷ xs) ys h = later (label-back to xs ys h)

-- what is found: the first block with the label, which has the property
pub record IsFound (P : CBlock → Type 0) (bs : List CBlock) (to : Point) : Type 0 where
  pub block : CBlock
  pub is : block_of bs to ≡ Some block
  pub label : block.label ≡ to
  pub has : P block

module _ (P : CBlock → Type 0) (to : Point) (b : CBlock) (bs : List CBlock) where
  found-by : P b → (HasLabel to bs → IsFound P bs to) → (t : Bool) → same_point b.label to ≡ t → HasLabel to (b ∷ bs) → IsFound P (b ∷ bs) to
  found-by p next true e l = record { block = b; is = ap (λ t. if t then Some b else block_of bs to) e; label = same-true b.label to e; has = p }
  found-by p next false e (here l) = no_true (sym e ∙ same-is b.label to l)
  found-by p next false e (later l) = let f = next l in record { block = f.block; is = ap (λ t. if t then Some b else block_of bs to) e ∙ f.is; label = f.label; has = f.has }

pub found-in : (P : CBlock → Type 0) (to : Point) (bs : List CBlock) → Each P bs → HasLabel to bs → IsFound P bs to
found-in P to [] g h = elim h [ ]
found-in P to (b ∷ bs) (more p g) h = found-by P to b bs p (found-in P to bs g) (same_point b.label to) refl h

-- what is found in a front is found in the whole
pub found-front : (to : Point) (b : CBlock) (xs ys : List CBlock) → block_of xs to ≡ Some b → block_of (xs ++ ys) to ≡ Some b
found-front to b [] ys h = let no : ⊥ = cc in absurd no
found-front to b (x ∷ xs) ys h = by (found-front to b xs ys) (same_point x.label to) h
  where
    by : (block_of xs to ≡ Some b → block_of (xs ++ ys) to ≡ Some b) → (t : Bool) → (if t then Some x else block_of xs to) ≡ Some b → (if t then Some x else block_of (xs ++ ys) to) ≡ Some b
    by next true h = h
    by next false h = next h

-- blocks of other labels are passed over
pub passed : (to : Point) (bs rest : List CBlock) → Each (λ b. b.label ≢ to) bs → block_of (bs ++ rest) to ≡ block_of rest to
passed to [] rest nothing = refl
passed to (b ∷ bs) rest (more p g) = by (passed to bs rest g) (same_point b.label to) refl
  where
    by : block_of (bs ++ rest) to ≡ block_of rest to → (t : Bool) → same_point b.label to ≡ t → block_of (b ∷ (bs ++ rest)) to ≡ block_of rest to
    by next true e = absurd (p (same-true b.label to e))
    by next false e = ap (λ t. if t then Some b else block_of (bs ++ rest) to) e ∙ next
