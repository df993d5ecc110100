-- The summaries of a graph hold together, as a translation asks.
use Rattle.std.proofs.Common.{◌≡◌, ◌≢◌, ℕ, ◌<◌, ◌≤◌, Bool, true, false, List, [], ◌∷◌, length, Some, refl, sym, ◌∙◌, subst, inl, inr, eq-eqb, rules}
use Rattle.std.specs.Prelude.{◌⊎◌, ◌==◌, map}
use Rattle.std.specs.List.{Contains}
use Rattle.std.specs.List.Sorted.{IsStrictlySortedBy}
use Rattle.std.specs.Ordering.{nat_cmp}
use Rattle.std.proofs.lemmas.List.Elements.{All-contains, All-weaker}
use Rattle.std.proofs.lemmas.Map.Views.{length-le_from_below}
use Rattle.rtl_core.specs.declared.machine.Machine.{Machine}
use Rattle.rtl_core.specs.declared.point.Point.{Point}
use Rattle.rtl_core.specs.SoundConv.{AreSoundTogether}
use Rattle.points.specs.Bundles.{LieInMemory}
use Rattle.points.specs.declared.graph.Graph.{Graph}
use Rattle.points.specs.declared.graph.Proc.{Proc}
use Rattle.points.specs.declared.graph.Summary.{Summary}
use Rattle.points.specs.Bodies.{code_of, Body, Procedure}
use Rattle.points.specs.Control.{Flow}
use Rattle.points.specs.Exactly.{IsExactly}
use Rattle.points.specs.Graphs.{IsGraph}
use Rattle.points.specs.Kinds.{block_at}
use Rattle.points.specs.Summaries.{Summarized, IsCallee, itself, through, HasRef, HasMod, IsSummary, IsMoving, IsWholeSummary, AreSummaries, AreWholeSummaries, block_names, block_assigns}
use Rattle.c_lang.specs.State.{has}
use Rattle.c_control.specs.Choice.{Tree}
use Rattle.c_control.specs.Programs.{AreClosed}
use Rattle.c_control.proofs.Cells.{in-here, in-more, in-cases, in-none}
use Rattle.params.specs.ByEntry.{refs_of, mods_of, AreMoving, plan_of, summaries_are_closed, whole_summaries_are_closed}
use Rattle.params.specs.SummaryLaws.{summarized}
use Rattle.params.proofs.Members.{first-in, later-in, split-in, to-mapped, none-in}
use Rattle.params.proofs.NamedCells.{named-are-cells, assigned-is-named}
use Rattle.params.proofs.Lawful.{lawful, hold-cells, reached-procedure}

pub to-has : (xs : List ℕ) (c : ℕ) → Contains xs c → has xs c ≡ true
to-has [] c h = none-in c h
to-has (x ∷ xs) c h = by (to-has xs c) (split-in x c xs h)
  where
    by : (Contains xs c → has xs c ≡ true) → (x ≡ c) ⊎ Contains xs c → has (x ∷ xs) c ≡ true
    by more (inl e) = subst (λ d. has (x ∷ xs) d ≡ true) e (in-here x xs)
    by more (inr t) = in-more c x xs (more t)

pub from-has : (xs : List ℕ) (c : ℕ) → has xs c ≡ true → Contains xs c
from-has [] c h = in-none c h
from-has (x ∷ xs) c h = by (from-has xs c) (in-cases c x xs h)
  where
    by : (has xs c ≡ true → Contains xs c) → (c ≡ x) ⊎ (has xs c ≡ true) → Contains (x ∷ xs) c
    by more (inl e) = subst (λ d. Contains (x ∷ xs) d) (sym e) (first-in x xs)
    by more (inr t) = later-in x c xs (more t)

-- what is found of an entry: its summary, or nothing
pub data Found (summaries : List Summary) (others : List ℕ) (p : ℕ) : Type 0 where
  by-summary : (s : Summary) → Contains summaries s → s.entry ≡ p → refs_of summaries others p ≡ s.refs → mods_of summaries others p ≡ s.mods → Found summaries others p
  nowhere : (Contains (map (λ s. s.entry) summaries) p → ⊥) → refs_of summaries others p ≡ others → mods_of summaries others p ≡ others → Found summaries others p

found : (summaries : List Summary) (others : List ℕ) (p : ℕ) → Found summaries others p
found [] others p = nowhere (λ h. none-in p h) refl refl
found (s ∷ ss) others p = by (s.entry == p) refl (found ss others p)
  where
    by : (b : Bool) → (s.entry == p) ≡ b → Found ss others p → Found (s ∷ ss) others p
    by true e rest = by-summary s (first-in s ss) (search (rules, e)) (rw e refl) (rw e refl)
    by false e (by-summary t c is r m) = by-summary t (later-in s t ss c) is (rw e r) (rw e m)
    by false e (nowhere not r m) = nowhere (λ h. elim (split-in s.entry p (map (λ s. s.entry) ss) h) [ inl same ↦ absurd (let t : (s.entry == p) ≡ true = eq-eqb s.entry p same in cc) | inr later ↦ not later ]) (rw e r) (rw e m)

module _ (flow : Flow) (roots : List ℕ) (g : Graph) (summaries : List Summary) (others : List ℕ) (tree : Tree)
    (sound : AreSoundTogether flow.setting.encodings flow.setting.machine flow.setting.conv) (lie : LieInMemory flow.setting.frozen)
    (is : IsGraph (code_of flow.setting flow.table) roots g) (are : AreSummaries (summarized flow.setting flow.table roots) g summaries) (moving : AreMoving flow.setting.machine others) where
  abbrev n : Summarized
  n = summarized flow.setting flow.table roots

  abbrev refs : ℕ → List ℕ
  refs = refs_of summaries others

  abbrev mods : ℕ → List ℕ
  mods = mods_of summaries others

  -- what a plan holds at an entry: the exact cells of a procedure, or all that move
  data Known (p : ℕ) : Type 0 where
    of-procedure : Procedure n.code n.roots p → IsExactly (HasRef n p) (refs p) → IsExactly (HasMod n p) (mods p) → IsStrictlySortedBy nat_cmp (mods p) → Known p
    elsewhere : (Procedure n.code n.roots p → ⊥) → refs p ≡ others → mods p ≡ others → Known p

  known : (p : ℕ) → Known p
  known p = by (found summaries others p)
    where
      by : Found summaries others p → Known p
      by (by-summary s c e r m) =
          let here = All-contains (IsSummary n) summaries s are.each c in
          of-procedure (All-contains (Procedure n.code n.roots) (map (λ (q : Proc). q.entry) g.procs) p is.procs.sound (subst (λ l. Contains l p) are.entries (subst (Contains (map (λ (t : Summary). t.entry) summaries)) e (to-mapped (λ (t : Summary). t.entry) summaries s c))))
          (subst (λ l. IsExactly (HasRef n p) l) (sym r) (subst (λ q. IsExactly (HasRef n q) s.refs) e here.refs))
          (subst (λ l. IsExactly (HasMod n p) l) (sym m) (subst (λ q. IsExactly (HasMod n q) s.mods) e here.mods))
          (subst (IsStrictlySortedBy nat_cmp) (sym m) here.mods_rise)
      by (nowhere not r m) = elsewhere (λ h. not (subst (λ l. Contains l p) (sym are.entries) (is.procs.whole p h))) r m

  -- a cell that moves is in all that move
  moves : (c : ℕ) (xs : List ℕ) → xs ≡ others → IsMoving flow.setting.machine c → has xs c ≡ true
  moves c xs e h = to-has xs c (subst (λ l. Contains l c) (sym e) (moving.exactly.whole c h))

  is-moving : (c : ℕ) (xs : List ℕ) → xs ≡ others → has xs c ≡ true → IsMoving flow.setting.machine c
  is-moving c xs e h = All-contains (IsMoving flow.setting.machine) others c moving.exactly.sound (subst (λ l. Contains l c) e (from-has xs c h))

  has-ref : (p c : ℕ) → IsExactly (HasRef n p) (refs p) → HasRef n p c → has (refs p) c ≡ true
  has-ref p c x h = to-has (refs p) c (x.whole c h)

  has-mod : (p c : ℕ) → IsExactly (HasMod n p) (mods p) → HasMod n p c → has (mods p) c ≡ true
  has-mod p c x h = to-has (mods p) c (x.whole c h)

  is-ref : (p c : ℕ) → IsExactly (HasRef n p) (refs p) → has (refs p) c ≡ true → HasRef n p c
  is-ref p c x h = All-contains (HasRef n p) (refs p) c x.sound (from-has (refs p) c h)

  is-mod : (p c : ℕ) → IsExactly (HasMod n p) (mods p) → has (mods p) c ≡ true → HasMod n p c
  is-mod p c x h = All-contains (HasMod n p) (mods p) c x.sound (from-has (mods p) c h)

  moves-of : (p c : ℕ) → Known p → has (refs p) c ≡ true → IsMoving flow.setting.machine c
  moves-of p c (of-procedure h r m s) i =
      record { there = hold-cells flow.setting flow.table roots p c sound lie (is-ref p c r i); moves = (lawful n).not_zero_ref p c (is-ref p c r i) }
  moves-of p c (elsewhere not r m) i = is-moving c (refs p) r i

  -- what a procedure enters is a procedure
  entered : (p t : ℕ) → Procedure n.code n.roots p → IsCallee n p t → Procedure n.code n.roots t
  entered p t h k = reached-procedure n p t h (through itself k)

  named-in : (p : ℕ) (b : Point) (c : ℕ) → Known p → Body n.code p b → Contains (block_names n.machine n.conv (block_at flow.setting b.pc)) c → n.machine.zero ≢ Some c → has (refs p) c ≡ true
  named-in p b c (of-procedure h r m s) body i z = has-ref p c r ((lawful n).named_at p c b body i z)
  named-in p b c (elsewhere not r m) body i z = moves c (refs p) r (record { there = named-are-cells flow.setting b.pc c sound lie i; moves = z })

  assigned-in : (p : ℕ) (b : Point) (c : ℕ) → Known p → Body n.code p b → Contains (block_assigns n.machine n.conv (block_at flow.setting b.pc)) c → n.machine.zero ≢ Some c → has (mods p) c ≡ true
  assigned-in p b c (of-procedure h r m s) body i z = has-mod p c m ((lawful n).assigned_at p c b body i z)
  assigned-in p b c (elsewhere not r m) body i z = moves c (mods p) m (record { there = named-are-cells flow.setting b.pc c sound lie (assigned-is-named flow.setting.machine flow.setting.conv (block_at flow.setting b.pc) c i); moves = z })

  mods-in-refs : (p c : ℕ) → Known p → has (mods p) c ≡ true → has (refs p) c ≡ true
  mods-in-refs p c (of-procedure h r m s) i = has-ref p c r ((lawful n).mods_in_refs p c (is-mod p c m i))
  mods-in-refs p c (elsewhere not r m) i = subst (λ l. has l c ≡ true) (m ∙ sym r) i

  refs-of-callee : (p t c : ℕ) → Known p → Known t → IsCallee n p t → has (refs t) c ≡ true → has (refs p) c ≡ true
  refs-of-callee p t c (of-procedure h r m s) (of-procedure k q l u) e i = has-ref p c r ((lawful n).refs_of_callee p t c e (is-ref t c q i))
  refs-of-callee p t c (of-procedure h r m s) (elsewhere not q l) e i = absurd (not (entered p t h e))
  refs-of-callee p t c (elsewhere not r m) k e i = moves c (refs p) r (moves-of t c k i)

  mods-of-callee : (p t c : ℕ) → Known p → Known t → IsCallee n p t → has (mods t) c ≡ true → has (mods p) c ≡ true
  mods-of-callee p t c (of-procedure h r m s) (of-procedure k q l u) e i = has-mod p c m ((lawful n).mods_of_callee p t c e (is-mod t c l i))
  mods-of-callee p t c (of-procedure h r m s) (elsewhere not q l) e i = absurd (not (entered p t h e))
  mods-of-callee p t c (elsewhere not r m) k e i = moves c (mods p) m (moves-of t c k (mods-in-refs t c k i))

  few-mods : (p : ℕ) → Known p → length (mods p) ≤ length n.machine.widths
  few-mods p (of-procedure h r m s) =
      length-le_from_below (length n.machine.widths) (mods p) s (All-weaker (HasMod n p) (λ c. c < length n.machine.widths) (λ c i. hold-cells flow.setting flow.table roots p c sound lie ((lawful n).mods_in_refs p c i)) (mods p) m.sound)
  few-mods p (elsewhere not r m) =
      subst (λ l. length l ≤ length n.machine.widths) (sym m)
      (length-le_from_below (length n.machine.widths) others moving.rise (All-weaker (IsMoving flow.setting.machine) (λ c. c < length n.machine.widths) (λ c i. i.there) others moving.exactly.sound))

  pub closed : AreClosed (plan_of flow summaries others tree) roots
  closed = record {
    named = λ p b c body i z. named-in p b c (known p) body i z;
    assigned = λ p b c body i z. assigned-in p b c (known p) body i z;
    mods_in = λ p c i. mods-in-refs p c (known p) i;
    callee_refs = λ p t c e i. refs-of-callee p t c (known p) (known t) e i;
    callee_mods = λ p t c e i. mods-of-callee p t c (known p) (known t) e i;
    moving = λ p c i. let k = moves-of p c (known p) i in (k.there, k.moves);
    few = λ p. few-mods p (known p);
  }

pub are-closed : summaries_are_closed
are-closed = closed

module _ (flow : Flow) (roots : List ℕ) (g : Graph) (summaries : List Summary) (others : List ℕ) (tree : Tree)
    (sound : AreSoundTogether flow.setting.encodings flow.setting.machine flow.setting.conv) (lie : LieInMemory flow.setting.frozen)
    (are : AreWholeSummaries flow.setting.machine g summaries) (moving : AreMoving flow.setting.machine others) where
  abbrev cells : Machine
  cells = flow.setting.machine

  -- a plan holds all that move at each entry
  record HoldsAll (p : ℕ) : Type 0 where
    rise : IsStrictlySortedBy nat_cmp (refs_of summaries others p)
    exactly : IsExactly (IsMoving cells) (refs_of summaries others p)
    same : mods_of summaries others p ≡ refs_of summaries others p

  holds-all : (p : ℕ) → HoldsAll p
  holds-all p = by (found summaries others p)
    where
      by : Found summaries others p → HoldsAll p
      by (by-summary s c e r m) =
          let here = All-contains (IsWholeSummary cells) summaries s are.each c in
          record { rise = subst (IsStrictlySortedBy nat_cmp) (sym r) here.refs_rise; exactly = subst (IsExactly (IsMoving cells)) (sym r) here.refs; same = m ∙ here.mods ∙ sym r }
      by (nowhere not r m) = record { rise = subst (IsStrictlySortedBy nat_cmp) (sym r) moving.rise; exactly = subst (IsExactly (IsMoving cells)) (sym r) moving.exactly; same = m ∙ sym r }

  in-refs : (p c : ℕ) → IsMoving cells c → has (refs_of summaries others p) c ≡ true
  in-refs p c h = to-has (refs_of summaries others p) c ((holds-all p).exactly.whole c h)

  in-mods : (p c : ℕ) → IsMoving cells c → has (mods_of summaries others p) c ≡ true
  in-mods p c h = subst (λ l. has l c ≡ true) (sym (holds-all p).same) (in-refs p c h)

  of-refs : (p c : ℕ) → has (refs_of summaries others p) c ≡ true → IsMoving cells c
  of-refs p c i = All-contains (IsMoving cells) (refs_of summaries others p) c (holds-all p).exactly.sound (from-has (refs_of summaries others p) c i)

  of-mods : (p c : ℕ) → has (mods_of summaries others p) c ≡ true → IsMoving cells c
  of-mods p c i = of-refs p c (subst (λ l. has l c ≡ true) (holds-all p).same i)

  pub whole-closed : AreClosed (plan_of flow summaries others tree) roots
  whole-closed = record {
    named = λ p b c body i z. in-refs p c (record { there = named-are-cells flow.setting b.pc c sound lie i; moves = z });
    assigned = λ p b c body i z. in-mods p c (record { there = named-are-cells flow.setting b.pc c sound lie (assigned-is-named cells flow.setting.conv (block_at flow.setting b.pc) c i); moves = z });
    mods_in = λ p c i. in-refs p c (of-mods p c i);
    callee_refs = λ p t c e i. in-refs p c (of-refs t c i);
    callee_mods = λ p t c e i. in-mods p c (of-mods t c i);
    moving = λ p c i. let k = of-refs p c i in (k.there, k.moves);
    few = λ p. subst (λ l. length l ≤ length cells.widths) (sym (holds-all p).same)
        (length-le_from_below (length cells.widths) (refs_of summaries others p) (holds-all p).rise (All-weaker (IsMoving cells) (λ c. c < length cells.widths) (λ c i. i.there) (refs_of summaries others p) (holds-all p).exactly.sound));
  }

pub whole-are-closed : whole_summaries_are_closed
whole-are-closed = whole-closed
