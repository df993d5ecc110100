-- Control in the code goes where control in the flow goes.
use Rattle.std.proofs.Common.{◌≡◌, ℕ, Bool, true, false, true≢false, suc, nat_cmp, eqb-true, arith, List, [], ◌∷◌, length, Option, Some, None, Ok, Err, refl, sym, ap, ◌∙◌, subst}
use Rattle.std.specs.Prelude.{◌==◌, slice_get}
use Rattle.std.specs.List.{Contains, list_any}
use Rattle.rtl_core.specs.declared.point.Point.{Point}
use Rattle.rtl_core.specs.declared.point.Slot.{Slot}
use Rattle.rtl_core.specs.declared.point.Slot.TheVariants.{Seq, To, CallTo}
use Rattle.rtl_core.specs.declared.stop.Stop.{Stop}
use Rattle.points.specs.declared.block.Course.{Course}
use Rattle.points.specs.declared.block.Course.TheVariants.{On, Couples}
use Rattle.points.specs.declared.block.Member.{Member}
use Rattle.points.specs.declared.block.Member.TheVariants.{Call, Tail}
use Rattle.points.specs.declared.block.Next.{Next}
use Rattle.points.specs.declared.graph.JumpTable.{JumpTable}
use Rattle.points.specs.Bodies.{IsReached}
use Rattle.points.specs.Control.{Flow, Move, most_calls, entered, entered_any, jumped, is_return_point, returned, arrived, followed}
use Rattle.points.specs.Courses.{point, arrival_next, course_next}
use Rattle.points.specs.Graphs.{points_of}
use Rattle.graph_control.specs.declared.position.Position.{Position}
use Rattle.graph_control.specs.Programs.{Comes, ComesBack, IsFlowOf, program_of, IsSteered, Steers}
use Rattle.graph_control.specs.Charts.{Chart, control_of, led}
use Rattle.graph_control.specs.Finding.{IsPlace}
use Rattle.graph_control.specs.Ways.{IsNodePlace, IsCoursePlace, IsArrivalPlace, jumps_in}
use Rattle.graph_control.proofs.Looking.{place_of_reached, table_is, targets_are, none_there}
use Rattle.graph_control.proofs.Reaching.{reached-procedure, reached-on, reached-call, reached-jump, reached-return, in-table}

-- a stop moves nothing
pub stopped-there : (c : Chart) (move : Move) (stop : Stop) (p : Position) → Err stop ≡ move → IsSteered c move (Some stop) p
stopped-there c move stop p e = record { moved = e; place = λ n. let no : ⊥ = cc in absurd no }

module _ (c : Chart) (roots : List ℕ) (f : Flow) (h : IsFlowOf c roots f) where
  -- on to a point that is reached, at its place
  pub gone : (old new : Position) (q : Point) (k : ℕ) → new ≡ record old { point = q; place = k } → IsReached (program_of f) roots q → IsNodePlace c.graph q k
      → IsSteered c (Ok (record (control_of old) { point = q })) None new
  gone old new q k e reached place = record {
    moved = ap (λ p. Ok (control_of p)) e;
    place = λ n.
        let P : Position → Type 0 = λ p. slice_get (points_of c.graph.nodes) p.place ≡ Some p.point in
        subst P (sym e) (place_of_reached c roots f h q k reached place);
  }

  -- where control went on
  pub point-of : (old new : Position) (pc : ℕ) (member : Member) → led None (control_of new) ≡ entered pc member (control_of old) → new.point ≡ point pc Seq
  point-of old new pc member e = by (length old.calls == most_calls) refl
    where
      by : (b : Bool) → (length old.calls == most_calls) ≡ b → new.point ≡ point pc Seq
      by true full = let no : Ok (control_of new) ≡ Err Stop.CallDepth = e ∙ rw full refl in absurd (let n : ⊥ = cc in n)
      by false room =
          let is : Ok (control_of new) ≡ Ok (record (control_of old) { point = point pc Seq; calls = member ∷ old.calls }) = e ∙ rw room refl in
          let same : control_of new ≡ record (control_of old) { point = point pc Seq; calls = member ∷ old.calls } = cc in
          ap (λ x. x.point) same

  -- into a procedure that is reached, at its place
  pub entered-there : (old new : Position) (pc k : ℕ) (member : Member) (r : Option Stop) → led r (control_of new) ≡ entered pc member (control_of old) → (r ≡ None → new.place ≡ k)
      → IsReached (program_of f) roots (point pc Seq) → IsNodePlace c.graph (point pc Seq) k → IsSteered c (entered pc member (control_of old)) r new
  entered-there old new pc k member r e placed reached place = record {
    moved = e;
    place = λ n.
        let at = placed n in
        let is = point-of old new pc member (ap (λ o. led o (control_of new)) (sym n) ∙ e) in
        ap (slice_get (points_of c.graph.nodes)) at ∙ place_of_reached c roots f h (point pc Seq) k reached place ∙ ap Some (sym is);
  }

  -- into the procedure at a computed target
  pub any-there : (old new : Position) (k : ℕ) (member : Member) (r : Option Stop) → f.is_procedure old.target ≡ true → led r (control_of new) ≡ entered old.target member (control_of old)
      → (r ≡ None → new.place ≡ k) → IsNodePlace c.graph (point old.target Seq) k → IsSteered c (entered_any f member (control_of old)) r new
  any-there old new k member r is e placed place =
      let to : entered old.target member (control_of old) ≡ entered_any f member (control_of old) = rw is refl in
      subst (λ (move : Move). IsSteered c move r new) to
      (entered-there old new old.target k member r e placed (reached-procedure f roots h.procedures old.target is) place)

  pub any-nowhere : (old : Position) (member : Member) → f.is_procedure old.target ≡ false → IsSteered c (entered_any f member (control_of old)) (Some (Stop.Undiscovered old.target)) old
  any-nowhere old member is = stopped-there c (entered_any f member (control_of old)) (Stop.Undiscovered old.target) old (rw is refl)

  -- a computed plain jump
  module _ (old : Position) (a : ℕ) (comes : Comes (program_of f) roots (Next.Table a)) where
    pub jumped-nowhere : (ts : List ℕ) → f.table a ≡ ts → list_any (λ u. u == old.target) ts ≡ false → (ts ≡ [] → ⊥) → IsSteered c (jumped f (f.table a) (control_of old)) (Some (Stop.Undiscovered old.target)) old
    jumped-nowhere [] same miss some = absurd (some refl)
    jumped-nowhere (t ∷ ts) same miss some =
        let e : Err (Stop.Undiscovered old.target) ≡ jumped f (t ∷ ts) (control_of old) = rw miss refl in
        stopped-there c (jumped f (f.table a) (control_of old)) (Stop.Undiscovered old.target) old (e ∙ ap (λ l. jumped f l (control_of old)) (sym same))

    pub jumped-there : (new : Position) (ts : List ℕ) (k : ℕ) → f.table a ≡ ts → list_any (λ u. u == old.target) ts ≡ true → new ≡ record old { point = point old.target Seq; place = k }
        → IsNodePlace c.graph (point old.target Seq) k → IsSteered c (jumped f (f.table a) (control_of old)) None new
    jumped-there new [] k same hit e place = absurd (true≢false (sym hit))
    jumped-there new (t ∷ ts) k same hit e place =
        let move : Ok (record (control_of old) { point = point old.target Seq }) ≡ jumped f (t ∷ ts) (control_of old) = rw hit refl in
        let to = move ∙ ap (λ l. jumped f l (control_of old)) (sym same) in
        subst (λ (m : Move). IsSteered c m None new) to
        (gone old new (point old.target Seq) k e (reached-jump f roots a old.target comes (subst (λ (l : List ℕ). Contains l old.target) (sym same) (in-table (t ∷ ts) old.target hit))) place)

  -- a return behind an open call
  module _ (old : Position) (back : ℕ) (comes : ComesBack (program_of f) roots back) where
    pub returned-nowhere : is_return_point f.setting back old.target ≡ false → IsSteered c (returned f.setting (Call back ∷ old.calls) (control_of old)) (Some (Stop.ReturnMismatch old.target)) old
    returned-nowhere miss = stopped-there c (returned f.setting (Call back ∷ old.calls) (control_of old)) (Stop.ReturnMismatch old.target) old (rw miss refl)

    pub returned-there : (new : Position) (k : ℕ) → is_return_point f.setting back old.target ≡ true → new ≡ record old { point = point old.target Seq; place = k } → IsNodePlace c.graph (point old.target Seq) k
        → IsSteered c (returned f.setting (Call back ∷ old.calls) (control_of old)) None new
    returned-there new k hit e place =
        let to : Ok (record (control_of old) { point = point old.target Seq }) ≡ returned f.setting (Call back ∷ old.calls) (control_of old) = rw hit refl in
        subst (λ (m : Move). IsSteered c m None new) to (gone old new (point old.target Seq) k e (reached-return f roots back old.target comes hit) place)

  -- ---- by the course and by the slot

  abbrev pub FollowsSo : Position → Position → Option Stop → ℕ → Course → Type 0
  FollowsSo old new r k co = Steers c f roots old (course_next co) → IsCoursePlace c.graph co k → IsSteered c (followed f co (control_of old)) r new

  abbrev pub ArrivesSo : Position → Position → Option Stop → ℕ → Slot → Type 0
  ArrivesSo old new r k slot = Steers c f roots old (arrival_next slot) → IsArrivalPlace c.graph slot k → IsSteered c (arrived f slot (control_of old)) r new

  module _ (old new : Position) (k : ℕ) where
    pub follow-on : (p : Point) → new ≡ record old { point = p; place = k } → FollowsSo old new None k (On p)
    follow-on p e s place = gone old new p k e (reached-on f roots p s.comes) place

    pub arrive-to : (t : ℕ) → new ≡ record old { point = point t Seq; place = k } → ArrivesSo old new None k (To t)
    arrive-to t e s place = gone old new (point t Seq) k e (reached-on f roots (point t Seq) s.comes) place

    pub arrive-call : (t back : ℕ) (r : Option Stop) → led r (control_of new) ≡ entered t (Call back) (control_of old) → (r ≡ None → new.place ≡ k) → ArrivesSo old new r k (CallTo t back)
    arrive-call t back r e placed s place = entered-there old new t k (Call back) r e placed (reached-call f roots t back s.comes) place

  pub follow-couples : (old : Position) (k : ℕ) → FollowsSo old old (Some (Stop.Couple old.point.pc)) k Couples
  follow-couples old k s place = stopped-there c (followed f Couples (control_of old)) (Stop.Couple old.point.pc) old refl

  pub arrive-seq : (old : Position) (k : ℕ) → ArrivesSo old old (Some (Stop.Couple old.point.pc)) k Seq
  arrive-seq old k s place = stopped-there c (arrived f Seq (control_of old)) (Stop.Couple old.point.pc) old refl

  -- the table at the place of a jump
  pub table_now : (a k : ℕ) (ts : List ℕ) → Comes (program_of f) roots (Next.Table a) → IsPlace nat_cmp (jumps_in c.graph) a k → ((t : JumpTable) → slice_get c.graph.tables k ≡ Some t → ts ≡ t.targets) → f.table a ≡ ts
  table_now a k ts comes place is = by (slice_get c.graph.tables k) refl
    where
      at : slice_get (jumps_in c.graph) k ≡ Some a
      at = table_is c roots f h a k comes place

      by : (o : Option JumpTable) → slice_get c.graph.tables k ≡ o → f.table a ≡ ts
      by (Some t) e = sym (is t e ∙ targets_are c roots f h a k t at e)
      by None e = absurd (none_there (λ (x : JumpTable). x.at) c.graph.tables k a at e)

  pub jumped-away : (old new : Position) (a : ℕ) (ts : List ℕ) (r : Option Stop) → f.table a ≡ ts → (length ts == 0) ≡ true → IsSteered c (entered_any f Tail (control_of old)) r new → IsSteered c (jumped f (f.table a) (control_of old)) r new
  jumped-away old new a [] r same e s = subst (λ (l : List ℕ). IsSteered c (jumped f l (control_of old)) r new) (sym same) s
  jumped-away old new a (t ∷ ts) r same e s = let no : suc (length ts) ≡ 0 = eqb-true (length (t ∷ ts)) 0 e in absurd (omega (arith, no))

  pub some-left : (ts : List ℕ) → (length ts == 0) ≡ false → ts ≡ [] → ⊥
  some-left ts e none = true≢false (sym (ap (λ (l : List ℕ). length l == 0) none) ∙ e)
