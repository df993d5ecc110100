-- A frame that waits resumes: behind a call at a return point, behind a tail jump by a return of its own.
use Rattle.std.proofs.Common.{◌≡◌, ℕ, suc, ◌+◌, ◌-◌, ◌%◌, ◌<◌, ◌≤◌, Bool, true, false, List, [], length, Option, Some, None, ◌⊎◌, inl, inr, refl, sym, ap, ◌∙◌, subst, ⊎_elim, arith}
use Rattle.lockstep.specs.Runs.{Goes}
use Rattle.lockstep.specs.Meets.{met}
use Rattle.lockstep.proofs.Stretches.{Advances, advances_meets, longer, behind}
use Rattle.rtl_core.specs.declared.point.Slot.TheVariants.{Seq}
use Rattle.points.specs.declared.block.Member.TheVariants.{Call, Tail}
use Rattle.points.specs.Kinds.{second}
use Rattle.points.specs.Machine.{Setting}
use Rattle.points.specs.Courses.{point}
use Rattle.points.specs.Bodies.{Code, code_of, Body}
use Rattle.c_lang.specs.declared.tree.COp.TheVariants.{Sub}
use Rattle.c_lang.specs.declared.tree.CExpr.TheVariants.{Num, Of, Bin}
use Rattle.c_lang.specs.declared.tree.End.{End}
use Rattle.c_lang.specs.declared.tree.End.TheVariants.{Return}
use Rattle.c_lang.specs.declared.tree.Program.{Program}
use Rattle.c_lang.specs.declared.tree.Stmt.{Stmt}
use Rattle.c_lang.specs.declared.tree.Var.TheVariants.{Ra, Pt, Cell, Depth, ServeE}
use Rattle.c_lang.specs.Value.{Vars, value, word}
use Rattle.c_lang.specs.State.{Frame, Outer, CNext, At}
use Rattle.c_lang.specs.State as C
use Rattle.c_lang.specs.Step.{step, returned}
use Rattle.c_lang.proofs.ValueLaws.{value-Num, value-Of}
use Rattle.c_control.specs.Blocks.{block_c, behind_call_by, back_cases}
use Rattle.c_control.specs.Pieces.{couple_stop, shallower_c, take_c, give_c, without}
use Rattle.c_control.specs.Plans.{Plan}
use Rattle.c_control.specs.Programs.{HasFunction}
use Rattle.c_control.proofs.Steps.{st, seen, bin, op-Sub, step-Return, step-Switch, last, room, set_run}
use Rattle.c_control.proofs.Cells.{In, in-without, not-without, without-or, without-few}
use Rattle.c_control.proofs.Runs.{KeepsOuter, Passes, with_global, passes_run, give_run, take_run}
use Rattle.c_control.proofs.Frames.{Emission, SameWorld, HasBack, IsBack, Resumed, Resumes, at_point, bit, block-at, cost, declared-of, deep}

-- an outer part whose depth alone is another one
pub lower-world : (o : Outer) (d : ℕ) → SameWorld o (with_global o Depth d)
lower-world o d = record { windows = refl; words = refl; world = refl; output = refl }

pub same-then : (a b c : Outer) → SameWorld a b → SameWorld b c → SameWorld a c
same-then a b c h k = record { windows = k.windows ∙ h.windows; words = k.words ∙ h.words; world = k.world ∙ h.world; output = k.output ∙ h.output }

pub keeps-world : (a b : Outer) → KeepsOuter a b → SameWorld a b
keeps-world a b h = record { windows = h.windows; words = h.words; world = h.world; output = h.output }

-- one call less
pub one-less : (vars : Vars) (outer : Outer) (depth : ℕ) → outer.globals Depth ≡ Some (suc depth) → depth < 65536 → value (seen vars outer) (Bin Sub (Of Depth) (Num 1)) ≡ Some depth
one-less vars outer depth e lt =
    let sum : (suc depth + (word - 1)) % word ≡ depth = grind (arith, lt) in
    bin (seen vars outer) Sub (Of Depth) (Num 1) (suc depth) 1 depth (value-Of (seen vars outer) Depth ∙ e) (value-Num (seen vars outer) 1) (op-Sub (suc depth) 1 ∙ ap Some sum)

module _ (g : Emission) where
  abbrev plan : Plan
  plan = g.plan

  abbrev setting : Setting
  setting = plan.flow.setting

  abbrev program : Program
  program = g.program

  abbrev code : Code
  code = code_of setting plan.flow.table

  -- the end of a block behind a call leads to an address
  pub record LandsAt (q ix pc : ℕ) (old : Vars) (frames : List Frame) (outer : Outer) (x : CNext) : Type 0 where
    pub vars : Vars
    pub is : x ≡ Goes (at_point g q ix (point pc Seq) vars frames outer)
    pub cells_are : (c : ℕ) → vars (Cell c) ≡ old (Cell c)
    pub ra_is : vars Ra ≡ old Ra

  -- what stands behind a call leads to the return point that was returned to
  abbrev pub Finishes : (q ix back : ℕ) → List Stmt → End → Type 0
  Finishes q ix back base end = (e : Bool) (pc : ℕ) → IsBack g back e pc → (vars : Vars) (frames : List Frame) (outer : Outer) → outer.globals ServeE ≡ Some (bit g e)
      → Advances (step program) (λ c. c.outer.output ≡ outer.output) (LandsAt q ix pc vars frames outer) 1 (Goes (st ix base end vars frames outer))

  lands : (q ix pc : ℕ) (vars : Vars) (frames : List Frame) (outer : Outer) → LandsAt q ix pc vars frames outer (Goes (at_point g q ix (point pc Seq) vars frames outer))
  lands q ix pc vars frames outer = record { vars = vars; is = refl; cells_are = λ c. refl; ra_is = refl }

  pub finish_plain : (q back : ℕ) (fn : HasFunction plan program q) → HasBack g (Call back) q → Finishes q fn.found.index back [] (behind_call_by back (second setting back))
  finish_plain q back fn backs = λ e pc is vars frames outer flag. by (second setting back) refl e pc is vars frames outer flag
    where
      by : (o : Option ℕ) → second setting back ≡ o → (e : Bool) (pc : ℕ) → IsBack g back e pc → (vars : Vars) (frames : List Frame) (outer : Outer) → outer.globals ServeE ≡ Some (bit g e)
          → Advances (step program) (λ c. c.outer.output ≡ outer.output) (LandsAt q fn.found.index pc vars frames outer) 1 (Goes (st fn.found.index [] (behind_call_by back o) vars frames outer))
      by None none true pc is vars frames outer flag = let no : ⊥ = let s = sym none ∙ is in cc in absurd no
      by None none false pc is vars frames outer flag =
          let P = λ (c : C.State). c.outer.output ≡ outer.output in
          let Q = LandsAt q fn.found.index pc vars frames outer in
          let inside = subst (λ a. Body code q (point a Seq)) is (backs false pc is) in
          room program outer.output P Q (λ c w. w) (Goes (st fn.found.index [] (behind_call_by back None) vars frames outer)) 0 1 (omega arith)
          (last program outer.output P Q (λ c w. w) (st fn.found.index [] (behind_call_by back None) vars frames outer) (Goes (at_point g q fn.found.index (point back Seq) vars frames outer)) refl
          (Rattle.c_lang.proofs.StepsFrom.step-Goto program (st fn.found.index [] (behind_call_by back None) vars frames outer) (point back Seq) (block_c plan q (point back Seq)) refl (block-at g q fn (point back Seq) inside))
          (subst (λ a. LandsAt q fn.found.index a vars frames outer (Goes (at_point g q fn.found.index (point back Seq) vars frames outer))) (sym is) (lands q fn.found.index back vars frames outer)))
      by (Some s) some false pc is vars frames outer flag =
          let P = λ (c : C.State). c.outer.output ≡ outer.output in
          let Q = LandsAt q fn.found.index pc vars frames outer in
          let c = st fn.found.index [] (behind_call_by back (Some s)) vars frames outer in
          let inside = subst (λ a. Body code q (point a Seq)) is (backs false pc is) in
          room program outer.output P Q (λ c w. w) (Goes c) 0 1 (omega arith)
          (last program outer.output P Q (λ c w. w) c (Goes (at_point g q fn.found.index (point back Seq) vars frames outer)) refl
          (step-Switch program c (Of ServeE) (back_cases 0 back (Some s)) 0 couple_stop (Num 0) (point back Seq) (block_c plan q (point back Seq)) refl (value-Of (seen vars outer) ServeE ∙ flag) refl (block-at g q fn (point back Seq) inside))
          (subst (λ a. LandsAt q fn.found.index a vars frames outer (Goes (at_point g q fn.found.index (point back Seq) vars frames outer))) (sym is) (lands q fn.found.index back vars frames outer)))
      by (Some s) some true pc is vars frames outer flag =
          let P = λ (c : C.State). c.outer.output ≡ outer.output in
          let Q = LandsAt q fn.found.index pc vars frames outer in
          let c = st fn.found.index [] (behind_call_by back (Some s)) vars frames outer in
          let same : s ≡ pc = let w : Some s ≡ Some pc = sym some ∙ is in cc in
          let inside = subst (λ a. Body code q (point a Seq)) (sym same) (backs true pc is) in
          room program outer.output P Q (λ c w. w) (Goes c) 0 1 (omega arith)
          (last program outer.output P Q (λ c w. w) c (Goes (at_point g q fn.found.index (point s Seq) vars frames outer)) refl
          (step-Switch program c (Of ServeE) (back_cases 0 back (Some s)) 1 couple_stop (Num 0) (point s Seq) (block_c plan q (point s Seq)) refl (value-Of (seen vars outer) ServeE ∙ flag) refl (block-at g q fn (point s Seq) inside))
          (subst (λ a. LandsAt q fn.found.index a vars frames outer (Goes (at_point g q fn.found.index (point s Seq) vars frames outer))) same (lands q fn.found.index s vars frames outer)))

  -- the frame of q behind its call of t
  abbrev pub call_frame : (q ix t : ℕ) → List Stmt → End → Vars → Frame
  call_frame q ix t rest end vars = record { function = ix; place = At (shallower_c (take_c (plan.mods t) rest)) end; vars = vars }

  pub call_resumes : (q t back j depth : ℕ) (fn : HasFunction plan program q) (base rest : List Stmt) (end : End) (vars : Vars) → ((c : ℕ) → In c (plan.mods t) → In c (plan.mods q)) → Finishes q fn.found.index back base end
      → Passes (vars Pt) base j rest → j ≤ deep g → depth < 65536 → HasBack g (Call back) q → Resumes g (Call back) t depth q (call_frame q fn.found.index t rest end vars)
  call_resumes q t back j depth fn base rest end vars mods_in finish passes few under backs = record {
    has_back = backs;
    runs = λ cells e pc frames outer is found.
        let out = outer.output in
        let P = λ (c : C.State). c.outer.output ≡ out in
        let ix = fn.found.index in
        let Q = Resumed g (Call back) q ix vars e pc depth cells frames outer in
        let mods = plan.mods t in
        let lower = with_global outer Depth depth in
        let declared = declared-of g q fn in
        let go = set_run program out P Q (λ c w. w) (length mods + (j + 1)) ix Depth (Bin Sub (Of Depth) (Num 1)) depth (take_c mods rest) end vars frames outer refl (one-less vars outer depth found.depth_is under) declared.depth
        (take_run program out P Q (λ c w. w) (plan.refs q) cells fn.found.function.temps mods (j + 1) ix rest end vars frames lower refl declared
        (λ c i. g.planned.closed.mods_in q c (mods_in c i)) found.results
        (λ c i. ⊎_elim (λ i'. inr i') (λ ni. inl (found.keeps c i ni)) (in-or-not c mods))
        (λ new agree ra pt. passes_run program out P Q (λ c w. w) (vars Pt) base 1 ix end new frames lower refl pt passes
        (let R = LandsAt q ix pc new frames lower in
        let h = finish e pc is new frames lower found.flag_is in (
          h.0,
          behind (step program) P R Q {m = 0} h.1 (λ x w. met (record {
            vars = w.vars;
            outer = lower;
            is = w.is;
            agree = λ c i. w.cells_are c ∙ agree c i;
            ra_is = w.ra_is ∙ ra;
            depth_is = refl;
            world = lower-world outer depth;
          })),
        )))) in
        let short = g.planned.closed.few t in
        let le : suc (suc (length mods + (j + 1))) ≤ cost g = omega (arith, short, few) in
        longer (step program) P Q le (advances_meets (step program) P Q (Goes (st ix (shallower_c (take_c mods rest)) end vars frames outer)) go);
  }
    where
      in-or-not : (c : ℕ) (xs : List ℕ) → In c xs ⊎ (In c xs → ⊥)
      in-or-not c xs = by (Rattle.c_lang.specs.State.has xs c) refl
        where
          by : (b : Bool) → Rattle.c_lang.specs.State.has xs c ≡ b → In c xs ⊎ (In c xs → ⊥)
          by true e = inl e
          by false e = inr (λ i. let no : ⊥ = let w = sym e ∙ i in cc in no)

  -- the frame of q behind its jump into t
  abbrev pub tail_frame : (q ix t : ℕ) → List Stmt → Vars → Frame
  tail_frame q ix t rest vars = record { function = ix; place = At (shallower_c (give_c (without (plan.mods q) (plan.mods t)) rest)) Return; vars = vars }

  -- it hands back what t has not, and returns
  pub tail_resumes : (q t j depth : ℕ) (fn : HasFunction plan program q) (rest : List Stmt) (vars : Vars) → Passes (vars Pt) [] j rest → j ≤ deep g → depth < 65536 → Resumes g Tail t depth q (tail_frame q fn.found.index t rest vars)
  tail_resumes q t j depth fn rest vars passes few under = record {
    has_back = tt;
    runs = λ cells e pc frames outer is found.
        let out = outer.output in
        let P = λ (c : C.State). c.outer.output ≡ out in
        let ix = fn.found.index in
        let Q = Resumed g Tail q ix vars e pc depth cells frames outer in
        let left = without (plan.mods q) (plan.mods t) in
        let lower = with_global outer Depth depth in
        let declared = declared-of g q fn in
        let go = set_run program out P Q (λ c w. w) (length left + (j + 0)) ix Depth (Bin Sub (Of Depth) (Num 1)) depth (give_c left rest) Return vars frames outer refl (one-less vars outer depth found.depth_is under) declared.depth
        (give_run program out P Q (λ c w. w) cells (plan.refs q) fn.found.function.temps left (plan.mods t) (j + 0) ix rest Return vars frames lower refl declared
        (λ c i. found.keeps c (g.planned.closed.mods_in q c (in-without c (plan.mods q) (plan.mods t) i)) (not-without c (plan.mods q) (plan.mods t) i)) found.results
        (λ new keeps has. passes_run program out P Q (λ c w. w) (vars Pt) [] 0 ix Return vars frames new keeps.output refl passes
        (last program out P Q (λ c w. w) (st ix [] Return vars frames new) (returned program (st ix [] Return vars frames new) frames) keeps.output (step-Return program (st ix [] Return vars frames new) refl)
        (record {
          vars = vars;
          outer = new;
          is = refl;
          results = λ c i. has c (without-or c (plan.mods q) (plan.mods t) i);
          depth_is = keeps.depth;
          flag_is = keeps.flag_is ∙ found.flag_is;
          world = same-then outer lower new (lower-world outer depth) (keeps-world lower new keeps);
        })))) in
        let short = without-few (plan.mods q) (plan.mods t) in
        let few_q = g.planned.closed.few q in
        let le : suc (suc (length left + (j + 0))) ≤ cost g = omega (arith, short, few, few_q) in
        longer (step program) P Q le (advances_meets (step program) P Q (Goes (st ix (shallower_c (give_c left rest)) Return vars frames outer)) go);
  }
