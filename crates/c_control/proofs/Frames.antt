-- What holds of the frames wherever the top one stands, and what a frame that waits does when it is returned to.
use Rattle.std.proofs.Common.{◌≡◌, ℕ, suc, ◌+◌, ◌^◌, ◌<◌, ◌≤◌, Bool, true, false, List, [], ◌∷◌, length, Some, ◌⊎◌, inl, refl, sym, ap, ◌∙◌, arith}
use Rattle.std.specs.Prelude.{slice_get, slice_index}
use Rattle.lockstep.specs.Runs.{Goes}
use Rattle.lockstep.specs.Meets.{Meets, Matches, next_out}
use Rattle.lockstep.proofs.Stretches.{Advances}
use Rattle.rtl_core.specs.declared.machine.Machine.{Machine}
use Rattle.rtl_core.specs.declared.point.Point.{Point}
use Rattle.rtl_core.specs.declared.point.Slot.TheVariants.{Seq}
use Rattle.rtl_core.specs.FirstMemory.{Part}
use Rattle.rtl_core.specs.SoundTerms.{Fit}
use Rattle.points.specs.declared.block.Member.{Member}
use Rattle.points.specs.declared.block.Member.TheVariants.{Call, Tail}
use Rattle.points.specs.Kinds.{second}
use Rattle.points.specs.Machine.{Setting}
use Rattle.points.specs.Courses.{point}
use Rattle.points.specs.Control.{Control, most_calls}
use Rattle.points.specs.Bodies.{Code, code_of, Body, Procedure}
use Rattle.points.specs.Running.{State, MNext}
use Rattle.points.specs.Summaries.{IsCallee}
use Rattle.c_lang.specs.declared.tree.End.TheVariants.{Return}
use Rattle.c_lang.specs.declared.tree.Program.{Program}
use Rattle.c_lang.specs.declared.tree.Var.TheVariants.{Ra, Cell, Result, Wn, Depth, ServeE}
use Rattle.c_lang.specs.Value.{Vars}
use Rattle.c_lang.specs.State.{Frame, Outer, CNext, declared_in, has, to_place, At}
use Rattle.c_lang.specs.State as C
use Rattle.c_lang.specs.Step.{step, returned, block_of, blocks_in}
use Rattle.c_control.specs.Blocks.{code_at, block_c}
use Rattle.c_control.specs.Frames.{Agree, HoldsTarget, HoldsWorld, Waits, top_ra}
use Rattle.c_control.specs.Plans.{Plan}
use Rattle.c_control.specs.Programs.{HasFunction, IsPlanned, summarized_of}
use Rattle.c_control.proofs.Steps.{st}
use Rattle.c_control.proofs.Cells.{In}
use Rattle.c_control.proofs.Runs.{Declared}

-- a plan, its program, and that they belong together
pub record Emission : Type 0 where
  pub plan : Plan
  pub roots : List ℕ
  pub parts : List Part
  pub entry : ℕ
  pub program : Program
  pub planned : IsPlanned plan roots parts entry program

-- what all calls share, but for depth, flag and results
pub record SameWorld (old new : Outer) : Type 0 where
  pub windows : new.globals Wn ≡ old.globals Wn
  pub words : new.words ≡ old.words
  pub world : new.world ≡ old.world
  pub output : new.output ≡ old.output

module _ (g : Emission) where
  abbrev plan : Plan
  plan = g.plan

  abbrev setting : Setting
  setting = plan.flow.setting

  abbrev m : Machine
  m = setting.machine

  abbrev program : Program
  program = g.program

  abbrev code : Code
  code = code_of setting plan.flow.table

  abbrev planned : IsPlanned plan g.roots g.parts g.entry program
  planned = g.planned

  -- how many cells there are, and how many conditions stand in one another
  abbrev pub most : ℕ
  most = length m.widths

  abbrev pub deep : ℕ
  deep = 17

  -- what one frame takes when it is returned to; for a tail jump it is put aside before
  abbrev pub cost : ℕ
  cost = most + deep + 3

  abbrev pub owes : Member → ℕ
  owes (Call back) = 0
  owes Tail = cost

  abbrev pub owed : List Member → ℕ
  owed [] = 0
  owed (k ∷ calls) = owes k + owed calls

  -- a state of the C at the block of a point of q
  abbrev pub at_point : (q ix : ℕ) → Point → Vars → List Frame → Outer → C.State
  at_point q ix b vars frames outer = st ix (code_at plan q b).stmts (code_at plan q b).end vars frames outer

  -- ---- functions

  pub declared-of : (q : ℕ) (fn : HasFunction plan program q) → Declared program fn.found.index (plan.refs q) fn.found.function.temps
  declared-of q fn = record {
    cells = λ c i. rw (fn.there) (rw (ap (λ l. has l c) fn.params ∙ i) refl);
    temporaries = λ k lt. rw (fn.there) (grind (arith, lt));
    results = λ c. rw (fn.there) refl;
    depth = rw (fn.there) refl;
    flag = rw (fn.there) refl;
    target = rw (fn.there) refl;
  }

  -- the block of a point of the body
  pub block-at : (q : ℕ) (fn : HasFunction plan program q) (b : Point) → Body code q b → block_of (blocks_in (slice_get program.functions fn.found.index)) b ≡ Some (block_c plan q b)
  block-at q fn b inside = ap (λ o. block_of (blocks_in o) b) fn.there ∙ fn.blocks b inside

  -- ---- frames that wait

  -- an address is a return point of a return address: the first one, or the second
  abbrev pub IsBack : ℕ → Bool → ℕ → Type 0
  IsBack back false pc = pc ≡ back
  IsBack back true pc = second setting back ≡ Some pc

  abbrev pub IsReturn : Member → Bool → ℕ → Type 0
  IsReturn (Call back) e pc = IsBack back e pc
  IsReturn Tail e pc = Unit {0}

  abbrev pub bit : Bool → ℕ
  bit false = 0
  bit true = 1

  -- what a frame that waits for t finds when t has returned to it
  pub record Finds (q t depth : ℕ) (vars : Vars) (cells : List ℕ) (e : ℕ) (outer : Outer) : Type 0 where
    pub keeps : (c : ℕ) → In c (plan.refs q) → (In c (plan.mods t) → ⊥) → vars (Cell c) ≡ Some (slice_index cells c)
    pub results : (c : ℕ) → In c (plan.mods t) → outer.globals (Result c) ≡ Some (slice_index cells c)
    pub depth_is : outer.globals Depth ≡ Some (suc depth)
    pub flag_is : outer.globals ServeE ≡ Some e

  -- a caller goes on at an address
  pub record GoesOn (q ix pc depth : ℕ) (cells : List ℕ) (old : Vars) (frames : List Frame) (before : Outer) (x : CNext) : Type 0 where
    pub vars : Vars
    pub outer : Outer
    pub is : x ≡ Goes (at_point q ix (point pc Seq) vars frames outer)
    pub agree : Agree (plan.refs q) cells vars
    pub ra_is : vars Ra ≡ old Ra
    pub depth_is : outer.globals Depth ≡ Some depth
    pub world : SameWorld before outer

  -- what has made a tail jump returns in its turn
  pub record ReturnsOn (q ix depth e : ℕ) (cells : List ℕ) (frames : List Frame) (before : Outer) (x : CNext) : Type 0 where
    pub vars : Vars
    pub outer : Outer
    pub is : x ≡ returned program (st ix [] Return vars frames outer) frames
    pub results : (c : ℕ) → In c (plan.mods q) → outer.globals (Result c) ≡ Some (slice_index cells c)
    pub depth_is : outer.globals Depth ≡ Some depth
    pub flag_is : outer.globals ServeE ≡ Some e
    pub world : SameWorld before outer

  abbrev pub Resumed : Member → (q ix : ℕ) → Vars → Bool → (pc depth : ℕ) → List ℕ → List Frame → Outer → CNext → Type 0
  Resumed (Call back) q ix old e pc depth cells frames before x = GoesOn q ix pc depth cells old frames before x
  Resumed Tail q ix old e pc depth cells frames before x = ReturnsOn q ix depth (bit e) cells frames before x

  abbrev pub HasBack : Member → ℕ → Type 0
  HasBack (Call back) q = (e : Bool) (pc : ℕ) → IsBack back e pc → Body code q (point pc Seq)
  HasBack Tail q = Unit {0}

  -- the frame of q stands behind its call of t, which has put k on the call list above `depth` members
  pub record Resumes (k : Member) (t depth q : ℕ) (f : Frame) : Type 0 where
    pub runs : (cells : List ℕ) (e : Bool) (pc : ℕ) (frames : List Frame) (outer : Outer) → IsReturn k e pc → Finds q t depth f.vars cells (bit e) outer
        → Meets (step program) (λ c. c.outer.output ≡ outer.output) (Resumed k q f.function f.vars e pc depth cells frames outer) cost (Goes (record { top = f; below = frames; outer = outer }))
    pub has_back : HasBack k q

  -- it waits, and goes on as it should when t returns to it
  pub record Held (t q : ℕ) (k : Member) (calls : List Member) (f : Frame) (cells : List ℕ) : Type 0 where
    pub waits : Waits plan g.roots program cells t q k calls f
    pub resumes : Resumes k t (length calls) q f

  -- each lower frame stands behind its call, for its member of the call list
  abbrev pub Below : ℕ → List ℕ → List Member → List Frame → List ℕ → Type 0
  Below t [] [] [] cells = Unit {0}
  Below t (q ∷ callers) (k ∷ calls) (f ∷ frames) cells = Held t q k calls f cells × Below q callers calls frames cells
  Below t _ _ _ cells = ⊥

  pub below-count : (t : ℕ) (callers : List ℕ) (calls : List Member) (frames : List Frame) (cells : List ℕ) → Below t callers calls frames cells → length frames ≡ length calls
  below-count t [] [] [] cells h = refl
  below-count t [] [] (f ∷ frames) cells h = absurd h
  below-count t [] (k ∷ calls) frames cells h = absurd h
  below-count t (q ∷ callers) [] frames cells h = absurd h
  below-count t (q ∷ callers) (k ∷ calls) [] cells h = absurd h
  below-count t (q ∷ callers) (k ∷ calls) (f ∷ frames) cells h = ap suc (below-count q callers calls frames cells h.1)

  -- a step in t changes only cells that t hands back
  pub keep-below : (t : ℕ) (callers : List ℕ) (calls : List Member) (frames : List Frame) (cells new : List ℕ) → ((c : ℕ) → (In c (plan.mods t) → ⊥) → slice_index new c ≡ slice_index cells c)
      → Below t callers calls frames cells → Below t callers calls frames new
  keep-below t [] [] [] cells new same h = tt
  keep-below t [] [] (f ∷ frames) cells new same h = absurd h
  keep-below t [] (k ∷ calls) frames cells new same h = absurd h
  keep-below t (q ∷ callers) [] frames cells new same h = absurd h
  keep-below t (q ∷ callers) (k ∷ calls) [] cells new same h = absurd h
  keep-below t (q ∷ callers) (k ∷ calls) (f ∷ frames) cells new same h =
      let held = h.0.waits in (
        record {
          waits = record {
            fn = held.fn;
            procedure = held.procedure;
            function_is = held.function_is;
            stands = held.stands;
            ra_is = held.ra_is;
            agree = λ c i ni. held.agree c i ni ∙ ap Some (sym (same c ni));
            mods_in = held.mods_in;
          };
          resumes = h.0.resumes;
        },
        keep-below q callers calls frames cells new (λ c ni. same c (λ i. ni (held.mods_in c i))) h.1,
      )

  -- ---- the relation

  -- what holds of the C wherever the top frame stands in q
  pub record Inv (s : State) (q : ℕ) (callers : List ℕ) (vars : Vars) (frames : List Frame) (outer : Outer) : Type 0 where
    pub agree : Agree (plan.refs q) s.cells vars
    pub ra_is : vars Ra ≡ Some (top_ra setting s.control.calls)
    pub below : Below q callers s.control.calls frames s.cells
    pub depth : outer.globals Depth ≡ Some (length s.control.calls)
    pub few : length s.control.calls ≤ most_calls
    pub fit : Fit m s.cells
    pub break_fits : s.heap_end < 2 ^ 32
    pub world : HoldsWorld m s outer

  -- the C stands at the block of the machine's point, in a function whose frames are right
  pub record Related (s : State) (c : C.State) : Type 0 where
    pub q : ℕ
    pub callers : List ℕ
    pub fn : HasFunction plan program q
    pub procedure : Procedure code g.roots q
    pub vars : Vars
    pub frames : List Frame
    pub outer : Outer
    pub is : c ≡ at_point q fn.found.index s.control.point vars frames outer
    pub inside : Body code q s.control.point
    pub target : HoldsTarget s.control.point.slot vars s.control.target
    pub inv : Inv s q callers vars frames outer

  -- a procedure that q can enter: what it gets and hands back is among what q does
  pub record CanEnter (q t : ℕ) : Type 0 where
    pub fn : HasFunction plan program t
    pub procedure : Procedure code g.roots t
    pub refs_in : (c : ℕ) → In c (plan.refs t) → In c (plan.refs q)
    pub mods_in : (c : ℕ) → In c (plan.mods t) → In c (plan.mods q)

  pub can-enter : (q t : ℕ) → Procedure code g.roots t → IsCallee (summarized_of plan g.roots) q t → CanEnter q t
  can-enter q t procedure callee = record {
    fn = planned.functions t procedure;
    procedure = procedure;
    refs_in = λ c i. planned.closed.callee_refs q t c callee i;
    mods_in = λ c i. planned.closed.callee_mods q t c callee i;
  }

  -- ---- the machine's step and the stretches that match it

  abbrev pub Way : List ℕ → MNext → C.State → Type 0
  Way old x c = (c.outer.output ≡ old) ⊎ (c.outer.output ≡ next_out (λ s. s.output) x)

  pub way : (old : List ℕ) (x : MNext) (c : C.State) → c.outer.output ≡ old → Way old x c
  way old x c e = inl e

  abbrev pub Reaches : List ℕ → MNext → ℕ → C.State → Type 0
  Reaches old x k c = Advances (step program) (Way old x) (Matches Related x) k (Goes c)

  -- the state with control elsewhere
  abbrev pub at_control : State → Control → State
  at_control s c = record s { control = c }

  -- a state of the machine that the C has come to
  pub arrived-at : (s : State) (q : ℕ) (callers : List ℕ) (fn : HasFunction plan program q) (vars : Vars) (frames : List Frame) (outer : Outer) → Procedure code g.roots q → Inv s q callers vars frames outer
      → Body code q s.control.point → HoldsTarget s.control.point.slot vars s.control.target → Related s (at_point q fn.found.index s.control.point vars frames outer)
  arrived-at s q callers fn vars frames outer procedure inv inside target = record {
    q = q;
    callers = callers;
    fn = fn;
    procedure = procedure;
    vars = vars;
    frames = frames;
    outer = outer;
    is = refl;
    inside = inside;
    target = target;
    inv = inv;
  }
