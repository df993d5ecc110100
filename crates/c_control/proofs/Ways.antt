-- The ways behind an instruction, by whether it jumped and whether it annuls.
use Rattle.std.proofs.Common.{◌≡◌, ℕ, suc, ◌+◌, ◌*◌, ◌%◌, Bool, true, false, [], ◌∷◌, Some, refl, ◌∙◌}
use Rattle.std.specs.Prelude.{slice_get, if◌then◌else◌}
use Rattle.lockstep.specs.Runs.{Goes}
use Rattle.rtl_core.specs.declared.point.Point.{Point}
use Rattle.rtl_core.specs.declared.point.Slot.{Slot}
use Rattle.rtl_core.specs.Arithmetic.{flag}
use Rattle.points.specs.declared.block.Course.{Course}
use Rattle.points.specs.declared.block.Course.TheVariants.{On, Arrives as Arriving, Couples}
use Rattle.points.specs.declared.block.Mode.{Mode}
use Rattle.points.specs.declared.block.Mode.TheVariants.{Never, Maybe, Always}
use Rattle.points.specs.Machine.{Setting}
use Rattle.points.specs.Courses.{possible}
use Rattle.points.specs.Control.{arrived}
use Rattle.points.specs.Bodies.{Code, code_of, Body}
use Rattle.points.specs.Running.{State, moved}
use Rattle.c_lang.specs.declared.tree.CBlock.{CBlock}
use Rattle.c_lang.specs.declared.tree.COp.TheVariants.{Add, Mul}
use Rattle.c_lang.specs.declared.tree.CExpr.TheVariants.{Num, Of, Bin}
use Rattle.c_lang.specs.declared.tree.End.{End}
use Rattle.c_lang.specs.declared.tree.End.TheVariants.{Goto, Branch}
use Rattle.c_lang.specs.declared.tree.Program.{Program}
use Rattle.c_lang.specs.declared.tree.Var.TheVariants.{Temp}
use Rattle.c_lang.specs.Value.{Vars, value}
use Rattle.c_lang.specs.Step.{step, block_of, blocks_in, case_of}
use Rattle.c_lang.proofs.StepsFrom.{step-Goto}
use Rattle.c_lang.proofs.ValueLaws.{value-Num, value-Of}
use Rattle.c_control.specs.Blocks.{block_c, labelled, arrival_code, ways, case, can_arrive}
use Rattle.c_control.specs.Frames.{HoldsTarget}
use Rattle.c_control.specs.Pieces.{jumped_c, annuls_c, flags_c, couple_stop}
use Rattle.c_control.specs.Plans.{Plan}
use Rattle.c_control.proofs.Steps.{st, seen, bin, op-Add, op-Mul, step-Branch, step-Switch}
use Rattle.c_control.proofs.Frames.{Emission, block-at, owed}
use Rattle.c_control.proofs.Arrivals.{Stand, Pays, Reaches, here, output-is, pay_one}
use Rattle.c_control.proofs.Landing.{Arrives, at_place, arrival_cost, arrival_run, lands_run}

-- the number of a jump and an annul
abbrev pub flag_number : Bool → Bool → ℕ
flag_number false false = 0
flag_number true false = 1
flag_number false true = 2
flag_number true true = 3

-- one of four
abbrev pub way_of : {A : Type 0} → (jumps annuls : Bool) → (a b c d : A) → A
way_of false false a b c d = a
way_of true false a b c d = b
way_of false true a b c d = c
way_of true true a b c d = d

-- where that leads
abbrev pub way_course : (jumps annuls : Bool) → (stays jumps annuls : Point) → Slot → Course
way_course jumps annuls a b c slot = way_of jumps annuls (On a) (On b) (On c) (Arriving slot)

-- a temporary holds whether something was done, where that can come out in two ways
abbrev pub ReadsIf : Mode → ℕ → Bool → Vars → Type 0
ReadsIf Maybe k b vars = vars (Temp k) ≡ Some (flag b)
ReadsIf mode k b vars = Unit {0}

pub reads-if : (mode : Mode) (k : ℕ) (b : Bool) (vars : Vars) → vars (Temp k) ≡ Some (flag b) → ReadsIf mode k b vars
reads-if Never k b vars e = tt
reads-if Maybe k b vars e = e
reads-if Always k b vars e = tt

pub flags-value : (env : Vars) (jumps annuls : Bool) → env (Temp 1) ≡ Some (flag jumps) → env (Temp 2) ≡ Some (flag annuls) → value env flags_c ≡ Some (flag_number jumps annuls)
flags-value env jumps annuls e f =
    bin env Add jumped_c (Bin Mul (Num 2) annuls_c) (flag jumps) (2 * flag annuls) (flag_number jumps annuls) (value-Of env (Temp 1) ∙ e)
    (bin env Mul (Num 2) annuls_c 2 (flag annuls) (2 * flag annuls) (value-Num env 2) (value-Of env (Temp 2) ∙ f) (op-Mul 2 (flag annuls) ∙ twice annuls)) (op-Add (flag jumps) (2 * flag annuls) ∙ sum jumps annuls)
  where
    twice : (b : Bool) → Some ((2 * flag b) % Rattle.c_lang.specs.Value.word) ≡ Some (2 * flag b)
    twice true = refl
    twice false = refl

    sum : (a b : Bool) → Some ((flag a + 2 * flag b) % Rattle.c_lang.specs.Value.word) ≡ Some (flag_number a b)
    sum false false = refl
    sum true false = refl
    sum false true = refl
    sum true true = refl

pub can-arrive : (j a : Mode) → possible j true ≡ true → possible a true ≡ true → can_arrive j a ≡ true
can-arrive Never a e f = let no : ⊥ = cc in absurd no
can-arrive Maybe Never e f = let no : ⊥ = cc in absurd no
can-arrive Maybe Maybe e f = refl
can-arrive Maybe Always e f = refl
can-arrive Always Never e f = let no : ⊥ = cc in absurd no
can-arrive Always Maybe e f = refl
can-arrive Always Always e f = refl

module _ (g : Emission) where
  abbrev plan : Plan
  plan = g.plan

  abbrev setting : Setting
  setting = plan.flow.setting

  abbrev program : Program
  program = g.program

  abbrev code : Code
  code = code_of setting plan.flow.table

  -- where a course leads belongs to the body, and an arrival can be made
  abbrev pub LandsIn : ℕ → Course → Type 0
  LandsIn q (On p) = Body code q p
  LandsIn q (Arriving slot) = Arrives g q slot
  LandsIn q Couples = Unit {0}

  -- one step to some block of the function, which need not be that of a point
  abbrev pub HasBlock : (q ix : ℕ) → Point → CBlock → Type 0
  HasBlock q ix label b = block_of (blocks_in (slice_get program.functions ix)) label ≡ Some b

  -- an end that leads to one of four labels by the flags
  abbrev pub LeadsBy : (s : State) → Stand g s → End → Point → Type 0
  LeadsBy s t end label = (b : CBlock) → HasBlock t.q t.fn.found.index label b → step program (here g s t [] end) ≡ Goes (st t.fn.found.index b.stmts b.end t.vars t.frames t.outer)

  goto-leads : (s : State) (t : Stand g s) (label : Point) → LeadsBy s t (Goto label) label
  goto-leads s t label = λ b found. step-Goto program (here g s t [] (Goto label)) label b refl found

  branch-leads : (s : State) (t : Stand g s) (k : ℕ) (b : Bool) (first second : Point) → t.vars (Temp k) ≡ Some (flag b) → LeadsBy s t (Branch (Of (Temp k)) first second) (if b then first else second)
  branch-leads s t k true first second e = λ b found. step-Branch program (here g s t [] (Branch (Of (Temp k)) first second)) (Of (Temp k)) 1 first second b refl (value-Of (seen t.vars t.outer) (Temp k) ∙ e) found
  branch-leads s t k false first second e = λ b found. step-Branch program (here g s t [] (Branch (Of (Temp k)) first second)) (Of (Temp k)) 0 first second b refl (value-Of (seen t.vars t.outer) (Temp k) ∙ e) found

  -- the end that chooses leads the right way
  pub ways-lead : (s : State) (t : Stand g s) (j a : Mode) (jumps annuls : Bool) (stays jmp ann both : Point) → possible j jumps ≡ true → possible a annuls ≡ true → ReadsIf j 1 jumps t.vars → ReadsIf a 2 annuls t.vars
      → LeadsBy s t (ways j a stays jmp ann both) (way_of jumps annuls stays jmp ann both)
  ways-lead s t Never Never false false stays jmp ann both e f h k = goto-leads s t stays
  ways-lead s t Never Never true annuls stays jmp ann both e f h k = let no : ⊥ = cc in absurd no
  ways-lead s t Never Never false true stays jmp ann both e f h k = let no : ⊥ = cc in absurd no
  ways-lead s t Never Maybe false false stays jmp ann both e f h k = branch-leads s t 2 false ann stays k
  ways-lead s t Never Maybe false true stays jmp ann both e f h k = branch-leads s t 2 true ann stays k
  ways-lead s t Never Maybe true annuls stays jmp ann both e f h k = let no : ⊥ = cc in absurd no
  ways-lead s t Never Always false true stays jmp ann both e f h k = goto-leads s t ann
  ways-lead s t Never Always false false stays jmp ann both e f h k = let no : ⊥ = cc in absurd no
  ways-lead s t Never Always true annuls stays jmp ann both e f h k = let no : ⊥ = cc in absurd no
  ways-lead s t Maybe Never false false stays jmp ann both e f h k = branch-leads s t 1 false jmp stays h
  ways-lead s t Maybe Never true false stays jmp ann both e f h k = branch-leads s t 1 true jmp stays h
  ways-lead s t Maybe Never jumps true stays jmp ann both e f h k = let no : ⊥ = cc in absurd no
  ways-lead s t Maybe Always false true stays jmp ann both e f h k = branch-leads s t 1 false both ann h
  ways-lead s t Maybe Always true true stays jmp ann both e f h k = branch-leads s t 1 true both ann h
  ways-lead s t Maybe Always jumps false stays jmp ann both e f h k = let no : ⊥ = cc in absurd no
  ways-lead s t Always Never true false stays jmp ann both e f h k = goto-leads s t jmp
  ways-lead s t Always Never false annuls stays jmp ann both e f h k = let no : ⊥ = cc in absurd no
  ways-lead s t Always Never true true stays jmp ann both e f h k = let no : ⊥ = cc in absurd no
  ways-lead s t Always Maybe true false stays jmp ann both e f h k = branch-leads s t 2 false both jmp k
  ways-lead s t Always Maybe true true stays jmp ann both e f h k = branch-leads s t 2 true both jmp k
  ways-lead s t Always Maybe false annuls stays jmp ann both e f h k = let no : ⊥ = cc in absurd no
  ways-lead s t Always Always true true stays jmp ann both e f h k = goto-leads s t both
  ways-lead s t Always Always false annuls stays jmp ann both e f h k = let no : ⊥ = cc in absurd no
  ways-lead s t Always Always true false stays jmp ann both e f h k = let no : ⊥ = cc in absurd no
  ways-lead s t Maybe Maybe jumps annuls stays jmp ann both e f h k = λ b found.
      step-Switch program (here g s t [] (ways Maybe Maybe stays jmp ann both)) flags_c (case 0 stays ∷ case 1 jmp ∷ case 2 ann ∷ case 3 both ∷ []) (flag_number jumps annuls) couple_stop (Num 0) (way_of jumps annuls stays jmp ann both) b refl
      (flags-value (seen t.vars t.outer) jumps annuls h k) (hits jumps annuls) found
    where
      hits : (jumps annuls : Bool) → case_of (case 0 stays ∷ case 1 jmp ∷ case 2 ann ∷ case 3 both ∷ []) (flag_number jumps annuls) ≡ Some (way_of jumps annuls stays jmp ann both)
      hits false false = refl
      hits true false = refl
      hits false true = refl
      hits true true = refl

  -- an end that leads to the label of a point
  pub lead_to : (s : State) (t : Stand g s) (end : End) (p : Point) (target : ℕ) → LeadsBy s t end p → Body code t.q p → HoldsTarget p.slot t.vars target → Reaches g s.output (Goes (at_place g s p target)) 0 (Goes (here g s t [] end))
  lead_to s t end p target leads inside holds =
      lands_run g s t p target (here g s t [] end) (output-is g s t) (leads (block_c plan t.q p) (block-at g t.q t.fn p inside)) inside holds

  -- an end that leads to the further block of an arrival
  pub lead_further : (s : State) (t : Stand g s) (end : End) (label : Point) (slot : Slot) → LeadsBy s t end label → HasBlock t.q t.fn.found.index label (labelled label (arrival_code plan t.q slot)) → Arrives g t.q slot
      → HoldsTarget slot t.vars s.control.target → Pays g (suc (arrival_cost g)) s.output (moved (arrived plan.flow slot s.control) s) (owed g s.control.calls) (Goes (here g s t [] end))
  lead_further s t end label slot leads found fit holds =
      pay_one g (arrival_cost g) s.output (moved (arrived plan.flow slot s.control) s) (owed g s.control.calls) (here g s t [] end) (Goes (here g s t (arrival_code plan t.q slot).stmts (arrival_code plan t.q slot).end)) (output-is g s t)
      (leads (labelled label (arrival_code plan t.q slot)) found) (arrival_run g s t slot fit holds)
