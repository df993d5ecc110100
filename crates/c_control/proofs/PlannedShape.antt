-- The text of a plan has its shape.
use Rattle.std.proofs.Common.{◌≡◌, ℕ, ◌+◌, Bool, true, false, ◌&&◌, ◌||◌, List, [], ◌∷◌, length, Some, None, refl, sym, ap, ◌∙◌}
use Rattle.std.specs.Prelude.{◌==◌, not, is_some, if◌then◌else◌, slice_index}
use Rattle.std.specs.List.{list_any}
use Rattle.std.proofs.lemmas.Bool.{eqb-true}
use Rattle.std.proofs.lemmas.List.{length-map}
use Rattle.rtl_core.specs.declared.inst.GroundInst.{GroundInst}
use Rattle.rtl_core.specs.declared.point.Point.{Point}
use Rattle.rtl_core.specs.declared.transfer.Transfer.{Transfer}
use Rattle.rtl_core.specs.FirstMemory.{first_cells}
use Rattle.rtl_core.specs.SoundTerms.{is_jump}
use Rattle.points.specs.declared.block.Block.{Block}
use Rattle.points.specs.declared.block.Block.TheVariants.{Inst}
use Rattle.points.specs.declared.block.JumpKind.{JumpKind}
use Rattle.points.specs.declared.block.Mode.TheVariants.{Never, Maybe, Always}
use Rattle.points.specs.Kinds.{block_at, jump_target}
use Rattle.points.specs.Machine.{Setting}
use Rattle.points.specs.Courses.{pending, does_always, jump_mode, annul_mode, halts}
use Rattle.points.specs.Bodies.{Procedure}
use Rattle.c_lang.specs.declared.tree.Function.{Function}
use Rattle.c_lang.specs.Step.{Found, function_from}
use Rattle.c_control.specs.Blocks.{block_c, code, ends, never, labelled, control_code, code_behind, code_of_block, code_at, arrival_code, leaves_apart, annul_for, further_of_block, further_at}
use Rattle.c_control.specs.Plans.{Plan, further_label}
use Rattle.c_control.specs.Programs.{HasFunction}
use Rattle.c_control.specs.Services.{served_c}
use Rattle.c_control.specs.Shape.{AllLead, GoesOn, HasFunctionOf, PlannedHasShape}
use Rattle.c_control.proofs.Coming.{course-next-in}
use Rattle.c_control.proofs.Controlling.{and-true}
use Rattle.c_control.proofs.Frames.{Emission}
use Rattle.c_control.proofs.Gotos.{control-leads}
use Rattle.c_control.proofs.Modes.{kind-at, never-to, no-target}

-- what is found at an address stands there
entry-is : (i : ℕ) (fs : List Function) (p : ℕ) (found : Found) → function_from i fs p ≡ Some found → found.function.entry ≡ p
entry-is i [] p found e = let no : ⊥ = cc in absurd no
entry-is i (f ∷ fs) p found e = by (f.entry == p) refl e (entry-is (i + 1) fs p found)
  where
    by : (b : Bool) → (f.entry == p) ≡ b → (if b then Some (record { index = i; function = f }) else function_from (i + 1) fs p) ≡ Some found → (function_from (i + 1) fs p ≡ Some found → found.function.entry ≡ p) → found.function.entry ≡ p
    by true same e rest = let is : record { index = i; function = f } ≡ found = cc in ap (λ (x : Found). x.function.entry) (sym is) ∙ eqb-true f.entry p same
    by false other e rest = rest e

-- an instruction without a jump never jumps
none-always : (ts : List Transfer) → list_any (λ t. is_jump t.act) ts ≡ false → list_any (does_always is_jump) ts ≡ false
none-always [] e = refl
none-always (t ∷ ts) e = by (is_some t.guard) (is_jump t.act) refl refl e (none-always ts)
  where
    by : (g k : Bool) → is_some t.guard ≡ g → is_jump t.act ≡ k → (is_jump t.act || list_any (λ t. is_jump t.act) ts) ≡ false → (list_any (λ t. is_jump t.act) ts ≡ false → list_any (does_always is_jump) ts ≡ false)
        → ((not (is_some t.guard) && is_jump t.act) || list_any (does_always is_jump) ts) ≡ false
    by g true x y e rest = let no : true ≡ false = sym (ap (λ b. b || list_any (λ t. is_jump t.act) ts) y) ∙ e in let none : ⊥ = cc in absurd none
    by true false x y e rest = ap (λ b. (not b && is_jump t.act) || list_any (does_always is_jump) ts) x ∙ rest (sym (ap (λ b. b || list_any (λ t. is_jump t.act) ts) y) ∙ e)
    by false false x y e rest = ap (λ b. (not b && is_jump t.act) || list_any (does_always is_jump) ts) x ∙ ap (λ b. b || list_any (does_always is_jump) ts) y ∙ rest (sym (ap (λ b. b || list_any (λ t. is_jump t.act) ts) y) ∙ e)

never-mode : (setting : Setting) (inst : GroundInst) (pc : ℕ) (kind : JumpKind) → block_at setting pc ≡ Inst inst kind → kind ≡ JumpKind.Never → jump_mode inst.transfers ≡ Never
never-mode setting inst pc kind stands never =
    let none = no-target inst.transfers (never-to setting inst (jump_target inst.transfers) (sym (kind-at setting inst pc kind stands) ∙ never)) in
    ap (λ (b : Bool). if b then Always else if list_any (λ (t : Transfer). is_jump t.act) inst.transfers then Maybe else Never) (none-always inst.transfers none) ∙ ap (λ (b : Bool). if b then Maybe else Never) none

module _ (g : Emission) (p : ℕ) (b : Point) where
  abbrev plan : Plan
  plan = g.plan

  -- the block of an instruction
  inst-leads : (inst : GroundInst) (kind : JumpKind) → block_at plan.flow.setting b.pc ≡ Inst inst kind → AllLead (GoesOn plan p b) (code_behind plan p b inst kind).end
  inst-leads inst kind stands = by (halts inst.transfers) refl
    where
      by : (h : Bool) → halts inst.transfers ≡ h
          → AllLead (GoesOn plan p b) (if h then ends never else let c = control_code plan p b inst kind in code (served_c plan.flow.setting.machine plan.flow.setting.conv inst.transfers c.stmts) c.end).end
      by true e = tt
      by false e =
          control-leads plan p b (GoesOn plan p b) (λ to l. GoesOn.leads l) b.pc inst.next (jump_mode inst.transfers) (annul_mode inst.transfers) b.slot kind
          (λ x y ej ea. course-next-in g b inst kind x y stands e ej ea) (never-mode plan.flow.setting inst b.pc kind stands)
          (λ fresh apart. GoesOn.further {more = labelled (further_label b.pc) (arrival_code plan p (pending b.pc kind))}
          (ap (further_at plan p b.pc) fresh ∙ ap (further_of_block plan p b.pc) stands
          ∙ ap (λ (x : Bool). if x then Some (labelled (further_label b.pc) (arrival_code plan p (pending b.pc kind))) else None)
          (and-true (not (halts inst.transfers)) (leaves_apart plan (jump_mode inst.transfers) (annul_for plan.flow.setting.machine.delay (annul_mode inst.transfers)) (pending b.pc kind)) (ap not e) apart)))

  -- the block of a point
  block-leads : AllLead (GoesOn plan p b) (code_at plan p b).end
  block-leads = by (block_at plan.flow.setting b.pc) refl
    where
      by : (k : Block) → block_at plan.flow.setting b.pc ≡ k → AllLead (GoesOn plan p b) (code_of_block plan p b k).end
      by Block.Outside e = tt
      by Block.Illegal e = tt
      by (Inst inst kind) e = inst-leads inst kind e

function-of : (g : Emission) (p : ℕ) → HasFunction g.plan g.program p → HasFunctionOf g.plan g.program p
function-of g p fn = record {
  index = fn.found.index;
  function = fn.found.function;
  there = fn.there;
  is = record {
    entry = entry-is 0 g.program.functions p fn.found fn.is;
    params = fn.params;
    begins = fn.first;
    blocks = λ b inside. record { block = block_c g.plan p b; there = fn.blocks b inside; label = refl; stmts = refl; end = refl; leads = block-leads g p b };
    further = fn.further;
  };
}

pub planned-has-shape : PlannedHasShape
planned-has-shape plan roots parts entry program planned =
    let g : Emission = record { plan = plan; roots = roots; parts = parts; entry = entry; program = program; planned = planned } in
    record {
      functions = λ p is. function-of g p (planned.functions p is);
      starts = planned.starts;
      starts_in = Procedure.root planned.given;
      first = ap length planned.first ∙ length-map (plan.refs entry) (λ c. slice_index (first_cells plan.flow.setting.machine plan.flow.setting.conv) c);
      header = planned.header;
      segments = planned.segments;
    }
