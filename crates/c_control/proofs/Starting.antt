-- Before the first step: the first function and the first memory.
use Rattle.std.proofs.Common.{◌≡◌, ℕ, zero, suc, ◌^◌, ◌<◌, List, [], ◌∷◌, ◌++◌, length, map, Option, Some, None, refl, sym, ap, ◌∙◌, subst, arith}
use Rattle.std.specs.Prelude.{slice_index, replicate}
use Rattle.std.proofs.lemmas.List.{length-replicate}
use Rattle.std.proofs.lemmas.Nat.{pow_pos}
use Rattle.lockstep.specs.Runs.{Goes}
use Rattle.rtl_core.specs.declared.conv.Conv.{Conv}
use Rattle.rtl_core.specs.declared.conv.ServiceShape.{ServiceShape}
use Rattle.rtl_core.specs.declared.machine.Machine.{Machine}
use Rattle.rtl_core.specs.declared.machine.WinShape.{WinShape}
use Rattle.rtl_core.specs.declared.point.Slot.TheVariants.{Seq}
use Rattle.rtl_core.specs.FirstMemory.{Part, Block, first_memory, first_cells, first_stack, areas, parts_memory, with_block}
use Rattle.rtl_core.specs.Services.{World}
use Rattle.rtl_core.specs.SoundConv.{IsSoundConv, FitsMachine}
use Rattle.rtl_core.specs.SoundTerms.{Fit}
use Rattle.rtl_core.proofs.FitCells.{fit-set}
use Rattle.points.specs.Bodies.{Code, code_of, Body, Procedure}
use Rattle.points.specs.Courses.{point}
use Rattle.points.specs.Machine.{Setting}
use Rattle.points.specs.Running.{first_state}
use Rattle.c_lang.specs.declared.tree.Header.{Header}
use Rattle.c_lang.specs.declared.tree.Program.{Program}
use Rattle.c_lang.specs.Run as C
use Rattle.c_lang.specs.Run.{part_of, header_areas, first_outer, no_return, started, entered, memory_of}
use Rattle.c_lang.specs.State as CState
use Rattle.c_lang.specs.Step.{function_from, parameters}
use Rattle.c_lower.specs.Contract.{AreWindows}
use Rattle.c_control.specs.Plans.{Plan}
use Rattle.c_control.specs.Programs.{HasFunction, header_for, segment_of}
use Rattle.c_control.proofs.Cells.{AreParameters, are-parameters}
use Rattle.c_control.proofs.Frames.{Emission, Related, at_point}

-- ---- the first cells

index-zeros : (n c : ℕ) → slice_index (replicate n 0) c ≡ 0
index-zeros zero c = refl
index-zeros (suc n) zero = refl
index-zeros (suc n) (suc c) = index-zeros n c

fit-zeros : (m : Machine) → Fit m (replicate (length m.widths) 0)
fit-zeros m = record {
  count = length-replicate (length m.widths) 0;
  each = λ c h. let P : ℕ → Type 0 = λ v. v < 2 ^ slice_index m.widths c in subst P (sym (index-zeros (length m.widths) c)) (pow_pos (slice_index m.widths c));
  zeroed = λ c e. index-zeros (length m.widths) c;
}

-- they fit the machine
fit-first : (m : Machine) (conv : Conv) → IsSoundConv conv → FitsMachine conv m → Fit m (first_cells m conv)
fit-first m conv fine fits =
    let P : ℕ → Type 0 = λ w. first_stack conv < 2 ^ w in
    fit-set m (replicate (length m.widths) 0) conv.stack_cell (first_stack conv) fits.stack.0 (subst P (sym fits.stack.1) fine.first) (λ c e w. fits.moving (e ∙ ap Some (sym w))) (fit-zeros m)

no-windows : (o : Option WinShape) → AreWindows o []
no-windows None = refl
no-windows (Some shape) = tt

-- ---- the first memory

segments-parts : (parts : List Part) → map part_of (map segment_of parts) ≡ parts
segments-parts [] = refl
segments-parts (part ∷ parts) = ap (λ ps. part ∷ ps) (segments-parts parts)

areas-same : (m : Machine) (conv : Conv) (o : Option ServiceShape) → header_areas (header_for m conv o) ≡ areas conv
areas-same m conv None = refl
areas-same m conv (Some s) = refl

heap-same : (m : Machine) (conv : Conv) (o : Option ServiceShape) → (header_for m conv o).heap_base ≡ conv.heap_base
heap-same m conv None = refl
heap-same m conv (Some s) = refl

module _ (g : Emission) where
  abbrev plan : Plan
  plan = g.plan

  abbrev setting : Setting
  setting = plan.flow.setting

  abbrev m : Machine
  m = setting.machine

  abbrev conv : Conv
  conv = setting.conv

  abbrev program : Program
  program = g.program

  abbrev code : Code
  code = code_of setting plan.flow.table

  -- the first memory of the C text is the machine's
  memory-same : (block : Block) → memory_of program block ≡ first_memory g.parts conv block
  memory-same block =
      ap (λ ps. with_block block (parts_memory (ps ++ header_areas program.header))) (ap (map part_of) g.planned.segments ∙ segments-parts g.parts)
      ∙ ap (λ rest. with_block block (parts_memory (g.parts ++ rest))) (ap header_areas g.planned.header ∙ areas-same m conv conv.service)

  pub entry-is : Procedure code g.roots g.entry
  entry-is = Procedure.root g.planned.given

  abbrev first-function : HasFunction plan program g.entry
  first-function = g.planned.functions g.entry entry-is

  abbrev first-variables : AreParameters first-function.found.function no_return (first_cells m conv) (plan.refs g.entry)
  first-variables = are-parameters first-function.found.function no_return (first_cells m conv) (plan.refs g.entry) first-function.params

  module _ (block : Block) (input : List ℕ) where
    -- the C text before its first step
    abbrev pub begin : CState.State
    begin = at_point g g.entry first-function.found.index (point g.entry Seq) first-variables.vars [] (first_outer program block input)

    pub begins : C.first_state program block input ≡ Goes begin
    begins =
        ap (λ k. started program block input (function_from 0 program.functions k)) g.planned.starts
        ∙ ap (started program block input) first-function.is
        ∙ ap (λ ns. entered program block input first-function.found (parameters first-function.found.function (no_return ∷ ns))) g.planned.first
        ∙ ap (entered program block input first-function.found) first-variables.is
        ∙ ap (λ place. let c : CState.State = record { top = record { function = first-function.found.index; place = place; vars = first-variables.vars }; below = []; outer = first_outer program block input } in Goes c) first-function.first

    -- it stands where the machine begins
    pub related-first : Related g (first_state setting (first_memory g.parts conv block) g.entry input) begin
    related-first = record {
      q = g.entry;
      callers = [];
      fn = first-function;
      procedure = entry-is;
      vars = first-variables.vars;
      frames = [];
      outer = first_outer program block input;
      is = refl;
      inside = Body.first;
      target = tt;
      inv = record {
        agree = first-variables.agree;
        ra_is = first-variables.ra_is;
        below = tt;
        depth = refl;
        few = omega arith;
        fit = fit-first m conv g.planned.sound.conv g.planned.sound.fits;
        break_fits = let heap = g.planned.sound.conv.heap in omega (arith, heap.some, heap.end);
        world = record {
          count = refl;
          few = omega arith;
          words = tt;
          windows = no-windows m.windows;
          world =
              ap (λ x. let w : World = record { memory = x; input = input; heap_end = program.header.heap_base } in w) (memory-same block)
              ∙ ap (λ x. let w : World = record { memory = first_memory g.parts conv block; input = input; heap_end = x } in w) (ap (λ (h : Header). h.heap_base) g.planned.header ∙ heap-same m conv conv.service);
          output = refl;
        };
      };
    }
