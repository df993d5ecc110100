-- The blocks of the points of a body have forms.
use Rattle.std.proofs.Common.{◌≡◌, ℕ, ◌<◌, ◌≤◌, ◌^◌, Bool, true, false, ◌&&◌, if◌then◌else◌, Option, Some, None, List, [], ◌∷◌, ◌++◌, length, All, refl, sym, ap, ◌∙◌, subst, arith}
use Rattle.std.specs.Prelude.{not, IfSome}
use Rattle.std.proofs.lemmas.List.Elements.{All-nil, All-cons, All-append}
use Rattle.rtl_core.specs.declared.expr.Expr.{Expr}
use Rattle.rtl_core.specs.declared.inst.GroundInst.{GroundInst}
use Rattle.rtl_core.specs.declared.machine.Machine.{Machine}
use Rattle.rtl_core.specs.declared.point.Point.{Point}
use Rattle.rtl_core.specs.declared.point.Slot.{Slot}
use Rattle.rtl_core.specs.declared.point.Slot.TheVariants.{Seq, To, Dyn, CallTo, CallDyn, Ret}
use Rattle.rtl_core.specs.SoundTerms.{is_service}
use Rattle.points.specs.declared.block.Block.{Block}
use Rattle.points.specs.declared.block.JumpKind.{JumpKind}
use Rattle.points.specs.Machine.{Setting}
use Rattle.points.specs.Bodies.{Code, code_of, Body}
use Rattle.points.specs.Courses.{pending, jump_mode, annul_mode, halts}
use Rattle.points.specs.Kinds.{block_at}
use Rattle.points.proofs.StandingSound.{standing-sound}
use Rattle.points.proofs.StepLaws.{standing-next}
use Rattle.c_lang.specs.declared.tree.CBlock.{CBlock}
use Rattle.c_lang.specs.declared.tree.CExpr.TheVariants.{Num}
use Rattle.c_lang.specs.declared.tree.End.TheVariants.{Finish}
use Rattle.c_lang.specs.declared.tree.Stmt.{Stmt}
use Rattle.c_lang.specs.State.{has}
use Rattle.c_lang.specs.Spellable.{point_misfits, BlockHasForm}
use Rattle.c_lang.proofs.SpellingLaws.{fits}
use Rattle.c_lower.specs.Lowered.{lowered}
use Rattle.c_lower.specs.Theorem.{IsLowered}
use Rattle.c_lower.proofs.Acts.{is_lowered}
use Rattle.c_control.specs.Blocks.{Code as CCode, ends, never, arrival_code, control_code, code_behind, code_of_block, code_at, labelled, block_c, leaves_apart, annul_for, further_of_block, further_at, further_c}
use Rattle.c_control.specs.Pieces.{illegal_stop, undiscovered_stop}
use Rattle.c_control.specs.Plans.{Plan, further_label}
use Rattle.c_control.specs.Services.{served_c, does}
use Rattle.c_control.proofs.Frames.{Emission}
use Rattle.c_control.proofs.Naming.{is-naming}
use Rattle.c_control.proofs.Performing.{stands}
use Rattle.c_program.proofs.Instructions.{few_temporaries}
use Rattle.c_program.proofs.SmallPoints.{SmallPoint, SmallSlot}
use Rattle.c_forms.proofs.Fine.{small-num, Fine, fine-form, fine-more, tidy-fine}
use Rattle.c_forms.proofs.PiecesFine.{due-fine}
use Rattle.c_forms.proofs.CodeFine.{CodeFine, EndFine, SlotFits, KindFits, IsNarrow, ends-fine, finish-fine, never-fine, arrival-fine, control-fine}

-- code under a label that fits is a block with a form
labelled-form : (label : Point) (c : CCode) → point_misfits label ≡ 0 → CodeFine c → BlockHasForm (labelled label c)
labelled-form label c fit h =
    record { label = fit; stmts = fine-form 20 c.stmts (omega arith) h.stmts; end_exprs = let e = h.end.exprs in omega (arith, e); end_numbers = h.end.numbers }

module _ (g : Emission) (narrow : IsNarrow g.plan)
    (kinds : (pc : ℕ) (inst : GroundInst) (kind : JumpKind) → pc < 2 ^ 32 → block_at g.plan.flow.setting pc ≡ Block.Inst inst kind → KindFits kind) where
  abbrev plan : Plan
  plan = g.plan

  abbrev setting : Setting
  setting = plan.flow.setting

  abbrev m : Machine
  m = setting.machine

  abbrev program : Code
  program = code_of setting plan.flow.table

  module _ (p : ℕ) (b : Point) (inside : Body program p b) (at : SmallPoint b) (fit : SlotFits b.slot) where
    -- the statements of an instruction
    lowered-fine : (inst : GroundInst) (kind : JumpKind) → block_at setting b.pc ≡ Block.Inst inst kind → All (Fine 20) (lowered m b.pc inst.transfers [])
    lowered-fine inst kind e =
        let sound = g.planned.sound.machine.machine in
        let need = few_temporaries setting b.pc inst kind sound at.0 e in
        let low : IsLowered m b.pc inst.transfers (has (plan.refs p)) 500 =
        is_lowered m (record { widths = sound.widths; windows = sound.windows }) b.pc at.0 inst.transfers (standing-sound setting b.pc inst sound at.0 (stands setting b.pc inst kind e)) (has (plan.refs p))
        (is-naming g p b inst kind inside e) 500 (omega (arith, need)) in
        let count = sound.count in
        fine-more 2 20 (lowered m b.pc inst.transfers []) (omega arith)
        (tidy-fine (has (plan.refs p)) 500 (λ c h. let lt = (g.planned.closed.moving p c h).0 in omega (arith, lt, count)) (omega arith) low.tidy)

    served-fine : (inst : GroundInst) (rest : List Stmt) → All (Fine 20) rest → All (Fine 20) (served_c m setting.conv inst.transfers rest)
    served-fine inst rest h = due-fine m g.planned.sound.machine.machine.count 19 (does is_service inst.transfers) setting.conv.service rest g.planned.sound.fits.cells h

    behind-fine : (inst : GroundInst) (kind : JumpKind) → block_at setting b.pc ≡ Block.Inst inst kind → CodeFine (code_behind plan p b inst kind)
    behind-fine inst kind e = by (halts inst.transfers)
      where
        control : CodeFine (control_code plan p b inst kind)
        control =
            control-fine plan narrow p b.pc inst.next b.slot kind (jump_mode inst.transfers) (annul_mode inst.transfers) at.0 (standing-next setting b.pc inst (stands setting b.pc inst kind e)) at.1 (kinds b.pc inst kind at.0 e)

        by : (stop : Bool) → CodeFine (if stop then ends never else let c = control_code plan p b inst kind in record { stmts = served_c m setting.conv inst.transfers c.stmts; end = c.end })
        by true = ends-fine never never-fine
        by false = record { stmts = served-fine inst (control_code plan p b inst kind).stmts control.stmts; end = control.end }

    code-fine : (k : Block) → block_at setting b.pc ≡ k → CodeFine (code_of_block plan p b k)
    code-fine Block.Outside e = ends-fine (Finish undiscovered_stop (Num b.pc)) (finish-fine undiscovered_stop (Num b.pc) (omega arith) (let lt = at.0 in small-num b.pc (omega (arith, lt))))
    code-fine Block.Illegal e = ends-fine (Finish illegal_stop (Num b.pc)) (finish-fine illegal_stop (Num b.pc) (omega arith) (let lt = at.0 in small-num b.pc (omega (arith, lt))))
    code-fine (Block.Inst inst kind) e =
        let c = behind-fine inst kind e in
        record { stmts = All-append (Fine 20) (lowered m b.pc inst.transfers []) (code_behind plan p b inst kind).stmts (lowered-fine inst kind e) c.stmts; end = c.end }

    label-fits : point_misfits b ≡ 0
    label-fits = let lt = at.0 in omega (arith, fits 32 b.pc lt, fit)

    -- the block of a point
    pub block-form : BlockHasForm (block_c plan p b)
    block-form = labelled-form b (code_at plan p b) label-fits (code-fine (block_at setting b.pc) refl)

    -- the further block of a point
    further-made : (k : Block) → block_at setting b.pc ≡ k → IfSome (further_of_block plan p b.pc k) BlockHasForm
    further-made Block.Outside e = tt
    further-made Block.Illegal e = tt
    further-made (Block.Inst inst kind) e =
        by (not (halts inst.transfers) && leaves_apart plan (jump_mode inst.transfers) (annul_for m.delay (annul_mode inst.transfers)) (pending b.pc kind))
      where
        made : BlockHasForm (labelled (further_label b.pc) (arrival_code plan p (pending b.pc kind)))
        made =
            let lt = at.0 in
            labelled-form (further_label b.pc) (arrival_code plan p (pending b.pc kind)) (omega (arith, fits 32 b.pc lt)) (arrival-fine plan narrow p (pending b.pc kind) (kinds b.pc inst kind at.0 e b.pc at.0).0)

        by : (apart : Bool) → IfSome (if apart then Some (labelled (further_label b.pc) (arrival_code plan p (pending b.pc kind))) else None) BlockHasForm
        by true = made
        by false = tt

    further-by : (slot : Slot) → IfSome (further_at plan p b.pc slot) BlockHasForm
    further-by Seq = further-made (block_at setting b.pc) refl
    further-by (To t) = tt
    further-by (Dyn a) = tt
    further-by (CallTo t back) = tt
    further-by (CallDyn back) = tt
    further-by Ret = tt

    pub further-form : IfSome (further_c plan p b) BlockHasForm
    further-form = further-by b.slot
