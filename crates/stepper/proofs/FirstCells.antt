-- The first cells fit their machine.
use Rattle.std.proofs.Common.{◌≡◌, ℕ, zero, suc, ◌^◌, ◌<◌, length, List, [], Some, refl, sym, ap, ◌∙◌, subst, arith}
use Rattle.std.specs.Prelude.{slice_index, replicate}
use Rattle.std.proofs.lemmas.Nat.{pow_pos}
use Rattle.rtl_core.specs.declared.conv.Conv.{Conv}
use Rattle.rtl_core.specs.declared.machine.Machine.{Machine}
use Rattle.rtl_core.specs.FirstMemory.{first_cells, first_stack}
use Rattle.rtl_core.specs.SoundConv.{IsSoundConv, FitsMachine, AreSoundTogether}
use Rattle.rtl_core.specs.SoundTerms.{Fit}
use Rattle.rtl_core.proofs.FitCells.{fit-set}
use Rattle.rtl_meaning.specs.Saved.{HaveShape, Fits}
use Rattle.rtl_core.specs.declared.point.Slot.TheVariants.{Seq}
use Rattle.rtl_core.specs.Contents.{Contents}
use Rattle.sysemu.specs.Streams.{Flow}
use Rattle.points.specs.Machine.{Setting, State, first_state}

index-zeros : (n c : ℕ) → slice_index (replicate n 0) c ≡ 0
index-zeros zero c = refl
index-zeros (suc n) zero = refl
index-zeros (suc n) (suc c) = index-zeros n c

length-zeros : (n : ℕ) → length {A = ℕ} (replicate n 0) ≡ n
length-zeros zero = refl
length-zeros (suc n) = ap suc (length-zeros n)

fit-zeros : (m : Machine) → Fit m (replicate (length m.widths) 0)
fit-zeros m = record {
  count = length-zeros (length m.widths);
  each = λ c h. let P : ℕ → Type 0 = λ v. v < 2 ^ slice_index m.widths c in subst P (sym (index-zeros (length m.widths) c)) (pow_pos (slice_index m.widths c));
  zeroed = λ c e. index-zeros (length m.widths) c;
}

fit-first : (m : Machine) (conv : Conv) → IsSoundConv conv → FitsMachine conv m → Fit m (first_cells m conv)
fit-first m conv fine fits =
    let P : ℕ → Type 0 = λ w. first_stack conv < 2 ^ w in
    fit-set m (replicate (length m.widths) 0) conv.stack_cell (first_stack conv) fits.stack.0 (subst P (sym fits.stack.1) fine.first) (λ c e w. fits.moving (e ∙ ap Some (sym w))) (fit-zeros m)

-- and so do they with saved windows of the machine, and the first break has 32 bits
pub fits-first : (setting : Setting) (cells : List ℕ) (saved : List (List ℕ)) (flow : Flow) (input : List ℕ) → AreSoundTogether setting.encodings setting.machine setting.conv
    → cells ≡ first_cells setting.machine setting.conv → HaveShape setting.machine saved → flow ≡ record { input = input; pending = []; heap_end = setting.conv.heap_base }
    → Fits setting.machine cells saved × (flow.heap_end < 2 ^ 32)
fits-first setting cells saved flow input sound c shape f =
    let heap = sound.conv.heap in
    let is : flow.heap_end ≡ setting.conv.heap_base = ap (λ x. x.heap_end) f in
    let fits : Fits setting.machine cells saved = record {
      widths = sound.machine.machine.widths;
      windows = sound.machine.machine.windows;
      fit = subst (Fit setting.machine) (sym c) (fit-first setting.machine setting.conv sound.conv sound.fits);
      shape = shape;
    } in
    (fits, omega (arith, is, heap.some, heap.end))

-- the state of these parts
abbrev pub begun : List ℕ → List (List ℕ) → Contents → ℕ → Flow → State
begun cells saved memory entry flow = record {
  cells = cells;
  memory = memory;
  saved = saved;
  point = record { pc = entry; slot = Seq };
  target = 0;
  calls = [];
  input = flow.input;
  output = [];
  heap_end = flow.heap_end;
}

-- the first state, by its parts
pub first-begun : (setting : Setting) (cells : List ℕ) (saved : List (List ℕ)) (memory : Contents) (entry : ℕ) (flow : Flow) (input : List ℕ) → cells ≡ first_cells setting.machine setting.conv → saved ≡ []
    → flow ≡ record { input = input; pending = []; heap_end = setting.conv.heap_base } → begun cells saved memory entry flow ≡ first_state setting memory entry input
first-begun setting cells saved memory entry flow input c s f =
    ap (begun cells saved memory entry) f
    ∙ ap (λ ws. begun cells ws memory entry (record { input = input; pending = []; heap_end = setting.conv.heap_base })) s
    ∙ ap (λ cs. begun cs [] memory entry (record { input = input; pending = []; heap_end = setting.conv.heap_base })) c
