-- A guest before its first instruction.
use Rattle.std.proofs.Common.{◌≡◌, ℕ, zero, suc, ◌^◌, ◌<◌, length, List, [], get_or, Some, refl, sym, ap, ◌∙◌, subst, arith}
use Rattle.std.specs.Prelude.{slice_index, replicate}
use Rattle.std.specs.List.{All}
use Rattle.std.proofs.lemmas.Nat.{pow_pos}
use Rattle.std.proofs.lemmas.List.Elements.{All-nil}
use Rattle.page_pool.specs.Frames.{Frames}
use Rattle.paged_space.specs.PageTable.{PageTable, contents_of}
use Rattle.rtl_core.specs.declared.conv.Conv.{Conv}
use Rattle.rtl_core.specs.declared.machine.Machine.{Machine}
use Rattle.rtl_core.specs.declared.point.Point.{Point}
use Rattle.rtl_core.specs.declared.point.Slot.TheVariants.{Seq}
use Rattle.points.specs.declared.block.Member.{Member}
use Rattle.rtl_core.specs.FirstMemory.{first_cells, first_stack}
use Rattle.rtl_core.specs.Contents.{Contents}
use Rattle.rtl_core.specs.SoundConv.{IsSoundConv, FitsMachine, AreSoundTogether}
use Rattle.rtl_core.specs.SoundTerms.{Fit}
use Rattle.rtl_core.proofs.FitCells.{fit-set}
use Rattle.rtl_meaning.specs.Saved.{HaveShape, Fits}
use Rattle.sysemu.specs.Streams.{Flow as Streaming}
use Rattle.points.specs.declared.block.Standing.{Standing}
use Rattle.points.specs.declared.block.Standing.TheVariants.{Outside, Illegal, Stands}
use Rattle.points.specs.Bundles.{IsSoundSetting}
use Rattle.points.specs.Bodies.{roots_of, first, root, IsReached}
use Rattle.points.specs.Control.{Control, Flow}
use Rattle.points.specs.Courses.{point}
use Rattle.points.specs.Kinds.{block_at, block_of}
use Rattle.points.specs.Machine.{Setting, standing}
use Rattle.points.specs.Running.{State, first_state}
use Rattle.points.proofs.StandingSound.{standing-sound}
use Rattle.worklist.proofs.Members.{head_member}
use Rattle.graph_control.specs.declared.position.Position.{Position}
use Rattle.graph_control.specs.Programs.{program_of, IsProgram, IsFlowOf, IsAt, IsOpen}
use Rattle.runner.specs.Guests.{IsSoundBlock, IsSoundChart}
use Rattle.graph_control.specs.Charts.{Chart}
use Rattle.graph_control.specs.Ways.{IsNodePlace}
use Rattle.graph_control.proofs.Looking.{place_of_reached}

-- ---- cells

index-zeros : (n c : ℕ) → slice_index (replicate n 0) c ≡ 0
index-zeros zero c = refl
index-zeros (suc n) zero = refl
index-zeros (suc n) (suc c) = index-zeros n c

length-zeros : (n : ℕ) → length {A = ℕ} (replicate n 0) ≡ n
length-zeros zero = refl
length-zeros (suc n) = ap suc (length-zeros n)

fit-zeros : (m : Machine) → Fit m (replicate (length m.widths) 0)
fit-zeros m = record {
  count = length-zeros (length m.widths);
  each = λ c h. let P : ℕ → Type 0 = λ v. v < 2 ^ slice_index m.widths c in subst P (sym (index-zeros (length m.widths) c)) (pow_pos (slice_index m.widths c));
  zeroed = λ c e. index-zeros (length m.widths) c;
}

fit-first : (m : Machine) (conv : Conv) → IsSoundConv conv → FitsMachine conv m → Fit m (first_cells m conv)
fit-first m conv fine fits =
    let P : ℕ → Type 0 = λ w. first_stack conv < 2 ^ w in
    fit-set m (replicate (length m.widths) 0) conv.stack_cell (first_stack conv) fits.stack.0 (subst P (sym fits.stack.1) fine.first) (λ c e w. fits.moving (e ∙ ap Some (sym w))) (fit-zeros m)

-- ---- the program

-- a flow with an entry as one with its roots
pub flow_of : (c : Chart) (entry : ℕ) (f : Flow) (h : IsProgram c entry f) → IsFlowOf c (roots_of f.setting entry h.symbols) f
flow_of c entry f h = record { sound = h.sound; machine = h.machine; conv = h.conv; procedures = h.flow.procedures; graph = h.graph }

block-sound : (setting : Setting) (pc : ℕ) (s : Standing) → IsSoundSetting setting → pc < 2 ^ 32 → standing setting pc ≡ s → IsSoundBlock setting.machine (block_of setting s)
block-sound setting pc Outside sound fits e = tt
block-sound setting pc Illegal sound fits e = tt
block-sound setting pc (Stands inst) sound fits e = (standing-sound setting pc inst sound.sound.machine.machine fits e).each

block_at-sound : (setting : Setting) (pc : ℕ) → IsSoundSetting setting → pc < 2 ^ 32 → IsSoundBlock setting.machine (block_at setting pc)
unfolding block_at
block_at-sound setting pc sound fits = block-sound setting pc (standing setting pc) sound fits refl

-- a state of these parts, before any output
abbrev begun : List ℕ → Contents → List (List ℕ) → Control → Streaming → State
begun cells memory saved control flow = record {
  cells = cells;
  memory = memory;
  saved = saved;
  control = control;
  input = flow.input;
  output = [];
  heap_end = flow.heap_end;
}

-- control at a point, before any jump
abbrev begun_at : Point → List Member → Control
begun_at p calls = record { point = p; target = 0; calls = calls }

abbrev streams_at : List ℕ → ℕ → Streaming
streams_at input break = record { input = input; pending = []; heap_end = break }

module _ (c : Chart) (entry : ℕ) (f : Flow) (h : IsProgram c entry f) where
  -- its machine, its conventions and its nodes are sound
  pub sound_chart : IsSoundChart c
  sound_chart = record {
    conv = subst IsSoundConv h.conv h.sound.sound.conv;
    fits = subst (λ (m : Machine). FitsMachine c.conv m) h.machine (subst (λ (k : Conv). FitsMachine k f.setting.machine) h.conv h.sound.sound.fits);
    blocks = λ k n lt small.
        let at = get_or c.graph.nodes k n in
        let is : at.block ≡ block_at f.setting at.point.pc = h.graph.blocks k n lt in
        let sound = block_at-sound f.setting at.point.pc h.sound small in
        subst (λ (m : Machine). IsSoundBlock m at.block) h.machine (subst (IsSoundBlock f.setting.machine) (sym is) sound);
  }

  -- the entry is reached
  pub entry_reached : IsReached (program_of f) (roots_of f.setting entry h.symbols) (point entry Seq)
  entry_reached = record { entry = entry; procedure = root (head_member entry _); body = first }

  pub begins_at : (p : Position) → p.point ≡ point entry Seq → p.calls ≡ [] → IsNodePlace c.graph (point entry Seq) p.place → IsAt c f p
  begins_at p at none place =
      let roots = roots_of f.setting entry h.symbols in
      record {
        roots = roots;
        flow = flow_of c entry f h;
        place = place_of_reached c roots f (flow_of c entry f h) (point entry Seq) p.place entry_reached place ∙ ap Some (sym at);
        reached = subst (IsReached (program_of f) roots) (sym at) entry_reached;
        calls = subst (All (IsOpen (program_of f) roots)) (sym none) (All-nil (IsOpen (program_of f) roots));
      }

  -- the cells and the windows fit
  pub fits_first : (cells : List ℕ) (saved : List (List ℕ)) (flow : Streaming) (input : List ℕ) → cells ≡ first_cells c.machine c.conv → HaveShape c.machine saved
      → flow ≡ record { input = input; pending = []; heap_end = c.conv.heap_base } → Fits c.machine cells saved × (flow.heap_end < 2 ^ 32)
  fits_first cells saved flow input e shape is =
      let enc = f.setting.encodings in
      let sound = subst (λ (k : Conv). AreSoundTogether enc c.machine k) h.conv (subst (λ (m : Machine). AreSoundTogether enc m f.setting.conv) h.machine h.sound.sound) in
      let heap = sound.conv.heap in
      let at : flow.heap_end ≡ c.conv.heap_base = ap (λ x. x.heap_end) is in
      let fits : Fits c.machine cells saved = record {
        widths = sound.machine.machine.widths;
        windows = sound.machine.machine.windows;
        fit = subst (Fit c.machine) (sym e) (fit-first c.machine c.conv sound.conv sound.fits);
        shape = shape;
      } in
      (fits, omega (arith, at, heap.some, heap.end))

  -- its state is the first one
  pub begins_as : (cells : List ℕ) (saved : List (List ℕ)) (space : PageTable) (at : Point) (calls : List Member) (flow : Streaming) (frames : Frames) (input : List ℕ)
      → cells ≡ first_cells c.machine c.conv → saved ≡ [] → flow ≡ record { input = input; pending = []; heap_end = c.conv.heap_base } → at ≡ point entry Seq → calls ≡ []
      → begun cells (contents_of space frames) saved (begun_at at calls) flow ≡ first_state f.setting (contents_of space frames) entry input
  begins_as cells saved space at calls flow frames input e none is here empty =
      let firsts : first_cells c.machine c.conv ≡ first_cells f.setting.machine f.setting.conv =
      ap (λ (m : Machine). first_cells m c.conv) (sym h.machine) ∙ ap (λ (k : Conv). first_cells f.setting.machine k) (sym h.conv) in
      let base : c.conv.heap_base ≡ f.setting.conv.heap_base = ap (λ (k : Conv). k.heap_base) (sym h.conv) in
      let first = first_cells f.setting.machine f.setting.conv in
      let memory = contents_of space frames in
      ap (λ k. begun k memory saved (begun_at at calls) flow) (e ∙ firsts)
      ∙ ap (λ w. begun first memory w (begun_at at calls) flow) none
      ∙ ap (λ p. begun first memory [] (begun_at p calls) flow) here
      ∙ ap (λ k. begun first memory [] (begun_at (point entry Seq) k) flow) empty
      ∙ ap (λ k. begun first memory [] (begun_at (point entry Seq) []) k) is
      ∙ ap (λ b. begun first memory [] (begun_at (point entry Seq) []) (streams_at input b)) base
