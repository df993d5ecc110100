-- What a service answers, and that the cells still fit behind it.
use Rattle.std.proofs.Common.{◌≡◌, ℕ, ◌^◌, ◌<◌, ◌||◌, Bool, true, false, [], ◌++◌, List, length, Option, Some, None, refl, sym, ap, ◌∙◌, subst, min, append-nil}
use Rattle.std.specs.Prelude.{◌==◌, if◌then◌else◌, take, drop, slice_index, is_some}
use Rattle.lockstep.specs.Runs.{Ends}
use Rattle.rtl_core.specs.declared.conv.Conv.{Conv}
use Rattle.rtl_core.specs.declared.conv.Numbers.{Numbers}
use Rattle.rtl_core.specs.declared.conv.ServiceShape.{ServiceShape}
use Rattle.rtl_core.specs.declared.machine.Machine.{Machine}
use Rattle.rtl_core.specs.declared.stop.Reply.{Reply}
use Rattle.rtl_core.specs.declared.stop.Reply.TheVariants.{Exit, Value, Error}
use Rattle.rtl_core.specs.declared.stop.Stop.{Stop}
use Rattle.rtl_core.specs.declared.point.Point.{Point}
use Rattle.rtl_core.specs.Contents.{Contents, is_mapped, is_writable, first_fault, bytes_from, put_all}
use Rattle.rtl_core.specs.Services.{World, Served, only, most_written, all_pass, reading, writing, breaking, served, numbers_of, asked, answered, flagged, result_of, error_of}
use Rattle.rtl_core.specs.SoundConv.{IsCellOf, IsCellIfAny, AreServiceCells, AreServiceNumbers, AreSoundTogether}
use Rattle.rtl_core.specs.SoundTerms.{Fit}
use Rattle.rtl_core.specs.Transfers.{put_cell}
use Rattle.rtl_core.proofs.FitCells.{fit-put}
use Rattle.rtl_core.proofs.ServiceFits.{FitsReply, AreErrorWords, served-fits, result-fits, error-fits}
use Rattle.rtl_meaning.specs.Saved.{Fits}
use Rattle.points.specs.Machine.{Setting, State, MNext, Did, controlled, with_answer, unless_exit, after_service}
use Rattle.sysemu.specs.Ends.{end_of}
use Rattle.sysemu.specs.Streams.{Flow, flow_after}
use Rattle.sysemu.specs.declared.cell_service.Served.TheVariants as End
use Rattle.stepper.specs.Shown.{moment}

-- ---- an exit writes nothing

abbrev WritesNothingAtExit : Served → Type 0
WritesNothingAtExit done = (k : ℕ) → done.reply ≡ Exit k → done.written ≡ []

chosen : (b : Bool) (one other : Served) → WritesNothingAtExit one → WritesNothingAtExit other → WritesNothingAtExit (if b then one else other)
chosen true one other h k = h
chosen false one other h k = k

module _ (n : Numbers) (world : World) where
  reading-exit : (x y z : ℕ) → WritesNothingAtExit (reading n x y z world)
  reading-exit x y z =
      let k = min z (length world.input) in
      let done : Served = record { reply = Value k; written = []; world = record world { memory = put_all world.memory y (take k world.input); input = drop k world.input } } in
      let b = all_pass (first_fault is_writable world.memory y k) in
      chosen (x == 0) (if b then done else only (Error n.fault) world) (only (Error n.descriptor) world)
      (chosen b done (only (Error n.fault) world) (λ i e. refl) (λ i e. refl)) (λ i e. refl)

  writing-exit : (x y z : ℕ) → WritesNothingAtExit (writing n x y z world)
  writing-exit x y z =
      let k = min z most_written in
      let done : Served = record { reply = Value k; written = bytes_from world.memory y k; world = world } in
      let went : WritesNothingAtExit done = λ i e. let no : ⊥ = cc in absurd no in
      let b = all_pass (first_fault is_mapped world.memory y k) in
      chosen ((x == 1) || (x == 2)) (if b then done else only (Error n.fault) world) (only (Error n.descriptor) world)
      (chosen b done (only (Error n.fault) world) went (λ i e. refl)) (λ i e. refl)

  served-exit : (number x y z : ℕ) → WritesNothingAtExit (served n number x y z world)
  unfolding served
  served-exit number x y z =
      let last : Served = if number == n.brk then breaking n x world else only (Error n.unknown) world in
      let third : Served = if number == n.write then writing n x y z world else last in
      let second : Served = if number == n.read then reading n x y z world else third in
      chosen (number == n.exit) (only (Exit x) world) second (λ i e. refl)
      (chosen (number == n.read) (reading n x y z world) third (reading-exit x y z)
      (chosen (number == n.write) (writing n x y z world) last (writing-exit x y z)
      (chosen (number == n.brk) (breaking n x world) (only (Error n.unknown) world) (λ i e. refl) (λ i e. refl))))

exits : (reply : Reply) (k : ℕ) → End.Exit k ≡ end_of reply → reply ≡ Exit k
exits (Exit x) k e = cc
exits (Value x) k e = let no : ⊥ = cc in absurd no
exits (Error x) k e = let no : ⊥ = cc in absurd no

-- a service that ends the run: it stops, with nothing more written
pub answer-exits : (setting : Setting) (did : Did) (shape : ServiceShape) (s : State) (w : World) (cells : List ℕ) (k : ℕ) (more : List ℕ)
    → End.Exit k ≡ end_of (asked setting.conv shape cells w).reply → more ≡ (asked setting.conv shape cells w).written
    → Ends (s.output ++ more) (Stop.Exit k) ≡ with_answer setting did shape (asked setting.conv shape cells w) s
answer-exits setting did shape s w cells k more e same =
    let done = asked setting.conv shape cells w in
    let is = exits done.reply k e in
    let none : more ≡ [] = same ∙ served-exit (numbers_of setting.conv shape) w (slice_index cells shape.number) (slice_index cells shape.arg_x) (slice_index cells shape.arg_y) (slice_index cells shape.arg_z) k is in
    ap (λ o. Ends o (Stop.Exit k)) (ap (λ m. s.output ++ m) none ∙ append-nil s.output)
    ∙ sym (ap (λ r. unless_exit s r (controlled setting did (after_service setting shape done s))) is)

goes : (s : State) (next : MNext) (reply : Reply) → End.Go ≡ end_of reply → unless_exit s reply next ≡ next
goes s next (Exit x) e = let no : ⊥ = cc in absurd no
goes s next (Value x) e = refl
goes s next (Error x) e = refl

-- a service behind which the run goes on
pub answer-goes : (setting : Setting) (did : Did) (shape : ServiceShape) (done : Served) (s : State) → End.Go ≡ end_of done.reply
    → controlled setting did (after_service setting shape done s) ≡ with_answer setting did shape done s
answer-goes setting did shape done s e = sym (goes s (controlled setting did (after_service setting shape done s)) done.reply e)

-- the state with other cells, another memory and other streams, whose pending bytes are written
abbrev pub with_parts : State → List ℕ → Contents → Flow → State
with_parts s cells memory flow = record s { cells = cells; memory = memory; input = flow.input; output = s.output ++ flow.pending; heap_end = flow.heap_end }

parts-after : (setting : Setting) (shape : ServiceShape) (done : Served) (s : State) (cells : List ℕ) (memory : Contents) (flow : Flow) → cells ≡ answered setting.machine.zero shape done.reply s.cells
    → memory ≡ done.world.memory → flow ≡ flow_after done → with_parts s cells memory flow ≡ after_service setting shape done s
parts-after setting shape done s cells memory flow c m f =
    ap (with_parts s cells memory) f ∙ ap (λ x. with_parts s cells x (flow_after done)) m ∙ ap (λ x. with_parts s x done.world.memory (flow_after done)) c

-- a service with its answer in the cells, and then control
pub answer-on : (setting : Setting) (did : Did) (shape : ServiceShape) (done : Served) (s : State) (cells : List ℕ) (memory : Contents) (flow : Flow) (stop : Option Stop) (point : Point)
    → cells ≡ answered setting.machine.zero shape done.reply s.cells → memory ≡ done.world.memory → flow ≡ flow_after done → End.Go ≡ end_of done.reply
    → moment stop (record (with_parts s cells memory flow) { point = point }) ≡ controlled setting did (with_parts s cells memory flow)
    → moment stop (record (with_parts s cells memory flow) { point = point }) ≡ with_answer setting did shape done s
answer-on setting did shape done s cells memory flow stop point c m f go h =
    h ∙ ap (controlled setting did) (parts-after setting shape done s cells memory flow c m f) ∙ answer-goes setting did shape done s go

-- ---- the cells still fit

flagged-fits : (m : Machine) (o : Option ℕ) (e : ℕ) (cells : List ℕ) → IsCellIfAny m 1 o → e < 2 → Fit m cells → Fit m (flagged m.zero o e cells)
flagged-fits m None e cells h small fit = fit
flagged-fits m (Some c) e cells h small fit = let P : ℕ → Type 0 = λ w. e < 2 ^ w in fit-put m cells c e h.0 (subst P (sym h.1) small) fit

put-fits : (m : Machine) (shape : ServiceShape) (reply : Reply) (cells : List ℕ) → AreServiceCells m shape → FitsReply reply → Fit m cells
    → Fit m (flagged m.zero shape.error (error_of reply) (put_cell m.zero shape.result (result_of (is_some shape.error) reply) cells))
put-fits m shape reply cells fine small fit =
    let value = result_of (is_some shape.error) reply in
    let P : ℕ → Type 0 = λ w. value < 2 ^ w in
    flagged-fits m shape.error (error_of reply) (put_cell m.zero shape.result value cells) fine.error (error-fits reply)
    (fit-put m cells shape.result value fine.result.0 (subst P (sym fine.result.1) (result-fits (is_some shape.error) reply small)) fit)

answered-fits : (m : Machine) (shape : ServiceShape) (reply : Reply) (cells : List ℕ) → AreServiceCells m shape → FitsReply reply → Fit m cells → Fit m (answered m.zero shape reply cells)
answered-fits m shape (Exit x) cells fine small fit = fit
answered-fits m shape (Value k) cells fine small fit = put-fits m shape (Value k) cells fine small fit
answered-fits m shape (Error e) cells fine small fit = put-fits m shape (Error e) cells fine small fit

cell-word : (m : Machine) (cells : List ℕ) (c : ℕ) → IsCellOf m 32 c → Fit m cells → slice_index cells c < 2 ^ 32
cell-word m cells c at fit = let P : ℕ → Type 0 = λ w. slice_index cells c < 2 ^ w in subst P at.1 (fit.each c at.0)

error-words : (conv : Conv) (shape : ServiceShape) → AreServiceNumbers shape → AreErrorWords (numbers_of conv shape)
error-words conv shape fine = record { fault = fine.fault; descriptor = fine.descriptor; unknown = fine.unknown }

-- what fitted before a service fits behind it
pub fits-behind-service : (setting : Setting) (shape : ServiceShape) (cells new : List ℕ) (saved : List (List ℕ)) (w : World) (flow : Flow)
    → AreSoundTogether setting.encodings setting.machine setting.conv → setting.conv.service ≡ Some shape → w.heap_end < 2 ^ 32
    → new ≡ answered setting.machine.zero shape (asked setting.conv shape cells w).reply cells → flow ≡ flow_after (asked setting.conv shape cells w)
    → Fits setting.machine cells saved → Fits setting.machine new saved × (flow.heap_end < 2 ^ 32)
fits-behind-service setting shape cells new saved w flow sound is small e f fits =
    let m = setting.machine in
    let fine = sound.fits.cells shape is in
    let done = served-fits (numbers_of setting.conv shape) (error-words setting.conv shape (sound.conv.numbers shape is)) w small (slice_index cells shape.number) (slice_index cells shape.arg_x)
    (slice_index cells shape.arg_y) (slice_index cells shape.arg_z) (cell-word m cells shape.arg_x fine.arg_x fits.fit) (cell-word m cells shape.arg_z fine.arg_z fits.fit) in
    let Below : ℕ → Type 0 = λ n. n < 2 ^ 32 in
    let behind : Fits m new saved = record {
      widths = fits.widths;
      windows = fits.windows;
      fit = subst (Fit m) (sym e) (answered-fits m shape (asked setting.conv shape cells w).reply cells fine done.answer fits.fit);
      shape = fits.shape;
    } in
    (behind, subst Below (sym (ap (λ x. x.heap_end) f)) done.break_fits)
