-- What a service answers, and that the cells still fit behind it.
use Rattle.std.proofs.Common.{◌≡◌, ℕ, ◌^◌, ◌<◌, ◌||◌, Bool, true, false, true≢false, [], List, length, Option, Some, None, refl, sym, ap, ◌∙◌, subst, min}
use Rattle.std.specs.Prelude.{◌==◌, ◌&&◌, if◌then◌else◌, take, drop, slice_index, is_some, IsSome}
use Rattle.lockstep.specs.Runs.{Ends}
use Rattle.rtl_core.specs.declared.conv.Conv.{Conv}
use Rattle.rtl_core.specs.declared.conv.Numbers.{Numbers}
use Rattle.rtl_core.specs.declared.conv.ServiceShape.{ServiceShape}
use Rattle.rtl_core.specs.declared.machine.Machine.{Machine}
use Rattle.rtl_core.specs.declared.stop.Reply.{Reply}
use Rattle.rtl_core.specs.declared.stop.Reply.TheVariants.{Exit, Value, Error}
use Rattle.rtl_core.specs.declared.stop.Stop.{Stop}
use Rattle.rtl_core.specs.Contents.{is_mapped, is_writable, first_fault, bytes_from, put_all}
use Rattle.rtl_core.specs.Services.{World, Served, only, most_written, all_pass, reading, writing, breaking, served, numbers_of, asked, answered, flagged, result_of, error_of}
use Rattle.rtl_core.specs.SoundConv.{IsCellOf, IsCellIfAny, AreServiceCells, AreServiceNumbers}
use Rattle.rtl_core.specs.SoundTerms.{Fit}
use Rattle.rtl_core.specs.Transfers.{put_cell}
use Rattle.rtl_core.proofs.FitCells.{fit-put}
use Rattle.rtl_core.proofs.ServiceFits.{FitsReply, AreErrorWords, served-fits, result-fits, error-fits}
use Rattle.rtl_meaning.specs.Saved.{Fits}
use Rattle.points.specs.Control.{Flow}
use Rattle.points.specs.Running.{State, MNext, Did, stops, controlled, with_answer, unless_exit, after_service, service_due}
use Rattle.sysemu.specs.Ends.{end_of}
use Rattle.sysemu.specs.Streams.{Flow as Streaming, flow_after}
use Rattle.sysemu.specs.declared.cell_service.Served.TheVariants as End
use Rattle.runner.specs.Guests.{IsSoundChart}
use Rattle.graph_control.specs.Charts.{Chart}

-- ---- an exit writes nothing

abbrev WritesNothingAtExit : Served → Type 0
WritesNothingAtExit done = (k : ℕ) → done.reply ≡ Exit k → done.written ≡ []

chosen : (b : Bool) (one other : Served) → WritesNothingAtExit one → WritesNothingAtExit other → WritesNothingAtExit (if b then one else other)
chosen true one other h k = h
chosen false one other h k = k

module _ (n : Numbers) (world : World) where
  reading-exit : (x y z : ℕ) → WritesNothingAtExit (reading n x y z world)
  reading-exit x y z =
      let k = min z (length world.input) in
      let done : Served = record { reply = Value k; written = []; world = record world { memory = put_all world.memory y (take k world.input); input = drop k world.input } } in
      let b = all_pass (first_fault is_writable world.memory y k) in
      chosen (x == 0) (if b then done else only (Error n.fault) world) (only (Error n.descriptor) world)
      (chosen b done (only (Error n.fault) world) (λ i e. refl) (λ i e. refl)) (λ i e. refl)

  writing-exit : (x y z : ℕ) → WritesNothingAtExit (writing n x y z world)
  writing-exit x y z =
      let k = min z most_written in
      let done : Served = record { reply = Value k; written = bytes_from world.memory y k; world = world } in
      let went : WritesNothingAtExit done = λ i e. let no : ⊥ = cc in absurd no in
      let b = all_pass (first_fault is_mapped world.memory y k) in
      chosen ((x == 1) || (x == 2)) (if b then done else only (Error n.fault) world) (only (Error n.descriptor) world)
      (chosen b done (only (Error n.fault) world) went (λ i e. refl)) (λ i e. refl)

  served-exit : (number x y z : ℕ) → WritesNothingAtExit (served n number x y z world)
  unfolding served
  served-exit number x y z =
      let last : Served = if number == n.brk then breaking n x world else only (Error n.unknown) world in
      let third : Served = if number == n.write then writing n x y z world else last in
      let second : Served = if number == n.read then reading n x y z world else third in
      chosen (number == n.exit) (only (Exit x) world) second (λ i e. refl)
      (chosen (number == n.read) (reading n x y z world) third (reading-exit x y z)
      (chosen (number == n.write) (writing n x y z world) last (writing-exit x y z)
      (chosen (number == n.brk) (breaking n x world) (only (Error n.unknown) world) (λ i e. refl) (λ i e. refl))))

exits : (reply : Reply) (k : ℕ) → End.Exit k ≡ end_of reply → reply ≡ Exit k
exits (Exit x) k e = cc
exits (Value x) k e = let no : ⊥ = cc in absurd no
exits (Error x) k e = let no : ⊥ = cc in absurd no

goes : (reply : Reply) (next : MNext) (s : State) → End.Go ≡ end_of reply → unless_exit reply next s ≡ next
goes (Exit x) next s e = let no : ⊥ = cc in absurd no
goes (Value x) next s e = refl
goes (Error x) next s e = refl

abbrev stops_with : List ℕ → Stop → MNext
stops_with out stop = Ends out stop

module _ (f : Flow) (did : Did) (shape : ServiceShape) (done : Served) where
  -- a service that ends the run: it stops, with nothing more written
  pub answer-exits : (s t : State) (k : ℕ) → End.Exit k ≡ end_of done.reply → t.output ≡ (after_service f.setting shape done s).output → stops (Stop.Exit k) t ≡ with_answer f did shape done s
  answer-exits s t k e out =
      let later = after_service f.setting shape done s in
      ap (λ o. stops_with o (Stop.Exit k)) out ∙ sym (ap (λ r. unless_exit r (controlled f did later) later) (exits done.reply k e))

  -- one behind which the run goes on
  pub answer-goes : (s : State) → End.Go ≡ end_of done.reply → controlled f did (after_service f.setting shape done s) ≡ with_answer f did shape done s
  answer-goes s e = let later = after_service f.setting shape done s in sym (goes done.reply (controlled f did later) later e)

-- a service that is due
pub due-some : (due : Bool) (o : Option ServiceShape) (shape : ServiceShape) → (due && is_some o) ≡ true → o ≡ Some shape → service_due due o ≡ Some shape
due-some true o shape h e = e
due-some false o shape h e = absurd (true≢false (sym h))

pub due-shape : {P : Type 0} (due : Bool) (o : Option ServiceShape) → (due && is_some o) ≡ true → ((shape : ServiceShape) → o ≡ Some shape → P) → P
due-shape true (Some shape) h at = at shape refl
due-shape true None h at = absurd (true≢false (sym h))
due-shape false (Some shape) h at = absurd (true≢false (sym h))
due-shape false None h at = absurd (true≢false (sym h))

-- one that is there
pub shape-of : {P : Type 0} (o : Option ServiceShape) → IsSome o → ((shape : ServiceShape) → o ≡ Some shape → P) → P
shape-of (Some shape) h at = at shape refl
shape-of None h at = absurd (true≢false (sym h))

-- none is due
pub due-none : (due : Bool) (o : Option ServiceShape) → (due && is_some o) ≡ false → service_due due o ≡ None
due-none true None h = refl
due-none true (Some shape) h = absurd (true≢false h)
due-none false o h = refl

-- ---- the cells still fit

flagged-fits : (m : Machine) (o : Option ℕ) (e : ℕ) (cells : List ℕ) → IsCellIfAny m 1 o → e < 2 → Fit m cells → Fit m (flagged m.zero o e cells)
flagged-fits m None e cells h small fit = fit
flagged-fits m (Some c) e cells h small fit = let P : ℕ → Type 0 = λ w. e < 2 ^ w in fit-put m cells c e h.0 (subst P (sym h.1) small) fit

put-fits : (m : Machine) (shape : ServiceShape) (reply : Reply) (cells : List ℕ) → AreServiceCells m shape → FitsReply reply → Fit m cells
    → Fit m (flagged m.zero shape.error (error_of reply) (put_cell m.zero shape.result (result_of (is_some shape.error) reply) cells))
put-fits m shape reply cells fine small fit =
    let value = result_of (is_some shape.error) reply in
    let P : ℕ → Type 0 = λ w. value < 2 ^ w in
    flagged-fits m shape.error (error_of reply) (put_cell m.zero shape.result value cells) fine.error (error-fits reply)
    (fit-put m cells shape.result value fine.result.0 (subst P (sym fine.result.1) (result-fits (is_some shape.error) reply small)) fit)

answered-fits : (m : Machine) (shape : ServiceShape) (reply : Reply) (cells : List ℕ) → AreServiceCells m shape → FitsReply reply → Fit m cells → Fit m (answered m.zero shape reply cells)
answered-fits m shape (Exit x) cells fine small fit = fit
answered-fits m shape (Value k) cells fine small fit = put-fits m shape (Value k) cells fine small fit
answered-fits m shape (Error e) cells fine small fit = put-fits m shape (Error e) cells fine small fit

cell-word : (m : Machine) (cells : List ℕ) (c : ℕ) → IsCellOf m 32 c → Fit m cells → slice_index cells c < 2 ^ 32
cell-word m cells c at fit = let P : ℕ → Type 0 = λ w. slice_index cells c < 2 ^ w in subst P at.1 (fit.each c at.0)

error-words : (conv : Conv) (shape : ServiceShape) → AreServiceNumbers shape → AreErrorWords (numbers_of conv shape)
error-words conv shape fine = record { fault = fine.fault; descriptor = fine.descriptor; unknown = fine.unknown }

-- what fitted before a service fits behind it
pub fits-behind-service : (c : Chart) (shape : ServiceShape) (cells new : List ℕ) (saved : List (List ℕ)) (w : World) (flow : Streaming)
    → IsSoundChart c → c.conv.service ≡ Some shape → w.heap_end < 2 ^ 32
    → new ≡ answered c.machine.zero shape (asked c.conv shape cells w).reply cells → flow ≡ flow_after (asked c.conv shape cells w)
    → Fits c.machine cells saved → Fits c.machine new saved × (flow.heap_end < 2 ^ 32)
fits-behind-service c shape cells new saved w flow sound is small e f fits =
    let m = c.machine in
    let fine = sound.fits.cells shape is in
    let done = served-fits (numbers_of c.conv shape) (error-words c.conv shape (sound.conv.numbers shape is)) w small (slice_index cells shape.number) (slice_index cells shape.arg_x)
    (slice_index cells shape.arg_y) (slice_index cells shape.arg_z) (cell-word m cells shape.arg_x fine.arg_x fits.fit) (cell-word m cells shape.arg_z fine.arg_z fits.fit) in
    let Below : ℕ → Type 0 = λ n. n < 2 ^ 32 in
    let behind : Fits m new saved = record {
      widths = fits.widths;
      windows = fits.windows;
      fit = subst (Fit m) (sym e) (answered-fits m shape (asked c.conv shape cells w).reply cells fine done.answer fits.fit);
      shape = fits.shape;
    } in
    (behind, subst Below (sym (ap (λ x. x.heap_end) f)) done.break_fits)
