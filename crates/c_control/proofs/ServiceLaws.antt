-- What holds of a service: the cells that it names, and what an exit and control write.
use Rattle.std.proofs.Common.{◌≡◌, ℕ, Bool, true, false, ◌||◌, List, [], ◌∷◌, ◌++◌, length, min, refl, sym, ◌∙◌, subst}
use Rattle.std.specs.Prelude.{if◌then◌else◌, ◌==◌, Ok, Err}
use Rattle.std.specs.List.{Contains}
use Rattle.std.proofs.lemmas.List.Elements.{Contains-append_left, Contains-append_right}
use Rattle.lockstep.specs.Meets.{next_out}
use Rattle.rtl_core.specs.declared.conv.Conv.{Conv}
use Rattle.rtl_core.specs.declared.conv.Numbers.{Numbers}
use Rattle.rtl_core.specs.declared.machine.Machine.{Machine}
use Rattle.rtl_core.specs.declared.stop.Reply.{Reply}
use Rattle.rtl_core.specs.declared.stop.Reply.TheVariants.{Exit, Value, Error}
use Rattle.rtl_core.specs.declared.transfer.Act.{Act}
use Rattle.rtl_core.specs.declared.transfer.Act.TheVariants.{SetCell, SetSlice, Store, Jump, Annul, Trap, Service, WinSave, WinRestore}
use Rattle.rtl_core.specs.declared.transfer.Transfer.{Transfer}
use Rattle.rtl_core.specs.Contents.{is_mapped, is_writable, first_fault, bytes_from}
use Rattle.rtl_core.specs.Services.{World, Served, only, most_written, all_pass, reading, writing, breaking, served}
use Rattle.rtl_core.specs.SoundTerms.{is_service}
use Rattle.points.specs.Control.{Move}
use Rattle.points.specs.Running.{State, moved}
use Rattle.points.specs.Summaries.{act_names, act_assigns, answer_cells, service_cells, guard_cells, transfers_name, transfers_assign}
use Rattle.c_control.specs.Services.{does}

-- control writes nothing
pub moved-writes : (move : Move) (s : State) → next_out (λ s. s.output) (moved move s) ≡ s.output
moved-writes (Ok c) s = refl
moved-writes (Err stop) s = refl

-- ---- an exit writes nothing

abbrev pub IsSilentExit : Served → Type 0
IsSilentExit done = (x : ℕ) → done.reply ≡ Exit x → done.written ≡ []

chosen-silent : (b : Bool) (one other : Served) → IsSilentExit one → IsSilentExit other → IsSilentExit (if b then one else other)
chosen-silent true one other h k = h
chosen-silent false one other h k = k

only-silent : (reply : Reply) (world : World) → IsSilentExit (only reply world)
only-silent reply world x e = refl

value-silent : (done : Served) (k : ℕ) → done.reply ≡ Value k → IsSilentExit done
value-silent done k e x f = let no : ⊥ = let w = sym e ∙ f in cc in absurd no

pub exit-silent : (n : Numbers) (number x y z : ℕ) (world : World) → IsSilentExit (served n number x y z world)
unfolding served
exit-silent n number x y z world =
    let unknown = only (Error n.unknown) world in
    let last = if number == n.brk then breaking n x world else unknown in
    let third = if number == n.write then writing n x y z world else last in
    let second = if number == n.read then reading n x y z world else third in
    chosen-silent (number == n.exit) (only (Exit x) world) second (only-silent (Exit x) world)
    (chosen-silent (number == n.read) (reading n x y z world) third read
    (chosen-silent (number == n.write) (writing n x y z world) last write
    (chosen-silent (number == n.brk) (breaking n x world) unknown (value-silent (breaking n x world) _ refl) (only-silent (Error n.unknown) world))))
  where
    failed : Served
    failed = only (Error n.fault) world

    wrong : Served
    wrong = only (Error n.descriptor) world

    read : IsSilentExit (reading n x y z world)
    read = chosen-silent (x == 0) _ _ (chosen-silent (all_pass (first_fault is_writable world.memory y (min z (length world.input)))) _ _ (λ v e. refl) (only-silent (Error n.fault) world)) (only-silent (Error n.descriptor) world)

    write : IsSilentExit (writing n x y z world)
    write =
        let k = min z most_written in
        let done : Served = record { reply = Value k; written = bytes_from world.memory y k; world = world } in
        chosen-silent ((x == 1) || (x == 2)) _ _ (chosen-silent (all_pass (first_fault is_mapped world.memory y k)) done _ (value-silent done k refl) (only-silent (Error n.fault) world)) (only-silent (Error n.descriptor) world)

-- ---- the cells of a service

module _ (m : Machine) (conv : Conv) where
  act-serves : (a : Act) → is_service a ≡ true → (act_names m conv a ≡ service_cells conv.service) × (act_assigns m conv a ≡ answer_cells conv.service)
  act-serves (SetCell c e) h = let no : ⊥ = cc in absurd no
  act-serves (SetSlice c lo hi e) h = let no : ⊥ = cc in absurd no
  act-serves (Store n a e) h = let no : ⊥ = cc in absurd no
  act-serves (Jump e) h = let no : ⊥ = cc in absurd no
  act-serves Annul h = let no : ⊥ = cc in absurd no
  act-serves (Trap e) h = let no : ⊥ = cc in absurd no
  act-serves Service h = (refl, refl)
  act-serves WinSave h = let no : ⊥ = cc in absurd no
  act-serves WinRestore h = let no : ⊥ = cc in absurd no

  -- transfers with a service name and assign its cells
  pub service-named : (ts : List Transfer) → does is_service ts ≡ true → (c : ℕ) → Contains (service_cells conv.service) c → Contains (transfers_name m conv ts) c
  service-named [] h c i = let no : ⊥ = cc in absurd no
  service-named (t ∷ ts) h c i = Contains-append_right (guard_cells t.guard) _ c (by (service-named ts) (is_service t.act) refl h)
    where
      by : (does is_service ts ≡ true → (c : ℕ) → Contains (service_cells conv.service) c → Contains (transfers_name m conv ts) c) → (b : Bool) → is_service t.act ≡ b → (b || does is_service ts) ≡ true → Contains (act_names m conv t.act ++ transfers_name m conv ts) c
      by rest true e h = Contains-append_left (act_names m conv t.act) (transfers_name m conv ts) c (subst (λ l. Contains l c) (sym (act-serves t.act e).0) i)
      by rest false e h = Contains-append_right (act_names m conv t.act) (transfers_name m conv ts) c (rest h c i)

  pub service-assigned : (ts : List Transfer) → does is_service ts ≡ true → (c : ℕ) → Contains (answer_cells conv.service) c → Contains (transfers_assign m conv ts) c
  service-assigned [] h c i = let no : ⊥ = cc in absurd no
  service-assigned (t ∷ ts) h c i = by (service-assigned ts) (is_service t.act) refl h
    where
      by : (does is_service ts ≡ true → (c : ℕ) → Contains (answer_cells conv.service) c → Contains (transfers_assign m conv ts) c) → (b : Bool) → is_service t.act ≡ b → (b || does is_service ts) ≡ true → Contains (act_assigns m conv t.act ++ transfers_assign m conv ts) c
      by rest true e h = Contains-append_left (act_assigns m conv t.act) (transfers_assign m conv ts) c (subst (λ l. Contains l c) (sym (act-serves t.act e).1) i)
      by rest false e h = Contains-append_right (act_assigns m conv t.act) (transfers_assign m conv ts) c (rest h c i)
