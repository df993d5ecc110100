-- Sound descriptions have what a search asks of them, and what stands in their code is sound.
use Rattle.std.proofs.Common.{◌≡◌, ℕ, ◌-◌, ◌^◌, ◌<◌, ◌≤◌, true, false, true≢false, List, length, Option, None, Some, refl, sym, ◌∙◌, ap, subst, arith}
use Rattle.std.specs.List.{All, list_any}
use Rattle.rtl_core.specs.declared.conv.ServiceShape.{ServiceShape}
use Rattle.rtl_core.specs.declared.inst.GroundInst.{GroundInst}
use Rattle.rtl_core.specs.declared.machine.Machine.{Machine}
use Rattle.rtl_core.specs.declared.machine.WinShape.{WinShape}
use Rattle.rtl_core.specs.SoundConv.{IsCellIfAny, AreServiceCells}
use Rattle.rtl_core.specs.SoundMachine.{AreWindowCells, HaveSoundWindows, IsZero}
use Rattle.rtl_core.specs.SoundTerms.{IsSoundTransfer, is_jump}
use Rattle.points.specs.declared.block.Standing.{Standing}
use Rattle.points.specs.declared.block.Standing.TheVariants.{Outside, Illegal, Stands}
use Rattle.points.specs.Bundles.{IsSoundSetting}
use Rattle.points.specs.Courses.{does_always}
use Rattle.points.specs.Flows.{is_computed}
use Rattle.points.specs.Kinds.{block_of, block_at}
use Rattle.points.specs.Machine.{Setting, standing}
use Rattle.points.specs.Tables.{IsLink}
use Rattle.points.proofs.StandingSound.{standing-sound}
use Rattle.jumptables.specs.declared.links.Link.{Link}
use Rattle.jumptables.specs.Links.{inst_of, IsSoundLink, MayStand, AreLinks}
use Rattle.jumptables.specs.Mentions.{mentioned_of}
use Rattle.jumptables.specs.Search.{IsSearchable}
use Rattle.jumptables.specs.Runs.{IsThere, AreAssigned, IsGroup, AreGroups, IsReady}

module _ (m : Machine) where
  zero-there : (o : Option ℕ) → IsZero m.widths o → IsThere m o
  zero-there None h = tt
  zero-there (Some c) h = h

  group : (first count : ℕ) → length m.widths ≤ 120 → 1 ≤ count → AreWindowCells m first count → IsGroup m first count
  group first count few some h = let last = (h (count - 1) (omega (arith, some))).0 in record { there = omega (arith, last, some); few = omega (arith, last, few, some) }

  groups : (o : Option WinShape) → length m.widths ≤ 120 → HaveSoundWindows m o → AreGroups m o
  groups None few h = tt
  groups (Some w) few h =
      let s = h w refl in
      (group w.out_first w.count few s.some s.out, group w.local_first w.count few s.some s.local, group w.in_first w.count few s.some s.in_)

  flag-there : (o : Option ℕ) → IsCellIfAny m 1 o → IsThere m o
  flag-there None h = tt
  flag-there (Some c) h = h.0

  assigned : (o : Option ServiceShape) → ((s : ServiceShape) → o ≡ Some s → AreServiceCells m s) → AreAssigned m o
  assigned None h = tt
  assigned (Some s) h = let k = h s refl in (k.result.0, flag-there s.error k.error)

pub ready : (s : Setting) → IsSoundSetting s → IsReady s
ready s sound =
    let machine = sound.sound.machine.machine in
    let count = machine.count in
    record {
      widths = machine.widths;
      few = omega (arith, count);
      zero = zero-there s.machine s.machine.zero machine.zeroed;
      service = assigned s.machine s.conv.service sound.sound.fits.cells;
      windows = groups s.machine s.machine.windows count machine.windows;
    }

stands-if : (st : Standing) (i : GroundInst) → inst_of st ≡ Some i → st ≡ Stands i
stands-if (Stands j) i e = let f : j ≡ i = cc in ap Stands f
stands-if Illegal i e = absurd (cc)
stands-if Outside i e = absurd (cc)

-- an instruction that was found stands there
pub found-stands : (s : Setting) (pc : ℕ) (i : GroundInst) → inst_of (standing s pc) ≡ Some i → standing s pc ≡ Stands i
found-stands s pc i e = stands-if (standing s pc) i e

computed-by : (s : Setting) (st : Standing) → is_computed (block_of s st) ≡ true → inst_of st ≡ None → ⊥
computed-by s (Stands i) h e = absurd (cc)
computed-by s Illegal h e = true≢false (sym h)
computed-by s Outside h e = true≢false (sym h)

-- where a computed jump stands something is found
pub computed-found : (s : Setting) (pc : ℕ) → is_computed (block_at s pc) ≡ true → inst_of (standing s pc) ≡ None → ⊥
unfolding block_at
computed-found s pc h e = computed-by s (standing s pc) h e

module _ (s : Setting) (sound : IsSoundSetting s) (pc : ℕ) (i : GroundInst) (stands : standing s pc ≡ Stands i) (low : pc < 2 ^ 32) (link : Link) (is : link.inst ≡ i) (mentioned : link.mentioned ≡ mentioned_of (length s.machine.widths) i) where
  pub sound-link : IsSoundLink s link
  sound-link = record {
    sound = subst (λ (x : GroundInst). All (IsSoundTransfer s.machine) x.transfers) (sym is) (standing-sound s pc i sound.sound.machine.machine low stands).each;
    mentioned = mentioned ∙ ap (mentioned_of (length s.machine.widths)) (sym is);
  }

  pub may-stand : (at : ℕ) → pc < at → pc < i.next → list_any (does_always is_jump) i.transfers ≡ false → MayStand s at pc link
  may-stand at before ends stays = record {
    is = subst (IsLink s at pc) (sym is) (record { before = before; stands = stands; ends = ends; stays = stays });
    sound = sound-link;
  }

  pub searchable : (links : List (Option Link)) → AreLinks s pc links → IsSearchable (record { setting = s; at = pc; jump = link; links = links })
  searchable links are = record { ready = ready s sound; jump = sound-link; links = are }
