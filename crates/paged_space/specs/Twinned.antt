-- What a twin is, and what becomes of a space that is given back.
use Rattle.std.specs.Prelude.{◌≡◌, ◌⊎◌, List, ◌∷◌}
use Rattle.page_pool.specs.Frames.{Frames, spare_of}
use Rattle.paged_space.specs.declared.fault.TwinFault.{TwinFault}
use Rattle.paged_space.specs.declared.fault.TwinFault.TheVariants.{Holders, NoMemory}
use Rattle.paged_space.specs.PageTable.{PageTable, contents_of}
use Rattle.paged_space.specs.Sharing.{HasFull, IsGiven, IsShared}
use Rattle.paged_space.specs.Together.{KeepMaps, StandTogether}
use Rattle.paged_space.specs.Twins.{AreTwins, HasSpareTwin}

-- u is a second space on the frames of t: it has the same map, no frame was copied, and every space keeps its map. Spaces that stood
-- together with t still do, together with u.
pub record IsTwinOf (t u : PageTable) (old new : Frames) : Type 0 where
  pub same : u ≡ t
  pub contents : contents_of u new ≡ contents_of t old
  pub shared : IsShared t.frames old new
  pub spare : spare_of new ≡ spare_of old
  pub not_full : HasFull t.frames old → ⊥
  pub together : (ts : List PageTable) → StandTogether (t ∷ ts) old → StandTogether (u ∷ t ∷ ts) new
  pub maps : (o : PageTable) → contents_of o new ≡ contents_of o old
  pub twins : HasSpareTwin t old → AreTwins t u new

-- why a space has no twin
abbrev pub HasNoTwin : PageTable → Frames → TwinFault → Type 0
HasNoTwin t s f = ((f ≡ Holders) × HasFull t.frames s) ⊎ ((f ≡ NoMemory) × (HasFull t.frames s → ⊥))

-- a space gave its frames back: each lost a holder, and all other spaces that stood together with it still do, and keep their maps
pub record IsGivenBack (t : PageTable) (old new : Frames) : Type 0 where
  pub given : IsGiven t.frames old new
  pub together : (ts : List PageTable) → StandTogether (t ∷ ts) old → StandTogether ts new × KeepMaps ts old new
