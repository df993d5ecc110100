-- Spaces that stand together in one pool.
use Rattle.std.specs.Prelude.{◌≡◌, ℕ, List, [], ◌∷◌, ◌++◌, Some}
use Rattle.std.specs.List.{slice_get}
use Rattle.page_pool.specs.Frames.{Frames}
use Rattle.paged_space.specs.PageTable.{PageTable, contents_of}
use Rattle.paged_space.specs.Moves.{StandIn}

-- the frames of all pages of some spaces
unfoldable pub frames_of_all : List PageTable → List ℕ
frames_of_all [] = []
frames_of_all (t ∷ ts) = t.frames ++ frames_of_all ts

-- each frame is held at most as often as it has holders
abbrev pub StandTogether : List PageTable → Frames → Type 0
StandTogether ts s = StandIn (frames_of_all ts) s

-- each of these spaces has the map that it had
abbrev pub KeepMaps : List PageTable → Frames → Frames → Type 0
KeepMaps ts old new = (i : ℕ) (t : PageTable) → slice_get ts i ≡ Some t → contents_of t new ≡ contents_of t old

-- all other spaces that stood together with this one still do, and keep their maps
abbrev pub LeavesOthers : PageTable → PageTable → Frames → Frames → Type 0
LeavesOthers t u old new = (ts : List PageTable) → StandTogether (t ∷ ts) old → StandTogether (u ∷ ts) new × KeepMaps ts old new
