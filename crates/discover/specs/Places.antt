-- Places: points in the bodies of procedures, and those that come next.
use Rattle.std.specs.Prelude.{ℕ, Bool, List, [], ◌∷◌, ◌++◌, Option, None, Some, map}
use Rattle.std.specs.List.{flat_map}
use Rattle.rtl_core.specs.declared.point.Point.{Point}
use Rattle.rtl_core.specs.declared.point.Slot.{Slot}
use Rattle.rtl_core.specs.declared.point.Slot.TheVariants.{Seq, CallTo}
use Rattle.points.specs.declared.block.Next.{Next}
use Rattle.points.specs.declared.block.Next.TheVariants.{Goes, Table, Calls, CallsAny, Returns, Couples}
use Rattle.points.specs.Courses.{point}
use Rattle.points.specs.Bodies.{Code, nexts, Body, Procedure}
use Rattle.worklist.specs.Closures.{AreMore}
use Rattle.discover.specs.declared.place.Place.{Place}
use Rattle.discover.specs.contracts.place.PlacePartialEq.TheImpl as place_equality

-- a point of the body of the procedure at an entry
abbrev pub place : ℕ → Point → Place
place entry p = record { entry = entry; point = p }

-- an address in that body, with nothing to come
abbrev pub place_at : ℕ → ℕ → Place
place_at entry pc = place entry (point pc Seq)

-- where a procedure begins
abbrev pub start : ℕ → Place
start entry = place_at entry entry

-- the second place behind a call
abbrev pub second_places : ℕ → Option ℕ → List Place
second_places entry None = []
second_places entry (Some second) = place_at entry second ∷ []

-- the places behind a call with this return address
abbrev pub back_places : Code → ℕ → ℕ → List Place
back_places code entry back = place_at entry back ∷ second_places entry (code.second back)

-- the places to which one thing that control can do leads
abbrev pub places_of : Code → ℕ → Next → List Place
places_of code entry (Goes p) = place entry p ∷ []
places_of code entry (Table a) = map (place_at entry) (code.table a)
places_of code entry (Calls t back) = start t ∷ back_places code entry back
places_of code entry (CallsAny back) = back_places code entry back
places_of code entry Returns = []
places_of code entry Couples = []

-- the place that a call enters which is to come
abbrev pub waiting_places : Slot → List Place
waiting_places (CallTo t back) = start t ∷ []
waiting_places _ = []

-- the places behind a place
abbrev pub behind : Code → Place → List Place
behind code p = waiting_places p.point.slot ++ flat_map (places_of code p.entry) (nexts code p.point)

-- a place whose point is in the body of its procedure
pub record InBody (code : Code) (roots : List ℕ) (p : Place) : Type 0 where
  pub procedure : Procedure code roots p.entry
  pub body : Body code p.entry p.point

abbrev pub same_place : Place → Place → Bool
same_place = place_equality.eq-value.it

-- the bodies of all procedures together have more points than the limit, a point counted once for each body
abbrev pub IsTooLarge : Code → List ℕ → (limit : ℕ) → Type 0
IsTooLarge code roots limit = AreMore same_place limit (InBody code roots)
