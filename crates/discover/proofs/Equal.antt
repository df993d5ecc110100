-- When points are equal.
use Rattle.std.proofs.Common.{◌≡◌, true, rules}
use Rattle.rtl_core.specs.declared.point.Point.{Point}
use Rattle.discover.specs.Parts.{same_point}

pub equal_points : (x y : Point) → same_point x y ≡ true → x ≡ y
equal_points x y e = search rules

pub same_itself : (x : Point) → same_point x x ≡ true
same_itself x = search rules
