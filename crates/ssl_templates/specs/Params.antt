-- The parameters that a body has.
use Rattle.std.specs.Prelude.{ℕ, ◌==◌, ◌||◌, Bool, false}
use Rattle.ssl_rules.specs.declared.formula.Formula.{Formula, fold-Formula}
use Rattle.ssl_rules.specs.declared.formula.Formula.TheOpen.{Formula-F}

abbrev pub node_has : ℕ → Formula-F Bool → Bool
node_has place (Formula-F.Param k) = k == place
node_has place (Formula-F.Leaf l) = false
node_has place (Formula-F.Load n a) = a
node_has place (Formula-F.Un op a) = a
node_has place (Formula-F.Bin op a b) = a || b
node_has place (Formula-F.Slice a lo hi) = a
node_has place (Formula-F.Zext w a) = a
node_has place (Formula-F.Sext w a) = a
node_has place (Formula-F.If c a b) = c || (a || b)

-- a body has the parameter at this place
unfoldable pub has_param : ℕ → Formula → Bool
has_param place = fold-Formula Bool (node_has place)
