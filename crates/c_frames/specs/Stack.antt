-- The slots of all open calls, behind one another in one block.
use Rattle.std.specs.Prelude.{◌≡◌, ℕ, zero, suc, ◌+◌, ◌-◌, ◌*◌, ◌≤◌, ◌<◌, ◌^◌, List, [], ◌∷◌, Option, Some, length, take, drop, option_map}
use Rattle.std.specs.Option.{option_and_then}
use Rattle.c_lang.specs.declared.tree.CExpr.{CExpr}
use Rattle.c_lang.specs.Value.{Vars, value}

-- what contracts see: how many slots each call has, those of the call on top, those of the calls below it, the latest first, and
-- those that all calls share
pub record Stack : Type 0 where
  pub size : ℕ
  pub top : List (Option ℕ)
  pub below : List (List (Option ℕ))
  pub globals : List ℕ

-- the slots of so many calls, the last one of the block first
unfoldable pub calls_in : ℕ → ℕ → List (Option ℕ) → List (List (Option ℕ))
calls_in size zero slots = []
calls_in size (suc depth) slots = drop (length slots - size) slots ∷ calls_in size depth (take (length slots - size) slots)

-- the block holds the slots of one call more than stand below, and has room for 65,537 calls
pub record IsStacked (size depth base count capacity shared : ℕ) : Type 0 where
  pub below : base ≡ depth * size
  pub whole : count ≡ base + size
  pub most : depth ≤ 65536
  pub room : 65537 * size ≤ capacity
  pub small : size < 2 ^ 32
  pub globals : shared ≡ 260

-- the values of some expressions; none where one has no value
abbrev pub values_of : Vars → List CExpr → Option (List ℕ)
values_of vars [] = Some []
values_of vars (e ∷ es) = option_and_then (λ n. option_map (λ ns. n ∷ ns) (values_of vars es)) (value vars e)
