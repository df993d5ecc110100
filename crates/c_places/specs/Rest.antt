-- What is left at a place.
use Rattle.std.specs.Prelude.{◌≡◌, ℕ, suc, ◌==◌, ◌≤◌, if◌then◌else◌, List, [], ◌∷◌, ◌++◌, length, reverse, Option, slice_get, option_map}
use Rattle.c_lang.specs.declared.tree.CExpr.{CExpr}
use Rattle.c_lang.specs.declared.tree.Function.{Function}
use Rattle.c_lang.specs.declared.tree.Stmt.{Stmt}
use Rattle.c_lang.specs.declared.tree.Stmt.TheVariants.{If, Call}
use Rattle.c_lang.specs.Step.{Found, function_from}
use Rattle.c_places.specs.declared.items.Item.{Item}

-- the statements from a place on, the last item first
abbrev pub rest_in : List Item → ℕ → List Stmt
rest_in [] p = []
rest_in (x ∷ older) p = if p == suc (length older) then x.stmt.now ∷ rest_in older x.next else rest_in older p

-- the statements from a place on
unfoldable pub rest_at : List Item → ℕ → List Stmt
rest_at items = rest_in (reverse items)

-- the function of a number, with that number
abbrev pub found : List Function → ℕ → Option Found
found fs k = option_map (λ f. record { index = k; function = f }) (slice_get fs k)

-- what is behind a statement; the body of an `if` begins where its item says, and what is behind the `if` is behind the body; the
-- number of a call is that of the function that it calls, if it is there
pub record IsPlaced (fs : List Function) (x : Item) (older : List Item) : Type 0 where
  pub next : x.next ≤ length older
  pub body : x.body ≤ length older
  pub inside : (e : CExpr) (stmts : List Stmt) → x.stmt.now ≡ If e stmts → rest_in older x.body ≡ stmts ++ rest_in older x.next
  pub callee : (entry : ℕ) (es : List CExpr) → x.stmt.now ≡ Call entry es → found fs x.callee ≡ function_from 0 fs entry

-- the same of all items, the last one first
abbrev pub all_placed : List Function → List Item → Type 0
all_placed fs [] = Unit {0}
all_placed fs (x ∷ older) = IsPlaced fs x older × all_placed fs older

unfoldable pub AllPlaced : List Function → List Item → Type 0
AllPlaced fs items = all_placed fs (reverse items)

-- items put behind others: the places of those are as they were, and at a new one stand these statements
pub record Grown (fs : List Function) (old new : List Item) (at : ℕ) (stmts : List Stmt) : Type 0 where
  pub more : length old ≤ length new
  pub inside : at ≤ length new
  pub rest : rest_at new at ≡ stmts
  pub kept : (p : ℕ) → p ≤ length old → rest_at new p ≡ rest_at old p
  pub placed : AllPlaced fs old → AllPlaced fs new

-- the same, where the body of a statement begins at the place, if it is an `if`
pub record Bodied (fs : List Function) (old new : List Item) (at : ℕ) (stmt : Stmt) (next : ℕ) : Type 0 where
  pub more : length old ≤ length new
  pub inside : at ≤ length new
  pub rest : (e : CExpr) (stmts : List Stmt) → stmt ≡ If e stmts → rest_at new at ≡ stmts ++ rest_at old next
  pub kept : (p : ℕ) → p ≤ length old → rest_at new p ≡ rest_at old p
  pub placed : AllPlaced fs old → AllPlaced fs new

-- this number is that of the function that a statement calls, if it is a call
abbrev pub IsCallee : List Function → Stmt → ℕ → Type 0
IsCallee fs stmt k = (entry : ℕ) (es : List CExpr) → stmt ≡ Call entry es → found fs k ≡ function_from 0 fs entry

-- what an item says of the statements from its place on: its own, and those behind it; of an `if` its body with those behind it; and
-- which function a call calls
pub record IsItem (fs : List Function) (items : List Item) (place : ℕ) (x : Item) : Type 0 where
  pub rest : rest_at items place ≡ x.stmt.now ∷ rest_at items x.next
  pub inside : (e : CExpr) (stmts : List Stmt) → x.stmt.now ≡ If e stmts → rest_at items x.body ≡ stmts ++ rest_at items x.next
  pub callee : IsCallee fs x.stmt.now x.callee
