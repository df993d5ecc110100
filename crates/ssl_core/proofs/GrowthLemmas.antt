-- Names of cells are names.
use Rattle.std.proofs.Common.{◌≡◌, ℕ, Bool, true, false, List, [], ◌∷◌, ◌++◌, length, Option, Some, None, cond, nat_eq, refl, sym, ap, ◌∙◌}
use Rattle.std.specs.Option.{option_or}
use Rattle.std.specs.Cmp.Lexicographic.{pointwise}
use Rattle.rtl_core.specs.CellNames.{given}
use Rattle.rtl_core.specs.declared.names.CellGroup.{CellGroup}
use Rattle.rtl_core.specs.declared.machine.CellPart.{CellPart}
use Rattle.ssl_rules.specs.declared.tables.Meaning.{Meaning}
use Rattle.ssl_rules.specs.declared.tables.Meaning.TheVariants as meaning
use Rattle.ssl_rules.specs.declared.tables.Function.{Function}
use Rattle.ssl_rules.specs.declared.tables.Tables.{Tables}
use Rattle.ssl_rules.specs.Lookup.{named}
use Rattle.ssl_rules.specs.TableGrowth.{group_at, no_tables, with_cell, with_cells, with_function, with_view}
use Rattle.ssl_core.specs.State.{AreCellsNamed}
use Rattle.ssl_core.proofs.KeptLemmas.{named-append}

none_left : {X : Type 0} (a b : Option X) → option_or a b ≡ None → a ≡ None
none_left None b h = refl
none_left (Some x) b h = cc

none_right : {X : Type 0} (a b : Option X) → option_or a b ≡ None → b ≡ None
none_right None b h = h
none_right (Some x) b h = cc

not_same : {X Y : Type 0} (x : X) (y : Y) (b : Bool) → cond b (Some x) None ≡ None → cond b (Some y) None ≡ None
not_same x y true h = absurd (cc)
not_same x y false h = refl

-- a name more in both
both_more : (names : List (List ℕ × Meaning)) (cells : List (List ℕ × CellGroup)) (name : List ℕ) (m : Meaning) (group : CellGroup) (asked : List ℕ)
    → (named names asked ≡ None → given cells asked ≡ None) → named (names ++ (name, m) ∷ []) asked ≡ None → given (cells ++ (name, group) ∷ []) asked ≡ None
both_more names cells name m group asked was h =
    let both : option_or (named names asked) (named ((name, m) ∷ []) asked) ≡ None = sym (named-append names ((name, m) ∷ []) asked) ∙ h in
    let first : given cells asked ≡ None = was (none_left (named names asked) (named ((name, m) ∷ []) asked) both) in
    let second : given ((name, group) ∷ []) asked ≡ None =
    not_same m group (pointwise nat_eq asked name) (none_right (named names asked) (named ((name, m) ∷ []) asked) both) in
    named-append cells ((name, group) ∷ []) asked ∙ ap (λ o. option_or o (given ((name, group) ∷ []) asked)) first ∙ second

-- a name more among the names alone
one_more : (names : List (List ℕ × Meaning)) (name : List ℕ) (m : Meaning) (asked : List ℕ) → named (names ++ (name, m) ∷ []) asked ≡ None → named names asked ≡ None
one_more names name m asked h = none_left (named names asked) (named ((name, m) ∷ []) asked) (sym (named-append names ((name, m) ∷ []) asked) ∙ h)

pub none_named : AreCellsNamed no_tables
none_named = record { named_too = λ name h. refl }

pub cell_named : (t : Tables) (name : List ℕ) (w : ℕ) → AreCellsNamed t → AreCellsNamed (with_cell t name w)
cell_named t name w a = record { named_too = λ asked h. both_more t.names t.cells name (meaning.Cell (length t.widths)) (group_at t None) asked (a.named_too asked) h }

pub cells_named : (t : Tables) (name : List ℕ) (n w : ℕ) → AreCellsNamed t → AreCellsNamed (with_cells t name n w)
cells_named t name n w a = record { named_too = λ asked h. both_more t.names t.cells name (meaning.Cells (length t.files)) (group_at t (Some n)) asked (a.named_too asked) h }

pub view_named : (t : Tables) (name : List ℕ) (parts : List CellPart) → AreCellsNamed t → AreCellsNamed (with_view t name parts)
view_named t name parts a = record { named_too = λ asked h. a.named_too asked (one_more t.names name (meaning.View (length t.files)) asked h) }

pub function_named : (t : Tables) (name : List ℕ) (f : Function) → AreCellsNamed t → AreCellsNamed (with_function t name f)
function_named t name f a = record { named_too = λ asked h. a.named_too asked (one_more t.names name (meaning.Function (length t.functions)) asked h) }
