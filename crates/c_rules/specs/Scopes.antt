-- What a function may name, and whether its mentions keep the rules.
use Rattle.std.specs.Prelude.{◌≡◌, ℕ, zero, suc, ◌+◌, ◌==◌, ◌&&◌, nat_lt, nat_le, nat_eq, Bool, true, false, List, [], ◌∷◌, length, Option, option_map, is_some}
use Rattle.std.specs.List.{list_all, list_any}
use Rattle.std.specs.Option.{option_map_or}
use Rattle.std.specs.HashMap.{HashMap}
use Rattle.indexmap.specs.IndexMap.{get}
use Rattle.rtl_core.specs.Access.{is_size}
use Rattle.rtl_core.specs.declared.point.Point.{Point}
use Rattle.rtl_core.specs.contracts.point.PointPartialEq.TheImpl as point_equality
use Rattle.c_lang.specs.declared.tree.Var.{Var}
use Rattle.c_lang.specs.declared.tree.Var.TheVariants.{Cell, Temp}
use Rattle.c_lang.specs.declared.tree.Function.{Function}
use Rattle.c_lang.specs.Items.{Prototype, Mention, Name, Calling, Access, Label}
use Rattle.c_lang.specs.StaticRules.{prototype_at, first_failed}
use Rattle.c_rules.specs.declared.scope.Scope.{Scope}
use Rattle.c_rules.specs.declared.scope.Kept.{Kept}

-- whether two points are one, as the code has it
abbrev pub same_label : Point → Point → Bool
same_label = point_equality.eq-value.it

-- the function has this variable
abbrev pub names : Scope → Var → Bool
names s (Cell i) = list_any (nat_eq i) s.cells.now.keys
names s (Temp k) = nat_lt k s.temps
names s _ = true

-- how many parameters behind `ra` the function of an address has
abbrev pub count_of : Scope → ℕ → Option ℕ
count_of s entry = get nat_eq s.calls.now entry

abbrev pub has_name : Scope → Mention → Bool
has_name s (Name v) = names s v
has_name s (Calling entry n) = is_some (count_of s entry)
has_name s (Label to) = list_any (same_label to) s.labels.now.keys
has_name s _ = true

abbrev pub has_count : Scope → Mention → Bool
has_count s (Calling entry zero) = false
has_count s (Calling entry (suc n)) = option_map_or (λ count. n == count) (count_of s entry) true
has_count s _ = true

abbrev pub has_size : Mention → Bool
has_size (Access n) = is_size n
has_size _ = true

-- whether the rules 2, 3 and 4 are kept still, behind these mentions
unfoldable pub noted : Scope → Kept → List Mention → Kept
noted s k ms = record {
  known = k.known && list_all (has_name s) ms;
  counted = k.counted && list_all (has_count s) ms;
  sized = k.sized && list_all has_size ms;
}

-- whether these mentions keep the rules 2, 3 and 4
abbrev pub kept : Scope → List Mention → Kept
kept s ms = record { known = list_all (has_name s) ms; counted = list_all (has_count s) ms; sized = list_all has_size ms }

-- the map has how many parameters behind `ra` the first prototype of each address has
pub record Lists {S : Type 0} (calls : HashMap ℕ ℕ S) (ps : List Prototype) : Type 0 where
  pub same : (x : ℕ) → get nat_eq calls x ≡ option_map (λ p. length p.params) (prototype_at ps x)

-- a function declares no more than it may
abbrev pub is_within : Function → Bool
is_within f = nat_le (length f.params + length f.cells) 120 && nat_le f.temps 512 && nat_le (length f.blocks) 131072

-- the least rule behind the first that a function breaks, by whether its prototype declares it and by what its mentions keep
abbrev pub function_failed : Function → Bool → Kept → Option ℕ
function_failed f is_declared k = first_failed 2 ((is_declared && k.known) ∷ k.counted ∷ k.sized ∷ true ∷ is_within f ∷ [])
