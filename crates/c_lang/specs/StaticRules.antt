-- The static rules of a C text. Each rule is a test of one item of a text; a fault is told by the least
-- item that breaks a rule, and there by the least rule.
use Rattle.std.specs.Prelude.{ℕ, zero, suc, ◌+◌, ◌-◌, ◌*◌, ◌^◌, ◌==◌, ◌&&◌, ◌||◌, nat_lt, nat_le, min, max, not, Bool, true, false, IsTrue, if◌then◌else◌, List, [], ◌∷◌, ◌++◌, length, map, take, sum_by, slice_get, slice_index, is_some, unwrap_or, Option, Some, None, option_map}
use Rattle.std.specs.List.{list_all, list_any}
use Rattle.std.specs.Option.{option_or, option_map_or}
use Rattle.std.specs.Cmp.Lexicographic.{pointwise}
use Rattle.rtl_core.specs.Access.{is_size}
use Rattle.c_lang.specs.declared.tree.Function.{Function}
use Rattle.c_lang.specs.declared.tree.Program.{Program}
use Rattle.c_lang.specs.State.{has, declares}
use Rattle.c_lang.specs.Step.{same_point}
use Rattle.c_lang.specs.Items.{Text, Item, Machine, Segment, Table, Declared, Defined, Main, Array, Prototype, Mention, Name, Calling, Access, Label, items, text_of, prototype_of, mentions}

-- no two members of a list are alike
abbrev pub no_two : {A : Type 0} → (A → A → Bool) → List A → Bool
no_two alike [] = true
no_two alike (x ∷ xs) = not (list_any (alike x) xs) && no_two alike xs

abbrev pub no_twice : List ℕ → Bool
no_twice = no_two (λ x y. x == y)

-- ---- 1: nothing is declared twice

abbrev pub once : Text → Item → Bool
once t (Declared k p) = no_twice p.params && not (has (map (λ q. q.entry) (take k t.prototypes)) p.entry)
once t (Defined k f) = no_twice (f.params ++ f.cells) && no_two same_point (map (λ b. b.label) f.blocks)
once t _ = true

-- ---- 2: what is named is declared, and each prototype has its function

-- the first prototype of an address
abbrev pub prototype_at : List Prototype → ℕ → Option Prototype
prototype_at [] entry = None
prototype_at (p ∷ ps) entry = if p.entry == entry then Some p else prototype_at ps entry

abbrev pub is_declared : Text → Function → Mention → Bool
is_declared t f (Name v) = declares f v
is_declared t f (Calling entry n) = is_some (prototype_at t.prototypes entry)
is_declared t f (Label to) = list_any (λ b. same_point b.label to) f.blocks
is_declared t f _ = true

-- one address and the same parameters
abbrev pub is_like : Prototype → Option Prototype → Bool
is_like p None = false
is_like p (Some q) = (p.entry == q.entry) && pointwise (λ c d. c == d) p.params q.params

abbrev pub known : Text → Item → Bool
known t (Declared k p) = is_like p (option_map prototype_of (slice_get t.functions k))
known t (Defined k f) = is_like (prototype_of f) (slice_get t.prototypes k) && list_all (is_declared t f) (mentions f)
known t (Main entry first) = is_some (prototype_at t.prototypes entry)
known t _ = true

-- ---- 3: a call has as many arguments as the function has parameters

abbrev pub takes : Text → ℕ → ℕ → Bool
takes t entry n = option_map_or (λ p. n == length p.params) (prototype_at t.prototypes entry) true

-- the first argument is `ra`
abbrev pub is_counted : Text → Mention → Bool
is_counted t (Calling entry zero) = false
is_counted t (Calling entry (suc n)) = takes t entry n
is_counted t _ = true

abbrev pub counted : Text → Item → Bool
counted t (Defined k f) = list_all (is_counted t) (mentions f)
counted t (Main entry first) = takes t entry (length first)
counted t _ = true

-- ---- 4: sizes of accesses, lengths of arrays, flags

abbrev pub is_whole : Array → Bool
is_whole a = (a.declared == length a.numbers) && not (a.declared == 0)

abbrev pub is_flag : ℕ → Bool
is_flag n = nat_lt n 2

-- a row of `uq_segs`
pub record Row : Type 0 where
  pub base : ℕ
  pub write : ℕ
  pub file : ℕ
  pub len : ℕ

-- the rows of a table; what is left behind the last whole one is none
abbrev pub rows : List ℕ → List Row
rows (base ∷ write ∷ file ∷ len ∷ more) = record { base = base; write = write; file = file; len = len } ∷ rows more
rows _ = []

-- whether an array holds the file bytes of a row: an array of one 0 may hold none
abbrev pub holds : Array → Row → Bool
holds a r = (r.file == length a.numbers) || ((r.file == 0) && pointwise (λ m n. m == n) a.numbers (0 ∷ []))

-- each array with its row
abbrev pub each_holds : List Array → List Row → Bool
each_holds [] [] = true
each_holds (a ∷ as') (r ∷ rs) = holds a r && is_flag r.write && nat_le r.file r.len && each_holds as' rs
each_holds _ _ = false

abbrev pub is_access : Mention → Bool
is_access (Access n) = is_size n
is_access _ = true

-- a table without rows is an array of one 0
abbrev pub is_table : List Array → Array → Bool
is_table [] a = pointwise (λ m n. m == n) a.numbers (0 ∷ [])
is_table (s ∷ ss) a = (length a.numbers == 4 * length (s ∷ ss)) && each_holds (s ∷ ss) (rows a.numbers)

abbrev pub sized : Text → Item → Bool
sized t (Machine a) =
    is_whole a && (length a.numbers == 14) && is_flag (slice_index a.numbers 0) && is_flag (slice_index a.numbers 1) && is_flag (slice_index a.numbers 13)
sized t (Segment k a) = is_whole a
sized t (Table a) = is_whole a && is_table t.segments a
sized t (Defined k f) = list_all is_access (mentions f)
sized t _ = true

-- ---- 5: segments and areas lie apart, below 2^32 and within their limits

-- so many bytes from a base on
pub record Range : Type 0 where
  pub base : ℕ
  pub len : ℕ

abbrev pub share_byte : Range → Range → Bool
share_byte r s = nat_lt (max r.base s.base) (min (r.base + r.len) (s.base + s.len))

abbrev pub is_below_end : Range → Bool
is_below_end r = nat_le (r.base + r.len) (2 ^ 32)

-- the heap and the stack of `uq_machine`
abbrev pub heap_range : Array → Range
heap_range a = record { base = slice_index a.numbers 2; len = slice_index a.numbers 3 }

abbrev pub stack_range : Array → Range
stack_range a = record { base = slice_index a.numbers 4; len = slice_index a.numbers 5 }

abbrev pub segment_ranges : Array → List Range
segment_ranges table = map (λ r. record { base = r.base; len = r.len }) (rows table.numbers)

abbrev pub most_heap : ℕ
most_heap = 16777216

abbrev pub most_stack : ℕ
most_stack = 8388608

-- the most bytes of all segments together
abbrev pub most_image : ℕ
most_image = 16777216

abbrev pub placed : Text → Item → Bool
placed t (Machine a) =
    nat_le (heap_range a).len most_heap && nat_le (stack_range a).len most_stack && list_all is_below_end (heap_range a ∷ stack_range a ∷ [])
    && not (share_byte (heap_range a) (stack_range a))
placed t (Table a) =
    list_all is_below_end (segment_ranges a) && nat_le (sum_by (λ r. r.len) (segment_ranges a)) most_image
    && no_two share_byte (segment_ranges a ++ heap_range t.machine ∷ stack_range t.machine ∷ [])
placed t _ = true

-- ---- 6: what one function may declare

abbrev pub small : Text → Item → Bool
small t (Defined k f) = nat_le (length f.params + length f.cells) 120 && nat_le f.temps 512 && nat_le (length f.blocks) 131072
small t _ = true

-- ---- all rules

abbrev pub rules : List (Text → Item → Bool)
rules = once ∷ known ∷ counted ∷ sized ∷ placed ∷ small ∷ []

-- the place, counted from k on, of the first test that fails
abbrev pub first_failed : ℕ → List Bool → Option ℕ
first_failed k [] = None
first_failed k (kept ∷ rest) = if kept then first_failed (k + 1) rest else Some k

-- the least rule that an item breaks
abbrev pub broken_by : Text → Item → Option ℕ
broken_by t item = first_failed 1 (map (λ rule. rule t item) rules)

-- the least item, counted from i on, that breaks a rule, and the least rule that it breaks
abbrev pub first_broken : Text → ℕ → List Item → Option (ℕ × ℕ)
first_broken t i [] = None
first_broken t i (item ∷ rest) = option_or (option_map (λ k. (i, k)) (broken_by t item)) (first_broken t (i + 1) rest)

-- the fault of a text: the number of an item and the number of a rule
abbrev pub static_fault : Text → Option (ℕ × ℕ)
static_fault t = first_broken t 0 (items t)

-- ---- programs

-- all items of a program's text keep a rule
abbrev pub Keeps : (Text → Item → Bool) → Program → Type 0
Keeps rule p = IsTrue (list_all (rule (text_of p)) (items (text_of p)))

-- a program keeps the rule of this number
abbrev pub KeepsRule : ℕ → Program → Type 0
KeepsRule k p = Keeps (unwrap_or (slice_get rules (k - 1)) (λ t item. true)) p

-- a program that keeps all static rules
pub record IsStatic (p : Program) : Type 0 where
  pub once : Keeps once p
  pub known : Keeps known p
  pub counted : Keeps counted p
  pub sized : Keeps sized p
  pub placed : Keeps placed p
  pub small : Keeps small p
