-- What a line without a fault says is sound for the machine.
use Rattle.std.proofs.Common.{◌≡◌, ◌≢◌, ℕ, zero, suc, ◌+◌, ◌-◌, ◌%◌, ◌^◌, ◌<◌, ◌≤◌, Bool, true, false, cond, ◌&&◌, ◌||◌, nat_eq, List, [], ◌∷◌, length, get_or, Option, Some, None, refl, ap, subst, ◌⊎◌, inl, inr, arith, All, IfSome}
use Rattle.std.specs.Prelude.{slice_get, slice_index, option_map, option_and_then, unwrap_or, nat_lt, nat_le, is_some, not}
use Rattle.std.specs.List.{list_any}
use Rattle.std.specs.Map.{lookup}
use Rattle.std.specs.Option.{option_or}
use Rattle.std.specs.Cmp.Lexicographic.{pointwise}
use Rattle.std.proofs.lemmas.Bool.{cases_Bool, and_parts, and_cases, or_parts, not-true, not-false, ltb-true, ltb-false, leb-true, eqb-true, eq-eqb}
use Rattle.std.proofs.lemmas.List.Elements.{All-nil, All-map, All-from_get_or}
use Rattle.std.proofs.lemmas.Map.Entries.{All-lookup}
use Rattle.rtl_core.specs.declared.encodings.Encodings.{Encodings}
use Rattle.rtl_core.specs.declared.machine.Machine.{Machine}
use Rattle.rtl_core.specs.declared.machine.NamedMachine.{NamedMachine}
use Rattle.rtl_core.specs.declared.names.CellGroup.{CellGroup}
use Rattle.rtl_core.specs.CellNames.{cells_in, cell_at}
use Rattle.rtl_core.specs.Grounding.{is_of_type}
use Rattle.rtl_core.specs.SoundConv.{IsArea, IsWord, IsArgsOffset, IsCellOf, IsCellIfAny}
use Rattle.rtl_core.specs.SoundMachine.{NamesItsCells}
use Rattle.conv_syntax.specs.declared.line.ConvBody.{ConvBody}
use Rattle.conv_syntax.specs.declared.line.ConvBody.TheVariants as body
use Rattle.conv_syntax.specs.declared.line.ConvCell.{ConvCell}
use Rattle.conv_syntax.specs.declared.line.ServiceLine.{ServiceLine}
use Rattle.conventions.specs.declared.fact.Fact.{Fact}
use Rattle.conventions.specs.declared.fact.Fact.TheVariants.{Elf, Stack, Heap, Service, Exit, Read, Write, Brk, Errors, Link, Call, Return, Entry, Whole, Pad, Args}
use Rattle.conventions.specs.declared.fact.Area.{Area}
use Rattle.conventions.specs.declared.fact.StackArea.{StackArea}
use Rattle.conventions.specs.declared.fact.ServiceCells.{ServiceCells}
use Rattle.conventions.specs.declared.fact.ErrorNumbers.{ErrorNumbers}
use Rattle.conventions.specs.declared.said.Said.{Said}
use Rattle.conventions.specs.declared.fault.ConvFault.{ConvFault}
use Rattle.conventions.specs.declared.fault.ConvFault.TheVariants.{Unknown, Twice, FieldRange, WidthDiffers}
use Rattle.conventions.specs.Names.{cell_of, name_of, instruction_numbers, instructions, instruction_of}
use Rattle.conventions.specs.Facts.{◌>>=◌, error_cell, cells, service_cells, stack_area, fact_of}
use Rattle.conventions.specs.Areas.{stack_limit, heap_limit, is_area, is_room, is_zero, is_stack, is_offset, shares, meets_heap, meets_stack}
use Rattle.conventions.specs.Faults.{is_early, is_twice, is_over, is_out_of_range, width_fault, error_width_fault, service_width_fault, widths_fault, fact_fault}

-- ---- options

pub bind : {A B : Type 0} (P : A → Type 0) (Q : B → Type 0) (next : A → Option B) (o : Option A) → IfSome o P → ((a : A) → P a → IfSome (next a) Q) → IfSome (option_and_then next o) Q
bind P Q next None h k = tt
bind P Q next (Some a) h k = k a h

pub mapped : {A B : Type 0} (P : A → Type 0) (Q : B → Type 0) (make : A → B) (o : Option A) → IfSome o P → ((a : A) → P a → Q (make a)) → IfSome (option_map make o) Q
mapped P Q make None h k = tt
mapped P Q make (Some a) h k = k a h

pub some_is : {A : Type 0} (P : A → Type 0) (o : Option A) (a : A) → o ≡ Some a → IfSome o P → P a
some_is P o a e h = subst (λ o. IfSome o P) e h

-- ---- cells

-- a cell of the machine
abbrev pub IsHere : Machine → ℕ → Type 0
IsHere m c = c < length m.widths

pub record AreHere (m : Machine) (c : ServiceCells) : Type 0 where
  pub number : IsHere m c.number
  pub arg_x : IsHere m c.arg_x
  pub arg_y : IsHere m c.arg_y
  pub arg_z : IsHere m c.arg_z
  pub result : IsHere m c.result
  pub error : IfSome c.error (IsHere m)

group_cell : (n first : ℕ) (count index : Option ℕ) → ((i : ℕ) → i < cells_in (record { first = first; count = count }) → first + i < n) → IfSome (cell_at (record { first = first; count = count }) index) (λ c. c < n)
group_cell n first None None h =
    let one : 0 < 1 = omega arith in
    let l : first + 0 < n = h 0 one in
    let k : first < n = omega arith in
    k
group_cell n first None (Some i) h = tt
group_cell n first (Some count) None h = tt
group_cell n first (Some count) (Some i) h = by (cases_Bool (nat_lt i count))
  where
    by : (nat_lt i count ≡ true) ⊎ (nat_lt i count ≡ false) → IfSome (cell_at (record { first = first; count = Some count }) (Some i)) (λ c. c < n)
    by (inl e) = rw e (h i (ltb-true i count e))
    by (inr e) = rw e tt

abbrev HasCells : Machine → CellGroup → Type 0
HasCells m group = (i : ℕ) → i < cells_in group → group.first + i < length m.widths

pub cell_here : (named : NamedMachine) → NamesItsCells named → (cell : ConvCell) → IfSome (cell_of named cell) (IsHere named.machine)
cell_here named names cell =
    bind (HasCells named.machine) (IsHere named.machine) (λ group. cell_at group cell.index) (lookup (pointwise nat_eq cell.name) named.names)
    (All-lookup (HasCells named.machine) (pointwise nat_eq cell.name) named.names names)
    (λ group h. group_cell (length named.machine.widths) group.first group.count cell.index h)

error_here : (named : NamedMachine) → NamesItsCells named → (cell : Option ConvCell) → IfSome (error_cell named cell) (λ c. IfSome c (IsHere named.machine))
error_here named names None = tt
error_here named names (Some cell) = mapped (IsHere named.machine) (λ c. IfSome c (IsHere named.machine)) (λ c. Some c) (cell_of named cell) (cell_here named names cell) (λ c h. h)

all_here : (m : Machine) (number x y z answer : Option ℕ) (error : Option (Option ℕ)) → IfSome number (IsHere m) → IfSome x (IsHere m) → IfSome y (IsHere m) → IfSome z (IsHere m) → IfSome answer (IsHere m)
    → IfSome error (λ c. IfSome c (IsHere m))
    → IfSome (number >>= (λ number. x >>= (λ x. y >>= (λ y. z >>= (λ z. answer >>= (λ answer. error >>= (λ error. Some (cells number x y z answer error)))))))) (AreHere m)
all_here m None x y z answer error hn hx hy hz ha he = tt
all_here m (Some number) None y z answer error hn hx hy hz ha he = tt
all_here m (Some number) (Some x) None z answer error hn hx hy hz ha he = tt
all_here m (Some number) (Some x) (Some y) None answer error hn hx hy hz ha he = tt
all_here m (Some number) (Some x) (Some y) (Some z) None error hn hx hy hz ha he = tt
all_here m (Some number) (Some x) (Some y) (Some z) (Some answer) None hn hx hy hz ha he = tt
all_here m (Some number) (Some x) (Some y) (Some z) (Some answer) (Some error) hn hx hy hz ha he =
    record { number = hn; arg_x = hx; arg_y = hy; arg_z = hz; result = ha; error = he }

service_here : (named : NamedMachine) → NamesItsCells named → (line : ServiceLine) → IfSome (service_cells named line) (AreHere named.machine)
service_here named names line =
    all_here named.machine (cell_of named line.number) (cell_of named line.arg_x) (cell_of named line.arg_y) (cell_of named line.arg_z) (cell_of named line.result) (error_cell named line.error)
    (cell_here named names line.number) (cell_here named names line.arg_x) (cell_here named names line.arg_y) (cell_here named names line.arg_z) (cell_here named names line.result)
    (error_here named names line.error)

-- ---- instructions

or_right : (b c : Bool) → c ≡ true → (b || c) ≡ true
or_right true c h = refl
or_right false c h = h

any_at : (cs : List ℕ) (i c : ℕ) → i < length cs → get_or cs i 0 ≡ c → list_any (λ d. nat_eq d c) cs ≡ true
any_at [] i c h e = absurd (omega arith)
any_at (d ∷ ds) zero c h e = rw (eq-eqb d c e) refl
any_at (d ∷ ds) (suc i) c h e = or_right (nat_eq d c) (list_any (λ d. nat_eq d c) ds) (any_at ds i c (omega arith) e)

of_type : (m : Machine) (o : Option (List ℕ)) → slice_get m.types 0 ≡ o → All (λ c. is_of_type m 0 c ≡ true) (unwrap_or o [])
of_type m None e = All-nil (λ c. is_of_type m 0 c ≡ true)
of_type m (Some cs) e = All-from_get_or (λ c. is_of_type m 0 c ≡ true) cs 0 (λ i h. rw e (any_at cs i (get_or cs i 0) h refl))

pub instruction_known : (enc : Encodings) (m : Machine) → m.types ≡ enc.types → (name : List ℕ) → IfSome (instruction_of (instructions enc) name) (λ c. is_of_type m 0 c ≡ true)
instruction_known enc m types name =
    let P : ℕ → Type 0 = λ c. is_of_type m 0 c ≡ true in
    All-lookup P (pointwise nat_eq name) (instructions enc)
    (All-map (λ e. P e.1) (λ c. (name_of enc c, c)) (instruction_numbers enc)
    (of_type m (slice_get enc.types 0) (ap (λ t. slice_get t 0) types)))

-- ---- what is known of a line whose names are

abbrev pub IsKnown : Machine → Fact → Type 0
IsKnown m (Stack stack) = IsHere m stack.cell
IsKnown m (Service found) = AreHere m found
IsKnown m (Link cell) = IsHere m cell
IsKnown m (Call c) = is_of_type m 0 c ≡ true
IsKnown m (Return c) = is_of_type m 0 c ≡ true
IsKnown m (Pad c) = is_of_type m 0 c ≡ true
IsKnown m _ = Unit {0}

pub known_fact : (enc : Encodings) (named : NamedMachine) → named.machine.types ≡ enc.types → NamesItsCells named → (b : ConvBody) → IfSome (fact_of (instructions enc) named b) (IsKnown named.machine)
known_fact enc named types names (body.Elf n) = tt
known_fact enc named types names (body.Stack line) = mapped (IsHere named.machine) (IsKnown named.machine) (λ cell. Stack (stack_area line cell)) (cell_of named line.cell) (cell_here named names line.cell) (λ c h. h)
known_fact enc named types names (body.Heap base size) = tt
known_fact enc named types names (body.Service line) = mapped (AreHere named.machine) (IsKnown named.machine) (λ found. Service found) (service_cells named line) (service_here named names line) (λ c h. h)
known_fact enc named types names (body.Exit n) = tt
known_fact enc named types names (body.Read n) = tt
known_fact enc named types names (body.Write n) = tt
known_fact enc named types names (body.Brk n) = tt
known_fact enc named types names (body.Errors fault descriptor unknown) = tt
known_fact enc named types names (body.Link cell) = mapped (IsHere named.machine) (IsKnown named.machine) (λ c. Link c) (cell_of named cell) (cell_here named names cell) (λ c h. h)
known_fact enc named types names (body.Call name) = mapped (λ c. is_of_type named.machine 0 c ≡ true) (IsKnown named.machine) (λ c. Call c) (instruction_of (instructions enc) name) (instruction_known enc named.machine types name) (λ c h. h)
known_fact enc named types names (body.Return name) = mapped (λ c. is_of_type named.machine 0 c ≡ true) (IsKnown named.machine) (λ c. Return c) (instruction_of (instructions enc) name) (instruction_known enc named.machine types name) (λ c h. h)
known_fact enc named types names (body.Entry n) = tt
known_fact enc named types names (body.Whole n) = tt
known_fact enc named types names (body.Pad name) = mapped (λ c. is_of_type named.machine 0 c ≡ true) (IsKnown named.machine) (λ c. Pad c) (instruction_of (instructions enc) name) (instruction_known enc named.machine types name) (λ c h. h)
known_fact enc named types names (body.Args n) = tt

-- ---- ranges and widths

-- no fault of a line whose names are known
pub record IsPlain (m : Machine) (said : Said) (line : ℕ) (f : Fact) : Type 0 where
  pub once : is_twice said f ≡ false
  pub in_range : is_out_of_range m said f ≡ false
  pub widths : widths_fault m line f ≡ None

one_test : (b : Bool) (x : ConvFault) (o : Option ConvFault) → cond b (Some x) o ≡ None → (b ≡ false) × (o ≡ None)
one_test true x o h = absurd (cc)
one_test false x o h = (refl, h)

pub plain_fact : (m : Machine) (said : Said) (line : ℕ) (f : Fact) → fact_fault m said line f ≡ None → IsPlain m said line f
plain_fact m said line f h =
    let range : Option ConvFault = cond (is_out_of_range m said f) (Some (FieldRange line)) (widths_fault m line f) in
    let e = one_test (is_early said f) (Unknown line) (cond (is_twice said f) (Some (Twice line)) range) h in
    let t = one_test (is_twice said f) (Twice line) range e.1 in
    let r = one_test (is_out_of_range m said f) (FieldRange line) (widths_fault m line f) t.1 in
    record { once = t.0; in_range = r.0; widths = r.1 }

fits : (bits n : ℕ) → is_over bits n ≡ false → n < 2 ^ bits
fits bits n h = ltb-true n (2 ^ bits) (not-false (nat_lt n (2 ^ bits)) h)

area_is : (limit base size : ℕ) → is_area limit base size ≡ true → IsArea limit base size
area_is limit base size h =
    let a = and_parts (nat_eq (base % 4096) 0) (nat_eq (size % 4096) 0 && (nat_lt 0 size && (nat_le size limit && nat_le (base + size) (2 ^ 32)))) h in
    let b = and_parts (nat_eq (size % 4096) 0) (nat_lt 0 size && (nat_le size limit && nat_le (base + size) (2 ^ 32))) a.1 in
    let c = and_parts (nat_lt 0 size) (nat_le size limit && nat_le (base + size) (2 ^ 32)) b.1 in
    let d = and_parts (nat_le size limit) (nat_le (base + size) (2 ^ 32)) c.1 in
    record {
      base = eqb-true (base % 4096) 0 a.0;
      size = eqb-true (size % 4096) 0 b.0;
      some = ltb-true 0 size c.0;
      few = leb-true size limit d.0;
      end = leb-true (base + size) (2 ^ 32) d.1;
    }

-- a stack that may stand
pub record IsSoundStack (m : Machine) (s : StackArea) : Type 0 where
  pub area : IsArea stack_limit s.base s.size
  pub room : s.room ≤ s.size
  pub aligned : s.room % 8 ≡ 0
  pub first : IsWord (s.base + s.size - s.room)
  pub moving : m.zero ≢ Some s.cell
  pub cell : IsCellOf m 32 s.cell

not_zero : (o : Option ℕ) (c : ℕ) → is_zero o c ≡ false → o ≢ Some c
not_zero None c h e = cc
not_zero (Some z) c h e =
    let same : z ≡ c = cc in
    let t : nat_eq z c ≡ true = eq-eqb z c same in
    cc

tested : (b : Bool) (x : ConvFault) → cond b None (Some x) ≡ None → b ≡ true
tested true x h = refl
tested false x h = absurd (cc)

width_is : (m : Machine) (line asked c : ℕ) → width_fault m line asked c ≡ None → slice_index m.widths c ≡ asked
width_is m line asked c h = eqb-true (slice_index m.widths c) asked (tested (nat_eq (slice_index m.widths c) asked) (WidthDiffers line asked (slice_index m.widths c)) h)

cell_is : (m : Machine) (line asked c : ℕ) → IsHere m c → width_fault m line asked c ≡ None → IsCellOf m asked c
cell_is m line asked c here h = (here, width_is m line asked c h)

stack_is : (m : Machine) (s : StackArea) → is_stack m s ≡ true → IsCellOf m 32 s.cell → IsSoundStack m s
stack_is m s h cell =
    let a = and_parts (is_area stack_limit s.base s.size) (is_room s.base s.size s.room && not (is_zero m.zero s.cell)) h in
    let b = and_parts (is_room s.base s.size s.room) (not (is_zero m.zero s.cell)) a.1 in
    let c = and_parts (nat_le s.room s.size) (nat_eq (s.room % 8) 0 && nat_lt (s.base + s.size - s.room) (2 ^ 32)) b.0 in
    let d = and_parts (nat_eq (s.room % 8) 0) (nat_lt (s.base + s.size - s.room) (2 ^ 32)) c.1 in
    record {
      area = area_is stack_limit s.base s.size a.0;
      room = leb-true s.room s.size c.0;
      aligned = eqb-true (s.room % 8) 0 d.0;
      first = ltb-true (s.base + s.size - s.room) (2 ^ 32) d.1;
      moving = not_zero m.zero s.cell (not-true (is_zero m.zero s.cell) b.1);
      cell = cell;
    }

-- the cells of a service that has the widths
pub record AreSoundCells (m : Machine) (c : ServiceCells) : Type 0 where
  pub number : IsCellOf m 32 c.number
  pub arg_x : IsCellOf m 32 c.arg_x
  pub arg_y : IsCellOf m 32 c.arg_y
  pub arg_z : IsCellOf m 32 c.arg_z
  pub result : IsCellOf m 32 c.result
  pub error : IsCellIfAny m 1 c.error

pub neither : (a b : Option ConvFault) → option_or a b ≡ None → (a ≡ None) × (b ≡ None)
neither None b h = (refl, h)
neither (Some e) b h = absurd (cc)

error_is : (m : Machine) (line : ℕ) (o : Option ℕ) → IfSome o (IsHere m) → error_width_fault m line o ≡ None → IsCellIfAny m 1 o
error_is m line None here h = tt
error_is m line (Some c) here h = cell_is m line 1 c here h

service_is : (m : Machine) (line : ℕ) (c : ServiceCells) → AreHere m c → service_width_fault m line c ≡ None → AreSoundCells m c
service_is m line c here h =
    let f : ℕ → Option ConvFault = width_fault m line 32 in
    let e : Option ConvFault = error_width_fault m line c.error in
    let n = neither (f c.number) (option_or (f c.arg_x) (option_or (f c.arg_y) (option_or (f c.arg_z) (option_or (f c.result) e)))) h in
    let x = neither (f c.arg_x) (option_or (f c.arg_y) (option_or (f c.arg_z) (option_or (f c.result) e))) n.1 in
    let y = neither (f c.arg_y) (option_or (f c.arg_z) (option_or (f c.result) e)) x.1 in
    let z = neither (f c.arg_z) (option_or (f c.result) e) y.1 in
    let r = neither (f c.result) e z.1 in
    record {
      number = cell_is m line 32 c.number here.number n.0;
      arg_x = cell_is m line 32 c.arg_x here.arg_x x.0;
      arg_y = cell_is m line 32 c.arg_y here.arg_y y.0;
      arg_z = cell_is m line 32 c.arg_z here.arg_z z.0;
      result = cell_is m line 32 c.result here.result r.0;
      error = error_is m line c.error here.error r.1;
    }

pub record AreErrorNumbers (e : ErrorNumbers) : Type 0 where
  pub fault : IsWord e.fault
  pub descriptor : IsWord e.descriptor
  pub unknown : IsWord e.unknown

errors_are : (e : ErrorNumbers) → (is_over 32 e.fault || (is_over 32 e.descriptor || is_over 32 e.unknown)) ≡ false → AreErrorNumbers e
errors_are e h =
    let a = or_parts (is_over 32 e.fault) (is_over 32 e.descriptor || is_over 32 e.unknown) h in
    let b = or_parts (is_over 32 e.descriptor) (is_over 32 e.unknown) a.1 in
    record { fault = fits 32 e.fault a.0; descriptor = fits 32 e.descriptor b.0; unknown = fits 32 e.unknown b.1 }

-- a sound fact
abbrev pub IsSoundFact : Machine → Fact → Type 0
IsSoundFact m (Elf n) = n < 2 ^ 16
IsSoundFact m (Stack s) = IsSoundStack m s
IsSoundFact m (Heap h) = IsArea heap_limit h.base h.size
IsSoundFact m (Service c) = AreSoundCells m c
IsSoundFact m (Exit n) = IsWord n
IsSoundFact m (Read n) = IsWord n
IsSoundFact m (Write n) = IsWord n
IsSoundFact m (Brk n) = IsWord n
IsSoundFact m (Errors e) = AreErrorNumbers e
IsSoundFact m (Link c) = IsCellOf m 32 c
IsSoundFact m (Call c) = is_of_type m 0 c ≡ true
IsSoundFact m (Return c) = is_of_type m 0 c ≡ true
IsSoundFact m (Entry n) = IsWord n
IsSoundFact m (Whole n) = IsWord n
IsSoundFact m (Pad c) = is_of_type m 0 c ≡ true
IsSoundFact m (Args n) = Unit {0}

pub sound_fact : (m : Machine) (said : Said) (line : ℕ) (f : Fact) → IsKnown m f → IsPlain m said line f → IsSoundFact m f
sound_fact m said line (Elf n) k p = fits 16 n p.in_range
sound_fact m said line (Stack s) k p =
    let t = or_parts (not (is_stack m s)) (meets_heap said.heap s) p.in_range in
    stack_is m s (not-false (is_stack m s) t.0) (cell_is m line 32 s.cell k p.widths)
sound_fact m said line (Heap h) k p =
    let t = or_parts (not (is_area heap_limit h.base h.size)) (meets_stack said.stack h) p.in_range in
    area_is heap_limit h.base h.size (not-false (is_area heap_limit h.base h.size) t.0)
sound_fact m said line (Service c) k p = service_is m line c k p.widths
sound_fact m said line (Exit n) k p = fits 32 n p.in_range
sound_fact m said line (Read n) k p = fits 32 n p.in_range
sound_fact m said line (Write n) k p = fits 32 n p.in_range
sound_fact m said line (Brk n) k p = fits 32 n p.in_range
sound_fact m said line (Errors e) k p = errors_are e p.in_range
sound_fact m said line (Link c) k p = cell_is m line 32 c k p.widths
sound_fact m said line (Call c) k p = k
sound_fact m said line (Return c) k p = k
sound_fact m said line (Entry n) k p = fits 32 n p.in_range
sound_fact m said line (Whole n) k p = fits 32 n p.in_range
sound_fact m said line (Pad c) k p = k
sound_fact m said line (Args n) k p = tt

-- ---- areas apart

abbrev pub AreApart : StackArea → Area → Type 0
AreApart s h = (s.base + s.size ≤ h.base) ⊎ (h.base + h.size ≤ s.base)

pub record IsApart (said : Said) : Type 0 where
  pub apart : (s : StackArea) (h : Area) → said.stack ≡ Some s → said.heap ≡ Some h → AreApart s h

apart_is : (s : StackArea) (h : Area) → shares h.base h.size s.base s.size ≡ false → AreApart s h
apart_is s h e = by (and_cases (nat_lt h.base (s.base + s.size)) (nat_lt s.base (h.base + h.size)) e)
  where
    by : (nat_lt h.base (s.base + s.size) ≡ false) ⊎ (nat_lt s.base (h.base + h.size) ≡ false) → AreApart s h
    by (inl f) = inl (ltb-false h.base (s.base + s.size) f)
    by (inr f) = inr (ltb-false s.base (h.base + h.size) f)

pub heap_apart : (o : Option Area) (s : StackArea) (h : Area) → meets_heap o s ≡ false → o ≡ Some h → AreApart s h
heap_apart o s h e is = apart_is s h (rw is at e)

pub stack_apart : (o : Option StackArea) (s : StackArea) (h : Area) → meets_stack o h ≡ false → o ≡ Some s → AreApart s h
stack_apart o s h e is = apart_is s h (rw is at e)

-- ---- the place of the arguments

-- where there is one, there is a stack, and it lies in its room
abbrev pub IsPlaced : Option ℕ → Option StackArea → Type 0
IsPlaced None stack = Unit {0}
IsPlaced (Some offset) None = ⊥
IsPlaced (Some offset) (Some stack) = IsArgsOffset stack.room offset

pub first_stack : (args : Option ℕ) (old : Option StackArea) (stack : StackArea) → IsPlaced args old → is_some old ≡ false → IsPlaced args (Some stack)
first_stack None old stack h e = tt
first_stack (Some offset) None stack h e = absurd h
first_stack (Some offset) (Some s) stack h e = absurd (cc)

pub offset_placed : (stack : Option StackArea) (offset : ℕ) → is_offset stack offset ≡ true → IsPlaced (Some offset) stack
offset_placed None offset h = absurd (cc)
offset_placed (Some stack) offset h =
    let a = and_parts (nat_le offset stack.room) (nat_eq (offset % 4) 0) h in
    record { within = leb-true offset stack.room a.0; aligned = eqb-true (offset % 4) 0 a.1 }

pub placed_at : (args : Option ℕ) (old : Option StackArea) (stack : StackArea) (offset : ℕ) → IsPlaced args old → args ≡ Some offset → old ≡ Some stack → IsArgsOffset stack.room offset
placed_at args old stack offset h ea es = rw (ea, es) at h
