-- Lines without a fault give sound conventions.
use Rattle.std.proofs.Common.{◌≡◌, ℕ, ◌^◌, ◌<◌, Bool, true, false, cond, List, [], ◌∷◌, ◌++◌, Option, Some, None, Ok, refl, sym, subst, All, IfSome, append_assoc}
use Rattle.std.specs.Prelude.{is_some, not}
use Rattle.std.specs.List.{filter_map, cons_option}
use Rattle.std.specs.Option.{option_or}
use Rattle.std.proofs.lemmas.Bool.{or_parts, not-false}
use Rattle.std.proofs.lemmas.List.{append-nil}
use Rattle.std.proofs.lemmas.List.Elements.{All-nil, All-cons, All-head, All-tail, All-push}
use Rattle.rtl_core.specs.declared.conv.Conv.{Conv}
use Rattle.rtl_core.specs.declared.conv.ServiceShape.{ServiceShape}
use Rattle.rtl_core.specs.declared.encodings.Encodings.{Encodings}
use Rattle.rtl_core.specs.declared.machine.Machine.{Machine}
use Rattle.rtl_core.specs.declared.machine.NamedMachine.{NamedMachine}
use Rattle.rtl_core.specs.Grounding.{is_of_type}
use Rattle.rtl_core.specs.SoundConv.{IsArea, IsWord, AreServiceNumbers, IsSoundConv, IsCellOf, IsCellIfAny, AreServiceCells, FitsMachine, AreSoundTogether}
use Rattle.rtl_core.specs.SoundMachine.{AreSound, NamesItsCells}
use Rattle.conv_syntax.specs.declared.line.ConvLine.{ConvLine}
use Rattle.conventions.specs.declared.fact.Fact.{Fact}
use Rattle.conventions.specs.declared.fact.Fact.TheVariants.{Elf, Stack, Heap, Service, Exit, Read, Write, Brk, Errors, Link, Call, Return, Entry, Whole, Pad, Args}
use Rattle.conventions.specs.declared.fact.Area.{Area}
use Rattle.conventions.specs.declared.fact.StackArea.{StackArea}
use Rattle.conventions.specs.declared.fact.ServiceCells.{ServiceCells}
use Rattle.conventions.specs.declared.fact.ErrorNumbers.{ErrorNumbers}
use Rattle.conventions.specs.declared.said.Said.{Said}
use Rattle.conventions.specs.Names.{instructions}
use Rattle.conventions.specs.Facts.{◌>>=◌, fact_of}
use Rattle.conventions.specs.Areas.{heap_limit, is_area, is_stack, is_offset, meets_heap, meets_stack}
use Rattle.conventions.specs.Said.{as_elf, as_stack, as_heap, as_service, as_exit, as_read, as_write, as_brk, as_errors, as_link, as_call, as_return, as_entry, as_whole, as_pad, line_of, said_by, facts_of, with_fact}
use Rattle.conventions.specs.Faults.{fault_of, line_fault, first_fault}
use Rattle.conventions.specs.Normal.{serves, service_kinds, first_missing, missing_fault, shape, service_said, conv_with, conv_of, normal}
use Rattle.conventions.proofs.Together.{said-push, facts-push}
use Rattle.conventions.proofs.Steps.{unless_ok}
use Rattle.conventions.proofs.SoundFacts.{some_is, neither, IsKnown, known_fact, IsPlain, plain_fact, IsSoundStack, AreSoundCells, AreErrorNumbers, IsSoundFact, sound_fact, AreApart, IsApart, heap_apart, stack_apart, IsPlaced, first_stack, offset_placed, placed_at}

-- ---- facts of lines without a fault

record AreSoundFacts (m : Machine) (facts : List Fact) : Type 0 where
  each : All (IsSoundFact m) facts
  apart : IsApart (said_by facts)
  placed : IsPlaced (said_by facts).args (said_by facts).stack

no_facts : (m : Machine) → AreSoundFacts m []
unfolding line_of
no_facts m = record { each = All-nil (IsSoundFact m); apart = record { apart = λ s h es eh. absurd (cc) }; placed = tt }

apart_kept : (m : Machine) (said : Said) (line : ℕ) (f : Fact) → IsApart said → IsPlain m said line f → IsApart (with_fact said f)
apart_kept m said line (Stack t) a p = record {
  apart = λ s h es eh.
      let stacked : Some t ≡ Some s = es in
      let same : t ≡ s = cc in
      subst (λ t. AreApart t h) same (heap_apart said.heap t h (or_parts (not (is_stack m t)) (meets_heap said.heap t) p.in_range).1 eh);
}
apart_kept m said line (Heap g) a p = record {
  apart = λ s h es eh.
      let heaped : Some g ≡ Some h = eh in
      let same : g ≡ h = cc in
      subst (λ g. AreApart s g) same (stack_apart said.stack s g (or_parts (not (is_area heap_limit g.base g.size)) (meets_stack said.stack g) p.in_range).1 es);
}
apart_kept m said line _ a p = record { apart = a.apart }

placed_kept : (m : Machine) (said : Said) (line : ℕ) (f : Fact) → IsPlaced said.args said.stack → IsPlain m said line f → IsPlaced (with_fact said f).args (with_fact said f).stack
placed_kept m said line (Stack t) a p = first_stack said.args said.stack t a p.once
placed_kept m said line (Args n) a p = offset_placed said.stack n (not-false (is_offset said.stack n) p.in_range)
placed_kept m said line _ a p = a

more_facts : (m : Machine) (facts : List Fact) (f : Fact) (line : ℕ) → AreSoundFacts m facts → IsSoundFact m f → IsPlain m (said_by facts) line f → AreSoundFacts m (facts ++ f ∷ [])
more_facts m facts f line s h p = record {
  each = All-push (IsSoundFact m) facts f s.each h;
  apart = subst IsApart (sym (said-push facts f)) (apart_kept m (said_by facts) line f s.apart p);
  placed = subst (λ said. IsPlaced said.args said.stack) (sym (said-push facts f)) (placed_kept m (said_by facts) line f s.placed p);
}

line_on : (table : List (List ℕ × ℕ)) (named : NamedMachine) (before : List ConvLine) (line : ConvLine) (o : Option Fact) → AreSoundFacts named.machine (facts_of table named before) → fact_of table named line.body ≡ o → IfSome o (IsKnown named.machine)
    → fault_of named.machine (said_by (facts_of table named before)) line.number o ≡ None → AreSoundFacts named.machine (facts_of table named (before ++ line ∷ []))
line_on table named before line None s is k h = absurd (cc)
line_on table named before line (Some f) s is k h =
    let p = plain_fact named.machine (said_by (facts_of table named before)) line.number f h in
    subst (λ fs. AreSoundFacts named.machine fs) (sym (facts-push table named before line f is))
    (more_facts named.machine (facts_of table named before) f line.number s (sound_fact named.machine (said_by (facts_of table named before)) line.number f k p) p)

sound_on : (enc : Encodings) (named : NamedMachine) → named.machine.types ≡ enc.types → NamesItsCells named → (before lines : List ConvLine) → AreSoundFacts named.machine (facts_of (instructions enc) named before)
    → first_fault (instructions enc) named before lines ≡ None → AreSoundFacts named.machine (facts_of (instructions enc) named (before ++ lines))
unfolding first_fault
sound_on enc named types names before [] s h = subst (λ l. AreSoundFacts named.machine (facts_of (instructions enc) named l)) (sym (append-nil before)) s
sound_on enc named types names before (line ∷ lines) s h =
    let table : List (List ℕ × ℕ) = instructions enc in
    let n = neither (line_fault table named before line) (first_fault table named (before ++ line ∷ []) lines) h in
    let one = line_on table named before line (fact_of table named line.body) s refl (known_fact enc named types names line.body) n.0 in
    subst (λ l. AreSoundFacts named.machine (facts_of table named l)) (append_assoc before (line ∷ []) lines)
    (sound_on enc named types names (before ++ line ∷ []) lines one n.1)

-- ---- what facts say together

or_sound : {A : Type 0} (P : A → Type 0) (a b : Option A) → IfSome a P → IfSome b P → IfSome (option_or a b) P
or_sound P None b h k = k
or_sound P (Some x) b h k = h

line_sound : {A : Type 0} (m : Machine) (kind : Fact → Option A) (P : A → Type 0) → ((f : Fact) → IsSoundFact m f → IfSome (kind f) P) → (facts : List Fact) → All (IsSoundFact m) facts → IfSome (line_of kind facts) P
unfolding line_of
line_sound m kind P each [] h = tt
line_sound m kind P each (f ∷ fs) h =
    or_sound P (line_of kind fs) (kind f) (line_sound m kind P each fs (All-tail (IsSoundFact m) f fs h)) (each f (All-head (IsSoundFact m) f fs h))

cons_sound : {A : Type 0} (P : A → Type 0) (o : Option A) (xs : List A) → IfSome o P → All P xs → All P (cons_option o xs)
cons_sound P None xs h k = k
cons_sound P (Some x) xs h k = All-cons P x xs h k

lines_sound : {A : Type 0} (m : Machine) (kind : Fact → Option A) (P : A → Type 0) → ((f : Fact) → IsSoundFact m f → IfSome (kind f) P) → (facts : List Fact) → All (IsSoundFact m) facts → All P (filter_map kind facts)
lines_sound m kind P each [] h = All-nil P
lines_sound m kind P each (f ∷ fs) h =
    cons_sound P (kind f) (filter_map kind fs) (each f (All-head (IsSoundFact m) f fs h)) (lines_sound m kind P each fs (All-tail (IsSoundFact m) f fs h))

abbrev IsShort : ℕ → Type 0
IsShort n = n < 2 ^ 16

abbrev IsHeap : Area → Type 0
IsHeap h = IsArea heap_limit h.base h.size

abbrev IsInstruction : Machine → ℕ → Type 0
IsInstruction m c = is_of_type m 0 c ≡ true

elf_is : (m : Machine) (f : Fact) → IsSoundFact m f → IfSome (as_elf f) IsShort
elf_is m (Elf n) h = h
elf_is m _ h = tt

stack_is : (m : Machine) (f : Fact) → IsSoundFact m f → IfSome (as_stack f) (IsSoundStack m)
stack_is m (Stack s) h = h
stack_is m _ h = tt

heap_is : (m : Machine) (f : Fact) → IsSoundFact m f → IfSome (as_heap f) IsHeap
heap_is m (Heap s) h = h
heap_is m _ h = tt

service_is : (m : Machine) (f : Fact) → IsSoundFact m f → IfSome (as_service f) (AreSoundCells m)
service_is m (Service c) h = h
service_is m _ h = tt

exit_is : (m : Machine) (f : Fact) → IsSoundFact m f → IfSome (as_exit f) IsWord
exit_is m (Exit n) h = h
exit_is m _ h = tt

read_is : (m : Machine) (f : Fact) → IsSoundFact m f → IfSome (as_read f) IsWord
read_is m (Read n) h = h
read_is m _ h = tt

write_is : (m : Machine) (f : Fact) → IsSoundFact m f → IfSome (as_write f) IsWord
write_is m (Write n) h = h
write_is m _ h = tt

brk_is : (m : Machine) (f : Fact) → IsSoundFact m f → IfSome (as_brk f) IsWord
brk_is m (Brk n) h = h
brk_is m _ h = tt

errors_are : (m : Machine) (f : Fact) → IsSoundFact m f → IfSome (as_errors f) AreErrorNumbers
errors_are m (Errors e) h = h
errors_are m _ h = tt

link_is : (m : Machine) (f : Fact) → IsSoundFact m f → IfSome (as_link f) (IsCellOf m 32)
link_is m (Link c) h = h
link_is m _ h = tt

call_is : (m : Machine) (f : Fact) → IsSoundFact m f → IfSome (as_call f) (IsInstruction m)
call_is m (Call c) h = h
call_is m _ h = tt

return_is : (m : Machine) (f : Fact) → IsSoundFact m f → IfSome (as_return f) (IsInstruction m)
return_is m (Return c) h = h
return_is m _ h = tt

entry_is : (m : Machine) (f : Fact) → IsSoundFact m f → IfSome (as_entry f) IsWord
entry_is m (Entry n) h = h
entry_is m _ h = tt

whole_is : (m : Machine) (f : Fact) → IsSoundFact m f → IfSome (as_whole f) IsWord
whole_is m (Whole n) h = h
whole_is m _ h = tt

pad_is : (m : Machine) (f : Fact) → IsSoundFact m f → IfSome (as_pad f) (IsInstruction m)
pad_is m (Pad c) h = h
pad_is m _ h = tt

record IsSoundSaid (m : Machine) (said : Said) : Type 0 where
  elf : IfSome said.elf IsShort
  stack : IfSome said.stack (IsSoundStack m)
  heap : IfSome said.heap IsHeap
  apart : IsApart said
  service : IfSome said.service (AreSoundCells m)
  exit : IfSome said.exit IsWord
  read : IfSome said.read IsWord
  write : IfSome said.write IsWord
  brk : IfSome said.brk IsWord
  errors : IfSome said.errors AreErrorNumbers
  link : IfSome said.link (IsCellOf m 32)
  calls : All (IsInstruction m) said.calls
  returns : All (IsInstruction m) said.returns
  entries : All IsWord said.entries
  wholes : All IsWord said.wholes
  pads : All (IsInstruction m) said.pads
  placed : IsPlaced said.args said.stack

said_sound : (m : Machine) (facts : List Fact) → AreSoundFacts m facts → IsSoundSaid m (said_by facts)
said_sound m facts s = record {
  elf = line_sound m as_elf IsShort (elf_is m) facts s.each;
  stack = line_sound m as_stack (IsSoundStack m) (stack_is m) facts s.each;
  heap = line_sound m as_heap IsHeap (heap_is m) facts s.each;
  apart = s.apart;
  service = line_sound m as_service (AreSoundCells m) (service_is m) facts s.each;
  exit = line_sound m as_exit IsWord (exit_is m) facts s.each;
  read = line_sound m as_read IsWord (read_is m) facts s.each;
  write = line_sound m as_write IsWord (write_is m) facts s.each;
  brk = line_sound m as_brk IsWord (brk_is m) facts s.each;
  errors = line_sound m as_errors AreErrorNumbers (errors_are m) facts s.each;
  link = line_sound m as_link (IsCellOf m 32) (link_is m) facts s.each;
  calls = lines_sound m as_call (IsInstruction m) (call_is m) facts s.each;
  returns = lines_sound m as_return (IsInstruction m) (return_is m) facts s.each;
  entries = lines_sound m as_entry IsWord (entry_is m) facts s.each;
  wholes = lines_sound m as_whole IsWord (whole_is m) facts s.each;
  pads = lines_sound m as_pad (IsInstruction m) (pad_is m) facts s.each;
  placed = s.placed;
}

-- ---- the service

record IsSoundShape (m : Machine) (s : ServiceShape) : Type 0 where
  numbers : AreServiceNumbers s
  cells : AreServiceCells m s

shape_sound : (m : Machine) (c : ServiceCells) (exit read write brk : ℕ) (e : ErrorNumbers) → AreSoundCells m c → IsWord exit → IsWord read → IsWord write → IsWord brk → AreErrorNumbers e → IsSoundShape m (shape c exit read write brk e)
shape_sound m c exit read write brk e hc hx hr hw hb he = record {
  numbers = record { exit = hx; read = hr; write = hw; brk = hb; fault = he.fault; descriptor = he.descriptor; unknown = he.unknown };
  cells = record { number = hc.number; arg_x = hc.arg_x; arg_y = hc.arg_y; arg_z = hc.arg_z; result = hc.result; error = hc.error };
}

all_sound : (m : Machine) (cells : Option ServiceCells) (exit read write brk : Option ℕ) (errors : Option ErrorNumbers) → IfSome cells (AreSoundCells m) → IfSome exit IsWord → IfSome read IsWord → IfSome write IsWord
    → IfSome brk IsWord → IfSome errors AreErrorNumbers
    → IfSome (cells >>= (λ cells. exit >>= (λ exit. read >>= (λ read. write >>= (λ write. brk >>= (λ brk. errors >>= (λ errors. Some (shape cells exit read write brk errors)))))))) (IsSoundShape m)
all_sound m None exit read write brk errors hc hx hr hw hb he = tt
all_sound m (Some cells) None read write brk errors hc hx hr hw hb he = tt
all_sound m (Some cells) (Some exit) None write brk errors hc hx hr hw hb he = tt
all_sound m (Some cells) (Some exit) (Some read) None brk errors hc hx hr hw hb he = tt
all_sound m (Some cells) (Some exit) (Some read) (Some write) None errors hc hx hr hw hb he = tt
all_sound m (Some cells) (Some exit) (Some read) (Some write) (Some brk) None hc hx hr hw hb he = tt
all_sound m (Some cells) (Some exit) (Some read) (Some write) (Some brk) (Some errors) hc hx hr hw hb he = shape_sound m cells exit read write brk errors hc hx hr hw hb he

service_sound : (m : Machine) (said : Said) → IsSoundSaid m said → IfSome (service_said said) (IsSoundShape m)
service_sound m said s = all_sound m said.service said.exit said.read said.write said.brk said.errors s.service s.exit s.read s.write s.brk s.errors

there : {A : Type 0} (o : Option A) → is_some o ≡ true → (a : A) × (o ≡ Some a)
there None h = absurd (cc)
there (Some a) h = (a, refl)

-- the first kind of some is there, and so is every other
next_there : (n : ℕ) (b : Bool) (rest : List (ℕ × Bool)) → first_missing ((n, b) ∷ rest) ≡ None → (b ≡ true) × (first_missing rest ≡ None)
next_there n true rest h = (refl, h)
next_there n false rest h = absurd (cc)

all_there : (cells : Option ServiceCells) (exit read write brk : Option ℕ) (errors : Option ErrorNumbers)
    → first_missing ((4, is_some cells) ∷ (5, is_some exit) ∷ (6, is_some read) ∷ (7, is_some write) ∷ (8, is_some brk) ∷ (9, is_some errors) ∷ []) ≡ None
    → is_some (cells >>= (λ cells. exit >>= (λ exit. read >>= (λ read. write >>= (λ write. brk >>= (λ brk. errors >>= (λ errors. Some (shape cells exit read write brk errors)))))))) ≡ true
all_there None exit read write brk errors h = absurd (cc)
all_there (Some cells) None read write brk errors h = absurd (cc)
all_there (Some cells) (Some exit) None write brk errors h = absurd (cc)
all_there (Some cells) (Some exit) (Some read) None brk errors h = absurd (cc)
all_there (Some cells) (Some exit) (Some read) (Some write) None errors h = absurd (cc)
all_there (Some cells) (Some exit) (Some read) (Some write) (Some brk) None h = absurd (cc)
all_there (Some cells) (Some exit) (Some read) (Some write) (Some brk) (Some errors) h = refl

-- where no kind that a service needs is missing, there is a service
served : (said : Said) → first_missing (service_kinds said) ≡ None → is_some (service_said said) ≡ true
served said h = all_there said.service said.exit said.read said.write said.brk said.errors h

-- ---- the conventions

if_any : (m : Machine) (o : Option ℕ) → IfSome o (IsCellOf m 32) → IsCellIfAny m 32 o
if_any m None h = tt
if_any m (Some c) h = h

conv_sound : (m : Machine) (said : Said) (n : ℕ) (s : StackArea) (h : Area) → IsSoundSaid m said → said.elf ≡ Some n → said.stack ≡ Some s → said.heap ≡ Some h → IsSoundConv (conv_with said n s h)
conv_sound m said n s h sound en es eh =
    let stack = some_is (IsSoundStack m) said.stack s es sound.stack in
    record {
      elf = some_is IsShort said.elf n en sound.elf;
      stack = stack.area;
      heap = some_is IsHeap said.heap h eh sound.heap;
      apart = sound.apart.apart s h es eh;
      room = stack.room;
      aligned = stack.aligned;
      first = stack.first;
      numbers = λ shape e. (some_is (IsSoundShape m) (service_said said) shape e (service_sound m said sound)).numbers;
      entries = sound.entries;
      wholes = sound.wholes;
      args = λ offset e. placed_at said.args said.stack s offset sound.placed e es;
    }

conv_fits : (m : Machine) (said : Said) (n : ℕ) (s : StackArea) (h : Area) → IsSoundSaid m said → said.stack ≡ Some s → (serves m ≡ true → is_some (service_said said) ≡ true) → FitsMachine (conv_with said n s h) m
conv_fits m said n s h sound es serving =
    let stack = some_is (IsSoundStack m) said.stack s es sound.stack in
    record {
      stack = stack.cell;
      moving = stack.moving;
      cells = λ shape e. (some_is (IsSoundShape m) (service_said said) shape e (service_sound m said sound)).cells;
      link = if_any m said.link sound.link;
      calls = sound.calls;
      returns = sound.returns;
      pads = sound.pads;
      service = serving;
    }

conv_is : (said : Said) (n : ℕ) (s : StackArea) (h : Area) → said.elf ≡ Some n → said.stack ≡ Some s → said.heap ≡ Some h → conv_of said ≡ conv_with said n s h
conv_is said n s h en es eh = rw (en, es, eh) refl

if_serving : (b : Bool) (kinds : List (ℕ × Bool)) → first_missing (cond b kinds []) ≡ None → b ≡ true → first_missing kinds ≡ None
if_serving true kinds h v = h
if_serving false kinds h v = absurd (cc)

together : (enc : Encodings) (m : Machine) (said : Said) → AreSound enc m → IsSoundSaid m said → missing_fault (serves m) said ≡ None → AreSoundTogether enc m (conv_of said)
together enc m said sound s h =
    let rest : List (ℕ × Bool) = cond (serves m) (service_kinds said) [] in
    let a = next_there 1 (is_some said.elf) ((2, is_some said.stack) ∷ (3, is_some said.heap) ∷ rest) h in
    let b = next_there 2 (is_some said.stack) ((3, is_some said.heap) ∷ rest) a.1 in
    let c = next_there 3 (is_some said.heap) rest b.1 in
    let n = there said.elf a.0 in
    let t = there said.stack b.0 in
    let g = there said.heap c.0 in
    subst (AreSoundTogether enc m) (sym (conv_is said n.0 t.0 g.0 n.1 t.1 g.1)) (record {
      machine = sound;
      conv = conv_sound m said n.0 t.0 g.0 s n.1 t.1 g.1;
      fits = conv_fits m said n.0 t.0 g.0 s t.1 (λ v. served said (if_serving (serves m) (service_kinds said) c.1 v));
    })

-- the normal form is sound
pub sound_normal : (enc : Encodings) (named : NamedMachine) (lines : List ConvLine) (conv : Conv) → AreSound enc named.machine → NamesItsCells named → normal enc named lines ≡ Ok conv → AreSoundTogether enc named.machine conv
sound_normal enc named lines conv sound names h =
    let table : List (List ℕ × ℕ) = instructions enc in
    let said : Said = said_by (facts_of table named lines) in
    let u = unless_ok (option_or (first_fault table named [] lines) (missing_fault (serves named.machine) said)) (conv_of said) conv h in
    let n = neither (first_fault table named [] lines) (missing_fault (serves named.machine) said) u.0 in
    let facts = sound_on enc named sound.types names [] lines (no_facts named.machine) n.0 in
    subst (AreSoundTogether enc named.machine) u.1
    (together enc named.machine said sound (said_sound named.machine (facts_of table named lines) facts) n.1)
