-- The small machine, its encodings and its conventions are sound.
use Rattle.std.proofs.Common.{◌≡◌, ℕ, zero, suc, ◌+◌, ◌-◌, ◌^◌, ◌<◌, ◌≤◌, ◌==◌, ◌&&◌, nat_lt, nat_le, Bool, true, List, [], ◌∷◌, get_or, slice_get, Some, None, All, refl, subst, inl, inr, arith, replicate, count_by, sum_by, unwrap_or}
use Rattle.std.proofs.lemmas.Bool.{and_parts, ltb-true, leb-true, eqb-true}
use Rattle.std.proofs.lemmas.List.Elements.{All-cons, All-nil, All-append, All-replicate}
use Rattle.std.specs.List.{list_all, list_any}
use Rattle.rtl_core.specs.declared.conv.ServiceShape.{ServiceShape}
use Rattle.rtl_core.specs.declared.encodings.Bind.{Bind}
use Rattle.rtl_core.specs.declared.encodings.Coded.{Coded}
use Rattle.rtl_core.specs.declared.encodings.Item.{Item}
use Rattle.rtl_core.specs.declared.encodings.OperandKind.{OperandKind}
use Rattle.rtl_core.specs.declared.encodings.OperandKind.TheVariants.{Field}
use Rattle.rtl_core.specs.declared.encodings.Test.{Test}
use Rattle.rtl_core.specs.declared.machine.CellPart.{CellPart}
use Rattle.rtl_core.specs.declared.machine.Form.{Form}
use Rattle.rtl_core.specs.Grounding.{is_of_type}
use Rattle.rtl_core.specs.SoundConv.{IsSoundConv, FitsMachine, AreSoundTogether, AreServiceNumbers, AreServiceCells, IsWord}
use Rattle.rtl_core.specs.SoundEncodings.{Rises, AreTypes, IsKind, IsSoundTest, IsSoundBind, IsSoundItem, IsSoundAlternative, IsSoundCoded, IsWithin, IsSoundEncodings, items_bind, item_size}
use Rattle.rtl_core.specs.SoundMachine.{IsSoundMachine, IsSoundForm, AreSound}
use Rattle.rtl_core.specs.SoundTemplates.{IsPart, IsFile, part_width, IsSoundTTransfer, AreSoundTTransfers, IsOfWidth}
use Rattle.rtl_core.specs.SoundTerms.{IsWidth}
use Rattle.rtl_core.specs.TemplateNodes.{Counts, IsCounted, form_nodes, form_target, greatest}
use Rattle.rtl_core.specs.declared.expr.Bin.TheVariants.{Or}
use Rattle.rtl_core.specs.declared.template.TAct.TheVariants.{Assign, Service}
use Rattle.rtl_core.specs.declared.template.TExpr.TheVariants.{Bin, Sext, Operand, FileAt}
use Rattle.rtl_core.specs.declared.template.TPlace.TheVariants as TPlace
use Rattle.rtl_core.specs.declared.template.Template.TheVariants.{Acts}
use Rattle.rtl_core.proofs.TemplateTermLaws.{tterm-Bin, tterm-FileAt, tterm-Sext, tterm-Operand}
use Rattle.points.specs.SmallMachine.{small_encodings, small_machine, small_conv}

-- ---- lists

-- what a test that each member passes says of all
passing : {X : Type 0} (P : X → Type 0) (ok : X → Bool) → ((x : X) → ok x ≡ true → P x) → (xs : List X) → list_all ok xs ≡ true → All P xs
passing P ok says [] h = All-nil P
passing P ok says (x ∷ xs) h = let p = and_parts (ok x) (list_all ok xs) h in All-cons P x xs (says x p.0) (passing P ok says xs p.1)

-- the members of a list of two
two : {X : Type 0} (P : ℕ → X → Type 0) (a b : X) → P 0 a → P 1 b → (c : ℕ) (x : X) → slice_get (a ∷ b ∷ []) c ≡ Some x → P c x
two P a b p q zero x e = subst (P 0) (let z : a ≡ x = cc in z) p
two P a b p q (suc zero) x e = subst (P 1) (let z : b ≡ x = cc in z) q
two P a b p q (suc (suc c)) x e = absurd (let z : None ≡ Some x = e in cc)

-- ---- types

abbrev IsMember : ℕ → ℕ → Type 0
IsMember t c = (c < 2) × (0 ≡ t)

abbrev AreMembers : ℕ → List ℕ → Type 0
AreMembers t cs = Rises cs × All (IsMember t) cs

members : (t : ℕ) (cs : List ℕ) → slice_get ((0 ∷ 1 ∷ []) ∷ []) t ≡ Some cs → AreMembers t cs
members zero cs e =
    let x : 0 ∷ 1 ∷ [] ≡ cs = cc in
    subst (AreMembers 0) x (
      (All-cons (λ d. 0 < d) 1 [] (omega arith) (All-nil (λ d. 0 < d)), (All-nil (λ d. 1 < d), tt)),
      All-cons (IsMember 0) 0 (1 ∷ []) (omega arith, refl) (All-cons (IsMember 0) 1 [] (omega arith, refl) (All-nil (IsMember 0))),
    )
members (suc t) cs e = absurd (let z : None ≡ Some cs = e in cc)

abbrev types : AreTypes ((0 ∷ 1 ∷ []) ∷ []) 2
types = record {
  first = omega arith;
  type_of = λ c. 0;
  each = members;
  listed = λ c lt. (0 ∷ 1 ∷ [], refl, listed_at c lt);
}
  where
    listed_at : (c : ℕ) → c < 2 → list_any (λ d. d == c) (0 ∷ 1 ∷ []) ≡ true
    listed_at zero lt = refl
    listed_at (suc zero) lt = refl
    listed_at (suc (suc c)) lt = absurd (omega arith)

-- ---- encodings

abbrev is_test : Test → Bool
is_test t = nat_le t.lo t.hi && (nat_lt t.hi 32 && nat_lt t.value (2 ^ (t.hi + 1 - t.lo)))

test_is : (t : Test) → is_test t ≡ true → IsSoundTest 32 t
test_is t h =
    let p = and_parts (nat_le t.lo t.hi) (nat_lt t.hi 32 && nat_lt t.value (2 ^ (t.hi + 1 - t.lo))) h in
    let q = and_parts (nat_lt t.hi 32) (nat_lt t.value (2 ^ (t.hi + 1 - t.lo))) p.1 in
    (leb-true t.lo t.hi p.0, ltb-true t.hi 32 q.0, ltb-true t.value (2 ^ (t.hi + 1 - t.lo)) q.1)

abbrev or_kinds : List OperandKind
or_kinds = Field 5 ∷ Field 13 ∷ Field 5 ∷ []

abbrev ori : Coded
ori = get_or small_encodings.constructors 0 (record { name = []; kinds = []; alternatives = [] })

abbrev ta : Coded
ta = get_or small_encodings.constructors 1 (record { name = []; kinds = []; alternatives = [] })

kinds : (c : ℕ) → All (IsKind ((0 ∷ 1 ∷ []) ∷ []) c) or_kinds
kinds c =
    All-cons (IsKind ((0 ∷ 1 ∷ []) ∷ []) c) (Field 5) (Field 13 ∷ Field 5 ∷ []) (omega arith, omega arith)
    (All-cons (IsKind ((0 ∷ 1 ∷ []) ∷ []) c) (Field 13) (Field 5 ∷ []) (omega arith, omega arith)
    (All-cons (IsKind ((0 ∷ 1 ∷ []) ∷ []) c) (Field 5) [] (omega arith, omega arith) (All-nil (IsKind ((0 ∷ 1 ∷ []) ∷ []) c))))

abbrev ori_item : Item
ori_item = get_or (get_or ori.alternatives 0 []) 0 (record { bits = 0; tests = []; binds = []; typed = None })

abbrev ta_item : Item
ta_item = get_or (get_or ta.alternatives 0 []) 0 (record { bits = 0; tests = []; binds = []; typed = None })

abbrev bind : ℕ → ℕ → ℕ → Bind
bind lo hi operand = record { lo = lo; hi = hi; operand = operand }

ori_binds : All (IsSoundBind or_kinds 32) ori_item.binds
ori_binds =
    All-cons (IsSoundBind or_kinds 32) (bind 14 18 0) (bind 0 12 1 ∷ bind 25 29 2 ∷ []) (omega arith, omega arith, refl)
    (All-cons (IsSoundBind or_kinds 32) (bind 0 12 1) (bind 25 29 2 ∷ []) (omega arith, omega arith, refl)
    (All-cons (IsSoundBind or_kinds 32) (bind 25 29 2) [] (omega arith, omega arith, refl) (All-nil (IsSoundBind or_kinds 32))))

ori_sound : IsSoundItem or_kinds ori_item
ori_sound = record { token = inr (inr (inl refl)); tests = passing (IsSoundTest 32) is_test test_is ori_item.tests refl; binds = ori_binds; typed = tt }

ta_sound : IsSoundItem [] ta_item
ta_sound = record { token = inr (inr (inl refl)); tests = passing (IsSoundTest 32) is_test test_is ta_item.tests refl; binds = All-nil (IsSoundBind [] 32); typed = tt }

ori_once : (k : ℕ) → k < 3 → count_by (λ j. j == k) (items_bind (ori_item ∷ [])) ≡ 1
ori_once zero lt = refl
ori_once (suc zero) lt = refl
ori_once (suc (suc zero)) lt = refl
ori_once (suc (suc (suc k))) lt = absurd (omega arith)

coded : (c : ℕ) (k : Coded) → slice_get small_encodings.constructors c ≡ Some k → IsSoundCoded ((0 ∷ 1 ∷ []) ∷ []) c k
coded = two (IsSoundCoded ((0 ∷ 1 ∷ []) ∷ [])) ori ta
    (record {
      kinds = kinds 0;
      some = omega arith;
      few = omega arith;
      each = All-cons (IsSoundAlternative or_kinds) (ori_item ∷ []) []
          (record { some = omega arith; few = omega arith; each = All-cons (IsSoundItem or_kinds) ori_item [] ori_sound (All-nil (IsSoundItem or_kinds)); one = ori_once })
          (All-nil (IsSoundAlternative or_kinds));
    })
    (record {
      kinds = All-nil (IsKind ((0 ∷ 1 ∷ []) ∷ []) 1);
      some = omega arith;
      few = omega arith;
      each = All-cons (IsSoundAlternative []) (ta_item ∷ []) []
          (record { some = omega arith; few = omega arith; each = All-cons (IsSoundItem []) ta_item [] ta_sound (All-nil (IsSoundItem [])); one = λ k lt. absurd (omega arith) })
          (All-nil (IsSoundAlternative []));
    })

abbrev SameName : ℕ → Coded → Type 0
SameName b j = (c : ℕ) (k : Coded) → slice_get small_encodings.constructors c ≡ Some k → j.name ≡ k.name → b ≡ c

names : (b c : ℕ) (j k : Coded) → slice_get small_encodings.constructors b ≡ Some j → slice_get small_encodings.constructors c ≡ Some k → j.name ≡ k.name → b ≡ c
names b c j k eb ec e =
    two SameName ori ta (two (λ c k. ori.name ≡ k.name → 0 ≡ c) ori ta (λ e. refl) (λ e. cc)) (two (λ c k. ta.name ≡ k.name → 1 ≡ c) ori ta (λ e. cc) (λ e. refl)) b j eb c k ec e

encodings : IsSoundEncodings small_encodings
encodings = record {
  count = omega arith;
  types = types;
  names = λ b c j k eb ec e. names b c j k eb ec e;
  each = coded;
  most = λ t. 3;
  longest = λ t. 4;
  sizes = two (λ c k. IsWithin (λ t. 3) (λ t. 4) (types.type_of c) k) ori ta
      (record { numbers = omega arith; bytes = All-cons (λ items. sum_by (item_size (λ t. 4)) items ≤ 4) (ori_item ∷ []) [] (omega arith) (All-nil (λ items. sum_by (item_size (λ t. 4)) items ≤ 4)) })
      (record { numbers = omega arith; bytes = All-cons (λ items. sum_by (item_size (λ t. 4)) items ≤ 4) (ta_item ∷ []) [] (omega arith) (All-nil (λ items. sum_by (item_size (λ t. 4)) items ≤ 4)) });
  few = λ t. omega arith;
  short = λ t. omega arith;
}

-- ---- the machine

cells : All IsWidth small_machine.widths
cells = All-append IsWidth (replicate 32 32) (1 ∷ []) (All-replicate IsWidth 32 32 (omega arith, omega arith)) (All-cons IsWidth 1 [] (omega arith, omega arith) (All-nil IsWidth))

abbrev file : List CellPart
file = get_or small_machine.files 0 []

abbrev is_part : CellPart → Bool
is_part p = nat_lt p.cell 33 && (nat_le p.lo p.hi && (nat_lt p.hi (get_or small_machine.widths p.cell 0) && (part_width p == 32)))

abbrev IsWholePart : CellPart → Type 0
IsWholePart p = IsPart small_machine.widths p × (part_width p ≡ 32)

part_is : (p : CellPart) → is_part p ≡ true → IsWholePart p
part_is p h =
    let a = and_parts (nat_lt p.cell 33) (nat_le p.lo p.hi && (nat_lt p.hi (get_or small_machine.widths p.cell 0) && (part_width p == 32))) h in
    let b = and_parts (nat_le p.lo p.hi) (nat_lt p.hi (get_or small_machine.widths p.cell 0) && (part_width p == 32)) a.1 in
    let c = and_parts (nat_lt p.hi (get_or small_machine.widths p.cell 0)) (part_width p == 32) b.1 in
    ((ltb-true p.cell 33 a.0, leb-true p.lo p.hi b.0, ltb-true p.hi (get_or small_machine.widths p.cell 0) c.0), eqb-true (part_width p) 32 c.1)

files : All (IsFile small_machine.widths) small_machine.files
files = All-cons (IsFile small_machine.widths) file [] (passing IsWholePart is_part part_is file refl) (All-nil (IsFile small_machine.widths))

abbrev width : ℕ → ℕ
width t = 0

abbrev or_form : Form
or_form = get_or small_machine.forms 0 (record { kinds = []; template = Acts [] })

abbrev ta_form : Form
ta_form = get_or small_machine.forms 1 (record { kinds = []; template = Acts [] })

or_value : IsOfWidth small_machine width or_kinds (Bin Or (FileAt 0 0) (Sext 32 (Operand 1))) 32
or_value = record {
  sound = rw (tterm-Bin Or (FileAt 0 0) (Sext 32 (Operand 1)), tterm-FileAt 0 0, tterm-Sext 32 (Operand 1), tterm-Operand 1) (omega arith, (tt, omega arith, omega arith), refl);
  width = rw (tterm-Bin Or (FileAt 0 0) (Sext 32 (Operand 1)), tterm-FileAt 0 0) refl;
}

or_sound : AreSoundTTransfers small_machine width or_kinds (record { guard = None; act = Assign (TPlace.FileAt 0 2) (Bin Or (FileAt 0 0) (Sext 32 (Operand 1))) } ∷ [])
or_sound = record {
  each = All-cons (IsSoundTTransfer small_machine width or_kinds) _ [] (record { guard = tt; act = (omega arith, or_value) }) (All-nil (IsSoundTTransfer small_machine width or_kinds));
  one_jump = omega arith;
  one_annul = omega arith;
  one_service = omega arith;
  one_move = omega arith;
  service_last = tt;
}

service_sound : AreSoundTTransfers small_machine width [] (record { guard = None; act = Service } ∷ [])
service_sound = record {
  each = All-cons (IsSoundTTransfer small_machine width []) _ [] (record { guard = tt; act = tt }) (All-nil (IsSoundTTransfer small_machine width []));
  one_jump = omega arith;
  one_annul = omega arith;
  one_service = omega arith;
  one_move = omega arith;
  service_last = tt;
}

forms : (c : ℕ) (form : Form) → slice_get small_machine.forms c ≡ Some form → IsSoundForm small_machine (λ t. 3) width (types.type_of c) c form
forms = two (λ c form. IsSoundForm small_machine (λ t. 3) width (types.type_of c) c form) or_form ta_form
    (record { kinds = kinds 0; numbers = omega arith; template = or_sound })
    (record { kinds = All-nil (IsKind small_machine.types 1); numbers = omega arith; template = service_sound })

abbrev counts : Counts
counts = record { read = λ t. 5; assigned = λ t. 0 }

or_nodes : form_nodes counts (Some or_form) ≡ 5
or_nodes = rw (tterm-Bin Or (FileAt 0 0) (Sext 32 (Operand 1)), tterm-FileAt 0 0, tterm-Sext 32 (Operand 1), tterm-Operand 1) refl

nodes : IsCounted small_machine
nodes = record {
  counts = counts;
  read = λ t cs e. read t cs e;
  assigned = λ t cs e. assigned t cs e;
  few = few;
  most = refl;
}
  where
    read : (t : ℕ) (cs : List ℕ) → slice_get small_machine.types t ≡ Some cs → 5 ≡ greatest (λ c. form_nodes counts (slice_get small_machine.forms c)) cs
    read zero cs e =
        let x : 0 ∷ 1 ∷ [] ≡ cs = cc in
        let P : List ℕ → Type 0 = λ cs. 5 ≡ greatest (λ c. form_nodes counts (slice_get small_machine.forms c)) cs in
        subst P x (rw or_nodes refl)
    read (suc t) cs e = absurd (let z : None ≡ Some cs = e in cc)

    assigned : (t : ℕ) (cs : List ℕ) → slice_get small_machine.types t ≡ Some cs → 0 ≡ greatest (λ c. form_target counts (slice_get small_machine.forms c)) cs
    assigned zero cs e =
        let x : 0 ∷ 1 ∷ [] ≡ cs = cc in
        let P : List ℕ → Type 0 = λ cs. 0 ≡ greatest (λ c. form_target counts (slice_get small_machine.forms c)) cs in
        subst P x refl
    assigned (suc t) cs e = absurd (let z : None ≡ Some cs = e in cc)

    few : (c : ℕ) → form_nodes counts (slice_get small_machine.forms c) ≤ 256
    few zero = rw or_nodes (omega arith)
    few (suc zero) = omega arith
    few (suc (suc c)) = omega arith

machine : IsSoundMachine small_machine
machine = record {
  delay = (omega arith, omega arith);
  count = omega arith;
  widths = record { each = λ c lt. cells c 0 lt };
  zeroed = omega arith;
  windows = λ w e. absurd (let z : None ≡ Some w = e in cc);
  few_files = omega arith;
  files = files;
  few_forms = omega arith;
  types = types;
  most = λ t. 3;
  stands = width;
  forms = forms;
  few = λ t. omega arith;
  nodes = nodes;
}

together : AreSound small_encodings small_machine
together = record { encodings = encodings; machine = machine; order = refl; types = refl; kinds = refl }

-- ---- the conventions

abbrev shape : ServiceShape
shape = unwrap_or small_conv.service (record { number = 0; arg_x = 0; arg_y = 0; arg_z = 0; result = 0; error = None; exit = 0; read = 0; write = 0; brk = 0; fault = 0; descriptor = 0; unknown = 0 })

conv : IsSoundConv small_conv
conv = record {
  elf = omega arith;
  stack = record { base = refl; size = refl; some = omega arith; few = omega arith; end = omega arith };
  heap = record { base = refl; size = refl; some = omega arith; few = omega arith; end = omega arith };
  apart = inr (omega arith);
  room = omega arith;
  aligned = refl;
  first = omega arith;
  numbers = λ s e. subst AreServiceNumbers (let z : shape ≡ s = cc in z)
      (record { exit = omega arith; read = omega arith; write = omega arith; brk = omega arith; fault = omega arith; descriptor = omega arith; unknown = omega arith });
  entries = All-nil IsWord;
  wholes = All-nil IsWord;
  args = λ offset e. absurd (let none : ⊥ = cc in none);
}

apart_from : (a b : ℕ) → Some a ≡ Some b → a < b → ⊥
apart_from a b e lt = let z : a ≡ b = cc in omega arith

fits : FitsMachine small_conv small_machine
fits = record {
  stack = (omega arith, refl);
  moving = λ e. apart_from 0 14 e (omega arith);
  cells = λ s e. subst (AreServiceCells small_machine) (let z : shape ≡ s = cc in z)
      (record { number = (omega arith, refl); arg_x = (omega arith, refl); arg_y = (omega arith, refl); arg_z = (omega arith, refl); result = (omega arith, refl); error = (omega arith, refl) });
  link = tt;
  calls = All-nil (λ c. is_of_type small_machine 0 c ≡ true);
  returns = All-nil (λ c. is_of_type small_machine 0 c ≡ true);
  pads = All-nil (λ c. is_of_type small_machine 0 c ≡ true);
  service = λ s. refl;
}

pub small_sound : AreSoundTogether small_encodings small_machine small_conv
small_sound = record { machine = together; conv = conv; fits = fits }
