-- Numbers that spell operands are read, whatever the address is.
use Rattle.std.proofs.Common.{◌≡◌, ℕ, zero, suc, ◌^◌, ◌<◌, ◌≤◌, true, false, true≢false, arith, List, [], ◌∷◌, ◌++◌, length, map, slice_get, Option, Some, option_map, option_and_then, IsTrue, is_some, append-nil, refl, sym}
use Rattle.std.proofs.lemmas.Bool.{lt-ltb}
use Rattle.rtl_core.specs.declared.encodings.OperandKind.{OperandKind}
use Rattle.rtl_core.specs.declared.encodings.OperandKind.TheVariants.{Field, Typed}
use Rattle.rtl_core.specs.declared.inst.Inst.{Inst}
use Rattle.rtl_core.specs.declared.machine.Form.{Form}
use Rattle.rtl_core.specs.declared.machine.Machine.{Machine}
use Rattle.rtl_core.specs.declared.template.Template.{Template}
use Rattle.rtl_core.specs.declared.transfer.Transfer.{Transfer}
use Rattle.rtl_core.specs.Grounding.{Argument, Number, Value, At, Site, Reader, is_of_type, operand_read, operands_read, chosen_read, operands_of, template_argument, template_transfers, ground_expr, ground_place, ground_transfer, grounded}
use Rattle.points.specs.OperandTrees.{Spell, IsOneOf, is_acts}

-- something was read from the front of some numbers, and those left spell operands of these kinds
record IsRead (m : Machine) (more : List OperandKind) (leaves : List ℕ) {A : Type 0} (o : Option (A × List ℕ)) : Type 0 where
  value : A
  rest : List ℕ
  is : o ≡ Some (value, rest)
  spelled : Spell m more rest
  shorter : length rest ≤ length leaves

-- what a template stands for
record IsArgument (m : Machine) (site : Site) (template : Template) : Type 0 where
  value : Argument
  is : template_argument m site template ≡ Some value

argument : (m : Machine) (site : Site) (template : Template) → is_acts template ≡ false → IsArgument m site template
argument m site (Template.Value e) h = record { value = Value (ground_expr m site e); is = refl }
argument m site (Template.Place p) h = record { value = At (ground_place m site p); is = refl }
argument m site (Template.Acts ts) h = absurd (true≢false h)

record AreTransfers (m : Machine) (site : Site) (template : Template) : Type 0 where
  value : List Transfer
  is : template_transfers m site template ≡ Some value

transfers : (m : Machine) (site : Site) (template : Template) → is_acts template ≡ true → AreTransfers m site template
transfers m site (Template.Acts ts) h = record { value = map (ground_transfer m site) ts; is = refl }
transfers m site (Template.Value e) h = absurd (true≢false (sym h))
transfers m site (Template.Place p) h = absurd (true≢false (sym h))

module _ (m : Machine) (pc next : ℕ) where
  -- a reader reads each constructor that stands for a value or a place, with fewer than `deep` numbers behind it
  record ReadsChosen (deep : ℕ) (chosen : Reader) : Type 0 where
    read : (c : ℕ) (form : Form) (more : List OperandKind) (leaves : List ℕ) → length leaves < deep → slice_get m.forms c ≡ Some form
        → is_acts form.template ≡ false → Spell m (form.kinds ++ more) leaves → IsRead m more leaves (chosen c leaves)

  -- one operand, and then the others
  then-read : (chosen : Reader) (kind : OperandKind) (kinds more : List OperandKind) (leaves : List ℕ)
      (first : IsRead m (kinds ++ more) leaves (operand_read chosen m kind leaves)) → IsRead m more first.rest (operands_read chosen m kinds first.rest)
      → IsRead m more leaves (operands_read chosen m (kind ∷ kinds) leaves)
  then-read chosen kind kinds more leaves first others = record {
    value = first.value ∷ others.value;
    rest = others.rest;
    is = rw (first.is, others.is) refl;
    spelled = others.spelled;
    shorter = omega arith;
  }

  field-read : (chosen : Reader) (w n : ℕ) (more : List OperandKind) (leaves : List ℕ) → n < 2 ^ w → Spell m more leaves
      → IsRead m more (n ∷ leaves) (operand_read chosen m (Field w) (n ∷ leaves))
  field-read chosen w n more leaves lt s =
      record { value = Number w n; rest = leaves; is = rw (lt-ltb n (2 ^ w) lt) refl; spelled = s; shorter = omega arith }

  typed-read : (chosen : Reader) (t c : ℕ) (more : List OperandKind) (leaves : List ℕ) → is_of_type m t c ≡ true → IsRead m more leaves (chosen c leaves)
      → IsRead m more (c ∷ leaves) (operand_read chosen m (Typed t) (c ∷ leaves))
  typed-read chosen t c more leaves of r = record { value = r.value; rest = r.rest; is = rw of r.is; spelled = r.spelled; shorter = omega arith }

  -- no numbers spell no operand
  none-spelled : (kind : OperandKind) (kinds : List OperandKind) → Spell m (kind ∷ kinds) [] → ⊥
  none-spelled (Field w) kinds s = s
  none-spelled (Typed t) kinds s = s

  operands-read : (deep : ℕ) (chosen : Reader) → ReadsChosen deep chosen → (kinds more : List OperandKind) (leaves : List ℕ) → length leaves ≤ deep
      → Spell m (kinds ++ more) leaves → IsRead m more leaves (operands_read chosen m kinds leaves)
  operands-read deep chosen well [] more leaves few s = record { value = []; rest = leaves; is = refl; spelled = s; shorter = omega arith }
  operands-read deep chosen well (kind ∷ kinds) more [] few s = absurd (none-spelled kind (kinds ++ more) s)
  operands-read deep chosen well (Field w ∷ kinds) more (n ∷ leaves) few s =
      let first = field-read chosen w n (kinds ++ more) leaves s.0 s.1 in
      then-read chosen (Field w) kinds more (n ∷ leaves) first (operands-read deep chosen well kinds more first.rest (omega arith) first.spelled)
  operands-read deep chosen well (Typed t ∷ kinds) more (c ∷ leaves) few s =
      let first = typed-read chosen t c (kinds ++ more) leaves s.1 (well.read c s.0 (kinds ++ more) leaves (omega arith) s.2 s.3 s.4) in
      then-read chosen (Typed t) kinds more (c ∷ leaves) first (operands-read deep chosen well kinds more first.rest (omega arith) first.spelled)

  -- a constructor's operands, and then what it stands for
  chosen-read : (deep : ℕ) (chosen : Reader) → ReadsChosen deep chosen → (c : ℕ) (form : Form) (more : List OperandKind) (leaves : List ℕ) → length leaves ≤ deep
      → slice_get m.forms c ≡ Some form → is_acts form.template ≡ false → Spell m (form.kinds ++ more) leaves
      → IsRead m more leaves
      (option_and_then (λ form. option_and_then (λ r. option_map (λ a. (a, r.1)) (template_argument m (record { arguments = r.0; pc = pc; next = next }) form.template))
      (operands_read chosen m form.kinds leaves)) (slice_get m.forms c))
  chosen-read deep chosen well c form more leaves few at stands s =
      let r = operands-read deep chosen well form.kinds more leaves few s in
      let a = argument m (record { arguments = r.value; pc = pc; next = next }) form.template stands in
      record { value = a.value; rest = r.rest; is = rw (at, r.is, a.is) refl; spelled = r.spelled; shorter = r.shorter }

  reads-chosen : (deep : ℕ) → ReadsChosen deep (chosen_read deep m pc next)
  unfolding chosen_read
  reads-chosen zero = record { read = λ c form more leaves few at stands s. absurd (omega arith) }
  reads-chosen (suc deep) = record {
    read = λ c form more leaves few at stands s. chosen-read deep (chosen_read deep m pc next) (reads-chosen deep) c form more leaves (omega arith) at stands s;
  }

  -- behind all operands nothing is left
  nothing-left : (rest : List ℕ) → Spell m [] rest → rest ≡ []
  nothing-left [] s = refl
  nothing-left (n ∷ rest) s = absurd s

  operands-are : (kinds : List OperandKind) (leaves : List ℕ) → Spell m kinds leaves → (arguments : List Argument) × (operands_of m pc next kinds leaves ≡ Some arguments)
  operands-are kinds leaves s =
      let r = operands-read (length leaves) (chosen_read (length leaves) m pc next) (reads-chosen (length leaves)) kinds [] leaves (omega arith) (rw append-nil s) in
      (r.value, rw (r.is, nothing-left r.rest r.spelled) refl)

  is-grounded : (inst : Inst) → IsOneOf m inst → IsTrue (is_some (grounded m inst pc next))
  unfolding grounded
  is-grounded inst one =
      let r = operands-are one.form.kinds inst.leaves one.operands in
      let ts = transfers m (record { arguments = r.0; pc = pc; next = next }) one.form.template one.acts in
      rw (one.at, r.1, ts.is) refl

pub spelled-ground : (m : Machine) (inst : Inst) (pc next : ℕ) → IsOneOf m inst → IsTrue (is_some (grounded m inst pc next))
spelled-ground m inst pc next one = is-grounded m pc next inst one
