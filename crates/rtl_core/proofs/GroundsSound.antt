-- A sound machine's instructions are sound once all is put in.
use Rattle.std.proofs.Common.{◌≡◌, ℕ, zero, suc, ◌^◌, ◌<◌, ◌==◌, nat_lt, Bool, true, false, true≢false, arith, if◌then◌else◌, List, [], ◌∷◌, length, map, slice_get, Option, Some, None, option_map, option_and_then, All, refl, sym, ap, ◌∙◌, subst, inl, inr}
use Rattle.std.proofs.lemmas.Bool.{eqb-true, or_cases, ltb-true}
use Rattle.std.proofs.lemmas.List.Elements.{All-head, All-tail}
use Rattle.std.proofs.lemmas.Option.{option_and_then_some}
use Rattle.std.specs.List.{list_any}
use Rattle.rtl_core.specs.declared.encodings.OperandKind.{OperandKind}
use Rattle.rtl_core.specs.declared.encodings.OperandKind.TheVariants.{Field, Typed}
use Rattle.rtl_core.specs.declared.inst.Inst.{Inst}
use Rattle.rtl_core.specs.declared.inst.GroundInst.{GroundInst}
use Rattle.rtl_core.specs.declared.machine.Machine.{Machine}
use Rattle.rtl_core.specs.declared.machine.Form.{Form}
use Rattle.rtl_core.specs.declared.template.Template.{Template}
use Rattle.rtl_core.specs.declared.transfer.Transfer.{Transfer}
use Rattle.rtl_core.specs.Grounding.{Argument, Number, Value, At, Site, Reader, is_of_type, operand_read, operands_read, chosen_read, all_read, operands_of, template_argument, template_transfers, ground_expr, ground_place, ground_transfer, grounded}
use Rattle.rtl_core.specs.GroundLaw.{GroundsSound}
use Rattle.rtl_core.specs.SoundEncodings.{IsKind}
use Rattle.rtl_core.specs.SoundMachine.{IsSoundMachine, IsSoundForm}
use Rattle.rtl_core.specs.SoundTemplates.{IsSoundTemplate, IsPlaceType, is_place}
use Rattle.rtl_core.specs.SoundTerms.{AreSoundTransfers}
use Rattle.rtl_core.proofs.GroundExprs.{IsSite, expr-sound, place-ground, transfers-sound}
use Rattle.rtl_core.proofs.GroundPlaces.{Fits, FitAll}

-- ---- options and lists

map-some : {A B P : Type 0} (f : A → B) (o : Option A) (y : B) → option_map f o ≡ Some y → ((x : A) → o ≡ Some x → f x ≡ y → P) → P
map-some f None y e go = absurd (let z : None ≡ Some y = e in cc)
map-some f (Some x) y e go = go x refl (cc)

-- what holds of all members holds of one that is found
among : (cs : List ℕ) (c : ℕ) (P : ℕ → Type 0) → All P cs → list_any (λ d. d == c) cs ≡ true → P c
among [] c P all h = absurd (true≢false (sym h))
among (d ∷ cs) c P all h =
    elim (or_cases (d == c) (list_any (λ d. d == c) cs) h) [
      | inl e ↦ subst P (eqb-true d c e) (All-head P d cs all)
      | inr r ↦ among cs c P (All-tail P d cs all) r
    ]

module _ (m : Machine) (sound : IsSoundMachine m) (pc next : ℕ) (pc_fits : pc < 2 ^ 32) (next_fits : next < 2 ^ 32) where
  -- an operand tree in its place
  abbrev site : List Argument → Site
  site arguments = record { arguments = arguments; pc = pc; next = next }

  site-sound : (kinds : List OperandKind) (arguments : List Argument) → FitAll m sound.stands kinds arguments → IsSite m sound.stands kinds (site arguments)
  site-sound kinds arguments s = record { files = sound.files; arguments = s; pc = pc_fits; next = next_fits }

  -- a constructor of a type is of that type alone
  of_type : (o : Option (List ℕ)) (t c : ℕ) → slice_get m.types t ≡ o → is_of_type m t c ≡ true → sound.types.type_of c ≡ t
  of_type None t c e h = absurd (true≢false (sym (rw e at h)))
  of_type (Some cs) t c e h =
      let all = (sound.types.each t cs e).1 in
      (among cs c (λ d. (d < length m.forms) × (sound.types.type_of d ≡ t)) all (rw e at h)).1

  -- ---- operands

  -- what a reader answers for a type's constructor fits the type
  record ReadsWell (chosen : Reader) : Type 0 where
    fits : (t c : ℕ) (leaves : List ℕ) (r : Argument × List ℕ) → is_of_type m t c ≡ true → chosen c leaves ≡ Some r → Fits m sound.stands (Typed t) r.0

  number-fits : (w n : ℕ) (leaves : List ℕ) (r : Argument × List ℕ) (b : Bool) → nat_lt n (2 ^ w) ≡ b → IsKind m.types 0 (Field w)
      → (if b then Some (Number w n, leaves) else None) ≡ Some r → Fits m sound.stands (Field w) r.0
  number-fits w n leaves r false lt k e = absurd (let z : None ≡ Some r = e in cc)
  number-fits w n leaves r true lt k e =
      let x : (Number w n, leaves) ≡ r = cc in
      let P : Argument × List ℕ → Type 0 = λ r. Fits m sound.stands (Field w) r.0 in
      subst P x (refl, (k.0, omega arith), ltb-true n (2 ^ w) lt)

  typed-fits : (chosen : Reader) → ReadsWell chosen → (t c : ℕ) (leaves : List ℕ) (r : Argument × List ℕ) (b : Bool) → is_of_type m t c ≡ b
      → (if b then chosen c leaves else None) ≡ Some r → Fits m sound.stands (Typed t) r.0
  typed-fits chosen well t c leaves r false is e = absurd (let z : None ≡ Some r = e in cc)
  typed-fits chosen well t c leaves r true is e = well.fits t c leaves r is e

  operand-fits : (chosen : Reader) → ReadsWell chosen → (c : ℕ) (kind : OperandKind) (leaves : List ℕ) (r : Argument × List ℕ) → IsKind m.types c kind
      → operand_read chosen m kind leaves ≡ Some r → Fits m sound.stands kind r.0
  operand-fits chosen well c kind [] r k e = absurd (let z : None ≡ Some r = e in cc)
  operand-fits chosen well c (Field w) (n ∷ leaves) r k e = number-fits w n leaves r (nat_lt n (2 ^ w)) refl k e
  operand-fits chosen well c (Typed t) (d ∷ leaves) r k e = typed-fits chosen well t d leaves r (is_of_type m t d) refl e

  operands-fit : (chosen : Reader) → ReadsWell chosen → (c : ℕ) (kinds : List OperandKind) (leaves : List ℕ) (r : List Argument × List ℕ) → All (IsKind m.types c) kinds
      → operands_read chosen m kinds leaves ≡ Some r → FitAll m sound.stands kinds r.0
  operands-fit chosen well c [] leaves r k e =
      let x : ([], leaves) ≡ r = cc in
      let P : List Argument × List ℕ → Type 0 = λ r. FitAll m sound.stands [] r.0 in
      subst P x tt
  operands-fit chosen well c (kind ∷ kinds) leaves r k e =
      option_and_then_some (λ a. option_map (λ s. (a.0 ∷ s.0, s.1)) (operands_read chosen m kinds a.1)) (operand_read chosen m kind leaves) r e (λ a at ea.
      map-some (λ s. (a.0 ∷ s.0, s.1)) (operands_read chosen m kinds a.1) r ea (λ s as' es.
      let P : List Argument × List ℕ → Type 0 = λ r. FitAll m sound.stands (kind ∷ kinds) r.0 in
      subst P es (
        operand-fits chosen well c kind leaves a (All-head (IsKind m.types c) kind kinds k) at,
        operands-fit chosen well c kinds a.1 s (All-tail (IsKind m.types c) kind kinds k) as',
      )))

  -- a constructor of a type with a value does not stand for a place of it
  no_place : (t c : ℕ) (form : Form) → is_of_type m t c ≡ true → slice_get m.forms c ≡ Some form → is_place form.template ≡ false → IsPlaceType m t → ⊥
  no_place t c form is at none all = by (slice_get m.types t) refl
    where
      by : (o : Option (List ℕ)) → slice_get m.types t ≡ o → ⊥
      by None e = true≢false (sym (rw e at is))
      by (Some cs) e =
          true≢false (sym (among cs c (λ d. (f : Form) → slice_get m.forms d ≡ Some f → is_place f.template ≡ true) (all cs e) (rw e at is) form at) ∙ none)

  -- what a sound template stands for as an operand
  template-fits : (t c : ℕ) (form : Form) (template : Template) (arguments : List Argument) (a : Argument) → is_of_type m (suc t) c ≡ true
      → slice_get m.forms c ≡ Some form → form.template ≡ template → IsSoundTemplate m sound.stands (suc t) form.kinds template
      → FitAll m sound.stands form.kinds arguments → template_argument m (site arguments) template ≡ Some a → Fits m sound.stands (Typed (suc t)) a
  template-fits t c form (Template.Value e) arguments a is at eq s fit ea =
      let x : Value (ground_expr m (site arguments) e) ≡ a = cc in
      subst (Fits m sound.stands (Typed (suc t))) x (
        expr-sound m sound.stands form.kinds (site arguments) (site-sound form.kinds arguments fit) e (sound.stands (suc t)) s,
        no_place (suc t) c form is at (ap is_place eq),
      )
  template-fits t c form (Template.Place p) arguments a is at eq s fit ea =
      let x : At (ground_place m (site arguments) p) ≡ a = cc in
      let h = place-ground m sound.stands form.kinds (site arguments) (site-sound form.kinds arguments fit) p s.0 in
      subst (Fits m sound.stands (Typed (suc t))) x (record { there = h.there; width = h.width ∙ s.1 })
  template-fits t c form (Template.Acts ts) arguments a is at eq s fit ea = absurd s

  form-sound : (t c : ℕ) (form : Form) → slice_get m.forms c ≡ Some form → sound.types.type_of c ≡ t → IsSoundForm m sound.most sound.stands t c form
  form-sound t c form at e = subst (λ (t : ℕ). IsSoundForm m sound.most sound.stands t c form) e (sound.forms c form at)

  -- the operands of a constructor, and then what its template stands for
  abbrev behind : Reader → Form → List ℕ → Option (Argument × List ℕ)
  behind chosen form leaves = option_and_then (λ r. option_map (λ a. (a, r.1)) (template_argument m (site r.0) form.template)) (operands_read chosen m form.kinds leaves)

  behind-fits : (chosen : Reader) → ReadsWell chosen → (t c : ℕ) (form : Form) (leaves : List ℕ) (r : Argument × List ℕ) → is_of_type m (suc t) c ≡ true
      → slice_get m.forms c ≡ Some form → behind chosen form leaves ≡ Some r → Fits m sound.stands (Typed (suc t)) r.0
  behind-fits chosen well t c form leaves r is at e =
      let f = form-sound (suc t) c form at (of_type (slice_get m.types (suc t)) (suc t) c refl is) in
      option_and_then_some (λ r. option_map (λ a. (a, r.1)) (template_argument m (site r.0) form.template)) (operands_read chosen m form.kinds leaves) r e (λ x ex fx.
      map-some (λ a. (a, x.1)) (template_argument m (site x.0) form.template) r fx (λ a ea er.
      let P : Argument × List ℕ → Type 0 = λ r. Fits m sound.stands (Typed (suc t)) r.0 in
      subst P er (template-fits t c form form.template x.0 a is at refl f.template (operands-fit chosen well c form.kinds leaves x f.kinds ex) ea)))

  chosen-fits : (chosen : Reader) → ReadsWell chosen → (t c : ℕ) (leaves : List ℕ) (r : Argument × List ℕ) → is_of_type m t c ≡ true
      → option_and_then (λ form. behind chosen form leaves) (slice_get m.forms c) ≡ Some r → Fits m sound.stands (Typed t) r.0
  chosen-fits chosen well zero c leaves r is e = tt
  chosen-fits chosen well (suc t) c leaves r is e =
      option_and_then_some (λ form. behind chosen form leaves) (slice_get m.forms c) r e (λ form at ef. behind-fits chosen well t c form leaves r is at ef)

  reads_well : (deep : ℕ) → ReadsWell (chosen_read deep m pc next)
  unfolding chosen_read
  reads_well zero = record { fits = λ t c leaves r is e. absurd (let z : None ≡ Some r = e in cc) }
  reads_well (suc deep) = record { fits = λ t c leaves r is e. chosen-fits (chosen_read deep m pc next) (reads_well deep) t c leaves r is e }

  -- ---- instructions

  all-read : (o : Option (List Argument × List ℕ)) (arguments : List Argument) → all_read o ≡ Some arguments → o ≡ Some (arguments, [])
  all-read None arguments e = absurd (let z : None ≡ Some arguments = e in cc)
  all-read (Some (xs, [])) arguments e = let x : xs ≡ arguments = cc in ap (λ ys. Some (ys, [])) x
  all-read (Some (xs, n ∷ ns)) arguments e = absurd (let z : None ≡ Some arguments = e in cc)

  acts-sound : (t : ℕ) (kinds : List OperandKind) (template : Template) (arguments : List Argument) (ts : List Transfer) → IsSoundTemplate m sound.stands t kinds template
      → FitAll m sound.stands kinds arguments → template_transfers m (site arguments) template ≡ Some ts → AreSoundTransfers m ts
  acts-sound zero kinds (Template.Acts xs) arguments ts s fit e =
      let x : map (ground_transfer m (site arguments)) xs ≡ ts = cc in
      subst (AreSoundTransfers m) x (transfers-sound m sound.stands kinds (site arguments) xs (site-sound kinds arguments fit) s)
  acts-sound (suc t) kinds (Template.Acts xs) arguments ts s fit e = absurd s
  acts-sound t kinds (Template.Value v) arguments ts s fit e = absurd (let z : None ≡ Some ts = e in cc)
  acts-sound t kinds (Template.Place p) arguments ts s fit e = absurd (let z : None ≡ Some ts = e in cc)

  instruction-sound : (inst : Inst) (g : GroundInst) → grounded m inst pc next ≡ Some g → AreSoundTransfers m g.transfers
  unfolding grounded
  instruction-sound inst g e =
      option_and_then_some (λ form. option_and_then (λ arguments. option_map (λ ts. record { constructor = inst.constructor; next = next; transfers = ts })
      (template_transfers m (site arguments) form.template)) (operands_of m pc next form.kinds inst.leaves)) (slice_get m.forms inst.constructor) g e (λ form at ef.
      let f = sound.forms inst.constructor form at in
      option_and_then_some (λ arguments. option_map (λ ts. record { constructor = inst.constructor; next = next; transfers = ts })
      (template_transfers m (site arguments) form.template)) (operands_of m pc next form.kinds inst.leaves) g ef (λ arguments ea eg.
      map-some (λ ts. record { constructor = inst.constructor; next = next; transfers = ts }) (template_transfers m (site arguments) form.template) g eg (λ ts et er.
      let P : GroundInst → Type 0 = λ g. AreSoundTransfers m g.transfers in
      subst P er
      (acts-sound (sound.types.type_of inst.constructor) form.kinds form.template arguments ts f.template
      (operands-fit (chosen_read (length inst.leaves) m pc next) (reads_well (length inst.leaves)) inst.constructor form.kinds inst.leaves (arguments, []) f.kinds
      (all-read (operands_read (chosen_read (length inst.leaves) m pc next) m form.kinds inst.leaves) arguments ea)) et))))

pub grounds_sound : GroundsSound
grounds_sound m inst pc next g sound pc_fits next_fits e = instruction-sound m sound pc next pc_fits next_fits inst g e
