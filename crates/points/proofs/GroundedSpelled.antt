-- Numbers that are read spell operands.
use Rattle.std.proofs.Common.{◌≡◌, ℕ, zero, suc, ◌^◌, Bool, true, false, true≢false, nat_lt, if◌then◌else◌, List, [], ◌∷◌, ◌++◌, append-nil, length, slice_get, Option, Some, None, option_map, option_and_then, IsTrue, is_some, refl, sym, ap, subst, ◌∙◌}
use Rattle.std.proofs.lemmas.Bool.{ltb-true}
use Rattle.std.proofs.lemmas.Option.{option_and_then_some, cond_some}
use Rattle.rtl_core.specs.declared.encodings.OperandKind.{OperandKind}
use Rattle.rtl_core.specs.declared.encodings.OperandKind.TheVariants.{Field, Typed}
use Rattle.rtl_core.specs.declared.inst.Inst.{Inst}
use Rattle.rtl_core.specs.declared.inst.GroundInst.{GroundInst}
use Rattle.rtl_core.specs.declared.machine.Form.{Form}
use Rattle.rtl_core.specs.declared.machine.Machine.{Machine}
use Rattle.rtl_core.specs.declared.template.Template.{Template}
use Rattle.rtl_core.specs.declared.transfer.Transfer.{Transfer}
use Rattle.rtl_core.specs.Grounding.{Argument, Number, Site, Reader, is_of_type, operand_read, operands_read, chosen_read, all_read, operands_of, template_argument, template_transfers, grounded}
use Rattle.points.specs.OperandTrees.{Spell, IsOneOf, is_acts}

map-some : {A B P : Type 0} (f : A → B) (o : Option A) (y : B) → option_map f o ≡ Some y → ((x : A) → o ≡ Some x → f x ≡ y → P) → P
map-some f None y e go = absurd (let z : None ≡ Some y = e in cc)
map-some f (Some x) y e go = go x refl (cc)

-- what stands for a value or a place is no transfers, and the other way round
is-operand : (m : Machine) (site : Site) (template : Template) (a : Argument) → template_argument m site template ≡ Some a → is_acts template ≡ false
is-operand m site (Template.Value e) a h = refl
is-operand m site (Template.Place p) a h = refl
is-operand m site (Template.Acts ts) a h = absurd (let z : None ≡ Some a = h in cc)

are-acts : (m : Machine) (site : Site) (template : Template) (ts : List Transfer) → template_transfers m site template ≡ Some ts → is_acts template ≡ true
are-acts m site (Template.Acts xs) ts h = refl
are-acts m site (Template.Value e) ts h = absurd (let z : None ≡ Some ts = h in cc)
are-acts m site (Template.Place p) ts h = absurd (let z : None ≡ Some ts = h in cc)

module _ (m : Machine) (pc next : ℕ) where
  -- a constructor that stands for a value or a place, and its operands before others
  record IsSpelled (c : ℕ) (more : List OperandKind) (leaves : List ℕ) : Type 0 where
    form : Form
    at : slice_get m.forms c ≡ Some form
    stands : is_acts form.template ≡ false
    operands : Spell m (form.kinds ++ more) leaves

  -- what a reader reads is spelled
  record ReadsSpelled (chosen : Reader) : Type 0 where
    spelled : (c : ℕ) (more : List OperandKind) (leaves : List ℕ) (r : Argument × List ℕ) → chosen c leaves ≡ Some r → Spell m more r.1 → IsSpelled c more leaves

  operand-spelled : (chosen : Reader) → ReadsSpelled chosen → (kind : OperandKind) (more : List OperandKind) (leaves : List ℕ) (r : Argument × List ℕ)
      → operand_read chosen m kind leaves ≡ Some r → Spell m more r.1 → Spell m (kind ∷ more) leaves
  operand-spelled chosen well kind more [] r e s = absurd (let z : None ≡ Some r = e in cc)
  operand-spelled chosen well (Field w) more (n ∷ leaves) r e s =
      let p = cond_some (nat_lt n (2 ^ w)) (Number w n, leaves) r e in
      (ltb-true n (2 ^ w) p.0, subst (λ (r : Argument × List ℕ). Spell m more r.1) (sym p.1) s)
  operand-spelled chosen well (Typed t) more (c ∷ leaves) r e s = typed (is_of_type m t c) refl e
    where
      typed : (b : Bool) → is_of_type m t c ≡ b → (if b then chosen c leaves else None) ≡ Some r → Spell m (Typed t ∷ more) (c ∷ leaves)
      typed false of e = absurd (let z : None ≡ Some r = e in cc)
      typed true of e = let x = well.spelled c more leaves r e s in (x.form, of, x.at, x.stands, x.operands)

  operands-spelled : (chosen : Reader) → ReadsSpelled chosen → (kinds more : List OperandKind) (leaves : List ℕ) (r : List Argument × List ℕ)
      → operands_read chosen m kinds leaves ≡ Some r → Spell m more r.1 → Spell m (kinds ++ more) leaves
  operands-spelled chosen well [] more leaves r e s =
      let x : ([], leaves) ≡ r = cc in
      subst (λ (r : List Argument × List ℕ). Spell m more r.1) (sym x) s
  operands-spelled chosen well (kind ∷ kinds) more leaves r e s =
      option_and_then_some (λ a. option_map (λ s. (a.0 ∷ s.0, s.1)) (operands_read chosen m kinds a.1)) (operand_read chosen m kind leaves) r e (λ a at ea.
      map-some (λ s. (a.0 ∷ s.0, s.1)) (operands_read chosen m kinds a.1) r ea (λ b as' es.
      operand-spelled chosen well kind (kinds ++ more) leaves a at
      (operands-spelled chosen well kinds more a.1 b as' (subst (λ (r : List Argument × List ℕ). Spell m more r.1) (sym es) s))))

  abbrev site : List Argument → Site
  site arguments = record { arguments = arguments; pc = pc; next = next }

  chosen-spelled : (chosen : Reader) → ReadsSpelled chosen → (c : ℕ) (more : List OperandKind) (leaves : List ℕ) (r : Argument × List ℕ)
      → option_and_then (λ form. option_and_then (λ r. option_map (λ a. (a, r.1)) (template_argument m (site r.0) form.template)) (operands_read chosen m form.kinds leaves))
      (slice_get m.forms c) ≡ Some r
      → Spell m more r.1 → IsSpelled c more leaves
  chosen-spelled chosen well c more leaves r e s =
      option_and_then_some (λ form. option_and_then (λ r. option_map (λ a. (a, r.1)) (template_argument m (site r.0) form.template)) (operands_read chosen m form.kinds leaves))
      (slice_get m.forms c) r e (λ form at ef.
      option_and_then_some (λ r. option_map (λ a. (a, r.1)) (template_argument m (site r.0) form.template)) (operands_read chosen m form.kinds leaves) r ef (λ x ex fx.
      map-some (λ a. (a, x.1)) (template_argument m (site x.0) form.template) r fx (λ a ea er.
      record {
        form = form;
        at = at;
        stands = is-operand m (site x.0) form.template a ea;
        operands = operands-spelled chosen well form.kinds more leaves x ex (subst (λ (r : Argument × List ℕ). Spell m more r.1) (sym er) s);
      })))

  reads-spelled : (deep : ℕ) → ReadsSpelled (chosen_read deep m pc next)
  unfolding chosen_read
  reads-spelled zero = record { spelled = λ c more leaves r e s. absurd (let z : None ≡ Some r = e in cc) }
  reads-spelled (suc deep) = record { spelled = λ c more leaves r e s. chosen-spelled (chosen_read deep m pc next) (reads-spelled deep) c more leaves r e s }

  all-read : (o : Option (List Argument × List ℕ)) (arguments : List Argument) → all_read o ≡ Some arguments → o ≡ Some (arguments, [])
  all-read None arguments e = absurd (let z : None ≡ Some arguments = e in cc)
  all-read (Some (xs, [])) arguments e = let x : xs ≡ arguments = cc in ap (λ ys. Some (ys, [])) x
  all-read (Some (xs, n ∷ ns)) arguments e = absurd (let z : None ≡ Some arguments = e in cc)

  -- an instruction that has all put in, and what its template stands for
  pub record HasForm (inst : Inst) (g : GroundInst) : Type 0 where
    pub form : Form
    pub at : slice_get m.forms inst.constructor ≡ Some form
    pub operands : Spell m form.kinds inst.leaves
    pub arguments : List Argument
    pub transfers : template_transfers m (site arguments) form.template ≡ Some g.transfers

  pub has-form : (inst : Inst) (g : GroundInst) → grounded m inst pc next ≡ Some g → HasForm inst g
  unfolding grounded
  has-form inst g e =
      option_and_then_some (λ form. option_and_then (λ arguments. option_map (λ ts. record { constructor = inst.constructor; next = next; transfers = ts })
      (template_transfers m (site arguments) form.template)) (operands_of m pc next form.kinds inst.leaves)) (slice_get m.forms inst.constructor) g e (λ form at ef.
      option_and_then_some (λ arguments. option_map (λ ts. record { constructor = inst.constructor; next = next; transfers = ts })
      (template_transfers m (site arguments) form.template)) (operands_of m pc next form.kinds inst.leaves) g ef (λ arguments ea eg.
      map-some (λ ts. record { constructor = inst.constructor; next = next; transfers = ts }) (template_transfers m (site arguments) form.template) g eg (λ ts et er.
      record {
        form = form;
        at = at;
        operands = rw (← append-nil form.kinds)
            (operands-spelled (chosen_read (length inst.leaves) m pc next) (reads-spelled (length inst.leaves)) form.kinds [] inst.leaves (arguments, [])
            (all-read (operands_read (chosen_read (length inst.leaves) m pc next) m form.kinds inst.leaves) arguments ea) tt);
        arguments = arguments;
        transfers = et ∙ ap (λ g. Some g.transfers) er;
      })))

pub grounded-spelled : (m : Machine) (inst : Inst) (pc next : ℕ) → IsTrue (is_some (grounded m inst pc next)) → IsOneOf m inst
grounded-spelled m inst pc next h = by (grounded m inst pc next) refl
  where
    by : (o : Option GroundInst) → grounded m inst pc next ≡ o → IsOneOf m inst
    by None e = absurd (true≢false (sym (rw e at h)))
    by (Some g) e =
        let f = has-form m pc next inst g e in
        record { form = f.form; at = f.at; acts = are-acts m (record { arguments = f.arguments; pc = pc; next = next }) f.form.template g.transfers f.transfers; operands = f.operands }
