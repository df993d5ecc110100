-- An instruction of a sound machine keeps the bounds of its template.
use Rattle.std.proofs.Common.{◌≡◌, ℕ, zero, suc, ◌+◌, ◌*◌, ◌^◌, ◌<◌, ◌≤◌, ◌==◌, nat_lt, Bool, true, false, true≢false, if◌then◌else◌, Option, Some, None, option_map, option_and_then, List, [], ◌∷◌, length, map, slice_get, refl, sym, ap, ◌∙◌, subst, inl, inr, arith}
use Rattle.std.specs.Prelude.{sum_by}
use Rattle.std.specs.List.{list_any}
use Rattle.std.proofs.lemmas.Bool.{eqb-true, or_cases}
use Rattle.std.proofs.lemmas.List.Sums.{sum_by-cons}
use Rattle.std.proofs.lemmas.Option.{option_and_then_some, slice_get_within}
use Rattle.rtl_core.specs.declared.encodings.OperandKind.{OperandKind}
use Rattle.rtl_core.specs.declared.encodings.OperandKind.TheVariants.{Field, Typed}
use Rattle.rtl_core.specs.declared.expr.Expr.{Expr}
use Rattle.rtl_core.specs.declared.inst.Inst.{Inst}
use Rattle.rtl_core.specs.declared.inst.GroundInst.{GroundInst}
use Rattle.rtl_core.specs.declared.machine.Form.{Form}
use Rattle.rtl_core.specs.declared.machine.Machine.{Machine}
use Rattle.rtl_core.specs.declared.template.TAct.{TAct}
use Rattle.rtl_core.specs.declared.template.TExpr.{TExpr}
use Rattle.rtl_core.specs.declared.template.TTransfer.{TTransfer}
use Rattle.rtl_core.specs.declared.template.Template.{Template}
use Rattle.rtl_core.specs.declared.transfer.Transfer.{Transfer}
use Rattle.rtl_core.specs.Grounding.{Place, Whole, Bits, Bytes, Argument, Number, Value, At, Site, Reader, ground_expr, ground_place, assigning, ground_act, ground_transfer, template_argument, template_transfers, is_of_type, operand_read, operands_read, chosen_read, all_read, operands_of, grounded}
use Rattle.rtl_core.specs.SoundMachine.{IsSoundMachine}
use Rattle.rtl_core.specs.SoundTemplates.{IsSoundTemplate}
use Rattle.rtl_core.specs.TemplateNodes.{Counts, nodes as tnodes, assigned_nodes, act_nodes as tact_nodes, guard_nodes as tguard_nodes, template_nodes, form_nodes, form_target, greatest}
use Rattle.rtl_core.proofs.GroundsSound.{grounds_sound}
use Rattle.rtl_core.specs.TemplateTerms.{tterm_of}
use Rattle.c_lower.specs.Accounts.{act_nodes, guard_nodes, nodes_of, act_leaves, guard_leaves, leaves_of}
use Rattle.c_lower.specs.GroundBound.{IsWithin}
use Rattle.c_lower.proofs.Bounds.{lowered_within, lowered_need_within}
use Rattle.c_lower.proofs.Acts.{is_lowered}
use Rattle.c_lower.proofs.Names.{all_named}
use Rattle.c_lower.specs.Naming.{NamesAll}
use Rattle.c_lower.specs.Theorem.{IsLowered}
use Rattle.c_lower.proofs.GroundNodes.{IsSmall, IsSmallTarget, IsSmallArgument, AreSmall, small_more, target_more, small_number, expr_small, place_small}

-- an act with its nodes and leaves
record IsSmallAct (k l n : ℕ) : Type 0 where
  nodes : k ≤ 2 * n
  leaves : l ≤ n

assign_small : (p : Place) (e : Expr) (n k : ℕ) → IsSmallTarget p n → IsSmall e k
    → IsSmallAct (act_nodes (assigning p e)) (act_leaves (assigning p e)) (n + k)
assign_small (Whole c) e n k t s =
    let x = s.nodes in let y = s.leaves in record { nodes = omega arith; leaves = omega arith }
assign_small (Bits c lo hi) e n k t s =
    let x = s.nodes in let y = s.leaves in record { nodes = omega arith; leaves = omega arith }
assign_small (Bytes b a) e n k t s =
    let x = s.nodes in let y = s.leaves in let z = t.nodes in let w = t.leaves in
    record { nodes = omega arith; leaves = omega arith }

-- ---- transfers
module _ (m : Machine) (counts : Counts) (kinds : List OperandKind) (site : Site)
    (small : AreSmall counts kinds site.arguments) where
  act_small : (act : TAct) → IsSmallAct (act_nodes (ground_act m site act)) (act_leaves (ground_act m site act))
      (tact_nodes counts kinds act)
  act_small (TAct.Assign p e) =
      let s = place_small m counts kinds site small p in
      assign_small (ground_place m site p) (ground_expr m site e) (assigned_nodes counts kinds p)
      (tnodes counts kinds (tterm_of e)) s.target (expr_small m counts kinds site small e)
  act_small (TAct.Jump e) =
      let s = expr_small m counts kinds site small e in record { nodes = s.nodes; leaves = s.leaves }
  act_small TAct.Annul = record { nodes = omega arith; leaves = omega arith }
  act_small (TAct.Trap e) =
      let s = expr_small m counts kinds site small e in record { nodes = s.nodes; leaves = s.leaves }
  act_small TAct.Service = record { nodes = omega arith; leaves = omega arith }
  act_small TAct.WinSave = record { nodes = omega arith; leaves = omega arith }
  act_small TAct.WinRestore = record { nodes = omega arith; leaves = omega arith }

  guard_small : (guard : Option TExpr)
      → IsSmallAct (guard_nodes (option_map (ground_expr m site) guard))
      (guard_leaves (option_map (ground_expr m site) guard)) (tguard_nodes counts kinds guard)
  guard_small None = record { nodes = omega arith; leaves = omega arith }
  guard_small (Some guard) =
      let s = expr_small m counts kinds site small guard in record { nodes = s.nodes; leaves = s.leaves }

  abbrev one : TTransfer → ℕ
  one t = 1 + tguard_nodes counts kinds t.guard + tact_nodes counts kinds t.act

  transfers_small : (ts : List TTransfer)
      → IsSmallAct (nodes_of (map (ground_transfer m site) ts)) (leaves_of (map (ground_transfer m site) ts))
      (sum_by (λ t. 1 + tguard_nodes counts kinds t.guard + tact_nodes counts kinds t.act) ts)
  transfers_small [] = record { nodes = omega arith; leaves = omega arith }
  transfers_small (t ∷ ts) =
      let a = act_small t.act in let g = guard_small t.guard in let s = transfers_small ts in
      let an = a.nodes in let al = a.leaves in let gn = g.nodes in let gl = g.leaves in let sn = s.nodes in
      let sl = s.leaves in
      let e = sum_by-cons one t ts in
      record { nodes = omega arith; leaves = omega arith }

-- ---- options and lists
map-some : {A B P : Type 0} (f : A → B) (o : Option A) (y : B) → option_map f o ≡ Some y
    → ((x : A) → o ≡ Some x → f x ≡ y → P) → P
map-some f None y e go = absurd (let z : None ≡ Some y = e in cc)
map-some f (Some x) y e go = go x refl cc

greatest_is : (count : ℕ → ℕ) (cs : List ℕ) (c : ℕ) → list_any (λ d. d == c) cs ≡ true → count c ≤ greatest count cs
greatest_is count [] c h = absurd (true≢false (sym h))
greatest_is count (d ∷ cs) c h =
    elim (or_cases (d == c) (list_any (λ d. d == c) cs) h) [
      | inl e ↦ let same = ap count (eqb-true d c e) in omega arith
      | inr r ↦ omega (arith, greatest_is count cs c r)
    ]

all-read : (o : Option (List Argument × List ℕ)) (arguments : List Argument) → all_read o ≡ Some arguments
    → o ≡ Some (arguments, [])
all-read None arguments e = absurd (let z : None ≡ Some arguments = e in cc)
all-read (Some (xs, [])) arguments e = let x : xs ≡ arguments = cc in ap (λ ys. Some (ys, [])) x
all-read (Some (xs, n ∷ ns)) arguments e = absurd (let z : None ≡ Some arguments = e in cc)

-- ---- operands
module _ (m : Machine) (sound : IsSoundMachine m) (pc next : ℕ) where
  abbrev counts : Counts
  counts = sound.nodes.counts

  abbrev site : List Argument → Site
  site arguments = record { arguments = arguments; pc = pc; next = next }

  -- a constructor of a type has no more nodes than the type
  type_read : (o : Option (List ℕ)) (t c : ℕ) → slice_get m.types t ≡ o → is_of_type m t c ≡ true
      → (form_nodes counts (slice_get m.forms c) ≤ counts.read t) ×
      (form_target counts (slice_get m.forms c) ≤ counts.assigned t)
  type_read None t c e h = absurd (true≢false (sym (rw e at h)))
  type_read (Some cs) t c e h =
      let nodes = sound.nodes in
      let among : list_any (λ d. d == c) cs ≡ true = rw e at h in
      let a = nodes.read t cs e in let b = nodes.assigned t cs e in (
        omega (arith, greatest_is (λ c. form_nodes counts (slice_get m.forms c)) cs c among),
        omega (arith, greatest_is (λ c. form_target counts (slice_get m.forms c)) cs c among),
      )

  -- what a reader answers for a type's constructor is small
  record ReadsSmall (chosen : Reader) : Type 0 where
    small : (t c : ℕ) (leaves : List ℕ) (r : Argument × List ℕ) → is_of_type m t c ≡ true → chosen c leaves ≡ Some r
        → IsSmallArgument counts (Some (Typed t)) r.0

  number_small : (w n : ℕ) (leaves : List ℕ) (r : Argument × List ℕ) (b : Bool)
      → (if b then Some (Number w n, leaves) else None) ≡ Some r → IsSmallArgument counts (Some (Field w)) r.0
  number_small w n leaves r false e = absurd (let z : None ≡ Some r = e in cc)
  number_small w n leaves r true e =
      let x : (Number w n, leaves) ≡ r = cc in
      let P : Argument × List ℕ → Type 0 = λ r. IsSmallArgument counts (Some (Field w)) r.0 in
      subst P x (small_number counts w n (Some (Field w)) refl)

  typed_small : (chosen : Reader) → ReadsSmall chosen → (t c : ℕ) (leaves : List ℕ) (r : Argument × List ℕ) (b : Bool)
      → is_of_type m t c ≡ b → (if b then chosen c leaves else None) ≡ Some r
      → IsSmallArgument counts (Some (Typed t)) r.0
  typed_small chosen well t c leaves r false is e = absurd (let z : None ≡ Some r = e in cc)
  typed_small chosen well t c leaves r true is e = well.small t c leaves r is e

  operand_small : (chosen : Reader) → ReadsSmall chosen → (kind : OperandKind) (leaves : List ℕ) (r : Argument × List ℕ)
      → operand_read chosen m kind leaves ≡ Some r → IsSmallArgument counts (Some kind) r.0
  operand_small chosen well kind [] r e = absurd (let z : None ≡ Some r = e in cc)
  operand_small chosen well (Field w) (n ∷ leaves) r e = number_small w n leaves r (nat_lt n (2 ^ w)) e
  operand_small chosen well (Typed t) (d ∷ leaves) r e = typed_small chosen well t d leaves r (is_of_type m t d) refl e

  operands_small : (chosen : Reader) → ReadsSmall chosen
      → (kinds : List OperandKind) (leaves : List ℕ) (r : List Argument × List ℕ)
      → operands_read chosen m kinds leaves ≡ Some r → AreSmall counts kinds r.0
  operands_small chosen well [] leaves r e =
      let x : ([], leaves) ≡ r = cc in
      let P : List Argument × List ℕ → Type 0 = λ r. AreSmall counts [] r.0 in
      subst P x tt
  operands_small chosen well (kind ∷ kinds) leaves r e =
      option_and_then_some (λ a. option_map (λ s. (a.0 ∷ s.0, s.1)) (operands_read chosen m kinds a.1))
      (operand_read chosen m kind leaves) r e (λ a at ea.
      map-some (λ s. (a.0 ∷ s.0, s.1)) (operands_read chosen m kinds a.1) r ea (λ s as' es.
      let P : List Argument × List ℕ → Type 0 = λ r. AreSmall counts (kind ∷ kinds) r.0 in
      subst P es (operand_small chosen well kind leaves a at, operands_small chosen well kinds a.1 s as')))

  -- what a template stands for as an operand of a type
  template_small : (t : ℕ) (kinds : List OperandKind) (template : Template) (arguments : List Argument) (a : Argument)
      → AreSmall counts kinds arguments
      → form_nodes counts (Some (record { kinds = kinds; template = template })) ≤ counts.read t
      → form_target counts (Some (record { kinds = kinds; template = template })) ≤ counts.assigned t
      → template_argument m (site arguments) template ≡ Some a → IsSmallArgument counts (Some (Typed t)) a
  template_small t kinds (Template.Value e) arguments a small read assigned is =
      let x : Value (ground_expr m (site arguments) e) ≡ a = cc in
      subst (IsSmallArgument counts (Some (Typed t))) x (record {
        read =
            small_more (ground_expr m (site arguments) e) (tnodes counts kinds (tterm_of e)) (counts.read t) read
            (expr_small m counts kinds (site arguments) small e);
        assigned = tt;
      })
  template_small t kinds (Template.Place p) arguments a small read assigned is =
      let x : At (ground_place m (site arguments) p) ≡ a = cc in
      let s = place_small m counts kinds (site arguments) small p in
      subst (IsSmallArgument counts (Some (Typed t))) x (record {
        read = small_more _ _ (counts.read t) read s.value;
        assigned =
            target_more (ground_place m (site arguments) p) (assigned_nodes counts kinds p)
            (counts.assigned t) assigned s.target;
      })
  template_small t kinds (Template.Acts ts) arguments a small read assigned is =
      absurd (let z : None ≡ Some a = is in cc)

  -- the operands of a constructor, and then what its template stands for
  abbrev behind : Reader → Form → List ℕ → Option (Argument × List ℕ)
  behind chosen form leaves =
      option_and_then (λ r. option_map (λ a. (a, r.1)) (template_argument m (site r.0) form.template))
      (operands_read chosen m form.kinds leaves)

  chosen_small : (chosen : Reader) → ReadsSmall chosen → (t c : ℕ) (leaves : List ℕ) (r : Argument × List ℕ)
      → is_of_type m t c ≡ true → option_and_then (λ form. behind chosen form leaves) (slice_get m.forms c) ≡ Some r
      → IsSmallArgument counts (Some (Typed t)) r.0
  chosen_small chosen well t c leaves r is e =
      option_and_then_some (λ form. behind chosen form leaves) (slice_get m.forms c) r e (λ form at ef.
      option_and_then_some (λ r. option_map (λ a. (a, r.1)) (template_argument m (site r.0) form.template))
      (operands_read chosen m form.kinds leaves) r ef (λ x ex fx.
      map-some (λ a. (a, x.1)) (template_argument m (site x.0) form.template) r fx (λ a ea er.
      let P : Argument × List ℕ → Type 0 = λ r. IsSmallArgument counts (Some (Typed t)) r.0 in
      let bound = type_read (slice_get m.types t) t c refl is in
      subst P er (template_small t form.kinds form.template x.0 a (operands_small chosen well form.kinds leaves x ex)
      (subst (λ o. form_nodes counts o ≤ counts.read t) at bound.0)
      (subst (λ o. form_target counts o ≤ counts.assigned t) at bound.1) ea))))

  reads_small : (deep : ℕ) → ReadsSmall (chosen_read deep m pc next)
  unfolding chosen_read
  reads_small zero = record { small = λ t c leaves r is e. absurd (let z : None ≡ Some r = e in cc) }
  reads_small (suc deep) =
      record {
        small = λ t c leaves r is e. chosen_small (chosen_read deep m pc next)
            (reads_small deep) t c leaves r is e;
      }

  -- ---- instructions
  acts_small : (t c : ℕ) (kinds : List OperandKind) (template : Template) (arguments : List Argument)
      (ts : List Transfer) → IsSoundTemplate m sound.stands t kinds template → AreSmall counts kinds arguments
      → (k : ℕ) → (t ≡ 0 → template_nodes counts kinds template ≤ k)
      → template_transfers m (site arguments) template ≡ Some ts → IsSmallAct (nodes_of ts) (leaves_of ts) k
  acts_small zero c kinds (Template.Acts xs) arguments ts s small k bound e =
      let x : map (ground_transfer m (site arguments)) xs ≡ ts = cc in
      let b = bound refl in
      let w = transfers_small m counts kinds (site arguments) small xs in
      let n = w.nodes in let l = w.leaves in
      let both : IsSmallAct (nodes_of (map (ground_transfer m (site arguments)) xs))
      (leaves_of (map (ground_transfer m (site arguments)) xs)) k =
      record { nodes = omega arith; leaves = omega arith } in
      subst (λ ts. IsSmallAct (nodes_of ts) (leaves_of ts) k) x both
  acts_small (suc t) c kinds (Template.Acts xs) arguments ts s small k bound e = absurd s
  acts_small t c kinds (Template.Value v) arguments ts s small k bound e = absurd (let z : None ≡ Some ts = e in cc)
  acts_small t c kinds (Template.Place p) arguments ts s small k bound e = absurd (let z : None ≡ Some ts = e in cc)

  most_read : (c : ℕ) (form : Form) → slice_get m.forms c ≡ Some form → sound.types.type_of c ≡ 0
      → (template_nodes counts form.kinds form.template ≤ m.most_nodes)
  most_read c form at e =
      let types = sound.types in
      let nodes = sound.nodes in
      let listed = types.listed c (slice_get_within m.forms c form at) in
      let here : slice_get m.types 0 ≡ Some listed.0 = ap (slice_get m.types) (sym e) ∙ listed.1 in
      let le = greatest_is (λ c. form_nodes counts (slice_get m.forms c)) listed.0 c listed.2 in
      let r = nodes.read 0 listed.0 here in
      let most = nodes.most in
      subst (λ o. form_nodes counts o ≤ m.most_nodes) at (omega (arith, le, r, most))

  few_read : (c : ℕ) (form : Form) → slice_get m.forms c ≡ Some form
      → template_nodes counts form.kinds form.template ≤ 256
  few_read c form at = let nodes = sound.nodes in subst (λ o. form_nodes counts o ≤ 256) at (nodes.few c)

  -- the nodes and leaves of an instruction
  instruction_small : (inst : Inst) (g : GroundInst) → grounded m inst pc next ≡ Some g
      → (nodes_of g.transfers ≤ 2 * m.most_nodes) × (leaves_of g.transfers ≤ 256)
  unfolding grounded
  instruction_small inst g e =
      option_and_then_some (λ form. option_and_then
      (λ arguments. option_map (λ ts. record { constructor = inst.constructor; next = next; transfers = ts })
      (template_transfers m (site arguments) form.template)) (operands_of m pc next form.kinds inst.leaves))
      (slice_get m.forms inst.constructor) g e (λ form at ef.
      let f = sound.forms inst.constructor form at in
      option_and_then_some (λ arguments. option_map
      (λ ts. record { constructor = inst.constructor; next = next; transfers = ts })
      (template_transfers m (site arguments) form.template)) (operands_of m pc next form.kinds inst.leaves) g ef
      (λ arguments ea eg.
      map-some (λ ts. record { constructor = inst.constructor; next = next; transfers = ts })
      (template_transfers m (site arguments) form.template) g eg (λ ts et er.
      let small = operands_small (chosen_read (length inst.leaves) m pc next)
      (reads_small (length inst.leaves)) form.kinds inst.leaves (arguments, [])
      (all-read (operands_read (chosen_read (length inst.leaves) m pc next) m form.kinds inst.leaves) arguments ea) in
      let a = acts_small (sound.types.type_of inst.constructor) inst.constructor form.kinds form.template arguments ts
      f.template small m.most_nodes (most_read inst.constructor form at) et in
      let b = acts_small (sound.types.type_of inst.constructor) inst.constructor form.kinds form.template arguments ts
      f.template small 256 (λ z. few_read inst.constructor form at) et in
      let P : GroundInst → Type 0 = λ g. (nodes_of g.transfers ≤ 2 * m.most_nodes) × (leaves_of g.transfers ≤ 256) in
      subst P er (a.nodes, b.leaves))))

pub all_within : (m : Machine) → IsSoundMachine m → (inst : Inst) (pc next : ℕ) (g : GroundInst)
    → grounded m inst pc next ≡ Some g → pc < 2 ^ 32 → next < 2 ^ 32 → IsWithin m g
all_within m sound inst pc next g e pc32 next32 =
    let small = instruction_small m sound pc next inst g e in
    let transfers = grounds_sound m inst pc next g sound pc32 next32 e in
    record {
      steps = omega (arith, small.0, lowered_within m sound.windows g.transfers transfers.one_move);
      temps = omega (arith, small.1, lowered_need_within g.transfers);
    }

pub instructions_lowered : (m : Machine) → IsSoundMachine m → (inst : Inst) (pc next : ℕ) (g : GroundInst)
    → grounded m inst pc next ≡ Some g → pc < 2 ^ 32 → next < 2 ^ 32
    → (named : ℕ → Bool) → NamesAll m named → (temps : ℕ) → 261 ≤ temps → IsLowered m pc g.transfers named temps
instructions_lowered m sound inst pc next g e pc32 next32 named all temps enough =
    let transfers = grounds_sound m inst pc next g sound pc32 next32 e in
    let bounds = all_within m sound inst pc next g e pc32 next32 in
    let room = bounds.temps in
    is_lowered m (record { widths = sound.widths; windows = sound.windows }) pc pc32 g.transfers transfers named
    (all_named m sound.windows g.transfers transfers named all) temps (omega arith)
