-- The transfers of an instruction's line are sound, counted right, and each kind of act comes once at most.
use Rattle.std.proofs.Common.{◌≡◌, ℕ, suc, ◌+◌, ◌-◌, ◌≤◌, ◌&&◌, Bool, true, false, cond, List, [], ◌∷◌, map, length, take, Option, Some, None, refl, sym, ap, ◌∙◌, subst, arith}
use Rattle.std.proofs.lemmas.Bool.{and_parts, cond-true, eqb-true, leb-true}
use Rattle.std.proofs.lemmas.List.Elements.{All-nil, All-cons}
use Rattle.std.proofs.lemmas.List.Sums.{sum_by-cons}
use Rattle.std.specs.Prelude.{All, is_some, option_map, count_by, sum_by, nat_le}
use Rattle.std.specs.Option.{option_or}
use Rattle.std.specs.List.{list_all}
use Rattle.ssl_syntax.specs.declared.line.SslExpr.{SslExpr}
use Rattle.ssl_syntax.specs.declared.line.SslAct.{SslAct}
use Rattle.ssl_syntax.specs.declared.line.SslAct.TheVariants as act
use Rattle.ssl_syntax.specs.declared.line.SslTransfer.{SslTransfer}
use Rattle.ssl_syntax.specs.Expressions.{is_expr}
use Rattle.ssl_syntax.specs.Transfers.{is_place, is_act as is_act_value, is_guard, is_transfer}
use Rattle.rtl_core.specs.declared.encodings.OperandKind.{OperandKind}
use Rattle.rtl_core.specs.declared.template.TAct.{TAct}
use Rattle.rtl_core.specs.declared.template.TTransfer.{TTransfer}
use Rattle.rtl_core.specs.SoundTemplates.{IsOfWidth, IsSoundTAct, IsSoundTGuard, IsSoundTTransfer, AreSoundTTransfers, IsTServiceLast, is_tjump, is_tannul, is_tservice, moves_twindow}
use Rattle.rtl_core.specs.TemplateNodes.{expr_nodes as texpr_nodes, act_nodes as tact_nodes, guard_nodes as tguard_nodes, template_nodes}
use Rattle.ssl_rules.specs.declared.acts.Once.{Once}
use Rattle.ssl_rules.specs.declared.acts.Once.TheVariants as once
use Rattle.ssl_rules.specs.Names.{Scope}
use Rattle.ssl_rules.specs.Acts.{is_act, acts_of, is_service_last, are_single}
use Rattle.ssl_rules.specs.Known.{is_known_act, is_known_guard, is_known_transfer}
use Rattle.ssl_rules.specs.Counted.{is_counted_expr, is_counted_place, is_counted_act, is_counted_guard, is_counted_transfer}
use Rattle.ssl_rules.specs.Widths.{is_width, asked_of, measured, place_measured, is_act_in_range, act_differs, is_guard_in_range, guard_differs, is_transfer_in_range, transfer_differs, first_differing}
use Rattle.ssl_rules.specs.Formulas.{expanded}
use Rattle.ssl_rules.specs.Places.{act_assigns_place}
use Rattle.ssl_rules.specs.Templates.{expr_value, act_of, transfer_of, transfers_template, place_nodes, act_nodes, guard_nodes, transfer_nodes, transfers_nodes}
use Rattle.ssl_sound.proofs.Good.{Frame, IsGood}
use Rattle.ssl_sound.proofs.Measures.{none_parts, fine-asked}
use Rattle.ssl_sound.proofs.Scopes.{IsGoodScope}
use Rattle.ssl_sound.proofs.ExprGood.{expr-good}
use Rattle.ssl_sound.proofs.Tables.{AreSoundTables}
use Rattle.ssl_sound.proofs.GoodPlaces.{expr-formed, place-good}

-- ---- each kind once

counted-as : (s : Scope) (p : TAct → Bool) (kind : Once) → ((a : SslAct) → p (act_of s a) ≡ is_act kind a) → (ts : List SslTransfer)
    → count_by p (map (λ t. t.act) (map (transfer_of s) ts)) ≡ acts_of kind ts
counted-as s p kind same [] = refl
counted-as s p kind same (t ∷ ts) =
    sum_by-cons (λ x. cond (p x) 1 0) (act_of s t.act) (map (λ t. t.act) (map (transfer_of s) ts))
    ∙ ap (λ b. cond b 1 0 + count_by p (map (λ t. t.act) (map (transfer_of s) ts))) (same t.act)
    ∙ ap (λ n. cond (is_act kind t.act) 1 0 + n) (counted-as s p kind same ts)
    ∙ sym (sum_by-cons (λ (x : SslTransfer). cond (is_act kind x.act) 1 0) t ts)

same-jump : (s : Scope) (a : SslAct) → is_tjump (act_of s a) ≡ is_act once.Jump a
same-jump s (act.Assign w p e) = refl
same-jump s (act.Jump e) = refl
same-jump s act.Annul = refl
same-jump s (act.Trap e) = refl
same-jump s act.Service = refl
same-jump s act.WinSave = refl
same-jump s act.WinRestore = refl

same-annul : (s : Scope) (a : SslAct) → is_tannul (act_of s a) ≡ is_act once.Annul a
same-annul s (act.Assign w p e) = refl
same-annul s (act.Jump e) = refl
same-annul s act.Annul = refl
same-annul s (act.Trap e) = refl
same-annul s act.Service = refl
same-annul s act.WinSave = refl
same-annul s act.WinRestore = refl

same-service : (s : Scope) (a : SslAct) → is_tservice (act_of s a) ≡ is_act once.Service a
same-service s (act.Assign w p e) = refl
same-service s (act.Jump e) = refl
same-service s act.Annul = refl
same-service s (act.Trap e) = refl
same-service s act.Service = refl
same-service s act.WinSave = refl
same-service s act.WinRestore = refl

same-move : (s : Scope) (a : SslAct) → moves_twindow (act_of s a) ≡ is_act once.Move a
same-move s (act.Assign w p e) = refl
same-move s (act.Jump e) = refl
same-move s act.Annul = refl
same-move s (act.Trap e) = refl
same-move s act.Service = refl
same-move s act.WinSave = refl
same-move s act.WinRestore = refl

none-first : (b : Bool) (n : ℕ) → cond b 1 0 + n ≡ 0 → (b ≡ false) × (n ≡ 0)
none-first true n e = absurd (omega arith)
none-first false n e = (refl, omega arith)

service-last : (s : Scope) (ts : List SslTransfer) → acts_of once.Service (take (length ts - 1) ts) ≡ 0 → IsTServiceLast (map (λ t. t.act) (map (transfer_of s) ts))
service-last s [] e = tt
service-last s (t ∷ []) e = tt
service-last s (t ∷ u ∷ ts) e =
    let n : length (t ∷ u ∷ ts) - 1 ≡ suc (length (u ∷ ts) - 1) = omega arith in
    let split = sym (sum_by-cons (λ (x : SslTransfer). cond (is_act once.Service x.act) 1 0) t (take (length (u ∷ ts) - 1) (u ∷ ts)))
    ∙ ap (λ k. acts_of once.Service (take k (t ∷ u ∷ ts))) (sym n) ∙ e in
    let z = none-first (is_act once.Service t.act) (acts_of once.Service (take (length (u ∷ ts) - 1) (u ∷ ts))) split in
    (same-service s t.act ∙ z.0, service-last s (u ∷ ts) z.1)

-- ---- acts

pub record IsSoundActOf (E : Frame) (kinds : List OperandKind) (a : TAct) (n : ℕ) : Type 0 where
  pub sound : IsSoundTAct E.machine E.stands kinds a
  pub nodes : tact_nodes E.counts kinds a ≡ n

module _ (E : Frame) (kinds : List OperandKind) (s : Scope) (g : IsGoodScope E kinds (λ f. f) s) (tables : AreSoundTables s.tables) where
  value-good : (e : SslExpr) (w : ℕ) → is_expr e ≡ true → is_counted_expr s e ≡ true → is_some (measured s e).width ≡ true → asked_of w (measured s e) ≡ None → IsGood E kinds (expanded s e) w
  value-good e w formed counted ranged same = expr-good E kinds (λ f. f) s g e (expr-formed e formed) counted w (fine-asked (measured s e) w ranged same)

  of-width : (e : SslExpr) (w : ℕ) → IsGood E kinds (expanded s e) w → IsOfWidth E.machine E.stands kinds (expr_value s e) w
  of-width e w good = record { sound = good.sound; width = good.width }

  act-good : (surplus : List (List ℕ)) (windows : Bool) → (windows ≡ true → is_some E.machine.windows ≡ true) → (a : SslAct) → is_act_value a ≡ true → is_known_act surplus s windows a ≡ true → is_counted_act s a ≡ true
      → is_act_in_range s a ≡ true → act_assigns_place s a ≡ true → act_differs s a ≡ None → IsSoundActOf E kinds (act_of s a) (act_nodes s a)
  act-good surplus windows there (act.Assign w p e) formed known counted ranged places same =
      let f = and_parts (is_place p) (is_expr e) formed in
      let c = and_parts (is_counted_place s p) (is_counted_expr s e) counted in
      let r = and_parts (is_width w) (is_some (place_measured s p).width && is_some (measured s e).width) ranged in
      let q = and_parts (is_some (place_measured s p).width) (is_some (measured s e).width) r.1 in
      let d = none_parts (asked_of w (place_measured s p)) (asked_of w (measured s e))
      (sym (cond-true (is_width w) (option_or (asked_of w (place_measured s p)) (asked_of w (measured s e))) None r.0) ∙ same) in
      let to = place-good E kinds s g tables p w f.0 c.0 places (fine-asked (place_measured s p) w q.0 d.0) in
      let good = value-good e w f.1 c.1 q.1 d.1 in
      record {
        sound = (to.sound, record { sound = good.sound; width = good.width ∙ sym to.width });
        nodes = ap (λ n. n + texpr_nodes E.counts kinds (expr_value s e)) to.nodes ∙ ap (λ n. place_nodes s p + n) good.nodes;
      }
  act-good surplus windows there (act.Jump e) formed known counted ranged places same =
      let good = value-good e 32 formed counted ranged same in record { sound = of-width e 32 good; nodes = good.nodes }
  act-good surplus windows there act.Annul formed known counted ranged places same = record { sound = tt; nodes = refl }
  act-good surplus windows there (act.Trap e) formed known counted ranged places same =
      let good = value-good e 32 formed counted ranged same in record { sound = of-width e 32 good; nodes = good.nodes }
  act-good surplus windows there act.Service formed known counted ranged places same = record { sound = tt; nodes = refl }
  act-good surplus windows there act.WinSave formed known counted ranged places same = record { sound = there known; nodes = refl }
  act-good surplus windows there act.WinRestore formed known counted ranged places same = record { sound = there known; nodes = refl }

  guard-sound : (o : Option SslExpr) → is_guard o ≡ true → is_counted_guard s o ≡ true → is_guard_in_range s o ≡ true → guard_differs s o ≡ None
      → IsSoundTGuard E.machine E.stands kinds (option_map (expr_value s) o)
  guard-sound None formed counted ranged same = tt
  guard-sound (Some e) formed counted ranged same = of-width e 1 (value-good e 1 formed counted ranged same)

  guard-nodes : (o : Option SslExpr) → is_guard o ≡ true → is_counted_guard s o ≡ true → is_guard_in_range s o ≡ true → guard_differs s o ≡ None
      → tguard_nodes E.counts kinds (option_map (expr_value s) o) ≡ guard_nodes s o
  guard-nodes None formed counted ranged same = refl
  guard-nodes (Some e) formed counted ranged same = (value-good e 1 formed counted ranged same).nodes

  -- ---- transfers

  pub record AreChecked (surplus : List (List ℕ)) (windows : Bool) (ts : List SslTransfer) : Type 0 where
    pub formed : list_all is_transfer ts ≡ true
    pub known : list_all (is_known_transfer surplus s windows) ts ≡ true
    pub counted : list_all (is_counted_transfer s) ts ≡ true
    pub ranged : list_all (is_transfer_in_range s) ts ≡ true
    pub places : list_all (λ t. act_assigns_place s t.act) ts ≡ true
    pub same : first_differing (transfer_differs s) ts ≡ None

  -- those that are left, sound and counted right
  record AreSoundOf (ts : List SslTransfer) : Type 0 where
    pub each : All (IsSoundTTransfer E.machine E.stands kinds) (map (transfer_of s) ts)
    pub nodes : sum_by (λ (t : TTransfer). 1 + tguard_nodes E.counts kinds t.guard + tact_nodes E.counts kinds t.act) (map (transfer_of s) ts) ≡ sum_by (transfer_nodes s) ts

  each-sound : (surplus : List (List ℕ)) (windows : Bool) → (windows ≡ true → is_some E.machine.windows ≡ true) → (ts : List SslTransfer) → AreChecked surplus windows ts → AreSoundOf ts
  each-sound surplus windows there [] c = record { each = All-nil (IsSoundTTransfer E.machine E.stands kinds); nodes = refl }
  each-sound surplus windows there (t ∷ ts) c =
      let f = and_parts (is_transfer t) (list_all is_transfer ts) c.formed in
      let fs = and_parts (is_guard t.guard) (is_act_value t.act) f.0 in
      let k = and_parts (is_known_transfer surplus s windows t) (list_all (is_known_transfer surplus s windows) ts) c.known in
      let ks = and_parts (is_known_guard surplus s t.guard) (is_known_act surplus s windows t.act) k.0 in
      let n = and_parts (is_counted_transfer s t) (list_all (is_counted_transfer s) ts) c.counted in
      let ns = and_parts (is_counted_guard s t.guard) (is_counted_act s t.act) n.0 in
      let r = and_parts (is_transfer_in_range s t) (list_all (is_transfer_in_range s) ts) c.ranged in
      let rs = and_parts (is_guard_in_range s t.guard) (is_act_in_range s t.act) r.0 in
      let p = and_parts (act_assigns_place s t.act) (list_all (λ t. act_assigns_place s t.act) ts) c.places in
      let d = none_parts (transfer_differs s t) (first_differing (transfer_differs s) ts) c.same in
      let ds = none_parts (guard_differs s t.guard) (act_differs s t.act) d.0 in
      let a = act-good surplus windows there t.act fs.1 ks.1 ns.1 rs.1 p.0 ds.1 in
      let gs = guard-sound t.guard fs.0 ns.0 rs.0 ds.0 in
      let gn = guard-nodes t.guard fs.0 ns.0 rs.0 ds.0 in
      let rest = each-sound surplus windows there ts (record { formed = f.1; known = k.1; counted = n.1; ranged = r.1; places = p.1; same = d.1 }) in
      let count : TTransfer → ℕ = λ t. 1 + tguard_nodes E.counts kinds t.guard + tact_nodes E.counts kinds t.act in
      record {
        each = All-cons (IsSoundTTransfer E.machine E.stands kinds) (transfer_of s t) (map (transfer_of s) ts) (record { guard = gs; act = a.sound }) rest.each;
        nodes = sum_by-cons count (transfer_of s t) (map (transfer_of s) ts)
            ∙ ap (λ x. 1 + x + tact_nodes E.counts kinds (act_of s t.act) + sum_by count (map (transfer_of s) ts)) gn
            ∙ ap (λ x. 1 + guard_nodes s t.guard + x + sum_by count (map (transfer_of s) ts)) a.nodes
            ∙ ap (λ x. transfer_nodes s t + x) rest.nodes
            ∙ sym (sum_by-cons (transfer_nodes s) t ts);
      }

  pub transfers-sound : (surplus : List (List ℕ)) (windows : Bool) → (windows ≡ true → is_some E.machine.windows ≡ true) → (ts : List SslTransfer) → AreChecked surplus windows ts → are_single ts ≡ true
      → AreSoundTTransfers E.machine E.stands kinds (map (transfer_of s) ts)
  transfers-sound surplus windows there ts c single =
      let j : Bool = nat_le (acts_of once.Jump ts) 1 in
      let a : Bool = nat_le (acts_of once.Annul ts) 1 in
      let v : Bool = nat_le (acts_of once.Service ts) 1 in
      let m : Bool = nat_le (acts_of once.Move ts) 1 in
      let all = and_parts (j && (a && (v && m))) (is_service_last ts) single in
      let p = and_parts j (a && (v && m)) all.0 in
      let q = and_parts a (v && m) p.1 in
      let r = and_parts v m q.1 in
      record {
        each = (each-sound surplus windows there ts c).each;
        one_jump = subst (λ n. n ≤ 1) (sym (counted-as s is_tjump once.Jump (same-jump s) ts)) (leb-true (acts_of once.Jump ts) 1 p.0);
        one_annul = subst (λ n. n ≤ 1) (sym (counted-as s is_tannul once.Annul (same-annul s) ts)) (leb-true (acts_of once.Annul ts) 1 q.0);
        one_service = subst (λ n. n ≤ 1) (sym (counted-as s is_tservice once.Service (same-service s) ts)) (leb-true (acts_of once.Service ts) 1 r.0);
        one_move = subst (λ n. n ≤ 1) (sym (counted-as s moves_twindow once.Move (same-move s) ts)) (leb-true (acts_of once.Move ts) 1 r.1);
        service_last = service-last s ts (eqb-true (acts_of once.Service (take (length ts - 1) ts)) 0 all.1);
      }

  pub transfers-nodes : (surplus : List (List ℕ)) (windows : Bool) → (windows ≡ true → is_some E.machine.windows ≡ true) → (ts : List SslTransfer) → AreChecked surplus windows ts
      → template_nodes E.counts kinds (transfers_template s ts) ≡ transfers_nodes s ts
  transfers-nodes surplus windows there ts c = (each-sound surplus windows there ts c).nodes
