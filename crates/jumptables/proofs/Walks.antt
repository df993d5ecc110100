-- The way from a start: where it leads to the jump it is the chain from there, and it is the only one.
use Rattle.std.proofs.Common.{◌≡◌, ℕ, zero, suc, ◌+◌, ◌-◌, ◌≤◌, ◌==◌, Bool, true, false, List, [], ◌∷◌, length, Option, None, Some, option_map, refl, sym, ◌∙◌, ap, subst, arith}
use Rattle.std.specs.Prelude.{if◌then◌else◌, slice_index_or}
use Rattle.std.proofs.lemmas.Bool.{ne_eqb, le-ltb, eq-eqb, eqb-true}
use Rattle.rtl_core.specs.declared.inst.GroundInst.{GroundInst}
use Rattle.points.specs.declared.block.Standing.TheVariants.{Stands}
use Rattle.points.specs.Machine.{Setting, standing}
use Rattle.points.specs.Tables.{IsLink, LeadsUp, here, more, most_back}
use Rattle.jumptables.specs.declared.links.Link.{Link}
use Rattle.jumptables.specs.Links.{FindsLink, AreLinks, link_at, walked, walked_on, counted, counted_on}

pub starts-within : (s : Setting) (at pc : ℕ) (is : List GroundInst) → LeadsUp s at pc is → pc ≤ at
starts-within s at pc is here = omega arith
starts-within s at pc is (more h c) = omega (arith, h.before)

-- from each start there is one chain at most
pub one-chain : (s : Setting) (at pc pd : ℕ) (is js : List GroundInst) → pc ≡ pd → LeadsUp s at pc is → LeadsUp s at pd js → is ≡ js
one-chain s at pc pd is js g here here = refl
one-chain s at pc pd is js g here (more h d) = absurd (omega (arith, h.before))
one-chain s at pc pd is js g (more h c) here = absurd (omega (arith, h.before))
one-chain s at pc pd is js g (more {i = i} {is = r} h c) (more {i = j} {is = q} k d) =
    let e : Stands i ≡ Stands j = sym h.stands ∙ ap (standing s) g ∙ k.stands in
    let f : i ≡ j = cc in
    let t = one-chain s at i.next j.next r q (ap (λ (x : GroundInst). x.next) f) c d in
    λ k. f k ∷ t k

abbrev next-number : ℕ → ℕ
next-number n = suc n

module _ (s : Setting) (at : ℕ) (links : List (Option Link)) (all : AreLinks s at links) where
  none-at : (pc : ℕ) → pc ≡ at → link_at links at pc ≡ None
  none-at pc e = ap (λ (b : Bool). if b then slice_index_or links (at - pc) None else None) (le-ltb pc at (omega arith))

  -- what is kept for an address is what of a chain stands there
  kept : (pc : ℕ) (i : GroundInst) → IsLink s at pc i → (o : Option Link) → FindsLink s at pc o → (link : Link) × (o ≡ Some link) × (link.inst ≡ i)
  kept pc i h None f = absurd (f i h)
  kept pc i h (Some link) f =
      let e : Stands link.inst ≡ Stands i = sym f.is.stands ∙ h.stands in
      let same : link.inst ≡ i = cc in
      (link, refl, same)

  -- a chain that is near enough and short enough is the way from its start
  pub chain-is-way : (most pc : ℕ) (is : List GroundInst) → LeadsUp s at pc is → at ≤ pc + most_back → length is ≤ most → (counted links at most pc ≡ Some (length is)) × (walked links at most pc ≡ is)
  chain-is-way zero pc is here near short = (ap (λ (b : Bool). if b then Some 0 else None) (eq-eqb at at refl), refl)
  chain-is-way zero pc is (more h c) near short = absurd (omega (arith, short))
  chain-is-way (suc most) pc is here near short =
      (ap (λ (b : Bool). if b then Some 0 else counted_on (counted links at most) (link_at links at at)) (eq-eqb at at refl), ap (walked_on (walked links at most)) (none-at at refl))
  chain-is-way (suc most) pc is (more {i = i} {is = r} h c) near short =
      let lt = h.before in
      let up = h.ends in
      let k = kept pc i h (link_at links at pc) (all.each pc lt near) in
      let rest = chain-is-way most i.next r c (omega (arith, up, near)) (omega (arith, short)) in (
        ap (λ (b : Bool). if b then Some 0 else counted_on (counted links at most) (link_at links at pc)) (ne_eqb pc at (λ e. omega (arith, e, lt)))
            ∙ ap (counted_on (counted links at most)) k.1 ∙ ap (λ (x : GroundInst). option_map next-number (counted links at most x.next)) k.2 ∙ ap (option_map next-number) rest.0,
        ap (walked_on (walked links at most)) k.1 ∙ ap (λ (x : GroundInst). x ∷ walked links at most x.next) k.2 ∙ ap (λ l. i ∷ l) rest.1,
      )

  -- the way leads to the jump
  pub record Leads (pc n : ℕ) (is : List GroundInst) : Type 0 where
    pub chain : LeadsUp s at pc is
    pub long : length is ≡ n

  arrived : (pc n : ℕ) → pc ≡ at → Some 0 ≡ Some n → Leads pc n []
  arrived pc n e f = let z : 0 ≡ n = cc in record { chain = subst (λ p. LeadsUp s at p []) (sym e) here; long = z }

  leads-on : (pc n : ℕ) (rest : ℕ → List GroundInst) (count : ℕ → Option ℕ) → ((q m : ℕ) → count q ≡ Some m → Leads q m (rest q)) → (o : Option Link) → link_at links at pc ≡ o → counted_on count o ≡ Some n → Leads pc n (walked_on rest o)
  leads-on pc n rest count h None e f = absurd (cc)
  leads-on pc n rest count h (Some link) e f = by (count link.inst.next) refl
    where
      by : (r : Option ℕ) → count link.inst.next ≡ r → Leads pc n (link.inst ∷ rest link.inst.next)
      by None g = let x : None ≡ Some n = sym (ap (option_map next-number) g) ∙ f in absurd (cc)
      by (Some m) g =
          let l = h link.inst.next m g in
          let x : Some (suc m) ≡ Some n = sym (ap (option_map next-number) g) ∙ f in
          let y : suc m ≡ n = cc in
          let where_ = all.near pc link e in
          let stands = subst (FindsLink s at pc) e (all.each pc where_.0 where_.1) in
          record { chain = more stands.is l.chain; long = ap next-number l.long ∙ y }

  pub way-leads : (most pc n : ℕ) → counted links at most pc ≡ Some n → Leads pc n (walked links at most pc)
  way-leads zero pc n f = by (pc == at) refl f
    where
      by : (b : Bool) → (pc == at) ≡ b → (if b then Some 0 else None) ≡ Some n → Leads pc n []
      by true e g = arrived pc n (eqb-true pc at e) g
      by false e g = absurd (cc)
  way-leads (suc most) pc n f = by (way-leads most) (pc == at) refl f
    where
      by : ((q m : ℕ) → counted links at most q ≡ Some m → Leads q m (walked links at most q)) → (b : Bool) → (pc == at) ≡ b → (if b then Some 0 else counted_on (counted links at most) (link_at links at pc)) ≡ Some n → Leads pc n (walked_on (walked links at most) (link_at links at pc))
      by rest true e g = let same = eqb-true pc at e in subst (λ o. Leads pc n (walked_on (walked links at most) o)) (sym (none-at pc same)) (arrived pc n same g)
      by rest false e g = leads-on pc n (walked links at most) (counted links at most) rest (link_at links at pc) refl g
