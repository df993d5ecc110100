-- One step of the way from a start: how the ways of code and of definitions go on.
use Rattle.std.proofs.Common.{◌≡◌, ◌≢◌, ℕ, zero, suc, ◌+◌, ◌-◌, ◌<◌, ◌≤◌, ◌||◌, Bool, true, false, List, [], length, get_or, inl, inr, Option, None, Some, option_map, refl, ◌∙◌, ap, arith}
use Rattle.std.specs.Prelude.{if◌then◌else◌, ◌⊎◌, nat_lt, slice_index_or}
use Rattle.std.proofs.lemmas.Bool.{ne_eqb, eq-eqb, ltb-true, cases_lt}
use Rattle.std.proofs.lemmas.List.{get_or_past}
use Rattle.jumptables.specs.declared.links.Link.{Link}
use Rattle.jumptables.specs.Influence.{decides, spreads, decides_on, way_decides}
use Rattle.jumptables.specs.Links.{link_at, walked, walked_on, counted, counted_on, mention, mention_on}

module _ (links : List (Option Link)) (at : ℕ) where
  pub walked-none : (most pc : ℕ) → link_at links at pc ≡ None → walked links at most pc ≡ []
  walked-none zero pc e = refl
  walked-none (suc most) pc e = ap (walked_on (walked links at most)) e

  pub counted-here : (most pc : ℕ) → pc ≡ at → counted links at most pc ≡ Some 0
  counted-here zero pc e = ap (λ (b : Bool). if b then Some 0 else None) (eq-eqb pc at e)
  counted-here (suc most) pc e = ap (λ (b : Bool). if b then Some 0 else counted_on (counted links at most) (link_at links at pc)) (eq-eqb pc at e)

  pub counted-end : (pc : ℕ) → pc ≢ at → counted links at zero pc ≡ None
  counted-end pc ne = ap (λ (b : Bool). if b then Some 0 else None) (ne_eqb pc at ne)

  pub counted-next : (most pc : ℕ) (o : Option Link) → pc ≢ at → link_at links at pc ≡ o → counted links at (suc most) pc ≡ counted_on (counted links at most) o
  counted-next most pc o ne e = ap (λ (b : Bool). if b then Some 0 else counted_on (counted links at most) (link_at links at pc)) (ne_eqb pc at ne) ∙ ap (counted_on (counted links at most)) e

  pub counted-none : (most pc : ℕ) → pc ≢ at → link_at links at pc ≡ None → counted links at most pc ≡ None
  counted-none zero pc ne e = counted-end pc ne
  counted-none (suc most) pc ne e = counted-next most pc None ne e

  pub mention-none : (c most pc : ℕ) → link_at links at pc ≡ None → mention links at c most pc ≡ false
  mention-none c zero pc e = refl
  mention-none c (suc most) pc e = ap (mention_on (mention links at c most) c) e

  pub mention-next : (c most pc : ℕ) (link : Link) (b : Bool) → link_at links at pc ≡ Some link → get_or link.mentioned c false ≡ b → mention links at c (suc most) pc ≡ (b || mention links at c most link.inst.next)
  mention-next c most pc link b e f = ap (mention_on (mention links at c most) c) e ∙ ap (λ (q : Bool). q || mention links at c most link.inst.next) f

  pub decides-next : (most pc : ℕ) (link : Link) (flags : List Bool) → link_at links at pc ≡ Some link → decides link.inst.transfers flags ≡ false → way_decides links at (suc most) pc flags ≡ way_decides links at most link.inst.next (spreads link.inst.transfers flags)
  decides-next most pc link flags e f =
      ap (decides_on (way_decides links at most) flags) e ∙ ap (λ (b : Bool). b || way_decides links at most link.inst.next (spreads link.inst.transfers flags)) f

  -- what is kept stands before the jump, at a place of the list
  pub kept-before : (pc : ℕ) (link : Link) → link_at links at pc ≡ Some link → (pc < at) × (at - pc < length links)
  kept-before pc link f = by (nat_lt pc at) refl f
    where
      there : (b : ℕ) → slice_index_or links b None ≡ Some link → (b < length links) ⊎ (length links ≤ b) → b < length links
      there b e (inl lt) = lt
      there b e (inr le) = let z = get_or_past links b None le in absurd (cc)

      by : (b : Bool) → nat_lt pc at ≡ b → (if b then slice_index_or links (at - pc) None else None) ≡ Some link → (pc < at) × (at - pc < length links)
      by true e g = (ltb-true pc at e, there (at - pc) g (cases_lt (at - pc) (length links)))
      by false e g = absurd (cc)

-- a count of what is left, and of what was passed
pub counts-on : (k : ℕ) (o : Option ℕ) → option_map (λ n. k + 1 + n) o ≡ option_map (λ n. k + n) (option_map (λ n. suc n) o)
counts-on k None = refl
counts-on k (Some n) = let e : k + 1 + n ≡ k + suc n = omega arith in ap Some e
