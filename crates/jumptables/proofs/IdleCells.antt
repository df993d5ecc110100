-- With a cell that a chain does not mention no number makes a difference: it is never bounded, and open as any other such cell is.
use Rattle.std.proofs.Common.{◌≡◌, ℕ, zero, suc, ◌<◌, ◌^◌, ◌||◌, Bool, true, false, true≢false, List, length, get_or, Option, None, Some, refl, sym, ◌∙◌, ap, subst}
use Rattle.std.specs.Prelude.{if◌then◌else◌, nat_lt, slice_index}
use Rattle.std.proofs.lemmas.Bool.{ltb-true}
use Rattle.std.proofs.lemmas.Nat.{pow_pos}
use Rattle.rtl_core.specs.declared.inst.GroundInst.{GroundInst}
use Rattle.points.specs.Machine.{Setting}
use Rattle.points.specs.PartialRuns.{PartialEnd, partial_end, ended_at, all_partly_done, knowing_only, nowhere}
use Rattle.points.specs.Tables.{IsBounded, GivesCode, most_before}
use Rattle.jumptables.specs.declared.links.Link.{Link}
use Rattle.jumptables.specs.declared.search.Kind.{Kind}
use Rattle.jumptables.specs.declared.search.Kind.TheVariants.{Bounded, Open}
use Rattle.jumptables.specs.Links.{IsSoundLink, FindsLink, AreLinks, link_at, walked, walked_on, mention, mention_on}
use Rattle.jumptables.specs.Mentions.{AreApart, IsApartChain}
use Rattle.jumptables.specs.Search.{Sought, IsSearchable, IsTried, Suits, SuitsIdly, runs, idle_of}
use Rattle.jumptables.proofs.Idle.{same-end}
use Rattle.jumptables.proofs.Unmentioned.{flags-apart}

-- neither of two
pub neither : (a b : Bool) → (a || b) ≡ false → (a ≡ false) × (b ≡ false)
neither true b e = absurd (true≢false e)
neither false b e = (refl, e)

link-apart : (s : Setting) (c : ℕ) → c < length s.machine.widths → (link : Link) → IsSoundLink s link → get_or link.mentioned c false ≡ false → AreApart c link.inst.transfers
link-apart s c lt link sound e =
    let n = length s.machine.widths in flags-apart n c lt link.inst.transfers (sym (ap (λ (flags : List Bool). get_or flags c false) sound.mentioned) ∙ e)

module _ (s : Setting) (at : ℕ) (links : List (Option Link)) (all : AreLinks s at links) (c : ℕ) (lt : c < length s.machine.widths) where
  apart-on : (pc : ℕ) (rest : ℕ → List GroundInst) (mentions : ℕ → Bool) → ((q : ℕ) → mentions q ≡ false → IsApartChain c (rest q)) → (o : Option Link) → link_at links at pc ≡ o → mention_on mentions c o ≡ false → IsApartChain c (walked_on rest o)
  apart-on pc rest mentions h None e f = tt
  apart-on pc rest mentions h (Some link) e f =
      let where_ = all.near pc link e in
      let stands = subst (FindsLink s at pc) e (all.each pc where_.0 where_.1) in
      let both = neither (get_or link.mentioned c false) (mentions link.inst.next) f in
      (link-apart s c lt link stands.sound both.0, h link.inst.next both.1)

  way-apart : (most pc : ℕ) → mention links at c most pc ≡ false → IsApartChain c (walked links at most pc)
  way-apart zero pc f = tt
  way-apart (suc most) pc f = apart-on pc (walked links at most) (mention links at c most) (way-apart most) (link_at links at pc) refl f

-- a number that does not fit its cell leads nowhere
pub past-cell : (s : Setting) (before : List GroundInst) (jump : GroundInst) (c x : ℕ) → nat_lt x (2 ^ slice_index s.machine.widths c) ≡ false → partial_end s before jump c x ≡ nowhere
unfolding partial_end
past-cell s before jump c x e = ap (λ (b : Bool). if b then ended_at s jump (all_partly_done s before (knowing_only s c x)) else nowhere) e

module _ (g : Sought) (search : IsSearchable g) (start c : ℕ) (tried : IsTried g c) (off : (get_or g.jump.mentioned c false || mention g.links g.at c most_before start) ≡ false) where
  abbrev f : ℕ → PartialEnd
  f = runs g start c

  idle-end : (x : ℕ) → x < 2 ^ slice_index g.setting.machine.widths c → f x ≡ idle_of g start
  idle-end x lt =
      let both = neither (get_or g.jump.mentioned c false) (mention g.links g.at c most_before start) off in
      same-end c g.setting (walked g.links g.at most_before start) g.jump.inst x
      (way-apart g.setting g.at g.links search.links c tried.there most_before start both.1) (link-apart g.setting c tried.there g.jump search.jump both.0) lt

  first-end : f 0 ≡ idle_of g start
  first-end = idle-end 0 (pow_pos (slice_index g.setting.machine.widths c))

  never-bounded : IsBounded f → ⊥
  never-bounded b = by (nat_lt b.bound (2 ^ slice_index g.setting.machine.widths c)) refl
    where
      by : (q : Bool) → nat_lt b.bound (2 ^ slice_index g.setting.machine.widths c) ≡ q → ⊥
      by true e = true≢false (sym b.is.least.has.leaves ∙ ap (λ (r : PartialEnd). r.leaves) (idle-end b.bound (ltb-true b.bound (2 ^ slice_index g.setting.machine.widths c) e) ∙ sym first-end) ∙ b.is.start.stays)
      by false e = true≢false (sym b.is.least.has.leaves ∙ ap (λ (r : PartialEnd). r.leaves) (past-cell g.setting (walked g.links g.at most_before start) g.jump.inst c b.bound e))

  pub suits-idly : (kind : Kind) → SuitsIdly g.setting.frozen kind (idle_of g start) → Suits g.setting.frozen kind f
  suits-idly Bounded h = absurd h
  suits-idly Open h = record { stays = ap (λ (r : PartialEnd). r.leaves) first-end ∙ h.stays; gives = subst (GivesCode g.setting.frozen) (sym first-end) h.gives }

  pub idly-suits : (kind : Kind) → Suits g.setting.frozen kind f → SuitsIdly g.setting.frozen kind (idle_of g start)
  idly-suits Bounded b = never-bounded b
  idly-suits Open h = record { stays = sym (ap (λ (r : PartialEnd). r.leaves) first-end) ∙ h.stays; gives = subst (GivesCode g.setting.frozen) first-end h.gives }
