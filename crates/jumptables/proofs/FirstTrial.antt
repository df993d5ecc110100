-- What the search finds is the table: its first start and cell are the first of all trials.
use Rattle.std.proofs.Common.{◌≡◌, ℕ, List, length, Option, None, Some, sym, ◌∙◌, subst, arith}
use Rattle.points.specs.PartialRuns.{PartialEnd, partial_end}
use Rattle.points.specs.Tables.{Trial, IsLeaving, StaysWithin, IsTrial, IsBefore, shorter, nearer, lower, IsFirst, IsTableOf, bounded, open_ended, none, end_for, most_before}
use Rattle.jumptables.specs.declared.search.Kind.{Kind}
use Rattle.jumptables.specs.declared.search.Kind.TheVariants.{Bounded, Open}
use Rattle.jumptables.specs.declared.search.Choice.{Choice}
use Rattle.jumptables.specs.Links.{counted}
use Rattle.jumptables.specs.Search.{Sought, IsSearchable, trial_at, FindsLeast, FindsBound, Suits, Works, IsGood, IsNear, IsFirstIn, FindsFirst, IsTableFound, by_bound, by_code, by_none}
use Rattle.jumptables.proofs.Walks.{starts-within, chain-is-way, way-leads}

pub bound-of : (f : ℕ → PartialEnd) → StaysWithin (f 0) → (o : Option ℕ) → FindsLeast (IsLeaving f) o → FindsBound f o
bound-of f start None h = λ b. h b.bound b.is.least.has
bound-of f start (Some n) h = record { start = start; least = h }

pub good-least : (g : Sought) (kind : Kind) (n start : ℕ) → counted g.links g.at most_before start ≡ Some n → (o : Option ℕ) → FindsLeast (Works g kind start) o → FindsLeast (IsGood g kind n start) o
good-least g kind n start e None h = λ x p. h x p.works
good-least g kind n start e (Some c) h = record { has = record { count = e; works = h.has }; least = λ x lt p. h.least x lt p.works }

module _ (g : Sought) (search : IsSearchable g) where
  abbrev IsTrialHere : Trial → Type 0
  IsTrialHere = IsTrial g.setting g.at

  module _ (kind : Kind) where
    abbrev SuitsFor : Trial → Type 0
    SuitsFor u = Suits g.setting.frozen kind (end_for g.setting g.jump.inst u)

    near : (u : Trial) → IsTrialHere u → IsNear g u.start
    near u h = record { within = starts-within g.setting g.at u.start u.before h.chain; near = h.near }

    good : (u : Trial) → IsTrialHere u → SuitsFor u → IsGood g kind (length u.before) u.start u.cell
    good u h p =
        let way = chain-is-way g.setting g.at g.links search.links most_before u.start u.before h.chain h.near h.short in
        record {
          count = way.0;
          works = record {
            cell = record { there = h.cell; not_zero = h.not_zero };
            suits = subst (λ is. Suits g.setting.frozen kind (partial_end g.setting is g.jump.inst u.cell)) (sym way.1) p;
          };
        }

    never : FindsFirst g kind None → (u : Trial) → IsTrialHere u → SuitsFor u → ⊥
    never f u h p = f (length u.before) h.short u.start u.cell (near u h) (good u h p)

    module _ (ch : Choice) (f : IsFirstIn g kind ch) where
      abbrev found : Trial
      found = trial_at g ch.start ch.cell

      good-of : (u : Trial) → IsTrialHere u → SuitsFor u → length u.before ≡ length found.before → IsGood g kind f.count u.start u.cell
      good-of u h p e =
          let way = way-leads g.setting g.at g.links search.links most_before ch.start f.count f.first.good.count in
          subst (λ n. IsGood g kind n u.start u.cell) (e ∙ way.long) (good u h p)

      is-first : (u : Trial) → IsTrialHere u → SuitsFor u → IsBefore u found → ⊥
      is-first u h p (shorter lt) =
          let way = way-leads g.setting g.at g.links search.links most_before ch.start f.count f.first.good.count in
          let long = way.long in
          f.shorter (length u.before) (omega (arith, lt, long)) u.start u.cell (near u h) (good u h p)
      is-first u h p (nearer e lt) = f.first.nearer u.start u.cell lt (near u h) (good-of u h p e)
      is-first u h p (lower e st lt) = f.first.lower u.cell lt (subst (λ q. IsGood g kind f.count q u.cell) st (good-of u h p e))

      first-is : IsFirst g.setting g.at SuitsFor found
      first-is =
          let way = way-leads g.setting g.at g.links search.links most_before ch.start f.count f.first.good.count in
          let long = way.long in
          let few = f.few in
          record {
            trial = record {
              near = f.first.near.near;
              chain = way.chain;
              short = omega (arith, long, few);
              cell = f.first.good.works.cell.there;
              not_zero = f.first.good.works.cell.not_zero;
            };
            has = f.first.good.works.suits;
            first = is-first;
          }

  pub found-is-table : (xs : List ℕ) → IsTableFound g xs → IsTableOf g.setting g.at g.jump.inst xs
  found-is-table xs (by_bound b) = bounded {t = found Bounded b.choice b.first} {n = b.table.end} (first-is Bounded b.choice b.first) b.table.ends b.table.are
  found-is-table xs (by_code f b) = open_ended {t = found Open b.choice b.first} {n = b.table.end} (never Bounded f) (first-is Open b.choice b.first) b.table.ends b.table.are
  found-is-table xs (by_none f h e) = none (never Bounded f) (never Open h) e
