-- One argument of a call more.
use Rattle.std.proofs.Common.{◌≡◌, ℕ, ◌+◌, ◌<◌, ◌≤◌, ◌&&◌, Bool, true, false, List, [], ◌∷◌, map, length, get_or, drop, Option, Some, None, refl, sym, ap, ◌∙◌}
use Rattle.std.proofs.lemmas.List.{drop_more, drop_all}
use Rattle.std.specs.Prelude.{is_some}
use Rattle.std.specs.Option.{option_or}
use Rattle.std.specs.List.{list_all}
use Rattle.ssl_syntax.specs.declared.line.SslExpr.{SslExpr}
use Rattle.ssl_rules.specs.declared.widths.Mismatch.{Mismatch}
use Rattle.ssl_rules.specs.declared.widths.Measure.{Measure}
use Rattle.ssl_rules.specs.Widths.{asked, asked_of, args_differ}
use Rattle.ssl_checks.specs.Arguments.{argument_differs}

pub or_assoc : (a b c : Option Mismatch) → option_or (option_or a b) c ≡ option_or a (option_or b c)
or_assoc None b c = refl
or_assoc (Some x) b c = refl

pub or_none : (a : Option Mismatch) → option_or a None ≡ a
or_none None = refl
or_none (Some x) = refl

and_assoc : (a b c : Bool) → ((a && b) && c) ≡ (a && (b && c))
and_assoc true b c = refl
and_assoc false b c = refl

-- the first argument, and those behind it
args-step : (ps : List ℕ) (m : Measure) (ms : List Measure) → option_or (argument_differs ps m) (args_differ (drop 1 ps) ms) ≡ args_differ ps (m ∷ ms)
args-step [] m ms = refl
args-step (p ∷ ps) m ms = or_assoc m.differs (asked p m.width) (args_differ ps ms)

-- where k arguments are read: what is left, against what the whole comes to
pub record AreRead (measure : SslExpr → Measure) (whole : List ℕ) (args : List SslExpr) (k : ℕ) (params : List ℕ) (ranged : Bool) (differs : Option Mismatch) : Type 0 where
  pub width : (ranged && list_all (λ e. is_some (measure e).width) (drop k args)) ≡ list_all (λ e. is_some (measure e).width) args
  pub first : option_or differs (args_differ params (map measure (drop k args))) ≡ args_differ whole (map measure args)

pub AreRead-more : (measure : SslExpr → Measure) (whole : List ℕ) (args : List SslExpr) (k : ℕ) (params : List ℕ) (ranged : Bool) (differs : Option Mismatch) (e : SslExpr)
    → k < length args → e ≡ get_or args k e → AreRead measure whole args k params ranged differs
    → AreRead measure whole args (k + 1) (drop 1 params) (ranged && is_some (measure e).width) (option_or differs (argument_differs params (measure e)))
AreRead-more measure whole args k params ranged differs e h is r =
    let d : drop k args ≡ e ∷ drop (k + 1) args = drop_more args k e h ∙ ap (λ x. x ∷ drop (k + 1) args) (sym is) in
    let rest : List SslExpr = drop (k + 1) args in
    record {
      width = and_assoc ranged (is_some (measure e).width) (list_all (λ x. is_some (measure x).width) rest)
          ∙ ap (λ l. ranged && list_all (λ x. is_some (measure x).width) l) (sym d) ∙ r.width;
      first = or_assoc differs (argument_differs params (measure e)) (args_differ (drop 1 params) (map measure rest))
          ∙ ap (λ o. option_or differs o) (args-step params (measure e) (map measure rest))
          ∙ ap (λ l. option_or differs (args_differ params (map measure l))) (sym d) ∙ r.first;
    }

args-none : (ps : List ℕ) → args_differ ps [] ≡ None
args-none [] = refl
args-none (p ∷ ps) = refl

-- where all arguments are read
pub AreRead-all : (measure : SslExpr → Measure) (whole : List ℕ) (args : List SslExpr) (k : ℕ) (params : List ℕ) (ranged : Bool) (differs : Option Mismatch)
    → length args ≤ k → AreRead measure whole args k params ranged differs → differs ≡ args_differ whole (map measure args)
AreRead-all measure whole args k params ranged differs h r =
    let e : drop k args ≡ [] = drop_all k args h in
    sym (ap (λ l. option_or differs (args_differ params (map measure l))) e ∙ ap (λ o. option_or differs o) (args-none params) ∙ or_none differs) ∙ r.first
