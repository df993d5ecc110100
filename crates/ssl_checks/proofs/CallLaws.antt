-- What the checks say of a call, by its arguments.
use Rattle.std.proofs.Common.{◌≡◌, ℕ, ◌&&◌, Bool, List, length, map, Option, Some, sym, ap, ◌∙◌}
use Rattle.std.specs.Prelude.{is_some, option_and_then}
use Rattle.std.specs.List.{list_all}
use Rattle.std.proofs.lemmas.List.{length-map}
use Rattle.std.proofs.lemmas.List.Folds.{list_all-map}
use Rattle.ssl_syntax.specs.declared.line.SslExpr.{SslExpr}
use Rattle.ssl_syntax.specs.declared.line.SslExpr.TheVariants as E
use Rattle.ssl_syntax.proofs.FoldLaws.{fold-Call}
use Rattle.ssl_rules.specs.declared.tables.Function.{Function}
use Rattle.ssl_rules.specs.declared.widths.Mismatch.{Mismatch}
use Rattle.ssl_rules.specs.declared.widths.Measure.{Measure}
use Rattle.ssl_rules.specs.Names.{Scope, function_named}
use Rattle.ssl_rules.specs.Known.{is_known_expr, node_known}
use Rattle.ssl_rules.specs.Counted.{takes, is_counted_expr, node_counted}
use Rattle.ssl_rules.specs.Widths.{measured, node_measured, called_width, call_differs, args_differ}

pub known_call : (surplus : List (List ℕ)) (s : Scope) (x : List ℕ) (es : List SslExpr)
    → is_known_expr surplus s (E.Call x es) ≡ is_some (function_named s.tables x) && list_all (is_known_expr surplus s) es
known_call surplus s x es =
    fold-Call (node_known surplus s) x es ∙ ap (λ b. is_some (function_named s.tables x) && b) (list_all-map (λ a. a) (is_known_expr surplus s) es)

pub counted_call : (s : Scope) (x : List ℕ) (es : List SslExpr) → is_counted_expr s (E.Call x es) ≡ takes (function_named s.tables x) (length es) && list_all (is_counted_expr s) es
counted_call s x es =
    fold-Call (node_counted s) x es
    ∙ ap (λ n. takes (function_named s.tables x) n && list_all (λ a. a) (map (is_counted_expr s) es)) (length-map es (is_counted_expr s))
    ∙ ap (λ b. takes (function_named s.tables x) (length es) && b) (list_all-map (λ a. a) (is_counted_expr s) es)

pub measured_call : (s : Scope) (x : List ℕ) (es : List SslExpr)
    → measured s (E.Call x es) ≡ record { width = option_and_then (called_width (list_all (λ e. is_some (measured s e).width) es)) (function_named s.tables x); differs = call_differs (function_named s.tables x) (map (measured s) es) }
measured_call s x es =
    fold-Call (node_measured s) x es
    ∙ ap (λ b. record { width = option_and_then (called_width b) (function_named s.tables x); differs = call_differs (function_named s.tables x) (map (measured s) es) })
    (list_all-map is_some (λ m. m.width) (map (measured s) es) ∙ list_all-map (λ m. is_some m.width) (measured s) es)

-- a call of a function that is known, by its two parts
pub measured_known : (s : Scope) (x : List ℕ) (es : List SslExpr) (f : Function) (m : Measure) → function_named s.tables x ≡ Some f
    → m.width ≡ called_width (list_all (λ e. is_some (measured s e).width) es) f → m.differs ≡ args_differ f.params (map (measured s) es)
    → m ≡ measured s (E.Call x es)
measured_known s x es f m known width differs =
    let made : Option ℕ → Option Mismatch → Measure = λ w d. record { width = w; differs = d } in
    let ranged : Bool = list_all (λ e. is_some (measured s e).width) es in
    let whole : Option Function → Measure = λ o. record { width = option_and_then (called_width ranged) o; differs = call_differs o (map (measured s) es) } in
    ap (λ w. made w m.differs) width ∙ ap (λ d. made (called_width ranged f) d) differs ∙ ap whole (sym known) ∙ sym (measured_call s x es)
