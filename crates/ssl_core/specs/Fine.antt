-- Lines without a fault.
use Rattle.std.specs.Prelude.{◌≡◌, ℕ, ◌<◌, true, nat_le, is_some, length, List, None}
use Rattle.std.specs.List.{list_all}
use Rattle.ssl_syntax.specs.declared.line.Param.{Param}
use Rattle.ssl_syntax.specs.declared.line.SslExpr.{SslExpr}
use Rattle.ssl_syntax.specs.declared.line.SslTransfer.{SslTransfer}
use Rattle.ssl_rules.specs.declared.tables.Own.{Own}
use Rattle.ssl_rules.specs.declared.tables.Tables.{Tables}
use Rattle.ssl_rules.specs.Counted.{is_counted_expr, is_counted_transfer}
use Rattle.ssl_rules.specs.Widths.{is_width, measured, is_transfer_in_range}
use Rattle.ssl_rules.specs.Formulas.{expanded, nodes}
use Rattle.ssl_rules.specs.Templates.{transfers_nodes}
use Rattle.ssl_rules.specs.Places.{act_assigns_place}
use Rattle.ssl_core.specs.declared.given.Given.{Given as State}
use Rattle.ssl_core.specs.Shown.{made_for, made_list}
use Rattle.ssl_core.specs.Fresh.{is_fresh}
use Rattle.ssl_core.specs.Limits.{has_place_in}
use Rattle.ssl_core.specs.MoreTemplates.{scope_with}
use Rattle.rtl_core.specs.declared.encodings.Encodings.{Encodings}

-- what the checks of a function say
pub record IsFineFunction (t : Tables) (own : List (List ℕ × Own)) (name : List ℕ) (ps : List Param) (e : SslExpr) : Type 0 where
  pub fresh : is_fresh t.names name ≡ true
  pub place : has_place_in t ≡ true
  pub counted : is_counted_expr (scope_with t own) e ≡ true
  pub ranged : is_some (measured (scope_with t own) e).width ≡ true
  pub widths : list_all (λ p. is_width p.width) ps ≡ true

-- what the checks of a typed constructor say
pub record IsFineOperand (enc : Encodings) (g : State) (c : ℕ) (own : List (List ℕ × Own)) (e : SslExpr) : Type 0 where
  pub there : c < length enc.constructors
  pub first : made_for (made_list g.templates) c ≡ None
  pub counted : is_counted_expr (scope_with g.tables own) e ≡ true
  pub ranged : is_some (measured (scope_with g.tables own) e).width ≡ true
  pub small : nat_le (nodes (expanded (scope_with g.tables own) e)) 256 ≡ true

-- what the checks of an instruction say
pub record IsFineInstruction (enc : Encodings) (g : State) (c : ℕ) (own : List (List ℕ × Own)) (ts : List SslTransfer) : Type 0 where
  pub there : c < length enc.constructors
  pub first : made_for (made_list g.templates) c ≡ None
  pub counted : list_all (is_counted_transfer (scope_with g.tables own)) ts ≡ true
  pub ranged : list_all (is_transfer_in_range (scope_with g.tables own)) ts ≡ true
  pub places : list_all (λ t. act_assigns_place (scope_with g.tables own) t.act) ts ≡ true
  pub small : nat_le (transfers_nodes (scope_with g.tables own) ts) 256 ≡ true
