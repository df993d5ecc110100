-- Own names count only by what each stands for.
use Rattle.std.proofs.Common.{◌≡◌, ℕ, ◌&&◌, ◌||◌, Bool, List, Option, Some, None, is_some, refl, ap, ◌∙◌, option_map}
use Rattle.std.specs.Prelude.{option_and_then}
use Rattle.std.proofs.Math.Path.{fun_ext}
use Rattle.std.specs.Option.{option_or}
use Rattle.std.specs.List.{list_all}
use Rattle.ssl_syntax.specs.declared.line.SslExpr.{SslExpr, fold-SslExpr}
use Rattle.ssl_syntax.specs.declared.line.SslExpr.TheOpen.{SslExpr-F}
use Rattle.ssl_syntax.specs.declared.line.SslPlace.{SslPlace}
use Rattle.ssl_syntax.specs.declared.line.SslPlace.TheVariants as place
use Rattle.ssl_syntax.specs.declared.line.SslAct.{SslAct}
use Rattle.ssl_syntax.specs.declared.line.SslAct.TheVariants as act
use Rattle.ssl_syntax.specs.declared.line.SslTransfer.{SslTransfer}
use Rattle.ssl_rules.specs.declared.tables.Own.{Own}
use Rattle.ssl_rules.specs.declared.tables.Lone.TheVariants as lone
use Rattle.ssl_rules.specs.declared.tables.Tables.{Tables}
use Rattle.ssl_rules.specs.Lookup.{named, is_among}
use Rattle.ssl_rules.specs.Names.{lone_named, field_named, field_of, cell_of_meaning}
use Rattle.ssl_rules.specs.Known.{node_known, is_known_file, is_known_expr, is_known_place, is_known_act, is_known_guard, is_known_transfer}
use Rattle.ssl_core.specs.OwnNames.{FindSame}
use Rattle.ssl_core.specs.MoreTemplates.{scope_with}

module _ (surplus : List (List ℕ)) (t : Tables) (a b : List (List ℕ × Own)) (same : FindSame a b) where
  lone_same : (name : List ℕ) → lone_named (scope_with t a) name ≡ lone_named (scope_with t b) name
  lone_same name = ap (λ o. option_or (option_map lone.Own o) (option_map lone.Cell (option_and_then cell_of_meaning (named t.names name)))) (same.found name)

  field_same : (name : List ℕ) → field_named (scope_with t a) name ≡ field_named (scope_with t b) name
  field_same name = ap (option_and_then field_of) (same.found name)

  node_same : (n : SslExpr-F Bool) → node_known surplus (scope_with t a) n ≡ node_known surplus (scope_with t b) n
  node_same (SslExpr-F.Number v w) = refl
  node_same (SslExpr-F.Named name) = ap (λ o. is_among name surplus || is_some o) (lone_same name)
  node_same (SslExpr-F.At name i) = refl
  node_same (SslExpr-F.AtOp name op) = ap (λ o. is_known_file surplus (scope_with t a) name && (is_among op surplus || is_some o)) (field_same op)
  node_same (SslExpr-F.Load n x) = refl
  node_same (SslExpr-F.Not x) = refl
  node_same (SslExpr-F.Neg x) = refl
  node_same (SslExpr-F.Bin op x y) = refl
  node_same (SslExpr-F.Bits x lo hi) = refl
  node_same (SslExpr-F.Zext w x) = refl
  node_same (SslExpr-F.Sext w x) = refl
  node_same (SslExpr-F.If c x y) = refl
  node_same (SslExpr-F.Call name xs) = refl
  node_same SslExpr-F.Pc = refl
  node_same SslExpr-F.Next = refl

  pub expr_same : (e : SslExpr) → is_known_expr surplus (scope_with t a) e ≡ is_known_expr surplus (scope_with t b) e
  expr_same e = ap (λ (f : SslExpr-F Bool → Bool). fold-SslExpr Bool f e) (fun_ext node_same)

  place_same : (p : SslPlace) → is_known_place surplus (scope_with t a) p ≡ is_known_place surplus (scope_with t b) p
  place_same (place.Named name) = ap (λ o. is_among name surplus || is_some o) (lone_same name)
  place_same (place.At name i) = refl
  place_same (place.AtOp name op) = ap (λ o. is_known_file surplus (scope_with t a) name && (is_among op surplus || is_some o)) (field_same op)
  place_same (place.Bits cell lo hi) = refl
  place_same (place.Load n e) = expr_same e

  act_same : (w : Bool) (x : SslAct) → is_known_act surplus (scope_with t a) w x ≡ is_known_act surplus (scope_with t b) w x
  act_same w (act.Assign width to e) =
      ap (λ k. k && is_known_expr surplus (scope_with t a) e) (place_same to) ∙ ap (λ k. is_known_place surplus (scope_with t b) to && k) (expr_same e)
  act_same w (act.Jump e) = expr_same e
  act_same w act.Annul = refl
  act_same w (act.Trap e) = expr_same e
  act_same w act.Service = refl
  act_same w act.WinSave = refl
  act_same w act.WinRestore = refl

  guard_same : (x : Option SslExpr) → is_known_guard surplus (scope_with t a) x ≡ is_known_guard surplus (scope_with t b) x
  guard_same None = refl
  guard_same (Some e) = expr_same e

  transfer_same : (w : Bool) (x : SslTransfer) → is_known_transfer surplus (scope_with t a) w x ≡ is_known_transfer surplus (scope_with t b) w x
  transfer_same w x =
      ap (λ k. k && is_known_act surplus (scope_with t a) w x.act) (guard_same x.guard) ∙ ap (λ k. is_known_guard surplus (scope_with t b) x.guard && k) (act_same w x.act)

  pub transfers_same : (w : Bool) (xs : List SslTransfer) → list_all (is_known_transfer surplus (scope_with t a) w) xs ≡ list_all (is_known_transfer surplus (scope_with t b) w) xs
  transfers_same w xs = ap (λ (p : SslTransfer → Bool). list_all p xs) (fun_ext (transfer_same w))
