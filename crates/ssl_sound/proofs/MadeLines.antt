-- What lines without a fault give for the machine of all lines: good functions, and templates that are sound and counted right.
use Rattle.std.proofs.Common.{◌≡◌, ℕ, zero, suc, ◌<◌, ◌≤◌, ◌==◌, Bool, true, false, not, List, [], ◌∷◌, ◌++◌, length, take, find, Option, Some, None, refl, sym, ap, ◌∙◌, subst}
use Rattle.std.proofs.lemmas.Bool.{and_parts, eqb-true, leb-true, false≢true, cond-true}
use Rattle.std.proofs.lemmas.List.Elements.{All-push}
use Rattle.std.proofs.lemmas.List.Folds.{find-append}
use Rattle.std.specs.Prelude.{All, is_some, unwrap_or, option_map}
use Rattle.std.specs.Option.{option_or}
use Rattle.std.specs.List.{list_all}
use Rattle.ssl_syntax.specs.declared.line.Param.{Param as ParamLine}
use Rattle.ssl_syntax.specs.declared.line.SslExpr.{SslExpr}
use Rattle.ssl_syntax.specs.declared.line.SslTransfer.{SslTransfer}
use Rattle.ssl_syntax.specs.declared.line.SslBody.{SslBody}
use Rattle.ssl_syntax.specs.declared.line.SslBody.TheVariants as body
use Rattle.ssl_syntax.specs.Lines.{is_body}
use Rattle.ssl_syntax.specs.Expressions.{is_expr}
use Rattle.ssl_syntax.specs.Transfers.{is_transfer}
use Rattle.rtl_core.specs.declared.encodings.OperandKind.{OperandKind}
use Rattle.rtl_core.specs.declared.encodings.Encodings.{Encodings}
use Rattle.rtl_core.specs.SoundEncodings.{IsSoundEncodings}
use Rattle.ssl_rules.specs.declared.formula.Formula.{Formula}
use Rattle.ssl_rules.specs.Names.{Scope}
use Rattle.ssl_rules.specs.Known.{is_known_expr, is_known_transfer}
use Rattle.ssl_rules.specs.Counted.{is_counted_expr, is_counted_transfer}
use Rattle.ssl_rules.specs.Widths.{is_width, measured, asked}
use Rattle.ssl_rules.specs.Formulas.{expanded, nodes}
use Rattle.ssl_rules.specs.Templates.{formula_template, assigned_nodes, transfers_template, transfers_nodes}
use Rattle.ssl_rules.specs.Given.{Given, Made, kinds_of, is_of, type_of, type_width, named_constructor, function_scope, function_of, operand_made, instruction_made, with_body}
use Rattle.ssl_rules.specs.Faults.{IsFine}
use Rattle.ssl_rules.specs.Checks.{scope_of, surplus_of, kinds_named, is_known_kind, is_constructor, is_known_head, template_differs}
use Rattle.ssl_rules.proofs.FineLines.{map-none}
use Rattle.ssl_sound.proofs.Good.{Frame, IsGood, IsGoodFunction}
use Rattle.ssl_sound.proofs.Measures.{none_parts, asked-same}
use Rattle.ssl_sound.proofs.ExprGood.{expr-good}
use Rattle.ssl_sound.proofs.Runs.{Extends}
use Rattle.ssl_sound.proofs.Frames.{frame_of, some-is}
use Rattle.ssl_sound.proofs.Tables.{AreSoundTables}
use Rattle.ssl_sound.proofs.LineScopes.{in-frame, function_scope-good, template_scope-good}
use Rattle.ssl_sound.proofs.GoodTemplates.{IsMade, template-made}
use Rattle.ssl_sound.proofs.GoodPlaces.{expr-formed}
use Rattle.ssl_sound.proofs.GoodActs.{AreChecked, transfers-sound, transfers-nodes}
use Rattle.ssl_sound.proofs.Constructors.{constructor-right, kinds-filled, is_of-its_type}
use Rattle.ssl_sound.proofs.SoFar.{IsSoundSoFar}

-- a constructor's template
pub record IsMadeRight (enc : Encodings) (E : Frame) (m : Made) : Type 0 where
  pub below : m.constructor < length enc.constructors
  pub made : IsMade E (kinds_of enc m.constructor) (type_of enc m.constructor) m.template m.read m.assigned
  pub few : m.read ≤ 256

pub record IsGivenRight (enc : Encodings) (E : Frame) (g : Given) : Type 0 where
  pub functions : All (IsGoodFunction E) g.tables.functions
  pub templates : All (IsMadeRight enc E) g.templates

-- ---- function NAME ( P : W , P : W ) := E

function-line : (enc : Encodings) (g G : Given) (ps : List ParamLine) (e : SslExpr) → AreSoundTables g.tables → Extends enc g G → All (IsGoodFunction (frame_of enc G)) g.tables.functions
    → is_expr e ≡ true → is_counted_expr (function_scope g ps) e ≡ true → is_some (measured (function_scope g ps) e).width ≡ true → (measured (function_scope g ps) e).differs ≡ None
    → IsGoodFunction (frame_of enc G) (function_of g ps e)
function-line enc g G ps e tables grows functions formed counted some same =
    let s : Scope = function_scope g ps in
    let w : ℕ = unwrap_or (measured s e).width 0 in
    let E : Frame = frame_of enc G in
    record {
      call = λ kinds args all.
          expr-good E kinds _ s (function_scope-good E kinds g ps args (in-frame enc g G tables grows) functions all) e (expr-formed e formed) counted w
          (record { width = some-is (measured s e).width 0 some; same = same });
    }

-- ---- operand NAME ( OP , OP ) := E

-- behind the line, the type has a width: that of this template, or that of an earlier one, which is the same
type-width : (enc : Encodings) (g G : Given) (m : Made) (t : ℕ) → is_of enc t m.constructor ≡ true → Extends enc g G → Extends enc (record g { templates = g.templates ++ m ∷ [] }) G
    → (q : Option ℕ) → type_width g enc t ≡ q → ((v : ℕ) → q ≡ Some v → m.width ≡ v) → m.width ≡ unwrap_or (type_width G enc t) 0
type-width enc g G m t of grows grows_more None is same =
    let p : Made → Bool = λ x. is_of enc t x.constructor in
    let none : find p g.templates ≡ None = map-none (λ x. x.width) (find p g.templates) is in
    let last : find p (m ∷ []) ≡ Some m = cond-true (is_of enc t m.constructor) (Some m) None of in
    let found : find p (g.templates ++ m ∷ []) ≡ Some m = find-append p g.templates (m ∷ []) ∙ ap (λ o. option_or o (find p (m ∷ []))) none ∙ last in
    sym (ap (λ o. unwrap_or o 0) (grows_more.type_width t m.width (ap (option_map (λ x. x.width)) found)))
type-width enc g G m t of grows grows_more (Some v) is same =
    same v refl ∙ sym (ap (λ o. unwrap_or o 0) (grows.type_width t v is))

-- the width of an earlier template
earlier-width : (enc : Encodings) (g : Given) (name : List ℕ) (ops : List (List ℕ)) (e : SslExpr) (w : ℕ) → (measured (scope_of enc g name ops) e).width ≡ Some w
    → template_differs enc g name ops e ≡ None → (v : ℕ) → type_width g enc (type_of enc (named_constructor enc name)) ≡ Some v → w ≡ v
earlier-width enc g name ops e w width same v is =
    let against = (none_parts (measured (scope_of enc g name ops) e).differs _ same).1 in
    let asked_ : asked v (measured (scope_of enc g name ops) e).width ≡ None = rw is at against in
    asked-same v w (ap (asked v) (sym width) ∙ asked_)

operand-of : (enc : Encodings) (E : Frame) (kinds : List OperandKind) (f : Formula) (w n : ℕ) → IsGood E kinds f w → not (n == 0) ≡ true → w ≡ E.stands n
    → IsMade E kinds n (formula_template f) (nodes f) (assigned_nodes f)
operand-of enc E kinds f w zero good other width = absurd (false≢true other)
operand-of enc E kinds f w (suc t) good other width = template-made E kinds t f (subst (IsGood E kinds f) width good)

operand-line : (enc : Encodings) → IsSoundEncodings enc → (g G : Given) (name : List ℕ) (ops : List (List ℕ)) (e : SslExpr) → IsFine enc g (body.Operand name ops e) → is_expr e ≡ true → AreSoundTables g.tables
    → Extends enc g G → Extends enc (with_body enc g (body.Operand name ops e)) G → IsGivenRight enc (frame_of enc G) g
    → IsMadeRight enc (frame_of enc G) (operand_made (scope_of enc g name ops) (named_constructor enc name) e)
operand-line enc sound g G name ops e p formed tables grows grows_more right =
    let c : ℕ = named_constructor enc name in
    let s : Scope = scope_of enc g name ops in
    let E : Frame = frame_of enc G in
    let made : Made = operand_made s c e in
    let k = and_parts (is_known_head enc g false name ops) (is_known_expr (surplus_of enc g name ops) s e) p.known in
    let h = and_parts (is_constructor enc g false name) (list_all (is_known_kind enc g) (take (length ops) (kinds_named enc g name))) k.0 in
    let of = constructor-right enc g false name h.0 in
    let n = and_parts (length ops == length (kinds_named enc g name)) (is_counted_expr s e) p.counted in
    let scope = template_scope-good enc g G grows tables right.functions c ops h.1 (kinds-filled enc sound c) in
    let w : ℕ = unwrap_or (measured s e).width 0 in
    let width : (measured s e).width ≡ Some w = some-is (measured s e).width 0 p.ranged in
    let same = none_parts (measured s e).differs _ p.same in
    let good : IsGood E (kinds_of enc c) (expanded s e) w = expr-good E (kinds_of enc c) (λ f. f) s scope e (expr-formed e formed) n.1 w (record { width = width; same = same.0 }) in
    let stands : w ≡ E.stands (type_of enc c) = type-width enc g G made (type_of enc c) (is_of-its_type enc sound c of.below) grows grows_more (type_width g enc (type_of enc c)) refl
    (earlier-width enc g name ops e w width p.same) in
    record {
      below = of.below;
      made = operand-of enc E (kinds_of enc c) (expanded s e) w (type_of enc c) good of.type stands;
      few = leb-true (nodes (expanded s e)) 256 p.small;
    }

-- ---- instruction NAME ( OP , OP ) := T ; T

instruction-line : (enc : Encodings) → IsSoundEncodings enc → (g G : Given) (name : List ℕ) (ops : List (List ℕ)) (ts : List SslTransfer) → IsFine enc g (body.Instruction name ops ts)
    → list_all is_transfer ts ≡ true → AreSoundTables g.tables → Extends enc g G → IsGivenRight enc (frame_of enc G) g
    → IsMadeRight enc (frame_of enc G) (instruction_made (scope_of enc g name ops) (named_constructor enc name) ts)
instruction-line enc sound g G name ops ts p formed tables grows right =
    let c : ℕ = named_constructor enc name in
    let s : Scope = scope_of enc g name ops in
    let E : Frame = frame_of enc G in
    let surplus : List (List ℕ) = surplus_of enc g name ops in
    let k = and_parts (is_known_head enc g true name ops) (list_all (is_known_transfer surplus s (is_some g.windows)) ts) p.known in
    let h = and_parts (is_constructor enc g true name) (list_all (is_known_kind enc g) (take (length ops) (kinds_named enc g name))) k.0 in
    let of = constructor-right enc g true name h.0 in
    let n = and_parts (length ops == length (kinds_named enc g name)) (list_all (is_counted_transfer s) ts) p.counted in
    let scope = template_scope-good enc g G grows tables right.functions c ops h.1 (kinds-filled enc sound c) in
    let checked : AreChecked E (kinds_of enc c) s scope tables surplus (is_some g.windows) ts =
    record { formed = formed; known = k.1; counted = n.1; ranged = p.ranged; places = p.places; same = p.same } in
    let made : IsMade E (kinds_of enc c) 0 (transfers_template s ts) (transfers_nodes s ts) 0 = record {
      sound = transfers-sound E (kinds_of enc c) s scope tables surplus (is_some g.windows) grows.windows ts checked p.single;
      read = transfers-nodes E (kinds_of enc c) s scope tables surplus (is_some g.windows) grows.windows ts checked;
      assigned = refl;
    } in
    record {
      below = of.below;
      made = subst (λ t. IsMade E (kinds_of enc c) t (transfers_template s ts) (transfers_nodes s ts) 0) (sym (eqb-true (type_of enc c) 0 of.type)) made;
      few = leb-true (transfers_nodes s ts) 256 p.small;
    }

-- ---- any line

pub right-body : (enc : Encodings) → IsSoundEncodings enc → (g G : Given) (b : SslBody) → IsFine enc g b → is_body b ≡ true → IsSoundSoFar g → Extends enc g G → Extends enc (with_body enc g b) G
    → IsGivenRight enc (frame_of enc G) g → IsGivenRight enc (frame_of enc G) (with_body enc g b)
right-body enc sound g G (body.Align answer) p formed so_far grows more right = record { functions = right.functions; templates = right.templates }
right-body enc sound g G (body.Delay bytes) p formed so_far grows more right = record { functions = right.functions; templates = right.templates }
right-body enc sound g G (body.Cell name w) p formed so_far grows more right = record { functions = right.functions; templates = right.templates }
right-body enc sound g G (body.Cells name n w) p formed so_far grows more right = record { functions = right.functions; templates = right.templates }
right-body enc sound g G (body.View name n w parts) p formed so_far grows more right = record { functions = right.functions; templates = right.templates }
right-body enc sound g G (body.Zero cell) p formed so_far grows more right = record { functions = right.functions; templates = right.templates }
right-body enc sound g G (body.Windows o l i n) p formed so_far grows more right = record { functions = right.functions; templates = right.templates }
right-body enc sound g G (body.Function name ps e) p formed so_far grows more right =
    let r = and_parts (list_all (λ p. is_width p.width) ps) (is_some (measured (function_scope g ps) e).width) p.ranged in
    record {
      functions = All-push (IsGoodFunction (frame_of enc G)) g.tables.functions (function_of g ps e) right.functions
          (function-line enc g G ps e so_far.tables grows right.functions formed p.counted r.1 p.same);
      templates = right.templates;
    }
right-body enc sound g G (body.Operand name ops e) p formed so_far grows more right = record {
  functions = right.functions;
  templates = All-push (IsMadeRight enc (frame_of enc G)) g.templates (operand_made (scope_of enc g name ops) (named_constructor enc name) e) right.templates
      (operand-line enc sound g G name ops e p formed so_far.tables grows more right);
}
right-body enc sound g G (body.Instruction name ops ts) p formed so_far grows more right = record {
  functions = right.functions;
  templates = All-push (IsMadeRight enc (frame_of enc G)) g.templates (instruction_made (scope_of enc g name ops) (named_constructor enc name) ts) right.templates
      (instruction-line enc sound g G name ops ts p formed so_far.tables grows right);
}
