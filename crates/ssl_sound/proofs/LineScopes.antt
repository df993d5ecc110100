-- The names of a line without a fault are right: those of its parameters, and those of its operands.
use Rattle.std.proofs.Common.{◌≡◌, ℕ, zero, suc, ◌+◌, ◌<◌, true, List, [], ◌∷◌, map, length, take, Option, Some, None, refl, sym, ap, ◌∙◌, subst, arith}
use Rattle.std.proofs.lemmas.Bool.{and_parts}
use Rattle.std.proofs.lemmas.List.Elements.{All-nil, All-cons, All-head, All-tail, All-append}
use Rattle.std.proofs.lemmas.Map.Entries.{All-lookup}
use Rattle.std.proofs.lemmas.Option.{none-some, same_Some}
use Rattle.std.specs.Prelude.{slice_get, unwrap_or, option_and_then, All, IfSome, nat_eq}
use Rattle.std.specs.Cmp.Lexicographic.{pointwise}
use Rattle.std.specs.List.{list_all}
use Rattle.ssl_syntax.specs.declared.line.Param.{Param as ParamLine}
use Rattle.rtl_core.specs.declared.encodings.OperandKind.{OperandKind}
use Rattle.rtl_core.specs.declared.encodings.OperandKind.TheVariants as kind
use Rattle.rtl_core.specs.declared.encodings.Encodings.{Encodings}
use Rattle.rtl_core.specs.SoundTemplates.{IsFile}
use Rattle.rtl_core.proofs.GroundPlaces.{All-slice_get}
use Rattle.ssl_rules.specs.declared.formula.Formula.{Formula}
use Rattle.ssl_rules.specs.declared.tables.Meaning.TheVariants as meaning
use Rattle.ssl_rules.specs.declared.tables.Own.{Own}
use Rattle.ssl_rules.specs.declared.tables.Own.TheVariants.{Field, Typed, Param}
use Rattle.ssl_rules.specs.declared.tables.Function.{Function}
use Rattle.ssl_rules.specs.declared.tables.Tables.{Tables}
use Rattle.ssl_rules.specs.Lookup.{named}
use Rattle.ssl_rules.specs.Names.{function_named, function_of_meaning}
use Rattle.ssl_rules.specs.Formulas.{nothing, put_in}
use Rattle.ssl_rules.specs.Given.{Given, constructors_of, kinds_of, own_params, own_operand, own_operands, function_scope, template_scope}
use Rattle.ssl_rules.specs.Checks.{is_known_kind}
use Rattle.ssl_nodes.proofs.FormulaLaws.{put-Param}
use Rattle.ssl_sound.proofs.Good.{Frame, IsGood, AreGood, IsGoodFunction}
use Rattle.ssl_sound.proofs.Closing.{closes-nothing, closes-args}
use Rattle.ssl_sound.proofs.Scopes.{IsInFrame, IsOwn, IsGoodScope}
use Rattle.ssl_sound.proofs.Runs.{Extends}
use Rattle.ssl_sound.proofs.Frames.{frame_of, operand-right}
use Rattle.ssl_sound.proofs.Tables.{AreSoundTables, named-there}

-- ---- tables

pub in-frame : (enc : Encodings) (g G : Given) → AreSoundTables g.tables → Extends enc g G → IsInFrame (frame_of enc G) g.tables
in-frame enc g G s x = record {
  cells = λ name c e. named-there g.tables s name (meaning.Cell c) e;
  widths = x.widths;
  files = x.files;
  parts = λ f parts e. All-slice_get (IsFile g.tables.widths) g.tables.files f parts e s.files;
}

function-of : (E : Frame) (functions : List Function) → All (IsGoodFunction E) functions → (o : Option ℕ) (f : Function) → option_and_then (slice_get functions) o ≡ Some f → IsGoodFunction E f
function-of E functions all None f e = absurd (none-some f e)
function-of E functions all (Some i) f e = All-slice_get (IsGoodFunction E) functions i f e all

function-named : (E : Frame) (t : Tables) → All (IsGoodFunction E) t.functions → (name : List ℕ) (f : Function) → function_named t name ≡ Some f → IsGoodFunction E f
function-named E t all name f e = function-of E t.functions all (option_and_then function_of_meaning (named t.names name)) f e

-- a name of the line's own, of which each is right
own-named : (P : Own → Type 0) (own : List (List ℕ × Own)) → All (λ e. P e.1) own → (name : List ℕ) (o : Own) → named own name ≡ Some o → P o
own-named P own all name o e = subst (λ x. IfSome x P) e (All-lookup P (pointwise nat_eq name) own all)

-- ---- parameters

abbrev IsParam : List ℕ → Own → Type 0
IsParam ws (Param k w) = slice_get ws k ≡ Some w
IsParam ws _ = ⊥

params-right : (ws : List ℕ) (ps : List ParamLine) (k : ℕ) → ((j w : ℕ) → slice_get (map (λ p. p.width) ps) j ≡ Some w → slice_get ws (k + j) ≡ Some w)
    → All (λ e. IsParam ws e.1) (own_params k ps)
params-right ws [] k at = All-nil (λ e. IsParam ws e.1)
params-right ws (p ∷ ps) k at =
    let zero_ : k + 0 ≡ k = omega arith in
    All-cons (λ e. IsParam ws e.1) (p.name, Param k p.width) (own_params (k + 1) ps)
    (ap (slice_get ws) (sym zero_) ∙ at 0 p.width refl)
    (params-right ws ps (k + 1) (λ j w e.
    let next : k + 1 + j ≡ k + suc j = omega arith in
    ap (slice_get ws) next ∙ at (suc j) w e))

arg-at : (E : Frame) (kinds : List OperandKind) (args : List Formula) (ws : List ℕ) → AreGood E kinds args ws → (k w : ℕ) → slice_get ws k ≡ Some w
    → IsGood E kinds (unwrap_or (slice_get args k) nothing) w
arg-at E kinds [] [] all k w e = absurd (none-some w e)
arg-at E kinds [] (v ∷ ws) all k w e = absurd all
arg-at E kinds (a ∷ args) [] all k w e = absurd all
arg-at E kinds (a ∷ args) (v ∷ ws) all zero w e = subst (IsGood E kinds a) (same_Some v w e) all.0
arg-at E kinds (a ∷ args) (v ∷ ws) all (suc k) w e = arg-at E kinds args ws all.1 k w e

own-arg : (E : Frame) (kinds : List OperandKind) (args : List Formula) (ws : List ℕ) → AreGood E kinds args ws → (o : Own) → IsParam ws o → IsOwn E kinds (put_in args) o
own-arg E kinds args ws all (Field k w) e = absurd e
own-arg E kinds args ws all (Typed k st) e = absurd e
own-arg E kinds args ws all (Param k w) e = subst (λ f. IsGood E kinds f w) (sym (put-Param args k)) (arg-at E kinds args ws all k w e)

pub function_scope-good : (E : Frame) (kinds : List OperandKind) (g : Given) (ps : List ParamLine) (args : List Formula) → IsInFrame E g.tables → All (IsGoodFunction E) g.tables.functions
    → AreGood E kinds args (map (λ p. p.width) ps) → IsGoodScope E kinds (put_in args) (function_scope g ps)
function_scope-good E kinds g ps args frame functions all = record {
  closes = closes-args args;
  tables = frame;
  own = λ name o e. own-arg E kinds args (map (λ p. p.width) ps) all o
      (own-named (IsParam (map (λ p. p.width) ps)) (own_params 0 ps)
      (params-right (map (λ p. p.width) ps) ps 0 (λ j w h. let zero_ : 0 + j ≡ j = omega arith in ap (slice_get (map (λ p. p.width) ps)) zero_ ∙ h)) name o e);
  functions = function-named E g.tables functions;
}

-- ---- operands

-- the type of an operand has constructors
abbrev pub IsFilled : Encodings → OperandKind → Type 0
IsFilled enc (kind.Field w) = Unit {0}
IsFilled enc (kind.Typed t) = 0 < length (constructors_of enc t)

operand-own : (enc : Encodings) (g G : Given) → Extends enc g G → (kinds : List OperandKind) (k : ℕ) (name : List ℕ) (x : OperandKind) → slice_get kinds k ≡ Some x
    → is_known_kind enc g x ≡ true → IsFilled enc x → All (λ e. IsOwn (frame_of enc G) kinds (λ f. f) e.1) (own_operand g enc k name x)
operand-own enc g G grows kinds k name (kind.Field w) is known filled =
    All-cons (λ e. IsOwn (frame_of enc G) kinds (λ f. f) e.1) (name, Field k w) [] is (All-nil (λ e. IsOwn (frame_of enc G) kinds (λ f. f) e.1))
operand-own enc g G grows kinds k name (kind.Typed zero) is known filled = All-nil (λ e. IsOwn (frame_of enc G) kinds (λ f. f) e.1)
operand-own enc g G grows kinds k name (kind.Typed (suc t)) is known filled =
    All-cons (λ e. IsOwn (frame_of enc G) kinds (λ f. f) e.1) (name, Typed k _) [] (operand-right enc g G grows kinds k t is filled known)
    (All-nil (λ e. IsOwn (frame_of enc G) kinds (λ f. f) e.1))

operands-own : (enc : Encodings) (g G : Given) → Extends enc g G → (kinds : List OperandKind) (k : ℕ) (names : List (List ℕ)) (xs : List OperandKind)
    → ((j : ℕ) (x : OperandKind) → slice_get xs j ≡ Some x → slice_get kinds (k + j) ≡ Some x) → list_all (is_known_kind enc g) (take (length names) xs) ≡ true → All (IsFilled enc) xs
    → All (λ e. IsOwn (frame_of enc G) kinds (λ f. f) e.1) (own_operands g enc k names xs)
operands-own enc g G grows kinds k [] xs at known filled = All-nil (λ e. IsOwn (frame_of enc G) kinds (λ f. f) e.1)
operands-own enc g G grows kinds k (name ∷ names) [] at known filled = All-nil (λ e. IsOwn (frame_of enc G) kinds (λ f. f) e.1)
operands-own enc g G grows kinds k (name ∷ names) (x ∷ xs) at known filled =
    let t = and_parts (is_known_kind enc g x) (list_all (is_known_kind enc g) (take (length names) xs)) known in
    let zero_ : k + 0 ≡ k = omega arith in
    All-append (λ e. IsOwn (frame_of enc G) kinds (λ f. f) e.1) (own_operand g enc k name x) (own_operands g enc (k + 1) names xs)
    (operand-own enc g G grows kinds k name x (ap (slice_get kinds) (sym zero_) ∙ at 0 x refl) t.0 (All-head (IsFilled enc) x xs filled))
    (operands-own enc g G grows kinds (k + 1) names xs (λ j y e. let next : k + 1 + j ≡ k + suc j = omega arith in ap (slice_get kinds) next ∙ at (suc j) y e)
    t.1 (All-tail (IsFilled enc) x xs filled))

pub template_scope-good : (enc : Encodings) (g G : Given) → Extends enc g G → AreSoundTables g.tables → All (IsGoodFunction (frame_of enc G)) g.tables.functions → (c : ℕ) (ops : List (List ℕ))
    → list_all (is_known_kind enc g) (take (length ops) (kinds_of enc c)) ≡ true → All (IsFilled enc) (kinds_of enc c)
    → IsGoodScope (frame_of enc G) (kinds_of enc c) (λ f. f) (template_scope g enc c ops)
template_scope-good enc g G grows s functions c ops known filled = record {
  closes = closes-nothing;
  tables = in-frame enc g G s grows;
  own = own-named (IsOwn (frame_of enc G) (kinds_of enc c) (λ f. f)) (own_operands g enc 0 ops (kinds_of enc c))
      (operands-own enc g G grows (kinds_of enc c) 0 ops (kinds_of enc c) (λ j x e. let zero_ : 0 + j ≡ j = omega arith in ap (slice_get (kinds_of enc c)) zero_ ∙ e) known filled);
  functions = function-named (frame_of enc G) g.tables functions;
}
