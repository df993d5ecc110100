-- When each form of an expression is in range.
use Rattle.std.proofs.Common.{◌≡◌, ℕ, ◌^◌, ◌&&◌, Bool, true, false, List, Option, Some, None, refl, sym, ap, ◌∙◌}
use Rattle.std.proofs.lemmas.Bool.{and_parts, false≢true}
use Rattle.std.specs.Prelude.{nat_lt, nat_le, if◌then◌else◌, is_some, option_map, option_and_then}
use Rattle.std.specs.List.{list_all}
use Rattle.ssl_syntax.specs.declared.line.SslExpr.{SslExpr}
use Rattle.ssl_syntax.specs.declared.line.SslExpr.TheVariants as E
use Rattle.ssl_rules.specs.declared.tables.Function.{Function}
use Rattle.ssl_rules.specs.Operators.{operator}
use Rattle.ssl_rules.specs.Names.{Scope, function_named}
use Rattle.rtl_core.specs.Arithmetic.{result_width}
use Rattle.ssl_rules.specs.Widths.{measured, node_measured, constant_width, slice_width, extended_width, is_width, behind, called_width}
use Rattle.ssl_syntax.proofs.FoldLaws.{fold-Number, fold-Load, fold-Not, fold-Neg, fold-Bin, fold-Bits, fold-Zext, fold-Sext, fold-If}
use Rattle.ssl_checks.proofs.CallLaws.{measured_call}
use Rattle.ssl_templates.specs.Ranged.{is_ranged}

-- ---- from parts that may be missing

mapped : (f : ℕ → ℕ) (o : Option ℕ) → is_some (option_map f o) ≡ is_some o
mapped f None = refl
mapped f (Some w) = refl

both : (a b : Option ℕ) → is_some (behind a b) ≡ (is_some a && is_some b)
both None b = refl
both (Some w) b = refl

and_then : (f : ℕ → Option ℕ) (o : Option ℕ) → is_some (option_and_then f o) ≡ (is_some o && is_some (option_and_then f o))
and_then f None = refl
and_then f (Some w) = refl

called : (ranged : Bool) (f : Function) → is_some (called_width ranged f) ≡ ranged
called true f = refl
called false f = refl

chosen : (t : Bool) (w : ℕ) → is_some (if t then Some w else None) ≡ true → t ≡ true
chosen true w h = refl
chosen false w h = h

-- ---- a constant and an extension have a width

constant : (v w : ℕ) → is_some (constant_width v w) ≡ true → is_width w ≡ true
constant v w h = (and_parts (is_width w) (nat_lt v (2 ^ w)) (chosen (is_width w && nat_lt v (2 ^ w)) w h)).0

extended : (w : ℕ) (o : Option ℕ) → is_some (option_and_then (extended_width w) o) ≡ true → is_width w ≡ true
extended w None h = absurd (false≢true h)
extended w (Some v) h = (and_parts (nat_le v w) (is_width w) (chosen (nat_le v w && is_width w) w h)).1

-- ---- one for each form

pub ranged-Number : (s : Scope) (v w : ℕ) → is_ranged s (E.Number v w) ≡ true → is_width w ≡ true
unfolding is_ranged
ranged-Number s v w h = constant v w (sym (ap (λ m. is_some m.width) (fold-Number (node_measured s) v w)) ∙ h)

pub ranged-Load : (s : Scope) (n : ℕ) (a : SslExpr) → is_ranged s (E.Load n a) ≡ is_ranged s a
unfolding is_ranged
ranged-Load s n a = ap (λ m. is_some m.width) (fold-Load (node_measured s) n a) ∙ mapped (λ _. n) (measured s a).width

pub ranged-Not : (s : Scope) (a : SslExpr) → is_ranged s (E.Not a) ≡ is_ranged s a
unfolding is_ranged
ranged-Not s a = ap (λ m. is_some m.width) (fold-Not (node_measured s) a)

pub ranged-Neg : (s : Scope) (a : SslExpr) → is_ranged s (E.Neg a) ≡ is_ranged s a
unfolding is_ranged
ranged-Neg s a = ap (λ m. is_some m.width) (fold-Neg (node_measured s) a)

pub ranged-Bin : (s : Scope) (op : ℕ) (a b : SslExpr) → is_ranged s (E.Bin op a b) ≡ (is_ranged s b && is_ranged s a)
unfolding is_ranged
ranged-Bin s op a b =
    ap (λ m. is_some m.width) (fold-Bin (node_measured s) op a b) ∙ both (measured s b).width (option_map (result_width (operator op)) (measured s a).width)
    ∙ ap (λ t. is_some (measured s b).width && t) (mapped (result_width (operator op)) (measured s a).width)

-- bits have their ends
abbrev pub has_ends : Scope → SslExpr → ℕ → ℕ → Bool
has_ends s a lo hi = is_some (option_and_then (slice_width lo hi) (measured s a).width)

pub ranged-Bits : (s : Scope) (a : SslExpr) (lo hi : ℕ) → is_ranged s (E.Bits a lo hi) ≡ (is_ranged s a && has_ends s a lo hi)
unfolding is_ranged
ranged-Bits s a lo hi = ap (λ m. is_some m.width) (fold-Bits (node_measured s) a lo hi) ∙ and_then (slice_width lo hi) (measured s a).width

pub ranged-Zext : (s : Scope) (w : ℕ) (a : SslExpr) → is_ranged s (E.Zext w a) ≡ true → (is_ranged s a && is_width w) ≡ true
unfolding is_ranged
ranged-Zext s w a h =
    let some : is_some (option_and_then (extended_width w) (measured s a).width) ≡ true = sym (ap (λ m. is_some m.width) (fold-Zext (node_measured s) w a)) ∙ h in
    ap (λ t. t && is_width w) (and_parts (is_some (measured s a).width) (is_some (option_and_then (extended_width w) (measured s a).width)) (sym (and_then (extended_width w) (measured s a).width) ∙ some)).0 ∙ extended w (measured s a).width some

pub ranged-Sext : (s : Scope) (w : ℕ) (a : SslExpr) → is_ranged s (E.Sext w a) ≡ true → (is_ranged s a && is_width w) ≡ true
unfolding is_ranged
ranged-Sext s w a h =
    let some : is_some (option_and_then (extended_width w) (measured s a).width) ≡ true = sym (ap (λ m. is_some m.width) (fold-Sext (node_measured s) w a)) ∙ h in
    ap (λ t. t && is_width w) (and_parts (is_some (measured s a).width) (is_some (option_and_then (extended_width w) (measured s a).width)) (sym (and_then (extended_width w) (measured s a).width) ∙ some)).0 ∙ extended w (measured s a).width some

pub ranged-If : (s : Scope) (c a b : SslExpr) → is_ranged s (E.If c a b) ≡ (is_ranged s c && (is_ranged s b && is_ranged s a))
unfolding is_ranged
ranged-If s c a b =
    ap (λ m. is_some m.width) (fold-If (node_measured s) c a b) ∙ both (measured s c).width (behind (measured s b).width (measured s a).width)
    ∙ ap (λ t. is_some (measured s c).width && t) (both (measured s b).width (measured s a).width)

pub ranged-known_call : (s : Scope) (x : List ℕ) (es : List SslExpr) (f : Function) → function_named s.tables x ≡ Some f
    → is_ranged s (E.Call x es) ≡ list_all (is_ranged s) es
unfolding is_ranged
ranged-known_call s x es f known =
    let all : Bool = list_all (λ e. is_some (measured s e).width) es in
    ap (λ m. is_some m.width) (measured_call s x es) ∙ ap (λ o. is_some (option_and_then (called_width all) o)) known ∙ called all f
