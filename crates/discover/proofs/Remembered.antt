-- What is remembered stays right.
use Rattle.std.proofs.Common.{rules, ◌≡◌, ℕ, Bool, true, false, List, Option, Some, None, cond, refl, sym, ◌∙◌, ap, subst, nat_eq}
use Rattle.std.specs.Option.{IfSome}
use Rattle.std.specs.Map.{lookup}
use Rattle.rtl_core.specs.declared.point.Point.{Point}
use Rattle.points.specs.Bodies.{Code}
use Rattle.discover.specs.declared.search.Look.{Look}
use Rattle.discover.specs.Parts.{same_point}
use Rattle.discover.specs.Seen.{IsLook, AreLooks, AreTables}

module _ {K X : Type 0} (eq : K → K → Bool) (P : K → X → Type 0) where
  -- some keys have another value or none, and the others stay
  still_right : (old new : List (K × X)) (test : K → Bool) (w : Option X) → ((q : K) → lookup (eq q) new ≡ cond (test q) w (lookup (eq q) old)) → ((q : K) → test q ≡ true → IfSome w (P q)) → ((q : K) → IfSome (lookup (eq q) old) (P q)) → (q : K) → IfSome (lookup (eq q) new) (P q)
  still_right old new test w is here all q = by (test q) refl
    where
      by : (b : Bool) → test q ≡ b → IfSome (lookup (eq q) new) (P q)
      by true e = subst (λ o. IfSome o (P q)) (sym (is q ∙ ap (λ b. cond b w (lookup (eq q) old)) e)) (here q e)
      by false e = subst (λ o. IfSome o (P q)) (sym (is q ∙ ap (λ b. cond b w (lookup (eq q) old)) e)) (all q)

  -- what is looked up is right
  looked_up : (es : List (K × X)) (q : K) (v : X) → ((k : K) → IfSome (lookup (eq k) es) (P k)) → lookup (eq q) es ≡ Some v → P q v
  looked_up es q v all e = subst (λ o. IfSome o (P q)) e (all q)

module _ (code : Code) where
  abbrev IsTargets : ℕ → List ℕ → Type 0
  IsTargets a targets = targets ≡ code.table a

  pub tables_insert : (old new : List (ℕ × List ℕ)) (a : ℕ) (t : List ℕ) → t ≡ code.table a → ((q : ℕ) → lookup (nat_eq q) new ≡ cond (nat_eq a q) (Some t) (lookup (nat_eq q) old)) → AreTables code old → AreTables code new
  tables_insert old new a t e is all = record { each = still_right nat_eq IsTargets old new (nat_eq a) (Some t) is (λ q h. let s : a ≡ q = search (rules, h) in e ∙ ap code.table s) all.each }

  pub tables_remove : (old new : List (ℕ × List ℕ)) (test : ℕ → Bool) → ((q : ℕ) → lookup (nat_eq q) new ≡ cond (test q) None (lookup (nat_eq q) old)) → AreTables code old → AreTables code new
  tables_remove old new test is all = record { each = still_right nat_eq IsTargets old new test None is (λ q h. tt) all.each }

  pub table_known : (es : List (ℕ × List ℕ)) (a : ℕ) (t : List ℕ) → AreTables code es → lookup (nat_eq a) es ≡ Some t → t ≡ code.table a
  table_known es a t all e = looked_up nat_eq IsTargets es a t all.each e

  pub looks_insert : (same : (x y : Point) → same_point x y ≡ true → x ≡ y) (old new : List (Point × Look)) (p : Point) (s : Look) → IsLook code p s → ((q : Point) → lookup (same_point q) new ≡ cond (same_point p q) (Some s) (lookup (same_point q) old)) → AreLooks code old → AreLooks code new
  looks_insert same old new p s r is all = record { each = still_right same_point (IsLook code) old new (same_point p) (Some s) is (λ q h. subst (λ x. IsLook code x s) (same p q h) r) all.each }

  pub looks_remove : (old new : List (Point × Look)) (test : Point → Bool) → ((q : Point) → lookup (same_point q) new ≡ cond (test q) None (lookup (same_point q) old)) → AreLooks code old → AreLooks code new
  looks_remove old new test is all = record { each = still_right same_point (IsLook code) old new test None is (λ q h. tt) all.each }

  pub look_known : (es : List (Point × Look)) (p : Point) (s : Look) → AreLooks code es → lookup (same_point p) es ≡ Some s → IsLook code p s
  look_known es p s all e = looked_up same_point (IsLook code) es p s all.each e
