-- Templates, as a map keeps them.
use Rattle.std.proofs.Common.{◌≡◌, ℕ, Bool, true, false, cond, List, [], ◌∷◌, map, Option, Some, None, eqb, refl, sym, ap, ◌∙◌, arith}
use Rattle.std.specs.Prelude.{option_map}
use Rattle.std.specs.Map.{lookup}
use Rattle.std.specs.Borrow.{Bor}
use Rattle.std.specs.Option.{option_copied}
use Rattle.rtl_core.specs.SoundTemplates.{is_place}
use Rattle.std.proofs.lemmas.Bool.Decides.{nat_tests}
use Rattle.ssl_rules.specs.Given.{Made}
use Rattle.ssl_core.specs.declared.templates.Built.{Built}
use Rattle.ssl_core.specs.declared.templates.Facts.{Facts}
use Rattle.ssl_core.specs.Shown.{made_of, made_for, facts_of}

abbrev pub shown_made : List (ℕ × Built) → List Made
shown_made es = map (λ e. made_of e.0 e.1) es

same_test : (a b : ℕ) → eqb a b ≡ eqb b a
same_test a b = grind (arith, nat_tests)

facts_step : (b : Bool) (m : Made) (o : Option Made) → option_map facts_of (cond b (Some m) o) ≡ cond b (Some (facts_of m)) (option_map facts_of o)
facts_step true m o = refl
facts_step false m o = refl

map_step : (b : Bool) (x : Built) (o : Option Built) → option_map (λ x. facts_of (made_of 0 x)) (cond b (Some x) o) ≡ cond b (Some (facts_of (made_of 0 x))) (option_map (λ x. facts_of (made_of 0 x)) o)
map_step true x o = refl
map_step false x o = refl

-- what is asked of a template, as the map has it
pub facts-shown : (c : ℕ) (es : List (ℕ × Built)) → option_map (λ x. facts_of (made_of 0 x)) (lookup (λ k. eqb c k) es) ≡ option_map facts_of (made_for (shown_made es) c)
facts-shown c [] = refl
facts-shown c (e ∷ es) =
    map_step (eqb c e.0) e.1 (lookup (λ k. eqb c k) es) ∙ ap (λ b. cond b (Some (facts_of (made_of 0 e.1))) (option_map (λ x. facts_of (made_of 0 x)) (lookup (λ k. eqb c k) es))) (same_test c e.0)
    ∙ ap (cond (eqb e.0 c) (Some (facts_of (made_of 0 e.1)))) (facts-shown c es) ∙ sym (facts_step (eqb e.0 c) (made_of e.0 e.1) (made_for (shown_made es) c))

unmapped : {X Y : Type 0} (f : X → Y) (o : Option X) → option_map f o ≡ None → o ≡ None
unmapped f None h = refl
unmapped f (Some x) h = absurd (cc)

-- a constructor without a template is no key
pub no_key : (c : ℕ) (es : List (ℕ × Built)) → made_for (shown_made es) c ≡ None → lookup (λ k. eqb c k) es ≡ None
no_key c es h = unmapped (λ x. facts_of (made_of 0 x)) (lookup (λ k. eqb c k) es) (facts-shown c es ∙ ap (option_map facts_of) h)

-- ---- a look-up, and what it gives

pub facts_none : (c : ℕ) (es : List (ℕ × Built)) (o : Option (Bor Built)) → o ≡ None → option_copied o ≡ lookup (λ k. eqb c k) es → None ≡ option_map facts_of (made_for (shown_made es) c)
facts_none c es o e h =
    let nothing : None ≡ lookup (λ k. eqb c k) es = ap option_copied (sym e) ∙ h in
    ap (option_map (λ x. facts_of (made_of 0 x))) nothing ∙ facts-shown c es

pub facts_some : (c : ℕ) (es : List (ℕ × Built)) (o : Option (Bor Built)) (b : Bor Built) (place : Bool) → o ≡ Some b → option_copied o ≡ lookup (λ k. eqb c k) es → place ≡ is_place b.now.template
    → Some (record { place = place; read = b.now.read; assigned = b.now.assigned }) ≡ option_map facts_of (made_for (shown_made es) c)
facts_some c es o b place e h p =
    let there : Some b.now ≡ lookup (λ k. eqb c k) es = ap option_copied (sym e) ∙ h in
    let with_place : Bool → Option Facts = λ p. Some (record { place = p; read = b.now.read; assigned = b.now.assigned }) in
    ap with_place p ∙ ap (option_map (λ x. facts_of (made_of 0 x))) there ∙ facts-shown c es
