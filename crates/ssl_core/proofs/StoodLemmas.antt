-- What the constructors of a type stand for stays, once each has a template.
use Rattle.std.proofs.Common.{◌≡◌, ◌≢◌, ℕ, ◌<◌, max, Bool, true, false, cond, ◌&&◌, List, [], ◌∷◌, length, get_or, Option, Some, None, is_some, eqb, eqb-true, eq-eqb, refl, sym, ap, subst, ◌∙◌, ◌⊎◌, inl, inr, unwrap_or}
use Rattle.std.specs.Prelude.{IfSome, find, option_map, slice_get, slice_set}
use Rattle.std.specs.Option.{option_or}
use Rattle.std.specs.List.{list_all, list_any}
use Rattle.std.proofs.lemmas.Bool.{cases_Bool, true≢false}
use Rattle.std.proofs.lemmas.List.{get_or-set_same, get_or-set_other}
use Rattle.std.proofs.lemmas.List.Folds.{find-append}
use Rattle.std.proofs.lemmas.Option.{get_or_from_slice_get, slice_get-get_or, slice_get_within}
use Rattle.std.proofs.Math.ListN.{length-set}
use Rattle.rtl_core.specs.declared.encodings.Encodings.{Encodings}
use Rattle.rtl_core.specs.SoundTemplates.{is_place}
use Rattle.ssl_rules.specs.declared.tables.Stands.{Stands}
use Rattle.ssl_rules.specs.Given.{Given, Made, constructors_of, has_template, is_of, is_place_type, most_of, stands_for, template_for, type_width}
use Rattle.ssl_core.specs.MoreTemplates.{with_made}
use Rattle.ssl_core.specs.Stood.{AreStood, known_stands}
use Rattle.ssl_core.proofs.Basics.{and_true, both_true, first_counts, or_none}

-- ---- the same templates

module _ (g h : Given) (same : g.templates ≡ h.templates) where
  most_same : (count : Made → ℕ) (cs : List ℕ) → most_of count g cs ≡ most_of count h cs
  most_same count [] = refl
  most_same count (c ∷ cs) =
      ap (λ ms. max (unwrap_or (option_map count (find (λ m. eqb m.constructor c) ms)) 0) (most_of count g cs)) same
      ∙ ap (max (unwrap_or (option_map count (template_for h c)) 0)) (most_same count cs)

  stands_same : (enc : Encodings) (t : ℕ) → stands_for g enc t ≡ stands_for h enc t
  stands_same enc t =
      let cs : List ℕ = constructors_of enc t in
      let width : List Made → ℕ = λ ms. unwrap_or (option_map (λ m. m.width) (find (λ m. is_of enc t m.constructor) ms)) 0 in
      let place : List Made → Bool = λ ms. list_all (λ c. unwrap_or (option_map (λ m. is_place m.template) (find (λ m. eqb m.constructor c) ms)) false) cs in
      let made : ℕ → Bool → ℕ → ℕ → Stands = λ w p r a. record { width = w; place = p; read = r; assigned = a } in
      ap (λ ms. made (width ms) (place ms) (most_of (λ m. m.read) g cs) (most_of (λ m. m.assigned) g cs)) same
      ∙ ap (λ r. made (width h.templates) (place h.templates) r (most_of (λ m. m.assigned) g cs)) (most_same (λ m. m.read) cs)
      ∙ ap (made (width h.templates) (place h.templates) (most_of (λ m. m.read) h cs)) (most_same (λ m. m.assigned) cs)

  pub stood_same : (enc : Encodings) (t : ℕ) (s : Stands) → AreStood enc g t s → AreStood enc h t s
  stood_same enc t s a = record {
    all = ap (λ ms. list_all (λ c. is_some (find (λ m. eqb m.constructor c) ms)) (constructors_of enc t)) (sym same) ∙ a.all;
    same = a.same ∙ stands_same enc t;
  }

-- ---- a template more, of a constructor that had none

module _ (g : Given) (m : Made) (none : template_for g m.constructor ≡ None) where
  found_still : (c : ℕ) → has_template g c ≡ true → template_for (with_made g m) c ≡ template_for g c
  found_still c h = find-append (λ m. eqb m.constructor c) g.templates (m ∷ []) ∙ sym (first_counts (template_for g c) (find (λ m. eqb m.constructor c) (m ∷ [])) h)

  all_still : (cs : List ℕ) → list_all (has_template g) cs ≡ true → list_all (has_template (with_made g m)) cs ≡ true
  all_still [] h = refl
  all_still (c ∷ cs) h =
      let both = and_true (has_template g c) (list_all (has_template g) cs) h in
      both_true (has_template (with_made g m) c) (list_all (has_template (with_made g m)) cs) (ap is_some (found_still c both.0) ∙ both.0) (all_still cs both.1)

  most_still : (count : Made → ℕ) (cs : List ℕ) → list_all (has_template g) cs ≡ true → most_of count (with_made g m) cs ≡ most_of count g cs
  most_still count [] h = refl
  most_still count (c ∷ cs) h =
      let both = and_true (has_template g c) (list_all (has_template g) cs) h in
      ap (λ o. max (unwrap_or (option_map count o) 0) (most_of count (with_made g m) cs)) (found_still c both.0)
      ∙ ap (max (unwrap_or (option_map count (template_for g c)) 0)) (most_still count cs both.1)

  place_still : (cs : List ℕ) → list_all (has_template g) cs ≡ true → is_place_type (with_made g m) cs ≡ is_place_type g cs
  place_still [] h = refl
  place_still (c ∷ cs) h =
      let both = and_true (has_template g c) (list_all (has_template g) cs) h in
      ap (λ o. unwrap_or (option_map (λ m. is_place m.template) o) false && is_place_type (with_made g m) cs) (found_still c both.0)
      ∙ ap (λ r. unwrap_or (option_map (λ m. is_place m.template) (template_for g c)) false && r) (place_still cs both.1)

  -- it is not of a type whose constructors all have one
  not_first : (c : ℕ) (cs : List ℕ) → has_template g c ≡ true → list_any (λ d. eqb d m.constructor) cs ≡ false → (eqb c m.constructor ≡ true) ⊎ (eqb c m.constructor ≡ false)
      → list_any (λ d. eqb d m.constructor) (c ∷ cs) ≡ false
  not_first c cs here rest (inl e) = absurd (true≢false (sym here ∙ ap is_some (ap (template_for g) (eqb-true c m.constructor e) ∙ none)))
  not_first c cs here rest (inr e) = rw e rest

  not_of : (cs : List ℕ) → list_all (has_template g) cs ≡ true → list_any (λ d. eqb d m.constructor) cs ≡ false
  not_of [] h = refl
  not_of (c ∷ cs) h =
      let both = and_true (has_template g c) (list_all (has_template g) cs) h in
      not_first c cs both.0 (not_of cs both.1) (cases_Bool (eqb c m.constructor))

  width_still : (enc : Encodings) (t : ℕ) → list_all (has_template g) (constructors_of enc t) ≡ true → type_width (with_made g m) enc t ≡ type_width g enc t
  width_still enc t h =
      ap (option_map (λ m. m.width)) (find-append (λ m. is_of enc t m.constructor) g.templates (m ∷ [])
      ∙ ap (λ b. option_or (find (λ m. is_of enc t m.constructor) g.templates) (cond b (Some m) None)) (not_of (constructors_of enc t) h)
      ∙ or_none (find (λ m. is_of enc t m.constructor) g.templates))

  pub stood_still : (enc : Encodings) (t : ℕ) (s : Stands) → AreStood enc g t s → AreStood enc (with_made g m) t s
  stood_still enc t s a =
      let cs : List ℕ = constructors_of enc t in
      let made : Option ℕ → Bool → ℕ → ℕ → Stands = λ w p r a. record { width = unwrap_or w 0; place = p; read = r; assigned = a } in
      record {
        all = all_still cs a.all;
        same = a.same
            ∙ sym (ap (λ w. made w (is_place_type (with_made g m) cs) (most_of (λ m. m.read) (with_made g m) cs) (most_of (λ m. m.assigned) (with_made g m) cs)) (width_still enc t a.all)
            ∙ ap (λ p. made (type_width g enc t) p (most_of (λ m. m.read) (with_made g m) cs) (most_of (λ m. m.assigned) (with_made g m) cs)) (place_still cs a.all)
            ∙ ap (λ r. made (type_width g enc t) (is_place_type g cs) r (most_of (λ m. m.assigned) (with_made g m) cs)) (most_still (λ m. m.read) cs a.all)
            ∙ ap (made (type_width g enc t) (is_place_type g cs) (most_of (λ m. m.read) g cs)) (most_still (λ m. m.assigned) cs a.all));
      }

-- ---- noting it

pub some_known : (enc : Encodings) (g : Given) (t : ℕ) → is_some (known_stands enc g t) ≡ list_all (has_template g) (constructors_of enc t)
some_known enc g t = by (list_all (has_template g) (constructors_of enc t))
  where
    by : (b : Bool) → is_some (cond b (Some (stands_for g enc t)) None) ≡ b
    by true = refl
    by false = refl

-- what is noted is known
pub known_noted : (enc : Encodings) (g : Given) (t : ℕ) (s : Stands) → AreStood enc g t s → Some s ≡ known_stands enc g t
known_noted enc g t s a = ap Some a.same ∙ ap (λ b. cond b (Some (stands_for g enc t)) None) (sym a.all)

pub noted_now : (enc : Encodings) (g : Given) (t : ℕ) (o : Option (Option Stands)) → ((s : Stands) → o ≡ Some (Some s) → AreStood enc g t s) → (w : Option Stands) → o ≡ Some w → IfSome w (AreStood enc g t)
noted_now enc g t o h None e = tt
noted_now enc g t o h (Some s) e = h s e

unhidden : (b : Bool) (x s : Stands) → cond b (Some x) None ≡ Some s → (b ≡ true) × (x ≡ s)
unhidden true x s h = (refl, cc)
unhidden false x s h = absurd (cc)

stood_from : (enc : Encodings) (g : Given) (t : ℕ) (s : Stands) → known_stands enc g t ≡ Some s → AreStood enc g t s
stood_from enc g t s h =
    let both = unhidden (list_all (has_template g) (constructors_of enc t)) (stands_for g enc t) s h in
    record { all = both.0; same = sym both.1 }

some_same : (x y : Stands) → Some (Some x) ≡ Some (Some y) → x ≡ y
some_same x y h = cc

-- what is noted, and what was
pub noted_stood : (enc : Encodings) (g : Given) (ws : List (Option Stands)) (t : ℕ) (s : Stands) → t < length ws → known_stands enc g t ≡ Some s
    → ((u : ℕ) (r : Stands) → slice_get ws u ≡ Some (Some r) → AreStood enc g u r) → (u : ℕ) (r : Stands) → slice_get (slice_set ws t (Some s)) u ≡ Some (Some r) → AreStood enc g u r
noted_stood enc g ws t s h k was u r e = by (cases_Bool (eqb u t))
  where
    there : get_or (slice_set ws t (Some s)) u None ≡ Some r
    there = get_or_from_slice_get (slice_set ws t (Some s)) u (Some r) None e

    within : u < length ws
    within = subst (λ n. u < n) (length-set ws t (Some s)) (slice_get_within (slice_set ws t (Some s)) u (Some r) e)

    one_same : (x y : Stands) → Some x ≡ Some y → x ≡ y
    one_same x y h = cc

    by : (eqb u t ≡ true) ⊎ (eqb u t ≡ false) → AreStood enc g u r
    by (inl y) =
        let same : u ≡ t = eqb-true u t y in
        let value : s ≡ r = one_same s r (sym (get_or-set_same ws t (Some s) None h) ∙ ap (λ i. get_or (slice_set ws t (Some s)) i None) (sym same) ∙ there) in
        subst (λ v. AreStood enc g v r) (sym same) (subst (AreStood enc g t) value (stood_from enc g t s k))
    by (inr n) =
        let other : u ≢ t = λ same. true≢false (sym (eq-eqb u t same) ∙ n) in
        was u r (slice_get-get_or ws u None within ∙ ap Some (sym (get_or-set_other ws t u (Some s) None other) ∙ there))
