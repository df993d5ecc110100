-- The one type of each constructor, in sound encodings.
use Rattle.std.proofs.Common.{◌≡◌, ◌≢◌, ℕ, ◌<◌, ◌≤◌, Bool, true, false, cond, List, [], ◌∷◌, length, get_or, Option, Some, None, refl, sym, ap, subst, ◌∙◌, ◌⊎◌, inl, inr, arith, eqb, ltb, eqb-true, eq-eqb, unwrap_or}
use Rattle.std.specs.Prelude.{slice_get, slice_set, find, option_map}
use Rattle.std.specs.Option.{option_or}
use Rattle.std.specs.List.{list_any, position_or_len}
use Rattle.std.proofs.lemmas.Bool.{cases_Bool, true≢false}
use Rattle.std.proofs.lemmas.Bool.Decides.{nat_tests}
use Rattle.std.proofs.lemmas.List.Folds.{list_any_none, find-append}
use Rattle.std.proofs.lemmas.List.Elements.{All-weaker}
use Rattle.std.proofs.lemmas.List.Sums.{position_or_len_is}
use Rattle.std.proofs.lemmas.List.{get_or-set_same, get_or-set_other}
use Rattle.std.proofs.Math.ListN.{length-set}
use Rattle.ssl_core.specs.Stood.{AreStood}
use Rattle.ssl_core.specs.Typing.{AreTyped}
use Rattle.ssl_core.proofs.StoodLemmas.{stood_still}
use Rattle.ssl_core.proofs.Basics.{or_none}
use Rattle.ssl_core.specs.declared.given.Given.{Given as State}
use Rattle.ssl_core.specs.State.{shown, Holds, AreCellsNamed}
use Rattle.std.proofs.lemmas.Option.{none-some, unwrap_or-slice_get, slice_get_within, slice_get-get_or}
use Rattle.rtl_core.specs.declared.encodings.Encodings.{Encodings}
use Rattle.rtl_core.specs.SoundEncodings.{AreTypes, IsSoundEncodings}
use Rattle.ssl_core.specs.MoreTemplates.{with_made}
use Rattle.ssl_core.specs.TypeTables.{width_put, with_width}
use Rattle.ssl_rules.specs.Given.{Given, Made, template_for, is_of, type_of, type_width}

module _ (types : List (List ℕ)) (n : ℕ) (a : AreTypes types n) where
  -- a constructor is listed by its type alone
  among : (c t : ℕ) (o : Option (List ℕ)) → slice_get types t ≡ o → eqb t (a.type_of c) ≡ false → list_any (λ d. eqb d c) (unwrap_or o []) ≡ false
  among c t None e h = refl
  among c t (Some cs) e h = list_any_none (λ d. eqb d c) cs (All-weaker (λ d. (d < n) × (a.type_of d ≡ t)) (λ d. eqb d c ≡ false) other cs (a.each t cs e).1)
    where
      other : (d : ℕ) → (d < n) × (a.type_of d ≡ t) → eqb d c ≡ false
      other d f = by (cases_Bool (eqb d c))
        where
          by : (eqb d c ≡ true) ⊎ (eqb d c ≡ false) → eqb d c ≡ false
          by (inr e) = e
          by (inl e) = absurd (true≢false (sym (eq-eqb t (a.type_of c) (sym f.1 ∙ ap a.type_of (eqb-true d c e))) ∙ h))

  pub listed_by : (c t : ℕ) → c < n → list_any (λ d. eqb d c) (unwrap_or (slice_get types t) []) ≡ eqb t (a.type_of c)
  listed_by c t h = by (cases_Bool (eqb t (a.type_of c)))
    where
      by : (eqb t (a.type_of c) ≡ true) ⊎ (eqb t (a.type_of c) ≡ false) → list_any (λ d. eqb d c) (unwrap_or (slice_get types t) []) ≡ eqb t (a.type_of c)
      by (inr e) = among c t (slice_get types t) refl e ∙ sym e
      by (inl e) =
          let l = a.listed c h in
          let at : slice_get types t ≡ Some l.0 = ap (slice_get types) (eqb-true t (a.type_of c) e) ∙ l.1 in
          ap (λ o. list_any (λ d. eqb d c) (unwrap_or o [])) at ∙ l.2 ∙ sym e

  pub type_within : (c : ℕ) → c < n → a.type_of c < length types
  type_within c h = let l = a.listed c h in slice_get_within types (a.type_of c) l.0 l.1

-- ---- in encodings

module _ (enc : Encodings) (a : AreTypes enc.types (length enc.constructors)) where
  at_place : (c j : ℕ) → c < length enc.constructors → j < length enc.types → list_any (λ d. eqb d c) (get_or enc.types j []) ≡ eqb j (a.type_of c)
  at_place c j h i =
      ap (λ o. list_any (λ d. eqb d c) (unwrap_or o [])) (sym (slice_get-get_or enc.types j [] i)) ∙ listed_by enc.types (length enc.constructors) a c j h

  below : (k j : ℕ) → j < k → eqb j k ≡ false
  below k j h = grind (arith, nat_tests)

  -- the type that the types say is the first that lists the constructor
  first_place : (c : ℕ) → c < length enc.constructors → position_or_len (λ cs. list_any (λ d. eqb d c) cs) enc.types ≡ a.type_of c
  first_place c h =
      let within : a.type_of c < length enc.types = type_within enc.types (length enc.constructors) a c h in
      position_or_len_is (λ cs. list_any (λ d. eqb d c) cs) enc.types (a.type_of c) [] (omega arith)
      (λ j i. let j_within : j < length enc.types = omega arith in at_place c j h j_within ∙ below (a.type_of c) j i)
      (λ i. at_place c (a.type_of c) h i ∙ eq-eqb (a.type_of c) (a.type_of c) refl)

  pub type_is : (c : ℕ) → c < length enc.constructors → type_of enc c ≡ a.type_of c
  type_is c h =
      let within : a.type_of c < length enc.types = type_within enc.types (length enc.constructors) a c h in
      ap (λ i. unwrap_or (cond (ltb i (length enc.types)) (Some i) None) 0) (first_place c h)
      ∙ ap (λ b. unwrap_or (cond b (Some (a.type_of c)) None) 0) (is_below (a.type_of c) (length enc.types) within)
    where
      is_below : (k n : ℕ) → k < n → ltb k n ≡ true
      is_below k n h = grind (arith, nat_tests)

  pub is_of-type : (c t : ℕ) → c < length enc.constructors → is_of enc t c ≡ eqb t (type_of enc c)
  is_of-type c t h = listed_by enc.types (length enc.constructors) a c t h ∙ ap (eqb t) (sym (type_is c h))

  pub type_of-within : (c : ℕ) → c < length enc.constructors → type_of enc c < length enc.types
  type_of-within c h = subst (λ k. k < length enc.types) (sym (type_is c h)) (type_within enc.types (length enc.constructors) a c h)

-- ---- a constructor that is not there

module _ (enc : Encodings) (a : AreTypes enc.types (length enc.constructors)) (c : ℕ) (past : length enc.constructors ≤ c) where
  away : (t d : ℕ) → (d < length enc.constructors) × (a.type_of d ≡ t) → eqb d c ≡ false
  away t d f = let below : d < c = omega (arith, f.0, past) in unlike d c below
    where
      unlike : (d c : ℕ) → d < c → eqb d c ≡ false
      unlike d c h = grind (arith, nat_tests)

  no_place : (t : ℕ) → t < length enc.types → list_any (λ d. eqb d c) (get_or enc.types t []) ≡ false
  no_place t h =
      let cs : List ℕ = get_or enc.types t [] in
      list_any_none (λ d. eqb d c) cs
      (All-weaker (λ d. (d < length enc.constructors) × (a.type_of d ≡ t)) (λ d. eqb d c ≡ false) (away t) cs (a.each t cs (slice_get-get_or enc.types t [] h)).1)

  pub type_past : type_of enc c ≡ 0
  type_past =
      let all : position_or_len (λ cs. list_any (λ d. eqb d c) cs) enc.types ≡ length enc.types =
      position_or_len_is (λ cs. list_any (λ d. eqb d c) cs) enc.types (length enc.types) [] (omega arith) no_place (λ i. absurd (omega (arith, i))) in
      ap (λ i. unwrap_or (cond (ltb i (length enc.types)) (Some i) None) 0) all ∙ ap (λ b. unwrap_or (cond b (Some (length enc.types)) None) 0) (not_below (length enc.types))
    where
      not_below : (n : ℕ) → ltb n n ≡ false
      not_below n = grind (arith, nat_tests)

-- ---- the width of the first template of each type

-- a template more
pub type_width-more : (g : Given) (enc : Encodings) (m : Made) (t : ℕ) → type_width (with_made g m) enc t ≡ option_or (type_width g enc t) (cond (is_of enc t m.constructor) (Some m.width) None)
type_width-more g enc m t =
    ap (option_map (λ m. m.width)) (find-append (λ m. is_of enc t m.constructor) g.templates (m ∷ []))
    ∙ by (find (λ m. is_of enc t m.constructor) g.templates) (is_of enc t m.constructor)
  where
    by : (o : Option Made) (b : Bool) → option_map (λ m. m.width) (option_or o (cond b (Some m) None)) ≡ option_or (option_map (λ m. m.width) o) (cond b (Some m.width) None)
    by (Some x) b = refl
    by None true = refl
    by None false = refl

-- a width put in
in_place : (x : Option ℕ) → x ≡ option_or x None
in_place x = sym (or_none x)

module _ (ws : List (Option ℕ)) (t w s : ℕ) (h : t < length ws) where
  -- at another type
  elsewhere : eqb s t ≡ false → unwrap_or (slice_get ws s) None ≡ option_or (unwrap_or (slice_get ws s) None) (cond (eqb s t) (Some w) None)
  elsewhere e = in_place (unwrap_or (slice_get ws s) None) ∙ ap (λ b. option_or (unwrap_or (slice_get ws s) None) (cond b (Some w) None)) (sym e)

  -- at a type that has one
  kept_there : (v : ℕ) → slice_get ws t ≡ Some (Some v) → (eqb s t ≡ true) ⊎ (eqb s t ≡ false)
      → unwrap_or (slice_get ws s) None ≡ option_or (unwrap_or (slice_get ws s) None) (cond (eqb s t) (Some w) None)
  kept_there v e (inr n) = elsewhere n
  kept_there v e (inl y) =
      let at : slice_get ws s ≡ Some (Some v) = ap (slice_get ws) (eqb-true s t y) ∙ e in
      rw at refl

  -- at a type that has none
  put_there : slice_get ws t ≡ Some None → (eqb s t ≡ true) ⊎ (eqb s t ≡ false)
      → unwrap_or (slice_get (slice_set ws t (Some w)) s) None ≡ option_or (unwrap_or (slice_get ws s) None) (cond (eqb s t) (Some w) None)
  put_there e (inl y) =
      let same : s ≡ t = eqb-true s t y in
      let new : get_or (slice_set ws t (Some w)) s None ≡ Some w = ap (λ i. get_or (slice_set ws t (Some w)) i None) same ∙ get_or-set_same ws t (Some w) None h in
      let old : slice_get ws s ≡ Some None = ap (slice_get ws) same ∙ e in
      unwrap_or-slice_get (slice_set ws t (Some w)) s None ∙ new ∙ sym (ap (λ o. option_or (unwrap_or o None) (cond (eqb s t) (Some w) None)) old ∙ ap (λ b. cond b (Some w) None) y)
  put_there e (inr n) =
      let other : s ≢ t = λ same. true≢false (sym (eq-eqb s t same) ∙ n) in
      unwrap_or-slice_get (slice_set ws t (Some w)) s None ∙ get_or-set_other ws t s (Some w) None other ∙ sym (unwrap_or-slice_get ws s None) ∙ elsewhere n

  put_found : (o : Option (Option ℕ)) → slice_get ws t ≡ o
      → unwrap_or (slice_get (width_put ws t w o) s) None ≡ option_or (unwrap_or (slice_get ws s) None) (cond (eqb s t) (Some w) None)
  put_found None e = absurd (none-some (get_or ws t None) (sym e ∙ slice_get-get_or ws t None h))
  put_found (Some None) e = put_there e (cases_Bool (eqb s t))
  put_found (Some (Some v)) e = kept_there v e (cases_Bool (eqb s t))

  pub with_width-found : unwrap_or (slice_get (with_width ws t w) s) None ≡ option_or (unwrap_or (slice_get ws s) None) (cond (eqb s t) (Some w) None)
  with_width-found = put_found (slice_get ws t) refl

length-put : (ws : List (Option ℕ)) (t w : ℕ) (o : Option (Option ℕ)) → length (width_put ws t w o) ≡ length ws
length-put ws t w None = refl
length-put ws t w (Some None) = simp length-set
length-put ws t w (Some (Some v)) = refl

pub length-with_width : (ws : List (Option ℕ)) (t w : ℕ) → length (with_width ws t w) ≡ length ws
length-with_width ws t w = length-put ws t w (slice_get ws t)

-- what stays true with a template more
pub holds_more : (enc : Encodings) (old new : State) (m : Made) → IsSoundEncodings enc → Holds enc old → m.constructor < length enc.constructors
    → template_for (shown old) m.constructor ≡ None → new.stands ≡ old.stands → new.types ≡ old.types
    → new.tables ≡ old.tables → shown new ≡ with_made (shown old) m → new.widths ≡ with_width old.widths (type_of enc m.constructor) m.width → Holds enc new
holds_more enc old new m sound h there none stands types tables step widths =
    let t : ℕ = type_of enc m.constructor in
    let within : t < length old.widths = subst (λ n. t < n) (sym h.count) (type_of-within enc sound.types m.constructor there) in
    record {
      cells = subst AreCellsNamed (sym tables) h.cells;
      types = subst (AreTyped enc) (sym types) h.types;
      stood = λ s r e. subst (λ g. AreStood enc g s r) (sym step)
          (stood_still (shown old) m none enc s r (h.stood s r (ap (λ ws. slice_get ws s) (sym stands) ∙ e)));
      count = ap length widths ∙ length-with_width old.widths t m.width ∙ h.count;
      widths = λ s. ap (λ ws. unwrap_or (slice_get ws s) None) widths ∙ with_width-found old.widths t m.width s within
          ∙ ap (λ o. option_or o (cond (eqb s t) (Some m.width) None)) (h.widths s)
          ∙ ap (λ b. option_or (type_width (shown old) enc s) (cond b (Some m.width) None)) (sym (is_of-type enc sound.types m.constructor s there))
          ∙ sym (type_width-more (shown old) enc m s) ∙ ap (λ g. type_width g enc s) (sym step);
    }
