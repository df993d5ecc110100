-- The machine of all lines, and that the typed operands of a line stand for what they stand for in the end.
use Rattle.std.proofs.Common.{◌≡◌, ℕ, zero, suc, ◌+◌, ◌<◌, ◌==◌, Bool, true, false, max, List, [], ◌∷◌, length, find, cond, Option, Some, None, refl, sym, ap, ◌∙◌, subst, arith}
use Rattle.std.proofs.lemmas.Bool.{and_parts, eq-eqb, eqb-true, or_left, false≢true}
use Rattle.std.proofs.lemmas.Option.{none-some, same_Some}
use Rattle.std.proofs.lemmas.List.Elements.{All-nil, All-cons}
use Rattle.std.specs.Prelude.{slice_get, is_some, unwrap_or, option_map, All}
use Rattle.std.specs.List.{list_all, list_any}
use Rattle.rtl_core.specs.declared.encodings.OperandKind.{OperandKind}
use Rattle.rtl_core.specs.declared.encodings.OperandKind.TheVariants as kind
use Rattle.rtl_core.specs.declared.encodings.Coded.{Coded}
use Rattle.rtl_core.specs.declared.encodings.Encodings.{Encodings}
use Rattle.rtl_core.specs.declared.machine.Form.{Form}
use Rattle.rtl_core.specs.declared.template.Template.{Template}
use Rattle.rtl_core.specs.declared.template.Template.TheVariants.{Acts}
use Rattle.rtl_core.specs.SoundTemplates.{is_place, IsPlaceType}
use Rattle.ssl_rules.specs.Given.{Given, Made, template_for, has_template, constructors_of, is_of, type_width, most_of, is_place_type, stands_for}
use Rattle.ssl_rules.specs.Machines.{machine_of, form_of, forms_from}
use Rattle.ssl_sound.proofs.Good.{Frame, IsRight}
use Rattle.ssl_sound.proofs.Runs.{Extends}

-- the machine, the width of each type and the most nodes of each type
abbrev pub frame_of : Encodings → Given → Frame
frame_of enc G = record {
  machine = machine_of enc G;
  stands = λ t. unwrap_or (type_width G enc t) 0;
  counts = record { read = λ t. most_of (λ m. m.read) G (constructors_of enc t); assigned = λ t. most_of (λ m. m.assigned) G (constructors_of enc t) };
}

pub some-is : {A : Type 0} (o : Option A) (d : A) → is_some o ≡ true → o ≡ Some (unwrap_or o d)
some-is None d e = absurd (false≢true e)
some-is (Some x) d e = refl

-- ---- the most nodes

at-same : (enc : Encodings) (g G : Given) → Extends enc g G → (count : Made → ℕ) (c : ℕ) (o : Option Made) → template_for g c ≡ o → is_some o ≡ true
    → unwrap_or (option_map count (template_for G c)) 0 ≡ unwrap_or (option_map count o) 0
at-same enc g G x count c None is e = absurd (false≢true e)
at-same enc g G x count c (Some m) is e = ap (λ o. unwrap_or (option_map count o) 0) (x.templates c m is)

pub most-same : (enc : Encodings) (g G : Given) → Extends enc g G → (count : Made → ℕ) (cs : List ℕ) → list_all (has_template g) cs ≡ true → most_of count G cs ≡ most_of count g cs
most-same enc g G x count [] e = refl
most-same enc g G x count (c ∷ cs) e =
    let t = and_parts (has_template g c) (list_all (has_template g) cs) e in
    ap (λ n. max n (most_of count G cs)) (at-same enc g G x count c (template_for g c) refl t.0)
    ∙ ap (λ n. max (unwrap_or (option_map count (template_for g c)) 0) n) (most-same enc g G x count cs t.1)

-- ---- widths

found-by : {A : Type 0} (x : A) (r s : Option A) (a b : Bool) → (a ≡ true → b ≡ true) → is_some (cond a (Some x) r) ≡ true → (is_some r ≡ true → is_some s ≡ true)
    → is_some (cond b (Some x) s) ≡ true
found-by x r s a true implies e rest = refl
found-by x r s true false implies e rest = absurd (false≢true (implies refl))
found-by x r s false false implies e rest = rest e

some-map : {A B : Type 0} (f : A → B) (o : Option A) → is_some o ≡ true → is_some (option_map f o) ≡ true
some-map f None e = e
some-map f (Some x) e = refl

is_some-find : {A : Type 0} (p q : A → Bool) → ((x : A) → p x ≡ true → q x ≡ true) → (xs : List A) → is_some (find p xs) ≡ true → is_some (find q xs) ≡ true
is_some-find p q implies [] e = e
is_some-find p q implies (x ∷ xs) e = found-by x (find p xs) (find q xs) (p x) (q x) (implies x) e (is_some-find p q implies xs)

pub type_width-there : (enc : Encodings) (g : Given) (t c : ℕ) → is_of enc t c ≡ true → has_template g c ≡ true → is_some (type_width g enc t) ≡ true
type_width-there enc g t c of has =
    some-map (λ m. m.width) (find (λ m. is_of enc t m.constructor) g.templates)
    (is_some-find (λ m. m.constructor == c) (λ m. is_of enc t m.constructor) (λ m e. ap (is_of enc t) (eqb-true m.constructor c e) ∙ of) g.templates has)

-- ---- places

place-at : (enc : Encodings) (g G : Given) → Extends enc g G → (c : ℕ) (o : Option Made) → template_for g c ≡ o → unwrap_or (option_map (λ m. is_place m.template) o) false ≡ true
    → is_place (unwrap_or (option_map (λ m. m.template) (template_for G c)) (Acts [])) ≡ true
place-at enc g G x c None is e = absurd (false≢true e)
place-at enc g G x c (Some m) is e = ap (λ o. is_place (unwrap_or (option_map (λ m. m.template) o) (Acts []))) (x.templates c m is) ∙ e

-- a form is that of the constructor that stands at its place
pub record IsFormAt (G : Given) (ks : List Coded) (n c : ℕ) (form : Form) : Type 0 where
  pub coded : Coded
  pub is : slice_get ks c ≡ Some coded
  pub same : form_of G n coded ≡ form

pub form-at : (G : Given) (from c : ℕ) (ks : List Coded) (form : Form) → slice_get (forms_from G from ks) c ≡ Some form → IsFormAt G ks (from + c) c form
form-at G from c [] form e = absurd (none-some form e)
form-at G from zero (k ∷ ks) form e =
    let zero_ : from ≡ from + 0 = omega arith in
    subst (λ n. IsFormAt G (k ∷ ks) n 0 form) zero_ (record { coded = k; is = refl; same = same_Some (form_of G from k) form e })
form-at G from (suc c) (k ∷ ks) form e =
    let next : from + 1 + c ≡ from + suc c = omega arith in
    let rest = form-at G (from + 1) c ks form e in
    subst (λ n. IsFormAt G (k ∷ ks) n (suc c) form) next (record { coded = rest.coded; is = rest.is; same = rest.same })

pub zero-and : (c : ℕ) → 0 + c ≡ c
zero-and c = omega arith

place-form : (enc : Encodings) (g G : Given) → Extends enc g G → (c : ℕ) → unwrap_or (option_map (λ m. is_place m.template) (template_for g c)) false ≡ true
    → (form : Form) → slice_get (machine_of enc G).forms c ≡ Some form → is_place form.template ≡ true
place-form enc g G x c e form is =
    let at : ℕ → Template = λ n. unwrap_or (option_map (λ m. m.template) (template_for G n)) (Acts []) in
    let f = form-at G 0 c enc.constructors form is in
    ap is_place (sym (ap (λ (f : Form). f.template) f.same) ∙ ap at (zero-and c)) ∙ place-at enc g G x c (template_for g c) refl e

places : (enc : Encodings) (g G : Given) → Extends enc g G → (cs : List ℕ) → is_place_type g cs ≡ true
    → All (λ c. (form : Form) → slice_get (machine_of enc G).forms c ≡ Some form → is_place form.template ≡ true) cs
places enc g G x [] e = All-nil (λ c. (form : Form) → slice_get (machine_of enc G).forms c ≡ Some form → is_place form.template ≡ true)
places enc g G x (c ∷ cs) e =
    let t = and_parts (unwrap_or (option_map (λ m. is_place m.template) (template_for g c)) false) (is_place_type g cs) e in
    All-cons (λ c. (form : Form) → slice_get (machine_of enc G).forms c ≡ Some form → is_place form.template ≡ true) c cs (place-form enc g G x c t.0) (places enc g G x cs t.1)

pub place-type : (enc : Encodings) (g G : Given) → Extends enc g G → (t : ℕ) → is_place_type g (constructors_of enc t) ≡ true → IsPlaceType (machine_of enc G) t
place-type enc g G x t e cs is = places enc g G x cs (ap (λ o. is_place_type g (unwrap_or o [])) (sym is) ∙ e)

-- ---- an operand of a type whose constructors all have templates

first-of : (enc : Encodings) (g : Given) (t : ℕ) (cs : List ℕ) → constructors_of enc t ≡ cs → 0 < length cs → list_all (has_template g) cs ≡ true → is_some (type_width g enc t) ≡ true
first-of enc g t [] is some all = absurd (omega arith)
first-of enc g t (c ∷ cs) is some all =
    let t0 = and_parts (has_template g c) (list_all (has_template g) cs) all in
    type_width-there enc g t c (ap (list_any (λ d. d == c)) is ∙ or_left (c == c) (list_any (λ d. d == c) cs) (eq-eqb c c refl)) t0.0

pub operand-right : (enc : Encodings) (g G : Given) → Extends enc g G → (kinds : List OperandKind) (k t : ℕ) → slice_get kinds k ≡ Some (kind.Typed (suc t))
    → 0 < length (constructors_of enc (suc t)) → list_all (has_template g) (constructors_of enc (suc t)) ≡ true → IsRight (frame_of enc G) kinds k (stands_for g enc (suc t))
operand-right enc g G x kinds k t is some all =
    let w = some-is (type_width g enc (suc t)) 0 (first-of enc g (suc t) (constructors_of enc (suc t)) refl some all) in
    record {
      type = t;
      is = is;
      width = ap (λ o. unwrap_or o 0) (x.type_width (suc t) (unwrap_or (type_width g enc (suc t)) 0) w);
      read = most-same enc g G x (λ m. m.read) (constructors_of enc (suc t)) all;
      assigned = most-same enc g G x (λ m. m.assigned) (constructors_of enc (suc t)) all;
      place = place-type enc g G x (suc t);
    }
