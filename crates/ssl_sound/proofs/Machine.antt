-- The machine of lines without a fault: every form is sound, and counted right.
use Rattle.std.proofs.Common.{◌≡◌, ℕ, zero, suc, ◌+◌, ◌<◌, ◌≤◌, ◌==◌, Bool, true, false, cond, max, List, [], ◌∷◌, fold, find, length, Option, Some, None, refl, sym, ap, ◌∙◌, subst, arith}
use Rattle.std.proofs.lemmas.Bool.{eqb-true}
use Rattle.std.proofs.lemmas.List.Elements.{All-nil, All-head, All-tail, All-weaker}
use Rattle.std.proofs.lemmas.Option.{none-some, same_Some, slice_get_within}
use Rattle.std.specs.Prelude.{All, slice_get, unwrap_or, option_map}
use Rattle.ssl_syntax.specs.declared.line.SslLine.{SslLine}
use Rattle.ssl_syntax.specs.Texts.{is_line}
use Rattle.rtl_core.specs.declared.encodings.Coded.{Coded}
use Rattle.rtl_core.specs.declared.encodings.Encodings.{Encodings}
use Rattle.rtl_core.specs.declared.machine.Form.{Form}
use Rattle.rtl_core.specs.declared.template.Template.{Template}
use Rattle.rtl_core.specs.declared.template.Template.TheVariants.{Acts}
use Rattle.rtl_core.specs.SoundEncodings.{IsSoundEncodings}
use Rattle.rtl_core.specs.SoundMachine.{IsSoundForm}
use Rattle.rtl_core.specs.TemplateNodes.{IsCounted, form_nodes, form_target, greatest}
use Rattle.ssl_rules.specs.declared.fault.SslFault.{SslFault}
use Rattle.ssl_rules.specs.declared.fault.SslFault.TheVariants.{Missing}
use Rattle.ssl_rules.specs.Given.{Given, Made, nothing_given, given_by, with_body, template_for, has_template, kinds_of, type_of, most_of}
use Rattle.ssl_rules.specs.Faults.{body_fault, first_fault, missing_from, fault_of}
use Rattle.ssl_rules.specs.Machines.{form_of, forms_from, machine_of}
use Rattle.ssl_rules.proofs.FineLines.{fine_line}
use Rattle.ssl_sound.proofs.Good.{Frame, IsGoodFunction}
use Rattle.ssl_sound.proofs.Measures.{none_parts}
use Rattle.ssl_sound.proofs.Runs.{Extends, extends-body, extends-on, extends-lines}
use Rattle.ssl_sound.proofs.Frames.{frame_of, some-is, form-at, zero-and}
use Rattle.ssl_sound.proofs.GoodTemplates.{IsMade}
use Rattle.ssl_sound.proofs.Constructors.{type_of-is}
use Rattle.ssl_sound.proofs.SoFar.{IsSoundSoFar, nothing-sound, so_far-body}
use Rattle.ssl_sound.proofs.MadeLines.{IsMadeRight, IsGivenRight, right-body}

-- ---- all lines

-- what all lines give
pub record IsWhole (enc : Encodings) (G : Given) : Type 0 where
  pub so_far : IsSoundSoFar G
  pub right : IsGivenRight enc (frame_of enc G) G

lines-whole : (enc : Encodings) → IsSoundEncodings enc → (G : Given) (lines : List SslLine) (g : Given) → first_fault enc g lines ≡ None → All (λ line. is_line line ≡ true) lines
    → IsSoundSoFar g → IsGivenRight enc (frame_of enc G) g → fold (λ h line. with_body enc h line.body) g lines ≡ G → IsWhole enc G
lines-whole enc sound G [] g none formed so_far right e =
    record { so_far = subst IsSoundSoFar e so_far; right = subst (IsGivenRight enc (frame_of enc G)) e right }
lines-whole enc sound G (line ∷ lines) g none formed so_far right e =
    let h : Given = with_body enc g line.body in
    let o = none_parts (body_fault enc g line.number line.body) (first_fault enc h lines) none in
    let p = fine_line enc g line.number line.body o.0 in
    let more : Extends enc h G = subst (Extends enc h) e (extends-lines enc h lines) in
    let grows : Extends enc g G = extends-on enc g h G (extends-body enc g line.body) more in
    lines-whole enc sound G lines h o.1 (All-tail (λ line. is_line line ≡ true) line lines formed) (so_far-body enc g line.body p so_far)
    (right-body enc sound g G line.body p (All-head (λ line. is_line line ≡ true) line lines formed) so_far grows more right) e

pub whole : (enc : Encodings) → IsSoundEncodings enc → (lines : List SslLine) → All (λ line. is_line line ≡ true) lines → fault_of enc lines ≡ None → IsWhole enc (given_by enc lines)
whole enc sound lines formed none =
    let G : Given = given_by enc lines in
    let o = none_parts (first_fault enc nothing_given lines) (missing_from G 0 enc.constructors) none in
    lines-whole enc sound G lines nothing_given o.0 formed nothing-sound
    (record { functions = All-nil (IsGoodFunction (frame_of enc G)); templates = All-nil (IsMadeRight enc (frame_of enc G)) }) refl

-- ---- no constructor is missing

none-else : (t : Bool) (r : Option SslFault) (f : SslFault) → cond t r (Some f) ≡ None → (t ≡ true) × (r ≡ None)
none-else true r f e = (refl, e)
none-else false r f e = absurd (none-some f (sym e))

pub none-missing : (G : Given) (ks : List Coded) (from : ℕ) → missing_from G from ks ≡ None → (c : ℕ) → c < length ks → has_template G (from + c) ≡ true
none-missing G [] from e c below = absurd (omega arith)
none-missing G (k ∷ ks) from e zero below =
    let o = none-else (has_template G from) (missing_from G (from + 1) ks) (Missing from) e in
    let zero_ : from + 0 ≡ from = omega arith in
    ap (has_template G) zero_ ∙ o.0
none-missing G (k ∷ ks) from e (suc c) below =
    let o = none-else (has_template G from) (missing_from G (from + 1) ks) (Missing from) e in
    let next : from + suc c ≡ from + 1 + c = omega arith in
    ap (has_template G) next ∙ none-missing G ks (from + 1) o.1 c (omega arith)

-- ---- forms

found-at : {A : Type 0} (P : A → Type 0) (p : A → Bool) (y : A) (xs : List A) (x : A) (b : Bool) → p y ≡ b → All P (y ∷ xs) → cond b (Some y) (find p xs) ≡ Some x
    → (All P xs → find p xs ≡ Some x → P x × (p x ≡ true)) → P x × (p x ≡ true)
found-at P p y xs x true is all e rest =
    let same : y ≡ x = same_Some y x e in
    (subst P same (All-head P y xs all), ap p (sym same) ∙ is)
found-at P p y xs x false is all e rest = rest (All-tail P y xs all) e

-- what holds of each holds of the one that is found, which passes
found-by : {A : Type 0} (P : A → Type 0) (p : A → Bool) (xs : List A) (x : A) → All P xs → find p xs ≡ Some x → P x × (p x ≡ true)
found-by P p [] x all e = absurd (none-some x e)
found-by P p (y ∷ xs) x all e = found-at P p y xs x (p y) refl all e (found-by P p xs x)

-- the template of a constructor, sound and counted right
pub record IsFormRight (enc : Encodings) (G : Given) (t c : ℕ) (k : Coded) : Type 0 where
  pub template : Made
  pub is : template_for G c ≡ Some template
  pub made : IsMade (frame_of enc G) k.kinds t template.template template.read template.assigned
  pub few : template.read ≤ 256

pub form-right : (enc : Encodings) (sound : IsSoundEncodings enc) (G : Given) → IsGivenRight enc (frame_of enc G) G → missing_from G 0 enc.constructors ≡ None
    → (c : ℕ) (k : Coded) → slice_get enc.constructors c ≡ Some k → IsFormRight enc G (sound.types.type_of c) c k
form-right enc sound G right none c k is =
    let E : Frame = frame_of enc G in
    let below : c < length enc.constructors = slice_get_within enc.constructors c k is in
    let has : has_template G c ≡ true = ap (has_template G) (sym (zero-and c)) ∙ none-missing G enc.constructors 0 none c below in
    let d : Made = record { constructor = c; width = 0; template = Acts []; read = 0; assigned = 0 } in
    let m : Made = unwrap_or (template_for G c) d in
    let there : template_for G c ≡ Some m = some-is (template_for G c) d has in
    let found = found-by (IsMadeRight enc E) (λ m. m.constructor == c) G.templates m right.templates there in
    let at : m.constructor ≡ c = eqb-true m.constructor c found.1 in
    let kinds : kinds_of enc c ≡ k.kinds = ap (λ o. unwrap_or (option_map (λ (k : Coded). k.kinds) o) []) is in
    record {
      template = m;
      is = there;
      made = subst (λ ks. IsMade E ks (sound.types.type_of c) m.template m.read m.assigned) kinds
          (subst (λ t. IsMade E (kinds_of enc c) t m.template m.read m.assigned) (type_of-is enc sound c below)
          (subst (λ n. IsMade E (kinds_of enc n) (type_of enc n) m.template m.read m.assigned) at found.0.made));
      few = found.0.few;
    }

forms-there : (G : Given) (from c : ℕ) (ks : List Coded) (k : Coded) → slice_get ks c ≡ Some k → slice_get (forms_from G from ks) c ≡ Some (form_of G (from + c) k)
forms-there G from c [] k e = absurd (none-some k e)
forms-there G from zero (j ∷ ks) k e =
    let zero_ : from ≡ from + 0 = omega arith in
    ap (λ x. Some (form_of G from x)) (same_Some j k e) ∙ ap (λ n. Some (form_of G n k)) zero_
forms-there G from (suc c) (j ∷ ks) k e =
    let next : from + 1 + c ≡ from + suc c = omega arith in
    forms-there G (from + 1) c ks k e ∙ ap (λ n. Some (form_of G n k)) next

-- a form with this template
form-is : (G : Given) (c : ℕ) (k : Coded) (m : Made) → template_for G c ≡ Some m → form_of G (0 + c) k ≡ record { kinds = k.kinds; template = m.template }
form-is G c k m is =
    let made : Template → Form = λ t. record { kinds = k.kinds; template = t } in
    ap (λ n. form_of G n k) (zero-and c) ∙ ap (λ o. made (unwrap_or (option_map (λ m. m.template) o) (Acts []))) is

not_past : {A : Type 0} (xs : List A) (c : ℕ) → slice_get xs c ≡ None → c < length xs → ⊥
not_past [] c e below = absurd (omega arith)
not_past (x ∷ xs) zero e below = none-some x (sym e)
not_past (x ∷ xs) (suc c) e below = not_past xs c e (omega arith)

module _ (enc : Encodings) (sound : IsSoundEncodings enc) (G : Given) (right : IsGivenRight enc (frame_of enc G) G) (none : missing_from G 0 enc.constructors ≡ None) where
  pub form-sound : (c : ℕ) (form : Form) → slice_get (machine_of enc G).forms c ≡ Some form
      → IsSoundForm (machine_of enc G) sound.most (frame_of enc G).stands (sound.types.type_of c) c form
  form-sound c form is =
      let f = form-at G 0 c enc.constructors form is in
      let r = form-right enc sound G right none c f.coded f.is in
      subst (IsSoundForm (machine_of enc G) sound.most (frame_of enc G).stands (sound.types.type_of c) c)
      (sym (form-is G c f.coded r.template r.is) ∙ f.same)
      (record {
        kinds = (sound.each c f.coded f.is).kinds;
        numbers = (sound.sizes c f.coded f.is).numbers;
        template = r.made.sound;
      })

  -- ---- nodes

  form-at-place : (c : ℕ) (k : Coded) → slice_get enc.constructors c ≡ Some k → (m : Made) → template_for G c ≡ Some m
      → slice_get (machine_of enc G).forms c ≡ Some (record { kinds = k.kinds; template = m.template })
  form-at-place c k is m there = forms-there G 0 c enc.constructors k is ∙ ap (λ f. Some f) (form-is G c k m there)

  read-at : (c : ℕ) (k : Coded) → slice_get enc.constructors c ≡ Some k
      → unwrap_or (option_map (λ m. m.read) (template_for G c)) 0 ≡ form_nodes (frame_of enc G).counts (slice_get (machine_of enc G).forms c)
  read-at c k is =
      let r = form-right enc sound G right none c k is in
      ap (λ o. unwrap_or (option_map (λ m. m.read) o) 0) r.is ∙ sym r.made.read
      ∙ sym (ap (form_nodes (frame_of enc G).counts) (form-at-place c k is r.template r.is))

  assigned-at : (c : ℕ) (k : Coded) → slice_get enc.constructors c ≡ Some k
      → unwrap_or (option_map (λ m. m.assigned) (template_for G c)) 0 ≡ form_target (frame_of enc G).counts (slice_get (machine_of enc G).forms c)
  assigned-at c k is =
      let r = form-right enc sound G right none c k is in
      ap (λ o. unwrap_or (option_map (λ m. m.assigned) o) 0) r.is ∙ sym r.made.assigned
      ∙ sym (ap (form_target (frame_of enc G).counts) (form-at-place c k is r.template r.is))

  most-greatest : (count : Made → ℕ) (of : ℕ → ℕ) (cs : List ℕ) → All (λ c. unwrap_or (option_map count (template_for G c)) 0 ≡ of c) cs → most_of count G cs ≡ greatest of cs
  most-greatest count of [] all = refl
  most-greatest count of (c ∷ cs) all =
      ap (λ n. max n (most_of count G cs)) (All-head (λ c. unwrap_or (option_map count (template_for G c)) 0 ≡ of c) c cs all)
      ∙ ap (max (of c)) (most-greatest count of cs (All-tail (λ c. unwrap_or (option_map count (template_for G c)) 0 ≡ of c) c cs all))

  there-by : (P : ℕ → Type 0) → ((c : ℕ) (k : Coded) → slice_get enc.constructors c ≡ Some k → P c) → (c : ℕ) (o : Option Coded) → slice_get enc.constructors c ≡ o → c < length enc.constructors → P c
  there-by P holds c None is below = absurd (not_past enc.constructors c is below)
  there-by P holds c (Some k) is below = holds c k is

  -- each constructor of a type is there
  each-there : (P : ℕ → Type 0) → ((c : ℕ) (k : Coded) → slice_get enc.constructors c ≡ Some k → P c) → (t : ℕ) (cs : List ℕ) → slice_get enc.types t ≡ Some cs → All P cs
  each-there P holds t cs is =
      All-weaker (λ c. (c < length enc.constructors) × (sound.types.type_of c ≡ t)) P
      (λ c h. there-by P holds c (slice_get enc.constructors c) refl h.0)
      cs (sound.types.each t cs is).1

  few-at : (c : ℕ) (o : Option Form) → slice_get (machine_of enc G).forms c ≡ o → form_nodes (frame_of enc G).counts o ≤ 256
  few-at c None is = omega arith
  few-at c (Some form) is =
      let f = form-at G 0 c enc.constructors form is in
      let r = form-right enc sound G right none c f.coded f.is in
      subst (λ x. form_nodes (frame_of enc G).counts (Some x) ≤ 256) (sym (form-is G c f.coded r.template r.is) ∙ f.same)
      (subst (λ n. n ≤ 256) (sym r.made.read) r.few)

  pub counted : IsCounted (machine_of enc G)
  counted = record {
    counts = (frame_of enc G).counts;
    read = λ t cs is.
        ap (λ o. most_of (λ m. m.read) G (unwrap_or o [])) is
        ∙ most-greatest (λ m. m.read) (λ c. form_nodes (frame_of enc G).counts (slice_get (machine_of enc G).forms c)) cs
        (each-there (λ c. unwrap_or (option_map (λ m. m.read) (template_for G c)) 0 ≡ form_nodes (frame_of enc G).counts (slice_get (machine_of enc G).forms c)) read-at t cs is);
    assigned = λ t cs is.
        ap (λ o. most_of (λ m. m.assigned) G (unwrap_or o [])) is
        ∙ most-greatest (λ m. m.assigned) (λ c. form_target (frame_of enc G).counts (slice_get (machine_of enc G).forms c)) cs
        (each-there (λ c. unwrap_or (option_map (λ m. m.assigned) (template_for G c)) 0 ≡ form_target (frame_of enc G).counts (slice_get (machine_of enc G).forms c)) assigned-at t cs is);
    few = λ c. few-at c (slice_get (machine_of enc G).forms c) refl;
    most = refl;
  }
