-- Forms of which templates are put in one after another.
use Rattle.std.proofs.Common.{◌≡◌, ℕ, zero, suc, ◌+◌, ◌<◌, ◌≤◌, Bool, true, false, cond, List, [], ◌∷◌, ◌++◌, length, Some, eqb, eq-eqb, unwrap_or, refl, sym, ap, ◌∙◌, arith}
use Rattle.std.specs.Prelude.{option_map}
use Rattle.std.proofs.Common.{get_or}
use Rattle.std.proofs.Math.ListN.{set}
use Rattle.std.proofs.lemmas.List.{append-nil, append_assoc}
use Rattle.std.proofs.lemmas.Bool.Decides.{nat_tests}
use Rattle.rtl_core.specs.declared.encodings.Coded.{Coded}
use Rattle.rtl_core.specs.declared.machine.Form.{Form}
use Rattle.rtl_core.specs.declared.template.Template.{Template}
use Rattle.rtl_core.specs.declared.template.Template.TheVariants.{Acts}
use Rattle.ssl_rules.specs.Given.{Given, Made}
use Rattle.ssl_rules.specs.Machines.{form_of, forms_from}
use Rattle.ssl_core.specs.Shown.{made_for}
use Rattle.ssl_core.specs.Forms.{made_forms, with_template}

pub made_forms-from : (g : Given) (c : ℕ) (ks : List Coded) → made_forms g.templates c ks ≡ forms_from g c ks
made_forms-from g c [] = refl
made_forms-from g c (k ∷ ks) = ap (λ r. form_of g c k ∷ r) (made_forms-from g (c + 1) ks)

abbrev form_at : List Made → ℕ → Coded → Form
form_at ms c k = record { kinds = k.kinds; template = unwrap_or (option_map (λ m. m.template) (made_for ms c)) (Acts []) }

unlike : (a b : ℕ) → a < b → eqb a b ≡ false
unlike a b h = grind (arith, nat_tests)

unlike_more : (a c j : ℕ) → a ≡ c + suc j → eqb a c ≡ false
unlike_more a c j h = grind (arith, nat_tests)

-- a template of a constructor before these changes nothing
passed : (m : Made) (ms : List Made) (c : ℕ) (ks : List Coded) → m.constructor < c → made_forms (m ∷ ms) c ks ≡ made_forms ms c ks
passed m ms c [] h = refl
passed m ms c (k ∷ ks) h =
    let more : m.constructor < c + 1 = omega arith in
    ap (λ b. record { kinds = k.kinds; template = unwrap_or (option_map (λ m. m.template) (cond b (Some m) (made_for ms c))) (Acts []) } ∷ made_forms (m ∷ ms) (c + 1) ks)
    (unlike m.constructor c h) ∙ ap (λ r. form_at ms c k ∷ r) (passed m ms (c + 1) ks more)

-- one template more, in front of the others
pub put_made : (m : Made) (ms : List Made) (c : ℕ) (ks : List Coded) (j : ℕ) → m.constructor ≡ c + j
    → with_template (made_forms ms c ks) j m.template ≡ made_forms (m ∷ ms) c ks
put_made m ms c [] j h = refl
put_made m ms c (k ∷ ks) zero h =
    let same : m.constructor ≡ c = omega arith in
    let below : m.constructor < c + 1 = omega arith in
    let head : List Form → Bool → List Form = λ r b. record { kinds = k.kinds; template = unwrap_or (option_map (λ m. m.template) (cond b (Some m) (made_for ms c))) (Acts []) } ∷ r in
    ap (λ r. head r true) (sym (passed m ms (c + 1) ks below)) ∙ ap (head (made_forms (m ∷ ms) (c + 1) ks)) (sym (eq-eqb m.constructor c same))
put_made m ms c (k ∷ ks) (suc j) h =
    let rest : m.constructor ≡ c + 1 + j = omega arith in
    let head : List Form → Bool → List Form = λ r b. record { kinds = k.kinds; template = unwrap_or (option_map (λ m. m.template) (cond b (Some m) (made_for ms c))) (Acts []) } ∷ r in
    ap (λ r. head r false) (put_made m ms (c + 1) ks j rest) ∙ ap (head (made_forms (m ∷ ms) (c + 1) ks)) (sym (unlike_more m.constructor c j h))

-- the forms with the templates behind these put in
pub record HaveForms (all : List Made) (ks : List Coded) (rest : List Made) (forms : List Form) : Type 0 where
  pub behind : List Made
  pub whole : all ≡ rest ++ behind
  pub made : forms ≡ made_forms behind 0 ks

pub forms_none : (all : List Made) (ks : List Coded) (forms : List Form) → forms ≡ made_forms [] 0 ks → HaveForms all ks all forms
forms_none all ks forms h = record { behind = []; whole = sym (append-nil all); made = h }

pub forms_more : (all : List Made) (ks : List Coded) (old new : List Made) (m : Made) (forms next : List Form) → HaveForms all ks old forms → old ≡ new ++ m ∷ []
    → next ≡ with_template forms m.constructor m.template → HaveForms all ks new next
forms_more all ks old new m forms next h e step = record {
  behind = m ∷ h.behind;
  whole = h.whole ∙ ap (λ l. l ++ h.behind) e ∙ append_assoc new (m ∷ []) h.behind;
  made = step ∙ ap (λ fs. with_template fs m.constructor m.template) h.made ∙ put_made m h.behind 0 ks m.constructor (omega arith);
}

pub forms_all : (all : List Made) (ks : List Coded) (rest : List Made) (forms : List Form) → HaveForms all ks rest forms → rest ≡ [] → forms ≡ made_forms all 0 ks
forms_all all ks rest forms h e = h.made ∙ ap (λ ms. made_forms ms 0 ks) (sym (h.whole ∙ ap (λ l. l ++ h.behind) e))

-- ---- a form in place

pub put_within : (fs : List Form) (at : ℕ) (t : Template) (f d : Form) → at < length fs → f ≡ get_or fs at d → set fs at (record { kinds = f.kinds; template = t }) ≡ with_template fs at t
put_within [] at t f d h e = absurd (omega arith)
put_within (x ∷ fs) zero t f d h e = ap (λ (g : Form). record { kinds = g.kinds; template = t } ∷ fs) e
put_within (x ∷ fs) (suc at) t f d h e = let less : at < length fs = omega arith in ap (λ r. x ∷ r) (put_within fs at t f d less e)

pub put_past : (fs : List Form) (at : ℕ) (t : Template) → length fs ≤ at → fs ≡ with_template fs at t
put_past [] at t h = refl
put_past (x ∷ fs) zero t h = absurd (omega arith)
put_past (x ∷ fs) (suc at) t h = let less : length fs ≤ at = omega arith in ap (λ r. x ∷ r) (put_past fs at t less)
