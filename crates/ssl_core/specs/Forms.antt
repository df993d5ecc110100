-- Forms of which templates are put in one after another.
use Rattle.std.specs.Prelude.{ℕ, zero, suc, ◌+◌, List, [], ◌∷◌, option_map, unwrap_or}
use Rattle.rtl_core.specs.declared.encodings.Coded.{Coded}
use Rattle.rtl_core.specs.declared.machine.Form.{Form}
use Rattle.rtl_core.specs.declared.template.Template.{Template}
use Rattle.rtl_core.specs.declared.template.Template.TheVariants.{Acts}
use Rattle.ssl_rules.specs.Given.{Made}
use Rattle.ssl_core.specs.Shown.{made_for}

-- the forms of constructors, counted from c on, by these templates
abbrev pub made_forms : List Made → ℕ → List Coded → List Form
made_forms ms c [] = []
made_forms ms c (k ∷ ks) = record { kinds = k.kinds; template = unwrap_or (option_map (λ m. m.template) (made_for ms c)) (Acts []) } ∷ made_forms ms (c + 1) ks

-- the template of the form at a place, put in
abbrev pub with_template : List Form → ℕ → Template → List Form
with_template [] at t = []
with_template (f ∷ fs) zero t = record f { template = t } ∷ fs
with_template (f ∷ fs) (suc at) t = f ∷ with_template fs at t
