-- The machine, part by part.
use Rattle.std.proofs.Common.{◌≡◌, ℕ, Bool, false, List, Option, None, ap, ◌∙◌, unwrap_or}
use Rattle.rtl_core.specs.declared.encodings.Coded.{Coded}
use Rattle.rtl_core.specs.declared.encodings.Encodings.{Encodings}
use Rattle.rtl_core.specs.declared.machine.Form.{Form}
use Rattle.rtl_core.specs.declared.machine.NamedMachine.{NamedMachine}
use Rattle.ssl_rules.specs.Given.{Given, constructors_of, most_of}
use Rattle.ssl_rules.specs.Machines.{forms_from, named_machine}
use Rattle.ssl_core.specs.Forms.{made_forms}
use Rattle.ssl_core.proofs.FormLemmas.{made_forms-from}

abbrev pub assembled : Encodings → Given → Bool → Option ℕ → List Form → List (List ℕ) → ℕ → NamedMachine
assembled enc g align delay forms types most = record {
  machine = record {
    order = enc.order;
    align = align;
    delay = delay;
    widths = g.tables.widths;
    zero = g.zeroed;
    windows = g.windows;
    files = g.tables.files;
    forms = forms;
    types = types;
    most_nodes = most;
  };
  names = g.tables.cells;
}

pub machine_is : (enc : Encodings) (g : Given) (align : Bool) (delay : Option ℕ) (forms : List Form) (types items : List (List ℕ)) (most : ℕ) (ks : List Coded) (cs : List ℕ)
    → align ≡ unwrap_or g.align false → delay ≡ unwrap_or g.delay None → forms ≡ made_forms g.templates 0 ks → ks ≡ enc.constructors → types ≡ items → items ≡ enc.types
    → most ≡ most_of (λ m. m.read) g cs → cs ≡ constructors_of enc 0 → assembled enc g align delay forms types most ≡ named_machine enc g
machine_is enc g align delay forms types items most ks cs a d f k t i m c =
    ap (λ x. assembled enc g x delay forms types most) a
    ∙ ap (λ x. assembled enc g (unwrap_or g.align false) x forms types most) d
    ∙ ap (λ x. assembled enc g (unwrap_or g.align false) (unwrap_or g.delay None) x types most) (f ∙ ap (made_forms g.templates 0) k ∙ made_forms-from g 0 enc.constructors)
    ∙ ap (λ x. assembled enc g (unwrap_or g.align false) (unwrap_or g.delay None) (forms_from g 0 enc.constructors) x most) (t ∙ i)
    ∙ ap (assembled enc g (unwrap_or g.align false) (unwrap_or g.delay None) (forms_from g 0 enc.constructors) enc.types) (m ∙ ap (most_of (λ m. m.read) g) c)
