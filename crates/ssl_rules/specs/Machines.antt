-- The machine that lines describe.
use Rattle.std.specs.Prelude.{ℕ, ◌+◌, false, List, [], ◌∷◌, unwrap_or, Option, Some, None, option_map, Result, Ok, Err}
use Rattle.ssl_syntax.specs.declared.line.SslLine.{SslLine}
use Rattle.rtl_core.specs.declared.encodings.Encodings.{Encodings}
use Rattle.rtl_core.specs.declared.encodings.Coded.{Coded}
use Rattle.rtl_core.specs.declared.machine.Form.{Form}
use Rattle.rtl_core.specs.declared.machine.Machine.{Machine}
use Rattle.rtl_core.specs.declared.machine.NamedMachine.{NamedMachine}
use Rattle.rtl_core.specs.declared.template.Template.TheVariants.{Acts}
use Rattle.ssl_rules.specs.declared.fault.SslFault.{SslFault}
use Rattle.ssl_rules.specs.Given.{Given, given_by, template_for, constructors_of, most_of}
use Rattle.ssl_rules.specs.Faults.{fault_of}

-- a constructor's operands and its template
abbrev pub form_of : Given → ℕ → Coded → Form
form_of g c k = record { kinds = k.kinds; template = unwrap_or (option_map (λ m. m.template) (template_for g c)) (Acts []) }

-- the forms of constructors, counted from c on
abbrev pub forms_from : Given → ℕ → List Coded → List Form
forms_from g c [] = []
forms_from g c (k ∷ ks) = form_of g c k ∷ forms_from g (c + 1) ks

abbrev pub machine_of : Encodings → Given → Machine
machine_of enc g = record {
  order = enc.order;
  align = unwrap_or g.align false;
  delay = unwrap_or g.delay None;
  widths = g.tables.widths;
  zero = g.zeroed;
  windows = g.windows;
  files = g.tables.files;
  forms = forms_from g 0 enc.constructors;
  types = enc.types;
  most_nodes = most_of (λ m. m.read) g (constructors_of enc 0);
}

-- the machine and the names of its cells
abbrev pub named_machine : Encodings → Given → NamedMachine
named_machine enc g = record { machine = machine_of enc g; names = g.tables.cells }

-- what lines come to: their machine where no check fails, else the first fault
abbrev pub normal : Encodings → List SslLine → Result NamedMachine SslFault
normal enc lines = answer (fault_of enc lines)
  where
    answer : Option SslFault → Result NamedMachine SslFault
    answer None = Ok (named_machine enc (given_by enc lines))
    answer (Some fault) = Err fault
