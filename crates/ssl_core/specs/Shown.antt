-- Templates as code keeps them.
use Rattle.std.specs.Prelude.{ℕ, ◌==◌, List, map, find, Option}
use Rattle.rtl_core.specs.SoundTemplates.{is_place}
use Rattle.ssl_rules.specs.Given.{Made}
use Rattle.ssl_core.specs.declared.templates.Built.{Built}
use Rattle.ssl_core.specs.declared.templates.Facts.{Facts}
use Rattle.ssl_core.specs.declared.templates.Templates.{Templates}

-- a constructor's template
abbrev pub made_of : ℕ → Built → Made
made_of c b = record { constructor = c; width = b.width; template = b.template; read = b.read; assigned = b.assigned }

-- templates, in the order in which they were added
abbrev pub made_list : Templates → List Made
made_list t = map (λ e. made_of e.0 e.1) t.built.entries

-- the first template of a constructor
abbrev pub made_for : List Made → ℕ → Option Made
made_for ms c = find (λ m. m.constructor == c) ms

-- what lines ask of a template
abbrev pub facts_of : Made → Facts
facts_of m = record { place = is_place m.template; read = m.read; assigned = m.assigned }
