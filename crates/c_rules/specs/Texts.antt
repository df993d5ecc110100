-- A C text from its parts, and what a fault tells of it.
use Rattle.std.specs.Prelude.{ℕ, List, [], ◌∷◌, ◌++◌, Option, option_map}
use Rattle.c_lang.specs.Items.{Text, Item, Declared, Defined, Main, numbered}
use Rattle.c_rules.specs.declared.parts.Parts.{Parts}
use Rattle.c_rules.specs.declared.rules.Broken.{Broken}

-- the text of these parts
abbrev pub text : Parts → Text
text p = record {
  machine = p.machine;
  segments = p.segments;
  table = p.table;
  prototypes = p.prototypes;
  functions = p.functions;
  entry = p.entry;
  first = p.first;
}

-- prototypes, functions and the first call
abbrev pub code_items : Text → List Item
code_items t = numbered Declared 0 t.prototypes ++ (numbered Defined 0 t.functions ++ Main t.entry t.first ∷ [])

-- an item and a rule
abbrev pub told : Option Broken → Option (ℕ × ℕ)
told found = option_map (λ b. (b.item, b.rule)) found
