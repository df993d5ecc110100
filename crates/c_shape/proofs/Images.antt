-- The segments, the heap and the stack of a program.
use Rattle.std.proofs.Common.{◌≡◌, List, [], ◌∷◌, ◌++◌, map, Option, Some, None, refl, ap, ◌∙◌}
use Rattle.rtl_core.specs.declared.conv.Conv.{Conv}
use Rattle.rtl_core.specs.declared.conv.ServiceShape.{ServiceShape}
use Rattle.rtl_core.specs.declared.machine.Machine.{Machine}
use Rattle.rtl_core.specs.FirstMemory.{Part, areas, parts_memory, with_block}
use Rattle.c_lang.specs.Run.{part_of, header_areas}
use Rattle.c_control.specs.Programs.{header_for, header_of, segment_of}
use Rattle.c_shape.specs.Laws.{GraphHasItsImage}

-- heap and stack are those of the conventions, whether or not these have services
record HasAreas (m : Machine) (conv : Conv) (o : Option ServiceShape) : Type 0 where
  heap_base : (header_for m conv o).heap_base ≡ conv.heap_base
  heap_size : (header_for m conv o).heap_size ≡ conv.heap_size
  stack_base : (header_for m conv o).stack_base ≡ conv.stack_base
  stack_size : (header_for m conv o).stack_size ≡ conv.stack_size
  parts : header_areas (header_for m conv o) ≡ areas conv

has-areas : (m : Machine) (conv : Conv) (o : Option ServiceShape) → HasAreas m conv o
has-areas m conv None = record { heap_base = refl; heap_size = refl; stack_base = refl; stack_size = refl; parts = refl }
has-areas m conv (Some shape) = record { heap_base = refl; heap_size = refl; stack_base = refl; stack_size = refl; parts = refl }

parts-back : (parts : List Part) → map part_of (map segment_of parts) ≡ parts
parts-back [] = refl
parts-back (part ∷ rest) = ap (λ ps. part ∷ ps) (parts-back rest)

pub graph-has-its-image : GraphHasItsImage
graph-has-its-image setting table roots g sums others parts entry d are moving at_root =
    let a = has-areas setting.machine setting.conv setting.conv.service in
    record {
      segments = refl;
      heap_base = a.heap_base;
      heap_size = a.heap_size;
      stack_base = a.stack_base;
      stack_size = a.stack_size;
      memory = λ block.
          ap (λ ps. with_block block (parts_memory (ps ++ header_areas (header_of setting.machine setting.conv)))) (parts-back parts) ∙ ap (λ rest. with_block block (parts_memory (parts ++ rest))) a.parts;
    }
