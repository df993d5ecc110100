use Rattle.std.proofs.Common.{subst, sym, ◌∙◌}
use Rattle.c_read.specs.Programs.{AreHeader, AreSegments}
use Rattle.c_read.proofs.ProgramLaws.{functions_may, header_may, program_same, segments_may}
use Rattle.c_read.proofs.program.program_of.Goals as goal

pub segments_of-requires : goal.segments_of-requires
segments_of-requires c = subst (λ xs. AreSegments xs c.args.parts.table) (sym c.as_slice.ensures) (segments_may c.args.parts c.requires)

pub functions_of-requires : goal.functions_of-requires
functions_of-requires c = functions_may c.args.parts c.requires

pub header_of-requires : goal.header_of-requires
header_of-requires c = subst AreHeader (sym c.numbers.ensures) (header_may c.args.parts c.requires)

pub returns : goal.returns
returns c =
    program_same c.args.parts c.header_of.result c.in_ok-segments.segments c.in_ok-functions.functions c.requires (c.header_of.ensures ∙ c.numbers.ensures) (c.in_ok-segments.ensures.arrays ∙ c.as_slice.ensures) c.in_ok-segments.ensures.table
    c.in_ok-functions.ensures
