use Rattle.std.proofs.Common.{◌<◌, ◌^◌, ℕ, refl, arith}
use Rattle.points.specs.Bundles.{setting_of}
use Rattle.translation.specs.Translations.{parts_of}
use Rattle.translation.proofs.Translated.{at-root, described, moving, same-segments, translated}
use Rattle.translation.proofs.translate.Goals as goal

pub program_of-requires : goal.program_of-requires
program_of-requires c =
    let s = setting_of c.args.on.now in
    let small : c.args.entry < 2 ^ 32 = omega (arith, c.ranges.entry.fits) in
    let symbols = c.args.symbols.now in (
      refl,
      (
        described s c.requires.sound c.requires.lie c.args.entry symbols small c.in_ok-graph.graph c.in_ok-graph.ensures.graph c.in_ok-graph.ensures.few,
        (
          moving s c.args.entry symbols (parts_of c.args.segments),
          (at-root s c.requires.sound c.requires.lie c.args.entry symbols small, (same-segments c.args.segments, (c.requires.placed, c.requires.fit))),
        ),
      ),
    )

pub returns-clause-translation : goal.returns-clause-translation
returns-clause-translation c =
    let s = setting_of c.args.on.now in
    let small : c.args.entry < 2 ^ 32 = omega (arith, c.ranges.entry.fits) in
    translated s c.requires.sound c.requires.lie c.args.entry c.args.symbols.now small c.in_ok-graph.graph c.in_ok-graph.ensures.graph c.in_ok-graph.ensures.few (parts_of c.args.segments) c.in_ok-program.program
    c.one_program.ensures c.in_ok-program.ensures.same c.in_ok-program.ensures.shaped c.in_ok-program.ensures.spelled c.in_ok-program.ensures.rules
