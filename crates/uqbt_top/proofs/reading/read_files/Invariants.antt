use Rattle.std.proofs.Common.{◌≡◌, take, map}
use Rattle.std.specs.Prelude.{All}
use Rattle.c_control.specs.Programs.{AreBytes}
use Rattle.uqbt_top.specs.Wanted.{AreFiles, wanted}
use Rattle.uqbt_top.proofs.reading.read_files.Given as goal

abbrev pub invariant-loop-word : goal.invariant-loop-word
invariant-loop-word g l = record {
  small : All AreBytes l.texts.items;
  read : AreFiles (g.F.Store.files l.fn.files) (map wanted (take l.word-index l.words)) l.texts.items;
  names : g.F.Store.names l.files ≡ g.F.Store.names l.fn.files;
  told : g.F.Store.files l.files ≡ g.F.Store.files l.fn.files;
}
