use Rattle.std.proofs.Common.{◌∙◌, arith, ◌<◌, length, map, subst}
use Rattle.std.proofs.lemmas.List.Elements.{All-push}
use Rattle.std.proofs.lemmas.Result.{err_from_is_err_and}
use Rattle.c_control.specs.Programs.{AreBytes}
use Rattle.edge_io.specs.Files.{IsFile}
use Rattle.uqbt_top.specs.Message.{limit_of}
use Rattle.uqbt_top.specs.Wanted.{wanted}
use Rattle.uqbt_top.proofs.Files.{due_at, stopped_at, read_on}
use Rattle.uqbt_top.proofs.reading.read_files.Goals as goal

pub returns-in_err-text-clause-stopped : goal.returns-in_err-text-clause-stopped
returns-in_err-text-clause-stopped g c =
    let p = err_from_is_err_and c.from_residual.result c.from_residual.ensures.1 in
    let told = g.F.Store.files c.args.files.now in
    let below : c.loop-word.word-index < length c.args.words.now = omega arith in
    let due = due_at told c.args.words.now c.loop-word.word-index c.word-item.result c.loop-word.texts.items below c.word-item.is c.loop-word.invariant.read in
    rw (p.1, p.2) (stopped_at told (g.F.Store.files c.loop-word.files) (map wanted c.args.words.now) (wanted c.word-item.result) _ (g.F.Store.names c.loop-word.files) _ c.in_err-text.field-0.0 c.loop-word.invariant.told c.loop-word.invariant.names due c.in_err-text.ensures.stopped)

pub returns-in_err-push-clause-stopped : goal.returns-in_err-push-clause-stopped
returns-in_err-push-clause-stopped g c =
    let p = err_from_is_err_and c.from_residual-in_err-push.result c.from_residual-in_err-push.ensures.1 in
    let below : c.loop-word.word-index < length c.args.words.now = omega arith in
    rw (p.1, p.2) (record {
      this = wanted c.word-item.result;
      due = due_at (g.F.Store.files c.args.files.now) c.args.words.now c.loop-word.word-index c.word-item.result c.loop-word.texts.items below c.word-item.is c.loop-word.invariant.read;
      did = c.in_ok-text.ensures.kept ∙ c.loop-word.invariant.names;
    })

pub loop-word-preserved : goal.loop-word-preserved
loop-word-preserved g c =
    let told = g.F.Store.files c.args.files.now in
    let below : c.loop-word.word-index < length c.args.words.now = omega arith in
    let w = c.word-item.result in
    let file : IsFile told w.name.now (limit_of w.file) c.in_ok-text.text = subst (λ t. IsFile t w.name.now (limit_of w.file) c.in_ok-text.text) c.loop-word.invariant.told c.in_ok-text.ensures.read in
    record {
      small = rw c.in_ok-push.ensures.items (All-push AreBytes c.loop-word.texts.items c.in_ok-text.text c.loop-word.invariant.small c.in_ok-text.ensures.small);
      read = rw c.in_ok-push.ensures.items (read_on told c.args.words.now c.loop-word.word-index w c.loop-word.texts.items c.in_ok-text.text below c.word-item.is c.loop-word.invariant.read file);
      names = c.in_ok-text.ensures.kept ∙ c.loop-word.invariant.names;
      told = c.read_file.ensures.files ∙ c.loop-word.invariant.told;
    }
