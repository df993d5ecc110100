use Rattle.std.proofs.Common.{ap, ◌∙◌, min}
use Rattle.rtl_core.specs.SoundEncodings.{list_size}
use Rattle.sled_rules.specs.Sizes.{longest, most_of}
use Rattle.sled_rules.specs.Starts.{pattern_start}
use Rattle.sled_rules.proofs.SizeLaws.{size_is}
use Rattle.sled_rules.proofs.lines.size_of.Goals as goal

pub returns : goal.returns
returns c =
    size_is c.args.known.now c.args.pattern.now c.args.coded.now c.pattern_start.result c.list_size.result c.longest.result
    (c.pattern_start.ensures ∙ ap (λ fs. pattern_start c.args.known.now.names fs c.args.pattern.now) c.as_slice-facts.ensures)
    (c.list_size.ensures ∙ ap (λ fs. min (list_size (most_of fs) c.as_slice.result.now) 9) c.as_slice-facts.ensures
    ∙ ap (λ ks. min (list_size (most_of c.args.known.now.facts) ks) 9) c.as_slice.ensures)
    (c.longest.ensures ∙ ap (λ fs. min (longest fs c.as_slice-2.result.now) 33) c.as_slice-facts.ensures
    ∙ ap (λ xs. min (longest c.args.known.now.facts xs) 33) c.as_slice-2.ensures) c.requires.numbers c.requires.bytes
