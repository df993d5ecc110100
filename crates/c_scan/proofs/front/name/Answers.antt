use Rattle.std.proofs.Common.{◌+◌, ◌∙◌, List, ℕ, Some, arith, ap, sym}
use Rattle.std.specs.List.{prefix_len}
use Rattle.c_text.specs.Tokens.{is_word, name}
use Rattle.c_scan.proofs.Longest.{name_in_front, name_fits}
use Rattle.c_scan.proofs.front.name.Goals as goal

pub overflow_add-len : goal.overflow_add-len
overflow_add-len c = omega (arith, name_fits c.args.bytes.now c.word_len-len.result c.requires.first (c.word_len-len.ensures ∙ ap (prefix_len is_word) c.split_at.ensures.back))

pub split_at-requires-2 : goal.split_at-requires-2
split_at-requires-2 c = name_fits c.args.bytes.now c.word_len-len.result c.requires.first (c.word_len-len.ensures ∙ ap (prefix_len is_word) c.split_at.ensures.back)

pub returns-clause-longest : goal.returns-clause-longest
returns-clause-longest c =
    let n : ℕ = 1 + c.word_len-len.result in
    ap (λ (w : List ℕ). Some (n, name w)) c.split_at-2.ensures.front
    ∙ sym (name_in_front c.args.bytes.now n c.requires.first c.requires.letter (ap (λ k. 1 + k) (c.word_len-len.ensures ∙ ap (prefix_len is_word) c.split_at.ensures.back)))
