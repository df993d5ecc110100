use Rattle.std.proofs.Common.{◌∷◌, ◌++◌, []}
use Rattle.std.specs.List.{flat_map}
use Rattle.std.proofs.lemmas.Result.{on_ok_weaker, on_err_weaker}
use Rattle.listing.specs.Words.{address_behind}
use Rattle.c_text.proofs.Written.{took_both, part_here, part_then, any_err}
use Rattle.listing.proofs.lines.put_line.Goals as goal

pub returns-in_err-put_words-clause-part : goal.returns-in_err-put_words-clause-part
returns-in_err-put_words-clause-part g c = any_err _ (part_then c.in_ok-put_bytes.ensures.took (part_here (flat_map address_behind c.args.addresses.now ++ 10 ∷ []) c.in_err-put_words.ensures.part))

pub returns-in_err-put_addresses-clause-part : goal.returns-in_err-put_addresses-clause-part
returns-in_err-put_addresses-clause-part g c =
    any_err _ (part_then c.in_ok-put_bytes.ensures.took (part_then c.in_ok-put_words.ensures.took (part_here (10 ∷ []) c.in_err-put_addresses.ensures.part)))

pub returns-clause-took : goal.returns-clause-took
returns-clause-took g c =
    on_ok_weaker c.put_bytes-2.result (λ f. took_both c.in_ok-put_bytes.ensures.took (took_both c.in_ok-put_words.ensures.took (took_both c.in_ok-put_addresses.ensures.took f))) c.put_bytes-2.ensures.took

pub returns-clause-part : goal.returns-clause-part
returns-clause-part g c =
    on_err_weaker c.put_bytes-2.result (λ f. part_then c.in_ok-put_bytes.ensures.took (part_then c.in_ok-put_words.ensures.took (part_then c.in_ok-put_addresses.ensures.took f))) c.put_bytes-2.ensures.part
