use Rattle.std.proofs.Common.{None, replicate, sym, ap, ◌∙◌}
use Rattle.ssl_core.proofs.StateLemmas.{new_holds}
use Rattle.ssl_core.proofs.given.Given.new.Goals as goal

pub returns-clause-holds : goal.returns-clause-holds
returns-clause-holds c =
    new_holds c.args.enc.now
    (record { align = None; delay = None; zeroed = None; windows = None; tables = c.new.result; templates = c.new-2.result; types = c.in_ok-type_table.field-0; widths = c.in_ok-no_widths.field-0; stands = c.in_ok-no_stands.field-0 }) c.len.result c.new.ensures
    c.new-2.ensures c.in_ok-no_widths.ensures (c.in_ok-no_stands.ensures ∙ ap (λ n. replicate n None) (c.len-2.ensures ∙ sym c.len.ensures)) c.len.ensures c.in_ok-type_table.ensures
