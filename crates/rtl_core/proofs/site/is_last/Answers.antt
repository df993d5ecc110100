use Rattle.std.proofs.Common.{ℕ, ◌≡◌, ◌+◌, ◌==◌, List, None, false, sym, ap, ◌∙◌, ◌≢◌, arith, slice_get, slice_index, unwrap_or}
use Rattle.std.proofs.lemmas.Bool.{ne_eqb}
use Rattle.std.proofs.lemmas.Option.{unwrap_or-slice_get}
use Rattle.rtl_core.proofs.site.is_last.Goals as goal

-- a cell that is not there has no bits
no_last : (bit : ℕ) (widths : List ℕ) (c : ℕ) → slice_get widths c ≡ None → false ≡ (bit + 1 == slice_index widths c)
no_last bit widths c e =
    let z : slice_index widths c ≡ 0 = sym (unwrap_or-slice_get widths c 0) ∙ ap (λ o. unwrap_or o 0) e in
    let apart : bit + 1 ≢ 0 = omega arith in rw z (sym (ne_eqb (bit + 1) 0 apart))

pub returns-in-None : goal.returns-in-None
returns-in-None c = no_last c.args.bit c.args.machine.now.widths c.args.cell (sym c.in-None.ensures.value)
