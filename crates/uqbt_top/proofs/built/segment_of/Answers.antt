use Rattle.std.proofs.Common.{◌<◌, ◌^◌, ℕ, List, length, arith, sym, subst, ◌∙◌}
use Rattle.std.specs.Prelude.{All}
use Rattle.uqbt_top.proofs.built.segment_of.Goals as goal

pub returns-clause-fits : goal.returns-clause-fits
returns-clause-fits c =
    let bytes = c.in_ok-from_slice.ensures in
    record {
      base_fits = omega arith;
      file_fits = let short : List ℕ → Type 0 = λ bs. length bs < 2 ^ 32 in subst short (sym (bytes ∙ c.as_slice-bytes.ensures)) (omega (arith, c.requires));
      len_fits = omega arith;
      bytes_fit = subst (All (λ b. b < 2 ^ 8)) (sym bytes) c.are_bytes.ensures;
    }
