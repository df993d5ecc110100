use Rattle.std.proofs.Common.{false, refl, ap, ◌∙◌, List, ℕ}
use Rattle.std.specs.Prelude.{◌||◌}
use Rattle.std.proofs.lemmas.List.{get_or-replicate}
use Rattle.c_lang.specs.State.{has}
use Rattle.c_declared.proofs.sheet.sheet_of.Goals as goal

pub returns : goal.returns
returns c = record {
  cells = λ k lt.
      let first : List ℕ = c.as_slice.result.now in
      let second : List ℕ = c.as_slice-2.result.now in
      c.mark-2.ensures k lt ∙ ap (λ b. b || has second k) (c.mark.ensures k lt ∙ ap (λ b. b || has first k) (get_or-replicate 256 k false false lt))
      ∙ ap (λ xs. has first k || has xs k) c.as_slice-2.ensures ∙ ap (λ xs. has xs k || has c.args.f.now.cells k) c.as_slice.ensures;
  temps = refl;
}
