use Rattle.std.proofs.Common.{ℕ, ◌++◌, ◌∷◌, [], List, sym, ◌∙◌, ap, map, take}
use Rattle.std.proofs.lemmas.List.{map_more}
use Rattle.discover.proofs.bodies.no_bodies.Goals as goal

abbrev empty : List ℕ
empty = []

pub loop-entry-preserved : goal.loop-entry-preserved
loop-entry-preserved c =
    let rest = map (λ (e : ℕ). empty) (take c.loop-entry.entry-index c.args.entries.now) in
    c.in_ok-push.ensures.items ∙ ap (λ (l : List (List ℕ)). l ++ c.new.result ∷ []) c.loop-entry.invariant ∙ ap (λ (b : List ℕ). rest ++ b ∷ []) c.new.ensures ∙ sym (map_more (λ (e : ℕ). empty) c.args.entries.now c.loop-entry.entry-index 0 c.loop-entry-test.true)
