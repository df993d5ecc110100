use Rattle.std.proofs.Common.{◌≢◌, ◌<◌, ◌-◌, ◌/◌, length, get_or, arith, refl, sym, subst, ap, ⊎_elim}
use Rattle.std.proofs.lemmas.Result.{on_ok_weaker}
use Rattle.std.proofs.lemmas.List.Elements.{All-get_or, All-take, All-drop}
use Rattle.std.specs.List.{All}
use Rattle.c_program.specs.Entered.{IsEntered}
use Rattle.c_program.specs.Shown.{entries_of}
use Rattle.c_program.specs.Trees.{tree_by}
use Rattle.c_program.proofs.Choices.{from-none, one-leaf, two-halves, leaf-pushed, halves-pushed}
use Rattle.c_program.proofs.entering.+push_choice.Goals as goal

pub returns-then-levels-eq0 : goal.returns-then-levels-eq0
returns-then-levels-eq0 t c = λ code all.
    let sums = c.args.procedures.now in
    let s = c.index-procedures-0.result in
    let few : c.args.levels ≢ 0 → length sums < 2 = λ ne. ⊎_elim (λ is. absurd (ne is)) (λ both. both.1) c.then-levels-eq0.either in
    on_ok_weaker c.push_leaf.result
    (leaf-pushed code c.args.out.now (tree_by c.args.levels (entries_of sums)) s.entry c.push_leaf.new.out (one-leaf c.args.levels sums s c.requires c.index-procedures-0.is few))
    (c.push_leaf.ensures code (subst (IsEntered code c.args.manner) (sym c.index-procedures-0.is) (All-get_or (IsEntered code c.args.manner) sums 0 s c.requires all)))

pub push_choice-requires : goal.push_choice-requires
push_choice-requires t c = (omega arith, omega (arith, c.split_at.ensures.front_len))

pub push_choice-requires-2 : goal.push_choice-requires-2
push_choice-requires-2 t c = (omega arith, omega (arith, c.split_at.ensures.back_len))

pub returns : goal.returns
returns t c = λ code all.
    let sums = c.args.procedures.now in
    let back = c.split_at.result.1.now in
    let s = get_or back 0 c.index-high-0.result in
    let P = IsEntered code c.args.manner in
    let low = subst (All P) (sym c.split_at.ensures.front) (All-take P (length sums / 2) sums all) in
    let high = subst (All P) (sym c.split_at.ensures.back) (All-drop P (length sums / 2) sums all) in
    on_ok_weaker c.push_halves.result
    (halves-pushed code c.args.out.now (tree_by c.args.levels (entries_of sums)) (tree_by (c.args.levels - 1) (entries_of c.split_at.result.0.now)) (tree_by (c.args.levels - 1) (entries_of c.split_at.result.1.now)) s.entry
    c.push_choice.new.out c.push_choice-2.new.out c.push_halves.new.out
    (two-halves c.args.levels (c.args.levels - 1) sums c.split_at.result.0.now c.split_at.result.1.now s c.if-levels-eq0.false refl c.if-procedures-lt2.false c.split_at.ensures.front c.split_at.ensures.back (ap (λ x. get_or back 0 x) c.index-high-0.is))
    (from-none _ _ _ c.new-lower.ensures (c.in_ok-push_choice.ensures code low)) (from-none _ _ _ c.new-upper.ensures (c.in_ok-push_choice-2.ensures code high)))
    c.push_halves.ensures
