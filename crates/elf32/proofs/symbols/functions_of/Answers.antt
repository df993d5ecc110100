use Rattle.std.proofs.Common.{◌≡◌, ℕ, ◌+◌, ◌*◌, ◌/◌, map, filter, subst, arith}
use Rattle.std.specs.List.{range_with_len}
use Rattle.elf32.specs.declared.symbols.Symbol.{Symbol}
use Rattle.elf32.specs.Symbols.{symbol_from, is_function, symbols_in}
use Rattle.elf32.proofs.Rows.{kept_row_more}
use Rattle.elf32.proofs.symbols.functions_of.Goals as goal

pub loop-i-preserved : goal.loop-i-preserved
loop-i-preserved c =
    kept_row_more (λ (s : Symbol). s.value) is_function (λ i. symbol_from c.args.order c.args.file.now (c.args.table.offset + 16 * i)) c.loop-i.i _ _ c.symbol_from.result c.loop-i.invariant c.in_ok-push_function.ensures c.symbol_from.ensures

pub returns : goal.returns
unfolding symbols_in
returns c =
    let all : c.loop-i.i ≡ c.args.table.size / 16 = omega arith in
    let P : ℕ → Type 0 = λ n. c.loop-i.found.items ≡ map (λ (s : Symbol). s.value) (filter is_function (map (λ i. symbol_from c.args.order c.args.file.now (c.args.table.offset + 16 * i)) (range_with_len 0 n))) in
    subst P all c.loop-i.invariant
