use Rattle.std.proofs.Common.{◌≡◌, ◌+◌, ◌-◌, arith, refl}
use Rattle.page_pool.proofs.Counts.{top_is, taken_kept}
use Rattle.page_pool.proofs.free_list.lend.Goals as goal

pub bounds-holders-number : goal.bounds-holders-number
bounds-holders-number c = let e : c.args.spare ≡ (c.args.spare - 1) + 1 = omega arith in (top_is _ _ _ _ _ c.requires.listed e refl).0

pub returns-clause-within : goal.returns-clause-within
returns-clause-within c = let e : c.args.spare ≡ (c.args.spare - 1) + 1 = omega arith in (top_is _ _ _ _ _ c.requires.listed e refl).0

pub returns-clause-free : goal.returns-clause-free
returns-clause-free c = let e : c.args.spare ≡ (c.args.spare - 1) + 1 = omega arith in (top_is _ _ _ _ _ c.requires.listed e refl).1

pub returns-clause-listed : goal.returns-clause-listed
returns-clause-listed c = let e : c.args.spare ≡ (c.args.spare - 1) + 1 = omega arith in taken_kept _ _ _ _ _ c.requires.listed e refl
