use Rattle.std.proofs.Common.{rules, inr}
use Rattle.edge_io.proofs.memory_store.MemStoreStore.fetch.Goals as goal

pub returns-then-contains-clause-answer : goal.returns-then-contains-clause-answer
returns-then-contains-clause-answer c = inr (search rules)

pub returns-then-bytes-limit-clause-answer : goal.returns-then-bytes-limit-clause-answer
returns-then-bytes-limit-clause-answer c = inr (search rules)
