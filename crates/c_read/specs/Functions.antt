-- How functions are read.
use Rattle.std.specs.Prelude.{◌≡◌, ℕ, ◌+◌, ◌<◌, ◌≤◌, ◌^◌, ◌==◌, List, [], ◌∷◌, drop, length, Option, Some, None, Result, Ok, Err, if◌then◌else◌, option_map}
use Rattle.c_lang.specs.declared.tree.CBlock.{CBlock}
use Rattle.c_lang.specs.declared.tree.Function.{Function}
use Rattle.c_lang.specs.declared.tree.Var.{Var}
use Rattle.c_lang.specs.declared.tree.Var.TheVariants.{Cell, Temp}
use Rattle.c_lang.specs.Items.{Prototype, prototype_of}
use Rattle.c_text.specs.Tokens.{mark, word}
use Rattle.c_text.specs.Words.{var_word}
use Rattle.c_scan.specs.Readings.{Reader, followed, at, Syntax, name_of, outcome_of}
use Rattle.c_scan.specs.Names.{cell_of}
use Rattle.c_scan.specs.declared.stop.Stop.{Stop}
use Rattle.c_scan.specs.declared.stop.Stop.TheVariants.{Malformed, NoMemory}
use Rattle.c_read.specs.Combined.{Each, in_turn, before, behind, comma_rest, mapped, many_until, many_then}
use Rattle.c_read.specs.Expressions.{variable}
use Rattle.c_read.specs.Statements.{function}
use Rattle.c_read.specs.Blocks.{IsBlock, block_syntax}

-- a cell by its name
abbrev pub cell : Syntax ℕ
cell = name_of (λ i. var_word (Cell i)) cell_of

-- u64 cI
abbrev pub param : Syntax ℕ
param = before (word "u64") cell

-- f_X ( u64 ra {, u64 cI} ), behind `void`
abbrev pub head : Syntax (ℕ × List ℕ)
head = in_turn function (before (mark "(") (before (word "u64") (before (word "ra") (comma_rest param (mark ")")))))

-- the head of an address and some parameters
abbrev pub made_head : ℕ × List ℕ → Prototype
made_head x = record { entry = x.0; params = x.1 }

-- a head, read
unfoldable pub read_head : Reader Prototype
read_head given = mapped made_head (head.read given)

-- u64 V ;
abbrev pub local : Syntax Var
local = before (word "u64") (behind variable (mark ";"))

-- how many temporaries these are, from the k-th on, in order
abbrev pub temps_from : ℕ → List Var → Option ℕ
temps_from k [] = Some k
temps_from k (Temp j ∷ vs) = if j == k then temps_from (k + 1) vs else None
temps_from k (v ∷ vs) = None

-- the cells and the number of temporaries that are declared: cells first, then temporaries in order
abbrev pub declared : List Var → Option (List ℕ × ℕ)
declared [] = Some ([], 0)
declared (Cell i ∷ vs) = option_map (λ d. (i ∷ d.0, d.1)) (declared vs)
declared vs = option_map (λ n. ([], n)) (temps_from 0 vs)

-- {u64 V;} {BLOCK} }
abbrev pub locals : Syntax (List Var × List CBlock)
locals = many_then (at (word "u64")) local (many_until (mark "}") block_syntax)

-- { u64 pt; {u64 V;} {BLOCK} }
abbrev pub body : Syntax (List Var × List CBlock)
body = before (mark "{") (before (word "u64") (before (word "pt") (before (mark ";") locals)))

-- the function of a head, its blocks, and what it declares
abbrev pub made_function : Prototype → List CBlock → List ℕ × ℕ → Function
made_function p blocks d = record { entry = p.entry; params = p.params; cells = d.0; temps = d.1; blocks = blocks }

-- what follows a head: `;` or a body
unfoldable pub read_body : Prototype → Reader Function
read_body p given = followed (body.read given) (λ x rest. outcome_of (option_map (made_function p x.1) (declared x.0)) rest)

-- ---- which are read

-- a prototype has a form
pub record IsPrototype (p : Prototype) : Type 0 where
  pub entry : p.entry < 2 ^ 32
  pub params : Each (λ i. i < 256) p.params

-- a function has a form
pub record IsFunction (f : Function) : Type 0 where
  pub head : IsPrototype (prototype_of f)
  pub cells : Each (λ i. i < 256) f.cells
  pub temps : f.temps ≤ 65536
  pub blocks : Each IsBlock f.blocks

-- ---- what the code gives

-- these are the cells in front, and behind them stands another variable or none
pub record AreCells (vs : List Var) (cells : List ℕ) : Type 0 where
  pub within : length cells ≤ length vs
  pub rest : declared vs ≡ option_map (λ n. (cells, n)) (temps_from 0 (drop (length cells) vs))

-- what the variables declare
abbrev pub IsDeclared : Result (List ℕ × ℕ) Stop → Option (List ℕ × ℕ) → Type 0
IsDeclared (Ok d) o = o ≡ Some d
IsDeclared (Err Malformed) o = o ≡ None
IsDeclared (Err NoMemory) o = Unit {0}
