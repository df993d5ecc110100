-- How functions are spelled.
use Rattle.std.specs.Prelude.{ℕ, zero, suc, ◌+◌, List, [], ◌∷◌, ◌++◌, flat_map}
use Rattle.c_lang.specs.declared.tree.Function.{Function}
use Rattle.c_lang.specs.Items.{Prototype, prototype_of}
use Rattle.c_text.specs.Tokens.{Token, name, word, mark}
use Rattle.c_lang.specs.declared.tree.Var.{Var}
use Rattle.c_lang.specs.declared.tree.Var.TheVariants.{Ra, Pt, Cell, Temp}
use Rattle.c_text.specs.Words.{function_word}
use Rattle.c_text.specs.Expressions.{commas, var_token}
use Rattle.c_text.specs.Blocks.{block_toks}

-- u64 V
abbrev pub typed_toks : Var → List Token
typed_toks v = word "u64" ∷ var_token v ∷ []

-- u64 V;
abbrev pub local_toks : Var → List Token
local_toks v = word "u64" ∷ var_token v ∷ mark ";" ∷ []

-- the declarations of n temporaries from the k-th on
abbrev pub temps_toks : ℕ → ℕ → List Token
temps_toks k zero = []
temps_toks k (suc n) = local_toks (Temp k) ++ temps_toks (k + 1) n

-- void f_X(u64 ra, u64 cI, ..)
abbrev pub head_toks : Prototype → List Token
head_toks p =
    word "void" ∷ name (function_word p.entry) ∷ mark "(" ∷ (typed_toks Ra ++ (commas (λ i. typed_toks (Cell i)) p.params ++ mark ")" ∷ []))

-- void f_X(u64 ra, u64 cI, ..);
abbrev pub prototype_toks : Prototype → List Token
prototype_toks p = head_toks p ++ mark ";" ∷ []

-- { u64 pt; u64 cJ; .. u64 tK; .. BLOCK .. }
abbrev pub body_toks : Function → List Token
body_toks f =
    mark "{" ∷ (local_toks Pt ++ (flat_map (λ i. local_toks (Cell i)) f.cells ++ (temps_toks 0 f.temps
    ++ (flat_map block_toks f.blocks ++ mark "}" ∷ []))))

-- a function whole
abbrev pub function_toks : Function → List Token
function_toks f = head_toks (prototype_of f) ++ body_toks f
