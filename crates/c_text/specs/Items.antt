-- How the items of a C text are spelled, and a program by them.
use Rattle.std.specs.Prelude.{ℕ, ◌^◌, List, [], ◌∷◌, ◌++◌, codes, flat_map}
use Rattle.c_lang.specs.declared.tree.Program.{Program}
use Rattle.c_lang.specs.Items.{Array, Item, Include, Machine, Segment, Table, Declared, Defined, Main, items, text_of}
use Rattle.c_text.specs.Tokens.{Token, name, plain, long, word, mark}
use Rattle.c_text.specs.Words.{function_word, segment_word}
use Rattle.c_text.specs.Expressions.{commas, listed}
use Rattle.c_text.specs.Functions.{prototype_toks, function_toks}

-- const TYPE NAME[N] = { N, .. };, where the first N is the length that the array declares
abbrev pub array_toks : List ℕ → List ℕ → Array → List Token
array_toks of_type named a =
    word "const" ∷ name of_type ∷ name named ∷ mark "[" ∷ plain a.declared ∷ mark "]" ∷ mark "=" ∷ mark "{"
    ∷ (listed (λ n. plain n ∷ []) a.numbers ++ mark "}" ∷ mark ";" ∷ [])

-- the return address of the first call, which no address is
abbrev pub no_address : ℕ
no_address = 2 ^ 32

-- void uq_main(void) { f_X(Null, ..); }
abbrev pub main_toks : ℕ → List ℕ → List Token
main_toks entry first =
    word "void" ∷ word "uq_main" ∷ mark "(" ∷ word "void" ∷ mark ")" ∷ mark "{"
    ∷ name (function_word entry) ∷ mark "(" ∷ long no_address ∷ (commas (λ n. long n ∷ []) first
    ++ mark ")" ∷ mark ";" ∷ mark "}" ∷ [])

-- the tokens of an item; the first line has none
abbrev pub item_toks : Item → List Token
item_toks Include = []
-- const u64 uq_machine[N] = { N, .. };
item_toks (Machine a) = array_toks (codes "u64") (codes "uq_machine") a
-- const u8 uq_seg_K[N] = { N, .. };
item_toks (Segment k a) = array_toks (codes "u8") (segment_word k) a
-- const u64 uq_segs[N] = { N, .. };
item_toks (Table a) = array_toks (codes "u64") (codes "uq_segs") a
item_toks (Declared k p) = prototype_toks p
item_toks (Defined k f) = function_toks f
item_toks (Main entry first) = main_toks entry first

-- the tokens of a program, behind the first line
abbrev pub program_toks : Program → List Token
program_toks p = flat_map item_toks (items (text_of p))
