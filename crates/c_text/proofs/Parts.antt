-- The tokens of a program, part by part.
use Rattle.std.proofs.Common.{◌≡◌, ℕ, ◌+◌, List, [], ◌∷◌, ◌++◌, map, refl, sym, ap, ◌∙◌, append_assoc}
use Rattle.std.specs.List.{flat_map}
use Rattle.std.proofs.lemmas.Grind.{flat_map-append}
use Rattle.std.proofs.lemmas.List.{append-nil}
use Rattle.c_lang.specs.declared.tree.CSeg.{CSeg}
use Rattle.c_lang.specs.declared.tree.Function.{Function}
use Rattle.c_lang.specs.declared.tree.Header.{Header}
use Rattle.c_lang.specs.declared.tree.Program.{Program}
use Rattle.c_lang.specs.Items.{Prototype, Machine, Segment, Table, Declared, Defined, Main, numbered, whole, filled, segment_array, header_numbers, table_numbers, prototype_of}
use Rattle.c_lang.specs.declared.tree.Var.TheVariants.{Ra, Pt, Cell}
use Rattle.c_text.specs.Tokens.{Token, name, word, mark}
use Rattle.c_text.specs.Words.{function_word}
use Rattle.c_text.specs.Expressions.{commas}
use Rattle.c_text.specs.Blocks.{block_toks}
use Rattle.c_text.specs.Functions.{typed_toks, local_toks, temps_toks, head_toks, prototype_toks, function_toks}
use Rattle.c_text.specs.Items.{item_toks, main_toks, program_toks}

abbrev pub machine_toks : Header → List Token
machine_toks h = item_toks (Machine (whole (header_numbers h)))

-- the arrays of the segments, from the k-th on
abbrev pub segments_toks : ℕ → List CSeg → List Token
segments_toks k ss = flat_map item_toks (numbered Segment k (map segment_array ss))

abbrev pub table_toks : List CSeg → List Token
table_toks ss = item_toks (Table (filled (table_numbers ss)))

-- the prototype of a function
abbrev pub declared_toks : Function → List Token
declared_toks f = prototype_toks (prototype_of f)

-- the tokens of each part
abbrev pub parts_toks : Program → List Token
parts_toks p =
    machine_toks p.header ++ (segments_toks 0 p.segments ++ (table_toks p.segments
    ++ (flat_map declared_toks p.functions ++ (flat_map function_toks p.functions ++ main_toks p.entry p.first))))

all_declared : (k : ℕ) (fs : List Function) → flat_map item_toks (numbered Declared k (map prototype_of fs)) ≡ flat_map declared_toks fs
all_declared k [] = refl
all_declared k (f ∷ fs) = ap (λ ts. declared_toks f ++ ts) (all_declared (k + 1) fs)

all_defined : (k : ℕ) (fs : List Function) → flat_map item_toks (numbered Defined k fs) ≡ flat_map function_toks fs
all_defined k [] = refl
all_defined k (f ∷ fs) = ap (λ ts. function_toks f ++ ts) (all_defined (k + 1) fs)

-- are those of the program
pub parts_are : (p : Program) → program_toks p ≡ parts_toks p
parts_are p =
    let arrays = numbered Segment 0 (map segment_array p.segments) in
    let protos = numbered Declared 0 (map prototype_of p.functions) in
    let bodies = numbered Defined 0 p.functions in
    let main = Main p.entry p.first ∷ [] in
    let table = filled (table_numbers p.segments) in
    let last : flat_map item_toks main ≡ main_toks p.entry p.first = append-nil (main_toks p.entry p.first) in
    let code : flat_map item_toks (bodies ++ main) ≡ flat_map function_toks p.functions ++ main_toks p.entry p.first
    = flat_map-append item_toks bodies main ∙ (λ i. all_defined 0 p.functions i ++ last i) in
    let heads : flat_map item_toks (protos ++ (bodies ++ main)) ≡ flat_map declared_toks p.functions ++ (flat_map function_toks p.functions ++ main_toks p.entry p.first)
    = flat_map-append item_toks protos (bodies ++ main) ∙ (λ i. all_declared 0 p.functions i ++ code i) in
    ap (λ ts. machine_toks p.header ++ ts)
    (flat_map-append item_toks arrays (Table table ∷ (protos ++ (bodies ++ main))) ∙ ap (λ ts. segments_toks 0 p.segments ++ (table_toks p.segments ++ ts)) heads)

-- ---- heads

-- a head up to its first parameter, and what is behind it
abbrev head_with : Prototype → List Token → List Token
head_with p ts = word "void" ∷ name (function_word p.entry) ∷ mark "(" ∷ (typed_toks Ra ++ ts)

abbrev cells_of : Prototype → List Token
cells_of p = commas (λ i. typed_toks (Cell i)) p.params

head_regrouped : (ps ts : List Token) (p : Prototype) → head_with p (ps ++ mark ")" ∷ []) ++ ts ≡ head_with p (ps ++ mark ")" ∷ ts)
head_regrouped ps ts p = ap (head_with p) (append_assoc ps (mark ")" ∷ []) ts)

-- a head by its parts, with these tokens behind it
pub prototype_parts : (p : Prototype) → prototype_toks p ≡ head_with p (cells_of p ++ mark ")" ∷ mark ";" ∷ [])
prototype_parts p = head_regrouped (cells_of p) (mark ";" ∷ []) p

pub head_parts : (p : Prototype) → head_toks p ++ mark "{" ∷ [] ≡ head_with p (cells_of p ++ mark ")" ∷ mark "{" ∷ [])
head_parts p = head_regrouped (cells_of p) (mark "{" ∷ []) p

-- the body of a function behind its brace
abbrev inner_toks : Function → List Token
inner_toks f = local_toks Pt ++ (flat_map (λ i. local_toks (Cell i)) f.cells ++ (temps_toks 0 f.temps ++ (flat_map block_toks f.blocks ++ mark "}" ∷ [])))

pub function_parts : (f : Function) → function_toks f ≡ (head_toks (prototype_of f) ++ mark "{" ∷ []) ++ inner_toks f
function_parts f = sym (append_assoc (head_toks (prototype_of f)) (mark "{" ∷ []) (inner_toks f))
