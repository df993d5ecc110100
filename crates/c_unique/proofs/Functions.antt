-- The tokens of a function determine it, and where it ends; a prototype's determine its entry and its parameters.
use Rattle.std.proofs.Common.{◌≡◌, ℕ, ◌+◌, ◌<◌, ◌^◌, zero, suc, List, [], ◌∷◌, ◌++◌, drop, refl, sym, ap, ◌∙◌, arith, append_assoc}
use Rattle.std.specs.List.{flat_map}
use Rattle.c_lang.specs.declared.tree.CBlock.{CBlock}
use Rattle.c_lang.specs.declared.tree.Function.{Function}
use Rattle.c_lang.specs.declared.tree.Var.{Var}
use Rattle.c_lang.specs.declared.tree.Var.TheVariants.{Ra, Pt, Cell, Temp}
use Rattle.c_lang.specs.Items.{Prototype, prototype_of}
use Rattle.c_lang.specs.Spellable.{PrototypeHasForm, FunctionHasForm, BlockHasForm}
use Rattle.c_lang.proofs.SpellingLaws.{fits}
use Rattle.c_text.proofs.Parts.{declared_toks}
use Rattle.c_text.specs.Tokens.{Token, name, word, mark}
use Rattle.c_text.specs.Words.{var_word, function_word}
use Rattle.c_text.specs.Expressions.{commas, var_token}
use Rattle.c_text.specs.Blocks.{block_toks}
use Rattle.c_text.specs.Functions.{typed_toks, local_toks, temps_toks, head_toks, body_toks, function_toks}
use Rattle.c_unique.proofs.Alike.{Alike}
use Rattle.c_unique.proofs.Names.{var_same, function_same}
use Rattle.c_unique.proofs.Rows.{first_letter, Each, each_all, each_in, Sure, no_comma, row_same, commas_same}
use Rattle.c_unique.proofs.Blocks.{block_same}

-- a cell as it stands in a head, and as it is declared
abbrev typed_cell : ℕ → List Token
typed_cell i = typed_toks (Cell i)

abbrev local_cell : ℕ → List Token
local_cell i = local_toks (Cell i)

-- the number of a cell
abbrev CellFits : ℕ → Type 0
CellFits i = i < 2 ^ 8

abbrev cell_number : Var → ℕ
cell_number (Cell i) = i
cell_number _ = 0

cell_same : (i j : ℕ) → CellFits i → CellFits j → var_word (Cell i) ≡ var_word (Cell j) → i ≡ j
cell_same i j h k e = ap cell_number (var_same (Cell i) (Cell j) (fits 8 i h) (fits 8 j k) e)

typed_same : (i : ℕ) → Sure typed_cell CellFits i
typed_same i j r s h k e = let names : var_word (Cell i) ≡ var_word (Cell j) = cc in record { same = cell_same i j h k names; rest = ap (drop 2) e }

local_same : (i : ℕ) → Sure local_cell CellFits i
local_same i j r s h k e = let names : var_word (Cell i) ≡ var_word (Cell j) = cc in record { same = cell_same i j h k names; rest = ap (drop 3) e }

-- ---- heads

-- two heads are the same, and so is what is behind them
pub record SameHead (f g : Prototype) (r s : List Token) : Type 0 where
  pub entry : f.entry ≡ g.entry
  pub params : f.params ≡ g.params
  pub rest : r ≡ s

-- the tokens of a head and those behind it
abbrev spell_head : Prototype → List Token → List Token
spell_head f r = word "void" ∷ name (function_word f.entry) ∷ mark "(" ∷ word "u64" ∷ var_token Ra ∷ (commas typed_cell f.params ++ mark ")" ∷ r)

spelled_head : (f : Prototype) (r : List Token) → head_toks f ++ r ≡ spell_head f r
spelled_head f r = ap (λ ts. word "void" ∷ name (function_word f.entry) ∷ mark "(" ∷ word "u64" ∷ var_token Ra ∷ ts) (append_assoc (commas typed_cell f.params) (mark ")" ∷ []) r)

head_same : (f g : Prototype) (r s : List Token) → PrototypeHasForm f → PrototypeHasForm g → head_toks f ++ r ≡ head_toks g ++ s → SameHead f g r s
head_same f g r s h k e =
    let forms : spell_head f r ≡ spell_head g s = sym (spelled_head f r) ∙ e ∙ spelled_head g s in
    let names : function_word f.entry ≡ function_word g.entry = cc in
    let all = commas_same typed_cell CellFits f.params g.params (mark ")" ∷ r) (mark ")" ∷ s) (each_all (Sure typed_cell CellFits) typed_same f.params) (no_comma r) (no_comma s)
    (each_in CellFits f.params h.cells) (each_in CellFits g.params k.cells) (ap (drop 5) forms) in
    record { entry = function_same f.entry g.entry h.address k.address names; params = all.same; rest = ap (drop 1) all.rest }

-- ---- bodies

-- no local is declared here
abbrev NoLocal : List Token → Type 0
NoLocal r = (t : List Token) → word "u64" ∷ t ≡ r → ⊥

temps_same : (k n m : ℕ) (r s : List Token) → NoLocal r → NoLocal s → temps_toks k n ++ r ≡ temps_toks k m ++ s → Alike n m r s
temps_same k zero zero r s p q e = record { same = refl; rest = e }
temps_same k zero (suc m) r s p q e = absurd (p (var_token (Temp k) ∷ mark ";" ∷ (temps_toks (k + 1) m ++ s)) (sym e))
temps_same k (suc n) zero r s p q e = absurd (q (var_token (Temp k) ∷ mark ";" ∷ (temps_toks (k + 1) n ++ r)) e)
temps_same k (suc n) (suc m) r s p q e = let more = temps_same (k + 1) n m r s p q (ap (drop 3) e) in record { same = ap suc more.same; rest = more.rest }

-- the blocks, and what is behind them
abbrev blocks_on : List CBlock → List Token → List Token
blocks_on bs r = flat_map block_toks bs ++ mark "}" ∷ r

no_block_local : (bs : List CBlock) (r : List Token) → NoLocal (blocks_on bs r)
no_block_local [] r t e = cc
no_block_local (b ∷ bs) r t e = let letters = ap first_letter e in omega (arith, letters)

no_cell : (n : ℕ) (bs : List CBlock) (r : List Token) (i : ℕ) (t : List Token) → CellFits i → local_cell i ++ t ≡ temps_toks 0 n ++ blocks_on bs r → ⊥
no_cell zero bs r i t h e = no_block_local bs r (var_token (Cell i) ∷ mark ";" ∷ t) e
no_cell (suc n) bs r i t h e = let letters = ap (λ ts. first_letter (drop 1 ts)) e in omega (arith, letters)

no_block : (r : List Token) (b : CBlock) (t : List Token) → BlockHasForm b → block_toks b ++ t ≡ mark "}" ∷ r → ⊥
no_block r b t h e = cc

-- the tokens of a body and those behind it
abbrev spell_body : Function → List Token → List Token
spell_body f r = mark "{" ∷ word "u64" ∷ var_token Pt ∷ mark ";" ∷ (flat_map local_cell f.cells ++ (temps_toks 0 f.temps ++ blocks_on f.blocks r))

spelled_body : (f : Function) (r : List Token) → body_toks f ++ r ≡ spell_body f r
spelled_body f r =
    let cells = flat_map local_cell f.cells in
    let temps = temps_toks 0 f.temps in
    let blocks = flat_map block_toks f.blocks in
    let start = λ (ts : List Token). mark "{" ∷ word "u64" ∷ var_token Pt ∷ mark ";" ∷ ts in
    ap start (append_assoc cells (temps ++ (blocks ++ mark "}" ∷ [])) r)
    ∙ ap (λ ts. start (cells ++ ts)) (append_assoc temps (blocks ++ mark "}" ∷ []) r)
    ∙ ap (λ ts. start (cells ++ (temps ++ ts))) (append_assoc blocks (mark "}" ∷ []) r)

-- ---- functions

pub code_same : (f : Function) → Sure function_toks FunctionHasForm f
code_same f g r s h k e =
    let head = head_same (prototype_of f) (prototype_of g) (body_toks f ++ r) (body_toks g ++ s) h.head k.head
    (sym (append_assoc (head_toks (prototype_of f)) (body_toks f) r) ∙ e ∙ append_assoc (head_toks (prototype_of g)) (body_toks g) s) in
    let forms : spell_body f r ≡ spell_body g s = sym (spelled_body f r) ∙ head.rest ∙ spelled_body g s in
    let cells = row_same local_cell CellFits f.cells g.cells (temps_toks 0 f.temps ++ blocks_on f.blocks r) (temps_toks 0 g.temps ++ blocks_on g.blocks s)
    (each_all (Sure local_cell CellFits) local_same f.cells) (no_cell f.temps f.blocks r) (no_cell g.temps g.blocks s)
    (each_in CellFits f.cells h.others) (each_in CellFits g.cells k.others) (ap (drop 4) forms) in
    let temps = temps_same 0 f.temps g.temps (blocks_on f.blocks r) (blocks_on g.blocks s) (no_block_local f.blocks r) (no_block_local g.blocks s) cells.rest in
    let blocks = row_same block_toks BlockHasForm f.blocks g.blocks (mark "}" ∷ r) (mark "}" ∷ s) (each_all (Sure block_toks BlockHasForm) block_same f.blocks)
    (no_block r) (no_block s) (each_in BlockHasForm f.blocks h.each) (each_in BlockHasForm g.blocks k.each) temps.rest in
    record {
      same = λ i. record { entry = head.entry i; params = head.params i; cells = cells.same i; temps = temps.same i; blocks = blocks.same i };
      rest = ap (drop 1) blocks.rest;
    }

-- ---- prototypes

-- these tokens do not begin with a prototype
abbrev pub NoPrototype : List Token → Type 0
NoPrototype r = (p : Prototype) (t : List Token) → PrototypeHasForm p → head_toks p ++ mark ";" ∷ t ≡ r → ⊥

abbrev prototypes : List Function → List Token
prototypes fs = flat_map declared_toks fs

-- the first prototype, and what is behind it
first_prototype : (f : Function) (fs : List Function) (r : List Token) → prototypes (f ∷ fs) ++ r ≡ head_toks (prototype_of f) ++ mark ";" ∷ (prototypes fs ++ r)
first_prototype f fs r =
    append_assoc (head_toks (prototype_of f) ++ mark ";" ∷ []) (prototypes fs) r ∙ append_assoc (head_toks (prototype_of f)) (mark ";" ∷ []) (prototypes fs ++ r)

-- what is behind the prototypes
pub behind_prototypes : (fs gs : List Function) (r s : List Token) → NoPrototype r → NoPrototype s → Each FunctionHasForm fs → Each FunctionHasForm gs
    → flat_map declared_toks fs ++ r ≡ flat_map declared_toks gs ++ s → r ≡ s
behind_prototypes [] [] r s p q h k e = e
behind_prototypes [] (g ∷ gs) r s p q h k e = absurd (p (prototype_of g) (prototypes gs ++ s) k.0.head (sym (e ∙ first_prototype g gs s)))
behind_prototypes (f ∷ fs) [] r s p q h k e = absurd (q (prototype_of f) (prototypes fs ++ r) h.0.head (sym (first_prototype f fs r) ∙ e))
behind_prototypes (f ∷ fs) (g ∷ gs) r s p q h k e =
    let one = head_same (prototype_of f) (prototype_of g) (mark ";" ∷ (prototypes fs ++ r)) (mark ";" ∷ (prototypes gs ++ s)) h.0.head k.0.head (sym (first_prototype f fs r) ∙ e ∙ first_prototype g gs s) in
    behind_prototypes fs gs r s p q h.1 k.1 (ap (drop 1) one.rest)

-- a function is no prototype
pub code_no_prototype : (g : Function) (r : List Token) → FunctionHasForm g → NoPrototype (function_toks g ++ r)
code_no_prototype g r k p t h e =
    let one = head_same p (prototype_of g) (mark ";" ∷ t) (body_toks g ++ r) h k.head (e ∙ append_assoc (head_toks (prototype_of g)) (body_toks g) r) in
    let letters = ap first_letter one.rest in
    omega (arith, letters)
