-- The tokens of a program determine it, and so does a text.
use Rattle.std.proofs.Common.{◌≡◌, ℕ, List, [], ◌∷◌, ◌++◌, drop, Ok, sym, ap, ◌∙◌, append_assoc}
use Rattle.std.specs.Prelude.{codes, Result}
use Rattle.std.specs.List.{flat_map}
use Rattle.c_lang.specs.declared.tree.Function.{Function}
use Rattle.c_lang.specs.declared.tree.Program.{Program}
use Rattle.c_lang.specs.Items.{whole, filled, header_numbers, table_numbers}
use Rattle.c_lang.specs.Spellable.{FunctionHasForm, HasSpelling}
use Rattle.c_lang.proofs.SpellingLaws.{spelled_functions, spelled_entry}
use Rattle.c_text.specs.Tokens.{Token, tokens}
use Rattle.c_text.specs.Functions.{function_toks}
use Rattle.c_text.specs.Items.{main_toks, program_toks}
use Rattle.c_text.proofs.Parts.{segments_toks, table_toks, declared_toks, parts_are}
use Rattle.c_text.specs.Spells.{Spells}
use Rattle.c_unique.proofs.Rows.{Each, each_all, each_in, Sure, row_same}
use Rattle.c_unique.proofs.Functions.{code_same, behind_prototypes, code_no_prototype, NoPrototype}
use Rattle.c_unique.proofs.Items.{array_same, header_same, NoSegment, segments_same, table_same, main_same}

-- the functions and the first call
abbrev code_of : Program → List Token
code_of p = flat_map function_toks p.functions ++ main_toks p.entry p.first

-- the table of segments, and all behind it
abbrev tail_of : Program → List Token
tail_of p = table_toks p.segments ++ (flat_map declared_toks p.functions ++ code_of p)

no_segment : (p : Program) → NoSegment (tail_of p)
no_segment p t e = cc

no_code : (entry : ℕ) (first : List ℕ) (f : Function) (t : List Token) → FunctionHasForm f → function_toks f ++ t ≡ main_toks entry first → ⊥
no_code entry first f t h e = cc

no_prototype : (fs : List Function) (entry : ℕ) (first : List ℕ) → Each FunctionHasForm fs → NoPrototype (flat_map function_toks fs ++ main_toks entry first)
no_prototype [] entry first k f t h e = cc
no_prototype (g ∷ gs) entry first k f t h e =
    let rest = flat_map function_toks gs ++ main_toks entry first in
    code_no_prototype g rest k.0 f t h (e ∙ append_assoc (function_toks g) (flat_map function_toks gs) (main_toks entry first))

pub program_same : (p q : Program) → HasSpelling p → HasSpelling q → program_toks p ≡ program_toks q → p ≡ q
program_same p q h k e =
    let below = each_in FunctionHasForm p.functions (spelled_functions p h) in
    let below_too = each_in FunctionHasForm q.functions (spelled_functions q k) in
    let machine = array_same (codes "u64") (codes "uq_machine") (codes "u64") (codes "uq_machine") (whole (header_numbers p.header)) (whole (header_numbers q.header))
    (segments_toks 0 p.segments ++ tail_of p) (segments_toks 0 q.segments ++ tail_of q) (sym (parts_are p) ∙ e ∙ parts_are q) in
    let arrays = segments_same 0 p.segments q.segments (tail_of p) (tail_of q) (no_segment p) (no_segment q) machine.rest in
    let table = array_same (codes "u64") (codes "uq_segs") (codes "u64") (codes "uq_segs") (filled (table_numbers p.segments)) (filled (table_numbers q.segments))
    (flat_map declared_toks p.functions ++ code_of p) (flat_map declared_toks q.functions ++ code_of q) arrays.rest in
    let code = behind_prototypes p.functions q.functions (code_of p) (code_of q) (no_prototype p.functions p.entry p.first below) (no_prototype q.functions q.entry q.first below_too)
    below below_too table.rest in
    let functions = row_same function_toks FunctionHasForm p.functions q.functions (main_toks p.entry p.first) (main_toks q.entry q.first)
    (each_all (Sure function_toks FunctionHasForm) code_same p.functions) (no_code p.entry p.first) (no_code q.entry q.first) below below_too code in
    let call = main_same p.entry q.entry p.first q.first (spelled_entry p h) (spelled_entry q k) functions.rest in
    let header = header_same p.header q.header (ap (λ a. a.numbers) machine.same) in
    let segments = table_same p.segments q.segments arrays.same (ap (λ a. a.numbers) table.same) in
    λ i. record { header = header i; segments = segments i; functions = functions.same i; entry = call.entry_same i; first = call.first_same i }

ok_same : {T E : Type 0} (r : Result T E) (x y : T) → r ≡ Ok x → r ≡ Ok y → x ≡ y
ok_same r x y e f = cc

-- what is behind the first line
behind_line : (text : List ℕ) (p q : Program) (a : Spells text p) (b : Spells text q) → a.rest ≡ b.rest
behind_line text p q a b = ap (drop 18) (sym a.first ∙ b.first)

pub text_same : (text : List ℕ) (p q : Program) → Spells text p → Spells text q → p ≡ q
text_same text p q a b =
    program_same p q a.possible b.possible (ok_same (tokens b.rest) (program_toks p) (program_toks q) (sym (ap tokens (behind_line text p q a b)) ∙ a.behind) b.behind)
