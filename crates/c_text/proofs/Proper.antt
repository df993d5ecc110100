-- Each token of a program has bytes, so there is a text of all of them, however little of it was written.
use Rattle.std.proofs.Common.{◌≡◌, ℕ, ◌+◌, Bool, true, zero, suc, List, [], ◌∷◌, ◌++◌, map, Some, refl, sym, subst}
use Rattle.std.specs.Prelude.{codes}
use Rattle.std.specs.List.{list_all, flat_map}
use Rattle.std.proofs.lemmas.Bool.{and_parts}
use Rattle.scan.specs.Laws.{Writes}
use Rattle.scan.proofs.Blanks.{writes_nothing, writes_both}
use Rattle.rtl_core.specs.declared.point.Point.{Point}
use Rattle.c_lang.specs.declared.tree.CBlock.{CBlock}
use Rattle.c_lang.specs.declared.tree.COp.{COp}
use Rattle.c_lang.specs.declared.tree.COp.TheVariants.{Add, Sub, Mul, Div, Rem, And, Or, Xor, Shl, Shr, Eq, Ne, Lt, Le}
use Rattle.c_lang.specs.declared.tree.CExpr.{CExpr, ind-CExpr, roll-CExpr, map-CExpr}
use Rattle.c_lang.specs.declared.tree.CExpr.TheOpen.{CExpr-F}
use Rattle.c_lang.specs.declared.tree.CExpr.TheVariants.{rolls-Num, rolls-Of, rolls-Bin, rolls-Choose}
use Rattle.c_lang.specs.declared.tree.CSeg.{CSeg}
use Rattle.c_lang.specs.declared.tree.End.{End}
use Rattle.c_lang.specs.declared.tree.End.TheVariants.{Goto, Branch, Switch, Return, Finish}
use Rattle.c_lang.specs.declared.tree.Function.{Function}
use Rattle.c_lang.specs.declared.tree.Program.{Program}
use Rattle.c_lang.specs.declared.tree.Stmt.{Stmt, ind-Stmt, roll-Stmt, map-Stmt}
use Rattle.c_lang.specs.declared.tree.Stmt.TheOpen.{Stmt-F}
use Rattle.c_lang.specs.declared.tree.Stmt.TheVariants.{rolls-Set, rolls-Load, rolls-Store, rolls-TakeW, rolls-PutW, rolls-Serve, rolls-Call, rolls-If, rolls-Stop}
use Rattle.c_lang.specs.declared.tree.Var.{Var}
use Rattle.c_lang.specs.declared.tree.Var.TheVariants.{Ra, Pt, Cell, Temp, Result, Wn, Depth, ServeR, ServeE}
use Rattle.c_text.specs.Tokens.{Token, name, plain, long, sign, word, mark, token_of, word_token, is_blank, is_sign}
use Rattle.c_text.specs.Words.{var_word, label_word, function_word, segment_word}
use Rattle.c_text.specs.Atoms.{is_name}
use Rattle.c_text.specs.Expressions.{expr_toks, listed, op_sign, var_token}
use Rattle.c_text.specs.Statements.{condition_toks, stmt_toks}
use Rattle.c_text.specs.Blocks.{goto_toks, case_toks, switch_toks, default_toks, end_toks, block_toks}
use Rattle.c_text.specs.Functions.{local_toks, temps_toks, typed_toks, head_toks, body_toks, function_toks}
use Rattle.c_lang.specs.Items.{Array, Prototype, whole, filled, segment_array, header_numbers, table_numbers, prototype_of}
use Rattle.c_text.specs.Items.{array_toks, main_toks, no_address, program_toks}
use Rattle.c_text.proofs.Parts.{machine_toks, segments_toks, table_toks, declared_toks, parts_toks, parts_are}
use Rattle.c_text.proofs.Spelled.{toks-Num, toks-Of, toks-Bin, toks-Choose, toks-Set, toks-Load, toks-Store, toks-TakeW, toks-PutW, toks-Serve, toks-Call, toks-If, toks-Stop}
use Rattle.c_text.proofs.WordTokens.{name_token, sign_token, any_digits, any_plain, any_long, decimal_words, hex_words, label_words}
use Rattle.c_text.proofs.Gaps.{writes_word}

-- a name that is one, a sign that is one, or a number
abbrev is_token : Token → Bool
is_token (name w) = is_name w
is_token (sign w) = is_sign w
is_token (plain n) = true
is_token (long n) = true

abbrev Proper : List Token → Type 0
Proper ts = list_all is_token ts ≡ true

-- there is a text of these tokens
pub record HasText (ts : List Token) : Type 0 where
  pub text : List ℕ
  pub writes : Writes token_of is_blank text ts

bytes_of : (t : Token) → is_token t ≡ true → (w : List ℕ) × (word_token w ≡ Some t)
bytes_of (name w) h = (w, name_token w h)
bytes_of (sign w) h = (w, sign_token w h)
bytes_of (plain n) h = (any_digits n, any_plain n)
bytes_of (long n) h = (any_digits n ++ codes "ull", any_long n)

has_text : (ts : List Token) → Proper ts → HasText ts
has_text [] h = record { text = []; writes = writes_nothing }
has_text (t ∷ ts) h =
    let parts = and_parts (is_token t) (list_all is_token ts) h in
    let one = bytes_of t parts.0 in
    let behind = has_text ts parts.1 in
    record { text = (one.0 ++ 32 ∷ []) ++ behind.text; writes = writes_both (writes_word one.0 (32 ∷ []) t refl one.1) behind.writes }

both : (ts us : List Token) → Proper ts → Proper us → Proper (ts ++ us)
both [] us h k = k
both (t ∷ ts) us h k = let parts = and_parts (is_token t) (list_all is_token ts) h in rw parts.0 (both ts us parts.1 k)

back : (ts us : List Token) → Proper (ts ++ us) → Proper us
back [] us h = h
back (t ∷ ts) us h = back ts us (and_parts (is_token t) (list_all is_token (ts ++ us)) h).1

more : (t : Token) (ts : List Token) → is_token t ≡ true → Proper ts → Proper (t ∷ ts)
more t ts h k = rw h k

each : {X : Type 0} (f : X → List Token) → ((x : X) → Proper (f x)) → (xs : List X) → Proper (flat_map f xs)
each f all [] = refl
each f all (x ∷ xs) = both (f x) (flat_map f xs) (all x) (each f all xs)

all_listed : {X : Type 0} (f : X → List Token) → ((x : X) → Proper (f x)) → (xs : List X) → Proper (listed f xs)
all_listed f all [] = refl
all_listed f all (x ∷ xs) = both (f x) (flat_map (λ y. mark "," ∷ f y) xs) (all x) (each (λ y. mark "," ∷ f y) all xs)

var_name : (v : Var) → is_name (var_word v) ≡ true
var_name Ra = refl
var_name Pt = refl
var_name (Cell i) = decimal_words i
var_name (Temp i) = decimal_words i
var_name (Result i) = decimal_words i
var_name Wn = refl
var_name Depth = refl
var_name ServeR = refl
var_name ServeE = refl

one_var : (v : Var) → Proper (var_token v ∷ [])
one_var v = more (var_token v) [] (var_name v) refl

op_is : (op : COp) → is_sign (op_sign op) ≡ true
op_is Add = refl
op_is Sub = refl
op_is Mul = refl
op_is Div = refl
op_is Rem = refl
op_is And = refl
op_is Or = refl
op_is Xor = refl
op_is Shl = refl
op_is Shr = refl
op_is Eq = refl
op_is Ne = refl
op_is Lt = refl
op_is Le = refl

-- induction over expressions, by their variants
of_bin : (op : COp) (a b : CExpr) → Proper (expr_toks a) → Proper (expr_toks b) → Proper (mark "(" ∷ (expr_toks a ++ sign (op_sign op) ∷ (expr_toks b ++ mark ")" ∷ [])))
of_bin op a b h k = both (expr_toks a) (sign (op_sign op) ∷ (expr_toks b ++ mark ")" ∷ [])) h (more (sign (op_sign op)) (expr_toks b ++ mark ")" ∷ []) (op_is op) (both (expr_toks b) (mark ")" ∷ []) k refl))

of_choose : (c a b : CExpr) → Proper (expr_toks c) → Proper (expr_toks a) → Proper (expr_toks b) → Proper (mark "(" ∷ (expr_toks c ++ mark "?" ∷ (expr_toks a ++ mark ":" ∷ (expr_toks b ++ mark ")" ∷ []))))
of_choose c a b g h k = both (expr_toks c) (mark "?" ∷ (expr_toks a ++ mark ":" ∷ (expr_toks b ++ mark ")" ∷ []))) g (both (expr_toks a) (mark ":" ∷ (expr_toks b ++ mark ")" ∷ [])) h (both (expr_toks b) (mark ")" ∷ []) k refl))

abbrev ExprIs : CExpr → Type 0
ExprIs e = Proper (expr_toks e)

all_expr : (e : CExpr) → ExprIs e
all_expr = ind-CExpr ExprIs (λ x y e.
    let Q : CExpr-F CExpr → Type 0 = λ z. ExprIs (roll-CExpr z) in subst Q e (elim y as (λ z. Q (map-CExpr _ CExpr (λ e. e.0) z)) [
      | CExpr-F.Num n ↦ subst ExprIs (sym (rolls-Num n)) (subst Proper (sym (toks-Num n)) refl)
      | CExpr-F.Of v ↦ subst ExprIs (sym (rolls-Of v)) (subst Proper (sym (toks-Of v)) (one_var v))
      | CExpr-F.Bin op a b ↦ subst ExprIs (sym (rolls-Bin op a.0 b.0)) (subst Proper (sym (toks-Bin op a.0 b.0)) (of_bin op a.0 b.0 a.1 b.1))
      | CExpr-F.Choose c a b ↦ subst ExprIs (sym (rolls-Choose c.0 a.0 b.0)) (subst Proper (sym (toks-Choose c.0 a.0 b.0)) (of_choose c.0 a.0 b.0 c.1 a.1 b.1))
    ]))

-- an expression, and what is behind it
before : (e : CExpr) (ts : List Token) → Proper ts → Proper (expr_toks e ++ ts)
before e ts h = both (expr_toks e) ts (all_expr e) h

function_name : (f : ℕ) → is_name (function_word f) ≡ true
function_name f = hex_words f

label_name : (p : Point) → is_name (label_word p) ≡ true
label_name p = label_words p

abbrev StmtIs : Stmt → Type 0
StmtIs s = Proper (stmt_toks s)

inner : (xs : List ((s : Stmt) × StmtIs s)) → Proper (flat_map stmt_toks (map (λ e. e.0) xs))
inner [] = refl
inner (x ∷ xs) = both (stmt_toks x.0) (flat_map stmt_toks (map (λ e. e.0) xs)) x.1 (inner xs)

all_condition : (e : CExpr) → Proper (condition_toks e)
all_condition e = before e (mark ")" ∷ mark "{" ∷ []) refl

of_set : (v : Var) (a : CExpr) → Proper (var_token v ∷ mark "=" ∷ (expr_toks a ++ mark ";" ∷ []))
of_set v a = more (var_token v) (mark "=" ∷ (expr_toks a ++ mark ";" ∷ [])) (var_name v) (before a (mark ";" ∷ []) refl)

of_load : (v : Var) (n : ℕ) (a : CExpr) → Proper (var_token v ∷ mark "=" ∷ word "uq_load" ∷ mark "(" ∷ plain n ∷ mark "," ∷ (expr_toks a ++ mark ")" ∷ mark ";" ∷ []))
of_load v n a = more (var_token v) (mark "=" ∷ word "uq_load" ∷ mark "(" ∷ plain n ∷ mark "," ∷ (expr_toks a ++ mark ")" ∷ mark ";" ∷ [])) (var_name v) (before a (mark ")" ∷ mark ";" ∷ []) refl)

of_take : (v : Var) (a : CExpr) → Proper (var_token v ∷ mark "=" ∷ word "uq_w" ∷ mark "[" ∷ (expr_toks a ++ mark "]" ∷ mark ";" ∷ []))
of_take v a = more (var_token v) (mark "=" ∷ word "uq_w" ∷ mark "[" ∷ (expr_toks a ++ mark "]" ∷ mark ";" ∷ [])) (var_name v) (before a (mark "]" ∷ mark ";" ∷ []) refl)

of_store : (a b : CExpr) → Proper (expr_toks a ++ mark "," ∷ (expr_toks b ++ mark ")" ∷ mark ";" ∷ []))
of_store a b = before a (mark "," ∷ (expr_toks b ++ mark ")" ∷ mark ";" ∷ [])) (before b (mark ")" ∷ mark ";" ∷ []) refl)

of_put : (a b : CExpr) → Proper (expr_toks a ++ mark "]" ∷ mark "=" ∷ (expr_toks b ++ mark ";" ∷ []))
of_put a b = before a (mark "]" ∷ mark "=" ∷ (expr_toks b ++ mark ";" ∷ [])) (before b (mark ";" ∷ []) refl)

of_serve : (n a b c : CExpr) → Proper (expr_toks n ++ mark "," ∷ (expr_toks a ++ mark "," ∷ (expr_toks b ++ mark "," ∷ (expr_toks c ++ mark ")" ∷ mark ";" ∷ []))))
of_serve n a b c =
    before n (mark "," ∷ (expr_toks a ++ mark "," ∷ (expr_toks b ++ mark "," ∷ (expr_toks c ++ mark ")" ∷ mark ";" ∷ []))))
    (before a (mark "," ∷ (expr_toks b ++ mark "," ∷ (expr_toks c ++ mark ")" ∷ mark ";" ∷ []))) (of_store b c))

of_call : (f : ℕ) (es : List CExpr) → Proper (name (function_word f) ∷ mark "(" ∷ (listed expr_toks es ++ mark ")" ∷ mark ";" ∷ []))
of_call f es = more (name (function_word f)) (mark "(" ∷ (listed expr_toks es ++ mark ")" ∷ mark ";" ∷ [])) (function_name f) (both (listed expr_toks es) (mark ")" ∷ mark ";" ∷ []) (all_listed expr_toks all_expr es) refl)

of_if : (a : CExpr) (xs : List Stmt) → Proper (flat_map stmt_toks xs) → Proper (condition_toks a ++ (flat_map stmt_toks xs ++ mark "}" ∷ []))
of_if a xs h = both (condition_toks a) (flat_map stmt_toks xs ++ mark "}" ∷ []) (all_condition a) (both (flat_map stmt_toks xs) (mark "}" ∷ []) h refl)

all_stmt : (s : Stmt) → StmtIs s
all_stmt = ind-Stmt StmtIs (λ x y e.
    let Q : Stmt-F Stmt → Type 0 = λ z. StmtIs (roll-Stmt z) in subst Q e (elim y as (λ z. Q (map-Stmt _ Stmt (λ e. e.0) z)) [
      | Stmt-F.Set v a ↦ subst StmtIs (sym (rolls-Set v a)) (subst Proper (sym (toks-Set v a)) (of_set v a))
      | Stmt-F.Load v n a ↦ subst StmtIs (sym (rolls-Load v n a)) (subst Proper (sym (toks-Load v n a)) (of_load v n a))
      | Stmt-F.Store n a b ↦ subst StmtIs (sym (rolls-Store n a b)) (subst Proper (sym (toks-Store n a b)) (of_store a b))
      | Stmt-F.TakeW v a ↦ subst StmtIs (sym (rolls-TakeW v a)) (subst Proper (sym (toks-TakeW v a)) (of_take v a))
      | Stmt-F.PutW a b ↦ subst StmtIs (sym (rolls-PutW a b)) (subst Proper (sym (toks-PutW a b)) (of_put a b))
      | Stmt-F.Serve n a b c ↦ subst StmtIs (sym (rolls-Serve n a b c)) (subst Proper (sym (toks-Serve n a b c)) (of_serve n a b c))
      | Stmt-F.Call f es ↦ subst StmtIs (sym (rolls-Call f es)) (subst Proper (sym (toks-Call f es)) (of_call f es))
      | Stmt-F.If a xs ↦ subst StmtIs (sym (rolls-If a (map (λ e. e.0) xs))) (subst Proper (sym (toks-If a (map (λ e. e.0) xs))) (of_if a (map (λ e. e.0) xs) (inner xs)))
      | Stmt-F.Stop n a ↦ subst StmtIs (sym (rolls-Stop n a)) (subst Proper (sym (toks-Stop n a)) (before a (mark ")" ∷ mark ";" ∷ []) refl))
    ]))

all_goto : (p : Point) → Proper (goto_toks p)
all_goto p = more (name (label_word p)) (mark ";" ∷ []) (label_name p) refl

all_end : (e : End) → Proper (end_toks e)
all_end (Goto to) = all_goto to
all_end (Branch e to or_to) = before e (mark ")" ∷ (goto_toks to ++ goto_toks or_to)) (both (goto_toks to) (goto_toks or_to) (all_goto to) (all_goto or_to))
all_end (Switch e cases n value) =
    both (switch_toks e) (flat_map case_toks cases ++ default_toks n value) (before e (mark ")" ∷ mark "{" ∷ []) refl)
    (both (flat_map case_toks cases) (default_toks n value) (each case_toks (λ c. all_goto c.to) cases) (before value (mark ")" ∷ mark ";" ∷ mark "}" ∷ []) refl))
all_end Return = refl
all_end (Finish n e) = before e (mark ")" ∷ mark ";" ∷ []) refl

all_block : (b : CBlock) → Proper (block_toks b)
all_block b = more (name (label_word b.label)) (mark ":" ∷ mark ";" ∷ (flat_map stmt_toks b.stmts ++ end_toks b.end)) (label_name b.label) (both (flat_map stmt_toks b.stmts) (end_toks b.end) (each stmt_toks all_stmt b.stmts) (all_end b.end))

all_local : (v : Var) → Proper (local_toks v)
all_local v = more (var_token v) (mark ";" ∷ []) (var_name v) refl

all_temps : (k n : ℕ) → Proper (temps_toks k n)
all_temps k zero = refl
all_temps k (suc n) = both (local_toks (Temp k)) (temps_toks (k + 1) n) (all_local (Temp k)) (all_temps (k + 1) n)

all_head : (p : Prototype) → Proper (head_toks p)
all_head p =
    more (name (function_word p.entry)) (mark "(" ∷ (typed_toks Ra ++ (flat_map (λ i. mark "," ∷ typed_toks (Cell i)) p.params ++ mark ")" ∷ []))) (function_name p.entry)
    (both (flat_map (λ i. mark "," ∷ typed_toks (Cell i)) p.params) (mark ")" ∷ []) (each (λ i. mark "," ∷ typed_toks (Cell i)) (λ i. one_var (Cell i)) p.params) refl)

all_prototype : (f : Function) → Proper (declared_toks f)
all_prototype f = both (head_toks (prototype_of f)) (mark ";" ∷ []) (all_head (prototype_of f)) refl

all_body : (f : Function) → Proper (body_toks f)
all_body f =
    both (flat_map (λ i. local_toks (Cell i)) f.cells) (temps_toks 0 f.temps ++ (flat_map block_toks f.blocks ++ mark "}" ∷ [])) (each (λ i. local_toks (Cell i)) (λ i. all_local (Cell i)) f.cells)
    (both (temps_toks 0 f.temps) (flat_map block_toks f.blocks ++ mark "}" ∷ []) (all_temps 0 f.temps) (both (flat_map block_toks f.blocks) (mark "}" ∷ []) (each block_toks all_block f.blocks) refl))

all_function : (f : Function) → Proper (function_toks f)
all_function f = both (head_toks (prototype_of f)) (body_toks f) (all_head (prototype_of f)) (all_body f)

all_numbers : (ns : List ℕ) → Proper (listed (λ n. plain n ∷ []) ns ++ mark "}" ∷ mark ";" ∷ [])
all_numbers ns = both (listed (λ n. plain n ∷ []) ns) (mark "}" ∷ mark ";" ∷ []) (all_listed (λ n. plain n ∷ []) (λ n. refl) ns) refl

abbrev array_rest : Array → List Token
array_rest a = mark "[" ∷ plain a.declared ∷ mark "]" ∷ mark "=" ∷ mark "{" ∷ (listed (λ n. plain n ∷ []) a.numbers ++ mark "}" ∷ mark ";" ∷ [])

all_array : (of_type named : List ℕ) (a : Array) → is_name of_type ≡ true → is_name named ≡ true → Proper (array_toks of_type named a)
all_array of_type named a h k = more (name of_type) (name named ∷ array_rest a) h (more (name named) (array_rest a) k (all_numbers a.numbers))

all_segments : (k : ℕ) (ss : List CSeg) → Proper (segments_toks k ss)
all_segments k [] = refl
all_segments k (s ∷ ss) =
    let one = array_toks (codes "u8") (segment_word k) (segment_array s) in
    both one (segments_toks (k + 1) ss) (all_array (codes "u8") (segment_word k) (segment_array s) refl (decimal_words k)) (all_segments (k + 1) ss)

all_main : (entry : ℕ) (first : List ℕ) → Proper (main_toks entry first)
all_main entry first =
    more (name (function_word entry)) (mark "(" ∷ long no_address ∷ (flat_map (λ n. mark "," ∷ long n ∷ []) first ++ mark ")" ∷ mark ";" ∷ mark "}" ∷ [])) (function_name entry)
    (both (flat_map (λ n. mark "," ∷ long n ∷ []) first) (mark ")" ∷ mark ";" ∷ mark "}" ∷ []) (each (λ n. mark "," ∷ long n ∷ []) (λ n. refl) first) refl)

abbrev functions_rest : Program → List Token
functions_rest p = flat_map declared_toks p.functions ++ (flat_map function_toks p.functions ++ main_toks p.entry p.first)

all_functions : (p : Program) → Proper (functions_rest p)
all_functions p =
    both (flat_map declared_toks p.functions) (flat_map function_toks p.functions ++ main_toks p.entry p.first) (each declared_toks all_prototype p.functions)
    (both (flat_map function_toks p.functions) (main_toks p.entry p.first) (each function_toks all_function p.functions) (all_main p.entry p.first))

all_parts : (p : Program) → Proper (parts_toks p)
all_parts p =
    both (machine_toks p.header) (segments_toks 0 p.segments ++ (table_toks p.segments ++ functions_rest p)) (all_array (codes "u64") (codes "uq_machine") (whole (header_numbers p.header)) refl refl)
    (both (segments_toks 0 p.segments) (table_toks p.segments ++ functions_rest p) (all_segments 0 p.segments)
    (both (table_toks p.segments) (functions_rest p) (all_array (codes "u64") (codes "uq_segs") (filled (table_numbers p.segments)) refl refl) (all_functions p)))

all_program : (p : Program) → Proper (program_toks p)
all_program p = subst Proper (sym (parts_are p)) (all_parts p)

-- there is a text of a program
pub program_text : (p : Program) → HasText (program_toks p)
program_text p = has_text (program_toks p) (all_program p)

-- and one of what is left behind a front of its tokens
pub text_behind : (p : Program) (front behind : List Token) → program_toks p ≡ front ++ behind → HasText behind
text_behind p front behind e = has_text behind (back front behind (subst Proper e (all_program p)))
