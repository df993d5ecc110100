-- Lines: what is spelled is read.
use Rattle.std.proofs.Common.{◌≡◌, ℕ, ◌+◌, ◌<◌, ◌≤◌, zero, suc, Bool, true, false, ◌&&◌, not, List, [], ◌∷◌, ◌++◌, drop, Option, Some, None, refl, sym, ap, ◌∙◌, subst, arith, ◌⊎◌, inl, inr, append_assoc}
use Rattle.std.specs.Prelude.{codes}
use Rattle.std.specs.List.{list_all}
use Rattle.std.specs.Str.{bytes_eq}
use Rattle.std.proofs.lemmas.Bool.{cases_Bool, eqb-true, true≢false, and_parts}
use Rattle.std.proofs.lemmas.List.{append-nil}
use Rattle.std.proofs.lemmas.Slice.Eq.{bytes_eq-Decides}
use Rattle.text_lex.specs.declared.token.Token.{Token}
use Rattle.text_lex.specs.declared.token.Token.TheVariants.{Name, Number, Sign, Bad}
use Rattle.ssl_syntax.specs.declared.line.CellName.{CellName}
use Rattle.ssl_syntax.specs.declared.line.ViewPart.{ViewPart}
use Rattle.ssl_syntax.specs.declared.line.ViewPart.TheVariants as part
use Rattle.ssl_syntax.specs.declared.line.Param.{Param}
use Rattle.ssl_syntax.specs.declared.line.SslExpr.{SslExpr}
use Rattle.ssl_syntax.specs.declared.line.SslAct.{SslAct}
use Rattle.ssl_syntax.specs.declared.line.SslAct.TheVariants as act
use Rattle.ssl_syntax.specs.declared.line.SslTransfer.{SslTransfer}
use Rattle.ssl_syntax.specs.declared.line.SslBody.{SslBody}
use Rattle.ssl_syntax.specs.declared.line.SslBody.TheVariants as body
use Rattle.ssl_syntax.specs.declared.words.Word.{Word}
use Rattle.ssl_syntax.specs.declared.words.Word.TheVariants as word
use Rattle.ssl_syntax.specs.declared.words.LineWord.TheVariants as line
use Rattle.line_reading.specs.Signs.{becomes, guards, open_paren, close_paren, open_bracket, close_bracket, comma, semicolon, colon}
use Rattle.ssl_syntax.specs.Words.{word_bytes, word_of, act_word, line_bytes, line_word}
use Rattle.ssl_syntax.specs.Expressions.{expr_toks, is_expr}
use Rattle.line_reading.specs.Spelling.{each_behind, listed, name_toks, is_empty}
use Rattle.ssl_syntax.specs.Transfers.{index_toks, cell_toks, bits_toks, act_toks, guard_toks, transfer_toks, is_transfer}
use Rattle.ssl_syntax.specs.Lines.{part_toks, param_toks, head_toks, transfers_toks, yes_or_no, delay_toks, file_toks, body_toks, is_body}
use Rattle.line_reading.specs.Readings.{Read, fails, reads, Reader, begins, any_name, items, in_parens, begins_name}
use Rattle.ssl_syntax.specs.ExprReaders.{read_named, read_form, read_expr}
use Rattle.ssl_syntax.specs.TransferReaders.{read_whole, read_cell, read_limits, read_act_behind, read_act, begins_act, read_guarded, read_transfer}
use Rattle.ssl_syntax.specs.LineReaders.{file_head, read_file_head, read_bits_part, begins_bits, read_view_part, read_param, read_align, read_delay, read_single, read_cells, read_view, read_zero, read_windows, read_function, read_operand, read_transfers, read_instruction, read_line, read_body}
use Rattle.line_reading.proofs.ListReads.{Each, IsRead, IsStarted, items_reads, behind_ends, in_parens_reads, never}
use Rattle.ssl_syntax.proofs.Ends.{Ends, closes_comma, at_end, closes_paren, closes_semicolon}
use Rattle.ssl_syntax.proofs.TransferReads.{whole_reads, cell_reads, limits_read, bits_onto, transfer_reads}
use Rattle.line_reading.proofs.NameReads.{names_reads}

-- a cell is a part, also one that is named `bits`
no_bits : (name : List ℕ) (index : Option ℕ) (r : List Token) → Ends r → begins_bits (Name name ∷ (index_toks index ++ r)) ≡ false
no_bits name None r ends = by (cases_Bool (bytes_eq name (word_bytes word.Bits)))
  where
    by : (bytes_eq name (word_bytes word.Bits) ≡ true) ⊎ (bytes_eq name (word_bytes word.Bits) ≡ false) → begins_bits (Name name ∷ r) ≡ false
    by (inl e) = rw e ends.no_paren
    by (inr e) = rw e refl
no_bits name (Some i) r ends = by (cases_Bool (bytes_eq name (word_bytes word.Bits)))
  where
    by : (bytes_eq name (word_bytes word.Bits) ≡ true) ⊎ (bytes_eq name (word_bytes word.Bits) ≡ false) → begins_bits (Name name ∷ Sign open_bracket ∷ Number i ∷ Sign close_bracket ∷ r) ≡ false
    by (inl e) = rw e refl
    by (inr e) = rw e refl

whole_step : (c : CellName) (ts r : List Token) → begins_bits ts ≡ false → read_cell ts ≡ reads c r → read_view_part ts ≡ reads (part.Whole c) r
unfolding read_view_part
whole_step c ts r b h = rw (b, h) refl

bits_step : (c : CellName) (lo hi : ℕ) (xs r : List Token) → read_cell xs ≡ reads c (Sign comma ∷ Number lo ∷ Sign comma ∷ Number hi ∷ Sign close_paren ∷ r) → read_view_part (Name (word_bytes word.Bits) ∷ Sign open_paren ∷ xs) ≡ reads (part.Bits c lo hi) r
unfolding read_view_part read_bits_part
bits_step c lo hi xs r h = rw (h, limits_read lo hi r) refl

part_reads : (p : ViewPart) (r : List Token) → Ends r → read_view_part (part_toks p ++ r) ≡ reads p r
part_reads (part.Whole c) r ends = whole_step c (cell_toks c ++ r) r (no_bits c.name c.index r ends) (cell_reads c r ends.no_bracket)
part_reads (part.Bits c lo hi) r ends =
    let back : List Token = Sign comma ∷ Number lo ∷ Sign comma ∷ Number hi ∷ Sign close_paren ∷ r in
    ap read_view_part (bits_onto c lo hi r) ∙ bits_step c lo hi (cell_toks c ++ back) r (cell_reads c back refl)

param_reads : (p : Param) (r : List Token) → read_param (param_toks p ++ r) ≡ reads p r
unfolding read_param
param_reads p r = refl

each_read : {A : Type 0} (one : Reader A) (spell : A → List Token) → ((x : A) (r : List Token) → Ends r → one (spell x ++ r) ≡ reads x r) → (xs : List A) → Each (IsRead Ends one spell) xs
each_read one spell h [] = tt
each_read one spell h (x ∷ xs) = (record { always = h x }, each_read one spell h xs)

each_transfer : (ts : List SslTransfer) → list_all is_transfer ts ≡ true → Each (IsRead Ends read_transfer transfer_toks) ts
each_transfer [] h = tt
each_transfer (t ∷ ts) h =
    let p = and_parts (is_transfer t) (list_all is_transfer ts) h in
    (record { always = λ r ends. transfer_reads t r p.0 ends }, each_transfer ts p.1)

param_begun : (ts : List Token) (p : Param) (r : List Token) → read_param ts ≡ reads p r → begins close_paren ts ≡ false
unfolding read_param
param_begun [] p r h = refl
param_begun (Name y ∷ ts) p r h = refl
param_begun (Number v ∷ ts) p r h = refl
param_begun (Bad ∷ ts) p r h = refl
param_begun (Sign f ∷ ts) p r h = never p r h

params_reads : (ps : List Param) (r : List Token) → in_parens read_param (listed comma param_toks ps ++ Sign close_paren ∷ r) ≡ reads ps r
params_reads ps r = in_parens_reads Ends read_param param_toks closes_comma closes_paren ps r (record { starts = param_begun }) (each_read read_param param_toks (λ p r ends. param_reads p r) ps)

-- no transfer begins with `none`
none_is : word_of (word_bytes word.Nothing) ≡ word.Nothing
unfolding word_of act_word
none_is = refl

none_expr : (n : ℕ) (ts : List Token) → read_expr n (Name (word_bytes word.Nothing) ∷ ts) ≡ fails
unfolding read_expr read_form read_named
none_expr zero ts = refl
none_expr (suc n) ts = rw none_is refl

none_transfer : (ts : List Token) → read_transfer (Name (word_bytes word.Nothing) ∷ ts) ≡ fails
unfolding read_transfer read_guarded read_whole begins_act
none_transfer ts = rw (none_is, none_expr 2001 ts) refl

transfer_begun : (ts : List Token) (t : SslTransfer) (r : List Token) → read_transfer ts ≡ reads t r → begins_name (word_bytes word.Nothing) ts ≡ false
transfer_begun [] t r h = refl
transfer_begun (Number v ∷ ts) t r h = refl
transfer_begun (Sign f ∷ ts) t r h = refl
transfer_begun (Bad ∷ ts) t r h = refl
transfer_begun (Name x ∷ ts) t r h = by (cases_Bool (bytes_eq x (word_bytes word.Nothing)))
  where
    by : (bytes_eq x (word_bytes word.Nothing) ≡ true) ⊎ (bytes_eq x (word_bytes word.Nothing) ≡ false) → bytes_eq x (word_bytes word.Nothing) ≡ false
    by (inr q) = q
    by (inl q) =
        let same : x ≡ word_bytes word.Nothing = (bytes_eq-Decides x (word_bytes word.Nothing)).0 q in
        never t r (sym (none_transfer ts) ∙ ap (λ y. read_transfer (Name y ∷ ts)) (sym same) ∙ h)

transfers_step : (ts : List Token) (xs : List SslTransfer) (r : List Token) → begins_name (word_bytes word.Nothing) ts ≡ false → items semicolon read_transfer ts ≡ reads xs r → read_transfers ts ≡ reads xs r
unfolding read_transfers
transfers_step ts xs r b h = rw b h

transfers_none : (r : List Token) → read_transfers (Name (word_bytes word.Nothing) ∷ r) ≡ reads [] r
unfolding read_transfers
transfers_none r = refl

transfers_reads : (ts : List SslTransfer) → list_all is_transfer ts ≡ true → read_transfers (transfers_toks ts ++ []) ≡ reads ts []
transfers_reads [] f = transfers_none []
transfers_reads (t ∷ ts) f =
    let all = each_transfer (t ∷ ts) f in
    let whole = items_reads Ends semicolon read_transfer transfer_toks closes_semicolon t ts [] all at_end refl in
    let back : List Token = each_behind semicolon transfer_toks ts ++ [] in
    let first = all.0.always back (behind_ends Ends semicolon transfer_toks closes_semicolon ts [] at_end) in
    let begun = transfer_begun (transfer_toks t ++ back) t back first in
    let here : begins_name (word_bytes word.Nothing) ((transfer_toks t ++ each_behind semicolon transfer_toks ts) ++ []) ≡ false = ap (begins_name (word_bytes word.Nothing)) (append_assoc (transfer_toks t) (each_behind semicolon transfer_toks ts) []) ∙ begun in
    transfers_step (listed semicolon transfer_toks (t ∷ ts) ++ []) (t ∷ ts) [] here whole

line-Align : line_word (line_bytes line.Align) ≡ line.Align
unfolding line_word
line-Align = refl

line-Delay : line_word (line_bytes line.Delay) ≡ line.Delay
unfolding line_word
line-Delay = refl

line-Cell : line_word (line_bytes line.Cell) ≡ line.Cell
unfolding line_word
line-Cell = refl

line-Cells : line_word (line_bytes line.Cells) ≡ line.Cells
unfolding line_word
line-Cells = refl

line-View : line_word (line_bytes line.View) ≡ line.View
unfolding line_word
line-View = refl

line-Zero : line_word (line_bytes line.Zero) ≡ line.Zero
unfolding line_word
line-Zero = refl

line-Windows : line_word (line_bytes line.Windows) ≡ line.Windows
unfolding line_word
line-Windows = refl

line-Function : line_word (line_bytes line.Function) ≡ line.Function
unfolding line_word
line-Function = refl

line-Operand : line_word (line_bytes line.Operand) ≡ line.Operand
unfolding line_word
line-Operand = refl

line-Instruction : line_word (line_bytes line.Instruction) ≡ line.Instruction
unfolding line_word
line-Instruction = refl

whole_end : (e : SslExpr) → is_expr e ≡ true → read_whole (expr_toks e) ≡ reads e []
whole_end e f = ap read_whole (sym (append-nil (expr_toks e))) ∙ whole_reads e [] f at_end

cell_end : (c : CellName) → read_cell (cell_toks c) ≡ reads c []
cell_end c = ap read_cell (sym (append-nil (cell_toks c))) ∙ cell_reads c [] refl

parts_end : (p : ViewPart) (ps : List ViewPart) → items comma read_view_part (listed comma part_toks (p ∷ ps)) ≡ reads (p ∷ ps) []
parts_end p ps =
    ap (items comma read_view_part) (sym (append-nil (listed comma part_toks (p ∷ ps))))
    ∙ items_reads Ends comma read_view_part part_toks closes_comma p ps [] (each_read read_view_part part_toks part_reads (p ∷ ps)) at_end refl

view_step : (name : List ℕ) (count width : ℕ) (ts : List Token) (ps : List ViewPart) → items comma read_view_part ts ≡ reads ps [] → read_body (Name (line_bytes line.View) ∷ Name name ∷ Sign open_bracket ∷ Number count ∷ Sign close_bracket ∷ Number width ∷ Name (codes "is") ∷ ts) ≡ reads (body.View name count width ps) []
unfolding read_body read_line read_view read_file_head
view_step name count width ts ps h = rw (line-View, h) refl

zero_step : (c : CellName) (ts : List Token) → read_cell ts ≡ reads c [] → read_body (Name (line_bytes line.Zero) ∷ ts) ≡ reads (body.Zero c) []
unfolding read_body read_line read_zero
zero_step c ts h = rw (line-Zero, h) refl

windows_step : (a b c : CellName) (n : ℕ) (ts us vs : List Token) → read_cell ts ≡ reads a us → read_cell us ≡ reads b vs → read_cell vs ≡ reads c (Number n ∷ []) → read_body (Name (line_bytes line.Windows) ∷ ts) ≡ reads (body.Windows a b c n) []
unfolding read_body read_line read_windows
windows_step a b c n ts us vs h k l = rw (line-Windows, h, k, l) refl

function_step : (name : List ℕ) (ps : List Param) (e : SslExpr) (xs ys : List Token) → in_parens read_param xs ≡ reads ps (Sign becomes ∷ ys) → read_whole ys ≡ reads e [] → read_body (Name (line_bytes line.Function) ∷ Name name ∷ Sign open_paren ∷ xs) ≡ reads (body.Function name ps e) []
unfolding read_body read_line read_function
function_step name ps e xs ys h k = rw (line-Function, h, k) refl

operand_step : (name : List ℕ) (ops : List (List ℕ)) (e : SslExpr) (xs ys : List Token) → in_parens any_name xs ≡ reads ops (Sign becomes ∷ ys) → read_whole ys ≡ reads e [] → read_body (Name (line_bytes line.Operand) ∷ Name name ∷ Sign open_paren ∷ xs) ≡ reads (body.Operand name ops e) []
unfolding read_body read_line read_operand
operand_step name ops e xs ys h k = rw (line-Operand, h, k) refl

instruction_step : (name : List ℕ) (ops : List (List ℕ)) (ts : List SslTransfer) (xs ys : List Token) → in_parens any_name xs ≡ reads ops (Sign becomes ∷ ys) → read_transfers ys ≡ reads ts [] → read_body (Name (line_bytes line.Instruction) ∷ Name name ∷ Sign open_paren ∷ xs) ≡ reads (body.Instruction name ops ts) []
unfolding read_body read_line read_instruction
instruction_step name ops ts xs ys h k = rw (line-Instruction, h, k) refl

pub head_onto : {A : Type 0} (spell : A → List Token) (xs : List A) (r : List Token) → (listed comma spell xs ++ Sign close_paren ∷ Sign becomes ∷ []) ++ r ≡ listed comma spell xs ++ Sign close_paren ∷ Sign becomes ∷ r
head_onto spell xs r = append_assoc (listed comma spell xs) (Sign close_paren ∷ Sign becomes ∷ []) r

-- a line value is read from its tokens
pub body_reads : (b : SslBody) → is_body b ≡ true → read_body (body_toks b) ≡ reads b []
unfolding read_body read_line read_align read_delay read_single read_cells read_file_head
body_reads (body.Align true) f = rw line-Align refl
body_reads (body.Align false) f = rw line-Align refl
body_reads (body.Delay None) f = rw line-Delay refl
body_reads (body.Delay (Some n)) f = rw line-Delay refl
body_reads (body.Cell name width) f = rw line-Cell refl
body_reads (body.Cells name count width) f = rw line-Cells refl
body_reads (body.View name count width []) f = absurd (true≢false (sym f))
body_reads (body.View name count width (p ∷ ps)) f = view_step name count width _ (p ∷ ps) (parts_end p ps)
body_reads (body.Zero c) f = zero_step c (cell_toks c) (cell_end c)
body_reads (body.Windows a b c n) f =
    windows_step a b c n _ _ _ (cell_reads a (cell_toks b ++ (cell_toks c ++ Number n ∷ [])) refl) (cell_reads b (cell_toks c ++ Number n ∷ []) refl) (cell_reads c (Number n ∷ []) refl)
body_reads (body.Function name ps e) f =
    ap (λ ts. read_body (Name (line_bytes line.Function) ∷ Name name ∷ Sign open_paren ∷ ts)) (head_onto param_toks ps (expr_toks e))
    ∙ function_step name ps e _ (expr_toks e) (params_reads ps (Sign becomes ∷ expr_toks e)) (whole_end e f)
body_reads (body.Operand name ops e) f =
    ap (λ ts. read_body (Name (line_bytes line.Operand) ∷ Name name ∷ Sign open_paren ∷ ts)) (head_onto name_toks ops (expr_toks e))
    ∙ operand_step name ops e _ (expr_toks e) (names_reads ops (Sign becomes ∷ expr_toks e)) (whole_end e f)
body_reads (body.Instruction name ops ts) f =
    ap (λ us. read_body (Name (line_bytes line.Instruction) ∷ Name name ∷ Sign open_paren ∷ us)) (head_onto name_toks ops (transfers_toks ts))
    ∙ instruction_step name ops ts _ (transfers_toks ts) (names_reads ops (Sign becomes ∷ transfers_toks ts)) (ap read_transfers (sym (append-nil (transfers_toks ts))) ∙ transfers_reads ts f)
