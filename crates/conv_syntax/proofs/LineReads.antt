-- Lines: what is spelled is read.
use Rattle.std.proofs.Common.{◌≡◌, ℕ, true, false, List, [], ◌∷◌, ◌++◌, Option, Some, None, refl, sym, ap, ◌∙◌}
use Rattle.std.specs.Prelude.{codes}
use Rattle.std.proofs.lemmas.Bool.{not-true}
use Rattle.std.proofs.lemmas.List.{append-nil}
use Rattle.text_lex.specs.declared.token.Token.{Token}
use Rattle.text_lex.specs.declared.token.Token.TheVariants.{Name, Number}
use Rattle.line_reading.specs.Signs.{open_bracket}
use Rattle.line_reading.specs.Readings.{reads, begins}
use Rattle.conv_syntax.specs.declared.line.ConvBody.{ConvBody}
use Rattle.conv_syntax.specs.declared.line.ConvBody.TheVariants as body
use Rattle.conv_syntax.specs.declared.line.ConvCell.{ConvCell}
use Rattle.conv_syntax.specs.declared.line.ServiceLine.{ServiceLine}
use Rattle.conv_syntax.specs.declared.words.LineWord.TheVariants as line
use Rattle.conv_syntax.specs.Words.{word_bytes, line_word}
use Rattle.conv_syntax.specs.Lines.{index_toks, cell_toks, error_toks, stack_toks, service_toks, first_word, rest_toks, body_toks, is_negative, is_error, is_body}
use Rattle.conv_syntax.specs.LineReaders.{cell_of, read_cell, error_of, stack_of, read_stack, service_of, read_service, read_heap, read_errors, read_behind, read_body}

-- ---- cells

cell_at : (name : List ℕ) (index : Option ℕ) (r : List Token) → begins open_bracket r ≡ false → read_cell (Name name ∷ (index_toks index ++ r)) ≡ reads (cell_of name index) r
unfolding read_cell
cell_at name None r h = rw h refl
cell_at name (Some i) r h = refl

pub cell_reads : (c : ConvCell) (r : List Token) → begins open_bracket r ≡ false → read_cell (cell_toks c ++ r) ≡ reads c r
cell_reads c r h = cell_at c.name c.index r h

cell_end : (c : ConvCell) → read_cell (cell_toks c) ≡ reads c []
cell_end c = ap read_cell (sym (append-nil (cell_toks c))) ∙ cell_reads c [] refl

-- the cell that the name `negative` would be
abbrev negative_cell : ConvCell
negative_cell = cell_of (codes "negative") None

-- the cell that an error cell is read as
abbrev error_read : Option ConvCell → ConvCell
error_read None = negative_cell
error_read (Some cell) = cell

error_end : (e : Option ConvCell) → read_cell (error_toks e) ≡ reads (error_read e) []
error_end None = cell_end negative_cell
error_end (Some cell) = cell_end cell

error_back : (e : Option ConvCell) → is_error e ≡ true → error_of (error_read e) ≡ e
error_back None h = refl
error_back (Some cell) h = rw (not-true (is_negative cell) h) refl

-- a cell and then no bracket
next_cell : (c : ConvCell) (x : List ℕ) (r : List Token) → read_cell (cell_toks c ++ Name x ∷ r) ≡ reads c (Name x ∷ r)
next_cell c x r = cell_reads c (Name x ∷ r) refl

before_cell : (c d : ConvCell) (r : List Token) → read_cell (cell_toks c ++ (cell_toks d ++ r)) ≡ reads c (cell_toks d ++ r)
before_cell c d r = cell_reads c (cell_toks d ++ r) refl

-- ---- lines

stack_step : (c : ConvCell) (base size room : ℕ) (ts : List Token) → read_cell ts ≡ reads c (Number base ∷ Number size ∷ Number room ∷ []) → read_stack ts ≡ reads (body.Stack (stack_of c base size room)) []
unfolding read_stack
stack_step c base size room ts h = rw h refl

service_step : (n x y z a e : ConvCell) (ts us vs ws xs ys : List Token) → read_cell ts ≡ reads n (Name (codes "args") ∷ us) → read_cell us ≡ reads x vs → read_cell vs ≡ reads y ws
    → read_cell ws ≡ reads z (Name (codes "result") ∷ xs) → read_cell xs ≡ reads a (Name (codes "error") ∷ ys) → read_cell ys ≡ reads e [] → read_service ts ≡ reads (body.Service (service_of n x y z a e)) []
unfolding read_service
service_step n x y z a e ts us vs ws xs ys hn hx hy hz ha he = rw (hn, hx, hy, hz, ha, he) refl

service_back : (s : ServiceLine) → is_error s.error ≡ true → service_of s.number s.arg_x s.arg_y s.arg_z s.result (error_read s.error) ≡ s
service_back s h = ap (λ e. with_error e) (error_back s.error h)
  where
    with_error : Option ConvCell → ServiceLine
    with_error e = record { number = s.number; arg_x = s.arg_x; arg_y = s.arg_y; arg_z = s.arg_z; result = s.result; error = e }

service_reads : (s : ServiceLine) → is_error s.error ≡ true → read_service (service_toks s) ≡ reads (body.Service s) []
service_reads s h =
    let after_result : List Token = cell_toks s.result ++ Name (codes "error") ∷ error_toks s.error in
    let after_z : List Token = Name (codes "result") ∷ after_result in
    service_step s.number s.arg_x s.arg_y s.arg_z s.result (error_read s.error) (service_toks s) _ _ _ _ _
    (next_cell s.number (codes "args") (cell_toks s.arg_x ++ (cell_toks s.arg_y ++ (cell_toks s.arg_z ++ after_z))))
    (before_cell s.arg_x s.arg_y (cell_toks s.arg_z ++ after_z))
    (before_cell s.arg_y s.arg_z after_z)
    (next_cell s.arg_z (codes "result") after_result)
    (next_cell s.result (codes "error") (error_toks s.error))
    (error_end s.error)
    ∙ ap (λ s. reads (body.Service s) []) (service_back s h)

link_step : (c : ConvCell) (ts : List Token) → read_cell ts ≡ reads c [] → read_behind line.Link ts ≡ reads (body.Link c) []
unfolding read_behind
link_step c ts h = rw h refl

-- what stands behind the first word of a line value is read as it
behind_reads : (b : ConvBody) → is_body b ≡ true → read_behind (first_word b) (rest_toks b) ≡ reads b []
unfolding read_behind read_heap read_errors
behind_reads (body.Elf n) h = refl
behind_reads (body.Stack s) h = stack_step s.cell s.base s.size s.room (stack_toks s) (cell_reads s.cell (Number s.base ∷ Number s.size ∷ Number s.room ∷ []) refl)
behind_reads (body.Heap base size) h = refl
behind_reads (body.Service s) h = service_reads s h
behind_reads (body.Exit n) h = refl
behind_reads (body.Read n) h = refl
behind_reads (body.Write n) h = refl
behind_reads (body.Brk n) h = refl
behind_reads (body.Errors fault descriptor unknown) h = refl
behind_reads (body.Link cell) h = link_step cell (cell_toks cell) (cell_end cell)
behind_reads (body.Call name) h = refl
behind_reads (body.Return name) h = refl
behind_reads (body.Entry n) h = refl
behind_reads (body.Whole n) h = refl
behind_reads (body.Pad name) h = refl
behind_reads (body.Args n) h = refl

-- each line's word is its own
word_is : (b : ConvBody) → line_word (word_bytes (first_word b)) ≡ first_word b
unfolding line_word
word_is (body.Elf n) = refl
word_is (body.Stack s) = refl
word_is (body.Heap base size) = refl
word_is (body.Service s) = refl
word_is (body.Exit n) = refl
word_is (body.Read n) = refl
word_is (body.Write n) = refl
word_is (body.Brk n) = refl
word_is (body.Errors fault descriptor unknown) = refl
word_is (body.Link cell) = refl
word_is (body.Call name) = refl
word_is (body.Return name) = refl
word_is (body.Entry n) = refl
word_is (body.Whole n) = refl
word_is (body.Pad name) = refl
word_is (body.Args n) = refl

-- a line value is read from its tokens
pub body_reads : (b : ConvBody) → is_body b ≡ true → read_body (body_toks b) ≡ reads b []
unfolding read_body
body_reads b h = ap (λ w. read_behind w (rest_toks b)) (word_is b) ∙ behind_reads b h
