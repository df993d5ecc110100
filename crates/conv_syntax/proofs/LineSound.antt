-- Lines: what is read was spelled.
use Rattle.std.proofs.Common.{◌≡◌, ℕ, true, false, List, [], ◌∷◌, ◌++◌, drop, Option, Some, None, refl, sym, ap, ◌∙◌, ◌⊎◌, inl, inr, append_assoc}
use Rattle.std.specs.Prelude.{codes, is_none}
use Rattle.std.specs.Str.{bytes_eq}
use Rattle.std.proofs.lemmas.Bool.{cases_Bool, and_parts, not_from_false}
use Rattle.std.proofs.lemmas.List.{append-nil}
use Rattle.std.proofs.lemmas.Slice.Eq.{bytes_eq-Decides}
use Rattle.text_lex.specs.declared.token.Token.{Token}
use Rattle.text_lex.specs.declared.token.Token.TheVariants.{Name, Number, Sign, Bad}
use Rattle.line_reading.specs.Signs.{open_bracket, close_bracket}
use Rattle.line_reading.specs.Spelling.{word_among}
use Rattle.line_reading.specs.Readings.{fails, reads, Reader, after, ◌>>=◌, give, begins, sign, chosen, number, any_name, this_name}
use Rattle.line_reading.proofs.ListReads.{IsShown, IsSound, never, through, as_read, at_sign, past_sign, past_number}
use Rattle.line_reading.proofs.NameReads.{past_name, past_this, Always}
use Rattle.conv_syntax.specs.declared.line.ConvBody.{ConvBody}
use Rattle.conv_syntax.specs.declared.line.ConvBody.TheVariants as body
use Rattle.conv_syntax.specs.declared.line.ConvCell.{ConvCell}
use Rattle.conv_syntax.specs.declared.words.LineWord.{LineWord}
use Rattle.conv_syntax.specs.declared.words.LineWord.TheVariants as line
use Rattle.conv_syntax.specs.Words.{word_bytes, line_words, line_word}
use Rattle.conv_syntax.specs.Lines.{index_toks, cell_toks, error_toks, service_toks, first_word, rest_toks, body_toks, is_negative, is_error, is_body}
use Rattle.conv_syntax.specs.LineReaders.{cell_of, read_cell, error_of, stack_of, read_stack, read_heap, service_of, read_service, read_errors, read_behind, read_body}

-- ---- cells

cell_shown : (ts mid : List Token) (name : List ℕ) (index : Option ℕ) (m : List Token) (c : ConvCell) (r : List Token) → ts ≡ Name name ∷ mid → mid ≡ index_toks index ++ m → reads (cell_of name index) m ≡ reads c r → IsShown cell_toks Always ts c r
cell_shown ts mid name index m c r front back h = as_read (cell_of name index) c m r h (record { spelled = front ∙ ap (λ us. Name name ∷ us) back; proper = tt })

cell_sound : IsSound read_cell cell_toks Always
unfolding read_cell
cell_sound = record {
  shown = λ ts c r h.
      let p = past_name (λ name. chosen open_bracket (number >>= (λ index. sign close_bracket >>= (λ _. give (cell_of name (Some index))))) (give (cell_of name None))) ts c r h in
      by ts c r p.name p.mid p.front p.second (cases_Bool (begins open_bracket p.mid));
}
  where
    by : (ts : List Token) (c : ConvCell) (r : List Token) (name : List ℕ) (mid : List Token) → ts ≡ Name name ∷ mid → chosen open_bracket (number >>= (λ index. sign close_bracket >>= (λ _. give (cell_of name (Some index))))) (give (cell_of name None)) mid ≡ reads c r → (begins open_bracket mid ≡ true) ⊎ (begins open_bracket mid ≡ false) → IsShown cell_toks Always ts c r
    by ts c r name mid front h (inr b) = cell_shown ts mid name None mid c r front refl (rw b at h)
    by ts c r name mid front h (inl b) =
        let i = past_number (λ index. sign close_bracket >>= (λ _. give (cell_of name (Some index)))) (drop 1 mid) c r (rw b at h) in
        let q = past_sign close_bracket (give (cell_of name (Some i.value))) i.mid c r i.second in
        cell_shown ts mid name (Some i.value) q.mid c r front (at_sign open_bracket mid b ∙ ap (λ us. Sign open_bracket ∷ us) (i.front ∙ ap (λ us. Number i.value ∷ us) q.front)) q.second

-- a cell that is read as an error cell
no_index : (o : Option ℕ) → is_none o ≡ true → o ≡ None
no_index None h = refl
no_index (Some i) h = absurd (cc)

negative_toks : (c : ConvCell) → is_negative c ≡ true → cell_toks c ≡ Name (codes "negative") ∷ []
negative_toks c h =
    let p = and_parts (is_none c.index) (bytes_eq c.name (codes "negative")) h in
    ap (λ x. Name x ∷ index_toks c.index) ((bytes_eq-Decides c.name (codes "negative")).0 p.1) ∙ ap (λ o. Name (codes "negative") ∷ index_toks o) (no_index c.index p.0)

record ErrorShown (c : ConvCell) (e : Option ConvCell) : Type 0 where
  spelled : cell_toks c ≡ error_toks e
  proper : is_error e ≡ true

error_shown : (c : ConvCell) → ErrorShown c (error_of c)
error_shown c = by (cases_Bool (is_negative c))
  where
    by : (is_negative c ≡ true) ⊎ (is_negative c ≡ false) → ErrorShown c (error_of c)
    by (inl h) = rw h (record { spelled = negative_toks c h; proper = refl })
    by (inr h) = rw h (record { spelled = refl; proper = not_from_false (is_negative c) h })

-- ---- lines

-- a line value with this first word
record IsOf (w : LineWord) (b : ConvBody) : Type 0 where
  word : first_word b ≡ w
  proper : is_body b ≡ true

number_sound : (w : LineWord) (make : ℕ → ConvBody) → ((n : ℕ) → rest_toks (make n) ≡ Number n ∷ []) → ((n : ℕ) → IsOf w (make n)) → (ts : List Token) (b : ConvBody) (r : List Token) → after (number ts) (λ n. give (make n)) ≡ reads b r → IsShown rest_toks (IsOf w) ts b r
number_sound w make toks is ts b r h =
    let n = past_number (λ n. give (make n)) ts b r h in
    as_read (make n.value) b n.mid r n.second (record { spelled = n.front ∙ ap (λ us. us ++ n.mid) (sym (toks n.value)); proper = is n.value })

name_sound : (w : LineWord) (make : List ℕ → ConvBody) → ((x : List ℕ) → rest_toks (make x) ≡ Name x ∷ []) → ((x : List ℕ) → IsOf w (make x)) → (ts : List Token) (b : ConvBody) (r : List Token) → after (any_name ts) (λ x. give (make x)) ≡ reads b r → IsShown rest_toks (IsOf w) ts b r
name_sound w make toks is ts b r h =
    let n = past_name (λ x. give (make x)) ts b r h in
    as_read (make n.name) b n.mid r n.second (record { spelled = n.front ∙ ap (λ us. us ++ n.mid) (sym (toks n.name)); proper = is n.name })

link_sound : (ts : List Token) (b : ConvBody) (r : List Token) → after (read_cell ts) (λ c. give (body.Link c)) ≡ reads b r → IsShown rest_toks (IsOf line.Link) ts b r
link_sound ts b r h =
    let t = through (read_cell ts) (λ c. give (body.Link c)) b r h in
    let s = cell_sound.shown ts t.x t.mid t.first in
    as_read (body.Link t.x) b t.mid r t.second (record { spelled = s.spelled; proper = record { word = refl; proper = refl } })

stack_sound : (ts : List Token) (b : ConvBody) (r : List Token) → read_stack ts ≡ reads b r → IsShown rest_toks (IsOf line.Stack) ts b r
unfolding read_stack
stack_sound ts b r h =
    let t = through (read_cell ts) (λ cell. number >>= (λ base. number >>= (λ size. number >>= (λ room. give (body.Stack (stack_of cell base size room)))))) b r h in
    let s = cell_sound.shown ts t.x t.mid t.first in
    let n = past_number (λ base. number >>= (λ size. number >>= (λ room. give (body.Stack (stack_of t.x base size room))))) t.mid b r t.second in
    let m = past_number (λ size. number >>= (λ room. give (body.Stack (stack_of t.x n.value size room)))) n.mid b r n.second in
    let k = past_number (λ room. give (body.Stack (stack_of t.x n.value m.value room))) m.mid b r m.second in
    as_read (body.Stack (stack_of t.x n.value m.value k.value)) b k.mid r k.second (record {
      spelled = s.spelled ∙ ap (λ us. cell_toks t.x ++ us) (n.front ∙ ap (λ us. Number n.value ∷ us) (m.front ∙ ap (λ us. Number m.value ∷ us) k.front))
          ∙ sym (append_assoc (cell_toks t.x) (Number n.value ∷ Number m.value ∷ Number k.value ∷ []) k.mid);
      proper = record { word = refl; proper = refl };
    })

heap_sound : (ts : List Token) (b : ConvBody) (r : List Token) → read_heap ts ≡ reads b r → IsShown rest_toks (IsOf line.Heap) ts b r
unfolding read_heap
heap_sound ts b r h =
    let n = past_number (λ base. number >>= (λ size. give (body.Heap base size))) ts b r h in
    let m = past_number (λ size. give (body.Heap n.value size)) n.mid b r n.second in
    as_read (body.Heap n.value m.value) b m.mid r m.second (record { spelled = n.front ∙ ap (λ us. Number n.value ∷ us) m.front; proper = record { word = refl; proper = refl } })

errors_sound : (ts : List Token) (b : ConvBody) (r : List Token) → read_errors ts ≡ reads b r → IsShown rest_toks (IsOf line.Errors) ts b r
unfolding read_errors
errors_sound ts b r h =
    let f = past_this (codes "fault") (number >>= (λ x. this_name (codes "descriptor") >>= (λ _. number >>= (λ y. this_name (codes "unknown") >>= (λ _. number >>= (λ z. give (body.Errors x y z))))))) ts b r h in
    let x = past_number (λ x. this_name (codes "descriptor") >>= (λ _. number >>= (λ y. this_name (codes "unknown") >>= (λ _. number >>= (λ z. give (body.Errors x y z)))))) f.mid b r f.second in
    let d = past_this (codes "descriptor") (number >>= (λ y. this_name (codes "unknown") >>= (λ _. number >>= (λ z. give (body.Errors x.value y z))))) x.mid b r x.second in
    let y = past_number (λ y. this_name (codes "unknown") >>= (λ _. number >>= (λ z. give (body.Errors x.value y z)))) d.mid b r d.second in
    let u = past_this (codes "unknown") (number >>= (λ z. give (body.Errors x.value y.value z))) y.mid b r y.second in
    let z = past_number (λ z. give (body.Errors x.value y.value z)) u.mid b r u.second in
    as_read (body.Errors x.value y.value z.value) b z.mid r z.second (record {
      spelled = f.front ∙ ap (λ us. Name (codes "fault") ∷ us) (x.front ∙ ap (λ us. Number x.value ∷ us) (d.front ∙ ap (λ us. Name (codes "descriptor") ∷ us)
          (y.front ∙ ap (λ us. Number y.value ∷ us) (u.front ∙ ap (λ us. Name (codes "unknown") ∷ us) z.front))));
      proper = record { word = refl; proper = refl };
    })

-- what stands behind the cells of a service, put behind them
service_onto : (n x y z a : ConvCell) (e : Option ConvCell) (r : List Token) → service_toks (record { number = n; arg_x = x; arg_y = y; arg_z = z; result = a; error = e }) ++ r
    ≡ cell_toks n ++ Name (codes "args") ∷ (cell_toks x ++ (cell_toks y ++ (cell_toks z ++ Name (codes "result") ∷ (cell_toks a ++ Name (codes "error") ∷ (error_toks e ++ r)))))
service_onto n x y z a e r = simp append_assoc

-- behind the arguments of a service
outcome_reader : ConvCell → ConvCell → ConvCell → ConvCell → Reader ConvBody
outcome_reader n x y z = this_name (codes "result") >>= (λ _. read_cell >>= (λ a. this_name (codes "error") >>= (λ _. read_cell >>= (λ e. give (body.Service (service_of n x y z a e))))))

-- behind its number
arguments_reader : ConvCell → Reader ConvBody
arguments_reader n = this_name (codes "args") >>= (λ _. read_cell >>= (λ x. read_cell >>= (λ y. read_cell >>= (λ z. outcome_reader n x y z))))

service_split : (ts : List Token) → read_service ts ≡ after (read_cell ts) (λ n. arguments_reader n)
unfolding read_service arguments_reader outcome_reader
service_split ts = refl

record OutcomeShown (n x y z : ConvCell) (ts : List Token) (b : ConvBody) (r : List Token) : Type 0 where
  a : ConvCell
  e : ConvCell
  mid : List Token
  spelled : ts ≡ Name (codes "result") ∷ (cell_toks a ++ Name (codes "error") ∷ (cell_toks e ++ mid))
  same : reads (body.Service (service_of n x y z a e)) mid ≡ reads b r

outcome_spelled : (a e : ConvCell) (ts t1 t2 t3 mid : List Token) → ts ≡ Name (codes "result") ∷ t1 → t1 ≡ cell_toks a ++ t2 → t2 ≡ Name (codes "error") ∷ t3 → t3 ≡ cell_toks e ++ mid
    → ts ≡ Name (codes "result") ∷ (cell_toks a ++ Name (codes "error") ∷ (cell_toks e ++ mid))
outcome_spelled a e ts t1 t2 t3 mid h1 h2 h3 h4 = h1 ∙ ap (λ us. Name (codes "result") ∷ us) (h2 ∙ ap (λ us. cell_toks a ++ us) (h3 ∙ ap (λ us. Name (codes "error") ∷ us) h4))

outcome_sound : (n x y z : ConvCell) (ts : List Token) (b : ConvBody) (r : List Token) → outcome_reader n x y z ts ≡ reads b r → OutcomeShown n x y z ts b r
unfolding outcome_reader
outcome_sound n x y z ts b r h =
    let k = past_this (codes "result") (read_cell >>= (λ a. this_name (codes "error") >>= (λ _. read_cell >>= (λ e. give (body.Service (service_of n x y z a e)))))) ts b r h in
    let a = through (read_cell k.mid) (λ a. this_name (codes "error") >>= (λ _. read_cell >>= (λ e. give (body.Service (service_of n x y z a e))))) b r k.second in
    let q = past_this (codes "error") (read_cell >>= (λ e. give (body.Service (service_of n x y z a.x e)))) a.mid b r a.second in
    let e = through (read_cell q.mid) (λ e. give (body.Service (service_of n x y z a.x e))) b r q.second in
    record {
      a = a.x;
      e = e.x;
      mid = e.mid;
      spelled = outcome_spelled a.x e.x ts k.mid a.mid q.mid e.mid k.front (cell_sound.shown k.mid a.x a.mid a.first).spelled q.front (cell_sound.shown q.mid e.x e.mid e.first).spelled;
      same = e.second;
    }

record ArgumentsShown (n : ConvCell) (ts : List Token) (b : ConvBody) (r : List Token) : Type 0 where
  x : ConvCell
  y : ConvCell
  z : ConvCell
  mid : List Token
  spelled : ts ≡ Name (codes "args") ∷ (cell_toks x ++ (cell_toks y ++ (cell_toks z ++ mid)))
  behind : outcome_reader n x y z mid ≡ reads b r

arguments_spelled : (x y z : ConvCell) (ts t1 t2 t3 mid : List Token) → ts ≡ Name (codes "args") ∷ t1 → t1 ≡ cell_toks x ++ t2 → t2 ≡ cell_toks y ++ t3 → t3 ≡ cell_toks z ++ mid
    → ts ≡ Name (codes "args") ∷ (cell_toks x ++ (cell_toks y ++ (cell_toks z ++ mid)))
arguments_spelled x y z ts t1 t2 t3 mid h1 h2 h3 h4 = h1 ∙ ap (λ us. Name (codes "args") ∷ us) (h2 ∙ ap (λ us. cell_toks x ++ us) (h3 ∙ ap (λ us. cell_toks y ++ us) h4))

arguments_sound : (n : ConvCell) (ts : List Token) (b : ConvBody) (r : List Token) → arguments_reader n ts ≡ reads b r → ArgumentsShown n ts b r
unfolding arguments_reader
arguments_sound n ts b r h =
    let k = past_this (codes "args") (read_cell >>= (λ x. read_cell >>= (λ y. read_cell >>= (λ z. outcome_reader n x y z)))) ts b r h in
    let x = through (read_cell k.mid) (λ x. read_cell >>= (λ y. read_cell >>= (λ z. outcome_reader n x y z))) b r k.second in
    let y = through (read_cell x.mid) (λ y. read_cell >>= (λ z. outcome_reader n x.x y z)) b r x.second in
    let z = through (read_cell y.mid) (λ z. outcome_reader n x.x y.x z) b r y.second in
    record {
      x = x.x;
      y = y.x;
      z = z.x;
      mid = z.mid;
      spelled = arguments_spelled x.x y.x z.x ts k.mid x.mid y.mid z.mid k.front (cell_sound.shown k.mid x.x x.mid x.first).spelled (cell_sound.shown x.mid y.x y.mid y.first).spelled
          (cell_sound.shown y.mid z.x z.mid z.first).spelled;
      behind = z.second;
    }

service_spelled : (n x y z a e : ConvCell) (ts t1 t2 mid : List Token) → ts ≡ cell_toks n ++ t1 → t1 ≡ Name (codes "args") ∷ (cell_toks x ++ (cell_toks y ++ (cell_toks z ++ t2)))
    → t2 ≡ Name (codes "result") ∷ (cell_toks a ++ Name (codes "error") ∷ (cell_toks e ++ mid)) → ts ≡ service_toks (service_of n x y z a e) ++ mid
service_spelled n x y z a e ts t1 t2 mid h1 h2 h3 =
    let s = error_shown e in
    h1 ∙ ap (λ us. cell_toks n ++ us) (h2 ∙ ap (λ us. Name (codes "args") ∷ (cell_toks x ++ (cell_toks y ++ (cell_toks z ++ us))))
    (h3 ∙ ap (λ us. Name (codes "result") ∷ (cell_toks a ++ Name (codes "error") ∷ (us ++ mid))) s.spelled))
    ∙ sym (service_onto n x y z a (error_of e) mid)

service_shown : (n x y z a e : ConvCell) (ts t1 t2 mid : List Token) (b : ConvBody) (r : List Token) → ts ≡ cell_toks n ++ t1 → t1 ≡ Name (codes "args") ∷ (cell_toks x ++ (cell_toks y ++ (cell_toks z ++ t2)))
    → t2 ≡ Name (codes "result") ∷ (cell_toks a ++ Name (codes "error") ∷ (cell_toks e ++ mid)) → reads (body.Service (service_of n x y z a e)) mid ≡ reads b r → IsShown rest_toks (IsOf line.Service) ts b r
service_shown n x y z a e ts t1 t2 mid b r h1 h2 h3 h =
    let s = error_shown e in
    as_read (body.Service (service_of n x y z a e)) b mid r h (record { spelled = service_spelled n x y z a e ts t1 t2 mid h1 h2 h3; proper = record { word = refl; proper = s.proper } })

service_behind : (n : ConvCell) (ts t1 : List Token) (b : ConvBody) (r : List Token) → ts ≡ cell_toks n ++ t1 → ArgumentsShown n t1 b r → IsShown rest_toks (IsOf line.Service) ts b r
service_behind n ts t1 b r h s =
    let o = outcome_sound n s.x s.y s.z s.mid b r s.behind in
    service_shown n s.x s.y s.z o.a o.e ts t1 s.mid o.mid b r h s.spelled o.spelled o.same

service_sound : (ts : List Token) (b : ConvBody) (r : List Token) → read_service ts ≡ reads b r → IsShown rest_toks (IsOf line.Service) ts b r
service_sound ts b r h =
    let t = through (read_cell ts) (λ n. arguments_reader n) b r (sym (service_split ts) ∙ h) in
    service_behind t.x ts t.mid b r (cell_sound.shown ts t.x t.mid t.first).spelled (arguments_sound t.x t.mid b r t.second)

behind_sound : (w : LineWord) (ts : List Token) (b : ConvBody) (r : List Token) → read_behind w ts ≡ reads b r → IsShown rest_toks (IsOf w) ts b r
unfolding read_behind
behind_sound line.Elf ts b r h = number_sound line.Elf (λ n. body.Elf n) (λ n. refl) (λ n. record { word = refl; proper = refl }) ts b r h
behind_sound line.Stack ts b r h = stack_sound ts b r h
behind_sound line.Heap ts b r h = heap_sound ts b r h
behind_sound line.Service ts b r h = service_sound ts b r h
behind_sound line.Exit ts b r h = number_sound line.Exit (λ n. body.Exit n) (λ n. refl) (λ n. record { word = refl; proper = refl }) ts b r h
behind_sound line.Read ts b r h = number_sound line.Read (λ n. body.Read n) (λ n. refl) (λ n. record { word = refl; proper = refl }) ts b r h
behind_sound line.Write ts b r h = number_sound line.Write (λ n. body.Write n) (λ n. refl) (λ n. record { word = refl; proper = refl }) ts b r h
behind_sound line.Brk ts b r h = number_sound line.Brk (λ n. body.Brk n) (λ n. refl) (λ n. record { word = refl; proper = refl }) ts b r h
behind_sound line.Errors ts b r h = errors_sound ts b r h
behind_sound line.Link ts b r h = link_sound ts b r h
behind_sound line.Call ts b r h = name_sound line.Call (λ x. body.Call x) (λ x. refl) (λ x. record { word = refl; proper = refl }) ts b r h
behind_sound line.Return ts b r h = name_sound line.Return (λ x. body.Return x) (λ x. refl) (λ x. record { word = refl; proper = refl }) ts b r h
behind_sound line.Entry ts b r h = number_sound line.Entry (λ n. body.Entry n) (λ n. refl) (λ n. record { word = refl; proper = refl }) ts b r h
behind_sound line.Whole ts b r h = number_sound line.Whole (λ n. body.Whole n) (λ n. refl) (λ n. record { word = refl; proper = refl }) ts b r h
behind_sound line.Pad ts b r h = name_sound line.Pad (λ x. body.Pad x) (λ x. refl) (λ x. record { word = refl; proper = refl }) ts b r h
behind_sound line.Args ts b r h = number_sound line.Args (λ n. body.Args n) (λ n. refl) (λ n. record { word = refl; proper = refl }) ts b r h
behind_sound line.Other ts b r h = never b r h

-- a name is the word that it is found to be, or no word
among : (x : List ℕ) (ws : List LineWord) → (x ≡ word_bytes (word_among word_bytes line.Other ws x)) ⊎ (word_among word_bytes line.Other ws x ≡ line.Other)
among x [] = inr refl
among x (w ∷ ws) = by (cases_Bool (bytes_eq x (word_bytes w))) (among x ws)
  where
    by : (bytes_eq x (word_bytes w) ≡ true) ⊎ (bytes_eq x (word_bytes w) ≡ false) → (x ≡ word_bytes (word_among word_bytes line.Other ws x)) ⊎ (word_among word_bytes line.Other ws x ≡ line.Other)
        → (x ≡ word_bytes (word_among word_bytes line.Other (w ∷ ws) x)) ⊎ (word_among word_bytes line.Other (w ∷ ws) x ≡ line.Other)
    by (inl e) rec = rw e (inl ((bytes_eq-Decides x (word_bytes w)).0 e))
    by (inr e) rec = rw e rec

word_found : (x : List ℕ) → (x ≡ word_bytes (line_word x)) ⊎ (line_word x ≡ line.Other)
unfolding line_word
word_found x = among x line_words

pub record LineShown (ts : List Token) (b : ConvBody) : Type 0 where
  pub spelled : ts ≡ body_toks b
  pub proper : is_body b ≡ true

other_fails : (ts : List Token) → read_behind line.Other ts ≡ fails
unfolding read_behind
other_fails ts = refl

named_sound : (x : List ℕ) (ts : List Token) (b : ConvBody) → (x ≡ word_bytes (line_word x)) ⊎ (line_word x ≡ line.Other) → read_behind (line_word x) ts ≡ reads b [] → LineShown (Name x ∷ ts) b
named_sound x ts b (inr e) h = never b [] (sym (other_fails ts) ∙ ap (λ w. read_behind w ts) (sym e) ∙ h)
named_sound x ts b (inl e) h =
    let s = behind_sound (line_word x) ts b [] h in
    record {
      spelled = ap (λ y. Name y ∷ ts) (e ∙ ap word_bytes (sym s.proper.word)) ∙ ap (λ us. Name (word_bytes (first_word b)) ∷ us) (s.spelled ∙ append-nil (rest_toks b));
      proper = s.proper.proper;
    }

-- what is read as a line to its end was spelled by it
pub body_sound : (ts : List Token) (b : ConvBody) → read_body ts ≡ reads b [] → LineShown ts b
unfolding read_body
body_sound [] b h = never b [] h
body_sound (Name x ∷ ts) b h = named_sound x ts b (word_found x) h
body_sound (Number v ∷ ts) b h = never b [] h
body_sound (Sign f ∷ ts) b h = never b [] h
body_sound (Bad ∷ ts) b h = never b [] h
