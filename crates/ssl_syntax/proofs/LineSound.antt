-- Lines: what is read was spelled.
use Rattle.std.proofs.Common.{◌≡◌, ℕ, ◌+◌, Bool, true, false, ◌&&◌, not, List, [], ◌∷◌, ◌++◌, drop, Option, Some, None, refl, sym, ap, ◌∙◌, subst, ◌⊎◌, inl, inr, append_assoc}
use Rattle.std.specs.Prelude.{codes}
use Rattle.std.specs.List.{list_all}
use Rattle.std.specs.Str.{bytes_eq}
use Rattle.std.proofs.lemmas.Bool.{cases_Bool, true≢false}
use Rattle.std.proofs.lemmas.List.{append-nil}
use Rattle.std.proofs.lemmas.Slice.Eq.{bytes_eq-Decides}
use Rattle.text_lex.specs.declared.token.Token.{Token}
use Rattle.text_lex.specs.declared.token.Token.TheVariants.{Name, Number, Sign, Bad}
use Rattle.ssl_syntax.specs.declared.line.CellName.{CellName}
use Rattle.ssl_syntax.specs.declared.line.ViewPart.{ViewPart}
use Rattle.ssl_syntax.specs.declared.line.ViewPart.TheVariants as part
use Rattle.ssl_syntax.specs.declared.line.Param.{Param}
use Rattle.ssl_syntax.specs.declared.line.SslExpr.{SslExpr}
use Rattle.ssl_syntax.specs.declared.line.SslTransfer.{SslTransfer}
use Rattle.ssl_syntax.specs.declared.line.SslBody.{SslBody}
use Rattle.ssl_syntax.specs.declared.line.SslBody.TheVariants as body
use Rattle.ssl_syntax.specs.declared.files.FileHead.{FileHead}
use Rattle.ssl_syntax.specs.declared.words.LineWord.{LineWord}
use Rattle.ssl_syntax.specs.declared.words.LineWord.TheVariants as line
use Rattle.ssl_syntax.specs.declared.words.Word.TheVariants as word
use Rattle.line_reading.specs.Signs.{becomes, open_paren, close_paren, open_bracket, close_bracket, comma, semicolon, colon}
use Rattle.ssl_syntax.specs.Words.{word_bytes, line_bytes, line_words, line_word}
use Rattle.line_reading.specs.Spelling.{word_among, listed, name_toks, is_empty}
use Rattle.ssl_syntax.specs.Expressions.{expr_toks, is_expr}
use Rattle.ssl_syntax.specs.Transfers.{index_toks, cell_toks, bits_toks, transfer_toks, is_transfer}
use Rattle.ssl_syntax.specs.Lines.{part_toks, param_toks, head_toks, transfers_toks, yes_or_no, delay_toks, file_toks, body_toks, is_body}
use Rattle.line_reading.specs.Readings.{Read, fails, reads, Reader, after, ◌>>=◌, give, begins, sign, number, any_name, items, in_parens, begins_name, this_name}
use Rattle.ssl_syntax.specs.TransferReaders.{read_whole, read_cell, limits_of, read_limits, read_transfer}
use Rattle.ssl_syntax.specs.LineReaders.{file_head, read_file_head, read_bits_part, begins_bits, read_view_part, param_of, read_param, read_align, read_delay, read_single, read_cells, read_view, read_zero, read_windows, read_function, read_operand, read_transfers, read_instruction, read_line, read_body}
use Rattle.line_reading.proofs.ListReads.{Each, IsShown, IsSound, ParensShown, Several, never, Through, through, as_read, at_sign, past_sign, past_number, items_sound, in_parens_sound}
use Rattle.ssl_syntax.proofs.LineReads.{head_onto}
use Rattle.ssl_syntax.proofs.TransferReads.{bits_onto}
use Rattle.ssl_syntax.proofs.TransferSound.{IsExpr, whole_sound, cell_sound, limits_toks, limits_sound, IsTransfer, transfer_sound}
use Rattle.line_reading.proofs.NameReads.{past_name, Always, at_name, name_sound, past_this}

bits_front : (ts : List Token) → begins_bits ts ≡ true → ts ≡ Name (word_bytes word.Bits) ∷ Sign open_paren ∷ drop 1 (drop 1 ts)
bits_front ts h = by (cases_Bool (begins_name (word_bytes word.Bits) ts))
  where
    by : (begins_name (word_bytes word.Bits) ts ≡ true) ⊎ (begins_name (word_bytes word.Bits) ts ≡ false) → ts ≡ Name (word_bytes word.Bits) ∷ Sign open_paren ∷ drop 1 (drop 1 ts)
    by (inl e) = at_name (word_bytes word.Bits) ts e ∙ ap (λ us. Name (word_bytes word.Bits) ∷ us) (at_sign open_paren (drop 1 ts) (rw e at h))
    by (inr e) = absurd (true≢false (sym (rw e at h)))

bits_part_sound : (ts us : List Token) (p : ViewPart) (r : List Token) → us ≡ Name (word_bytes word.Bits) ∷ Sign open_paren ∷ ts → read_bits_part ts ≡ reads p r → IsShown part_toks Always us p r
unfolding read_bits_part
bits_part_sound ts us p r is h =
    let c = through (read_cell ts) (λ cell. read_limits >>= (λ limits. give (part.Bits cell limits.lo limits.hi))) p r h in
    let sc = cell_sound.shown ts c.x c.mid c.first in
    let l = through (read_limits c.mid) (λ limits. give (part.Bits c.x limits.lo limits.hi)) p r c.second in
    let sl = limits_sound.shown c.mid l.x l.mid l.first in
    as_read (part.Bits c.x l.x.lo l.x.hi) p l.mid r l.second (record {
      spelled = is ∙ ap (λ us. Name (word_bytes word.Bits) ∷ Sign open_paren ∷ us) (sc.spelled ∙ ap (λ us. cell_toks c.x ++ us) sl.spelled) ∙ sym (bits_onto c.x l.x.lo l.x.hi l.mid);
      proper = tt;
    })

part_at : (ts : List Token) (p : ViewPart) (r : List Token) → read_view_part ts ≡ reads p r → IsShown part_toks Always ts p r
unfolding read_view_part
part_at ts p r h = by (cases_Bool (begins_bits ts))
  where
    by : (begins_bits ts ≡ true) ⊎ (begins_bits ts ≡ false) → IsShown part_toks Always ts p r
    by (inl b) = bits_part_sound (drop 1 (drop 1 ts)) ts p r (bits_front ts b) (rw b at h)
    by (inr b) =
        let c = through (read_cell ts) (λ cell. give (part.Whole cell)) p r (rw b at h) in
        let s = cell_sound.shown ts c.x c.mid c.first in
        as_read (part.Whole c.x) p c.mid r c.second (record { spelled = s.spelled; proper = tt })

pub part_sound : IsSound read_view_part part_toks Always
part_sound = record { shown = part_at }

pub param_sound : IsSound read_param param_toks Always
unfolding read_param
param_sound = record {
  shown = λ ts p r h.
      let n = past_name (λ name. sign colon >>= (λ _. number >>= (λ width. give (param_of name width)))) ts p r h in
      let c = past_sign colon (number >>= (λ width. give (param_of n.name width))) n.mid p r n.second in
      let w = past_number (λ width. give (param_of n.name width)) c.mid p r c.second in
      as_read (param_of n.name w.value) p w.mid r w.second (record {
        spelled = n.front ∙ ap (λ us. Name n.name ∷ us) (c.front ∙ ap (λ us. Sign colon ∷ us) w.front);
        proper = tt;
      });
}

abbrev pub AreTransfers : List SslTransfer → Type 0
AreTransfers ts = list_all is_transfer ts ≡ true

all_transfers : (ts : List SslTransfer) → Each IsTransfer ts → list_all is_transfer ts ≡ true
all_transfers [] h = refl
all_transfers (t ∷ ts) h = rw (h.0, all_transfers ts h.1) refl

listed_transfers : (ts : List Token) (xs : List SslTransfer) (r : List Token) → IsShown (listed semicolon transfer_toks) (Several IsTransfer) ts xs r → IsShown transfers_toks AreTransfers ts xs r
listed_transfers ts [] r s = absurd s.proper
listed_transfers ts (x ∷ xs) r s = record { spelled = s.spelled; proper = all_transfers (x ∷ xs) s.proper }

transfers_at : (ts : List Token) (xs : List SslTransfer) (r : List Token) → read_transfers ts ≡ reads xs r → IsShown transfers_toks AreTransfers ts xs r
unfolding read_transfers
transfers_at ts xs r h = by (cases_Bool (begins_name (word_bytes word.Nothing) ts))
  where
    by : (begins_name (word_bytes word.Nothing) ts ≡ true) ⊎ (begins_name (word_bytes word.Nothing) ts ≡ false) → IsShown transfers_toks AreTransfers ts xs r
    by (inl b) = as_read [] xs (drop 1 ts) r (rw b at h) (record { spelled = at_name (word_bytes word.Nothing) ts b; proper = refl })
    by (inr b) = listed_transfers ts xs r (items_sound semicolon read_transfer transfer_toks IsTransfer transfer_sound ts xs r (rw b at h))

-- a line was read so, to its end
pub record LineShown (ts : List Token) (b : SslBody) : Type 0 where
  pub spelled : ts ≡ body_toks b
  pub proper : is_body b ≡ true

lined : (w x : List ℕ) (ts us : List Token) (c b : SslBody) (m : List Token) → x ≡ w → ts ≡ us → (m ≡ [] → Name w ∷ us ≡ body_toks c) → is_body c ≡ true → reads c m ≡ reads b [] → LineShown (Name x ∷ ts) b
lined w x ts us c b m word is whole f h =
    let same : c ≡ b = cc in
    let rest : m ≡ [] = cc in
    subst (λ z. LineShown (Name x ∷ ts) z) same (record { spelled = ap (λ y. Name y ∷ ts) word ∙ ap (λ vs. Name w ∷ vs) is ∙ whole rest; proper = f })

align_sound : (x : List ℕ) (ts : List Token) (b : SslBody) → x ≡ line_bytes line.Align → read_align ts ≡ reads b [] → LineShown (Name x ∷ ts) b
unfolding read_align
align_sound x ts b is h = by (cases_Bool (begins_name (codes "yes") ts))
  where
    by : (begins_name (codes "yes") ts ≡ true) ⊎ (begins_name (codes "yes") ts ≡ false) → LineShown (Name x ∷ ts) b
    by (inl e) = lined (line_bytes line.Align) x ts (Name (codes "yes") ∷ drop 1 ts) (body.Align true) b (drop 1 ts) is (at_name (codes "yes") ts e) (λ z. ap (λ us. Name (line_bytes line.Align) ∷ Name (codes "yes") ∷ us) z) refl (rw e at h)
    by (inr e) =
        let n = past_this (codes "no") (give (body.Align false)) ts b [] (rw e at h) in
        lined (line_bytes line.Align) x ts (Name (codes "no") ∷ n.mid) (body.Align false) b n.mid is n.front (λ z. ap (λ us. Name (line_bytes line.Align) ∷ Name (codes "no") ∷ us) z) refl n.second

delay_sound : (x : List ℕ) (ts : List Token) (b : SslBody) → x ≡ line_bytes line.Delay → read_delay ts ≡ reads b [] → LineShown (Name x ∷ ts) b
unfolding read_delay
delay_sound x ts b is h = by (cases_Bool (begins_name (codes "no") ts))
  where
    by : (begins_name (codes "no") ts ≡ true) ⊎ (begins_name (codes "no") ts ≡ false) → LineShown (Name x ∷ ts) b
    by (inl e) = lined (line_bytes line.Delay) x ts (Name (codes "no") ∷ drop 1 ts) (body.Delay None) b (drop 1 ts) is (at_name (codes "no") ts e) (λ z. ap (λ us. Name (line_bytes line.Delay) ∷ Name (codes "no") ∷ us) z) refl (rw e at h)
    by (inr e) =
        let n = past_number (λ bytes. give (body.Delay (Some bytes))) ts b [] (rw e at h) in
        lined (line_bytes line.Delay) x ts (Number n.value ∷ n.mid) (body.Delay (Some n.value)) b n.mid is n.front (λ z. ap (λ us. Name (line_bytes line.Delay) ∷ Number n.value ∷ us) z) refl n.second

single_sound : (x : List ℕ) (ts : List Token) (b : SslBody) → x ≡ line_bytes line.Cell → read_single ts ≡ reads b [] → LineShown (Name x ∷ ts) b
unfolding read_single
single_sound x ts b is h =
    let n = past_name (λ name. number >>= (λ width. give (body.Cell name width))) ts b [] h in
    let w = past_number (λ width. give (body.Cell n.name width)) n.mid b [] n.second in
    lined (line_bytes line.Cell) x ts (Name n.name ∷ Number w.value ∷ w.mid) (body.Cell n.name w.value) b w.mid is (n.front ∙ ap (λ us. Name n.name ∷ us) w.front) (λ z. ap (λ us. Name (line_bytes line.Cell) ∷ Name n.name ∷ Number w.value ∷ us) z) refl w.second

record HeadShown (ts : List Token) (head : FileHead) (r : List Token) : Type 0 where
  spelled : ts ≡ file_toks head.name head.count head.width ++ r

head_given : (ts : List Token) (a b : FileHead) (m r : List Token) → reads a m ≡ reads b r → HeadShown ts a m → HeadShown ts b r
head_given ts a b m r h s =
    let same : a ≡ b = cc in
    let rest : m ≡ r = cc in
    subst (λ z. HeadShown ts z r) same (subst (λ z. HeadShown ts a z) rest s)

head_sound : (ts : List Token) (head : FileHead) (r : List Token) → read_file_head ts ≡ reads head r → HeadShown ts head r
unfolding read_file_head
head_sound ts head r h =
    let n = past_name (λ name. sign open_bracket >>= (λ _. number >>= (λ count. sign close_bracket >>= (λ _. number >>= (λ width. give (file_head name count width)))))) ts head r h in
    let o = past_sign open_bracket (number >>= (λ count. sign close_bracket >>= (λ _. number >>= (λ width. give (file_head n.name count width))))) n.mid head r n.second in
    let c = past_number (λ count. sign close_bracket >>= (λ _. number >>= (λ width. give (file_head n.name count width)))) o.mid head r o.second in
    let k = past_sign close_bracket (number >>= (λ width. give (file_head n.name c.value width))) c.mid head r c.second in
    let w = past_number (λ width. give (file_head n.name c.value width)) k.mid head r k.second in
    head_given ts (file_head n.name c.value w.value) head w.mid r w.second (record {
      spelled = n.front ∙ ap (λ us. Name n.name ∷ us) (o.front ∙ ap (λ us. Sign open_bracket ∷ us) (c.front ∙ ap (λ us. Number c.value ∷ us) (k.front ∙ ap (λ us. Sign close_bracket ∷ us) w.front)));
    })

cells_sound : (x : List ℕ) (ts : List Token) (b : SslBody) → x ≡ line_bytes line.Cells → read_cells ts ≡ reads b [] → LineShown (Name x ∷ ts) b
unfolding read_cells
cells_sound x ts b is h =
    let t = through (read_file_head ts) (λ head. give (body.Cells head.name head.count head.width)) b [] h in
    let s = head_sound ts t.x t.mid t.first in
    lined (line_bytes line.Cells) x ts (file_toks t.x.name t.x.count t.x.width ++ t.mid) (body.Cells t.x.name t.x.count t.x.width) b t.mid is s.spelled
    (λ z. ap (λ us. Name (line_bytes line.Cells) ∷ (file_toks t.x.name t.x.count t.x.width ++ us)) z) refl t.second

not_empty : {A : Type 0} (P : A → Type 0) (xs : List A) → Several P xs → not (is_empty xs) ≡ true
not_empty P [] h = absurd h
not_empty P (x ∷ xs) h = refl

view_sound : (x : List ℕ) (ts : List Token) (b : SslBody) → x ≡ line_bytes line.View → read_view ts ≡ reads b [] → LineShown (Name x ∷ ts) b
unfolding read_view
view_sound x ts b is h =
    let t = through (read_file_head ts) (λ head. this_name (codes "is") >>= (λ _. items comma read_view_part >>= (λ parts. give (body.View head.name head.count head.width parts)))) b [] h in
    let s = head_sound ts t.x t.mid t.first in
    let n = past_this (codes "is") (items comma read_view_part >>= (λ parts. give (body.View t.x.name t.x.count t.x.width parts))) t.mid b [] t.second in
    let p = through (items comma read_view_part n.mid) (λ parts. give (body.View t.x.name t.x.count t.x.width parts)) b [] n.second in
    let sp = items_sound comma read_view_part part_toks Always part_sound n.mid p.x p.mid p.first in
    lined (line_bytes line.View) x ts (file_toks t.x.name t.x.count t.x.width ++ Name (codes "is") ∷ (listed comma part_toks p.x ++ p.mid)) (body.View t.x.name t.x.count t.x.width p.x) b p.mid is
    (s.spelled ∙ ap (λ us. file_toks t.x.name t.x.count t.x.width ++ us) (n.front ∙ ap (λ us. Name (codes "is") ∷ us) sp.spelled))
    (λ z. ap (λ us. Name (line_bytes line.View) ∷ (file_toks t.x.name t.x.count t.x.width ++ Name (codes "is") ∷ us)) (ap (λ us. listed comma part_toks p.x ++ us) z ∙ append-nil (listed comma part_toks p.x)))
    (not_empty Always p.x sp.proper) p.second

zero_sound : (x : List ℕ) (ts : List Token) (b : SslBody) → x ≡ line_bytes line.Zero → read_zero ts ≡ reads b [] → LineShown (Name x ∷ ts) b
unfolding read_zero
zero_sound x ts b is h =
    let t = through (read_cell ts) (λ cell. give (body.Zero cell)) b [] h in
    let s = cell_sound.shown ts t.x t.mid t.first in
    lined (line_bytes line.Zero) x ts (cell_toks t.x ++ t.mid) (body.Zero t.x) b t.mid is s.spelled
    (λ z. ap (λ us. Name (line_bytes line.Zero) ∷ us) (ap (λ us. cell_toks t.x ++ us) z ∙ append-nil (cell_toks t.x))) refl t.second

windows_sound : (x : List ℕ) (ts : List Token) (b : SslBody) → x ≡ line_bytes line.Windows → read_windows ts ≡ reads b [] → LineShown (Name x ∷ ts) b
unfolding read_windows
windows_sound x ts b is h =
    let o = through (read_cell ts) (λ out. read_cell >>= (λ local. read_cell >>= (λ into. number >>= (λ n. give (body.Windows out local into n))))) b [] h in
    let so = cell_sound.shown ts o.x o.mid o.first in
    let l = through (read_cell o.mid) (λ local. read_cell >>= (λ into. number >>= (λ n. give (body.Windows o.x local into n)))) b [] o.second in
    let sl = cell_sound.shown o.mid l.x l.mid l.first in
    let i = through (read_cell l.mid) (λ into. number >>= (λ n. give (body.Windows o.x l.x into n))) b [] l.second in
    let si = cell_sound.shown l.mid i.x i.mid i.first in
    let n = past_number (λ n. give (body.Windows o.x l.x i.x n)) i.mid b [] i.second in
    lined (line_bytes line.Windows) x ts (cell_toks o.x ++ (cell_toks l.x ++ (cell_toks i.x ++ Number n.value ∷ n.mid))) (body.Windows o.x l.x i.x n.value) b n.mid is
    (so.spelled ∙ ap (λ us. cell_toks o.x ++ us) (sl.spelled ∙ ap (λ us. cell_toks l.x ++ us) (si.spelled ∙ ap (λ us. cell_toks i.x ++ us) n.front)))
    (λ z. ap (λ us. Name (line_bytes line.Windows) ∷ (cell_toks o.x ++ (cell_toks l.x ++ (cell_toks i.x ++ Number n.value ∷ us)))) z) refl n.second

-- behind a head: the name, the list and what follows
head_spelled : {A : Type 0} (spell : A → List Token) (name : List ℕ) (xs : List A) (ts us vs ws r : List Token) → ts ≡ Name name ∷ us → us ≡ Sign open_paren ∷ vs → vs ≡ listed comma spell xs ++ Sign close_paren ∷ ws → ws ≡ Sign becomes ∷ r → ts ≡ head_toks spell name xs ++ r
head_spelled spell name xs ts us vs ws r a b c d =
    a ∙ ap (λ us. Name name ∷ us) (b ∙ ap (λ us. Sign open_paren ∷ us) (c ∙ ap (λ us. listed comma spell xs ++ Sign close_paren ∷ us) d ∙ sym (head_onto spell xs r)))

expr_line : {A : Type 0} (spell : A → List Token) (name : List ℕ) (xs : List A) (w : List ℕ) (e : SslExpr) (m : List Token) → m ≡ [] → Name w ∷ (head_toks spell name xs ++ (expr_toks e ++ m)) ≡ Name w ∷ (head_toks spell name xs ++ expr_toks e)
expr_line spell name xs w e m z = ap (λ us. Name w ∷ (head_toks spell name xs ++ us)) (ap (λ us. expr_toks e ++ us) z ∙ append-nil (expr_toks e))

function_sound : (x : List ℕ) (ts : List Token) (b : SslBody) → x ≡ line_bytes line.Function → read_function ts ≡ reads b [] → LineShown (Name x ∷ ts) b
unfolding read_function
function_sound x ts b is h =
    let n = past_name (λ name. sign open_paren >>= (λ _. in_parens read_param >>= (λ ps. sign becomes >>= (λ _. read_whole >>= (λ e. give (body.Function name ps e)))))) ts b [] h in
    let o = past_sign open_paren (in_parens read_param >>= (λ ps. sign becomes >>= (λ _. read_whole >>= (λ e. give (body.Function n.name ps e))))) n.mid b [] n.second in
    let p = through (in_parens read_param o.mid) (λ ps. sign becomes >>= (λ _. read_whole >>= (λ e. give (body.Function n.name ps e)))) b [] o.second in
    let sp = in_parens_sound read_param param_toks Always param_sound o.mid p.x p.mid p.first in
    let k = past_sign becomes (read_whole >>= (λ e. give (body.Function n.name p.x e))) p.mid b [] p.second in
    let e = through (read_whole k.mid) (λ e. give (body.Function n.name p.x e)) b [] k.second in
    let se = whole_sound.shown k.mid e.x e.mid e.first in
    lined (line_bytes line.Function) x ts (head_toks param_toks n.name p.x ++ (expr_toks e.x ++ e.mid)) (body.Function n.name p.x e.x) b e.mid is
    (head_spelled param_toks n.name p.x ts n.mid o.mid p.mid k.mid n.front o.front sp.spelled k.front ∙ ap (λ us. head_toks param_toks n.name p.x ++ us) se.spelled)
    (expr_line param_toks n.name p.x (line_bytes line.Function) e.x e.mid) se.proper e.second

operand_sound : (x : List ℕ) (ts : List Token) (b : SslBody) → x ≡ line_bytes line.Operand → read_operand ts ≡ reads b [] → LineShown (Name x ∷ ts) b
unfolding read_operand
operand_sound x ts b is h =
    let n = past_name (λ name. sign open_paren >>= (λ _. in_parens any_name >>= (λ ps. sign becomes >>= (λ _. read_whole >>= (λ e. give (body.Operand name ps e)))))) ts b [] h in
    let o = past_sign open_paren (in_parens any_name >>= (λ ps. sign becomes >>= (λ _. read_whole >>= (λ e. give (body.Operand n.name ps e))))) n.mid b [] n.second in
    let p = through (in_parens any_name o.mid) (λ ps. sign becomes >>= (λ _. read_whole >>= (λ e. give (body.Operand n.name ps e)))) b [] o.second in
    let sp = in_parens_sound any_name name_toks Always name_sound o.mid p.x p.mid p.first in
    let k = past_sign becomes (read_whole >>= (λ e. give (body.Operand n.name p.x e))) p.mid b [] p.second in
    let e = through (read_whole k.mid) (λ e. give (body.Operand n.name p.x e)) b [] k.second in
    let se = whole_sound.shown k.mid e.x e.mid e.first in
    lined (line_bytes line.Operand) x ts (head_toks name_toks n.name p.x ++ (expr_toks e.x ++ e.mid)) (body.Operand n.name p.x e.x) b e.mid is
    (head_spelled name_toks n.name p.x ts n.mid o.mid p.mid k.mid n.front o.front sp.spelled k.front ∙ ap (λ us. head_toks name_toks n.name p.x ++ us) se.spelled)
    (expr_line name_toks n.name p.x (line_bytes line.Operand) e.x e.mid) se.proper e.second

instruction_sound : (x : List ℕ) (ts : List Token) (b : SslBody) → x ≡ line_bytes line.Instruction → read_instruction ts ≡ reads b [] → LineShown (Name x ∷ ts) b
unfolding read_instruction
instruction_sound x ts b is h =
    let n = past_name (λ name. sign open_paren >>= (λ _. in_parens any_name >>= (λ ps. sign becomes >>= (λ _. read_transfers >>= (λ l. give (body.Instruction name ps l)))))) ts b [] h in
    let o = past_sign open_paren (in_parens any_name >>= (λ ps. sign becomes >>= (λ _. read_transfers >>= (λ l. give (body.Instruction n.name ps l))))) n.mid b [] n.second in
    let p = through (in_parens any_name o.mid) (λ ps. sign becomes >>= (λ _. read_transfers >>= (λ l. give (body.Instruction n.name ps l)))) b [] o.second in
    let sp = in_parens_sound any_name name_toks Always name_sound o.mid p.x p.mid p.first in
    let k = past_sign becomes (read_transfers >>= (λ l. give (body.Instruction n.name p.x l))) p.mid b [] p.second in
    let l = through (read_transfers k.mid) (λ l. give (body.Instruction n.name p.x l)) b [] k.second in
    let sl = transfers_at k.mid l.x l.mid l.first in
    lined (line_bytes line.Instruction) x ts (head_toks name_toks n.name p.x ++ (transfers_toks l.x ++ l.mid)) (body.Instruction n.name p.x l.x) b l.mid is
    (head_spelled name_toks n.name p.x ts n.mid o.mid p.mid k.mid n.front o.front sp.spelled k.front ∙ ap (λ us. head_toks name_toks n.name p.x ++ us) sl.spelled)
    (λ z. ap (λ us. Name (line_bytes line.Instruction) ∷ (head_toks name_toks n.name p.x ++ us)) (ap (λ us. transfers_toks l.x ++ us) z ∙ append-nil (transfers_toks l.x))) sl.proper l.second

-- a word of lines is spelled by the name
IsLineWord : List ℕ → LineWord → Type 0
IsLineWord x line.Other = Unit {0}
IsLineWord x w = x ≡ line_bytes w

as_line_word : (x : List ℕ) (w : LineWord) → x ≡ line_bytes w → IsLineWord x w
unfolding IsLineWord
as_line_word x line.Align h = h
as_line_word x line.Delay h = h
as_line_word x line.Cell h = h
as_line_word x line.Cells h = h
as_line_word x line.View h = h
as_line_word x line.Zero h = h
as_line_word x line.Windows h = h
as_line_word x line.Function h = h
as_line_word x line.Operand h = h
as_line_word x line.Instruction h = h
as_line_word x line.Other h = tt

line_among : (x : List ℕ) (ws : List LineWord) → IsLineWord x (word_among line_bytes line.Other ws x)
unfolding IsLineWord
line_among x [] = tt
line_among x (w ∷ ws) = by (cases_Bool (bytes_eq x (line_bytes w))) (line_among x ws)
  where
    by : (bytes_eq x (line_bytes w) ≡ true) ⊎ (bytes_eq x (line_bytes w) ≡ false) → IsLineWord x (word_among line_bytes line.Other ws x) → IsLineWord x (word_among line_bytes line.Other (w ∷ ws) x)
    by (inl e) rec = rw e (as_line_word x w ((bytes_eq-Decides x (line_bytes w)).0 e))
    by (inr e) rec = rw e rec

line_is : (x : List ℕ) → IsLineWord x (line_word x)
unfolding line_word
line_is x = line_among x line_words

line_at : (x : List ℕ) (w : LineWord) (ts : List Token) (b : SslBody) → IsLineWord x w → read_line w ts ≡ reads b [] → LineShown (Name x ∷ ts) b
unfolding read_line IsLineWord
line_at x line.Align ts b is h = align_sound x ts b is h
line_at x line.Delay ts b is h = delay_sound x ts b is h
line_at x line.Cell ts b is h = single_sound x ts b is h
line_at x line.Cells ts b is h = cells_sound x ts b is h
line_at x line.View ts b is h = view_sound x ts b is h
line_at x line.Zero ts b is h = zero_sound x ts b is h
line_at x line.Windows ts b is h = windows_sound x ts b is h
line_at x line.Function ts b is h = function_sound x ts b is h
line_at x line.Operand ts b is h = operand_sound x ts b is h
line_at x line.Instruction ts b is h = instruction_sound x ts b is h
line_at x line.Other ts b is h = never b [] h

-- what is read as a line to its end was spelled by it
pub body_sound : (ts : List Token) (b : SslBody) → read_body ts ≡ reads b [] → LineShown ts b
unfolding read_body
body_sound [] b h = never b [] h
body_sound (Name x ∷ ts) b h = line_at x (line_word x) ts b (line_is x) h
body_sound (Number v ∷ ts) b h = never b [] h
body_sound (Sign f ∷ ts) b h = never b [] h
body_sound (Bad ∷ ts) b h = never b [] h
