-- Transfers: what is spelled is read.
use Rattle.std.proofs.Common.{◌≡◌, ℕ, ◌+◌, ◌<◌, ◌≤◌, zero, suc, Bool, true, false, ◌&&◌, List, [], ◌∷◌, ◌++◌, Option, Some, None, refl, sym, ap, ◌∙◌, subst, arith, ◌⊎◌, inl, inr, append_assoc}
use Rattle.std.specs.Prelude.{◌==◌, nat_le}
use Rattle.std.proofs.lemmas.Bool.{cases_Bool, eqb-true, true≢false, and_parts, leb-true}
use Rattle.text_lex.specs.declared.token.Token.{Token}
use Rattle.text_lex.specs.declared.token.Token.TheVariants.{Name, Number, Sign, Bad}
use Rattle.ssl_syntax.specs.declared.line.CellName.{CellName}
use Rattle.ssl_syntax.specs.declared.line.SslPlace.{SslPlace}
use Rattle.ssl_syntax.specs.declared.line.SslPlace.TheVariants as place
use Rattle.ssl_syntax.specs.declared.line.SslAct.{SslAct}
use Rattle.ssl_syntax.specs.declared.line.SslAct.TheVariants as act
use Rattle.ssl_syntax.specs.declared.line.SslExpr.{SslExpr}
use Rattle.ssl_syntax.specs.declared.line.SslTransfer.{SslTransfer}
use Rattle.ssl_syntax.specs.declared.words.Word.{Word}
use Rattle.ssl_syntax.specs.declared.words.Word.TheVariants as word
use Rattle.line_reading.specs.Signs.{becomes, guards, open_paren, close_paren, open_bracket, close_bracket, comma, star}
use Rattle.ssl_syntax.specs.Words.{is_load, load_word, word_bytes, word_of, is_free}
use Rattle.ssl_syntax.specs.Expressions.{expr_toks, is_formed, depth, is_expr}
use Rattle.ssl_syntax.specs.Transfers.{index_toks, cell_toks, bits_toks, place_toks, is_place, act_toks, is_act, guard_toks, is_guard, transfer_toks, is_transfer}
use Rattle.line_reading.specs.Readings.{Read, fails, reads, Reader, begins}
use Rattle.ssl_syntax.specs.ExprReaders.{read_index, read_named, read_signed, read_form, read_expr}
use Rattle.ssl_syntax.specs.TransferReaders.{read_whole, cell_of, read_cell, limits_of, read_limits, read_store, read_cell_bits, read_part, read_place_behind, read_place, read_assignment, read_act_behind, read_act, is_act_word, begins_act, transfer_of, read_guarded, read_transfer}
use Rattle.ssl_syntax.proofs.Ends.{Ends, closes_bracket, closes_becomes, closes_guards}
use Rattle.line_reading.proofs.ListReads.{never}
use Rattle.ssl_syntax.proofs.ExprReads.{reading}
use Rattle.ssl_syntax.proofs.WordLaws.{word-Load, word-Bits, word-Jump, word-Annul, word-Trap, word-Service, word-WinSave, word-WinRestore, free_plain}

pub whole_reads : (e : SslExpr) (r : List Token) → is_expr e ≡ true → Ends r → read_whole (expr_toks e ++ r) ≡ reads e r
unfolding read_whole is_expr
whole_reads e r f ends =
    let p = and_parts (is_formed e) (nat_le (depth e) 2000) f in
    let d : depth e ≤ 2000 = leb-true (depth e) 2000 p.1 in
    reading e 2001 r p.0 (omega arith) ends

cell_at : (name : List ℕ) (index : Option ℕ) (r : List Token) → begins open_bracket r ≡ false → read_cell (Name name ∷ (index_toks index ++ r)) ≡ reads (cell_of name index) r
unfolding read_cell
cell_at name None r h = rw h refl
cell_at name (Some i) r h = refl

pub cell_reads : (c : CellName) (r : List Token) → begins open_bracket r ≡ false → read_cell (cell_toks c ++ r) ≡ reads c r
cell_reads c r h = cell_at c.name c.index r h

pub limits_read : (lo hi : ℕ) (r : List Token) → read_limits (Sign comma ∷ Number lo ∷ Sign comma ∷ Number hi ∷ Sign close_paren ∷ r) ≡ reads (limits_of lo hi) r
unfolding read_limits
limits_read lo hi r = refl

pub bits_onto : (c : CellName) (lo hi : ℕ) (r : List Token) → bits_toks c lo hi ++ r ≡ Name (word_bytes word.Bits) ∷ Sign open_paren ∷ (cell_toks c ++ Sign comma ∷ Number lo ∷ Sign comma ∷ Number hi ∷ Sign close_paren ∷ r)
bits_onto c lo hi r = ap (λ ts. Name (word_bytes word.Bits) ∷ Sign open_paren ∷ ts) (append_assoc (cell_toks c) (Sign comma ∷ Number lo ∷ Sign comma ∷ Number hi ∷ Sign close_paren ∷ []) r)

store_onto : (n : ℕ) (e : SslExpr) (r : List Token) → place_toks (place.Load n e) ++ r ≡ Name (load_word n) ∷ Sign open_bracket ∷ (expr_toks e ++ Sign close_bracket ∷ r)
store_onto n e r = ap (λ ts. Name (load_word n) ∷ Sign open_bracket ∷ ts) (append_assoc (expr_toks e) (Sign close_bracket ∷ []) r)

cell_bits_step : (c : CellName) (lo hi : ℕ) (xs r : List Token) → is_free c.name ≡ true → read_cell xs ≡ reads c (Sign comma ∷ Number lo ∷ Sign comma ∷ Number hi ∷ Sign close_paren ∷ r) → read_place (Name (word_bytes word.Bits) ∷ Sign open_paren ∷ xs) ≡ reads (place.Bits c lo hi) r
unfolding read_place read_place_behind read_cell_bits
cell_bits_step c lo hi xs r f h = rw (word-Bits, h, f, limits_read lo hi r) refl

store_step : (n : ℕ) (e : SslExpr) (xs r : List Token) → is_load n ≡ true → read_whole xs ≡ reads e (Sign close_bracket ∷ r) → read_place (Name (load_word n) ∷ Sign open_bracket ∷ xs) ≡ reads (place.Load n e) r
unfolding read_place read_place_behind read_store
store_step n e xs r l h = rw (word-Load n l, h) refl

pub place_reads : (p : SslPlace) (r : List Token) → is_place p ≡ true → Ends r → read_place (place_toks p ++ r) ≡ reads p r
unfolding read_place read_place_behind read_part read_index
place_reads (place.Named x) r f ends = rw (free_plain x f, ends.no_bracket) refl
place_reads (place.At x i) r f ends = rw (free_plain x f) refl
place_reads (place.AtOp x op) r f ends = let p = and_parts (is_free x) (is_free op) f in rw (free_plain x p.0, p.1) refl
place_reads (place.Bits c lo hi) r f ends =
    let back : List Token = Sign comma ∷ Number lo ∷ Sign comma ∷ Number hi ∷ Sign close_paren ∷ r in
    ap read_place (bits_onto c lo hi r) ∙ cell_bits_step c lo hi (cell_toks c ++ back) r f (cell_reads c back refl)
place_reads (place.Load n e) r f ends =
    let p = and_parts (is_load n) (is_expr e) f in
    ap read_place (store_onto n e r) ∙ store_step n e (expr_toks e ++ Sign close_bracket ∷ r) r p.0 (whole_reads e (Sign close_bracket ∷ r) p.1 (closes_bracket r))

assign_step : (w : ℕ) (p : SslPlace) (e : SslExpr) (xs ys r : List Token) → read_place xs ≡ reads p (Sign becomes ∷ ys) → read_whole ys ≡ reads e r → read_act (Sign star ∷ Number w ∷ Sign star ∷ xs) ≡ reads (act.Assign w p e) r
unfolding read_act read_assignment
assign_step w p e xs ys r h k = rw (h, k) refl

pub act_reads : (a : SslAct) (r : List Token) → is_act a ≡ true → Ends r → read_act (act_toks a ++ r) ≡ reads a r
unfolding read_act read_act_behind
act_reads (act.Assign w p e) r f ends =
    let q = and_parts (is_place p) (is_expr e) f in
    let ys : List Token = expr_toks e ++ r in
    ap (λ ts. read_act (Sign star ∷ Number w ∷ Sign star ∷ ts)) (append_assoc (place_toks p) (Sign becomes ∷ expr_toks e) r)
    ∙ assign_step w p e (place_toks p ++ Sign becomes ∷ ys) ys r (place_reads p (Sign becomes ∷ ys) q.0 (closes_becomes ys)) (whole_reads e r q.1 ends)
act_reads (act.Jump e) r f ends = rw (word-Jump, whole_reads e r f ends) refl
act_reads act.Annul r f ends = rw word-Annul refl
act_reads (act.Trap e) r f ends = rw (word-Trap, whole_reads e r f ends) refl
act_reads act.Service r f ends = rw word-Service refl
act_reads act.WinSave r f ends = rw word-WinSave refl
act_reads act.WinRestore r f ends = rw word-WinRestore refl

act_begins : (a : SslAct) (r : List Token) → begins_act (act_toks a ++ r) ≡ true
unfolding begins_act
act_begins (act.Assign w p e) r = refl
act_begins (act.Jump e) r = rw word-Jump refl
act_begins act.Annul r = rw word-Annul refl
act_begins (act.Trap e) r = rw word-Trap refl
act_begins act.Service r = rw word-Service refl
act_begins act.WinSave r = rw word-WinSave refl
act_begins act.WinRestore r = rw word-WinRestore refl

-- no expression begins as an act does
no_word : (inner : Reader SslExpr) (x : List ℕ) (w : Word) (ts : List Token) → is_act_word w ≡ true → read_named inner x w ts ≡ fails
unfolding read_named
no_word inner x (word.Load n) ts h = absurd (true≢false (sym h))
no_word inner x word.Zext ts h = absurd (true≢false (sym h))
no_word inner x word.Sext ts h = absurd (true≢false (sym h))
no_word inner x word.Bits ts h = absurd (true≢false (sym h))
no_word inner x word.If ts h = absurd (true≢false (sym h))
no_word inner x word.Plain ts h = absurd (true≢false (sym h))
no_word inner x word.Nothing ts h = refl
no_word inner x word.Jump ts h = refl
no_word inner x word.Annul ts h = refl
no_word inner x word.Trap ts h = refl
no_word inner x word.Service ts h = refl
no_word inner x word.WinSave ts h = refl
no_word inner x word.WinRestore ts h = refl

no_star : (inner : Reader SslExpr) (ts : List Token) → read_signed inner star ts ≡ fails
unfolding read_signed
no_star inner ts = refl

no_act : (n : ℕ) (ts : List Token) → begins_act ts ≡ true → read_expr n ts ≡ fails
unfolding read_expr read_form begins_act
no_act zero ts h = refl
no_act (suc n) [] h = refl
no_act (suc n) (Number v ∷ ts) h = absurd (true≢false (sym h))
no_act (suc n) (Name x ∷ ts) h = no_word (read_expr n) x (word_of x) ts h
no_act (suc n) (Sign k ∷ ts) h = ap (λ j. read_signed (read_expr n) j ts) (eqb-true k star h) ∙ no_star (read_expr n) ts
no_act (suc n) (Bad ∷ ts) h = refl

guard_begins : (ts : List Token) (e : SslExpr) (r : List Token) → read_whole ts ≡ reads e r → begins_act ts ≡ false
unfolding read_whole
guard_begins ts e r h = by (cases_Bool (begins_act ts))
  where
    by : (begins_act ts ≡ true) ⊎ (begins_act ts ≡ false) → begins_act ts ≡ false
    by (inr q) = q
    by (inl q) = never e r (sym (no_act 2001 ts q) ∙ h)

plain_step : (a : SslAct) (ts r : List Token) → begins_act ts ≡ true → read_act ts ≡ reads a r → read_transfer ts ≡ reads (transfer_of None a) r
unfolding read_transfer
plain_step a ts r b h = rw (b, h) refl

guarded_step : (g : SslExpr) (a : SslAct) (ts ys r : List Token) → begins_act ts ≡ false → read_whole ts ≡ reads g (Sign guards ∷ ys) → read_act ys ≡ reads a r → read_transfer ts ≡ reads (transfer_of (Some g) a) r
unfolding read_transfer read_guarded
guarded_step g a ts ys r b h k = rw (b, h, k) refl

transfer_at : (guard : Option SslExpr) (a : SslAct) (r : List Token) → is_guard guard ≡ true → is_act a ≡ true → Ends r → read_transfer ((guard_toks guard ++ act_toks a) ++ r) ≡ reads (transfer_of guard a) r
transfer_at None a r g f ends = plain_step a (act_toks a ++ r) r (act_begins a r) (act_reads a r f ends)
transfer_at (Some e) a r g f ends =
    let ys : List Token = act_toks a ++ r in
    let here = whole_reads e (Sign guards ∷ ys) g (closes_guards ys) in
    let same : ((expr_toks e ++ Sign guards ∷ []) ++ act_toks a) ++ r ≡ expr_toks e ++ Sign guards ∷ ys = simp append_assoc in
    ap read_transfer same ∙ guarded_step e a (expr_toks e ++ Sign guards ∷ ys) ys r (guard_begins _ e (Sign guards ∷ ys) here) here (act_reads a r f ends)

pub transfer_reads : (t : SslTransfer) (r : List Token) → is_transfer t ≡ true → Ends r → read_transfer (transfer_toks t ++ r) ≡ reads t r
transfer_reads t r f ends =
    let p = and_parts (is_guard t.guard) (is_act t.act) f in
    transfer_at t.guard t.act r p.0 p.1 ends
