-- Transfers: what is read was spelled.
use Rattle.std.proofs.Common.{◌≡◌, ℕ, ◌+◌, ◌<◌, ◌≤◌, zero, suc, Bool, true, false, ◌&&◌, List, [], ◌∷◌, ◌++◌, drop, Option, Some, None, refl, sym, ap, ◌∙◌, subst, arith, ◌⊎◌, inl, inr, append_assoc}
use Rattle.std.specs.Prelude.{◌==◌, nat_le}
use Rattle.std.proofs.lemmas.Bool.{cases_Bool, eqb-true, le-leb}
use Rattle.text_lex.specs.declared.token.Token.{Token}
use Rattle.text_lex.specs.declared.token.Token.TheVariants.{Name, Number, Sign, Bad}
use Rattle.ssl_syntax.specs.declared.cells.Limits.{Limits}
use Rattle.ssl_syntax.specs.declared.line.CellName.{CellName}
use Rattle.ssl_syntax.specs.declared.line.SslPlace.{SslPlace}
use Rattle.ssl_syntax.specs.declared.line.SslPlace.TheVariants as place
use Rattle.ssl_syntax.specs.declared.line.SslAct.{SslAct}
use Rattle.ssl_syntax.specs.declared.line.SslAct.TheVariants as act
use Rattle.ssl_syntax.specs.declared.line.SslExpr.{SslExpr}
use Rattle.ssl_syntax.specs.declared.line.SslTransfer.{SslTransfer}
use Rattle.ssl_syntax.specs.declared.index.Index.{Index}
use Rattle.ssl_syntax.specs.declared.index.Index.TheVariants as index
use Rattle.ssl_syntax.specs.declared.words.Word.{Word}
use Rattle.ssl_syntax.specs.declared.words.Word.TheVariants as word
use Rattle.line_reading.specs.Signs.{becomes, guards, open_paren, close_paren, open_bracket, close_bracket, comma, star}
use Rattle.ssl_syntax.specs.Words.{is_load, load_word, word_bytes, word_of, is_free}
use Rattle.ssl_syntax.specs.Expressions.{expr_toks, is_formed, depth, is_expr}
use Rattle.ssl_syntax.specs.Transfers.{index_toks, cell_toks, bits_toks, place_toks, is_place, act_toks, is_act, guard_toks, is_guard, transfer_toks, is_transfer}
use Rattle.line_reading.specs.Readings.{Read, fails, reads, Reader, after, ◌>>=◌, give, only_if, begins, sign, chosen, number, any_name}
use Rattle.ssl_syntax.specs.ExprReaders.{part_of, read_index, read_expr}
use Rattle.ssl_syntax.specs.TransferReaders.{read_whole, cell_of, read_cell, limits_of, read_limits, place_part, read_store, read_cell_bits, read_part, read_place_behind, read_place, read_assignment, read_act_behind, read_act, begins_act, transfer_of, read_guarded, read_transfer}
use Rattle.line_reading.proofs.ListReads.{IsShown, IsSound, never, Through, through, as_read, at_sign, past_sign, past_number}
use Rattle.ssl_syntax.proofs.ExprLaws.{onto-At, onto-AtOp, formed-At, formed-AtOp}
use Rattle.ssl_syntax.proofs.ExprSound.{Proper, expr_sound, index_sound}
use Rattle.ssl_syntax.proofs.TransferReads.{bits_onto}
use Rattle.ssl_syntax.proofs.WordLaws.{is-Load, is-Bits, is-Jump, is-Annul, is-Trap, is-Service, is-WinSave, is-WinRestore, plain_free}
use Rattle.line_reading.proofs.NameReads.{Always, past_name}

abbrev pub IsExpr : SslExpr → Type 0
IsExpr e = is_expr e ≡ true

expr_from_proper : (e : SslExpr) → Proper 2001 e → is_expr e ≡ true
unfolding is_expr
expr_from_proper e p =
    let d = p.shallow in
    let l : depth e ≤ 2000 = omega arith in
    rw (p.formed, le-leb (depth e) 2000 l) refl

pub whole_sound : IsSound read_whole expr_toks IsExpr
unfolding read_whole
whole_sound = record { shown = λ ts e r h. let s = (expr_sound 2001).shown ts e r h in record { spelled = s.spelled; proper = expr_from_proper e s.proper } }

cell_shown : (ts mid : List Token) (name : List ℕ) (index : Option ℕ) (m : List Token) (c : CellName) (r : List Token) → ts ≡ Name name ∷ mid → mid ≡ index_toks index ++ m → reads (cell_of name index) m ≡ reads c r → IsShown cell_toks Always ts c r
cell_shown ts mid name index m c r front back h = as_read (cell_of name index) c m r h (record { spelled = front ∙ ap (λ us. Name name ∷ us) back; proper = tt })

pub cell_sound : IsSound read_cell cell_toks Always
unfolding read_cell
cell_sound = record {
  shown = λ ts c r h.
      let p = past_name (λ name. chosen open_bracket (number >>= (λ index. sign close_bracket >>= (λ _. give (cell_of name (Some index))))) (give (cell_of name None))) ts c r h in
      by ts c r p.name p.mid p.front p.second (cases_Bool (begins open_bracket p.mid));
}
  where
    by : (ts : List Token) (c : CellName) (r : List Token) (name : List ℕ) (mid : List Token) → ts ≡ Name name ∷ mid → chosen open_bracket (number >>= (λ index. sign close_bracket >>= (λ _. give (cell_of name (Some index))))) (give (cell_of name None)) mid ≡ reads c r → (begins open_bracket mid ≡ true) ⊎ (begins open_bracket mid ≡ false) → IsShown cell_toks Always ts c r
    by ts c r name mid front h (inr b) = cell_shown ts mid name None mid c r front refl (rw b at h)
    by ts c r name mid front h (inl b) =
        let i = past_number (λ index. sign close_bracket >>= (λ _. give (cell_of name (Some index)))) (drop 1 mid) c r (rw b at h) in
        let q = past_sign close_bracket (give (cell_of name (Some i.value))) i.mid c r i.second in
        cell_shown ts mid name (Some i.value) q.mid c r front (at_sign open_bracket mid b ∙ ap (λ us. Sign open_bracket ∷ us) (i.front ∙ ap (λ us. Number i.value ∷ us) q.front)) q.second

abbrev pub limits_toks : Limits → List Token
limits_toks l = Sign comma ∷ Number l.lo ∷ Sign comma ∷ Number l.hi ∷ Sign close_paren ∷ []

pub limits_sound : IsSound read_limits limits_toks Always
unfolding read_limits
limits_sound = record {
  shown = λ ts l r h.
      let p = past_sign comma (number >>= (λ lo. sign comma >>= (λ _. number >>= (λ hi. sign close_paren >>= (λ _. give (limits_of lo hi)))))) ts l r h in
      let lo = past_number (λ lo. sign comma >>= (λ _. number >>= (λ hi. sign close_paren >>= (λ _. give (limits_of lo hi))))) p.mid l r p.second in
      let q = past_sign comma (number >>= (λ hi. sign close_paren >>= (λ _. give (limits_of lo.value hi)))) lo.mid l r lo.second in
      let hi = past_number (λ hi. sign close_paren >>= (λ _. give (limits_of lo.value hi))) q.mid l r q.second in
      let c = past_sign close_paren (give (limits_of lo.value hi.value)) hi.mid l r hi.second in
      as_read (limits_of lo.value hi.value) l c.mid r c.second (record {
        spelled = p.front ∙ ap (λ us. Sign comma ∷ us) (lo.front ∙ ap (λ us. Number lo.value ∷ us) (q.front ∙ ap (λ us. Sign comma ∷ us) (hi.front ∙ ap (λ us. Number hi.value ∷ us) c.front)));
        proper = tt;
      });
}

abbrev pub IsPlace : SslPlace → Type 0
IsPlace p = is_place p ≡ true

placed : (ts us : List Token) (x p : SslPlace) (m r : List Token) → ts ≡ us → place_toks x ++ m ≡ us → is_place x ≡ true → reads x m ≡ reads p r → IsShown place_toks IsPlace ts p r
placed ts us x p m r is onto f h = as_read x p m r h (record { spelled = is ∙ sym onto; proper = f })

store_sound : (n : ℕ) (x : List ℕ) (ts : List Token) (p : SslPlace) (r : List Token) → x ≡ load_word n → is_load n ≡ true → read_store n ts ≡ reads p r → IsShown place_toks IsPlace (Name x ∷ ts) p r
unfolding read_store
store_sound n x ts p r is l h =
    let b = past_sign open_bracket (read_whole >>= (λ a. sign close_bracket >>= (λ _. give (place.Load n a)))) ts p r h in
    let t = through (read_whole b.mid) (λ a. sign close_bracket >>= (λ _. give (place.Load n a))) p r b.second in
    let s = whole_sound.shown b.mid t.x t.mid t.first in
    let q = past_sign close_bracket (give (place.Load n t.x)) t.mid p r t.second in
    placed (Name x ∷ ts) (Name (load_word n) ∷ Sign open_bracket ∷ (expr_toks t.x ++ Sign close_bracket ∷ q.mid)) (place.Load n t.x) p q.mid r
    (ap (λ y. Name y ∷ ts) is ∙ ap (λ us. Name (load_word n) ∷ us) (b.front ∙ ap (λ us. Sign open_bracket ∷ us) (s.spelled ∙ ap (λ us. expr_toks t.x ++ us) q.front)))
    (ap (λ us. Name (load_word n) ∷ Sign open_bracket ∷ us) (append_assoc (expr_toks t.x) (Sign close_bracket ∷ []) q.mid))
    (rw (l, s.proper) refl) q.second

cell_limits : (x : List ℕ) (ts us : List Token) (cell : CellName) (p : SslPlace) (r : List Token) → x ≡ word_bytes word.Bits → is_free cell.name ≡ true → ts ≡ Sign open_paren ∷ (cell_toks cell ++ us) → after (read_limits us) (λ limits. give (place.Bits cell limits.lo limits.hi)) ≡ reads p r → IsShown place_toks IsPlace (Name x ∷ ts) p r
cell_limits x ts us cell p r is f at h =
    let l = through (read_limits us) (λ limits. give (place.Bits cell limits.lo limits.hi)) p r h in
    let s = limits_sound.shown us l.x l.mid l.first in
    placed (Name x ∷ ts) (Name (word_bytes word.Bits) ∷ Sign open_paren ∷ (cell_toks cell ++ (limits_toks l.x ++ l.mid))) (place.Bits cell l.x.lo l.x.hi) p l.mid r
    (ap (λ y. Name y ∷ ts) is ∙ ap (λ us. Name (word_bytes word.Bits) ∷ us) (at ∙ ap (λ us. Sign open_paren ∷ (cell_toks cell ++ us)) s.spelled))
    (bits_onto cell l.x.lo l.x.hi l.mid) f l.second

cell_bits_sound : (x : List ℕ) (ts : List Token) (p : SslPlace) (r : List Token) → x ≡ word_bytes word.Bits → read_cell_bits ts ≡ reads p r → IsShown place_toks IsPlace (Name x ∷ ts) p r
unfolding read_cell_bits
cell_bits_sound x ts p r is h =
    let b = past_sign open_paren (read_cell >>= (λ cell. only_if (is_free cell.name) (read_limits >>= (λ limits. give (place.Bits cell limits.lo limits.hi))))) ts p r h in
    let c = through (read_cell b.mid) (λ cell. only_if (is_free cell.name) (read_limits >>= (λ limits. give (place.Bits cell limits.lo limits.hi)))) p r b.second in
    let s = cell_sound.shown b.mid c.x c.mid c.first in
    by c.x c.mid (b.front ∙ ap (λ us. Sign open_paren ∷ us) s.spelled) c.second (cases_Bool (is_free c.x.name))
  where
    by : (cell : CellName) (us : List Token) → ts ≡ Sign open_paren ∷ (cell_toks cell ++ us) → only_if (is_free cell.name) (read_limits >>= (λ limits. give (place.Bits cell limits.lo limits.hi))) us ≡ reads p r → (is_free cell.name ≡ true) ⊎ (is_free cell.name ≡ false) → IsShown place_toks IsPlace (Name x ∷ ts) p r
    by cell us at k (inl f) = cell_limits x ts us cell p r is f at (rw f at k)
    by cell us at k (inr f) = never p r (rw f at k)

place_from_part : (i : Index) (x : List ℕ) (ts r : List Token) → Name x ∷ Sign open_bracket ∷ ts ≡ expr_toks (part_of x i) ++ r → is_formed (part_of x i) ≡ true → IsShown place_toks IsPlace (Name x ∷ Sign open_bracket ∷ ts) (place_part x i) r
place_from_part (index.Number v) x ts r h f = record { spelled = h ∙ onto-At x v r; proper = sym (formed-At x v) ∙ f }
place_from_part (index.Op y) x ts r h f = record { spelled = h ∙ onto-AtOp x y r; proper = sym (formed-AtOp x y) ∙ f }

place_index : (x : List ℕ) (ts : List Token) (p : SslPlace) (r : List Token) → is_free x ≡ true → after (read_index ts) (λ i. give (place_part x i)) ≡ reads p r → IsShown place_toks IsPlace (Name x ∷ Sign open_bracket ∷ ts) p r
place_index x ts p r f h =
    let t = through (read_index ts) (λ i. give (place_part x i)) p r h in
    let s = (index_sound ts t.x t.mid t.first).tokens x f in
    as_read (place_part x t.x) p t.mid r t.second (place_from_part t.x x ts t.mid s.0 s.1)

part_sound : (x : List ℕ) (ts : List Token) (p : SslPlace) (r : List Token) → is_free x ≡ true → read_part x ts ≡ reads p r → IsShown place_toks IsPlace (Name x ∷ ts) p r
unfolding read_part
part_sound x ts p r f h = by (cases_Bool (begins open_bracket ts))
  where
    by : (begins open_bracket ts ≡ true) ⊎ (begins open_bracket ts ≡ false) → IsShown place_toks IsPlace (Name x ∷ ts) p r
    by (inl b) = subst (λ us. IsShown place_toks IsPlace (Name x ∷ us) p r) (sym (at_sign open_bracket ts b)) (place_index x (drop 1 ts) p r f (rw b at h))
    by (inr b) = placed (Name x ∷ ts) (Name x ∷ ts) (place.Named x) p ts r refl refl f (rw b at h)

place_behind_sound : (x : List ℕ) (w : Word) (ts : List Token) (p : SslPlace) (r : List Token) → word_of x ≡ w → read_place_behind x w ts ≡ reads p r → IsShown place_toks IsPlace (Name x ∷ ts) p r
unfolding read_place_behind
place_behind_sound x (word.Load n) ts p r is h = let l = is-Load x n is in store_sound n x ts p r l.0 l.1 h
place_behind_sound x word.Bits ts p r is h = cell_bits_sound x ts p r (is-Bits x is) h
place_behind_sound x word.Plain ts p r is h = part_sound x ts p r (plain_free x is) h
place_behind_sound x word.Zext ts p r is h = never p r h
place_behind_sound x word.Sext ts p r is h = never p r h
place_behind_sound x word.If ts p r is h = never p r h
place_behind_sound x word.Jump ts p r is h = never p r h
place_behind_sound x word.Annul ts p r is h = never p r h
place_behind_sound x word.Trap ts p r is h = never p r h
place_behind_sound x word.Service ts p r is h = never p r h
place_behind_sound x word.WinSave ts p r is h = never p r h
place_behind_sound x word.WinRestore ts p r is h = never p r h
place_behind_sound x word.Nothing ts p r is h = never p r h

place_at : (ts : List Token) (p : SslPlace) (r : List Token) → read_place ts ≡ reads p r → IsShown place_toks IsPlace ts p r
unfolding read_place
place_at [] p r h = never p r h
place_at (Name x ∷ ts) p r h = place_behind_sound x (word_of x) ts p r refl h
place_at (Number v ∷ ts) p r h = never p r h
place_at (Sign f ∷ ts) p r h = never p r h
place_at (Bad ∷ ts) p r h = never p r h

pub place_sound : IsSound read_place place_toks IsPlace
place_sound = record { shown = place_at }

abbrev pub IsAct : SslAct → Type 0
IsAct a = is_act a ≡ true

acted : (ts us : List Token) (x a : SslAct) (m r : List Token) → ts ≡ us → act_toks x ++ m ≡ us → is_act x ≡ true → reads x m ≡ reads a r → IsShown act_toks IsAct ts a r
acted ts us x a m r is onto f h = as_read x a m r h (record { spelled = is ∙ sym onto; proper = f })

assignment_sound : (ts : List Token) (a : SslAct) (r : List Token) → read_assignment ts ≡ reads a r → IsShown act_toks IsAct (Sign star ∷ ts) a r
unfolding read_assignment
assignment_sound ts a r h =
    let w = past_number (λ w. sign star >>= (λ _. read_place >>= (λ to. sign becomes >>= (λ _. read_whole >>= (λ e. give (act.Assign w to e)))))) ts a r h in
    let s = past_sign star (read_place >>= (λ to. sign becomes >>= (λ _. read_whole >>= (λ e. give (act.Assign w.value to e))))) w.mid a r w.second in
    let t = through (read_place s.mid) (λ to. sign becomes >>= (λ _. read_whole >>= (λ e. give (act.Assign w.value to e)))) a r s.second in
    let p = place_sound.shown s.mid t.x t.mid t.first in
    let b = past_sign becomes (read_whole >>= (λ e. give (act.Assign w.value t.x e))) t.mid a r t.second in
    let u = through (read_whole b.mid) (λ e. give (act.Assign w.value t.x e)) a r b.second in
    let e = whole_sound.shown b.mid u.x u.mid u.first in
    acted (Sign star ∷ ts) (Sign star ∷ Number w.value ∷ Sign star ∷ (place_toks t.x ++ Sign becomes ∷ (expr_toks u.x ++ u.mid))) (act.Assign w.value t.x u.x) a u.mid r
    (ap (λ us. Sign star ∷ us) (w.front ∙ ap (λ us. Number w.value ∷ us) (s.front ∙ ap (λ us. Sign star ∷ us) (p.spelled ∙ ap (λ us. place_toks t.x ++ us) (b.front ∙ ap (λ us. Sign becomes ∷ us) e.spelled)))))
    (ap (λ us. Sign star ∷ Number w.value ∷ Sign star ∷ us) (append_assoc (place_toks t.x) (Sign becomes ∷ expr_toks u.x) u.mid))
    (rw (p.proper, e.proper) refl) u.second

jump_sound : (x : List ℕ) (ts : List Token) (a : SslAct) (r : List Token) → x ≡ word_bytes word.Jump → after (read_whole ts) (λ e. give (act.Jump e)) ≡ reads a r → IsShown act_toks IsAct (Name x ∷ ts) a r
jump_sound x ts a r is h =
    let t = through (read_whole ts) (λ e. give (act.Jump e)) a r h in
    let e = whole_sound.shown ts t.x t.mid t.first in
    acted (Name x ∷ ts) (Name (word_bytes word.Jump) ∷ (expr_toks t.x ++ t.mid)) (act.Jump t.x) a t.mid r (ap (λ y. Name y ∷ ts) is ∙ ap (λ us. Name (word_bytes word.Jump) ∷ us) e.spelled) refl e.proper t.second

trap_sound : (x : List ℕ) (ts : List Token) (a : SslAct) (r : List Token) → x ≡ word_bytes word.Trap → after (read_whole ts) (λ e. give (act.Trap e)) ≡ reads a r → IsShown act_toks IsAct (Name x ∷ ts) a r
trap_sound x ts a r is h =
    let t = through (read_whole ts) (λ e. give (act.Trap e)) a r h in
    let e = whole_sound.shown ts t.x t.mid t.first in
    acted (Name x ∷ ts) (Name (word_bytes word.Trap) ∷ (expr_toks t.x ++ t.mid)) (act.Trap t.x) a t.mid r (ap (λ y. Name y ∷ ts) is ∙ ap (λ us. Name (word_bytes word.Trap) ∷ us) e.spelled) refl e.proper t.second

act_behind_sound : (x : List ℕ) (w : Word) (ts : List Token) (a : SslAct) (r : List Token) → word_of x ≡ w → read_act_behind w ts ≡ reads a r → IsShown act_toks IsAct (Name x ∷ ts) a r
unfolding read_act_behind
act_behind_sound x word.Jump ts a r is h = jump_sound x ts a r (is-Jump x is) h
act_behind_sound x word.Trap ts a r is h = trap_sound x ts a r (is-Trap x is) h
act_behind_sound x word.Annul ts a r is h = acted (Name x ∷ ts) _ act.Annul a ts r (ap (λ y. Name y ∷ ts) (is-Annul x is)) refl refl h
act_behind_sound x word.Service ts a r is h = acted (Name x ∷ ts) _ act.Service a ts r (ap (λ y. Name y ∷ ts) (is-Service x is)) refl refl h
act_behind_sound x word.WinSave ts a r is h = acted (Name x ∷ ts) _ act.WinSave a ts r (ap (λ y. Name y ∷ ts) (is-WinSave x is)) refl refl h
act_behind_sound x word.WinRestore ts a r is h = acted (Name x ∷ ts) _ act.WinRestore a ts r (ap (λ y. Name y ∷ ts) (is-WinRestore x is)) refl refl h
act_behind_sound x (word.Load n) ts a r is h = never a r h
act_behind_sound x word.Bits ts a r is h = never a r h
act_behind_sound x word.Zext ts a r is h = never a r h
act_behind_sound x word.Sext ts a r is h = never a r h
act_behind_sound x word.If ts a r is h = never a r h
act_behind_sound x word.Nothing ts a r is h = never a r h
act_behind_sound x word.Plain ts a r is h = never a r h

act_at : (ts : List Token) (a : SslAct) (r : List Token) → read_act ts ≡ reads a r → IsShown act_toks IsAct ts a r
unfolding read_act
act_at [] a r h = never a r h
act_at (Name x ∷ ts) a r h = act_behind_sound x (word_of x) ts a r refl h
act_at (Number v ∷ ts) a r h = never a r h
act_at (Bad ∷ ts) a r h = never a r h
act_at (Sign f ∷ ts) a r h = by (cases_Bool (f == star))
  where
    by : ((f == star) ≡ true) ⊎ ((f == star) ≡ false) → IsShown act_toks IsAct (Sign f ∷ ts) a r
    by (inl q) = subst (λ j. IsShown act_toks IsAct (Sign j ∷ ts) a r) (sym (eqb-true f star q)) (assignment_sound ts a r (rw q at h))
    by (inr q) = never a r (rw q at h)

pub act_sound : IsSound read_act act_toks IsAct
act_sound = record { shown = act_at }

abbrev pub IsTransfer : SslTransfer → Type 0
IsTransfer t = is_transfer t ≡ true

plain_sound : (ts : List Token) (t : SslTransfer) (r : List Token) → after (read_act ts) (λ a. give (transfer_of None a)) ≡ reads t r → IsShown transfer_toks IsTransfer ts t r
plain_sound ts t r h =
    let u = through (read_act ts) (λ a. give (transfer_of None a)) t r h in
    let s = act_sound.shown ts u.x u.mid u.first in
    as_read (transfer_of None u.x) t u.mid r u.second (record { spelled = s.spelled; proper = s.proper })

guarded_sound : (ts : List Token) (t : SslTransfer) (r : List Token) → read_guarded ts ≡ reads t r → IsShown transfer_toks IsTransfer ts t r
unfolding read_guarded
guarded_sound ts t r h =
    let g = through (read_whole ts) (λ guard. sign guards >>= (λ _. read_act >>= (λ a. give (transfer_of (Some guard) a)))) t r h in
    let e = whole_sound.shown ts g.x g.mid g.first in
    let p = past_sign guards (read_act >>= (λ a. give (transfer_of (Some g.x) a))) g.mid t r g.second in
    let u = through (read_act p.mid) (λ a. give (transfer_of (Some g.x) a)) t r p.second in
    let s = act_sound.shown p.mid u.x u.mid u.first in
    let same : ((expr_toks g.x ++ Sign guards ∷ []) ++ act_toks u.x) ++ u.mid ≡ expr_toks g.x ++ Sign guards ∷ (act_toks u.x ++ u.mid) = simp append_assoc in
    as_read (transfer_of (Some g.x) u.x) t u.mid r u.second (record {
      spelled = e.spelled ∙ ap (λ us. expr_toks g.x ++ us) (p.front ∙ ap (λ us. Sign guards ∷ us) s.spelled) ∙ sym same;
      proper = rw (e.proper, s.proper) refl;
    })

transfer_at : (ts : List Token) (t : SslTransfer) (r : List Token) → read_transfer ts ≡ reads t r → IsShown transfer_toks IsTransfer ts t r
unfolding read_transfer
transfer_at ts t r h = by (cases_Bool (begins_act ts))
  where
    by : (begins_act ts ≡ true) ⊎ (begins_act ts ≡ false) → IsShown transfer_toks IsTransfer ts t r
    by (inl b) = plain_sound ts t r (rw b at h)
    by (inr b) = guarded_sound ts t r (rw b at h)

pub transfer_sound : IsSound read_transfer transfer_toks IsTransfer
transfer_sound = record { shown = transfer_at }
