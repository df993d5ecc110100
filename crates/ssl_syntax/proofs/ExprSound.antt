-- Expressions: what is read was spelled.
use Rattle.std.proofs.Common.{◌≡◌, ℕ, ◌+◌, ◌-◌, ◌<◌, ◌≤◌, zero, suc, Bool, true, false, ◌&&◌, max, List, [], ◌∷◌, ◌++◌, map, drop, refl, sym, ap, ◌∙◌, subst, arith, ◌⊎◌, inl, inr}
use Rattle.std.specs.Prelude.{◌==◌}
use Rattle.std.specs.List.{list_all}
use Rattle.std.proofs.lemmas.Bool.{cases_Bool, eqb-true}
use Rattle.text_lex.specs.declared.token.Token.{Token}
use Rattle.text_lex.specs.declared.token.Token.TheVariants.{Name, Number, Sign, Bad}
use Rattle.ssl_syntax.specs.declared.index.Index.{Index}
use Rattle.ssl_syntax.specs.declared.index.Index.TheVariants as index
use Rattle.ssl_syntax.specs.declared.line.SslExpr.{SslExpr}
use Rattle.ssl_syntax.specs.declared.line.SslExpr.TheVariants as E
use Rattle.ssl_syntax.specs.declared.words.Word.{Word}
use Rattle.ssl_syntax.specs.declared.words.Word.TheVariants as word
use Rattle.line_reading.specs.Signs.{next_sign, pc_sign, open_paren, close_paren, open_bracket, close_bracket, comma, colon, minus, tilde}
use Rattle.ssl_syntax.specs.Operators.{is_binary}
use Rattle.ssl_syntax.specs.Words.{is_load, load_word, word_bytes, word_of, is_free}
use Rattle.ssl_syntax.specs.Expressions.{expr_toks, is_formed, depth, above}
use Rattle.line_reading.specs.Spelling.{listed}
use Rattle.line_reading.specs.Readings.{Read, fails, reads, Reader, after, ◌>>=◌, give, begins, sign, number, in_parens}
use Rattle.ssl_syntax.specs.ExprReaders.{index_token, read_index, operator, read_constant, read_range, part_of, read_width, read_before, read_load, read_bits, read_extension, read_choice, read_binary, read_behind, read_named, read_signed, read_form, read_expr}
use Rattle.ssl_syntax.proofs.ExprLaws.{onto-Number, onto-Named, onto-At, onto-AtOp, onto-Load, onto-Not, onto-Neg, onto-Bin, onto-Bits, onto-Zext, onto-Sext, onto-If, onto-Call, onto-Pc, onto-Next, formed-Number, formed-Named, formed-At, formed-AtOp, formed-Load, formed-Not, formed-Neg, formed-Bin, formed-Bits, formed-Zext, formed-Sext, formed-If, formed-Call, formed-Pc, formed-Next, depth-Number, depth-Named, depth-At, depth-AtOp, depth-Load, depth-Not, depth-Neg, depth-Bin, depth-Bits, depth-Zext, depth-Sext, depth-If, depth-Call, depth-Pc, depth-Next}
use Rattle.line_reading.proofs.ListReads.{Each, IsShown, IsSound, never, Through, through, as_read, at_sign, past_sign, past_number, in_parens_sound}
use Rattle.line_reading.proofs.Loops.{IsShorter, shorter_from_sound}
use Rattle.ssl_syntax.proofs.WordLaws.{is-Load, is-Bits, is-Zext, is-Sext, is-If, plain_free}

-- formed well, and nested less than so deep
pub record Proper (n : ℕ) (e : SslExpr) : Type 0 where
  pub formed : is_formed e ≡ true
  pub shallow : depth e < n

-- the expression was read so
abbrev pub Shown : ℕ → List Token → SslExpr → List Token → Type 0
Shown n ts e r = IsShown expr_toks (Proper n) ts e r

shown : (n : ℕ) (ts us : List Token) (x e : SslExpr) (mid r : List Token) → ts ≡ us → expr_toks x ++ mid ≡ us → is_formed x ≡ true → depth x < n → reads x mid ≡ reads e r → Shown n ts e r
shown n ts us x e mid r is onto f d h = as_read x e mid r h (record { spelled = is ∙ sym onto; proper = record { formed = f; shallow = d } })

-- what stands between brackets
pub record IndexShown (ts : List Token) (i : Index) (r : List Token) : Type 0 where
  pub tokens : (x : List ℕ) → is_free x ≡ true → (Name x ∷ Sign open_bracket ∷ ts ≡ expr_toks (part_of x i) ++ r) × (is_formed (part_of x i) ≡ true) × (depth (part_of x i) ≡ 0)

index_number : (v : ℕ) (ts r : List Token) → ts ≡ Sign close_bracket ∷ r → IndexShown (Number v ∷ ts) (index.Number v) r
index_number v ts r at = record { tokens = λ x f. (ap (λ us. Name x ∷ Sign open_bracket ∷ Number v ∷ us) at ∙ sym (onto-At x v r), formed-At x v ∙ f, depth-At x v) }

index_op : (y : List ℕ) (ts r : List Token) → is_free y ≡ true → ts ≡ Sign close_bracket ∷ r → IndexShown (Name y ∷ ts) (index.Op y) r
index_op y ts r g at = record { tokens = λ x f. (ap (λ us. Name x ∷ Sign open_bracket ∷ Name y ∷ us) at ∙ sym (onto-AtOp x y r), formed-AtOp x y ∙ rw (f, g) refl, depth-AtOp x y) }

index_given : (ts : List Token) (j i : Index) (m r : List Token) → reads j m ≡ reads i r → IndexShown ts j m → IndexShown ts i r
index_given ts j i m r h s =
    let same : j ≡ i = cc in
    let rest : m ≡ r = cc in
    subst (λ k. IndexShown ts k r) same (subst (λ k. IndexShown ts j k) rest s)

pub index_sound : (ts : List Token) (i : Index) (r : List Token) → read_index ts ≡ reads i r → IndexShown ts i r
unfolding read_index
index_sound [] i r h = never i r h
index_sound (Number v ∷ ts) i r h =
    let p = past_sign close_bracket (give (index.Number v)) ts i r h in
    index_given (Number v ∷ ts) (index.Number v) i p.mid r p.second (index_number v ts p.mid p.front)
index_sound (Sign f ∷ ts) i r h = never i r h
index_sound (Bad ∷ ts) i r h = never i r h
index_sound (Name y ∷ ts) i r h = by (cases_Bool (is_free y))
  where
    by : (is_free y ≡ true) ⊎ (is_free y ≡ false) → IndexShown (Name y ∷ ts) i r
    by (inr e) = never i r (rw e at h)
    by (inl e) =
        let p = past_sign close_bracket (give (index.Op y)) ts i r (rw e at h) in
        index_given (Name y ∷ ts) (index.Op y) i p.mid r p.second (index_op y ts p.mid e p.front)

-- behind an operator
record PastOperator (next : ℕ → Reader SslExpr) (ts : List Token) (y : SslExpr) (r : List Token) : Type 0 where
  op : ℕ
  mid : List Token
  front : ts ≡ Sign op ∷ mid
  binary : is_binary op ≡ true
  second : next op mid ≡ reads y r

past_operator : (next : ℕ → Reader SslExpr) (ts : List Token) (y : SslExpr) (r : List Token) → after (operator ts) next ≡ reads y r → PastOperator next ts y r
past_operator next [] y r h = never y r h
past_operator next (Name x ∷ ts) y r h = never y r h
past_operator next (Number v ∷ ts) y r h = never y r h
past_operator next (Bad ∷ ts) y r h = never y r h
past_operator next (Sign f ∷ ts) y r h = by (cases_Bool (is_binary f))
  where
    by : (is_binary f ≡ true) ⊎ (is_binary f ≡ false) → PastOperator next (Sign f ∷ ts) y r
    by (inr e) = never y r (rw e at h)
    by (inl e) = record { op = f; mid = ts; front = refl; binary = e; second = rw e at h }

constant_sound : (n v : ℕ) (ts : List Token) (e : SslExpr) (r : List Token) → read_constant v ts ≡ reads e r → Shown (suc n) (Number v ∷ ts) e r
unfolding read_constant
constant_sound n v ts e r h =
    let p = past_sign colon (number >>= (λ w. give (E.Number v w))) ts e r h in
    let q = past_number (λ w. give (E.Number v w)) p.mid e r p.second in
    let d = depth-Number v q.value in
    shown (suc n) (Number v ∷ ts) _ (E.Number v q.value) e q.mid r (ap (λ us. Number v ∷ us) (p.front ∙ ap (λ us. Sign colon ∷ us) q.front)) (onto-Number v q.value q.mid) (formed-Number v q.value) (omega arith) q.second

width_sound : (ts : List Token) (v : ℕ) (r : List Token) → read_width ts ≡ reads v r → ts ≡ Sign open_paren ∷ Number v ∷ Sign comma ∷ r
unfolding read_width
width_sound ts v r h =
    let p = past_sign open_paren (number >>= (λ w. sign comma >>= (λ _. give w))) ts v r h in
    let w = past_number (λ w. sign comma >>= (λ _. give w)) p.mid v r p.second in
    let q = past_sign comma (give w.value) w.mid v r w.second in
    let same : w.value ≡ v = cc in
    let rest : q.mid ≡ r = cc in
    p.front ∙ ap (λ us. Sign open_paren ∷ us) (w.front ∙ ap (λ us. Number w.value ∷ us) q.front) ∙ ap (λ k. Sign open_paren ∷ Number k ∷ Sign comma ∷ q.mid) same ∙ ap (λ us. Sign open_paren ∷ Number v ∷ Sign comma ∷ us) rest

module _ (n : ℕ) (inner : Reader SslExpr) (sound : IsSound inner expr_toks (Proper n)) where
  -- an expression and the sign behind it
  before_sound : (k : ℕ) (ts : List Token) (a : SslExpr) (r : List Token) → read_before inner k ts ≡ reads a r → IsShown expr_toks (Proper n) ts a (Sign k ∷ r)
  unfolding read_before
  before_sound k ts a r h =
      let t = through (inner ts) (λ a. sign k >>= (λ _. give a)) a r h in
      let s = sound.shown ts t.x t.mid t.first in
      let q = past_sign k (give t.x) t.mid a r t.second in
      let same : t.x ≡ a = cc in
      let rest : q.mid ≡ r = cc in
      subst (λ z. IsShown expr_toks (Proper n) ts z (Sign k ∷ r)) same
      (record { spelled = s.spelled ∙ ap (λ us. expr_toks t.x ++ us) (q.front ∙ ap (λ m. Sign k ∷ m) rest); proper = s.proper })

  load_sound : (bits : ℕ) (x : List ℕ) (ts : List Token) (e : SslExpr) (r : List Token) → x ≡ load_word bits → is_load bits ≡ true → read_load inner bits ts ≡ reads e r → Shown (suc n) (Name x ∷ ts) e r
  unfolding read_load
  load_sound bits x ts e r is l h =
      let p = past_sign open_bracket (read_before inner close_bracket >>= (λ a. give (E.Load bits a))) ts e r h in
      let t = through (read_before inner close_bracket p.mid) (λ a. give (E.Load bits a)) e r p.second in
      let s = before_sound close_bracket p.mid t.x t.mid t.first in
      let d = depth-Load bits t.x in
      let da = s.proper.shallow in
      shown (suc n) (Name x ∷ ts) _ (E.Load bits t.x) e t.mid r
      (ap (λ y. Name y ∷ ts) is ∙ ap (λ us. Name (load_word bits) ∷ us) (p.front ∙ ap (λ us. Sign open_bracket ∷ us) s.spelled))
      (onto-Load bits t.x t.mid) (formed-Load bits t.x ∙ rw (l, s.proper.formed) refl) (omega arith) t.second

  not_sound : (ts : List Token) (e : SslExpr) (r : List Token) → after (inner ts) (λ a. give (E.Not a)) ≡ reads e r → Shown (suc n) (Sign tilde ∷ ts) e r
  not_sound ts e r h =
      let t = through (inner ts) (λ a. give (E.Not a)) e r h in
      let s = sound.shown ts t.x t.mid t.first in
      let d = depth-Not t.x in
      let da = s.proper.shallow in
      shown (suc n) (Sign tilde ∷ ts) _ (E.Not t.x) e t.mid r (ap (λ us. Sign tilde ∷ us) s.spelled) (onto-Not t.x t.mid) (formed-Not t.x ∙ s.proper.formed) (omega arith) t.second

  neg_sound : (ts : List Token) (e : SslExpr) (r : List Token) → after (inner ts) (λ a. give (E.Neg a)) ≡ reads e r → Shown (suc n) (Sign minus ∷ ts) e r
  neg_sound ts e r h =
      let t = through (inner ts) (λ a. give (E.Neg a)) e r h in
      let s = sound.shown ts t.x t.mid t.first in
      let d = depth-Neg t.x in
      let da = s.proper.shallow in
      shown (suc n) (Sign minus ∷ ts) _ (E.Neg t.x) e t.mid r (ap (λ us. Sign minus ∷ us) s.spelled) (onto-Neg t.x t.mid) (formed-Neg t.x ∙ s.proper.formed) (omega arith) t.second

  range_sound : (x : List ℕ) (ts us : List Token) (a : SslExpr) (e : SslExpr) (r : List Token) → x ≡ word_bytes word.Bits → ts ≡ Sign open_paren ∷ (expr_toks a ++ us) → Proper n a → read_range a us ≡ reads e r → Shown (suc n) (Name x ∷ ts) e r
  unfolding read_range
  range_sound x ts us a e r is at pa h =
      let p = past_sign comma (number >>= (λ lo. sign comma >>= (λ _. number >>= (λ hi. sign close_paren >>= (λ _. give (E.Bits a lo hi)))))) us e r h in
      let lo = past_number (λ lo. sign comma >>= (λ _. number >>= (λ hi. sign close_paren >>= (λ _. give (E.Bits a lo hi))))) p.mid e r p.second in
      let q = past_sign comma (number >>= (λ hi. sign close_paren >>= (λ _. give (E.Bits a lo.value hi)))) lo.mid e r lo.second in
      let hi = past_number (λ hi. sign close_paren >>= (λ _. give (E.Bits a lo.value hi))) q.mid e r q.second in
      let c = past_sign close_paren (give (E.Bits a lo.value hi.value)) hi.mid e r hi.second in
      let d = depth-Bits a lo.value hi.value in
      let da = pa.shallow in
      let behind : us ≡ Sign comma ∷ Number lo.value ∷ Sign comma ∷ Number hi.value ∷ Sign close_paren ∷ c.mid =
      p.front ∙ ap (λ us. Sign comma ∷ us) (lo.front ∙ ap (λ us. Number lo.value ∷ us) (q.front ∙ ap (λ us. Sign comma ∷ us) (hi.front ∙ ap (λ us. Number hi.value ∷ us) c.front))) in
      shown (suc n) (Name x ∷ ts) _ (E.Bits a lo.value hi.value) e c.mid r
      (ap (λ y. Name y ∷ ts) is ∙ ap (λ us. Name (word_bytes word.Bits) ∷ us) (at ∙ ap (λ us. Sign open_paren ∷ (expr_toks a ++ us)) behind))
      (onto-Bits a lo.value hi.value c.mid) (formed-Bits a lo.value hi.value ∙ pa.formed) (omega arith) c.second

  bits_sound : (x : List ℕ) (ts : List Token) (e : SslExpr) (r : List Token) → x ≡ word_bytes word.Bits → read_bits inner ts ≡ reads e r → Shown (suc n) (Name x ∷ ts) e r
  unfolding read_bits
  bits_sound x ts e r is h =
      let p = past_sign open_paren (inner >>= read_range) ts e r h in
      let t = through (inner p.mid) read_range e r p.second in
      let s = sound.shown p.mid t.x t.mid t.first in
      range_sound x ts t.mid t.x e r is (p.front ∙ ap (λ us. Sign open_paren ∷ us) s.spelled) s.proper t.second

  extension_sound : (f : ℕ → SslExpr → SslExpr) (w : List ℕ) (x : List ℕ) (ts : List Token) (e : SslExpr) (r : List Token) → x ≡ w → ((v : ℕ) (a : SslExpr) (m : List Token) → expr_toks (f v a) ++ m ≡ Name w ∷ Sign open_paren ∷ Number v ∷ Sign comma ∷ (expr_toks a ++ Sign close_paren ∷ m)) → ((v : ℕ) (a : SslExpr) → is_formed (f v a) ≡ is_formed a) → ((v : ℕ) (a : SslExpr) → depth (f v a) ≡ depth a + 1) → read_extension inner f ts ≡ reads e r → Shown (suc n) (Name x ∷ ts) e r
  unfolding read_extension
  extension_sound f w x ts e r is onto formed deep h =
      let v = through (read_width ts) (λ v. read_before inner close_paren >>= (λ a. give (f v a))) e r h in
      let sv = width_sound ts v.x v.mid v.first in
      let t = through (read_before inner close_paren v.mid) (λ a. give (f v.x a)) e r v.second in
      let s = before_sound close_paren v.mid t.x t.mid t.first in
      let d = deep v.x t.x in
      let da = s.proper.shallow in
      shown (suc n) (Name x ∷ ts) _ (f v.x t.x) e t.mid r
      (ap (λ y. Name y ∷ ts) is ∙ ap (λ us. Name w ∷ us) (sv ∙ ap (λ us. Sign open_paren ∷ Number v.x ∷ Sign comma ∷ us) s.spelled))
      (onto v.x t.x t.mid) (formed v.x t.x ∙ s.proper.formed) (omega arith) t.second

  choice_sound : (x : List ℕ) (ts : List Token) (e : SslExpr) (r : List Token) → x ≡ word_bytes word.If → read_choice inner ts ≡ reads e r → Shown (suc n) (Name x ∷ ts) e r
  unfolding read_choice
  choice_sound x ts e r is h =
      let p = past_sign open_paren (read_before inner comma >>= (λ c. read_before inner comma >>= (λ a. read_before inner close_paren >>= (λ b. give (E.If c a b))))) ts e r h in
      let t = through (read_before inner comma p.mid) (λ c. read_before inner comma >>= (λ a. read_before inner close_paren >>= (λ b. give (E.If c a b)))) e r p.second in
      let st = before_sound comma p.mid t.x t.mid t.first in
      let u = through (read_before inner comma t.mid) (λ a. read_before inner close_paren >>= (λ b. give (E.If t.x a b))) e r t.second in
      let su = before_sound comma t.mid u.x u.mid u.first in
      let v = through (read_before inner close_paren u.mid) (λ b. give (E.If t.x u.x b)) e r u.second in
      let sv = before_sound close_paren u.mid v.x v.mid v.first in
      let d = depth-If t.x u.x v.x in
      let dt = st.proper.shallow in
      let du = su.proper.shallow in
      let dv = sv.proper.shallow in
      let second : t.mid ≡ expr_toks u.x ++ Sign comma ∷ (expr_toks v.x ++ Sign close_paren ∷ v.mid) = su.spelled ∙ ap (λ us. expr_toks u.x ++ Sign comma ∷ us) sv.spelled in
      let first : p.mid ≡ expr_toks t.x ++ Sign comma ∷ (expr_toks u.x ++ Sign comma ∷ (expr_toks v.x ++ Sign close_paren ∷ v.mid)) = st.spelled ∙ ap (λ us. expr_toks t.x ++ Sign comma ∷ us) second in
      shown (suc n) (Name x ∷ ts) _ (E.If t.x u.x v.x) e v.mid r
      (ap (λ y. Name y ∷ ts) is ∙ ap (λ us. Name (word_bytes word.If) ∷ us) (p.front ∙ ap (λ us. Sign open_paren ∷ us) first))
      (onto-If t.x u.x v.x v.mid) (formed-If t.x u.x v.x ∙ rw (st.proper.formed, su.proper.formed, sv.proper.formed) refl) (omega arith) v.second

  binary_sound : (ts : List Token) (e : SslExpr) (r : List Token) → read_binary inner ts ≡ reads e r → Shown (suc n) (Sign open_paren ∷ ts) e r
  unfolding read_binary
  binary_sound ts e r h =
      let t = through (inner ts) (λ a. operator >>= (λ op. read_before inner close_paren >>= (λ b. give (E.Bin op a b)))) e r h in
      let st = sound.shown ts t.x t.mid t.first in
      let o = past_operator (λ op. read_before inner close_paren >>= (λ b. give (E.Bin op t.x b))) t.mid e r t.second in
      let u = through (read_before inner close_paren o.mid) (λ b. give (E.Bin o.op t.x b)) e r o.second in
      let su = before_sound close_paren o.mid u.x u.mid u.first in
      let d = depth-Bin o.op t.x u.x in
      let dt = st.proper.shallow in
      let du = su.proper.shallow in
      shown (suc n) (Sign open_paren ∷ ts) _ (E.Bin o.op t.x u.x) e u.mid r
      (ap (λ us. Sign open_paren ∷ us) (st.spelled ∙ ap (λ us. expr_toks t.x ++ us) (o.front ∙ ap (λ us. Sign o.op ∷ us) su.spelled)))
      (onto-Bin o.op t.x u.x u.mid) (formed-Bin o.op t.x u.x ∙ rw (o.binary, st.proper.formed, su.proper.formed) refl) (omega arith) u.second

  each_formed : (es : List SslExpr) → Each (Proper n) es → list_all (λ b. b) (map is_formed es) ≡ true
  each_formed [] h = refl
  each_formed (e ∷ es) h = rw (h.0.formed, each_formed es h.1) refl

  each_shallow : (es : List SslExpr) → Each (Proper n) es → above (map depth es) < suc n
  each_shallow [] h = omega arith
  each_shallow (e ∷ es) h = let a = each_shallow es h.1 in let b = h.0.shallow in omega arith

  call_sound : (x : List ℕ) (ts : List Token) (e : SslExpr) (r : List Token) → is_free x ≡ true → after (in_parens inner ts) (λ es. give (E.Call x es)) ≡ reads e r → Shown (suc n) (Name x ∷ Sign open_paren ∷ ts) e r
  call_sound x ts e r f h =
      let t = through (in_parens inner ts) (λ es. give (E.Call x es)) e r h in
      let s = in_parens_sound inner expr_toks (Proper n) sound ts t.x t.mid t.first in
      let d = depth-Call x t.x in
      let a = each_shallow t.x s.proper in
      shown (suc n) (Name x ∷ Sign open_paren ∷ ts) _ (E.Call x t.x) e t.mid r (ap (λ us. Name x ∷ Sign open_paren ∷ us) s.spelled) (onto-Call x t.x t.mid) (formed-Call x t.x ∙ rw (f, each_formed t.x s.proper) refl) (omega arith) t.second

  part_sound : (x : List ℕ) (ts : List Token) (e : SslExpr) (r : List Token) → is_free x ≡ true → after (read_index ts) (λ i. give (part_of x i)) ≡ reads e r → Shown (suc n) (Name x ∷ Sign open_bracket ∷ ts) e r
  part_sound x ts e r f h =
      let t = through (read_index ts) (λ i. give (part_of x i)) e r h in
      let s = (index_sound ts t.x t.mid t.first).tokens x f in
      let d = s.2 in
      shown (suc n) (Name x ∷ Sign open_bracket ∷ ts) _ (part_of x t.x) e t.mid r s.0 refl s.1 (omega arith) t.second

  behind_sound : (x : List ℕ) (ts : List Token) (e : SslExpr) (r : List Token) → is_free x ≡ true → read_behind inner x ts ≡ reads e r → Shown (suc n) (Name x ∷ ts) e r
  unfolding read_behind
  behind_sound x ts e r f h = bracket (cases_Bool (begins open_bracket ts))
    where
      plain : begins open_bracket ts ≡ false → begins open_paren ts ≡ false → Shown (suc n) (Name x ∷ ts) e r
      plain a b = let d = depth-Named x in shown (suc n) (Name x ∷ ts) _ (E.Named x) e ts r refl (onto-Named x ts) (formed-Named x ∙ f) (omega arith) (rw (a, b) at h)

      paren : begins open_bracket ts ≡ false → (begins open_paren ts ≡ true) ⊎ (begins open_paren ts ≡ false) → Shown (suc n) (Name x ∷ ts) e r
      paren a (inr b) = plain a b
      paren a (inl b) = subst (λ us. Shown (suc n) (Name x ∷ us) e r) (sym (at_sign open_paren ts b)) (call_sound x (drop 1 ts) e r f (rw (a, b) at h))

      bracket : (begins open_bracket ts ≡ true) ⊎ (begins open_bracket ts ≡ false) → Shown (suc n) (Name x ∷ ts) e r
      bracket (inl a) = subst (λ us. Shown (suc n) (Name x ∷ us) e r) (sym (at_sign open_bracket ts a)) (part_sound x (drop 1 ts) e r f (rw a at h))
      bracket (inr a) = paren a (cases_Bool (begins open_paren ts))

  named_sound : (x : List ℕ) (w : Word) (ts : List Token) (e : SslExpr) (r : List Token) → word_of x ≡ w → read_named inner x w ts ≡ reads e r → Shown (suc n) (Name x ∷ ts) e r
  unfolding read_named
  named_sound x (word.Load bits) ts e r is h = let p = is-Load x bits is in load_sound bits x ts e r p.0 p.1 h
  named_sound x word.Bits ts e r is h = bits_sound x ts e r (is-Bits x is) h
  named_sound x word.Zext ts e r is h = extension_sound E.Zext (word_bytes word.Zext) x ts e r (is-Zext x is) onto-Zext formed-Zext depth-Zext h
  named_sound x word.Sext ts e r is h = extension_sound E.Sext (word_bytes word.Sext) x ts e r (is-Sext x is) onto-Sext formed-Sext depth-Sext h
  named_sound x word.If ts e r is h = choice_sound x ts e r (is-If x is) h
  named_sound x word.Plain ts e r is h = behind_sound x ts e r (plain_free x is) h
  named_sound x word.Jump ts e r is h = never e r h
  named_sound x word.Annul ts e r is h = never e r h
  named_sound x word.Trap ts e r is h = never e r h
  named_sound x word.Service ts e r is h = never e r h
  named_sound x word.WinSave ts e r is h = never e r h
  named_sound x word.WinRestore ts e r is h = never e r h
  named_sound x word.Nothing ts e r is h = never e r h

  pc_sound : (ts : List Token) (e : SslExpr) (r : List Token) → reads E.Pc ts ≡ reads e r → Shown (suc n) (Sign pc_sign ∷ ts) e r
  pc_sound ts e r h = let d = depth-Pc in shown (suc n) (Sign pc_sign ∷ ts) _ E.Pc e ts r refl (onto-Pc ts) formed-Pc (omega arith) h

  next_sound : (ts : List Token) (e : SslExpr) (r : List Token) → reads E.Next ts ≡ reads e r → Shown (suc n) (Sign next_sign ∷ ts) e r
  next_sound ts e r h = let d = depth-Next in shown (suc n) (Sign next_sign ∷ ts) _ E.Next e ts r refl (onto-Next ts) formed-Next (omega arith) h

  signed_sound : (f : ℕ) (ts : List Token) (e : SslExpr) (r : List Token) → read_signed inner f ts ≡ reads e r → Shown (suc n) (Sign f ∷ ts) e r
  unfolding read_signed
  signed_sound f ts e r h = first (cases_Bool (f == tilde))
    where
      is_sign : (k : ℕ) → (f == k) ≡ true → Shown (suc n) (Sign k ∷ ts) e r → Shown (suc n) (Sign f ∷ ts) e r
      is_sign k q s = subst (λ j. Shown (suc n) (Sign j ∷ ts) e r) (sym (eqb-true f k q)) s

      fifth : (f == tilde) ≡ false → (f == minus) ≡ false → (f == open_paren) ≡ false → (f == pc_sign) ≡ false → ((f == next_sign) ≡ true) ⊎ ((f == next_sign) ≡ false) → Shown (suc n) (Sign f ∷ ts) e r
      fifth a b c d (inl q) = is_sign next_sign q (next_sound ts e r (rw (a, b, c, d, q) at h))
      fifth a b c d (inr q) = never e r (rw (a, b, c, d, q) at h)

      fourth : (f == tilde) ≡ false → (f == minus) ≡ false → (f == open_paren) ≡ false → ((f == pc_sign) ≡ true) ⊎ ((f == pc_sign) ≡ false) → Shown (suc n) (Sign f ∷ ts) e r
      fourth a b c (inl q) = is_sign pc_sign q (pc_sound ts e r (rw (a, b, c, q) at h))
      fourth a b c (inr q) = fifth a b c q (cases_Bool (f == next_sign))

      third : (f == tilde) ≡ false → (f == minus) ≡ false → ((f == open_paren) ≡ true) ⊎ ((f == open_paren) ≡ false) → Shown (suc n) (Sign f ∷ ts) e r
      third a b (inl q) = is_sign open_paren q (binary_sound ts e r (rw (a, b, q) at h))
      third a b (inr q) = fourth a b q (cases_Bool (f == pc_sign))

      second : (f == tilde) ≡ false → ((f == minus) ≡ true) ⊎ ((f == minus) ≡ false) → Shown (suc n) (Sign f ∷ ts) e r
      second a (inl q) = is_sign minus q (neg_sound ts e r (rw (a, q) at h))
      second a (inr q) = third a q (cases_Bool (f == open_paren))

      first : ((f == tilde) ≡ true) ⊎ ((f == tilde) ≡ false) → Shown (suc n) (Sign f ∷ ts) e r
      first (inl q) = is_sign tilde q (not_sound ts e r (rw q at h))
      first (inr q) = second q (cases_Bool (f == minus))

  form_sound : (ts : List Token) (e : SslExpr) (r : List Token) → read_form inner ts ≡ reads e r → Shown (suc n) ts e r
  unfolding read_form
  form_sound [] e r h = never e r h
  form_sound (Number v ∷ ts) e r h = constant_sound n v ts e r h
  form_sound (Name x ∷ ts) e r h = named_sound x (word_of x) ts e r refl h
  form_sound (Sign f ∷ ts) e r h = signed_sound f ts e r h
  form_sound (Bad ∷ ts) e r h = never e r h

-- what is read as an expression was spelled by it
pub expr_sound : (n : ℕ) → IsSound (read_expr n) expr_toks (Proper n)
unfolding read_expr
expr_sound zero = record { shown = λ ts e r h. never e r h }
expr_sound (suc n) = record { shown = λ ts e r h. form_sound n (read_expr n) (expr_sound n) ts e r h }

-- the rest that is left is no longer
pub expr_shorter : (n : ℕ) → IsShorter (read_expr n)
expr_shorter n = shorter_from_sound (read_expr n) expr_toks (Proper n) (expr_sound n)
