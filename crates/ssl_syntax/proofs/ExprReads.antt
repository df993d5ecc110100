-- Expressions: what is spelled is read.
use Rattle.std.proofs.Common.{◌≡◌, ℕ, ◌+◌, ◌-◌, ◌<◌, ◌≤◌, zero, suc, Bool, true, false, ◌&&◌, max, List, [], ◌∷◌, ◌++◌, map, refl, sym, ap, ◌∙◌, subst, arith, ◌⊎◌, inl, inr}
use Rattle.std.specs.Prelude.{◌==◌}
use Rattle.std.specs.List.{list_all}
use Rattle.std.proofs.lemmas.Bool.{cases_Bool, eqb-true, true≢false, and_parts}
use Rattle.text_lex.specs.declared.token.Token.{Token}
use Rattle.text_lex.specs.declared.token.Token.TheVariants.{Name, Number, Sign, Bad}
use Rattle.ssl_syntax.specs.declared.line.SslExpr.{SslExpr}
use Rattle.ssl_syntax.specs.declared.line.SslExpr.TheVariants as E
use Rattle.ssl_syntax.specs.declared.words.Word.TheVariants as word
use Rattle.line_reading.specs.Signs.{next_sign, pc_sign, open_paren, close_paren, open_bracket, close_bracket, comma, colon, minus, tilde}
use Rattle.ssl_syntax.specs.Operators.{is_binary}
use Rattle.ssl_syntax.specs.Words.{is_load, load_word, word_bytes, word_of, is_free}
use Rattle.ssl_syntax.specs.Expressions.{expr_toks, is_formed, depth, above}
use Rattle.line_reading.specs.Spelling.{each_behind, listed}
use Rattle.line_reading.specs.Readings.{Read, fails, reads, Reader, begins, in_parens}
use Rattle.ssl_syntax.specs.ExprReaders.{read_index, read_constant, read_range, read_width, read_before, read_load, read_bits, read_extension, read_choice, read_binary, read_behind, read_named, read_signed, read_form, read_expr}
use Rattle.ssl_syntax.proofs.ExprLaws.{onto-Number, onto-Named, onto-At, onto-AtOp, onto-Load, onto-Not, onto-Neg, onto-Bin, onto-Bits, onto-Zext, onto-Sext, onto-If, onto-Call, onto-Pc, onto-Next, formed-Named, formed-At, formed-AtOp, formed-Load, formed-Not, formed-Neg, formed-Bin, formed-Bits, formed-Zext, formed-Sext, formed-If, formed-Call, depth-Load, depth-Not, depth-Neg, depth-Bin, depth-Bits, depth-Zext, depth-Sext, depth-If, depth-Call}
use Rattle.ssl_syntax.proofs.InductExpr.{Cases, induct-SslExpr}
use Rattle.line_reading.proofs.ListReads.{Each, IsRead, IsStarted, in_parens_reads, never}
use Rattle.ssl_syntax.proofs.Ends.{Ends, closes_paren, closes_comma, closes_bracket}
use Rattle.ssl_syntax.proofs.WordLaws.{word-Load, word-Bits, word-Zext, word-Sext, word-If, free_plain}

pub expr_none : (n : ℕ) (ts : List Token) → n ≡ 0 → read_expr n ts ≡ fails
unfolding read_expr
expr_none n ts e = rw e refl

pub expr_more : (n : ℕ) (ts : List Token) → 0 < n → read_expr n ts ≡ read_form (read_expr (n - 1)) ts
unfolding read_expr
expr_more zero ts h = absurd (omega arith)
expr_more (suc n) ts h = let e : suc n - 1 ≡ n = omega arith in rw e refl

-- each form by its parts
module _ (inner : Reader SslExpr) where
  number_form : (v w : ℕ) (r : List Token) → read_form inner (Number v ∷ Sign colon ∷ Number w ∷ r) ≡ reads (E.Number v w) r
  unfolding read_form read_constant
  number_form v w r = refl

  named_form : (x : List ℕ) (r : List Token) → is_free x ≡ true → Ends r → read_form inner (Name x ∷ r) ≡ reads (E.Named x) r
  unfolding read_form read_named read_behind
  named_form x r f h = rw (free_plain x f, h.no_bracket, h.no_paren) refl

  at_form : (x : List ℕ) (i : ℕ) (r : List Token) → is_free x ≡ true → read_form inner (Name x ∷ Sign open_bracket ∷ Number i ∷ Sign close_bracket ∷ r) ≡ reads (E.At x i) r
  unfolding read_form read_named read_behind read_index
  at_form x i r f = rw (free_plain x f) refl

  at_op_form : (x op : List ℕ) (r : List Token) → is_free x ≡ true → is_free op ≡ true → read_form inner (Name x ∷ Sign open_bracket ∷ Name op ∷ Sign close_bracket ∷ r) ≡ reads (E.AtOp x op) r
  unfolding read_form read_named read_behind read_index
  at_op_form x op r f g = rw (free_plain x f, g) refl

  load_form : (n : ℕ) (a : SslExpr) (xs r : List Token) → is_load n ≡ true → inner xs ≡ reads a (Sign close_bracket ∷ r) → read_form inner (Name (load_word n) ∷ Sign open_bracket ∷ xs) ≡ reads (E.Load n a) r
  unfolding read_form read_named read_load read_before
  load_form n a xs r l p = rw (word-Load n l, p) refl

  not_form : (a : SslExpr) (xs r : List Token) → inner xs ≡ reads a r → read_form inner (Sign tilde ∷ xs) ≡ reads (E.Not a) r
  unfolding read_form read_signed
  not_form a xs r p = rw p refl

  neg_form : (a : SslExpr) (xs r : List Token) → inner xs ≡ reads a r → read_form inner (Sign minus ∷ xs) ≡ reads (E.Neg a) r
  unfolding read_form read_signed
  neg_form a xs r p = rw p refl

  bin_form : (op : ℕ) (a b : SslExpr) (xs ys r : List Token) → is_binary op ≡ true → inner xs ≡ reads a (Sign op ∷ ys) → inner ys ≡ reads b (Sign close_paren ∷ r) → read_form inner (Sign open_paren ∷ xs) ≡ reads (E.Bin op a b) r
  unfolding read_form read_signed read_binary read_before
  bin_form op a b xs ys r o p q = rw (p, o, q) refl

  bits_form : (a : SslExpr) (lo hi : ℕ) (xs r : List Token) → inner xs ≡ reads a (Sign comma ∷ Number lo ∷ Sign comma ∷ Number hi ∷ Sign close_paren ∷ r) → read_form inner (Name (word_bytes word.Bits) ∷ Sign open_paren ∷ xs) ≡ reads (E.Bits a lo hi) r
  unfolding read_form read_named read_bits read_range
  bits_form a lo hi xs r p = rw (word-Bits, p) refl

  zext_form : (w : ℕ) (a : SslExpr) (xs r : List Token) → inner xs ≡ reads a (Sign close_paren ∷ r) → read_form inner (Name (word_bytes word.Zext) ∷ Sign open_paren ∷ Number w ∷ Sign comma ∷ xs) ≡ reads (E.Zext w a) r
  unfolding read_form read_named read_extension read_width read_before
  zext_form w a xs r p = rw (word-Zext, p) refl

  sext_form : (w : ℕ) (a : SslExpr) (xs r : List Token) → inner xs ≡ reads a (Sign close_paren ∷ r) → read_form inner (Name (word_bytes word.Sext) ∷ Sign open_paren ∷ Number w ∷ Sign comma ∷ xs) ≡ reads (E.Sext w a) r
  unfolding read_form read_named read_extension read_width read_before
  sext_form w a xs r p = rw (word-Sext, p) refl

  if_form : (c a b : SslExpr) (xs ys zs r : List Token) → inner xs ≡ reads c (Sign comma ∷ ys) → inner ys ≡ reads a (Sign comma ∷ zs) → inner zs ≡ reads b (Sign close_paren ∷ r) → read_form inner (Name (word_bytes word.If) ∷ Sign open_paren ∷ xs) ≡ reads (E.If c a b) r
  unfolding read_form read_named read_choice read_before
  if_form c a b xs ys zs r p q s = rw (word-If, p, q, s) refl

  call_form : (x : List ℕ) (es : List SslExpr) (xs r : List Token) → is_free x ≡ true → in_parens inner xs ≡ reads es r → read_form inner (Name x ∷ Sign open_paren ∷ xs) ≡ reads (E.Call x es) r
  unfolding read_form read_named read_behind
  call_form x es xs r f p = rw (free_plain x f, p) refl

  pc_form : (r : List Token) → read_form inner (Sign pc_sign ∷ r) ≡ reads E.Pc r
  unfolding read_form read_signed
  pc_form r = refl

  next_form : (r : List Token) → read_form inner (Sign next_sign ∷ r) ≡ reads E.Next r
  unfolding read_form read_signed
  next_form r = refl

  no_close : (ts : List Token) (e : SslExpr) (r : List Token) → read_form inner (Sign close_paren ∷ ts) ≡ reads e r → ⊥
  unfolding read_form read_signed
  no_close ts e r h = never e r h

-- an expression does not begin with `)`
begun : (n : ℕ) (ts : List Token) (e : SslExpr) (r : List Token) → read_expr n ts ≡ reads e r → begins close_paren ts ≡ false
unfolding read_expr
begun zero ts e r h = never e r h
begun (suc n) [] e r h = refl
begun (suc n) (Name x ∷ ts) e r h = refl
begun (suc n) (Number v ∷ ts) e r h = refl
begun (suc n) (Bad ∷ ts) e r h = refl
begun (suc n) (Sign f ∷ ts) e r h = by (cases_Bool (f == close_paren))
  where
    by : ((f == close_paren) ≡ true) ⊎ ((f == close_paren) ≡ false) → (f == close_paren) ≡ false
    by (inr q) = q
    by (inl q) = absurd (no_close (read_expr n) ts e r (subst (λ k. read_form (read_expr n) (Sign k ∷ ts) ≡ reads e r) (eqb-true f close_paren q) h))

pub expr_started : (n : ℕ) → IsStarted (read_expr n)
expr_started n = record { starts = begun n }

-- behind a binary operator a name ends
not_open : (op : ℕ) → is_binary op ≡ true → ((op == open_bracket) ≡ false) × ((op == open_paren) ≡ false)
unfolding is_binary
not_open op h = (bracket (cases_Bool (op == open_bracket)), paren (cases_Bool (op == open_paren)))
  where
    bracket : ((op == open_bracket) ≡ true) ⊎ ((op == open_bracket) ≡ false) → (op == open_bracket) ≡ false
    bracket (inr q) = q
    bracket (inl q) = absurd (true≢false (sym h ∙ ap is_binary (eqb-true op open_bracket q)))

    paren : ((op == open_paren) ≡ true) ⊎ ((op == open_paren) ≡ false) → (op == open_paren) ≡ false
    paren (inr q) = q
    paren (inl q) = absurd (true≢false (sym h ∙ ap is_binary (eqb-true op open_paren q)))

closes_binary : (op : ℕ) (r : List Token) → is_binary op ≡ true → Ends (Sign op ∷ r)
closes_binary op r h = let p = not_open op h in record { no_bracket = p.0; no_paren = p.1 }

-- the expression is read, wherever its spelling stands before what can follow it
abbrev Reading : SslExpr → Type 0
Reading e = (n : ℕ) (r : List Token) → is_formed e ≡ true → depth e < n → Ends r → read_expr n (expr_toks e ++ r) ≡ reads e r

step : (n : ℕ) (ts us : List Token) (e : SslExpr) (r : List Token) → 0 < n → ts ≡ us → read_form (read_expr (n - 1)) us ≡ reads e r → read_expr n ts ≡ reads e r
step n ts us e r pos is h = ap (read_expr n) is ∙ expr_more n us pos ∙ h

args_read : (m : ℕ) (es : List SslExpr) → Each Reading es → list_all (λ b. b) (map is_formed es) ≡ true → above (map depth es) ≤ m → Each (IsRead Ends (read_expr m) expr_toks) es
args_read m [] all f d = tt
args_read m (e ∷ es) all f d =
    let p = and_parts (is_formed e) (list_all (λ b. b) (map is_formed es)) f in
    let here : depth e < m = omega arith in
    let rest : above (map depth es) ≤ m = omega arith in
    (record { always = λ r ends. all.0 m r p.0 here ends }, args_read m es all.1 p.1 rest)

read_bin : (op : ℕ) (a b : SslExpr) → Reading a → Reading b → Reading (E.Bin op a b)
read_bin op a b ra rb n r f d ends =
    let p = and_parts (is_binary op) (is_formed a && is_formed b) (sym (formed-Bin op a b) ∙ f) in
    let q = and_parts (is_formed a) (is_formed b) p.1 in
    let deep = depth-Bin op a b in
    let da : depth a < n - 1 = omega arith in
    let db : depth b < n - 1 = omega arith in
    let pos : 0 < n = omega arith in
    let ys : List Token = expr_toks b ++ Sign close_paren ∷ r in
    let first = ra (n - 1) (Sign op ∷ ys) q.0 da (closes_binary op ys p.0) in
    let second = rb (n - 1) (Sign close_paren ∷ r) q.1 db (closes_paren r) in
    step n _ _ _ r pos (onto-Bin op a b r) (bin_form (read_expr (n - 1)) op a b _ ys r p.0 first second)

read_if : (c a b : SslExpr) → Reading c → Reading a → Reading b → Reading (E.If c a b)
read_if c a b rc ra rb n r f d ends =
    let p = and_parts (is_formed c) (is_formed a && is_formed b) (sym (formed-If c a b) ∙ f) in
    let q = and_parts (is_formed a) (is_formed b) p.1 in
    let deep = depth-If c a b in
    let dc : depth c < n - 1 = omega arith in
    let da : depth a < n - 1 = omega arith in
    let db : depth b < n - 1 = omega arith in
    let pos : 0 < n = omega arith in
    let zs : List Token = expr_toks b ++ Sign close_paren ∷ r in
    let ys : List Token = expr_toks a ++ Sign comma ∷ zs in
    let first = rc (n - 1) (Sign comma ∷ ys) p.0 dc (closes_comma ys) in
    let second = ra (n - 1) (Sign comma ∷ zs) q.0 da (closes_comma zs) in
    let third = rb (n - 1) (Sign close_paren ∷ r) q.1 db (closes_paren r) in
    step n _ _ _ r pos (onto-If c a b r) (if_form (read_expr (n - 1)) c a b _ ys zs r first second third)

read_call : (x : List ℕ) (es : List SslExpr) → Each Reading es → Reading (E.Call x es)
read_call x es all n r f d ends =
    let p = and_parts (is_free x) (list_all (λ b. b) (map is_formed es)) (sym (formed-Call x es) ∙ f) in
    let deep = depth-Call x es in
    let shallow : above (map depth es) ≤ n - 1 = omega arith in
    let pos : 0 < n = omega arith in
    let args = in_parens_reads Ends (read_expr (n - 1)) expr_toks closes_comma closes_paren es r (expr_started (n - 1)) (args_read (n - 1) es all p.1 shallow) in
    step n _ _ _ r pos (onto-Call x es r) (call_form (read_expr (n - 1)) x es _ r p.0 args)

read_one : (a e : SslExpr) (n : ℕ) (ts us : List Token) (r back : List Token) → Reading a → is_formed a ≡ true → depth e ≡ depth a + 1 → depth e < n → Ends back → ts ≡ us → ((inner : Reader SslExpr) → inner (expr_toks a ++ back) ≡ reads a back → read_form inner us ≡ reads e r) → read_expr n ts ≡ reads e r
read_one a e n ts us r back ra f deep d ends is form =
    let da : depth a < n - 1 = omega arith in
    let pos : 0 < n = omega arith in
    step n ts us e r pos is (form (read_expr (n - 1)) (ra (n - 1) back f da ends))

pub reading : (e : SslExpr) → Reading e
reading = induct-SslExpr Reading (record {
  on_number = λ v w n r f d ends. step n _ _ _ r (omega arith) (onto-Number v w r) (number_form (read_expr (n - 1)) v w r);
  on_named = λ x n r f d ends. step n _ _ _ r (omega arith) (onto-Named x r) (named_form (read_expr (n - 1)) x r (sym (formed-Named x) ∙ f) ends);
  on_at = λ x i n r f d ends. step n _ _ _ r (omega arith) (onto-At x i r) (at_form (read_expr (n - 1)) x i r (sym (formed-At x i) ∙ f));
  on_at_op = λ x op n r f d ends. let p = and_parts (is_free x) (is_free op) (sym (formed-AtOp x op) ∙ f) in step n _ _ _ r (omega arith) (onto-AtOp x op r) (at_op_form (read_expr (n - 1)) x op r p.0 p.1);
  on_load = λ bits a ra n r f d ends. let p = and_parts (is_load bits) (is_formed a) (sym (formed-Load bits a) ∙ f) in read_one a (E.Load bits a) n _ _ r (Sign close_bracket ∷ r) ra p.1 (depth-Load bits a) d (closes_bracket r) (onto-Load bits a r) (λ inner h. load_form inner bits a _ r p.0 h);
  on_not = λ a ra n r f d ends. read_one a (E.Not a) n _ _ r r ra (sym (formed-Not a) ∙ f) (depth-Not a) d ends (onto-Not a r) (λ inner h. not_form inner a _ r h);
  on_neg = λ a ra n r f d ends. read_one a (E.Neg a) n _ _ r r ra (sym (formed-Neg a) ∙ f) (depth-Neg a) d ends (onto-Neg a r) (λ inner h. neg_form inner a _ r h);
  on_bin = read_bin;
  on_bits = λ a lo hi ra n r f d ends. let back : List Token = Sign comma ∷ Number lo ∷ Sign comma ∷ Number hi ∷ Sign close_paren ∷ r in read_one a (E.Bits a lo hi) n _ _ r back ra (sym (formed-Bits a lo hi) ∙ f) (depth-Bits a lo hi) d (closes_comma _) (onto-Bits a lo hi r) (λ inner h. bits_form inner a lo hi _ r h);
  on_zext = λ w a ra n r f d ends. read_one a (E.Zext w a) n _ _ r (Sign close_paren ∷ r) ra (sym (formed-Zext w a) ∙ f) (depth-Zext w a) d (closes_paren r) (onto-Zext w a r) (λ inner h. zext_form inner w a _ r h);
  on_sext = λ w a ra n r f d ends. read_one a (E.Sext w a) n _ _ r (Sign close_paren ∷ r) ra (sym (formed-Sext w a) ∙ f) (depth-Sext w a) d (closes_paren r) (onto-Sext w a r) (λ inner h. sext_form inner w a _ r h);
  on_if = read_if;
  on_call = read_call;
  on_pc = λ n r f d ends. step n _ _ _ r (omega arith) (onto-Pc r) (pc_form (read_expr (n - 1)) r);
  on_next = λ n r f d ends. step n _ _ _ r (omega arith) (onto-Next r) (next_form (read_expr (n - 1)) r);
})

pub ruleset expr_laws = (expr_none, expr_more)
