-- How each form of an expression is spelled, whether it is formed well, and how deep it is, as equations.
use Rattle.std.proofs.Common.{◌≡◌, ℕ, ◌+◌, ◌&&◌, Bool, true, List, [], ◌∷◌, ◌++◌, map, max, sym, ap, ◌∙◌, refl, append_assoc}
use Rattle.std.specs.List.{list_all}
use Rattle.text_lex.specs.declared.token.Token.{Token}
use Rattle.text_lex.specs.declared.token.Token.TheVariants.{Name, Number, Sign}
use Rattle.ssl_syntax.specs.declared.line.SslExpr.{SslExpr, fold-roll-SslExpr}
use Rattle.ssl_syntax.specs.declared.line.SslExpr.TheVariants as E
use Rattle.ssl_syntax.specs.declared.line.SslExpr.TheOpen.{SslExpr-F}
use Rattle.ssl_syntax.specs.declared.words.Word.TheVariants as word
use Rattle.line_reading.specs.Signs.{next_sign, pc_sign, open_paren, close_paren, open_bracket, close_bracket, comma, colon, minus, tilde}
use Rattle.ssl_syntax.specs.Operators.{is_binary}
use Rattle.ssl_syntax.specs.Words.{is_load, load_word, word_bytes, is_free}
use Rattle.ssl_syntax.specs.Expressions.{expr_toks, node_toks, is_formed, node_formed, depth, node_depth, above}
use Rattle.line_reading.specs.Spelling.{each_behind, listed}

pub toks-Number : (v w : ℕ) → expr_toks (E.Number v w) ≡ Number v ∷ Sign colon ∷ Number w ∷ []
unfolding expr_toks
toks-Number v w = ap expr_toks (sym (E.rolls-Number v w)) ∙ fold-roll-SslExpr (List Token) node_toks (SslExpr-F.Number v w)

pub toks-Named : (x : List ℕ) → expr_toks (E.Named x) ≡ Name x ∷ []
unfolding expr_toks
toks-Named x = ap expr_toks (sym (E.rolls-Named x)) ∙ fold-roll-SslExpr (List Token) node_toks (SslExpr-F.Named x)

pub toks-At : (x : List ℕ) (i : ℕ) → expr_toks (E.At x i) ≡ Name x ∷ Sign open_bracket ∷ Number i ∷ Sign close_bracket ∷ []
unfolding expr_toks
toks-At x i = ap expr_toks (sym (E.rolls-At x i)) ∙ fold-roll-SslExpr (List Token) node_toks (SslExpr-F.At x i)

pub toks-AtOp : (x op : List ℕ) → expr_toks (E.AtOp x op) ≡ Name x ∷ Sign open_bracket ∷ Name op ∷ Sign close_bracket ∷ []
unfolding expr_toks
toks-AtOp x op = ap expr_toks (sym (E.rolls-AtOp x op)) ∙ fold-roll-SslExpr (List Token) node_toks (SslExpr-F.AtOp x op)

pub toks-Load : (n : ℕ) (a : SslExpr) → expr_toks (E.Load n a) ≡ Name (load_word n) ∷ Sign open_bracket ∷ (expr_toks a ++ Sign close_bracket ∷ [])
unfolding expr_toks
toks-Load n a = ap expr_toks (sym (E.rolls-Load n a)) ∙ fold-roll-SslExpr (List Token) node_toks (SslExpr-F.Load n a)

pub toks-Not : (a : SslExpr) → expr_toks (E.Not a) ≡ Sign tilde ∷ expr_toks a
unfolding expr_toks
toks-Not a = ap expr_toks (sym (E.rolls-Not a)) ∙ fold-roll-SslExpr (List Token) node_toks (SslExpr-F.Not a)

pub toks-Neg : (a : SslExpr) → expr_toks (E.Neg a) ≡ Sign minus ∷ expr_toks a
unfolding expr_toks
toks-Neg a = ap expr_toks (sym (E.rolls-Neg a)) ∙ fold-roll-SslExpr (List Token) node_toks (SslExpr-F.Neg a)

pub toks-Bin : (op : ℕ) (a b : SslExpr) → expr_toks (E.Bin op a b) ≡ Sign open_paren ∷ (expr_toks a ++ Sign op ∷ (expr_toks b ++ Sign close_paren ∷ []))
unfolding expr_toks
toks-Bin op a b = ap expr_toks (sym (E.rolls-Bin op a b)) ∙ fold-roll-SslExpr (List Token) node_toks (SslExpr-F.Bin op a b)

pub toks-Bits : (a : SslExpr) (lo hi : ℕ) → expr_toks (E.Bits a lo hi) ≡ Name (word_bytes word.Bits) ∷ Sign open_paren ∷ (expr_toks a ++ Sign comma ∷ Number lo ∷ Sign comma ∷ Number hi ∷ Sign close_paren ∷ [])
unfolding expr_toks
toks-Bits a lo hi = ap expr_toks (sym (E.rolls-Bits a lo hi)) ∙ fold-roll-SslExpr (List Token) node_toks (SslExpr-F.Bits a lo hi)

pub toks-Zext : (w : ℕ) (a : SslExpr) → expr_toks (E.Zext w a) ≡ Name (word_bytes word.Zext) ∷ Sign open_paren ∷ Number w ∷ Sign comma ∷ (expr_toks a ++ Sign close_paren ∷ [])
unfolding expr_toks
toks-Zext w a = ap expr_toks (sym (E.rolls-Zext w a)) ∙ fold-roll-SslExpr (List Token) node_toks (SslExpr-F.Zext w a)

pub toks-Sext : (w : ℕ) (a : SslExpr) → expr_toks (E.Sext w a) ≡ Name (word_bytes word.Sext) ∷ Sign open_paren ∷ Number w ∷ Sign comma ∷ (expr_toks a ++ Sign close_paren ∷ [])
unfolding expr_toks
toks-Sext w a = ap expr_toks (sym (E.rolls-Sext w a)) ∙ fold-roll-SslExpr (List Token) node_toks (SslExpr-F.Sext w a)

pub toks-If : (c a b : SslExpr) → expr_toks (E.If c a b) ≡ Name (word_bytes word.If) ∷ Sign open_paren ∷ (expr_toks c ++ Sign comma ∷ (expr_toks a ++ Sign comma ∷ (expr_toks b ++ Sign close_paren ∷ [])))
unfolding expr_toks
toks-If c a b = ap expr_toks (sym (E.rolls-If c a b)) ∙ fold-roll-SslExpr (List Token) node_toks (SslExpr-F.If c a b)

behind_map : (k : ℕ) (es : List SslExpr) → each_behind k (λ ts. ts) (map expr_toks es) ≡ each_behind k expr_toks es
behind_map k [] = refl
behind_map k (e ∷ es) = ap (λ ts. Sign k ∷ (expr_toks e ++ ts)) (behind_map k es)

listed_map : (k : ℕ) (es : List SslExpr) → listed k (λ ts. ts) (map expr_toks es) ≡ listed k expr_toks es
listed_map k [] = refl
listed_map k (e ∷ es) = ap (λ ts. expr_toks e ++ ts) (behind_map k es)

pub toks-Call : (x : List ℕ) (es : List SslExpr) → expr_toks (E.Call x es) ≡ Name x ∷ Sign open_paren ∷ (listed comma expr_toks es ++ Sign close_paren ∷ [])
unfolding expr_toks
toks-Call x es =
    ap expr_toks (sym (E.rolls-Call x es)) ∙ fold-roll-SslExpr (List Token) node_toks (SslExpr-F.Call x es)
    ∙ ap (λ ts. Name x ∷ Sign open_paren ∷ (ts ++ Sign close_paren ∷ [])) (listed_map comma es)

pub toks-Pc : expr_toks E.Pc ≡ Sign pc_sign ∷ []
unfolding expr_toks
toks-Pc = ap expr_toks (sym E.rolls-Pc) ∙ fold-roll-SslExpr (List Token) node_toks SslExpr-F.Pc

pub toks-Next : expr_toks E.Next ≡ Sign next_sign ∷ []
unfolding expr_toks
toks-Next = ap expr_toks (sym E.rolls-Next) ∙ fold-roll-SslExpr (List Token) node_toks SslExpr-F.Next

pub ruleset spelled_laws = (toks-Number, toks-Named, toks-At, toks-AtOp, toks-Load, toks-Not, toks-Neg, toks-Bin, toks-Bits, toks-Zext, toks-Sext, toks-If, toks-Call, toks-Pc, toks-Next)

-- the same with what follows
pub onto-Number : (v w : ℕ) (r : List Token) → expr_toks (E.Number v w) ++ r ≡ Number v ∷ Sign colon ∷ Number w ∷ r
onto-Number v w r = ap (λ ts. ts ++ r) (toks-Number v w)

pub onto-Named : (x : List ℕ) (r : List Token) → expr_toks (E.Named x) ++ r ≡ Name x ∷ r
onto-Named x r = ap (λ ts. ts ++ r) (toks-Named x)

pub onto-At : (x : List ℕ) (i : ℕ) (r : List Token) → expr_toks (E.At x i) ++ r ≡ Name x ∷ Sign open_bracket ∷ Number i ∷ Sign close_bracket ∷ r
onto-At x i r = ap (λ ts. ts ++ r) (toks-At x i)

pub onto-AtOp : (x op : List ℕ) (r : List Token) → expr_toks (E.AtOp x op) ++ r ≡ Name x ∷ Sign open_bracket ∷ Name op ∷ Sign close_bracket ∷ r
onto-AtOp x op r = ap (λ ts. ts ++ r) (toks-AtOp x op)

pub onto-Load : (n : ℕ) (a : SslExpr) (r : List Token) → expr_toks (E.Load n a) ++ r ≡ Name (load_word n) ∷ Sign open_bracket ∷ (expr_toks a ++ Sign close_bracket ∷ r)
onto-Load n a r = ap (λ ts. ts ++ r) (toks-Load n a) ∙ ap (λ ts. Name (load_word n) ∷ Sign open_bracket ∷ ts) (append_assoc (expr_toks a) (Sign close_bracket ∷ []) r)

pub onto-Not : (a : SslExpr) (r : List Token) → expr_toks (E.Not a) ++ r ≡ Sign tilde ∷ (expr_toks a ++ r)
onto-Not a r = ap (λ ts. ts ++ r) (toks-Not a)

pub onto-Neg : (a : SslExpr) (r : List Token) → expr_toks (E.Neg a) ++ r ≡ Sign minus ∷ (expr_toks a ++ r)
onto-Neg a r = ap (λ ts. ts ++ r) (toks-Neg a)

pub onto-Bin : (op : ℕ) (a b : SslExpr) (r : List Token) → expr_toks (E.Bin op a b) ++ r ≡ Sign open_paren ∷ (expr_toks a ++ Sign op ∷ (expr_toks b ++ Sign close_paren ∷ r))
onto-Bin op a b r = ap (λ ts. ts ++ r) (toks-Bin op a b) ∙ simp append_assoc

pub onto-Bits : (a : SslExpr) (lo hi : ℕ) (r : List Token) → expr_toks (E.Bits a lo hi) ++ r ≡ Name (word_bytes word.Bits) ∷ Sign open_paren ∷ (expr_toks a ++ Sign comma ∷ Number lo ∷ Sign comma ∷ Number hi ∷ Sign close_paren ∷ r)
onto-Bits a lo hi r = ap (λ ts. ts ++ r) (toks-Bits a lo hi) ∙ simp append_assoc

pub onto-Zext : (w : ℕ) (a : SslExpr) (r : List Token) → expr_toks (E.Zext w a) ++ r ≡ Name (word_bytes word.Zext) ∷ Sign open_paren ∷ Number w ∷ Sign comma ∷ (expr_toks a ++ Sign close_paren ∷ r)
onto-Zext w a r = ap (λ ts. ts ++ r) (toks-Zext w a) ∙ simp append_assoc

pub onto-Sext : (w : ℕ) (a : SslExpr) (r : List Token) → expr_toks (E.Sext w a) ++ r ≡ Name (word_bytes word.Sext) ∷ Sign open_paren ∷ Number w ∷ Sign comma ∷ (expr_toks a ++ Sign close_paren ∷ r)
onto-Sext w a r = ap (λ ts. ts ++ r) (toks-Sext w a) ∙ simp append_assoc

pub onto-If : (c a b : SslExpr) (r : List Token) → expr_toks (E.If c a b) ++ r ≡ Name (word_bytes word.If) ∷ Sign open_paren ∷ (expr_toks c ++ Sign comma ∷ (expr_toks a ++ Sign comma ∷ (expr_toks b ++ Sign close_paren ∷ r)))
onto-If c a b r = ap (λ ts. ts ++ r) (toks-If c a b) ∙ simp append_assoc

pub onto-Call : (x : List ℕ) (es : List SslExpr) (r : List Token) → expr_toks (E.Call x es) ++ r ≡ Name x ∷ Sign open_paren ∷ (listed comma expr_toks es ++ Sign close_paren ∷ r)
onto-Call x es r = ap (λ ts. ts ++ r) (toks-Call x es) ∙ ap (λ ts. Name x ∷ Sign open_paren ∷ ts) (append_assoc (listed comma expr_toks es) (Sign close_paren ∷ []) r)

pub onto-Pc : (r : List Token) → expr_toks E.Pc ++ r ≡ Sign pc_sign ∷ r
onto-Pc r = ap (λ ts. ts ++ r) toks-Pc

pub onto-Next : (r : List Token) → expr_toks E.Next ++ r ≡ Sign next_sign ∷ r
onto-Next r = ap (λ ts. ts ++ r) toks-Next

-- which are formed well
pub formed-Number : (v w : ℕ) → is_formed (E.Number v w) ≡ true
unfolding is_formed
formed-Number v w = ap is_formed (sym (E.rolls-Number v w)) ∙ fold-roll-SslExpr Bool node_formed (SslExpr-F.Number v w)

pub formed-Named : (x : List ℕ) → is_formed (E.Named x) ≡ is_free x
unfolding is_formed
formed-Named x = ap is_formed (sym (E.rolls-Named x)) ∙ fold-roll-SslExpr Bool node_formed (SslExpr-F.Named x)

pub formed-At : (x : List ℕ) (i : ℕ) → is_formed (E.At x i) ≡ is_free x
unfolding is_formed
formed-At x i = ap is_formed (sym (E.rolls-At x i)) ∙ fold-roll-SslExpr Bool node_formed (SslExpr-F.At x i)

pub formed-AtOp : (x op : List ℕ) → is_formed (E.AtOp x op) ≡ (is_free x && is_free op)
unfolding is_formed
formed-AtOp x op = ap is_formed (sym (E.rolls-AtOp x op)) ∙ fold-roll-SslExpr Bool node_formed (SslExpr-F.AtOp x op)

pub formed-Load : (n : ℕ) (a : SslExpr) → is_formed (E.Load n a) ≡ (is_load n && is_formed a)
unfolding is_formed
formed-Load n a = ap is_formed (sym (E.rolls-Load n a)) ∙ fold-roll-SslExpr Bool node_formed (SslExpr-F.Load n a)

pub formed-Not : (a : SslExpr) → is_formed (E.Not a) ≡ is_formed a
unfolding is_formed
formed-Not a = ap is_formed (sym (E.rolls-Not a)) ∙ fold-roll-SslExpr Bool node_formed (SslExpr-F.Not a)

pub formed-Neg : (a : SslExpr) → is_formed (E.Neg a) ≡ is_formed a
unfolding is_formed
formed-Neg a = ap is_formed (sym (E.rolls-Neg a)) ∙ fold-roll-SslExpr Bool node_formed (SslExpr-F.Neg a)

pub formed-Bin : (op : ℕ) (a b : SslExpr) → is_formed (E.Bin op a b) ≡ (is_binary op && (is_formed a && is_formed b))
unfolding is_formed
formed-Bin op a b = ap is_formed (sym (E.rolls-Bin op a b)) ∙ fold-roll-SslExpr Bool node_formed (SslExpr-F.Bin op a b)

pub formed-Bits : (a : SslExpr) (lo hi : ℕ) → is_formed (E.Bits a lo hi) ≡ is_formed a
unfolding is_formed
formed-Bits a lo hi = ap is_formed (sym (E.rolls-Bits a lo hi)) ∙ fold-roll-SslExpr Bool node_formed (SslExpr-F.Bits a lo hi)

pub formed-Zext : (w : ℕ) (a : SslExpr) → is_formed (E.Zext w a) ≡ is_formed a
unfolding is_formed
formed-Zext w a = ap is_formed (sym (E.rolls-Zext w a)) ∙ fold-roll-SslExpr Bool node_formed (SslExpr-F.Zext w a)

pub formed-Sext : (w : ℕ) (a : SslExpr) → is_formed (E.Sext w a) ≡ is_formed a
unfolding is_formed
formed-Sext w a = ap is_formed (sym (E.rolls-Sext w a)) ∙ fold-roll-SslExpr Bool node_formed (SslExpr-F.Sext w a)

pub formed-If : (c a b : SslExpr) → is_formed (E.If c a b) ≡ (is_formed c && (is_formed a && is_formed b))
unfolding is_formed
formed-If c a b = ap is_formed (sym (E.rolls-If c a b)) ∙ fold-roll-SslExpr Bool node_formed (SslExpr-F.If c a b)

pub formed-Call : (x : List ℕ) (es : List SslExpr) → is_formed (E.Call x es) ≡ (is_free x && list_all (λ b. b) (map is_formed es))
unfolding is_formed
formed-Call x es = ap is_formed (sym (E.rolls-Call x es)) ∙ fold-roll-SslExpr Bool node_formed (SslExpr-F.Call x es)

pub formed-Pc : is_formed E.Pc ≡ true
unfolding is_formed
formed-Pc = ap is_formed (sym E.rolls-Pc) ∙ fold-roll-SslExpr Bool node_formed SslExpr-F.Pc

pub formed-Next : is_formed E.Next ≡ true
unfolding is_formed
formed-Next = ap is_formed (sym E.rolls-Next) ∙ fold-roll-SslExpr Bool node_formed SslExpr-F.Next

-- how deep they are
pub depth-Number : (v w : ℕ) → depth (E.Number v w) ≡ 0
unfolding depth
depth-Number v w = ap depth (sym (E.rolls-Number v w)) ∙ fold-roll-SslExpr ℕ node_depth (SslExpr-F.Number v w)

pub depth-Named : (x : List ℕ) → depth (E.Named x) ≡ 0
unfolding depth
depth-Named x = ap depth (sym (E.rolls-Named x)) ∙ fold-roll-SslExpr ℕ node_depth (SslExpr-F.Named x)

pub depth-At : (x : List ℕ) (i : ℕ) → depth (E.At x i) ≡ 0
unfolding depth
depth-At x i = ap depth (sym (E.rolls-At x i)) ∙ fold-roll-SslExpr ℕ node_depth (SslExpr-F.At x i)

pub depth-AtOp : (x op : List ℕ) → depth (E.AtOp x op) ≡ 0
unfolding depth
depth-AtOp x op = ap depth (sym (E.rolls-AtOp x op)) ∙ fold-roll-SslExpr ℕ node_depth (SslExpr-F.AtOp x op)

pub depth-Load : (n : ℕ) (a : SslExpr) → depth (E.Load n a) ≡ depth a + 1
unfolding depth
depth-Load n a = ap depth (sym (E.rolls-Load n a)) ∙ fold-roll-SslExpr ℕ node_depth (SslExpr-F.Load n a)

pub depth-Not : (a : SslExpr) → depth (E.Not a) ≡ depth a + 1
unfolding depth
depth-Not a = ap depth (sym (E.rolls-Not a)) ∙ fold-roll-SslExpr ℕ node_depth (SslExpr-F.Not a)

pub depth-Neg : (a : SslExpr) → depth (E.Neg a) ≡ depth a + 1
unfolding depth
depth-Neg a = ap depth (sym (E.rolls-Neg a)) ∙ fold-roll-SslExpr ℕ node_depth (SslExpr-F.Neg a)

pub depth-Bin : (op : ℕ) (a b : SslExpr) → depth (E.Bin op a b) ≡ max (depth a) (depth b) + 1
unfolding depth
depth-Bin op a b = ap depth (sym (E.rolls-Bin op a b)) ∙ fold-roll-SslExpr ℕ node_depth (SslExpr-F.Bin op a b)

pub depth-Bits : (a : SslExpr) (lo hi : ℕ) → depth (E.Bits a lo hi) ≡ depth a + 1
unfolding depth
depth-Bits a lo hi = ap depth (sym (E.rolls-Bits a lo hi)) ∙ fold-roll-SslExpr ℕ node_depth (SslExpr-F.Bits a lo hi)

pub depth-Zext : (w : ℕ) (a : SslExpr) → depth (E.Zext w a) ≡ depth a + 1
unfolding depth
depth-Zext w a = ap depth (sym (E.rolls-Zext w a)) ∙ fold-roll-SslExpr ℕ node_depth (SslExpr-F.Zext w a)

pub depth-Sext : (w : ℕ) (a : SslExpr) → depth (E.Sext w a) ≡ depth a + 1
unfolding depth
depth-Sext w a = ap depth (sym (E.rolls-Sext w a)) ∙ fold-roll-SslExpr ℕ node_depth (SslExpr-F.Sext w a)

pub depth-If : (c a b : SslExpr) → depth (E.If c a b) ≡ max (depth c) (max (depth a) (depth b)) + 1
unfolding depth
depth-If c a b = ap depth (sym (E.rolls-If c a b)) ∙ fold-roll-SslExpr ℕ node_depth (SslExpr-F.If c a b)

pub depth-Call : (x : List ℕ) (es : List SslExpr) → depth (E.Call x es) ≡ above (map depth es)
unfolding depth
depth-Call x es = ap depth (sym (E.rolls-Call x es)) ∙ fold-roll-SslExpr ℕ node_depth (SslExpr-F.Call x es)

pub depth-Pc : depth E.Pc ≡ 0
unfolding depth
depth-Pc = ap depth (sym E.rolls-Pc) ∙ fold-roll-SslExpr ℕ node_depth SslExpr-F.Pc

pub depth-Next : depth E.Next ≡ 0
unfolding depth
depth-Next = ap depth (sym E.rolls-Next) ∙ fold-roll-SslExpr ℕ node_depth SslExpr-F.Next
