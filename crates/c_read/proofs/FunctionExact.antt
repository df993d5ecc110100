-- Functions: what is read is spelled so, and what is spelled is read.
use Rattle.std.proofs.Common.{◌≡◌, ℕ, ◌+◌, ◌<◌, ◌≤◌, ◌^◌, true, false, zero, suc, List, [], ◌∷◌, ◌++◌, map, Option, Some, None, refl, sym, ap, ◌∙◌, subst, arith, append_assoc, ◌⊎◌, inl, inr}
use Rattle.std.specs.Prelude.{flat_map, not, option_map, ◌==◌}
use Rattle.std.proofs.lemmas.Bool.{cases_Bool, eqb-true, eq-eqb}
use Rattle.c_lang.specs.declared.tree.CBlock.{CBlock}
use Rattle.c_lang.specs.declared.tree.Function.{Function}
use Rattle.c_lang.specs.declared.tree.Var.{Var}
use Rattle.c_lang.specs.declared.tree.Var.TheVariants.{Ra, Cell, Temp}
use Rattle.c_lang.specs.Items.{Prototype, prototype_of}
use Rattle.c_lang.specs.Spellable.{var_misfits}
use Rattle.c_lang.proofs.SpellingLaws.{fits, has_bits}
use Rattle.c_text.specs.Tokens.{Token, mark, name, word}
use Rattle.c_text.specs.Words.{function_word}
use Rattle.c_text.specs.Expressions.{commas}
use Rattle.c_text.specs.Functions.{body_toks, local_toks, temps_toks, typed_toks}
use Rattle.c_scan.specs.Readings.{takes, followed, at, Syntax, outcome_of}
use Rattle.c_read.specs.Combined.{Each, before, many_until}
use Rattle.c_read.specs.Blocks.{IsBlock, block_syntax}
use Rattle.c_read.specs.Functions.{IsFunction, IsPrototype, body, cell, declared, head, local, locals, made_function, made_head, param, read_body, read_head, temps_from}
use Rattle.c_read.proofs.SyntaxLaws.{FrontIs, Mirrors, Builds, no_read, in_sequence, front_same, sign_asked, word_asked, both_mirrored, before_mirrored, behind_mirrored, made_fronts, made_read}
use Rattle.c_read.proofs.Loops.{Consumes, consumes_from, while_mark_mirrored, while_then_mirrored}
use Rattle.c_read.proofs.Words.{named_mirrored, cell_meaning, no_such_word, var_meaning}
use Rattle.c_read.proofs.NamedPlaces.{function_meaning}
use Rattle.c_read.proofs.BlocksExact.{block_mirrored}

abbrev IsCell : ℕ → Type 0
IsCell i = i < 256

next_mirrored : Mirrors (before (mark ",") param) IsCell
next_mirrored = before_mirrored (mark ",") param IsCell (sign_asked _) (before_mirrored (word "u64") cell IsCell (word_asked _) (named_mirrored _ _ _ cell_meaning))

pub param_consumes : Consumes (before (mark ",") param).read
param_consumes = consumes_from (before (mark ",") param) IsCell next_mirrored.only_these (λ e p. omega arith)

-- ---- heads

-- what follows `void`
abbrev pub head_behind : Prototype → List Token
head_behind p = name (function_word p.entry) ∷ mark "(" ∷ (typed_toks Ra ++ (commas (λ i. typed_toks (Cell i)) p.params ++ mark ")" ∷ []))

abbrev pub head_syntax : Syntax Prototype
head_syntax = record { spell = head_behind; read = read_head }

params_mirrored : Mirrors head (λ x. (x.0 < 2 ^ 32) × Each IsCell x.1)
params_mirrored =
    both_mirrored _ _ _ (Each IsCell) (named_mirrored _ _ _ function_meaning) (before_mirrored _ _ _ (sign_asked _) (before_mirrored _ _ _ (word_asked _) (before_mirrored _ _ _ (word_asked _)
    (while_mark_mirrored (at (mark ",")) (before (mark ",") param) (mark ")") IsCell (sign_asked _) next_mirrored (record { filled = λ x p. omega arith; begins = λ x remain p. refl; ends = λ y remain q. refl })))))

head_makes : (x : ℕ × List ℕ) → Builds (λ given. given) made_head head.spell head_behind (λ x. (x.0 < 2 ^ 32) × Each IsCell x.1) IsPrototype x
head_makes x = record { same = λ remain. refl; proper = λ q. record { entry = q.0; params = q.1 } }

pub head_mirrored : Mirrors head_syntax IsPrototype
unfolding read_head
head_mirrored = record {
  only_these = record { seen_front = made_fronts made_head head _ head_behind IsPrototype (λ given. given) params_mirrored head_makes };
  all_these = λ p q. record { read_back = λ remain. made_read made_head head _ head_behind IsPrototype params_mirrored (p.entry, p.params) (head_behind p ++ remain) remain (q.entry, q.params) refl };
}

-- ---- declarations

abbrev IsVar : Var → Type 0
IsVar v = var_misfits v ≡ 0

local_mirrored : Mirrors local IsVar
local_mirrored = before_mirrored _ _ _ (word_asked _) (behind_mirrored _ _ _ (sign_asked _) (named_mirrored _ _ _ var_meaning))

pub local_consumes : Consumes local.read
local_consumes = consumes_from local IsVar local_mirrored.only_these (λ e p. omega arith)

blocks_mirrored : Mirrors (many_until (mark "}") block_syntax) (Each IsBlock)
blocks_mirrored = while_mark_mirrored (λ given. not (at (mark "}") given)) block_syntax (mark "}") IsBlock (sign_asked _) block_mirrored (record { filled = λ b p. omega arith; begins = λ b remain p. refl; ends = λ y remain q. refl })

blocks_begin : (bs : List CBlock) (remain : List Token) → at (word "u64") ((many_until (mark "}") block_syntax).spell bs ++ remain) ≡ false
blocks_begin [] remain = refl
blocks_begin (b ∷ bs) remain = refl

locals_mirrored : Mirrors locals (λ x. Each IsVar x.0 × Each IsBlock x.1)
locals_mirrored =
    while_then_mirrored (at (word "u64")) local (many_until (mark "}") block_syntax) IsVar (Each IsBlock) local_mirrored blocks_mirrored
    (record { filled = λ v p. omega arith; begins = λ v remain p. refl; ends = λ bs remain q. blocks_begin bs remain })

body_mirrored : Mirrors body (λ x. Each IsVar x.0 × Each IsBlock x.1)
body_mirrored = before_mirrored _ _ _ (sign_asked _) (before_mirrored _ _ _ (word_asked _) (before_mirrored _ _ _ (word_asked _) (before_mirrored _ _ _ (sign_asked _) locals_mirrored)))

-- the variables that a function declares
abbrev temps : ℕ → ℕ → List Var
temps k zero = []
temps k (suc n) = Temp k ∷ temps (k + 1) n

abbrev vars : List ℕ → ℕ → List Var
vars cells n = map Cell cells ++ temps 0 n

temps_back : (k n : ℕ) → temps_from k (temps k n) ≡ Some (k + n)
temps_back k zero = let e : k ≡ k + 0 = omega arith in ap Some e
temps_back k (suc n) = let e : k + 1 + n ≡ k + suc n = omega arith in rw (eq-eqb k k refl) (temps_back (k + 1) n ∙ ap Some e)

abbrev no_cells : ℕ → Option (List ℕ × ℕ)
no_cells n = Some ([], n)

declared_temps : (n : ℕ) → declared (temps 0 n) ≡ Some ([], n)
declared_temps zero = refl
declared_temps (suc n) = let same : 0 + suc n ≡ suc n = omega arith in ap (option_map (λ n. ([], n))) (temps_back 0 (suc n)) ∙ ap no_cells same

declared_back : (cells : List ℕ) (n : ℕ) → declared (vars cells n) ≡ Some (cells, n)
declared_back [] n = declared_temps n
declared_back (i ∷ cells) n = rw (declared_back cells n) refl

-- the variables are those that are declared
record AreTemps (k : ℕ) (vs : List Var) (n : ℕ) : Type 0 where
  more : ℕ
  count : n ≡ k + more
  same : vs ≡ temps k more

temps_stand : (k : ℕ) (vs : List Var) (n : ℕ) → temps_from k vs ≡ Some n → AreTemps k vs n
temps_stand k [] n e = let same : k ≡ n = cc in record { more = 0; count = omega (arith, same); same = refl }
temps_stand k (Temp j ∷ vs) n e = by (cases_Bool (j == k)) (temps_stand (k + 1) vs n)
  where
    by : ((j == k) ≡ true) ⊎ ((j == k) ≡ false) → (temps_from (k + 1) vs ≡ Some n → AreTemps (k + 1) vs n) → AreTemps k (Temp j ∷ vs) n
    by (inl b) rec =
        let t = rec (rw b at e) in
        record { more = suc t.more; count = omega (arith, t.count); same = (λ i. Temp (eqb-true j k b i) ∷ t.same i) }
    by (inr b) rec = no_such_word n (rw b at e)
temps_stand k (v ∷ vs) n e = no_such_word n e

from_temps : (vs : List Var) (d : List ℕ × ℕ) → option_map (λ n. ([], n)) (temps_from 0 vs) ≡ Some d → vs ≡ vars d.0 d.1
from_temps vs d e = by (temps_from 0 vs) refl e
  where
    by : (o : Option ℕ) → temps_from 0 vs ≡ o → option_map (λ n. ([], n)) o ≡ Some d → vs ≡ vars d.0 d.1
    by None f e = no_such_word d e
    by (Some n) f e =
        let t = temps_stand 0 vs n f in
        let same : n ≡ t.more = omega (arith, t.count) in
        let it : ([], n) ≡ d = cc in
        t.same ∙ ap (temps 0) (sym same) ∙ ap (λ c. vars c.0 c.1) it

declared_stand : (vs : List Var) (d : List ℕ × ℕ) → declared vs ≡ Some d → vs ≡ vars d.0 d.1
declared_stand [] d e = let it : ([], 0) ≡ d = cc in ap (λ c. vars c.0 c.1) it
declared_stand (Cell i ∷ vs) d e = by (declared vs) refl e (declared_stand vs)
  where
    by : (o : Option (List ℕ × ℕ)) → declared vs ≡ o → option_map (λ d. (i ∷ d.0, d.1)) o ≡ Some d → ((c : List ℕ × ℕ) → declared vs ≡ Some c → vs ≡ vars c.0 c.1) → Cell i ∷ vs ≡ vars d.0 d.1
    by None f e rec = no_such_word d e
    by (Some c) f e rec =
        let it : (i ∷ c.0, c.1) ≡ d = cc in
        ap (λ ws. Cell i ∷ ws) (rec c f) ∙ ap (λ c. vars c.0 c.1) it
declared_stand (v ∷ vs) d e = from_temps (v ∷ vs) d e

-- how they are spelled
cells_toks : (cells : List ℕ) (n : ℕ) → flat_map local.spell (vars cells n) ≡ flat_map (λ i. local_toks (Cell i)) cells ++ flat_map local.spell (temps 0 n)
cells_toks [] n = refl
cells_toks (i ∷ cells) n = ap (λ given. local_toks (Cell i) ++ given) (cells_toks cells n)

temps_spelled : (k n : ℕ) → flat_map local.spell (temps k n) ≡ temps_toks k n
temps_spelled k zero = refl
temps_spelled k (suc n) = ap (λ given. local_toks (Temp k) ++ given) (temps_spelled (k + 1) n)

body_spelled : (f : Function) → body.spell (vars f.cells f.temps, f.blocks) ≡ body_toks f
body_spelled f = rw (cells_toks f.cells f.temps, temps_spelled 0 f.temps) (simp append_assoc)

-- their numbers fit where the declared ones do
temps_fit : (k n : ℕ) → k + n ≤ 65536 → Each IsVar (temps k n)
temps_fit k zero l = tt
temps_fit k (suc n) l = (fits 16 k (omega (arith, l)), temps_fit (k + 1) n (omega (arith, l)))

vars_fit : (cells : List ℕ) (n : ℕ) → Each IsCell cells → n ≤ 65536 → Each IsVar (vars cells n)
vars_fit [] n c l = temps_fit 0 n (omega (arith, l))
vars_fit (i ∷ cells) n c l = (fits 8 i c.0, vars_fit cells n c.1 l)

fit_temps : (k n : ℕ) → k ≤ 65536 → Each IsVar (temps k n) → k + n ≤ 65536
fit_temps k zero l c = omega (arith, l)
fit_temps k (suc n) l c = omega (arith, fit_temps (k + 1) n (omega (arith, has_bits 16 k c.0)) c.1)

record AreFit (cells : List ℕ) (n : ℕ) : Type 0 where
  each : Each IsCell cells
  few : n ≤ 65536

fit_vars : (cells : List ℕ) (n : ℕ) → Each IsVar (vars cells n) → AreFit cells n
fit_vars [] n c = record { each = tt; few = omega (arith, fit_temps 0 n (omega arith) c) }
fit_vars (i ∷ cells) n c = let remain = fit_vars cells n c.1 in record { each = (has_bits 8 i c.0, remain.each); few = remain.few }

-- ---- functions

module _ (p : Prototype) (q : IsPrototype p) where
  body_fronts : (given : List Token) (f : Function) (remain : List Token) → read_body p given ≡ takes f remain → FrontIs {A = Function} (λ f. head_behind (prototype_of f) ++ body_toks f) IsFunction (head_behind p ++ given) f remain
  unfolding read_body
  body_fronts given f remain h =
      let one = in_sequence (body.read given) (λ x rest. outcome_of (option_map (made_function p x.1) (declared x.0)) rest) f remain h in
      let a = body_mirrored.only_these.seen_front given one.x one.mid one.first in
      by one.x.0 one.x.1 one.mid (declared one.x.0) refl one.second a.spelled a.proper.0 a.proper.1
    where
      by : (vs : List Var) (bs : List CBlock) (mid : List Token) (o : Option (List ℕ × ℕ)) → declared vs ≡ o → outcome_of (option_map (made_function p bs) o) mid ≡ takes f remain → given ≡ body.spell (vs, bs) ++ mid → Each IsVar vs → Each IsBlock bs
          → FrontIs {A = Function} (λ f. head_behind (prototype_of f) ++ body_toks f) IsFunction (head_behind p ++ given) f remain
      by vs bs mid None e h split each blocks = no_read f remain h
      by vs bs mid (Some d) e h split each blocks =
          let stand = declared_stand vs d e in
          let fit = fit_vars d.0 d.1 (subst (Each IsVar) stand each) in
          let g = made_function p bs d in
          let front : head_behind p ++ given ≡ (head_behind p ++ body_toks g) ++ mid =
          ap (λ given. head_behind p ++ given) (split ∙ ap (λ vs. body.spell (vs, bs) ++ mid) stand ∙ ap (λ given. given ++ mid) (body_spelled g)) ∙ sym (append_assoc (head_behind p) (body_toks g) mid) in
          front_same g f mid remain h (record { spelled = front; proper = record { head = q; cells = fit.each; temps = fit.few; blocks = blocks } })

pub body_read : (f : Function) (remain : List Token) → IsFunction f → read_body (prototype_of f) (body_toks f ++ remain) ≡ takes f remain
unfolding read_body
body_read f remain p =
    ap (λ given. read_body (prototype_of f) (given ++ remain)) (sym (body_spelled f))
    ∙ ap (λ o. followed o (λ x rest. outcome_of (option_map (made_function (prototype_of f) x.1) (declared x.0)) rest)) ((body_mirrored.all_these (vars f.cells f.temps, f.blocks) (vars_fit f.cells f.temps p.cells p.temps, p.blocks)).read_back remain)
    ∙ ap (λ o. outcome_of (option_map (made_function (prototype_of f) f.blocks) o) remain) (declared_back f.cells f.temps)

pub function_fronts : (p : Prototype) → IsPrototype p → (given : List Token) (f : Function) (remain : List Token) → read_body p given ≡ takes f remain → FrontIs {A = Function} (λ f. head_behind (prototype_of f) ++ body_toks f) IsFunction (head_behind p ++ given) f remain
function_fronts p q = body_fronts p q
