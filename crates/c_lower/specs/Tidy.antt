-- What statements read and assign, whichever way each `if` goes.
use Rattle.std.specs.Prelude.{◌≡◌, ℕ, suc, ◌<◌, ◌^◌, ◌==◌, Bool, true, if◌then◌else◌, List, [], ◌∷◌}
use Rattle.rtl_core.specs.Access.{is_size}
use Rattle.c_lang.specs.declared.tree.COp.{COp}
use Rattle.c_lang.specs.declared.tree.Var.TheVariants.{Cell, Temp, Wn}
use Rattle.c_lang.specs.declared.tree.CExpr.{CExpr}
use Rattle.c_lang.specs.declared.tree.CExpr.TheVariants.{Num, Of, Bin, Choose}
use Rattle.c_lang.specs.declared.tree.Stmt.{Stmt}
use Rattle.c_lang.specs.declared.tree.Stmt.TheVariants.{Set, Load, Store, TakeW, PutW, If, Stop}

-- the temporaries that are assigned, with one more
abbrev pub with_temp : (ℕ → Bool) → ℕ → ℕ → Bool
with_temp assigned k i = if k == i then true else assigned i

-- an expression whose parts stand inside at most n others: it reads numbers of 64 bits, named cells, assigned
-- temporaries and `uq_wn`
pub data Reads (named : ℕ → Bool) (temps : ℕ) (assigned : ℕ → Bool) : ℕ → CExpr → Type 0 where
  number : {n : ℕ} (x : ℕ) → x < 2 ^ 64 → Reads named temps assigned n (Num x)
  a_cell : {n : ℕ} (c : ℕ) → named c ≡ true → Reads named temps assigned n (Of (Cell c))
  a_temp : {n : ℕ} (k : ℕ) → k < temps → assigned k ≡ true → Reads named temps assigned n (Of (Temp k))
  count : {n : ℕ} → Reads named temps assigned n (Of Wn)
  two : {n : ℕ} (op : COp) (a b : CExpr) → Reads named temps assigned n a → Reads named temps assigned n b
      → Reads named temps assigned (suc n) (Bin op a b)
  three : {n : ℕ} (c a b : CExpr) → Reads named temps assigned n c → Reads named temps assigned n a
      → Reads named temps assigned n b → Reads named temps assigned (suc n) (Choose c a b)

-- how many others a part of an expression stands inside, at most
abbrev pub most_nesting : ℕ
most_nesting = 7

-- statements inside at most n `if`s, begun with some temporaries assigned and ended with others: they assign
-- named cells, temporaries, `uq_wn` and words of `uq_w`
pub data Tidy (named : ℕ → Bool) (temps : ℕ) : ℕ → (ℕ → Bool) → List Stmt → (ℕ → Bool) → Type 0 where
  ends : {n : ℕ} {D E : ℕ → Bool} → ((i : ℕ) → E i ≡ true → D i ≡ true) → Tidy named temps n D [] E
  sets_temp : {n : ℕ} {D E : ℕ → Bool} (k : ℕ) (e : CExpr) {rest : List Stmt} → k < temps
      → Reads named temps D most_nesting e → Tidy named temps n (with_temp D k) rest E
      → Tidy named temps n D (Set (Temp k) e ∷ rest) E
  sets_cell : {n : ℕ} {D E : ℕ → Bool} (c : ℕ) (e : CExpr) {rest : List Stmt} → named c ≡ true
      → Reads named temps D most_nesting e → Tidy named temps n D rest E
      → Tidy named temps n D (Set (Cell c) e ∷ rest) E
  sets_count : {n : ℕ} {D E : ℕ → Bool} (e : CExpr) {rest : List Stmt} → Reads named temps D most_nesting e
      → Tidy named temps n D rest E → Tidy named temps n D (Set Wn e ∷ rest) E
  loads : {n : ℕ} {D E : ℕ → Bool} (k size : ℕ) (e : CExpr) {rest : List Stmt} → k < temps → is_size size ≡ true
      → Reads named temps D most_nesting e → Tidy named temps n (with_temp D k) rest E
      → Tidy named temps n D (Load (Temp k) size e ∷ rest) E
  stores : {n : ℕ} {D E : ℕ → Bool} (size : ℕ) (a e : CExpr) {rest : List Stmt} → is_size size ≡ true
      → Reads named temps D most_nesting a → Reads named temps D most_nesting e → Tidy named temps n D rest E
      → Tidy named temps n D (Store size a e ∷ rest) E
  takes : {n : ℕ} {D E : ℕ → Bool} (c : ℕ) (e : CExpr) {rest : List Stmt} → named c ≡ true
      → Reads named temps D most_nesting e → Tidy named temps n D rest E
      → Tidy named temps n D (TakeW (Cell c) e ∷ rest) E
  puts : {n : ℕ} {D E : ℕ → Bool} (i e : CExpr) {rest : List Stmt} → Reads named temps D most_nesting i
      → Reads named temps D most_nesting e → Tidy named temps n D rest E → Tidy named temps n D (PutW i e ∷ rest) E
  tests : {n : ℕ} {D E F : ℕ → Bool} (e : CExpr) {body rest : List Stmt} → Reads named temps D most_nesting e
      → Tidy named temps n D body F → Tidy named temps (suc n) D rest E
      → Tidy named temps (suc n) D (If e body ∷ rest) E
  stops : {n : ℕ} {D E : ℕ → Bool} (k : ℕ) (e : CExpr) {rest : List Stmt} → k < 12 → Reads named temps D most_nesting e
      → Tidy named temps n D rest E → Tidy named temps n D (Stop k e ∷ rest) E
