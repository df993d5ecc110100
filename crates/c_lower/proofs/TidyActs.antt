-- The statements of transfers are tidy, inside at most two `if`s.
use Rattle.std.proofs.Common.{◌≡◌, ℕ, zero, suc, ◌+◌, ◌-◌, ◌^◌, ◌<◌, ◌≤◌, ◌==◌, ◌||◌, Bool, true, false, if◌then◌else◌, Option, Some, None, List, [], ◌∷◌, ◌++◌, refl, arith, nat_lt}
use Rattle.std.specs.Prelude.{All}
use Rattle.std.proofs.lemmas.Bool.{ltb-true}
use Rattle.std.proofs.lemmas.List.Elements.{All-head, All-tail}
use Rattle.rtl_core.specs.declared.expr.Expr.{Expr}
use Rattle.rtl_core.specs.declared.machine.Machine.{Machine}
use Rattle.rtl_core.specs.declared.machine.WinShape.{WinShape}
use Rattle.rtl_core.specs.declared.transfer.Act.{Act}
use Rattle.rtl_core.specs.declared.transfer.Act.TheVariants.{SetCell, SetSlice, Store, Jump, Annul, Trap, Service, WinSave, WinRestore}
use Rattle.rtl_core.specs.declared.transfer.Transfer.{Transfer}
use Rattle.rtl_core.specs.SoundTerms.{AreWidths, IsSoundAct, IsSoundGuard, IsSoundTransfer}
use Rattle.rtl_core.specs.Terms.{term_of}
use Rattle.rtl_core.specs.Windows.{most_windows}
use Rattle.c_lang.specs.declared.tree.COp.TheVariants.{Add as Plus, Sub as Minus, Mul as Times, Shl as Up, Shr as Down, Eq as Same}
use Rattle.c_lang.specs.declared.tree.CExpr.{CExpr}
use Rattle.c_lang.specs.declared.tree.CExpr.TheVariants.{Num, Of, Bin as Op}
use Rattle.c_lang.specs.declared.tree.Stmt.{Stmt}
use Rattle.c_lang.specs.declared.tree.Stmt.TheVariants.{Set, Store as StoreAt, If, Stop as StopWith}
use Rattle.c_lang.specs.declared.tree.Var.TheVariants.{Cell as CellVar, Temp, Wn}
use Rattle.c_lower.specs.Accounts.{act_need, guard_need, lowered_need}
use Rattle.c_lower.specs.Cells.{set_c}
use Rattle.c_lower.specs.Code.{temp, code}
use Rattle.c_lower.specs.Formula.{bits_c, with_bits_c}
use Rattle.c_lower.specs.Lowered.{word_place, pushed, popped, moved, cleared, save_code, restore_code, act_code, transfer_code, transfers_code, lowered}
use Rattle.c_lower.specs.Naming.{is_nameable, WindowOnly, ActOnly, GuardOnly, TransfersOnly}
use Rattle.rtl_core.specs.SoundMachine.{HaveSoundWindows}
use Rattle.c_lower.specs.Tidy.{with_temp, Reads, number, a_cell, a_temp, count, two, three, most_nesting, Tidy, ends, sets_temp, sets_cell, sets_count, loads, stores, takes, puts, tests, stops}
use Rattle.c_lower.proofs.Tidy.{more_set, tidy, r_mask, k_in}
use Rattle.c_lower.proofs.Windows.{ArePlain, plain_group, plain_more}

-- ---- more temporaries, and statements behind others
pub reads_more : (named : ℕ → Bool) (temps : ℕ) {D F : ℕ → Bool} {n : ℕ} {e : CExpr}
    → ((i : ℕ) → D i ≡ true → F i ≡ true) → Reads named temps D n e → Reads named temps F n e
reads_more named temps more (number x lt) = number x lt
reads_more named temps more (a_cell c h) = a_cell c h
reads_more named temps more (a_temp k lt h) = a_temp k lt (more k h)
reads_more named temps more count = count
reads_more named temps more (two op a b h g) =
    two op a b (reads_more named temps more h) (reads_more named temps more g)
reads_more named temps more (three c a b h g k) =
    three c a b (reads_more named temps more h) (reads_more named temps more g) (reads_more named temps more k)

with_more : {D F : ℕ → Bool} (k : ℕ) → ((i : ℕ) → D i ≡ true → F i ≡ true) → (i : ℕ) → with_temp D k i ≡ true
    → with_temp F k i ≡ true
with_more {D = D} {F = F} k more i h = by (k == i) h
  where
    by : (t : Bool) → (if t then true else D i) ≡ true → (if t then true else F i) ≡ true
    by true h = refl
    by false h = more i h

-- statements are tidy where more is assigned before
pub tidy_more : (named : ℕ → Bool) (temps : ℕ) {n : ℕ} {D F E : ℕ → Bool} {xs : List Stmt}
    → ((i : ℕ) → D i ≡ true → F i ≡ true) → Tidy named temps n D xs E → Tidy named temps n F xs E
tidy_more named temps more (ends h) = ends (λ i e. more i (h i e))
tidy_more named temps more (sets_temp k e lt r go) =
    sets_temp k e lt (reads_more named temps more r) (tidy_more named temps (with_more k more) go)
tidy_more named temps more (sets_cell c e h r go) =
    sets_cell c e h (reads_more named temps more r) (tidy_more named temps more go)
tidy_more named temps more (sets_count e r go) =
    sets_count e (reads_more named temps more r) (tidy_more named temps more go)
tidy_more named temps more (loads k size e lt sized r go) =
    loads k size e lt sized (reads_more named temps more r) (tidy_more named temps (with_more k more) go)
tidy_more named temps more (stores size a e sized r q go) =
    stores size a e sized (reads_more named temps more r) (reads_more named temps more q)
    (tidy_more named temps more go)
tidy_more named temps more (takes c e h r go) =
    takes c e h (reads_more named temps more r) (tidy_more named temps more go)
tidy_more named temps more (puts i e r q go) =
    puts i e (reads_more named temps more r) (reads_more named temps more q) (tidy_more named temps more go)
tidy_more named temps more (tests e r body go) =
    tests e (reads_more named temps more r) (tidy_more named temps more body) (tidy_more named temps more go)
tidy_more named temps more (stops k e lt r go) =
    stops k e lt (reads_more named temps more r) (tidy_more named temps more go)

-- tidy statements behind tidy statements
pub tidy_then : (named : ℕ → Bool) (temps : ℕ) {n : ℕ} {D E G : ℕ → Bool} {xs ys : List Stmt}
    → Tidy named temps n D xs E → Tidy named temps n E ys G → Tidy named temps n D (xs ++ ys) G
tidy_then named temps (ends h) next = tidy_more named temps h next
tidy_then named temps (sets_temp k e lt r go) next = sets_temp k e lt r (tidy_then named temps go next)
tidy_then named temps (sets_cell c e h r go) next = sets_cell c e h r (tidy_then named temps go next)
tidy_then named temps (sets_count e r go) next = sets_count e r (tidy_then named temps go next)
tidy_then named temps (loads k size e lt sized r go) next = loads k size e lt sized r (tidy_then named temps go next)
tidy_then named temps (stores size a e sized r q go) next = stores size a e sized r q (tidy_then named temps go next)
tidy_then named temps (takes c e h r go) next = takes c e h r (tidy_then named temps go next)
tidy_then named temps (puts i e r q go) next = puts i e r q (tidy_then named temps go next)
tidy_then named temps (tests e r body go) next = tests e r body (tidy_then named temps go next)
tidy_then named temps (stops k e lt r go) next = stops k e lt r (tidy_then named temps go next)

four_set : (i : ℕ) → nat_lt i 4 ≡ true → with_temp (with_temp (with_temp (with_temp (λ j. false) 0) 1) 2) 3 i ≡ true
four_set zero h = refl
four_set (suc zero) h = refl
four_set (suc (suc zero)) h = refl
four_set (suc (suc (suc zero))) h = refl
four_set (suc (suc (suc (suc i)))) h = absurd (let lt = ltb-true (suc (suc (suc (suc i)))) 4 h in omega arith)

module _ (m : Machine) (ok : AreWidths m.widths) (pc : ℕ) (pc32 : pc < 2 ^ 32) (named : ℕ → Bool) (temps : ℕ)
    (windows : HaveSoundWindows m m.windows) where
  abbrev T : ℕ → (ℕ → Bool) → List Stmt → (ℕ → Bool) → Type 0
  T n D xs E = Tidy named temps n D xs E

  t_set : (zero_cell : Option ℕ) (n : ℕ) (D E : ℕ → Bool) (c : ℕ) (e : CExpr) (rest : List Stmt)
      → is_nameable zero_cell named c ≡ true → (named c ≡ true → Reads named temps D most_nesting e) → T n D rest E
      → T n D (set_c zero_cell c e rest) E
  t_set None n D E c e rest h r go = sets_cell c e h (r h) go
  t_set (Some z) n D E c e rest h r go = by (c == z) h
    where
      by : (t : Bool) → (t || named c) ≡ true → Tidy named temps n D (if t then rest else Set (CellVar c) e ∷ rest) E
      by true h = go
      by false h = sets_cell c e h (r h) go

  r_word : (D : ℕ → Bool) (i : ℕ) → i < 2 ^ 64 → Reads named temps D most_nesting (word_place i)
  r_word D i lt = two Plus (Op Times (Of Wn) (Num 16)) (Num i) (two Times (Of Wn) (Num 16) count (number 16 (omega arith))) (number i lt)

  t_pushed : (k i first n : ℕ) (D E : ℕ → Bool) (rest : List Stmt) → i + k ≤ 2 ^ 64 → ArePlain m named first k → T n D rest E
      → T n D (pushed i first k rest) E
  t_pushed zero i first n D E rest few p go = go
  t_pushed (suc k) i first n D E rest few p go =
      puts (word_place i) (Of (CellVar first)) (r_word D i (omega (arith, few))) (a_cell first (p.name first (omega arith) (omega arith)))
      (t_pushed k (i + 1) (first + 1) n D E rest (omega (arith, few)) (plain_more m named first k p) go)

  t_popped : (k i first n : ℕ) (D E : ℕ → Bool) (rest : List Stmt) → i + k ≤ 2 ^ 64 → ArePlain m named first k → T n D rest E
      → T n D (popped i first k rest) E
  t_popped zero i first n D E rest few p go = go
  t_popped (suc k) i first n D E rest few p go =
      takes first (word_place i) (p.name first (omega arith) (omega arith)) (r_word D i (omega (arith, few)))
      (t_popped k (i + 1) (first + 1) n D E rest (omega (arith, few)) (plain_more m named first k p) go)

  t_moved : (k from to n : ℕ) (D E : ℕ → Bool) (rest : List Stmt) → ArePlain m named from k → ArePlain m named to k
      → T n D rest E → T n D (moved from to k rest) E
  t_moved zero from to n D E rest p q go = go
  t_moved (suc k) from to n D E rest p q go =
      sets_cell to (Of (CellVar from)) (q.name to (omega arith) (omega arith))
      (a_cell from (p.name from (omega arith) (omega arith)))
      (t_moved k (from + 1) (to + 1) n D E rest (plain_more m named from k p) (plain_more m named to k q) go)

  t_cleared : (k first n : ℕ) (D E : ℕ → Bool) (rest : List Stmt) → ArePlain m named first k → T n D rest E
      → T n D (cleared first k rest) E
  t_cleared zero first n D E rest p go = go
  t_cleared (suc k) first n D E rest p go =
      sets_cell first (Num 0) (p.name first (omega arith) (omega arith)) (number 0 (omega arith))
      (t_cleared k (first + 1) n D E rest (plain_more m named first k p) go)

  t_save : (o : Option WinShape) (n : ℕ) (D E : ℕ → Bool) (rest : List Stmt) → HaveSoundWindows m o
      → WindowOnly (is_nameable m.zero named) o → T (suc n) D rest E → T (suc n) D (save_code o rest) E
  t_save None n D E rest h o go = go
  t_save (Some w) n D E rest h o go =
      let k = w.count in
      let sound = h w refl in let outs = plain_group m named w.out_first k sound.out o.0 in
      let locals = plain_group m named w.local_first k sound.local o.1 in
      let ins = plain_group m named w.in_first k sound.in_ o.2 in
      let r3 = cleared w.out_first k rest in let r2 = cleared w.local_first k r3 in
      let r1 = moved w.out_first w.in_first k r2 in
      let wn = Set Wn (Op Plus (Of Wn) (Num 1)) in
      tests {F = D} (Op Same (Of Wn) (Num most_windows))
      (two Same (Of Wn) (Num most_windows) count (number most_windows (omega arith)))
      (stops 6 (Num 0) (omega arith) (number 0 (omega arith)) (ends (λ i h. h)))
      (t_pushed k 0 w.local_first (suc n) D E (pushed k w.in_first k (wn ∷ r1)) (omega (arith, sound.few)) locals
      (t_pushed k k w.in_first (suc n) D E (wn ∷ r1) (omega (arith, sound.few)) ins
      (sets_count (Op Plus (Of Wn) (Num 1)) (two Plus (Of Wn) (Num 1) count (number 1 (omega arith)))
      (t_moved k w.out_first w.in_first (suc n) D E r2 outs ins
      (t_cleared k w.local_first (suc n) D E r3 locals (t_cleared k w.out_first (suc n) D E rest outs go))))))

  t_restore : (o : Option WinShape) (n : ℕ) (D E : ℕ → Bool) (rest : List Stmt) → HaveSoundWindows m o
      → WindowOnly (is_nameable m.zero named) o → T (suc n) D rest E → T (suc n) D (restore_code o rest) E
  t_restore None n D E rest h o go = go
  t_restore (Some w) n D E rest h o go =
      let k = w.count in
      let sound = h w refl in let outs = plain_group m named w.out_first k sound.out o.0 in
      let locals = plain_group m named w.local_first k sound.local o.1 in
      let ins = plain_group m named w.in_first k sound.in_ o.2 in
      let r2 = popped k w.in_first k rest in let r1 = popped 0 w.local_first k r2 in
      tests {F = D} (Op Same (Of Wn) (Num 0)) (two Same (Of Wn) (Num 0) count (number 0 (omega arith)))
      (stops 7 (Num 0) (omega arith) (number 0 (omega arith)) (ends (λ i h. h)))
      (sets_count (Op Minus (Of Wn) (Num 1)) (two Minus (Of Wn) (Num 1) count (number 1 (omega arith)))
      (t_moved k w.in_first w.out_first (suc n) D E r1 ins outs
      (t_popped k 0 w.local_first (suc n) D E r2 (omega (arith, sound.few)) locals (t_popped k k w.in_first (suc n) D E rest (omega (arith, sound.few)) ins go))))

  act_tidy : (act : Act) (n : ℕ) (D E : ℕ → Bool) (rest : List Stmt) → 4 ≤ temps → IsSoundAct m act
      → ActOnly m (is_nameable m.zero named) act → act_need act ≤ temps
      → ((F : ℕ → Bool) → ((i : ℕ) → D i ≡ true → F i ≡ true) → T (suc n) F rest E)
      → T (suc n) D (act_code m pc act rest) E
  act_tidy (SetCell c e) n D E rest four s o room go =
      tidy named temps m ok pc pc32 (term_of e) 4 n D E (set_c m.zero c (temp 4) rest) s.1.0 o.1 room
      (λ F more d. t_set m.zero (suc n) F E c (temp 4) rest o.0 (λ nc. a_temp 4 (k_in named temps (term_of e) 4 room) d)
      (go F more))
  act_tidy (SetSlice c lo hi e) n D E rest four s o room go =
      let x = Of (CellVar c) in
      let wide = (ok.each c s.0).1 in
      tidy named temps m ok pc pc32 (term_of e) 4 n D E (set_c m.zero c (with_bits_c lo hi x (temp 4)) rest) s.3.0 o.1 room
      (λ F more d. t_set m.zero (suc n) F E c (with_bits_c lo hi x (temp 4)) rest o.0
      (λ nc. two Plus (Op Minus x (Op Up (bits_c lo hi x) (Num lo))) (Op Up (temp 4) (Num lo))
      (two Minus x (Op Up (bits_c lo hi x) (Num lo)) (a_cell c nc)
      (two Up (bits_c lo hi x) (Num lo)
      (r_mask named temps F (hi + 1 - lo) (omega (arith, wide, s.2)) (Op Down x (Num lo)) (two Down x (Num lo) (a_cell c nc) (number lo (omega (arith, wide, s.1, s.2)))))
      (number lo (omega (arith, wide, s.1, s.2)))))
      (two Up (temp 4) (Num lo) (a_temp 4 (k_in named temps (term_of e) 4 room) d) (number lo (omega (arith, wide, s.1, s.2)))))
      (go F more))
  act_tidy (Store b a e) n D E rest four s o room go =
      let x = StoreAt b (temp 4) (temp 5) in
      tidy named temps m ok pc pc32 (term_of a) 4 n D E (code m pc (term_of e) 5 (x ∷ rest)) s.1.0 o.0 (omega arith)
      (λ F more d. tidy named temps m ok pc pc32 (term_of e) 5 n F E (x ∷ rest) s.2.0 o.1 (omega arith)
      (λ G more2 d2. stores b (temp 4) (temp 5) s.0
      (a_temp 4 (k_in named temps (term_of a) 4 (omega arith)) (more2 4 d))
      (a_temp 5 (k_in named temps (term_of e) 5 (omega arith)) d2) (go G (λ i h. more2 i (more i h)))))
  act_tidy (Jump e) n D E rest four s o room go =
      tidy named temps m ok pc pc32 (term_of e) 4 n D E (Set (Temp 0) (temp 4) ∷ Set (Temp 1) (Num 1) ∷ rest) s.0 o room
      (λ F more d. sets_temp 0 (temp 4) (omega arith) (a_temp 4 (k_in named temps (term_of e) 4 room) d)
      (sets_temp 1 (Num 1) (omega arith) (number 1 (omega arith))
      (go (with_temp (with_temp F 0) 1)
      (λ i h. more_set named temps (with_temp F 0) 1 i (more_set named temps F 0 i (more i h))))))
  act_tidy Annul n D E rest four s o room go =
      sets_temp 2 (Num 1) (omega arith) (number 1 (omega arith)) (go (with_temp D 2) (more_set named temps D 2))
  act_tidy (Trap e) n D E rest four s o room go =
      tidy named temps m ok pc pc32 (term_of e) 4 n D E (StopWith 5 (temp 4) ∷ rest) s.0 o room
      (λ F more d. stops 5 (temp 4) (omega arith) (a_temp 4 (k_in named temps (term_of e) 4 room) d) (go F more))
  act_tidy Service n D E rest four s o room go =
      sets_temp 3 (Num 1) (omega arith) (number 1 (omega arith)) (go (with_temp D 3) (more_set named temps D 3))
  act_tidy WinSave n D E rest four s o room go = t_save m.windows n D E rest windows o (go D (λ i h. h))
  act_tidy WinRestore n D E rest four s o room go = t_restore m.windows n D E rest windows o (go D (λ i h. h))

  transfer_tidy : (guard : Option Expr) (act : Act) (n : ℕ) (D E : ℕ → Bool) (rest : List Stmt) → 4 ≤ temps
      → IsSoundGuard m.widths guard → IsSoundAct m act → GuardOnly (is_nameable m.zero named) guard
      → ActOnly m (is_nameable m.zero named) act
      → guard_need guard ≤ temps → act_need act ≤ temps
      → ((F : ℕ → Bool) → ((i : ℕ) → D i ≡ true → F i ≡ true) → T (suc (suc n)) F rest E)
      → T (suc (suc n)) D (transfer_code m pc guard act rest) E
  transfer_tidy None act n D E rest four sg s og o rg room go = act_tidy act (suc n) D E rest four s o room go
  transfer_tidy (Some guard) act n D E rest four sg s og o rg room go =
      tidy named temps m ok pc pc32 (term_of guard) 4 (suc n) D E (If (temp 4) (act_code m pc act []) ∷ rest) sg.0 og rg
      (λ F more d. tests {F = λ i. false} (temp 4) (a_temp 4 (k_in named temps (term_of guard) 4 rg) d)
      (act_tidy act n F (λ i. false) [] four s o room (λ G more2. ends (λ i h. cc))) (go F more))

  transfers_tidy : (ts : List Transfer) (n : ℕ) (D E : ℕ → Bool) (rest : List Stmt) → 4 ≤ temps
      → All (IsSoundTransfer m) ts → TransfersOnly m (is_nameable m.zero named) ts → lowered_need ts ≤ temps
      → ((F : ℕ → Bool) → ((i : ℕ) → D i ≡ true → F i ≡ true) → T (suc (suc n)) F rest E)
      → T (suc (suc n)) D (transfers_code m pc ts rest) E
  transfers_tidy [] n D E rest four s o room go = go D (λ i h. h)
  transfers_tidy (t ∷ ts) n D E rest four s o room go =
      let first = All-head (IsSoundTransfer m) t ts s in
      transfer_tidy t.guard t.act n D E (transfers_code m pc ts rest) four first.guard first.act o.0 o.1 (omega arith)
      (omega arith)
      (λ F more. transfers_tidy ts n F E rest four (All-tail (IsSoundTransfer m) t ts s) o.2 (omega arith)
      (λ G more2. go G (λ i h. more2 i (more i h))))

  pub lowered_tidy : (ts : List Transfer) → 4 ≤ temps → All (IsSoundTransfer m) ts
      → TransfersOnly m (is_nameable m.zero named) ts → lowered_need ts ≤ temps
      → Tidy named temps 2 (λ i. false) (lowered m pc ts []) (λ i. nat_lt i 4)
  lowered_tidy ts four s o room =
      let none = λ (i : ℕ). false in
      sets_temp 0 (Num 0) (omega arith) (number 0 (omega arith))
      (sets_temp 1 (Num 0) (omega arith) (number 0 (omega arith))
      (sets_temp 2 (Num 0) (omega arith) (number 0 (omega arith)) (sets_temp 3 (Num 0) (omega arith) (number 0 (omega arith))
      (transfers_tidy ts 0 (with_temp (with_temp (with_temp (with_temp none 0) 1) 2) 3)
      (λ i. nat_lt i 4) [] four s o room (λ F more. ends (λ i h. more i (four_set i h)))))))
