-- Where the number in a cell decides nothing on the way, a jump there is taken for each number or for none.
use Rattle.std.proofs.Common.{◌≡◌, ◌≢◌, ℕ, zero, suc, ◌<◌, ◌^◌, ◌==◌, ◌||◌, Bool, true, false, true≢false, List, [], ◌∷◌, length, get_or, set, replicate, Option, None, Some, refl, sym, ◌∙◌, ap, subst, arith, inl, inr, lt-ltb}
use Rattle.std.specs.Prelude.{◌⊎◌, if◌then◌else◌, slice_index, nat_lt}
use Rattle.std.specs.List.{All}
use Rattle.std.proofs.lemmas.Bool.{cases_eq, ltb-true}
use Rattle.std.proofs.lemmas.Nat.{pow_pos}
use Rattle.std.proofs.lemmas.List.{get_or-set_same, get_or-set_other, length-set, length-replicate}
use Rattle.std.proofs.lemmas.List.Elements.{All-head, All-tail}
use Rattle.rtl_core.specs.declared.expr.Expr.{Expr}
use Rattle.rtl_core.specs.declared.inst.GroundInst.{GroundInst}
use Rattle.rtl_core.specs.declared.transfer.Act.{Act}
use Rattle.rtl_core.specs.declared.transfer.Act.TheVariants.{SetCell, SetSlice, Store, Jump, Annul, Trap, Service, WinSave, WinRestore}
use Rattle.rtl_core.specs.declared.transfer.Transfer.{Transfer}
use Rattle.rtl_core.specs.SoundTerms.{IsSoundAct, IsSoundTransfer}
use Rattle.rtl_core.specs.Terms.{Term, Const, Cell, Load, Unary, Binary, Slice, Zext, Sext, Choice, term_of}
use Rattle.rtl_core.specs.Transfers.{put_cell}
use Rattle.points.specs.Machine.{Setting}
use Rattle.points.specs.PartialRuns.{PartialState, PartialEnd, Guarded, Holds, Fails, Unsure, value_in, guard_in, guarded_by, put_flag, forgets, puts, value_with_bits, act_by, partly_transferred, partly_done, all_partly_done, ended_at, knowing_only, nowhere, partial_end}
use Rattle.points.specs.Tables.{IsBounded, most_before}
use Rattle.jumptables.specs.declared.links.Link.{Link}
use Rattle.jumptables.specs.Links.{FindsLink, AreLinks, link_at, walked, walked_on}
use Rattle.jumptables.specs.Influence.{touches, touches_guard, spreads_act, decides_act, spreads, decides, decides_on, way_decides}
use Rattle.jumptables.specs.Search.{Sought, IsSearchable, IsTried, runs}
use Rattle.jumptables.proofs.Agree.{AgreeOn, Agree, changed-at, forgets-agrees, windows-agree, answer-agrees, same-put}
use Rattle.jumptables.proofs.Alike.{AreAlike, same-value}
use Rattle.jumptables.proofs.IdleCells.{neither, past-cell}

-- a cell that is not reached
abbrev IsFree : List Bool → ℕ → Type 0
IsFree flags j = get_or flags j false ≡ false

-- two runs that agree on control and on the cells that are not reached
abbrev Near : List Bool → PartialState → PartialState → Type 0
Near flags k u = Agree (IsFree flags) false k u

-- a run that changed in one cell alone
abbrev Only : ℕ → PartialState → PartialState → Type 0
Only j new old = Agree (λ i. i ≢ j) false new old

no-claim : {A : Type 0} → false ≡ true → A
no-claim t = absurd (true≢false (sym t))

itself : {A : Type 0} (P : ℕ → Type 0) (d : A) (xs : List A) → AgreeOn P d xs xs
itself P d xs = record { count = refl; on = λ k p. refl }

unchanged : (j : ℕ) (k : PartialState) → Only j k k
unchanged j k = record { values = itself _ 0 k.values; known = itself _ false k.known; taken = refl; passes = refl; untaken = λ t. refl; target = λ t. refl }

module _ (j : ℕ) (s : Setting) where
  unless : {A : Type 0} (b : Bool) (d : A) (xs : List A) (v : A) → AgreeOn (λ i. i ≢ j) d (if b then xs else set xs j v) xs
  unless true d xs v = itself _ d xs
  unless false d xs v = changed-at j d xs v

  flag-only : (z : Option ℕ) (b : Bool) (xs : List Bool) → AgreeOn (λ i. i ≢ j) false (put_flag z j b xs) xs
  flag-only None b xs = changed-at j false xs b
  flag-only (Some z) b xs = unless (j == z) false xs b

  cell-only : (z : Option ℕ) (v : ℕ) (xs : List ℕ) → AgreeOn (λ i. i ≢ j) 0 (put_cell z j v xs) xs
  cell-only None v xs = changed-at j 0 xs v
  cell-only (Some z) v xs = unless (j == z) 0 xs v

  forgets-only : (k : PartialState) → Only j (forgets s j k) k
  forgets-only k = record { values = itself _ 0 k.values; known = flag-only s.machine.zero false k.known; taken = refl; passes = refl; untaken = λ t. refl; target = λ t. refl }

  puts-only : (o : Option ℕ) (k : PartialState) → Only j (puts s j o k) k
  puts-only None k = forgets-only k
  puts-only (Some v) k = record { values = cell-only s.machine.zero v k.values; known = flag-only s.machine.zero true k.known; taken = refl; passes = refl; untaken = λ t. refl; target = λ t. refl }

  set-only : (e : Expr) (g : Guarded) (k : PartialState) → Only j (act_by s g (SetCell j e) k) k
  set-only e Holds k = puts-only (value_in s k e) k
  set-only e Fails k = unchanged j k
  set-only e Unsure k = forgets-only k

  slice-only : (lo hi : ℕ) (e : Expr) (g : Guarded) (k : PartialState) → Only j (act_by s g (SetSlice j lo hi e) k) k
  slice-only lo hi e Holds k = puts-only (value_with_bits (get_or k.known j false) lo hi (get_or k.values j 0) (value_in s k e)) k
  slice-only lo hi e Fails k = unchanged j k
  slice-only lo hi e Unsure k = forgets-only k

-- a flag that is set
module _ (n : ℕ) (flags : List Bool) (count : length flags ≡ n) (j : ℕ) (lt : j < n) where
  free-before : (i : ℕ) → IsFree (set flags j true) i → (i ≢ j) × IsFree flags i
  free-before i h = by (cases_eq i j)
    where
      by : (i ≡ j) ⊎ (i ≢ j) → (i ≢ j) × IsFree flags i
      by (inl at) = absurd (true≢false (sym (ap (λ q. get_or (set flags j true) q false) at ∙ get_or-set_same flags j true false (omega (arith, count, lt))) ∙ h))
      by (inr off) = (off, sym (get_or-set_other flags j i true false off) ∙ h)

  on-either : {A : Type 0} (d : A) (xs ys us vs : List A) → AgreeOn (λ i. i ≢ j) d us xs → AgreeOn (λ i. i ≢ j) d vs ys → AgreeOn (IsFree flags) d xs ys → AgreeOn (IsFree (set flags j true)) d us vs
  on-either d xs ys us vs p q a = record {
    count = p.count ∙ a.count ∙ sym q.count;
    on = λ i h. let f = free-before i h in p.on i f.0 ∙ a.on i f.1 ∙ sym (q.on i f.0);
  }

  -- both runs changed in a cell that now is reached
  both-change : (k u k2 u2 : PartialState) → Near flags k u → Only j k2 k → Only j u2 u → Near (set flags j true) k2 u2
  both-change k u k2 u2 a p q = record {
    values = on-either 0 k.values u.values k2.values u2.values p.values q.values a.values;
    known = on-either false k.known u.known k2.known u2.known p.known q.known a.known;
    taken = p.taken ∙ a.taken ∙ sym q.taken;
    passes = p.passes ∙ a.passes ∙ sym q.passes;
    untaken = no-claim;
    target = no-claim;
  }

module _ (s : Setting) (flags : List Bool) (k u : PartialState) (a : Near flags k u) where
  alike : (t : Term) → touches flags t ≡ false → AreAlike k.values u.values k.known u.known t
  alike (Const w n) h = tt
  alike (Cell j) h = (a.values.on j h, a.known.on j h)
  alike (Load b x) h = alike x h
  alike (Unary op x) h = alike x h
  alike (Binary op x y) h = let p = neither (touches flags x) (touches flags y) h in (alike x p.0, alike y p.1)
  alike (Slice x lo hi) h = alike x h
  alike (Zext w x) h = alike x h
  alike (Sext w x) h = alike x h
  alike (Choice g x y) h =
      let p = neither (touches flags g) (touches flags x || touches flags y) h in
      let q = neither (touches flags x) (touches flags y) p.1 in
      (alike g p.0, alike x q.0, alike y q.1)

  value-agrees : (e : Expr) → touches flags (term_of e) ≡ false → value_in s k e ≡ value_in s u e
  value-agrees e h = same-value k.values u.values k.known u.known s.machine s.frozen (term_of e) (alike (term_of e) h)

  guard-agrees : (g : Option Expr) → touches_guard flags g ≡ false → guard_in s k g ≡ guard_in s u g
  guard-agrees None h = refl
  guard-agrees (Some e) h = ap guarded_by (value-agrees e h)

  -- what control does where its guard is the same
  jumps-agree : (e : Expr) (g : Guarded) → Near flags (act_by s g (Jump e) k) (act_by s g (Jump e) u)
  jumps-agree e Holds = record { values = a.values; known = a.known; taken = refl; passes = a.passes; untaken = no-claim; target = no-claim }
  jumps-agree e Fails = record { values = a.values; known = a.known; taken = a.taken; passes = a.passes; untaken = no-claim; target = no-claim }
  jumps-agree e Unsure = record { values = a.values; known = a.known; taken = a.taken; passes = a.passes; untaken = no-claim; target = no-claim }

  annuls-agree : (g : Guarded) → Near flags (act_by s g Annul k) (act_by s g Annul u)
  annuls-agree Holds = record { values = a.values; known = a.known; taken = a.taken; passes = refl; untaken = no-claim; target = no-claim }
  annuls-agree Fails = a
  annuls-agree Unsure = a

  services-agree : (g : Guarded) → Near flags (act_by s g Service k) (act_by s g Service u)
  services-agree Holds = answer-agrees (IsFree flags) false s s.conv.service k u a
  services-agree Fails = a
  services-agree Unsure = answer-agrees (IsFree flags) false s s.conv.service k u a

  saves-agree : (g : Guarded) → Near flags (act_by s g WinSave k) (act_by s g WinSave u)
  saves-agree Holds = windows-agree (IsFree flags) false s s.machine.windows k u a
  saves-agree Fails = a
  saves-agree Unsure = windows-agree (IsFree flags) false s s.machine.windows k u a

  restores-agree : (g : Guarded) → Near flags (act_by s g WinRestore k) (act_by s g WinRestore u)
  restores-agree Holds = windows-agree (IsFree flags) false s s.machine.windows k u a
  restores-agree Fails = a
  restores-agree Unsure = windows-agree (IsFree flags) false s s.machine.windows k u a

  -- acts that change no cell and no control
  stores-agree : (w : ℕ) (x e : Expr) (g h : Guarded) → Near flags (act_by s g (Store w x e) k) (act_by s h (Store w x e) u)
  stores-agree w x e Holds Holds = a
  stores-agree w x e Holds Fails = a
  stores-agree w x e Holds Unsure = a
  stores-agree w x e Fails Holds = a
  stores-agree w x e Fails Fails = a
  stores-agree w x e Fails Unsure = a
  stores-agree w x e Unsure Holds = a
  stores-agree w x e Unsure Fails = a
  stores-agree w x e Unsure Unsure = a

  traps-agree : (e : Expr) (g h : Guarded) → Near flags (act_by s g (Trap e) k) (act_by s h (Trap e) u)
  traps-agree e Holds Holds = a
  traps-agree e Holds Fails = a
  traps-agree e Holds Unsure = a
  traps-agree e Fails Holds = a
  traps-agree e Fails Fails = a
  traps-agree e Fails Unsure = a
  traps-agree e Unsure Holds = a
  traps-agree e Unsure Fails = a
  traps-agree e Unsure Unsure = a

  set-agrees : (j : ℕ) (e : Expr) (g : Guarded) → touches flags (term_of e) ≡ false → Near flags (act_by s g (SetCell j e) k) (act_by s g (SetCell j e) u)
  set-agrees j e Holds h = same-put (IsFree flags) false s j (value_in s k e) (value_in s u e) k u (value-agrees e h) a
  set-agrees j e Fails h = a
  set-agrees j e Unsure h = forgets-agrees (IsFree flags) false s j k u a

  -- a cell that is reached changed in both
  reached-change : (j : ℕ) (k2 u2 : PartialState) → get_or flags j false ≡ true → Only j k2 k → Only j u2 u → Near flags k2 u2
  reached-change j k2 u2 f p q =
      let off : (i : ℕ) → IsFree flags i → i ≢ j = λ i h at. true≢false (sym f ∙ ap (λ x. get_or flags x false) (sym at) ∙ h) in
      record {
        values = record { count = p.values.count ∙ a.values.count ∙ sym q.values.count; on = λ i h. p.values.on i (off i h) ∙ a.values.on i h ∙ sym (q.values.on i (off i h)) };
        known = record { count = p.known.count ∙ a.known.count ∙ sym q.known.count; on = λ i h. p.known.on i (off i h) ∙ a.known.on i h ∙ sym (q.known.on i (off i h)) };
        taken = p.taken ∙ a.taken ∙ sym q.taken;
        passes = p.passes ∙ a.passes ∙ sym q.passes;
        untaken = no-claim;
        target = no-claim;
      }

  slice-agrees : (j lo hi : ℕ) (e : Expr) (g : Guarded) → touches flags (term_of e) ≡ false → IsFree flags j ⊎ (get_or flags j false ≡ true) → Near flags (act_by s g (SetSlice j lo hi e) k) (act_by s g (SetSlice j lo hi e) u)
  slice-agrees j lo hi e Holds h (inl free) =
      let v = value-agrees e h in
      let old = a.values.on j free in
      let f = a.known.on j free in
      same-put (IsFree flags) false s j (value_with_bits (get_or k.known j false) lo hi (get_or k.values j 0) (value_in s k e)) (value_with_bits (get_or u.known j false) lo hi (get_or u.values j 0) (value_in s u e)) k u
      (λ i. value_with_bits (f i) lo hi (old i) (v i)) a
  slice-agrees j lo hi e Holds h (inr f) = reached-change j _ _ f (slice-only j s lo hi e Holds k) (slice-only j s lo hi e Holds u)
  slice-agrees j lo hi e Fails h c = a
  slice-agrees j lo hi e Unsure h c = forgets-agrees (IsFree flags) false s j k u a

module _ (s : Setting) (n : ℕ) where
  -- a guard that agrees
  abbrev AtBoth : List Bool → Act → PartialState → PartialState → Guarded → Guarded → Type 0
  AtBoth flags act k u g h = Near flags (act_by s g act k) (act_by s h act u)

  with-same : (flags : List Bool) (act : Act) (k u : PartialState) (g h : Guarded) → g ≡ h → AtBoth flags act k u g g → AtBoth flags act k u g h
  with-same flags act k u g h e p = subst (λ q. AtBoth flags act k u g q) e p

  spread-count : (guard : Option Expr) (act : Act) (flags : List Bool) → length flags ≡ n → length (spreads_act guard act flags) ≡ n
  spread-count guard (SetCell c e) flags h = by (touches_guard flags guard || touches flags (term_of e))
    where
      by : (b : Bool) → length (if b then set flags c true else flags) ≡ n
      by true = length-set flags c true ∙ h
      by false = h
  spread-count guard (SetSlice c lo hi e) flags h = by (touches_guard flags guard || touches flags (term_of e))
    where
      by : (b : Bool) → length (if b then set flags c true else flags) ≡ n
      by true = length-set flags c true ∙ h
      by false = h
  spread-count guard (Store w x e) flags h = h
  spread-count guard (Jump e) flags h = h
  spread-count guard Annul flags h = h
  spread-count guard (Trap e) flags h = h
  spread-count guard Service flags h = h
  spread-count guard WinSave flags h = h
  spread-count guard WinRestore flags h = h

  module _ (small : length s.machine.widths ≡ n) where
    -- one transfer whose control the number does not decide
    transfer-agrees : (guard : Option Expr) (act : Act) (flags : List Bool) → length flags ≡ n → IsSoundAct s.machine act → decides_act guard act flags ≡ false → (k u : PartialState) → Near flags k u →
        Near (spreads_act guard act flags) (act_by s (guard_in s k guard) act k) (act_by s (guard_in s u guard) act u)
    transfer-agrees guard (SetCell j e) flags count sound free k u a = by (touches_guard flags guard || touches flags (term_of e)) refl
      where
        by : (b : Bool) → (touches_guard flags guard || touches flags (term_of e)) ≡ b → Near (if b then set flags j true else flags) (act_by s (guard_in s k guard) (SetCell j e) k) (act_by s (guard_in s u guard) (SetCell j e) u)
        by true f = let lt = sound.0 in both-change n flags count j (omega (arith, lt, small)) k u _ _ a (set-only j s e (guard_in s k guard) k) (set-only j s e (guard_in s u guard) u)
        by false f =
            let p = neither (touches_guard flags guard) (touches flags (term_of e)) f in
            with-same flags (SetCell j e) k u (guard_in s k guard) (guard_in s u guard) (guard-agrees s flags k u a guard p.0) (set-agrees s flags k u a j e (guard_in s k guard) p.1)
    transfer-agrees guard (SetSlice j lo hi e) flags count sound free k u a = by (touches_guard flags guard || touches flags (term_of e)) refl (cases_free (get_or flags j false) refl)
      where
        cases_free : (b : Bool) → get_or flags j false ≡ b → IsFree flags j ⊎ (get_or flags j false ≡ true)
        cases_free true f = inr f
        cases_free false f = inl f

        by : (b : Bool) → (touches_guard flags guard || touches flags (term_of e)) ≡ b → IsFree flags j ⊎ (get_or flags j false ≡ true) → Near (if b then set flags j true else flags) (act_by s (guard_in s k guard) (SetSlice j lo hi e) k) (act_by s (guard_in s u guard) (SetSlice j lo hi e) u)
        by true f c = let lt = sound.0 in both-change n flags count j (omega (arith, lt, small)) k u _ _ a (slice-only j s lo hi e (guard_in s k guard) k) (slice-only j s lo hi e (guard_in s u guard) u)
        by false f c =
            let p = neither (touches_guard flags guard) (touches flags (term_of e)) f in
            with-same flags (SetSlice j lo hi e) k u (guard_in s k guard) (guard_in s u guard) (guard-agrees s flags k u a guard p.0) (slice-agrees s flags k u a j lo hi e (guard_in s k guard) p.1 c)
    transfer-agrees guard (Store w x e) flags count sound free k u a = stores-agree s flags k u a w x e (guard_in s k guard) (guard_in s u guard)
    transfer-agrees guard (Jump e) flags count sound free k u a = with-same flags (Jump e) k u (guard_in s k guard) (guard_in s u guard) (guard-agrees s flags k u a guard free) (jumps-agree s flags k u a e (guard_in s k guard))
    transfer-agrees guard Annul flags count sound free k u a = with-same flags Annul k u (guard_in s k guard) (guard_in s u guard) (guard-agrees s flags k u a guard free) (annuls-agree s flags k u a (guard_in s k guard))
    transfer-agrees guard (Trap e) flags count sound free k u a = traps-agree s flags k u a e (guard_in s k guard) (guard_in s u guard)
    transfer-agrees guard Service flags count sound free k u a = with-same flags Service k u (guard_in s k guard) (guard_in s u guard) (guard-agrees s flags k u a guard free) (services-agree s flags k u a (guard_in s k guard))
    transfer-agrees guard WinSave flags count sound free k u a = with-same flags WinSave k u (guard_in s k guard) (guard_in s u guard) (guard-agrees s flags k u a guard free) (saves-agree s flags k u a (guard_in s k guard))
    transfer-agrees guard WinRestore flags count sound free k u a = with-same flags WinRestore k u (guard_in s k guard) (guard_in s u guard) (guard-agrees s flags k u a guard free) (restores-agree s flags k u a (guard_in s k guard))

    all-agree : (ts : List Transfer) (flags : List Bool) → length flags ≡ n → All (IsSoundTransfer s.machine) ts → decides ts flags ≡ false → (k u : PartialState) → Near flags k u → Near (spreads ts flags) (partly_transferred s ts k) (partly_transferred s ts u)
    all-agree [] flags count sound free k u a = a
    all-agree (t ∷ ts) flags count sound free k u a =
        let p = neither (decides_act t.guard t.act flags) (decides ts (spreads_act t.guard t.act flags)) free in
        all-agree ts (spreads_act t.guard t.act flags) (spread-count t.guard t.act flags count) (All-tail (IsSoundTransfer s.machine) t ts sound) p.1
        (act_by s (guard_in s k t.guard) t.act k) (act_by s (guard_in s u t.guard) t.act u)
        (transfer-agrees t.guard t.act flags count (All-head (IsSoundTransfer s.machine) t ts sound).act p.0 k u a)

    spreads-count : (ts : List Transfer) (flags : List Bool) → length flags ≡ n → length (spreads ts flags) ≡ n
    spreads-count [] flags h = h
    spreads-count (t ∷ ts) flags h = spreads-count ts (spreads_act t.guard t.act flags) (spread-count t.guard t.act flags h)

    -- a cell that is not reached behind an instruction was not reached before it
    free-act : (guard : Option Expr) (act : Act) (flags : List Bool) (i : ℕ) → length flags ≡ n → IsSoundAct s.machine act → IsFree (spreads_act guard act flags) i → IsFree flags i
    free-act guard (SetCell j e) flags i count sound h = by (touches_guard flags guard || touches flags (term_of e)) h
      where
        by : (b : Bool) → IsFree (if b then set flags j true else flags) i → IsFree flags i
        by true q = let lt = sound.0 in (free-before n flags count j (omega (arith, lt, small)) i q).1
        by false q = q
    free-act guard (SetSlice j lo hi e) flags i count sound h = by (touches_guard flags guard || touches flags (term_of e)) h
      where
        by : (b : Bool) → IsFree (if b then set flags j true else flags) i → IsFree flags i
        by true q = let lt = sound.0 in (free-before n flags count j (omega (arith, lt, small)) i q).1
        by false q = q
    free-act guard (Store w x e) flags i count sound h = h
    free-act guard (Jump e) flags i count sound h = h
    free-act guard Annul flags i count sound h = h
    free-act guard (Trap e) flags i count sound h = h
    free-act guard Service flags i count sound h = h
    free-act guard WinSave flags i count sound h = h
    free-act guard WinRestore flags i count sound h = h

    free-all : (ts : List Transfer) (flags : List Bool) (i : ℕ) → length flags ≡ n → All (IsSoundTransfer s.machine) ts → IsFree (spreads ts flags) i → IsFree flags i
    free-all [] flags i count sound h = h
    free-all (t ∷ ts) flags i count sound h =
        free-act t.guard t.act flags i count (All-head (IsSoundTransfer s.machine) t ts sound).act
        (free-all ts (spreads_act t.guard t.act flags) i (spread-count t.guard t.act flags count) (All-tail (IsSoundTransfer s.machine) t ts sound) h)

    -- both pass the instruction over: what agreed agrees
    passed-over : (ts : List Transfer) (flags : List Bool) → length flags ≡ n → All (IsSoundTransfer s.machine) ts → (k u : PartialState) → Near flags k u → Near (spreads ts flags) (record k { passes = false }) (record u { passes = false })
    passed-over ts flags count sound k u a = record {
      values = record { count = a.values.count; on = λ i h. a.values.on i (free-all ts flags i count sound h) };
      known = record { count = a.known.count; on = λ i h. a.known.on i (free-all ts flags i count sound h) };
      taken = a.taken;
      passes = refl;
      untaken = no-claim;
      target = no-claim;
    }

    instruction-agrees : (inst : GroundInst) (flags : List Bool) → length flags ≡ n → All (IsSoundTransfer s.machine) inst.transfers → decides inst.transfers flags ≡ false → (k u : PartialState) → Near flags k u →
        (b d : Bool) → b ≡ d → Near (spreads inst.transfers flags) (if b then record k { passes = false } else partly_transferred s inst.transfers k) (if d then record u { passes = false } else partly_transferred s inst.transfers u)
    instruction-agrees inst flags count sound free k u a true true e = passed-over inst.transfers flags count sound k u a
    instruction-agrees inst flags count sound free k u a false false e = all-agree inst.transfers flags count sound free k u a
    instruction-agrees inst flags count sound free k u a true false e = absurd (cc)
    instruction-agrees inst flags count sound free k u a false true e = absurd (cc)

    -- control agrees at the end of the way
    pub record SameControl (k u : PartialState) : Type 0 where
      pub taken : k.taken ≡ u.taken
      pub passes : k.passes ≡ u.passes

    module _ (at : ℕ) (links : List (Option Link)) (all : AreLinks s at links) where
      on-way : (rest : ℕ → List GroundInst) (decided : ℕ → List Bool → Bool) → ((q : ℕ) (fs : List Bool) → length fs ≡ n → decided q fs ≡ false → (k u : PartialState) → Near fs k u → SameControl (all_partly_done s (rest q) k) (all_partly_done s (rest q) u)) →
          (pc : ℕ) (flags : List Bool) → length flags ≡ n → (k u : PartialState) → Near flags k u → (o : Option Link) → link_at links at pc ≡ o → decides_on decided flags o ≡ false → SameControl (all_partly_done s (walked_on rest o) k) (all_partly_done s (walked_on rest o) u)
      on-way rest decided h pc flags count k u a None e free = record { taken = a.taken; passes = a.passes }
      on-way rest decided h pc flags count k u a (Some link) e free =
          let where_ = all.near pc link e in
          let stands = subst (FindsLink s at pc) e (all.each pc where_.0 where_.1) in
          let ts = link.inst.transfers in
          let p = neither (decides ts flags) (decided link.inst.next (spreads ts flags)) free in
          h link.inst.next (spreads ts flags) (spreads-count ts flags count) p.1 (partly_done s link.inst k) (partly_done s link.inst u)
          (instruction-agrees link.inst flags count stands.sound.sound p.0 k u a k.passes u.passes a.passes)

      way-agrees : (most pc : ℕ) (flags : List Bool) → length flags ≡ n → way_decides links at most pc flags ≡ false → (k u : PartialState) → Near flags k u → SameControl (all_partly_done s (walked links at most pc) k) (all_partly_done s (walked links at most pc) u)
      way-agrees zero pc flags count free k u a = record { taken = a.taken; passes = a.passes }
      way-agrees (suc most) pc flags count free k u a = on-way (walked links at most) (way_decides links at most) (λ q fs c f x y b. way-agrees most q fs c f x y b) pc flags count k u a (link_at links at pc) refl free

-- whether a run leaves is a matter of control
leaves-is : (s : Setting) (jump : GroundInst) (k : PartialState) → (ended_at s jump k).leaves ≡ k.taken
leaves-is s jump k = by k.taken k.passes refl
  where
    by : (b x : Bool) → k.taken ≡ b → (λ (r : PartialEnd). r.leaves) (if b || x then record { leaves = k.taken; untaken = k.untaken; target = None } else (let last = partly_transferred s jump.transfers (record k { target = None }) in record { leaves = false; untaken = last.untaken; target = last.target })) ≡ k.taken
    by true x e = refl
    by false true e = refl
    by false false e = sym e

module _ (g : Sought) (search : IsSearchable g) (start c : ℕ) (tried : IsTried g c) (free : way_decides g.links g.at most_before start (set (replicate (length g.setting.machine.widths) false) c true) ≡ false) where
  abbrev s : Setting
  s = g.setting

  abbrev n : ℕ
  n = length s.machine.widths

  starts-near : (x y : ℕ) → Near (set (replicate n false) c true) (knowing_only s c x) (knowing_only s c y)
  starts-near x y = record {
    values = record {
      count = length-set (replicate n 0) c x ∙ sym (length-set (replicate n 0) c y);
      on = λ i h. let there = tried.there in let off = (free-before n (replicate n false) (length-replicate n false) c there i h).0 in get_or-set_other (replicate n 0) c i x 0 off ∙ sym (get_or-set_other (replicate n 0) c i y 0 off);
    };
    known = itself _ false _;
    taken = refl;
    passes = refl;
    untaken = no-claim;
    target = no-claim;
  }

  same-leaves : (x : ℕ) → x < 2 ^ slice_index s.machine.widths c → (runs g start c x).leaves ≡ (runs g start c 0).leaves
  unfolding partial_end
  same-leaves x lt =
      let w = slice_index s.machine.widths c in
      let way = way-agrees s n refl g.at g.links search.links most_before start (set (replicate n false) c true) (length-set (replicate n false) c true ∙ length-replicate n false) free (knowing_only s c x) (knowing_only s c 0) (starts-near x 0) in
      let k = all_partly_done s (walked g.links g.at most_before start) (knowing_only s c x) in
      let u = all_partly_done s (walked g.links g.at most_before start) (knowing_only s c 0) in
      fits-leaves x lt k ∙ leaves-is s g.jump.inst k ∙ way.taken ∙ sym (leaves-is s g.jump.inst u) ∙ sym (fits-leaves 0 (pow_pos w) u)
    where
      fits-leaves : (y : ℕ) → y < 2 ^ slice_index s.machine.widths c → (k : PartialState) → (λ (r : PartialEnd). r.leaves) (if nat_lt y (2 ^ slice_index s.machine.widths c) then ended_at s g.jump.inst k else nowhere) ≡ (ended_at s g.jump.inst k).leaves
      fits-leaves y ly k = ap (λ (b : Bool). (λ (r : PartialEnd). r.leaves) (if b then ended_at s g.jump.inst k else nowhere)) (lt-ltb y (2 ^ slice_index s.machine.widths c) ly)

  -- so it has no bound
  pub uninfluenced : IsBounded (runs g start c) → ⊥
  uninfluenced b = by (nat_lt b.bound (2 ^ slice_index s.machine.widths c)) refl
    where
      by : (q : Bool) → nat_lt b.bound (2 ^ slice_index s.machine.widths c) ≡ q → ⊥
      by true e = true≢false (sym b.is.least.has.leaves ∙ same-leaves b.bound (ltb-true b.bound (2 ^ slice_index s.machine.widths c) e) ∙ b.is.start.stays)
      by false e = true≢false (sym b.is.least.has.leaves ∙ ap (λ (r : PartialEnd). r.leaves) (past-cell s (walked g.links g.at most_before start) g.jump.inst c b.bound e))
