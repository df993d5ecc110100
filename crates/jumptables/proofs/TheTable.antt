-- Each computed plain jump has a table: a search over all trials, made without a machine.
use Rattle.std.proofs.Common.{◌≡◌, ◌≢◌, ℕ, zero, suc, ◌+◌, ◌-◌, ◌^◌, ◌<◌, ◌≤◌, ◌&&◌, Bool, true, false, true≢false, List, [], ◌∷◌, length, Option, None, Some, refl, sym, ◌∙◌, ap, subst, arith, inl, inr, lt-ltb}
use Rattle.std.specs.Prelude.{◌⊎◌, nat_lt, is_some}
use Rattle.std.specs.List.{list_any}
use Rattle.std.proofs.lemmas.Bool.{cases_eq, cases_lt}
use Rattle.rtl_core.specs.declared.frozen.Frozen.{Frozen}
use Rattle.rtl_core.specs.declared.inst.GroundInst.{GroundInst}
use Rattle.rtl_core.specs.Code.{is_code}
use Rattle.rtl_core.specs.SoundTerms.{is_jump}
use Rattle.points.specs.declared.block.Standing.{Standing}
use Rattle.points.specs.declared.block.Standing.TheVariants.{Outside, Illegal, Stands}
use Rattle.points.specs.Courses.{does_always}
use Rattle.points.specs.Flows.{is_computed, HasTables}
use Rattle.points.specs.Kinds.{block_at}
use Rattle.points.specs.Machine.{Setting, standing}
use Rattle.points.specs.PartialRuns.{PartialEnd}
use Rattle.points.specs.Tables.{IsLink, LeadsUp, here, more, most_before, most_back, most_tried, most_open, Trial, IsTrial, IsBefore, shorter, nearer, lower, IsFirst, IsLeast, IsLeaving, StaysWithin, IsBounded, GivesCode, IsOpen, EndsAt, end_for, IsBoundedFor, IsOpenFor, NoneIsBounded, IsTableOf, bounded, open_ended, none, IsTable}
use Rattle.jumptables.specs.Links.{inst_of}
use Rattle.jumptables.specs.OneTable.{Tables}
use Rattle.jumptables.proofs.Ready.{computed-found}
use Rattle.jumptables.proofs.Walks.{starts-within, one-chain}
use Rattle.jumptables.proofs.RisenTargets.{risen, risen-are}

abbrev Decided : Type 0 → Type 0
Decided A = A ⊎ (A → ⊥)

-- the least number below n that has P, or none
abbrev Searched : (ℕ → Type 0) → ℕ → Type 0
Searched P n = ((x : ℕ) × (x < n) × IsLeast P x) ⊎ ((x : ℕ) → x < n → P x → ⊥)

module _ (P : ℕ → Type 0) (decide : (x : ℕ) → Decided (P x)) where
  search-next : (n : ℕ) → Searched P n → Decided (P n) → Searched P (suc n)
  search-next n (inl r) d = inl (r.0, omega (arith, r.1), r.2)
  search-next n (inr out) (inl p) = inl (n, omega arith, record { has = p; least = out })
  search-next n (inr out) (inr np) = inr (λ x lt p. by x lt p (cases_lt x n))
    where
      by : (x : ℕ) → x < suc n → P x → (x < n) ⊎ (n ≤ x) → ⊥
      by x lt p (inl l) = out x l p
      by x lt p (inr l) = let same : x ≡ n = omega (arith, lt, l) in np (subst P same p)

  search-below : (n : ℕ) → Searched P n
  search-below zero = inr (λ x lt p. absurd (omega (arith, lt)))
  search-below (suc n) = search-next n (search-below n) (decide n)

decided-flag : (b : Bool) → Decided (b ≡ true)
decided-flag true = inl refl
decided-flag false = inr (λ e. true≢false (sym e))

-- ---- chains

module _ (s : Setting) (at : ℕ) where
  same-inst : (pc : ℕ) (i j : GroundInst) → standing s pc ≡ Stands i → standing s pc ≡ Stands j → i ≡ j
  same-inst pc i j e f = let g : Stands i ≡ Stands j = sym e ∙ f in cc

  abbrev FoundLink : ℕ → Type 0
  FoundLink pc = ((i : GroundInst) × IsLink s at pc i) ⊎ ((i : GroundInst) → IsLink s at pc i → ⊥)

  link-by : (pc : ℕ) (i : GroundInst) → standing s pc ≡ Stands i → pc < at → (pc < i.next) ⊎ (i.next ≤ pc) → (b : Bool) → list_any (does_always is_jump) i.transfers ≡ b → FoundLink pc
  link-by pc i e lt (inl up) false f = inl (i, record { before = lt; stands = e; ends = up; stays = f })
  link-by pc i e lt (inl up) true f = inr (λ j h. true≢false (sym f ∙ ap (λ (x : GroundInst). list_any (does_always is_jump) x.transfers) (same-inst pc i j e h.stands) ∙ h.stays))
  link-by pc i e lt (inr le) b f = inr (λ j h. let ends = h.ends in let same = ap (λ (x : GroundInst). x.next) (same-inst pc i j e h.stands) in omega (arith, le, ends, same))

  link-of : (pc : ℕ) → (pc < at) ⊎ (at ≤ pc) → (st : Standing) → standing s pc ≡ st → FoundLink pc
  link-of pc (inr le) st e = inr (λ i h. let lt = h.before in omega (arith, le, lt))
  link-of pc (inl lt) (Stands i) e = link-by pc i e lt (cases_lt pc i.next) (list_any (does_always is_jump) i.transfers) refl
  link-of pc (inl lt) Illegal e = inr (λ i h. let f : Illegal ≡ Stands i = sym e ∙ h.stands in absurd (cc))
  link-of pc (inl lt) Outside e = inr (λ i h. let f : Outside ≡ Stands i = sym e ∙ h.stands in absurd (cc))

  found-link : (pc : ℕ) → FoundLink pc
  found-link pc = link-of pc (cases_lt pc at) (standing s pc) refl

  abbrev FoundChain : (n pc : ℕ) → Type 0
  FoundChain n pc = ((is : List GroundInst) × LeadsUp s at pc is × (length is ≡ n)) ⊎ ((is : List GroundInst) → LeadsUp s at pc is → length is ≡ n → ⊥)

  no-way : (pc : ℕ) (is : List GroundInst) → (pc ≢ at) → LeadsUp s at pc is → length is ≡ 0 → ⊥
  no-way pc is ne here l = ne refl
  no-way pc is ne (more h c) l = omega (arith, l)

  chain-end : (pc : ℕ) → (pc ≡ at) ⊎ (pc ≢ at) → FoundChain 0 pc
  chain-end pc (inl e) = inl ([], subst (λ p. LeadsUp s at p []) (sym e) here, refl)
  chain-end pc (inr ne) = inr (λ is c l. no-way pc is ne c l)

  not-on : (n pc : ℕ) (is : List GroundInst) → ((i : GroundInst) → IsLink s at pc i → ⊥) → LeadsUp s at pc is → length is ≡ suc n → ⊥
  not-on n pc is out here l = omega (arith, l)
  not-on n pc is out (more {i = i} h c) l = out i h

  not-from : (n pc : ℕ) (i : GroundInst) (is : List GroundInst) → IsLink s at pc i → ((js : List GroundInst) → LeadsUp s at i.next js → length js ≡ n → ⊥) → LeadsUp s at pc is → length is ≡ suc n → ⊥
  not-from n pc i is h out here l = omega (arith, l)
  not-from n pc i is h out (more {i = j} {is = r} k c) l =
      let same = ap (λ (x : GroundInst). x.next) (same-inst pc j i k.stands h.stands) in
      out r (subst (λ p. LeadsUp s at p r) same c) (omega (arith, l))

  chain-on : (n pc : ℕ) → ((q : ℕ) → FoundChain n q) → FoundLink pc → FoundChain (suc n) pc
  chain-on n pc rest (inr out) = inr (λ is c l. not-on n pc is out c l)
  chain-on n pc rest (inl r) = by (rest r.0.next)
    where
      by : FoundChain n r.0.next → FoundChain (suc n) pc
      by (inl c) = inl (r.0 ∷ c.0, more r.1 c.1, omega (arith, c.2))
      by (inr out) = inr (λ is c l. not-from n pc r.0 is r.1 out c l)

  found-chain : (n pc : ℕ) → FoundChain n pc
  found-chain zero pc = chain-end pc (cases_eq pc at)
  found-chain (suc n) pc = chain-on n pc (found-chain n) (found-link pc)

-- ---- the first trial

module _ (s : Setting) (at : ℕ) (P : Trial → Type 0) (decide : (t : Trial) → Decided (P t)) where
  -- the chain of n instructions from b bytes before the jump has P with a cell
  record Here (n b c : ℕ) : Type 0 where
    pub within : b ≤ at
    pub close : b ≤ most_back
    pub before : List GroundInst
    pub chain : LeadsUp s at (at - b) before
    pub long : length before ≡ n
    pub there : c < length s.machine.widths
    pub not_zero : s.machine.zero ≢ Some c
    pub has : P (record { start = at - b; before = before; cell = c })

  zero-cell : (c : ℕ) (o : Option ℕ) → Decided (o ≡ Some c)
  zero-cell c None = inr (λ e. cc)
  zero-cell c (Some z) = by (cases_eq z c)
    where
      by : (z ≡ c) ⊎ (z ≢ c) → Decided (Some z ≡ Some c)
      by (inl e) = inl (ap Some e)
      by (inr ne) = inr (λ e. let same : z ≡ c = cc in ne same)

  here-by : (n b c : ℕ) (is : List GroundInst) → b ≤ at → b ≤ most_back → LeadsUp s at (at - b) is → length is ≡ n → (c < length s.machine.widths) ⊎ (length s.machine.widths ≤ c) → Decided (s.machine.zero ≡ Some c) → Decided (P (record { start = at - b; before = is; cell = c })) → Decided (Here n b c)
  here-by n b c is w k ch l (inr le) z p = inr (λ h. let there = h.there in omega (arith, le, there))
  here-by n b c is w k ch l (inl lt) (inl z) p = inr (λ h. h.not_zero z)
  here-by n b c is w k ch l (inl lt) (inr nz) (inl p) = inl (record { within = w; close = k; before = is; chain = ch; long = l; there = lt; not_zero = nz; has = p })
  here-by n b c is w k ch l (inl lt) (inr nz) (inr np) = inr (λ h. np (subst (λ x. P (record { start = at - b; before = x; cell = c })) (one-chain s at (at - b) (at - b) h.before is refl h.chain ch) h.has))

  here-near : (n b c : ℕ) → b ≤ at → b ≤ most_back → FoundChain s at n (at - b) → Decided (Here n b c)
  here-near n b c w k (inr out) = inr (λ h. out h.before h.chain h.long)
  here-near n b c w k (inl r) = here-by n b c r.0 w k r.1 r.2 (cases_lt c (length s.machine.widths)) (zero-cell c s.machine.zero) (decide (record { start = at - b; before = r.0; cell = c }))

  here-within : (n b c : ℕ) → (at < b) ⊎ (b ≤ at) → (most_back < b) ⊎ (b ≤ most_back) → Decided (Here n b c)
  here-within n b c (inl lt) k = inr (λ h. let w = h.within in omega (arith, lt, w))
  here-within n b c (inr w) (inl lt) = inr (λ h. let k = h.close in omega (arith, lt, k))
  here-within n b c (inr w) (inr k) = here-near n b c w k (found-chain s at n (at - b))

  is-here : (n b c : ℕ) → Decided (Here n b c)
  is-here n b c = here-within n b c (cases_lt at b) (cases_lt most_back b)

  abbrev AnyCell : (n b : ℕ) → Type 0
  AnyCell n b = (c : ℕ) × Here n b c

  any-cell : (n b : ℕ) → Searched (Here n b) (length s.machine.widths) → Decided (AnyCell n b)
  any-cell n b (inl r) = inl (r.0, r.2.has)
  any-cell n b (inr out) = inr (λ a. out a.0 a.1.there a.1)

  is-any-cell : (n b : ℕ) → Decided (AnyCell n b)
  is-any-cell n b = any-cell n b (search-below (Here n b) (is-here n b) (length s.machine.widths))

  abbrev AnyStart : ℕ → Type 0
  AnyStart n = (b : ℕ) × AnyCell n b

  any-start : (n : ℕ) → Searched (AnyCell n) (most_back + 1) → Decided (AnyStart n)
  any-start n (inl r) = inl (r.0, r.2.has)
  any-start n (inr out) = inr (λ a. let close = a.1.1.close in out a.0 (omega (arith, close)) a.1)

  is-any-start : (n : ℕ) → Decided (AnyStart n)
  is-any-start n = any-start n (search-below (AnyCell n) (is-any-cell n) (most_back + 1))

  to-here : (t : Trial) → IsTrial s at t → P t → Here (length t.before) (at - t.start) t.cell
  to-here t h p =
      let within = starts-within s at t.start t.before h.chain in
      let near = h.near in
      let same : t.start ≡ at - (at - t.start) = omega (arith, within) in
      record {
        within = omega arith;
        close = omega (arith, near);
        before = t.before;
        chain = subst (λ q. LeadsUp s at q t.before) same h.chain;
        long = refl;
        there = h.cell;
        not_zero = h.not_zero;
        has = subst (λ q. P (record { start = q; before = t.before; cell = t.cell })) same p;
      }

  abbrev FoundFirst : Type 0
  FoundFirst = ((t : Trial) × IsFirst s at P t) ⊎ ((t : Trial) → IsTrial s at t → P t → ⊥)

  module _ (n b c : ℕ) (few : n < most_before + 1) (first : IsLeast AnyStart n) (start : IsLeast (AnyCell n) b) (cell : IsLeast (Here n b) c) where
    abbrev h : Here n b c
    h = cell.has

    abbrev found : Trial
    found = record { start = at - b; before = h.before; cell = c }

    nothing-before : (u : Trial) → IsTrial s at u → P u → IsBefore u found → ⊥
    nothing-before u t p (shorter lt) =
        let long = h.long in first.least (length u.before) (omega (arith, lt, long)) (at - u.start, (u.cell, to-here u t p))
    nothing-before u t p (nearer e lt) =
        let within = starts-within s at u.start u.before t.chain in
        start.least (at - u.start) (omega (arith, lt, within)) (u.cell, subst (λ m. Here m (at - u.start) u.cell) (e ∙ h.long) (to-here u t p))
    nothing-before u t p (lower e st lt) =
        let w = h.within in
        let back : at - u.start ≡ b = omega (arith, st, w) in
        cell.least u.cell lt (subst (λ q. Here n q u.cell) back (subst (λ m. Here m (at - u.start) u.cell) (e ∙ h.long) (to-here u t p)))

    first-found : FoundFirst
    first-found =
        let w = h.within in
        let k = h.close in
        let long = h.long in
        inl (
          found,
          record {
            trial = record { near = omega (arith, w, k); chain = h.chain; short = omega (arith, long, few); cell = h.there; not_zero = h.not_zero };
            has = h.has;
            first = nothing-before;
          },
        )

  first-cell : (n b : ℕ) → n < most_before + 1 → IsLeast AnyStart n → IsLeast (AnyCell n) b → Searched (Here n b) (length s.machine.widths) → FoundFirst
  first-cell n b few first start (inl r) = first-found n b r.0 few first start r.2
  first-cell n b few first start (inr out) = let a = start.has in absurd (out a.0 a.1.there a.1)

  first-start : (n : ℕ) → n < most_before + 1 → IsLeast AnyStart n → Searched (AnyCell n) (most_back + 1) → FoundFirst
  first-start n few first (inl r) = first-cell n r.0 few first r.2 (search-below (Here n r.0) (is-here n r.0) (length s.machine.widths))
  first-start n few first (inr out) = let a = first.has in let close = a.1.1.close in absurd (out a.0 (omega (arith, close)) a.1)

  first-count : Searched AnyStart (most_before + 1) → FoundFirst
  first-count (inl r) = first-start r.0 r.1 r.2 (search-below (AnyCell r.0) (is-any-cell r.0) (most_back + 1))
  first-count (inr out) = inr (λ t h p. let short = h.short in out (length t.before) (omega (arith, short)) (at - t.start, (t.cell, to-here t h p)))

  found-first : FoundFirst
  found-first = first-count (search-below AnyStart is-any-start (most_before + 1))

-- ---- what a trial is

stays-within : (e : PartialEnd) → Decided (StaysWithin e)
stays-within e = by (decided-flag e.leaves) (decided-flag e.untaken) (decided-flag (is_some e.target))
  where
    stays : (b : Bool) → (b ≡ true → ⊥) → b ≡ false
    stays true out = absurd (out refl)
    stays false out = refl

    by : Decided (e.leaves ≡ true) → Decided (e.untaken ≡ true) → Decided (is_some e.target ≡ true) → Decided (StaysWithin e)
    by (inl l) u t = inr (λ h. true≢false (sym l ∙ h.stays))
    by (inr l) (inr u) t = inr (λ h. u h.untaken)
    by (inr l) (inl u) (inr t) = inr (λ h. t h.known)
    by (inr l) (inl u) (inl t) = inl (record { stays = stays e.leaves l; untaken = u; known = t })

module _ (f : ℕ → PartialEnd) where
  is-leaving : (x : ℕ) → Decided (IsLeaving f x)
  is-leaving x = by (cases_lt most_tried x) (decided-flag ((f x).leaves))
    where
      by : (most_tried < x) ⊎ (x ≤ most_tried) → Decided ((f x).leaves ≡ true) → Decided (IsLeaving f x)
      by (inl lt) l = inr (λ h. let most = h.most in omega (arith, lt, most))
      by (inr le) (inl l) = inl (record { most = le; leaves = l })
      by (inr le) (inr l) = inr (λ h. l h.leaves)

  is-bounded : Decided (IsBounded f)
  is-bounded = by (stays-within (f 0)) (search-below (IsLeaving f) is-leaving (most_tried + 1))
    where
      by : Decided (StaysWithin (f 0)) → Searched (IsLeaving f) (most_tried + 1) → Decided (IsBounded f)
      by (inr out) r = inr (λ b. out b.is.start)
      by (inl w) (inl r) = inl (record { bound = r.0; is = record { start = w; least = r.2 } })
      by (inl w) (inr out) = inr (λ b. let most = b.is.least.has.most in out b.bound (omega (arith, most)) b.is.least.has)

gives-code : (frozen : Frozen) (e : PartialEnd) → Decided (GivesCode frozen e)
gives-code frozen e = by e.target refl
  where
    in-code : (a : ℕ) → e.target ≡ Some a → Decided (is_code frozen a ≡ true) → Decided (GivesCode frozen e)
    in-code a q (inl c) = inl (record { target = a; is = q; in_code = c })
    in-code a q (inr out) = inr (λ g. let r : Some g.target ≡ Some a = sym g.is ∙ q in let same : g.target ≡ a = cc in out (subst (λ x. is_code frozen x ≡ true) same g.in_code))

    by : (o : Option ℕ) → e.target ≡ o → Decided (GivesCode frozen e)
    by None q = inr (λ g. let r : Some g.target ≡ None = sym g.is ∙ q in absurd (cc))
    by (Some a) q = in-code a q (decided-flag (is_code frozen a))

module _ (frozen : Frozen) (f : ℕ → PartialEnd) where
  is-open : Decided (IsOpen frozen f)
  is-open = by (decided-flag ((f 0).leaves)) (gives-code frozen (f 0))
    where
      stays : (b : Bool) → (b ≡ true → ⊥) → b ≡ false
      stays true out = absurd (out refl)
      stays false out = refl

      by : Decided ((f 0).leaves ≡ true) → Decided (GivesCode frozen (f 0)) → Decided (IsOpen frozen f)
      by (inl l) g = inr (λ h. true≢false (sym l ∙ h.stays))
      by (inr l) (inl g) = inl (record { stays = stays ((f 0).leaves) l; gives = g })
      by (inr l) (inr out) = inr (λ h. out h.gives)

  abbrev NoCode : ℕ → Type 0
  NoCode x = GivesCode frozen (f x) → ⊥

  no-code : (x : ℕ) → Decided (NoCode x)
  no-code x = by (gives-code frozen (f x))
    where
      by : Decided (GivesCode frozen (f x)) → Decided (NoCode x)
      by (inl g) = inr (λ out. out g)
      by (inr out) = inl out

  code-unless : (x : ℕ) → (NoCode x → ⊥) → GivesCode frozen (f x)
  code-unless x h = by (gives-code frozen (f x))
    where
      by : Decided (GivesCode frozen (f x)) → GivesCode frozen (f x)
      by (inl g) = g
      by (inr out) = absurd (h out)

  open-end : (n : ℕ) × EndsAt frozen f n
  open-end = by (search-below NoCode no-code most_open)
    where
      by : Searched NoCode most_open → (n : ℕ) × EndsAt frozen f n
      by (inl r) = (r.0, record { most = omega (arith, r.1); gives = λ x lt. code-unless x (r.2.least x lt); ends = λ lt. r.2.has })
      by (inr out) = (most_open, record { most = omega arith; gives = λ x lt. code-unless x (out x lt); ends = λ lt g. omega (arith, lt) })

-- ---- the table

module _ (s : Setting) (at : ℕ) (jump : GroundInst) where
  abbrev pub Made : Type 0
  Made = (targets : List ℕ) × IsTableOf s at jump targets

  open-table : NoneIsBounded s at jump → FoundFirst s at (IsOpenFor s jump) (λ t. is-open s.frozen (end_for s jump t)) → Made
  open-table never (inl r) =
      let e = open-end s.frozen (end_for s jump r.0) in
      (risen (end_for s jump r.0) e.0, open_ended {t = r.0} {n = e.0} never r.1 e.1 (risen-are (end_for s jump r.0) e.0))
  open-table never (inr out) = ([], none never out refl)

  bounded-table : FoundFirst s at (IsBoundedFor s jump) (λ t. is-bounded (end_for s jump t)) → Made
  bounded-table (inl r) =
      let n = r.1.has.bound in
      (risen (end_for s jump r.0) n, bounded {t = r.0} {n = n} r.1 r.1.has.is (risen-are (end_for s jump r.0) n))
  bounded-table (inr out) = open-table out (found-first s at (IsOpenFor s jump) (λ t. is-open s.frozen (end_for s jump t)))

  pub made-table : Made
  made-table = bounded-table (found-first s at (IsBoundedFor s jump) (λ t. is-bounded (end_for s jump t)))

abbrev pick : Setting → ℕ → Bool → Standing → List ℕ
pick s a true (Stands jump) = (made-table s a jump).0
pick s a true Illegal = []
pick s a true Outside = []
pick s a false st = []

-- the table of the computed plain jump at an address, and nothing where none stands
unfoldable pub the_table : Setting → ℕ → List ℕ
the_table s a = pick s a (is_computed (block_at s a) && nat_lt a (2 ^ 32)) (standing s a)

picked : (s : Setting) (a : ℕ) → is_computed (block_at s a) ≡ true → (b : Bool) → b ≡ true → (st : Standing) → standing s a ≡ st → IsTable s a (pick s a b st)
picked s a e true q (Stands jump) f = record { jump = jump; stands = f; table = (made-table s a jump).1 }
picked s a e true q Illegal f = absurd (computed-found s a e (ap inst_of f))
picked s a e true q Outside f = absurd (computed-found s a e (ap inst_of f))
picked s a e false q st f = absurd (true≢false (sym q))

pub has_tables : (s : Setting) → HasTables s (the_table s)
unfolding the_table
has_tables s = record {
  each = λ a lt e.
      let low = lt-ltb a (2 ^ 32) lt in
      picked s a e (is_computed (block_at s a) && nat_lt a (2 ^ 32)) (λ i. e i && low i) (standing s a) refl;
}

pub tables-exist : (s : Setting) → Tables s
tables-exist s = record { table = the_table s; are = has_tables s }
