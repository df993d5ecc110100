-- Readers of lists: what is spelled is read, and what is read was spelled.
use Rattle.std.proofs.Common.{◌≡◌, ℕ, ◌+◌, ◌≤◌, zero, suc, true, false, List, [], ◌∷◌, ◌++◌, length, drop, refl, sym, ap, ◌∙◌, subst, arith, ◌⊎◌, inl, inr, append_assoc, length-append}
use Rattle.std.proofs.lemmas.Bool.{cases_Bool, eqb-true, eq-eqb, true≢false}
use Rattle.text_lex.specs.declared.token.Token.{Token}
use Rattle.text_lex.specs.declared.token.Token.TheVariants.{Name, Number, Sign, Bad}
use Rattle.line_reading.specs.Signs.{close_paren, comma}
use Rattle.line_reading.specs.Spelling.{each_behind, listed}
use Rattle.line_reading.specs.Readings.{Read, fails, reads, Reader, after, give, begins, sign, number, onto, up_to, items, in_parens}

-- it holds of each
abbrev pub Each : {A : Type 0} → (A → Type 0) → List A → Type 0
Each P [] = Unit {0}
Each P (x ∷ xs) = P x × Each P xs

-- the value is read from its spelling, before whatever it can stand before
pub record IsRead {A : Type 0} (Ends : List Token → Type 0) (one : Reader A) (spell : A → List Token) (x : A) : Type 0 where
  pub always : (r : List Token) → Ends r → one (spell x ++ r) ≡ reads x r

-- only what is spelled is read
pub record IsShown {A : Type 0} (spell : A → List Token) (P : A → Type 0) (ts : List Token) (x : A) (r : List Token) : Type 0 where
  pub spelled : ts ≡ spell x ++ r
  pub proper : P x

pub record IsSound {A : Type 0} (one : Reader A) (spell : A → List Token) (P : A → Type 0) : Type 0 where
  pub shown : (ts : List Token) (x : A) (r : List Token) → one ts ≡ reads x r → IsShown spell P ts x r

pub never : {A : Type 0} {P : Type 0} (x : A) (r : List Token) → fails ≡ reads x r → P
never x r h = absurd (cc)

-- the two readers of a sequence
pub record Through {A B : Type 0} (o : Read A) (next : A → Reader B) (y : B) (r : List Token) : Type 0 where
  pub x : A
  pub mid : List Token
  pub first : o ≡ reads x mid
  pub second : next x mid ≡ reads y r

pub through : {A B : Type 0} (o : Read A) (next : A → Reader B) (y : B) (r : List Token) → after o next ≡ reads y r → Through o next y r
through fails next y r h = never y r h
through (reads x mid) next y r h = record { x = x; mid = mid; first = refl; second = h }

-- what is read is the same
pub as_read : {A : Type 0} {spell : A → List Token} {P : A → Type 0} {ts : List Token} (x y : A) (mid r : List Token) → reads x mid ≡ reads y r → IsShown spell P ts x mid → IsShown spell P ts y r
as_read {A} {spell} {P} {ts} x y mid r h s =
    let same : x ≡ y = cc in
    let rest : mid ≡ r = cc in
    record { spelled = s.spelled ∙ ap (λ z. spell z ++ mid) same ∙ ap (λ m. spell y ++ m) rest; proper = subst P same s.proper }

pub at_sign : (k : ℕ) (ts : List Token) → begins k ts ≡ true → ts ≡ Sign k ∷ drop 1 ts
at_sign k [] h = absurd (true≢false (sym h))
at_sign k (Name x ∷ ts) h = absurd (true≢false (sym h))
at_sign k (Number v ∷ ts) h = absurd (true≢false (sym h))
at_sign k (Sign f ∷ ts) h = ap (λ j. Sign j ∷ ts) (eqb-true f k h)
at_sign k (Bad ∷ ts) h = absurd (true≢false (sym h))

-- behind a sign
pub record Past {B : Type 0} (k : ℕ) (next : Reader B) (ts : List Token) (y : B) (r : List Token) : Type 0 where
  pub mid : List Token
  pub front : ts ≡ Sign k ∷ mid
  pub second : next mid ≡ reads y r

pub past_sign : {B : Type 0} (k : ℕ) (next : Reader B) (ts : List Token) (y : B) (r : List Token) → after (sign k ts) (λ _. next) ≡ reads y r → Past k next ts y r
past_sign {B} k next ts y r h = by (cases_Bool (begins k ts))
  where
    by : (begins k ts ≡ true) ⊎ (begins k ts ≡ false) → Past k next ts y r
    by (inl e) = record { mid = drop 1 ts; front = at_sign k ts e; second = rw e at h }
    by (inr e) = never y r (rw e at h)

-- behind a number
pub record PastNumber {B : Type 0} (next : ℕ → Reader B) (ts : List Token) (y : B) (r : List Token) : Type 0 where
  pub value : ℕ
  pub mid : List Token
  pub front : ts ≡ Number value ∷ mid
  pub second : next value mid ≡ reads y r

pub past_number : {B : Type 0} (next : ℕ → Reader B) (ts : List Token) (y : B) (r : List Token) → after (number ts) next ≡ reads y r → PastNumber next ts y r
past_number next [] y r h = never y r h
past_number next (Name x ∷ ts) y r h = never y r h
past_number next (Number v ∷ ts) y r h = record { value = v; mid = ts; front = refl; second = h }
past_number next (Sign f ∷ ts) y r h = never y r h
past_number next (Bad ∷ ts) y r h = never y r h

pub behind_ends : {A : Type 0} (Ends : List Token → Type 0) (k : ℕ) (spell : A → List Token) → ((r : List Token) → Ends (Sign k ∷ r)) → (xs : List A) (r : List Token) → Ends r → Ends (each_behind k spell xs ++ r)
behind_ends Ends k spell closes [] r h = h
behind_ends Ends k spell closes (x ∷ xs) r h = closes ((spell x ++ each_behind k spell xs) ++ r)

behind_long : {A : Type 0} (k : ℕ) (spell : A → List Token) (xs : List A) (r : List Token) → length xs ≤ length (each_behind k spell xs ++ r)
behind_long k spell [] r = omega arith
behind_long k spell (x ∷ xs) r =
    let rec = behind_long k spell xs r in
    let e : length ((spell x ++ each_behind k spell xs) ++ r) ≡ length (spell x) + length (each_behind k spell xs ++ r) = ap length (append_assoc (spell x) (each_behind k spell xs) r) ∙ length-append (spell x) (each_behind k spell xs ++ r) in
    omega arith

up_to_step : {A : Type 0} (Ends : List Token → Type 0) (k n : ℕ) (one : Reader A) (spell : A → List Token) (x : A) (xs : List A) (r more : List Token) → more ≡ each_behind k spell xs ++ r → IsRead Ends one spell x → Ends more → up_to n k one more ≡ reads xs r → up_to (suc n) k one (Sign k ∷ ((spell x ++ each_behind k spell xs) ++ r)) ≡ reads (x ∷ xs) r
unfolding up_to
up_to_step Ends k n one spell x xs r more is read ends rec =
    let e : (spell x ++ each_behind k spell xs) ++ r ≡ spell x ++ more = append_assoc (spell x) (each_behind k spell xs) r ∙ ap (λ ts. spell x ++ ts) (sym is) in
    rw (eq-eqb k k refl, e, read.always more ends, rec) refl

-- as many items as are spelled are read
pub up_to_reads : {A : Type 0} (Ends : List Token → Type 0) (k : ℕ) (one : Reader A) (spell : A → List Token) → ((r : List Token) → Ends (Sign k ∷ r)) → (n : ℕ) (xs : List A) (r : List Token) → length xs ≤ n → Each (IsRead Ends one spell) xs → Ends r → begins k r ≡ false → up_to n k one (each_behind k spell xs ++ r) ≡ reads xs r
unfolding up_to
up_to_reads Ends k one spell closes zero [] r l all ends e = refl
up_to_reads Ends k one spell closes (suc n) [] r l all ends e = rw e refl
up_to_reads Ends k one spell closes zero (x ∷ xs) r l all ends e = absurd (omega arith)
up_to_reads Ends k one spell closes (suc n) (x ∷ xs) r l all ends e =
    up_to_step Ends k n one spell x xs r (each_behind k spell xs ++ r) refl all.0 (behind_ends Ends k spell closes xs r ends)
    (up_to_reads Ends k one spell closes n xs r (omega arith) all.1 ends e)

pub items_reads : {A : Type 0} (Ends : List Token → Type 0) (k : ℕ) (one : Reader A) (spell : A → List Token) → ((r : List Token) → Ends (Sign k ∷ r)) → (x : A) (xs : List A) (r : List Token) → Each (IsRead Ends one spell) (x ∷ xs) → Ends r → begins k r ≡ false → items k one (listed k spell (x ∷ xs) ++ r) ≡ reads (x ∷ xs) r
unfolding items
items_reads Ends k one spell closes x xs r all ends e =
    let first = all.0.always (each_behind k spell xs ++ r) (behind_ends Ends k spell closes xs r ends) in
    let rest = up_to_reads Ends k one spell closes (length (each_behind k spell xs ++ r)) xs r (behind_long k spell xs r) all.1 ends e in
    rw (append_assoc (spell x) (each_behind k spell xs) r, first, rest) refl

-- nothing that is read begins with `)`
pub record IsStarted {A : Type 0} (one : Reader A) : Type 0 where
  pub starts : (ts : List Token) (x : A) (r : List Token) → one ts ≡ reads x r → begins close_paren ts ≡ false

pub in_parens_reads : {A : Type 0} (Ends : List Token → Type 0) (one : Reader A) (spell : A → List Token) → ((r : List Token) → Ends (Sign comma ∷ r)) → ((r : List Token) → Ends (Sign close_paren ∷ r)) → (xs : List A) (r : List Token) → IsStarted one → Each (IsRead Ends one spell) xs → in_parens one (listed comma spell xs ++ Sign close_paren ∷ r) ≡ reads xs r
unfolding in_parens
in_parens_reads Ends one spell before_comma before_paren [] r started all = refl
in_parens_reads Ends one spell before_comma before_paren (x ∷ xs) r started all =
    let back : List Token = Sign close_paren ∷ r in
    let first = all.0.always (each_behind comma spell xs ++ back) (behind_ends Ends comma spell before_comma xs back (before_paren r)) in
    let begun = started.starts (spell x ++ (each_behind comma spell xs ++ back)) x (each_behind comma spell xs ++ back) first in
    let here : begins close_paren ((spell x ++ each_behind comma spell xs) ++ back) ≡ false = ap (begins close_paren) (append_assoc (spell x) (each_behind comma spell xs) back) ∙ begun in
    rw (here, items_reads Ends comma one spell before_comma x xs back all (before_paren r) refl) refl

-- what was put before what was read
pub record Onto {A : Type 0} (ys : List A) (o : Read (List A)) (xs : List A) (r : List Token) : Type 0 where
  pub zs : List A
  pub was : o ≡ reads zs r
  pub whole : ys ++ zs ≡ xs

pub onto_through : {A : Type 0} (ys : List A) (o : Read (List A)) (xs : List A) (r : List Token) → onto ys o ≡ reads xs r → Onto ys o xs r
onto_through ys fails xs r h = never xs r h
onto_through ys (reads zs m) xs r h =
    let rest : m ≡ r = cc in
    let whole : ys ++ zs ≡ xs = cc in
    record { zs = zs; was = ap (λ t. reads zs t) rest; whole = whole }

none_shown : {A : Type 0} (k : ℕ) (spell : A → List Token) (P : A → Type 0) (ts : List Token) (xs : List A) (r : List Token) → reads [] ts ≡ reads xs r → IsShown (each_behind k spell) (Each P) ts xs r
none_shown k spell P ts xs r h = as_read [] xs ts r h (record { spelled = refl; proper = tt })

one_shown : {A : Type 0} (k : ℕ) (spell : A → List Token) (P : A → Type 0) (ts : List Token) (x : A) (mid : List Token) (zs xs : List A) (r : List Token) → ts ≡ Sign k ∷ drop 1 ts → IsShown spell P (drop 1 ts) x mid → IsShown (each_behind k spell) (Each P) mid zs r → x ∷ zs ≡ xs → IsShown (each_behind k spell) (Each P) ts xs r
one_shown k spell P ts x mid zs xs r at first rest whole =
    subst (λ l. IsShown (each_behind k spell) (Each P) ts l r) whole
    (record {
      spelled = at ∙ ap (λ us. Sign k ∷ us) (first.spelled ∙ ap (λ m. spell x ++ m) rest.spelled ∙ sym (append_assoc (spell x) (each_behind k spell zs) r));
      proper = (first.proper, rest.proper);
    })

-- what is read of items was spelled by them
pub up_to_sound : {A : Type 0} (k : ℕ) (one : Reader A) (spell : A → List Token) (P : A → Type 0) → IsSound one spell P → (n : ℕ) (ts : List Token) (xs : List A) (r : List Token) → up_to n k one ts ≡ reads xs r → IsShown (each_behind k spell) (Each P) ts xs r
unfolding up_to
up_to_sound k one spell P sound zero ts xs r h = none_shown k spell P ts xs r h
up_to_sound {A} k one spell P sound (suc n) ts xs r h = by (cases_Bool (begins k ts)) (up_to_sound k one spell P sound n)
  where
    by : (begins k ts ≡ true) ⊎ (begins k ts ≡ false) → ((us : List Token) (ys : List A) (s : List Token) → up_to n k one us ≡ reads ys s → IsShown (each_behind k spell) (Each P) us ys s) → IsShown (each_behind k spell) (Each P) ts xs r
    by (inr e) rec = none_shown k spell P ts xs r (rw e at h)
    by (inl e) rec =
        let t = through (one (drop 1 ts)) (λ x more. onto (x ∷ []) (up_to n k one more)) xs r (rw e at h) in
        let o = onto_through (t.x ∷ []) (up_to n k one t.mid) xs r t.second in
        one_shown k spell P ts t.x t.mid o.zs xs r (at_sign k ts e) (sound.shown (drop 1 ts) t.x t.mid t.first) (rec t.mid o.zs r o.was) o.whole

-- it holds of each, and there is one
abbrev pub Several : {A : Type 0} → (A → Type 0) → List A → Type 0
Several P [] = ⊥
Several P (x ∷ xs) = P x × Each P xs

pub several_each : {A : Type 0} (P : A → Type 0) (xs : List A) → Several P xs → Each P xs
several_each P [] h = absurd h
several_each P (x ∷ xs) h = h

pub items_sound : {A : Type 0} (k : ℕ) (one : Reader A) (spell : A → List Token) (P : A → Type 0) → IsSound one spell P → (ts : List Token) (xs : List A) (r : List Token) → items k one ts ≡ reads xs r → IsShown (listed k spell) (Several P) ts xs r
unfolding items
items_sound k one spell P sound ts xs r h =
    let t = through (one ts) (λ x more. onto (x ∷ []) (up_to (length more) k one more)) xs r h in
    let o = onto_through (t.x ∷ []) (up_to (length t.mid) k one t.mid) xs r t.second in
    let first = sound.shown ts t.x t.mid t.first in
    let rest = up_to_sound k one spell P sound (length t.mid) t.mid o.zs r o.was in
    subst (λ l. IsShown (listed k spell) (Several P) ts l r) o.whole
    (record {
      spelled = first.spelled ∙ ap (λ m. spell t.x ++ m) rest.spelled ∙ sym (append_assoc (spell t.x) (each_behind k spell o.zs) r);
      proper = (first.proper, rest.proper);
    })

-- things with commas between them, and `)`
pub record ParensShown {A : Type 0} (spell : A → List Token) (P : A → Type 0) (ts : List Token) (xs : List A) (r : List Token) : Type 0 where
  pub spelled : ts ≡ listed comma spell xs ++ Sign close_paren ∷ r
  pub proper : Each P xs

empty_shown : {A : Type 0} (spell : A → List Token) (P : A → Type 0) (ts : List Token) (xs : List A) (r : List Token) → ts ≡ Sign close_paren ∷ drop 1 ts → reads [] (drop 1 ts) ≡ reads xs r → ParensShown spell P ts xs r
empty_shown spell P ts xs r at h =
    let none : [] ≡ xs = cc in
    let rest : drop 1 ts ≡ r = cc in
    subst (λ l. ParensShown spell P ts l r) none (record { spelled = at ∙ ap (λ m. Sign close_paren ∷ m) rest; proper = tt })

filled_shown : {A : Type 0} (spell : A → List Token) (P : A → Type 0) (ts mid : List Token) (ys xs : List A) (more r : List Token) → IsShown (listed comma spell) (Several P) ts ys mid → mid ≡ Sign close_paren ∷ more → reads ys more ≡ reads xs r → ParensShown spell P ts xs r
filled_shown spell P ts mid ys xs more r first at h =
    let same : ys ≡ xs = cc in
    let rest : more ≡ r = cc in
    subst (λ l. ParensShown spell P ts l r) same
    (record { spelled = first.spelled ∙ ap (λ m. listed comma spell ys ++ m) (at ∙ ap (λ m. Sign close_paren ∷ m) rest); proper = several_each P ys first.proper })

pub in_parens_sound : {A : Type 0} (one : Reader A) (spell : A → List Token) (P : A → Type 0) → IsSound one spell P → (ts : List Token) (xs : List A) (r : List Token) → in_parens one ts ≡ reads xs r → ParensShown spell P ts xs r
unfolding in_parens
in_parens_sound {A} one spell P sound ts xs r h = by (cases_Bool (begins close_paren ts))
  where
    by : (begins close_paren ts ≡ true) ⊎ (begins close_paren ts ≡ false) → ParensShown spell P ts xs r
    by (inl e) = empty_shown spell P ts xs r (at_sign close_paren ts e) (rw e at h)
    by (inr e) =
        let t = through (items comma one ts) (λ ys more. after (sign close_paren more) (λ _ m. reads ys m)) xs r (rw e at h) in
        let p = past_sign close_paren (give t.x) t.mid xs r t.second in
        filled_shown spell P ts t.mid t.x xs p.mid r (items_sound comma one spell P sound ts t.x t.mid t.first) p.front p.second
