-- Readers of names: what is read was spelled.
use Rattle.std.proofs.Common.{◌≡◌, ℕ, true, false, List, [], ◌∷◌, ◌++◌, drop, refl, sym, ap, ◌⊎◌, inl, inr}
use Rattle.std.specs.Str.{bytes_eq}
use Rattle.std.proofs.lemmas.Bool.{cases_Bool, true≢false}
use Rattle.std.proofs.lemmas.Slice.Eq.{bytes_eq-Decides}
use Rattle.text_lex.specs.declared.token.Token.{Token}
use Rattle.text_lex.specs.declared.token.Token.TheVariants.{Name, Number, Sign, Bad}
use Rattle.line_reading.specs.Signs.{close_paren, comma}
use Rattle.line_reading.specs.Spelling.{name_toks, listed}
use Rattle.line_reading.specs.Readings.{reads, Reader, after, give, begins, begins_name, this_name, any_name, in_parens}
use Rattle.line_reading.proofs.ListReads.{Each, IsRead, IsShown, IsSound, never, as_read, in_parens_reads}
use Rattle.line_reading.proofs.Loops.{IsShorter, shorter_from_sound}

-- behind a name
pub record PastName {B : Type 0} (next : List ℕ → Reader B) (ts : List Token) (y : B) (r : List Token) : Type 0 where
  pub name : List ℕ
  pub mid : List Token
  pub front : ts ≡ Name name ∷ mid
  pub second : next name mid ≡ reads y r

pub past_name : {B : Type 0} (next : List ℕ → Reader B) (ts : List Token) (y : B) (r : List Token) → after (any_name ts) next ≡ reads y r → PastName next ts y r
past_name next [] y r h = never y r h
past_name next (Name x ∷ ts) y r h = record { name = x; mid = ts; front = refl; second = h }
past_name next (Number v ∷ ts) y r h = never y r h
past_name next (Sign f ∷ ts) y r h = never y r h
past_name next (Bad ∷ ts) y r h = never y r h

pub at_name : (letters : List ℕ) (ts : List Token) → begins_name letters ts ≡ true → ts ≡ Name letters ∷ drop 1 ts
at_name letters [] h = absurd (true≢false (sym h))
at_name letters (Name x ∷ ts) h = ap (λ y. Name y ∷ ts) ((bytes_eq-Decides x letters).0 h)
at_name letters (Number v ∷ ts) h = absurd (true≢false (sym h))
at_name letters (Sign f ∷ ts) h = absurd (true≢false (sym h))
at_name letters (Bad ∷ ts) h = absurd (true≢false (sym h))

-- behind this name
pub record PastThis {B : Type 0} (letters : List ℕ) (next : Reader B) (ts : List Token) (y : B) (r : List Token) : Type 0 where
  pub mid : List Token
  pub front : ts ≡ Name letters ∷ mid
  pub second : next mid ≡ reads y r

pub past_this : {B : Type 0} (letters : List ℕ) (next : Reader B) (ts : List Token) (y : B) (r : List Token) → after (this_name letters ts) (λ _. next) ≡ reads y r → PastThis letters next ts y r
past_this {B} letters next ts y r h = by (cases_Bool (begins_name letters ts))
  where
    by : (begins_name letters ts ≡ true) ⊎ (begins_name letters ts ≡ false) → PastThis letters next ts y r
    by (inl e) = record { mid = drop 1 ts; front = at_name letters ts e; second = rw e at h }
    by (inr e) = never y r (rw e at h)

pub same_name : (x : List ℕ) → bytes_eq x x ≡ true
same_name x = (bytes_eq-Decides x x).1 refl

-- nothing is asked
abbrev pub Always : {A : Type 0} → A → Type 0
Always x = Unit {0}

name_at : (ts : List Token) (x : List ℕ) (r : List Token) → any_name ts ≡ reads x r → IsShown name_toks Always ts x r
name_at ts x r h =
    let k : after (any_name ts) (λ name. give name) ≡ reads x r = rw h refl in
    let n = past_name (λ name. give name) ts x r k in
    as_read n.name x n.mid r n.second (record { spelled = n.front; proper = tt })

pub name_sound : IsSound any_name name_toks Always
name_sound = record { shown = name_at }

pub name_begun : (ts : List Token) (x : List ℕ) (r : List Token) → any_name ts ≡ reads x r → begins close_paren ts ≡ false
name_begun [] x r h = refl
name_begun (Name y ∷ ts) x r h = refl
name_begun (Number v ∷ ts) x r h = refl
name_begun (Bad ∷ ts) x r h = refl
name_begun (Sign f ∷ ts) x r h = never x r h

pub each_name : (names : List (List ℕ)) → Each (IsRead Always any_name name_toks) names
each_name [] = tt
each_name (x ∷ xs) = (record { always = λ r ends. refl }, each_name xs)

pub names_reads : (names : List (List ℕ)) (r : List Token) → in_parens any_name (listed comma name_toks names ++ Sign close_paren ∷ r) ≡ reads names r
names_reads names r = in_parens_reads Always any_name name_toks (λ r. tt) (λ r. tt) names r (record { starts = name_begun }) (each_name names)

pub name_shorter : IsShorter any_name
name_shorter = shorter_from_sound any_name name_toks Always name_sound

pub ruleset name_laws = (name_shorter)
