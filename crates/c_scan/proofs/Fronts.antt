-- What the token in front of a cursor is.
use Rattle.std.proofs.Common.{◌≡◌, ℕ, ◌<◌, ◌^◌, Bool, true, false, cond, List, [], ◌∷◌, length, drop, Option, Some, None, refl, sym, ap, ◌∙◌, subst, arith}
use Rattle.std.specs.Prelude.{nat_lt, if◌then◌else◌}
use Rattle.std.specs.Str.{bytes_eq}
use Rattle.std.specs.Str.Parse.{digits_value}
use Rattle.std.proofs.lemmas.Bool.{true≢false}
use Rattle.c_text.specs.Tokens.{Token, name, plain, long, sign}
use Rattle.c_scan.specs.declared.front.Kind.{Kind}
use Rattle.c_scan.specs.declared.front.Kind.TheVariants as kind
use Rattle.c_scan.specs.Found.{token_of_kind}
use Rattle.c_scan.specs.Names.{when_below}
use Rattle.c_scan.specs.Readings.{refuses, takes, at, at_any_sign, at_end, at_function, at_name, long_ahead, plain_ahead, outcome_of, long_taken, name_taken, plain_taken, sign_taken}

-- the tokens begin with this one
abbrev Begins : List Token → Token → Type 0
Begins ts t = ts ≡ t ∷ drop 1 ts

-- ---- by the kind of the token

pub is_name : (ts : List Token) (k : Kind) (bytes : List ℕ) → Begins ts (token_of_kind k bytes) → k ≡ kind.Name → Begins ts (name bytes)
is_name ts k bytes e h = e ∙ ap (λ j. token_of_kind j bytes ∷ drop 1 ts) h

pub is_sign : (ts : List Token) (k : Kind) (bytes : List ℕ) → Begins ts (token_of_kind k bytes) → k ≡ kind.Sign → Begins ts (sign bytes)
is_sign ts k bytes e h = e ∙ ap (λ j. token_of_kind j bytes ∷ drop 1 ts) h

pub no_name : (ts : List Token) (k : Kind) (bytes : List ℕ) → Begins ts (token_of_kind k bytes) → (k ≡ kind.Name → ⊥) → at_name ts ≡ false
no_name ts kind.Name bytes e n = absurd (n refl)
no_name ts kind.Plain bytes e n = ap at_name e
no_name ts kind.Long bytes e n = ap at_name e
no_name ts kind.Sign bytes e n = ap at_name e

pub no_sign : (ts : List Token) (k : Kind) (bytes : List ℕ) → Begins ts (token_of_kind k bytes) → (k ≡ kind.Sign → ⊥) → at_any_sign ts ≡ false
no_sign ts kind.Sign bytes e n = absurd (n refl)
no_sign ts kind.Name bytes e n = ap at_any_sign e
no_sign ts kind.Plain bytes e n = ap at_any_sign e
no_sign ts kind.Long bytes e n = ap at_any_sign e

pub plain_is : (ts : List Token) (k : Kind) (bytes : List ℕ) → Begins ts (token_of_kind k bytes) → k ≡ kind.Plain → plain_ahead ts ≡ when_below (2 ^ 64) (digits_value 10 bytes)
plain_is ts k bytes e h = ap plain_ahead (e ∙ ap (λ j. token_of_kind j bytes ∷ drop 1 ts) h)

pub no_plain : (ts : List Token) (k : Kind) (bytes : List ℕ) → Begins ts (token_of_kind k bytes) → (k ≡ kind.Plain → ⊥) → plain_ahead ts ≡ None
no_plain ts kind.Plain bytes e n = absurd (n refl)
no_plain ts kind.Name bytes e n = ap plain_ahead e
no_plain ts kind.Long bytes e n = ap plain_ahead e
no_plain ts kind.Sign bytes e n = ap plain_ahead e

pub long_is : (ts : List Token) (k : Kind) (bytes : List ℕ) → Begins ts (token_of_kind k bytes) → k ≡ kind.Long → long_ahead ts ≡ when_below (2 ^ 64) (digits_value 10 bytes)
long_is ts k bytes e h = ap long_ahead (e ∙ ap (λ j. token_of_kind j bytes ∷ drop 1 ts) h)

pub no_long : (ts : List Token) (k : Kind) (bytes : List ℕ) → Begins ts (token_of_kind k bytes) → (k ≡ kind.Long → ⊥) → long_ahead ts ≡ None
no_long ts kind.Long bytes e n = absurd (n refl)
no_long ts kind.Name bytes e n = ap long_ahead e
no_long ts kind.Plain bytes e n = ap long_ahead e
no_long ts kind.Sign bytes e n = ap long_ahead e

pub nothing_named : (ts : List Token) → ts ≡ [] → at_name ts ≡ false
nothing_named ts e = ap at_name e

pub nothing_signed : (ts : List Token) → ts ≡ [] → at_any_sign ts ≡ false
nothing_signed ts e = ap at_any_sign e

pub ruleset front_kinds = (is_name, is_sign, no_name, no_sign, plain_is, no_plain, long_is, no_long, nothing_named, nothing_signed)

-- ---- by the bytes of a name or a sign

pub word_is : (ts : List Token) (w letters : List ℕ) → Begins ts (name w) → bytes_eq w letters ≡ at (name letters) ts
word_is ts w letters e = sym (ap (at (name letters)) e)

pub no_word : (ts : List Token) (letters : List ℕ) → at_name ts ≡ false → false ≡ at (name letters) ts
no_word [] letters h = refl
no_word (name w ∷ ts) letters h = absurd (true≢false h)
no_word (plain n ∷ ts) letters h = refl
no_word (long n ∷ ts) letters h = refl
no_word (sign b ∷ ts) letters h = refl

pub mark_is : (ts : List Token) (b bytes : List ℕ) → Begins ts (sign b) → bytes_eq b bytes ≡ at (sign bytes) ts
mark_is ts b bytes e = sym (ap (at (sign bytes)) e)

pub no_mark : (ts : List Token) (bytes : List ℕ) → at_any_sign ts ≡ false → false ≡ at (sign bytes) ts
no_mark [] bytes h = refl
no_mark (sign b ∷ ts) bytes h = absurd (true≢false h)
no_mark (name w ∷ ts) bytes h = refl
no_mark (plain n ∷ ts) bytes h = refl
no_mark (long n ∷ ts) bytes h = refl

pub name_there : (ts : List Token) (w : List ℕ) → Begins ts (name w) → true ≡ at_name ts
name_there ts w e = sym (ap at_name e)

pub no_function : (ts : List Token) → at_name ts ≡ false → false ≡ at_function ts
no_function [] h = refl
no_function (name w ∷ ts) h = absurd (true≢false h)
no_function (plain n ∷ ts) h = refl
no_function (long n ∷ ts) h = refl
no_function (sign b ∷ ts) h = refl

pub some_left : (ts : List Token) (t : Token) → Begins ts t → false ≡ at_end ts
some_left ts t e = sym (ap at_end e)

pub none_left : (ts : List Token) → ts ≡ [] → true ≡ at_end ts
none_left ts e = sym (ap at_end e)

pub ruleset asked_laws = (word_is, no_word, mark_is, no_mark, name_there, no_function, some_left, none_left)

-- ---- going past it

pub at_some : (t : Token) (ts : List Token) → at t ts ≡ true → 0 < length ts
at_some t [] h = absurd (true≢false (sym h))
at_some t (u ∷ ts) h = omega arith

pub begins_some : (ts : List Token) (t : Token) → Begins ts t → 0 < length ts
begins_some ts t e = subst (λ l. 0 < length l) (sym e) (omega arith)

pub plain_some : (ts : List Token) (n : ℕ) → plain_ahead ts ≡ Some n → 0 < length ts
plain_some [] n e = absurd (cc)
plain_some (t ∷ ts) n e = omega arith

pub long_some : (ts : List Token) (n : ℕ) → long_ahead ts ≡ Some n → 0 < length ts
long_some [] n e = absurd (cc)
long_some (t ∷ ts) n e = omega arith

fitted : (bound n v : ℕ) (ts : List Token) → when_below bound n ≡ Some v → (if nat_lt n bound then takes n ts else refuses) ≡ takes v ts
fitted bound n v ts e = by (nat_lt n bound) e
  where
    by : (b : Bool) → cond b (Some n) None ≡ Some v → cond b (takes n ts) refuses ≡ takes v ts
    by true e = let same : n ≡ v = cc in ap (λ m. takes m ts) same
    by false e = absurd (cc)

unfitted : (bound n : ℕ) (ts : List Token) → when_below bound n ≡ None → (if nat_lt n bound then takes n ts else refuses) ≡ refuses
unfitted bound n ts e = by (nat_lt n bound) e
  where
    by : (b : Bool) → cond b (Some n) None ≡ None → cond b (takes n ts) refuses ≡ refuses
    by true e = absurd (cc)
    by false e = refl

pub plain_read : (ts : List Token) (v : ℕ) → plain_ahead ts ≡ Some v → plain_taken ts ≡ takes v (drop 1 ts)
plain_read (plain n ∷ ts) v e = fitted (2 ^ 64) n v ts e
plain_read [] v e = absurd (cc)
plain_read (name w ∷ ts) v e = absurd (cc)
plain_read (long n ∷ ts) v e = absurd (cc)
plain_read (sign b ∷ ts) v e = absurd (cc)

pub plain_fails : (ts : List Token) → plain_ahead ts ≡ None → plain_taken ts ≡ refuses
plain_fails (plain n ∷ ts) e = unfitted (2 ^ 64) n ts e
plain_fails [] e = refl
plain_fails (name w ∷ ts) e = refl
plain_fails (long n ∷ ts) e = refl
plain_fails (sign b ∷ ts) e = refl

pub long_read : (ts : List Token) (v : ℕ) → long_ahead ts ≡ Some v → long_taken ts ≡ takes v (drop 1 ts)
long_read (long n ∷ ts) v e = fitted (2 ^ 64) n v ts e
long_read [] v e = absurd (cc)
long_read (name w ∷ ts) v e = absurd (cc)
long_read (plain n ∷ ts) v e = absurd (cc)
long_read (sign b ∷ ts) v e = absurd (cc)

pub long_fails : (ts : List Token) → long_ahead ts ≡ None → long_taken ts ≡ refuses
long_fails (long n ∷ ts) e = unfitted (2 ^ 64) n ts e
long_fails [] e = refl
long_fails (name w ∷ ts) e = refl
long_fails (plain n ∷ ts) e = refl
long_fails (sign b ∷ ts) e = refl

pub named_read : {A : Type 0} (of_word : List ℕ → Option A) (ts : List Token) (w : List ℕ) → Begins ts (name w) → name_taken of_word ts ≡ outcome_of (of_word w) (drop 1 ts)
named_read of_word ts w e = ap (name_taken of_word) e

pub named_fails : {A : Type 0} (of_word : List ℕ → Option A) (ts : List Token) → at_name ts ≡ false → name_taken of_word ts ≡ refuses
named_fails of_word [] h = refl
named_fails of_word (name w ∷ ts) h = absurd (true≢false h)
named_fails of_word (plain n ∷ ts) h = refl
named_fails of_word (long n ∷ ts) h = refl
named_fails of_word (sign b ∷ ts) h = refl

pub signed_read : {A : Type 0} (of_sign : List ℕ → Option A) (ts : List Token) (b : List ℕ) → Begins ts (sign b) → sign_taken of_sign ts ≡ outcome_of (of_sign b) (drop 1 ts)
signed_read of_sign ts b e = ap (sign_taken of_sign) e

pub signed_fails : {A : Type 0} (of_sign : List ℕ → Option A) (ts : List Token) → at_any_sign ts ≡ false → sign_taken of_sign ts ≡ refuses
signed_fails of_sign [] h = refl
signed_fails of_sign (sign b ∷ ts) h = absurd (true≢false h)
signed_fails of_sign (name w ∷ ts) h = refl
signed_fails of_sign (plain n ∷ ts) h = refl
signed_fails of_sign (long n ∷ ts) h = refl

pub ruleset past_front_laws = (at_some, begins_some, plain_some, long_some, plain_read, plain_fails, long_read, long_fails, named_read, named_fails, signed_read, signed_fails)
