-- Syntaxes that are read as they are spelled: the laws by which larger ones get this from their parts.
use Rattle.std.proofs.Common.{◌≡◌, ℕ, true, false, List, [], ◌∷◌, ◌++◌, drop, refl, sym, ap, ◌∙◌, subst, ◌⊎◌, inl, inr, append_assoc}
use Rattle.std.specs.Prelude.{Bool, if◌then◌else◌}
use Rattle.std.proofs.lemmas.Bool.{cases_Bool, true≢false, eqb-true, eq-eqb}
use Rattle.std.proofs.lemmas.Slice.Eq.{bytes_eq-Decides}
use Rattle.c_text.specs.Tokens.{Token, name, long, sign}
use Rattle.c_scan.specs.Readings.{Outcome, refuses, takes, Reader, followed, alike, at, Syntax, exactly}
use Rattle.c_read.specs.Combined.{in_turn, before, behind, mapped}

-- the tokens begin with the spelling of a value with P
pub record FrontIs {A : Type 0} (spell : A → List Token) (P : A → Type 0) (given : List Token) (x : A) (remain : List Token) : Type 0 where
  pub spelled : given ≡ spell x ++ remain
  pub proper : P x

pub record TakesOnly {A : Type 0} (one : Reader A) (spell : A → List Token) (P : A → Type 0) : Type 0 where
  pub seen_front : (given : List Token) (x : A) (remain : List Token) → one given ≡ takes x remain → FrontIs spell P given x remain

-- a value is read from its own spelling, whatever follows it
pub record GivesBack {A : Type 0} (one : Reader A) (spell : A → List Token) (x : A) : Type 0 where
  pub read_back : (remain : List Token) → one (spell x ++ remain) ≡ takes x remain

-- what is read, and nothing else, is the spelling of a value with P
pub record Mirrors {A : Type 0} (g : Syntax A) (P : A → Type 0) : Type 0 where
  pub only_these : TakesOnly g.read g.spell P
  pub all_these : (x : A) → P x → GivesBack g.read g.spell x

pub no_read : {A : Type 0} {P : Type 0} (x : A) (remain : List Token) → refuses ≡ takes x remain → P
no_read x remain h = absurd (cc)

-- what the first and the second reader took
pub record InSequence {A B : Type 0} (o : Outcome A) (next : A → Reader B) (y : B) (remain : List Token) : Type 0 where
  pub x : A
  pub mid : List Token
  pub first : o ≡ takes x mid
  pub second : next x mid ≡ takes y remain

pub in_sequence : {A B : Type 0} (o : Outcome A) (next : A → Reader B) (y : B) (remain : List Token) → followed o next ≡ takes y remain → InSequence o next y remain
in_sequence refuses next y remain h = no_read y remain h
in_sequence (takes x mid) next y remain h = record { x = x; mid = mid; first = refl; second = h }

-- a front for what else the reading tells
pub front_same : {A : Type 0} {spell : A → List Token} {P : A → Type 0} {given : List Token} (x y : A) (mid remain : List Token) → takes x mid ≡ takes y remain → FrontIs spell P given x mid → FrontIs spell P given y remain
front_same {A} {spell} {P} {given} x y mid remain h s =
    let same : x ≡ y = cc in
    let rest : mid ≡ remain = cc in
    record { spelled = s.spelled ∙ ap (λ z. spell z ++ mid) same ∙ ap (λ m. spell y ++ m) rest; proper = subst P same s.proper }

-- ---- a name, a sign, a number with a suffix

tokens_alike : (a b : Token) → alike a b ≡ true → a ≡ b
tokens_alike (name a) (name b) h = ap name ((bytes_eq-Decides a b).0 h)
tokens_alike (sign a) (sign b) h = ap sign ((bytes_eq-Decides a b).0 h)
tokens_alike (long a) (long b) h = ap long (eqb-true a b h)
tokens_alike a b h = absurd (true≢false (sym h))

pub begins_with_it : (t : Token) (given : List Token) → at t given ≡ true → given ≡ t ∷ drop 1 given
begins_with_it t [] h = absurd (true≢false (sym h))
begins_with_it t (u ∷ given) h = ap (λ v. v ∷ given) (tokens_alike u t h)

-- a token that equals itself when it is asked for
pub record IsAsked (t : Token) : Type 0 where
  pub is : alike t t ≡ true

pub word_asked : (w : List ℕ) → IsAsked (name w)
word_asked w = record { is = (bytes_eq-Decides w w).1 refl }

pub long_asked : (n : ℕ) → IsAsked (long n)
long_asked n = record { is = eq-eqb n n refl }

pub sign_asked : (w : List ℕ) → IsAsked (sign w)
sign_asked w = record { is = (bytes_eq-Decides w w).1 refl }

-- what is read behind such a token
pub record BehindMark {B : Type 0} (t : Token) (next : Reader B) (given : List Token) (y : B) (remain : List Token) : Type 0 where
  pub mid : List Token
  pub front : given ≡ t ∷ mid
  pub second : next mid ≡ takes y remain

pub behind_mark : {B : Type 0} (t : Token) (next : Reader B) (given : List Token) (y : B) (remain : List Token) → followed ((exactly t).read given) (λ _. next) ≡ takes y remain → BehindMark t next given y remain
behind_mark {B} t next given y remain h = by (cases_Bool (at t given))
  where
    by : (at t given ≡ true) ⊎ (at t given ≡ false) → BehindMark t next given y remain
    by (inl e) = record { mid = drop 1 given; front = begins_with_it t given e; second = rw e at h }
    by (inr e) = no_read y remain (rw e at h)

pub mark_skipped : {B : Type 0} (t : Token) (next : Reader B) (given : List Token) → IsAsked t → followed ((exactly t).read (t ∷ given)) (λ _. next) ≡ next given
mark_skipped t next given m = rw m.is refl

-- ---- numbers, and names and signs that stand for something

-- ---- one after another

module _ {A B : Type 0} (g : Syntax A) (h : Syntax B) (P : A → Type 0) (Q : B → Type 0) where
  both_fronts : TakesOnly g.read g.spell P → TakesOnly h.read h.spell Q → (given : List Token) (x : A × B) (remain : List Token) → (in_turn g h).read given ≡ takes x remain → FrontIs (in_turn g h).spell (λ x. P x.0 × Q x.1) given x remain
  both_fronts s t given x remain e =
      let one = in_sequence (g.read given) (λ x mid. followed (h.read mid) (λ y rest. takes (x, y) rest)) x remain e in
      let two = in_sequence (h.read one.mid) (λ y rest. takes (one.x, y) rest) x remain one.second in
      let a = s.seen_front given one.x one.mid one.first in
      let b = t.seen_front one.mid two.x two.mid two.first in
      front_same (one.x, two.x) x two.mid remain two.second (record {
        spelled = a.spelled ∙ ap (λ m. g.spell one.x ++ m) b.spelled ∙ sym (append_assoc (g.spell one.x) (h.spell two.x) two.mid);
        proper = (a.proper, b.proper);
      })

  pub both_mirrored : Mirrors g P → Mirrors h Q → Mirrors (in_turn g h) (λ x. P x.0 × Q x.1)
  both_mirrored s t = record {
    only_these = record { seen_front = both_fronts s.only_these t.only_these };
    all_these = λ x p. record { read_back = λ remain. rw (append_assoc (g.spell x.0) (h.spell x.1) remain, (s.all_these x.0 p.0).read_back (h.spell x.1 ++ remain), (t.all_these x.1 p.1).read_back remain) refl };
  }

module _ {A : Type 0} (t : Token) (g : Syntax A) (P : A → Type 0) where
  before_fronts : TakesOnly g.read g.spell P → (given : List Token) (x : A) (remain : List Token) → (before t g).read given ≡ takes x remain → FrontIs (before t g).spell P given x remain
  before_fronts s given x remain e =
      let p = behind_mark t g.read given x remain e in
      let a = s.seen_front p.mid x remain p.second in
      record { spelled = p.front ∙ ap (λ m. t ∷ m) a.spelled; proper = a.proper }

  pub before_mirrored : IsAsked t → Mirrors g P → Mirrors (before t g) P
  before_mirrored m s = record {
    only_these = record { seen_front = before_fronts s.only_these };
    all_these = λ x p. record { read_back = λ remain. mark_skipped t g.read (g.spell x ++ remain) m ∙ (s.all_these x p).read_back remain };
  }

  behind_fronts : TakesOnly g.read g.spell P → (given : List Token) (x : A) (remain : List Token) → (behind g t).read given ≡ takes x remain → FrontIs (behind g t).spell P given x remain
  behind_fronts s given x remain e =
      let one = in_sequence (g.read given) (λ x mid. followed ((exactly t).read mid) (λ _ rest. takes x rest)) x remain e in
      let p = behind_mark t (λ rest. takes one.x rest) one.mid x remain one.second in
      let a = s.seen_front given one.x one.mid one.first in
      front_same one.x x p.mid remain p.second (record {
        spelled = a.spelled ∙ ap (λ m. g.spell one.x ++ m) p.front ∙ sym (append_assoc (g.spell one.x) (t ∷ []) p.mid);
        proper = a.proper;
      })

  pub behind_mirrored : IsAsked t → Mirrors g P → Mirrors (behind g t) P
  behind_mirrored m s = record {
    only_these = record { seen_front = behind_fronts s.only_these };
    all_these = λ x p. record { read_back = λ remain. rw (append_assoc (g.spell x) (t ∷ []) remain, (s.all_these x p).read_back (t ∷ remain), m.is) refl };
  }

-- ---- values made of other values

-- `front` stands before what several forms share: with it the parts are spelled as the value, which has Q where they have P
pub record Builds {A B : Type 0} (front : List Token → List Token) (f : A → B) (g : A → List Token) (spell : B → List Token) (P : A → Type 0) (Q : B → Type 0) (x : A) : Type 0 where
  pub same : (remain : List Token) → front (g x ++ remain) ≡ spell (f x) ++ remain
  pub proper : P x → Q (f x)

module _ {A B : Type 0} (f : A → B) (g : Syntax A) (P : A → Type 0) (spell : B → List Token) (Q : B → Type 0) where
  pub made_fronts : (front : List Token → List Token) → Mirrors g P → ((x : A) → Builds front f g.spell spell P Q x) → (given : List Token) (y : B) (remain : List Token) → mapped f (g.read given) ≡ takes y remain → FrontIs spell Q (front given) y remain
  made_fronts front s makes given y remain e =
      let one = in_sequence (g.read given) (λ x rest. takes (f x) rest) y remain e in
      let a = s.only_these.seen_front given one.x one.mid one.first in
      front_same (f one.x) y one.mid remain one.second (record { spelled = ap front a.spelled ∙ (makes one.x).same one.mid; proper = (makes one.x).proper a.proper })

  pub made_read : Mirrors g P → (x : A) (given remain : List Token) → P x → g.spell x ++ remain ≡ given → mapped f (g.read given) ≡ takes (f x) remain
  made_read s x given remain p e = rw (sym e, (s.all_these x p).read_back remain) refl

-- ---- a choice by the first token

pub either_fronts : {A : Type 0} (b : Bool) (one other : Outcome A) (P : A → List Token → Type 0) (x : A) (remain : List Token) → ((y : A) (m : List Token) → one ≡ takes y m → P y m) → ((y : A) (m : List Token) → other ≡ takes y m → P y m) → (if b then one else other) ≡ takes x remain → P x remain
either_fronts true one other P x remain f g h = f x remain h
either_fronts false one other P x remain f g h = g x remain h
