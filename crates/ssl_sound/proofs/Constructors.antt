-- Constructors and their types, as lines find them and as sound encodings have them.
use Rattle.std.proofs.Common.{◌≡◌, ℕ, ◌<◌, ◌==◌, Bool, true, not, cond, List, [], ◌∷◌, length, get_or, Option, Some, None, refl, sym, ap, ◌∙◌, subst, arith, inl, inr}
use Rattle.std.proofs.lemmas.Bool.{or_cases, eqb-true, ltb-true, lt-ltb, false≢true, false_from_ne_true, cond-true}
use Rattle.std.proofs.lemmas.List.Elements.{All-head, All-tail, All-weaker, All-nil}
use Rattle.std.proofs.lemmas.List.Sums.{position_or_len_is}
use Rattle.std.proofs.lemmas.Option.{cond_some, slice_get_within, slice_get-get_or, get_or_from_slice_get}
use Rattle.std.specs.Prelude.{All, slice_get, unwrap_or, option_map, nat_lt, nat_eq, if◌then◌else◌}
use Rattle.std.specs.List.{list_any, position_or_len}
use Rattle.std.specs.Cmp.Lexicographic.{pointwise}
use Rattle.rtl_core.specs.declared.encodings.OperandKind.{OperandKind}
use Rattle.rtl_core.specs.declared.encodings.OperandKind.TheVariants as kind
use Rattle.rtl_core.specs.declared.encodings.Coded.{Coded}
use Rattle.rtl_core.specs.declared.encodings.Encodings.{Encodings}
use Rattle.rtl_core.specs.SoundEncodings.{IsKind, IsSoundEncodings}
use Rattle.ssl_rules.specs.Given.{Given, constructor_named, named_constructor, kinds_of, is_of, type_of}
use Rattle.ssl_rules.specs.Checks.{is_constructor}
use Rattle.ssl_sound.proofs.LineScopes.{IsFilled}

-- what holds of each number of a list holds of one that is among them
pub of-each : (Q : ℕ → Type 0) (c : ℕ) (cs : List ℕ) → list_any (λ d. d == c) cs ≡ true → All Q cs → Q c
of-each Q c [] e all = absurd (false≢true e)
of-each Q c (d ∷ cs) e all =
    elim (or_cases (nat_eq d c) (list_any (λ d. d == c) cs) e) [
      | inl h ↦ subst Q (eqb-true d c h) (All-head Q d cs all)
      | inr h ↦ of-each Q c cs h (All-tail Q d cs all)
    ]

-- ---- types

-- a constructor stands among those of no other type
only-type : (enc : Encodings) (sound : IsSoundEncodings enc) (c t : ℕ) → t < length enc.types → list_any (λ d. d == c) (get_or enc.types t []) ≡ true → sound.types.type_of c ≡ t
only-type enc sound c t there among =
    let of = sound.types.each t (get_or enc.types t []) (slice_get-get_or enc.types t [] there) in
    (of-each (λ c. (c < length enc.constructors) × (sound.types.type_of c ≡ t)) c (get_or enc.types t []) among of.1).1

pub type_of-is : (enc : Encodings) (sound : IsSoundEncodings enc) (c : ℕ) → c < length enc.constructors → type_of enc c ≡ sound.types.type_of c
type_of-is enc sound c below =
    let t : ℕ = sound.types.type_of c in
    let listed = sound.types.listed c below in
    let there : t < length enc.types = slice_get_within enc.types t listed.0 listed.1 in
    let here : get_or enc.types t [] ≡ listed.0 = get_or_from_slice_get enc.types t listed.0 [] listed.1 in
    let place : position_or_len (λ cs. list_any (λ d. d == c) cs) enc.types ≡ t =
    position_or_len_is (λ cs. list_any (λ d. d == c) cs) enc.types t [] (omega arith)
    (λ k less. false_from_ne_true (list_any (λ d. d == c) (get_or enc.types k [])) (λ among.
    let same : t ≡ k = only-type enc sound c k (omega arith) among in omega arith))
    (λ h. ap (λ cs. list_any (λ d. d == c) cs) here ∙ listed.2) in
    ap (λ n. unwrap_or (cond (nat_lt n (length enc.types)) (Some n) None) 0) place
    ∙ ap (λ o. unwrap_or o 0) (cond-true (nat_lt t (length enc.types)) (Some t) None (lt-ltb t (length enc.types) there))

-- a constructor is among those of its type
pub is_of-its_type : (enc : Encodings) (sound : IsSoundEncodings enc) (c : ℕ) → c < length enc.constructors → is_of enc (type_of enc c) c ≡ true
is_of-its_type enc sound c below =
    let listed = sound.types.listed c below in
    ap (λ t. is_of enc t c) (type_of-is enc sound c below) ∙ ap (λ o. list_any (λ d. d == c) (unwrap_or o [])) listed.1 ∙ listed.2

-- ---- operands

kind-filled : (enc : Encodings) (c : ℕ) (x : OperandKind) → IsKind enc.types c x → IsFilled enc x
kind-filled enc c (kind.Field w) k = tt
kind-filled enc c (kind.Typed t) k = subst (λ (cs : List ℕ). 0 < length cs) (sym (ap (λ o. unwrap_or o []) k.1)) k.2

filled-at : (enc : Encodings) → IsSoundEncodings enc → (c : ℕ) (o : Option Coded) → slice_get enc.constructors c ≡ o → All (IsFilled enc) (unwrap_or (option_map (λ k. k.kinds) o) [])
filled-at enc sound c None is = All-nil (IsFilled enc)
filled-at enc sound c (Some k) is = All-weaker (IsKind enc.types c) (IsFilled enc) (kind-filled enc c) k.kinds (sound.each c k is).kinds

pub kinds-filled : (enc : Encodings) → IsSoundEncodings enc → (c : ℕ) → All (IsFilled enc) (kinds_of enc c)
kinds-filled enc sound c = filled-at enc sound c (slice_get enc.constructors c) refl

-- ---- constructors that lines name

pub record IsConstructor (enc : Encodings) (instruction : Bool) (c : ℕ) : Type 0 where
  pub below : c < length enc.constructors
  pub type : (if instruction then type_of enc c == 0 else not (type_of enc c == 0)) ≡ true

constructor-at : (enc : Encodings) (g : Given) (instruction : Bool) (name : List ℕ) (o : Option ℕ) → constructor_named enc name ≡ o → is_constructor enc g instruction name ≡ true
    → IsConstructor enc instruction (unwrap_or o 0)
constructor-at enc g instruction name None is h = absurd (false≢true (rw is at h))
constructor-at enc g instruction name (Some c) is h =
    let p : ℕ = position_or_len (λ (k : Coded). pointwise nat_eq name k.name) enc.constructors in
    let found = cond_some (nat_lt p (length enc.constructors)) p c is in
    record { below = subst (λ n. n < length enc.constructors) found.1 (ltb-true p (length enc.constructors) found.0); type = rw is at h }

pub constructor-right : (enc : Encodings) (g : Given) (instruction : Bool) (name : List ℕ) → is_constructor enc g instruction name ≡ true → IsConstructor enc instruction (named_constructor enc name)
constructor-right enc g instruction name h = constructor-at enc g instruction name (constructor_named enc name) refl h
