-- Names, numbers and signs, and what they mean.
use Rattle.std.proofs.Common.{◌≡◌, ℕ, ◌<◌, ◌≤◌, ◌^◌, true, false, List, [], ◌∷◌, ◌++◌, take, drop, Option, Some, None, refl, sym, ap, ◌∙◌, subst, arith, ◌⊎◌, inl, inr}
use Rattle.std.specs.Prelude.{nat_lt, ◌==◌, option_map, if◌then◌else◌, codes, slice_index}
use Rattle.std.specs.Fmt.{decimal}
use Rattle.std.specs.Option.{option_or}
use Rattle.std.specs.Str.{bytes_eq}
use Rattle.std.specs.Str.Parse.{digits_value}
use Rattle.std.proofs.lemmas.Bool.{cases_Bool, ltb-true, lt-ltb, eqb-true}
use Rattle.std.proofs.lemmas.Fmt.{decimal_is_IsNumeral}
use Rattle.std.proofs.lemmas.List.{take-append-drop}
use Rattle.std.proofs.lemmas.Slice.Eq.{bytes_eq-Decides}
use Rattle.c_lang.specs.declared.tree.COp.{COp}
use Rattle.c_lang.specs.declared.tree.COp.TheVariants.{Add, Sub, Mul, Div, Rem, And, Or, Xor, Shl, Shr, Eq, Ne, Lt, Le}
use Rattle.c_lang.specs.declared.tree.Var.{Var}
use Rattle.c_lang.specs.declared.tree.Var.TheVariants.{Ra, Pt, Cell, Temp, Result, Wn, Depth, ServeR, ServeE}
use Rattle.c_lang.specs.Spellable.{misfit, var_misfits}
use Rattle.c_lang.proofs.SpellingLaws.{fits, has_bits}
use Rattle.c_text.specs.Tokens.{Token, name, plain, long, sign}
use Rattle.c_text.specs.Words.{var_word, segment_word}
use Rattle.c_text.specs.Expressions.{op_sign}
use Rattle.c_scan.specs.Readings.{refuses, takes, plain_number, long_number, number_below, outcome_of, name_of, sign_of}
use Rattle.c_scan.specs.Names.{behind, cell_in, cell_of, decimal_number, when_below, var_by_name, var_by_letter, operator_of, segment_of, var_of}
use Rattle.c_read.proofs.SyntaxLaws.{FrontIs, Mirrors, no_read, front_same}

-- a word means a value with P
pub record Means {A : Type 0} (word : A → List ℕ) (P : A → Type 0) (w : List ℕ) (x : A) : Type 0 where
  pub same : w ≡ word x
  pub proper : P x

pub record IsMeaning {A : Type 0} (word : A → List ℕ) (of_word : List ℕ → Option A) (P : A → Type 0) : Type 0 where
  pub back : (x : A) → P x → of_word (word x) ≡ Some x
  pub stands : (w : List ℕ) (x : A) → of_word w ≡ Some x → Means word P w x

-- ---- numbers below a bound

below_fronts : (kind : ℕ → Token) (bound n : ℕ) (given : List Token) (x : ℕ) (remain : List Token) → (if nat_lt n bound then takes n given else refuses) ≡ takes x remain → FrontIs (λ n. kind n ∷ []) (λ n. n < bound) (kind n ∷ given) x remain
below_fronts kind bound n given x remain h = by (cases_Bool (nat_lt n bound))
  where
    by : (nat_lt n bound ≡ true) ⊎ (nat_lt n bound ≡ false) → FrontIs (λ n. kind n ∷ []) (λ n. n < bound) (kind n ∷ given) x remain
    by (inl e) = front_same n x given remain (rw e at h) (record { spelled = refl; proper = ltb-true n bound e })
    by (inr e) = no_read x remain (rw e at h)

bounded_fronts : (bound : ℕ) (given : List Token) (x : ℕ) (remain : List Token) → (number_below bound).read given ≡ takes x remain → FrontIs (number_below bound).spell (λ n. n < bound) given x remain
bounded_fronts bound (plain n ∷ given) x remain h = below_fronts plain bound n given x remain h
bounded_fronts bound given x remain h = no_read x remain h

pub below_mirrored : (bound : ℕ) → Mirrors (number_below bound) (λ n. n < bound)
below_mirrored bound = record { only_these = record { seen_front = bounded_fronts bound }; all_these = λ n p. record { read_back = λ remain. rw (lt-ltb n bound p) refl } }

plain_fronts : (given : List Token) (x : ℕ) (remain : List Token) → plain_number.read given ≡ takes x remain → FrontIs plain_number.spell (λ n. n < 2 ^ 64) given x remain
plain_fronts (plain n ∷ given) x remain h = below_fronts plain (2 ^ 64) n given x remain h
plain_fronts given x remain h = no_read x remain h

long_fronts : (given : List Token) (x : ℕ) (remain : List Token) → long_number.read given ≡ takes x remain → FrontIs long_number.spell (λ n. n < 2 ^ 64) given x remain
long_fronts (long n ∷ given) x remain h = below_fronts long (2 ^ 64) n given x remain h
long_fronts given x remain h = no_read x remain h

pub plain_mirrored : Mirrors plain_number (λ n. n < 2 ^ 64)
plain_mirrored = record { only_these = record { seen_front = plain_fronts }; all_these = λ n p. record { read_back = λ remain. rw (lt-ltb n (2 ^ 64) p) refl } }

pub long_mirrored : Mirrors long_number (λ n. n < 2 ^ 64)
long_mirrored = record { only_these = record { seen_front = long_fronts }; all_these = λ n p. record { read_back = λ remain. rw (lt-ltb n (2 ^ 64) p) refl } }

-- ---- words by their meaning

module _ {A : Type 0} (word : A → List ℕ) (of_word : List ℕ → Option A) (P : A → Type 0) (naming : IsMeaning word of_word P) where
  stands_fronts : (kind : List ℕ → Token) (w : List ℕ) (o : Option A) → of_word w ≡ o → (given : List Token) (x : A) (remain : List Token) → outcome_of o given ≡ takes x remain → FrontIs (λ x. kind (word x) ∷ []) P (kind w ∷ given) x remain
  stands_fronts kind w None e given x remain h = no_read x remain h
  stands_fronts kind w (Some y) e given x remain h =
      let n = naming.stands w y e in
      front_same y x given remain h (record { spelled = ap (λ v. kind v ∷ given) n.same; proper = n.proper })

  named_fronts : (given : List Token) (x : A) (remain : List Token) → (name_of word of_word).read given ≡ takes x remain → FrontIs (name_of word of_word).spell P given x remain
  named_fronts (name w ∷ given) x remain h = stands_fronts name w (of_word w) refl given x remain h
  named_fronts given x remain h = no_read x remain h

  signed_fronts : (given : List Token) (x : A) (remain : List Token) → (sign_of word of_word).read given ≡ takes x remain → FrontIs (sign_of word of_word).spell P given x remain
  signed_fronts (sign w ∷ given) x remain h = stands_fronts sign w (of_word w) refl given x remain h
  signed_fronts given x remain h = no_read x remain h

  pub named_mirrored : Mirrors (name_of word of_word) P
  named_mirrored = record { only_these = record { seen_front = named_fronts }; all_these = λ x p. record { read_back = λ remain. ap (λ o. outcome_of o remain) (naming.back x p) } }

  pub signed_mirrored : Mirrors (sign_of word of_word) P
  signed_mirrored = record { only_these = record { seen_front = signed_fronts }; all_these = λ x p. record { read_back = λ remain. ap (λ o. outcome_of o remain) (naming.back x p) } }

-- ---- operators

-- one of several words
pub word_chosen : {A : Type 0} {P : A → Type 0} {word : A → List ℕ} (v : List ℕ) (y : A) (w : List ℕ) (x : A) (rest : Option A) → word y ≡ v → P y → (if bytes_eq w v then Some y else rest) ≡ Some x → (rest ≡ Some x → Means word P w x) → Means word P w x
word_chosen {A} {P} {word} v y w x rest is p h other = by (cases_Bool (bytes_eq w v))
  where
    by : (bytes_eq w v ≡ true) ⊎ (bytes_eq w v ≡ false) → Means word P w x
    by (inl e) =
        let same : Some y ≡ Some x = rw e at h in
        let it : y ≡ x = cc in
        record { same = (bytes_eq-Decides w v).0 e ∙ sym is ∙ ap word it; proper = subst P it p }
    by (inr e) = other (rw e at h)

pub no_such_word : {A : Type 0} {Q : Type 0} (x : A) → None ≡ Some x → Q
no_such_word x h = absurd (cc)

abbrev AnyOp : COp → Type 0
AnyOp op = Unit {0}

op_stands : (w : List ℕ) (x : COp) → operator_of w ≡ Some x → Means op_sign AnyOp w x
op_stands w x h =
    word_chosen (codes "+") Add w x _ refl tt h (λ h. word_chosen (codes "-") Sub w x _ refl tt h (λ h. word_chosen (codes "*") Mul w x _ refl tt h
    (λ h. word_chosen (codes "/") Div w x _ refl tt h (λ h. word_chosen (codes "%") Rem w x _ refl tt h (λ h. word_chosen (codes "&") And w x _ refl tt h
    (λ h. word_chosen (codes "|") Or w x _ refl tt h (λ h. word_chosen (codes "^") Xor w x _ refl tt h (λ h. word_chosen (codes "<<") Shl w x _ refl tt h
    (λ h. word_chosen (codes ">>") Shr w x _ refl tt h (λ h. word_chosen (codes "==") Eq w x _ refl tt h (λ h. word_chosen (codes "!=") Ne w x _ refl tt h
    (λ h. word_chosen (codes "<") Lt w x _ refl tt h (λ h. word_chosen (codes "<=") Le w x _ refl tt h (no_such_word x))))))))))))))

op_back : (op : COp) → operator_of (op_sign op) ≡ Some op
op_back Add = refl
op_back Sub = refl
op_back Mul = refl
op_back Div = refl
op_back Rem = refl
op_back And = refl
op_back Or = refl
op_back Xor = refl
op_back Shl = refl
op_back Shr = refl
op_back Eq = refl
op_back Ne = refl
op_back Lt = refl
op_back Le = refl

pub op_meaning : IsMeaning op_sign operator_of AnyOp
op_meaning = record { back = λ op p. op_back op; stands = op_stands }

-- ---- numbers in names

fitting_stands : (bound v n : ℕ) → when_below bound v ≡ Some n → (v ≡ n) × (v < bound)
fitting_stands bound v n h = by (cases_Bool (nat_lt v bound))
  where
    by : (nat_lt v bound ≡ true) ⊎ (nat_lt v bound ≡ false) → (v ≡ n) × (v < bound)
    by (inl e) = let same : Some v ≡ Some n = rw e at h in let it : v ≡ n = cc in (it, ltb-true v bound e)
    by (inr e) = no_such_word n (rw e at h)

pub decimal_back : (bound n : ℕ) → n < bound → bound ≤ 2 ^ 64 → decimal_number bound (decimal n) ≡ Some n
decimal_back bound n l m =
    let value : digits_value 10 (decimal n) ≡ n = (decimal_is_IsNumeral n (omega arith)).1 in
    let same : bytes_eq (decimal n) (decimal n) ≡ true = (bytes_eq-Decides (decimal n) (decimal n)).1 refl in
    rw (value, same, lt-ltb n bound l) refl

-- digits of a number below a bound
record IsDecimal (bound : ℕ) (ds : List ℕ) (n : ℕ) : Type 0 where
  same : ds ≡ decimal n
  less : n < bound

decimal_stands : (bound : ℕ) (ds : List ℕ) (n : ℕ) → decimal_number bound ds ≡ Some n → IsDecimal bound ds n
decimal_stands bound ds n h = by (cases_Bool (bytes_eq (decimal (digits_value 10 ds)) ds))
  where
    by : (bytes_eq (decimal (digits_value 10 ds)) ds ≡ true) ⊎ (bytes_eq (decimal (digits_value 10 ds)) ds ≡ false) → IsDecimal bound ds n
    by (inl e) =
        let f = fitting_stands bound (digits_value 10 ds) n (rw e at h) in
        record { same = sym ((bytes_eq-Decides (decimal (digits_value 10 ds)) ds).0 e) ∙ ap decimal f.0; less = subst (λ k. k < bound) f.0 f.1 }
    by (inr e) = no_such_word n (rw e at h)

-- what a word stands for behind its front
pub record IsBehind {A : Type 0} (front : List ℕ) (n : ℕ) (of_rest : List ℕ → Option A) (w : List ℕ) (x : A) : Type 0 where
  pub split : w ≡ front ++ drop n w
  pub rest : of_rest (drop n w) ≡ Some x

pub behind_stands : {A : Type 0} (front : List ℕ) (n : ℕ) (of_rest : List ℕ → Option A) (w : List ℕ) (x : A) → behind front n of_rest w ≡ Some x → IsBehind front n of_rest w x
behind_stands front n of_rest w x h = by (cases_Bool (bytes_eq (take n w) front))
  where
    by : (bytes_eq (take n w) front ≡ true) ⊎ (bytes_eq (take n w) front ≡ false) → IsBehind front n of_rest w x
    by (inl e) = record { split = sym (take-append-drop n w) ∙ ap (λ l. l ++ drop n w) ((bytes_eq-Decides (take n w) front).0 e); rest = rw e at h }
    by (inr e) = no_such_word x (rw e at h)

-- ---- names of variables

abbrev Fits : Var → Type 0
Fits v = var_misfits v ≡ 0

numbered : (f : ℕ → Var) (b bits bound : ℕ) → bound ≡ 2 ^ bits → ((n : ℕ) → var_word (f n) ≡ b ∷ decimal n) → ((n : ℕ) → var_misfits (f n) ≡ misfit bits n) → (w : List ℕ) (x : Var) (o : Option ℕ) → w ≡ b ∷ drop 1 w → decimal_number bound (drop 1 w) ≡ o → option_map f o ≡ Some x
    → Means var_word Fits w x
numbered f b bits bound size spelled misfits w x None front e h = no_such_word x h
numbered f b bits bound size spelled misfits w x (Some n) front e h =
    let d = decimal_stands bound (drop 1 w) n e in
    let it : f n ≡ x = cc in
    record { same = front ∙ ap (λ l. b ∷ l) d.same ∙ sym (spelled n) ∙ ap var_word it; proper = subst Fits it (misfits n ∙ fits bits n (subst (λ k. n < k) size d.less)) }

first_is : (w : List ℕ) (b : ℕ) → 0 < b → (slice_index w 0 == b) ≡ true → w ≡ b ∷ drop 1 w
first_is [] b l e = absurd (omega (arith, eqb-true 0 b e))
first_is (c ∷ w) b l e = ap (λ d. d ∷ w) (eqb-true c b e)

-- one of several first letters
lettered : (c : ℕ) (w : List ℕ) (x : Var) (one rest : Option Var) → 0 < c → (if slice_index w 0 == c then one else rest) ≡ Some x → (w ≡ c ∷ drop 1 w → one ≡ Some x → Means var_word Fits w x) → (rest ≡ Some x → Means var_word Fits w x)
    → Means var_word Fits w x
lettered c w x one rest l h here other = by (cases_Bool (slice_index w 0 == c))
  where
    by : ((slice_index w 0 == c) ≡ true) ⊎ ((slice_index w 0 == c) ≡ false) → Means var_word Fits w x
    by (inl e) = here (first_is w c l e) (rw e at h)
    by (inr e) = other (rw e at h)

numbered_stands : (w : List ℕ) (x : Var) → var_by_letter (slice_index w 0) (drop 1 w) ≡ Some x → Means var_word Fits w x
numbered_stands w x h =
    lettered 99 w x _ _ (omega arith) h (λ f. numbered Cell 99 8 256 refl (λ n. refl) (λ n. refl) w x (decimal_number 256 (drop 1 w)) f refl)
    (λ h. lettered 116 w x _ _ (omega arith) h (λ f. numbered Temp 116 16 65536 refl (λ n. refl) (λ n. refl) w x (decimal_number 65536 (drop 1 w)) f refl)
    (λ h. lettered 113 w x _ _ (omega arith) h (λ f. numbered Result 113 8 256 refl (λ n. refl) (λ n. refl) w x (decimal_number 256 (drop 1 w)) f refl) (no_such_word x)))

fixed_stands : (w : List ℕ) (x : Var) → var_by_name w ≡ Some x → Means var_word Fits w x
fixed_stands w x h =
    word_chosen (codes "ra") Ra w x _ refl refl h (λ h. word_chosen (codes "pt") Pt w x _ refl refl h (λ h. word_chosen (codes "uq_wn") Wn w x _ refl refl h
    (λ h. word_chosen (codes "uq_depth") Depth w x _ refl refl h (λ h. word_chosen (codes "uq_r") ServeR w x _ refl refl h
    (λ h. word_chosen (codes "uq_e") ServeE w x _ refl refl h (no_such_word x))))))

var_stands : (w : List ℕ) (x : Var) → var_of w ≡ Some x → Means var_word Fits w x
var_stands w x h = by (var_by_letter (slice_index w 0) (drop 1 w)) refl h
  where
    by : (o : Option Var) → var_by_letter (slice_index w 0) (drop 1 w) ≡ o → option_or o (var_by_name w) ≡ Some x → Means var_word Fits w x
    by None e h = fixed_stands w x h
    by (Some v) e h = numbered_stands w x (e ∙ h)

var_back : (v : Var) → Fits v → var_of (var_word v) ≡ Some v
var_back Ra h = refl
var_back Pt h = refl
var_back (Cell i) h = rw (decimal_back 256 i (has_bits 8 i h) (omega arith)) refl
var_back (Temp k) h = rw (decimal_back 65536 k (has_bits 16 k h) (omega arith)) refl
var_back (Result i) h = rw (decimal_back 256 i (has_bits 8 i h) (omega arith)) refl
var_back Wn h = refl
var_back Depth h = refl
var_back ServeR h = refl
var_back ServeE h = refl

pub var_meaning : IsMeaning var_word var_of Fits
var_meaning = record { back = var_back; stands = var_stands }

-- ---- names of cells, names of segments

cell_stands : (w : List ℕ) (i : ℕ) (o : Option Var) → var_of w ≡ o → cell_in o ≡ Some i → Means (λ i. var_word (Cell i)) (λ i. i < 256) w i
cell_stands w i None e h = no_such_word i h
cell_stands w i (Some (Cell j)) e h =
    let n = var_stands w (Cell j) e in
    let it : j ≡ i = cc in
    record { same = n.same ∙ ap (λ k. var_word (Cell k)) it; proper = subst (λ k. k < 256) it (has_bits 8 j n.proper) }
cell_stands w i (Some v) e h = no_such_word i h

pub cell_meaning : IsMeaning (λ i. var_word (Cell i)) cell_of (λ i. i < 256)
cell_meaning = record { back = λ i p. ap cell_in (var_back (Cell i) (fits 8 i p)); stands = λ w i h. cell_stands w i (var_of w) refl h }

segment_stands : (w : List ℕ) (k : ℕ) → segment_of w ≡ Some k → Means segment_word (λ k. k < 2 ^ 64) w k
segment_stands w k h =
    let b = behind_stands (codes "uq_seg_") 7 (decimal_number (2 ^ 64)) w k h in
    let d = decimal_stands (2 ^ 64) (drop 7 w) k b.rest in
    record { same = b.split ∙ ap (λ l. codes "uq_seg_" ++ l) d.same; proper = d.less }

pub segment_meaning : IsMeaning segment_word segment_of (λ k. k < 2 ^ 64)
segment_meaning = record { back = λ k p. decimal_back (2 ^ 64) k p (omega arith); stands = segment_stands }
