-- What is known of the parts of an expression that has a width and in which no widths differ.
use Rattle.std.proofs.Common.{◌≡◌, ℕ, ◌+◌, ◌-◌, ◌<◌, ◌≤◌, ◌&&◌, Bool, true, false, cond, Option, Some, None, refl, sym, ap, ◌∙◌}
use Rattle.std.proofs.lemmas.Bool.{and_parts, eqb-true, leb-true, ltb-true, false≢true}
use Rattle.std.proofs.lemmas.Option.{none-some, same_Some, cond_some}
use Rattle.std.specs.Option.{option_or}
use Rattle.std.specs.Prelude.{option_map, option_and_then, is_some, nat_le, nat_lt, nat_eq}
use Rattle.rtl_core.specs.declared.expr.Bin.{Bin as BinOp}
use Rattle.rtl_core.specs.Arithmetic.{result_width}
use Rattle.ssl_rules.specs.declared.widths.Mismatch.{Mismatch}
use Rattle.ssl_rules.specs.declared.widths.Measure.{Measure}
use Rattle.ssl_rules.specs.Widths.{is_width, in_width, slice_width, extended_width, behind, asked, asked_of, paired}

-- it has this width, and no widths differ in it
pub record IsFine (m : Measure) (w : ℕ) : Type 0 where
  pub width : m.width ≡ Some w
  pub same : m.differs ≡ None

pub none_parts : {A : Type 0} (a b : Option A) → option_or a b ≡ None → (a ≡ None) × (b ≡ None)
none_parts None b e = (refl, e)
none_parts (Some x) b e = absurd (none-some x (sym e))

none-test : {A : Type 0} (t : Bool) (x : A) → cond t None (Some x) ≡ None → t ≡ true
none-test true x e = refl
none-test false x e = absurd (none-some x (sym e))

pub asked-same : (want w : ℕ) → asked want (Some w) ≡ None → w ≡ want
asked-same want w e = eqb-true w want (none-test (nat_eq w want) (record { left = want; right = w }) e)

pub asked-some : (w : ℕ) (o : Option ℕ) → is_some o ≡ true → asked w o ≡ None → o ≡ Some w
asked-some w None some none = absurd (false≢true some)
asked-some w (Some v) some none = ap (λ x. Some x) (asked-same w v none)

-- a width that is there, and that its place asks for
pub fine-asked : (m : Measure) (w : ℕ) → is_some m.width ≡ true → asked_of w m ≡ None → IsFine m w
fine-asked m w some none =
    let o = none_parts m.differs (asked w m.width) none in
    record { width = asked-some w m.width some o.1; same = o.0 }

pub in_width-some : (v w : ℕ) → in_width v ≡ Some w → (is_width v ≡ true) × (v ≡ w)
in_width-some v w e = cond_some (is_width v) v w e

pub load-parts : (a : Option ℕ) (d : Option Mismatch) (bits w : ℕ) → option_map (λ _. bits) a ≡ Some w → option_or d (asked 32 a) ≡ None → (a ≡ Some 32) × (d ≡ None) × (bits ≡ w)
load-parts None d bits w e f = absurd (none-some w e)
load-parts (Some a) d bits w e f =
    let o = none_parts d (asked 32 (Some a)) f in
    (ap (λ x. Some x) (asked-same 32 a o.1), o.0, same_Some bits w e)

-- two sides of one width
pub record AreSides (op : BinOp) (a b : Option ℕ) (d e : Option Mismatch) (w : ℕ) : Type 0 where
  pub side : ℕ
  pub left : a ≡ Some side
  pub right : b ≡ Some side
  pub left_same : d ≡ None
  pub right_same : e ≡ None
  pub width : result_width op side ≡ w

pub bin-parts : (op : BinOp) (a b : Option ℕ) (d e : Option Mismatch) (w : ℕ) → behind b (option_map (result_width op) a) ≡ Some w → option_or d (option_or e (paired a b)) ≡ None → AreSides op a b d e w
bin-parts op None None d e w is same = absurd (none-some w is)
bin-parts op None (Some b) d e w is same = absurd (none-some w is)
bin-parts op (Some a) None d e w is same = absurd (none-some w is)
bin-parts op (Some a) (Some b) d e w is same =
    let o = none_parts d (option_or e (paired (Some a) (Some b))) same in
    let p = none_parts e (paired (Some a) (Some b)) o.1 in
    record {
      side = a;
      left = refl;
      right = ap (λ x. Some x) (asked-same a b p.1);
      left_same = o.0;
      right_same = p.0;
      width = same_Some (result_width op a) w is;
    }

-- bits of something of this width
pub record AreBits (a : Option ℕ) (lo hi w : ℕ) : Type 0 where
  pub whole : ℕ
  pub is : a ≡ Some whole
  pub ordered : lo ≤ hi
  pub below : hi < whole
  pub width : hi + 1 - lo ≡ w

pub slice-parts : (a : Option ℕ) (lo hi w : ℕ) → option_and_then (slice_width lo hi) a ≡ Some w → AreBits a lo hi w
slice-parts None lo hi w e = absurd (none-some w e)
slice-parts (Some a) lo hi w e =
    let c = cond_some (nat_le lo hi && nat_lt hi a) (hi + 1 - lo) w e in
    let t = and_parts (nat_le lo hi) (nat_lt hi a) c.0 in
    record { whole = a; is = refl; ordered = leb-true lo hi t.0; below = ltb-true hi a t.1; width = c.1 }

-- an extension of something of this width
pub record IsExtended (a : Option ℕ) (to w : ℕ) : Type 0 where
  pub narrow : ℕ
  pub is : a ≡ Some narrow
  pub wider : narrow ≤ to
  pub few : to ≤ 64
  pub width : to ≡ w

pub extended-parts : (a : Option ℕ) (to w : ℕ) → option_and_then (extended_width to) a ≡ Some w → IsExtended a to w
extended-parts None to w e = absurd (none-some w e)
extended-parts (Some a) to w e =
    let c = cond_some (nat_le a to && is_width to) to w e in
    let t = and_parts (nat_le a to) (is_width to) c.0 in
    let u = and_parts (nat_le 1 to) (nat_le to 64) t.1 in
    record { narrow = a; is = refl; wider = leb-true a to t.0; few = leb-true to 64 u.1; width = c.1 }

-- a choice between two of this width
pub record AreChoices (c a b : Option ℕ) (d e f : Option Mismatch) (w : ℕ) : Type 0 where
  pub test : c ≡ Some 1
  pub left : a ≡ Some w
  pub right : b ≡ Some w
  pub test_same : d ≡ None
  pub left_same : e ≡ None
  pub right_same : f ≡ None

pub choice-parts : (c a b : Option ℕ) (d e f : Option Mismatch) (w : ℕ) → behind c (behind b a) ≡ Some w
    → option_or d (option_or (asked 1 c) (option_or e (option_or f (paired a b)))) ≡ None → AreChoices c a b d e f w
choice-parts None a b d e f w is same = absurd (none-some w is)
choice-parts (Some c) a None d e f w is same = absurd (none-some w is)
choice-parts (Some c) None (Some b) d e f w is same = absurd (none-some w is)
choice-parts (Some c) (Some a) (Some b) d e f w is same =
    let o = none_parts d (option_or (asked 1 (Some c)) (option_or e (option_or f (paired (Some a) (Some b))))) same in
    let p = none_parts (asked 1 (Some c)) (option_or e (option_or f (paired (Some a) (Some b)))) o.1 in
    let q = none_parts e (option_or f (paired (Some a) (Some b))) p.1 in
    let r = none_parts f (paired (Some a) (Some b)) q.1 in
    let v : a ≡ w = same_Some a w is in
    record {
      test = ap (λ x. Some x) (asked-same 1 c p.0);
      left = is;
      right = ap (λ x. Some x) (asked-same a b r.1 ∙ v);
      test_same = o.0;
      left_same = q.0;
      right_same = r.0;
    }
