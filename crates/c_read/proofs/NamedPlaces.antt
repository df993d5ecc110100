-- The names of functions and labels.
use Rattle.std.proofs.Common.{◌≡◌, ℕ, ◌+◌, ◌*◌, ◌/◌, ◌%◌, ◌<◌, ◌^◌, zero, suc, true, false, List, [], ◌∷◌, ◌++◌, length, take, drop, Option, Some, None, refl, sym, ap, ◌∙◌, subst, arith, ◌⊎◌, inl, inr, length-append}
use Rattle.std.specs.Prelude.{nat_lt, codes, option_map, option_and_then}
use Rattle.std.specs.Fmt.{digit_glyph}
use Rattle.std.specs.Option.{option_or}
use Rattle.std.specs.Str.{bytes_eq}
use Rattle.std.proofs.Math.Seq.{take-append_seam, drop-append_seam}
use Rattle.std.proofs.lemmas.Bool.{cases_Bool, lt-ltb, ltb-true}
use Rattle.std.proofs.lemmas.List.{take-append-drop}
use Rattle.std.proofs.lemmas.Slice.Eq.{bytes_eq-Decides}
use Rattle.rtl_core.specs.declared.point.Point.{Point}
use Rattle.rtl_core.specs.declared.point.Slot.{Slot}
use Rattle.rtl_core.specs.declared.point.Slot.TheVariants.{Seq, To, Dyn, CallTo, CallDyn, Ret}
use Rattle.c_lang.specs.Spellable.{point_misfits, slot_misfits}
use Rattle.c_lang.proofs.SpellingLaws.{fits, has_bits}
use Rattle.c_text.specs.Words.{hex_digits, hex, function_word, slot_word, label_word}
use Rattle.c_scan.specs.Names.{hex_digit_value, hex_number, hex_address, behind, call_of, function_of, label_of, point_at, point_of, slot_of}
use Rattle.c_read.proofs.Words.{IsMeaning, Means, behind_stands, no_such_word}

from_more : (n b : ℕ) (bs : List ℕ) → hex_number n (bs ++ b ∷ []) ≡ hex_number n bs * 16 + hex_digit_value b
from_more n b [] = refl
from_more n b (c ∷ bs) = from_more (n * 16 + hex_digit_value c) b bs

glyph_back : (d : ℕ) → d < 16 → hex_digit_value (digit_glyph true d) ≡ d
glyph_back d l = grind arith

-- k hexadecimal digits are enough
abbrev HasDigits : ℕ → ℕ → Type 0
HasDigits zero n = n ≡ 0
HasDigits (suc k) n = HasDigits k (n / 16)

digits_back : (k n : ℕ) → HasDigits k n → hex_number 0 (hex_digits k n) ≡ n
digits_back zero n h = sym h
digits_back (suc k) n h =
    let rec : hex_number 0 (hex_digits k (n / 16)) ≡ n / 16 = digits_back k (n / 16) h in
    let g : hex_digit_value (digit_glyph true (n % 16)) ≡ n % 16 = glyph_back (n % 16) (omega arith) in
    let e : hex_number 0 (hex_digits k (n / 16) ++ digit_glyph true (n % 16) ∷ []) ≡ hex_number 0 (hex_digits k (n / 16)) * 16 + hex_digit_value (digit_glyph true (n % 16)) = from_more 0 (digit_glyph true (n % 16)) (hex_digits k (n / 16)) in
    omega arith

pub hex_back : (n : ℕ) → n < 2 ^ 32 → hex_number 0 (hex n) ≡ n
unfolding hex
hex_back n l = digits_back 8 n (omega arith)

pub address_back : (n : ℕ) → n < 2 ^ 32 → hex_address (hex n) ≡ Some n
address_back n l =
    let value : hex_number 0 (hex n) ≡ n = hex_back n l in
    let same : bytes_eq (hex n) (hex n) ≡ true = (bytes_eq-Decides (hex n) (hex n)).1 refl in
    rw (value, same, lt-ltb n (2 ^ 32) l) refl

-- these digits are those of an address
pub record IsAddress (ds : List ℕ) (n : ℕ) : Type 0 where
  pub same : ds ≡ hex n
  pub less : n < 2 ^ 32

pub address_stands : (ds : List ℕ) (n : ℕ) → hex_address ds ≡ Some n → IsAddress ds n
address_stands ds n h = by (cases_Bool (bytes_eq (hex (hex_number 0 ds)) ds)) (cases_Bool (nat_lt (hex_number 0 ds) (2 ^ 32)))
  where
    by : (bytes_eq (hex (hex_number 0 ds)) ds ≡ true) ⊎ (bytes_eq (hex (hex_number 0 ds)) ds ≡ false) → (nat_lt (hex_number 0 ds) (2 ^ 32) ≡ true) ⊎ (nat_lt (hex_number 0 ds) (2 ^ 32) ≡ false) → IsAddress ds n
    by (inl e) (inl f) =
        let same : Some (hex_number 0 ds) ≡ Some n = rw (e, f) at h in
        let it : hex_number 0 ds ≡ n = cc in
        record { same = sym ((bytes_eq-Decides (hex (hex_number 0 ds)) ds).0 e) ∙ ap hex it; less = subst (λ k. k < 2 ^ 32) it (ltb-true (hex_number 0 ds) (2 ^ 32) f) }
    by (inl e) (inr f) = no_such_word n (rw (e, f) at h)
    by (inr e) f = no_such_word n (rw e at h)

function_stands : (w : List ℕ) (n : ℕ) → function_of w ≡ Some n → Means function_word (λ n. n < 2 ^ 32) w n
function_stands w n h =
    let b = behind_stands (codes "f_") 2 hex_address w n h in
    let a = address_stands (drop 2 w) n b.rest in
    record { same = b.split ∙ ap (λ l. codes "f_" ++ l) a.same; proper = a.less }

pub function_meaning : IsMeaning function_word function_of (λ n. n < 2 ^ 32)
function_meaning = record { back = address_back; stands = function_stands }

-- ---- labels

digits_long : (k n : ℕ) → length (hex_digits k n) ≡ k
digits_long zero n = refl
digits_long (suc k) n = omega (arith, length-append (hex_digits k (n / 16)) (digit_glyph true (n % 16) ∷ []), digits_long k (n / 16))

hex_long : (n : ℕ) → length (hex n) ≡ 8
unfolding hex
hex_long n = digits_long 8 n

front_hex : (n : ℕ) (r : List ℕ) → take 8 (hex n ++ r) ≡ hex n
front_hex n r = ap (λ k. take k (hex n ++ r)) (sym (hex_long n)) ∙ take-append_seam (hex n) r

behind_hex : (n : ℕ) (r : List ℕ) → drop 8 (hex n ++ r) ≡ r
behind_hex n r = ap (λ k. drop k (hex n ++ r)) (sym (hex_long n)) ∙ drop-append_seam (hex n) r

abbrev IsSlot : Slot → Type 0
IsSlot s = slot_misfits s ≡ 0

-- what is made of an address that digits spell
mapped_stands : (f : ℕ → Slot) (front : List ℕ) → ((n : ℕ) → slot_word (f n) ≡ front ++ hex n) → ((n : ℕ) → n < 2 ^ 32 → IsSlot (f n)) → (w ds : List ℕ) (s : Slot) (o : Option ℕ) → hex_address ds ≡ o → option_map f o ≡ Some s → w ≡ front ++ ds → Means slot_word IsSlot w s
mapped_stands f front spelled proper w ds s None e h split = no_such_word s h
mapped_stands f front spelled proper w ds s (Some n) e h split =
    let a = address_stands ds n e in
    let it : f n ≡ s = cc in
    record { same = split ∙ ap (λ l. front ++ l) a.same ∙ sym (spelled n) ∙ ap slot_word it; proper = subst IsSlot it (proper n a.less) }

-- the choice of a front
fronted : (front : List ℕ) (n : ℕ) (of_rest : List ℕ → Option Slot) (w : List ℕ) (s : Slot) (rest : Option Slot) → option_or (behind front n of_rest w) rest ≡ Some s → (w ≡ front ++ drop n w → of_rest (drop n w) ≡ Some s → Means slot_word IsSlot w s)
    → (rest ≡ Some s → Means slot_word IsSlot w s) → Means slot_word IsSlot w s
fronted front n of_rest w s rest h here other = by (behind front n of_rest w) refl h
  where
    by : (o : Option Slot) → behind front n of_rest w ≡ o → option_or o rest ≡ Some s → Means slot_word IsSlot w s
    by None e h = other h
    by (Some u) e h = let b = behind_stands front n of_rest w s (e ∙ h) in here b.split b.rest

both_parts : (m n : ℕ) → m ≡ 0 → n ≡ 0 → m + n ≡ 0
both_parts m n e f = omega (arith, e, f)

call_stands : (w ds : List ℕ) (s : Slot) → call_of ds ≡ Some s → w ≡ codes "_C_" ++ ds → Means slot_word IsSlot w s
call_stands w ds s h split = by (hex_address (take 8 ds)) (behind (codes "_") 1 hex_address (drop 8 ds)) refl refl h
  where
    by : (o p : Option ℕ) → hex_address (take 8 ds) ≡ o → behind (codes "_") 1 hex_address (drop 8 ds) ≡ p → option_and_then (λ target. option_map (CallTo target) p) o ≡ Some s → Means slot_word IsSlot w s
    by None p e f h = no_such_word s h
    by (Some target) None e f h = no_such_word s h
    by (Some target) (Some back) e f h =
        let a = address_stands (take 8 ds) target e in
        let b = behind_stands (codes "_") 1 hex_address (drop 8 ds) back f in
        let c = address_stands (drop 1 (drop 8 ds)) back b.rest in
        let it : CallTo target back ≡ s = cc in
        let whole : ds ≡ hex target ++ (codes "_" ++ hex back) = sym (take-append-drop 8 ds) ∙ (λ i. a.same i ++ (b.split ∙ ap (λ l. codes "_" ++ l) c.same) i) in
        record {
          same = split ∙ ap (λ l. codes "_C_" ++ l) whole ∙ ap slot_word it;
          proper = subst IsSlot it (both_parts _ _ (fits 32 target a.less) (fits 32 back c.less));
        }

-- the slots of each front, and those behind it
abbrev to_part : List ℕ → Option Slot
to_part ds = option_map To (hex_address ds)

abbrev dyn_part : List ℕ → Option Slot
dyn_part ds = option_map Dyn (hex_address ds)

abbrev back_part : List ℕ → Option Slot
back_part ds = option_map CallDyn (hex_address ds)

abbrev behind_dyn : List ℕ → Option Slot
behind_dyn w = option_or (behind (codes "_E_") 3 back_part w) (behind (codes "_C_") 3 call_of w)

abbrev behind_to : List ℕ → Option Slot
behind_to w = option_or (behind (codes "_D_") 3 dyn_part w) (behind_dyn w)

other_slots : (w : List ℕ) (s : Slot) → option_or (behind (codes "_T_") 3 to_part w) (behind_to w) ≡ Some s → Means slot_word IsSlot w s
other_slots w s h =
    fronted (codes "_T_") 3 to_part w s (behind_to w) h (λ f g. mapped_stands To (codes "_T_") (λ n. refl) (λ n l. fits 32 n l) w (drop 3 w) s (hex_address (drop 3 w)) refl g f)
    (λ h. fronted (codes "_D_") 3 dyn_part w s (behind_dyn w) h (λ f g. mapped_stands Dyn (codes "_D_") (λ n. refl) (λ n l. fits 32 n l) w (drop 3 w) s (hex_address (drop 3 w)) refl g f)
    (λ h. fronted (codes "_E_") 3 back_part w s (behind (codes "_C_") 3 call_of w) h (λ f g. mapped_stands CallDyn (codes "_E_") (λ n. refl) (λ n l. fits 32 n l) w (drop 3 w) s (hex_address (drop 3 w)) refl g f)
    (λ h. let b = behind_stands (codes "_C_") 3 call_of w s h in call_stands w (drop 3 w) s b.rest b.split)))

slot_stands : (w : List ℕ) (s : Slot) → slot_of w ≡ Some s → Means slot_word IsSlot w s
slot_stands w s h = by (cases_Bool (bytes_eq w [])) (cases_Bool (bytes_eq w (codes "_R")))
  where
    by : (bytes_eq w [] ≡ true) ⊎ (bytes_eq w [] ≡ false) → (bytes_eq w (codes "_R") ≡ true) ⊎ (bytes_eq w (codes "_R") ≡ false) → Means slot_word IsSlot w s
    by (inl e) f = let same : Some Seq ≡ Some s = rw e at h in let it : Seq ≡ s = cc in record { same = (bytes_eq-Decides w []).0 e ∙ ap slot_word it; proper = subst IsSlot it refl }
    by (inr e) (inl f) = let same : Some Ret ≡ Some s = rw (e, f) at h in let it : Ret ≡ s = cc in record { same = (bytes_eq-Decides w (codes "_R")).0 f ∙ ap slot_word it; proper = subst IsSlot it refl }
    by (inr e) (inr f) = other_slots w s (rw (e, f) at h)

slot_back : (s : Slot) → IsSlot s → slot_of (slot_word s) ≡ Some s
slot_back Seq h = refl
slot_back (To a) h = rw (address_back a (has_bits 32 a h)) refl
slot_back (Dyn a) h = rw (address_back a (has_bits 32 a h)) refl
slot_back (CallTo a b) h =
    let one : a < 2 ^ 32 = has_bits 32 a (omega (arith, h)) in
    let two : b < 2 ^ 32 = has_bits 32 b (omega (arith, h)) in
    rw (front_hex a (codes "_" ++ hex b), behind_hex a (codes "_" ++ hex b), address_back a one, address_back b two) refl
slot_back (CallDyn a) h = rw (address_back a (has_bits 32 a h)) refl
slot_back Ret h = refl

abbrev IsPoint : Point → Type 0
IsPoint p = point_misfits p ≡ 0

label_stands : (w : List ℕ) (p : Point) → label_of w ≡ Some p → Means label_word IsPoint w p
label_stands w p h =
    let b = behind_stands (codes "L_") 2 point_of w p h in
    by (drop 2 w) (hex_address (take 8 (drop 2 w))) (slot_of (drop 8 (drop 2 w))) refl refl b.rest b.split
  where
    by : (ds : List ℕ) (o : Option ℕ) (q : Option Slot) → hex_address (take 8 ds) ≡ o → slot_of (drop 8 ds) ≡ q → option_and_then (λ pc. option_map (point_at pc) q) o ≡ Some p → w ≡ codes "L_" ++ ds → Means label_word IsPoint w p
    by ds None q e f h split = no_such_word p h
    by ds (Some pc) None e f h split = no_such_word p h
    by ds (Some pc) (Some slot) e f h split =
        let a = address_stands (take 8 ds) pc e in
        let s = slot_stands (drop 8 ds) slot f in
        let it : point_at pc slot ≡ p = cc in
        let whole : ds ≡ hex pc ++ slot_word slot = sym (take-append-drop 8 ds) ∙ (λ i. a.same i ++ s.same i) in
        record {
          same = split ∙ ap (λ l. codes "L_" ++ l) whole ∙ ap label_word it;
          proper = subst IsPoint it (both_parts _ _ (fits 32 pc a.less) s.proper);
        }

label_back : (p : Point) → IsPoint p → label_of (label_word p) ≡ Some p
label_back p h =
    let one : p.pc < 2 ^ 32 = has_bits 32 p.pc (omega (arith, h)) in
    let two : IsSlot p.slot = omega (arith, h) in
    rw (front_hex p.pc (slot_word p.slot), behind_hex p.pc (slot_word p.slot), address_back p.pc one, slot_back p.slot two) refl

pub label_meaning : IsMeaning label_word label_of IsPoint
label_meaning = record { back = label_back; stands = label_stands }
