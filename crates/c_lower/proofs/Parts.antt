-- The parts of an expression that can be lowered.
use Rattle.std.proofs.Common.{◌≡◌, ℕ, ◌+◌, ◌≤◌, ◌<◌, ap, ◌∙◌, subst, arith, length}
use Rattle.rtl_core.specs.declared.expr.Un.{Un as UnOp}
use Rattle.rtl_core.specs.declared.expr.Bin.{Bin as BinOp}
use Rattle.rtl_core.specs.declared.expr.Expr.{Expr}
use Rattle.rtl_core.specs.declared.expr.Expr.TheVariants as E
use Rattle.rtl_core.specs.declared.machine.Machine.{Machine}
use Rattle.rtl_core.specs.SoundTerms.{IsSoundTerm}
use Rattle.rtl_core.specs.Terms.{Term, Const, Cell, Load, Unary, Binary, Slice, Zext, Sext, Choice, term_of, width_of}
use Rattle.rtl_core.proofs.Fits.{is_width, size_range}
use Rattle.rtl_core.proofs.TermLaws.{term-Const, term-Cell, term-Load, term-Un, term-Bin, term-Slice, term-Zext, term-Sext, term-If, term_laws}
use Rattle.c_lower.specs.Code.{need}
use Rattle.c_lower.specs.Lowerable.{CanLower}

-- what is known of an expression as a term
sound_as : (m : Machine) (e : Expr) (k : ℕ) (t : Term) → term_of e ≡ t → CanLower m e k → IsSoundTerm m.widths t
sound_as m e k t is h = subst (IsSoundTerm m.widths) is h.sound

room_as : (m : Machine) (e : Expr) (k : ℕ) (t : Term) → term_of e ≡ t → CanLower m e k → k + need t ≤ 500
room_as m e k t is h = subst (λ x. k + need x ≤ 500) is h.room

pub can_0 : (m : Machine) (e : Expr) (k : ℕ) → CanLower m e k → CanLower m e 0
can_0 m e k h = record { widths = h.widths; sound = h.sound; room = omega (arith, h.room) }

pub can_Load_a : (m : Machine) (e : Expr) (b : ℕ) (a : Expr) (k : ℕ) → e ≡ E.Load b a → CanLower m e k → CanLower m a k
can_Load_a m e b a k is h =
    let t = ap term_of is ∙ term-Load b a in let s = sound_as m e k (Load b (term_of a)) t h in let r = room_as m e k (Load b (term_of a)) t h in
    record { widths = h.widths; sound = s.0; room = omega (arith, r) }

pub can_Un_a : (m : Machine) (e : Expr) (op : UnOp) (a : Expr) (k : ℕ) → e ≡ E.Un op a → CanLower m e k → CanLower m a k
can_Un_a m e op a k is h =
    let t = ap term_of is ∙ term-Un op a in let s = sound_as m e k (Unary op (term_of a)) t h in let r = room_as m e k (Unary op (term_of a)) t h in
    record { widths = h.widths; sound = s; room = omega (arith, r) }

pub can_Bin_a : (m : Machine) (e : Expr) (op : BinOp) (a b : Expr) (k : ℕ) → e ≡ E.Bin op a b → CanLower m e k → CanLower m a k
can_Bin_a m e op a b k is h =
    let t = ap term_of is ∙ term-Bin op a b in let s = sound_as m e k (Binary op (term_of a) (term_of b)) t h in let r = room_as m e k (Binary op (term_of a) (term_of b)) t h in
    record { widths = h.widths; sound = s.0; room = omega (arith, r) }

pub can_Bin_b : (m : Machine) (e : Expr) (op : BinOp) (a b : Expr) (k : ℕ) → e ≡ E.Bin op a b → CanLower m e k → CanLower m b (k + 1)
can_Bin_b m e op a b k is h =
    let t = ap term_of is ∙ term-Bin op a b in let s = sound_as m e k (Binary op (term_of a) (term_of b)) t h in let r = room_as m e k (Binary op (term_of a) (term_of b)) t h in
    record { widths = h.widths; sound = s.1; room = omega (arith, r) }

pub can_Slice_a : (m : Machine) (e : Expr) (lo hi : ℕ) (a : Expr) (k : ℕ) → e ≡ E.Slice a lo hi → CanLower m e k → CanLower m a k
can_Slice_a m e lo hi a k is h =
    let t = ap term_of is ∙ term-Slice a lo hi in let s = sound_as m e k (Slice (term_of a) lo hi) t h in let r = room_as m e k (Slice (term_of a) lo hi) t h in
    record { widths = h.widths; sound = s.0; room = omega (arith, r) }

pub can_Zext_a : (m : Machine) (e : Expr) (w : ℕ) (a : Expr) (k : ℕ) → e ≡ E.Zext w a → CanLower m e k → CanLower m a k
can_Zext_a m e w a k is h =
    let t = ap term_of is ∙ term-Zext w a in let s = sound_as m e k (Zext w (term_of a)) t h in let r = room_as m e k (Zext w (term_of a)) t h in
    record { widths = h.widths; sound = s.0; room = omega (arith, r) }

pub can_Sext_a : (m : Machine) (e : Expr) (w : ℕ) (a : Expr) (k : ℕ) → e ≡ E.Sext w a → CanLower m e k → CanLower m a k
can_Sext_a m e w a k is h =
    let t = ap term_of is ∙ term-Sext w a in let s = sound_as m e k (Sext w (term_of a)) t h in let r = room_as m e k (Sext w (term_of a)) t h in
    record { widths = h.widths; sound = s.0; room = omega (arith, r) }

pub can_If_c : (m : Machine) (e : Expr) (c a b : Expr) (k : ℕ) → e ≡ E.If c a b → CanLower m e k → CanLower m c k
can_If_c m e c a b k is h =
    let t = ap term_of is ∙ term-If c a b in let s = sound_as m e k (Choice (term_of c) (term_of a) (term_of b)) t h in let r = room_as m e k (Choice (term_of c) (term_of a) (term_of b)) t h in
    record { widths = h.widths; sound = s.0; room = omega (arith, r) }

pub can_If_a : (m : Machine) (e : Expr) (c a b : Expr) (k : ℕ) → e ≡ E.If c a b → CanLower m e k → CanLower m a (k + 1)
can_If_a m e c a b k is h =
    let t = ap term_of is ∙ term-If c a b in let s = sound_as m e k (Choice (term_of c) (term_of a) (term_of b)) t h in let r = room_as m e k (Choice (term_of c) (term_of a) (term_of b)) t h in
    record { widths = h.widths; sound = s.1; room = omega (arith, r) }

pub can_If_b : (m : Machine) (e : Expr) (c a b : Expr) (k : ℕ) → e ≡ E.If c a b → CanLower m e k → CanLower m b (k + 2)
can_If_b m e c a b k is h =
    let t = ap term_of is ∙ term-If c a b in let s = sound_as m e k (Choice (term_of c) (term_of a) (term_of b)) t h in let r = room_as m e k (Choice (term_of c) (term_of a) (term_of b)) t h in
    record { widths = h.widths; sound = s.2; room = omega (arith, r) }

-- ---- ranges
pub cell_in : (m : Machine) (e : Expr) (c k : ℕ) → e ≡ E.Cell c → CanLower m e k → c < length m.widths
cell_in m e c k is h = sound_as m e k (Cell c) (ap term_of is ∙ term-Cell c) h

pub width_in : (m : Machine) (e : Expr) (k : ℕ) → CanLower m e k → (1 ≤ width_of m.widths (term_of e)) × (width_of m.widths (term_of e) ≤ 64)
width_in m e k h = is_width m.widths h.widths (term_of e) h.sound

pub load_in : (m : Machine) (e : Expr) (b : ℕ) (a : Expr) (k : ℕ) → e ≡ E.Load b a → CanLower m e k → b ≤ 8
load_in m e b a k is h = let s = sound_as m e k (Load b (term_of a)) (ap term_of is ∙ term-Load b a) h in let r = size_range b s.2 in r.1

pub slice_in : (m : Machine) (e a : Expr) (lo hi k : ℕ) → e ≡ E.Slice a lo hi → CanLower m e k → (lo ≤ hi) × (hi < 64)
slice_in m e a lo hi k is h =
    let s = sound_as m e k (Slice (term_of a) lo hi) (ap term_of is ∙ term-Slice a lo hi) h in
    let w = is_width m.widths h.widths (term_of a) s.0 in
    (s.1, omega arith)

pub sext_in : (m : Machine) (e : Expr) (w : ℕ) (a : Expr) (k : ℕ) → e ≡ E.Sext w a → CanLower m e k → (width_of m.widths (term_of a) ≤ w) × (w ≤ 64)
sext_in m e w a k is h = let s = sound_as m e k (Sext w (term_of a)) (ap term_of is ∙ term-Sext w a) h in (s.1, s.2)

needs : (t : Term) → 1 ≤ need t
needs (Const w n) = omega arith
needs (Cell c) = omega arith
needs (Load b a) = needs a
needs (Unary op a) = needs a
needs (Binary op a b) = omega (arith, needs a)
needs (Slice a lo hi) = needs a
needs (Zext w a) = needs a
needs (Sext w a) = needs a
needs (Choice c a b) = omega (arith, needs c)

pub temp_in : (m : Machine) (e : Expr) (k : ℕ) → CanLower m e k → k < 500
temp_in m e k h = omega (arith, h.room, needs (term_of e))

pub ruleset can_laws = (load_in, slice_in, sext_in, temp_in, can_0, can_Load_a, can_Un_a, can_Bin_a, can_Bin_b, can_Slice_a, can_Zext_a, can_Sext_a, can_If_c, can_If_a, can_If_b, cell_in, width_in, term_laws)
