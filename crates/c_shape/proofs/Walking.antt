-- Pieces of the code of a point: what they read, and what they may enter and leave.
use Rattle.std.proofs.Common.{◌≡◌, ℕ, Bool, true, false, List, [], ◌∷◌, ◌++◌, append_assoc, refl, ap, ◌∙◌}
use Rattle.std.specs.Prelude.{nat_lt}
use Rattle.rtl_core.specs.declared.point.Point.{Point}
use Rattle.points.specs.Control.{most_calls}
use Rattle.c_lang.specs.declared.tree.COp.TheVariants.{Add, Mul, Eq, Ne, Lt, Le}
use Rattle.c_lang.specs.declared.tree.CExpr.{CExpr}
use Rattle.c_lang.specs.declared.tree.CExpr.TheVariants.{Num, Of, Bin}
use Rattle.c_lang.specs.declared.tree.End.TheVariants.{Return}
use Rattle.c_lang.specs.declared.tree.Stmt.{Stmt}
use Rattle.c_lang.specs.declared.tree.Stmt.TheVariants.{Set, If}
use Rattle.c_lang.specs.declared.tree.Var.TheVariants.{Pt, Cell, Temp, Wn, Depth, ServeE}
use Rattle.c_lower.specs.Tidy.{Reads, number, a_cell, a_temp, count, two, three, Tidy, ends as tidy_ends, sets_temp as tidy_temp, sets_cell as tidy_cell, sets_count as tidy_count, loads as tidy_loads, stores as tidy_stores, takes as tidy_takes, puts as tidy_puts, tests as tidy_tests, stops as tidy_stops, with_temp, most_nesting}
use Rattle.c_control.specs.Blocks.{Code, code}
use Rattle.c_control.specs.Choice.{Tree, Leaf, Node, choose_c, is_low, is_high}
use Rattle.c_control.specs.Pieces.{undiscovered_stop, depth_stop, jumped_c, annuls_c, flags_c, stop_if, deeper_c, call_c, tail_c, leaf_c}
use Rattle.c_control.specs.Plans.{Plan}
use Rattle.c_static.proofs.PieceSays.{AllLeaves}
use Rattle.c_shape.specs.Performing.{CanCall, CanJump, GoesBack, IsBehind, Knows, Last, Performs, Quiet}

-- ---- lists

pub quiet-append : (xs ys : List Stmt) → Quiet xs → Quiet ys → Quiet (xs ++ ys)
quiet-append xs ys (Quiet.empty) k = k
quiet-append xs ys (Quiet.sets v e {rest = rest} h) k = Quiet.sets v e (quiet-append rest ys h k)
quiet-append xs ys (Quiet.loads v size e {rest = rest} h) k = Quiet.loads v size e (quiet-append rest ys h k)
quiet-append xs ys (Quiet.stores size a e {rest = rest} h) k = Quiet.stores size a e (quiet-append rest ys h k)
quiet-append xs ys (Quiet.takes v e {rest = rest} h) k = Quiet.takes v e (quiet-append rest ys h k)
quiet-append xs ys (Quiet.puts i e {rest = rest} h) k = Quiet.puts i e (quiet-append rest ys h k)
quiet-append xs ys (Quiet.serves n x y z {rest = rest} h) k = Quiet.serves n x y z (quiet-append rest ys h k)
quiet-append xs ys (Quiet.stops n e {rest = rest} h) k = Quiet.stops n e (quiet-append rest ys h k)
quiet-append xs ys (Quiet.tests e {rest = rest} b h) k = Quiet.tests e b (quiet-append rest ys h k)

pub last-itself : (xs : List Stmt) → Last xs xs
last-itself xs = record { front = []; quiet = Quiet.empty; is = refl }

pub last-through : (xs ys zs : List Stmt) → Last xs ys → Last ys zs → Last xs zs
last-through xs ys zs h k = record { front = k.front ++ h.front; quiet = quiet-append k.front h.front k.quiet h.quiet; is = append_assoc k.front h.front xs ∙ ap (λ l. k.front ++ l) h.is ∙ k.is }

-- the statements of an instruction enter no procedure
pub tidy-quiet : (named : ℕ → Bool) (temps n : ℕ) (D E : ℕ → Bool) (s : List Stmt) → Tidy named temps n D s E → Quiet s
tidy-quiet named temps n D E s (tidy_ends h) = Quiet.empty
tidy-quiet named temps n D E s (tidy_temp k e {rest = rest} lt r t) = Quiet.sets (Temp k) e (tidy-quiet named temps n (with_temp D k) E rest t)
tidy-quiet named temps n D E s (tidy_cell c e {rest = rest} h r t) = Quiet.sets (Cell c) e (tidy-quiet named temps n D E rest t)
tidy-quiet named temps n D E s (tidy_count e {rest = rest} r t) = Quiet.sets Wn e (tidy-quiet named temps n D E rest t)
tidy-quiet named temps n D E s (tidy_loads k size e {rest = rest} lt z r t) = Quiet.loads (Temp k) size e (tidy-quiet named temps n (with_temp D k) E rest t)
tidy-quiet named temps n D E s (tidy_stores size a e {rest = rest} z r q t) = Quiet.stores size a e (tidy-quiet named temps n D E rest t)
tidy-quiet named temps n D E s (tidy_takes c e {rest = rest} h r t) = Quiet.takes (Cell c) e (tidy-quiet named temps n D E rest t)
tidy-quiet named temps n D E s (tidy_puts i e {rest = rest} r q t) = Quiet.puts i e (tidy-quiet named temps n D E rest t)
tidy-quiet named temps n D E s (tidy_tests {n = m} {F = F} e {body = body} {rest = rest} r u t) = Quiet.tests e (tidy-quiet named temps m D F body u) (tidy-quiet named temps n D E rest t)
tidy-quiet named temps n D E s (tidy_stops k e {rest = rest} lt r t) = Quiet.stops k e (tidy-quiet named temps n D E rest t)

-- ---- what is assigned

-- t0 to t3 are assigned
abbrev pub Four : (ℕ → Bool) → Type 0
Four D = (i : ℕ) → nat_lt i 4 ≡ true → D i ≡ true

abbrev pub none : ℕ → Bool
none i = false

abbrev pub four : ℕ → Bool
four i = nat_lt i 4

pub none-in-all : (D : ℕ → Bool) (i : ℕ) → none i ≡ true → D i ≡ true
none-in-all D i e = let no : ⊥ = cc in absurd no

pub knows-temp : (D : ℕ → Bool) → Four D → (k : ℕ) → nat_lt k 4 ≡ true → Knows D (Of (Temp k))
knows-temp D h k lt = Knows.a_temp k (h k lt)

pub knows-jumped : (D : ℕ → Bool) → Four D → Knows D jumped_c
knows-jumped D h = knows-temp D h 1 refl

pub knows-annuls : (D : ℕ → Bool) → Four D → Knows D annuls_c
knows-annuls D h = knows-temp D h 2 refl

pub knows-flags : (D : ℕ → Bool) → Four D → Knows D flags_c
knows-flags D h = Knows.two Add jumped_c (Bin Mul (Num 2) annuls_c) (knows-jumped D h) (Knows.two Mul (Num 2) annuls_c (Knows.number 2) (knows-annuls D h))

pub knows-pt : (D : ℕ → Bool) → Knows D (Of Pt)
knows-pt D = Knows.variable Pt refl

pub knows-flag : (D : ℕ → Bool) → Knows D (Of ServeE)
knows-flag D = Knows.variable ServeE refl

knows-depth : (D : ℕ → Bool) → Knows D (Of Depth)
knows-depth D = Knows.variable Depth refl

reads-known : (named : ℕ → Bool) (temps : ℕ) (D : ℕ → Bool) (n : ℕ) (e : CExpr) → Reads named temps D n e → Knows D e
reads-known named temps D n e (number x lt) = Knows.number x
reads-known named temps D n e (a_cell c h) = Knows.variable (Cell c) refl
reads-known named temps D n e (a_temp k lt h) = Knows.a_temp k h
reads-known named temps D n e count = Knows.variable Wn refl
reads-known named temps D n e (two {n = m} op a b h k) = Knows.two op a b (reads-known named temps D m a h) (reads-known named temps D m b k)
reads-known named temps D n e (three {n = m} c a b f h k) = Knows.three c a b (reads-known named temps D m c f) (reads-known named temps D m a h) (reads-known named temps D m b k)

module _ (plan : Plan) (roots : List ℕ) (p : ℕ) (b : Point) where
  -- ---- with more in front

  pub behind : (c : Code) (stmts : List Stmt) → Last c.stmts stmts → (D E : ℕ → Bool) (s : List Stmt) → Performs plan roots p b c D s E → Performs plan roots p b (code stmts c.end) D s E
  behind c stmts in_it D E s (Performs.ends h) = Performs.ends h
  behind c stmts in_it D E s (Performs.sets_temp k e {rest = rest} r t) = Performs.sets_temp k e r (behind c stmts in_it (with_temp D k) E rest t)
  behind c stmts in_it D E s (Performs.sets v e {rest = rest} o r t) = Performs.sets v e o r (behind c stmts in_it D E rest t)
  behind c stmts in_it D E s (Performs.loads k size e {rest = rest} r t) = Performs.loads k size e r (behind c stmts in_it (with_temp D k) E rest t)
  behind c stmts in_it D E s (Performs.stores size a e {rest = rest} r q t) = Performs.stores size a e r q (behind c stmts in_it D E rest t)
  behind c stmts in_it D E s (Performs.takes x e {rest = rest} r t) = Performs.takes x e r (behind c stmts in_it D E rest t)
  behind c stmts in_it D E s (Performs.puts i e {rest = rest} r q t) = Performs.puts i e r q (behind c stmts in_it D E rest t)
  behind c stmts in_it D E s (Performs.serves n x y z {rest = rest} h i j k t) = Performs.serves n x y z h i j k (behind c stmts in_it D E rest t)
  behind c stmts in_it D E s (Performs.tests {F = F} e {body = body} {rest = rest} r t u) = Performs.tests e r (behind c stmts in_it D F body t) (behind c stmts in_it D E rest u)
  behind c stmts in_it D E s (Performs.stops k e {rest = rest} r t) = Performs.stops k e r (behind c stmts in_it D E rest t)
  behind c stmts in_it D E s (Performs.calls t back {rest = rest} can goes follows u) = Performs.calls t back can (by goes) follows (behind c stmts in_it D E rest u)
    where
      by : GoesBack plan back c → GoesBack plan back (code stmts c.end)
      by (GoesBack.at_once {enters = enters} is l e) = GoesBack.at_once is (last-through enters c.stmts stmts l in_it) e
      by (GoesBack.chosen {enters = enters} j a s m n k e is l end) = GoesBack.chosen j a s m n k e is (last-through (If (Bin Eq jumped_c (Num 3)) enters ∷ []) c.stmts stmts l in_it) end
  behind c stmts in_it D E s (Performs.jumps t can e h) = Performs.jumps t can e h
  behind c stmts in_it D E s (Performs.returns can e h) = Performs.returns can e h

  module _ (w : Code) where
    abbrev pub W : (ℕ → Bool) → List Stmt → (ℕ → Bool) → Type 0
    W D s E = Performs plan roots p b w D s E

    pub done : (D : ℕ → Bool) → W D [] D
    done D = Performs.ends (λ i h. h)

    -- ---- the statements of an instruction

    module _ (named : ℕ → Bool) (temps : ℕ) where
      knows : (D : ℕ → Bool) (e : CExpr) → Reads named temps D most_nesting e → Knows D e
      knows D e r = reads-known named temps D most_nesting e r

      tidy-alone : (n : ℕ) (D E : ℕ → Bool) (s : List Stmt) → Tidy named temps n D s E → W D s E
      tidy-alone n D E s (tidy_ends h) = Performs.ends h
      tidy-alone n D E s (tidy_temp k e {rest = rest} lt r t) = Performs.sets_temp k e (knows D e r) (tidy-alone n (with_temp D k) E rest t)
      tidy-alone n D E s (tidy_cell c e {rest = rest} h r t) = Performs.sets (Cell c) e refl (knows D e r) (tidy-alone n D E rest t)
      tidy-alone n D E s (tidy_count e {rest = rest} r t) = Performs.sets Wn e refl (knows D e r) (tidy-alone n D E rest t)
      tidy-alone n D E s (tidy_loads k size e {rest = rest} lt z r t) = Performs.loads k size e (knows D e r) (tidy-alone n (with_temp D k) E rest t)
      tidy-alone n D E s (tidy_stores size a e {rest = rest} z r q t) = Performs.stores size a e (knows D a r) (knows D e q) (tidy-alone n D E rest t)
      tidy-alone n D E s (tidy_takes c e {rest = rest} h r t) = Performs.takes c e (knows D e r) (tidy-alone n D E rest t)
      tidy-alone n D E s (tidy_puts i e {rest = rest} r q t) = Performs.puts i e (knows D i r) (knows D e q) (tidy-alone n D E rest t)
      tidy-alone n D E s (tidy_tests {n = m} {F = F} e {body = body} {rest = rest} r u t) = Performs.tests e (knows D e r) (tidy-alone m D F body u) (tidy-alone n D E rest t)
      tidy-alone n D E s (tidy_stops k e {rest = rest} lt r t) = Performs.stops k e (knows D e r) (tidy-alone n D E rest t)

      -- and what comes behind them
      pub tidy-then : (n : ℕ) (D E : ℕ → Bool) (s : List Stmt) → Tidy named temps n D s E → (more : List Stmt) (G : ℕ → Bool) → ((C : ℕ → Bool) → ((i : ℕ) → E i ≡ true → C i ≡ true) → W C more G) → W D (s ++ more) G
      tidy-then n D E s (tidy_ends h) more G k = k D h
      tidy-then n D E s (tidy_temp x e {rest = rest} lt r t) more G k = Performs.sets_temp x e (knows D e r) (tidy-then n (with_temp D x) E rest t more G k)
      tidy-then n D E s (tidy_cell c e {rest = rest} h r t) more G k = Performs.sets (Cell c) e refl (knows D e r) (tidy-then n D E rest t more G k)
      tidy-then n D E s (tidy_count e {rest = rest} r t) more G k = Performs.sets Wn e refl (knows D e r) (tidy-then n D E rest t more G k)
      tidy-then n D E s (tidy_loads x size e {rest = rest} lt z r t) more G k = Performs.loads x size e (knows D e r) (tidy-then n (with_temp D x) E rest t more G k)
      tidy-then n D E s (tidy_stores size a e {rest = rest} z r q t) more G k = Performs.stores size a e (knows D a r) (knows D e q) (tidy-then n D E rest t more G k)
      tidy-then n D E s (tidy_takes c e {rest = rest} h r t) more G k = Performs.takes c e (knows D e r) (tidy-then n D E rest t more G k)
      tidy-then n D E s (tidy_puts i e {rest = rest} r q t) more G k = Performs.puts i e (knows D i r) (knows D e q) (tidy-then n D E rest t more G k)
      tidy-then n D E s (tidy_tests {n = m} {F = F} e {body = body} {rest = rest} r u t) more G k = Performs.tests e (knows D e r) (tidy-alone m D F body u) (tidy-then n D E rest t more G k)
      tidy-then n D E s (tidy_stops x e {rest = rest} lt r t) more G k = Performs.stops x e (knows D e r) (tidy-then n D E rest t more G k)

    -- ---- calls and jumps

    module _ (D E : ℕ → Bool) where
      pub stop : (e : CExpr) (n : ℕ) (v : CExpr) (rest : List Stmt) → Knows D e → Knows D v → W D rest E → W D (stop_if e n v rest) E
      stop e n v rest h k t = Performs.tests e h (Performs.stops n v k (done D)) t

      deeper : (rest : List Stmt) → W D rest E → W D (deeper_c rest) E
      deeper rest t =
          stop (Bin Eq (Of Depth) (Num most_calls)) depth_stop (Num 0) (Set Depth (Bin Add (Of Depth) (Num 1)) ∷ rest) (Knows.two Eq (Of Depth) (Num most_calls) (knows-depth D) (Knows.number most_calls)) (Knows.number 0)
          (Performs.sets Depth (Bin Add (Of Depth) (Num 1)) refl (Knows.two Add (Of Depth) (Num 1) (knows-depth D) (Knows.number 1)) t)

      pub call : (back t : ℕ) (rest : List Stmt) → CanCall plan roots b t back → GoesBack plan back w → IsBehind rest → W D rest E → W D (call_c plan back t rest) E
      call back t rest can goes follows u = deeper _ (Performs.calls t back can goes follows u)

      jump : (t : ℕ) → CanJump plan roots b t → w.end ≡ Return → ((i : ℕ) → E i ≡ true → D i ≡ true) → W D (tail_c plan p t []) E
      jump t can e h = deeper _ (Performs.jumps t can e h)

      leaf : (enter : ℕ → List Stmt → List Stmt) (t : ℕ) (rest : List Stmt) → W D (enter t rest) E → W D (leaf_c enter t rest) E
      leaf enter t rest k = stop (Bin Ne (Of Pt) (Num t)) undiscovered_stop (Of Pt) (enter t rest) (Knows.two Ne (Of Pt) (Num t) (knows-pt D) (Knows.number t)) (knows-pt D) k

    -- a choice leaves two ways, by whether the target is below a number
    halves : (D E : ℕ → Bool) (middle : ℕ) (low high rest : List Stmt) → W D low D → W D high D → W D rest E → W D (If (is_low middle) low ∷ If (is_high middle) high ∷ rest) E
    halves D E middle low high rest h k r =
        Performs.tests (is_low middle) (Knows.two Lt (Of Pt) (Num middle) (knows-pt D) (Knows.number middle)) h
        (Performs.tests (is_high middle) (Knows.two Le (Num middle) (Of Pt) (Knows.number middle) (knows-pt D)) k r)

    pub choose-calls : (back : ℕ) → GoesBack plan back w → (tree : Tree) (D E : ℕ → Bool) (rest : List Stmt) → AllLeaves (λ t. CanCall plan roots b t back) tree → IsBehind rest → W D rest E
        → W D (choose_c (leaf_c (call_c plan back)) tree rest) E
    choose-calls back goes (Leaf t) D E rest can follows k = leaf D E (call_c plan back) t rest (call D E back t rest can goes follows k)
    choose-calls back goes (Node middle low high) D E rest can follows k =
        halves D E middle (choose_c (leaf_c (call_c plan back)) low []) (choose_c (leaf_c (call_c plan back)) high []) rest
        (choose-calls back goes low D D [] can.0 IsBehind.nothing (done D)) (choose-calls back goes high D D [] can.1 IsBehind.nothing (done D)) k

    pub choose-jumps : w.end ≡ Return → (tree : Tree) (D E : ℕ → Bool) → AllLeaves (CanJump plan roots b) tree → ((i : ℕ) → E i ≡ true → D i ≡ true) → W D (choose_c (leaf_c (tail_c plan p)) tree []) E
    choose-jumps e (Leaf t) D E can h = leaf D E (tail_c plan p) t [] (jump D E t can e h)
    choose-jumps e (Node middle low high) D E can h =
        halves D E middle (choose_c (leaf_c (tail_c plan p)) low []) (choose_c (leaf_c (tail_c plan p)) high []) []
        (choose-jumps e low D D can.0 (λ i x. x)) (choose-jumps e high D D can.1 (λ i x. x)) (Performs.ends h)
