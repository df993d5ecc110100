-- How items grow.
use Rattle.std.proofs.Common.{◌≡◌, ◌≢◌, ℕ, zero, suc, ◌<◌, ◌≤◌, ◌==◌, List, [], ◌∷◌, ◌++◌, length, drop, refl, sym, ap, ◌∙◌, subst, get_or, arith}
use Rattle.std.specs.Prelude.{if◌then◌else◌, reverse}
use Rattle.std.proofs.lemmas.List.{reverse-append, length-reverse, length-append}
use Rattle.std.proofs.lemmas.Bool.{eq-eqb, ne_eqb}
use Rattle.c_lang.specs.declared.tree.CExpr.{CExpr}
use Rattle.c_lang.specs.declared.tree.Function.{Function}
use Rattle.c_lang.specs.declared.tree.Stmt.{Stmt, out-Stmt}
use Rattle.c_lang.specs.declared.tree.Stmt.TheOpen.{Stmt-F}
use Rattle.c_lang.specs.declared.tree.Stmt.TheVariants.{If}
use Rattle.c_lang.proofs.StepLaws.{out-If}
use Rattle.c_places.specs.declared.items.Item.{Item}
use Rattle.c_places.specs.Rest.{rest_in, rest_at, all_placed, AllPlaced, Grown, Bodied, IsCallee}

-- nothing added
pub grown_none : (fs : List Function) (xs : List Item) (p : ℕ) → p ≤ length xs → Grown fs xs xs p (rest_at xs p)
grown_none fs xs p h = record { more = omega arith; inside = h; rest = refl; kept = λ q lt. refl; placed = λ a. a }

-- one thing after another
pub grown_on : (fs : List Function) (xs ys zs : List Item) (p q : ℕ) (a b : List Stmt) → Grown fs xs ys p a → Grown fs ys zs q b → Grown fs xs zs q b
grown_on fs xs ys zs p q a b g h = record {
  more = omega (arith, g.more, h.more);
  inside = h.inside;
  rest = h.rest;
  kept = λ r lt. let more : r ≤ length ys = omega (arith, g.more) in h.kept r more ∙ g.kept r lt;
  placed = λ x. h.placed (g.placed x);
}

at_push : (xs : List Item) (x : Item) (p : ℕ) → rest_at (xs ++ x ∷ []) p ≡ (if p == suc (length xs) then x.stmt.now ∷ rest_at xs x.next else rest_at xs p)
unfolding rest_at
at_push xs x p =
    ap (λ l. rest_in l p) (reverse-append xs (x ∷ []))
    ∙ ap (λ n. if p == suc n then x.stmt.now ∷ rest_in (reverse xs) x.next else rest_in (reverse xs) p) (length-reverse xs)

at_last : (xs : List Item) (x : Item) → rest_at (xs ++ x ∷ []) (suc (length xs)) ≡ x.stmt.now ∷ rest_at xs x.next
at_last xs x =
    at_push xs x (suc (length xs))
    ∙ ap (λ b. if b then x.stmt.now ∷ rest_at xs x.next else rest_at xs (suc (length xs))) (eq-eqb (suc (length xs)) (suc (length xs)) refl)

at_older : (xs : List Item) (x : Item) (p : ℕ) → p ≤ length xs → rest_at (xs ++ x ∷ []) p ≡ rest_at xs p
at_older xs x p h =
    let ne : p ≢ suc (length xs) = omega arith in
    at_push xs x p ∙ ap (λ b. if b then x.stmt.now ∷ rest_at xs x.next else rest_at xs p) (ne_eqb p (suc (length xs)) ne)

-- an item pushed: where its `if` has its body, if it is one
pub grown_push : (fs : List Function) (xs : List Item) (x : Item) → x.next ≤ length xs → x.body ≤ length xs
    → ((e : CExpr) (stmts : List Stmt) → x.stmt.now ≡ If e stmts → rest_at xs x.body ≡ stmts ++ rest_at xs x.next)
    → IsCallee fs x.stmt.now x.callee
    → Grown fs xs (xs ++ x ∷ []) (suc (length xs)) (x.stmt.now ∷ rest_at xs x.next)
unfolding rest_at AllPlaced
grown_push fs xs x next body inside callee =
    let len : length (xs ++ x ∷ []) ≡ suc (length xs) = length-append xs (x ∷ []) ∙ omega arith in
    record {
      more = omega (arith, len);
      inside = omega (arith, len);
      rest = at_last xs x;
      kept = at_older xs x;
      placed = λ old. subst (all_placed fs) (sym (reverse-append xs (x ∷ [])))
          (record { next = omega (arith, length-reverse xs); body = omega (arith, length-reverse xs); inside = inside; callee = callee }, old);
    }

-- a statement that is an `if` is none other
pub bodied_if : (fs : List Function) (xs ys : List Item) (p next : ℕ) (s : Stmt) (e : CExpr) (body : List Stmt) → s ≡ If e body → Grown fs xs ys p (body ++ rest_at xs next) → Bodied fs xs ys p s next
bodied_if fs xs ys p next s e body is g = record {
  more = g.more;
  inside = g.inside;
  rest = λ e' body' is'. let same : If e body ≡ If e' body' = sym is ∙ is' in g.rest ∙ ap (λ b. b ++ rest_at xs next) (if_body e e' body body' same);
  kept = g.kept;
  placed = g.placed;
}
  where
    if_body : (e e' : CExpr) (a b : List Stmt) → If e a ≡ If e' b → a ≡ b
    if_body e e' a b h = let p : Stmt-F.If e a ≡ Stmt-F.If e' b = sym (out-If e a) ∙ ap out-Stmt h ∙ out-If e' b in cc

pub add_item : (fs : List Function) (xs ys : List Item) (x : Item) (next : ℕ) → next ≤ length xs → x.next ≡ next → IsCallee fs x.stmt.now x.callee → Bodied fs xs ys x.body x.stmt.now next
    → Grown fs xs (ys ++ x ∷ []) (suc (length ys)) (x.stmt.now ∷ rest_at xs next)
add_item fs xs ys x next le is callee b =
    let inside : x.next ≤ length ys = omega (arith, b.more, is) in
    let same : rest_at ys x.next ≡ rest_at xs next = ap (rest_at ys) is ∙ b.kept next le in
    let g = grown_push fs ys x inside b.inside (λ e stmts h. b.rest e stmts h ∙ ap (λ r. stmts ++ r) (sym same)) callee in
    record {
      more = omega (arith, b.more, g.more);
      inside = g.inside;
      rest = g.rest ∙ ap (λ r. x.stmt.now ∷ r) same;
      kept = λ p lt. let more : p ≤ length ys = omega (arith, b.more) in g.kept p more ∙ b.kept p lt;
      placed = λ a. g.placed (b.placed a);
    }

drop_at : (xs : List Stmt) (k : ℕ) (d : Stmt) → k < length xs → drop k xs ≡ get_or xs k d ∷ drop (suc k) xs
drop_at [] k d h = absurd (omega arith)
drop_at (x ∷ xs) zero d h = refl
drop_at (x ∷ xs) (suc k) d h = drop_at xs k d (omega arith)

-- one statement more in front
pub add_front : (fs : List Function) (xs ys zs : List Item) (p q : ℕ) (stmts base : List Stmt) (k : ℕ) (x : Stmt) → k < length stmts → x ≡ get_or stmts k x
    → Grown fs xs ys p (drop (suc k) stmts ++ base) → Grown fs ys zs q (x ∷ rest_at ys p) → Grown fs xs zs q (drop k stmts ++ base)
add_front fs xs ys zs p q stmts base k x lt is g h =
    let e : x ∷ rest_at ys p ≡ drop k stmts ++ base =
    ap (λ r. x ∷ r) g.rest ∙ ap (λ y. y ∷ drop (suc k) stmts ++ base) is ∙ ap (λ l. l ++ base) (sym (drop_at stmts k x lt)) in
    subst (Grown fs xs zs q) e (grown_on fs xs ys zs p q (drop (suc k) stmts ++ base) (x ∷ rest_at ys p) g h)

pub length_push : (xs : List Item) (x : Item) → length (xs ++ x ∷ []) ≡ suc (length xs)
length_push xs x = length-append xs (x ∷ []) ∙ omega arith
