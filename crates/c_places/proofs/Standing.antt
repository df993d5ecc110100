-- What an item says of its place.
use Rattle.std.proofs.Common.{◌≡◌, ◌≢◌, ℕ, zero, suc, ◌<◌, ◌≤◌, ◌==◌, Bool, true, false, Option, Some, None, List, [], ◌∷◌, ◌++◌, length, refl, sym, ap, ◌∙◌, subst, arith}
use Rattle.std.specs.Prelude.{if◌then◌else◌, reverse, slice_get}
use Rattle.std.proofs.lemmas.List.{reverse-append, reverse-reverse, length-reverse}
use Rattle.std.proofs.lemmas.Bool.{eq-eqb, ne_eqb, eqb-true, eqb-false}
use Rattle.c_lang.specs.declared.tree.CExpr.{CExpr}
use Rattle.c_lang.specs.declared.tree.Function.{Function}
use Rattle.c_lang.specs.declared.tree.Stmt.{Stmt}
use Rattle.c_lang.specs.declared.tree.Stmt.TheVariants.{If}
use Rattle.c_places.specs.declared.items.Item.{Item}
use Rattle.c_places.specs.Rest.{rest_in, rest_at, IsPlaced, all_placed, AllPlaced, IsCallee, IsItem}

-- the item of a number, the last one first
item_in : List Item → ℕ → Option Item
item_in [] k = None
item_in (x ∷ older) k = if k == length older then Some x else item_in older k

-- a place past the last item has nothing left
past : (xs : List Item) (p : ℕ) → length xs < p → rest_in xs p ≡ []
past [] p h = refl
past (x ∷ older) p h =
    let ne : p ≢ suc (length older) = omega arith in
    ap (λ b. if b then x.stmt.now ∷ rest_in older x.next else rest_in older p) (ne_eqb p (suc (length older)) ne) ∙ past older p (omega arith)

-- nothing is left at the place 0
at_zero : (xs : List Item) → rest_in xs 0 ≡ []
at_zero [] = refl
at_zero (x ∷ older) =
    let ne : 0 ≢ suc (length older) = omega arith in
    ap (λ b. if b then x.stmt.now ∷ rest_in older x.next else rest_in older 0) (ne_eqb 0 (suc (length older)) ne) ∙ at_zero older

-- one item more leaves the places of older ones
older_in : (x : Item) (older : List Item) (p : ℕ) → p ≤ length older → rest_in (x ∷ older) p ≡ rest_in older p
older_in x older p h =
    let ne : p ≢ suc (length older) = omega arith in
    ap (λ b. if b then x.stmt.now ∷ rest_in older x.next else rest_in older p) (ne_eqb p (suc (length older)) ne)

-- what an item says among the items, the last one first
record Says (fs : List Function) (xs : List Item) (k : ℕ) (x : Item) : Type 0 where
  low : suc k ≤ length xs
  next : x.next ≤ length xs
  body : x.body ≤ length xs
  rest : rest_in xs (suc k) ≡ x.stmt.now ∷ rest_in xs x.next
  inside : (e : CExpr) (stmts : List Stmt) → x.stmt.now ≡ If e stmts → rest_in xs x.body ≡ stmts ++ rest_in xs x.next
  callee : IsCallee fs x.stmt.now x.callee

last_says : (fs : List Function) (x : Item) (older : List Item) → IsPlaced fs x older → Says fs (x ∷ older) (length older) x
last_says fs x older p =
    let next = older_in x older x.next p.next in
    let body = older_in x older x.body p.body in
    record {
      low = omega arith;
      next = omega (arith, p.next);
      body = omega (arith, p.body);
      rest = ap (λ b. if b then x.stmt.now ∷ rest_in older x.next else rest_in older (suc (length older))) (eq-eqb (suc (length older)) (suc (length older)) refl)
          ∙ ap (λ r. x.stmt.now ∷ r) (sym next);
      inside = λ e stmts is. body ∙ p.inside e stmts is ∙ ap (λ r. stmts ++ r) (sym next);
      callee = p.callee;
    }

older_says : (fs : List Function) (y : Item) (older : List Item) (k : ℕ) (x : Item) → Says fs older k x → Says fs (y ∷ older) k x
older_says fs y older k x s =
    let next = older_in y older x.next s.next in
    let body = older_in y older x.body s.body in
    record {
      low = omega (arith, s.low);
      next = omega (arith, s.next);
      body = omega (arith, s.body);
      rest = older_in y older (suc k) s.low ∙ s.rest ∙ ap (λ r. x.stmt.now ∷ r) (sym next);
      inside = λ e stmts is. body ∙ s.inside e stmts is ∙ ap (λ r. stmts ++ r) (sym next);
      callee = s.callee;
    }

says_by : (fs : List Function) (y : Item) (older : List Item) (k : ℕ) (x : Item) (b : Bool) → (k == length older) ≡ b → IsPlaced fs y older
    → (item_in older k ≡ Some x → Says fs older k x) → (if b then Some y else item_in older k) ≡ Some x → Says fs (y ∷ older) k x
unfolding item_in
says_by fs y older k x true e p rec is =
    let here : k ≡ length older = eqb-true k (length older) e in
    let same : y ≡ x = cc is in
    subst (λ i. Says fs (y ∷ older) i x) (sym here) (subst (λ z. Says fs (y ∷ older) (length older) z) same (last_says fs y older p))
says_by fs y older k x false e p rec is = older_says fs y older k x (rec is)

says : (fs : List Function) (xs : List Item) (k : ℕ) (x : Item) → all_placed fs xs → item_in xs k ≡ Some x → Says fs xs k x
unfolding item_in
says fs [] k x h is = absurd (let z : None ≡ Some x = is in cc)
says fs (y ∷ older) k x h is = says_by fs y older k x (k == length older) refl h.0 (says fs older k x h.1) is

suc_eqb_by : (a b : ℕ) (t : Bool) → (a == b) ≡ t → t ≡ (suc a == suc b)
suc_eqb_by a b true e = sym (eq-eqb (suc a) (suc b) (ap suc (eqb-true a b e)))
suc_eqb_by a b false e =
    let ne = eqb-false a b e in
    let ne' : suc a ≢ suc b = λ h. ne (omega arith) in
    sym (ne_eqb (suc a) (suc b) ne')

suc_eqb : (a b : ℕ) → (a == b) ≡ (suc a == suc b)
suc_eqb a b = suc_eqb_by a b (a == b) refl

get_last : (xs : List Item) (x : Item) (k : ℕ) → slice_get (xs ++ x ∷ []) k ≡ (if k == length xs then Some x else slice_get xs k)
get_last [] x zero = refl
get_last [] x (suc k) =
    let ne : suc k ≢ 0 = omega arith in
    ap (λ b. if b then Some x else None) (sym (ne_eqb (suc k) 0 ne))
get_last (y ∷ xs) x zero =
    let ne : 0 ≢ suc (length xs) = omega arith in
    ap (λ b. if b then Some x else Some y) (sym (ne_eqb 0 (suc (length xs)) ne))
get_last (y ∷ xs) x (suc k) = get_last xs x k ∙ ap (λ b. if b then Some x else slice_get xs k) (suc_eqb k (length xs))

item_is : (xs : List Item) (k : ℕ) → slice_get (reverse xs) k ≡ item_in xs k
unfolding item_in
item_is [] k = refl
item_is (x ∷ older) k =
    ap (λ l. slice_get l k) (reverse-append (x ∷ []) older) ∙ get_last (reverse older) x k
    ∙ ap (λ n. if k == n then Some x else slice_get (reverse older) k) (length-reverse older)
    ∙ ap (λ o. if k == length older then Some x else o) (item_is older k)

-- the item of a number says what is left at its place
pub item_says : (fs : List Function) (items : List Item) (k : ℕ) (x : Item) → slice_get items k ≡ Some x → AllPlaced fs items → IsItem fs items (suc k) x
unfolding rest_at AllPlaced
item_says fs items k x is h =
    let at : item_in (reverse items) k ≡ Some x = sym (item_is (reverse items) k) ∙ ap (λ l. slice_get l k) (reverse-reverse items) ∙ is in
    let s = says fs (reverse items) k x h at in
    record { rest = s.rest; inside = s.inside; callee = s.callee }

-- nothing is left at the place 0, and past the last item
pub nothing_left : (items : List Item) (p : ℕ) → p ≡ 0 → rest_at items p ≡ []
unfolding rest_at
nothing_left items p e = ap (rest_in (reverse items)) e ∙ at_zero (reverse items)

pub nothing_past : (items : List Item) (p : ℕ) → length items < p → rest_at items p ≡ []
unfolding rest_at
nothing_past items p h = past (reverse items) p (omega (arith, h, length-reverse items))
