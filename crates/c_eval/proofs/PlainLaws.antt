-- What one more assignment shows.
use Rattle.std.proofs.Common.{◌≡◌, ◌≢◌, ℕ, zero, suc, ◌++◌, List, [], ◌∷◌, Option, Some, ap, sym, ◌∙◌, refl, map, length}
use Rattle.std.specs.Prelude.{fold, if◌then◌else◌, ◌==◌, reverse, remove, drop}
use Rattle.std.proofs.lemmas.List.{reverse-append, length-reverse, length-map}
use Rattle.std.proofs.Math.Path.{fun_ext}
use Rattle.c_lang.specs.declared.tree.Var.{Var}
use Rattle.c_lang.specs.Value.{Vars}
use Rattle.c_lang.specs.declared.tree.Stmt.{Stmt}
use Rattle.c_lang.specs.State.{State, Place, Nowhere, At, to_place, with_var, same_var}
use Rattle.c_eval.specs.declared.state.Setting.{Setting}
use Rattle.c_eval.specs.declared.state.Word.{Word}
use Rattle.rtl_core.specs.Value.{choice}
use Rattle.c_eval.specs.declared.state.PlainFrame.{PlainFrame}
use Rattle.c_eval.specs.Plain.{latest, shown, word_at, frame_of, in_front}

fold_push : {A B : Type 0} (f : B → A → B) (b : B) (xs : List A) (x : A) → fold f b (xs ++ x ∷ []) ≡ f (fold f b xs) x
fold_push f b [] x = refl
fold_push f b (y ∷ xs) x = fold_push f (f b y) xs x

pub latest_push : (first : Option ℕ) (v : Var) (xs : List Setting) (x : Setting) →
    latest first v (xs ++ x ∷ []) ≡ (if same_var x.var v then Some x.value else latest first v xs)
unfolding latest
latest_push first v xs x = fold_push (λ o s. if same_var s.var v then Some s.value else o) first xs x

pub shown_push : (first : Vars) (xs : List Setting) (v : Var) (n : ℕ) → shown first (xs ++ record { var = v; value = n } ∷ []) ≡ with_var (shown first xs) v n
unfolding shown
shown_push first xs v n = fun_ext (λ w. latest_push (first w) w xs (record { var = v; value = n }))

pub word_push : (xs : List Word) (i : ℕ) (w : Word) → word_at (xs ++ w ∷ []) i ≡ (if w.index == i then w.value else word_at xs i)
unfolding word_at
word_push xs i w = fold_push (λ n w. if w.index == i then w.value else n) 0 xs w

pub words_push : (xs : List Word) (i n : ℕ) → word_at (xs ++ record { index = i; value = n } ∷ []) ≡ (λ j. if i == j then n else word_at xs j)
words_push xs i n = fun_ext (λ j. word_push xs j (record { index = i; value = n }))

pub latest_none : (first : Option ℕ) (v : Var) → latest first v [] ≡ first
unfolding latest
latest_none first v = refl

pub word_none : (i : ℕ) → word_at [] i ≡ 0
unfolding word_at
word_none i = refl

pub ruleset last_laws = (latest_none, latest_push, word_none, word_push)

-- one more frame below
pub below_push : (xs : List PlainFrame) (f : PlainFrame) → map frame_of (reverse (xs ++ f ∷ [])) ≡ frame_of f ∷ map frame_of (reverse xs)
below_push xs f = ap (map frame_of) (reverse-append xs (f ∷ []))

pub below_length : (xs : List PlainFrame) → length (map frame_of (reverse xs)) ≡ length xs
below_length xs = simp (length-map, length-reverse)

pub ruleset frame_laws = (below_push, below_length)

-- a choice at any number but 0
pub choice_more : {A : Type 0} (n : ℕ) (a b : A) → n ≢ 0 → choice n a b ≡ a
choice_more zero a b h = absurd (h refl)
choice_more (suc n) a b h = refl

-- ---- statements in front

none_in_front : (stmts : List Stmt) (q : Place) → q ≡ in_front 0 stmts q
none_in_front stmts Nowhere = refl
none_in_front stmts (At rest end) = refl

more_in_front : (n : ℕ) (stmts : List Stmt) (q : Place) → n ≢ 0 → in_front 1 stmts q ≡ in_front n stmts q
more_in_front zero stmts q h = absurd (h refl)
more_in_front (suc n) stmts Nowhere h = refl
more_in_front (suc n) stmts (At rest end) h = refl

pub none_put : (s : State) (n : ℕ) (stmts : List Stmt) → n ≡ 0 → s ≡ to_place s (in_front n stmts s.top.place)
none_put s n stmts h = ap (to_place s) (none_in_front stmts s.top.place ∙ ap (λ k. in_front k stmts s.top.place) (sym h))

pub some_put : (s new : State) (n : ℕ) (copied stmts : List Stmt) → n ≢ 0 → copied ≡ stmts → new ≡ to_place s (in_front 1 copied s.top.place) →
    new ≡ to_place s (in_front n stmts s.top.place)
some_put s new n copied stmts h same e =
    e ∙ ap (λ xs. to_place s (in_front 1 xs s.top.place)) same ∙ ap (to_place s) (more_in_front n stmts s.top.place h)

-- a list without its first member
pub first_removed : {A : Type 0} (xs : List A) → remove xs 0 ≡ drop 1 xs
first_removed [] = refl
first_removed (x ∷ xs) = refl
