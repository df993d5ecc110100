-- New names.
use Rattle.std.proofs.Common.{◌≡◌, ℕ, ◌+◌, ◌<◌, Bool, true, false, cond, not, ◌&&◌, ◌||◌, List, [], ◌∷◌, ◌++◌, length, get_or, drop, map, Option, Some, is_some, is_none, nat_eq, refl, sym, ap, ◌∙◌}
use Rattle.std.specs.List.{list_any}
use Rattle.std.specs.Cmp.Lexicographic.{pointwise}
use Rattle.std.proofs.lemmas.List.{drop_more, map-append}
use Rattle.ssl_syntax.specs.declared.line.Param.{Param as ParamLine}
use Rattle.std.proofs.lemmas.List.Folds.{list_any-append}
use Rattle.rtl_core.specs.declared.encodings.Encodings.{Encodings}
use Rattle.ssl_rules.specs.declared.tables.Meaning.{Meaning}
use Rattle.ssl_rules.specs.Lookup.{named}
use Rattle.ssl_rules.specs.Given.{Given}
use Rattle.ssl_rules.specs.Checks.{are_new}
use Rattle.ssl_core.specs.Fresh.{is_fresh, are_fresh}
use Rattle.ssl_core.proofs.Basics.{none_or_some}

pub are_new-fresh : (enc : Encodings) (g : Given) (before names : List (List ℕ)) → are_new enc g before names ≡ are_fresh g.tables.names before names
are_new-fresh enc g before [] = refl
are_new-fresh enc g before (n ∷ ns) =
    ap (λ r. (is_fresh g.tables.names n && not (list_any (pointwise nat_eq n) before)) && r) (are_new-fresh enc g (n ∷ before) ns)

-- only which names stand before counts
are_fresh-same : (names : List (List ℕ × Meaning)) (a b : List (List ℕ)) → ((n : List ℕ) → list_any (pointwise nat_eq n) a ≡ list_any (pointwise nat_eq n) b)
    → (ns : List (List ℕ)) → are_fresh names a ns ≡ are_fresh names b ns
are_fresh-same names a b same [] = refl
are_fresh-same names a b same (n ∷ ns) =
    ap (λ r. (is_fresh names n && not r) && are_fresh names (n ∷ a) ns) (same n)
    ∙ ap (λ r. (is_fresh names n && not (list_any (pointwise nat_eq n) b)) && r)
    (are_fresh-same names (n ∷ a) (n ∷ b) (λ m. ap (λ r. pointwise nat_eq m n || r) (same m)) ns)

-- names that were seen
abbrev pub names_in : List (List ℕ × Bool) → List (List ℕ)
names_in seen = map (λ e. e.0) seen

some_or : {X : Type 0} (b : Bool) (x : X) (o : Option X) → is_some (cond b (Some x) o) ≡ (b || is_some o)
some_or true x o = refl
some_or false x o = refl

named-any : (t : List (List ℕ × Bool)) (n : List ℕ) → is_some (named t n) ≡ list_any (pointwise nat_eq n) (names_in t)
named-any [] n = refl
named-any (e ∷ es) n = some_or (pointwise nat_eq n e.0) e.1 (named es n) ∙ ap (λ r. pointwise nat_eq n e.0 || r) (named-any es n)

abbrev pub is_unseen : List (List ℕ × Meaning) → List (List ℕ × Bool) → List ℕ → Bool
is_unseen names seen n = is_fresh names n && is_none (named seen n)

tested : (names : List (List ℕ × Meaning)) (seen : List (List ℕ × Bool)) (n : List ℕ)
    → (is_fresh names n && not (list_any (pointwise nat_eq n) (names_in seen))) ≡ is_unseen names seen n
tested names seen n = ap (λ r. is_fresh names n && r) (ap not (sym (named-any seen n)) ∙ sym (none_or_some (named seen n)))

or_last : (a b : Bool) → (a || b) ≡ (b || (a || false))
or_last true true = refl
or_last true false = refl
or_last false true = refl
or_last false false = refl

-- one name more, which is new
pub fresh_step : (names : List (List ℕ × Meaning)) (seen : List (List ℕ × Bool)) (n : List ℕ) (ns : List (List ℕ)) → is_unseen names seen n ≡ true
    → are_fresh names (names_in seen) (n ∷ ns) ≡ are_fresh names (names_in (seen ++ (n, true) ∷ [])) ns
fresh_step names seen n ns h =
    let whole : names_in (seen ++ (n, true) ∷ []) ≡ names_in seen ++ n ∷ [] = map-append (λ e. e.0) seen ((n, true) ∷ []) in
    ap (λ r. r && are_fresh names (n ∷ names_in seen) ns) (tested names seen n ∙ h)
    ∙ are_fresh-same names (n ∷ names_in seen) (names_in seen ++ n ∷ [])
    (λ m. or_last (pointwise nat_eq m n) (list_any (pointwise nat_eq m) (names_in seen)) ∙ sym (list_any-append (pointwise nat_eq m) (names_in seen) (n ∷ []))) ns
    ∙ ap (λ b. are_fresh names b ns) (sym whole)

-- and one which is not
pub fresh_stop : (names : List (List ℕ × Meaning)) (seen : List (List ℕ × Bool)) (n : List ℕ) (ns : List (List ℕ)) → is_unseen names seen n ≡ false
    → are_fresh names (names_in seen) (n ∷ ns) ≡ false
fresh_stop names seen n ns h = ap (λ r. r && are_fresh names (n ∷ names_in seen) ns) (tested names seen n ∙ h)

-- ---- over a list

pub fresh_more : (names : List (List ℕ × Meaning)) (ns : List (List ℕ)) (i : ℕ) (seen next : List (List ℕ × Bool)) (n read : List ℕ) (new whole : Bool) → i < length ns → n ≡ get_or ns i n
    → read ≡ n → new ≡ is_unseen names seen read → new ≡ true → next ≡ seen ++ (read, true) ∷ [] → are_fresh names (names_in seen) (drop i ns) ≡ whole
    → are_fresh names (names_in next) (drop (i + 1) ns) ≡ whole
fresh_more names ns i seen next n read new whole h is r t e step was =
    let d : drop i ns ≡ n ∷ drop (i + 1) ns = drop_more ns i n h ∙ ap (λ y. y ∷ drop (i + 1) ns) (sym is) in
    let unseen : is_unseen names seen n ≡ true = ap (is_unseen names seen) (sym r) ∙ sym t ∙ e in
    ap (λ s. are_fresh names (names_in s) (drop (i + 1) ns)) (step ∙ ap (λ n. seen ++ (n, true) ∷ []) r)
    ∙ sym (fresh_step names seen n (drop (i + 1) ns) unseen) ∙ ap (are_fresh names (names_in seen)) (sym d) ∙ was

pub fresh_ends : (names : List (List ℕ × Meaning)) (ns : List (List ℕ)) (i : ℕ) (seen : List (List ℕ × Bool)) (n read : List ℕ) (new whole : Bool) → i < length ns → n ≡ get_or ns i n
    → read ≡ n → new ≡ is_unseen names seen read → new ≡ false → are_fresh names (names_in seen) (drop i ns) ≡ whole → false ≡ whole
fresh_ends names ns i seen n read new whole h is r t e was =
    let d : drop i ns ≡ n ∷ drop (i + 1) ns = drop_more ns i n h ∙ ap (λ y. y ∷ drop (i + 1) ns) (sym is) in
    let no_more : is_unseen names seen n ≡ false = ap (is_unseen names seen) (sym r) ∙ sym t ∙ e in
    sym (fresh_stop names seen n (drop (i + 1) ns) no_more) ∙ ap (are_fresh names (names_in seen)) (sym d) ∙ was

pub params_more : (names : List (List ℕ × Meaning)) (ps : List ParamLine) (i : ℕ) (seen next : List (List ℕ × Bool)) (p : ParamLine) (read : List ℕ) (new whole : Bool) → i < length ps
    → p ≡ get_or ps i p → read ≡ p.name → new ≡ is_unseen names seen read → new ≡ true → next ≡ seen ++ (read, true) ∷ []
    → are_fresh names (names_in seen) (map (λ p. p.name) (drop i ps)) ≡ whole → are_fresh names (names_in next) (map (λ p. p.name) (drop (i + 1) ps)) ≡ whole
params_more names ps i seen next p read new whole h is r t e step was =
    let d : drop i ps ≡ p ∷ drop (i + 1) ps = drop_more ps i p h ∙ ap (λ y. y ∷ drop (i + 1) ps) (sym is) in
    let rest : List (List ℕ) = map (λ p. p.name) (drop (i + 1) ps) in
    let unseen : is_unseen names seen p.name ≡ true = ap (is_unseen names seen) (sym r) ∙ sym t ∙ e in
    ap (λ s. are_fresh names (names_in s) rest) (step ∙ ap (λ n. seen ++ (n, true) ∷ []) r)
    ∙ sym (fresh_step names seen p.name rest unseen) ∙ ap (λ l. are_fresh names (names_in seen) (map (λ p. p.name) l)) (sym d) ∙ was

pub params_end : (names : List (List ℕ × Meaning)) (ps : List ParamLine) (i : ℕ) (seen : List (List ℕ × Bool)) (p : ParamLine) (read : List ℕ) (new whole : Bool) → i < length ps
    → p ≡ get_or ps i p → read ≡ p.name → new ≡ is_unseen names seen read → new ≡ false → are_fresh names (names_in seen) (map (λ p. p.name) (drop i ps)) ≡ whole → false ≡ whole
params_end names ps i seen p read new whole h is r t e was =
    let d : drop i ps ≡ p ∷ drop (i + 1) ps = drop_more ps i p h ∙ ap (λ y. y ∷ drop (i + 1) ps) (sym is) in
    let no_more : is_unseen names seen p.name ≡ false = ap (is_unseen names seen) (sym r) ∙ sym t ∙ e in
    sym (fresh_stop names seen p.name (map (λ p. p.name) (drop (i + 1) ps)) no_more) ∙ ap (λ l. are_fresh names (names_in seen) (map (λ p. p.name) l)) (sym d) ∙ was
