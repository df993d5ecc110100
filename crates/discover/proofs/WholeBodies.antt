-- The points, the procedures and the bodies of what a search has found are those of the program.
use Rattle.std.proofs.Common.{suc, ◌||◌, cond, true≢false, not, rules, ◌≡◌, ℕ, ◌<◌, ◌≤◌, ◌+◌, Bool, true, false, List, [], ◌∷◌, length, get_or, nat_eq, refl, sym, ◌∙◌, ap, subst, inl, inr, arith}
use Rattle.std.specs.Prelude.{◌⊎◌, map, filter}
use Rattle.std.specs.List.{All, Contains, IsDistinct, list_any}
use Rattle.std.proofs.lemmas.Bool.{eqb-true, cases_lt}
use Rattle.std.proofs.lemmas.Map.Keys.{apart_from_distinct}
use Rattle.std.proofs.lemmas.List.Elements.{All-weaker, All-contains, All-contains_itself}
use Rattle.rtl_core.specs.declared.point.Point.{Point}
use Rattle.points.specs.declared.graph.Proc.{Proc}
use Rattle.points.specs.Exactly.{IsExactly}
use Rattle.points.specs.Bodies.{Code, Body, first, Procedure, IsReached}
use Rattle.points.specs.Graphs.{IsProcedureOf, IsPlaceOf}
use Rattle.worklist.proofs.Members.{from_mapped, into_mapped}
use Rattle.discover.specs.declared.place.Place.{Place}
use Rattle.discover.specs.Places.{place, start, InBody}
use Rattle.discover.specs.Parts.{same_point, index_in, body_of, IsListed, IsAscendingOf}
use Rattle.discover.proofs.Equal.{equal_points, same_itself}
use Rattle.discover.proofs.Lists.{any_of_member, into_filtered, from_filtered}

abbrev entry_of : Place → ℕ
entry_of p = p.entry

abbrev point_of : Place → Point
point_of p = p.point

-- each place has its procedure and its point among all of them
pub all_listed : (keys : List Place) (es : List ℕ) (ps : List Point) → IsExactly (Contains (map entry_of keys)) es → IsExactly (Contains (map point_of keys)) ps → All (IsListed es ps) keys
all_listed keys es ps e p = All-weaker (Contains keys) (IsListed es ps) (λ x c. record {
  entry = any_of_member nat_eq (λ n. search rules) es x.entry (e.whole x.entry (into_mapped entry_of keys x c));
  point = any_of_member same_point same_itself ps x.point (p.whole x.point (into_mapped point_of keys x c));
}) keys (All-contains_itself keys)

-- a point of the list stands at its place
at_index : (ps : List Point) (q : Point) → list_any (same_point q) ps ≡ true → (index_in ps q < length ps) × (get_or ps (index_in ps q) q ≡ q)
at_index [] q h = absurd (true≢false (sym h))
at_index (p ∷ ps) q h = by (same_point q p) refl (λ e. at_index ps q e)
  where
    by : (b : Bool) → same_point q p ≡ b → (list_any (same_point q) ps ≡ true → (index_in ps q < length ps) × (get_or ps (index_in ps q) q ≡ q)) → (index_in (p ∷ ps) q < length (p ∷ ps)) × (get_or (p ∷ ps) (index_in (p ∷ ps) q) q ≡ q)
    by true e rest =
        let z : index_in (p ∷ ps) q ≡ 0 = ap (λ b. cond (not b) (1 + index_in ps q) 0) e in
        (omega (arith, z), ap (λ k. get_or (p ∷ ps) k q) z ∙ sym (equal_points q p e))
    by false e rest =
        let z : index_in (p ∷ ps) q ≡ 1 + index_in ps q = ap (λ b. cond (not b) (1 + index_in ps q) 0) e in
        let r = rest (sym (ap (λ b. b || list_any (same_point q) ps) e) ∙ h) in
        (omega (arith, z, r.0), ap (λ k. get_or (p ∷ ps) k q) z ∙ (let s : 1 + index_in ps q ≡ suc (index_in ps q) = omega arith in ap (λ k. get_or (p ∷ ps) k q) s) ∙ r.1)

-- in a list of different points a point has one place
one_index : (ps : List Point) (i j : ℕ) (q : Point) → IsDistinct same_point ps → i < length ps → j < length ps → get_or ps i q ≡ q → get_or ps j q ≡ q → i ≡ j
one_index ps i j q d li lj ei ej = by (cases_lt i j) (cases_lt j i)
  where
    apart : (a b : ℕ) → a < b → b < length ps → get_or ps a q ≡ q → get_or ps b q ≡ q → ⊥
    apart a b lt lb ea eb =
        let f = apart_from_distinct same_point ps a b q d lt lb in
        let t : same_point (get_or ps a q) (get_or ps b q) ≡ true = ap (λ x. same_point x (get_or ps b q)) ea ∙ ap (same_point q) eb ∙ same_itself q in
        true≢false (sym t ∙ f)

    by : (i < j) ⊎ (j ≤ i) → (j < i) ⊎ (i ≤ j) → i ≡ j
    by (inl a) b = absurd (apart i j a lj ei ej)
    by (inr a) (inl b) = absurd (apart j i b li ej ei)
    by (inr a) (inr b) = omega (arith, a, b)

module _ (code : Code) (roots : List ℕ) (keys : List Place) (found : IsExactly (InBody code roots) keys) where
  pub exactly_points : (ps : List Point) → IsExactly (Contains (map point_of keys)) ps → IsExactly (IsReached code roots) ps
  exactly_points ps e = record {
    sound = All-weaker (Contains (map point_of keys)) (IsReached code roots) (λ q c.
        let r = from_mapped point_of keys q c in
        let b = All-contains (InBody code roots) keys r.0 found.sound r.1 in
        record { entry = r.0.entry; procedure = b.procedure; body = subst (Body code r.0.entry) r.2 b.body }) ps e.sound;
    whole = λ q f. e.whole q (into_mapped point_of keys (place f.entry q) (found.whole (place f.entry q) (record { procedure = f.procedure; body = f.body })));
  }

  pub exactly_entries : (es : List ℕ) → IsExactly (Contains (map entry_of keys)) es → IsExactly (Procedure code roots) es
  exactly_entries es e = record {
    sound = All-weaker (Contains (map entry_of keys)) (Procedure code roots) (λ t c.
        let r = from_mapped entry_of keys t c in
        subst (Procedure code roots) r.2 ((All-contains (InBody code roots) keys r.0 found.sound r.1).procedure)) es e.sound;
    whole = λ t p. e.whole t (into_mapped entry_of keys (start t) (found.whole (start t) (record { procedure = p; body = first })));
  }

  module _ (ps : List Point) (each : IsDistinct same_point ps) (exactly : IsExactly (IsReached code roots) ps) where
    abbrev index_of : Place → ℕ
    index_of p = index_in ps p.point

    abbrev is_in : ℕ → Place → Bool
    is_in entry p = nat_eq p.entry entry

    at_place : (q : Point) → IsReached code roots q → (index_in ps q < length ps) × (get_or ps (index_in ps q) q ≡ q)
    at_place q r = at_index ps q (any_of_member same_point same_itself ps q (exactly.whole q r))

    body_sound : (entry k : ℕ) → Contains (body_of ps keys entry) k → IsPlaceOf code entry ps k
    body_sound entry k c =
        let r = from_mapped index_of (filter (is_in entry) keys) k c in
        let f = from_filtered (is_in entry) keys r.0 r.1 in
        let b = All-contains (InBody code roots) keys r.0 found.sound f.0 in
        let e : r.0.entry ≡ entry = eqb-true r.0.entry entry f.1 in
        let a = at_place r.0.point (record { entry = r.0.entry; procedure = b.procedure; body = b.body }) in
        record {
          point = r.0.point;
          within = subst (λ x. x < length ps) r.2 a.0;
          is = subst (λ x. get_or ps x r.0.point ≡ r.0.point) r.2 a.1;
          body = subst (λ x. Body code x r.0.point) e b.body;
        }

    body_whole : (entry k : ℕ) → Procedure code roots entry → IsPlaceOf code entry ps k → Contains (body_of ps keys entry) k
    body_whole entry k h i =
        let q = i.point in
        let c = found.whole (place entry q) (record { procedure = h; body = i.body }) in
        let f = into_filtered (is_in entry) keys (place entry q) c (search rules) in
        let m = into_mapped index_of (filter (is_in entry) keys) (place entry q) f in
        let a = at_place q (record { entry = entry; procedure = h; body = i.body }) in
        subst (Contains (body_of ps keys entry)) (one_index ps (index_in ps q) k q each a.0 i.within a.1 i.is) m

    pub procedure_of : (p : Proc) → Procedure code roots p.entry → IsAscendingOf (body_of ps keys p.entry) p.body → IsProcedureOf code ps p
    procedure_of p h r = record {
      rises = r.rises;
      exactly = record {
        sound = All-weaker (Contains (body_of ps keys p.entry)) (IsPlaceOf code p.entry ps) (body_sound p.entry) p.body r.exactly.sound;
        whole = λ k i. r.exactly.whole k (body_whole p.entry k h i);
      };
    }
