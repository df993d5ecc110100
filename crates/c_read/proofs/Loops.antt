-- Rows of like things: both ways between tokens and values, and the loops of the code over them.
use Rattle.std.proofs.Common.{◌≡◌, ℕ, ◌+◌, ◌<◌, ◌≤◌, zero, suc, true, false, List, [], ◌∷◌, ◌++◌, length, drop, Err, refl, sym, ap, ◌∙◌, arith, ◌⊎◌, inl, inr, append_assoc, length-append}
use Rattle.std.specs.Prelude.{Bool, flat_map}
use Rattle.std.proofs.lemmas.Bool.{cases_Bool}
use Rattle.std.proofs.lemmas.List.{append-nil}
use Rattle.c_text.specs.Tokens.{Token, mark}
use Rattle.c_scan.specs.declared.stop.Stop.{Stop}
use Rattle.c_scan.specs.declared.stop.Stop.TheVariants.{Malformed, NoMemory}
use Rattle.c_scan.specs.Readings.{Outcome, refuses, takes, Reader, Tells, followed, at, Syntax, exactly}
use Rattle.c_read.specs.Combined.{Each, in_turn, before, mapped, prefixed, repeated, many_then, many_mark, comma_list}
use Rattle.c_read.proofs.Exits.{stops_too}
use Rattle.c_read.proofs.SyntaxLaws.{FrontIs, TakesOnly, Mirrors, IsAsked, behind_mark, no_read, in_sequence, front_same, begins_with_it, sign_asked, both_mirrored, before_mirrored, made_fronts, made_read}

-- the first token tells whether one thing more comes, or what closes the row
pub record TurnsAt {A B : Type 0} (goes : List Token → Bool) (one : Syntax A) (last : Syntax B) (P : A → Type 0) (Q : B → Type 0) : Type 0 where
  pub filled : (x : A) → P x → 0 < length (one.spell x)
  pub begins : (x : A) (remain : List Token) → P x → goes (one.spell x ++ remain) ≡ true
  pub ends : (y : B) (remain : List Token) → Q y → goes (last.spell y ++ remain) ≡ false

-- the row behind some first values
pub record Prefixed {A B : Type 0} (ys : List A) (o : Outcome (List A × B)) (xs : List A × B) (remain : List Token) : Type 0 where
  pub zs : List A × B
  pub was : o ≡ takes zs remain
  pub same : (ys ++ zs.0, zs.1) ≡ xs

pub prefixed_parts : {A B : Type 0} (ys : List A) (o : Outcome (List A × B)) (xs : List A × B) (remain : List Token) → prefixed ys o ≡ takes xs remain → Prefixed ys o xs remain
prefixed_parts ys refuses xs remain h = no_read xs remain h
prefixed_parts ys (takes zs m) xs remain h =
    let rest : m ≡ remain = cc in
    let same : (ys ++ zs.0, zs.1) ≡ xs = cc in
    record { zs = zs; was = ap (λ t. takes zs t) rest; same = same }

module _ {A B : Type 0} (goes : List Token → Bool) (one : Syntax A) (last : Syntax B) (P : A → Type 0) (Q : B → Type 0) where
  abbrev spell : List A × B → List Token
  spell x = flat_map one.spell x.0 ++ last.spell x.1

  abbrev Proper : List A × B → Type 0
  Proper x = Each P x.0 × Q x.1

  run_fronts : TakesOnly one.read one.spell P → TakesOnly last.read last.spell Q → (n : ℕ) (given : List Token) (x : List A × B) (remain : List Token) → repeated n goes one.read last.read given ≡ takes x remain → FrontIs spell Proper given x remain
  unfolding repeated
  run_fronts s t zero given x remain h = no_read x remain h
  run_fronts s t (suc n) given x remain h = by (cases_Bool (goes given)) (run_fronts s t n)
    where
      by : (goes given ≡ true) ⊎ (goes given ≡ false) → ((given : List Token) (x : List A × B) (remain : List Token) → repeated n goes one.read last.read given ≡ takes x remain → FrontIs spell Proper given x remain) → FrontIs spell Proper given x remain
      by (inl e) rec =
          let p = in_sequence (one.read given) (λ x mid. prefixed (x ∷ []) (repeated n goes one.read last.read mid)) x remain (rw e at h) in
          let o = prefixed_parts (p.x ∷ []) (repeated n goes one.read last.read p.mid) x remain p.second in
          let a = s.seen_front given p.x p.mid p.first in
          let b = rec p.mid o.zs remain o.was in
          front_same (p.x ∷ o.zs.0, o.zs.1) x remain remain (ap (λ z. takes z remain) o.same) (record {
            spelled = a.spelled ∙ ap (λ m. one.spell p.x ++ m) b.spelled ∙ simp append_assoc;
            proper = ((a.proper, b.proper.0), b.proper.1);
          })
      by (inr e) rec =
          let p = in_sequence (last.read given) (λ y rest. takes ([], y) rest) x remain (rw e at h) in
          let a = t.seen_front given p.x p.mid p.first in
          front_same ([], p.x) x p.mid remain p.second (record { spelled = a.spelled; proper = (tt, a.proper) })

  run_read : Mirrors one P → Mirrors last Q → TurnsAt goes one last P Q → (n : ℕ) (xs : List A) (y : B) (remain : List Token) → length xs < n → Each P xs → Q y → repeated n goes one.read last.read (flat_map one.spell xs ++ (last.spell y ++ remain)) ≡ takes (xs, y) remain
  unfolding repeated
  run_read s t a zero xs y remain l p q = absurd (omega arith)
  run_read s t a (suc n) [] y remain l p q = rw (a.ends y remain q, (t.all_these y q).read_back remain) refl
  run_read s t a (suc n) (x ∷ xs) y remain l p q =
      let rest = flat_map one.spell xs ++ (last.spell y ++ remain) in
      rw (append_assoc (one.spell x) (flat_map one.spell xs) (last.spell y ++ remain), a.begins x rest p.0, (s.all_these x p.0).read_back rest, run_read s t a n xs y remain (omega arith) p.1 q) refl

  enough_tokens : TurnsAt goes one last P Q → (xs : List A) (remain : List Token) → Each P xs → length xs ≤ length (flat_map one.spell xs ++ remain)
  enough_tokens a [] remain p = omega arith
  enough_tokens a (x ∷ xs) remain p =
      let rec = enough_tokens a xs remain p.1 in
      let f = a.filled x p.0 in
      let e : length ((one.spell x ++ flat_map one.spell xs) ++ remain) ≡ length (one.spell x) + length (flat_map one.spell xs ++ remain) = ap length (append_assoc (one.spell x) (flat_map one.spell xs) remain) ∙ length-append (one.spell x) (flat_map one.spell xs ++ remain) in
      omega arith

  pub while_then_mirrored : Mirrors one P → Mirrors last Q → TurnsAt goes one last P Q → Mirrors (many_then goes one last) (λ x. Each P x.0 × Q x.1)
  while_then_mirrored s t a = record {
    only_these = record { seen_front = λ given. run_fronts s.only_these t.only_these (suc (length given)) given };
    all_these = λ x p. record {
      read_back = λ remain.
          let e : (flat_map one.spell x.0 ++ last.spell x.1) ++ remain ≡ flat_map one.spell x.0 ++ (last.spell x.1 ++ remain) = append_assoc (flat_map one.spell x.0) (last.spell x.1) remain in
          let l = enough_tokens a x.0 (last.spell x.1 ++ remain) p.0 in
          rw e (run_read s t a (suc (length (flat_map one.spell x.0 ++ (last.spell x.1 ++ remain)))) x.0 x.1 remain (omega arith) p.0 p.1);
    };
  }

pub only_mirrored : (t : Token) → IsAsked t → Mirrors (exactly t) (λ _. Unit {0})
only_mirrored t m = record {
  only_these = record {
    seen_front = λ given x remain h.
        let p = behind_mark t (λ rest. takes tt rest) given x remain (only_again given x remain h) in
        front_same tt x p.mid remain p.second (record { spelled = p.front; proper = tt });
  };
  all_these = λ x p. record { read_back = λ remain. rw m.is refl };
}
  where
    only_again : (given : List Token) (x : Unit {0}) (remain : List Token) → (exactly t).read given ≡ takes x remain → followed ((exactly t).read given) (λ _ rest. takes tt rest) ≡ takes x remain
    only_again given x remain h = rw h refl

pub while_mark_mirrored : {A : Type 0} (goes : List Token → Bool) (one : Syntax A) (t : Token) (P : A → Type 0) → IsAsked t → Mirrors one P → TurnsAt goes one (exactly t) P (λ _. Unit {0}) → Mirrors (many_mark goes one t) (Each P)
while_mark_mirrored {A} goes one t P m s a = record {
  only_these = record {
    seen_front = λ given xs remain h.
        let p = in_sequence ((many_then goes one (exactly t)).read given) (λ x rest. takes x.0 rest) xs remain h in
        let e = (while_then_mirrored goes one (exactly t) P (λ _. Unit {0}) s (only_mirrored t m) a).only_these.seen_front given p.x p.mid p.first in
        front_same p.x.0 xs p.mid remain p.second (record { spelled = e.spelled; proper = e.proper.0 });
  };
  all_these = λ xs p. record { read_back = λ remain. rw (((while_then_mirrored goes one (exactly t) P (λ _. Unit {0}) s (only_mirrored t m) a).all_these (xs, tt) (p, tt)).read_back remain) refl };
}

-- ---- rows with commas

-- nothing in the row begins with the closing sign
pub record OpensUnlike {A : Type 0} (t : Token) (one : Syntax A) (P : A → Type 0) : Type 0 where
  pub filled : (x : A) → P x → 0 < length (one.spell x)
  pub opens : (x : A) (remain : List Token) → P x → at t (one.spell x ++ remain) ≡ false

-- a closing sign can be asked for, and is no comma
pub record IsCloser (t : Token) : Type 0 where
  pub known : IsAsked t
  pub no_comma : (remain : List Token) → at (mark ",") (t ∷ remain) ≡ false

module _ {A : Type 0} (t : Token) (one : Syntax A) (P : A → Type 0) (c : IsCloser t) (s : Mirrors one P) where
  abbrev behind_one : Syntax (List A)
  behind_one = many_mark (at (mark ",")) (before (mark ",") one) t

  behind_exact_one : Mirrors behind_one (Each P)
  behind_exact_one = while_mark_mirrored (at (mark ",")) (before (mark ",") one) t P c.known (before_mirrored (mark ",") one P (sign_asked _) s)
      (record { filled = λ x p. omega arith; begins = λ x remain p. refl; ends = λ y remain q. c.no_comma remain })

  list_mirrored : Mirrors (in_turn one behind_one) (λ x. P x.0 × Each P x.1)
  list_mirrored = both_mirrored one behind_one P (Each P) s behind_exact_one

  same_list : (x : A) (xs : List A) (remain : List Token) → (in_turn one behind_one).spell (x, xs) ++ remain ≡ (comma_list t one).spell (x ∷ xs) ++ remain
  same_list x xs remain = ap (λ l. l ++ remain) (sym (append_assoc (one.spell x) (flat_map (λ y. mark "," ∷ one.spell y) xs) (t ∷ [])))

  enclosed_fronts : (given : List Token) (xs : List A) (remain : List Token) → (comma_list t one).read given ≡ takes xs remain → FrontIs (comma_list t one).spell (Each P) given xs remain
  enclosed_fronts given xs remain h = by (cases_Bool (at t given))
    where
      by : (at t given ≡ true) ⊎ (at t given ≡ false) → FrontIs (comma_list t one).spell (Each P) given xs remain
      by (inl e) = front_same [] xs (drop 1 given) remain (rw e at h) (record { spelled = begins_with_it t given e; proper = tt })
      by (inr e) =
          made_fronts (λ x. x.0 ∷ x.1) (in_turn one behind_one) (λ x. P x.0 × Each P x.1) (comma_list t one).spell (Each P) (λ given. given) list_mirrored
          (λ x. record { same = λ remain. same_list x.0 x.1 remain; proper = λ q. q }) given xs remain (rw e at h)

  enclosed_read : OpensUnlike t one P → (xs : List A) (remain : List Token) → Each P xs → (comma_list t one).read ((comma_list t one).spell xs ++ remain) ≡ takes xs remain
  enclosed_read starts [] remain p = rw c.known.is refl
  enclosed_read starts (x ∷ xs) remain p =
      let tail = flat_map (λ y. mark "," ∷ one.spell y) xs in
      let e : (comma_list t one).spell (x ∷ xs) ++ remain ≡ one.spell x ++ ((tail ++ t ∷ []) ++ remain) = simp append_assoc in
      let o : at t (one.spell x ++ ((tail ++ t ∷ []) ++ remain)) ≡ false = starts.opens x ((tail ++ t ∷ []) ++ remain) p.0 in
      rw (e, o) (made_read (λ x. x.0 ∷ x.1) (in_turn one behind_one) (λ x. P x.0 × Each P x.1) (comma_list t one).spell (Each P) list_mirrored (x, xs) (one.spell x ++ ((tail ++ t ∷ []) ++ remain)) remain p (append_assoc (one.spell x) (tail ++ t ∷ []) remain))

  pub enclosed_mirrored : OpensUnlike t one P → Mirrors (comma_list t one) (Each P)
  enclosed_mirrored starts = record { only_these = record { seen_front = enclosed_fronts }; all_these = λ xs p. record { read_back = λ remain. enclosed_read starts xs remain p } }

pub paren_closer : IsCloser (mark ")")
paren_closer = record { known = sign_asked _; no_comma = λ remain. refl }

pub brace_closer : IsCloser (mark "}")
brace_closer = record { known = sign_asked _; no_comma = λ remain. refl }

-- ---- loops

-- at least one token is taken
pub record Consumes {A : Type 0} (one : Reader A) : Type 0 where
  pub consumes : (given : List Token) (x : A) (remain : List Token) → one given ≡ takes x remain → length remain < length given

pub consumes_from : {A : Type 0} (one : Syntax A) (P : A → Type 0) → TakesOnly one.read one.spell P → ((x : A) → P x → 0 < length (one.spell x)) → Consumes one.read
consumes_from one P only_these filled = record {
  consumes = λ given x remain h.
      let s = only_these.seen_front given x remain h in
      let f = filled x s.proper in
      let e : length given ≡ length (one.spell x) + length remain = ap length s.spelled ∙ length-append (one.spell x) remain in
      omega arith;
}

-- how far a loop is: what is out, and how the tokens ahead go on
pub record Midway {A B : Type 0} (goes : List Token → Bool) (one : Reader A) (last : Reader B) (entire : List Token) (so_far : List A) (given : List Token) : Type 0 where
  pub left : ℕ
  pub enough : length given < left
  pub same : repeated (suc (length entire)) goes one last entire ≡ prefixed so_far (repeated left goes one last given)

module _ {A B : Type 0} (goes : List Token → Bool) (one : Reader A) (last : Reader B) where
  prefixed_none : (o : Outcome (List A × B)) → o ≡ prefixed [] o
  prefixed_none refuses = refl
  prefixed_none (takes x remain) = refl

  prefixed_twice : (xs ys : List A) (o : Outcome (List A × B)) → prefixed xs (prefixed ys o) ≡ prefixed (xs ++ ys) o
  prefixed_twice xs ys refuses = refl
  prefixed_twice xs ys (takes z remain) = ap (λ l. takes (l, z.1) remain) (sym (append_assoc xs ys z.0))

  pub midway_first : (entire : List Token) → Midway goes one last entire [] entire
  midway_first entire = record { left = suc (length entire); enough = omega arith; same = prefixed_none (repeated (suc (length entire)) goes one last entire) }

  repeated_more : (n : ℕ) (given mid : List Token) (x : A) → goes given ≡ true → one given ≡ takes x mid → repeated (suc n) goes one last given ≡ prefixed (x ∷ []) (repeated n goes one last mid)
  unfolding repeated
  repeated_more n given mid x g h = rw (g, h) refl

  on_by : (entire : List Token) (so_far new : List A) (given mid : List Token) (x : A) → Consumes one → (left : ℕ) → length given < left → repeated (suc (length entire)) goes one last entire ≡ prefixed so_far (repeated left goes one last given) → goes given ≡ true → one given ≡ takes x mid → new ≡ so_far ++ x ∷ [] → Midway goes one last entire new mid
  on_by entire so_far new given mid x short zero l same g h is = absurd (omega arith)
  on_by entire so_far new given mid x short (suc n) l same g h is =
      let m = short.consumes given x mid h in
      record { left = n; enough = omega arith; same = same ∙ ap (prefixed so_far) (repeated_more n given mid x g h) ∙ prefixed_twice so_far (x ∷ []) (repeated n goes one last mid) ∙ ap (λ l. prefixed l (repeated n goes one last mid)) (sym is) }

  pub midway_on : (entire : List Token) (so_far new : List A) (given mid : List Token) (x : A) → Consumes one → Midway goes one last entire so_far given → goes given ≡ true → one given ≡ takes x mid → new ≡ so_far ++ x ∷ [] → Midway goes one last entire new mid
  midway_on entire so_far new given mid x short s g h is = on_by entire so_far new given mid x short s.left s.enough s.same g h is

  stop_by : (entire : List Token) (so_far : List A) (given : List Token) (left : ℕ) → length given < left → repeated (suc (length entire)) goes one last entire ≡ prefixed so_far (repeated left goes one last given) → goes given ≡ true → one given ≡ refuses → repeated (suc (length entire)) goes one last entire ≡ refuses
  unfolding repeated
  stop_by entire so_far given zero l same g h = absurd (omega arith)
  stop_by entire so_far given (suc n) l same g h = same ∙ rw (g, h) refl

  pub midway_stops : (entire : List Token) (so_far : List A) (given : List Token) (e : Stop) (rest more : List Token) → Midway goes one last entire so_far given → goes given ≡ true → Tells {A = A} (Err e) rest (one given) → Tells {A = List A × B} (Err e) more (repeated (suc (length entire)) goes one last entire)
  midway_stops entire so_far given Malformed rest more s g h = stop_by entire so_far given s.left s.enough s.same g h
  midway_stops entire so_far given NoMemory rest more s g h = tt

  end_by : (entire : List Token) (so_far : List A) (given : List Token) (left : ℕ) → length given < left → repeated (suc (length entire)) goes one last entire ≡ prefixed so_far (repeated left goes one last given) → goes given ≡ false → repeated (suc (length entire)) goes one last entire ≡ followed (last given) (λ y rest. takes (so_far, y) rest)
  unfolding repeated
  end_by entire so_far given zero l same g = absurd (omega arith)
  end_by entire so_far given (suc n) l same g = same ∙ rw g (by (last given))
    where
      by : (o : Outcome B) → prefixed so_far (followed o (λ y rest. takes ([], y) rest)) ≡ followed o (λ y rest. takes (so_far, y) rest)
      by refuses = refl
      by (takes y remain) = ap (λ l. takes (l, y) remain) (append-nil so_far)

  pub midway_ends : (entire : List Token) (so_far : List A) (given : List Token) → Midway goes one last entire so_far given → goes given ≡ false → repeated (suc (length entire)) goes one last entire ≡ followed (last given) (λ y rest. takes (so_far, y) rest)
  midway_ends entire so_far given s g = end_by entire so_far given s.left s.enough s.same g

-- ---- a row that a sign closes

module _ {A : Type 0} (goes : List Token → Bool) (one : Syntax A) (t : Token) where
  abbrev pub MidwayTo : List Token → List A → List Token → Type 0
  MidwayTo entire so_far given = Midway goes one.read (exactly t).read entire so_far given

  pub marked_stops : (entire : List Token) (so_far : List A) (given : List Token) (e : Stop) (rest more : List Token) → MidwayTo entire so_far given → goes given ≡ true → Tells {A = A} (Err e) rest (one.read given) → Tells {A = List A} (Err e) more ((many_mark goes one t).read entire)
  marked_stops entire so_far given e rest more s g h =
      stops_too e (repeated (suc (length entire)) goes one.read (exactly t).read entire) (λ x rest. takes x.0 rest) more more (midway_stops goes one.read (exactly t).read entire so_far given e rest more s g h)

  pub marked_ends : (entire : List Token) (so_far : List A) (given rest : List Token) → MidwayTo entire so_far given → goes given ≡ false → (exactly t).read given ≡ takes tt rest → (many_mark goes one t).read entire ≡ takes so_far rest
  marked_ends entire so_far given rest s g h = ap (mapped (λ x. x.0)) (midway_ends goes one.read (exactly t).read entire so_far given s g ∙ ap (λ o. followed o (λ y rest. takes (so_far, y) rest)) h)

  pub marked_breaks : (entire : List Token) (so_far : List A) (given : List Token) (e : Stop) (rest more : List Token) → MidwayTo entire so_far given → goes given ≡ false → Tells {A = Unit {0}} (Err e) rest ((exactly t).read given) → Tells {A = List A} (Err e) more ((many_mark goes one t).read entire)
  marked_breaks entire so_far given Malformed rest more s g h = ap (mapped (λ x. x.0)) (midway_ends goes one.read (exactly t).read entire so_far given s g ∙ ap (λ o. followed o (λ y rest. takes (so_far, y) rest)) h)
  marked_breaks entire so_far given NoMemory rest more s g h = tt

-- ---- a row that something else closes

module _ {A B : Type 0} (goes : List Token → Bool) (one : Reader A) (last : Reader B) where
  pub last_ends : (entire : List Token) (so_far : List A) (given : List Token) (y : B) (rest : List Token) → Midway goes one last entire so_far given → goes given ≡ false → last given ≡ takes y rest → repeated (suc (length entire)) goes one last entire ≡ takes (so_far, y) rest
  last_ends entire so_far given y rest s g h = midway_ends goes one last entire so_far given s g ∙ ap (λ o. followed o (λ y rest. takes (so_far, y) rest)) h

  pub last_stops : (entire : List Token) (so_far : List A) (given : List Token) (e : Stop) (rest more : List Token) → Midway goes one last entire so_far given → goes given ≡ false → Tells {A = B} (Err e) rest (last given) → Tells {A = List A × B} (Err e) more (repeated (suc (length entire)) goes one last entire)
  last_stops entire so_far given Malformed rest more s g h = midway_ends goes one last entire so_far given s g ∙ ap (λ o. followed o (λ y rest. takes (so_far, y) rest)) h
  last_stops entire so_far given NoMemory rest more s g h = tt
