-- How larger things are spelled and read by the syntax of their parts.
use Rattle.std.specs.Prelude.{ℕ, zero, suc, Bool, List, [], ◌∷◌, ◌++◌, length, drop, flat_map, not, if◌then◌else◌}
use Rattle.std.specs.List.{join_by}
use Rattle.c_text.specs.Tokens.{Token, mark}
use Rattle.c_scan.specs.Readings.{Outcome, refuses, takes, Reader, followed, at, Syntax, exactly}

-- each member has P
abbrev pub Each : {A : Type 0} → (A → Type 0) → List A → Type 0
Each P [] = Unit {0}
Each P (x ∷ xs) = P x × Each P xs

-- two things in turn
abbrev pub in_turn : {A B : Type 0} → Syntax A → Syntax B → Syntax (A × B)
in_turn g h = record {
  spell = λ x. g.spell x.0 ++ h.spell x.1;
  read = λ given. followed (g.read given) (λ x mid. followed (h.read mid) (λ y rest. takes (x, y) rest));
}

-- something behind a token
abbrev pub before : {A : Type 0} → Token → Syntax A → Syntax A
before t g = record {
  spell = λ x. t ∷ g.spell x;
  read = λ given. followed ((exactly t).read given) (λ _ mid. g.read mid);
}

-- something before a token
abbrev pub behind : {A : Type 0} → Syntax A → Token → Syntax A
behind g t = record {
  spell = λ x. g.spell x ++ t ∷ [];
  read = λ given. followed (g.read given) (λ x mid. followed ((exactly t).read mid) (λ _ rest. takes x rest));
}

-- a value made of the one that is read
abbrev pub mapped : {A B : Type 0} → (A → B) → Outcome A → Outcome B
mapped f o = followed o (λ x rest. takes (f x) rest)

-- a row that has these in front
abbrev pub prefixed : {A B : Type 0} → List A → Outcome (List A × B) → Outcome (List A × B)
prefixed xs refuses = refuses
prefixed xs (takes ys rest) = takes (xs ++ ys.0, ys.1) rest

-- a row of at most so many things, each of which begins so, and what closes it
unfoldable pub repeated : {A B : Type 0} → ℕ → (List Token → Bool) → Reader A → Reader B → Reader (List A × B)
repeated zero goes one last given = refuses
repeated (suc n) goes one last given =
    if goes given then followed (one given) (λ x mid. prefixed (x ∷ []) (repeated n goes one last mid)) else followed (last given) (λ y rest. takes ([], y) rest)

-- a row of things that begin so, and what closes it
abbrev pub many_then : {A B : Type 0} → (List Token → Bool) → Syntax A → Syntax B → Syntax (List A × B)
many_then goes one last = record {
  spell = λ x. flat_map one.spell x.0 ++ last.spell x.1;
  read = λ given. repeated (suc (length given)) goes one.read last.read given;
}

-- a row of things that begin so, and a token that closes it
abbrev pub many_mark : {A : Type 0} → (List Token → Bool) → Syntax A → Token → Syntax (List A)
many_mark goes one t = record {
  spell = λ xs. flat_map one.spell xs ++ t ∷ [];
  read = λ given. mapped (λ x. x.0) ((many_then goes one (exactly t)).read given);
}

-- a row up to a token
abbrev pub many_until : {A : Type 0} → Token → Syntax A → Syntax (List A)
many_until t one = many_mark (λ given. not (at t given)) one t

-- a row with commas between its members, and a token that closes it
abbrev pub comma_list : {A : Type 0} → Token → Syntax A → Syntax (List A)
comma_list t one = record {
  spell = λ xs. join_by one.spell (mark "," ∷ []) xs ++ t ∷ [];
  read = λ given.
      if at t given then takes [] (drop 1 given)
      else mapped (λ x. x.0 ∷ x.1) ((in_turn one (many_mark (at (mark ",")) (before (mark ",") one) t)).read given);
}

-- a row with a comma before each member, and a token that closes it
abbrev pub comma_rest : {A : Type 0} → Syntax A → Token → Syntax (List A)
comma_rest one t = many_mark (at (mark ",")) (before (mark ",") one) t
