-- Texts: their lines as values.
use Rattle.std.proofs.Common.{◌≡◌, ℕ, zero, suc, ◌+◌, ◌<◌, ◌≤◌, Bool, true, List, [], ◌∷◌, ◌++◌, length, take, drop, get_or, map, Result, Ok, Err, refl, sym, ap, ◌∙◌, subst, arith}
use Rattle.std.specs.Prelude.{MatchResult}
use Rattle.std.specs.List.{All}
use Rattle.std.proofs.lemmas.List.Elements.{All-nil, All-cons, All-head, All-tail, All-push}
use Rattle.text_lex.specs.declared.token.Token.{Token}
use Rattle.text_lex.specs.declared.token.LogicalLine.{LogicalLine}
use Rattle.text_lex.specs.declared.token.LexFault.{LexFault}
use Rattle.text_lex.specs.declared.token.LexFault.TheVariants as lexical
use Rattle.text_lex.specs.Faults.{lines, IsFault as IsLexFault}
use Rattle.line_reading.specs.declared.fault.SyntaxFault.{SyntaxFault}
use Rattle.line_reading.specs.declared.fault.SyntaxFault.TheVariants.{Lex, BadLine, NoMemory}
use Rattle.line_reading.specs.Texts.{IsLineValue, Denotes, IsFault}
use Rattle.line_reading.specs.LineLists.{IsReadFrom, IsLineFault, AreRead, AreFaulty, Passes}
use Rattle.line_reading.specs.Readings.{fails, reads, Reader, after, ◌>>=◌, give, ending, whole_line}
use Rattle.line_reading.proofs.ListReads.{never, through}
use Rattle.line_reading.proofs.Tokens.{LineIsWritten, lines_written}

ended : {B : Type 0} (b d : B) (mid r : List Token) → after (ending mid) (λ _. give b) ≡ reads d r → (mid ≡ []) × (b ≡ d)
ended b d [] r h = let same : b ≡ d = cc in (refl, same)
ended b d (t ∷ mid) r h = never d r h

-- a reader took all tokens
pub record TookAll {B : Type 0} (one : Reader B) (ts : List Token) (b : B) : Type 0 where
  pub took : one ts ≡ reads b []

-- what a line was read as was read of all of it
pub whole_took : {B : Type 0} (one : Reader B) (ts : List Token) (b : B) (r : List Token) → whole_line one ts ≡ reads b r → TookAll one ts b
unfolding whole_line
whole_took one ts b r h =
    let t = through (one ts) (λ x. ending >>= (λ _. give x)) b r h in
    let e = ended t.x b t.mid r t.second in
    record { took = t.first ∙ ap (λ m. reads t.x m) e.0 ∙ ap (λ x. reads x []) e.1 }

pub whole_reads : {B : Type 0} (one : Reader B) (ts : List Token) (b : B) → one ts ≡ reads b [] → whole_line one ts ≡ reads b []
unfolding whole_line
whole_reads one ts b h = rw h refl

pub no_fails : {B : Type 0} (b : B) (r : List Token) → reads b r ≡ fails → ⊥
no_fails b r h = cc

pub same_value : {B : Type 0} (a b : B) → reads a [] ≡ reads b [] → a ≡ b
same_value a b h = cc

pub none_read : {V : Type 0} (spelled : V → LogicalLine) (formed : V → Bool) → AreRead spelled formed [] []
none_read spelled formed = record { lined = refl; parts = All-nil (λ value. formed value ≡ true) }

split_here : {A : Type 0} (ls : List A) (i : ℕ) (d : A) → i < length ls → ls ≡ take i ls ++ get_or ls i d ∷ drop (suc i) ls
split_here [] i d h = absurd (omega arith)
split_here (x ∷ xs) zero d h = refl
split_here (x ∷ xs) (suc i) d h = ap (λ l. x ∷ l) (split_here xs i d (omega arith))

pub take_next : {A : Type 0} (ls : List A) (i : ℕ) (d : A) → i < length ls → take (i + 1) ls ≡ take i ls ++ get_or ls i d ∷ []
take_next [] i d h = absurd (omega arith)
take_next (x ∷ xs) zero d h = refl
take_next (x ∷ xs) (suc i) d h = let e : suc i + 1 ≡ suc (i + 1) = omega arith in rw e (ap (λ l. x ∷ l) (take_next xs i d (omega arith)))

take_whole : {A : Type 0} (ls : List A) (i : ℕ) → length ls ≤ i → take i ls ≡ ls
take_whole [] zero h = refl
take_whole [] (suc i) h = refl
take_whole (x ∷ xs) zero h = absurd (omega arith)
take_whole (x ∷ xs) (suc i) h = ap (λ l. x ∷ l) (take_whole xs i (omega arith))

map_push : {V : Type 0} (spelled : V → LogicalLine) (values : List V) (value : V) → map spelled (values ++ value ∷ []) ≡ map spelled values ++ spelled value ∷ []
map_push spelled [] value = refl
map_push spelled (v ∷ vs) value = ap (λ l. spelled v ∷ l) (map_push spelled vs value)

-- one more line was read
pub more_read : {V : Type 0} (spelled : V → LogicalLine) (formed : V → Bool) (ls : List LogicalLine) (values new : List V) (i : ℕ) (line : LogicalLine) (value : V) → i < length ls → line ≡ get_or ls i line → AreRead spelled formed values (take i ls) → IsReadFrom spelled formed value line → new ≡ values ++ value ∷ [] → AreRead spelled formed new (take (i + 1) ls)
more_read spelled formed ls values new i line value h at s v is = subst (λ l. AreRead spelled formed l (take (i + 1) ls)) (sym is) (record {
  lined = take_next ls i line h ∙ ap (λ l. take i ls ++ l ∷ []) (sym at ∙ sym v.lined) ∙ ap (λ l. l ++ spelled value ∷ []) s.lined ∙ sym (map_push spelled values value);
  parts = All-push (λ v. formed v ≡ true) values value s.parts v.parts;
})

pub all_read : {V : Type 0} (spelled : V → LogicalLine) (formed : V → Bool) (ls : List LogicalLine) (values : List V) (i : ℕ) → length ls ≤ i → AreRead spelled formed values (take i ls) → AreRead spelled formed values ls
all_read spelled formed ls values i h s = subst (λ l. AreRead spelled formed values l) (take_whole ls i h) s

-- the first line without a form was met
pub bad_read : {V : Type 0} (spelled : V → LogicalLine) (formed : V → Bool) (ls : List LogicalLine) (values : List V) (i : ℕ) (line : LogicalLine) (fault : SyntaxFault) → i < length ls → line ≡ get_or ls i line → AreRead spelled formed values (take i ls) → IsLineFault spelled formed fault line → AreFaulty spelled formed fault ls
bad_read spelled formed ls values i line (Lex fault) h at s f = absurd f
bad_read spelled formed ls values i line (BadLine n) h at s f = record {
  before = values;
  line = line;
  behind = drop (suc i) ls;
  split = split_here ls i line h ∙ ap (λ l. take i ls ++ l ∷ drop (suc i) ls) (sym at) ∙ ap (λ l. l ++ line ∷ drop (suc i) ls) s.lined;
  parts = s.parts;
  bad = f;
}
bad_read spelled formed ls values i line NoMemory h at s f = tt

all_values : {V : Type 0} (spelled : V → LogicalLine) (formed : V → Bool) (values : List V) → All (λ v. formed v ≡ true) values → All LineIsWritten (map spelled values) → All (IsLineValue spelled formed) values
all_values spelled formed [] f w = All-nil (IsLineValue spelled formed)
all_values spelled formed (v ∷ vs) f w =
    All-cons (IsLineValue spelled formed) v vs
    (record { parts = All-head (λ v. formed v ≡ true) v vs f; written = All-head LineIsWritten (spelled v) (map spelled vs) w })
    (all_values spelled formed vs (All-tail (λ v. formed v ≡ true) v vs f) (All-tail LineIsWritten (spelled v) (map spelled vs) w))

front_written : (xs ys : List LogicalLine) → All LineIsWritten (xs ++ ys) → All LineIsWritten xs
front_written [] ys w = All-nil LineIsWritten
front_written (x ∷ xs) ys w = All-cons LineIsWritten x xs (All-head LineIsWritten x (xs ++ ys) w) (front_written xs ys (All-tail LineIsWritten x (xs ++ ys) w))

pub denotes : {V : Type 0} (spelled : V → LogicalLine) (formed : V → Bool) (text : List ℕ) (ls : List LogicalLine) (values : List V) → lines text ≡ Ok ls → AreRead spelled formed values ls → Denotes spelled formed text values
denotes spelled formed text ls values h s = record {
  lined = h ∙ ap (λ l. Ok l) s.lined;
  proper = all_values spelled formed values s.parts (subst (λ l. All LineIsWritten l) s.lined (lines_written text ls h));
}

pub faulty : {V : Type 0} (spelled : V → LogicalLine) (formed : V → Bool) (text : List ℕ) (ls : List LogicalLine) (fault : SyntaxFault) → lines text ≡ Ok ls → AreFaulty spelled formed fault ls → IsFault spelled formed text fault
faulty spelled formed text ls (Lex fault) h f = absurd f
faulty spelled formed text ls (BadLine n) h f = record {
  before = f.before;
  line = f.line;
  behind = f.behind;
  split = h ∙ ap (λ l. Ok l) f.split;
  proper = all_values spelled formed f.before f.parts (front_written (map spelled f.before) (f.line ∷ f.behind) (subst (λ l. All LineIsWritten l) f.split (lines_written text ls h)));
  bad = f.bad.bad;
  number_is = f.bad.number_is;
}
faulty spelled formed text ls NoMemory h f = tt

pub matched : {A B : Type 0} (r : Result A B) (P Q : A → Type 0) (S T : B → Type 0) → ((x : A) → P x → Q x) → ((e : B) → S e → T e) → MatchResult r P S → MatchResult r Q T
matched (Ok x) P Q S T f g h = f x h
matched (Err e) P Q S T f g h = g e h

-- what the lines of a text tell of it
pub told_of : {V : Type 0} (spelled : V → LogicalLine) (formed : V → Bool) (text : List ℕ) (ls : List LogicalLine) (r : Result (List V) SyntaxFault) → lines text ≡ Ok ls → MatchResult r (λ values. AreRead spelled formed values ls) (λ fault. AreFaulty spelled formed fault ls) → MatchResult r (λ values. Denotes spelled formed text values) (λ fault. IsFault spelled formed text fault)
told_of spelled formed text ls r h m = matched r (λ values. AreRead spelled formed values ls) (λ values. Denotes spelled formed text values) (λ fault. AreFaulty spelled formed fault ls) (λ fault. IsFault spelled formed text fault) (λ values s. denotes spelled formed text ls values h s) (λ fault f. faulty spelled formed text ls fault h f) m

-- a fault of the lines of a text is one of the text
pub passes : {V : Type 0} (spelled : V → LogicalLine) (formed : V → Bool) (text : List ℕ) (given : LexFault) (fault : SyntaxFault) → IsLexFault given (lines text) → Passes given fault → IsFault spelled formed text fault
passes spelled formed text lexical.NoMemory fault h p = rw p tt
passes spelled formed text (lexical.BadByte n) fault h p = rw p h
passes spelled formed text (lexical.LongLine n) fault h p = rw p h
passes spelled formed text lexical.ManyLines fault h p = rw p h

pub ruleset list_laws = (none_read, more_read, all_read, bad_read)

pub ruleset text_laws = (told_of)
