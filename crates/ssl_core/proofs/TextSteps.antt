-- One line more of a text.
use Rattle.std.proofs.Common.{◌≡◌, ℕ, ◌+◌, ◌<◌, ◌≤◌, List, ◌∷◌, length, get_or, drop, fold, None, Some, Ok, Err, refl, sym, ap, ◌∙◌}
use Rattle.std.proofs.Math.ListN.{drop_of_length-le}
use Rattle.std.proofs.lemmas.List.{drop_more}
use Rattle.std.specs.Option.{option_or}
use Rattle.ssl_syntax.specs.declared.line.SslLine.{SslLine}
use Rattle.rtl_core.specs.declared.encodings.Encodings.{Encodings}
use Rattle.rtl_core.specs.declared.machine.NamedMachine.{NamedMachine}
use Rattle.ssl_rules.specs.declared.fault.SslFault.{SslFault}
use Rattle.ssl_rules.specs.Given.{Given, given_by, nothing_given, with_body}
use Rattle.ssl_rules.specs.Faults.{body_fault, first_fault, missing_from}
use Rattle.ssl_rules.specs.Machines.{named_machine, normal}
use Rattle.ssl_core.specs.declared.given.Given.{Given as State}
use Rattle.ssl_core.specs.State.{shown, Holds}

-- what lines give behind others
abbrev given_after : Encodings → Given → List SslLine → Given
given_after enc g lines = fold (λ g line. with_body enc g line.body) g lines

-- what is given behind i lines without a fault
pub record IsBehind (enc : Encodings) (lines : List SslLine) (i : ℕ) (g : State) : Type 0 where
  pub fault : first_fault enc (shown g) (drop i lines) ≡ first_fault enc nothing_given lines
  pub gives : given_after enc (shown g) (drop i lines) ≡ given_by enc lines
  pub holds : Holds enc g

pub behind_none : (enc : Encodings) (lines : List SslLine) (g : State) → shown g ≡ nothing_given → Holds enc g → IsBehind enc lines 0 g
behind_none enc lines g e h = record {
  fault = ap (λ k. first_fault enc k lines) e;
  gives = ap (λ k. given_after enc k lines) e;
  holds = h;
}

pub behind_more : (enc : Encodings) (lines : List SslLine) (i : ℕ) (l : SslLine) (g next : State) → i < length lines → l ≡ get_or lines i l → IsBehind enc lines i g
    → body_fault enc (shown g) l.number l.body ≡ None → shown next ≡ with_body enc (shown g) l.body → Holds enc next → IsBehind enc lines (i + 1) next
behind_more enc lines i l g next h e s none step holds =
    let d : drop i lines ≡ l ∷ drop (i + 1) lines = drop_more lines i l h ∙ ap (λ x. x ∷ drop (i + 1) lines) (sym e) in
    record {
      fault = ap (λ k. first_fault enc k (drop (i + 1) lines)) step
          ∙ ap (λ o. option_or o (first_fault enc (with_body enc (shown g) l.body) (drop (i + 1) lines))) (sym none) ∙ ap (first_fault enc (shown g)) (sym d) ∙ s.fault;
      gives = ap (λ k. given_after enc k (drop (i + 1) lines)) step ∙ ap (given_after enc (shown g)) (sym d) ∙ s.gives;
      holds = holds;
    }

-- a fault of the next line is the first
pub behind_fault : (enc : Encodings) (lines : List SslLine) (i : ℕ) (l : SslLine) (g : State) (fault : SslFault) → i < length lines → l ≡ get_or lines i l
    → IsBehind enc lines i g → body_fault enc (shown g) l.number l.body ≡ Some fault → normal enc lines ≡ Err fault
behind_fault enc lines i l g fault h e s some =
    let d : drop i lines ≡ l ∷ drop (i + 1) lines = drop_more lines i l h ∙ ap (λ x. x ∷ drop (i + 1) lines) (sym e) in
    let first : first_fault enc nothing_given lines ≡ Some fault =
    sym s.fault ∙ ap (first_fault enc (shown g)) d ∙ ap (λ o. option_or o (first_fault enc (with_body enc (shown g) l.body) (drop (i + 1) lines))) some in
    rw first refl

-- behind all lines
all_lines : (enc : Encodings) (lines : List SslLine) (i : ℕ) (g : State) → length lines ≤ i → IsBehind enc lines i g → first_fault enc nothing_given lines ≡ None
all_lines enc lines i g h s = sym s.fault ∙ ap (first_fault enc (shown g)) (drop_of_length-le lines h)

all_given : (enc : Encodings) (lines : List SslLine) (i : ℕ) (g : State) → length lines ≤ i → IsBehind enc lines i g → given_by enc lines ≡ shown g
all_given enc lines i g h s = sym s.gives ∙ ap (given_after enc (shown g)) (drop_of_length-le lines h)

pub missing_fault : (enc : Encodings) (lines : List SslLine) (i : ℕ) (g : State) (fault : SslFault) → length lines ≤ i → IsBehind enc lines i g
    → missing_from (shown g) 0 enc.constructors ≡ Some fault → normal enc lines ≡ Err fault
missing_fault enc lines i g fault h s m =
    let none : first_fault enc nothing_given lines ≡ None = all_lines enc lines i g h s in
    let some : missing_from (given_by enc lines) 0 enc.constructors ≡ Some fault = ap (λ k. missing_from k 0 enc.constructors) (all_given enc lines i g h s) ∙ m in
    rw (none, some) refl

pub no_fault : (enc : Encodings) (lines : List SslLine) (i : ℕ) (g : State) (named : NamedMachine) → length lines ≤ i → IsBehind enc lines i g
    → missing_from (shown g) 0 enc.constructors ≡ None → named ≡ named_machine enc (shown g) → normal enc lines ≡ Ok named
no_fault enc lines i g named h s m n =
    let none : first_fault enc nothing_given lines ≡ None = all_lines enc lines i g h s in
    let some : missing_from (given_by enc lines) 0 enc.constructors ≡ None = ap (λ k. missing_from k 0 enc.constructors) (all_given enc lines i g h s) ∙ m in
    let all : given_by enc lines ≡ shown g = all_given enc lines i g h s in
    rw (none, some, all, n) refl
