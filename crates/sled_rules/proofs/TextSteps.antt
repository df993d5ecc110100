-- One line more of a text.
use Rattle.std.proofs.Common.{◌≡◌, ℕ, ◌+◌, ◌<◌, List, [], ◌∷◌, length, get_or, drop, fold, Option, None, Some, refl, sym, ap, ◌∙◌}
use Rattle.std.proofs.lemmas.List.{drop_more}
use Rattle.std.specs.Option.{option_or}
use Rattle.sled_syntax.specs.declared.line.SledLine.{SledLine}
use Rattle.sled_rules.specs.declared.known.Known.{Known}
use Rattle.sled_rules.specs.declared.fault.SledFault.{SledFault}
use Rattle.sled_rules.specs.Counts.{IsCounted}
use Rattle.sled_rules.specs.Known.{nothing_known, with_line}
use Rattle.sled_rules.specs.Faults.{line_fault}
use Rattle.sled_rules.specs.Normal.{fault_after, first_fault, known, known_after}
use Rattle.sled_rules.proofs.CountedLaws.{counted_line}

-- what is known behind i lines without a fault
pub record IsBehind (lines : List SledLine) (i : ℕ) (k : Known) : Type 0 where
  pub fault : fault_after k (drop i lines) ≡ first_fault lines
  pub gives : known_after k (drop i lines) ≡ known lines
  pub counted : IsCounted k

pub behind_none : (lines : List SledLine) (k : Known) → k ≡ nothing_known → IsCounted k → IsBehind lines 0 k
behind_none lines k e c = record {
  fault = ap (λ m. fault_after m lines) e;
  gives = ap (λ m. known_after m lines) e;
  counted = c;
}

pub behind_more : (lines : List SledLine) (i : ℕ) (l : SledLine) (k next : Known) → i < length lines → l ≡ get_or lines i l → IsBehind lines i k
    → line_fault k l.number l.body ≡ None → next ≡ with_line k l.body → IsBehind lines (i + 1) next
behind_more lines i l k next h e s none step =
    let d : drop i lines ≡ l ∷ drop (i + 1) lines = drop_more lines i l h ∙ ap (λ x. x ∷ drop (i + 1) lines) (sym e) in
    let f : option_or (line_fault k l.number l.body) (fault_after (with_line k l.body) (drop (i + 1) lines)) ≡ first_fault lines =
    ap (fault_after k) (sym d) ∙ s.fault in
    let g : known_after (with_line k l.body) (drop (i + 1) lines) ≡ known lines = ap (known_after k) (sym d) ∙ s.gives in
    rw step (record {
      fault = rw none at f;
      gives = g;
      counted = counted_line k l.number l.body s.counted none;
    })

-- a fault of the next line is the first
pub behind_fault : (lines : List SledLine) (i : ℕ) (l : SledLine) (k : Known) (fault : SledFault) → i < length lines → l ≡ get_or lines i l → IsBehind lines i k
    → line_fault k l.number l.body ≡ Some fault → first_fault lines ≡ Some fault
behind_fault lines i l k fault h e s some =
    let d : drop i lines ≡ l ∷ drop (i + 1) lines = drop_more lines i l h ∙ ap (λ x. x ∷ drop (i + 1) lines) (sym e) in
    let f : option_or (line_fault k l.number l.body) (fault_after (with_line k l.body) (drop (i + 1) lines)) ≡ first_fault lines =
    ap (fault_after k) (sym d) ∙ s.fault in
    sym (rw some at f)
