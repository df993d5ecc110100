-- The lines one after another: what is said so far, and the first fault of those ahead.
use Rattle.std.proofs.Common.{◌≡◌, ◌≢◌, ℕ, ◌+◌, ◌<◌, ◌≤◌, Bool, List, [], ◌∷◌, ◌++◌, length, take, drop, get_or, Option, Some, None, Result, Ok, Err, refl, sym, ap, ◌∙◌}
use Rattle.std.specs.Prelude.{IfOk, IfErr, option_map}
use Rattle.std.specs.Option.{option_or}
use Rattle.std.proofs.lemmas.List.{append-nil, take_more, drop_more, take-append-drop}
use Rattle.std.proofs.Math.ListN.{drop_of_length-le}
use Rattle.rtl_core.specs.declared.conv.Conv.{Conv}
use Rattle.rtl_core.specs.declared.encodings.Encodings.{Encodings}
use Rattle.rtl_core.specs.declared.machine.Machine.{Machine}
use Rattle.rtl_core.specs.declared.machine.NamedMachine.{NamedMachine}
use Rattle.conv_syntax.specs.declared.line.ConvLine.{ConvLine}
use Rattle.conv_syntax.specs.declared.line.ConvBody.{ConvBody}
use Rattle.conv_syntax.specs.declared.line.ConvBody.TheVariants as body
use Rattle.conventions.specs.declared.fact.Fact.{Fact}
use Rattle.conventions.specs.declared.fact.Fact.TheVariants.{Call, Return, Pad}
use Rattle.conventions.specs.declared.said.Said.{Said}
use Rattle.conventions.specs.declared.fault.ConvFault.{ConvFault}
use Rattle.conventions.specs.declared.fault.ConvFault.TheVariants.{NoMemory}
use Rattle.conventions.specs.Names.{instructions, FindsSame}
use Rattle.conventions.specs.Facts.{fact_of}
use Rattle.conventions.specs.Said.{said_by, facts_of, with_fact}
use Rattle.conventions.specs.Faults.{fact_fault, fault_of, line_fault, first_fault, unless, checked}
use Rattle.conventions.specs.Normal.{serves, missing_fault, conv_of, normal}
use Rattle.conventions.proofs.Together.{said-push, facts-push}

-- what so many lines say, where none of them has a fault
pub record IsReadTo (table : List (List ℕ × ℕ)) (named : NamedMachine) (lines : List ConvLine) (i : ℕ) (said : Said) : Type 0 where
  pub so_far : said ≡ said_by (facts_of table named (take i lines))
  pub ahead : first_fault table named [] lines ≡ first_fault table named (take i lines) (drop i lines)

pub nothing_read : (table : List (List ℕ × ℕ)) (named : NamedMachine) (lines : List ConvLine) (said : Said) → said ≡ said_by [] → IsReadTo table named lines 0 said
nothing_read table named lines said h = record { so_far = h; ahead = refl }

-- a line without a fault
pub record IsPassed (m : Machine) (said : Said) (line : ℕ) (o : Option Fact) (f : Fact) : Type 0 where
  pub none : fault_of m said line o ≡ None
  pub known : o ≡ Some f

pub unless_ok : {A : Type 0} (o : Option ConvFault) (x y : A) → unless o x ≡ Ok y → (o ≡ None) × (x ≡ y)
unless_ok None x y h = let same : x ≡ y = cc in (refl, same)
unless_ok (Some e) x y h = absurd (cc)

unless_err : {A : Type 0} (o : Option ConvFault) (x : A) (e : ConvFault) → unless o x ≡ Err e → o ≡ Some e
unless_err None x e h = absurd (cc)
unless_err (Some d) x e h = let same : d ≡ e = cc in ap (λ d. Some d) same

pub passed : (m : Machine) (said : Said) (line : ℕ) (o : Option Fact) (f : Fact) → Ok f ≡ checked m said line o → IsPassed m said line o f
passed m said line None f h = absurd (cc)
passed m said line (Some g) f h =
    let p = unless_ok (fact_fault m said line g) g f (sym h) in
    record { none = p.0; known = ap (λ g. Some g) p.1 }

pub failed : (m : Machine) (said : Said) (line : ℕ) (o : Option Fact) (e : ConvFault) → Err e ≡ checked m said line o → fault_of m said line o ≡ Some e
failed m said line None e h = let same : fault_of m said line None ≡ Some e = ap (λ d. Some d) (cc) in same
failed m said line (Some g) e h = unless_err (fact_fault m said line g) g e (sym h)

-- a line says the same where each name gives the same instruction
same_fact : (found table : List (List ℕ × ℕ)) (named : NamedMachine) → FindsSame found table → (b : ConvBody) → fact_of found named b ≡ fact_of table named b
same_fact found table named s (body.Call name) = ap (λ o. option_map (λ c. Call c) o) (s.found name)
same_fact found table named s (body.Return name) = ap (λ o. option_map (λ c. Return c) o) (s.found name)
same_fact found table named s (body.Pad name) = ap (λ o. option_map (λ c. Pad c) o) (s.found name)
same_fact found table named s _ = refl

-- the fault of the next line decides
next_fault : (table : List (List ℕ × ℕ)) (named : NamedMachine) (lines : List ConvLine) (i : ℕ) (said : Said) (line : ConvLine) (o : Option ConvFault) → i < length lines → line ≡ get_or lines i line → IsReadTo table named lines i said
    → fault_of named.machine said line.number (fact_of table named line.body) ≡ o
    → first_fault table named [] lines ≡ option_or o (first_fault table named (take (i + 1) lines) (drop (i + 1) lines))
unfolding first_fault
next_fault table named lines i said line o h is r e =
    let front : get_or lines i line ∷ drop (i + 1) lines ≡ line ∷ drop (i + 1) lines = ap (λ l. l ∷ drop (i + 1) lines) (sym is) in
    let grown : take i lines ++ line ∷ [] ≡ take (i + 1) lines = ap (λ l. take i lines ++ l ∷ []) is ∙ sym (take_more lines i line h) in
    let fault : line_fault table named (take i lines) line ≡ o = ap (λ s. fault_of named.machine s line.number (fact_of table named line.body)) (sym r.so_far) ∙ e in
    r.ahead ∙ ap (first_fault table named (take i lines)) (drop_more lines i line h ∙ front)
    ∙ ap (λ f. option_or f (first_fault table named (take i lines ++ line ∷ []) (drop (i + 1) lines))) fault
    ∙ ap (λ before. option_or o (first_fault table named before (drop (i + 1) lines))) grown

pub one_more : (table found : List (List ℕ × ℕ)) (named : NamedMachine) (lines : List ConvLine) (i : ℕ) (said new : Said) (line : ConvLine) (f : Fact) → i < length lines → line ≡ get_or lines i line → IsReadTo table named lines i said
    → FindsSame found table → Ok f ≡ checked named.machine said line.number (fact_of found named line.body) → new ≡ with_fact said f → IsReadTo table named lines (i + 1) new
one_more table found named lines i said new line f h is r t c n =
    let p = passed named.machine said line.number (fact_of table named line.body) f (c ∙ ap (checked named.machine said line.number) (same_fact found table named t line.body)) in
    let grown : take i lines ++ line ∷ [] ≡ take (i + 1) lines = ap (λ l. take i lines ++ l ∷ []) is ∙ sym (take_more lines i line h) in
    record {
      so_far = n ∙ ap (λ s. with_fact s f) r.so_far ∙ sym (said-push (facts_of table named (take i lines)) f)
          ∙ ap said_by (sym (facts-push table named (take i lines) line f p.known)) ∙ ap (λ l. said_by (facts_of table named l)) grown;
      ahead = next_fault table named lines i said line None h is r p.none;
    }

-- a line with a fault
pub stopped : (enc : Encodings) (found : List (List ℕ × ℕ)) (named : NamedMachine) (lines : List ConvLine) (i : ℕ) (said : Said) (line : ConvLine) (e : ConvFault) → i < length lines → line ≡ get_or lines i line → IsReadTo (instructions enc) named lines i said
    → FindsSame found (instructions enc) → Err e ≡ checked named.machine said line.number (fact_of found named line.body) → normal enc named lines ≡ Err e
stopped enc found named lines i said line e h is r t c =
    let table : List (List ℕ × ℕ) = instructions enc in
    let f = next_fault table named lines i said line (Some e) h is r (failed named.machine said line.number (fact_of table named line.body) e (c ∙ ap (checked named.machine said line.number) (same_fact found table named t line.body))) in
    let all : Said = said_by (facts_of table named lines) in
    ap (λ o. unless (option_or o (missing_fault (serves named.machine) all)) (conv_of all)) f

take_whole : {A : Type 0} (ls : List A) (i : ℕ) → length ls ≤ i → take i ls ≡ ls
take_whole ls i h = sym (append-nil (take i ls)) ∙ ap (λ r. take i ls ++ r) (sym (drop_of_length-le ls h)) ∙ take-append-drop i ls

none_ahead : (table : List (List ℕ × ℕ)) (named : NamedMachine) (lines : List ConvLine) (i : ℕ) (said : Said) → length lines ≤ i → IsReadTo table named lines i said → first_fault table named [] lines ≡ None
unfolding first_fault
none_ahead table named lines i said h r = r.ahead ∙ ap (first_fault table named (take i lines)) (drop_of_length-le lines h)

-- no line has a fault
pub all_read : (enc : Encodings) (named : NamedMachine) (lines : List ConvLine) (i : ℕ) (said : Said) (serving : Bool) (r : Result Conv ConvFault) → length lines ≤ i → IsReadTo (instructions enc) named lines i said
    → serving ≡ serves named.machine → r ≡ unless (missing_fault serving said) (conv_of said) → normal enc named lines ≡ r
all_read enc named lines i said serving r h to v e =
    let table : List (List ℕ × ℕ) = instructions enc in
    let all : Said = said_by (facts_of table named lines) in
    let same : said ≡ all = to.so_far ∙ ap (λ l. said_by (facts_of table named l)) (take_whole lines i h) in
    ap (λ o. unless (option_or o (missing_fault (serves named.machine) all)) (conv_of all)) (none_ahead table named lines i said h to)
    ∙ ap (λ s. unless (missing_fault (serves named.machine) s) (conv_of s)) (sym same) ∙ ap (λ b. unless (missing_fault b said) (conv_of said)) (sym v) ∙ sym e

pub is_value : (r n : Result Conv ConvFault) → n ≡ r → IfOk r (λ conv. n ≡ Ok conv)
is_value (Ok conv) n h = h
is_value (Err e) n h = tt

pub is_fault : (r n : Result Conv ConvFault) → n ≡ r → IfErr r (λ e. e ≢ NoMemory → n ≡ Err e)
is_fault (Ok conv) n h = tt
is_fault (Err e) n h = λ _. h
