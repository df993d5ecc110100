-- What lines say together: one line more.
use Rattle.std.proofs.Common.{◌≡◌, ℕ, List, [], ◌∷◌, ◌++◌, Option, Some, None, refl, sym, ap, ◌∙◌}
use Rattle.std.specs.List.{filter_map, cons_option}
use Rattle.std.specs.Option.{option_or}
use Rattle.std.proofs.lemmas.List.{append-nil}
use Rattle.std.proofs.lemmas.List.Elements.{filter_map-append}
use Rattle.rtl_core.specs.declared.machine.NamedMachine.{NamedMachine}
use Rattle.conv_syntax.specs.declared.line.ConvLine.{ConvLine}
use Rattle.conventions.specs.declared.fact.Fact.{Fact}
use Rattle.conventions.specs.Facts.{fact_of}
use Rattle.conventions.specs.Said.{as_elf, as_stack, as_heap, as_service, as_exit, as_read, as_write, as_brk, as_errors, as_link, as_call, as_return, as_entry, as_whole, as_pad, as_args, line_of, said_by, facts_of, pushed, with_fact}

or-none : {A : Type 0} (o : Option A) → option_or o None ≡ o
or-none None = refl
or-none (Some x) = refl

or-or : {A : Type 0} (a b c : Option A) → option_or (option_or a b) c ≡ option_or a (option_or b c)
or-or None b c = refl
or-or (Some x) b c = refl

-- the last line of a kind counts
line-push : {A : Type 0} (kind : Fact → Option A) (fs : List Fact) (f : Fact) → line_of kind (fs ++ f ∷ []) ≡ option_or (kind f) (line_of kind fs)
unfolding line_of
line-push kind [] f = sym (or-none (kind f))
line-push kind (x ∷ fs) f = ap (λ o. option_or o (kind x)) (line-push kind fs f) ∙ or-or (kind f) (line_of kind fs) (kind x)

pushed-is : {A : Type 0} (o : Option A) (xs : List A) → xs ++ cons_option o [] ≡ pushed o xs
pushed-is None xs = append-nil xs
pushed-is (Some x) xs = refl

filter-push : {X A : Type 0} (kind : X → Option A) (xs : List X) (x : X) → filter_map kind (xs ++ x ∷ []) ≡ pushed (kind x) (filter_map kind xs)
filter-push kind xs x = filter_map-append kind xs (x ∷ []) ∙ pushed-is (kind x) (filter_map kind xs)

pub said-push : (fs : List Fact) (f : Fact) → said_by (fs ++ f ∷ []) ≡ with_fact (said_by fs) f
said-push fs f =
    rw (
      line-push as_elf fs f,
      line-push as_stack fs f,
      line-push as_heap fs f,
      line-push as_service fs f,
      line-push as_exit fs f,
      line-push as_read fs f,
      line-push as_write fs f,
      line-push as_brk fs f,
      line-push as_errors fs f,
      line-push as_link fs f,
      filter-push as_call fs f,
      filter-push as_return fs f,
      filter-push as_entry fs f,
      filter-push as_whole fs f,
      filter-push as_pad fs f,
      line-push as_args fs f,
    ) refl

-- one line more, whose names are known
pub facts-push : (table : List (List ℕ × ℕ)) (named : NamedMachine) (lines : List ConvLine) (line : ConvLine) (f : Fact) → fact_of table named line.body ≡ Some f
    → facts_of table named (lines ++ line ∷ []) ≡ facts_of table named lines ++ f ∷ []
facts-push table named lines line f h =
    filter-push (λ line. fact_of table named line.body) lines line ∙ ap (λ o. pushed o (facts_of table named lines)) h
