-- Which text is shipped under a name, and how the answers of `text` follow from what it put out.
use Rattle.std.proofs.Common.{◌≡◌, inl, inr, Bool, true, false, ℕ, List, [], Option, Some, None, Decides, refl, subst, sym}
use Rattle.std.proofs.lemmas.Bool.{false≢true}
use Rattle.std.proofs.lemmas.List.Elements.{All-nil}
use Rattle.std.proofs.lemmas.Slice.Eq.{bytes_eq-Decides}
use Rattle.std.specs.Borrow.{Bor}
use Rattle.std.specs.Option.{IsSomeAnd}
use Rattle.std.specs.Prelude.{codes, if◌then◌else◌, option_copied, option_map, IsSome, MatchOption, ◌↔◌}
use Rattle.std.specs.Str.{bytes_eq}
use Rattle.desc_texts.specs.Names.{IsShipped}
use Rattle.desc_texts.specs.declared.i386_conv.TheConstants.{I386_CONV}
use Rattle.desc_texts.specs.declared.i386_sled.TheConstants.{I386_SLED}
use Rattle.desc_texts.specs.declared.i386_ssl.TheConstants.{I386_SSL}
use Rattle.desc_texts.specs.declared.sparc_conv.TheConstants.{SPARC_CONV}
use Rattle.desc_texts.specs.declared.sparc_sled.TheConstants.{SPARC_SLED}
use Rattle.desc_texts.specs.declared.sparc_ssl.TheConstants.{SPARC_SSL}
use Rattle.desc_texts.specs.declared.uqbt_h.TheConstants.{UQBT_H}
use Rattle.c_control.specs.Programs.{AreBytes}
use Rattle.command_words.specs.Forms.{Text, form_of}
use Rattle.uqbt_top.specs.declared.outcome.Outcome.{Outcome}
use Rattle.uqbt_top.specs.declared.outcome.Outcome.TheVariants.{Done, Usage, WriteFault}
use Rattle.uqbt_top.specs.Command.{command_of}
use Rattle.uqbt_top.specs.Shipping.{TextKeepsOut, TextPut, shipped_text}
use Rattle.uqbt_top.specs.Causes.{Around, Caused, CommandCaused, OnNoInput, OnRefusal}

-- ---- names

-- a text under one name, and what is found under others
one_more : (name n t : List ℕ) (o : Option (Bor (List ℕ))) (rest : Option (List ℕ)) → (name ≡ n → option_copied o ≡ Some t) → ((name ≡ n → ⊥) → option_copied o ≡ rest)
    → option_copied o ≡ (if bytes_eq name n then Some t else rest)
one_more name n t o rest this others = by (bytes_eq name n) (bytes_eq-Decides name n)
  where
    by : (b : Bool) → Decides b (name ≡ n) → option_copied o ≡ (if b then Some t else rest)
    by true d = this (d.0 refl)
    by false d = others (λ e. false≢true (d.1 e))

none_is : (o : Option (Bor (List ℕ))) → (IsSome o → ⊥) → option_copied o ≡ None
none_is None none = refl
none_is (Some x) none = absurd (none refl)

-- no other name is one of a shipped text
no_other : (name : List ℕ) → (name ≡ codes "sparc.sled" → ⊥) → (name ≡ codes "sparc.ssl" → ⊥) → (name ≡ codes "sparc.conv" → ⊥)
    → (name ≡ codes "i386.sled" → ⊥) → (name ≡ codes "i386.ssl" → ⊥) → (name ≡ codes "i386.conv" → ⊥) → (name ≡ codes "uqbt.h" → ⊥) → IsShipped name → ⊥
no_other name a b c d e f g (inl is) = a is
no_other name a b c d e f g (inr (inl is)) = b is
no_other name a b c d e f g (inr (inr (inl is))) = c is
no_other name a b c d e f g (inr (inr (inr (inl is)))) = d is
no_other name a b c d e f g (inr (inr (inr (inr (inl is))))) = e is
no_other name a b c d e f g (inr (inr (inr (inr (inr (inl is)))))) = f is
no_other name a b c d e f g (inr (inr (inr (inr (inr (inr is)))))) = g is

-- what is found by its names is the text
pub text_is : (name : List ℕ) (o : Option (Bor (List ℕ)))
    → (name ≡ codes "sparc.sled" → option_copied o ≡ Some SPARC_SLED.now) → (name ≡ codes "sparc.ssl" → option_copied o ≡ Some SPARC_SSL.now)
    → (name ≡ codes "sparc.conv" → option_copied o ≡ Some SPARC_CONV.now) → (name ≡ codes "i386.sled" → option_copied o ≡ Some I386_SLED.now)
    → (name ≡ codes "i386.ssl" → option_copied o ≡ Some I386_SSL.now) → (name ≡ codes "i386.conv" → option_copied o ≡ Some I386_CONV.now)
    → (name ≡ codes "uqbt.h" → option_copied o ≡ Some UQBT_H.now)
    → (IsSome o ↔ IsShipped name) → option_copied o ≡ shipped_text name
unfolding shipped_text
text_is name o p q r s t u v some =
    one_more name (codes "sparc.sled") SPARC_SLED.now o _ p (λ a.
    one_more name (codes "sparc.ssl") SPARC_SSL.now o _ q (λ b.
    one_more name (codes "sparc.conv") SPARC_CONV.now o _ r (λ c.
    one_more name (codes "i386.sled") I386_SLED.now o _ s (λ d.
    one_more name (codes "i386.ssl") I386_SSL.now o _ t (λ e.
    one_more name (codes "i386.conv") I386_CONV.now o _ u (λ f.
    one_more name (codes "uqbt.h") UQBT_H.now o _ v (λ g. none_is o (λ x. no_other name a b c d e f g (some.0 x)))))))))

-- ---- answers

module _ (words : List (List ℕ)) (name : List ℕ) (a : Around) (o : Outcome) (form : form_of words ≡ Some (Text name)) where
  -- the text was put out, if one is shipped
  pub text_caused : MatchOption (shipped_text name) (o ≡ Usage) (λ text. TextPut text a.out a.out' o) → a.names' ≡ a.names → a.input' ≡ a.input → Caused words a o
  text_caused put kept still = rw form (by (shipped_text name) refl put)
    where
      found : (text : List ℕ) → shipped_text name ≡ Some text → (e : Outcome) → TextPut text a.out a.out' e → CommandCaused (Text name) a e
      found text is Done took = record { kept = kept; bytes = []; are_bytes = All-nil AreBytes; were_read = tt; did = (subst (λ t. IsSomeAnd t (λ x. TextPut x a.out a.out' Done)) (sym is) took, still) }
      found text is WriteFault took = record { kept = kept; bytes = []; are_bytes = All-nil AreBytes; were_read = tt; did = (subst (λ t. IsSomeAnd t (λ x. TextPut x a.out a.out' WriteFault)) (sym is) took, still) }
      found text is e took = absurd took

      by : (t : Option (List ℕ)) → shipped_text name ≡ t → MatchOption t (o ≡ Usage) (λ text. TextPut text a.out a.out' o)
          → MatchOption (option_map (λ text. Text name) t) ((o ≡ Usage) × (a.names' ≡ a.names) × (a.input' ≡ a.input)) (λ command. CommandCaused command a o)
      by None is usage = (usage, kept, still)
      by (Some text) is took = found text is o took

  -- before it the output is as it was
  pub text_refusal : (P : Type 0) → MatchOption (shipped_text name) (o ≡ Usage) (λ text. TextPut text a.out a.out' o) → TextKeepsOut o P → OnRefusal (command_of words) o P
  text_refusal P put p = rw form (by (shipped_text name) put)
    where
      by : (t : Option (List ℕ)) → MatchOption t (o ≡ Usage) (λ text. TextPut text a.out a.out' o) → OnRefusal (option_map (λ text. Text name) t) o P
      by None usage = subst (λ e. TextKeepsOut e P) usage p
      by (Some text) took = p

  -- no input is taken
  pub text_input : (P : Type 0) → P → OnNoInput (command_of words) o P
  text_input P p = rw form (by (shipped_text name))
    where
      by : (t : Option (List ℕ)) → OnNoInput (option_map (λ text. Text name) t) o P
      by None = p
      by (Some text) = p
