-- What holds beside what lines give.
use Rattle.std.proofs.Common.{◌≡◌, ℕ, zero, suc, ◌+◌, ◌<◌, Bool, true, false, cond, List, [], ◌∷◌, length, get_or, drop, replicate, Option, Some, None, refl, sym, ap, subst, ◌∙◌, unwrap_or}
use Rattle.std.specs.Prelude.{find, option_map, slice_get, slice_set}
use Rattle.ssl_rules.specs.declared.tables.Stands.{Stands}
use Rattle.ssl_core.proofs.StoodLemmas.{noted_stood, stood_same}
use Rattle.ssl_core.specs.Stood.{known_stands}
use Rattle.ssl_core.specs.Typing.{AreTyped}
use Rattle.ssl_rules.specs.TableGrowth.{no_tables}
use Rattle.ssl_core.specs.Shown.{made_list}
use Rattle.ssl_core.proofs.GrowthLemmas.{none_named}
use Rattle.std.proofs.lemmas.List.{drop_more}
use Rattle.rtl_core.specs.declared.encodings.Coded.{Coded}
use Rattle.rtl_core.specs.declared.encodings.Encodings.{Encodings}
use Rattle.ssl_rules.specs.declared.fault.SslFault.{SslFault}
use Rattle.ssl_rules.specs.declared.fault.SslFault.TheVariants.{Missing}
use Rattle.ssl_rules.specs.declared.tables.Tables.{Tables}
use Rattle.ssl_rules.specs.Given.{Given, has_template, is_of}
use Rattle.ssl_rules.specs.Faults.{missing_from}
use Rattle.ssl_core.specs.declared.given.Given.{Given as State}
use Rattle.ssl_core.specs.State.{AreCellsNamed, Holds, shown}

abbrev pub nothings : ℕ → List (Option ℕ)
nothings n = replicate n None

none_there : (n t : ℕ) → unwrap_or (slice_get (nothings n) t) None ≡ None
none_there zero t = refl
none_there (suc n) zero = refl
none_there (suc n) (suc t) = none_there n t

length-nothings : (n : ℕ) → length (nothings n) ≡ n
length-nothings zero = refl
length-nothings (suc n) = ap suc (length-nothings n)

never : (n t : ℕ) (s : Stands) → slice_get (replicate n None) t ≡ Some (Some s) → ⊥
never zero t s h = cc
never (suc n) zero s h = cc
never (suc n) (suc t) s h = never n t s h

-- before the first line
pub new_holds : (enc : Encodings) (g : State) (n : ℕ) → g.tables ≡ no_tables → made_list g.templates ≡ [] → g.widths ≡ nothings n → g.stands ≡ replicate n None → n ≡ length enc.types → AreTyped enc g.types
    → Holds enc g
new_holds enc g n t m w st e ts = record {
  types = ts;
  stood = λ s r h. absurd (never n s r (ap (λ ws. slice_get ws s) (sym st) ∙ h));
  cells = subst AreCellsNamed (sym t) none_named;
  count = ap length w ∙ length-nothings n ∙ e;
  widths = λ s. ap (λ ws. unwrap_or (slice_get ws s) None) w ∙ none_there n s ∙ sym (ap (λ ms. option_map (λ m. m.width) (find (λ m. is_of enc s m.constructor) ms)) m);
}

-- the same templates, and the same beside them
pub state_holds : (enc : Encodings) (g new : State) → Holds enc g → AreCellsNamed new.tables → new.templates ≡ g.templates → new.widths ≡ g.widths → new.stands ≡ g.stands → new.types ≡ g.types → Holds enc new
state_holds enc g new h a t w s ts = record {
  types = subst (AreTyped enc) (sym ts) h.types;
  cells = a;
  count = ap length w ∙ h.count;
  stood = λ u r e. stood_same (shown g) (shown new) (ap made_list (sym t)) enc u r (h.stood u r (ap (λ ws. slice_get ws u) (sym s) ∙ e));
  widths = λ u. ap (λ ws. unwrap_or (slice_get ws u) None) w ∙ h.widths u
      ∙ ap (λ x. option_map (λ m. m.width) (find (λ m. is_of enc u m.constructor) (made_list x))) (sym t);
}

-- other tables
pub tables_hold : (enc : Encodings) (g : State) (t : Tables) → Holds enc g → AreCellsNamed t → Holds enc (record g { tables = t })
tables_hold enc g t h a = state_holds enc g (record g { tables = t }) h a refl refl refl refl

-- ---- the first constructor without a template

nameless : Coded
nameless = record { name = []; kinds = []; alternatives = [] }

pub missing_more : (g : Given) (cs : List Coded) (k : ℕ) (made : Bool) (whole : Option SslFault) → k < length cs → made ≡ has_template g k → made ≡ true
    → missing_from g k (drop k cs) ≡ whole → missing_from g (k + 1) (drop (k + 1) cs) ≡ whole
missing_more g cs k made whole h e is was =
    let d : drop k cs ≡ get_or cs k nameless ∷ drop (k + 1) cs = drop_more cs k nameless h in
    ap (λ b. cond b (missing_from g (k + 1) (drop (k + 1) cs)) (Some (Missing k))) (sym is ∙ e) ∙ ap (missing_from g k) (sym d) ∙ was

pub missing_here : (g : Given) (cs : List Coded) (k : ℕ) (made : Bool) (whole : Option SslFault) → k < length cs → made ≡ has_template g k → made ≡ false
    → missing_from g k (drop k cs) ≡ whole → Some (Missing k) ≡ whole
missing_here g cs k made whole h e is was =
    let d : drop k cs ≡ get_or cs k nameless ∷ drop (k + 1) cs = drop_more cs k nameless h in
    ap (λ b. cond b (missing_from g (k + 1) (drop (k + 1) cs)) (Some (Missing k))) (sym is ∙ e) ∙ ap (missing_from g k) (sym d) ∙ was

-- what the constructors of a type stand for, noted
pub noted_holds : (enc : Encodings) (g : State) (t : ℕ) (s : Stands) → Holds enc g → t < length g.stands → known_stands enc (shown g) t ≡ Some s
    → Holds enc (record g { stands = slice_set g.stands t (Some s) })
noted_holds enc g t s h within k = record {
  cells = h.cells;
  count = h.count;
  types = h.types;
  stood = noted_stood enc (shown g) g.stands t s within k h.stood;
  widths = h.widths;
}
