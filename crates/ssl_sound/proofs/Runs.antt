-- What lines give only grows: what is there stays as it is.
use Rattle.std.proofs.Common.{◌≡◌, ℕ, zero, suc, ◌==◌, Bool, true, List, [], ◌∷◌, ◌++◌, fold, Option, Some, None, refl, ap, ◌∙◌}
use Rattle.std.proofs.lemmas.Option.{none-some}
use Rattle.std.proofs.lemmas.List.Folds.{find-append}
use Rattle.std.specs.Prelude.{slice_get, is_some, find, option_map}
use Rattle.std.specs.Option.{option_or}
use Rattle.ssl_syntax.specs.declared.line.SslBody.{SslBody}
use Rattle.ssl_syntax.specs.declared.line.SslBody.TheVariants as body
use Rattle.ssl_syntax.specs.declared.line.SslLine.{SslLine}
use Rattle.rtl_core.specs.declared.encodings.Encodings.{Encodings}
use Rattle.rtl_core.specs.declared.machine.CellPart.{CellPart}
use Rattle.ssl_rules.specs.Given.{Given, Made, with_body, template_for, type_width, is_of}

-- what is there stays there
pub slice_get-kept : {A : Type 0} (xs ys : List A) (i : ℕ) (x : A) → slice_get xs i ≡ Some x → slice_get (xs ++ ys) i ≡ Some x
slice_get-kept [] ys i x e = absurd (none-some x e)
slice_get-kept (y ∷ xs) ys zero x e = e
slice_get-kept (y ∷ xs) ys (suc i) x e = slice_get-kept xs ys i x e

or-kept : {A : Type 0} (a b : Option A) (x : A) → a ≡ Some x → option_or a b ≡ Some x
or-kept None b x e = absurd (none-some x e)
or-kept (Some y) b x e = e

pub find-kept : {A : Type 0} (p : A → Bool) (xs ys : List A) (x : A) → find p xs ≡ Some x → find p (xs ++ ys) ≡ Some x
find-kept p xs ys x e = find-append p xs ys ∙ or-kept (find p xs) (find p ys) x e

-- the first that is there is mapped to this
map-kept : {A B : Type 0} (f : A → B) (o q : Option A) (y : B) → ((x : A) → o ≡ Some x → q ≡ Some x) → option_map f o ≡ Some y → option_map f q ≡ Some y
map-kept f None q y kept e = absurd (none-some y e)
map-kept f (Some x) q y kept e = ap (option_map f) (kept x refl) ∙ e

pub record Extends (enc : Encodings) (g G : Given) : Type 0 where
  pub widths : (c w : ℕ) → slice_get g.tables.widths c ≡ Some w → slice_get G.tables.widths c ≡ Some w
  pub files : (f : ℕ) (parts : List CellPart) → slice_get g.tables.files f ≡ Some parts → slice_get G.tables.files f ≡ Some parts
  pub templates : (c : ℕ) (m : Made) → template_for g c ≡ Some m → template_for G c ≡ Some m
  pub type_width : (t w : ℕ) → type_width g enc t ≡ Some w → type_width G enc t ≡ Some w
  pub windows : is_some g.windows ≡ true → is_some G.windows ≡ true

pub extends-same : (enc : Encodings) (g : Given) → Extends enc g g
extends-same enc g = record { widths = λ c w e. e; files = λ f parts e. e; templates = λ c m e. e; type_width = λ t w e. e; windows = λ e. e }

pub extends-on : (enc : Encodings) (g h i : Given) → Extends enc g h → Extends enc h i → Extends enc g i
extends-on enc g h i a b = record {
  widths = λ c w e. b.widths c w (a.widths c w e);
  files = λ f parts e. b.files f parts (a.files f parts e);
  templates = λ c m e. b.templates c m (a.templates c m e);
  type_width = λ t w e. b.type_width t w (a.type_width t w e);
  windows = λ e. b.windows (a.windows e);
}

-- only the tables grow
tables-grow : (enc : Encodings) (g h : Given) → ((c w : ℕ) → slice_get g.tables.widths c ≡ Some w → slice_get h.tables.widths c ≡ Some w)
    → ((f : ℕ) (parts : List CellPart) → slice_get g.tables.files f ≡ Some parts → slice_get h.tables.files f ≡ Some parts)
    → h.templates ≡ g.templates → (is_some g.windows ≡ true → is_some h.windows ≡ true) → Extends enc g h
tables-grow enc g h widths files same windows = record {
  widths = widths;
  files = files;
  templates = λ c m e. ap (find (λ x. x.constructor == c)) same ∙ e;
  type_width = λ t w e. ap (λ ms. option_map (λ x. x.width) (find (λ x. is_of enc t x.constructor) ms)) same ∙ e;
  windows = windows;
}

template-grows : (enc : Encodings) (g : Given) (m : Made) → Extends enc g (record g { templates = g.templates ++ m ∷ [] })
template-grows enc g m = record {
  widths = λ c w e. e;
  files = λ f parts e. e;
  templates = λ c x e. find-kept (λ x. x.constructor == c) g.templates (m ∷ []) x e;
  type_width = λ t w e. map-kept (λ x. x.width) (find (λ x. is_of enc t x.constructor) g.templates) (find (λ x. is_of enc t x.constructor) (g.templates ++ m ∷ [])) w
      (find-kept (λ x. is_of enc t x.constructor) g.templates (m ∷ [])) e;
  windows = λ e. e;
}

pub extends-body : (enc : Encodings) (g : Given) (b : SslBody) → Extends enc g (with_body enc g b)
extends-body enc g (body.Align answer) = tables-grow enc g _ (λ c w e. e) (λ f parts e. e) refl (λ e. e)
extends-body enc g (body.Delay bytes) = tables-grow enc g _ (λ c w e. e) (λ f parts e. e) refl (λ e. e)
extends-body enc g (body.Cell name w) = tables-grow enc g _ (slice_get-kept g.tables.widths _) (λ f parts e. e) refl (λ e. e)
extends-body enc g (body.Cells name n w) = tables-grow enc g _ (slice_get-kept g.tables.widths _) (slice_get-kept g.tables.files _) refl (λ e. e)
extends-body enc g (body.View name n w parts) = tables-grow enc g _ (λ c w e. e) (slice_get-kept g.tables.files _) refl (λ e. e)
extends-body enc g (body.Zero cell) = tables-grow enc g _ (λ c w e. e) (λ f parts e. e) refl (λ e. e)
extends-body enc g (body.Windows o l i n) = tables-grow enc g _ (λ c w e. e) (λ f parts e. e) refl (λ e. refl)
extends-body enc g (body.Function name ps e) = tables-grow enc g _ (λ c w e. e) (λ f parts e. e) refl (λ e. e)
extends-body enc g (body.Operand name ops e) = template-grows enc g _
extends-body enc g (body.Instruction name ops ts) = template-grows enc g _

pub extends-lines : (enc : Encodings) (g : Given) (lines : List SslLine) → Extends enc g (fold (λ h line. with_body enc h line.body) g lines)
extends-lines enc g [] = extends-same enc g
extends-lines enc g (line ∷ lines) =
    extends-on enc g (with_body enc g line.body) (fold (λ h line. with_body enc h line.body) (with_body enc g line.body) lines)
    (extends-body enc g line.body) (extends-lines enc (with_body enc g line.body) lines)
