-- What an instruction assigns: a place that is there, of its width, counted right.
use Rattle.std.proofs.Common.{◌≡◌, ℕ, ◌+◌, ◌-◌, true, List, Option, Some, None, refl, sym, ap, ◌∙◌, subst, inl, inr}
use Rattle.std.proofs.lemmas.Bool.{and_parts, cases_Bool, cond-true, cond-false, false≢true}
use Rattle.std.proofs.lemmas.Option.{none-some, same_Some}
use Rattle.std.specs.Prelude.{unwrap_or, option_map, option_and_then}
use Rattle.ssl_syntax.specs.declared.line.CellName.{CellName}
use Rattle.ssl_syntax.specs.declared.line.SslExpr.{SslExpr}
use Rattle.ssl_syntax.specs.declared.line.SslPlace.{SslPlace}
use Rattle.ssl_syntax.specs.declared.line.SslPlace.TheVariants as place
use Rattle.ssl_syntax.specs.Words.{is_load}
use Rattle.ssl_syntax.specs.Expressions.{is_expr, is_formed}
use Rattle.ssl_syntax.specs.Transfers.{is_place}
use Rattle.rtl_core.specs.declared.encodings.OperandKind.{OperandKind}
use Rattle.rtl_core.specs.declared.machine.CellPart.{CellPart}
use Rattle.rtl_core.specs.declared.template.TPlace.{TPlace}
use Rattle.rtl_core.specs.declared.template.TPlace.TheVariants as P
use Rattle.rtl_core.specs.SoundTemplates.{IsSoundPlace, place_width, kind_width, HasPlace}
use Rattle.rtl_core.specs.TemplateNodes.{operand_nodes, assigned_nodes as place_assigned}
use Rattle.ssl_rules.specs.declared.tables.Own.TheVariants.{Field, Typed, Param}
use Rattle.ssl_rules.specs.declared.tables.Lone.{Lone}
use Rattle.ssl_rules.specs.declared.tables.Lone.TheVariants as lone
use Rattle.ssl_rules.specs.Names.{Scope, part_named, cell_number, lone_named}
use Rattle.ssl_rules.specs.Counted.{is_counted_place}
use Rattle.ssl_rules.specs.Widths.{cell_width, lone_width, cell_slice, slice_width, measured, place_measured}
use Rattle.ssl_rules.specs.Formulas.{is_whole, chosen_part, expanded}
use Rattle.ssl_rules.specs.Places.{is_assignable, assigns_place}
use Rattle.ssl_rules.specs.Templates.{no_place, lone_place, part_place, place_of, lone_assigned, place_nodes}
use Rattle.ssl_sound.proofs.Good.{Frame, IsGood}
use Rattle.ssl_sound.proofs.Measures.{IsFine, load-parts}
use Rattle.ssl_sound.proofs.Scopes.{IsLone, IsGoodScope, IsPartAt, IsIndexed, lone-right, part-in, part-at, part-indexed}
use Rattle.ssl_sound.proofs.ExprGood.{load-sized, expr-good}
use Rattle.ssl_sound.proofs.Tables.{AreSoundTables}
use Rattle.ssl_sound.proofs.ViewParts.{bits-part}

pub record IsAssigned (E : Frame) (kinds : List OperandKind) (p : TPlace) (w n : ℕ) : Type 0 where
  pub sound : IsSoundPlace E.machine E.stands kinds p
  pub width : place_width E.machine E.stands kinds p ≡ w
  pub nodes : place_assigned E.counts kinds p ≡ n

pub expr-formed : (e : SslExpr) → is_expr e ≡ true → is_formed e ≡ true
unfolding is_expr
expr-formed e h = (and_parts (is_formed e) _ h).0

module _ (E : Frame) (kinds : List OperandKind) (s : Scope) (g : IsGoodScope E kinds (λ f. f) s) where
  -- ---- NAME

  lone-placed : (l : Lone) (w : ℕ) → IsLone E kinds (λ f. f) s.tables l → is_assignable l ≡ true → lone_width s.tables l ≡ Some w → IsAssigned E kinds (lone_place l) w (lone_assigned l)
  lone-placed (lone.Own (Field k v)) w right yes_ e = absurd (false≢true yes_)
  lone-placed (lone.Own (Param k v)) w right yes_ e = absurd (false≢true yes_)
  lone-placed (lone.Own (Typed k st)) w right yes_ e = record {
    sound = subst (HasPlace E.machine) (sym right.is) (right.place yes_);
    width = ap (kind_width E.stands) right.is ∙ right.width ∙ same_Some st.width w e;
    nodes = ap (operand_nodes E.counts.assigned 0) right.is ∙ right.assigned ∙ sym (cond-true st.place st.assigned 0 yes_);
  }
  lone-placed (lone.Cell c) w right yes_ e = record { sound = right.there; width = right.width ∙ same_Some (cell_width s.tables c) w e; nodes = refl }

  named-placed : (name : List ℕ) (w : ℕ) (q : Option Lone) → lone_named s name ≡ q → assigns_place s (place.Named name) ≡ true → option_and_then (lone_width s.tables) q ≡ Some w
      → IsAssigned E kinds (unwrap_or (option_map lone_place q) no_place) w (unwrap_or (option_map lone_assigned q) 0)
  named-placed name w None is yes_ e = absurd (none-some w e)
  named-placed name w (Some l) is yes_ e = lone-placed l w (lone-right E kinds (λ f. f) s g name l is) (rw is at yes_) e

  -- ---- NAME [ NUMBER ] and NAME [ OP ]

  part-placed : (o : Option CellPart) (w : ℕ) → IsPartAt E s.tables o w → IsAssigned E kinds (unwrap_or (option_map (part_place s.tables) o) no_place) w 0
  part-placed o w p =
      let R : TPlace → Type 0 = λ x. IsAssigned E kinds x w 0 in
      subst (λ x. IsAssigned E kinds (unwrap_or (option_map (part_place s.tables) x) no_place) w 0) (sym p.is)
      (elim (cases_Bool (is_whole s.tables p.part)) [
        | inl h ↦ subst R (sym (cond-true (is_whole s.tables p.part) (P.Cell p.part.cell) (P.Slice p.part.cell p.part.lo p.part.hi) h))
            (record { sound = p.lies.0; width = p.whole h; nodes = refl })
        | inr h ↦ subst R (sym (cond-false (is_whole s.tables p.part) (P.Cell p.part.cell) (P.Slice p.part.cell p.part.lo p.part.hi) h))
            (record { sound = p.lies; width = p.width; nodes = refl })
      ])

  indexed-placed : (o : Option (ℕ × ℕ)) (w : ℕ) → IsIndexed E kinds o w → IsAssigned E kinds (unwrap_or (option_map (λ p. P.FileAt p.0 p.1) o) no_place) w 0
  indexed-placed o w i =
      subst (λ x. IsAssigned E kinds (unwrap_or (option_map (λ p. P.FileAt p.0 p.1) x) no_place) w 0) (sym i.is)
      (record { sound = i.index; width = i.width; nodes = refl })

  -- ---- bits ( CELL , LO , HI )

  bits-of : (lo hi w : ℕ) (o : Option ℕ) → option_and_then (slice_width lo hi) (option_map (cell_width s.tables) o) ≡ Some w
      → IsSoundPlace E.machine E.stands kinds (P.Slice (unwrap_or o 0) lo hi) → hi + 1 - lo ≡ w → IsAssigned E kinds (unwrap_or (option_map (λ c. P.Slice c lo hi) o) no_place) w 0
  bits-of lo hi w None e sound width = absurd (none-some w e)
  bits-of lo hi w (Some c) e sound width = record { sound = sound; width = width; nodes = refl }

  bits-placed : AreSoundTables s.tables → (cell : CellName) (lo hi w : ℕ) → cell_slice s.tables cell lo hi ≡ Some w
      → IsAssigned E kinds (unwrap_or (option_map (λ c. P.Slice c lo hi) (cell_number s.tables cell)) no_place) w 0
  bits-placed tables cell lo hi w e =
      let b = bits-part s.tables tables cell lo hi w e in
      bits-of lo hi w (cell_number s.tables cell) e (part-in E s.tables g.tables (record { cell = unwrap_or (cell_number s.tables cell) 0; lo = lo; hi = hi }) b.0) b.1

  -- ---- any place

  pub place-good : AreSoundTables s.tables → (p : SslPlace) (w : ℕ) → is_place p ≡ true → is_counted_place s p ≡ true → assigns_place s p ≡ true → IsFine (place_measured s p) w
      → IsAssigned E kinds (place_of s p) w (place_nodes s p)
  place-good tables (place.Named name) w formed counted yes_ fine = named-placed name w (lone_named s name) refl yes_ fine.width
  place-good tables (place.At name index) w formed counted yes_ fine = part-placed (part_named s.tables name index) w (part-at E s.tables g.tables name index w fine.width)
  place-good tables (place.AtOp name op) w formed counted yes_ fine = indexed-placed (chosen_part s name op) w (part-indexed E kinds (λ f. f) s g name op w fine.width)
  place-good tables (place.Bits cell lo hi) w formed counted yes_ fine = bits-placed tables cell lo hi w fine.width
  place-good tables (place.Load bits address) w formed counted yes_ fine =
      let f = and_parts (is_load bits) (is_expr address) formed in
      let z = load-sized bits f.0 in
      let m = load-parts (measured s address).width (measured s address).differs bits w fine.width fine.same in
      let a : IsGood E kinds (expanded s address) 32 = expr-good E kinds (λ f. f) s g address (expr-formed address f.1) counted 32 (record { width = m.0; same = m.1 }) in
      record { sound = (z.0, record { sound = a.sound; width = a.width }); width = z.1 ∙ m.2; nodes = a.nodes }
