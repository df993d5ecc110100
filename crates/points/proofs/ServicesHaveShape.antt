-- A service that is due has a shape in the conventions of a sound triple.
use Rattle.std.proofs.Common.{◌≡◌, ◌<◌, length, Bool, true, false, true≢false, List, [], ◌∷◌, map, Some, None, IsTrue, is_some, refl, sym, ap, subst, ◌∙◌}
use Rattle.std.proofs.lemmas.List.Folds.{list_any_at}
use Rattle.std.proofs.lemmas.Option.{same_Some, slice_get_within, get_or_from_slice_get}
use Rattle.std.specs.List.{list_any}
use Rattle.rtl_core.specs.declared.expr.Expr.{Expr}
use Rattle.rtl_core.specs.declared.machine.Machine.{Machine}
use Rattle.rtl_core.specs.declared.template.TAct.{TAct}
use Rattle.rtl_core.specs.declared.template.TTransfer.{TTransfer}
use Rattle.rtl_core.specs.declared.template.Template.{Template}
use Rattle.rtl_core.specs.declared.transfer.Transfer.{Transfer}
use Rattle.rtl_core.specs.Grounding.{Place, Whole, Bits, Bytes, Site, assigning, ground_act, ground_expr, ground_place, ground_transfer, template_transfers}
use Rattle.rtl_core.specs.SoundConv.{calls_service}
use Rattle.rtl_core.specs.SoundTemplates.{is_tservice}
use Rattle.rtl_core.specs.SoundTerms.{is_service}
use Rattle.rtl_core.proofs.Kept.{Keeps, no-service}
use Rattle.points.proofs.GroundedSpelled.{has-form}
use Rattle.points.specs.ServicesHaveShape.{CallsHaveShape, DueHaveShape}

assigned : (p : Place) (e : Expr) → is_service (assigning p e) ≡ false
assigned (Whole c) e = refl
assigned (Bits c lo hi) e = refl
assigned (Bytes n a) e = refl

-- an act calls the service where it did before all was put in
act-calls : (m : Machine) (site : Site) (act : TAct) → is_service (ground_act m site act) ≡ is_tservice act
act-calls m site (TAct.Assign p e) = assigned (ground_place m site p) (ground_expr m site e)
act-calls m site (TAct.Jump e) = refl
act-calls m site TAct.Annul = refl
act-calls m site (TAct.Trap e) = refl
act-calls m site TAct.Service = refl
act-calls m site TAct.WinSave = refl
act-calls m site TAct.WinRestore = refl

transfers-call : (m : Machine) (site : Site) (ts : List TTransfer) → list_any (λ t. is_service t.act) (map (ground_transfer m site) ts) ≡ list_any (λ t. is_tservice t.act) ts
transfers-call m site [] = refl
transfers-call m site (t ∷ ts) = rw (act-calls m site t.act, transfers-call m site ts) refl

template-calls : (m : Machine) (site : Site) (template : Template) (ts : List Transfer) → template_transfers m site template ≡ Some ts
    → list_any (λ t. is_service t.act) ts ≡ true → calls_service template ≡ true
template-calls m site (Template.Acts xs) ts e h =
    let x : map (ground_transfer m site) xs ≡ ts = same_Some (map (ground_transfer m site) xs) ts e in
    sym (transfers-call m site xs) ∙ ap (list_any (λ t. is_service t.act)) x ∙ h
template-calls m site (Template.Value v) ts e h = absurd (let z : None ≡ Some ts = e in cc)
template-calls m site (Template.Place p) ts e h = absurd (let z : None ≡ Some ts = e in cc)

pub calls_have_shape : CallsHaveShape
calls_have_shape enc m conv inst pc next g sound e h =
    let f = has-form m pc next inst g e in
    let calls = template-calls m (record { arguments = f.arguments; pc = pc; next = next }) f.form.template g.transfers f.transfers h in
    let there : inst.constructor < length m.forms = slice_get_within m.forms inst.constructor f.form f.at in
    sound.fits.service (list_any_at (λ form. calls_service form.template) m.forms inst.constructor f.form there (rw (get_or_from_slice_get m.forms inst.constructor f.form f.form f.at) calls))

pub due_have_shape : DueHaveShape
due_have_shape enc m conv inst pc next g sound e at cells memory saved d ran due = by (list_any (λ t. is_service t.act) g.transfers) refl
  where
    by : (b : Bool) → list_any (λ t. is_service t.act) g.transfers ≡ b → IsTrue (is_some conv.service)
    by true h = calls_have_shape enc m conv inst pc next g sound e h
    by false h =
        let kept : d.service ≡ false = subst (Keeps (λ d. d.service) false) ran (no-service m at g.transfers cells memory saved h) in
        absurd (true≢false (sym due ∙ kept))
