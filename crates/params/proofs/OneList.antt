-- A graph has one list of summaries.
use Rattle.std.proofs.Common.{◌≡◌, sym, ◌∙◌, subst}
use Rattle.points.specs.declared.graph.Summary.{Summary}
use Rattle.points.specs.Exactly.{IsExactly}
use Rattle.points.specs.Summaries.{Summarized, HasRef, HasMod, IsSummary, IsMoving, IsWholeSummary}
use Rattle.rtl_core.specs.declared.machine.Machine.{Machine}
use Rattle.params.specs.SummaryLaws.{summaries_are_one, whole_summaries_are_one}
use Rattle.params.proofs.Members.{same-exactly, same-by-part}

one : (n : Summarized) (x y : Summary) → IsSummary n x → IsSummary n y → x.entry ≡ y.entry → x ≡ y
one n x y a b e =
    let r = same-exactly (HasRef n y.entry) x.refs y.refs a.refs_rise b.refs_rise (subst (λ p. IsExactly (HasRef n p) x.refs) e a.refs) b.refs in
    let m = same-exactly (HasMod n y.entry) x.mods y.mods a.mods_rise b.mods_rise (subst (λ p. IsExactly (HasMod n p) x.mods) e a.mods) b.mods in
    λ i. record { entry = e i; refs = r i; mods = m i }

pub one-list : summaries_are_one
one-list n g xs ys a b = same-by-part (λ (s : Summary). s.entry) (IsSummary n) (one n) xs ys a.each b.each (a.entries ∙ sym b.entries)

one-whole : (m : Machine) (x y : Summary) → IsWholeSummary m x → IsWholeSummary m y → x.entry ≡ y.entry → x ≡ y
one-whole m x y a b e =
    let r = same-exactly (IsMoving m) x.refs y.refs a.refs_rise b.refs_rise a.refs b.refs in
    let s = a.mods ∙ r ∙ sym b.mods in
    λ i. record { entry = e i; refs = r i; mods = s i }

pub one-whole-list : whole_summaries_are_one
one-whole-list m g xs ys a b = same-by-part (λ (s : Summary). s.entry) (IsWholeSummary m) (one-whole m) xs ys a.each b.each (a.entries ∙ sym b.entries)
