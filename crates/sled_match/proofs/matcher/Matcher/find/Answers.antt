use Rattle.std.proofs.Common.{◌≡◌, ℕ, suc, ◌-◌, List, length, sym, ap, ◌∙◌, arith, option_map}
use Rattle.rtl_core.specs.declared.encodings.Encodings.{Encodings}
use Rattle.rtl_core.specs.Matching.{instruction, first_matching, constructor_taken, type_taken}
use Rattle.sled_match.specs.Matched.{matched_inst}
use Rattle.sled_match.proofs.AllowsLaws.{instruction-none, type_scans, bytes_fit, matched_of}
use Rattle.sled_match.proofs.matcher.Matcher.find.Goals as goal

pub returns-then-deep-eq0 : goal.returns-then-deep-eq0
returns-then-deep-eq0 c =
    sym (ap (λ enc. option_map matched_inst (instruction enc c.args.bytes.now)) (sym c.self.view_is)
    ∙ ap (option_map matched_inst) (instruction-none c.self.inside.enc c.args.bytes.now (length c.self.inside.enc.constructors) (sym c.len-deep.ensures ∙ c.if-deep-eq0.true)))

pub returns : goal.returns
returns c =
    let enc : Encodings = c.self.inside.enc in
    let bytes : List ℕ = c.args.bytes.now in
    let d : ℕ = c.len-deep.result - 1 in
    let e : length enc.constructors ≡ suc d = omega (arith, c.len-deep.ensures, c.if-deep-eq0.false) in
    matched_of c.take_first.result
    ∙ ap (option_map matched_inst) (c.take_first.ensures.exact
    ∙ ap (first_matching (constructor_taken (type_taken d enc) enc bytes)) c.walk-listed.ensures
    ∙ c.self.invariant.1.0 d bytes (bytes_fit bytes c.type_inv.bytes)
    ∙ sym (type_scans d enc bytes (length enc.constructors) e))
    ∙ ap (λ enc. option_map matched_inst (instruction enc bytes)) c.self.view_is
