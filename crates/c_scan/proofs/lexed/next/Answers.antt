use Rattle.std.proofs.Common.{◌≡◌, Some, None, arith, refl, subst}
use Rattle.c_text.specs.Tokens.{token_of}
use Rattle.scan.specs.Scan.{front}
use Rattle.c_scan.specs.Found.{measured}
use Rattle.c_scan.proofs.Steps.{end_within, next_found, none_found}
use Rattle.c_scan.proofs.lexed.next.Goals as goal

pub returns-in-Some : goal.returns-in-Some
returns-in-Some c =
    next_found c.args.text.now c.args.from c.behind_blanks-start.result _ c.in-Some.found c.behind_blanks-start.ensures.onward c.behind_blanks-start.ensures.within c.behind_blanks-start.ensures.tokens c.behind_blanks-start.ensures.stops
    (subst (λ bs. measured (Some c.in-Some.found) ≡ front token_of bs) c.split_at.ensures.back c.in-Some.ensures.longest) c.in-Some.ensures.digits refl

pub returns-in-None : goal.returns-in-None
returns-in-None c =
    none_found c.args.text.now c.args.from c.behind_blanks-start.result c.behind_blanks-start.ensures.within c.behind_blanks-start.ensures.tokens c.behind_blanks-start.ensures.stops
    (subst (λ bs. None ≡ front token_of bs) c.split_at.ensures.back c.in-None.ensures.longest)

pub overflow_add-end : goal.overflow_add-end
overflow_add-end c =
    omega (arith, end_within c.args.text.now c.behind_blanks-start.result c.in-Some.found c.behind_blanks-start.ensures.within (subst (λ bs. measured (Some c.in-Some.found) ≡ front token_of bs) c.split_at.ensures.back c.in-Some.ensures.longest))
