use Rattle.std.proofs.Common.{◌+◌, ap, refl, subst, sym, ◌∙◌}
use Rattle.std.proofs.lemmas.Result.{err_from_is_err_and}
use Rattle.c_rules.specs.Texts.{told}
use Rattle.c_read.specs.Drafts.{IsItemFault, IsPartsOf}
use Rattle.c_read.proofs.LineLaws.{cut, lex_fault, other_line, same_line, tokens_few}
use Rattle.c_read.proofs.ReadLaws.{broken, fault_later, first_bad, may_be, parts_few, program_is}
use Rattle.c_read.proofs.reader.read_c.Goals as goal

pub returns-in-Some : goal.returns-in-Some
returns-in-Some c =
    lex_fault c.args.text.now c.split_at.result.0.now c.split_at-2.result.1.now c.split_at-in-Some.result.0.now c.in-Some.at c.line_feeds.result (2 + c.line_feeds.result)
    (cut c.args.text.now c.split_at.result.0.now c.split_at.result.1.now c.split_at-2.result.1.now c.line_len.result c.min.result c.line_len.ensures c.split_at.ensures.front c.split_at.ensures.back c.min.ensures c.split_at-2.ensures.back)
    c.in-Some.ensures c.split_at-in-Some.ensures.front c.line_feeds.ensures refl

pub returns-then-ne : goal.returns-then-ne
returns-then-ne c =
    first_bad c.args.text.now c.split_at.result.0.now c.split_at-2.result.1.now
    (cut c.args.text.now c.split_at.result.0.now c.split_at.result.1.now c.split_at-2.result.1.now c.line_len.result c.min.result c.line_len.ensures c.split_at.ensures.front c.split_at.ensures.back c.min.ensures c.split_at-2.ensures.back)
    c.in_default.ensures (other_line c.split_at.result.0.now c.ne.result c.ne.ensures c.if-ne.true)

pub read_parts-requires : goal.read_parts-requires
read_parts-requires c =
    tokens_few c.args.text.now c.split_at.result.0.now c.split_at-2.result.1.now c.new-cursor.result (cut c.args.text.now c.split_at.result.0.now c.split_at.result.1.now c.split_at-2.result.1.now c.line_len.result c.min.result c.line_len.ensures c.split_at.ensures.front c.split_at.ensures.back c.min.ensures c.split_at-2.ensures.back) c.in_default.ensures c.requires c.new-cursor.ensures

pub returns-in_err-parts : goal.returns-in_err-parts
returns-in_err-parts c =
    let p = err_from_is_err_and c.from_residual.result c.from_residual.ensures.1 in
    rw (p.1, p.2)
    (fault_later c.args.text.now c.split_at.result.0.now c.split_at-2.result.1.now
    (cut c.args.text.now c.split_at.result.0.now c.split_at.result.1.now c.split_at-2.result.1.now c.line_len.result c.min.result c.line_len.ensures c.split_at.ensures.front c.split_at.ensures.back c.min.ensures c.split_at-2.ensures.back)
    c.in_default.ensures c.in_err-parts.field-0.0 (same_line c.split_at.result.0.now c.ne.result c.ne.ensures c.if-ne.false)
    (subst (λ ts. IsItemFault ts c.in_err-parts.field-0.0) c.new-cursor.ensures c.in_err-parts.ensures))

pub static_fault-requires : goal.static_fault-requires
static_fault-requires c =
    parts_few c.new-cursor.result c.in_ok-parts.parts c.in_ok-parts.ensures
    (tokens_few c.args.text.now c.split_at.result.0.now c.split_at-2.result.1.now c.new-cursor.result (cut c.args.text.now c.split_at.result.0.now c.split_at.result.1.now c.split_at-2.result.1.now c.line_len.result c.min.result c.line_len.ensures c.split_at.ensures.front c.split_at.ensures.back c.min.ensures c.split_at-2.ensures.back) c.in_default.ensures c.requires c.new-cursor.ensures)

pub returns-in-Some-2 : goal.returns-in-Some-2
returns-in-Some-2 c =
    broken c.args.text.now c.split_at.result.0.now c.split_at-2.result.1.now
    (cut c.args.text.now c.split_at.result.0.now c.split_at.result.1.now c.split_at-2.result.1.now c.line_len.result c.min.result c.line_len.ensures c.split_at.ensures.front c.split_at.ensures.back c.min.ensures c.split_at-2.ensures.back)
    c.in_default.ensures c.in_ok-parts.parts c.in-Some-2.broken.item c.in-Some-2.broken.rule (same_line c.split_at.result.0.now c.ne.result c.ne.ensures c.if-ne.false)
    (subst (λ ts. IsPartsOf ts c.in_ok-parts.parts) c.new-cursor.ensures c.in_ok-parts.ensures) (ap told (sym c.in-Some-2.is) ∙ c.in_ok-broken.ensures)

pub program_of-requires : goal.program_of-requires
program_of-requires c = may_be c.new-cursor.result c.in_ok-parts.parts c.in_ok-parts.ensures (ap told (sym c.in_default-2.is) ∙ c.in_ok-broken.ensures)

pub returns : goal.returns
returns c =
    program_is c.args.text.now c.split_at.result.0.now c.split_at-2.result.1.now
    (cut c.args.text.now c.split_at.result.0.now c.split_at.result.1.now c.split_at-2.result.1.now c.line_len.result c.min.result c.line_len.ensures c.split_at.ensures.front c.split_at.ensures.back c.min.ensures c.split_at-2.ensures.back)
    c.in_default.ensures c.in_ok-parts.parts c.in_ok-program_of.field-0 (same_line c.split_at.result.0.now c.ne.result c.ne.ensures c.if-ne.false)
    (subst (λ ts. IsPartsOf ts c.in_ok-parts.parts) c.new-cursor.ensures c.in_ok-parts.ensures) (ap told (sym c.in_default-2.is) ∙ c.in_ok-broken.ensures) c.in_ok-program_of.ensures
