use Rattle.std.proofs.Common.{arith, rules, ◌≡◌, ◌+◌, ◌++◌, [], ◌∷◌, ap, ◌∙◌}
use Rattle.rtl_core.specs.Terms.{term_of, width_of}
use Rattle.c_lang.specs.declared.tree.CExpr.TheVariants.{Choose}
use Rattle.c_lang.specs.declared.tree.Stmt.TheVariants.{Set}
use Rattle.c_lang.specs.declared.tree.Var.TheVariants.{Temp}
use Rattle.c_lower.specs.Code.{temp, code}
use Rattle.c_lower.specs.Formula.{binary_c, unary_c, sign_extended_c}
use Rattle.c_lower.proofs.Parts.{slice_in, width_in, sext_in, temp_in, can_Un_a, can_Bin_a, can_Sext_a}
use Rattle.c_lower.proofs.CodeLaws.{code_Un, code_Bin, code_Sext, code_If}
use Rattle.c_lower.proofs.expression.+lower_expr.Goals as goal

pub bits-requires : goal.bits-requires
bits-requires t c = slice_in _ _ _ _ _ c.args.k c.in-Slice.is c.requires

pub unary_operator-requires : goal.unary_operator-requires
unary_operator-requires t c =
    let w = width_in _ _ c.args.k (can_Un_a _ _ _ _ c.args.k c.in-Un.is c.requires) in
    let e : c.width.result ≡ width_of c.args.machine.now.widths (term_of c.in-Un.a) = c.width.ensures ∙ ap (λ x. width_of c.args.machine.now.widths (term_of x)) c.get-in-Un-2.ensures in
    (omega (arith, w.0, e), omega (arith, w.1, e))

pub binary_operator-requires : goal.binary_operator-requires
binary_operator-requires t c =
    let w = width_in _ _ c.args.k (can_Bin_a _ _ _ _ _ c.args.k c.in-Bin.is c.requires) in
    let e : c.width-in-Bin.result ≡ width_of c.args.machine.now.widths (term_of c.in-Bin.a) = c.width-in-Bin.ensures ∙ ap (λ x. width_of c.args.machine.now.widths (term_of x)) c.get-in-Bin-3.ensures in
    let k = temp_in _ _ c.args.k c.requires in
    (omega (arith, w.0, e), omega (arith, w.1, e), omega (arith, k))

pub sign_extended-requires : goal.sign_extended-requires
sign_extended-requires t c =
    let w = width_in _ _ c.args.k (can_Sext_a _ _ _ _ c.args.k c.in-Sext.is c.requires) in
    let s = sext_in _ _ _ _ c.args.k c.in-Sext.is c.requires in
    let e : c.width-in-Sext.result ≡ width_of c.args.machine.now.widths (term_of c.in-Sext.a) = c.width-in-Sext.ensures ∙ ap (λ x. width_of c.args.machine.now.widths (term_of x)) c.get-in-Sext-2.ensures in
    let b = c.bits-in-Sext.ensures.value in
    (omega (arith, w.0, e), omega (arith, s.0, e, b), omega (arith, s.1, b))

pub returns-in_ok-value-in-Un : goal.returns-in_ok-value-in-Un
returns-in_ok-value-in-Un t c =
    let m = c.args.machine.now in
    let e : c.width.result ≡ width_of m.widths (term_of c.in-Un.a) = c.width.ensures ∙ ap (λ x. width_of c.args.machine.now.widths (term_of x)) c.get-in-Un-2.ensures in
    let v : c.in_ok-value-in-Un.value ≡ unary_c c.in-Un.op (width_of m.widths (term_of c.in-Un.a)) (temp c.args.k) = c.in_ok-value-in-Un.ensures ∙ ap (λ w. unary_c c.in-Un.op w (temp c.args.k)) e in
    let all : c.lower_expr-in-Un.new.out ++ Set (Temp c.args.k) c.in_ok-value-in-Un.value ∷ [] ≡ c.args.out.now ++ code m c.args.pc (term_of c.args.e.now) c.args.k [] =
    ap (λ x. c.lower_expr-in-Un.new.out ++ Set (Temp c.args.k) x ∷ []) v
    ∙ code_Un m c.args.pc c.args.k c.args.out.now c.args.e.now c.in-Un.op c.in-Un.a c.lower_expr-in-Un.new.out c.in-Un.is (c.in_ok-lower_expr-in-Un.ensures ∙ ap (λ z. c.args.out.now ++ code m c.args.pc (term_of z) c.args.k []) c.get-in-Un.ensures) in
    search (rules, all)

pub returns-in_ok-value-in-Sext : goal.returns-in_ok-value-in-Sext
returns-in_ok-value-in-Sext t c =
    let m = c.args.machine.now in
    let e : c.width-in-Sext.result ≡ width_of m.widths (term_of c.in-Sext.a) = c.width-in-Sext.ensures ∙ ap (λ x. width_of c.args.machine.now.widths (term_of x)) c.get-in-Sext-2.ensures in
    let v : c.in_ok-value-in-Sext.value ≡ sign_extended_c (width_of m.widths (term_of c.in-Sext.a)) c.in-Sext.w (temp c.args.k) =
    c.in_ok-value-in-Sext.ensures ∙ ap (λ w. sign_extended_c w c.bits-in-Sext.result (temp c.args.k)) e ∙ ap (λ w. sign_extended_c (width_of m.widths (term_of c.in-Sext.a)) w (temp c.args.k)) c.bits-in-Sext.ensures.value in
    let all : c.lower_expr-in-Sext.new.out ++ Set (Temp c.args.k) c.in_ok-value-in-Sext.value ∷ [] ≡ c.args.out.now ++ code m c.args.pc (term_of c.args.e.now) c.args.k [] =
    ap (λ x. c.lower_expr-in-Sext.new.out ++ Set (Temp c.args.k) x ∷ []) v
    ∙ code_Sext m c.args.pc c.args.k c.args.out.now c.args.e.now c.in-Sext.w c.in-Sext.a c.lower_expr-in-Sext.new.out c.in-Sext.is (c.in_ok-lower_expr-in-Sext.ensures ∙ ap (λ z. c.args.out.now ++ code m c.args.pc (term_of z) c.args.k []) c.get-in-Sext.ensures) in
    search (rules, all)

pub returns-in_ok-value-in-Bin : goal.returns-in_ok-value-in-Bin
returns-in_ok-value-in-Bin t c =
    let m = c.args.machine.now in
    let e : c.width-in-Bin.result ≡ width_of m.widths (term_of c.in-Bin.a) = c.width-in-Bin.ensures ∙ ap (λ x. width_of c.args.machine.now.widths (term_of x)) c.get-in-Bin-3.ensures in
    let v : c.in_ok-value-in-Bin.value ≡ binary_c c.in-Bin.op (width_of m.widths (term_of c.in-Bin.a)) (temp c.args.k) (temp (c.args.k + 1)) = c.in_ok-value-in-Bin.ensures ∙ ap (λ w. binary_c c.in-Bin.op w (temp c.args.k) (temp (c.args.k + 1))) e in
    let all : c.guard_division.new.out ++ Set (Temp c.args.k) c.in_ok-value-in-Bin.value ∷ [] ≡ c.args.out.now ++ code m c.args.pc (term_of c.args.e.now) c.args.k [] =
    ap (λ x. c.guard_division.new.out ++ Set (Temp c.args.k) x ∷ []) v
    ∙ code_Bin m c.args.pc c.args.k c.args.out.now c.lower_expr-in-Bin.new.out c.lower_expr-in-Bin-2.new.out c.guard_division.new.out c.args.e.now c.in-Bin.op c.in-Bin.a c.in-Bin.b c.in-Bin.is
    (c.in_ok-lower_expr-in-Bin.ensures ∙ ap (λ z. c.args.out.now ++ code m c.args.pc (term_of z) c.args.k []) c.get-in-Bin.ensures)
    (c.in_ok-lower_expr-in-Bin-2.ensures ∙ ap (λ z. c.lower_expr-in-Bin.new.out ++ code m c.args.pc (term_of z) (c.args.k + 1) []) c.get-in-Bin-2.ensures)
    c.in_ok-guard_division-in-Bin.ensures in
    search (rules, all)

pub returns-in_ok-value-in-If : goal.returns-in_ok-value-in-If
returns-in_ok-value-in-If t c =
    let m = c.args.machine.now in
    let v : c.in_ok-value-in-If.value ≡ Choose (temp c.args.k) (temp (c.args.k + 1)) (temp (c.args.k + 2)) = cc (c.in_ok-value-in-If.ensures) in
    let all : c.lower_expr-in-If-3.new.out ++ Set (Temp c.args.k) c.in_ok-value-in-If.value ∷ [] ≡ c.args.out.now ++ code m c.args.pc (term_of c.args.e.now) c.args.k [] =
    ap (λ x. c.lower_expr-in-If-3.new.out ++ Set (Temp c.args.k) x ∷ []) v
    ∙ code_If m c.args.pc c.args.k c.args.out.now c.lower_expr-in-If.new.out c.lower_expr-in-If-2.new.out c.lower_expr-in-If-3.new.out c.args.e.now c.in-If.c c.in-If.a c.in-If.b c.in-If.is
    (c.in_ok-lower_expr-in-If.ensures ∙ ap (λ z. c.args.out.now ++ code m c.args.pc (term_of z) c.args.k []) c.get-in-If.ensures)
    (c.in_ok-lower_expr-in-If-2.ensures ∙ ap (λ z. c.lower_expr-in-If.new.out ++ code m c.args.pc (term_of z) (c.args.k + 1) []) c.get-in-If-2.ensures)
    (c.in_ok-lower_expr-in-If-3.ensures ∙ ap (λ z. c.lower_expr-in-If-2.new.out ++ code m c.args.pc (term_of z) (c.args.k + 2) []) c.get-in-If-3.ensures) in
    search (rules, all)
