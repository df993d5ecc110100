-- The equations of `value`, one for each form.
use Rattle.std.proofs.Common.{◌≡◌, ℕ, zero, suc, ◌<◌, Option, Some, None, refl, rules, arith}
use Rattle.c_lang.specs.declared.tree.COp.{COp}
use Rattle.c_lang.specs.declared.tree.Var.{Var}
use Rattle.c_lang.specs.declared.tree.CExpr.{CExpr, the_lemmas}
use Rattle.c_lang.specs.declared.tree.CExpr.TheVariants.{Num, Of, Bin, Choose}
use Rattle.c_lang.specs.Value.{Vars, value, both, chosen, op_value}

pub value-Num : (vars : Vars) (n : ℕ) → value vars (Num n) ≡ Some n
unfolding value
value-Num vars n = search (rules, the_lemmas)

pub value-Of : (vars : Vars) (v : Var) → value vars (Of v) ≡ vars v
unfolding value
value-Of vars v = search (rules, the_lemmas)

pub value-Bin : (vars : Vars) (op : COp) (a b : CExpr) → value vars (Bin op a b) ≡ both op (value vars a) (value vars b)
unfolding value
value-Bin vars op a b = search (rules, the_lemmas)

pub value-Choose : (vars : Vars) (c a b : CExpr) → value vars (Choose c a b) ≡ chosen (value vars c) (value vars a) (value vars b)
unfolding value
value-Choose vars c a b = search (rules, the_lemmas)

pub both-Some : (op : COp) (x y : ℕ) → both op (Some x) (Some y) ≡ op_value op x y
unfolding both
both-Some op x y = refl

pub both-None : (op : COp) (y : Option ℕ) → both op None y ≡ None
unfolding both
both-None op y = refl

pub both-second : (op : COp) (x : ℕ) → both op (Some x) None ≡ None
unfolding both
both-second op x = refl

pub chosen-None : (a b : Option ℕ) → chosen None a b ≡ None
unfolding chosen
chosen-None a b = refl

pub chosen-zero : (a b : Option ℕ) → chosen (Some 0) a b ≡ b
unfolding chosen
chosen-zero a b = refl

pub chosen-more : (n : ℕ) (a b : Option ℕ) → 0 < n → chosen (Some n) a b ≡ a
unfolding chosen
chosen-more zero a b lt = absurd (omega arith)
chosen-more (suc n) a b lt = refl

pub ruleset value_laws = (value-Num, value-Of, value-Bin, value-Choose, both-Some, both-None, both-second, chosen-None, chosen-zero, chosen-more)
