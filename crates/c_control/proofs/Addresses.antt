-- What `ra` holds: a return address and the bytes to its second return point.
use Rattle.std.proofs.Common.{◌≡◌, ◌≢◌, ℕ, ◌+◌, ◌-◌, ◌*◌, ◌/◌, ◌^◌, ◌%◌, ◌<◌, ◌≤◌, Option, Some, None, refl, sym, ap, ◌∙◌, arith}
use Rattle.std.specs.Prelude.{not, ◌==◌}
use Rattle.std.proofs.lemmas.Nat.{div-mul-add, mod-mul-add, pow_pos}
use Rattle.std.proofs.Math.Nat.{mod-eq_of_lt, mod-lt}
use Rattle.rtl_core.specs.Arithmetic.{flag}
use Rattle.c_lang.specs.declared.tree.COp.TheVariants.{Add, Div, Rem, Eq, Ne}
use Rattle.c_lang.specs.declared.tree.CExpr.TheVariants.{Num, Of, Bin}
use Rattle.c_lang.specs.declared.tree.Var.TheVariants.{Ra, Pt}
use Rattle.c_lang.specs.Value.{Vars, value}
use Rattle.c_lang.specs.State.{Outer}
use Rattle.c_lang.proofs.ValueLaws.{value-Num, value-Of}
use Rattle.c_control.specs.Pieces.{near_c, pad_c, far_c}
use Rattle.c_control.specs.Plans.{pad_by, no_return}
use Rattle.c_control.proofs.Steps.{seen, bin, op-Add, op-Div, op-Rem, op-Eq, op-Ne}

-- `ra` holds this return address, and so many bytes to the second one
pub record Holds (ra near pad : ℕ) : Type 0 where
  pub near_is : ra % 2 ^ 33 ≡ near
  pub pad_is : ra / 2 ^ 33 ≡ pad
  pub near_small : near ≤ 2 ^ 32
  pub pad_small : pad < 2 ^ 32

pub holds-made : (back pad : ℕ) → back < 2 ^ 32 → pad < 2 ^ 32 → Holds (back + 2 ^ 33 * pad) back pad
holds-made back pad lt few =
    let e : back + 2 ^ 33 * pad ≡ pad * 2 ^ 33 + back = omega arith in
    let small : back < 2 ^ 33 = omega (arith, lt) in
    record {
      near_is = ap (λ n. n % 2 ^ 33) e ∙ mod-mul-add pad (2 ^ 33) back small;
      pad_is = ap (λ n. n / 2 ^ 33) e ∙ div-mul-add pad (2 ^ 33) back small;
      near_small = omega (arith, lt);
      pad_small = few;
    }

pub holds-none : Holds no_return no_return 0
holds-none = record { near_is = refl; pad_is = refl; near_small = omega arith; pad_small = omega arith }

-- the bytes from an address to another, and back
pub pad-small : (back : ℕ) (o : Option ℕ) → pad_by back o < 2 ^ 32
pad-small back None = omega arith
pad-small back (Some s) = mod-lt (s + (2 ^ 32 - back)) (pow_pos 32)

pub pad-leads : (back s : ℕ) → back < 2 ^ 32 → s < 2 ^ 32 → (back + pad_by back (Some s)) % 2 ^ 32 ≡ s
pad-leads back s lt small = grind (arith)

pub pad-some : (back s : ℕ) → back < 2 ^ 32 → s < 2 ^ 32 → s ≢ back → pad_by back (Some s) ≢ 0
pad-some back s lt small ne = λ e. ne (sym (pad-leads back s lt small) ∙ ap (λ k. (back + k) % 2 ^ 32) e ∙ grind (arith))

module _ (vars : Vars) (outer : Outer) (ra near pad target : ℕ) (holds : Holds ra near pad) (ra_is : vars Ra ≡ Some ra) (pt_is : vars Pt ≡ Some target) where
  abbrev env : Vars
  env = seen vars outer

  read-ra : value env (Of Ra) ≡ Some ra
  read-ra = value-Of env Ra ∙ ra_is

  read-pt : value env (Of Pt) ≡ Some target
  read-pt = value-Of env Pt ∙ pt_is

  pub near-value : value env near_c ≡ Some near
  near-value = bin env Rem (Of Ra) (Num (2 ^ 33)) ra (2 ^ 33) near read-ra (value-Num env (2 ^ 33)) (op-Rem ra (2 ^ 33) ∙ ap Some holds.near_is)

  pub pad-value : value env pad_c ≡ Some pad
  pad-value = bin env Div (Of Ra) (Num (2 ^ 33)) ra (2 ^ 33) pad read-ra (value-Num env (2 ^ 33)) (op-Div ra (2 ^ 33) ∙ ap Some holds.pad_is)

  sum-small : (near + pad) % 2 ^ 64 ≡ near + pad
  sum-small = let a = holds.near_small in let b = holds.pad_small in let lt : near + pad < 2 ^ 64 = omega (arith, a, b) in mod-eq_of_lt lt

  pub far-value : value env far_c ≡ Some ((near + pad) % 2 ^ 32)
  far-value =
      bin env Rem (Bin Add near_c pad_c) (Num (2 ^ 32)) (near + pad) (2 ^ 32) ((near + pad) % 2 ^ 32)
      (bin env Add near_c pad_c near pad (near + pad) near-value pad-value (op-Add near pad ∙ ap Some sum-small)) (value-Num env (2 ^ 32)) (op-Rem (near + pad) (2 ^ 32))

  -- the target is not the return address; there is no second one; the target is not the second one
  pub not-near : value env (Bin Ne (Of Pt) near_c) ≡ Some (flag (not (target == near)))
  not-near = bin env Ne (Of Pt) near_c target near (flag (not (target == near))) read-pt near-value (op-Ne target near)

  pub no-pad : value env (Bin Eq pad_c (Num 0)) ≡ Some (flag (pad == 0))
  no-pad = bin env Eq pad_c (Num 0) pad 0 (flag (pad == 0)) pad-value (value-Num env 0) (op-Eq pad 0)

  pub not-far : value env (Bin Ne (Of Pt) far_c) ≡ Some (flag (not (target == (near + pad) % 2 ^ 32)))
  not-far = bin env Ne (Of Pt) far_c target ((near + pad) % 2 ^ 32) (flag (not (target == (near + pad) % 2 ^ 32))) read-pt far-value (op-Ne target ((near + pad) % 2 ^ 32))
