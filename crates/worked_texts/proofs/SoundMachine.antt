-- The samples are sound.
use Rattle.std.proofs.Common.{◌≡◌, ℕ, zero, suc, ◌≤◌, ◌<◌, [], ◌∷◌, refl, sym, ap, ◌∙◌, subst, arith, get_or}
use Rattle.std.specs.Prelude.{slice_index}
use Rattle.rtl_core.specs.declared.expr.Bin.TheVariants.{Or}
use Rattle.rtl_core.specs.declared.expr.Expr.TheVariants as E
use Rattle.rtl_core.specs.declared.transfer.Transfer.{Transfer}
use Rattle.rtl_core.specs.SoundTerms.{IsWidth, IsSoundTerm, HasWidth, AreSoundTransfers, IsSoundTransfer}
use Rattle.rtl_core.specs.Terms.{Const, Cell, Binary, Sext, term_of, width_of}
use Rattle.rtl_core.proofs.TermLaws.{term-Const, term-Cell, term-Bin, term-Sext}
use Rattle.c_lower.specs.Accounts.{lowered_need}
use Rattle.c_lower.specs.Code.{need}
use Rattle.worked_texts.specs.SmallMachine.{small_machine, or_expression, or_transfers}
use Rattle.c_lower.specs.Theorem.{IsLowerable}

widths_small : (c : ℕ) → c < 3 → IsWidth (slice_index (32 ∷ 32 ∷ 32 ∷ []) c)
widths_small zero h = (omega arith, omega arith)
widths_small (suc zero) h = (omega arith, omega arith)
widths_small (suc (suc zero)) h = (omega arith, omega arith)
widths_small (suc (suc (suc c))) h = absurd (omega (arith, h))

pub small_lowerable : IsLowerable small_machine
small_lowerable = record { widths = record { each = widths_small }; windows = λ w e. cc }

is_or : term_of or_expression ≡ Binary Or (Cell 1) (Sext 32 (Const 13 8191))
is_or =
    term-Bin Or (E.Cell 1) (E.Sext 32 (E.Const 13 8191)) ∙ ap (λ t. Binary Or t (term_of (E.Sext 32 (E.Const 13 8191)))) (term-Cell 1)
    ∙ ap (λ t. Binary Or (Cell 1) t) (term-Sext 32 (E.Const 13 8191) ∙ ap (λ t. Sext 32 t) (term-Const 13 8191))

has_width : HasWidth (32 ∷ 32 ∷ 32 ∷ []) or_expression 32
has_width =
    subst (λ t. IsSoundTerm (32 ∷ 32 ∷ 32 ∷ []) t × (width_of (32 ∷ 32 ∷ 32 ∷ []) t ≡ 32)) (sym is_or)
    ((omega arith, (((omega arith, omega arith), omega arith), omega arith, omega arith), refl), refl)

each_sound : (k : ℕ) (d : Transfer) → k < 1 → IsSoundTransfer small_machine (get_or or_transfers k d)
each_sound zero d h = record { guard = tt; act = (omega arith, has_width) }
each_sound (suc k) d h = absurd (omega (arith, h))

pub or_sound : AreSoundTransfers small_machine or_transfers
or_sound = record {
  each = each_sound;
  one_jump = omega arith;
  one_annul = omega arith;
  one_service = omega arith;
  one_move = omega arith;
  service_last = tt;
}

pub or_need : lowered_need or_transfers ≤ 500
or_need = let n : need (term_of or_expression) ≡ 2 = ap need is_or in omega (arith, n)

pub ruleset sound_machine = (small_lowerable, or_sound, or_need)
