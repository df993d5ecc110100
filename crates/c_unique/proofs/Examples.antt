-- The premise of the laws can be met, and can't be left out.
use Rattle.std.proofs.Common.{◌≡◌, ◌^◌, ◌<◌, ℕ, false, [], replicate, refl, arith}
use Rattle.std.proofs.lemmas.List.Elements.{All-nil, All-cons, All-replicate}
use Rattle.rtl_core.specs.declared.expr.Order.TheVariants.{Big}
use Rattle.c_lang.specs.declared.tree.Header.{Header}
use Rattle.c_lang.specs.declared.tree.Program.{Program}
use Rattle.c_lang.specs.Spellable.{FunctionHasForm, SegmentFits, HasSpelling}
use Rattle.c_lang.proofs.SpellingLaws.{parts_spelled}
use Rattle.c_text.specs.Items.{program_toks}
use Rattle.c_text.specs.Words.{hex}

abbrev header : Header
header = record {
  order = Big;
  align = false;
  heap_base = 0;
  heap_size = 0;
  stack_base = 0;
  stack_size = 0;
  exit = 0;
  read = 0;
  write = 0;
  brk = 0;
  fault = 0;
  descriptor = 0;
  unknown = 0;
  carry = false;
}

-- a program that only calls the function of an address
abbrev calls : ℕ → Program
calls entry = record { header = header; segments = []; functions = []; entry = entry; first = [] }

can_be_met : HasSpelling (calls 4096)
can_be_met =
    let P : ℕ → Type 0 = λ n. n < 2 ^ 32 in
    parts_spelled (calls 4096) (All-cons P 1 (replicate 13 0) (omega arith) (All-replicate P 13 0 (omega arith)))
    (record { few = omega arith; each = All-nil SegmentFits }) (All-nil FunctionHasForm) (omega arith) (All-nil (λ n. n < 2 ^ 64))

-- two programs with the same tokens, one of them with an address of 33 bits
is_needed : program_toks (calls 0) ≡ program_toks (calls (2 ^ 32))
unfolding hex
is_needed = refl

are_two : calls 0 ≡ calls (2 ^ 32) → ⊥
are_two e = let entries : 0 ≡ 2 ^ 32 = λ i. (e i).entry in omega (arith, entries)
