-- Items: what is read is spelled so and has a form, and what has a form is read.
use Rattle.std.proofs.Common.{◌≡◌, ℕ, ◌<◌, ◌^◌, length, List, [], ◌∷◌, ◌++◌, refl, ap, ◌∙◌, arith, append_assoc}
use Rattle.c_lang.specs.Items.{Array, Prototype, prototype_of}
use Rattle.c_lang.specs.Spellable.{ArrayHasForm}
use Rattle.c_text.specs.Tokens.{Token, long, mark, name, word}
use Rattle.c_text.specs.Words.{function_word, segment_word}
use Rattle.c_text.specs.Expressions.{commas}
use Rattle.c_text.specs.Functions.{body_toks}
use Rattle.c_text.specs.Items.{no_address}
use Rattle.c_scan.specs.Readings.{takes, Syntax, followed, at, exactly, long_number, number_below}
use Rattle.c_read.specs.declared.pieces.Piece.{Piece}
use Rattle.c_read.specs.declared.pieces.Piece.TheVariants as piece
use Rattle.c_read.specs.Combined.{Each, before}
use Rattle.c_read.specs.Functions.{IsPrototype, read_body, read_head}
use Rattle.c_read.specs.Pieces.{IsPiece, array, array_behind, array_syntax, made_array, main, piece_toks, read_array, read_behind_head, read_main, read_piece, read_typed, read_void, read_words, segment}
use Rattle.c_read.proofs.SyntaxLaws.{FrontIs, Mirrors, Builds, in_sequence, behind_mark, front_same, sign_asked, word_asked, long_asked, both_mirrored, before_mirrored, behind_mirrored, made_fronts, made_read, either_fronts}
use Rattle.c_read.proofs.Loops.{Consumes, consumes_from, only_mirrored, brace_closer, enclosed_mirrored, while_mark_mirrored}
use Rattle.c_read.proofs.Words.{named_mirrored, plain_mirrored, long_mirrored, below_mirrored, segment_meaning}
use Rattle.c_read.proofs.NamedPlaces.{function_meaning}
use Rattle.c_read.proofs.FunctionExact.{body_read, function_fronts, head_behind, head_mirrored}
use Rattle.c_read.proofs.Forms.{all_each, array_form, each_all, form_array, form_function, form_prototype, function_form, prototype_form}

abbrev IsNumber : ℕ → Type 0
IsNumber n = n < 2 ^ 64

-- ---- numbers behind commas

pub number_consumes : (bound : ℕ) → Consumes (before (mark ",") (number_below bound)).read
number_consumes bound = consumes_from (before (mark ",") (number_below bound)) (λ n. n < bound) (before_mirrored (mark ",") (number_below bound) (λ n. n < bound) (sign_asked _) (below_mirrored bound)).only_these (λ e p. omega arith)

one_more_long : Mirrors (before (mark ",") long_number) IsNumber
one_more_long = before_mirrored (mark ",") long_number IsNumber (sign_asked _) long_mirrored

pub long_consumes : Consumes (before (mark ",") long_number).read
long_consumes = consumes_from (before (mark ",") long_number) IsNumber one_more_long.only_these (λ e p. omega arith)

-- ---- arrays

record IsBelow (bound : ℕ) (a : Array) : Type 0 where
  declared : IsNumber a.declared
  numbers : Each (λ n. n < bound) a.numbers

module _ (bound : ℕ) where
  parts_mirrored : Mirrors (array bound) (λ x. IsNumber x.0 × Each (λ n. n < bound) x.1)
  parts_mirrored =
      before_mirrored _ _ _ (sign_asked _) (both_mirrored _ _ _ (Each (λ n. n < bound)) plain_mirrored
      (before_mirrored _ _ _ (sign_asked _) (before_mirrored _ _ _ (sign_asked _) (before_mirrored _ _ _ (sign_asked _) (behind_mirrored _ _ _ (sign_asked _)
      (enclosed_mirrored (mark "}") (number_below bound) (λ n. n < bound) brace_closer (below_mirrored bound) (record { filled = λ n p. omega arith; opens = λ n remain p. refl })))))))

  array_makes : (x : ℕ × List ℕ) → Builds (λ given. given) made_array (array bound).spell array_behind (λ x. IsNumber x.0 × Each (λ n. n < bound) x.1) (IsBelow bound) x
  array_makes x = record { same = λ remain. simp append_assoc; proper = λ q. record { declared = q.0; numbers = q.1 } }

  array_mirrored : Mirrors (array_syntax bound) (IsBelow bound)
  unfolding read_array
  array_mirrored = record {
    only_these = record { seen_front = made_fronts made_array (array bound) _ array_behind (IsBelow bound) (λ given. given) parts_mirrored array_makes };
    all_these = λ a p. record { read_back = λ remain. made_read made_array (array bound) _ array_behind (IsBelow bound) parts_mirrored (a.declared, a.numbers) (array_behind a ++ remain) remain (p.declared, p.numbers) ((array_makes (a.declared, a.numbers)).same remain) };
  }

to_words : (a : Array) → IsBelow (2 ^ 32) a → ArrayHasForm 32 a
to_words a p = array_form 32 (2 ^ 32) refl a p.declared p.numbers

of_words : (a : Array) → ArrayHasForm 32 a → IsBelow (2 ^ 32) a
of_words a p = record { declared = p.length_fits; numbers = form_array 32 (2 ^ 32) refl a p }

to_bytes : (a : Array) → IsBelow 256 a → ArrayHasForm 8 a
to_bytes a p = array_form 8 256 refl a p.declared p.numbers

of_bytes : (a : Array) → ArrayHasForm 8 a → IsBelow 256 a
of_bytes a p = record { declared = p.length_fits; numbers = form_array 8 256 refl a p }

segment_mirrored : Mirrors segment (λ x. (x.0 < 2 ^ 64) × IsBelow 256 x.1)
segment_mirrored = before_mirrored _ _ _ (word_asked _) (both_mirrored _ _ _ (IsBelow 256) (named_mirrored _ _ _ segment_meaning) (array_mirrored 256))

main_mirrored : Mirrors main (λ x. (x.0 < 2 ^ 32) × Each IsNumber x.1)
main_mirrored =
    before_mirrored _ _ _ (word_asked _) (before_mirrored _ _ _ (sign_asked _) (before_mirrored _ _ _ (word_asked _) (before_mirrored _ _ _ (sign_asked _) (before_mirrored _ _ _ (sign_asked _)
    (both_mirrored _ _ _ (Each IsNumber) (named_mirrored _ _ _ function_meaning) (before_mirrored _ _ _ (sign_asked _) (before_mirrored _ _ _ (long_asked _) (behind_mirrored _ _ _ (sign_asked _) (behind_mirrored _ _ _ (sign_asked _)
    (while_mark_mirrored (at (mark ",")) (before (mark ",") long_number) (mark ")") IsNumber (sign_asked _) one_more_long
    (record { filled = λ x p. omega arith; begins = λ x remain p. refl; ends = λ y remain q. refl })))))))))))

-- ---- each kind of item

abbrev Shown : List Token → Piece → List Token → Type 0
Shown given y remain = FrontIs {A = Piece} piece_toks IsPiece given y remain

words_fronts : (given : List Token) (y : Piece) (remain : List Token) → read_words given ≡ takes y remain → Shown (word "const" ∷ word "u64" ∷ given) y remain
unfolding read_words
words_fronts given y remain =
    either_fronts (at (word "uq_machine") given) _ _ (Shown (word "const" ∷ word "u64" ∷ given)) y remain
    (made_fronts piece.Machine (before (word "uq_machine") (array_syntax (2 ^ 32))) _ piece_toks IsPiece (λ given. word "const" ∷ word "u64" ∷ given) (before_mirrored _ _ _ (word_asked _) (array_mirrored (2 ^ 32)))
    (λ a. record { same = λ remain. refl; proper = to_words a }) given)
    (made_fronts piece.Table (before (word "uq_segs") (array_syntax (2 ^ 32))) _ piece_toks IsPiece (λ given. word "const" ∷ word "u64" ∷ given) (before_mirrored _ _ _ (word_asked _) (array_mirrored (2 ^ 32)))
    (λ a. record { same = λ remain. refl; proper = to_words a }) given)

past_u64 : (given : List Token) (y : Piece) (remain : List Token) → followed ((exactly (word "u64")).read given) (λ _. read_words) ≡ takes y remain → Shown (word "const" ∷ given) y remain
past_u64 given y remain h =
    let p = behind_mark (word "u64") read_words given y remain h in
    let a = words_fronts p.mid y remain p.second in
    record { spelled = ap (λ given. word "const" ∷ given) p.front ∙ a.spelled; proper = a.proper }

typed_fronts : (given : List Token) (y : Piece) (remain : List Token) → read_typed given ≡ takes y remain → Shown (word "const" ∷ given) y remain
unfolding read_typed
typed_fronts given y remain =
    either_fronts (at (word "u8") given) _ _ (Shown (word "const" ∷ given)) y remain
    (made_fronts (λ x. piece.Segment x.0 x.1) segment _ piece_toks IsPiece (λ given. word "const" ∷ given) segment_mirrored (λ x. record { same = λ remain. refl; proper = λ q. (q.0, to_bytes x.1 q.1) }) given)
    (past_u64 given)

behind_fronts : (p : Prototype) → IsPrototype p → (given : List Token) (y : Piece) (remain : List Token) → read_behind_head p given ≡ takes y remain → Shown (word "void" ∷ (head_behind p ++ given)) y remain
unfolding read_behind_head
behind_fronts p q given y remain =
    either_fronts (at (mark ";") given) _ _ (Shown (word "void" ∷ (head_behind p ++ given))) y remain
    (made_fronts (λ _. piece.Declared p) (exactly (mark ";")) _ piece_toks IsPiece (λ given. word "void" ∷ (head_behind p ++ given)) (only_mirrored _ (sign_asked _)) (λ a. record { same = λ remain. simp append_assoc; proper = λ _. prototype_form p q }) given)
    (λ y remain h.
    let one = in_sequence (read_body p given) (λ x rest. takes (piece.Defined x) rest) y remain h in
    let a = function_fronts p q given one.x one.mid one.first in
    front_same (piece.Defined one.x) y one.mid remain one.second (record { spelled = ap (λ given. word "void" ∷ given) a.spelled; proper = function_form one.x a.proper }))

void_fronts : (given : List Token) (y : Piece) (remain : List Token) → read_void given ≡ takes y remain → Shown (word "void" ∷ given) y remain
unfolding read_void read_main
void_fronts given y remain =
    either_fronts (at (word "uq_main") given) _ _ (Shown (word "void" ∷ given)) y remain
    (made_fronts (λ x. piece.Main x.0 x.1) main _ piece_toks IsPiece (λ given. word "void" ∷ given) main_mirrored (λ x. record { same = λ remain. simp append_assoc; proper = λ q. (q.0, each_all IsNumber IsNumber (λ n l. l) x.1 q.1) }) given)
    (λ y remain h.
    let one = in_sequence (read_head given) read_behind_head y remain h in
    let a = head_mirrored.only_these.seen_front given one.x one.mid one.first in
    let b = behind_fronts one.x a.proper one.mid y remain one.second in
    record { spelled = ap (λ given. word "void" ∷ given) a.spelled ∙ b.spelled; proper = b.proper })

piece_fronts : (given : List Token) (y : Piece) (remain : List Token) → read_piece given ≡ takes y remain → Shown given y remain
unfolding read_piece
piece_fronts given y remain =
    either_fronts (at (word "const") given) _ _ (Shown given) y remain
    (λ y remain h.
    let p = behind_mark (word "const") read_typed given y remain h in
    let a = typed_fronts p.mid y remain p.second in
    record { spelled = p.front ∙ a.spelled; proper = a.proper })
    (λ y remain h.
    let p = behind_mark (word "void") read_void given y remain h in
    let a = void_fronts p.mid y remain p.second in
    record { spelled = p.front ∙ a.spelled; proper = a.proper })

abbrev main_behind : ℕ → List ℕ → List Token → List Token
main_behind entry first remain =
    word "uq_main" ∷ mark "(" ∷ word "void" ∷ mark ")" ∷ mark "{" ∷ name (function_word entry) ∷ mark "(" ∷ long no_address
    ∷ ((commas (λ n. long n ∷ []) first ++ mark ")" ∷ mark ";" ∷ mark "}" ∷ []) ++ remain)

piece_read : (p : Piece) (remain : List Token) → IsPiece p → read_piece (piece_toks p ++ remain) ≡ takes p remain
unfolding read_piece read_typed read_words read_void read_main read_behind_head
piece_read (piece.Machine a) remain p = made_read piece.Machine (before (word "uq_machine") (array_syntax (2 ^ 32))) _ piece_toks IsPiece (before_mirrored _ _ _ (word_asked _) (array_mirrored (2 ^ 32))) a (word "uq_machine" ∷ (array_behind a ++ remain)) remain (of_words a p) refl
piece_read (piece.Segment k a) remain p = made_read (λ x. piece.Segment x.0 x.1) segment _ piece_toks IsPiece segment_mirrored (k, a) (word "u8" ∷ name (segment_word k) ∷ (array_behind a ++ remain)) remain (p.0, of_bytes a p.1) refl
piece_read (piece.Table a) remain p = made_read piece.Table (before (word "uq_segs") (array_syntax (2 ^ 32))) _ piece_toks IsPiece (before_mirrored _ _ _ (word_asked _) (array_mirrored (2 ^ 32))) a (word "uq_segs" ∷ (array_behind a ++ remain)) remain (of_words a p) refl
piece_read (piece.Declared p) remain q =
    let e : (head_behind p ++ mark ";" ∷ []) ++ remain ≡ head_behind p ++ mark ";" ∷ remain = append_assoc (head_behind p) (mark ";" ∷ []) remain in
    rw (e, (head_mirrored.all_these p (form_prototype p q)).read_back (mark ";" ∷ remain)) refl
piece_read (piece.Defined f) remain q =
    let p = prototype_of f in
    let g = form_function f q in
    let e : (head_behind p ++ body_toks f) ++ remain ≡ head_behind p ++ (body_toks f ++ remain) = append_assoc (head_behind p) (body_toks f) remain in
    rw (e, (head_mirrored.all_these p g.head).read_back (body_toks f ++ remain), body_read f remain g) refl
piece_read (piece.Main entry first) remain p =
    made_read (λ x. piece.Main x.0 x.1) main _ piece_toks IsPiece main_mirrored (entry, first) (main_behind entry first remain) remain (p.0, all_each IsNumber IsNumber (λ n l. l) first p.1) (simp append_assoc)

abbrev pub piece_syntax : Syntax Piece
piece_syntax = record { spell = piece_toks; read = read_piece }

pub piece_mirrored : Mirrors piece_syntax IsPiece
piece_mirrored = record { only_these = record { seen_front = piece_fronts }; all_these = λ p q. record { read_back = λ remain. piece_read p remain q } }

-- no item is empty
pub piece_filled : (p : Piece) → 0 < length (piece_toks p)
piece_filled (piece.Machine a) = omega arith
piece_filled (piece.Segment k a) = omega arith
piece_filled (piece.Table a) = omega arith
piece_filled (piece.Declared p) = omega arith
piece_filled (piece.Defined f) = omega arith
piece_filled (piece.Main entry first) = omega arith

pub piece_consumes : Consumes read_piece
piece_consumes = consumes_from piece_syntax IsPiece piece_mirrored.only_these (λ p q. piece_filled p)
