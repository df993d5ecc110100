-- Each name among the tokens of a text is a name, and each number fits.
use Rattle.std.proofs.Common.{◌≡◌, ℕ, ◌-◌, ◌^◌, zero, suc, Bool, true, false, not, cond, ◌&&◌, List, [], ◌∷◌, length, take, drop, map, Option, Some, None, Result, Ok, Err, refl, subst, ◌⊎◌, inl, inr}
use Rattle.std.specs.Prelude.{nat_lt, slice_get}
use Rattle.std.specs.List.{All, list_all}
use Rattle.std.specs.Option.{option_or}
use Rattle.std.specs.Str.Parse.{digits_value}
use Rattle.std.proofs.lemmas.Bool.{cases_Bool, and_parts, ltb-true}
use Rattle.std.proofs.lemmas.List.Elements.{All-nil, All-cons}
use Rattle.scan.specs.Scan.{longer, longest, front, told, lexed, lex}
use Rattle.text_lex.specs.declared.token.Token.{Token}
use Rattle.text_lex.specs.declared.token.Token.TheVariants.{Name, Bad}
use Rattle.text_lex.specs.declared.token.LexFault.{LexFault}
use Rattle.text_lex.specs.declared.token.LogicalLine.{LogicalLine}
use Rattle.text_lex.specs.Bytes.{is_blank, is_letter, is_decimal, is_name_byte, any_next}
use Rattle.text_lex.specs.Tokens.{sign_index, is_joined, sign_at, sign_of, number_token, is_hexadecimal_number, number_of, bad_byte, token_of, all_tokens, tokens_of}
use Rattle.text_lex.specs.Lines.{Line, logical_lines}
use Rattle.text_lex.specs.Faults.{tokens_at, unless, fault_of, lines}
use Rattle.line_reading.specs.Spelling.{IsWritten}

-- a token that is there is such
abbrev Maybe : Option Token → Type 0
Maybe None = Unit {0}
Maybe (Some t) = IsWritten t

either : (b : Bool) (x y : Option Token) → Maybe x → Maybe y → Maybe (cond b x y)
either true x y h k = h
either false x y h k = k

first_or : (x y : Option Token) → Maybe x → Maybe y → Maybe (option_or x y)
first_or None y h k = k
first_or (Some t) y h k = h

number_written : (v : ℕ) (next : Option ℕ) → IsWritten (number_token v next)
number_written v next = by (cases_Bool (nat_lt v (2 ^ 64) && not (any_next is_letter next)))
  where
    by : ((nat_lt v (2 ^ 64) && not (any_next is_letter next)) ≡ true) ⊎ ((nat_lt v (2 ^ 64) && not (any_next is_letter next)) ≡ false) → IsWritten (number_token v next)
    by (inl e) = rw e (ltb-true v (2 ^ 64) (and_parts (nat_lt v (2 ^ 64)) (not (any_next is_letter next)) e).0)
    by (inr e) = rw e tt

number_of_written : (w : List ℕ) (next : Option ℕ) → Maybe (number_of w next)
number_of_written w next =
    either (list_all is_decimal w) _ _ (number_written (digits_value 10 w) next)
    (either (is_hexadecimal_number w) _ _ (number_written (digits_value 16 (drop 2 w)) next) tt)

sign_at_written : (o : Option ℕ) → Maybe (sign_at o)
sign_at_written None = tt
sign_at_written (Some k) = tt

sign_written : (w : List ℕ) (next : Option ℕ) → Maybe (sign_of w next)
sign_written w next = either (is_joined w next) None (sign_at (sign_index w)) tt (sign_at_written (sign_index w))

bad_written : (w : List ℕ) → Maybe (bad_byte w)
bad_written [] = tt
bad_written (b ∷ []) = either (is_blank b) None (Some Bad) tt tt
bad_written (b ∷ c ∷ bs) = tt

name_written : (b : ℕ) (bs : List ℕ) → is_letter b ≡ true → Maybe (cond (list_all is_name_byte bs) (Some (Name (b ∷ bs))) None)
name_written b bs h = by (cases_Bool (list_all is_name_byte bs))
  where
    by : (list_all is_name_byte bs ≡ true) ⊎ (list_all is_name_byte bs ≡ false) → Maybe (cond (list_all is_name_byte bs) (Some (Name (b ∷ bs))) None)
    by (inl e) = rw e (rw (h, e) refl)
    by (inr e) = rw e tt

token_written : (w : List ℕ) (next : Option ℕ) → Maybe (token_of w next)
unfolding token_of
token_written [] next = tt
token_written (b ∷ bs) next = by (cases_Bool (is_letter b))
  where
    others : Maybe (cond (is_decimal b) (number_of (b ∷ bs) next) (option_or (sign_of (b ∷ bs) next) (bad_byte (b ∷ bs))))
    others = either (is_decimal b) _ _ (number_of_written (b ∷ bs) next) (first_or (sign_of (b ∷ bs) next) (bad_byte (b ∷ bs)) (sign_written (b ∷ bs) next) (bad_written (b ∷ bs)))

    by : (is_letter b ≡ true) ⊎ (is_letter b ≡ false) → Maybe (token_of (b ∷ bs) next)
    by (inl e) = rw e (name_written b bs e)
    by (inr e) = rw e others

abbrev MaybeLong : Option (ℕ × Token) → Type 0
MaybeLong None = Unit {0}
MaybeLong (Some found) = IsWritten found.1

longer_written : (o : Option Token) (n : ℕ) (shorter : Option (ℕ × Token)) → Maybe o → MaybeLong shorter → MaybeLong (longer o n shorter)
longer_written None n shorter h k = k
longer_written (Some t) n shorter h k = h

longest_written : (n : ℕ) (bs : List ℕ) → MaybeLong (longest token_of n bs)
unfolding longest
longest_written zero bs = tt
longest_written (suc n) bs = longer_written (token_of (take (suc n) bs) (slice_get bs (suc n))) (suc n) (longest token_of n bs) (token_written (take (suc n) bs) (slice_get bs (suc n))) (longest_written n bs)

abbrev Each_written : Result (List Token) ℕ → Type 0
Each_written (Ok ts) = All IsWritten ts
Each_written (Err left) = Unit {0}

told_written : (t : Token) (o : Result (List Token) ℕ) → IsWritten t → Each_written o → Each_written (told (t ∷ []) o)
told_written t (Ok us) h k = All-cons IsWritten t us h k
told_written t (Err left) h k = tt

lexed_written : (o : Option (ℕ × Token)) (left : ℕ) (behind : ℕ → Result (List Token) ℕ) → MaybeLong o → ((skip : ℕ) → Each_written (behind skip)) → Each_written (lexed o left behind)
lexed_written None left behind h k = tt
lexed_written (Some found) left behind h k = told_written found.1 (behind (found.0 - 1)) h (k (found.0 - 1))

either_read : (b : Bool) (x y : Result (List Token) ℕ) → Each_written x → Each_written y → Each_written (cond b x y)
either_read true x y h k = h
either_read false x y h k = k

lex_written : (bs : List ℕ) (skip : ℕ) → Each_written (lex token_of is_blank skip bs)
unfolding lex
lex_written [] skip = All-nil IsWritten
lex_written (b ∷ bs) (suc skip) = lex_written bs skip
lex_written (b ∷ bs) zero =
    either_read (is_blank b) (lex token_of is_blank zero bs) _ (lex_written bs zero)
    (lexed_written (front token_of (b ∷ bs)) (length (b ∷ bs)) (λ skip. lex token_of is_blank skip bs) (longest_written (length (b ∷ bs)) (b ∷ bs)) (λ skip. lex_written bs skip))

all_written : (o : Result (List Token) ℕ) → Each_written o → All IsWritten (all_tokens o)
all_written (Ok ts) h = h
all_written (Err left) h = All-nil IsWritten

tokens_written : (bs : List ℕ) → All IsWritten (tokens_of bs)
unfolding tokens_of
tokens_written bs = all_written (lex token_of is_blank 0 bs) (lex_written bs 0)

-- the tokens of a line are such
abbrev pub LineIsWritten : LogicalLine → Type 0
LineIsWritten line = All IsWritten line.tokens

each_line : (ls : List Line) → All LineIsWritten (map tokens_at ls)
each_line [] = All-nil LineIsWritten
each_line (l ∷ ls) = All-cons LineIsWritten (tokens_at l) (map tokens_at ls) (tokens_written l.bytes) (each_line ls)

unless_ok : (o : Option LexFault) (found ls : List LogicalLine) → unless o found ≡ Ok ls → found ≡ ls
unless_ok None found ls h = cc
unless_ok (Some fault) found ls h = absurd (cc)

pub lines_written : (text : List ℕ) (ls : List LogicalLine) → lines text ≡ Ok ls → All LineIsWritten ls
lines_written text ls h = subst (λ l. All LineIsWritten l) (unless_ok (fault_of text) (map tokens_at (logical_lines text)) ls h) (each_line (logical_lines text))
