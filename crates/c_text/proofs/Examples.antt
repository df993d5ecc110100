-- The tokens of small texts.
use Rattle.std.proofs.Common.{◌≡◌, [], ◌∷◌, Ok, Err, refl}
use Rattle.std.specs.Prelude.{codes}
use Rattle.scan.specs.Scan.{lex, longest}
use Rattle.c_text.specs.Tokens.{word, mark, plain, long, tokens, word_token}

a_branch : tokens (codes "if(c1<=12ull)\tgoto L_R;") ≡ Ok (word "if" ∷ mark "(" ∷ word "c1" ∷ mark "<=" ∷ long 12 ∷ mark ")" ∷ word "goto" ∷ word "L_R" ∷ mark ";" ∷ [])
unfolding lex longest word_token
a_branch = refl

no_token_begins : tokens (codes "a >b") ≡ Err 2
unfolding lex longest word_token
no_token_begins = refl

no_carriage_return : tokens (codes "a\r\n") ≡ Err 2
unfolding lex longest word_token
no_carriage_return = refl

numbers_and_names : tokens (codes "12ab 1ullx 007 <<= 18446744073709551616") ≡ Ok (plain 12 ∷ word "ab" ∷ long 1 ∷ word "x" ∷ plain 7 ∷ mark "<<" ∷ mark "=" ∷ plain 18446744073709551616 ∷ [])
unfolding lex longest word_token
numbers_and_names = refl
