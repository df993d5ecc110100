-- Lines: what is spelled is read.
use Rattle.std.proofs.Common.{◌≡◌, ℕ, Bool, true, false, ◌&&◌, ◌||◌, List, [], ◌∷◌, ◌++◌, drop, Option, Some, None, refl, sym, ap, ◌∙◌, ◌⊎◌, inl, inr, append_assoc}
use Rattle.std.specs.Prelude.{codes}
use Rattle.std.specs.Str.{bytes_eq}
use Rattle.std.proofs.lemmas.Bool.{cases_Bool}
use Rattle.text_lex.specs.declared.token.Token.{Token}
use Rattle.text_lex.specs.declared.token.Token.TheVariants.{Name, Number, Sign}
use Rattle.line_reading.specs.Signs.{open_paren, close_paren, comma, colon}
use Rattle.line_reading.specs.Spelling.{each_behind, listed, name_toks}
use Rattle.line_reading.specs.Readings.{Read, fails, reads, Reader, begins, begins_name, any_name, items}
use Rattle.line_reading.proofs.ListReads.{Each, IsRead, items_reads}
use Rattle.line_reading.proofs.NameReads.{Always, each_name, same_name}
use Rattle.sled_syntax.specs.declared.line.SledPattern.{SledPattern}
use Rattle.sled_syntax.specs.declared.line.FieldDef.{FieldDef}
use Rattle.sled_syntax.specs.declared.line.SledBody.{SledBody}
use Rattle.sled_syntax.specs.declared.line.SledBody.TheVariants as body
use Rattle.sled_syntax.specs.Lines.{fields_toks, type_toks, is_word, pattern_toks, order_word, body_toks, is_pattern, is_body}
use Rattle.sled_syntax.specs.LineReaders.{read_fields, read_pattern, begins_any_name, goes_on, begins_ops, read_ops, read_type, read_order, read_token, read_named, read_constructor, read_behind, read_body}
use Rattle.sled_syntax.proofs.PatternReads.{NameFirst, pattern_first, pattern_reads}
use Rattle.sled_syntax.proofs.FieldLoops.{fields_reads}

-- what stands behind operands: a type, the word `is` and a pattern
abbrev pub behind_ops : Option (List ℕ) → SledPattern → List Token
behind_ops of_type p = type_toks of_type ++ Name is_word ∷ pattern_toks p

-- the word `is` before a pattern is no operand
no_operand : (ts : List Token) (n : NameFirst ts) → goes_on ts ≡ false
no_operand ts n = ap goes_on n.front ∙ by (cases_Bool (bytes_eq n.name is_word))
  where
    by : (bytes_eq n.name is_word ≡ true) ⊎ (bytes_eq n.name is_word ≡ false) → goes_on (Name n.name ∷ n.tail) ≡ false
    by (inl e) = rw (e, n.alone) refl
    by (inr e) = rw e refl

ops_none : (ts : List Token) → begins_ops ts ≡ false → read_ops ts ≡ reads [] ts
unfolding read_ops
ops_none ts h = rw h refl

ops_some : (ts r : List Token) (ops : List (List ℕ)) → begins_ops ts ≡ true → items comma any_name ts ≡ reads ops r → read_ops ts ≡ reads ops r
unfolding read_ops
ops_some ts r ops b h = rw b h

none_begin : (of_type : Option (List ℕ)) (p : SledPattern) → is_pattern p ≡ true → begins_ops (behind_ops of_type p) ≡ false
unfolding begins_ops
none_begin None p f = rw (no_operand (pattern_toks p) (pattern_first p f)) refl
none_begin (Some t) p f = refl

-- an operand named `is` is seen by what stands behind it
operand_goes : (xs : List (List ℕ)) (of_type : Option (List ℕ)) (p : SledPattern) → is_pattern p ≡ true → goes_on (each_behind comma name_toks xs ++ behind_ops of_type p) ≡ true
operand_goes (x ∷ xs) of_type p f = refl
operand_goes [] (Some t) p f = refl
operand_goes [] None p f =
    let n = pattern_first p f in
    ap (λ us. goes_on (Name is_word ∷ us)) n.front

some_begin : (x : List ℕ) (ts : List Token) → goes_on ts ≡ true → begins_ops (Name x ∷ ts) ≡ true
unfolding begins_ops
some_begin x ts h = by (cases_Bool (bytes_eq x is_word))
  where
    by : (bytes_eq x is_word ≡ true) ⊎ (bytes_eq x is_word ≡ false) → begins_ops (Name x ∷ ts) ≡ true
    by (inl e) = rw (e, h) refl
    by (inr e) = rw e refl

no_comma : (of_type : Option (List ℕ)) (p : SledPattern) → begins comma (behind_ops of_type p) ≡ false
no_comma None p = refl
no_comma (Some t) p = refl

ops_reads : (ops : List (List ℕ)) (of_type : Option (List ℕ)) (p : SledPattern) → is_pattern p ≡ true → read_ops (listed comma name_toks ops ++ behind_ops of_type p) ≡ reads ops (behind_ops of_type p)
ops_reads [] of_type p f = ops_none (behind_ops of_type p) (none_begin of_type p f)
ops_reads (x ∷ xs) of_type p f =
    let back = behind_ops of_type p in
    ops_some (listed comma name_toks (x ∷ xs) ++ back) back (x ∷ xs) (some_begin x (each_behind comma name_toks xs ++ back) (operand_goes xs of_type p f))
    (items_reads Always comma any_name name_toks (λ r. tt) x xs back (each_name (x ∷ xs)) tt (no_comma of_type p))

type_reads : (of_type : Option (List ℕ)) (ts : List Token) → read_type (type_toks of_type ++ Name is_word ∷ ts) ≡ reads of_type (Name is_word ∷ ts)
unfolding read_type
type_reads None ts = refl
type_reads (Some t) ts = refl

word-order : (ts : List Token) → read_body (Name (codes "order") ∷ ts) ≡ read_order ts
unfolding read_body read_behind
word-order ts = refl

word-fields : (ts : List Token) → read_body (Name (codes "fields") ∷ ts) ≡ read_token ts
unfolding read_body read_behind
word-fields ts = refl

word-pattern : (ts : List Token) → read_body (Name (codes "pattern") ∷ ts) ≡ read_named ts
unfolding read_body read_behind
word-pattern ts = refl

word-constructor : (ts : List Token) → read_body (Name (codes "constructor") ∷ ts) ≡ read_constructor ts
unfolding read_body read_behind
word-constructor ts = refl

order_reads : (big : Bool) → read_order (Name (order_word big) ∷ []) ≡ reads (body.ByteOrder big) []
unfolding read_order
order_reads true = refl
order_reads false = refl

token_step : (token : List ℕ) (width : ℕ) (ts : List Token) (fields : List FieldDef) → read_fields ts ≡ reads fields [] → read_token (Name (codes "of") ∷ Name token ∷ Sign open_paren ∷ Number width ∷ Sign close_paren ∷ ts) ≡ reads (body.Fields token width fields) []
unfolding read_token
token_step token width ts fields h = rw h refl

named_step : (name : List ℕ) (ts : List Token) (p : SledPattern) → read_pattern ts ≡ reads p [] → read_named (Name name ∷ Name is_word ∷ ts) ≡ reads (body.Pattern name p) []
unfolding read_named
named_step name ts p h = rw h refl

constructor_step : (name : List ℕ) (ops : List (List ℕ)) (of_type : Option (List ℕ)) (p : SledPattern) (ts us : List Token) → read_ops ts ≡ reads ops us → read_type us ≡ reads of_type (Name is_word ∷ pattern_toks p) → read_pattern (pattern_toks p) ≡ reads p [] → read_constructor (Name name ∷ ts) ≡ reads (body.Constructor name ops of_type p) []
unfolding read_constructor
constructor_step name ops of_type p ts us h k l = rw (h, k, l) refl

-- a line value is read from its tokens
pub body_reads : (b : SledBody) → is_body b ≡ true → read_body (body_toks b) ≡ reads b []
body_reads (body.ByteOrder big) f = word-order (Name (order_word big) ∷ []) ∙ order_reads big
body_reads (body.Fields token width fields) f = word-fields _ ∙ token_step token width (fields_toks fields) fields (fields_reads fields)
body_reads (body.Pattern name p) f = word-pattern _ ∙ named_step name (pattern_toks p) p (pattern_reads p f)
body_reads (body.Constructor name ops of_type p) f =
    word-constructor _
    ∙ constructor_step name ops of_type p (listed comma name_toks ops ++ behind_ops of_type p) (behind_ops of_type p) (ops_reads ops of_type p f) (type_reads of_type (pattern_toks p)) (pattern_reads p f)
