-- Lines: what is read was spelled.
use Rattle.std.proofs.Common.{◌≡◌, ℕ, Bool, true, false, List, [], ◌∷◌, ◌++◌, drop, Option, Some, None, refl, sym, ap, ◌∙◌, subst, ◌⊎◌, inl, inr}
use Rattle.std.specs.Prelude.{codes}
use Rattle.std.specs.Str.{bytes_eq}
use Rattle.std.proofs.lemmas.Bool.{cases_Bool}
use Rattle.std.proofs.lemmas.List.{append-nil}
use Rattle.std.proofs.lemmas.Slice.Eq.{bytes_eq-Decides}
use Rattle.text_lex.specs.declared.token.Token.{Token}
use Rattle.text_lex.specs.declared.token.Token.TheVariants.{Name, Number, Sign}
use Rattle.line_reading.specs.Signs.{open_paren, close_paren, comma, colon}
use Rattle.line_reading.specs.Spelling.{listed, name_toks}
use Rattle.line_reading.specs.Readings.{Read, fails, reads, Reader, after, ◌>>=◌, give, fail, begins, begins_name, sign, number, any_name, this_name, items}
use Rattle.line_reading.proofs.ListReads.{IsShown, never, through, as_read, at_sign, past_sign, past_number, items_sound}
use Rattle.line_reading.proofs.NameReads.{Always, name_sound, past_name, at_name, past_this}
use Rattle.sled_syntax.specs.declared.line.SledPattern.{SledPattern}
use Rattle.sled_syntax.specs.declared.line.SledBody.{SledBody}
use Rattle.sled_syntax.specs.declared.line.SledBody.TheVariants as body
use Rattle.sled_syntax.specs.Lines.{fields_toks, type_toks, is_word, pattern_toks, body_toks, is_body}
use Rattle.sled_syntax.specs.LineReaders.{read_fields, read_pattern, begins_ops, read_ops, read_type, read_order, read_token, read_named, read_constructor, read_behind, read_body}
use Rattle.sled_syntax.proofs.PatternSound.{pattern_at}
use Rattle.sled_syntax.proofs.FieldLoops.{fields_sound}

-- a line was read so, to its end
pub record LineShown (ts : List Token) (b : SledBody) : Type 0 where
  pub spelled : ts ≡ body_toks b
  pub proper : is_body b ≡ true

-- what was read of some tokens, to the end
shown : (ts : List Token) (c b : SledBody) (m : List Token) → (m ≡ [] → ts ≡ body_toks c) → is_body c ≡ true → reads c m ≡ reads b [] → LineShown ts b
shown ts c b m whole f h =
    let same : c ≡ b = cc in
    let rest : m ≡ [] = cc in
    subst (λ z. LineShown ts z) same (record { spelled = whole rest; proper = f })

order_sound : (ts : List Token) (b : SledBody) → read_order ts ≡ reads b [] → LineShown (Name (codes "order") ∷ ts) b
unfolding read_order
order_sound ts b h = by (cases_Bool (begins_name (codes "big") ts))
  where
    by : (begins_name (codes "big") ts ≡ true) ⊎ (begins_name (codes "big") ts ≡ false) → LineShown (Name (codes "order") ∷ ts) b
    by (inl e) = shown (Name (codes "order") ∷ ts) (body.ByteOrder true) b (drop 1 ts) (λ z. ap (λ us. Name (codes "order") ∷ us) (at_name (codes "big") ts e ∙ ap (λ us. Name (codes "big") ∷ us) z)) refl (rw e at h)
    by (inr e) =
        let n = past_this (codes "little") (give (body.ByteOrder false)) ts b [] (rw e at h) in
        shown (Name (codes "order") ∷ ts) (body.ByteOrder false) b n.mid (λ z. ap (λ us. Name (codes "order") ∷ us) (n.front ∙ ap (λ us. Name (codes "little") ∷ us) z)) refl n.second

token_sound : (ts : List Token) (b : SledBody) → read_token ts ≡ reads b [] → LineShown (Name (codes "fields") ∷ ts) b
unfolding read_token
token_sound ts b h =
    let o = past_this (codes "of") (any_name >>= (λ token. sign open_paren >>= (λ _. number >>= (λ width. sign close_paren >>= (λ _. read_fields >>= (λ fields. give (body.Fields token width fields))))))) ts b [] h in
    let t = past_name (λ token. sign open_paren >>= (λ _. number >>= (λ width. sign close_paren >>= (λ _. read_fields >>= (λ fields. give (body.Fields token width fields)))))) o.mid b [] o.second in
    let p = past_sign open_paren (number >>= (λ width. sign close_paren >>= (λ _. read_fields >>= (λ fields. give (body.Fields t.name width fields))))) t.mid b [] t.second in
    let w = past_number (λ width. sign close_paren >>= (λ _. read_fields >>= (λ fields. give (body.Fields t.name width fields)))) p.mid b [] p.second in
    let q = past_sign close_paren (read_fields >>= (λ fields. give (body.Fields t.name w.value fields))) w.mid b [] w.second in
    let f = through (read_fields q.mid) (λ fields. give (body.Fields t.name w.value fields)) b [] q.second in
    let s = fields_sound q.mid f.x f.mid f.first in
    shown (Name (codes "fields") ∷ ts) (body.Fields t.name w.value f.x) b f.mid
    (λ z. ap (λ us. Name (codes "fields") ∷ us) (o.front ∙ ap (λ us. Name (codes "of") ∷ us) (t.front ∙ ap (λ us. Name t.name ∷ us) (p.front ∙ ap (λ us. Sign open_paren ∷ us) (w.front ∙ ap (λ us. Number w.value ∷ us) (q.front ∙ ap (λ us. Sign close_paren ∷ us) (s ∙ ap (λ us. fields_toks f.x ++ us) z ∙ append-nil (fields_toks f.x))))))))
    refl f.second

pattern_end : (p : SledPattern) (ts m : List Token) → ts ≡ pattern_toks p ++ m → m ≡ [] → ts ≡ pattern_toks p
pattern_end p ts m e z = e ∙ ap (λ us. pattern_toks p ++ us) z ∙ append-nil (pattern_toks p)

named_sound : (ts : List Token) (b : SledBody) → read_named ts ≡ reads b [] → LineShown (Name (codes "pattern") ∷ ts) b
unfolding read_named
named_sound ts b h =
    let n = past_name (λ name. this_name is_word >>= (λ _. read_pattern >>= (λ p. give (body.Pattern name p)))) ts b [] h in
    let i = past_this is_word (read_pattern >>= (λ p. give (body.Pattern n.name p))) n.mid b [] n.second in
    let p = through (read_pattern i.mid) (λ p. give (body.Pattern n.name p)) b [] i.second in
    let s = pattern_at i.mid p.x p.mid p.first in
    shown (Name (codes "pattern") ∷ ts) (body.Pattern n.name p.x) b p.mid
    (λ z. ap (λ us. Name (codes "pattern") ∷ us) (n.front ∙ ap (λ us. Name n.name ∷ us) (i.front ∙ ap (λ us. Name is_word ∷ us) (pattern_end p.x i.mid p.mid s.spelled z))))
    s.proper p.second

ops_sound : (ts : List Token) (ops : List (List ℕ)) (r : List Token) → read_ops ts ≡ reads ops r → ts ≡ listed comma name_toks ops ++ r
unfolding read_ops
ops_sound ts ops r h = by (cases_Bool (begins_ops ts))
  where
    by : (begins_ops ts ≡ true) ⊎ (begins_ops ts ≡ false) → ts ≡ listed comma name_toks ops ++ r
    by (inl e) = let s = items_sound comma any_name name_toks Always name_sound ts ops r (rw e at h) in s.spelled
    by (inr e) = let s = as_read {spell = listed comma name_toks} {P = Always} {ts = ts} [] ops ts r (rw e at h) (record { spelled = refl; proper = tt }) in s.spelled

type_sound : (ts : List Token) (o : Option (List ℕ)) (r : List Token) → read_type ts ≡ reads o r → ts ≡ type_toks o ++ r
unfolding read_type
type_sound ts o r h = by (cases_Bool (begins colon ts))
  where
    by : (begins colon ts ≡ true) ⊎ (begins colon ts ≡ false) → ts ≡ type_toks o ++ r
    by (inl e) =
        let n = past_name (λ name. give (Some name)) (drop 1 ts) o r (rw e at h) in
        let s = as_read {spell = type_toks} {P = Always} {ts = ts} (Some n.name) o n.mid r n.second (record { spelled = at_sign colon ts e ∙ ap (λ us. Sign colon ∷ us) n.front; proper = tt }) in
        s.spelled
    by (inr e) = let s = as_read {spell = type_toks} {P = Always} {ts = ts} None o ts r (rw e at h) (record { spelled = refl; proper = tt }) in s.spelled

constructor_sound : (ts : List Token) (b : SledBody) → read_constructor ts ≡ reads b [] → LineShown (Name (codes "constructor") ∷ ts) b
unfolding read_constructor
constructor_sound ts b h =
    let n = past_name (λ name. read_ops >>= (λ ops. read_type >>= (λ of_type. this_name is_word >>= (λ _. read_pattern >>= (λ p. give (body.Constructor name ops of_type p)))))) ts b [] h in
    let o = through (read_ops n.mid) (λ ops. read_type >>= (λ of_type. this_name is_word >>= (λ _. read_pattern >>= (λ p. give (body.Constructor n.name ops of_type p))))) b [] n.second in
    let t = through (read_type o.mid) (λ of_type. this_name is_word >>= (λ _. read_pattern >>= (λ p. give (body.Constructor n.name o.x of_type p)))) b [] o.second in
    let i = past_this is_word (read_pattern >>= (λ p. give (body.Constructor n.name o.x t.x p))) t.mid b [] t.second in
    let p = through (read_pattern i.mid) (λ p. give (body.Constructor n.name o.x t.x p)) b [] i.second in
    let s = pattern_at i.mid p.x p.mid p.first in
    shown (Name (codes "constructor") ∷ ts) (body.Constructor n.name o.x t.x p.x) b p.mid
    (λ z. ap (λ us. Name (codes "constructor") ∷ us) (n.front ∙ ap (λ us. Name n.name ∷ us) (ops_sound n.mid o.x o.mid o.first ∙ ap (λ us. listed comma name_toks o.x ++ us) (type_sound o.mid t.x t.mid t.first ∙ ap (λ us. type_toks t.x ++ us) (i.front ∙ ap (λ us. Name is_word ∷ us) (pattern_end p.x i.mid p.mid s.spelled z))))))
    s.proper p.second

named_so : (x w : List ℕ) (ts : List Token) (b : SledBody) → x ≡ w → LineShown (Name w ∷ ts) b → LineShown (Name x ∷ ts) b
named_so x w ts b e s = subst (λ y. LineShown (Name y ∷ ts) b) (sym e) s

spelled_so : (x w : List ℕ) → bytes_eq x w ≡ true → x ≡ w
spelled_so x w e = (bytes_eq-Decides x w).0 e

behind_sound : (x : List ℕ) (ts : List Token) (b : SledBody) → read_behind x ts ≡ reads b [] → LineShown (Name x ∷ ts) b
unfolding read_behind
behind_sound x ts b h = by (cases_Bool (bytes_eq x (codes "order"))) (cases_Bool (bytes_eq x (codes "fields"))) (cases_Bool (bytes_eq x (codes "pattern"))) (cases_Bool (bytes_eq x (codes "constructor")))
  where
    by : (bytes_eq x (codes "order") ≡ true) ⊎ (bytes_eq x (codes "order") ≡ false) → (bytes_eq x (codes "fields") ≡ true) ⊎ (bytes_eq x (codes "fields") ≡ false) → (bytes_eq x (codes "pattern") ≡ true) ⊎ (bytes_eq x (codes "pattern") ≡ false) → (bytes_eq x (codes "constructor") ≡ true) ⊎ (bytes_eq x (codes "constructor") ≡ false) → LineShown (Name x ∷ ts) b
    by (inl o) f p c = named_so x (codes "order") ts b (spelled_so x (codes "order") o) (order_sound ts b (rw o at h))
    by (inr o) (inl f) p c = named_so x (codes "fields") ts b (spelled_so x (codes "fields") f) (token_sound ts b (rw (o, f) at h))
    by (inr o) (inr f) (inl p) c = named_so x (codes "pattern") ts b (spelled_so x (codes "pattern") p) (named_sound ts b (rw (o, f, p) at h))
    by (inr o) (inr f) (inr p) (inl c) = named_so x (codes "constructor") ts b (spelled_so x (codes "constructor") c) (constructor_sound ts b (rw (o, f, p, c) at h))
    by (inr o) (inr f) (inr p) (inr c) = never b [] (rw (o, f, p, c) at h)

-- what is read as a line to its end was spelled by it
pub body_sound : (ts : List Token) (b : SledBody) → read_body ts ≡ reads b [] → LineShown ts b
unfolding read_body
body_sound ts b h =
    let n = past_name read_behind ts b [] h in
    subst (λ us. LineShown us b) (sym n.front) (behind_sound n.name n.mid b n.second)
