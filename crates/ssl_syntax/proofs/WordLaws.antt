-- What a name is that is a reserved word.
use Rattle.std.proofs.Common.{◌≡◌, ℕ, Bool, true, false, ◌&&◌, ◌||◌, nat_eq, List, [], ◌∷◌, refl, sym, ap, ◌∙◌, subst, ◌⊎◌, inl, inr}
use Rattle.std.specs.List.{list_all}
use Rattle.std.specs.Str.{bytes_eq}
use Rattle.std.proofs.lemmas.Bool.{cases_Bool, eqb-true, true≢false, and_parts, or_cases}
use Rattle.std.proofs.lemmas.Slice.Eq.{bytes_eq-Decides}
use Rattle.ssl_syntax.specs.declared.words.Word.{Word}
use Rattle.ssl_syntax.specs.declared.words.Word.TheVariants.{Load, Zext, Sext, Bits, If, Jump, Annul, Trap, Service, WinSave, WinRestore, Nothing, Plain}
use Rattle.ssl_syntax.specs.Words.{is_load, load_word, word_bytes, expr_words, act_words, act_word, word_of, is_plain, is_free}
use Rattle.line_reading.specs.Spelling.{word_among}

-- where the test holds of four numbers, so does what holds of these
four_loads : (P : ℕ → Type 0) (n : ℕ) → is_load n ≡ true → P 8 → P 16 → P 32 → P 64 → P n
four_loads P n h a b c d = first (or_cases _ _ h)
  where
    at : (k : ℕ) → P k → nat_eq n k ≡ true → P n
    at k p e = subst P (sym (eqb-true n k e)) p

    third : (nat_eq n 32 ≡ true) ⊎ (nat_eq n 64 ≡ true) → P n
    third (inl e) = at 32 c e
    third (inr e) = at 64 d e

    second : (nat_eq n 16 ≡ true) ⊎ ((nat_eq n 32 || nat_eq n 64) ≡ true) → P n
    second (inl e) = at 16 b e
    second (inr e) = third (or_cases _ _ e)

    first : (nat_eq n 8 ≡ true) ⊎ ((nat_eq n 16 || (nat_eq n 32 || nat_eq n 64)) ≡ true) → P n
    first (inl e) = at 8 a e
    first (inr e) = second (or_cases _ _ e)

pub word-Load : (n : ℕ) → is_load n ≡ true → word_of (load_word n) ≡ Load n
unfolding word_of act_word
word-Load n h = four_loads (λ n. word_of (load_word n) ≡ Load n) n h refl refl refl refl

pub word-Bits : word_of (word_bytes Bits) ≡ Bits
unfolding word_of act_word
word-Bits = refl

pub word-Zext : word_of (word_bytes Zext) ≡ Zext
unfolding word_of act_word
word-Zext = refl

pub word-Sext : word_of (word_bytes Sext) ≡ Sext
unfolding word_of act_word
word-Sext = refl

pub word-If : word_of (word_bytes If) ≡ If
unfolding word_of act_word
word-If = refl

pub word-Jump : word_of (word_bytes Jump) ≡ Jump
unfolding word_of act_word
word-Jump = refl

pub word-Annul : word_of (word_bytes Annul) ≡ Annul
unfolding word_of act_word
word-Annul = refl

pub word-Trap : word_of (word_bytes Trap) ≡ Trap
unfolding word_of act_word
word-Trap = refl

pub word-Service : word_of (word_bytes Service) ≡ Service
unfolding word_of act_word
word-Service = refl

pub word-WinSave : word_of (word_bytes WinSave) ≡ WinSave
unfolding word_of act_word
word-WinSave = refl

pub word-WinRestore : word_of (word_bytes WinRestore) ≡ WinRestore
unfolding word_of act_word
word-WinRestore = refl

pub word-Nothing : word_of (word_bytes Nothing) ≡ Nothing
unfolding word_of act_word
word-Nothing = refl

is_the_plain : (w : Word) → is_plain w ≡ true → w ≡ Plain
is_the_plain (Load n) h = absurd (true≢false (sym h))
is_the_plain Zext h = absurd (true≢false (sym h))
is_the_plain Sext h = absurd (true≢false (sym h))
is_the_plain Bits h = absurd (true≢false (sym h))
is_the_plain If h = absurd (true≢false (sym h))
is_the_plain Jump h = absurd (true≢false (sym h))
is_the_plain Annul h = absurd (true≢false (sym h))
is_the_plain Trap h = absurd (true≢false (sym h))
is_the_plain Service h = absurd (true≢false (sym h))
is_the_plain WinSave h = absurd (true≢false (sym h))
is_the_plain WinRestore h = absurd (true≢false (sym h))
is_the_plain Nothing h = absurd (true≢false (sym h))
is_the_plain Plain h = refl

pub free_plain : (x : List ℕ) → is_free x ≡ true → word_of x ≡ Plain
unfolding is_free
free_plain x h = is_the_plain (word_of x) h

pub plain_free : (x : List ℕ) → word_of x ≡ Plain → is_free x ≡ true
unfolding is_free
plain_free x h = ap is_plain h

-- what is found is the name's word, and a load has bits that a load can have
IsWord : List ℕ → Word → Type 0
IsWord x Plain = Unit {0}
IsWord x (Load n) = (x ≡ load_word n) × (is_load n ≡ true)
IsWord x w = x ≡ word_bytes w

abbrev is_known : Word → Bool
is_known (Load n) = is_load n
is_known _ = true

as_word : (x : List ℕ) (w : Word) → is_known w ≡ true → x ≡ word_bytes w → IsWord x w
unfolding IsWord
as_word x (Load n) k h = (h, k)
as_word x Zext k h = h
as_word x Sext k h = h
as_word x Bits k h = h
as_word x If k h = h
as_word x Jump k h = h
as_word x Annul k h = h
as_word x Trap k h = h
as_word x Service k h = h
as_word x WinSave k h = h
as_word x WinRestore k h = h
as_word x Nothing k h = h
as_word x Plain k h = tt

among_is : (x : List ℕ) (other : Word) (ws : List Word) → list_all is_known ws ≡ true → IsWord x other → IsWord x (word_among word_bytes other ws x)
among_is x other [] k h = h
among_is x other (w ∷ ws) k h = by (cases_Bool (bytes_eq x (word_bytes w))) (among_is x other ws (and_parts (is_known w) (list_all is_known ws) k).1 h)
  where
    by : (bytes_eq x (word_bytes w) ≡ true) ⊎ (bytes_eq x (word_bytes w) ≡ false) → IsWord x (word_among word_bytes other ws x) → IsWord x (word_among word_bytes other (w ∷ ws) x)
    by (inl e) rec = rw e (as_word x w (and_parts (is_known w) (list_all is_known ws) k).0 ((bytes_eq-Decides x (word_bytes w)).0 e))
    by (inr e) rec = rw e rec

word_is : (x : List ℕ) → IsWord x (word_of x)
unfolding word_of act_word IsWord
word_is x = among_is x (act_word x) expr_words refl (among_is x Plain act_words refl tt)

pub is-Load : (x : List ℕ) (n : ℕ) → word_of x ≡ Load n → (x ≡ load_word n) × (is_load n ≡ true)
unfolding IsWord
is-Load x n e = subst (λ w. IsWord x w) e (word_is x)

pub is-Bits : (x : List ℕ) → word_of x ≡ Bits → x ≡ word_bytes Bits
unfolding IsWord
is-Bits x e = subst (λ w. IsWord x w) e (word_is x)

pub is-Zext : (x : List ℕ) → word_of x ≡ Zext → x ≡ word_bytes Zext
unfolding IsWord
is-Zext x e = subst (λ w. IsWord x w) e (word_is x)

pub is-Sext : (x : List ℕ) → word_of x ≡ Sext → x ≡ word_bytes Sext
unfolding IsWord
is-Sext x e = subst (λ w. IsWord x w) e (word_is x)

pub is-If : (x : List ℕ) → word_of x ≡ If → x ≡ word_bytes If
unfolding IsWord
is-If x e = subst (λ w. IsWord x w) e (word_is x)

pub is-Jump : (x : List ℕ) → word_of x ≡ Jump → x ≡ word_bytes Jump
unfolding IsWord
is-Jump x e = subst (λ w. IsWord x w) e (word_is x)

pub is-Annul : (x : List ℕ) → word_of x ≡ Annul → x ≡ word_bytes Annul
unfolding IsWord
is-Annul x e = subst (λ w. IsWord x w) e (word_is x)

pub is-Trap : (x : List ℕ) → word_of x ≡ Trap → x ≡ word_bytes Trap
unfolding IsWord
is-Trap x e = subst (λ w. IsWord x w) e (word_is x)

pub is-Service : (x : List ℕ) → word_of x ≡ Service → x ≡ word_bytes Service
unfolding IsWord
is-Service x e = subst (λ w. IsWord x w) e (word_is x)

pub is-WinSave : (x : List ℕ) → word_of x ≡ WinSave → x ≡ word_bytes WinSave
unfolding IsWord
is-WinSave x e = subst (λ w. IsWord x w) e (word_is x)

pub is-WinRestore : (x : List ℕ) → word_of x ≡ WinRestore → x ≡ word_bytes WinRestore
unfolding IsWord
is-WinRestore x e = subst (λ w. IsWord x w) e (word_is x)

pub is-Nothing : (x : List ℕ) → word_of x ≡ Nothing → x ≡ word_bytes Nothing
unfolding IsWord
is-Nothing x e = subst (λ w. IsWord x w) e (word_is x)
