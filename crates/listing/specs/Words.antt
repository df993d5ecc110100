-- What the words of a line stand for.
use Rattle.std.specs.Prelude.{ℕ, List}
use Rattle.std.specs.Fmt.{decimal}
use Rattle.c_text.specs.Words.{hex}
use Rattle.listing.specs.declared.words.Word.{Word}
use Rattle.listing.specs.declared.words.Word.TheVariants.{Letters, Address, Count, Cells}
use Rattle.listing.specs.Lists.{cells, spaced}

-- the bytes of a word
abbrev pub word_text : Word → List ℕ
word_text (Letters letters) = letters.now
word_text (Address a) = hex a
word_text (Count n) = decimal n
word_text (Cells cs) = cells cs.now

-- and a blank before it
abbrev pub word_behind : Word → List ℕ
word_behind w = spaced (word_text w)

-- an address behind a blank
abbrev pub address_behind : ℕ → List ℕ
address_behind a = spaced (hex a)
