-- The words with which lines begin.
use Rattle.std.specs.Prelude.{ℕ, List, [], ◌∷◌, codes}
use Rattle.line_reading.specs.Spelling.{word_among}
use Rattle.conv_syntax.specs.declared.words.LineWord.{LineWord}
use Rattle.conv_syntax.specs.declared.words.LineWord.TheVariants.{Elf, Stack, Heap, Service, Exit, Read, Write, Brk, Errors, Link, Call, Return, Entry, Whole, Pad, Args, Other}

-- the letters of a word
abbrev pub word_bytes : LineWord → List ℕ
word_bytes Elf = codes "elf"
word_bytes Stack = codes "stack"
word_bytes Heap = codes "heap"
word_bytes Service = codes "service"
word_bytes Exit = codes "exit"
word_bytes Read = codes "read"
word_bytes Write = codes "write"
word_bytes Brk = codes "brk"
word_bytes Errors = codes "errors"
word_bytes Link = codes "link"
word_bytes Call = codes "call"
word_bytes Return = codes "return"
word_bytes Entry = codes "entry"
word_bytes Whole = codes "whole"
word_bytes Pad = codes "pad"
word_bytes Args = codes "args"
word_bytes Other = []

abbrev pub line_words : List LineWord
line_words = Elf ∷ Stack ∷ Heap ∷ Service ∷ Exit ∷ Read ∷ Write ∷ Brk ∷ Errors ∷ Link ∷ Call ∷ Return ∷ Entry ∷ Whole ∷ Pad ∷ Args ∷ []

-- which word a name is, or Other
unfoldable pub line_word : List ℕ → LineWord
line_word name = word_among word_bytes Other line_words name
