-- The reserved words of expressions and acts, and the words with which lines begin.
use Rattle.std.specs.Prelude.{ℕ, ◌==◌, ◌||◌, Bool, true, false, List, [], ◌∷◌, codes, if◌then◌else◌}
use Rattle.std.specs.Str.{bytes_eq}
use Rattle.ssl_syntax.specs.declared.words.LineWord.{LineWord}
use Rattle.ssl_syntax.specs.declared.words.LineWord.TheVariants as line
use Rattle.ssl_syntax.specs.declared.words.Word.{Word}
use Rattle.ssl_syntax.specs.declared.words.Word.TheVariants.{Load, Zext, Sext, Bits, If, Jump, Annul, Trap, Service, WinSave, WinRestore, Nothing, Plain}
use Rattle.line_reading.specs.Spelling.{word_among}

-- the bits that a load can have
abbrev pub is_load : ℕ → Bool
is_load bits = (bits == 8) || ((bits == 16) || ((bits == 32) || (bits == 64)))

-- `m8` to `m64`
abbrev pub load_word : ℕ → List ℕ
load_word bits = if bits == 8 then codes "m8" else (if bits == 16 then codes "m16" else (if bits == 32 then codes "m32" else codes "m64"))

-- the letters of a reserved word
abbrev pub word_bytes : Word → List ℕ
word_bytes (Load bits) = load_word bits
word_bytes Zext = codes "zx"
word_bytes Sext = codes "sx"
word_bytes Bits = codes "bits"
word_bytes If = codes "if"
word_bytes Jump = codes "jump"
word_bytes Annul = codes "annul"
word_bytes Trap = codes "trap"
word_bytes Service = codes "service"
word_bytes WinSave = codes "wsave"
word_bytes WinRestore = codes "wrestore"
word_bytes Nothing = codes "none"
word_bytes Plain = []

-- the words of expressions
abbrev pub expr_words : List Word
expr_words = Load 8 ∷ Load 16 ∷ Load 32 ∷ Load 64 ∷ Zext ∷ Sext ∷ Bits ∷ If ∷ []

-- the words of transfers
abbrev pub act_words : List Word
act_words = Jump ∷ Annul ∷ Trap ∷ Service ∷ WinSave ∷ WinRestore ∷ Nothing ∷ []

-- which word of transfers a name is, or Plain
unfoldable pub act_word : List ℕ → Word
act_word name = word_among word_bytes Plain act_words name

-- which reserved word a name is, or Plain
unfoldable pub word_of : List ℕ → Word
word_of name = word_among word_bytes (act_word name) expr_words name

abbrev pub is_plain : Word → Bool
is_plain Plain = true
is_plain _ = false

-- the name is no reserved word
unfoldable pub is_free : List ℕ → Bool
is_free name = is_plain (word_of name)

-- the first word of a line
abbrev pub line_bytes : LineWord → List ℕ
line_bytes line.Align = codes "align"
line_bytes line.Delay = codes "delay"
line_bytes line.Cell = codes "cell"
line_bytes line.Cells = codes "cells"
line_bytes line.View = codes "view"
line_bytes line.Zero = codes "zero"
line_bytes line.Windows = codes "windows"
line_bytes line.Function = codes "function"
line_bytes line.Operand = codes "operand"
line_bytes line.Instruction = codes "instruction"
line_bytes line.Other = []

abbrev pub line_words : List LineWord
line_words =
    line.Align ∷ line.Delay ∷ line.Cell ∷ line.Cells ∷ line.View ∷ line.Zero ∷ line.Windows ∷ line.Function ∷ line.Operand ∷ line.Instruction ∷ []

-- which word of lines a name is, or Other
unfoldable pub line_word : List ℕ → LineWord
line_word name = word_among line_bytes line.Other line_words name
