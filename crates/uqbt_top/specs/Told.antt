-- How faults are told: a word, and the numbers behind it.
use Rattle.std.specs.Prelude.{ℕ, List, [], ◌++◌, codes, decimal}
use Rattle.c_text.specs.Words.{hex}
use Rattle.text_lex.specs.declared.token.LexFault.{LexFault}
use Rattle.text_lex.specs.declared.token.LexFault.TheVariants as lexical
use Rattle.sled_rules.specs.declared.fault.SledFault.{SledFault}
use Rattle.sled_rules.specs.declared.fault.SledFault.TheVariants as sled
use Rattle.ssl_rules.specs.declared.fault.SslFault.{SslFault}
use Rattle.ssl_rules.specs.declared.fault.SslFault.TheVariants as ssl
use Rattle.conventions.specs.declared.fault.ConvFault.{ConvFault}
use Rattle.conventions.specs.declared.fault.ConvFault.TheVariants as conv
use Rattle.descriptions.specs.declared.fault.DescFault.{DescFault}
use Rattle.descriptions.specs.declared.fault.DescFault.TheVariants.{Lex, BadLine, Sled, Ssl, Conv}
use Rattle.elf32.specs.declared.fault.ElfFault.{ElfFault}
use Rattle.elf32.specs.declared.fault.ElfFault.TheVariants as elf
use Rattle.rtl_core.specs.declared.stop.Stop.{Stop}
use Rattle.rtl_core.specs.declared.stop.Stop.TheVariants as stop
use Rattle.uqbt_top.specs.declared.outcome.ExeFault.{ExeFault}
use Rattle.uqbt_top.specs.declared.outcome.ExeFault.TheVariants.{Elf, AreaOverlap, TooLarge}
use Rattle.uqbt_top.specs.declared.told.Told.{Told}
use Rattle.uqbt_top.specs.declared.told.Numbers.{Numbers}
use Rattle.uqbt_top.specs.declared.told.Numbers.TheVariants.{Nothing, One, Three, Address}

-- a number behind a blank
abbrev pub behind : ℕ → List ℕ
behind n = codes " " ++ decimal n

-- a word alone, with a number, with three, and with an address
abbrev pub said : List ℕ → List ℕ
said word = word

abbrev pub said_with : List ℕ → ℕ → List ℕ
said_with word n = word ++ behind n

abbrev pub said_widths : List ℕ → ℕ → ℕ → ℕ → List ℕ
said_widths word n left right = word ++ (behind n ++ (behind left ++ behind right))

abbrev pub said_at : List ℕ → ℕ → List ℕ
said_at word a = word ++ (codes " 0x" ++ hex a)

-- ---- descriptions

abbrev pub lexical_words : LexFault → List ℕ
lexical_words (lexical.BadByte n) = said_with (codes "bad-byte") n
lexical_words (lexical.LongLine n) = said_with (codes "long-line") n
lexical_words lexical.ManyLines = said (codes "many-lines")
lexical_words lexical.NoMemory = said (codes "no-memory")

abbrev pub sled_words : SledFault → List ℕ
sled_words (sled.Unknown n) = said_with (codes "unknown") n
sled_words (sled.Twice n) = said_with (codes "twice") n
sled_words (sled.FieldRange n) = said_with (codes "field-range") n
sled_words (sled.TokenMixed n) = said_with (codes "token-mixed") n
sled_words (sled.TypeOrder n) = said_with (codes "type-order") n
sled_words (sled.TooManyOperands n) = said_with (codes "too-many-operands") n
sled_words (sled.TooMany n) = said_with (codes "too-many") n
sled_words sled.NoMemory = said (codes "no-memory")

abbrev pub ssl_words : SslFault → List ℕ
ssl_words (ssl.Unknown n) = said_with (codes "unknown") n
ssl_words (ssl.Twice n) = said_with (codes "twice") n
ssl_words (ssl.TooMany n) = said_with (codes "too-many") n
ssl_words (ssl.OperandCount n) = said_with (codes "operand-count") n
ssl_words (ssl.IndexRange n) = said_with (codes "index-range") n
ssl_words (ssl.NotPlace n) = said_with (codes "not-place") n
ssl_words (ssl.WidthDiffers n l r) = said_widths (codes "width-differs") n l r
ssl_words (ssl.TwoJumps n) = said_with (codes "two-jumps") n
ssl_words (ssl.TooWide n) = said_with (codes "too-wide") n
ssl_words (ssl.Missing c) = said_with (codes "missing") c
ssl_words ssl.NoMemory = said (codes "no-memory")

abbrev pub conv_words : ConvFault → List ℕ
conv_words (conv.Unknown n) = said_with (codes "unknown") n
conv_words (conv.Twice n) = said_with (codes "twice") n
conv_words (conv.FieldRange n) = said_with (codes "field-range") n
conv_words (conv.WidthDiffers n l r) = said_widths (codes "width-differs") n l r
conv_words (conv.Missing kind) = said_with (codes "missing") kind
conv_words conv.NoMemory = said (codes "no-memory")

abbrev pub desc_words : DescFault → List ℕ
desc_words (Lex fault) = lexical_words fault
desc_words (BadLine n) = said_with (codes "bad-line") n
desc_words (Sled fault) = sled_words fault
desc_words (Ssl fault) = ssl_words fault
desc_words (Conv fault) = conv_words fault

-- ---- executables

abbrev pub elf_words : ElfFault → List ℕ
elf_words elf.Short = said (codes "short")
elf_words elf.Magic = said (codes "magic")
elf_words elf.Class = said (codes "class")
elf_words elf.Order = said (codes "order")
elf_words (elf.FileType n) = said_with (codes "file-type") n
elf_words (elf.MachineKind n) = said_with (codes "machine-kind") n
elf_words elf.HeadersCut = said (codes "headers-cut")
elf_words (elf.Interp n) = said_with (codes "interp") n
elf_words (elf.SegmentCut n) = said_with (codes "segment-cut") n
elf_words (elf.SegmentSizes n) = said_with (codes "segment-sizes") n
elf_words (elf.SegmentRange n) = said_with (codes "segment-range") n
elf_words (elf.SegmentOverlap n) = said_with (codes "segment-overlap") n
elf_words elf.NoLoad = said (codes "no-load")
elf_words (elf.ImageTooLarge n) = said_with (codes "image-too-large") n
elf_words (elf.EntryOutside a) = said_at (codes "entry-outside") a
elf_words elf.NoMemory = said (codes "no-memory")

abbrev pub exe_words : ExeFault → List ℕ
exe_words (Elf fault) = elf_words fault
exe_words (AreaOverlap n) = said_with (codes "area-overlap") n
exe_words (TooLarge n) = said_with (codes "too-large") n

-- ---- stops

abbrev pub stop_words : Stop → List ℕ
stop_words (stop.Exit status) = said_with (codes "exit") status
stop_words (stop.Illegal a) = said_at (codes "illegal") a
stop_words (stop.MemoryFault a) = said_at (codes "memory") a
stop_words (stop.Misaligned a) = said_at (codes "misaligned") a
stop_words (stop.Divide a) = said_at (codes "divide") a
stop_words (stop.Trap n) = said_with (codes "trap") n
stop_words stop.WindowFull = said (codes "window-full")
stop_words stop.WindowEmpty = said (codes "window-empty")
stop_words (stop.Undiscovered a) = said_at (codes "undiscovered") a
stop_words (stop.ReturnMismatch a) = said_at (codes "return-mismatch") a
stop_words stop.CallDepth = said (codes "call-depth")
stop_words (stop.Couple a) = said_at (codes "couple") a
stop_words (stop.Undefined item) = said_with (codes "undefined") item

-- ---- as the code keeps them

abbrev pub number_words : Numbers → List ℕ
number_words Nothing = []
number_words (One n) = behind n
number_words (Three n l r) = behind n ++ (behind l ++ behind r)
number_words (Address a) = codes " 0x" ++ hex a

abbrev pub told_words : Told → List ℕ
told_words t = t.word.now ++ number_words t.numbers
