-- The nine forms of words.
use Rattle.std.specs.Prelude.{ℕ, List, [], ◌∷◌, codes, if◌then◌else◌, Option, Some, None, option_map}
use Rattle.std.specs.Option.{option_and_then}
use Rattle.std.specs.Str.{bytes_eq}
use Rattle.command_words.specs.Numbers.{steps_of, number_of, count_of}
use Rattle.command_words.specs.declared.asked.Kind.{Kind}
use Rattle.command_words.specs.declared.asked.Kind.TheVariants.{Sparc, I386}
use Rattle.command_words.specs.declared.asked.TextWords.{TextWords}
use Rattle.command_words.specs.declared.asked.FileWords.{FileWords}
use Rattle.command_words.specs.declared.asked.Command.{Command as Asked}
use Rattle.command_words.specs.declared.asked.Command.TheVariants as asked

-- the names of the files of three descriptions
pub record Texts : Type 0 where
  pub sled : List ℕ
  pub ssl : List ℕ
  pub conv : List ℕ

-- those of three descriptions and an executable
pub record Files : Type 0 where
  pub sled : List ℕ
  pub ssl : List ℕ
  pub conv : List ℕ
  pub exe : List ℕ

-- a command, with its files, its steps, and the rest of its words
pub data Command : Type 0 where
  Translate : (files : Files) → Command
  Run : (files : Files) (steps : ℕ) → Command
  RunC : (prog : List ℕ) (steps : ℕ) → Command
  Both : (files : Files) (steps : ℕ) → Command
  Versus : (files : Files) (prog : List ℕ) (steps : ℕ) → Command
  ListAll : (files : Files) → Command
  Check : (texts : Texts) → Command
  Sample : (kind : Kind) (number count : ℕ) → Command
  Text : (name : List ℕ) → Command

-- `text NAME`
abbrev pub with_name : List ℕ → List ℕ → Option Command
with_name word name = if bytes_eq word (codes "text") then Some (Text name) else None

-- `runc PROG N`
abbrev pub with_prog : List ℕ → List ℕ → List ℕ → Option Command
with_prog word prog steps = if bytes_eq word (codes "runc") then option_map (RunC prog) (steps_of steps) else None

-- `sparc` or `i386`
abbrev pub kind_of : List ℕ → Option Kind
kind_of word = if bytes_eq word (codes "sparc") then Some Sparc else if bytes_eq word (codes "i386") then Some I386 else None

-- KIND NUMBER COUNT
abbrev pub sample_of : List ℕ → List ℕ → List ℕ → Option Command
sample_of kind number count =
    option_and_then (λ k. option_and_then (λ n. option_map (Sample k n) (count_of count)) (number_of number)) (kind_of kind)

-- `check SLED SSL CONV` or `sample KIND NUMBER COUNT`
abbrev pub with_three : List ℕ → List ℕ → List ℕ → List ℕ → Option Command
with_three word a b c =
    if bytes_eq word (codes "check") then Some (Check (record { sled = a; ssl = b; conv = c }))
    else if bytes_eq word (codes "sample") then sample_of a b c else None

-- `translate SLED SSL CONV EXE` or `list SLED SSL CONV EXE`
abbrev pub with_files : List ℕ → Files → Option Command
with_files word files =
    if bytes_eq word (codes "translate") then Some (Translate files)
    else if bytes_eq word (codes "list") then Some (ListAll files) else None

-- `run SLED SSL CONV EXE N` or `both SLED SSL CONV EXE N`
abbrev pub with_steps : List ℕ → Files → List ℕ → Option Command
with_steps word files steps =
    if bytes_eq word (codes "run") then option_map (Run files) (steps_of steps)
    else if bytes_eq word (codes "both") then option_map (Both files) (steps_of steps) else None

-- `versus SLED SSL CONV EXE PROG N`
abbrev pub with_rival : List ℕ → Files → List ℕ → List ℕ → Option Command
with_rival word files prog steps = if bytes_eq word (codes "versus") then option_map (Versus files prog) (steps_of steps) else None

-- what words ask for
abbrev pub form_of : List (List ℕ) → Option Command
form_of (word ∷ name ∷ []) = with_name word name
form_of (word ∷ prog ∷ steps ∷ []) = with_prog word prog steps
form_of (word ∷ a ∷ b ∷ c ∷ []) = with_three word a b c
form_of (word ∷ sled ∷ ssl ∷ conv ∷ exe ∷ []) = with_files word (record { sled = sled; ssl = ssl; conv = conv; exe = exe })
form_of (word ∷ sled ∷ ssl ∷ conv ∷ exe ∷ steps ∷ []) = with_steps word (record { sled = sled; ssl = ssl; conv = conv; exe = exe }) steps
form_of (word ∷ sled ∷ ssl ∷ conv ∷ exe ∷ prog ∷ steps ∷ []) =
    with_rival word (record { sled = sled; ssl = ssl; conv = conv; exe = exe }) prog steps
form_of _ = None

-- ---- as the code keeps them

abbrev pub text_names : TextWords → Texts
text_names t = record { sled = t.sled.now; ssl = t.ssl.now; conv = t.conv.now }

abbrev pub file_names : FileWords → Files
file_names f = record { sled = f.sled.now; ssl = f.ssl.now; conv = f.conv.now; exe = f.exe.now }

-- a command of the code
abbrev pub as_command : Asked → Command
as_command (asked.Translate f) = Translate (file_names f)
as_command (asked.Run f n) = Run (file_names f) n
as_command (asked.RunC p n) = RunC p.now n
as_command (asked.Both f n) = Both (file_names f) n
as_command (asked.Versus f p n) = Versus (file_names f) p.now n
as_command (asked.ListAll f) = ListAll (file_names f)
as_command (asked.Check t) = Check (text_names t)
as_command (asked.Sample k n c) = Sample k n c
as_command (asked.Text name) = Text name.now
