-- Which commands are there, and the files of each.
use Rattle.std.specs.Prelude.{ℕ, List, [], ◌∷◌, ◌++◌, Option, Some, None, option_map}
use Rattle.std.specs.Option.{option_and_then}
use Rattle.command_words.specs.Forms.{Texts, Files, Command, Translate, Run, RunC, Both, Versus, ListAll, Check, Sample, Text, form_of}
use Rattle.uqbt_top.specs.Wanted.{Wanted}
use Rattle.uqbt_top.specs.Shipping.{shipped_text}
use Rattle.uqbt_top.specs.declared.outcome.FileName.TheVariants.{Sled, Ssl, Conv, Exe, Prog}

-- the commands that are there; any other is told as Usage, and `text` for a name under which nothing is shipped
abbrev pub there : Command → Option Command
there (Translate files) = Some (Translate files)
there (Run files steps) = Some (Run files steps)
there (Check texts) = Some (Check texts)
there (Text name) = option_map (λ text. Text name) (shipped_text name)
there command = None

-- the command that words ask for
abbrev pub command_of : List (List ℕ) → Option Command
command_of words = option_and_then there (form_of words)

-- the three descriptions
abbrev pub three_files : Texts → List Wanted
three_files t = record { file = Sled; name = t.sled } ∷ record { file = Ssl; name = t.ssl } ∷ record { file = Conv; name = t.conv } ∷ []

-- the descriptions and the executable
abbrev pub four_files : Files → List Wanted
four_files f =
    record { file = Sled; name = f.sled } ∷ record { file = Ssl; name = f.ssl }
    ∷ record { file = Conv; name = f.conv } ∷ record { file = Exe; name = f.exe } ∷ []

-- a C text
abbrev pub prog_file : List ℕ → List Wanted
prog_file name = record { file = Prog; name = name } ∷ []

-- the files of a command, in the order of the words
abbrev pub files_of : Command → List Wanted
files_of (Translate files) = four_files files
files_of (Run files steps) = four_files files
files_of (RunC prog steps) = prog_file prog
files_of (Both files steps) = four_files files
files_of (Versus files prog steps) = four_files files ++ prog_file prog
files_of (ListAll files) = four_files files
files_of (Check texts) = three_files texts
files_of (Sample kind number count) = []
files_of (Text name) = []
