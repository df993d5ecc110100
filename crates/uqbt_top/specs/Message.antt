-- The number and the line of each answer, and the limits of the files.
use Rattle.std.specs.Prelude.{ℕ, ◌%◌, List, [], ◌∷◌, ◌++◌, codes, decimal, Option, Some}
use Rattle.uqbt_top.specs.declared.outcome.FileName.{FileName}
use Rattle.uqbt_top.specs.declared.outcome.FileName.TheVariants.{Sled, Ssl, Conv, Exe, Prog}
use Rattle.uqbt_top.specs.declared.outcome.Outcome.{Outcome}
use Rattle.uqbt_top.specs.declared.outcome.Outcome.TheVariants.{Done, Ran, Agreed, Differs, Spent, Usage, Description, Executable, InputTooLong, FileTooLong, NoMemory, WriteFault, ReadFault}
use Rattle.rtl_core.specs.declared.stop.Stop.{Stop}
use Rattle.rtl_core.specs.declared.stop.Stop.TheVariants as stop
use Rattle.uqbt_top.specs.Told.{desc_words, exe_words, said_with, stop_words}

-- the status of a stop: that of an exit modulo 256, else 32 and the number of the stop
abbrev pub stop_status : Stop → ℕ
stop_status (stop.Exit status) = status % 256
stop_status (stop.Illegal a) = 33
stop_status (stop.MemoryFault a) = 34
stop_status (stop.Misaligned a) = 35
stop_status (stop.Divide a) = 36
stop_status (stop.Trap n) = 37
stop_status stop.WindowFull = 38
stop_status stop.WindowEmpty = 39
stop_status (stop.Undiscovered a) = 40
stop_status (stop.ReturnMismatch a) = 41
stop_status stop.CallDepth = 42
stop_status (stop.Couple a) = 43
stop_status (stop.Undefined item) = 44

-- the status that the program ends with
abbrev pub status_of : Outcome → ℕ
status_of Done = 0
status_of (Ran s) = stop_status s
status_of (Agreed s) = stop_status s
status_of (Differs at) = 78
status_of Spent = 75
status_of InputTooLong = 68
status_of Usage = 64
status_of (Description file fault) = 65
status_of (Executable fault) = 67
status_of (FileTooLong file) = 68
status_of NoMemory = 71
status_of WriteFault = 73
status_of ReadFault = 74

-- the word for a file
abbrev pub file_word : FileName → List ℕ
file_word Sled = codes "sled"
file_word Ssl = codes "ssl"
file_word Conv = codes "conv"
file_word Exe = codes "exe"
file_word Prog = codes "prog"

-- the words for an answer
abbrev pub said_of : Outcome → List ℕ
said_of Done = codes "done"
said_of (Ran s) = codes "ran " ++ stop_words s
said_of (Agreed s) = codes "agreed " ++ stop_words s
said_of (Differs at) = said_with (codes "differs") at
said_of Spent = codes "spent"
said_of InputTooLong = codes "input-too-long"
said_of Usage = codes "usage"
said_of (Description file fault) = codes "description " ++ file_word file ++ codes " " ++ desc_words fault
said_of (Executable fault) = codes "executable " ++ exe_words fault
said_of (FileTooLong file) = codes "file-too-long " ++ file_word file
said_of NoMemory = codes "no-memory"
said_of WriteFault = codes "write-fault"
said_of ReadFault = codes "read-fault"

-- the line that tells an answer
abbrev pub line_of : Outcome → List ℕ
line_of outcome = codes "uqbt: " ++ said_of outcome ++ 10 ∷ []

-- the line of an agreement that tells the steps of the C too
abbrev pub agreed_line : Stop → ℕ → List ℕ
agreed_line s steps = codes "uqbt: agreed " ++ (stop_words s ++ (codes " steps " ++ (decimal steps ++ 10 ∷ [])))

-- what is told of an answer, and of the steps of the C where an agreement comes with them
abbrev pub message_of : Outcome → Option ℕ → List ℕ
message_of (Agreed s) (Some steps) = agreed_line s steps
message_of outcome steps = line_of outcome

-- pieces one after the other
abbrev pub joined : List (List ℕ) → List ℕ
joined [] = []
joined (piece ∷ pieces) = piece ++ joined pieces

-- the most bytes that a file may have
abbrev pub limit_of : FileName → ℕ
limit_of Sled = 4194304
limit_of Ssl = 4194304
limit_of Conv = 4194304
limit_of Exe = 16777216
limit_of Prog = 536870912
