-- The file that is told as too long is the first one over its limit.
use Rattle.std.proofs.Common.{◌≡◌, ◌∙◌, ◌⊎◌, inl, inr, List, [], ◌∷◌, ◌++◌, ℕ, ◌<◌, refl, ap, sym, subst, length, arith, length-append}
use Rattle.std.specs.Prelude.{Option, Some, None, IfSome, IsSomeAnd, MatchOption}
use Rattle.std.proofs.lemmas.Bool.{lt-ltb, le-ltb}
use Rattle.edge_io.specs.Files.{Files, IsFile, IsLonger}
use Rattle.uqbt_top.specs.Message.{limit_of}
use Rattle.uqbt_top.specs.Wanted.{Wanted, AreFiles}
use Rattle.command_words.specs.Forms.{Command}
use Rattle.uqbt_top.specs.Command.{command_of, files_of}
use Rattle.uqbt_top.specs.Causes.{Around, AllRead, CommandCaused, Caused}
use Rattle.uqbt_top.specs.Longest.{long_or, first_long, LongIsExact}
use Rattle.uqbt_top.specs.declared.outcome.FileName.{FileName}
use Rattle.uqbt_top.specs.declared.outcome.Outcome.{Outcome}
use Rattle.uqbt_top.specs.declared.outcome.Outcome.TheVariants.{Done, Ran, Agreed, Differs, Spent, Usage, Description, Executable, InputTooLong, FileTooLong, NoMemory, WriteFault, ReadFault}

-- a file that is there and within its limit is passed
passed_by : (files : Files) (w : Wanted) (bytes : List ℕ) (rest : Option FileName) → IsFile (Some files) w.name (limit_of w.file) bytes
    → long_or w.file (limit_of w.file) rest (files w.name) ≡ rest
passed_by files w bytes rest file = rw (file.named, le-ltb (limit_of w.file) (length bytes) file.within) refl

-- where all are within their limits there is none
none_long : (files : Files) (all : List Wanted) (texts : List (List ℕ)) → AreFiles (Some files) all texts → first_long files all ≡ None
none_long files [] [] read = refl
none_long files [] (t ∷ ts) read = absurd read
none_long files (w ∷ ws) [] read = absurd read
none_long files (w ∷ ws) (t ∷ ts) read = passed_by files w t (first_long files ws) read.0 ∙ none_long files ws ts read.1

-- a file over its limit is found
found_long : (file : FileName) (limit : ℕ) (rest : Option FileName) (o : Option (List ℕ)) → IsSomeAnd o (λ bytes. limit < length bytes)
    → long_or file limit rest o ≡ Some file
found_long file limit rest None longer = absurd longer
found_long file limit rest (Some bytes) longer = rw (lt-ltb limit (length bytes) longer) refl

-- behind files within their limits, one that is over its limit is the first
first_behind : (files : Files) (before : List Wanted) (texts : List (List ℕ)) (this : Wanted) (behind : List Wanted)
    → AreFiles (Some files) before texts → IsLonger (Some files) this.name (limit_of this.file)
    → first_long files (before ++ this ∷ behind) ≡ Some this.file
first_behind files [] [] this behind read longer =
    found_long this.file (limit_of this.file) (first_long files behind) (files this.name) longer
first_behind files [] (t ∷ ts) this behind read longer = absurd read
first_behind files (w ∷ ws) [] this behind read longer = absurd read
first_behind files (w ∷ ws) (t ∷ ts) this behind read longer =
    passed_by files w t (first_long files (ws ++ this ∷ behind)) read.0 ∙ first_behind files ws ts this behind read.1 longer

none_is_some : (file : FileName) → ◌≡◌ {A = Option FileName} None (Some file) → ⊥
none_is_some file h = cc

same_file : (x y : FileName) → ◌≡◌ {A = Option FileName} (Some x) (Some y) → x ≡ y
same_file x y h = cc

-- a list doesn't stay the same when a name is added
grows : (names : List (List ℕ)) (name : List ℕ) → names ++ name ∷ [] ≡ names → ⊥
grows names name same = omega (arith, ap length same, length-append names (name ∷ []))

-- what is said of the first file over its limit
abbrev Told : Outcome → FileName → Type 0
Told e file = (e ≡ FileTooLong file) ⊎ (e ≡ NoMemory)

-- an answer behind all files
by_reading : (files : Files) (command : Command) (a : Around) (e : Outcome) (file : FileName)
    → a.told ≡ Some files → AllRead command a e → first_long files (files_of command) ≡ Some file → Told e file
by_reading files command a e file told did is =
    let read = subst (λ t. AreFiles t (files_of command) did.bytes) told did.were_read in
    absurd (none_is_some file (sym (none_long files (files_of command) did.bytes read) ∙ is))

by_answer : (files : Files) (command : Command) (a : Around) (e : Outcome) (file : FileName)
    → a.told ≡ Some files → CommandCaused command a e → first_long files (files_of command) ≡ Some file → a.names'.failed ≡ a.names.failed → Told e file
by_answer files command a Done file told did is kept = by_reading files command a Done file told did is
by_answer files command a (Ran stop) file told did is kept = by_reading files command a (Ran stop) file told did is
by_answer files command a (Agreed stop) file told did is kept = by_reading files command a (Agreed stop) file told did is
by_answer files command a (Differs at) file told did is kept = by_reading files command a (Differs at) file told did is
by_answer files command a Spent file told did is kept = by_reading files command a Spent file told did is
by_answer files command a Usage file told did is kept = absurd did
by_answer files command a (FileTooLong f) file told did is kept =
    let all = files_of command in
    let stop = did.0 in
    let read = subst (λ t. AreFiles t stop.due.before stop.due.texts) told stop.due.were_read in
    let longer = subst (λ t. IsLonger t stop.this.name (limit_of stop.this.file)) told stop.did.1.longer in
    let found : first_long files all ≡ Some stop.this.file =
    ap (first_long files) stop.due.whole ∙ first_behind files stop.due.before stop.due.texts stop.this stop.due.behind read longer in
    inl (ap FileTooLong (stop.did.0 ∙ same_file stop.this.file file (sym found ∙ is)))
by_answer files command a (Description f fault) file told did is kept = by_reading files command a (Description f fault) file told did is
by_answer files command a (Executable fault) file told did is kept = by_reading files command a (Executable fault) file told did is
by_answer files command a InputTooLong file told did is kept = by_reading files command a InputTooLong file told did is
by_answer files command a NoMemory file told did is kept = inr refl
by_answer files command a WriteFault file told did is kept = by_reading files command a WriteFault file told did is
by_answer files command a ReadFault file told (inl files') is kept = absurd (grows a.names.failed files'.0.this.name (sym files'.0.did.failed ∙ kept))
by_answer files command a ReadFault file told (inr all) is kept = by_reading files command a ReadFault file told all is

if_some : {A : Type 0} (o : Option A) (P : A → Type 0) → ((x : A) → o ≡ Some x → P x) → IfSome o P
if_some None P each = tt
if_some (Some x) P each = each x refl

by_form : (told : Option Files) (form : Option Command) (a : Around) (e : Outcome) → a.told ≡ told
    → MatchOption form ((e ≡ Usage) × (a.names' ≡ a.names) × (a.input' ≡ a.input)) (λ command. CommandCaused command a e)
    → IfSome told (λ files. IfSome form (λ command. IfSome (first_long files (files_of command)) (λ file. a.names'.failed ≡ a.names.failed → Told e file)))
by_form None form a e same did = tt
by_form (Some files) None a e same did = tt
by_form (Some files) (Some command) a e same did =
    if_some (first_long files (files_of command)) _ (λ file is. by_answer files command a e file same did is)

-- the causes of the answers say it
pub exactly_long : (words : List (List ℕ)) (a : Around) (e : Outcome) → Caused words a e → LongIsExact a.told words a.names a.names' e
exactly_long words a e did = by_form a.told (command_of words) a e refl did
