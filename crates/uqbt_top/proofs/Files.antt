-- How the reading of files goes on, and where it stops.
use Rattle.std.proofs.Common.{◌≡◌, ◌∙◌, List, [], ◌∷◌, ◌++◌, ℕ, ◌+◌, ◌<◌, refl, subst, ap, sym, length, get_or, map, take, drop, suc, drop-cons}
use Rattle.std.proofs.lemmas.List.{take-append-drop, take_more}
use Rattle.std.specs.Prelude.{Option}
use Rattle.edge_io.specs.Files.{Files, Names, IsFile}
use Rattle.uqbt_top.specs.Message.{limit_of}
use Rattle.uqbt_top.specs.Wanted.{Wanted, wanted, AreFiles, IsDue}
use Rattle.uqbt_top.specs.Causes.{FetchStopped, ReadStopped}
use Rattle.uqbt_top.specs.declared.reading.FileWord.{FileWord}
use Rattle.uqbt_top.specs.declared.outcome.Outcome.{Outcome}

-- a file behind those that were read
with_file : (told : Option Files) (ws : List Wanted) (texts : List (List ℕ)) (w : Wanted) (bytes : List ℕ)
    → AreFiles told ws texts → IsFile told w.name (limit_of w.file) bytes → AreFiles told (ws ++ w ∷ []) (texts ++ bytes ∷ [])
with_file told [] [] w bytes read file = (file, tt)
with_file told [] (t ∷ ts) w bytes read file = absurd read
with_file told (v ∷ vs) [] w bytes read file = absurd read
with_file told (v ∷ vs) (t ∷ ts) w bytes read file = (read.0, with_file told vs ts w bytes read.1 file)

wanted-append : (xs ys : List FileWord) → map wanted (xs ++ ys) ≡ map wanted xs ++ map wanted ys
wanted-append [] ys = refl
wanted-append (x ∷ xs) ys = ap (λ zs. wanted x ∷ zs) (wanted-append xs ys)

-- the file at i is due, where those before it were read
pub due_at : (told : Option Files) (words : List FileWord) (i : ℕ) (word : FileWord) (texts : List (List ℕ)) → i < length words
    → word ≡ get_or words i word → AreFiles told (map wanted (take i words)) texts → IsDue told (map wanted words) (wanted word)
due_at told words i word texts lt is read = record {
  before = map wanted (take i words);
  behind = map wanted (drop (suc i) words);
  whole = ap (map wanted) (sym (take-append-drop i words)) ∙ wanted-append (take i words) (drop i words)
      ∙ ap (λ ws. map wanted (take i words) ++ map wanted ws) (drop-cons words i word lt ∙ ap (λ w. w ∷ drop (suc i) words) (sym is));
  texts = texts;
  were_read = read;
}

-- the reading stopped where one of its fetches did
pub stopped_at : (told seen : Option Files) (all : List Wanted) (this : Wanted) (old mid new : Names) (e : Outcome) → seen ≡ told → mid ≡ old
    → IsDue told all this → FetchStopped seen this mid new e → ReadStopped told all old new e
stopped_at told seen all this old mid new e same kept due did = record {
  this = this;
  due = due;
  did = subst (λ n. FetchStopped told this n new e) kept (subst (λ t. FetchStopped t this mid new e) same did);
}

-- the files up to the one at i, and that one
pub read_on : (told : Option Files) (words : List FileWord) (i : ℕ) (word : FileWord) (texts : List (List ℕ)) (bytes : List ℕ) → i < length words
    → word ≡ get_or words i word → AreFiles told (map wanted (take i words)) texts → IsFile told word.name.now (limit_of word.file) bytes
    → AreFiles told (map wanted (take (i + 1) words)) (texts ++ bytes ∷ [])
read_on told words i word texts bytes lt is read file =
    let longer : map wanted (take (i + 1) words) ≡ map wanted (take i words) ++ wanted word ∷ [] =
    ap (map wanted) (take_more words i word lt ∙ ap (λ w. take i words ++ w ∷ []) (sym is)) ∙ wanted-append (take i words) (word ∷ []) in
    rw longer (with_file told (map wanted (take i words)) texts (wanted word) bytes read file)
