-- Sizes within the limits.
use Rattle.std.proofs.Common.{◌≡◌, ℕ, ◌≤◌, ◌||◌, Bool, true, false, ltb, max, min, List, [], ◌∷◌, length, fold, refl, sym, ap, ◌∙◌, arith}
use Rattle.std.proofs.lemmas.Bool.Decides.{nat_tests}
use Rattle.std.specs.List.{list_any}
use Rattle.rtl_core.specs.declared.encodings.Item.{Item}
use Rattle.rtl_core.specs.declared.encodings.Coded.{Coded}
use Rattle.rtl_core.specs.SoundEncodings.{list_size}
use Rattle.sled_syntax.specs.declared.line.SledPattern.{SledPattern}
use Rattle.sled_rules.specs.declared.facts.Facts.{Facts}
use Rattle.sled_rules.specs.declared.meaning.Start.{Start}
use Rattle.sled_rules.specs.declared.known.Known.{Known}
use Rattle.sled_rules.specs.declared.known.Size.{Size}
use Rattle.sled_rules.specs.Sizes.{bytes_of, is_long, longest, most_of}
use Rattle.sled_rules.specs.Known.{size_of}
use Rattle.sled_rules.specs.Starts.{pattern_start}
use Rattle.sled_rules.proofs.LineLaws.{not_over}
use Rattle.sled_rules.proofs.TakenLaws.{or_false}

longest_under : (facts : List Facts) (a : ℕ) (xs : List (List Item)) → a ≤ 32 → list_any (is_long facts) xs ≡ false → fold (λ most items. max most (bytes_of facts items)) a xs ≤ 32
longest_under facts a [] h n = h
longest_under facts a (x ∷ xs) h n =
    let both = or_false (is_long facts x) (list_any (is_long facts) xs) n in
    let parts = or_false (ltb 16 (length x)) (ltb 32 (bytes_of facts x)) both.0 in
    let short : bytes_of facts x ≤ 32 = not_over 32 (bytes_of facts x) parts.1 in
    longest_under facts (max a (bytes_of facts x)) xs (omega arith) both.1

pub size_is : (k : Known) (p : SledPattern) (c : Coded) (start : Start) (numbers bytes : ℕ) → start ≡ pattern_start k.names k.facts p
    → numbers ≡ min (list_size (most_of k.facts) c.kinds) 9 → bytes ≡ min (longest k.facts c.alternatives) 33 → list_size (most_of k.facts) c.kinds ≤ 8
    → list_any (is_long k.facts) c.alternatives ≡ false → record { start = start; numbers = numbers; bytes = bytes } ≡ size_of p c k
size_is k p c start numbers bytes s n b few short =
    let most : longest k.facts c.alternatives ≤ 32 = longest_under k.facts 0 c.alternatives (omega arith) short in
    let n' : numbers ≡ list_size (most_of k.facts) c.kinds = omega arith in
    let b' : bytes ≡ longest k.facts c.alternatives = omega arith in
    rw (s, n', b') refl
