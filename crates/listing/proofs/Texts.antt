-- Texts by their parts.
use Rattle.std.proofs.Common.{◌≡◌, ℕ, List, [], ◌∷◌, ◌++◌, length, map, refl, sym, ap, ◌∙◌, append_assoc}
use Rattle.std.proofs.lemmas.List.{append-nil}
use Rattle.std.specs.Prelude.{codes, Some, slice_get, option_to_list}
use Rattle.std.specs.List.{flat_map}
use Rattle.std.specs.Fmt.{decimal}
use Rattle.c_text.specs.Words.{hex}
use Rattle.points.specs.declared.graph.Graph.{Graph}
use Rattle.points.specs.declared.graph.JumpTable.{JumpTable}
use Rattle.points.specs.declared.graph.Node.{Node}
use Rattle.listing.specs.Lists.{spaced, table_line, node_text, place_text}
use Rattle.listing.specs.Words.{address_behind}

addresses : (ts : List ℕ) → flat_map spaced (map hex ts) ≡ flat_map address_behind ts
addresses [] = refl
addresses (t ∷ ts) = ap (λ l. address_behind t ++ l) (addresses ts)

in_turn : (a b m e : List ℕ) → (a ++ (b ++ m)) ++ e ≡ (a ++ (b ++ [])) ++ (m ++ e)
in_turn a b m e =
    append_assoc a (b ++ m) e ∙ ap (λ l. a ++ l) (append_assoc b m e)
    ∙ sym (append_assoc a (b ++ []) (m ++ e) ∙ ap (λ l. a ++ (l ++ (m ++ e))) (append-nil b))

-- the line of a table: two words, the targets, and a line feed
abbrev table_parts : ℕ → List ℕ → List ℕ
table_parts a ts = codes "table" ++ ((spaced (hex a) ++ (spaced (decimal (length ts)) ++ [])) ++ (flat_map address_behind ts ++ 10 ∷ []))

table_is : (t : JumpTable) → table_line t ≡ table_parts t.at t.targets
table_is t =
    ap (λ l. codes "table" ++ ((spaced (hex t.at) ++ (spaced (decimal (length t.targets)) ++ l)) ++ 10 ∷ [])) (addresses t.targets)
    ∙ ap (λ l. codes "table" ++ l) (in_turn (spaced (hex t.at)) (spaced (decimal (length t.targets))) (flat_map address_behind t.targets) (10 ∷ []))

pub table_with : (t : JumpTable) (ts : List ℕ) → ts ≡ t.targets → table_line t ≡ table_parts t.at ts
table_with t ts e = table_is t ∙ ap (table_parts t.at) (sym e)

-- the lines of the node at a place
pub place_is : (g : Graph) (k : ℕ) (n : Node) → slice_get g.nodes k ≡ Some n → place_text g k ≡ node_text g.tables n
place_is g k n e = ap (λ o. flat_map (node_text g.tables) (option_to_list o)) e ∙ append-nil (node_text g.tables n)
