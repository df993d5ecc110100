-- What is known of a described program and its graph, as emission asks.
use Rattle.std.proofs.Common.{◌≡◌, ℕ, ◌<◌, ◌≤◌, ◌^◌, Bool, true, false, true≢false, List, [], ◌∷◌, ◌++◌, length, map, filter, Option, Some, None, inl, inr, refl, sym, ap, subst, arith}
use Rattle.std.specs.Prelude.{◌⊎◌, IsTrue, is_some}
use Rattle.std.specs.List.{All, Contains}
use Rattle.std.proofs.lemmas.List.Elements.{All-contains, Contains-append_cases, Contains-append_left}
use Rattle.rtl_core.specs.declared.encodings.Encodings.{Encodings}
use Rattle.rtl_core.specs.declared.frozen.Frozen.{Frozen}
use Rattle.rtl_core.specs.Code.{code_from, is_code}
use Rattle.rtl_core.specs.FirstMemory.{Part}
use Rattle.rtl_core.specs.SoundConv.{IsWord}
use Rattle.decode.specs.declared.Bundle.{Bundle}
use Rattle.points.specs.declared.graph.Graph.{Graph}
use Rattle.points.specs.declared.graph.Summary.{Summary}
use Rattle.points.specs.Bodies.{code_of, roots_of, Procedure}
use Rattle.points.specs.Bundles.{LieInMemory, IsSoundSetting, setting_of}
use Rattle.points.specs.Flows.{IsFlow, is_computed}
use Rattle.points.specs.Kinds.{block_at}
use Rattle.points.specs.Machine.{Setting}
use Rattle.points.specs.Summaries.{AreSummaries}
use Rattle.jumptables.proofs.Addresses.{targets-are-addresses}
use Rattle.jumptables.proofs.TheTable.{the_table, has_tables}
use Rattle.discover.proofs.Lists.{from_filtered}
use Rattle.c_lang.specs.declared.tree.CSeg.{CSeg}
use Rattle.c_lang.specs.declared.tree.Program.{Program}
use Rattle.c_lang.specs.Spellable.{HasSpelling}
use Rattle.c_lang.specs.State.{has}
use Rattle.c_unique.specs.Unique.{OneProgram}
use Rattle.c_control.specs.Programs.{IsSame, segment_of}
use Rattle.params.specs.Accepted.{IsAccepted, setting_of as accepted_setting}
use Rattle.params.specs.ByEntry.{AreMoving}
use Rattle.params.specs.Cells.{moving_cells}
use Rattle.params.specs.SummaryLaws.{summarized}
use Rattle.params.proofs.Choosing.{moving-are}
use Rattle.params.proofs.Members.{first-in, none-in, split-in}
use Rattle.params.proofs.NamedCells.{code-below}
use Rattle.params.proofs.PlanClosed.{from-has, to-has}
use Rattle.c_program.specs.Planning.{IsDescribed, Told, entries, flow_of, graph_plan}
use Rattle.c_static.specs.Laws.{KeepsFive}
use Rattle.program_graph.specs.Described.{IsGraphOf, most_points}
use Rattle.program_graph.proofs.Carried.{jump-below, no-table}
use Rattle.translation.specs.Translations.{IsShaped, IsTranslation, parts_of}

-- what emission is told of a program
abbrev pub told_of : Setting → ℕ → List ℕ → List Part → Told
told_of s entry symbols parts = record {
  setting = s;
  table = the_table s;
  roots = roots_of s entry symbols;
  others = moving_cells (length s.machine.widths) s.machine.zero;
  parts = parts;
}

-- ---- addresses

in-code-below : (f : Frozen) (a : ℕ) → LieInMemory f → is_code f a ≡ true → a < 2 ^ 32
in-code-below f a lie e = by (code_from f a) refl e
  where
    by : (o : Option (List ℕ)) → code_from f a ≡ o → is_some o ≡ true → a < 2 ^ 32
    by None h e = absurd (true≢false (sym e))
    by (Some bytes) h e = code-below f a bytes lie h

module _ (s : Setting) (sound : IsSoundSetting s) (lie : LieInMemory s.frozen) (entry : ℕ) (symbols : List ℕ) (small : entry < 2 ^ 32) where
  abbrev roots : List ℕ
  roots = roots_of s entry symbols

  roots-small : (p : ℕ) → Contains roots p → p < 2 ^ 32
  roots-small p c = by (Contains-append_cases (entry ∷ filter (is_code s.frozen) symbols) s.conv.entries p c)
    where
      first : (entry ≡ p) ⊎ Contains (filter (is_code s.frozen) symbols) p → p < 2 ^ 32
      first (inl e) = subst (λ x. x < 2 ^ 32) e small
      first (inr c) = in-code-below s.frozen p lie (from_filtered (is_code s.frozen) symbols p c).1

      by : Contains (entry ∷ filter (is_code s.frozen) symbols) p ⊎ Contains s.conv.entries p → p < 2 ^ 32
      by (inl c) = first (split-in entry p (filter (is_code s.frozen) symbols) c)
      by (inr c) = All-contains IsWord s.conv.entries p sound.sound.conv.entries c

  tables-small : (a t : ℕ) → Contains (the_table s a) t → t < 2 ^ 32
  tables-small a t c = by (is_computed (block_at s a)) refl
    where
      by : (b : Bool) → is_computed (block_at s a) ≡ b → t < 2 ^ 32
      by true e = let lt = jump-below s a lie e in targets-are-addresses s sound a (the_table s a) t lt ((has_tables s).each a lt e) c
      by false e = none-in t (subst (λ ts. Contains ts t) (no-table s a e) c)

  pub at-root : Contains roots entry
  at-root = Contains-append_left (entry ∷ filter (is_code s.frozen) symbols) s.conv.entries entry (first-in entry (filter (is_code s.frozen) symbols))

  module _ (g : Graph) (of : IsGraphOf s entry symbols g) (few : length g.procs ≤ most_points) where
    pub described : IsDescribed s (the_table s) roots g
    described = record {
      sound = sound.sound;
      lie = lie;
      graph = of.each (the_table s) (has_tables s);
      roots_small = roots-small;
      tables_small = tables-small;
      few = few;
    }

    -- ---- what control asks

    is-flow : IsFlow s entry symbols (flow_of s (the_table s) g.procs)
    is-flow = record {
      setting_is = refl;
      tables = has_tables s;
      procedures = λ p. (
        (λ h. All-contains (Procedure (code_of s (the_table s)) roots) (entries g.procs) p (described.graph.procs.sound) (from-has (entries g.procs) p h)),
        (λ h. to-has (entries g.procs) p (described.graph.procs.whole p h)),
      );
    }

    -- ---- the translation

    pub translated : (parts : List Part) (p : Program) → OneProgram → IsSame p (flow_of s (the_table s) g.procs) parts entry → IsShaped (told_of s entry symbols parts) g p → HasSpelling p → KeepsFive p
        → IsTranslation s entry symbols parts p
    translated parts p one same shaped spelled rules = record {
      plan = graph_plan s (the_table s) g.procs shaped.sums (told_of s entry symbols parts).others;
      is = is-flow;
      same = same;
      sums = shaped.sums;
      cells = shaped.are.each;
      shape = shaped.shape;
      spelled = spelled;
      rules = rules;
      only = λ text other h k. one text other p k h;
    }

pub moving : (s : Setting) (entry : ℕ) (symbols : List ℕ) (parts : List Part) → AreMoving s.machine (told_of s entry symbols parts).others
moving s entry symbols parts = moving-are s.machine

-- segments are those of their parts
pub same-segments : (segments : List CSeg) → segments ≡ map segment_of (parts_of segments)
same-segments [] = refl
same-segments (x ∷ xs) = let e = same-segments xs in λ i. x ∷ e i

-- the cells of procedures
pub summaries-are : (on : Bundle) (t : Told) (g : Graph) (sums : List Summary) → t.setting ≡ setting_of on → IsDescribed t.setting t.table t.roots g
    → ((encodings : Encodings) (frozen : Frozen) (table : ℕ → List ℕ) (roots : List ℕ) → IsAccepted (accepted_setting on.machine.now on.conv.now encodings frozen) table roots g
    → AreSummaries (summarized (accepted_setting on.machine.now on.conv.now encodings frozen) table roots) g sums)
    → AreSummaries (summarized t.setting t.table t.roots) g sums
summaries-are on t g sums e d h =
    let d' = subst (λ s. IsDescribed s t.table t.roots g) e d in
    subst (λ s. AreSummaries (summarized s t.table t.roots) g sums) (sym e) (h on.matcher.now on.frozen.now t.table t.roots (record { sound = d'.sound; lie = d'.lie; is = d'.graph }))
