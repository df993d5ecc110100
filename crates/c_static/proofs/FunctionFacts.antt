-- The functions of the program of a graph are found at their entries, with their blocks.
use Rattle.std.proofs.Common.{◌≡◌, ℕ, ◌+◌, Bool, true, false, ◌||◌, List, [], ◌∷◌, map, Some, ◌⊎◌, inl, inr, refl, sym, ap, ◌∙◌, subst, eq-eqb}
use Rattle.std.specs.Prelude.{◌==◌, if◌then◌else◌}
use Rattle.std.specs.Cmp.Lexicographic.{pointwise}
use Rattle.std.specs.List.{Contains, list_any}
use Rattle.std.specs.List.Sorted.{IsStrictlySortedBy}
use Rattle.std.specs.Ordering.{nat_cmp}
use Rattle.std.specs.declared.cmp.Ordering.TheVariants.{Less}
use Rattle.std.proofs.lemmas.Bool.{and_from, eqb-true}
use Rattle.std.proofs.lemmas.Map.Keys.{sorted_tail}
use Rattle.rtl_core.specs.declared.point.Point.{Point}
use Rattle.points.specs.declared.graph.Node.{Node}
use Rattle.points.specs.declared.graph.Proc.{Proc}
use Rattle.points.specs.Bodies.{code_of, Body}
use Rattle.c_lang.specs.declared.tree.CBlock.{CBlock}
use Rattle.c_lang.specs.declared.tree.Function.{Function}
use Rattle.c_lang.specs.declared.tree.Program.{Program}
use Rattle.c_lang.specs.Items.{Prototype, prototype_of}
use Rattle.c_lang.specs.StaticRules.{prototype_at, is_like}
use Rattle.c_lang.specs.Step.{Found, function_from, block_of, same_point}
use Rattle.c_control.specs.Blocks.{block_c, further_c}
use Rattle.c_control.specs.Plans.{Plan}
use Rattle.c_control.specs.Programs.{HasFunction, HasRoom}
use Rattle.c_program.specs.Functions.{function_of, functions_of}
use Rattle.params.proofs.Members.{none-in, split-in, above, both-below, to-mapped}

-- the first function of an address has its first prototype
pub found-prototype : (i : ℕ) (fs : List Function) (p : ℕ) (found : Found) → function_from i fs p ≡ Some found → prototype_at (map prototype_of fs) p ≡ Some (prototype_of found.function)
found-prototype i [] p found e = let no : ⊥ = cc in absurd no
found-prototype i (f ∷ fs) p found e = by (f.entry == p) refl e (found-prototype (i + 1) fs p found)
  where
    by : (b : Bool) → (f.entry == p) ≡ b → (if b then Some (record { index = i; function = f }) else function_from (i + 1) fs p) ≡ Some found
        → (function_from (i + 1) fs p ≡ Some found → prototype_at (map prototype_of fs) p ≡ Some (prototype_of found.function)) → prototype_at (map prototype_of (f ∷ fs)) p ≡ Some (prototype_of found.function)
    by true same e rest =
        let is : record { index = i; function = f } ≡ found = cc in
        ap (λ b. if b then Some (prototype_of f) else prototype_at (map prototype_of fs) p) same ∙ ap (λ (x : Found). Some (prototype_of x.function)) is
    by false other e rest = ap (λ b. if b then Some (prototype_of f) else prototype_at (map prototype_of fs) p) other ∙ rest e

same-numbers : (ns : List ℕ) → pointwise (λ c d. c == d) ns ns ≡ true
same-numbers [] = refl
same-numbers (n ∷ ns) = and_from (n == n) (pointwise (λ c d. c == d) ns ns) (eq-eqb n n refl) (same-numbers ns)

pub like-itself : (p : Prototype) → is_like p (Some p) ≡ true
like-itself p = and_from (p.entry == p.entry) (pointwise (λ c d. c == d) p.params p.params) (eq-eqb p.entry p.entry refl) (same-numbers p.params)

-- a label at which a block is found is declared
pub found-label : (bs : List CBlock) (to : Point) (b : CBlock) → block_of bs to ≡ Some b → list_any (λ c. same_point c.label to) bs ≡ true
found-label [] to b e = let no : ⊥ = cc in absurd no
found-label (c ∷ cs) to b e = by (same_point c.label to) refl e (found-label cs to b)
  where
    by : (t : Bool) → same_point c.label to ≡ t → (if t then Some c else block_of cs to) ≡ Some b → (block_of cs to ≡ Some b → list_any (λ c. same_point c.label to) cs ≡ true)
        → (same_point c.label to || list_any (λ c. same_point c.label to) cs) ≡ true
    by true s e rest = ap (λ t. t || list_any (λ c. same_point c.label to) cs) s
    by false s e rest = ap (λ t. t || list_any (λ c. same_point c.label to) cs) s ∙ rest e

-- what is found at the entry of a procedure is its function, as entries rise
pub found-one : (plan : Plan) (nodes : List Node) (i : ℕ) (procs : List Proc) (proc : Proc) (found : Found) → IsStrictlySortedBy nat_cmp (map (λ (p : Proc). p.entry) procs) → Contains procs proc
    → function_from i (functions_of plan nodes procs) proc.entry ≡ Some found → found.function ≡ function_of plan nodes proc.entry proc.body
found-one plan nodes i [] proc found s c e = none-in proc c
found-one plan nodes i (q ∷ qs) proc found s c e = by (q.entry == proc.entry) refl (split-in q proc qs c) e (found-one plan nodes (i + 1) qs proc found (sorted_tail nat_cmp q.entry (map (λ (p : Proc). p.entry) qs) s))
  where
    by : (b : Bool) → (q.entry == proc.entry) ≡ b → (q ≡ proc) ⊎ Contains qs proc
        → (if b then Some (record { index = i; function = function_of plan nodes q.entry q.body }) else function_from (i + 1) (functions_of plan nodes qs) proc.entry) ≡ Some found
        → (Contains qs proc → function_from (i + 1) (functions_of plan nodes qs) proc.entry ≡ Some found → found.function ≡ function_of plan nodes proc.entry proc.body) → found.function ≡ function_of plan nodes proc.entry proc.body
    by true same (inl is) e rest =
        let at : record { index = i; function = function_of plan nodes q.entry q.body } ≡ found = cc in
        ap (λ (x : Found). x.function) (sym at) ∙ ap (λ (r : Proc). function_of plan nodes r.entry r.body) is
    by true same (inr later) e rest =
        let up = above q.entry (map (λ (p : Proc). p.entry) qs) s proc.entry (to-mapped (λ (p : Proc). p.entry) qs proc later) in
        let m : nat_cmp proc.entry proc.entry ≡ Less = subst (λ z. nat_cmp z proc.entry ≡ Less) (eqb-true q.entry proc.entry same) up in
        absurd (both-below proc.entry proc.entry m m)
    by false other (inl is) e rest = let no : true ≡ false = sym (eq-eqb q.entry proc.entry (ap (λ (r : Proc). r.entry) is)) ∙ other in let none : ⊥ = cc in absurd none
    by false other (inr later) e rest = rest later e

-- what a function of a procedure has: room for its instructions, the block of each point of the body, and each further block
pub record HasBlocks (plan : Plan) (q : ℕ) (f : Function) : Type 0 where
  pub room : HasRoom plan q f.temps
  pub blocks : (b : Point) → Body (code_of plan.flow.setting plan.flow.table) q b → block_of f.blocks b ≡ Some (block_c plan q b)
  pub further : (b : Point) (more : CBlock) → Body (code_of plan.flow.setting plan.flow.table) q b → further_c plan q b ≡ Some more → block_of f.blocks more.label ≡ Some more

pub has-blocks : (plan : Plan) (program : Program) (q : ℕ) (fn : HasFunction plan program q) (f : Function) → fn.found.function ≡ f → HasBlocks plan q f
has-blocks plan program q fn f is = let h : HasBlocks plan q fn.found.function = record { room = fn.room; blocks = fn.blocks; further = fn.further } in subst (HasBlocks plan q) is h
