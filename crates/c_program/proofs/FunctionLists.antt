-- The functions of procedures, one after another.
use Rattle.std.proofs.Common.{◌≡◌, ℕ, ◌+◌, ◌<◌, suc, List, [], ◌∷◌, ◌++◌, append_assoc, length, map, drop, get_or, drop-cons, add-one, arith, sym, ap, ◌∙◌}
use Rattle.std.proofs.Math.ListN.{length-map}
use Rattle.std.proofs.lemmas.List.{get_or-map}
use Rattle.points.specs.declared.graph.Node.{Node}
use Rattle.points.specs.declared.graph.Proc.{Proc}
use Rattle.points.specs.declared.graph.Summary.{Summary}
use Rattle.c_lang.specs.declared.tree.Function.{Function}
use Rattle.c_control.specs.Plans.{Plan}
use Rattle.c_program.specs.Functions.{function_of, functions_of}
use Rattle.c_program.specs.Shown.{entries_of}

-- summaries and procedures with the same entries
pub same-entry : (sums : List Summary) (procs : List Proc) (i : ℕ) (s : Summary) (p : Proc) → entries_of sums ≡ map (λ p. p.entry) procs → i < length procs → s ≡ get_or sums i s → p ≡ get_or procs i p → s.entry ≡ p.entry
same-entry sums procs i s p same within s_is p_is =
    let l : length sums ≡ length procs = sym (length-map sums (λ s. s.entry)) ∙ ap length same ∙ length-map procs (λ p. p.entry) in
    let inside : i < length sums = omega arith in
    ap (λ s. s.entry) s_is ∙ sym (get_or-map (λ s. s.entry) sums i s 0 inside) ∙ ap (λ es. get_or es i 0) same ∙ get_or-map (λ p. p.entry) procs i p 0 within ∙ sym (ap (λ p. p.entry) p_is)

module _ (plan : Plan) (nodes : List Node) (procs : List Proc) (i : ℕ) where
  pub next-function : (out next all : List Function) (p : Proc) (own : ℕ) (places : List ℕ) → i < length procs → p ≡ get_or procs i p → own ≡ p.entry → places ≡ p.body → out ++ functions_of plan nodes (drop i procs) ≡ all
      → next ≡ out ++ function_of plan nodes own places ∷ [] → next ++ functions_of plan nodes (drop (i + 1) procs) ≡ all
  next-function out next all p own places within is owns body before made =
      let rest = functions_of plan nodes (drop (i + 1) procs) in
      let cons : drop i procs ≡ p ∷ drop (i + 1) procs = drop-cons procs i p within ∙ ap (λ q. q ∷ drop (suc i) procs) (sym is) ∙ ap (λ j. p ∷ drop j procs) (sym (add-one i)) in
      ap (λ l. l ++ rest) made ∙ append_assoc out (function_of plan nodes own places ∷ []) rest
      ∙ ap (λ e. out ++ function_of plan nodes e places ∷ rest) owns ∙ ap (λ b. out ++ function_of plan nodes p.entry b ∷ rest) body
      ∙ sym (ap (λ l. out ++ functions_of plan nodes l) cons) ∙ before
