-- All that the function of a procedure mentions is declared, a call has its arguments, and an access its size.
use Rattle.std.proofs.Common.{◌≡◌, ℕ, suc, Bool, true, false, ◌||◌, List, [], ◌∷◌, ◌++◌, map, length, Option, Some, None, refl, sym, ap, ◌∙◌, subst, eq-eqb}
use Rattle.std.specs.Prelude.{IsTrue, is_some, ◌==◌, if◌then◌else◌}
use Rattle.std.specs.List.{AllByRecursion, Contains, list_all}
use Rattle.std.specs.Option.{option_map_or}
use Rattle.std.proofs.lemmas.Bool.{and_from, lt-ltb}
use Rattle.rtl_core.specs.declared.point.Point.{Point}
use Rattle.points.specs.declared.graph.Node.{Node}
use Rattle.points.specs.Bodies.{Code, code_of, LeadsTo, Body, Procedure}
use Rattle.c_lang.specs.declared.tree.CBlock.{CBlock}
use Rattle.c_lang.specs.declared.tree.Case.{Case}
use Rattle.c_lang.specs.declared.tree.End.{End}
use Rattle.c_lang.specs.declared.tree.End.TheVariants.{Goto, Branch, Switch, Return, Finish}
use Rattle.c_lang.specs.declared.tree.Function.{Function}
use Rattle.c_lang.specs.declared.tree.Var.{Var}
use Rattle.c_lang.specs.declared.tree.Var.TheVariants.{Ra, Pt, Cell, Temp, Result, Wn, Depth, ServeR, ServeE}
use Rattle.c_lang.specs.Items.{Text, Mention, Name, Calling, Label, Prototype, together, mentions_in, end_mentions, block_mentions, mentions, text_of}
use Rattle.c_lang.specs.State.{declares, has}
use Rattle.c_lang.specs.StaticRules.{is_declared, is_counted, is_access}
use Rattle.c_lang.specs.Step.{block_of}
use Rattle.c_control.specs.Blocks.{block_c, code_at, further_c, arrival_code}
use Rattle.c_control.specs.Plans.{Plan}
use Rattle.c_control.specs.Shape.{AllLead, AllCases, GoesOn}
use Rattle.c_control.proofs.Frames.{Emission, CanEnter}
use Rattle.c_control.proofs.Gotos.{arrival-leads}
use Rattle.c_control.proofs.Naming.{gets}
use Rattle.c_control.proofs.PlannedShape.{planned-has-shape}
use Rattle.c_program.specs.Functions.{block_if_any, blocks_of, is_entry}
use Rattle.params.proofs.Members.{first-in, later-in}
use Rattle.c_static.proofs.Saying.{Each, each-append, EndLeads, CasesLead, end-each}
use Rattle.c_static.proofs.Tidies.{Allows, is_everywhere}
use Rattle.c_static.proofs.PieceSays.{AllLeaves}
use Rattle.c_static.proofs.Reaching.{further-is-at}
use Rattle.c_static.proofs.BlockSays.{block-says, further-says}
use Rattle.c_static.proofs.FunctionFacts.{HasBlocks, found-label, found-prototype}
use Rattle.c_static.proofs.Split.{row, entry_at, other_at, further_at, split}
use Rattle.c_static.proofs.Lists.{each-joined}

-- what a function mentions is as the rules ask
pub record IsFine (t : Text) (f : Function) (m : Mention) : Type 0 where
  pub declared : is_declared t f m ≡ true
  pub counted : is_counted t m ≡ true
  pub access : is_access m ≡ true

-- a variable that is declared
pub fine-name : (t : Text) (f : Function) (v : Var) → declares f v ≡ true → IsFine t f (Name v)
fine-name t f v h = record { declared = h; counted = refl; access = refl }

everywhere-declared : (f : Function) (v : Var) → is_everywhere v ≡ true → declares f v ≡ true
everywhere-declared f Ra h = refl
everywhere-declared f Pt h = refl
everywhere-declared f (Cell c) h = let no : ⊥ = cc in absurd no
everywhere-declared f (Temp k) h = let no : ⊥ = cc in absurd no
everywhere-declared f (Result c) h = refl
everywhere-declared f Wn h = refl
everywhere-declared f Depth h = refl
everywhere-declared f ServeR h = refl
everywhere-declared f ServeE h = refl

pub each-test : (P : Mention → Type 0) (test : Mention → Bool) → ((m : Mention) → P m → test m ≡ true) → (ms : List Mention) → Each P ms → list_all test ms ≡ true
each-test P test f [] h = refl
each-test P test f (m ∷ ms) h = and_from (test m) (list_all test ms) (f m h.0) (each-test P test f ms h.1)

-- labels that an end leads to
cases-lead : (P : Mention → Type 0) (Q : Point → Type 0) → ((to : Point) → Q to → P (Label to)) → (cases : List Case) → AllCases Q cases → CasesLead P cases
cases-lead P Q f [] h = tt
cases-lead P Q f (c ∷ cases) h = (f c.to h.0, cases-lead P Q f cases h.1)

end-leads : (P : Mention → Type 0) (Q : Point → Type 0) → ((to : Point) → Q to → P (Label to)) → (end : End) → AllLead Q end → EndLeads P end
end-leads P Q f (Goto to) h = f to h
end-leads P Q f (Branch e first second) h = (f first h.0, f second h.1)
end-leads P Q f (Switch e cases k other) h = cases-lead P Q f cases h
end-leads P Q f Return h = tt
end-leads P Q f (Finish k e) h = tt

-- what holds of the block of each node and of each further block holds of all blocks
module _ (plan : Plan) (q : ℕ) (Fine : CBlock → Type 0) where
  each-row : (at : Point → List CBlock) (ns : List Node) → ((n : Node) → Contains ns n → AllByRecursion Fine (at n.point)) → AllByRecursion Fine (row at ns)
  each-row at [] h = tt
  each-row at (n ∷ ns) h = each-joined Fine (at n.point) (row at ns) (h n (first-in n ns)) (each-row at ns (λ m c. h m (later-in n m ns c)))

  each-block : (ns : List Node) → ((n : Node) → Contains ns n → Fine (block_c plan q n.point)) → ((n : Node) → Contains ns n → (more : CBlock) → further_c plan q n.point ≡ Some more → Fine more)
      → AllByRecursion Fine (blocks_of plan q ns)
  each-block ns one more =
      subst (AllByRecursion Fine) (sym (split plan q ns))
      (each-joined Fine (row (entry_at plan q) ns ++ row (other_at plan q) ns) (row (further_at plan q) ns)
      (each-joined Fine (row (entry_at plan q) ns) (row (other_at plan q) ns) (each-row (entry_at plan q) ns (λ n c. if-entry n.point (is_entry q n.point) (one n c))) (each-row (other_at plan q) ns (λ n c. if-other n.point (is_entry q n.point) (one n c))))
      (each-row (further_at plan q) ns (λ n c. if-any n.point (further_c plan q n.point) refl (more n c))))
    where
      if-entry : (b : Point) (t : Bool) → Fine (block_c plan q b) → AllByRecursion Fine (if t then block_c plan q b ∷ [] else [])
      if-entry b true h = (h, tt)
      if-entry b false h = tt

      if-other : (b : Point) (t : Bool) → Fine (block_c plan q b) → AllByRecursion Fine (if t then [] else block_c plan q b ∷ [])
      if-other b true h = tt
      if-other b false h = (h, tt)

      if-any : (b : Point) (o : Option CBlock) → further_c plan q b ≡ o → ((more : CBlock) → further_c plan q b ≡ Some more → Fine more) → AllByRecursion Fine (block_if_any o)
      if-any b None e h = tt
      if-any b (Some blk) e h = (h blk e, tt)

together-each : (P : Mention → Type 0) (bs : List CBlock) → AllByRecursion (λ b. Each P (block_mentions b)) bs → Each P (together (map block_mentions bs))
together-each P [] h = tt
together-each P (b ∷ bs) h = each-append P (block_mentions b) (together (map block_mentions bs)) h.0 (together-each P bs h.1)

-- the function of the procedure q in the program, with these nodes of its body
module _ (g : Emission) (q : ℕ) (procedure : Procedure (code_of g.plan.flow.setting g.plan.flow.table) g.roots q) (leaves : AllLeaves (λ t. IsTrue (g.plan.flow.is_procedure t)) g.plan.tree) (f : Function) (params : f.params ≡ g.plan.refs q)
    (has_blocks : HasBlocks g.plan q f) (body : List Node) (blocks : f.blocks ≡ blocks_of g.plan q body) (of_body : (n : Node) → Contains body n → Body (code_of g.plan.flow.setting g.plan.flow.table) q n.point) where
  abbrev code : Code
  code = code_of g.plan.flow.setting g.plan.flow.table

  abbrev t : Text
  t = text_of g.program

  abbrev P : Mention → Type 0
  P m = IsFine t f m

  fine-cell : (c : ℕ) → gets g q c ≡ true → P (Name (Cell c))
  fine-cell c h = fine-name t f (Cell c) (ap (λ b. b || has f.cells c) (ap (λ l. has l c) params ∙ h))

  allows : Allows P (gets g q) f.temps
  allows = record {
    cell = fine-cell;
    temp = λ k lt. fine-name t f (Temp k) (lt-ltb k f.temps lt);
    everywhere = λ v h. fine-name t f v (everywhere-declared f v h);
    access = λ n h. record { declared = refl; counted = refl; access = h };
  }

  call : (x : ℕ) → CanEnter g q x → P (Calling x (suc (length (g.plan.refs x))))
  call x e =
      let found = found-prototype 0 g.program.functions x e.fn.found e.fn.is in
      record {
        declared = ap is_some found;
        counted = ap (λ o. option_map_or (λ (p : Prototype). length (g.plan.refs x) == length p.params) o true) found ∙ eq-eqb (length (g.plan.refs x)) (length e.fn.found.function.params) (ap length (sym e.fn.params));
        access = refl;
      }

  fine-label : (to : Point) (b : CBlock) → block_of f.blocks to ≡ Some b → P (Label to)
  fine-label to b e = record { declared = found-label f.blocks to b e; counted = refl; access = refl }

  leads-fine : (b : Point) → Body code q b → (to : Point) → LeadsTo code b to → P (Label to)
  leads-fine b inside to l = fine-label to (block_c g.plan q to) (has_blocks.blocks to (Body.next inside l))

  goes-fine : (b : Point) → Body code q b → (to : Point) → GoesOn g.plan q b to → P (Label to)
  goes-fine b inside to (GoesOn.leads l) = leads-fine b inside to l
  goes-fine b inside to (GoesOn.further {more = more} e) = fine-label more.label more (has_blocks.further b more inside e)

  -- the block of a point
  abbrev Fine : CBlock → Type 0
  Fine b = Each P (block_mentions b)

  fine-block : (b : Point) → Body code q b → Fine (block_c g.plan q b)
  fine-block b inside =
      let says = block-says g P q procedure call leaves f.temps allows has_blocks.room.flags has_blocks.room.needs b inside in
      let shape = planned-has-shape g.plan g.roots g.parts g.entry g.program g.planned in
      let block = (shape.functions q procedure).is.blocks b inside in
      let leads : AllLead (GoesOn g.plan q b) (code_at g.plan q b).end = subst (AllLead (GoesOn g.plan q b)) block.end block.leads in
      let c = code_at g.plan q b in
      each-append P (together (map mentions_in c.stmts)) (end_mentions c.end) says.stmts.each (end-each P c.end says.end (end-leads P (GoesOn g.plan q b) (goes-fine b inside) c.end leads))

  -- its further block
  fine-further : (b : Point) → Body code q b → (more : CBlock) → further_c g.plan q b ≡ Some more → Fine more
  fine-further b inside more e =
      let at = further-is-at g q b more e in
      let says = further-says g P q procedure call leaves f.temps allows has_blocks.room.flags has_blocks.room.needs b inside at.slot at.arrives in
      let leads = arrival-leads g.plan b q at.slot at.arrives in
      let c = arrival_code g.plan q at.slot in
      subst Fine (sym at.is) (each-append P (together (map mentions_in c.stmts)) (end_mentions c.end) says.stmts.each (end-each P c.end says.end (end-leads P (LeadsTo code b) (leads-fine b inside) c.end leads)))

  -- all that the function mentions
  pub all-fine : Each P (mentions f)
  all-fine =
      subst (λ bs. Each P (together (map block_mentions bs))) (sym blocks)
      (together-each P (blocks_of g.plan q body) (each-block g.plan q Fine body (λ n c. fine-block n.point (of_body n c)) (λ n c more e. fine-further n.point (of_body n c) more e)))
