-- What holds of each thing that expressions, statements and ends mention.
use Rattle.std.proofs.Common.{ℕ, List, [], ◌∷◌, ◌++◌, map, length, sym, subst}
use Rattle.std.specs.List.{AllByRecursion}
use Rattle.c_lang.specs.declared.tree.COp.{COp}
use Rattle.c_lang.specs.declared.tree.Var.{Var}
use Rattle.c_lang.specs.declared.tree.Case.{Case}
use Rattle.c_lang.specs.declared.tree.CExpr.{CExpr}
use Rattle.c_lang.specs.declared.tree.CExpr.TheVariants.{Num, Of, Bin, Choose}
use Rattle.c_lang.specs.declared.tree.Stmt.{Stmt}
use Rattle.c_lang.specs.declared.tree.Stmt.TheVariants.{Set, Load, Store, TakeW, PutW, Serve, Call, If, Stop}
use Rattle.c_lang.specs.declared.tree.End.{End}
use Rattle.c_lang.specs.declared.tree.End.TheVariants.{Goto, Branch, Switch, Return, Finish}
use Rattle.c_lang.specs.Items.{Mention, Name, Calling, Access, Label, together, names_in, mentions_in, end_mentions}
use Rattle.c_static.proofs.Mentions.{names-Num, names-Of, names-Bin, names-Choose, mentions-Set, mentions-Load, mentions-Store, mentions-TakeW, mentions-PutW, mentions-Serve, mentions-Call, mentions-If, mentions-Stop}

module _ (P : Mention → Type 0) where
  abbrev pub Each : List Mention → Type 0
  Each ms = AllByRecursion P ms

  pub each-append : (xs ys : List Mention) → Each xs → Each ys → Each (xs ++ ys)
  each-append [] ys h k = k
  each-append (x ∷ xs) ys h k = (h.0, each-append xs ys h.1 k)

  -- of each variable of an expression
  pub record Uses (e : CExpr) : Type 0 where
    pub each : Each (names_in e)

  -- of each variable of some expressions
  pub record UsesAll (es : List CExpr) : Type 0 where
    pub each : Each (together (map names_in es))

  -- of all that some statements mention
  pub record Says (stmts : List Stmt) : Type 0 where
    pub each : Each (together (map mentions_in stmts))

  -- ---- expressions

  pub uses-Num : (n : ℕ) → Uses (Num n)
  uses-Num n = record { each = subst Each (sym (names-Num n)) tt }

  pub uses-Of : (v : Var) → P (Name v) → Uses (Of v)
  uses-Of v h = record { each = subst Each (sym (names-Of v)) (h, tt) }

  pub uses-Bin : (op : COp) (a b : CExpr) → Uses a → Uses b → Uses (Bin op a b)
  uses-Bin op a b h k = record { each = subst Each (sym (names-Bin op a b)) (each-append (names_in a) (names_in b) h.each k.each) }

  pub uses-Choose : (c a b : CExpr) → Uses c → Uses a → Uses b → Uses (Choose c a b)
  uses-Choose c a b f h k =
      record { each = subst Each (sym (names-Choose c a b)) (each-append (names_in c) (names_in a ++ names_in b) f.each (each-append (names_in a) (names_in b) h.each k.each)) }

  pub uses-none : UsesAll []
  uses-none = record { each = tt }

  pub uses-more : (e : CExpr) (es : List CExpr) → Uses e → UsesAll es → UsesAll (e ∷ es)
  uses-more e es h k = record { each = each-append (names_in e) (together (map names_in es)) h.each k.each }

  -- ---- statements

  pub says-none : Says []
  says-none = record { each = tt }

  says-more : (x : Stmt) (rest : List Stmt) → Each (mentions_in x) → Says rest → Says (x ∷ rest)
  says-more x rest h k = record { each = each-append (mentions_in x) (together (map mentions_in rest)) h k.each }

  pub says-append : (xs ys : List Stmt) → Says xs → Says ys → Says (xs ++ ys)
  says-append [] ys h k = k
  says-append (x ∷ xs) ys h k = says-more x (xs ++ ys) (front (mentions_in x) (together (map mentions_in xs)) h.each) (says-append xs ys (record { each = back (mentions_in x) (together (map mentions_in xs)) h.each }) k)
    where
      front : (ms ns : List Mention) → Each (ms ++ ns) → Each ms
      front [] ns h = tt
      front (m ∷ ms) ns h = (h.0, front ms ns h.1)

      back : (ms ns : List Mention) → Each (ms ++ ns) → Each ns
      back [] ns h = h
      back (m ∷ ms) ns h = back ms ns h.1

  pub says-Set : (v : Var) (e : CExpr) (rest : List Stmt) → P (Name v) → Uses e → Says rest → Says (Set v e ∷ rest)
  says-Set v e rest h u k = says-more (Set v e) rest (subst Each (sym (mentions-Set v e)) (h, u.each)) k

  pub says-Load : (v : Var) (n : ℕ) (e : CExpr) (rest : List Stmt) → P (Name v) → P (Access n) → Uses e → Says rest → Says (Load v n e ∷ rest)
  says-Load v n e rest h a u k = says-more (Load v n e) rest (subst Each (sym (mentions-Load v n e)) (h, (a, u.each))) k

  pub says-Store : (n : ℕ) (a e : CExpr) (rest : List Stmt) → P (Access n) → Uses a → Uses e → Says rest → Says (Store n a e ∷ rest)
  says-Store n a e rest h u w k = says-more (Store n a e) rest (subst Each (sym (mentions-Store n a e)) (h, each-append (names_in a) (names_in e) u.each w.each)) k

  pub says-TakeW : (v : Var) (e : CExpr) (rest : List Stmt) → P (Name v) → Uses e → Says rest → Says (TakeW v e ∷ rest)
  says-TakeW v e rest h u k = says-more (TakeW v e) rest (subst Each (sym (mentions-TakeW v e)) (h, u.each)) k

  pub says-PutW : (i e : CExpr) (rest : List Stmt) → Uses i → Uses e → Says rest → Says (PutW i e ∷ rest)
  says-PutW i e rest u w k = says-more (PutW i e) rest (subst Each (sym (mentions-PutW i e)) (each-append (names_in i) (names_in e) u.each w.each)) k

  pub says-Serve : (n x y z : CExpr) (rest : List Stmt) → Uses n → Uses x → Uses y → Uses z → Says rest → Says (Serve n x y z ∷ rest)
  says-Serve n x y z rest a b c d k =
      says-more (Serve n x y z) rest
      (subst Each (sym (mentions-Serve n x y z)) (each-append (names_in n) (names_in x ++ (names_in y ++ names_in z)) a.each (each-append (names_in x) (names_in y ++ names_in z) b.each (each-append (names_in y) (names_in z) c.each d.each)))) k

  pub says-Call : (entry : ℕ) (es : List CExpr) (rest : List Stmt) → P (Calling entry (length es)) → UsesAll es → Says rest → Says (Call entry es ∷ rest)
  says-Call entry es rest h u k = says-more (Call entry es) rest (subst Each (sym (mentions-Call entry es)) (h, u.each)) k

  pub says-If : (e : CExpr) (body rest : List Stmt) → Uses e → Says body → Says rest → Says (If e body ∷ rest)
  says-If e body rest u b k = says-more (If e body) rest (subst Each (sym (mentions-If e body)) (each-append (names_in e) (together (map mentions_in body)) u.each b.each)) k

  pub says-Stop : (n : ℕ) (e : CExpr) (rest : List Stmt) → Uses e → Says rest → Says (Stop n e ∷ rest)
  says-Stop n e rest u k = says-more (Stop n e) rest (subst Each (sym (mentions-Stop n e)) u.each) k

  -- ---- ends

  -- of each variable of an end, its labels aside
  abbrev pub EndUses : End → Type 0
  EndUses (Goto to) = Unit {0}
  EndUses (Branch e first second) = Uses e
  EndUses (Switch e cases k other) = Uses e × Uses other
  EndUses Return = Unit {0}
  EndUses (Finish k e) = Uses e

  -- of each label of some cases
  abbrev pub CasesLead : List Case → Type 0
  CasesLead [] = Unit {0}
  CasesLead (c ∷ cases) = P (Label c.to) × CasesLead cases

  -- of each label of an end
  abbrev pub EndLeads : End → Type 0
  EndLeads (Goto to) = P (Label to)
  EndLeads (Branch e first second) = P (Label first) × P (Label second)
  EndLeads (Switch e cases k other) = CasesLead cases
  EndLeads Return = Unit {0}
  EndLeads (Finish k e) = Unit {0}

  cases-each : (cases : List Case) (rest : List Mention) → CasesLead cases → Each rest → Each (map (λ c. Label c.to) cases ++ rest)
  cases-each [] rest h k = k
  cases-each (c ∷ cases) rest h k = (h.0, cases-each cases rest h.1 k)

  pub end-each : (end : End) → EndUses end → EndLeads end → Each (end_mentions end)
  end-each (Goto to) u l = (l, tt)
  end-each (Branch e first second) u l = each-append (names_in e) (Label first ∷ Label second ∷ []) u.each (l.0, (l.1, tt))
  end-each (Switch e cases k other) u l = each-append (names_in e) (map (λ c. Label c.to) cases ++ names_in other) u.0.each (cases-each cases (names_in other) l u.1.each)
  end-each Return u l = tt
  end-each (Finish k e) u l = u.each
