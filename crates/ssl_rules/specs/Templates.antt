-- What the constructors stand for: templates of their lines.
use Rattle.std.specs.Prelude.{ℕ, ◌+◌, ◌/◌, if◌then◌else◌, List, map, sum_by, unwrap_or, Option, Some, None, option_map}
use Rattle.ssl_syntax.specs.declared.line.SslExpr.{SslExpr}
use Rattle.ssl_syntax.specs.declared.line.SslPlace.{SslPlace}
use Rattle.ssl_syntax.specs.declared.line.SslPlace.TheVariants as place
use Rattle.ssl_syntax.specs.declared.line.SslAct.{SslAct}
use Rattle.ssl_syntax.specs.declared.line.SslAct.TheVariants as act
use Rattle.ssl_syntax.specs.declared.line.SslTransfer.{SslTransfer}
use Rattle.rtl_core.specs.declared.machine.CellPart.{CellPart}
use Rattle.rtl_core.specs.declared.template.TExpr.{TExpr}
use Rattle.rtl_core.specs.declared.template.TPlace.{TPlace}
use Rattle.rtl_core.specs.declared.template.TPlace.TheVariants as P
use Rattle.rtl_core.specs.declared.template.TAct.{TAct}
use Rattle.rtl_core.specs.declared.template.TAct.TheVariants as A
use Rattle.rtl_core.specs.declared.template.TTransfer.{TTransfer}
use Rattle.rtl_core.specs.declared.template.Template.{Template}
use Rattle.rtl_core.specs.declared.template.Template.TheVariants.{Value, Place, Acts}
use Rattle.ssl_rules.specs.declared.formula.Leaf.TheVariants as leaf
use Rattle.ssl_rules.specs.declared.formula.Formula.{Formula, out-Formula}
use Rattle.ssl_rules.specs.declared.formula.Formula.TheOpen.{Formula-F}
use Rattle.ssl_rules.specs.declared.tables.Own.TheVariants.{Field, Typed, Param}
use Rattle.ssl_rules.specs.declared.tables.Stands.{Stands}
use Rattle.ssl_rules.specs.declared.tables.Lone.{Lone}
use Rattle.ssl_rules.specs.declared.tables.Lone.TheVariants as lone
use Rattle.ssl_rules.specs.declared.tables.Tables.{Tables}
use Rattle.ssl_rules.specs.Names.{Scope, part_named, cell_number, lone_named}
use Rattle.ssl_rules.specs.Formulas.{is_whole, chosen_part, expanded, nodes, value, leaf_place}

-- ---- the template of a typed constructor

-- an expanded expression as a place; none where it is a value
abbrev pub formula_place : Formula → Option TPlace
formula_place f = node_place (out-Formula f)
  where
    node_place : Formula-F Formula → Option TPlace
    node_place (Formula-F.Leaf l) = leaf_place l
    node_place (Formula-F.Load n a) = Some (P.Memory n (value a))
    node_place _ = None

-- a place where it is one, else a value
abbrev pub formula_template : Formula → Template
formula_template f = made (formula_place f)
  where
    made : Option TPlace → Template
    made None = Value (value f)
    made (Some p) = Place p

-- the nodes of a typed operand where it is assigned, which it is only where it is a place
abbrev pub typed_assigned : Stands → ℕ
typed_assigned stands = if stands.place then stands.assigned else 0

-- the nodes of an expanded expression where it is assigned: those of the address of a store
abbrev pub assigned_nodes : Formula → ℕ
assigned_nodes f = node_assigned (out-Formula f)
  where
    node_assigned : Formula-F Formula → ℕ
    node_assigned (Formula-F.Leaf (leaf.Typed k stands)) = typed_assigned stands
    node_assigned (Formula-F.Load n a) = nodes a
    node_assigned _ = 0

-- ---- the template of an instruction

abbrev pub expr_value : Scope → SslExpr → TExpr
expr_value s e = value (expanded s e)

-- what stands where nothing is known
abbrev pub no_place : TPlace
no_place = P.Cell 0

abbrev pub lone_place : Lone → TPlace
lone_place (lone.Cell c) = P.Cell c
lone_place (lone.Own (Field k w)) = P.Operand k
lone_place (lone.Own (Typed k stands)) = P.Operand k
lone_place (lone.Own (Param k w)) = no_place

abbrev pub part_place : Tables → CellPart → TPlace
part_place t p = if is_whole t p then P.Cell p.cell else P.Slice p.cell p.lo p.hi

abbrev pub place_of : Scope → SslPlace → TPlace
place_of s (place.Named name) = unwrap_or (option_map lone_place (lone_named s name)) no_place
place_of s (place.At name index) = unwrap_or (option_map (part_place s.tables) (part_named s.tables name index)) no_place
place_of s (place.AtOp name op) = unwrap_or (option_map (λ p. P.FileAt p.0 p.1) (chosen_part s name op)) no_place
place_of s (place.Bits cell lo hi) = unwrap_or (option_map (λ c. P.Slice c lo hi) (cell_number s.tables cell)) no_place
place_of s (place.Load bits address) = P.Memory (bits / 8) (expr_value s address)

abbrev pub act_of : Scope → SslAct → TAct
act_of s (act.Assign width to e) = A.Assign (place_of s to) (expr_value s e)
act_of s (act.Jump target) = A.Jump (expr_value s target)
act_of s act.Annul = A.Annul
act_of s (act.Trap number) = A.Trap (expr_value s number)
act_of s act.Service = A.Service
act_of s act.WinSave = A.WinSave
act_of s act.WinRestore = A.WinRestore

abbrev pub transfer_of : Scope → SslTransfer → TTransfer
transfer_of s t = record { guard = option_map (expr_value s) t.guard; act = act_of s t.act }

abbrev pub transfers_template : Scope → List SslTransfer → Template
transfers_template s ts = Acts (map (transfer_of s) ts)

-- ---- the nodes of an instruction: each transfer counts one; what is assigned only by the address of a store

abbrev pub expr_nodes : Scope → SslExpr → ℕ
expr_nodes s e = nodes (expanded s e)

abbrev pub lone_assigned : Lone → ℕ
lone_assigned (lone.Own (Typed k stands)) = typed_assigned stands
lone_assigned _ = 0

abbrev pub place_nodes : Scope → SslPlace → ℕ
place_nodes s (place.Named name) = unwrap_or (option_map lone_assigned (lone_named s name)) 0
place_nodes s (place.Load bits address) = expr_nodes s address
place_nodes s _ = 0

abbrev pub act_nodes : Scope → SslAct → ℕ
act_nodes s (act.Assign width to e) = place_nodes s to + expr_nodes s e
act_nodes s (act.Jump target) = expr_nodes s target
act_nodes s (act.Trap number) = expr_nodes s number
act_nodes s _ = 0

abbrev pub guard_nodes : Scope → Option SslExpr → ℕ
guard_nodes s None = 0
guard_nodes s (Some guard) = expr_nodes s guard

abbrev pub transfer_nodes : Scope → SslTransfer → ℕ
transfer_nodes s t = 1 + guard_nodes s t.guard + act_nodes s t.act

abbrev pub transfers_nodes : Scope → List SslTransfer → ℕ
transfers_nodes s ts = sum_by (transfer_nodes s) ts
