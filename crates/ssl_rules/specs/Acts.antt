-- Acts that come once at most.
use Rattle.std.specs.Prelude.{ℕ, ◌-◌, ◌==◌, ◌&&◌, nat_le, Bool, true, false, List, length, take, count_by}
use Rattle.ssl_syntax.specs.declared.line.SslAct.{SslAct}
use Rattle.ssl_syntax.specs.declared.line.SslAct.TheVariants as act
use Rattle.ssl_syntax.specs.declared.line.SslTransfer.{SslTransfer}
use Rattle.ssl_rules.specs.declared.acts.Once.{Once}
use Rattle.ssl_rules.specs.declared.acts.Once.TheVariants as once

-- an act is a jump, an annul, a service or a window move
abbrev pub is_act : Once → SslAct → Bool
is_act once.Jump (act.Jump target) = true
is_act once.Annul act.Annul = true
is_act once.Service act.Service = true
is_act once.Move act.WinSave = true
is_act once.Move act.WinRestore = true
is_act _ _ = false

-- how many transfers do such an act
abbrev pub acts_of : Once → List SslTransfer → ℕ
acts_of kind ts = count_by (λ t. is_act kind t.act) ts

-- none but the last is a service
abbrev pub is_service_last : List SslTransfer → Bool
is_service_last ts = acts_of once.Service (take (length ts - 1) ts) == 0

-- at most one jump, one annul, one service, which is last, and one window move
abbrev pub are_single : List SslTransfer → Bool
are_single ts =
    (nat_le (acts_of once.Jump ts) 1 && (nat_le (acts_of once.Annul ts) 1 && (nat_le (acts_of once.Service ts) 1 && nat_le (acts_of once.Move ts) 1)))
    && is_service_last ts
