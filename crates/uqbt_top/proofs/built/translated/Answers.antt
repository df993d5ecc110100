use Rattle.std.specs.Prelude.{Result, Ok, Err, IfOk, OnOk}
use Rattle.translation.specs.Translations.{IsTranslation}
use Rattle.uqbt_top.specs.Built.{BodiesAreOver, Descriptions, IsLong, IsRefused, Translates, parts_of, setting_with}
use Rattle.uqbt_top.proofs.BuiltLaws.{if_err, is_refused}
use Rattle.uqbt_top.proofs.built.translated.Goals as goal

both : {T E : Type 0} (r : Result T E) (P R : T → Type 0) (Q : Type 0) → ((x : T) → P x → Q → R x) → IfOk r P → OnOk r Q → IfOk r R
both (Ok x) P R Q f p q = f x p q
both (Err e) P R Q f p q = tt

pub returns-clause-program : goal.returns-clause-program
returns-clause-program c =
    let t : Descriptions = record { sled = c.args.sled.now; ssl = c.args.ssl.now; conv = c.args.conv.now } in
    let d = c.in_ok-on.on in
    let i = c.in_ok-image.image in
    both c.program_of.result (λ p. IsTranslation (setting_with d i) i.entry i.symbols (parts_of i) p) (Translates t c.args.exe.now) (BodiesAreOver d i → ⊥)
    (λ p translation within. record { described = d; image = i; runnable = record { of = c.in_ok-on.ensures.described; loaded = c.in_ok-image.ensures.image; within = within }; translation = translation })
    c.program_of.ensures.translation c.program_of.ensures.within

pub returns-clause-refused : goal.returns-clause-refused
returns-clause-refused c =
    let t : Descriptions = record { sled = c.args.sled.now; ssl = c.args.ssl.now; conv = c.args.conv.now } in
    if_err c.program_of.result (IsLong c.in_ok-on.on c.in_ok-image.image) (IsRefused t c.args.exe.now)
    (λ o long. is_refused t c.args.exe.now c.in_ok-on.on c.in_ok-image.image o c.in_ok-on.ensures.described c.in_ok-image.ensures.image long) c.program_of.ensures.refused
