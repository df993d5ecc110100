use Rattle.std.proofs.Common.{◌≡◌, ℕ, ◌%◌, ◌^◌, ◌∙◌, ap, rules}
use Rattle.rtl_core.specs.declared.stop.Reply.TheVariants.{Exit}
use Rattle.rtl_core.specs.Services.{served}
use Rattle.c_lang.specs.Step.{numbers_in}
use Rattle.sysemu.specs.Streams.{world_of}
use Rattle.c_eval.specs.Plain.{state_of, with_served}
use Rattle.c_eval.proofs.GoesLaws.{serve_goes, same_served}
use Rattle.c_eval.proofs.services.serve.Goals as goal

pub returns-clause-step : goal.returns-clause-step
returns-clause-step g c =
    let before = g.M.Memory.contents c.args.mem.now in
    let later = g.M.Memory.contents c.ask.new.mem in
    let s = state_of c.args.state.now before in
    let w = world_of before c.args.state.now.streams in
    let n = numbers_in c.args.program.now.header in
    let done = served n (c.args.number % 2 ^ 32) (c.args.x % 2 ^ 32) (c.args.y % 2 ^ 32) (c.args.z % 2 ^ 32) w in
    let same = same_served n w c.low.result (c.args.number % 2 ^ 32) c.low-2.result (c.args.x % 2 ^ 32) c.low-3.result (c.args.y % 2 ^ 32) c.low-4.result (c.args.z % 2 ^ 32)
    c.low.ensures c.low-2.ensures c.low-3.ensures c.low-4.ensures in
    let out : (k : ℕ) → c.in_ok-answer.answer ≡ Exit k → ⊥ = search rules in
    serve_goes c.args.program.now s (state_of c.ask.new.state later) (state_of c.put_answer.new.state later) c.in_ok-answer.answer done
    (c.in_ok-answer.ensures.reply ∙ ap (λ d. d.reply) same) out (c.in_ok-answer.ensures.state ∙ ap (with_served s) same) (c.in_ok-put_answer.ensures later)
