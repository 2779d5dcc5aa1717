use Rattle.std.proofs.Common.{◌<◌, ℕ, length, arith}
use Rattle.clr_final.specs.declared.verdict.Verdict.{Verdict}
use Rattle.clr_final.proofs.JudgeSteps.{sorting-start, sorting-turn}
use Rattle.clr_final.proofs.judging.judge_from.Goals as goal

pub loop-i-init : goal.loop-i-init
loop-i-init g c =
    let post = λ (place : ℕ) (verdict : Verdict). goal.F-post g c.args.judge.now place verdict in
    sorting-start post c.args.low c.args.entries.now c.args.ready.now c.args.start c.requires.start c.requires.below

pub loop-i-preserved : goal.loop-i-preserved
loop-i-preserved g c =
    let post = λ (place : ℕ) (verdict : Verdict). goal.F-post g c.args.judge.now place verdict in
    let end = c.len-i-end.ensures in
    let more = c.loop-i-test.true in
    let inside : c.loop-i.i < length c.args.entries.now.items = omega (arith, end, more) in
    let put = c.put_by-kept in
    sorting-turn post c.args.low c.args.entries.now c.args.ready.now c.loop-i.entries c.loop-i.ready put.new.entries
    put.new.ready c.loop-i.i c.loop-i.kept put.result c.get-place.result c.verdict_from-verdict.result
    c.loop-i.invariant inside c.get-place.ensures c.verdict_from-verdict.ensures put.ensures.kept
    put.ensures.entries put.ensures.ready
