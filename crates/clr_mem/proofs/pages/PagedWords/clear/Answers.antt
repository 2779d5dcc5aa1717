use Rattle.std.proofs.Common.{[], refl, ap, ◌∙◌, arith, length}
use Rattle.clr_mem.specs.Words.{zeros}
use Rattle.clr_mem.proofs.Callers.{length-overwrite, length-zeros}
use Rattle.clr_mem.proofs.Overwriting.{overwrite-none, overwrite-zeros}
use Rattle.clr_mem.proofs.pages.PagedWords.clear.Goals as goal

pub loop-done-init : goal.loop-done-init
unfolding zeros
loop-done-init c = (omega arith, overwrite-none c.args.self.now c.args.at [] refl)

pub loop-done-preserved : goal.loop-done-preserved
loop-done-preserved c =
    let done = c.loop-done.invariant in
    let some = c.loop-done-test.true in
    let inside = c.requires.inside in
    let count = c.min-count.ensures in (
      omega (arith, some, count),
      overwrite-zeros c.args.self.now c.args.at c.loop-done.done c.min-count.result
          (omega (arith, some, count, inside)) c.loop-done.self c.clear_in_page.new.self done.1
          c.clear_in_page.ensures.items,
    )

pub returns-clause-len : goal.returns-clause-len
returns-clause-len c =
    let done = c.loop-done.invariant in
    let most = done.0 in
    let inside = c.requires.inside in
    let size = length-zeros c.loop-done.done in
    ap length done.1
    ∙ length-overwrite c.args.self.now c.args.at (zeros c.loop-done.done) (omega (arith, most, inside, size))
