use Rattle.std.proofs.Common.{arith}
use Rattle.clr_mem.proofs.Overwriting.{overwrite-part}
use Rattle.clr_mem.proofs.pages.PagedWords.slide.Goals as goal

pub loop-done-preserved : goal.loop-done-preserved
loop-done-preserved c =
    let done = c.loop-done.invariant in
    let some = c.loop-done-test.true in
    let most = c.slide_front-done.ensures.most in
    let from_in = c.requires.from_in in (
      omega (arith, some, most),
      overwrite-part c.args.self.now c.args.at c.args.start c.loop-done.done c.slide_front-done.result
          c.requires.down (omega (arith, some, most, from_in)) c.loop-done.self c.slide_front-done.new.self done.1
          c.slide_front-done.ensures.items,
    )
