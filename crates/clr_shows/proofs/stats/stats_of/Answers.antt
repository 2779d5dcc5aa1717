-- Segment after segment is counted.
use Rattle.std.proofs.Common.{◌≡◌, ℕ, arith, length, subst}
use Rattle.clr_heap.specs.View.{listings}
use Rattle.clr_shows.specs.Stats.{AreCounted}
use Rattle.clr_shows.proofs.StatCounts.{none-counted, none-within}
use Rattle.clr_shows.proofs.stats.stats_of.Goals as goal

pub loop-k-init : goal.loop-k-init
loop-k-init g c = record {
  within = none-within;
  counted = λ test answers. none-counted c.args.view.now.types.now c.args.view.now.heap.now test;
}

pub loop-k-preserved : goal.loop-k-preserved
loop-k-preserved g c = record {
  within = c.count_segment.ensures.within;
  counted = λ test answers. c.count_segment.ensures.counted test answers (c.loop-k.invariant.counted test answers);
}

pub returns : goal.returns
returns g c = λ test answers.
    let rows = c.args.view.now.types.now in
    let h = c.args.view.now.heap.now in
    let past = c.loop-k-test.false in
    let within = c.loop-k.auto.k-end in
    let count = c.segments-k-end.ensures.count in
    let all : c.loop-k.k ≡ length h.segments = omega (arith, past, within, count) in
    subst (λ (k : ℕ). AreCounted rows h test c.loop-k.stats (listings rows h 0 k)) all
    (c.loop-k.invariant.counted test answers)
