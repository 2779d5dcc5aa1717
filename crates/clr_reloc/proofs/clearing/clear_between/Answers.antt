use Rattle.std.proofs.Common.{◌-◌, ◌/◌, ◌∙◌, arith}
use Rattle.clr_covers.proofs.Spans.{share_cover-spans}
use Rattle.clr_reloc.proofs.ClearedCards.{cleared_before, cleared_both, cleared_none}
use Rattle.clr_reloc.proofs.clearing.clear_between.Goals as goal

pub loop-start-init : goal.loop-start-init
loop-start-init c = record { low = omega arith; cleared = cleared_none c.args.cards.now c.args.lo }

pub next_run-requires : goal.next_run-requires
next_run-requires c less =
    let low = c.loop-start.invariant.low in
    share_cover-spans c.loop-start.cards c.args.cards.now (c.loop-start.cursor / 2048) ((c.args.hi - 1) / 2048)
    c.loop-start.invariant.cleared.spans
    ∙ c.requires.row c.loop-start.cursor (c.args.hi - 1) low less (omega (arith, low, less)) (omega (arith, less))

pub clear_run-requires-clause-small : goal.clear_run-requires-clause-small
clear_run-requires-clause-small c =
    let small = c.requires.small in
    let under = c.in-Some.ensures.some.2 in
    omega (arith, small, under)

pub clear_run-requires-clause-row : goal.clear_run-requires-clause-row
clear_run-requires-clause-row c a b from_a to_a from_b to_b =
    let low = c.loop-start.invariant.low in
    let up = c.in-Some.ensures.some.0 in
    let under = c.in-Some.ensures.some.2 in
    share_cover-spans c.loop-start.cards c.args.cards.now (a / 2048) (b / 2048)
    c.loop-start.invariant.cleared.spans
    ∙ c.requires.row a b (omega (arith, low, up, from_a)) (omega (arith, under, to_a)) (omega (arith, low, up, from_b))
    (omega (arith, under, to_b))

pub loop-start-preserved : goal.loop-start-preserved
loop-start-preserved c =
    let low = c.loop-start.invariant.low in
    let up = c.in-Some.ensures.some.0 in
    let some = c.in-Some.ensures.some.1 in
    let cards = c.loop-start.cards in record {
      low = omega (arith, low, up, some);
      cleared = cleared_both c.args.cards.now cards c.clear_run.new.cards c.args.lo c.in-Some.start c.in-Some.end
          (cleared_both c.args.cards.now cards cards c.args.lo c.loop-start.cursor c.in-Some.start
          c.loop-start.invariant.cleared
          (cleared_before cards c.loop-start.cursor c.in-Some.start c.in-Some.ensures.some.3))
          c.clear_run.ensures;
    }

pub returns : goal.returns
returns c = cleared_both c.args.cards.now c.loop-start.cards c.loop-start.cards c.args.lo c.loop-start.cursor c.args.hi
    c.loop-start.invariant.cleared
    (cleared_before c.loop-start.cards c.loop-start.cursor c.args.hi c.in_default.ensures.none)
