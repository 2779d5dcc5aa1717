use Rattle.std.proofs.Common.{◌<◌, length, arith, get_or-set_other}
use Rattle.std.proofs.lemmas.List.{length-set}
use Rattle.clr_types.specs.Descriptors.{offsets_from}
use Rattle.clr_heap.specs.View.{word_of}
use Rattle.clr_bgmark.specs.Shades.{met_all}
use Rattle.clr_bgmark.proofs.Lent.{given_back, nothing_lent}
use Rattle.clr_bgmark.proofs.lending.meet_near.Goals as goal

pub returns-then-near-len-clause-background : goal.returns-then-near-len-clause-background
returns-then-near-len-clause-background c h =
    let below = c.if-near-len.true in
    let len = c.len.ensures in
    let ok = c.args.shades.now.ok in
    c.meet_lent.ensures.lawful c.args.shades.now.items c.args.near
    (record { background = h; within = omega arith; is = c.index_mut-shade.ensures.value })

pub returns-then-near-len-clause-met : goal.returns-then-near-len-clause-met
returns-then-near-len-clause-met c =
    let below = c.if-near-len.true in
    let len = c.len.ensures in
    let ok = c.args.shades.now.ok in
    let ss = c.args.shades.now.items in
    let within : c.args.near < length ss = omega arith in
    given_back (word_of c.args.heap.now) c.args.obj c.args.run.offset c.args.from c.meet_lent.result.0
    c.index_mut-shade.result.now c.meet_lent.new.shade c.meet_lent.result.1 ss c.args.near c.meet_lent.ensures.met
    within c.index_mut-shade.ensures.value

pub returns-else-near-len-clause-met : goal.returns-else-near-len-clause-met
returns-else-near-len-clause-met c first v same lawful fits e =
    nothing_lent c.args.shades.now.items v
    (met_all (word_of c.args.heap.now) first c.args.obj (offsets_from c.args.run.offset c.args.from)) same fits e

pub returns-then-near-len-clause-length : goal.returns-then-near-len-clause-length
returns-then-near-len-clause-length c = length-set c.args.shades.now.items c.args.near c.meet_lent.new.shade

pub returns-then-near-len-clause-others : goal.returns-then-near-len-clause-others
returns-then-near-len-clause-others c =
    λ k d ne. get_or-set_other c.args.shades.now.items c.args.near k c.meet_lent.new.shade d ne
