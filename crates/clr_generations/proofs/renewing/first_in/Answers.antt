use Rattle.std.proofs.Common.{◌≡◌, ◌+◌, ◌*◌, min, ap, sym, ◌∙◌, rules, FitsSigned, w16}
use Rattle.std.proofs.lemmas.Int.{to_z-of_z}
use Rattle.clr_types.specs.declared.segment.SegInfo.{SegInfo}
use Rattle.clr_bricks.specs.Bricks.{entry_at, root_entry}
use Rattle.clr_generations.specs.Renewing as renewing
use Rattle.clr_generations.proofs.FirstCounted.{can_go_on, found_in, found_none, named_below, named_first, named_search}
use Rattle.clr_generations.proofs.FirstCounted.{start_begins}
use Rattle.clr_generations.proofs.renewing.first_in.Goals as goal

pub word_at-requires-clause-word : goal.word_at-requires-clause-word
word_at-requires-clause-word c =
    let rows = c.args.types.now in
    let h = c.args.heap.now in
    let heap = c.info-end.ensures.heap in
    let k = c.args.k in
    let brick = c.args.brick in
    let counts = renewing.passes c.args.counted in
    let entry = entry_at c.args.bricks.now brick in
    let offset = c.offset_of.result in
    let fits : FitsSigned w16 c.entry-entry.result = search rules in
    let is : entry ≡ root_entry offset =
    sym c.entry-entry.ensures ∙ sym (to_z-of_z w16 c.entry-entry.result fits) ∙ c.offset_of.ensures.named in
    let below = named_below rows h heap c.requires.held c.requires.no_contexts k c.requires.in_range brick c.requires.low
    c.requires.high c.args.young entry c.requires.told offset is in
    let reached = named_search rows h heap c.requires.held c.requires.no_contexts k c.requires.in_range brick
    c.requires.low c.requires.high c.args.young entry c.requires.told c.requires.border counts offset is in
    let can = can_go_on rows h heap c.requires.held c.requires.no_contexts k c.requires.in_range counts
    (4096 * brick + offset) (4096 * brick + offset) reached below in
    can.item.mt

pub word_at-requires-clause-segment : goal.word_at-requires-clause-segment
word_at-requires-clause-segment c =
    let rows = c.args.types.now in
    let h = c.args.heap.now in
    let heap = c.info-end.ensures.heap in
    let k = c.args.k in
    let brick = c.args.brick in
    let counts = renewing.passes c.args.counted in
    let entry = entry_at c.args.bricks.now brick in
    let offset = c.offset_of.result in
    let fits : FitsSigned w16 c.entry-entry.result = search rules in
    let is : entry ≡ root_entry offset =
    sym c.entry-entry.ensures ∙ sym (to_z-of_z w16 c.entry-entry.result fits) ∙ c.offset_of.ensures.named in
    let below = named_below rows h heap c.requires.held c.requires.no_contexts k c.requires.in_range brick c.requires.low
    c.requires.high c.args.young entry c.requires.told offset is in
    let reached = named_search rows h heap c.requires.held c.requires.no_contexts k c.requires.in_range brick
    c.requires.low c.requires.high c.args.young entry c.requires.told c.requires.border counts offset is in
    let can = can_go_on rows h heap c.requires.held c.requires.no_contexts k c.requires.in_range counts
    (4096 * brick + offset) (4096 * brick + offset) reached below in
    can.mt_in

pub returns-then-passes : goal.returns-then-passes
returns-then-passes c =
    let rows = c.args.types.now in
    let h = c.args.heap.now in
    let heap = c.info-end.ensures.heap in
    let k = c.args.k in
    let brick = c.args.brick in
    let counts = renewing.passes c.args.counted in
    let entry = entry_at c.args.bricks.now brick in
    let offset = c.offset_of.result in
    let fits : FitsSigned w16 c.entry-entry.result = search rules in
    let is : entry ≡ root_entry offset =
    sym c.entry-entry.ensures ∙ sym (to_z-of_z w16 c.entry-entry.result fits) ∙ c.offset_of.ensures.named in
    let passes = ap counts (sym c.word_at.ensures) ∙ sym c.passes.ensures ∙ c.if-passes.true in
    named_first rows h heap c.requires.held c.requires.no_contexts k c.requires.in_range brick c.requires.low
    c.requires.high c.args.young entry c.requires.told counts offset is passes

pub first_counted-requires-clause-begins : goal.first_counted-requires-clause-begins
first_counted-requires-clause-begins c =
    start_begins c.args.types.now c.args.heap.now c.info-end.ensures.heap c.requires.held c.requires.no_contexts
    c.args.k c.requires.in_range c.args.brick c.requires.low c.requires.high c.args.young
    (entry_at c.args.bricks.now c.args.brick) c.requires.told c.requires.border c.in-Some.start c.in-Some.ensures

pub returns-in-Some : goal.returns-in-Some
returns-in-Some c =
    let end = ap (λ (s : SegInfo). min s.end (4096 * c.args.brick + 4096)) c.info-end.ensures.value in
    found_in c.args.types.now c.args.heap.now c.info-end.ensures.heap c.requires.held c.requires.no_contexts c.args.k
    c.requires.in_range c.args.brick c.requires.low c.requires.high c.args.young
    (entry_at c.args.bricks.now c.args.brick) c.requires.told (renewing.passes c.args.counted) c.in-Some.start
    c.min.result c.in-Some.ensures (c.min.ensures ∙ end) c.first_counted.result c.first_counted.ensures

pub returns-in-None : goal.returns-in-None
returns-in-None c =
    found_none c.args.types.now c.args.heap.now c.info-end.ensures.heap c.requires.held c.requires.no_contexts c.args.k
    c.requires.in_range c.args.brick c.requires.low c.requires.high c.args.young
    (entry_at c.args.bricks.now c.args.brick) c.requires.told (renewing.passes c.args.counted) c.in-None.ensures
