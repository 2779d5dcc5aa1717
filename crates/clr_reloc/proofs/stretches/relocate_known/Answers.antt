use Rattle.std.proofs.Common.{◌∙◌, ◌&&◌, ◌||◌, Bool, false, not, ap, refl, sym}
use Rattle.std.proofs.lemmas.Bool.{both_ways}
use Rattle.clr_view.specs.Marks.{has_mark}
use Rattle.clr_reloc.specs.Relocating.{is_gone_over_in}
use Rattle.clr_reloc.proofs.OneItem.{found_ahead, found_done, found_placed, found_stays, segment_inside}
use Rattle.clr_reloc.proofs.OneObject.{beside_refl}
use Rattle.clr_reloc.proofs.stretches.relocate_known.Goals as goal

pub is_kept-requires : goal.is_kept-requires
is_kept-requires c =
    let (view, now, vs, i, r, q) = c.requires.can in
    segment_inside c.args.work.now view now c.args.heap.now c.args.pins.now vs c.args.met.now.stretch r i
    c.args.found.place c.args.to c.args.cards.now q c.args.met.now.segment c.requires.segment

pub relocate_run-requires-clause-can : goal.relocate_run-requires-clause-can
relocate_run-requires-clause-can c =
    let (view, now, vs, i, r, q) = c.requires.can in
    let told = c.is_kept.ensures ∙ ap (λ (b : Bool). b && (not (is_gone_over_in c.args.heap.now c.args.work.now.g
    c.args.met.now.segment c.args.found.place) || has_mark c.args.mt)) (sym c.requires.object) in
    let ahead = found_ahead c.args.work.now view now c.args.heap.now c.args.pins.now vs c.args.met.now.stretch r i
    c.args.found.place c.args.to c.args.cards.now q c.args.met.now.segment c.requires.segment c.args.found
    c.requires.item c.args.mt c.requires.word c.is_kept.result told
    c.args.met.now.near c.planned_gen-age.result c.if-is_kept.true false (λ no. absurd (both_ways false refl no)) in
    (view, now, vs, r, ahead)

pub relocate_run-requires-clause-placed : goal.relocate_run-requires-clause-placed
relocate_run-requires-clause-placed c =
    let (view, now, vs, i, r, q) = c.requires.can in
    let told = c.is_kept.ensures ∙ ap (λ (b : Bool). b && (not (is_gone_over_in c.args.heap.now c.args.work.now.g
    c.args.met.now.segment c.args.found.place) || has_mark c.args.mt)) (sym c.requires.object) in
    found_placed c.args.work.now view now c.args.heap.now c.args.pins.now vs c.args.met.now.stretch r i
    c.args.found.place c.args.to c.args.cards.now q c.args.met.now.segment c.requires.segment c.args.found
    c.requires.item c.args.mt c.requires.word c.is_kept.result told
    c.args.met.now.near c.planned_gen-age.result c.planned_gen-age.ensures false

pub returns-then-is_kept-clause-gone : goal.returns-then-is_kept-clause-gone
returns-then-is_kept-clause-gone c view now vs i r q =
    let done = c.relocate_run in
    let told = c.is_kept.ensures ∙ ap (λ (b : Bool). b && (not (is_gone_over_in c.args.heap.now c.args.work.now.g
    c.args.met.now.segment c.args.found.place) || has_mark c.args.mt)) (sym c.requires.object) in
    let ahead = found_ahead c.args.work.now view now c.args.heap.now c.args.pins.now vs c.args.met.now.stretch r i
    c.args.found.place c.args.to c.args.cards.now q c.args.met.now.segment c.requires.segment c.args.found
    c.requires.item c.args.mt c.requires.word c.is_kept.result told
    c.args.met.now.near c.planned_gen-age.result c.if-is_kept.true false (λ no. absurd (both_ways false refl no)) in
    found_done c.args.work.now view now c.args.heap.now c.args.pins.now vs c.args.met.now.stretch r i
    c.args.found.place c.args.to c.args.cards.now q c.args.met.now.segment c.requires.segment c.args.found
    c.requires.item c.args.mt c.requires.word c.is_kept.result told
    done.new.heap done.new.pins done.new.cards done.new.last (done.ensures.gone view now vs r ahead)

pub returns-else-is_kept-clause-gone : goal.returns-else-is_kept-clause-gone
returns-else-is_kept-clause-gone c view now vs i r q =
    let told = c.is_kept.ensures ∙ ap (λ (b : Bool). b && (not (is_gone_over_in c.args.heap.now c.args.work.now.g
    c.args.met.now.segment c.args.found.place) || has_mark c.args.mt)) (sym c.requires.object) in
    found_stays c.args.work.now view now c.args.heap.now c.args.pins.now vs c.args.met.now.stretch r i
    c.args.found.place c.args.to c.args.cards.now q c.args.met.now.segment c.requires.segment c.args.found
    c.requires.item c.args.mt c.requires.word c.is_kept.result told
    c.if-is_kept.false

pub returns-else-is_kept-clause-beside : goal.returns-else-is_kept-clause-beside
returns-else-is_kept-clause-beside c = beside_refl c.args.cards.now c.args.pins.now
