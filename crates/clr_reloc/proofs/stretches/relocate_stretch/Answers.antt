use Rattle.std.proofs.Common.{◌≡◌, false, refl, subst, arith}
use Rattle.std.proofs.lemmas.Bool.{both_ways}
use Rattle.clr_reloc.specs.Relocations.{AreRelocated}
use Rattle.clr_reloc.proofs.ManyItems.{track_order}
use Rattle.clr_reloc.proofs.stretches.relocate_stretch.Goals as goal

pub relocate_items-requires-clause-can : goal.relocate_items-requires-clause-can
relocate_items-requires-clause-can c =
    let (view, now, vs, is, r, track, ahead, goes) = c.requires.can in
    (view, now, vs, is, c.args.end, r, track, ahead, goes, c.requires.cards, omega arith, λ no. absurd (both_ways false refl no))

pub returns-clause-gone : goal.returns-clause-gone
returns-clause-gone c view now vs is r track ahead goes =
    let items = c.relocate_items in
    let ((rest, left), done) = items.ensures.gone view now vs is c.args.end r track ahead goes c.requires.cards
    (omega arith) (λ no. absurd (both_ways false refl no)) in
    let past = items.ensures.past in
    let order = track_order c.args.work.now.types.now view rest items.result c.args.end left in
    let at : items.result ≡ c.args.end = omega (arith, past, order) in
    subst (AreRelocated c.args.work.now view now vs c.args.heap.now items.new.heap c.args.pins.now items.new.pins
    items.new.cards items.new.met.stretch c.args.from) at done
