use Rattle.std.proofs.Common.{◌≡◌, ◌∙◌, ap, sym, subst}
use Rattle.clr_heap.specs.View.{word_of}
use Rattle.clr_model.specs.Compaction.{moved_by}
use Rattle.clr_pinq.specs.Queue.{QueueView}
use Rattle.clr_reloc.specs.Relocating.{SavesSame}
use Rattle.clr_reloc.proofs.OneObject.{keeps_refl, saves_refl}
use Rattle.clr_reloc.proofs.Stores.{saves_with, slot_goes, slot_has, slot_keeps, slot_stays, slot_stored, slot_told}
use Rattle.clr_reloc.proofs.Stores.{slot_word_is}
use Rattle.clr_reloc.proofs.Seen.{stretch_before, stretch_now}
use Rattle.clr_reloc.proofs.objects.move_slot.Goals as goal

pub destination_near-target-requires-clause-told : goal.destination_near-target-requires-clause-told
destination_near-target-requires-clause-told c =
    let (view, now, vs, (r, near), s) = c.requires.can in (
      c.args.work.now.types.now,
      now,
      c.args.pins.now.entries,
      vs,
      c.args.work.now.planned.start1,
      c.args.work.now.planned.start0,
      slot_told c.args.work.now.types.now view now c.args.heap.now c.args.work.now.bricks.now c.args.pins.now.entries
          c.args.work.now.g vs c.args.work.now.planned.start1 c.args.work.now.planned.start0 r
          c.args.a s c.requires.least,
      slot_goes c.args.work.now.types.now view now c.args.heap.now c.args.work.now.bricks.now c.args.pins.now.entries
          c.args.work.now.g vs c.args.work.now.planned.start1 c.args.work.now.planned.start0 r
          c.args.a s c.requires.least c.args.named c.requires.named,
    )

pub returns-then-target-named-clause-gone : goal.returns-then-target-named-clause-gone
returns-then-target-named-clause-gone c view now vs q s =
    let (r, near) = q in
    let h = c.args.heap.now in
    let es = c.args.pins.now.entries in
    let told = slot_told c.args.work.now.types.now view now h c.args.work.now.bricks.now es c.args.work.now.g vs
    c.args.work.now.planned.start1 c.args.work.now.planned.start0 r c.args.a s c.requires.least in
    let may = slot_goes c.args.work.now.types.now view now h c.args.work.now.bricks.now es c.args.work.now.g vs
    c.args.work.now.planned.start1 c.args.work.now.planned.start0 r c.args.a s c.requires.least
    c.args.named c.requires.named in
    let named : c.args.named ≡ word_of view c.args.a = c.requires.named
    ∙ slot_word_is c.args.work.now.types.now view now h c.args.work.now.bricks.now es c.args.work.now.g vs
    c.args.work.now.planned.start1 c.args.work.now.planned.start0 r c.args.a s c.requires.least in
    let before = stretch_now view now r.underway.shape c.args.work.now.g vs c.args.last.now near in
    let after = stretch_before view now r.underway.shape c.args.work.now.g vs c.destination_near-target.new.last
    (c.destination_near-target.ensures.met c.args.work.now.types.now now es vs c.args.work.now.planned.start1
    c.args.work.now.planned.start0 told may before) in
    let goes : c.destination_near-target.result ≡ moved_by vs (word_of view c.args.a) =
    c.destination_near-target.ensures.goes c.args.work.now.types.now now es vs c.args.work.now.planned.start1
    c.args.work.now.planned.start0 told may before ∙ ap (moved_by vs) named in (
      goes,
      (
        slot_stays c.args.work.now.types.now view now h c.args.work.now.bricks.now es c.args.work.now.g vs
            c.args.work.now.planned.start1 c.args.work.now.planned.start0 r c.args.a s c.requires.least
            (sym named ∙ sym c.if-target-named.true ∙ goes),
        after,
      ),
      keeps_refl c.args.work.now.types.now view c.args.work.now.g vs es h,
    )

pub returns-then-target-named-clause-saved : goal.returns-then-target-named-clause-saved
returns-then-target-named-clause-saved c = saves_refl c.args.pins.now.entries

pub set_logical_word_at-requires-clause-word : goal.set_logical_word_at-requires-clause-word
set_logical_word_at-requires-clause-word c =
    let (view, now, vs, (r, near), s) = c.requires.can in
    slot_has c.args.work.now.types.now view now c.args.heap.now c.args.work.now.bricks.now c.args.pins.now.entries
    c.args.work.now.g vs c.args.work.now.planned.start1 c.args.work.now.planned.start0 r
    c.args.a s c.requires.least

pub returns-clause-gone : goal.returns-clause-gone
returns-clause-gone c view now vs q s =
    let (r, near) = q in
    let h = c.args.heap.now in
    let es = c.args.pins.now.entries in
    let target = c.destination_near-target.result in
    let told = slot_told c.args.work.now.types.now view now h c.args.work.now.bricks.now es c.args.work.now.g vs
    c.args.work.now.planned.start1 c.args.work.now.planned.start0 r c.args.a s c.requires.least in
    let may = slot_goes c.args.work.now.types.now view now h c.args.work.now.bricks.now es c.args.work.now.g vs
    c.args.work.now.planned.start1 c.args.work.now.planned.start0 r c.args.a s c.requires.least
    c.args.named c.requires.named in
    let named : c.args.named ≡ word_of view c.args.a = c.requires.named
    ∙ slot_word_is c.args.work.now.types.now view now h c.args.work.now.bricks.now es c.args.work.now.g vs
    c.args.work.now.planned.start1 c.args.work.now.planned.start0 r c.args.a s c.requires.least in
    let before = stretch_now view now r.underway.shape c.args.work.now.g vs c.args.last.now near in
    let after = stretch_before view now r.underway.shape c.args.work.now.g vs c.destination_near-target.new.last
    (c.destination_near-target.ensures.met c.args.work.now.types.now now es vs c.args.work.now.planned.start1
    c.args.work.now.planned.start0 told may before) in
    let goes : c.destination_near-target.result ≡ moved_by vs (word_of view c.args.a) =
    c.destination_near-target.ensures.goes c.args.work.now.types.now now es vs c.args.work.now.planned.start1
    c.args.work.now.planned.start0 told may before ∙ ap (moved_by vs) named in
    let entries = ap (λ (q : QueueView). q.entries) c.set_logical_word_at.ensures.entries in (
      goes,
      (
        slot_stored c.args.work.now.types.now view now h c.args.work.now.bricks.now es c.args.work.now.g vs
            c.args.work.now.planned.start1 c.args.work.now.planned.start0 r c.args.a s c.requires.least
            c.set_logical_word_at.new.heap c.set_logical_word_at.new.self.entries target goes
            c.set_logical_word_at.ensures.heap entries c.set_logical_word_at.ensures.words,
        after,
      ),
      slot_keeps c.args.work.now.types.now view now h c.args.work.now.bricks.now es c.args.work.now.g vs
          c.args.work.now.planned.start1 c.args.work.now.planned.start0 r c.args.a s c.requires.least
          c.set_logical_word_at.new.heap c.set_logical_word_at.new.self.entries target goes
          c.set_logical_word_at.ensures.heap entries c.set_logical_word_at.ensures.words,
    )

pub returns-clause-saved : goal.returns-clause-saved
returns-clause-saved c =
    subst (SavesSame c.args.pins.now.entries) (sym
    (ap (λ (q : QueueView). q.entries) c.set_logical_word_at.ensures.entries))
    (saves_with c.args.pins.now.entries c.args.a c.destination_near-target.result)
