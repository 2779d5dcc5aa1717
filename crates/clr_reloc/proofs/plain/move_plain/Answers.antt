use Rattle.std.proofs.Common.{◌≡◌, ◌∙◌, ap, sym, ℕ, Option}
use Rattle.clr_heap.specs.View.{word_of}
use Rattle.clr_model.specs.Compaction.{moved_by}
use Rattle.clr_pinq.specs.Queue.{logical, or_else}
use Rattle.clr_reloc.proofs.OneObject.{keeps_refl}
use Rattle.clr_reloc.proofs.Stores.{plain_keeps, plain_stored, slot_goes, slot_has, slot_stays, slot_told, slot_word_is}
use Rattle.clr_reloc.proofs.Seen.{stretch_before, stretch_now}
use Rattle.clr_reloc.proofs.plain.move_plain.Goals as goal

pub destination_near-target-requires-clause-told : goal.destination_near-target-requires-clause-told
destination_near-target-requires-clause-told c =
    let (view, now, vs, (r, near), s) = c.requires.can in
    let h = c.args.heap.now in
    let es = c.args.pins.now.entries in
    let rows = c.args.work.now.types.now in
    let own : c.args.named ≡ logical es (word_of h) c.args.a
    = c.requires.named ∙ sym (ap (λ (o : Option ℕ). or_else o (word_of h c.args.a)) c.requires.plain) in
    let told = slot_told rows view now h c.args.work.now.bricks.now es c.args.work.now.g vs
    c.args.work.now.planned.start1 c.args.work.now.planned.start0 r c.args.a s c.requires.least in
    let may = slot_goes rows view now h c.args.work.now.bricks.now es c.args.work.now.g vs
    c.args.work.now.planned.start1 c.args.work.now.planned.start0 r c.args.a s c.requires.least
    c.args.named own in
    (rows, now, es, vs, c.args.work.now.planned.start1, c.args.work.now.planned.start0, told, may)

pub returns-then-target-named : goal.returns-then-target-named
returns-then-target-named c = record {
  gone = λ view now vs q s.
      let (r, near) = q in
      let h = c.args.heap.now in
      let es = c.args.pins.now.entries in
      let rows = c.args.work.now.types.now in
      let own : c.args.named ≡ logical es (word_of h) c.args.a
      = c.requires.named ∙ sym (ap (λ (o : Option ℕ). or_else o (word_of h c.args.a)) c.requires.plain) in
      let told = slot_told rows view now h c.args.work.now.bricks.now es c.args.work.now.g vs
      c.args.work.now.planned.start1 c.args.work.now.planned.start0 r c.args.a s c.requires.least in
      let may = slot_goes rows view now h c.args.work.now.bricks.now es c.args.work.now.g vs
      c.args.work.now.planned.start1 c.args.work.now.planned.start0 r c.args.a s c.requires.least
      c.args.named own in
      let named : c.args.named ≡ word_of view c.args.a = own
      ∙ slot_word_is rows view now h c.args.work.now.bricks.now es c.args.work.now.g vs
      c.args.work.now.planned.start1 c.args.work.now.planned.start0 r c.args.a s c.requires.least in
      let before = stretch_now view now r.underway.shape c.args.work.now.g vs c.args.last.now near in
      let after = stretch_before view now r.underway.shape c.args.work.now.g vs c.destination_near-target.new.last
      (c.destination_near-target.ensures.met rows now es vs c.args.work.now.planned.start1
      c.args.work.now.planned.start0 told may before) in
      let goes : c.destination_near-target.result ≡ moved_by vs (word_of view c.args.a) =
      c.destination_near-target.ensures.goes rows now es vs c.args.work.now.planned.start1
      c.args.work.now.planned.start0 told may before ∙ ap (moved_by vs) named in
      let stays = sym named ∙ sym c.if-target-named.true ∙ goes in
      let still = slot_stays rows view now h c.args.work.now.bricks.now es c.args.work.now.g vs
      c.args.work.now.planned.start1 c.args.work.now.planned.start0 r c.args.a s c.requires.least stays in
      (goes, (still, after), keeps_refl rows view c.args.work.now.g vs es h);
}

pub set_word_at-requires-clause-word : goal.set_word_at-requires-clause-word
set_word_at-requires-clause-word c =
    let (view, now, vs, (r, near), s) = c.requires.can in
    let h = c.args.heap.now in
    let es = c.args.pins.now.entries in
    let rows = c.args.work.now.types.now in
    let own : c.args.named ≡ logical es (word_of h) c.args.a
    = c.requires.named ∙ sym (ap (λ (o : Option ℕ). or_else o (word_of h c.args.a)) c.requires.plain) in
    slot_has rows view now h c.args.work.now.bricks.now es c.args.work.now.g vs
    c.args.work.now.planned.start1 c.args.work.now.planned.start0 r c.args.a s c.requires.least

pub returns : goal.returns
returns c = record {
  gone = λ view now vs q s.
      let (r, near) = q in
      let h = c.args.heap.now in
      let es = c.args.pins.now.entries in
      let rows = c.args.work.now.types.now in
      let own : c.args.named ≡ logical es (word_of h) c.args.a
      = c.requires.named ∙ sym (ap (λ (o : Option ℕ). or_else o (word_of h c.args.a)) c.requires.plain) in
      let told = slot_told rows view now h c.args.work.now.bricks.now es c.args.work.now.g vs
      c.args.work.now.planned.start1 c.args.work.now.planned.start0 r c.args.a s c.requires.least in
      let may = slot_goes rows view now h c.args.work.now.bricks.now es c.args.work.now.g vs
      c.args.work.now.planned.start1 c.args.work.now.planned.start0 r c.args.a s c.requires.least
      c.args.named own in
      let named : c.args.named ≡ word_of view c.args.a = own
      ∙ slot_word_is rows view now h c.args.work.now.bricks.now es c.args.work.now.g vs
      c.args.work.now.planned.start1 c.args.work.now.planned.start0 r c.args.a s c.requires.least in
      let before = stretch_now view now r.underway.shape c.args.work.now.g vs c.args.last.now near in
      let after = stretch_before view now r.underway.shape c.args.work.now.g vs c.destination_near-target.new.last
      (c.destination_near-target.ensures.met rows now es vs c.args.work.now.planned.start1
      c.args.work.now.planned.start0 told may before) in
      let goes : c.destination_near-target.result ≡ moved_by vs (word_of view c.args.a) =
      c.destination_near-target.ensures.goes rows now es vs c.args.work.now.planned.start1
      c.args.work.now.planned.start0 told may before ∙ ap (moved_by vs) named in
      let new = c.set_word_at.new.self in
      let done = plain_stored rows view now h c.args.work.now.bricks.now es c.args.work.now.g vs
      c.args.work.now.planned.start1 c.args.work.now.planned.start0 r c.args.a s c.requires.least
      c.requires.plain new c.destination_near-target.result goes c.set_word_at.ensures in
      let keeps = plain_keeps rows view now h c.args.work.now.bricks.now es c.args.work.now.g vs
      c.args.work.now.planned.start1 c.args.work.now.planned.start0 r c.args.a s c.requires.least
      c.requires.plain new c.destination_near-target.result goes c.set_word_at.ensures in
      (goes, (done, after), keeps);
}
