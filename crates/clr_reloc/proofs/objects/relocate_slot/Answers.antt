use Rattle.std.proofs.Common.{◌≡◌, ◌+◌, ◌<◌, ◌||◌, ◌∙◌, ap, true, false, refl, ℕ, Bool, arith, eqb, ◌/◌, subst, sym}
use Rattle.std.proofs.lemmas.Bool.{eq-eqb}
use Rattle.clr_types.specs.Segments.{generation, Layout}
use Rattle.clr_cards.specs.Cards.{is_card_set}
use Rattle.clr_heap.specs.View.{frame, HeapView, word_of}
use Rattle.clr_model.specs.Compaction.{moved_by}
use Rattle.clr_pinq.specs.Queue.{logical}
use Rattle.clr_reloc.specs.Relocated.{rebounded}
use Rattle.clr_reloc.proofs.Nulls.{null_oldest, null_stays}
use Rattle.clr_reloc.proofs.OneObject.{beside_refl, keeps_refl}
use Rattle.clr_reloc.proofs.Stores.{slot_has, slot_stays, slot_word_is}
use Rattle.clr_reloc.proofs.objects.relocate_slot.Goals as goal

pub logical_word_at-named-requires-clause-word : goal.logical_word_at-named-requires-clause-word
logical_word_at-named-requires-clause-word c =
    let (view, now, vs, (r, near), s) = c.requires.can in
    slot_has c.args.work.now.types.now view now c.args.heap.now c.args.work.now.bricks.now c.args.pins.now.entries
    c.args.work.now.g vs c.args.work.now.planned.start1 c.args.work.now.planned.start0 r
    (c.args.object.now.found.place + c.args.offset) s c.requires.least

pub returns-then-named-eq0-clause-gone : goal.returns-then-named-eq0-clause-gone
returns-then-named-eq0-clause-gone c view now vs (r, near) s =
    let rows = c.args.work.now.types.now in
    let h = c.args.heap.now in
    let bricks = c.args.work.now.bricks.now in
    let es = c.args.pins.now.entries in
    let g = c.args.work.now.g in
    let planned = c.args.work.now.planned in
    let a = c.args.object.now.found.place + c.args.offset in
    let none : logical es (word_of h) a ≡ 0 = sym c.logical_word_at-named.ensures ∙ c.if-named-eq0.true in
    let stays = null_stays rows view now h bricks es g vs planned.start1 planned.start0 r a s c.requires.least none in
    let is : word_of view a ≡ 0 =
    sym (slot_word_is rows view now h bricks es g vs planned.start1 planned.start0 r a s c.requires.least) ∙ none in
    let goes : moved_by vs (word_of view a) ≡ 0 = sym stays ∙ is in
    record {
      relocating = (
        slot_stays rows view now h bricks es g vs planned.start1 planned.start0 r a s c.requires.least stays,
        near,
      );
      telling = keeps_refl rows view g vs es h;
      carded = λ less. absurd (null_oldest (rebounded (frame view) planned) c.args.object.now.age c.requires.age
          (subst (λ (x : ℕ). generation (rebounded (frame view) planned) x < c.args.object.now.age) goes less));
    }

pub returns-then-named-eq0-clause-beside : goal.returns-then-named-eq0-clause-beside
returns-then-named-eq0-clause-beside c = beside_refl c.args.cards.now c.args.pins.now

pub returns-then-planned_gen-object-clause-gone : goal.returns-then-planned_gen-object-clause-gone
returns-then-planned_gen-object-clause-gone c view now vs r s =
    let (goes, gone, keeps) = c.move_slot-target.ensures.gone view now vs r s in
    let card = (c.args.object.now.to + c.args.offset) / 2048 in
    record {
      relocating = gone;
      telling = keeps;
      carded = λ less. c.set.ensures.cards card
          ∙ ap (λ t. t || is_card_set c.args.cards.now card) (eq-eqb card card refl);
    }

pub returns-then-planned_gen-object-clause-beside : goal.returns-then-planned_gen-object-clause-beside
returns-then-planned_gen-object-clause-beside c = record {
  set = λ i on. c.set.ensures.cards i ∙ either (eqb i ((c.args.object.now.to + c.args.offset) / 2048))
      (is_card_set c.args.cards.now i) on;
  cards = c.set.ensures.spans;
  saved = c.move_slot-target.ensures.saved;
  count = c.move_slot-target.ensures.count;
  spare = c.move_slot-target.ensures.spare;
}
  where
    either : (s t : Bool) → t ≡ true → (s || t) ≡ true
    either true t e = refl
    either false t e = e

pub returns-else-planned_gen-object-clause-gone : goal.returns-else-planned_gen-object-clause-gone
returns-else-planned_gen-object-clause-gone c view now vs r s =
    let (goes, gone, keeps) = c.move_slot-target.ensures.gone view now vs r s in
    let layout = rebounded (frame view) c.args.work.now.planned in
    let word = word_of view (c.args.object.now.found.place + c.args.offset) in
    let same : frame c.move_slot-target.new.heap ≡ frame view = ap (λ (h : HeapView). frame h) gone.0.shape.others in
    let age : c.planned_gen.result ≡ generation layout (moved_by vs word) =
    c.planned_gen.ensures
    ∙ ap (λ (l : Layout). generation (rebounded l c.args.work.now.planned) c.move_slot-target.result) same
    ∙ ap (generation layout) goes in
    let no = c.if-planned_gen-object.false in
    record { relocating = gone; telling = keeps; carded = λ less. absurd (omega (arith, age, no, less)) }

pub returns-else-planned_gen-object-clause-beside : goal.returns-else-planned_gen-object-clause-beside
returns-else-planned_gen-object-clause-beside c = record {
  set = λ i on. on;
  cards = refl;
  saved = c.move_slot-target.ensures.saved;
  count = c.move_slot-target.ensures.count;
  spare = c.move_slot-target.ensures.spare;
}
