use Rattle.std.proofs.Common.{◌≡◌, ◌+◌, ◌<◌, ◌||◌, ◌∙◌, ap, true, false, refl, ℕ, Bool, Option, arith, eqb, ◌/◌, subst}
use Rattle.std.proofs.Common.{sym}
use Rattle.std.proofs.lemmas.Bool.{both_ways, eq-eqb}
use Rattle.clr_types.specs.Segments.{ephemeral, generation, Layout, stands_in}
use Rattle.clr_cards.specs.Cards.{is_card_set}
use Rattle.clr_heap.specs.View.{frame, HeapView, word_of}
use Rattle.clr_model.specs.Compaction.{moved_by}
use Rattle.clr_pinq.specs.Queue.{logical, or_else}
use Rattle.clr_reloc.specs.Relocated.{rebounded}
use Rattle.clr_reloc.proofs.Nulls.{null_oldest, null_stays}
use Rattle.clr_reloc.proofs.OneObject.{beside_refl, keeps_refl, saves_refl}
use Rattle.clr_reloc.proofs.RestingWords.{young_from}
use Rattle.clr_reloc.proofs.Stores.{slot_has, slot_stays, slot_word_is}
use Rattle.clr_reloc.proofs.plain.relocate_plain_slot.Goals as goal
use Rattle.clr_reloc.proofs.plain.relocate_plain_slot.Goals.{else-young-target-via-else-young-target}
use Rattle.clr_reloc.proofs.plain.relocate_plain_slot.Goals.{else-young-target-via-then-young-target+else-is_ephemeral}

pub word_at-named-requires-clause-word : goal.word_at-named-requires-clause-word
word_at-named-requires-clause-word c =
    let (view, now, vs, (r, near), s) = c.requires.can in
    let rows = c.args.work.now.types.now in
    let h = c.args.heap.now in
    let bricks = c.args.work.now.bricks.now in
    let es = c.args.pins.now.entries in
    let g = c.args.work.now.g in
    let planned = c.args.work.now.planned in
    let a = c.args.object.now.found.place + c.args.offset in
    slot_has rows view now h bricks es g vs planned.start1 planned.start0 r a s c.requires.least

pub returns-then-named-eq0-clause-gone : goal.returns-then-named-eq0-clause-gone
returns-then-named-eq0-clause-gone c view now vs (r, near) s =
    let rows = c.args.work.now.types.now in
    let h = c.args.heap.now in
    let bricks = c.args.work.now.bricks.now in
    let es = c.args.pins.now.entries in
    let g = c.args.work.now.g in
    let planned = c.args.work.now.planned in
    let a = c.args.object.now.found.place + c.args.offset in
    let own = ap (λ (o : Option ℕ). or_else o (word_of h a)) c.requires.plain in
    let none : logical es (word_of h) a ≡ 0 = own ∙ sym c.word_at-named.ensures ∙ c.if-named-eq0.true in
    let stays = null_stays rows view now h bricks es g vs planned.start1 planned.start0 r a s c.requires.least none in
    let is : word_of view a ≡ 0 =
    sym (slot_word_is rows view now h bricks es g vs planned.start1 planned.start0 r a s c.requires.least) ∙ none in
    let goes : moved_by vs (word_of view a) ≡ 0 = sym stays ∙ is in
    record {
      relocating = (
        slot_stays rows view now h bricks es g vs planned.start1 planned.start0 r a s c.requires.least stays,
        near,
      );
      telling = keeps_refl rows view g vs es h;
      carded = λ less. absurd (null_oldest (rebounded (frame view) planned) c.args.object.now.age c.requires.age
          (subst (λ (x : ℕ). generation (rebounded (frame view) planned) x < c.args.object.now.age) goes less));
    }

pub returns-then-named-eq0-clause-beside : goal.returns-then-named-eq0-clause-beside
returns-then-named-eq0-clause-beside c = beside_refl c.args.cards.now c.args.pins.now

pub returns-then-is_ephemeral-clause-gone : goal.returns-then-is_ephemeral-clause-gone
returns-then-is_ephemeral-clause-gone c view now vs r s =
    let (goes, gone, keeps) = c.move_plain-target.ensures.gone view now vs r s in
    let card = (c.args.object.now.to + c.args.offset) / 2048 in
    record {
      relocating = gone;
      telling = keeps;
      carded = λ less. c.set.ensures.cards card
          ∙ ap (λ t. t || is_card_set c.args.cards.now card) (eq-eqb card card refl);
    }

pub returns-then-is_ephemeral-clause-beside : goal.returns-then-is_ephemeral-clause-beside
returns-then-is_ephemeral-clause-beside c = record {
  set = λ i on. c.set.ensures.cards i ∙ either (eqb i ((c.args.object.now.to + c.args.offset) / 2048))
      (is_card_set c.args.cards.now i) on;
  cards = c.set.ensures.spans;
  saved = saves_refl c.args.pins.now.entries;
  count = refl;
  spare = refl;
}
  where
    either : (s t : Bool) → t ≡ true → (s || t) ≡ true
    either true t e = refl
    either false t e = e

pub returns-else-young-target-clause-gone : goal.returns-else-young-target-clause-gone
returns-else-young-target-clause-gone c view now vs r s =
    let (goes, gone, keeps) = c.move_plain-target.ensures.gone view now vs r s in
    let planned = c.args.work.now.planned in
    let layout = frame view in
    let target = c.move_plain-target.result in
    let age = c.args.object.now.age in
    let word = word_of view (c.args.object.now.found.place + c.args.offset) in
    let same : frame c.move_plain-target.new.heap ≡ layout = ap (λ (h : HeapView). frame h) gone.0.shape.others in
    record {
      relocating = gone;
      telling = keeps;
      carded = λ less.
          let below : generation (rebounded layout planned) target < age =
          subst (λ (x : ℕ). generation (rebounded layout planned) x < age) (sym goes) less in
          elim c.else-young-target.branch [
            | else-young-target-via-then-young-target+else-is_ephemeral w ↦
                let stands = (young_from (stands_in (ephemeral layout) target) target planned.start1 planned.start0 age
                below c.requires.age).0 in
                absurd (both_ways (stands_in (ephemeral layout) target)
                (ap (λ (l : Layout). stands_in (ephemeral l) target) (sym same) ∙ sym w.is_ephemeral.ensures
                ∙ w.if-is_ephemeral.false) stands)
            | else-young-target-via-else-young-target w ↦
                let up = c.requires.young layout target below in
                let down = w.if-young-target.false in
                absurd (omega (arith, up, down))
          ];
    }
