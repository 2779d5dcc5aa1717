use Rattle.std.proofs.Common.{◌≡◌, ℕ, ◌<◌, ◌≤◌, List, length, [], ap, sym, ◌∙◌, subst, arith}
use Rattle.clr_bricks.specs.Bricks.{entry_at}
use Rattle.clr_cards.specs.Cards.{is_card_set}
use Rattle.clr_heap.specs.View.{HeapView}
use Rattle.clr_scan.specs.OldParts.{HasOldPart}
use Rattle.clr_scan.proofs.AllCards.{bricks-on, card_scan_ends, card_scan_next, card_scan_starts, entries-on}
use Rattle.clr_scan.proofs.AllCards.{part-on}
use Rattle.clr_mark.proofs.Held.{remarked-trans}
use Rattle.clr_mark.proofs.Remarking.{same_segments}
use Rattle.clr_scan.proofs.RunScans.{cards-on, law-on}
use Rattle.clr_scan.proofs.TableLaws.{bricks_have, cards_have, cards_tell, entries_stand, tables_on}
use Rattle.clr_scan.proofs.cards.scan_cards.Goals as goal

past_all : {X : Type 0} (xs : List X) (count done k : ℕ) → count ≡ length xs → count ≤ done → k < length xs → k < done
past_all xs count done k same past l = omega arith

pub loop-k-init : goal.loop-k-init
loop-k-init c = card_scan_starts c.args.types.now c.args.heap.now c.args.marker.now c.args.cards.now c.requires.gray
    (cards_tell c.args.types.now c.args.heap.now c.requires.gray.closed (is_card_set c.args.cards.now)
    c.requires.tables.card_law)

pub scan_segment-requires : goal.scan_segment-requires
scan_segment-requires c =
    let inside : c.loop-k.k < length c.args.heap.now.segments =
    (let n = c.segments-count.ensures.count in let l = c.loop-k-test.true in omega (arith, n, l)) in
    let r = c.loop-k.invariant.scanned.remarked in
    let n = same_segments c.args.heap.now c.loop-k.heap r.shape in
    record {
      gray = c.loop-k.invariant.gray;
      in_range = omega (arith, n, inside);
      no_contexts = ap (λ (g : HeapView). g.rests) r.shape.others ∙ c.requires.no_contexts;
      part = subst (λ g. HasOldPart c.args.types.now c.loop-k.heap g c.loop-k.k)
          (sym c.loop-k.invariant.scanned.oldest)
          (part-on c.args.types.now c.args.heap.now c.loop-k.heap c.requires.gray.closed
          c.loop-k.invariant.scanned.remarked c.args.marker.now.oldest c.loop-k.k inside
          (c.requires.parts c.loop-k.k inside));
      card_law = law-on c.args.types.now c.args.heap.now c.loop-k.heap c.requires.gray.closed
          c.loop-k.invariant.scanned.remarked (is_card_set c.loop-k.cards) c.loop-k.invariant.settled.law;
      cards = cards-on c.args.heap.now c.loop-k.heap c.args.cards.now c.loop-k.cards r.shape.others
          c.loop-k.invariant.settled.spans
          (cards_have c.args.heap.now c.args.cards.now c.requires.gray.closed.heap c.requires.tables.cards);
      entries = entries-on c.args.types.now c.args.heap.now c.loop-k.heap c.requires.gray.closed
          c.loop-k.invariant.scanned.remarked (entry_at c.args.bricks.now)
          (entries_stand c.args.types.now c.args.heap.now (entry_at c.args.bricks.now) c.requires.tables.brick_law);
      bricks = bricks-on c.args.types.now c.args.heap.now c.loop-k.heap c.requires.gray.closed
          c.loop-k.invariant.scanned.remarked c.args.bricks.now
          (bricks_have c.args.heap.now c.args.bricks.now c.requires.gray.closed.heap c.requires.tables.bricks);
    }

pub loop-k-preserved : goal.loop-k-preserved
loop-k-preserved c =
    let scan = c.scan_segment.ensures in
    card_scan_next c.args.types.now c.args.heap.now c.loop-k.heap c.args.marker.now c.loop-k.marker c.args.cards.now
    c.loop-k.cards c.loop-k.k c.requires.gray.closed c.loop-k.invariant c.scan_segment.new.heap
    c.scan_segment.new.marker c.scan_segment.new.cards
    (let n = c.segments-count.ensures.count in let l = c.loop-k-test.true in omega (arith, n, l)) scan.gray
    scan.scanned scan.traced scan.settled scan.cleared

pub returns : goal.returns
returns c =
    let inv = c.loop-k.invariant in
    let words = remarked-trans c.args.types.now c.args.heap.now c.loop-k.heap c.drain_slots.new.heap
    c.requires.gray.closed.heap c.requires.gray.closed.held inv.scanned.remarked c.drain_slots.ensures.words in
    record {
      marker = c.drain_slots.ensures.marker
          ∙ (λ i. record c.loop-k.marker
          { stack = []; capacity = inv.scanned.capacity i; ranges = []; oldest = inv.scanned.oldest i });
      gray = c.drain_slots.ensures.gray;
      words = words;
      marked = card_scan_ends c.args.types.now c.args.heap.now c.loop-k.heap c.args.marker.now c.loop-k.marker
          c.args.cards.now c.loop-k.cards c.loop-k.k c.requires.gray.closed c.loop-k.invariant c.drain_slots.new.heap
          (let n = c.segments-count.ensures.count in let l = c.loop-k-test.false in omega (arith, n, l))
          c.requires.parts c.drain_slots.ensures.marked;
      tables = tables_on c.args.types.now c.args.heap.now c.requires.gray.closed c.drain_slots.new.heap
          c.args.cards.now c.loop-k.cards c.args.bricks.now words c.requires.tables inv.settled.law inv.settled.spans;
      kept = inv.settled.kept;
      cleared = λ k l. inv.cleared k
          (past_all c.args.heap.now.segments c.segments-count.result c.loop-k.k k c.segments-count.ensures.count
          c.loop-k-test.false l) l;
    }
