use Rattle.std.proofs.Common.{ℕ, ◌||◌, ap, sym, ◌∙◌, arith, subst}
use Rattle.clr_types.specs.Rising.{IsIn}
use Rattle.clr_heap.proofs.Storing.{memory_index-shapes}
use Rattle.clr_mark.specs.Marks.{is_condemned_place}
use Rattle.clr_mark.proofs.Graying.{same_condemned}
use Rattle.clr_scan.specs.References.{IsNamedByOlder}
use Rattle.clr_scan.proofs.CardScans.{listed-on, same-age}
use Rattle.clr_scan.proofs.GatheredWords.{gathered_scan, scans_joined}
use Rattle.clr_scan.proofs.SlotScans.{younger_joined, younger_parts}
use Rattle.clr_scan.proofs.WordScans.{word_scan_starts}
use Rattle.clr_scan.proofs.together.scan_together.Goals as goal

pub loop-at-init : goal.loop-at-init
loop-at-init c = (
  word_scan_starts c.args.types.now c.args.heap.now c.args.marker.now c.args.older.item c.args.first c.args.older.age
      c.args.from c.requires.gray,
  omega arith,
  c.requires.order,
  c.new-targets.ensures,
)

pub gather_named-met-requires : goal.gather_named-met-requires
gather_named-met-requires c =
    let inv = c.loop-at.invariant in
    let s = inv.0.scanned in
    record {
      closed = inv.0.gray.closed;
      listed = listed-on c.args.types.now c.args.heap.now c.loop-at.heap c.args.older.item c.requires.gray.closed.heap
          c.requires.gray.closed.held s.remarked c.requires.listed;
      references = c.requires.references;
      order = inv.2;
      segment = c.requires.segment
          ∙ sym (memory_index-shapes c.loop-at.heap.memories c.args.heap.now.memories c.args.older.item.place
          s.remarked.shape.memories);
      age = c.requires.age
          ∙ sym (same-age c.args.types.now c.args.heap.now c.loop-at.heap c.args.older.item.place s.remarked);
      older = ap (λ (g : ℕ). is_condemned_place c.loop-at.heap g c.args.older.item.place)
          (c.oldest-oldest.ensures ∙ s.oldest)
          ∙ same_condemned c.args.types.now c.args.heap.now c.loop-at.heap c.args.marker.now.oldest
          c.args.older.item.place s.remarked ∙ c.requires.older;
      empty = inv.3;
    }

pub mark_gathered-requires : goal.mark_gathered-requires
mark_gathered-requires c =
    let P : ℕ → Type 0 = λ g. (y : ℕ) → IsIn y c.gather_named-met.new.targets
    → IsNamedByOlder c.args.types.now c.loop-at.heap g y in
    record {
      gray = c.loop-at.invariant.0.gray;
      named = subst P c.oldest-oldest.ensures c.gather_named-met.ensures.gathered.named;
    }

pub loop-at-preserved : goal.loop-at-preserved
loop-at-preserved c =
    let rows = c.args.types.now in
    let inv = c.loop-at.invariant in
    let low = inv.1 in
    let met = c.gather_named-met.result.0 in
    let below = c.gather_named-met.result.1 in
    let up = c.gather_named-met.ensures.from in
    let within = c.gather_named-met.ensures.within in
    let part = gathered_scan rows c.loop-at.heap c.oldest-oldest.result c.args.older.age c.args.first c.loop-at.at met
    c.gather_named-met.new.targets below c.gather_named-met.ensures.gathered c.args.older.item
    (λ t l. c.requires.references t (omega (arith, within, l))) c.mark_gathered.new.heap
    c.loop-at.marker c.mark_gathered.new.marker c.oldest-oldest.ensures c.mark_gathered.ensures.gray
    c.mark_gathered.ensures.scanned c.mark_gathered.ensures.marked in (
      scans_joined rows c.args.heap.now c.loop-at.heap c.mark_gathered.new.heap c.args.marker.now c.loop-at.marker
          c.mark_gathered.new.marker c.args.older.item c.args.first c.args.older.age c.args.from c.loop-at.at met
          c.loop-at.younger below c.requires.gray.closed c.requires.listed inv.0 part
          (c.loop-at.younger || below) low up
          (younger_parts c.loop-at.younger below) (younger_joined c.loop-at.younger below),
      omega (arith, low, up),
      within,
      c.mark_gathered.ensures.empty,
    )

pub loop-at-smaller : goal.loop-at-smaller
loop-at-smaller c =
    let some = c.gather_named-met.ensures.some c.loop-at-test.true in
    let within = c.gather_named-met.ensures.within in
    omega (arith, some, within)

pub returns : goal.returns
returns c =
    let s = c.loop-at.invariant.0 in
    let past = c.loop-at-test.false in
    record {
      gray = s.gray;
      scanned = s.scanned;
      traced = λ j l b. s.traced j l (omega (arith, past, b)) (c.requires.references j b);
      silent = let most = c.loop-at.invariant.2 in λ all. s.silent (λ j l b _. all j l (omega (arith, most, b)));
      clear = λ none j l b. s.clear none j l (omega (arith, past, b)) (c.requires.references j b);
    }
