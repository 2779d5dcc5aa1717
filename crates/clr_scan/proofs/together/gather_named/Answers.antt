use Rattle.std.proofs.Common.{ℕ, ◌+◌, ◌*◌, ◌||◌, inl, inr, length, ap, arith, subst, ◌∙◌}
use Rattle.std.proofs.lemmas.Bool.{cases_eq}
use Rattle.clr_types.specs.Segments.{generation}
use Rattle.clr_heap.specs.View.{frame, word_of}
use Rattle.clr_generations.proofs.BarrierLaw.{generation-most}
use Rattle.clr_scan.specs.Scans.{AreGathered}
use Rattle.clr_scan.proofs.CardScans.{older-above, ref_has, ref_index, ref_low}
use Rattle.clr_scan.proofs.GatheredWords.{gathering_next, gathering_passed, gathering_starts}
use Rattle.clr_scan.proofs.SlotScans.{slot_clear, slot_silent, younger_joined, younger_parts}
use Rattle.clr_scan.proofs.together.gather_named.Goals.{After-gather_slot-below}
use Rattle.clr_scan.proofs.together.gather_named.Goals as goal

pub loop-older-init : goal.loop-older-init
loop-older-init c = (
  gathering_starts c.args.types.now c.args.heap.now c.args.oldest c.args.older.age c.args.first c.args.from
      c.args.targets.now c.requires.empty,
  omega arith,
  c.requires.order,
  λ _. c.requires.empty,
)

pub looked_for-bound-requires : goal.looked_for-bound-requires
looked_for-bound-requires c =
    let above = older-above c.args.heap.now c.args.oldest c.args.older.item.place c.requires.older in
    let age = c.requires.age in
    omega (arith, above, age)

pub pass_words-met-requires-clause-order : goal.pass_words-met-requires-clause-order
pass_words-met-requires-clause-order c = c.loop-older.invariant.2

pub pass_words-met-requires-clause-some : goal.pass_words-met-requires-clause-some
pass_words-met-requires-clause-some c = let above = c.looked_for-bound.ensures.above in omega (arith, above)

pub pass_words-met-requires-clause-most : goal.pass_words-met-requires-clause-most
pass_words-met-requires-clause-most c =
    let most = generation-most (frame c.args.heap.now) c.args.older.item.place in
    let age = c.requires.age in
    let below = c.looked_for-bound.ensures.most in
    omega (arith, most, age, below)

pub pass_words-met-requires-clause-fits : goal.pass_words-met-requires-clause-fits
pass_words-met-requires-clause-fits c j l =
    ref_low c.args.types.now c.args.heap.now c.requires.closed c.args.older.item c.requires.listed
    (c.args.first + 8 * j) (c.requires.references j l)

pub pass_words-met-requires-clause-words : goal.pass_words-met-requires-clause-words
pass_words-met-requires-clause-words c j l =
    ref_has c.args.types.now c.args.heap.now c.requires.closed c.args.older.item c.requires.listed
    (c.args.first + 8 * j) (c.requires.references j l)

pub pass_words-met-requires-clause-segment : goal.pass_words-met-requires-clause-segment
pass_words-met-requires-clause-segment c j l =
    c.requires.segment
    ∙ ref_index c.args.types.now c.args.heap.now c.requires.closed c.args.older.item c.requires.listed
    (c.args.first + 8 * j) (c.requires.references j l)

pub returns-then-met-to : goal.returns-then-met-to
returns-then-met-to c =
    let P : ℕ → Type 0 = λ n. AreGathered c.args.types.now c.args.heap.now c.args.oldest c.args.older.age c.args.first
    c.args.from n c.loop-older.targets c.loop-older.younger in
    record {
      gathered = subst P c.if-met-to.true
          (gathering_passed c.args.types.now c.args.heap.now c.args.oldest c.args.older.age c.args.first c.args.from
          c.loop-older.at c.loop-older.targets c.loop-older.younger c.loop-older.invariant.0 c.pass_words-met.result
          c.looked_for-bound.result c.looked_for-bound.ensures.bound c.looked_for-bound.ensures.above
          c.pass_words-met.ensures.quiet c.pass_words-met.ensures.from);
      from = c.requires.order;
      within = omega arith;
      some = λ l. l;
    }

pub overflow_mul-met : goal.overflow_mul-met
overflow_mul-met c =
    let within = c.pass_words-met.ensures.within in
    let ne = c.if-met-to.false in
    let low = ref_low c.args.types.now c.args.heap.now c.requires.closed c.args.older.item c.requires.listed
    (c.args.first + 8 * c.pass_words-met.result)
    (c.requires.references c.pass_words-met.result (omega (arith, within, ne))) in
    omega (arith, low)

pub overflow_add-first : goal.overflow_add-first
overflow_add-first c =
    let within = c.pass_words-met.ensures.within in
    let ne = c.if-met-to.false in
    let low = ref_low c.args.types.now c.args.heap.now c.requires.closed c.args.older.item c.requires.listed
    (c.args.first + 8 * c.pass_words-met.result)
    (c.requires.references c.pass_words-met.result (omega (arith, within, ne))) in
    omega (arith, low)

pub gather_slot-below-requires-clause-reference : goal.gather_slot-below-requires-clause-reference
gather_slot-below-requires-clause-reference c =
    let within = c.pass_words-met.ensures.within in
    let ne = c.if-met-to.false in
    c.requires.references c.pass_words-met.result (omega (arith, within, ne))

pub gather_slot-below-requires-clause-room : goal.gather_slot-below-requires-clause-room
gather_slot-below-requires-clause-room c =
    let room = c.room.ensures in
    let some = c.loop-older-test.true in
    omega (arith, room, some)

-- the words up to the one that was met are passed, and this one was looked at
looked_at : (c : After-gather_slot-below)
    → AreGathered c.args.types.now c.args.heap.now c.args.oldest c.args.older.age c.args.first c.args.from
    (c.pass_words-met.result + 1) c.gather_slot-below.new.targets (c.loop-older.younger || c.gather_slot-below.result)
looked_at c =
    let slot = c.gather_slot-below.ensures in
    let h = c.args.heap.now in
    let word = word_of h (c.args.first + 8 * c.pass_words-met.result) in
    let low = c.loop-older.invariant.1 in
    let up = c.pass_words-met.ensures.from in
    gathering_next c.args.types.now h c.args.oldest c.args.older.age c.args.first c.args.from c.pass_words-met.result
    c.loop-older.targets c.loop-older.younger
    (gathering_passed c.args.types.now h c.args.oldest c.args.older.age c.args.first c.args.from
    c.loop-older.at c.loop-older.targets c.loop-older.younger c.loop-older.invariant.0 c.pass_words-met.result
    c.looked_for-bound.result c.looked_for-bound.ensures.bound c.looked_for-bound.ensures.above
    c.pass_words-met.ensures.quiet up)
    c.gather_slot-below.new.targets c.gather_slot-below.result (c.loop-older.younger || c.gather_slot-below.result)
    slot.kept slot.only slot.gathered
    (slot_clear word c.args.older.age (generation (frame h) word) c.gather_slot-below.result slot.younger)
    (slot_silent word c.args.older.age (generation (frame h) word) c.gather_slot-below.result slot.younger)
    (omega (arith, low, up)) (younger_parts c.loop-older.younger c.gather_slot-below.result)
    (younger_joined c.loop-older.younger c.gather_slot-below.result)

pub loop-older-preserved : goal.loop-older-preserved
loop-older-preserved c =
    let low = c.loop-older.invariant.1 in
    let up = c.pass_words-met.ensures.from in
    let within = c.pass_words-met.ensures.within in
    let ne = c.if-met-to.false in (
      looked_at c,
      omega (arith, low, up),
      omega (arith, within, ne),
      λ e. absurd (omega (arith, low, up, e)),
    )

pub loop-older-smaller : goal.loop-older-smaller
loop-older-smaller c =
    let up = c.pass_words-met.ensures.from in
    let within = c.pass_words-met.ensures.within in
    let ne = c.if-met-to.false in
    omega (arith, up, within, ne)

pub returns : goal.returns
returns c =
    let inv = c.loop-older.invariant in
    let low = inv.1 in
    let room = c.room.ensures in
    let full = c.loop-older-test.false in
    record {
      gathered = inv.0;
      from = inv.1;
      within = inv.2;
      some = λ l. elim (cases_eq c.loop-older.at c.args.from) [
        | inl same ↦ let none = ap length (inv.3 same) in absurd (omega (arith, room, full, none))
        | inr apart ↦ omega (arith, low, apart)
      ];
    }
