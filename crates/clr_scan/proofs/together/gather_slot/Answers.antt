use Rattle.std.proofs.Common.{ℕ, inl, inr, ap, sym, ◌∙◌, subst, arith}
use Rattle.clr_heap.specs.View.{frame, word_of}
use Rattle.clr_types.specs.Rising.{IsIn}
use Rattle.clr_types.specs.Segments.{generation}
use Rattle.clr_scan.specs.References.{IsNamedByOlder}
use Rattle.clr_scan.proofs.CardScans.{condemned-most, older-above, ref_has, ref_index, ref_older}
use Rattle.clr_scan.proofs.GatheredWords.{added_here, added_kept, added_only, condemned_below, target_added}
use Rattle.clr_scan.proofs.together.gather_slot.Goals as goal

pub word_at-target-requires-clause-word : goal.word_at-target-requires-clause-word
word_at-target-requires-clause-word c =
    ref_has c.args.types.now c.args.heap.now c.requires.closed c.args.older.item c.requires.listed c.args.a
    c.requires.reference

pub word_at-target-requires-clause-segment : goal.word_at-target-requires-clause-segment
word_at-target-requires-clause-segment c = c.requires.segment
    ∙ ref_index c.args.types.now c.args.heap.now c.requires.closed c.args.older.item c.requires.listed c.args.a
    c.requires.reference

pub returns-then-generation-older-clause-gathered : goal.returns-then-generation-older-clause-gathered
returns-then-generation-older-clause-gathered c ne near =
    let h = c.args.heap.now in
    let most = condemned-most h c.args.oldest (word_of h c.args.a) near in
    let above = older-above h c.args.oldest c.args.older.item.place c.requires.older in
    let age = c.requires.age in
    let word = ap (generation (frame h)) c.word_at-target.ensures in
    let of = c.gen_of-generation.ensures in
    let l = c.if-generation-older.true in
    absurd (omega (arith, most, above, age, word, of, l))

pub returns-then-target-eq0-clause-gathered : goal.returns-then-target-eq0-clause-gathered
returns-then-target-eq0-clause-gathered c ne near =
    absurd (ne (sym c.word_at-target.ensures ∙ c.if-target-eq0.true))

pub returns-then-generation-oldest-clause-gathered : goal.returns-then-generation-oldest-clause-gathered
returns-then-generation-oldest-clause-gathered c ne near =
    let h = c.args.heap.now in
    let most = condemned-most h c.args.oldest (word_of h c.args.a) near in
    let word = ap (generation (frame h)) c.word_at-target.ensures in
    let of = c.gen_of-generation.ensures in
    let l = c.if-generation-oldest.true in
    absurd (omega (arith, most, word, of, l))

pub returns-clause-kept : goal.returns-clause-kept
returns-clause-kept c =
    added_kept c.args.targets.now c.add.new.self c.word_at-target.result
    (target_added c.args.targets.now c.add.new.self c.word_at-target.result c.add.ensures c.if-target-eq0.false)

pub returns-clause-gathered : goal.returns-clause-gathered
returns-clause-gathered c ne near =
    let P : ℕ → Type 0 = λ t. IsIn t c.add.new.self in
    subst P c.word_at-target.ensures (added_here c.args.targets.now c.add.new.self c.word_at-target.result
    (target_added c.args.targets.now c.add.new.self c.word_at-target.result c.add.ensures c.if-target-eq0.false))

pub returns-clause-only : goal.returns-clause-only
returns-clause-only c y l =
    let h = c.args.heap.now in
    let word = c.word_at-target.ensures in
    let of = c.gen_of-generation.ensures in
    let least = c.if-generation-oldest.false in
    let low = ap (generation (frame h)) word in
    let near = condemned_below h c.args.oldest (word_of h c.args.a) (omega (arith, of, least, low)) in
    let named = ref_older c.args.types.now h c.requires.closed c.args.older.item c.requires.listed c.args.a
    c.requires.reference c.args.oldest c.requires.older (λ e. c.if-target-eq0.false (word ∙ e)) near in
    elim (added_only c.args.targets.now c.add.new.self c.word_at-target.result
    (target_added c.args.targets.now c.add.new.self c.word_at-target.result c.add.ensures c.if-target-eq0.false) y l) [
      | inl was ↦ inl was
      | inr is ↦ inr (subst (IsNamedByOlder c.args.types.now h c.args.oldest) (sym (is ∙ word)) named)
    ]
