use Rattle.std.proofs.Common.{ℕ, ◌+◌, ◌*◌, ap, arith, ◌∙◌, subst, sym, inl, inr, length}
use Rattle.clr_heap.specs.View.{first_of, HeapView, last_of}
use Rattle.clr_scan.specs.OldParts.{old_end}
use Rattle.clr_scan.proofs.RunScans.{quiet-on}
use Rattle.clr_mark.proofs.Remarking.{same_segments}
use Rattle.clr_mark.specs.Marks.{IsRemarked}
use Rattle.clr_mark.specs.Waiting.{MarkerView}
use Rattle.clr_mark.proofs.Held.{remarked-trans}
use Rattle.clr_mark.proofs.TiedMarks.{handles_on, roots_on}
use Rattle.clr_scan.specs.OldParts.{HaveOldParts}
use Rattle.clr_scan.proofs.AllCards.{old_end-on, parts-on}
use Rattle.clr_scan.proofs.TableLaws.{tables_remarked}
use Rattle.clr_scan.proofs.WholeScans.{marked_with_older}
use Rattle.clr_scan.proofs.marking.mark_from.Goals.{After-handle_roots, After-mark_from_older}
use Rattle.clr_scan.proofs.marking.mark_from.Goals as goal

pub handle_roots-requires-clause-handles : goal.handle_roots-requires-clause-handles
handle_roots-requires-clause-handles c =
    handles_on c.args.types.now c.args.space.now.heap c.roots.new.heap c.requires.closed.heap c.requires.closed.held
    c.roots.ensures.words c.args.handles.now c.requires.handles

-- what was marked by the locals and by the targets of handles
by_targets : (c : After-handle_roots) → IsRemarked c.args.types.now c.args.space.now.heap c.handle_roots.new.heap
by_targets c =
    remarked-trans c.args.types.now c.args.space.now.heap c.roots.new.heap c.handle_roots.new.heap
    c.requires.closed.heap c.requires.closed.held c.roots.ensures.words c.handle_roots.ensures.words

pub mark_from_older-requires-clause-parts : goal.mark_from_older-requires-clause-parts
mark_from_older-requires-clause-parts c few =
    let oldest = λ (m : MarkerView). m.oldest in
    let same = ap oldest c.handle_roots.ensures.marker ∙ ap oldest c.roots.ensures.marker ∙ ap oldest c.begin.ensures in
    let parts = c.requires.parts (omega (arith, same, few)) in
    parts-on c.args.types.now c.args.space.now.heap c.handle_roots.new.heap c.requires.closed
    (by_targets (goal.at.mark_from_older-requires-clause-parts c).After-handle_roots)
    c.handle_roots.new.self.oldest
    (subst (λ (g : ℕ). HaveOldParts c.args.types.now c.args.space.now.heap g) (sym same) parts)

pub mark_from_older-requires-clause-tables : goal.mark_from_older-requires-clause-tables
mark_from_older-requires-clause-tables c =
    tables_remarked c.args.types.now c.args.space.now.heap c.requires.closed c.handle_roots.new.heap
    c.args.space.now.cards c.args.space.now.bricks
    (by_targets (goal.at.mark_from_older-requires-clause-tables c).After-handle_roots) c.requires.tables

-- and by what older objects name
by_older : (c : After-mark_from_older) → IsRemarked c.args.types.now c.args.space.now.heap c.mark_from_older.new.heap
by_older c =
    remarked-trans c.args.types.now c.args.space.now.heap c.handle_roots.new.heap c.mark_from_older.new.heap
    c.requires.closed.heap c.requires.closed.held
    (remarked-trans c.args.types.now c.args.space.now.heap c.roots.new.heap c.handle_roots.new.heap
    c.requires.closed.heap c.requires.closed.held c.roots.ensures.words c.handle_roots.ensures.words)
    c.mark_from_older.ensures.words

pub mark_more-requires-clause-handles : goal.mark_more-requires-clause-handles
mark_more-requires-clause-handles c =
    handles_on c.args.types.now c.args.space.now.heap c.mark_from_older.new.heap c.requires.closed.heap
    c.requires.closed.held (by_older (goal.at.mark_more-requires-clause-handles c).After-mark_from_older)
    c.args.handles.now c.requires.handles

pub mark_more-requires-clause-objects : goal.mark_more-requires-clause-objects
mark_more-requires-clause-objects c =
    roots_on c.args.types.now c.args.space.now.heap c.mark_from_older.new.heap c.requires.closed.heap
    c.requires.closed.held (by_older (goal.at.mark_more-requires-clause-objects c).After-mark_from_older)
    c.args.ready.now c.requires.ready

pub returns-clause-words : goal.returns-clause-words
returns-clause-words c =
    remarked-trans c.args.types.now c.args.space.now.heap c.mark_from_older.new.heap c.mark_more.new.heap
    c.requires.closed.heap c.requires.closed.held
    (by_older (goal.at.returns-clause-words c).After-mark_from_older) c.mark_more.ensures.words

pub returns-clause-marked : goal.returns-clause-marked
returns-clause-marked c =
    let oldest = λ (m : MarkerView). m.oldest in
    let first = ap oldest c.begin.ensures in
    let second = ap oldest c.roots.ensures.marker ∙ first in
    let third = ap oldest c.handle_roots.ensures.marker ∙ second in
    marked_with_older c.args.types.now c.args.space.now.heap c.roots.new.heap c.handle_roots.new.heap
    c.mark_from_older.new.heap c.mark_more.new.heap c.args.handles.now c.requires.closed.heap c.requires.closed.held
    c.roots.ensures.words (by_targets (goal.at.returns-clause-marked c).After-handle_roots)
    (by_older (goal.at.returns-clause-marked c).After-mark_from_older) c.requires.clear c.args.g c.args.locals.now
    c.args.ready.now c.begin.new.self.oldest c.roots.new.self.oldest c.handle_roots.new.self.oldest
    c.mark_from_older.new.marker.oldest first second third (ap oldest c.mark_from_older.ensures.marker ∙ third)
    c.roots.ensures.marked c.handle_roots.ensures.marked c.mark_from_older.ensures.marked c.mark_more.ensures.marked

pub returns-clause-tables : goal.returns-clause-tables
returns-clause-tables c =
    tables_remarked c.args.types.now c.mark_from_older.new.heap c.mark_from_older.ensures.gray.closed
    c.mark_more.new.heap c.mark_from_older.new.cards c.args.space.now.bricks c.mark_more.ensures.words
    c.mark_from_older.ensures.tables

pub returns-clause-cleared : goal.returns-clause-cleared
returns-clause-cleared c few k inside i low high whole all =
    let oldest = λ (m : MarkerView). m.oldest in
    let third = ap oldest c.handle_roots.ensures.marker ∙ ap oldest c.roots.ensures.marker
    ∙ ap oldest c.begin.ensures in
    let rows = c.args.types.now in
    let h = c.args.space.now.heap in
    let now = c.handle_roots.new.heap in
    let r = by_targets (goal.at.returns-clause-cleared c).After-handle_roots in
    let first = ap (λ (v : HeapView). first_of v k) r.shape.others in
    let end = ap (λ (g : ℕ). old_end now g k) third ∙ old_end-on rows h now c.requires.closed r c.args.g k inside in
    let n = same_segments h now r.shape in
    c.mark_from_older.ensures.cleared (omega (arith, third, few)) k (omega (arith, n, inside)) i
    (omega (arith, first, low)) (omega (arith, end, high)) (elim whole [
      | inl w ↦ inl (omega (arith, end, w))
      | inr e ↦ inr (end ∙ e ∙ sym (ap (λ (v : HeapView). last_of v k) r.shape.others))
    ]) (quiet-on rows h now c.requires.closed r k inside (2048 * i) (2048 * i + 2048) all)
