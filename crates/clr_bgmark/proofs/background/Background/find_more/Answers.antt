use Rattle.std.proofs.Common.{subst, sym, ◌∙◌}
use Rattle.clr_mark.specs.Ties.{IsStart}
use Rattle.clr_bgmark.proofs.FoundMore.{GoesOn, more_after}
use Rattle.clr_bgmark.specs.Pauses.{IsFound}
use Rattle.clr_bgmark.specs.Shades.{BackgroundView}
use Rattle.clr_bgmark.proofs.AllFound.{all_black}
use Rattle.clr_bgmark.proofs.Further.{start_found}
use Rattle.clr_bgmark.proofs.SameTiles.{same_taken}
use Rattle.clr_bgmark.proofs.StartFound.{start_on}
use Rattle.clr_bgmark.proofs.background.Background.find_more.Goals.{After-gray_start}
use Rattle.clr_bgmark.proofs.background.Background.find_more.Goals as goal

-- what starts the marking is gray
started : (c : After-gray_start) → GoesOn c.args.types.now c.args.heap.now
    (IsStart c.args.handles.now c.args.locals.now c.args.ready.now) c.args.self.now c.gray_start.new.self
started c =
    let rows = c.args.types.now in
    let h = c.args.heap.now in
    let handles = c.args.handles.now in
    let locals = c.args.locals.now in
    let ready = c.args.ready.now in
    subst (GoesOn rows h (IsStart handles locals ready) c.args.self.now) (sym c.gray_start.ensures.grayed)
    (start_on rows h c.requires.closed.heap c.requires.closed.held handles c.requires.handles locals ready
    c.requires.locals c.requires.ready 65536 c.args.self.now c.gray_start.ensures.shades c.requires.work)

pub meet_due-requires-clause-work : goal.meet_due-requires-clause-work
meet_due-requires-clause-work c = (started (goal.at.meet_due-requires-clause-work c).After-gray_start).work

pub scan_all-requires-clause-work : goal.scan_all-requires-clause-work
scan_all-requires-clause-work c = c.meet_due.ensures.work

pub scan_all-requires-clause-black : goal.scan_all-requires-clause-black
scan_all-requires-clause-black c = c.meet_due.ensures.black

pub returns-clause-work : goal.returns-clause-work
returns-clause-work c = c.scan_all.ensures.work

pub returns-clause-more : goal.returns-clause-more
returns-clause-more c =
    let rows = c.args.types.now in
    let h = c.args.heap.now in
    let start = IsStart c.args.handles.now c.args.locals.now c.args.ready.now in
    let a = c.gray_start.new.self in
    let b = c.meet_due.new.self in
    more_after rows h start (λ y. ⊥) start c.args.self.now b c.scan_all.new.self
    (more_after rows h start (λ y. ⊥) start c.args.self.now a b
    (started (goal.at.returns-clause-more c).After-gray_start).more c.meet_due.ensures.more (λ y s. s)
    (λ y b. absurd b))
    c.scan_all.ensures.more (λ y s. s) (λ y b. absurd b)

pub returns-clause-further : goal.returns-clause-further
returns-clause-further c =
    let rows = c.args.types.now in
    let h = c.args.heap.now in
    let handles = c.args.handles.now in
    let locals = c.args.locals.now in
    let ready = c.args.ready.now in
    let v = c.args.self.now in
    let a = c.gray_start.new.self in
    let b = c.meet_due.new.self in
    let w = c.scan_all.new.self in
    let met = c.meet_due.ensures.more in
    let scanned = c.scan_all.ensures.more in
    let begun = (started (goal.at.returns-clause-further c).After-gray_start).more in
    record {
      start = λ x s taken.
          let took = sym (same_taken v.shades a.shades begun.taken x) ∙ sym (same_taken a.shades b.shades met.taken x)
          ∙ sym (same_taken b.shades w.shades scanned.taken x) ∙ taken in
          scanned.kept x
          (met.kept x (subst (λ (u : BackgroundView). IsFound u.shades x) (sym c.gray_start.ensures.grayed)
          (start_found rows h c.requires.closed.heap c.requires.closed.held handles c.requires.handles locals ready
          c.requires.locals c.requires.ready 65536 c.gray_start.ensures.below v c.gray_start.ensures.shades
          c.requires.work x s took)));
      slots = λ x f.
          c.scan_all.ensures.black x f
          (all_black rows h c.requires.closed w.shades c.scan_all.ensures.work.objects c.scan_all.ensures.work.log
          c.scan_all.ensures.none x f);
    }

pub returns-clause-none : goal.returns-clause-none
returns-clause-none c = c.scan_all.ensures.none
