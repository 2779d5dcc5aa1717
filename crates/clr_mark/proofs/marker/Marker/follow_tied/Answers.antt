-- Ties first, then slots.
use Rattle.std.proofs.Common.{inl, inr, sym, subst, ℕ}
use Rattle.clr_mark.specs.Marks.{LeadsTo}
use Rattle.clr_mark.specs.TieLists.{LeadsBy}
use Rattle.clr_mark.proofs.EdgeLaws.{grayed_by-trans, grayed_by_waiting}
use Rattle.clr_mark.proofs.Graying.{leads_on}
use Rattle.clr_mark.proofs.Held.{keeps_closed}
use Rattle.clr_mark.proofs.TieLaws.{leads_by, ties_stable}
use Rattle.clr_mark.proofs.marker.Marker.follow_tied.Goals as goal

pub scan_whole-requires : goal.scan_whole-requires
scan_whole-requires c =
    let g = c.mark_tied.ensures.grayed in
    record {
      closed = keeps_closed c.args.types.now c.args.heap.now c.mark_tied.new.heap c.requires.closed.heap
          c.requires.closed.held g.marked.remarked c.requires.closed.named;
      marked = g.marked.kept c.args.obj c.requires.marked;
    }

pub returns : goal.returns
returns c =
    let rows = c.args.types.now in
    let ties = c.args.ties.now in
    let h = c.args.heap.now in
    let m = c.args.self.now in
    let mid = c.mark_tied.new.heap in
    let mark = c.mark_tied.new.self in
    let new = c.scan_whole.new.heap in
    let g = c.mark_tied.ensures.grayed in
    let slots = c.scan_whole.ensures in
    let closed = keeps_closed rows h mid c.requires.closed.heap c.requires.closed.held g.marked.remarked
    c.requires.closed.named in
    let last = grayed_by_waiting rows (LeadsBy rows ties) (ties_stable rows ties) mid new mark c.scan_whole.new.self
    closed.heap closed.held (leads_by rows ties mid mark.oldest) slots.grayed slots.waiting in
    record {
      grayed = grayed_by-trans rows (LeadsBy rows ties) (ties_stable rows ties) h mid new m mark
          c.scan_whole.new.self c.requires.closed.heap c.requires.closed.held g last;
      followed = λ y e. elim e.joined [
        | inl named ↦
            let P : ℕ → Type 0 = λ b. LeadsTo rows mid b c.args.obj y in
            slots.followed y (subst P (sym g.oldest)
            (leads_on rows h mid c.requires.closed.heap c.requires.closed.held g.marked.remarked m.oldest c.args.obj y
            (record { named = named; condemned = e.condemned })))
        | inr tied ↦ slots.grayed.marked.kept y (c.mark_tied.ensures.followed y tied e.condemned)
      ];
    }
