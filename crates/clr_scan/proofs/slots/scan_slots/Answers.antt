use Rattle.std.proofs.Common.{sym, ◌∙◌, length}
use Rattle.std.proofs.lemmas.Bool.{eqb-true}
use Rattle.clr_view.proofs.Listed.{listed-known}
use Rattle.clr_mark.proofs.Following.{none_left}
use Rattle.clr_scan.proofs.CardScans.{scanned-refl}
use Rattle.clr_scan.proofs.SlotScans.{no_slots}
use Rattle.clr_scan.proofs.slots.scan_slots.Goals as goal

pub series-requires : goal.series-requires
series-requires c = listed-known c.args.types.now c.args.heap.now c.args.older.item c.requires.gray.closed.heap
    c.requires.gray.closed.held c.requires.listed

pub returns-then-is_empty-clause-scanned : goal.returns-then-is_empty-clause-scanned
returns-then-is_empty-clause-scanned c = scanned-refl c.args.types.now c.args.heap.now c.args.marker.now

pub returns-then-is_empty-clause-traced : goal.returns-then-is_empty-clause-traced
returns-then-is_empty-clause-traced c a r low high ne near =
    absurd (no_slots c.args.types.now c.args.older.item a (sym c.series.ensures
    ∙ none_left c.series.result.now
    (eqb-true (length c.series.result.now) 0 (sym c.is_empty.ensures ∙ c.if-is_empty.true))) r)

pub returns-then-is_empty-clause-clear : goal.returns-then-is_empty-clause-clear
returns-then-is_empty-clause-clear c e a r low high ne less =
    absurd (no_slots c.args.types.now c.args.older.item a (sym c.series.ensures
    ∙ none_left c.series.result.now
    (eqb-true (length c.series.result.now) 0 (sym c.is_empty.ensures ∙ c.if-is_empty.true))) r)
