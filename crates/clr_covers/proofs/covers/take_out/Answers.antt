use Rattle.std.proofs.Common.{◌∙◌, sym, subst, List}
use Rattle.clr_covers.specs.Covers.{AreApart, CoverView}
use Rattle.clr_covers.proofs.Changing.{AreApart-without_cover, begins_covered, remove_is}
use Rattle.clr_covers.proofs.covers.take_out.Goals as goal

pub find-k-requires-clause-covered : goal.find-k-requires-clause-covered
find-k-requires-clause-covered g c = begins_covered _ c.args.first c.requires.apart c.requires.begins

pub returns-clause-value : goal.returns-clause-value
returns-clause-value g c =
    let r = c.requires in
    let at = c.find-k.ensures in
    c.remove.ensures.items
    ∙ remove_is c.args.covers.now.items c.find-k.result c.args.first c.remove.result r.apart r.begins at.in_range
    (at.here c.remove.result)

pub returns-clause-apart : goal.returns-clause-apart
returns-clause-apart g c =
    let P : List (CoverView _) → Type 0 = AreApart in
    subst P (sym (returns-clause-value g c)) (AreApart-without_cover _ c.args.first c.requires.apart)
