use Rattle.clr_reloc.proofs.relocating.relocate_segment.Goals as goal

pub relocate_carded-requires-clause-can : goal.relocate_carded-requires-clause-can
relocate_carded-requires-clause-can c =
    let (view, now, vs, is, r, track, ahead, goes, sound, quiet) = c.requires.can in
    let partial = c.is_partial.ensures.yes c.if-is_partial.true in
    (view, now, vs, is, r, track, ahead, goes, sound partial, quiet partial)

pub returns-then-is_partial-clause-gone : goal.returns-then-is_partial-clause-gone
returns-then-is_partial-clause-gone c view now vs is r track ahead goes sound quiet =
    let partial = c.is_partial.ensures.yes c.if-is_partial.true in
    c.relocate_carded.ensures.gone view now vs is r track ahead goes (sound partial) (quiet partial)

pub returns-clause-gone : goal.returns-clause-gone
returns-clause-gone c view now vs is r track ahead goes sound quiet =
    c.relocate_stretch.ensures.gone view now vs is r track ahead goes
