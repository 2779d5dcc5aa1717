use Rattle.std.proofs.Common.{set, ap, sym, subst, ◌∙◌, List}
use Rattle.clr_covers.specs.Covers.{AreApart, cover_with, CoverView}
use Rattle.clr_covers.proofs.Values.{AreApart-with_value, with_value_in}
use Rattle.clr_covers.proofs.covers.set_value_in.Goals as goal

pub returns-clause-value : goal.returns-clause-value
returns-clause-value g c =
    let cs = c.args.covers.now.items in
    let m = c.index_mut-cover.result.now in
    let at = c.requires.at in
    let read = ap (λ (n : CoverView _). cover_with n c.args.i c.args.v) c.index_mut-cover.ensures.value in
    ap (λ (n : CoverView _). set cs c.args.k n) (c.set.ensures ∙ read)
    ∙ with_value_in cs c.args.k c.args.i c.args.v m c.requires.apart at.in_range (at.here m)

pub returns-clause-apart : goal.returns-clause-apart
returns-clause-apart g c =
    let P : List (CoverView _) → Type 0 = AreApart in
    subst P (sym (returns-clause-value g c)) (AreApart-with_value _ c.args.i c.args.v c.requires.apart)
