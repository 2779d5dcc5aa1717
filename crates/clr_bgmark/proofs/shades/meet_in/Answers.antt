use Rattle.std.proofs.Common.{◌≡◌, ℕ, List, get_or, sym, ap, ◌∙◌, set}
use Rattle.clr_bgmark.specs.Bits.{has_bit}
use Rattle.clr_bgmark.specs.Shades.{IsAt, ShadeView, cell_colour, cell_of, colour_at, colour_by, is_outside, is_white}
use Rattle.clr_bgmark.specs.Shades.{with_marked}
use Rattle.clr_bgmark.proofs.Lookups.{at_changed, at_told, read_covers}
use Rattle.clr_bgmark.proofs.shades.meet_in.Goals.{After-colour_met}
use Rattle.clr_bgmark.proofs.shades.meet_in.Goals as goal

pub colour_met-requires : goal.colour_met-requires
colour_met-requires c =
    read_covers c.args.shades.now.items c.args.k c.args.a c.index_mut-shade.result.now c.index_mut-shade.ensures.value
    c.requires.at

pub set_bit-requires : goal.set_bit-requires
set_bit-requires c =
    read_covers c.args.shades.now.items c.args.k c.args.a c.index_mut-shade.result.now c.index_mut-shade.ensures.value
    c.requires.at

-- the segment tells the colour
told : (ss : List ShadeView) (k a : ℕ) (s : ShadeView) → s ≡ get_or ss k s → IsAt ss k a
    → cell_colour s a ≡ colour_at ss a
told ss k a s e at =
    let scanned = at_told (λ s a. has_bit s.scanned (cell_of s a)) ss k a s at in
    let marked = at_told (λ s a. has_bit s.marked (cell_of s a)) ss k a s at in
    let taken = at_told (λ s a. has_bit s.taken (cell_of s a)) ss k a s at in
    ap (λ (s : ShadeView). cell_colour s a) e ∙ sym (λ i. colour_by (scanned i) (marked i) (taken i))

seen : (c : After-colour_met)
    → cell_colour c.index_mut-shade.result.now c.args.a ≡ colour_at c.args.shades.now.items c.args.a
seen c =
    told c.args.shades.now.items c.args.k c.args.a c.index_mut-shade.result.now c.index_mut-shade.ensures.value
    c.requires.at

pub returns-in-White-clause-shades : goal.returns-in-White-clause-shades
returns-in-White-clause-shades c =
    let ss = c.args.shades.now.items in
    ap (λ (s : ShadeView). set ss c.args.k s)
    (c.set_bit.ensures ∙ ap (λ (s : ShadeView). with_marked c.args.a s) c.index_mut-shade.ensures.value)
    ∙ at_changed (with_marked c.args.a) ss c.args.k c.args.a c.index_mut-shade.result.now c.requires.at

pub returns-in-White-clause-white : goal.returns-in-White-clause-white
returns-in-White-clause-white c =
    c.in-White.ensures.white ∙ ap is_white (seen (goal.at.returns-in-White-clause-white c).After-colour_met)

pub returns-in-White-clause-outside : goal.returns-in-White-clause-outside
returns-in-White-clause-outside c =
    c.in-White.ensures.outside ∙ ap is_outside (seen (goal.at.returns-in-White-clause-outside c).After-colour_met)

pub returns-in-Outside-clause-white : goal.returns-in-Outside-clause-white
returns-in-Outside-clause-white c =
    c.in-Outside.ensures.white ∙ ap is_white (seen (goal.at.returns-in-Outside-clause-white c).After-colour_met)

pub returns-in-Outside-clause-outside : goal.returns-in-Outside-clause-outside
returns-in-Outside-clause-outside c =
    c.in-Outside.ensures.outside ∙ ap is_outside (seen (goal.at.returns-in-Outside-clause-outside c).After-colour_met)

pub returns-in-Gray-clause-white : goal.returns-in-Gray-clause-white
returns-in-Gray-clause-white c =
    c.in-Gray.ensures.white ∙ ap is_white (seen (goal.at.returns-in-Gray-clause-white c).After-colour_met)

pub returns-in-Gray-clause-outside : goal.returns-in-Gray-clause-outside
returns-in-Gray-clause-outside c =
    c.in-Gray.ensures.outside ∙ ap is_outside (seen (goal.at.returns-in-Gray-clause-outside c).After-colour_met)

pub returns-in-Black-clause-white : goal.returns-in-Black-clause-white
returns-in-Black-clause-white c =
    c.in-Black.ensures.white ∙ ap is_white (seen (goal.at.returns-in-Black-clause-white c).After-colour_met)

pub returns-in-Black-clause-outside : goal.returns-in-Black-clause-outside
returns-in-Black-clause-outside c =
    c.in-Black.ensures.outside ∙ ap is_outside (seen (goal.at.returns-in-Black-clause-outside c).After-colour_met)
