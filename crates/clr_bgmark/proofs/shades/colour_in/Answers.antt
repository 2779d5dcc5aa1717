use Rattle.std.proofs.Common.{sym, ap, ◌∙◌}
use Rattle.clr_bgmark.specs.Bits.{has_bit}
use Rattle.clr_bgmark.specs.Shades.{ShadeView, cell_of, colour_by}
use Rattle.clr_bgmark.proofs.Lookups.{read_covers, at_told}
use Rattle.clr_bgmark.proofs.shades.colour_in.Goals as goal

pub is_scanned-scanned-requires : goal.is_scanned-scanned-requires
is_scanned-scanned-requires c =
    read_covers c.args.shades.now.items c.args.k c.args.a c.index-shade.result.now c.index-shade.ensures c.requires.at

pub is_marked-marked-requires : goal.is_marked-marked-requires
is_marked-marked-requires c =
    read_covers c.args.shades.now.items c.args.k c.args.a c.index-shade.result.now c.index-shade.ensures c.requires.at

pub is_taken-taken-requires : goal.is_taken-taken-requires
is_taken-taken-requires c =
    read_covers c.args.shades.now.items c.args.k c.args.a c.index-shade.result.now c.index-shade.ensures c.requires.at

pub returns : goal.returns
returns c =
    let ss = c.args.shades.now.items in
    let a = c.args.a in
    let s = c.index-shade.result.now in
    let scanned =
    c.is_scanned-scanned.ensures ∙ ap (λ (s : ShadeView). has_bit s.scanned (cell_of s a)) c.index-shade.ensures
    ∙ sym (at_told (λ s a. has_bit s.scanned (cell_of s a)) ss c.args.k a s c.requires.at) in
    let marked =
    c.is_marked-marked.ensures ∙ ap (λ (s : ShadeView). has_bit s.marked (cell_of s a)) c.index-shade.ensures
    ∙ sym (at_told (λ s a. has_bit s.marked (cell_of s a)) ss c.args.k a s c.requires.at) in
    let taken =
    c.is_taken-taken.ensures ∙ ap (λ (s : ShadeView). has_bit s.taken (cell_of s a)) c.index-shade.ensures
    ∙ sym (at_told (λ s a. has_bit s.taken (cell_of s a)) ss c.args.k a s c.requires.at) in
    c.colour_by.ensures ∙ (λ i. colour_by (scanned i) (marked i) (taken i))
