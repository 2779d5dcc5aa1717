use Rattle.std.proofs.Common.{◌≡◌, ◌≢◌, ℕ, List, false, if◌then◌else◌, ap, sym, ◌∙◌}
use Rattle.std.proofs.lemmas.Bool.{ne_eqb}
use Rattle.clr_bgmark.specs.Bits.{has_bit}
use Rattle.clr_bgmark.specs.Shades.{BackgroundView, ShadeView, cell_of, colour_at, colour_by, grayed, is_covered}
use Rattle.clr_bgmark.specs.Shades.{is_outside, is_white, met, slot_logged}
use Rattle.clr_bgmark.specs.declared.background.Colour.TheVariants.{Outside}
use Rattle.clr_bgmark.proofs.Lookups.{none_told}
use Rattle.clr_bgmark.proofs.background.Background.meet_far.Goals as goal

-- what lies in no segment wasn't taken
outside : (ss : List ShadeView) (a : ℕ) → is_covered ss a ≡ false → colour_at ss a ≡ Outside
outside ss a none =
    let scanned = none_told (λ s a. has_bit s.scanned (cell_of s a)) ss a none in
    let marked = none_told (λ s a. has_bit s.marked (cell_of s a)) ss a none in
    let taken = none_told (λ s a. has_bit s.taken (cell_of s a)) ss a none in
    λ i. colour_by (scanned i) (marked i) (taken i)

met_outside : (v : BackgroundView) (y a : ℕ) → y ≢ 0 → is_covered v.shades y ≡ false → met v y a ≡ slot_logged v a
met_outside v y a some none =
    let is = outside v.shades y none in
    (λ i. if ne_eqb y 0 some i then v else
    (if is_white (is i) then grayed v y else (if is_outside (is i) then slot_logged v a else v)))

pub returns-in-None : goal.returns-in-None
returns-in-None c =
    c.wrote.ensures.value
    ∙ sym (met_outside c.args.self.now c.args.target c.args.slot c.requires.object
    (ap (λ (v : BackgroundView). is_covered v.shades c.args.target) (sym c.self.view_is) ∙ c.in-None.ensures.none))

pub find-requires : goal.find-requires
find-requires c = c.self.invariant.background
