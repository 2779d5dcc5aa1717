-- What doesn't fit isn't shown, and of the rest what roots reach decides.
use Rattle.std.proofs.Common.{◌≡◌, ◌∙◌, ◌&&◌, Bool, true, false, nat_le, refl, sym}
use Rattle.clr_model.specs.Sos.{passes_life}
use Rattle.clr_sos.specs.Wants.{is_chosen, is_in_region}
use Rattle.clr_sos.proofs.wanted.Wanted.shows.Goals as goal

unfit : (life one two three : Bool) → ((one && two) && three) ≡ false → false ≡ (((life && one) && two) && three)
unfit true one two three e = sym e
unfit false one two three e = refl

fit : (life one two three : Bool) → ((one && two) && three) ≡ true → life ≡ (((life && one) && two) && three)
fit true one two three e = sym e
fit false one two three e = refl

pub returns-then-not-fits : goal.returns-then-not-fits
returns-then-not-fits g c = λ test answers.
    let w = c.args.self.now in
    let i = c.args.item.now in
    unfit (passes_life w.life test i) (is_chosen w.by_mt i && is_chosen w.by_name i)
    (nat_le w.least i.size && nat_le i.size w.greatest)
    (is_in_region w.region i.place) (sym c.fits.ensures ∙ c.if-not-fits.true)

pub has_life-requires : goal.has_life-requires
has_life-requires g c = c.requires

pub returns : goal.returns
returns g c = λ test answers.
    let w = c.args.self.now in
    let i = c.args.item.now in
    c.has_life.ensures test answers
    ∙ fit (passes_life w.life test i) (is_chosen w.by_mt i && is_chosen w.by_name i)
    (nat_le w.least i.size && nat_le i.size w.greatest)
    (is_in_region w.region i.place) (sym c.fits.ensures ∙ c.if-not-fits.false)
