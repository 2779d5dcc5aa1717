use Rattle.std.proofs.Common.{ℕ, ◌<◌, ◌*◌, ◌≡◌, length, sym, subst, arith, ap, ◌∙◌}
use Rattle.clr_bgmark.specs.Shades.{is_gray_number, IsShade, ShadeView}
use Rattle.clr_bgmark.proofs.GrayPlaces.{gray_scanned}
use Rattle.clr_bgmark.proofs.Kept.{scanned_shade}
use Rattle.clr_bgmark.proofs.shade.Shade.take_gray.Goals as goal

pub invariant_of-self : goal.invariant_of-self
invariant_of-self c =
    let s : ShadeView = record {
      base = c.self.inside.base;
      size = c.self.inside.size;
      taken = c.self.inside.taken;
      marked = c.self.inside.marked;
      scanned = c.self.inside.scanned;
      logged = c.self.inside.logged;
    } in
    let n : ℕ = c.in-Some.n in
    let shade = c.self.invariant.shade in
    let whole = shade.size in
    let high = c.in-Some.ensures.high in
    let words = shade.scanned in
    let room : n < 64 * length s.scanned = omega (arith, high, words) in
    let is = sym c.add.ensures.value in
    let count = c.in-Some.ensures.length in
    let most = c.self.invariant.room in
    record {
      shade = subst (λ words. IsShade (record s { scanned = words })) is (scanned_shade s n shade);
      room = omega (arith, count, most);
      pending = λ i within gray.
          c.in-Some.ensures.pending i (omega (arith, whole, within))
          (gray_scanned s.marked s.scanned n room i (ap (λ words. is_gray_number s.marked words i) is ∙ gray));
    }
