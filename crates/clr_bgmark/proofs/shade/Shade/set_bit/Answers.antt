use Rattle.std.proofs.Common.{◌≡◌, ℕ, ◌-◌, ◌/◌, ◌<◌, ◌*◌, inl, inr, length, ap, sym, subst, ◌∙◌, true, arith}
use Rattle.clr_bgmark.specs.Bits.{has_bit}
use Rattle.clr_bgmark.specs.Shades.{covers, is_gray_number, IsShade, ShadeView}
use Rattle.clr_bgmark.proofs.GrayPlaces.{gray_marked, gray_scanned}
use Rattle.clr_bgmark.proofs.Kept.{cell_room, covers_inside, marked_shade, scanned_shade}
use Rattle.clr_bgmark.proofs.Watched.{more_here, more_kept}
use Rattle.clr_bgmark.proofs.shade.Shade.set_bit.Goals as goal

pub add-requires-in-Marked-2-clause-room : goal.add-requires-in-Marked-2-clause-room
add-requires-in-Marked-2-clause-room c =
    let s : ShadeView = record {
      base = c.self.inside.base;
      size = c.self.inside.size;
      taken = c.self.inside.taken;
      marked = c.self.inside.marked;
      scanned = c.self.inside.scanned;
      logged = c.self.inside.logged;
    } in
    let covered : covers s c.args.a ≡ true = ap (λ (v : ShadeView). covers v c.args.a) c.self.view_is ∙ c.requires in
    let inside = covers_inside s c.args.a covered in
    let low = inside.low in
    let high = inside.high in
    let whole = c.self.invariant.shade.size in
    let room = c.self.invariant.room in
    omega (arith, low, high, whole, room)

pub invariant_of-self-in-Marked : goal.invariant_of-self-in-Marked
invariant_of-self-in-Marked c =
    let s : ShadeView = record {
      base = c.self.inside.base;
      size = c.self.inside.size;
      taken = c.self.inside.taken;
      marked = c.self.inside.marked;
      scanned = c.self.inside.scanned;
      logged = c.self.inside.logged;
    } in
    let shade = c.self.invariant.shade in
    let covered : covers s c.args.a ≡ true = ap (λ (v : ShadeView). covers v c.args.a) c.self.view_is ∙ c.requires in
    let room = cell_room s c.args.a (length s.marked) (covers_inside s c.args.a covered) shade.marked in
    let cell : ℕ = (c.args.a - s.base) / 8 in
    let word : ℕ = (c.args.a - s.base) / 512 in
    let is = sym c.add-in-Marked.ensures.value in
    let old = c.self.inside.pending.numbers in
    let new = c.add-in-Marked-2.new.self.numbers in
    let more = c.add-in-Marked-2.ensures.numbers in
    let count = c.add-in-Marked-2.ensures.length in
    let most = c.self.invariant.room in
    record {
      shade = subst (λ words. IsShade (record s { marked = words })) is (marked_shade s cell shade);
      room = omega (arith, count, most);
      pending = λ n high gray.
          elim (gray_marked s.marked s.scanned cell room n (ap (λ words. is_gray_number words s.scanned n) is ∙ gray)) [
            | inl here ↦
                let at : word ≡ n / 64 = omega (arith, here) in
                subst (λ (k : ℕ). has_bit new k ≡ true) at (more_here old word new more)
            | inr was ↦ more_kept old word new more (n / 64) (c.self.invariant.pending n high was)
          ];
    }

pub invariant_of-self-in-Scanned : goal.invariant_of-self-in-Scanned
invariant_of-self-in-Scanned c =
    let s : ShadeView = record {
      base = c.self.inside.base;
      size = c.self.inside.size;
      taken = c.self.inside.taken;
      marked = c.self.inside.marked;
      scanned = c.self.inside.scanned;
      logged = c.self.inside.logged;
    } in
    let shade = c.self.invariant.shade in
    let covered : covers s c.args.a ≡ true = ap (λ (v : ShadeView). covers v c.args.a) c.self.view_is ∙ c.requires in
    let room = cell_room s c.args.a (length s.scanned) (covers_inside s c.args.a covered) shade.scanned in
    let cell : ℕ = (c.args.a - s.base) / 8 in
    let is = sym c.add-in-Scanned.ensures.value in
    record {
      shade = subst (λ words. IsShade (record s { scanned = words })) is (scanned_shade s cell shade);
      room = c.self.invariant.room;
      pending = λ n high gray.
          c.self.invariant.pending n high
          (gray_scanned s.marked s.scanned cell room n (ap (λ words. is_gray_number s.marked words n) is ∙ gray));
    }
