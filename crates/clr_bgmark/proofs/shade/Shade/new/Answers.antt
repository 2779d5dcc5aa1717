use Rattle.std.proofs.Common.{◌^◌, ◌<◌, ◌≤◌, arith}
use Rattle.clr_bgmark.proofs.GrayPlaces.{none_marked}
use Rattle.clr_bgmark.proofs.shade.Shade.new.Goals as goal

pub invariant_of-result : goal.invariant_of-result
invariant_of-result c =
    let base = c.requires.base in
    let size = c.requires.size in
    let fits = c.requires.fits in
    let taken = c.in_ok-taken.ensures.room in
    let marked = c.in_ok-marked.ensures.room in
    let scanned = c.in_ok-scanned.ensures.room in
    let logged = c.in_ok-logged.ensures.room in
    let words = c.in_ok-pending.ensures.room in
    record {
      shade = record {
        base = base;
        size = size;
        fits = fits;
        taken = omega (arith, size, taken);
        marked = omega (arith, size, marked);
        scanned = omega (arith, size, scanned);
        logged = omega (arith, size, logged);
      };
      room = words;
      pending = λ n high gray.
          absurd (none_marked c.in_ok-marked.marked c.in_ok-scanned.scanned c.in_ok-marked.ensures.none n gray);
    }
