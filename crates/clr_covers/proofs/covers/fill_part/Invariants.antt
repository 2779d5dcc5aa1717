use Rattle.std.proofs.Common.{◌≡◌, ℕ, ◌&&◌, length, get_or, nat_le, nat_lt, if◌then◌else◌}
use Rattle.clr_covers.proofs.covers.fill_part.Given as goal

abbrev pub invariant-loop-i : goal.invariant-loop-i
invariant-loop-i g l = record {
  count : length l.values.items ≡ length l.initial.values.items;
  values : (d : g.row.T.Denot) (j : ℕ) → get_or l.values.items j d
      ≡ (if nat_le l.at j && nat_lt j l.i then l.v else get_or l.initial.values.items j d);
}
