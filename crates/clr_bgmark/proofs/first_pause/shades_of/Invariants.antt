use Rattle.std.proofs.Common.{◌≡◌, map, take}
use Rattle.std.specs.List.{AllByRecursion}
use Rattle.clr_bgmark.specs.Pauses.{IsBare, used_of}
use Rattle.clr_bgmark.specs.Shades.{IsShade, ShadeView}
use Rattle.clr_bgmark.proofs.first_pause.shades_of.Given as goal

abbrev pub invariant-loop-k : goal.invariant-loop-k
invariant-loop-k l = record {
  shapes : map (λ (s : ShadeView). (s.base, s.size)) l.shades.items ≡ map used_of (take l.k l.heap.segments);
  lawful : AllByRecursion IsShade l.shades.items;
  bare : AllByRecursion IsBare l.shades.items;
}
