use Rattle.std.proofs.Common.{◌≡◌, ℕ, ◌+◌, ◌*◌, ◌/◌, ◌%◌, ◌<◌, ◌≤◌, nat_lt, false, ◌∙◌, ap, subst, arith, inl, inr}
use Rattle.std.proofs.lemmas.Bool.{cases_lt}
use Rattle.clr_types.specs.Segments.{first_place}
use Rattle.clr_types.specs.declared.segment.SegInfo.{SegInfo}
use Rattle.clr_heap.specs.View.{first_of, last_of, segment_at}
use Rattle.clr_sos.proofs.verify.windows.window_from.Goals.{then-low-segment, else-low-segment}
use Rattle.clr_sos.proofs.verify.windows.window_from.Goals as goal

pub loop-k-preserved : goal.loop-k-preserved
loop-k-preserved c =
    let h = c.args.heap.now in
    let k = c.loop-k.k in
    let old = c.loop-k.invariant in
    let value = c.info-segment.ensures.value in
    let place : c.first_place.result ≡ first_of h k = c.first_place.ensures ∙ ap first_place value in
    let a = c.max-low.ensures in
    let end : c.info-segment.result.end ≡ last_of h k = ap (λ (s : SegInfo). s.end) value in
    let lawful = c.info-segment.ensures.lawful in
    let page = lawful.base in
    let up = lawful.high in
    let top = c.info-segment.ensures.below_top in
    let fits = c.info-segment.ensures.fits in
    let z = c.requires.aligned in
    let low = old.low in
    let aligned = old.aligned in
    let small = old.small in
    elim c.if-low-segment.branch [
      | then-low-segment w ↦
          let b = w.min-start.ensures in
          let d = w.max-top.ensures in
          let s = w.start-is in
          let t = w.top-is in
          record {
            low = grind (arith, a, b, s, low);
            aligned = grind (arith, a, b, s, aligned, z, page, place);
            small = grind (arith, d, t, small, end, up, top, fits);
            each = λ j x l f first last. elim (cases_lt j k) [
              | inl before ↦
                  let e = old.each j x before f first last in (grind (arith, b, s, e), grind (arith, d, t, e))
              | inr after ↦
                  let same : j ≡ k = omega (arith, l, after) in
                  let first' : first_of h k ≤ x = subst (λ (n : ℕ). first_of h n ≤ x) same first in
                  let last' : x < last_of h k = subst (λ (n : ℕ). x < last_of h n) same last in
                  (grind (arith, a, b, s, place, f, first'), grind (arith, d, t, end, last'))
            ];
          }
      | else-low-segment w ↦
          let s = w.start-is in
          let t = w.top-is in
          let no = w.if-low-segment.false in
          record {
            low = omega (arith, s, low);
            aligned = ap (λ (n : ℕ). n % 8) s ∙ aligned;
            small = omega (arith, t, small);
            each = λ j x l f first last. elim (cases_lt j k) [
              | inl before ↦ let e = old.each j x before f first last in (omega (arith, s, e), omega (arith, t, e))
              | inr after ↦
                  let same : j ≡ k = omega (arith, l, after) in
                  let first' : first_of h k ≤ x = subst (λ (n : ℕ). first_of h n ≤ x) same first in
                  let last' : x < last_of h k = subst (λ (n : ℕ). x < last_of h n) same last in
                  absurd (grind (arith, a, no, place, end, first', last', f))
            ];
          }
    ]

pub returns-then-last-clause-covered : goal.returns-then-last-clause-covered
returns-then-last-clause-covered c k x l first last e =
    let over = c.loop-k-test.false in
    let count = c.segments-k-end.ensures.count in
    let room = c.saturating_sub-room.ensures in
    let less = c.if-last.true in
    let from : c.args.from ≤ x = grind (arith, e) in
    let inside = c.loop-k.invariant.each k x (omega arith) from first last in
    (inside.0, omega (arith, inside, room, less))

pub returns-else-last-clause-covered : goal.returns-else-last-clause-covered
returns-else-last-clause-covered c k x l first last e =
    let over = c.loop-k-test.false in
    let count = c.segments-k-end.ensures.count in
    let room = c.saturating_sub-room.ensures in
    let less = c.if-last.false in
    let from : c.args.from ≤ x = grind (arith, e) in
    let test : nat_lt (c.saturating_sub-room.result / 512) c.args.count ≡ false = grind (arith, less) in
    let end : x < c.loop-k.start + 512 * c.args.count = grind (arith, e, test) in
    let inside = c.loop-k.invariant.each k x (omega arith) from first last in
    (inside.0, end)
