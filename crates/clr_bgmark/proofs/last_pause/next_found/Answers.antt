use Rattle.std.proofs.Common.{◌≡◌, suc, ◌+◌, ◌/◌, ◌<◌, ◌≤◌, inl, inr, length, arith, subst, refl}
use Rattle.clr_bgmark.proofs.FoundPlaces.{all_passed, found_next, IsPassed, passed_segment}
use Rattle.clr_bgmark.proofs.last_pause.next_found.Goals as goal

pub loop-k-init : goal.loop-k-init
loop-k-init c = record { passed = λ b found behind. inl behind; further = inr (refl, refl) }

pub loop-k-preserved : goal.loop-k-preserved
loop-k-preserved c =
    let ss = c.args.shades.now.items in
    let more : suc c.loop-k.k ≡ c.loop-k.k + 1 = omega arith in
    record {
      passed = subst (λ k. IsPassed c.args.search ss c.args.spot.k c.args.spot.from k 0) more
          (passed_segment c.args.search ss c.requires.apart c.requires.shades c.args.spot.k c.args.spot.from c.loop-k.k
          c.loop-k.from c.loop-k.invariant.passed c.index.result.now c.index.ensures c.in_default.ensures.none);
      further = elim c.loop-k.invariant.further [
        | inl l ↦ inl (omega (arith, l))
        | inr p ↦ let e = p.0 in inl (omega (arith, e))
      ];
    }

pub returns-in-Some-clause-found : goal.returns-in-Some-clause-found
returns-in-Some-clause-found c =
    let ss = c.args.shades.now.items in
    let below = c.loop-k-test.true in let len = c.len-k-end.ensures in let ok = c.args.shades.now.ok in
    let low : c.loop-k.k < length ss = omega arith in
    let first = c.in-Some.ensures in
    found_next c.args.search ss c.requires.apart c.requires.shades c.args.spot.k c.args.spot.from c.loop-k.k
    c.loop-k.from c.loop-k.invariant.passed c.index.result.now c.index.ensures c.in-Some.a low first.covered
    first.aligned first.marked first.first

pub returns-in-Some-clause-further : goal.returns-in-Some-clause-further
returns-in-Some-clause-further c = elim c.loop-k.invariant.further [
  | inl l ↦ inl l
  | inr p ↦
      let at = p.0 in let same = p.1 in let low = c.in-Some.ensures.low in
      inr (at, subst (λ n. n / 8 ≤ c.in-Some.a / 8) same low)
]

pub returns-clause-none : goal.returns-clause-none
returns-clause-none c =
    let ss = c.args.shades.now.items in
    let above = c.loop-k-test.false in let len = c.len-k-end.ensures in let ok = c.args.shades.now.ok in
    all_passed c.args.search ss c.args.spot.k c.args.spot.from c.loop-k.k c.loop-k.from c.loop-k.invariant.passed
    (omega arith)
