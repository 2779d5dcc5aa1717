use Rattle.std.proofs.Common.{◌≡◌, ℕ, ◌<◌, ap, refl, sym, ◌∙◌, subst, inl, inr, length, get_or, arith}
use Rattle.std.proofs.lemmas.Bool.{cases_eq}
use Rattle.clr_types.specs.declared.segment.SegInfo.{SegInfo}
use Rattle.clr_heap.specs.View.{segment_at}
use Rattle.clr_bgmark.specs.Shades.{ShadeView}
use Rattle.clr_bgmark.proofs.PutFronts.{same_get}
use Rattle.clr_bgmark.proofs.front.have_same_bases.Goals as goal

pub loop-k-preserved : goal.loop-k-preserved
loop-k-preserved c =
    let ss = c.args.shades.now.items in
    let k = c.loop-k.k in
    let below = c.loop-k-test.true in
    let len = c.len-k-end.ensures in
    let ok = c.args.shades.now.ok in
    let within : k < length ss = omega arith in
    let s = c.index.result.now in
    let info = ap (λ (i : SegInfo). i.base) c.info.ensures.value in
    let base : s.base ≡ (segment_at c.args.heap.now k).base =
    sym c.base.ensures ∙ sym c.if-info-base.false ∙ info in
    λ j t l. elim (cases_eq j k) [
      | inl e ↦
          let read : get_or ss k t ≡ s = same_get ss k t s within ∙ sym c.index.ensures in
          subst (λ (n : ℕ). (get_or ss n t).base ≡ (segment_at c.args.heap.now n).base) (sym e)
          (ap (λ (u : ShadeView). u.base) read ∙ base)
      | inr ne ↦ c.loop-k.invariant j t (omega (arith, l, ne))
    ]

pub returns : goal.returns
returns c =
    let end = c.loop-k-test.false in
    let len = c.len-k-end.ensures in
    let first = c.len.ensures in
    let count = c.segments.ensures.count in
    let same = c.if-segments-len.false in
    let ok = c.args.shades.now.ok in
    ((λ yes. (omega arith, λ k s l. c.loop-k.invariant k s (omega arith))), λ all. refl)

pub returns-then-segments-len : goal.returns-then-segments-len
returns-then-segments-len c =
    let first = c.len.ensures in
    let count = c.segments.ensures.count in
    let ok = c.args.shades.now.ok in
    let other = c.if-segments-len.true in
    ((λ yes. absurd cc), λ all. let same = all.0 in absurd (omega (arith, first, count, ok, other, same)))

pub returns-then-info-base : goal.returns-then-info-base
returns-then-info-base c =
    let ss = c.args.shades.now.items in
    let k = c.loop-k.k in
    let below = c.loop-k-test.true in
    let len = c.len-k-end.ensures in
    let ok = c.args.shades.now.ok in
    let within : k < length ss = omega arith in
    let s = c.index.result.now in
    let info = ap (λ (i : SegInfo). i.base) c.info.ensures.value in
    let read : get_or ss k s ≡ s = sym c.index.ensures in (
      (λ yes. absurd cc),
      (λ all.
          let same : s.base ≡ (segment_at c.args.heap.now k).base =
          ap (λ (u : ShadeView). u.base) (sym read) ∙ all.1 k s within in
          absurd (c.if-info-base.true (info ∙ sym same ∙ sym c.base.ensures))),
    )
