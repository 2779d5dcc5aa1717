use Rattle.std.proofs.Common.{◌≡◌, ◌∙◌, ◌-◌, List, ℕ, length, get_or, sym, ap, subst, arith, unwrap_or}
use Rattle.clr_final.specs.Places.{ArePeaks}
use Rattle.clr_final.proofs.PeakSteps.{peaks-more}
use Rattle.clr_final.proofs.places.settle_chunk.Goals as goal

pub returns-clause-peaks : goal.returns-clause-peaks
returns-clause-peaks c =
    let peaks = c.args.peaks.now.items in
    let last : c.unwrap_or-below.result ≡ get_or c.deref.result.now (length c.deref.result.now - 1) 0 =
    c.unwrap_or-below.ensures ∙ ap (λ o. unwrap_or o 0) c.copied.ensures ∙ c.last.ensures.item.4 (omega arith) 0 in
    let below : c.unwrap_or-below.result ≡ get_or peaks (length peaks - 1) 0 =
    last ∙ ap (λ (xs : List ℕ). get_or xs (length xs - 1) 0) c.deref.ensures.value in
    let len = c.len-first.ensures in
    let ok = c.args.peaks.now.ok in
    let count : c.len-first.result ≡ length peaks = omega (arith, len, ok) in
    subst (ArePeaks c.args.items.now) (sym c.push_reserved.ensures.items)
    (peaks-more c.args.items.now peaks c.unwrap_or-below.result c.highest-peak.result c.len-first.result
    c.requires.peaks count c.requires.chunk below c.highest-peak.ensures.first c.highest-peak.ensures.each)
