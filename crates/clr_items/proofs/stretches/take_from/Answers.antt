use Rattle.std.proofs.Common.{◌≡◌, ◌≢◌, ℕ, ◌+◌, ◌-◌, ◌<◌, ap, sym, ◌∙◌, arith, set}
use Rattle.std.specs.List.{remove}
use Rattle.clr_types.specs.Ranges.{piece_end}
use Rattle.clr_model.specs.Allocation.{taken_from}
use Rattle.clr_items.proofs.Lists.{spot}
use Rattle.clr_items.proofs.StretchRows.{count-read}
use Rattle.clr_items.proofs.stretches.take_from.Goals as goal

pub remove-requires : goal.remove-requires
remove-requires c =
    let ps = c.args.items.now.items in
    let within = (spot ps c.args.item c.requires.rising c.requires.listed).in_range in
    let at = count-read ps c.as_slice.result.now c.args.item.place c.place.result c.count_below-at.result
    c.count_below-at.ensures c.place.ensures c.as_slice.ensures.value in
    let ok = c.args.items.now.ok in
    omega (arith, within, at, ok)

pub index_mut-requires : goal.index_mut-requires
index_mut-requires c =
    let ps = c.args.items.now.items in
    let within = (spot ps c.args.item c.requires.rising c.requires.listed).in_range in
    let at = count-read ps c.as_slice.result.now c.args.item.place c.place.result c.count_below-at.result
    c.count_below-at.ensures c.place.ensures c.as_slice.ensures.value in
    let ok = c.args.items.now.ok in
    omega (arith, within, at, ok)

pub returns-then-taken-size : goal.returns-then-taken-size
returns-then-taken-size c =
    let ps = c.args.items.now.items in
    let x = c.args.item in
    let s = spot ps x c.requires.rising c.requires.listed in
    let at = count-read ps c.as_slice.result.now x.place c.place.result c.count_below-at.result
    c.count_below-at.ensures c.place.ensures c.as_slice.ensures.value in
    let all : x.size ≡ c.args.taken = sym (c.if-taken-size.true ∙ c.size.ensures.value) in
    c.remove.ensures.items ∙ ap (remove ps) at ∙ sym s.whole ∙ ap (λ (n : ℕ). taken_from x.place n ps) all

pub returns-else-taken-size : goal.returns-else-taken-size
returns-else-taken-size c =
    let ps = c.args.items.now.items in
    let x = c.args.item in
    let n = c.args.taken in
    let s = spot ps x c.requires.rising c.requires.listed in
    let at = count-read ps c.as_slice.result.now x.place c.place.result c.count_below-at.result
    c.count_below-at.ensures c.place.ensures c.as_slice.ensures.value in
    let apart : n ≢ x.size = λ same. c.if-taken-size.false (same ∙ sym c.size.ensures.value) in
    let within = c.requires.within in
    let less : n < x.size = omega (arith, within, apart) in
    let start = c.place-else-taken-size.ensures in
    let end = c.end.ensures in
    let made : c.between.result ≡ record { place = x.place + n; size = piece_end x - (x.place + n) } =
    c.between.ensures ∙ (λ i. record { place = start i + n; size = end i - (start i + n) }) in
    ap (λ (k : ℕ). set ps k c.between.result) at ∙ sym (s.part n c.between.result less made)
