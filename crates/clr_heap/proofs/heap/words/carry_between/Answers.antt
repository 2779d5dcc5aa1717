use Rattle.std.proofs.Common.{◌≡◌, ℕ, ◌+◌, List, get_or, take, drop, set, ap, ap₂, sym, ◌∙◌, arith, get_or-take}
use Rattle.std.proofs.Common.{get_or-drop}
use Rattle.std.proofs.lemmas.List.{get_or_default}
use Rattle.clr_mem.specs.Words.{Memory, moved}
use Rattle.clr_heap.proofs.Halves.{set_half}
use Rattle.clr_heap.proofs.heap.words.carry_between.Goals as goal

pub returns : goal.returns
returns c = λ d.
    let xs = c.args.memories.now.items in
    let low = c.args.low in
    let high = c.args.high in
    let front = c.split_at_mut-front.result.0.now in
    let back = c.split_at_mut-front.result.1.now in
    let whole = c.deref_mut.ensures.value in
    let fe : front ≡ take high xs = c.split_at_mut-front.ensures.front ∙ ap (take high) whole in
    let be : back ≡ drop high xs = c.split_at_mut-front.ensures.back ∙ ap (drop high) whole in
    let within = c.requires.in_range in
    let order = c.requires.order in
    let r = c.index-front-low.result in
    let o = c.index-back-0.result in
    let target : get_or front low r ≡ get_or xs low d = ap (λ (fs : List Memory). get_or fs low r) fe
    ∙ get_or-take high xs low r order ∙ get_or_default xs low r d (omega arith) in
    let at : high + 0 ≡ high = omega arith in
    let source : o ≡ get_or xs high d = c.index-back-0.is ∙ ap (λ (bs : List Memory). get_or bs 0 o) be
    ∙ get_or-drop high xs 0 o ∙ ap (λ (k : ℕ). get_or xs k o) at ∙ get_or_default xs high o d within in
    let half = set_half xs front back low high c.args.memories.now.len c.carry.new.self fe be order (omega arith)
    (omega arith) in
    half ∙ ap (λ (m : Memory). set xs low m)
    (c.carry.ensures.value ∙ ap₂ (λ (m n : Memory). moved m n c.args.to c.args.from c.args.len) target
    (sym c.index-back-0.is ∙ source))
