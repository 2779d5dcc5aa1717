use Rattle.std.proofs.Common.{◌≡◌, ℕ, ◌*◌, ◌-◌, ◌/◌, refl, nat_lt, ap, sym, ◌∙◌}
use Rattle.clr_model.specs.Collection.{extent, kept_bytes}
use Rattle.clr_model.specs.Sweep.{survivors}
use Rattle.clr_types.specs.Segments.{Layout}
use Rattle.clr_sweep.proofs.KeptSizes.{decided}
use Rattle.clr_sweep.proofs.bytes.frees_enough.Goals as goal

pub returns : goal.returns
returns c = λ m kept memory tests same.
    (let g = c.args.g in
    let all : c.extent-all.result ≡ extent m.layout g =
    c.extent-all.ensures.bytes ∙ ap (λ (l : Layout). extent l g) (sym memory.layout) in
    let stays : ℕ = kept_bytes m.layout (survivors m g kept) in
    c.kept_bytes.ensures m kept memory tests
    ∙ decided c.args.threshold c.extent-all.result stays
    (c.extent-all.result - c.args.threshold * c.extent-all.result / 100) refl
    ∙ (λ i. nat_lt (sym same i * all i) ((all i - stays) * 100)))
