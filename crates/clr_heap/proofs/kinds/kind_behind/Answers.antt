use Rattle.std.proofs.Common.{ℕ, sym, ap, ◌∙◌, subst}
use Rattle.clr_types.specs.Bits.{unmarked}
use Rattle.clr_heap.specs.ObjectKinds.{IsObjectKind}
use Rattle.clr_heap.proofs.ObjectKinds.{kind-known}
use Rattle.clr_heap.proofs.kinds.kind_behind.Goals as goal

pub returns : goal.returns
returns c =
    let (word, a, found, mt) = c.requires.told in
    subst (λ (w : ℕ). IsObjectKind c.args.types.now (record { mt = w; size = c.args.found.size }))
    (sym (c.unmarked.ensures ∙ ap unmarked mt))
    (kind-known c.args.types.now word a c.args.found found c.if-found-eq0.false
    (sym c.has_length.ensures ∙ c.if-has_length.false))
