use Rattle.std.proofs.Common.{◌≡◌, ℕ, Bool, ap, sym, ◌∙◌, subst, arith, true, nat_lt, not, if◌then◌else◌}
use Rattle.std.specs.List.{insert}
use Rattle.std.specs.Result.{is_ok}
use Rattle.std.proofs.lemmas.List.Sums.{prefix_len-le-length}
use Rattle.clr_types.specs.Ranges.{Piece}
use Rattle.clr_types.specs.Rising.{insert_by}
use Rattle.clr_items.specs.Stretches.{HaveAtMost}
use Rattle.clr_items.proofs.Lists.{place, put_in}
use Rattle.clr_items.proofs.Sizes.{at-most-more, at-most-put}
use Rattle.clr_items.proofs.StretchRows.{count-read}
use Rattle.clr_items.proofs.stretches.Stretch.put.Goals as goal

pub insert-requires : goal.insert-requires
insert-requires c =
    let ps = c.self.inside.items.items in
    let n = prefix_len-le-length (λ (p : Piece). nat_lt p.place c.args.item.place) ps in
    let at = count-read ps c.as_slice.result.now c.args.item.place c.place.result c.count_below-at.result
    c.count_below-at.ensures c.place.ensures c.as_slice.ensures.value in
    let ok = c.self.inside.items.ok in
    omega (arith, n, at, ok)

pub invariant_of-self-2 : goal.invariant_of-self-2
invariant_of-self-2 c =
    let ps = c.self.inside.items.items in
    let x = c.args.item in
    let at = count-read ps c.as_slice.result.now x.place c.place.result c.count_below-at.result
    c.count_below-at.ensures c.place.ensures c.as_slice.ensures.value in
    let fine : is_ok c.insert.result ≡ true = c.is_err.ensures.negation ∙ ap not c.if-is_err.false in
    let now : c.insert.new.self.items ≡ insert_by place x ps = c.insert.ensures.items
    ∙ ap (λ (b : Bool). if b then insert ps c.count_below-at.result x else ps) fine
    ∙ ap (λ (k : ℕ). insert ps k x) at ∙ put_in ps x in
    let most = c.max-self-inside.ensures in
    let size = c.size.ensures.value in
    subst (HaveAtMost c.max-self-inside.result) (sym now)
    (at-most-put c.max-self-inside.result x ps (omega (arith, most, size))
    (at-most-more c.self.inside.most c.max-self-inside.result ps (omega (arith, most)) c.self.invariant))

pub returns : goal.returns
returns c =
    let ps = c.self.inside.items.items in
    let x = c.args.item in
    let at = count-read ps c.as_slice.result.now x.place c.place.result c.count_below-at.result
    c.count_below-at.ensures c.place.ensures c.as_slice.ensures.value in
    let fine : is_ok c.insert.result ≡ true = c.is_err.ensures.negation ∙ ap not c.if-is_err.false in
    c.insert.ensures.items
    ∙ ap (λ (b : Bool). if b then insert ps c.count_below-at.result x else ps) fine
    ∙ ap (λ (k : ℕ). insert ps k x) at ∙ put_in ps x
    ∙ ap (insert_by place x) c.self.view_is
