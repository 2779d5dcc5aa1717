use Rattle.std.proofs.Common.{◌≡◌, ◌==◌, ◌∙◌, ℕ, Some, sym, ap, subst, arith, refl}
use Rattle.std.specs.FinMap as finmap
use Rattle.clr_types.specs.HandleCode.{number_of_kind}
use Rattle.clr_types.specs.declared.handle.Handle.{Handle}
use Rattle.clr_handles.specs.Tables.{Table}
use Rattle.clr_handles.specs.Places.{IsFollowed}
use Rattle.clr_handles.specs.Changes.{BecomesAt}
use Rattle.clr_handles.specs.Tops.{kind_count, reach}
use Rattle.clr_handles.proofs.ChangedRows.{at-changed}
use Rattle.clr_handles.proofs.MovedRows.{followed, reach-put}
use Rattle.clr_handles.proofs.PinnedCounts.{counted-replaced}
use Rattle.clr_handles.proofs.moving.follow_in_row.Goals as goal

abbrev with_places : Handle → ℕ → ℕ → Handle
with_places row target second = record { kind = row.kind; target = target; second = second }

pub returns-clause-moved : goal.returns-clause-moved
returns-clause-moved g c =
    let post = λ (place moved : ℕ). goal.F-post g c.args.to.now place moved in
    let R = IsFollowed c.args.spares post c.args.low in
    let old = c.in-Some.handle in
    let moved = with_places old c.moved_target.result c.moved_place.result in
    let here : finmap.get c.args.rows.now c.args.h ≡ Some old = sym c.get.ensures.value ∙ c.in-Some.is in
    subst (λ (t : Table). BecomesAt R c.args.rows.now t c.args.h) (sym c.set.ensures)
    (at-changed R c.args.rows.now c.args.h old moved here
    (followed post c.args.low c.args.spares old moved refl c.moved_target.ensures c.moved_place.ensures))

pub returns-clause-counts : goal.returns-clause-counts
returns-clause-counts g c = λ kind.
    let old = c.in-Some.handle in
    let moved = with_places old c.moved_target.result c.moved_place.result in
    let here : finmap.get c.args.rows.now c.args.h ≡ Some old = sym c.get.ensures.value ∙ c.in-Some.is in
    ap (kind_count kind) c.set.ensures
    ∙ counted-replaced (λ k. number_of_kind k == number_of_kind kind) c.args.rows.now c.args.h old moved here refl

pub returns-clause-reach : goal.returns-clause-reach
returns-clause-reach g c = λ row here.
    let moved = with_places c.in-Some.handle c.moved_target.result c.moved_place.result in
    let put = ap (λ (t : Table). finmap.get t c.args.h) (sym c.set.ensures) ∙ here in
    let under = reach-put c.args.rows.now c.args.h moved row put in
    let high : c.reach_of.result ≡ reach moved = c.reach_of.ensures in
    omega (arith, under, high)
