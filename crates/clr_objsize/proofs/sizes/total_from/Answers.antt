-- A view with the one root is sound, and what it holds is what the object holds.
use Rattle.std.proofs.Common.{◌≡◌, [], ◌∷◌, ap, refl, Err, Ok, Result}
use Rattle.std.specs.Prelude.{IfOk}
use Rattle.clr_final.specs.Queues.{Queues}
use Rattle.clr_mark.specs.Roots.{IsRoot}
use Rattle.clr_sos.proofs.ReachedAll.{object-not_null}
use Rattle.clr_sos.proofs.ViewNames.{sound_view}
use Rattle.clr_objsize.specs.Sizes.{HasTotal}
use Rattle.clr_objsize.proofs.SlotsAlone.{sound-alone, total-alone}
use Rattle.clr_objsize.proofs.sizes.total_from.Goals as goal

pub total_of_locals-requires-clause-sound : goal.total_of_locals-requires-clause-sound
total_of_locals-requires-clause-sound c =
    let v = c.args.view.now in
    sound-alone v _ refl refl c.args.place refl (sound_view v c.requires.lawful) c.requires.stands
    c.new-handles.ensures (ap (λ (q : Queues). q.ready) c.new-finals.ensures)

-- a fact of a success gives another
on_ok : {X E : Type 0} (P Q : X → Type 0) → ((x : X) → P x → Q x) → (told : Result X E) → IfOk told P → IfOk told Q
on_ok P Q give (Ok x) p = give x p
on_ok P Q give (Err e) p = tt

pub returns : goal.returns
returns c =
    let v = c.args.view.now in
    let place = c.args.place in
    let sound = sound_view v c.requires.lawful in
    on_ok (HasTotal v (IsRoot (place ∷ []))) (HasTotal v (λ y. y ≡ place))
    (λ total told. total-alone v place total (object-not_null v sound place c.requires.stands) told)
    c.total_of_locals.result c.total_of_locals.ensures
