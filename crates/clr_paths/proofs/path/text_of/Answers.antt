-- The chain by which the object was found, or none.
use Rattle.std.proofs.Common.{◌≡◌, ℕ, List, ◌++◌, ap, ◌∙◌, refl, subst}
use Rattle.std.specs.List.{flat_map}
use Rattle.clr_types.specs.Rising.{IsIn}
use Rattle.clr_sos.specs.Reaching.{entry_of, IsObjectOf, place_at}
use Rattle.clr_sos.specs.RootTexts.{IsRootOrigin, IsTrail, place_line}
use Rattle.clr_sos.specs.declared.reach.FoundObject.{FoundObject}
use Rattle.clr_sos.proofs.ViewNames.{sound_view}
use Rattle.clr_paths.proofs.PathTexts.{none-told, path-told, trail-stands}
use Rattle.clr_paths.proofs.path.text_of.Goals as goal

pub reach_from-requires-clause-sound : goal.reach_from-requires-clause-sound
reach_from-requires-clause-sound c = sound_view c.args.view.now c.requires.lawful

pub returns-in_default : goal.returns-in_default
returns-in_default c = λ m shown.
    none-told c.args.view.now m shown c.args.a c.args.b c.in_ok-reached.reached.entries.items
    c.in_ok-reached.ensures.found c.in_default.ensures.none c.extend_from_slice.new.self.items
    (rw (c.in_ok-extend_from_slice.ensures.items, c.new-text.ensures.items) refl)

pub put_places-requires-clause-stand : goal.put_places-requires-clause-stand
put_places-requires-clause-stand c =
    let v = c.args.view.now in
    let es = c.in_ok-reached.reached.entries.items in
    let last = c.in-Some.last in
    let places = c.in_ok-trail.trail.places.items in
    let root = c.in_ok-trail.trail.root in
    let trail = subst (λ (xs : List FoundObject). (i : ℕ) × IsTrail xs (place_at xs last) i places
    × (root ≡ (entry_of xs i).origin) × IsRootOrigin root) c.deref.ensures.value c.in_ok-trail.ensures in
    λ x l. trail-stands (IsObjectOf v) es c.in_ok-reached.ensures.stand (place_at es last) trail.0 places trail.1 x
    (subst (λ (xs : List ℕ). IsIn x xs) c.deref-2.ensures.value l)

pub returns : goal.returns
returns c =
    let v = c.args.view.now in
    let es = c.in_ok-reached.reached.entries.items in
    let last = c.in-Some.last in
    let places = c.in_ok-trail.trail.places.items in
    let root = c.in_ok-trail.trail.root in
    let trail = subst (λ (xs : List FoundObject). (i : ℕ) × IsTrail xs (place_at xs last) i places
    × (root ≡ (entry_of xs i).origin) × IsRootOrigin root) c.deref.ensures.value c.in_ok-trail.ensures in
    let put : c.put_places.new.text.items ≡ flat_map (place_line v) places =
    c.in_ok-put_places.ensures
    ∙ ap (λ (text : List ℕ). text ++ flat_map (place_line v) c.deref-2.result.now) c.new-text.ensures.items
    ∙ ap (λ (xs : List ℕ). flat_map (place_line v) xs) c.deref-2.ensures.value in
    λ m shown. path-told v m shown c.args.a c.args.b es c.in_ok-reached.ensures.found trail.0 places
    (subst (λ (p : ℕ). IsTrail es p trail.0 places) c.in-Some.ensures.some.1 trail.1)
    (subst IsRootOrigin trail.2 trail.3) c.put_places.new.text.items put
