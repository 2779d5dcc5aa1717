-- A root and the chain from there, where the search has found the object.
use Rattle.std.proofs.Common.{◌≡◌, ℕ, List, ◌++◌, inl, ap, ◌∙◌, subst}
use Rattle.std.specs.List.{flat_map}
use Rattle.clr_types.specs.Rising.{IsIn}
use Rattle.clr_sos.specs.Reaching.{entry_of, place_at}
use Rattle.clr_sos.specs.RootTexts.{IsRootOrigin, IsTrail, origin_line, place_line}
use Rattle.clr_sos.specs.declared.reach.FoundObject.{FoundObject}
use Rattle.clr_sos.proofs.Trails.{chain-stands, chain-told, root-told}
use Rattle.clr_sos.proofs.ViewNames.{count_locals, sound_view}
use Rattle.clr_sos.proofs.roots.text_of.Goals as goal

pub reach_to-requires-clause-sound : goal.reach_to-requires-clause-sound
reach_to-requires-clause-sound c = sound_view c.args.view.now c.requires.lawful

pub put_places-requires-clause-stand : goal.put_places-requires-clause-stand
put_places-requires-clause-stand c =
    let v = c.args.view.now in
    let m = c.requires.lawful.machine.0 in
    let shown = c.requires.lawful.machine.1 in
    let seen = c.in_ok-reached.reached.seen.items in
    let es = c.in_ok-reached.reached.entries.items in
    let last = c.in-Some.last in
    let places = c.in_ok-trail.trail.places.items in
    let root = c.in_ok-trail.trail.root in
    let trail = subst (λ (xs : List FoundObject). (i : ℕ) × IsTrail xs (place_at xs last) i places
    × (root ≡ (entry_of xs i).origin) × IsRootOrigin root) c.deref.ensures.value c.in_ok-trail.ensures in
    let chain = chain-told v m shown seen es c.in_ok-reached.ensures.search (place_at es last) trail.0 places trail.1 in
    λ x l. chain-stands v m shown seen es c.in_ok-reached.ensures.search (place_at es last) trail.0 places chain x
    (subst (λ (xs : List ℕ). IsIn x xs) c.deref-2.ensures.value l)

pub returns : goal.returns
returns c =
    let v = c.args.view.now in
    let seen = c.in_ok-reached.reached.seen.items in
    let es = c.in_ok-reached.reached.entries.items in
    let last = c.in-Some.last in
    let places = c.in_ok-trail.trail.places.items in
    let root = c.in_ok-trail.trail.root in
    let trail = subst (λ (xs : List FoundObject). (i : ℕ) × IsTrail xs (place_at xs last) i places
    × (root ≡ (entry_of xs i).origin) × IsRootOrigin root) c.deref.ensures.value c.in_ok-trail.ensures in
    let put : c.put_places.new.text.items ≡ origin_line root ++ flat_map (place_line v) places =
    c.in_ok-put_places.ensures
    ∙ ap (λ (text : List ℕ). text ++ flat_map (place_line v) c.deref-2.result.now)
    (c.in_ok-put_origin.ensures ∙ ap (λ (text : List ℕ). text ++ origin_line root) c.new-text.ensures.items)
    ∙ ap (λ (xs : List ℕ). origin_line root ++ flat_map (place_line v) xs) c.deref-2.ensures.value in
    λ m shown. inl (root-told v m shown (count_locals v c.requires.lawful) seen es
    (sound_view v c.requires.lawful) c.in_ok-reached.ensures.search c.in_ok-reached.ensures.nearest c.args.a
    last trail.0 places root c.put_places.new.text.items c.in-Some.ensures.some.1 trail.1 trail.2 trail.3 put)
