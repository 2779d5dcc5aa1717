-- The three kinds of roots, one behind the other.
use Rattle.std.proofs.Common.{◌+◌, ◌^◌, ◌<◌, ℕ, arith, subst}
use Rattle.clr_model.specs.Looks.{IsRootsText}
use Rattle.clr_sos.proofs.ViewNames.{sound_view}
use Rattle.clr_paths.proofs.RootBlocks.{roots-text, told-few}
use Rattle.clr_paths.proofs.all_roots.text_of.Goals.{In_ok-ready}
use Rattle.clr_paths.proofs.all_roots.text_of.Goals as goal

pub of-requires : goal.of-requires
of-requires c = sound_view c.args.view.now c.requires.lawful

pub ways_to-requires-clause-sound : goal.ways_to-requires-clause-sound
ways_to-requires-clause-sound c = sound_view c.args.view.now c.requires.lawful

pub put_locals-requires-clause-sound : goal.put_locals-requires-clause-sound
put_locals-requires-clause-sound c = sound_view c.args.view.now c.requires.lawful

pub put_targets-requires-clause-sound : goal.put_targets-requires-clause-sound
put_targets-requires-clause-sound c = sound_view c.args.view.now c.requires.lawful

pub put_ready-requires-clause-sound : goal.put_ready-requires-clause-sound
put_ready-requires-clause-sound c = sound_view c.args.view.now c.requires.lawful

-- each root that leads to the object has a line in the text
few : (c : In_ok-ready) → (c.in_ok-locals.locals + c.in_ok-targets.targets) + c.in_ok-ready.ready < 2 ^ 63
few c =
    let m = c.requires.lawful.machine.0 in
    let shown = c.requires.lawful.machine.1 in
    let l = told-few m _ _ _ _ _ (c.in_ok-locals.ensures m shown) in
    let t = told-few m _ _ _ _ _ (c.in_ok-targets.ensures m shown) in
    let r = told-few m _ _ _ _ _ (c.in_ok-ready.ensures m shown) in
    let size = c.put_ready.new.text.ok.0 in
    let room = c.put_ready.new.text.ok.1 in
    let small = c.put_ready.new.text.small in
    omega (arith, l, t, r, size, room, small)

pub overflow_add-locals : goal.overflow_add-locals
overflow_add-locals c = let all = few (goal.at.overflow_add-locals c).In_ok-ready in omega (arith, all)

pub overflow_add-locals-2 : goal.overflow_add-locals-2
overflow_add-locals-2 c = let all = few (goal.at.overflow_add-locals-2 c).In_ok-ready in omega (arith, all)

pub returns : goal.returns
returns c = λ m shown.
    subst (λ (a : ℕ). IsRootsText m a c.put_count.new.text.items) c.in_ok-ways.ensures.goal
    (roots-text m _ c.in_ok-locals.locals c.in_ok-targets.targets c.in_ok-ready.ready c.new-text.result.items
    c.put_locals.new.text.items c.put_targets.new.text.items c.put_ready.new.text.items c.put_count.new.text.items
    c.new-text.ensures.items (c.in_ok-locals.ensures m shown) (c.in_ok-targets.ensures m shown)
    (c.in_ok-ready.ensures m shown) c.in_ok-put_count.ensures)
