-- What isn't kept is swept, by bits or by marks in the heap.
use Rattle.std.proofs.Common.{◌≡◌, ◌⊎◌, inl, inr, ◌∙◌, ℕ, ◌<◌, List, length, ap, subst, sym, true}
use Rattle.clr_types.specs.Rising.{IsIn}
use Rattle.clr_mark.specs.Roots as roots
use Rattle.clr_mark.specs.Ties.{IsStart, Joins}
use Rattle.clr_mark.proofs.Graying.{reach_bind}
use Rattle.clr_model.specs.Reach.{Reach, starts}
use Rattle.clr_bgmark.specs.Closing.{without_colours}
use Rattle.clr_bgmark.specs.Pauses.{IsFound}
use Rattle.clr_bgmark.specs.Shades.{BackgroundView, PartView, ShadeView}
use Rattle.clr_bgmark.specs.Tiles.{AreParts, HaveEdges}
use Rattle.clr_bgmark.proofs.SameTiles.{same_count, same_parts}
use Rattle.clr_survivors.specs.Survivors.{world_of}
use Rattle.clr_collect.proofs.FoundFronts.{edges_same}
use Rattle.clr_collect.proofs.StartsAgain.{swept_again}
use Rattle.clr_collect.proofs.WorldNames.{handles_stand, locals_stand, ready_stand, slots_stand}
use Rattle.clr_collect.proofs.ending.sweep_rest.Goals.{After-close-found}
use Rattle.clr_collect.proofs.ending.sweep_rest.Goals as goal

pub close-found-requires-clause-closed : goal.close-found-requires-clause-closed
close-found-requires-clause-closed c =
    let (m, is, named, idle) = c.requires.world in
    record {
      heap = c.requires.tidy.heap;
      held = c.requires.tidy.held;
      named = slots_stand (world_of c.args.types.now c.args.space.now.heap c.args.roots.now) m is named;
    }

pub close-found-requires-clause-handles : goal.close-found-requires-clause-handles
close-found-requires-clause-handles c =
    let (m, is, named, idle) = c.requires.world in
    handles_stand (world_of c.args.types.now c.args.space.now.heap c.args.roots.now) m is named

pub close-found-requires-clause-locals : goal.close-found-requires-clause-locals
close-found-requires-clause-locals c =
    let (m, is, named, idle) = c.requires.world in
    subst (roots.AreObjects c.args.types.now c.args.space.now.heap) (sym c.deref.ensures.value)
    (locals_stand (world_of c.args.types.now c.args.space.now.heap c.args.roots.now) m is named)

pub close-found-requires-clause-ready : goal.close-found-requires-clause-ready
close-found-requires-clause-ready c =
    let (m, is, named, idle) = c.requires.world in
    subst (roots.AreObjects c.args.types.now c.args.space.now.heap) (sym c.ready.ensures)
    (ready_stand (world_of c.args.types.now c.args.space.now.heap c.args.roots.now) m is named)

-- ---- what is found

-- what the last pause reaches from where it starts, and from what is found
abbrev IsReached : After-close-found → List ℕ → List ℕ → List ShadeView → ℕ → Type 0
IsReached c locals ready ss x =
    Reach (Joins c.args.types.now c.args.space.now.heap c.args.roots.now.handles)
    (λ y. IsStart c.args.roots.now.handles locals ready y ⊎ IsFound ss y) x

reached : (c : After-close-found) → (x : ℕ) → IsFound c.close-found.new.self.shades x
    → IsReached c c.args.roots.now.locals.items c.args.roots.now.finals.ready c.args.background.now.shades x
reached c =
    let was = c.args.background.now.shades in
    let now = c.close-found.new.self.shades in
    subst (λ (ls : List ℕ). (x : ℕ) → IsFound now x → IsReached c ls c.args.roots.now.finals.ready was x)
    c.deref.ensures.value
    (subst (λ (rs : List ℕ). (x : ℕ) → IsFound now x → IsReached c c.deref.result.now rs was x) c.ready.ensures
    c.close-found.ensures.reached)

all : (c : After-close-found) → c.close-found.result ≡ true → (x : ℕ)
    → IsReached c c.args.roots.now.locals.items c.args.roots.now.finals.ready c.args.background.now.shades x
    → IsFound c.close-found.new.self.shades x
all c on =
    let was = c.args.background.now.shades in
    let now = c.close-found.new.self.shades in
    subst (λ (ls : List ℕ). (x : ℕ) → IsReached c ls c.args.roots.now.finals.ready was x → IsFound now x)
    c.deref.ensures.value
    (subst (λ (rs : List ℕ). (x : ℕ) → IsReached c c.deref.result.now rs was x → IsFound now x) c.ready.ensures
    (c.close-found.ensures.all on))

pub sweep_behind_fronts-requires-clause-parts : goal.sweep_behind_fronts-requires-clause-parts
sweep_behind_fronts-requires-clause-parts c =
    let ss = c.close-found.new.self.shades in
    subst (λ (ps : List PartView). AreParts ss ps)
    (sym (ap (λ (v : BackgroundView). v.parts) c.close-found.ensures.others))
    (same_parts c.args.background.now.shades ss c.close-found.ensures.taken c.args.background.now.parts
    c.requires.parts)

pub sweep_behind_fronts-requires-clause-edges : goal.sweep_behind_fronts-requires-clause-edges
sweep_behind_fronts-requires-clause-edges c =
    let ss = c.close-found.new.self.shades in
    subst (λ (ps : List PartView). HaveEdges c.args.types.now c.args.space.now.heap ss ps)
    (sym (ap (λ (v : BackgroundView). v.parts) c.close-found.ensures.others))
    (edges_same c.args.types.now c.args.space.now.heap c.args.background.now.shades ss c.close-found.ensures.taken
    c.args.background.now.parts c.requires.tiled)

pub sweep_behind_fronts-requires-clause-room : goal.sweep_behind_fronts-requires-clause-room
sweep_behind_fronts-requires-clause-room c =
    ap (λ (v : BackgroundView). length v.fronts) c.close-found.ensures.others ∙ c.requires.room
    ∙ sym (same_count c.args.background.now.shades c.close-found.new.self.shades c.close-found.ensures.taken)

pub sweep_behind_fronts-requires-clause-all : goal.sweep_behind_fronts-requires-clause-all
sweep_behind_fronts-requires-clause-all c x r =
    let g = (goal.at.sweep_behind_fronts-requires-clause-all c).After-close-found in
    let edge = Joins c.args.types.now c.args.space.now.heap c.args.roots.now.handles in
    let start : ℕ → Type 0 =
    IsStart c.args.roots.now.handles c.args.roots.now.locals.items c.args.roots.now.finals.ready in
    all g c.if-found.true x
    (reach_bind edge edge (λ y. start y ⊎ IsFound c.args.background.now.shades y)
    (λ y. start y ⊎ IsFound c.close-found.new.self.shades y) x (λ y z e. e)
    (λ y s. elim s [ inl begins ↦ starts (inl begins) | inr found ↦ reached g y found ]) r)

pub sweep_behind_fronts-requires-clause-entries : goal.sweep_behind_fronts-requires-clause-entries
sweep_behind_fronts-requires-clause-entries c =
    subst (λ (es : List ℕ). (x : ℕ) → IsIn x es → 0 < x → IsFound c.close-found.new.self.shades x) c.entries.ensures
    (c.close-found.ensures.entries c.if-found.true)

pub sweep_behind_fronts-requires-clause-targets : goal.sweep_behind_fronts-requires-clause-targets
sweep_behind_fronts-requires-clause-targets c = c.close-found.ensures.targets c.if-found.true

pub returns-then-has_same_segments-clause-ended : goal.returns-then-has_same_segments-clause-ended
returns-then-has_same_segments-clause-ended c =
    swept_again (world_of c.args.types.now c.args.space.now.heap c.args.roots.now) c.requires.tidy.heap
    c.requires.tidy.held c.args.background.now.shades c.close-found.new.self.shades c.requires.objects
    c.close-found.ensures.objects c.close-found.ensures.kept
    (reached (goal.at.returns-then-has_same_segments-clause-ended c).After-close-found) c.args.space.now
    c.sweep_behind_fronts.new.space
    c.args.roots.now.handles c.args.roots.now.finals c.sweep_behind_fronts.result c.sweep_behind_fronts.ensures.ended

pub returns-else-found-clause-ended : goal.returns-else-found-clause-ended
returns-else-found-clause-ended c =
    swept_again (world_of c.args.types.now c.args.space.now.heap c.args.roots.now) c.requires.tidy.heap
    c.requires.tidy.held c.args.background.now.shades c.close-found.new.self.shades c.requires.objects
    c.close-found.ensures.objects c.close-found.ensures.kept
    (reached (goal.at.returns-else-found-clause-ended c).After-close-found) c.args.space.now c.sweep_unmarked.new.space
    c.sweep_unmarked.new.roots.handles c.sweep_unmarked.new.roots.finals c.sweep_unmarked.result
    c.sweep_unmarked.ensures.ended
