use Rattle.std.proofs.Common.{◌≡◌, ℕ, List, ◌⊎◌, inl, inr, arith, true, false, length, map, ap, sym, subst, ◌∙◌}
use Rattle.std.proofs.lemmas.List.{length-map}
use Rattle.clr_heap.specs.View.{heap_items}
use Rattle.clr_view.specs.View.{objects_in}
use Rattle.clr_sweep.specs.declared.behind.Front.{Front}
use Rattle.clr_bgmark.specs.Closing.{without_colours}
use Rattle.clr_bgmark.specs.Pauses.{all_taken}
use Rattle.clr_bgmark.specs.Scanning.{IsCounted}
use Rattle.clr_bgmark.specs.Shades.{AreRising, BackgroundView, is_marked, is_taken, PartView, ShadeView}
use Rattle.clr_bgmark.specs.Tiles.{AreParts, AreTiled}
use Rattle.clr_bgmark.proofs.AllParts.{shade_count}
use Rattle.clr_bgmark.proofs.FirstBegun.{first_begun, items_covered, taking_found, taking_marks}
use Rattle.clr_bgmark.proofs.FirstColours.{bare_marks, first_bare, first_objects, first_whole, IsInFirstPause}
use Rattle.clr_bgmark.proofs.FirstColours.{roots_first, roots_running, take_all_first, targets_first, targets_running}
use Rattle.clr_bgmark.proofs.FirstCounted.{none_counted, roots_counted, targets_counted}
use Rattle.clr_bgmark.proofs.FirstPause.{taken_rising}
use Rattle.clr_bgmark.proofs.FirstTaken.{all_shapes, shape}
use Rattle.clr_bgmark.proofs.FirstTiles.{beside_colours, first_tiled, roots_beside, targets_beside}
use Rattle.clr_bgmark.proofs.FirstRoots.{IsMemberBelow, IsNamed, IsTargetBelow, named_root, root_named, roots_met}
use Rattle.clr_bgmark.proofs.FirstRoots.{targets_met}
use Rattle.clr_bgmark.proofs.Meeting.{HasMet, met_after}
use Rattle.clr_bgmark.proofs.SameTiles.{same_count, same_parts}
use Rattle.clr_bgmark.proofs.Watched.{unmarked_quiet}
use Rattle.clr_bgmark.proofs.background.Background.begin.Goals.{After-gray_targets}
use Rattle.clr_bgmark.proofs.background.Background.begin.Goals as goal

-- ---- the bits after each part of the pause

abbrev IsBegunTo : After-gray_targets → List ShadeView → Type 0
IsBegunTo c ss =
    IsInFirstPause c.args.heap.now (heap_items c.args.types.now c.args.heap.now) c.in_ok-shades.shades.items ss

-- the collection when the objects are taken
abbrev taken : After-gray_targets → BackgroundView
taken c = record {
  running = true;
  shades = c.take_oldest.new.shades.items;
  gray = 0;
  parts = c.take_oldest.new.parts.items;
  fronts = c.in_ok-fronts.fronts.items;
}

bare_first : (c : After-gray_targets) → IsBegunTo c c.in_ok-shades.shades.items
bare_first c =
    let made = c.in_ok-shades.ensures in
    first_bare c.args.heap.now (heap_items c.args.types.now c.args.heap.now) c.in_ok-shades.shades.items made.lawful
    made.apart made.none

taken_first : (c : After-gray_targets) → IsBegunTo c c.take_oldest.new.shades.items
taken_first c =
    let items = heap_items c.args.types.now c.args.heap.now in
    let bare = c.in_ok-shades.shades.items in
    subst (IsBegunTo c) (sym c.take_oldest.ensures.taken)
    (take_all_first c.args.heap.now items bare bare items (bare_first c) (λ i k. k))

locals_first : (c : After-gray_targets) → IsBegunTo c c.gray_roots.new.self.shades
locals_first c =
    subst (λ (v : BackgroundView). IsBegunTo c v.shades) (sym c.gray_roots.ensures)
    (roots_first c.args.heap.now (heap_items c.args.types.now c.args.heap.now) c.in_ok-shades.shades.items
    c.args.locals.now (length c.args.locals.now) (taken c) (taken_first c))

ready_first : (c : After-gray_targets) → IsBegunTo c c.gray_roots-2.new.self.shades
ready_first c =
    subst (λ (v : BackgroundView). IsBegunTo c v.shades) (sym c.gray_roots-2.ensures)
    (roots_first c.args.heap.now (heap_items c.args.types.now c.args.heap.now) c.in_ok-shades.shades.items
    c.args.ready.now (length c.args.ready.now) c.gray_roots.new.self (locals_first c))

begun : (c : After-gray_targets) → IsBegunTo c c.gray_targets.new.self.shades
begun c =
    subst (λ (v : BackgroundView). IsBegunTo c v.shades) (sym c.gray_targets.ensures.grayed)
    (targets_first c.args.heap.now (heap_items c.args.types.now c.args.heap.now) c.in_ok-shades.shades.items
    c.args.handles.now 65536 c.gray_roots-2.new.self (ready_first c))

-- nothing is marked before the roots
unmarked : (c : After-gray_targets) (b : ℕ) → is_marked c.take_oldest.new.shades.items b ≡ false
unmarked c b =
    let items = heap_items c.args.types.now c.args.heap.now in
    let bare = c.in_ok-shades.shades.items in
    ap (λ (now : List ShadeView). is_marked now b) c.take_oldest.ensures.taken
    ∙ taking_marks c.args.heap.now items bare bare items b ∙ bare_marks bare c.in_ok-shades.ensures.none b

-- ---- the answers

pub invariant_of-self : goal.invariant_of-self
invariant_of-self c =
    let h = c.args.heap.now in
    let items = heap_items c.args.types.now h in
    let bare = c.in_ok-shades.shades.items in
    let f : IsInFirstPause h items bare c.take_oldest.new.shades.items =
    subst (IsInFirstPause h items bare) (sym c.take_oldest.ensures.taken)
    (take_all_first h items bare bare items
    (first_bare h items bare c.in_ok-shades.ensures.lawful c.in_ok-shades.ensures.apart c.in_ok-shades.ensures.none)
    (λ i k. k)) in
    let count = shade_count h bare c.in_ok-shades.ensures.shades in
    record {
      background = record {
        shades = f.shades;
        apart = f.apart;
        rising = subst AreRising (sym c.take_oldest.ensures.taken) (taken_rising h items bare c.in_ok-shades.ensures.rising);
      };
      room =
          let made = c.in_ok-pending.ensures.room in
          let segments = c.segments.ensures.count in
          let same =
          ap length c.take_oldest.ensures.taken ∙ sym (length-map (all_taken h bare items) shape)
          ∙ ap length (all_shapes h items bare) ∙ length-map bare shape in
          omega (arith, made, segments, count, same);
      pending = λ k d l off. unmarked_quiet c.take_oldest.new.shades.items f.apart (λ b.
          ap (λ (now : List ShadeView). is_marked now b) c.take_oldest.ensures.taken
          ∙ taking_marks h items bare bare items b ∙ bare_marks bare c.in_ok-shades.ensures.none b) k d l;
    }

pub returns-clause-running : goal.returns-clause-running
returns-clause-running c =
    ap (λ (v : BackgroundView). v.running) c.gray_targets.ensures.grayed
    ∙ targets_running c.args.handles.now 65536 c.gray_roots-2.new.self
    ∙ ap (λ (v : BackgroundView). v.running) c.gray_roots-2.ensures
    ∙ roots_running c.args.ready.now (length c.args.ready.now) c.gray_roots.new.self
    ∙ ap (λ (v : BackgroundView). v.running) c.gray_roots.ensures
    ∙ roots_running c.args.locals.now (length c.args.locals.now)
    (taken c)

-- what was named is gray
named_met : (c : After-gray_targets)
    → HasMet c.take_oldest.new.shades.items c.gray_targets.new.self.shades
    (IsNamed c.args.handles.now c.args.locals.now c.args.ready.now)
named_met c =
    let rows = c.args.types.now in
    let h = c.args.heap.now in
    let heap = c.requires.closed.heap in
    let held = c.requires.closed.held in
    let bare = c.in_ok-shades.shades.items in
    let ss = c.take_oldest.new.shades.items in
    let hs = c.args.handles.now in
    let ls = c.args.locals.now in
    let rs = c.args.ready.now in
    let one = c.gray_roots.new.self in
    let two = c.gray_roots-2.new.self in
    let three = c.gray_targets.new.self in
    let either : ℕ → Type 0 = (λ b. IsMemberBelow ls (length ls) b ⊎ IsMemberBelow rs (length rs) b) in
    let of_locals : HasMet ss one.shades (IsMemberBelow ls (length ls)) =
    subst (λ (v : BackgroundView). HasMet ss v.shades (IsMemberBelow ls (length ls))) (sym c.gray_roots.ensures)
    (roots_met rows h heap held bare ls c.requires.locals (length ls) (omega arith) (taken c) (taken_first c)) in
    let of_ready : HasMet one.shades two.shades (IsMemberBelow rs (length rs)) =
    subst (λ (v : BackgroundView). HasMet one.shades v.shades (IsMemberBelow rs (length rs)))
    (sym c.gray_roots-2.ensures)
    (roots_met rows h heap held bare rs c.requires.ready (length rs) (omega arith) one (locals_first c)) in
    let of_handles : HasMet two.shades three.shades (IsTargetBelow hs 65536) =
    subst (λ (v : BackgroundView). HasMet two.shades v.shades (IsTargetBelow hs 65536))
    (sym c.gray_targets.ensures.grayed)
    (targets_met rows h heap held bare hs c.requires.handles 65536 two (ready_first c)) in
    met_after ss two.shades three.shades either (IsTargetBelow hs 65536) (IsNamed hs ls rs)
    (met_after ss one.shades two.shades (IsMemberBelow ls (length ls)) (IsMemberBelow rs (length rs)) either of_locals
    of_ready (λ b n. n) (λ b n. inl n) (λ b n. inr n))
    of_handles (λ b n. n) (λ b n. inl n) (λ b n. inr n)

pub returns-clause-begun : goal.returns-clause-begun
returns-clause-begun c m objects layout handles locals ready =
    let rows = c.args.types.now in
    let h = c.args.heap.now in
    let heap = c.requires.closed.heap in
    let held = c.requires.closed.held in
    let items = heap_items rows h in
    let bare = c.in_ok-shades.shades.items in
    let shapes = c.in_ok-shades.ensures.shades in
    let hs = c.args.handles.now in
    let ls = c.args.locals.now in
    let rs = c.args.ready.now in
    first_begun rows h heap held bare shapes c.take_oldest.new.shades.items c.gray_targets.new.self.shades
    (taken_first c) (unmarked c)
    (λ i k old.
    subst (λ (now : List ShadeView). is_taken now i.place ≡ true) (sym c.take_oldest.ensures.taken)
    (taking_found h items bare bare items (bare_first c) (λ j l. l) (items_covered rows h heap held bare shapes) i k
    old))
    (IsNamed hs ls rs) (named_met c) m objects layout (named_root m hs ls rs handles locals ready)
    (root_named m hs ls rs handles locals ready c.gray_targets.ensures.below)

pub returns-clause-log : goal.returns-clause-log
returns-clause-log c = (begun c).logged

pub returns-clause-objects : goal.returns-clause-objects
returns-clause-objects c =
    first_objects c.args.types.now c.args.heap.now c.requires.closed.heap c.requires.closed.held
    c.in_ok-shades.shades.items
    c.gray_targets.new.self.shades (begun c)

pub returns-clause-whole : goal.returns-clause-whole
returns-clause-whole c =
    first_whole c.args.types.now c.args.heap.now c.requires.closed.heap c.requires.closed.held
    c.in_ok-shades.shades.items
    c.gray_targets.new.self.shades (begun c) c.requires.closed c.in_ok-shades.ensures.shades

pub returns-clause-counted : goal.returns-clause-counted
returns-clause-counted c =
    let rows = c.args.types.now in
    let h = c.args.heap.now in
    let heap = c.requires.closed.heap in
    let held = c.requires.closed.held in
    let bare = c.in_ok-shades.shades.items in
    let ls = c.args.locals.now in
    let rs = c.args.ready.now in
    let one = c.gray_roots.new.self in
    let two = c.gray_roots-2.new.self in
    let counted : BackgroundView → Type 0 = IsCounted (objects_in rows h) in
    let none : counted (taken c) =
    none_counted rows h heap held bare c.take_oldest.new.shades.items (unmarked c) c.take_oldest.new.parts.items
    c.in_ok-fronts.fronts.items in
    let of_locals : counted one =
    subst counted (sym c.gray_roots.ensures)
    (roots_counted rows h heap held bare ls c.requires.locals (length ls) (omega arith) (taken c) (taken_first c) none)
    in
    let of_ready : counted two =
    subst counted (sym c.gray_roots-2.ensures)
    (roots_counted rows h heap held bare rs c.requires.ready (length rs) (omega arith) one (locals_first c) of_locals)
    in
    subst counted (sym c.gray_targets.ensures.grayed)
    (targets_counted rows h heap held bare c.args.handles.now c.requires.handles 65536 two (ready_first c) of_ready)

-- ---- what is known of the old parts

beside : (c : After-gray_targets) → beside_colours c.gray_targets.new.self ≡ beside_colours (taken c)
beside c =
    ap beside_colours c.gray_targets.ensures.grayed
    ∙ targets_beside c.args.handles.now 65536 c.gray_roots-2.new.self
    ∙ ap beside_colours c.gray_roots-2.ensures
    ∙ roots_beside c.args.ready.now (length c.args.ready.now) c.gray_roots.new.self
    ∙ ap beside_colours c.gray_roots.ensures
    ∙ roots_beside c.args.locals.now (length c.args.locals.now) (taken c)

same_taken : (c : After-gray_targets)
    → map without_colours c.gray_targets.new.self.shades ≡ map without_colours c.take_oldest.new.shades.items
same_taken c = ap (λ (b : List ShadeView × (List PartView × List Front)). b.0) (beside c)

pub returns-clause-parts : goal.returns-clause-parts
returns-clause-parts c =
    subst (λ (ps : List PartView). AreParts c.gray_targets.new.self.shades ps)
    (sym (ap (λ (b : List ShadeView × (List PartView × List Front)). b.1.0) (beside c)))
    (same_parts c.take_oldest.new.shades.items c.gray_targets.new.self.shades (same_taken c)
    c.take_oldest.new.parts.items c.take_oldest.ensures.parts)

pub returns-clause-tiled : goal.returns-clause-tiled
returns-clause-tiled c =
    let rows = c.args.types.now in
    let h = c.args.heap.now in
    subst (λ (ps : List PartView). AreTiled rows h c.gray_targets.new.self.shades ps)
    (sym (ap (λ (b : List ShadeView × (List PartView × List Front)). b.1.0) (beside c)))
    (first_tiled rows h c.take_oldest.new.shades.items c.gray_targets.new.self.shades c.take_oldest.new.parts.items
    (IsNamed c.args.handles.now c.args.locals.now c.args.ready.now) (same_taken c) (named_met c) (unmarked c)
    c.take_oldest.ensures.edges)

pub returns-clause-fronts : goal.returns-clause-fronts
returns-clause-fronts c =
    let bare = c.in_ok-shades.shades.items in
    let items = heap_items c.args.types.now c.args.heap.now in
    ap (λ (b : List ShadeView × (List PartView × List Front)). length b.1.1) (beside c)
    ∙ c.in_ok-fronts.ensures
    ∙ sym (shade_count c.args.heap.now bare c.in_ok-shades.ensures.shades)
    ∙ sym (length-map bare shape) ∙ ap length (sym (all_shapes c.args.heap.now items bare))
    ∙ length-map (all_taken c.args.heap.now bare items) shape
    ∙ ap length (sym c.take_oldest.ensures.taken)
    ∙ sym (same_count c.take_oldest.new.shades.items c.gray_targets.new.self.shades (same_taken c))
