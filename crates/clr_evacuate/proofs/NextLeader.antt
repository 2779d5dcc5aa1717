-- A search for the next object of a brick, and what it tells of the brick.
use Rattle.std.proofs.Common.{◌≡◌, ◌≢◌, inl, inr, ℕ, ◌+◌, ◌*◌, ◌/◌, ◌%◌, ◌<◌, ◌≤◌, true, false, Bool, List, []}
use Rattle.std.proofs.Common.{◌∷◌, length, refl, ap, sym, ◌∙◌, subst, arith, ℤ, min, if◌then◌else◌, ◌==◌}
use Rattle.std.proofs.lemmas.Bool.{cases_lt, eq-eqb, le-ltb, lt-leb, ne_eqb, true≢false}
use Rattle.clr_types.specs.Rising.{IsIn}
use Rattle.clr_types.specs.Segments.{ephemeral, generation, Layout, stands_in}
use Rattle.clr_types.specs.Types.{TypeRow}
use Rattle.clr_types.specs.declared.item.Item.{Item}
use Rattle.clr_types.specs.declared.segment.SegInfo.{SegInfo}
use Rattle.clr_types.proofs.ListMembers.{append_right}
use Rattle.clr_types.proofs.SegmentFacts.{between-stands, stands-between}
use Rattle.clr_bricks.specs.Bricks.{back_entry, root_entry}
use Rattle.clr_covers.specs.Covers.{CoverView, is_covered}
use Rattle.clr_heap.specs.Parts.{item_part, items_in, Part, Spells}
use Rattle.clr_heap.specs.View.{first_of, frame, HeapView, IsHeap, items_between, last_of, listing, parts_of}
use Rattle.clr_heap.specs.View.{segment_at}
use Rattle.clr_heap.specs.View.{sight}
use Rattle.clr_heap.proofs.Framing.{lawful_at}
use Rattle.clr_heap.proofs.Spelling.{Spells-append}
use Rattle.clr_heap.proofs.Swaps.{cut_at, CutAt}
use Rattle.clr_heap.proofs.Walking.{CanWalk-from, spelled_parts}
use Rattle.clr_model.specs.Machine.{Object}
use Rattle.clr_view.specs.View.{IsHeld, objects_in}
use Rattle.clr_view.proofs.Items.{IsItem}
use Rattle.clr_view.proofs.Listings.{items-append}
use Rattle.clr_view.proofs.Tails.{found-young}
use Rattle.clr_generations.specs.Laws.{BrickLaw, IsBrickOf, LeadsBrick, may_lead, Stands}
use Rattle.clr_generations.specs.Renewing.{CanBegin, IsFirstFrom, NoneCounted}
use Rattle.clr_generations.specs.Tables.{AreBricksOf}
use Rattle.clr_generations.proofs.AllBricks.{number-in}
use Rattle.clr_generations.proofs.HeapHomes.{brick-covered, whole_bricks}
use Rattle.clr_generations.proofs.Homes.{brick-of, HasWholeBricks, old-before, old-may_lead}
use Rattle.clr_sweep.proofs.LargeSwept.{one_segment}
use Rattle.clr_evacuate.specs.Left.{HasLeft, HasNoLeader, is_any, IsOldItemAt, IsTold}
use Rattle.clr_evacuate.proofs.BrickLeft.{brick_law-left}
use Rattle.clr_evacuate.proofs.Replacing.{home_item, home_of, home_part, home_there}

-- ---- where the search begins

module _ (rows : List TypeRow) (h : HeapView) (place : ℕ) (heap : IsHeap h) (held : IsHeld rows h)
    (f : IsOldItemAt rows h place) where
  abbrev x : Item
  x = f.item

  abbrev j : ℕ
  j = home_of rows h x heap held f.listed

  there : j < length h.segments
  there = home_there rows h x heap held f.listed

  is : IsItem rows (first_of h j) (last_of h j) x
  is = home_item rows h x heap held f.listed

  -- the number of the ephemeral segment
  pub only_young : (k : ℕ) → k < length h.segments → segment_at h k ≡ ephemeral (frame h) → j ≡ k
  only_young k inside young =
      let up = is.above in
      let down = is.below in
      let least = is.least in
      let end = (lawful_at h j heap there).high in
      one_segment h heap j k x.place there inside (between-stands (segment_at h j) x.place up (omega arith))
      (subst (λ (s : SegInfo). stands_in s x.place ≡ true) (sym young)
      (subst (λ p. stands_in (ephemeral (frame h)) p ≡ true) (sym f.at) f.inside))

  abbrev around : CutAt (sight rows h j) (parts_of rows h j) (item_part x) (first_of h j) (last_of h j)
  around = cut_at (sight rows h j) (parts_of rows h j) (item_part x) (first_of h j) (last_of h j)
      (held.walkable j there).spelled (home_part rows h x heap held f.listed)

  abbrev rest : List Part
  rest = item_part x ∷ around.above

  spelled : Spells (sight rows h j) x.place rest (last_of h j)
  spelled = Spells-append (sight rows h j) (item_part x ∷ []) around.above x.place (x.place + x.size) (last_of h j)
      around.here around.high

  all_among : (i : Item) → IsIn i (items_between (sight rows h j) x.place (last_of h j)) → IsIn i (listing rows h j)
  all_among i mine =
      let here = subst (λ (ps : List Part). IsIn i (items_in ps))
      (spelled_parts (sight rows h j) rest x.place (last_of h j) spelled) mine in
      subst (λ (ps : List Part). IsIn i (items_in ps)) (sym around.is)
      (subst (IsIn i) (sym (items-append around.below rest)) (append_right (items_in around.below) here))

  begins_here : CanBegin rows h j x.place
  begins_here =
      let up = is.above in
      record {
        low = up;
        walk = CanWalk-from (sight rows h j) h.memories rest x.place (last_of h j) is.aligned spelled
            (λ a z lo hi. (held.walkable j there).held a z (omega (arith, up, lo)) hi);
        among = all_among;
      }

  -- A SEARCH BEGINS at the place
  pub can_begin : (k : ℕ) → k < length h.segments → segment_at h k ≡ ephemeral (frame h) → CanBegin rows h k place
  can_begin k inside young =
      subst (λ n. CanBegin rows h n place) (only_young k inside young)
      (subst (CanBegin rows h j) f.at begins_here)

  -- ---- its brick

  pub home_listed : IsIn (ephemeral (frame h)) h.segments
  home_listed =
      let (k, young) = found-young h heap in
      subst (λ (s : SegInfo). IsIn s h.segments) young.is (number-in h.segments k young.in_range)

  pub home_whole : HasWholeBricks (ephemeral (frame h))
  home_whole = let (k, young) = found-young h heap in
      subst HasWholeBricks young.is (whole_bricks h k heap young.in_range)

  -- it is covered
  pub own_covered : (bricks : List (CoverView ℤ)) → AreBricksOf (frame h) bricks → is_covered bricks (place / 4096)
      ≡ true
  own_covered bricks has =
      let (k, young) = found-young h heap in
      brick-covered h bricks bricks k (place / 4096) heap young.in_range has refl
      (subst (λ (s : SegInfo). IsBrickOf s (place / 4096)) (sym young.is)
      (brick-of (ephemeral (frame h)) place home_whole f.inside))

  -- ---- what the brick is told

  module _ (objects : List Object) (entry new : ℕ → ℤ) (order : h.start1 ≤ h.start0)
      (l : HasLeft rows (frame h) objects (objects_in rows h) place)
      (law : BrickLaw rows (frame h) objects entry) where
    abbrev now : List Object
    now = objects_in rows h

    abbrev own : ℕ
    own = place / 4096

    abbrev layout : Layout
    layout = frame h

    -- what the brick's entry said
    leader : (offset : ℕ) → entry own ≡ root_entry offset → LeadsBrick layout objects own (4096 * own + offset)
    leader offset is_root = (law (ephemeral layout) home_listed).named own offset
        (brick-of (ephemeral layout) place home_whole f.inside) is_root

    kept : IsTold layout now entry new own → BrickLaw rows layout now new
    kept told = brick_law-left rows layout objects now place entry new l told law
        (ephemeral layout) home_listed home_whole
        f.inside f.old

    -- it named another object
    pub unnamed : (entry own ≢ root_entry (place % 4096)) → ((i : ℕ) → new i ≡ entry i) → BrickLaw rows layout now new
    unnamed other same = kept (record { others = λ i ne. same i; own = inl own_now })
      where
        root : (offset : ℕ) × (entry own ≡ root_entry offset)
        root = (law (ephemeral layout) home_listed).starts place l.there f.inside
            (old-may_lead layout place (old-before layout place f.old))

        own_now : (offset : ℕ) × (new own ≡ root_entry offset) × LeadsBrick layout now own (4096 * own + offset)
        own_now =
            let (offset, is_root) = root in
            let was = leader offset is_root in (
              offset,
              same own ∙ is_root,
              record {
                stands =
                    let (o, mine, at) = was.stands in (
                      o,
                      l.stays o mine (λ e. other
                          (is_root ∙ ap root_entry (let sum = sym e ∙ at in omega (arith, sum)))),
                      at,
                    );
                inside = was.inside;
                first = λ q (o, mine, at) in_brick. was.first q (o, (l.members o mine).0, at) in_brick;
                may = was.may;
              },
            )

    module _ (named : entry own ≡ root_entry (place % 4096)) where
      -- all that is left of its brick stands above
      above : (q : ℕ) → Stands now q → q / 4096 ≡ own → place ≤ q
      above q (o, mine, at) in_brick =
          let up = (leader (place % 4096) named).first q (o, (l.members o mine).0, at) in_brick in
          omega (arith, up)

      -- it names the next object
      pub next_named : (p : ℕ) → IsFirstFrom rows h is_any place (min h.start0 (4096 * own + 4096)) p
          → ((i : ℕ) → new i ≡ (if i == own then root_entry (p % 4096) else entry i)) → BrickLaw rows layout now new
      next_named p found told = kept (record {
        others = λ i ne. told i ∙ ap (λ (t : Bool). if t then root_entry (p % 4096) else entry i) (ne_eqb i own ne);
        own = inl (
          p % 4096,
          told own ∙ ap (λ (t : Bool). if t then root_entry (p % 4096) else entry own) (eq-eqb own own refl),
          subst (LeadsBrick layout now own) at leads,
        );
      })
        where
          low : place ≤ p
          low = found.low

          high : (p < h.start0) × (p < 4096 * own + 4096)
          high = let under = found.high in (omega (arith, under), omega (arith, under))

          at : p ≡ 4096 * own + p % 4096
          at = let up = low in let down = high.1 in omega (arith, up, down)

          leads : LeadsBrick layout now own p
          leads = record {
            stands = found.counted.stands;
            inside = let up = low in let down = high.1 in omega (arith, up, down);
            first = λ q stands in_brick. elim (cases_lt q p) [
              | inl less ↦ absurd (found.first q (record { stands = stands; counted = refl }) (above q stands in_brick)
                  less)
              | inr more ↦ more
            ];
            may = old-may_lead layout p (old-before layout p high.0);
          }

      -- it may name none
      pub none_named : NoneCounted rows h is_any place (min h.start0 (4096 * own + 4096))
          → ((i : ℕ) → new i ≡ (if i == own then back_entry 1 else entry i)) → BrickLaw rows layout now new
      none_named none told = kept (record {
        others = λ i ne. told i ∙ ap (λ (t : Bool). if t then back_entry 1 else entry i) (ne_eqb i own ne);
        own = inr (
          told own ∙ ap (λ (t : Bool). if t then back_entry 1 else entry own) (eq-eqb own own refl),
          leaderless,
        );
      })
        where
          young : (q : ℕ) → q / 4096 ≡ own → h.start0 ≤ q → may_lead layout q ≡ false
          young q in_brick up =
              let (from, to) = stands-between (ephemeral layout) place f.inside in
              let base = home_whole.base in
              let reserved = home_whole.reserved in
              let old = f.old in
              let stands = between-stands (ephemeral layout) q (omega (arith, from, in_brick, base))
              (omega (arith, to, in_brick, base, reserved)) in
              let one = le-ltb q h.start1 (omega (arith, up, order)) in
              let two = le-ltb q h.start0 up in
              let far = lt-leb h.start0 (4096 * (q / 4096)) (omega (arith, in_brick, old)) in
              let none : generation layout q ≡ 0 = rw (stands, one, two) refl in
              rw (none, far) refl

          leaderless : HasNoLeader layout now own
          leaderless q stands in_brick may = elim (cases_lt q h.start0) [
            | inl less ↦ none q (record { stands = stands; counted = refl }) (above q stands in_brick)
                (omega (arith, less, in_brick))
            | inr more ↦ true≢false (sym may ∙ young q in_brick more)
          ]
