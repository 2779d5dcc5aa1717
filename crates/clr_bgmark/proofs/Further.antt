-- A marking by bits leads no further: of what was taken all is found that it starts at, and that slots of found objects
-- name.
use Rattle.std.proofs.Common.{◌≡◌, ◌≢◌, ℕ, zero, suc, ◌%◌, ◌<◌, ◌≤◌, inl, inr, List, [], ◌∷◌, length, get_or, map}
use Rattle.std.proofs.Common.{refl, sym, subst, ◌∙◌, arith, Bool, true, false, if◌then◌else◌, Some, ◌+◌}
use Rattle.std.specs.List.{AllByRecursion}
use Rattle.std.specs.FinMap as finmap
use Rattle.std.specs.Ordering.{nat_cmp}
use Rattle.std.proofs.lemmas.Bool.{both_ways, cases_Bool, cases_eq}
use Rattle.clr_types.specs.Kinds.{is_root_kind}
use Rattle.clr_types.specs.Types.{TypeRow}
use Rattle.clr_types.specs.declared.handle.Handle.{Handle}
use Rattle.clr_types.proofs.ChangedLists.{into_filter, out_of_filter}
use Rattle.clr_heap.specs.Parts.{item_at}
use Rattle.clr_heap.specs.View.{HeapView, IsHeap, word_of}
use Rattle.clr_model.specs.Machine.{Object}
use Rattle.clr_model.specs.Reach.{SlotNames}
use Rattle.clr_view.specs.SlotValues.{StandsAt}
use Rattle.clr_view.specs.View.{IsHeld, objects_in}
use Rattle.clr_view.specs.World.{HandlesStand}
use Rattle.clr_mark.specs.Marks.{IsClosed}
use Rattle.clr_mark.specs.Markings.{references_at}
use Rattle.clr_mark.specs.Roots.{IsRoot}
use Rattle.clr_mark.specs.Roots as roots
use Rattle.clr_mark.specs.Ties.{IsStart, IsTarget}
use Rattle.clr_mark.proofs.References.{refers_from, refers_to}
use Rattle.clr_mark.proofs.Rooting.{at_in, in_at}
use Rattle.clr_bgmark.specs.Closing.{HasFollowed, HasFollowedBlack, IsAtWork, without_colours}
use Rattle.clr_bgmark.specs.LastPause.{LogHolds}
use Rattle.clr_bgmark.specs.Pauses.{IsBehind, IsFound, IsNextFound, Passes, root_grayed, roots_grayed, target_grayed}
use Rattle.clr_bgmark.specs.Pauses.{targets_grayed}
use Rattle.clr_bgmark.specs.Scanning.{AreObjects, HasScannedOne, is_gray_place, is_white_place}
use Rattle.clr_bgmark.specs.Shades.{BackgroundView, colour_at, grayed, is_marked, is_scanned, is_taken, is_white}
use Rattle.clr_bgmark.specs.Shades.{IsShade, met_all, ShadeView}
use Rattle.clr_bgmark.specs.declared.shade.Search.TheVariants.{Logged}
use Rattle.clr_bgmark.proofs.FollowedSlots.{at}
use Rattle.clr_bgmark.proofs.FoundMore.{GoesOn, root_on}
use Rattle.clr_bgmark.proofs.Meeting.{all_met, gray_met, HasMet, IsWordAt, parts_white, white_is}
use Rattle.clr_bgmark.proofs.RootedFound.{clear_slots, names_found}
use Rattle.clr_bgmark.proofs.SameTiles.{same_taken}
use Rattle.clr_bgmark.proofs.ScannedLists.{gray_parts, names, stands_aligned, stands_named}
use Rattle.clr_bgmark.proofs.StartFound.{roots_on, target_on, targets_on}

-- ---- what is behind a spot is told by what was taken

bare_behind : (ss : List ShadeView) (k from a : ℕ) → IsBehind ss k from a → IsBehind (map without_colours ss) k from a
bare_behind [] k from a is = is
bare_behind (s ∷ ss) zero from a is = is
bare_behind (s ∷ ss) (suc k) from a (inl is) = inl is
bare_behind (s ∷ ss) (suc k) from a (inr is) = inr (bare_behind ss k from a is)

behind_of_bare : (ss : List ShadeView) (k from a : ℕ) → IsBehind (map without_colours ss) k from a
    → IsBehind ss k from a
behind_of_bare [] k from a is = is
behind_of_bare (s ∷ ss) zero from a is = is
behind_of_bare (s ∷ ss) (suc k) from a (inl is) = inl is
behind_of_bare (s ∷ ss) (suc k) from a (inr is) = inr (behind_of_bare ss k from a is)

same_behind : (old new : List ShadeView) → map without_colours new ≡ map without_colours old → (k from a : ℕ)
    → IsBehind new k from a → IsBehind old k from a
same_behind old new same k from a is =
    behind_of_bare old k from a (subst (λ ss. IsBehind ss k from a) same (bare_behind new k from a is))

module _ (rows : List TypeRow) (h : HeapView) (heap : IsHeap h) (held : IsHeld rows h) where
  abbrev objects : List Object
  objects = objects_in rows h

  -- what was taken and isn't white is found
  dark_found : (ss : List ShadeView) → AreObjects rows h ss → (y : ℕ) → y % 8 ≡ 0 → is_white_place ss y ≡ false
      → is_taken ss y ≡ true → is_marked ss y ≡ true
  dark_found ss known y even dark taken = elim (cases_Bool (is_marked ss y)) [
    | inl on ↦ on
    | inr off ↦ elim (cases_Bool (is_scanned ss y)) [
      | inl black ↦ known.black y even black
      | inr never ↦ absurd (both_ways (is_white_place ss y) dark
          (parts_white ss y (record { taken = taken; unmarked = off; unscanned = never })))
    ]
  ]

  met_found : (ss now : List ShadeView) (Named : ℕ → Type 0) → AreObjects rows h ss → HasMet ss now Named → (y : ℕ)
      → y % 8 ≡ 0 → Named y → is_taken ss y ≡ true → is_marked now y ≡ true
  met_found ss now Named known met y even named taken = elim (cases_Bool (is_white_place ss y)) [
    | inl white ↦ met.found y named white
    | inr dark ↦ met.stays y (dark_found ss known y even dark taken)
  ]

  -- ---- where the marking starts

  root_found : (v : BackgroundView) (y : ℕ) → AllByRecursion IsShade v.shades → IsAtWork rows h v → StandsAt rows h y
      → 0 < y → is_taken v.shades y ≡ true → IsFound (root_grayed v y).shades y
  root_found v y all work stands some taken = (even, go (is_white (colour_at v.shades y)) refl)
    where
      even : y % 8 ≡ 0
      even = stands_aligned rows h heap held y stands

      not_null : y ≢ 0
      not_null e = omega (arith, e, some)

      go : (w : Bool) → is_white (colour_at v.shades y) ≡ w → is_marked (if w then grayed v y else v).shades y ≡ true
      go true e =
          let white : is_white_place v.shades y ≡ true = sym (white_is v.shades y) ∙ e in
          (gray_met v.shades y all even not_null white).found y (refl, not_null) white
      go false e = dark_found v.shades work.objects y even (sym (white_is v.shades y) ∙ e) taken

  roots_found : (xs : List ℕ) → roots.AreObjects rows h xs → (n : ℕ) → n ≤ length xs → (v : BackgroundView)
      → AllByRecursion IsShade v.shades → IsAtWork rows h v → (i : ℕ) → i < n → 0 < get_or xs i 0
      → is_taken v.shades (get_or xs i 0) ≡ true → IsFound (roots_grayed xs n v).shades (get_or xs i 0)
  unfolding roots_grayed
  roots_found xs stand zero l v all work i low some taken = absurd (omega (arith, low))
  roots_found xs stand (suc n) l v all work i low some taken =
      let y = get_or xs n 0 in
      let mid = roots_grayed xs n v in
      let before = roots_on rows h heap held xs stand n (omega (arith, l)) v all work in
      let root : y ≢ 0 → IsRoot xs y =
      λ ne. record { listed = at_in xs n 0 (omega (arith, l)); not_null = omega (arith, ne) } in
      elim (cases_eq i n) [
        | inl last ↦
            let here = subst (λ (k : ℕ). 0 < get_or xs k 0) last some in
            let took = same_taken v.shades mid.shades before.more.taken y
            ∙ subst (λ (k : ℕ). is_taken v.shades (get_or xs k 0) ≡ true) last taken in
            subst (λ (k : ℕ). IsFound (root_grayed mid y).shades (get_or xs k 0)) (sym last)
            (root_found mid y before.shades before.work
            (stand y (record { listed = at_in xs n 0 (omega (arith, l)); not_null = here })) here took)
        | inr other ↦
            (root_on rows h heap held (IsRoot xs) mid y before.shades before.work (λ ne. stand y (root ne))
            root).more.kept (get_or xs i 0)
            (roots_found xs stand n (omega (arith, l)) v all work i (omega (arith, low, other)) some taken)
      ]

  targets_found : (handles : finmap.FinMap nat_cmp Handle) → HandlesStand rows h handles → (n : ℕ)
      → (v : BackgroundView) → AllByRecursion IsShade v.shades → IsAtWork rows h v → (k : ℕ) (row : Handle) → k < n
      → finmap.get handles k ≡ Some row → is_root_kind row.kind ≡ true → 0 < row.target
      → is_taken v.shades row.target ≡ true → IsFound (targets_grayed handles n v).shades row.target
  unfolding targets_grayed
  targets_found handles stand zero v all work k row low e kind some taken = absurd (omega (arith, low))
  targets_found handles stand (suc n) v all work k row low e kind some taken =
      let mid = targets_grayed handles n v in
      let before = targets_on rows h heap held handles stand n v all work in
      elim (cases_eq k n) [
        | inl last ↦
            let here : finmap.get handles n ≡ Some row = subst (λ j. finmap.get handles j ≡ Some row) last e in
            let there : StandsAt rows h row.target =
            elim (stand k row e).target [ inl null ↦ absurd (omega (arith, null, some)) | inr is ↦ is ] in
            let took = same_taken v.shades mid.shades before.more.taken row.target ∙ taken in
            subst (λ o. IsFound (target_grayed o mid).shades row.target) (sym here)
            (subst (λ b. IsFound (if b then root_grayed mid row.target else mid).shades row.target) (sym kind)
            (root_found mid row.target before.shades before.work there some took))
        | inr other ↦
            (target_on rows h heap held handles stand n mid before.shades before.work).more.kept row.target
            (targets_found handles stand n v all work k row (omega (arith, low, other)) e kind some taken)
      ]

  pub start_found : (handles : finmap.FinMap nat_cmp Handle) → HandlesStand rows h handles → (locals ready : List ℕ)
      → roots.AreObjects rows h locals → roots.AreObjects rows h ready → (last : ℕ)
      → ((k : ℕ) (row : Handle) → finmap.get handles k ≡ Some row → k < last) → (v : BackgroundView)
      → AllByRecursion IsShade v.shades → IsAtWork rows h v → (x : ℕ) → IsStart handles locals ready x
      → is_taken v.shades x ≡ true
      → IsFound (targets_grayed handles last (roots_grayed ready (length ready) (roots_grayed locals (length locals)
      v))).shades x
  start_found handles stand locals ready some_locals some_ready last below v all work x start taken = go start
    where
      a : BackgroundView
      a = roots_grayed locals (length locals) v

      b : BackgroundView
      b = roots_grayed ready (length ready) (roots_grayed locals (length locals) v)

      one : GoesOn rows h (IsRoot locals) v (roots_grayed locals (length locals) v)
      one = roots_on rows h heap held locals some_locals (length locals) (omega arith) v all work

      two : GoesOn rows h (IsRoot ready) a b
      two = roots_on rows h heap held ready some_ready (length ready) (omega arith) a one.shades one.work

      three : GoesOn rows h (IsTarget handles) b (targets_grayed handles last b)
      three = targets_on rows h heap held handles stand last b two.shades two.work

      go : IsStart handles locals ready x → IsFound (targets_grayed handles last b).shades x
      go (inl (inl root)) =
          let (j, inside, is) = in_at locals x 0 root.listed in
          three.more.kept x (two.more.kept x (subst (IsFound a.shades) is
          (roots_found locals some_locals (length locals) (omega arith) v all work j inside
          (subst (λ (y : ℕ). 0 < y) (sym is) root.not_null)
          (subst (λ (y : ℕ). is_taken v.shades y ≡ true) (sym is) taken))))
      go (inl (inr root)) =
          let (j, inside, is) = in_at ready x 0 root.listed in
          let took = same_taken v.shades a.shades one.more.taken x ∙ taken in
          three.more.kept x (subst (IsFound b.shades) is
          (roots_found ready some_ready (length ready) (omega arith) a one.shades one.work j inside
          (subst (λ (y : ℕ). 0 < y) (sym is) root.not_null)
          (subst (λ (y : ℕ). is_taken a.shades y ≡ true) (sym is) took)))
      go (inr target) =
          let by = target.held in
          let took = same_taken a.shades b.shades two.more.taken x ∙ same_taken v.shades a.shades one.more.taken x
          ∙ taken in
          subst (IsFound (targets_grayed handles last b).shades) by.target
          (targets_found handles stand last b two.shades two.work by.handle by.row (below by.handle by.row by.in_use)
          by.in_use by.holds (subst (λ (y : ℕ). 0 < y) (sym by.target) target.not_null)
          (subst (λ (y : ℕ). is_taken b.shades y ≡ true) (sym by.target) took))

  -- ---- what slots name

  followed_kept : (ss now : List ShadeView) → ((a : ℕ) → is_taken now a ≡ is_taken ss a)
      → ((x : ℕ) → IsFound ss x → IsFound now x) → (x : ℕ) → HasFollowed rows h ss x → HasFollowed rows h now x
  followed_kept ss now taken kept x all y e t = kept y (all y e (sym (taken y) ∙ t))

  -- a black object over which the search for logged cards passes names what is found
  pub passed_followed : (ss : List ShadeView) → AreObjects rows h ss → LogHolds rows objects ss → (x : ℕ)
      → IsFound ss x → is_scanned ss x ≡ true → Passes Logged ss x → HasFollowed rows h ss x
  passed_followed ss known log x f black c y e t =
      names_found rows h heap held ss known log x f (λ due. elim due [
        | inl gray ↦ both_ways (is_scanned ss x) gray black
        | inr slot ↦ clear_slots rows h heap held ss x (known.marked x f.0 f.1) c
            (known.marked c.next c.found.0 c.found.1) slot
      ]) y e

  module _ (closed : IsClosed rows h) where
    -- an object whose references were met
    met_followed : (v : BackgroundView) (x : ℕ) → AllByRecursion IsShade v.shades → IsAtWork rows h v
        → IsFound v.shades x → HasMet v.shades (met_all (word_of h) v x (references_at rows h x)).shades
        (IsWordAt (word_of h) x (references_at rows h x))
        → HasFollowed rows h (met_all (word_of h) v x (references_at rows h x)).shades x
    met_followed v x all work f met y e t =
        let stands = work.objects.marked x f.0 f.1 in
        let r = refers_from rows h heap held x (item_at rows (word_of h) x) (at rows h heap held x stands) y e in
        let even = stands_aligned rows h heap held y (closed.named x y e) in
        let some = r.not_null in (
          even,
          met_found v.shades (met_all (word_of h) v x (references_at rows h x)).shades
              (IsWordAt (word_of h) x (references_at rows h x)) work.objects met y even
              (record {
                offset = r.offset;
                listed = r.listed;
                is = sym r.holds;
                not_null = λ null. let same = r.holds in omega (arith, some, same, null);
              }) (sym (met.taken y) ∙ t),
        )

    met_now : (v : BackgroundView) (x : ℕ) → AllByRecursion IsShade v.shades → IsAtWork rows h v → IsFound v.shades x
        → HasMet v.shades (met_all (word_of h) v x (references_at rows h x)).shades
        (IsWordAt (word_of h) x (references_at rows h x))
    met_now v x all work f =
        let stands = work.objects.marked x f.0 f.1 in
        all_met (word_of h) x (references_at rows h x) v all (λ offset l some.
        stands_aligned rows h heap held (word_of h (x + offset)) (closed.named x (word_of h (x + offset))
        (refers_to rows h heap held x (item_at rows (word_of h) x) (at rows h heap held x stands) offset l some)))

    -- the search by logged cards meets one object more
    pub behind_followed : (v : BackgroundView) (k from j x : ℕ) → AllByRecursion IsShade v.shades → IsAtWork rows h v
        → IsNextFound Logged v.shades k from j x
        → ((y : ℕ) → IsFound v.shades y → is_scanned v.shades y ≡ true → IsBehind v.shades k from y
        → HasFollowed rows h v.shades y)
        → (w : BackgroundView) → w ≡ met_all (word_of h) v x (references_at rows h x)
        → map without_colours w.shades ≡ map without_colours v.shades
        → ((y : ℕ) → IsFound v.shades y → IsFound w.shades y)
        → (y : ℕ) → IsFound w.shades y → is_scanned w.shades y ≡ true → IsBehind w.shades j (x + 8) y
        → HasFollowed rows h w.shades y
    behind_followed v k from j x all work next before w is same kept y f black behind =
        let met = subst (λ (u : BackgroundView). HasMet v.shades u.shades
        (IsWordAt (word_of h) x (references_at rows h x))) (sym is) (met_now v x all work next.found) in
        let was_black : is_scanned v.shades y ≡ true = sym (met.scanned y) ∙ black in
        let was_found : IsFound v.shades y = (f.0, work.objects.black y f.0 was_black) in
        let stays : HasFollowed rows h v.shades y → HasFollowed rows h w.shades y =
        followed_kept v.shades w.shades met.taken kept y in
        elim (next.next y was_found (same_behind v.shades w.shades same j (x + 8) y behind)) [
          | inl near ↦ elim near [
            | inl early ↦ stays (before y was_found was_black early)
            | inr here ↦ subst (HasFollowed rows h w.shades) (sym here)
                (subst (λ (u : BackgroundView). HasFollowed rows h u.shades x) (sym is)
                (met_followed v x all work next.found (met_now v x all work next.found)))
          ]
          | inr over ↦ stays (passed_followed v.shades work.objects work.log y was_found was_black over)
        ]

    -- one object is scanned
    pub scan_followed : (v w : BackgroundView) → IsAtWork rows h v → AreObjects rows h w.shades
        → HasScannedOne objects v.shades w.shades → map without_colours w.shades ≡ map without_colours v.shades
        → ((x : ℕ) → IsFound v.shades x → IsFound w.shades x) → HasFollowedBlack rows h v.shades
        → HasFollowedBlack rows h w.shades
    scan_followed v w work known one same kept before x f black =
        let (m, types, is, law) = work.log in
        let scans = one m is in
        let ns = names rows h heap held in
        let taken = same_taken v.shades w.shades same in
        let there = stands_named rows h heap held x (known.marked x f.0 f.1) in
        elim ((scans.black x).0 (into_filter (is_scanned w.shades) ns black there)) [
          | inl was ↦
              let was_black = (out_of_filter (is_scanned v.shades) x ns was).0 in
              followed_kept v.shades w.shades taken kept x
              (before x (f.0, work.objects.black x f.0 was_black) was_black)
          | inr here ↦ λ y e t.
              let stands = closed.named x y e in
              let even = stands_aligned rows h heap held y stands in
              elim (cases_Bool (is_white_place v.shades y)) [
                | inr dark ↦
                    kept y (even, dark_found v.shades work.objects y even dark (sym (taken y) ∙ t))
                | inl white ↦
                    let listed = into_filter (is_white_place v.shades) ns white
                    (stands_named rows h heap held y stands) in
                    let named = subst (λ os. SlotNames os scans.scanned y) (sym is)
                    (subst (λ (z : ℕ). SlotNames objects z y) here e) in
                    let gray = (out_of_filter (is_gray_place w.shades) y ns
                    ((scans.gray y).1 (inr (listed, named)))).0 in
                    (even, (gray_parts w.shades y gray).0)
              ]
        ]
