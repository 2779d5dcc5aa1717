-- Names do not matter for the first pause and for steps of the marker.
use Rattle.std.proofs.Common.{◌≡◌, ℕ, zero, suc, ◌<◌, ◌≤◌, inl, inr, List, [], ◌∷◌, map, refl, sym, ap, subst, ◌∙◌}
use Rattle.std.proofs.Common.{arith}
use Rattle.clr_types.specs.Rising.{IsIn}
use Rattle.clr_types.specs.Segments.{generation}
use Rattle.clr_types.proofs.ChangedLists.{all_members, IsIn-map}
use Rattle.clr_types.proofs.ListMembers.{from-map}
use Rattle.clr_types.proofs.RisingLists.{all_at}
use Rattle.clr_types.proofs.SortedLists.{into_sorted_by, out_of_sorted_by}
use Rattle.clr_model.specs.Machine.{Machine, Marking, Object}
use Rattle.clr_model.specs.Lookups.{place_of}
use Rattle.clr_model.specs.Reach.{Old, Roots, SlotNames, StartOf}
use Rattle.clr_model.specs.Background.{IsBegun, IsLawfulMarking, Scans, ScansUpTo, taken}
use Rattle.clr_model.specs.Picture.{picture, renamed_marking, renamed_object, renamed_value}
use Rattle.clr_model.proofs.Joined.{edge-from_picture}
use Rattle.clr_model.proofs.LawfulSurvivors.{generation-least}
use Rattle.clr_model.proofs.NamedWell.{AreNamed, HasObject, lawful-named, place-above, place-shown, start-comes}
use Rattle.clr_model.proofs.NamedWell.{start-goes, start-named}
use Rattle.clr_background.specs.Laws.{FirstPauseNamesLaw, MarkerNamesLaw}
use Rattle.clr_background.proofs.Markings.{marked_taken, scan_on, taken_parts, white_taken}
use Rattle.clr_background.proofs.PlaceNames.{back_in, names_of, one_name, taken_apart}

-- nothing is older than generation 2, so a full collection starts at roots alone
root_of : (m : Machine) (x : ℕ) → StartOf m 2 x → Roots m x
root_of m x (inl r) = r
root_of m x (inr old) =
    let most = generation-least m.layout old.object.place in
    let above = old.above in absurd (omega (arith, most, above))

module _ (m : Machine) (h : AreNamed m) where
  abbrev to : ℕ → ℕ
  to = place_of m.objects

  -- ---- what is seen

  old_seen : (x : ℕ) → Old m 1 x → Old (picture m) 1 (to x)
  old_seen x o = record {
    object = renamed_object to o.object;
    present = into_sorted_by (λ (o : Object). o.name) (renamed_object to o.object) (map (renamed_object to) m.objects)
        (IsIn-map (renamed_object to) o.present);
    named = ap to o.named;
    above = o.above;
  }

  old_was : (z : ℕ) → Old (picture m) 1 z → (x : ℕ) × (z ≡ to x) × Old m 1 x
  old_was z o =
      let (p, e, i) = from-map (renamed_object to) o.object m.objects
      (out_of_sorted_by (λ (o : Object). o.name) o.object (map (renamed_object to) m.objects) o.present) in (
        p.name,
        sym o.named ∙ ap (λ (w : Object). w.name) e,
        record {
          object = p;
          present = i;
          named = refl;
          above = subst (λ (w : Object). 1 < generation m.layout w.place) e o.above;
        },
      )

  old_object : (x : ℕ) → Old m 1 x → HasObject m.objects x
  old_object x o = (o.object, o.present, o.named)

  old_same : (x : ℕ) → HasObject m.objects x → Old (picture m) 1 (to x) → Old m 1 x
  old_same x there o =
      let (y, e, old) = old_was (to x) o in subst (Old m 1) (sym (one_name m h x y (old_object y old) e)) old

  roots_seen : (x : ℕ) → Roots m x → Roots (picture m) (to x)
  roots_seen x r = root_of (picture m) (to x) (start-goes m h 2 x (inl r))

  roots_was : (x : ℕ) → HasObject m.objects x → Roots (picture m) (to x) → Roots m x
  roots_was x there r =
      let (y, e, s) = start-comes m h 2 (to x) (inl r) in
      let root = root_of m y s in
      subst (Roots m) (sym (one_name m h x y (start-named m h 2 y (inl root)) e)) root

  slot_seen : (x y : ℕ) → HasObject m.objects y → SlotNames m.objects x y → SlotNames (picture m).objects (to x) (to y)
  slot_seen x y (o, i, n) e = record {
    object = renamed_object to e.object;
    present = into_sorted_by (λ (o : Object). o.name) (renamed_object to e.object) (map (renamed_object to) m.objects)
        (IsIn-map (renamed_object to) e.present);
    named = ap to e.named;
    slot = IsIn-map (renamed_value to) e.slot;
    not_null = subst (λ k. 0 < to k) n (place-above m h o i);
  }

  slot_was : (x y : ℕ) → HasObject m.objects x → HasObject m.objects y
      → SlotNames (picture m).objects (to x) (to y) → SlotNames m.objects x y
  slot_was x y (o, i, n) there e =
      let (w, f, s) = edge-from_picture m h.apart o i (to y)
      (subst (λ k. SlotNames (picture m).objects (to k) (to y)) (sym n) e) in
      let same : w ≡ y = one_name m h w y there (sym f) in
      subst (λ k. SlotNames m.objects k y) n (subst (SlotNames m.objects o.name) same s)

  -- a place of a list of names, where its name is one of these
  among : (zs xs : List ℕ) → map to xs ≡ zs → (x : ℕ) → IsIn x xs → IsIn (to x) zs
  among zs xs same x i = subst (IsIn (to x)) same (IsIn-map to i)

  -- and a name of them, where its place is one of these
  back_among : (zs xs : List ℕ) → map to xs ≡ zs → (x : ℕ) → HasObject m.objects x → IsIn (to x) zs → IsIn x xs
  back_among zs xs same x there i = back_in m h x there xs (subst (IsIn (to x)) (sym same) i)

  -- ---- the first pause

  old_name : (z : ℕ) → Old (picture m) 1 z → (x : ℕ) × (z ≡ to x) × HasObject m.objects x
  old_name z o = let (x, e, old) = old_was z o in (x, e, old_object x old)

  first_pause_names : (after : Marking) → IsBegun (picture m) after
      → (k : Marking) × IsBegun m k × (renamed_marking to k ≡ after) × IsLawfulMarking m k
  first_pause_names after b =
      let (gray, shown_gray, gray_there) = names_of m h after.gray (λ z i. old_name z ((b.gray z).0 i).0) in
      let (white, shown_white, white_there) = names_of m h after.white (λ z i. old_name z ((b.white z).0 i).0) in
      let k : Marking = record { white = white; gray = gray; black = [] } in
      let shown : renamed_marking to k ≡ after =
      (λ i. record { white = shown_white i; gray = shown_gray i; black = sym b.black i }) in
      let is : IsBegun m k =
      record {
        apart = taken_apart to k after shown b.apart;
        gray = λ x. (
          λ i. let seen = (b.gray (to x)).0 (among after.gray gray shown_gray x i) in
              (old_same x (gray_there x i) seen.0, roots_was x (gray_there x i) seen.1),
          λ p. back_among after.gray gray shown_gray x (old_object x p.0)
              ((b.gray (to x)).1 (old_seen x p.0, roots_seen x p.1)),
        );
        white = λ x. (
          λ i. let seen = (b.white (to x)).0 (among after.white white shown_white x i) in
              (old_same x (white_there x i) seen.0, λ r. seen.1 (roots_seen x r)),
          λ p. back_among after.white white shown_white x (old_object x p.0)
              ((b.white (to x)).1 (old_seen x p.0, λ r. p.1 (roots_was x (old_object x p.0) r))),
        );
        black = refl;
      } in
      (k, is, shown, begun_lawful k is)
    where
      begun_lawful : (k : Marking) → IsBegun m k → IsLawfulMarking m k
      begun_lawful k is = record {
        present = all_members (Old m 1) (taken k) (λ x i. elim (taken_parts k x i) [
          | inl white ↦ ((is.white x).0 white).0
          | inr marked ↦ elim marked [
            | inl gray ↦ ((is.gray x).0 gray).0
            | inr black ↦ elim (subst (IsIn x) is.black black) [ ]
          ]
        ]);
        apart = is.apart;
      }

  -- ---- the steps of the marker

  module _ (k : Marking) (lawful : IsLawfulMarking m k) where
    object_in : (x : ℕ) → IsIn x (taken k) → HasObject m.objects x
    object_in x i = old_object x (all_at (Old m 1) i lawful.present)

    white_there : (x : ℕ) → IsIn x k.white → HasObject m.objects x
    white_there x i = object_in x (white_taken k x i)

    gray_there : (x : ℕ) → IsIn x k.gray → HasObject m.objects x
    gray_there x i = object_in x (marked_taken k x (inl i))

    black_there : (x : ℕ) → IsIn x k.black → HasObject m.objects x
    black_there x i = object_in x (marked_taken k x (inr i))

    module _ (after : Marking) (s : Scans (picture m) (renamed_marking to k) after) where
      -- each place of the marking afterwards has a name
      white_name : (z : ℕ) → IsIn z (map to k.white) → (x : ℕ) × (z ≡ to x) × HasObject m.objects x
      white_name z i = let (x, e, j) = from-map to z k.white i in (x, e, white_there x j)

      gray_name : (z : ℕ) → IsIn z (map to k.gray) → (x : ℕ) × (z ≡ to x) × HasObject m.objects x
      gray_name z i = let (x, e, j) = from-map to z k.gray i in (x, e, gray_there x j)

      gray_after : (z : ℕ) → IsIn z after.gray → (x : ℕ) × (z ≡ to x) × HasObject m.objects x
      gray_after z i = elim ((s.gray z).0 i) [ inl p ↦ gray_name z p.0 | inr p ↦ white_name z p.0 ]

      black_after : (z : ℕ) → IsIn z after.black → (x : ℕ) × (z ≡ to x) × HasObject m.objects x
      black_after z i = elim ((s.black z).0 i) [
        | inl j ↦ let (x, e, l) = from-map to z k.black j in (x, e, black_there x l)
        | inr e ↦ let (x, f, there) = gray_name s.scanned s.was_gray in (x, e ∙ f, there)
      ]

      abbrev shown_place : ℕ → ℕ
      shown_place = place_of (picture m).objects

      -- an object that is seen at no higher place than another one stands at no higher place
      lower : (x : ℕ) → HasObject m.objects x → (y : ℕ) → HasObject m.objects y
          → shown_place (to x) ≤ shown_place (to y) → to x ≤ to y
      lower x there y there' low =
          subst (λ p. p ≤ to y) (place-shown m h x there)
          (subst (λ p. shown_place (to x) ≤ p) (place-shown m h y there') low)

      scan_names : (next : Marking) × Scans m k next × (renamed_marking to next ≡ after)
      scan_names =
          let (x, at, x_gray) = from-map to s.scanned k.gray s.was_gray in
          let (white, shown_white, white_known) = names_of m h after.white (λ z i. white_name z ((s.white z).0 i).0) in
          let (gray, shown_gray, gray_known) = names_of m h after.gray gray_after in
          let (black, shown_black, black_known) = names_of m h after.black black_after in
          let next : Marking = record { white = white; gray = gray; black = black } in
          let shown : renamed_marking to next ≡ after =
          (λ i. record { white = shown_white i; gray = shown_gray i; black = shown_black i }) in
          let x_there = gray_there x x_gray in
          let names = λ (w : ℕ) (there : HasObject m.objects w) (e : SlotNames (picture m).objects s.scanned (to w)).
          slot_was x w x_there there (subst (λ v. SlotNames (picture m).objects v (to w)) at e) in
          let shows = λ (w : ℕ) (there : HasObject m.objects w) (e : SlotNames m.objects x w).
          subst (λ v. SlotNames (picture m).objects v (to w)) (sym at) (slot_seen x w there e) in (
            next,
            record {
              scanned = x;
              was_gray = x_gray;
              lowest = λ y i. lower x x_there y (gray_there y i)
                  (subst (λ z. shown_place z ≤ shown_place (to y)) at (s.lowest (to y) (IsIn-map to i)));
              apart = taken_apart to next after shown s.apart;
              black = λ w. (
                λ i. elim ((s.black (to w)).0 (among after.black black shown_black w i)) [
                  | inl j ↦ inl (back_in m h w (black_known w i) k.black j)
                  | inr e ↦ inr (one_name m h w x x_there (e ∙ at))
                ],
                λ c. elim c [
                  | inl j ↦ back_among after.black black shown_black w (black_there w j)
                      ((s.black (to w)).1 (inl (IsIn-map to j)))
                  | inr e ↦ back_among after.black black shown_black w (subst (HasObject m.objects) (sym e) x_there)
                      ((s.black (to w)).1 (inr (ap to e ∙ sym at)))
                ],
              );
              gray = λ w. (
                λ i. elim ((s.gray (to w)).0 (among after.gray gray shown_gray w i)) [
                  | inl p ↦ inl (back_in m h w (gray_known w i) k.gray p.0, λ e. p.1 (ap to e ∙ sym at))
                  | inr p ↦ inr (
                    back_in m h w (gray_known w i) k.white p.0,
                    names w (gray_known w i) p.1,
                  )
                ],
                λ c. elim c [
                  | inl p ↦ back_among after.gray gray shown_gray w (gray_there w p.0)
                      ((s.gray (to w)).1 (inl (IsIn-map to p.0, λ e. p.1 (one_name m h w x x_there (e ∙ at)))))
                  | inr p ↦ back_among after.gray gray shown_gray w (white_there w p.0)
                      ((s.gray (to w)).1 (inr (IsIn-map to p.0, shows w (white_there w p.0) p.1)))
                ],
              );
              white = λ w. (
                λ i. let p = (s.white (to w)).0 (among after.white white shown_white w i) in
                    (back_in m h w (white_known w i) k.white p.0, λ e. p.1 (shows w (white_known w i) e)),
                λ p. back_among after.white white shown_white w (white_there w p.0)
                    ((s.white (to w)).1 (IsIn-map to p.0, λ e. p.1 (names w (white_there w p.0) e))),
              );
            },
            shown,
          )

  -- what was taken is lawful still
  scanned_lawful : (k next : Marking) → Scans m k next → IsLawfulMarking m k → IsLawfulMarking m next
  scanned_lawful k next s lawful = record {
    present = all_members (Old m 1) (taken next) (λ x i.
        all_at (Old m 1) (((scan_on m k next s).same x).1 i) lawful.present);
    apart = s.apart;
  }

  marker_names_by : (n : ℕ) (k : Marking) → IsLawfulMarking m k → (count : ℕ) (after : Marking)
      → ScansUpTo (picture m) n (renamed_marking to k) count after
      → (next : Marking) × ScansUpTo m n k count next × (renamed_marking to next ≡ after) × IsLawfulMarking m next
  marker_names_by zero k lawful count after (e, same) = (k, (e, refl), sym same, lawful)
  marker_names_by (suc n) k lawful zero after (empty, same) = (k, (none_of k.gray empty, refl), sym same, lawful)
    where
      none_of : (xs : List ℕ) → map to xs ≡ [] → xs ≡ []
      none_of [] e = refl
      none_of (x ∷ xs) e = absurd cc
  marker_names_by (suc n) k lawful (suc count) after (mid, first_scan, rest) =
      let (one, s, shown) = scan_names k lawful mid first_scan in
      let (next, scans, shown_last, lawful_last) = marker_names_by n one (scanned_lawful k one s lawful) count after
      (subst (λ o. ScansUpTo (picture m) n o count after) (sym shown) rest) in
      (next, (one, s, scans), shown_last, lawful_last)

pub first_pause_names_law : FirstPauseNamesLaw
first_pause_names_law m after lawful b = first_pause_names m (lawful-named m lawful) after b

pub marker_names_law : MarkerNamesLaw
marker_names_law m k n count after lawful marking s =
    marker_names_by m (lawful-named m lawful) n k marking count after s
