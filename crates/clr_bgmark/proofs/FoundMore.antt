-- What every part of an end by bits alone keeps: more is found, by what is reached, and the laws go on.
use Rattle.std.proofs.Common.{◌≡◌, ◌≢◌, ℕ, ◌+◌, ◌%◌, ◌⊎◌, inl, inr, List, [], ◌∷◌, map, refl, sym, ap, subst}
use Rattle.std.proofs.Common.{◌∙◌, arith, Bool, true, false, if◌then◌else◌, ◌==◌}
use Rattle.std.specs.Prelude.{IsTrue}
use Rattle.std.specs.List.{AllByRecursion}
use Rattle.clr_types.specs.Rising.{IsIn}
use Rattle.clr_types.specs.Types.{TypeRow}
use Rattle.clr_types.proofs.ChangedLists.{into_filter, out_of_filter}
use Rattle.clr_heap.specs.Parts.{item_at}
use Rattle.clr_heap.specs.View.{HeapView, IsHeap, word_of}
use Rattle.clr_model.specs.Machine.{Object}
use Rattle.clr_model.specs.Reach.{follows, Reach, SlotNames, starts}
use Rattle.clr_view.specs.SlotValues.{StandsAt}
use Rattle.clr_view.specs.View.{IsHeld, objects_in}
use Rattle.clr_view.proofs.Headers.{header-high}
use Rattle.clr_background.specs.Log.{IsNullOrMarked, slot_address}
use Rattle.clr_mark.specs.Markings.{references_at}
use Rattle.clr_mark.proofs.Graying.{reach_bind, reach_on}
use Rattle.clr_mark.proofs.References.{refers_to}
use Rattle.clr_bgmark.specs.Bits.{has_bit}
use Rattle.clr_bgmark.specs.Closing.{HasFoundMore, IsAtWork, without_colours}
use Rattle.clr_bgmark.specs.LastPause.{LogHolds}
use Rattle.clr_bgmark.specs.Pauses.{IsFound, root_grayed}
use Rattle.clr_bgmark.specs.Scanning.{AreObjects, is_white_place, IsCounted, IsTakenAt, marking_in}
use Rattle.clr_bgmark.specs.Shades.{BackgroundView, card_of, changed_at, colour_at, covers, grayed, is_covered}
use Rattle.clr_bgmark.specs.Shades.{is_logged, is_marked, is_outside, is_scanned, is_white, IsShade, met, met_all}
use Rattle.clr_bgmark.specs.Shades.{rest_of, ShadeView, slot_logged, with_logged, with_marked}
use Rattle.clr_bgmark.proofs.Counted.{all_counted, grayed_counted}
use Rattle.clr_bgmark.proofs.FollowedSlots.{at}
use Rattle.clr_bgmark.proofs.FoundMarked.{found_is_marked}
use Rattle.clr_bgmark.proofs.Kept.{covered_kept, told_kept}
use Rattle.clr_bgmark.proofs.Meeting.{all_met, all_rest, gray_met, HasMet, IsName, IsWordAt, white_is, white_parts}
use Rattle.clr_bgmark.proofs.ScannedLists.{names, stands_aligned, stands_named}
use Rattle.clr_bgmark.proofs.ScannedLog.{LogsReferences, logged_all}

-- ---- one part after the other

pub more_none : (rows : List TypeRow) (h : HeapView) (Start : ℕ → Type 0) (v : BackgroundView)
    → HasFoundMore rows h Start v v
more_none rows h Start v = record {
  rest = refl;
  taken = refl;
  kept = λ x f. f;
  reached = λ x f. starts (inr f);
}

pub more_after : (rows : List TypeRow) (h : HeapView) (One Other Both : ℕ → Type 0) (a b c : BackgroundView)
    → HasFoundMore rows h One a b → HasFoundMore rows h Other b c → ((x : ℕ) → One x → Both x)
    → ((x : ℕ) → Other x → Both x) → HasFoundMore rows h Both a c
more_after rows h One Other Both a b c p q left right = record {
  rest = q.rest ∙ p.rest;
  taken = q.taken ∙ p.taken;
  kept = λ x f. q.kept x (p.kept x f);
  reached = λ x f. reach_bind edge edge from (λ y. Other y ⊎ IsFound b.shades y) x (λ y z e. e) mid (q.reached x f);
}
  where
    edge : ℕ → ℕ → Type 0
    edge = SlotNames (objects_in rows h)

    from : ℕ → Type 0
    from y = Both y ⊎ IsFound a.shades y

    mid : (y : ℕ) → Other y ⊎ IsFound b.shades y → Reach edge from y
    mid y (inl o) = starts (inl (right y o))
    mid y (inr f) =
        reach_on edge edge from (λ z. One z ⊎ IsFound a.shades z) y (λ z w e. e)
        (λ z s. elim s [ inl o ↦ inl (left z o) | inr g ↦ inr g ]) (p.reached y f)

-- a part that goes on from one to the other
pub record GoesOn (rows : List TypeRow) (h : HeapView) (Start : ℕ → Type 0) (old new : BackgroundView) : Type 0 where
  pub shades : AllByRecursion IsShade new.shades
  pub work : IsAtWork rows h new
  pub more : HasFoundMore rows h Start old new

pub goes_none : (rows : List TypeRow) (h : HeapView) (Start : ℕ → Type 0) (v : BackgroundView)
    → AllByRecursion IsShade v.shades → IsAtWork rows h v → GoesOn rows h Start v v
goes_none rows h Start v all work = record { shades = all; work = work; more = more_none rows h Start v }

pub goes_after : (rows : List TypeRow) (h : HeapView) (One Other Both : ℕ → Type 0) (a b c : BackgroundView)
    → GoesOn rows h One a b → GoesOn rows h Other b c → ((x : ℕ) → One x → Both x) → ((x : ℕ) → Other x → Both x)
    → GoesOn rows h Both a c
goes_after rows h One Other Both a b c p q left right = record {
  shades = q.shades;
  work = q.work;
  more = more_after rows h One Other Both a b c p.more q.more left right;
}

-- ---- what was taken stays

pub taken_changed : (change : ShadeView → ShadeView)
    → ((s : ShadeView) → without_colours (change s) ≡ without_colours s) → (a : ℕ) (ss : List ShadeView)
    → map without_colours (changed_at a change ss) ≡ map without_colours ss
taken_changed change same a [] = refl
taken_changed change same a (s ∷ ss) = go (covers s a) (taken_changed change same a ss)
  where
    go : (c : Bool) → map without_colours (changed_at a change ss) ≡ map without_colours ss
        → map without_colours (if c then change s ∷ ss else s ∷ changed_at a change ss)
        ≡ map without_colours (s ∷ ss)
    go true rest = ap (λ t. t ∷ map without_colours ss) (same s)
    go false rest = ap (λ ts. without_colours s ∷ ts) rest

met_taken : (v : BackgroundView) (y a : ℕ) → map without_colours (met v y a).shades ≡ map without_colours v.shades
met_taken v y a = go (y == 0) (is_white (colour_at v.shades y)) (is_outside (colour_at v.shades y))
  where
    go : (z w o : Bool) → map without_colours
        (if z then v else (if w then grayed v y else (if o then slot_logged v a else v))).shades
        ≡ map without_colours v.shades
    go true w o = refl
    go false true o = taken_changed (with_marked y) (λ s. refl) y v.shades
    go false false true = taken_changed (with_logged a) (λ s. refl) a v.shades
    go false false false = refl

pub all_met_taken : (word : ℕ → ℕ) (x : ℕ) (offsets : List ℕ) (v : BackgroundView)
    → map without_colours (met_all word v x offsets).shades ≡ map without_colours v.shades
all_met_taken word x [] v = refl
all_met_taken word x (o ∷ os) v =
    all_met_taken word x os (met v (word (x + o)) (x + o)) ∙ met_taken v (word (x + o)) (x + o)

module _ (rows : List TypeRow) (h : HeapView) (heap : IsHeap h) (held : IsHeld rows h) where
  abbrev objects : List Object
  objects = objects_in rows h

  abbrev edge : ℕ → ℕ → Type 0
  edge = SlotNames objects

  -- ---- what was met

  -- the law of the log goes on where no object becomes black
  pub log_stays : (ss now : List ShadeView) → AreObjects rows h ss → AreObjects rows h now
      → ((b : ℕ) → is_scanned now b ≡ is_scanned ss b) → ((b : ℕ) → is_marked ss b ≡ true → is_marked now b ≡ true)
      → ((b : ℕ) → is_logged ss b ≡ true → is_logged now b ≡ true) → LogHolds rows objects ss
      → LogHolds rows objects now
  log_stays ss now known known_now scanned stays logged (m, types, same, law) = (
    m,
    types,
    same,
    λ o i name here black e. go name (slot_address m o i)
        (law o i name here (back o.name black) e),
  )
    where
      back : (x : ℕ) → IsIn x (marking_in objects now).black → IsIn x (marking_in objects ss).black
      back x j =
          let (e, i) = out_of_filter (is_scanned now) x (names rows h heap held) j in
          into_filter (is_scanned ss) (names rows h heap held) (sym (scanned x) ∙ e) i

      go : (name a : ℕ) → IsNullOrMarked (marking_in objects ss) name ⊎ IsTrue (is_logged ss a)
          → IsNullOrMarked (marking_in objects now) name ⊎ IsTrue (is_logged now a)
      go name a (inl (inl null)) = inl (inl null)
      go name a (inl (inr marked)) =
          let f = (found_is_marked rows h heap held ss known name).1 marked in
          inl (inr ((found_is_marked rows h heap held now known_now name).0 (f.0, stays name f.1)))
      go name a (inr l) = inr (logged a l)

  pub met_work : (v w : BackgroundView) (Named : ℕ → Type 0) → IsAtWork rows h v → HasMet v.shades w.shades Named
      → ((b : ℕ) → is_covered w.shades b ≡ is_covered v.shades b)
      → ((b : ℕ) → is_logged v.shades b ≡ true → is_logged w.shades b ≡ true) → IsCounted objects w
      → IsAtWork rows h w
  met_work v w Named work met covered logged counted = record {
    objects = known;
    whole = λ x offset took l. covered (x + offset) ∙ work.whole x offset (was x took) l;
    counted = counted;
    log = log_stays v.shades w.shades work.objects known met.scanned met.stays logged work.log;
  }
    where
      was : (x : ℕ) → IsTakenAt w.shades x → IsTakenAt v.shades x
      was x (there, inl t) = (there, inl (sym (met.taken x) ∙ t))
      was x (there, inr m) = elim (met.fresh x there m) [
        | inl old ↦ (there, inr old)
        | inr p ↦ (there, inl (white_parts v.shades x p.1).taken)
      ]

      known : AreObjects rows h w.shades
      known = record {
        taken = λ a there e. work.objects.taken a there (sym (met.taken a) ∙ e);
        marked = λ a there e. elim (met.fresh a there e) [
          | inl old ↦ work.objects.marked a there old
          | inr p ↦ work.objects.taken a there (white_parts v.shades a p.1).taken
        ];
        scanned = λ a there e. work.objects.scanned a there (sym (met.scanned a) ∙ e);
        black = λ a there e. met.stays a (work.objects.black a there (sym (met.scanned a) ∙ e));
      }

  pub met_found : (v w : BackgroundView) (Named Start : ℕ → Type 0) → HasMet v.shades w.shades Named
      → rest_of w ≡ rest_of v → map without_colours w.shades ≡ map without_colours v.shades
      → ((b : ℕ) → Named b → Reach edge (λ y. Start y ⊎ IsFound v.shades y) b) → HasFoundMore rows h Start v w
  met_found v w Named Start met rest taken reached = record {
    rest = rest;
    taken = taken;
    kept = λ x f. (f.0, met.stays x f.1);
    reached = λ x f. elim (met.fresh x f.0 f.1) [
      | inl old ↦ starts (inr (f.0, old))
      | inr p ↦ reached x p.0
    ];
  }

  -- ---- one root

  pub root_on : (Start : ℕ → Type 0) (v : BackgroundView) (y : ℕ) → AllByRecursion IsShade v.shades
      → IsAtWork rows h v → (y ≢ 0 → StandsAt rows h y) → (y ≢ 0 → Start y)
      → GoesOn rows h Start v (root_grayed v y)
  root_on Start v y all work there start = go (is_white (colour_at v.shades y)) refl
    where
      white : is_white (colour_at v.shades y) ≡ true → is_white_place v.shades y ≡ true
      white e = sym (white_is v.shades y) ∙ e

      some : is_white (colour_at v.shades y) ≡ true → y ≢ 0
      some e z =
          let even : y % 8 ≡ 0 = ap (λ (n : ℕ). n % 8) z in
          let stands : StandsAt rows h 0 = subst (StandsAt rows h) z
          (work.objects.taken y even (white_parts v.shades y (white e)).taken) in
          let high = header-high rows h 0 heap held stands in
          absurd (omega (arith, high))

      go : (w : Bool) → is_white (colour_at v.shades y) ≡ w
          → GoesOn rows h Start v (if w then grayed v y else v)
      go false e = goes_none rows h Start v all work
      go true e =
          let stands = there (some e) in
          let met : HasMet v.shades (changed_at y (with_marked y) v.shades) (IsName y) =
          gray_met v.shades y all (stands_aligned rows h heap held y stands) (some e) (white e) in
          record {
            shades = met.shades;
            work = met_work v (grayed v y) (IsName y) work met
                (λ b. covered_kept (with_marked y) (λ s b. refl) v.shades y b)
                (λ b l.
                told_kept (λ s a. has_bit s.logged (card_of s a)) (with_marked y) (λ s b. refl) (λ s b. refl) v.shades y
                b ∙ l)
                (grayed_counted rows h heap held v y all work.counted (stands_named rows h heap held y stands)
                (white e));
            more = met_found v (grayed v y) (IsName y) Start met refl
                (taken_changed (with_marked y) (λ s. refl) y v.shades)
                (λ b n. starts (inl (subst Start (sym n.0) (start n.1))));
          }

  -- ---- one object

  -- what the slots of a found object name
  pub meet_on : (v : BackgroundView) (x : ℕ) → AllByRecursion IsShade v.shades → IsAtWork rows h v
      → IsFound v.shades x → ((y : ℕ) → SlotNames objects x y → StandsAt rows h y)
      → GoesOn rows h (λ y. ⊥) v (met_all (word_of h) v x (references_at rows h x))
  meet_on v x all work found closed = record {
    shades = met.shades;
    work = met_work v w Named work met logs.covered logs.stays
        (all_counted rows h heap held x offsets v all work.counted (λ offset l some.
        stands_named rows h heap held (word_of h (x + offset)) (closed (word_of h (x + offset))
        (named offset l some))));
    more = met_found v w Named (λ y. ⊥) met (all_rest (word_of h) x offsets v)
        (all_met_taken (word_of h) x offsets v)
        (λ b n. follows {x = x} (starts (inr found))
        (subst (SlotNames objects x) (sym n.is) (named n.offset n.listed n.not_null)));
  }
    where
      offsets : List ℕ
      offsets = references_at rows h x

      w : BackgroundView
      w = met_all (word_of h) v x (references_at rows h x)

      Named : ℕ → Type 0
      Named = IsWordAt (word_of h) x (references_at rows h x)

      stands : StandsAt rows h x
      stands = work.objects.marked x found.0 found.1

      named : (offset : ℕ) → IsIn offset (references_at rows h x) → word_of h (x + offset) ≢ 0
          → SlotNames objects x (word_of h (x + offset))
      named offset l some =
          refers_to rows h heap held x (item_at rows (word_of h) x) (at rows h heap held x stands) offset l some

      even : (offset : ℕ) → IsIn offset (references_at rows h x) → word_of h (x + offset) ≢ 0
          → word_of h (x + offset) % 8 ≡ 0
      even offset l some =
          stands_aligned rows h heap held (word_of h (x + offset)) (closed (word_of h (x + offset))
          (named offset l some))

      met : HasMet v.shades (met_all (word_of h) v x (references_at rows h x)).shades
          (IsWordAt (word_of h) x (references_at rows h x))
      met = all_met (word_of h) x (references_at rows h x) v all even

      logs : LogsReferences (word_of h) x (references_at rows h x) v.shades
          (met_all (word_of h) v x (references_at rows h x)).shades
      logs = logged_all (word_of h) x (references_at rows h x) v all even
