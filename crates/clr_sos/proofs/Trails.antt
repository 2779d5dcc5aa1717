-- The chain of objects by which an entry was found, and the root that it starts at.
use Rattle.std.proofs.Common.{◌≡◌, ◌≢◌, inl, inr, ℕ, ◌+◌, ◌/◌, ◌%◌, ◌<◌, ◌≤◌, true, List, [], ◌∷◌, ◌++◌, length}
use Rattle.std.proofs.Common.{leb, refl, ap, ap₂, sym, ◌∙◌, subst, arith, Some, codes, decimal}
use Rattle.std.specs.Prelude.{slice_get}
use Rattle.std.specs.List.{AllByRecursion, flat_map}
use Rattle.std.specs.FinMap as finmap
use Rattle.std.specs.FinMap.{FinMap}
use Rattle.std.specs.Ordering.{nat_cmp}
use Rattle.std.proofs.lemmas.Bool.{and_from, le-leb}
use Rattle.std.proofs.lemmas.Option.{slice_get_within}
use Rattle.clr_types.specs.Rising.{IsIn}
use Rattle.clr_types.specs.Types.{TypeRow, name_of}
use Rattle.clr_types.specs.declared.handle.Handle.{Handle as Row}
use Rattle.clr_types.proofs.ChangedLists.{all_imply}
use Rattle.clr_types.proofs.RisingLists.{all_at}
use Rattle.clr_nums.specs.Numbers.{hex16}
use Rattle.clr_model.specs.Lookups.{is_thread, local_index, object_at}
use Rattle.clr_model.specs.Machine.{Machine, Object}
use Rattle.clr_model.specs.Reach.{Roots}
use Rattle.clr_model.specs.Sos.{chain_line, handle_root, IsChain, IsRootText, IsWithoutRepeats, line, local_root}
use Rattle.clr_model.specs.Sos.{ready_root, RootWords, StartsAt, type_of_place}
use Rattle.clr_sos.specs.BreadthFirst.{AreNearest}
use Rattle.clr_sos.specs.Reaching.{entry_of, IsObjectOf, IsOrigin, IsRootOf, IsSearch, IsSound, Leads, place_at, via_at}
use Rattle.clr_sos.specs.RootTexts.{ends, IsRootOrigin, IsTrail, leads, origin_line, place_line}
use Rattle.clr_sos.specs.Views.{IsViewOf}
use Rattle.clr_sos.specs.declared.reach.FoundObject.{FoundObject}
use Rattle.clr_sos.specs.declared.reach.Origin.{Origin}
use Rattle.clr_sos.specs.declared.reach.Origin.TheVariants.{Local, Handle, Ready, Through}
use Rattle.clr_sos.specs.declared.view.View.{View}
use Rattle.clr_sos.proofs.ReachedAll.{edge-shown, in_slice, object-not_null, root-seen}
use Rattle.clr_sos.proofs.ShortestTrails.{trail-least}

-- ---- the chain

-- the place of entry i or of a later one
pub record IsFrom (es : List FoundObject) (i x : ℕ) : Type 0 where
  pub index : ℕ
  pub from : i ≤ index
  pub below : index < length es
  pub is : place_at es index ≡ x

pub record IsChainFrom (m : Machine) (es : List FoundObject) (last i : ℕ) (places : List ℕ) : Type 0 where
  pub inside : i < length es
  pub starts : StartsAt places (place_at es i)
  pub linked : IsChain m places last
  pub later : AllByRecursion (IsFrom es i) places
  pub distinct : IsWithoutRepeats places

module _ (v : View) (m : Machine) (shown : IsViewOf v m) (seen : List (List ℕ)) (es : List FoundObject)
    (s : IsSearch v seen es) (last : ℕ) where
  -- an entry before a chain
  chain-more : (q i : ℕ) (places : List ℕ) → q < i → (entry_of es i).origin ≡ Through q
      → IsChainFrom m es last i places → IsChainFrom m es last q (place_at es q ∷ places)
  chain-more q i [] low e c = absurd c.starts
  chain-more q i (y ∷ ys) low e c =
      let inside = c.inside in
      let own : q < length es = omega (arith, low, inside) in
      let led : (q < i) × Leads v (place_at es q) (place_at es i) =
      subst (IsOrigin v es i (place_at es i)) e (s.sound i inside).origin in
      record {
        inside = own;
        starts = refl;
        linked = (
          edge-shown v m shown (place_at es q) y (subst (λ (p : ℕ). Leads v (place_at es q) p) (sym c.starts) led.1),
          c.linked,
        );
        later = (
          record { index = q; from = omega arith; below = own; is = refl },
          all_imply (IsFrom es i) (IsFrom es q) (y ∷ ys)
              (λ x f. let from = f.from in
              record { index = f.index; from = omega (arith, low, from); below = f.below; is = f.is }) c.later,
        );
        distinct = (
          all_imply (IsFrom es i) (λ x. place_at es q ≢ x) (y ∷ ys)
              (λ x f same. let from = f.from in
              s.distinct q f.index (omega (arith, low, from)) f.below (same ∙ sym f.is)) c.later,
          c.distinct,
        );
      }

  pub chain-told : (i : ℕ) (places : List ℕ) → IsTrail es last i places → IsChainFrom m es last i places
  chain-told i _ (ends _ l e) = record {
    inside = l;
    starts = refl;
    linked = e;
    later = (record { index = i; from = omega arith; below = l; is = refl }, tt);
    distinct = (tt, tt);
  }
  chain-told q _ (leads _ i places low e t) = chain-more q i places low e (chain-told i places t)

  -- each of its places is an object's
  pub chain-stands : (i : ℕ) (places : List ℕ) → IsChainFrom m es last i places → (x : ℕ) → IsIn x places
      → IsObjectOf v x
  chain-stands i places c x l =
      let f = all_at (IsFrom es i) l c.later in subst (IsObjectOf v) f.is (s.sound f.index f.below).stands

-- ---- the root

-- the words of a root, and the line that they make
pub record IsRootedBy (m : Machine) (o : Origin) (place : ℕ) : Type 0 where
  pub words : List (List ℕ)
  pub rooted : RootWords m words place
  pub told : origin_line o ≡ line words

module _ (v : View) (m : Machine) (shown : IsViewOf v m) (count : length v.locals.now ≡ 1024) where
  rooted-by : (es : List FoundObject) (n place : ℕ) (o : Origin) → IsRootOrigin o → IsOrigin v es n place o
      → IsRootedBy m o place
  rooted-by es n place (Local k) root is =
      let low = slice_get_within v.locals.now k place is in
      let here : local_index (k / 64 + 1) (k % 64) ≡ k = omega arith in
      let mine : slice_get m.locals k ≡ Some place =
      subst (λ (ls : List ℕ). slice_get ls k ≡ Some place) (sym shown.locals) is in
      let thread : is_thread (k / 64 + 1) ≡ true =
      and_from (leb 1 (k / 64 + 1)) (leb (k / 64 + 1) 16) (le-leb 1 (k / 64 + 1) (omega arith))
      (le-leb (k / 64 + 1) 16 (omega (arith, low, count))) in
      record {
        words = codes "root" ∷ (116 ∷ decimal (k / 64 + 1)) ∷ (108 ∷ decimal (k % 64)) ∷ [];
        rooted = local_root (k / 64 + 1) (k % 64) thread (omega arith) (ap (slice_get m.locals) here ∙ mine);
        told = refl;
      }
  rooted-by es n place (Handle h) root is = record {
    words = codes "root" ∷ (104 ∷ decimal h) ∷ [];
    rooted = handle_root h is.row
        (subst (λ (hs : FinMap nat_cmp Row). finmap.get hs h ≡ Some is.row) (sym shown.handles) is.in_use) is.holds
        is.target;
    told = refl;
  }
  rooted-by es n place (Ready k) root is = record {
    words = codes "root" ∷ codes "ready" ∷ decimal k ∷ [];
    rooted = ready_root k (subst (λ (rs : List ℕ). slice_get rs k ≡ Some place) (sym shown.ready) is);
    told = refl;
  }
  rooted-by es n place (Through q) root is = absurd root

  -- what the words of a root name is a root
  words-root : (words : List (List ℕ)) (place : ℕ) → 0 < place → RootWords m words place → Roots m place
  words-root _ place some (local_root t k thread low e) =
      (some, inl (inl (in_slice m.locals (local_index t k) place e)))
  words-root _ place some (handle_root h row in_use holds target) =
      (some, inl (inr (record { handle = h; row = row; in_use = in_use; holds = holds; target = target })))
  words-root _ place some (ready_root i e) = (some, inr (in_slice m.ready i place e))

  -- THE TEXT OF A ROOT AND A SHORTEST CHAIN
  pub root-told : (seen : List (List ℕ)) (es : List FoundObject) → IsSound v → IsSearch v seen es
      → AreNearest (Leads v) (IsRootOf v) (place_at es) (via_at es) (length es) → (a last i : ℕ)
      (places : List ℕ) (root : Origin) (text : List ℕ) → place_at es last ≡ a
      → IsTrail es (place_at es last) i places → root ≡ (entry_of es i).origin → IsRootOrigin root
      → text ≡ origin_line root ++ flat_map (place_line v) places → IsRootText m a text
  root-told seen es sound s near a last i places root text at t led is put =
      let c = chain-told v m shown seen es s (place_at es last) i places t in
      let own = s.sound i c.inside in
      let r = rooted-by es i (place_at es i) root is
      (subst (IsOrigin v es i (place_at es i)) (sym led) own.origin) in
      let lines : flat_map (place_line v) places ≡ flat_map (chain_line m) places =
      ap₂ (λ (rows : List TypeRow) (os : List Object).
      flat_map (λ (p : ℕ). line (hex16 p ∷ name_of rows (type_of_place (object_at os p)) ∷ [])) places)
      (sym shown.types) (sym shown.objects) in
      record {
        words = r.words;
        chain = places;
        root = place_at es i;
        not_null = object-not_null v sound (place_at es i) own.stands;
        rooted = r.rooted;
        starts = c.starts;
        linked = subst (IsChain m places) at c.linked;
        least = λ other_words start other some rooted at_start chained.
            trail-least v m shown (IsRootOf v) es a i places near (subst (λ (p : ℕ). IsTrail es p i places) at t)
            (subst IsRootOrigin led is) start other
            (root-seen v m shown start (words-root other_words start some rooted)) at_start chained;
        distinct = c.distinct;
        shown = put ∙ ap₂ (λ (x y : List ℕ). x ++ y) r.told lines;
      }
