-- What is logged while the references of an object are followed.
use Rattle.std.proofs.Common.{◌≡◌, ◌≢◌, ℕ, ◌+◌, ◌%◌, ◌⊎◌, inl, inr, List, [], ◌∷◌, refl, sym, ap, subst, ◌∙◌}
use Rattle.std.proofs.Common.{Bool, true, false, if◌then◌else◌, ◌||◌, ◌&&◌, not, ◌==◌}
use Rattle.std.specs.List.{AllByRecursion}
use Rattle.std.proofs.lemmas.Bool.{cases_Bool, both_ways, eqb-false, eqb-true}
use Rattle.clr_types.specs.Rising.{IsIn, first, later}
use Rattle.clr_types.proofs.RisingLists.{in_cons}
use Rattle.clr_bgmark.specs.Bits.{has_bit}
use Rattle.clr_bgmark.specs.Shades.{ShadeView, IsShade, BackgroundView, card_of, changed_at, colour_at, colour_by}
use Rattle.clr_bgmark.specs.Shades.{is_covered, is_logged, is_marked, is_outside, is_scanned, is_taken, is_white, met}
use Rattle.clr_bgmark.specs.Shades.{met_all, grayed, slot_logged, with_logged, with_marked}
use Rattle.clr_bgmark.proofs.Kept.{covered_kept, logged_or_not, on_card, or_true, told_kept}
use Rattle.clr_bgmark.proofs.Meeting.{HasMet, met_one, white_parts}

-- a place that wasn't taken, marked or scanned is outside
outside_by : (scanned marked taken : Bool) → is_outside (colour_by scanned marked taken)
    ≡ (not taken && (not marked && not scanned))
outside_by true true true = refl
outside_by true true false = refl
outside_by true false true = refl
outside_by true false false = refl
outside_by false true true = refl
outside_by false true false = refl
outside_by false false true = refl
outside_by false false false = refl

-- the reference in the slot at an address names what wasn't taken, and the slot is on this card
pub record IsOutsideAt (ss : List ShadeView) (slot y b : ℕ) : Type 0 where
  pub not_null : y ≢ 0
  pub outside : is_outside (colour_at ss y) ≡ true
  pub card : on_card b slot ≡ true

-- What is logged after one reference: what was, and the card of its slot, where it names what wasn't taken.
pub record LogsReference (ss now : List ShadeView) (slot y : ℕ) : Type 0 where
  pub stays : (b : ℕ) → is_logged ss b ≡ true → is_logged now b ≡ true
  pub covered : (b : ℕ) → is_covered now b ≡ is_covered ss b
  pub read : (b : ℕ) → is_covered ss slot ≡ true → IsOutsideAt ss slot y b → is_logged now b ≡ true
  pub only : (b : ℕ) → is_logged now b ≡ true → (is_logged ss b ≡ true) ⊎ IsOutsideAt ss slot y b

-- a white place isn't outside
white_inside : (ss : List ShadeView) (y : ℕ) → is_white (colour_at ss y) ≡ true → is_outside (colour_at ss y) ≡ true → ⊥
white_inside ss y = by (is_scanned ss y) (is_marked ss y) (is_taken ss y)
  where
    by : (s m t : Bool) → is_white (colour_by s m t) ≡ true → is_outside (colour_by s m t) ≡ true → ⊥
    by true true true w o = cc
    by true true false w o = cc
    by true false true w o = cc
    by true false false w o = cc
    by false true true w o = cc
    by false true false w o = cc
    by false false true w o = cc
    by false false false w o = cc

logged_one : (v : BackgroundView) (y a : ℕ) → AllByRecursion IsShade v.shades
    → LogsReference v.shades (met v y a).shades a y
logged_one v y a all =
    go (y == 0) refl (is_white (colour_at v.shades y)) refl (is_outside (colour_at v.shades y)) refl
  where
    same : ((b : ℕ) → IsOutsideAt v.shades a y b → ⊥) → LogsReference v.shades v.shades a y
    same none = record {
      stays = λ b e. e;
      covered = λ b. refl;
      read = λ b c out. absurd (none b out);
      only = λ b e. inl e;
    }

    marked : (b : ℕ) → is_logged (changed_at y (with_marked y) v.shades) b ≡ is_logged v.shades b
    marked b =
        told_kept (λ s a. has_bit s.logged (card_of s a)) (with_marked y) (λ s b. refl) (λ s b. refl) v.shades y b

    split : (b : ℕ) (c d r : Bool) → on_card b a ≡ d → is_logged v.shades b ≡ r → ((c && d) || r) ≡ true
        → (is_logged v.shades b ≡ true) ⊎ (on_card b a ≡ true)
    split b true true r f g e = inr f
    split b true false r f g e = inl (g ∙ e)
    split b false d r f g e = inl (g ∙ e)

    logs : y ≢ 0 → is_outside (colour_at v.shades y) ≡ true
        → LogsReference v.shades (changed_at a (with_logged a) v.shades) a y
    logs some out = record {
      stays = λ b l. logged_or_not v.shades a all b
          ∙ ap (λ r. (is_covered v.shades a && on_card b a) || r) l ∙ or_true (is_covered v.shades a && on_card b a);
      covered = λ b. covered_kept (with_logged a) (λ s b. refl) v.shades a b;
      read = λ b c o. logged_or_not v.shades a all b ∙ (λ i. (c i && o.card i) || is_logged v.shades b);
      only = λ b e. elim (split b (is_covered v.shades a) (on_card b a) (is_logged v.shades b) refl refl
          (sym (logged_or_not v.shades a all b) ∙ e)) [
            | inl was ↦ inl was
            | inr on ↦ inr (record { not_null = some; outside = out; card = on })
          ];
    }

    go : (z : Bool) → (y == 0) ≡ z → (w : Bool) → is_white (colour_at v.shades y) ≡ w → (o : Bool)
        → is_outside (colour_at v.shades y) ≡ o
        → LogsReference v.shades
        (if z then v else (if w then grayed v y else (if o then slot_logged v a else v))).shades a y
    go true e w f o g = same (λ b out. out.not_null (eqb-true y 0 e))
    go false e true f o g = record {
      stays = λ b l. marked b ∙ l;
      covered = λ b. covered_kept (with_marked y) (λ s b. refl) v.shades y b;
      read = λ b c out. absurd (white_inside v.shades y f out.outside);
      only = λ b l. inl (sym (marked b) ∙ l);
    }
    go false e false f true g = logs (eqb-false y 0 e) g
    go false e false f false g = same (λ b out. both_ways (is_outside (colour_at v.shades y)) g out.outside)

-- ---- all references of an object

-- one of the references at these offsets names what wasn't taken, and its slot is on this card
pub record IsReadOutside (word : ℕ → ℕ) (x : ℕ) (offsets : List ℕ) (ss : List ShadeView) (b : ℕ) : Type 0 where
  pub offset : ℕ
  pub listed : IsIn offset offsets
  pub at : IsOutsideAt ss (x + offset) (word (x + offset)) b

-- What is logged after all of them, where the segments cover them.
pub record LogsReferences (word : ℕ → ℕ) (x : ℕ) (offsets : List ℕ) (ss now : List ShadeView) : Type 0 where
  pub stays : (b : ℕ) → is_logged ss b ≡ true → is_logged now b ≡ true
  pub covered : (b : ℕ) → is_covered now b ≡ is_covered ss b
  pub read : (b : ℕ) → (r : IsReadOutside word x offsets ss b) → is_covered ss (x + r.offset) ≡ true
      → is_logged now b ≡ true
  pub only : (b : ℕ) → is_logged now b ≡ true → (is_logged ss b ≡ true) ⊎ IsReadOutside word x offsets ss b

-- what was neither taken nor marked nor scanned
pub record IsOutside (ss : List ShadeView) (b : ℕ) : Type 0 where
  pub untaken : is_taken ss b ≡ false
  pub unmarked : is_marked ss b ≡ false
  pub unscanned : is_scanned ss b ≡ false

pub outside_parts : (ss : List ShadeView) (b : ℕ) → is_outside (colour_at ss b) ≡ true → IsOutside ss b
outside_parts ss b e = by (is_taken ss b) (is_marked ss b) (is_scanned ss b) refl refl refl
    (sym (outside_by (is_scanned ss b) (is_marked ss b) (is_taken ss b)) ∙ e)
  where
    by : (t m s : Bool) → is_taken ss b ≡ t → is_marked ss b ≡ m → is_scanned ss b ≡ s
        → (not t && (not m && not s)) ≡ true → IsOutside ss b
    by true m s x y z f = absurd cc
    by false true s x y z f = absurd cc
    by false false true x y z f = absurd cc
    by false false false x y z f = record { untaken = x; unmarked = y; unscanned = z }

pub parts_outside : (ss : List ShadeView) (b : ℕ) → IsOutside ss b → is_outside (colour_at ss b) ≡ true
parts_outside ss b p =
    outside_by (is_scanned ss b) (is_marked ss b) (is_taken ss b)
    ∙ (λ i. not (p.untaken i) && (not (p.unmarked i) && not (p.unscanned i)))

unmarked_before : (ss now : List ShadeView) (named : ℕ → Type 0) → HasMet ss now named → (b : ℕ)
    → is_marked now b ≡ false → is_marked ss b ≡ false
unmarked_before ss now named h b e = elim (cases_Bool (is_marked ss b)) [
  | inl m ↦ absurd (both_ways (is_marked now b) e (h.stays b m))
  | inr f ↦ f
]

-- what is outside stays so
pub stays_outside : (ss now : List ShadeView) (named : ℕ → Type 0) → HasMet ss now named → (b : ℕ) → b % 8 ≡ 0
    → IsOutside ss b → IsOutside now b
stays_outside ss now named h b at p = record {
  untaken = h.taken b ∙ p.untaken;
  unscanned = h.scanned b ∙ p.unscanned;
  unmarked = elim (cases_Bool (is_marked now b)) [
    | inl m ↦ absurd (elim (h.fresh b at m) [
      | inl was ↦ both_ways (is_marked ss b) p.unmarked was
      | inr q ↦ both_ways (is_taken ss b) p.untaken (white_parts ss b q.1).taken
    ])
    | inr f ↦ f
  ];
}

-- and what is outside was so
pub was_outside : (ss now : List ShadeView) (named : ℕ → Type 0) → HasMet ss now named → (b : ℕ) → IsOutside now b
    → IsOutside ss b
was_outside ss now named h b p = record {
  untaken = sym (h.taken b) ∙ p.untaken;
  unscanned = sym (h.scanned b) ∙ p.unscanned;
  unmarked = unmarked_before ss now named h b p.unmarked;
}

module _ (word : ℕ → ℕ) (x : ℕ) where
  pub logged_all : (offsets : List ℕ) (v : BackgroundView) → AllByRecursion IsShade v.shades
      → ((offset : ℕ) → IsIn offset offsets → word (x + offset) ≢ 0 → word (x + offset) % 8 ≡ 0)
      → LogsReferences word x offsets v.shades (met_all word v x offsets).shades
  logged_all [] v all whole = record {
    stays = λ b e. e;
    covered = λ b. refl;
    read = λ b r. elim r.listed [ ];
    only = λ b e. inl e;
  }
  logged_all (o ∷ os) v all whole =
      both o os v (logged_one v (word (x + o)) (x + o) all) met_first whole
      (logged_all os (met v (word (x + o)) (x + o)) met_first.shades (λ offset l. whole offset (later l)))
    where
      met_first : HasMet v.shades (met v (word (x + o)) (x + o)).shades (λ z. (z ≡ word (x + o)) × (word (x + o) ≢ 0))
      met_first = met_one v (word (x + o)) (x + o) all (whole o first)

      both : (o : ℕ) (os : List ℕ) (v : BackgroundView)
          → LogsReference v.shades (met v (word (x + o)) (x + o)).shades (x + o) (word (x + o))
          → HasMet v.shades (met v (word (x + o)) (x + o)).shades (λ z. (z ≡ word (x + o)) × (word (x + o) ≢ 0))
          → ((offset : ℕ) → IsIn offset (o ∷ os) → word (x + offset) ≢ 0 → word (x + offset) % 8 ≡ 0)
          → LogsReferences word x os (met v (word (x + o)) (x + o)).shades
          (met_all word (met v (word (x + o)) (x + o)) x os).shades
          → LogsReferences word x (o ∷ os) v.shades (met_all word (met v (word (x + o)) (x + o)) x os).shades
      both o os v one h whole more = record {
        stays = λ b e. more.stays b (one.stays b e);
        covered = λ b. more.covered b ∙ one.covered b;
        read = λ b r c. read b r.offset (in_cons r.listed) (whole r.offset r.listed) r.at c;
        only = λ b e. elim (more.only b e) [
          | inl mid ↦ elim (one.only b mid) [
            | inl was ↦ inl was
            | inr at ↦ inr (record { offset = o; listed = first; at = at })
          ]
          | inr r ↦ inr (record {
            offset = r.offset;
            listed = later r.listed;
            at = record {
              not_null = r.at.not_null;
              outside = parts_outside v.shades (word (x + r.offset)) (was_outside v.shades mid named h
                  (word (x + r.offset)) (outside_parts mid (word (x + r.offset)) r.at.outside));
              card = r.at.card;
            };
          })
        ];
      }
        where
          mid : List ShadeView
          mid = (met v (word (x + o)) (x + o)).shades

          named : ℕ → Type 0
          named z = (z ≡ word (x + o)) × (word (x + o) ≢ 0)

          read : (b offset : ℕ) → (offset ≡ o) ⊎ IsIn offset os → (word (x + offset) ≢ 0 → word (x + offset) % 8 ≡ 0)
              → IsOutsideAt v.shades (x + offset) (word (x + offset)) b → is_covered v.shades (x + offset) ≡ true
              → is_logged (met_all word (met v (word (x + o)) (x + o)) x os).shades b ≡ true
          read b offset (inl e) even at c =
              more.stays b (one.read b (subst (λ k. is_covered v.shades (x + k) ≡ true) e c)
              (subst (λ k. IsOutsideAt v.shades (x + k) (word (x + k)) b) e at))
          read b offset (inr l) even at c =
              more.read b (record {
                offset = offset;
                listed = l;
                at = record {
                  not_null = at.not_null;
                  outside = parts_outside mid (word (x + offset)) (stays_outside v.shades mid named h
                      (word (x + offset)) (even at.not_null) (outside_parts v.shades (word (x + offset)) at.outside));
                  card = at.card;
                };
              }) (one.covered (x + offset) ∙ c)
