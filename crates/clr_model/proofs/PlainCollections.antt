-- A collection that fits no survivors into older items, and on which no slide follows, in one step.
use Rattle.std.proofs.Common.{◌≡◌, ℕ, ◌≤◌, List, refl, sym, ap, subst, ◌∙◌, Bool, true, false, if◌then◌else◌}
use Rattle.std.proofs.Common.{filter, ◌&&◌, ◌++◌, ◌==◌, not}
use Rattle.std.specs.Prelude.{MatchBool, count_by}
use Rattle.clr_types.specs.Rising.{Tests}
use Rattle.clr_types.specs.Maps.{map_values}
use Rattle.clr_types.specs.Segments.{Layout}
use Rattle.clr_model.specs.declared.How.{How}
use Rattle.clr_model.specs.declared.How.TheVariants.{Decide, Compact, Sweep, Fit}
use Rattle.clr_model.specs.declared.Collected.{Collected}
use Rattle.clr_model.specs.Machine.{Machine}
use Rattle.clr_model.specs.Reach.{StartOf, IsAlive, Kept, woken}
use Rattle.clr_model.specs.Sweep.{Survivor, survivors, is_condemned, swept_others}
use Rattle.clr_model.specs.Compaction.{Move}
use Rattle.clr_model.specs.Fitting.{IsFitted}
use Rattle.clr_model.specs.Collection.{begun, bytes_promoted, compacts, decides_to_compact, ended, is_fit}
use Rattle.clr_model.specs.Collection.{marking_after}
use Rattle.clr_model.specs.Collection.{objects_after, released, row_after, sums_after, Collects, IsCollected}
use Rattle.clr_model.specs.Collection.{IsSmallLaid}
use Rattle.clr_model.specs.Collection.{SlidesIf}
use Rattle.clr_model.specs.Laws.{IsPlain, IsUnslid, IsUsual}

-- what such a collection does to a machine whose contexts are given up, from this start, up to its end
pub record IsPlainlyCollected (m : Machine) (g : ℕ) (how : How) (last_pause : Bool) (start : ℕ
    → Type 0) (answer : Collected) (new : Machine) : Type 0 where
  pub first : ℕ → Bool
  pub kept : ℕ → Bool
  pub first_is : Tests first (IsAlive m start)
  pub kept_is : Tests kept (Kept m start first)
  pub survive : List Survivor
  pub survive_are : survive ≡ survivors m g kept
  pub small : Layout
  pub moves : List Move
  pub small_laid : IsSmallLaid (compacts how (decides_to_compact m g survive)) m.layout g survive moves small
  pub laid : Layout
  pub large_laid : laid ≡ (if g == 2 then swept_others small 2 survive else small)
  pub answered :
      answer
      ≡ record {
        generation = g;
        compacted = compacts how (decides_to_compact m g survive);
        fitted = false;
        background = last_pause;
        kept = count_by (λ o. is_condemned m g o && kept o.name) m.objects;
        freed = count_by (λ o. is_condemned m g o && not (kept o.name)) m.objects;
        promoted1 = bytes_promoted m laid kept moves 0;
        promoted2 = bytes_promoted m laid kept moves 1;
      }
  pub state :
      new
      ≡ record m {
        objects = objects_after m first kept moves;
        handles = map_values (row_after first kept) m.handles;
        entries = filter first m.entries;
        ready = m.ready ++ woken m first;
        layout = if g == 2 then released laid (objects_after m first kept moves) else laid;
        sums = sums_after m g answer.promoted1 answer.promoted2;
        background = marking_after (g == 2) m.background;
      }

-- a blocking one: first every context is given up
abbrev pub PlainlyCollects : Machine → ℕ → How → Collected → Machine → Type 0
PlainlyCollects m g how answer new = IsPlainlyCollected (begun m) g how false (StartOf (begun m) g) answer new

module _ (m : Machine) (g : ℕ) (how : How) (last_pause : Bool) (start : ℕ → Type 0) (answer : Collected)
    (plain : is_fit how ≡ false) where
  -- from a collection, and its end
  abbrev pub plain_from : (mid new : Machine) → IsCollected m g how last_pause start answer mid → new ≡ ended g mid
      → IsPlainlyCollected m g how last_pause start answer new
  plain_from mid new c ends = record {
    first = c.first;
    kept = c.kept;
    first_is = c.first_is;
    kept_is = c.kept_is;
    survive = c.survive;
    survive_are = c.survive_are;
    small = c.small;
    moves = c.moves;
    small_laid =
        subst (λ (b : Bool). MatchBool b (IsFitted m.layout c.survive c.moves c.small)
        (IsSmallLaid (compacts how (decides_to_compact m g c.survive)) m.layout g c.survive c.moves c.small))
        plain c.small_laid;
    laid = c.laid;
    large_laid = c.large_laid;
    answered =
        c.answered
        ∙ (λ i. record {
          generation = g;
          compacted = compacts how (decides_to_compact m g c.survive);
          fitted = plain i;
          background = last_pause;
          kept = count_by (λ o. is_condemned m g o && c.kept o.name) m.objects;
          freed = count_by (λ o. is_condemned m g o && not (c.kept o.name)) m.objects;
          promoted1 = bytes_promoted m c.laid c.kept c.moves 0;
          promoted2 = bytes_promoted m c.laid c.kept c.moves 1;
        });
    state = ends ∙ ap (ended g) c.state;
  }

  -- the machine before a slide and the release
  abbrev pub before_release : (new : Machine) → IsPlainlyCollected m g how last_pause start answer new → Machine
  before_release new c = record m {
    objects = objects_after m c.first c.kept c.moves;
    handles = map_values (row_after c.first c.kept) m.handles;
    entries = filter c.first m.entries;
    ready = m.ready ++ woken m c.first;
    layout = c.laid;
    sums = sums_after m g answer.promoted1 answer.promoted2;
    background = marking_after (g == 2) m.background;
  }

  -- and back
  abbrev pub plain_back : (new : Machine) → (c : IsPlainlyCollected m g how last_pause start answer new)
      → (mid : Machine) × IsCollected m g how last_pause start answer mid × (new ≡ ended g mid)
      × (mid.compacts_large ≡ m.compacts_large) × (mid.layout ≡ c.laid)
  plain_back new c = (
    before_release new c,
    record {
      first = c.first;
      kept = c.kept;
      first_is = c.first_is;
      kept_is = c.kept_is;
      survive = c.survive;
      survive_are = c.survive_are;
      small = c.small;
      moves = c.moves;
      small_laid =
          subst (λ (b : Bool). MatchBool b (IsFitted m.layout c.survive c.moves c.small)
          (IsSmallLaid (compacts how (decides_to_compact m g c.survive)) m.layout g c.survive c.moves c.small))
          (sym plain) c.small_laid;
      laid = c.laid;
      large_laid = c.large_laid;
      answered =
          c.answered
          ∙ (λ i. record {
            generation = g;
            compacted = compacts how (decides_to_compact m g c.survive);
            fitted = sym plain i;
            background = last_pause;
            kept = count_by (λ o. is_condemned m g o && c.kept o.name) m.objects;
            freed = count_by (λ o. is_condemned m g o && not (c.kept o.name)) m.objects;
            promoted1 = bytes_promoted m c.laid c.kept c.moves 0;
            promoted2 = bytes_promoted m c.laid c.kept c.moves 1;
          });
      state = refl;
    },
    c.state,
    refl,
    refl,
  )

-- ---- blocking collections

-- where no slide follows, the flag stays
pub flag_stays : (flag full : Bool) → (flag && full) ≡ false → (flag && not full) ≡ flag
flag_stays true true e = absurd cc
flag_stays true false e = refl
flag_stays false full e = refl

module _ (m : Machine) (g : ℕ) (how : How) (answer : Collected) (new : Machine) (unslid : IsUnslid m g)
    (plain : is_fit how ≡ false) where
  pub plainly : Collects m g how answer new → PlainlyCollects m g how answer new
  plainly c =
      plain_from (begun m) g how false (StartOf (begun m) g) answer plain c.collected new c.collects
      (c.ends
      ∙ (λ i. record (ended g (still i)) { compacts_large = flag_stays m.compacts_large (g == 2) unslid i })
      ∙ (λ i. record (ended g c.collected) { compacts_large = sym flag i }))
    where
      still : c.slid ≡ c.collected
      still = subst (λ (b : Bool). SlidesIf b c.collected c.slid) unslid c.slides

      flag : c.collected.compacts_large ≡ m.compacts_large
      flag = ap (λ (w : Machine). w.compacts_large) c.collects.state

  abbrev pub from_plain : PlainlyCollects m g how answer new → Collects m g how answer new
  from_plain c =
      let back = plain_back (begun m) g how false (StartOf (begun m) g) answer plain new c in
      record {
        collected = back.0;
        slid = back.0;
        collects = back.1;
        slides = subst (λ (b : Bool). SlidesIf b back.0 back.0) (sym unslid) refl;
        ends =
            back.2
            ∙ (λ i. record (ended g back.0) {
              compacts_large = (back.3 ∙ sym (flag_stays m.compacts_large (g == 2) unslid)) i;
            });
      }

-- ---- the usual kinds

pub usual_least : (g : ℕ) (how : How) → IsPlain g how → g ≤ 2
usual_least g Decide least = least
usual_least g Compact least = least
usual_least g Sweep least = least
usual_least g Fit none = absurd none

pub usual_plain : (g : ℕ) (how : How) → IsPlain g how → is_fit how ≡ false
usual_plain g Decide least = refl
usual_plain g Compact least = refl
usual_plain g Sweep least = refl
usual_plain g Fit none = absurd none

-- and of each such kind where the generation is one
pub is_usual : (g : ℕ) (how : How) → g ≤ 2 → is_fit how ≡ false → IsUsual g how
is_usual g Decide least plain = least
is_usual g Compact least plain = least
is_usual g Sweep least plain = least
is_usual g Fit least fits = absurd cc
