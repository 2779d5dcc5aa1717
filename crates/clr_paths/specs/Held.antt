-- What is reached without one object, and what that one retains.
use Rattle.std.specs.Prelude.{◌≡◌, ◌≢◌, ◌↔◌, ◌⊎◌, ℕ, ◌+◌, ◌≤◌, ◌<◌, Bool, List, length, take, count_by, filter, sum_by}
use Rattle.clr_types.specs.Rising.{Tests}
use Rattle.clr_model.specs.Lookups.{object_size}
use Rattle.clr_model.specs.Looks.{is_retained}
use Rattle.clr_model.specs.Reach.{Reach}
use Rattle.clr_view.specs.View.{objects_in}
use Rattle.clr_sos.specs.Reaching.{HasGrown, is_listed, IsListed, IsRootOf, Leads, place_at}
use Rattle.clr_sos.specs.declared.reach.FoundObject.{FoundObject}
use Rattle.clr_sos.specs.declared.view.View.{View}
use Rattle.clr_paths.specs.declared.held.Sum.{Sum}

-- what the roots of a view reach
abbrev pub ReachedOf : View → ℕ → Type 0
ReachedOf v = Reach (Leads v) (IsRootOf v)

-- what they reach where nothing refers to the object at an address
abbrev pub ReachedWithout : View → ℕ → ℕ → Type 0
ReachedWithout v a = Reach (λ x y. Leads v x y × (y ≢ a)) (λ x. IsRootOf v x × (x ≢ a))

-- entries were added: whatever entry i leads to is listed now, and nothing else is that wasn't
pub record HasLed (v : View) (old : List FoundObject) (i : ℕ) (new : List FoundObject) : Type 0 where
  pub grown : HasGrown old new
  pub added : (y : ℕ) → Leads v (place_at old i) y → IsListed new y
  pub only : (y : ℕ) → IsListed new y → IsListed old y ⊎ Leads v (place_at old i) y

-- WHAT A SEARCH FINDS THAT FOLLOWS ALL BUT ONE OBJECT: what is reached without it, and itself where it is reached
pub record IsAround (v : View) (a : ℕ) (es : List FoundObject) : Type 0 where
  pub others : (x : ℕ) → x ≢ a → IsListed es x ↔ ReachedWithout v a x
  pub own : IsListed es a ↔ ReachedOf v a

-- whatever an entry from an index on leads to was found
abbrev pub AreFollowedFrom : View → List FoundObject → ℕ → Type 0
AreFollowedFrom v es start =
    (j y : ℕ) → start ≤ j → j < length es → Leads v (place_at es j) y → IsListed es y

-- the bytes of the objects that the first n entries have
abbrev pub bytes_among : View → List FoundObject → ℕ → ℕ
bytes_among v es n = sum_by (object_size v.types.now)
    (filter (λ o. is_listed (take n es) o.name) (objects_in v.types.now v.heap.now))

-- what the entries from an index on come to
pub record IsSumFrom (v : View) (es : List FoundObject) (start : ℕ) (sum : Sum) : Type 0 where
  pub objects : sum.objects + start ≡ length es
  pub bytes : sum.bytes + bytes_among v es start ≡ bytes_among v es (length es)

-- what is reached, and not without the object at an address: so many objects, which have so many bytes
pub record IsRetainedSum (v : View) (a : ℕ) (sum : Sum) : Type 0 where
  pub live : ℕ → Bool
  pub lives : Tests live (ReachedOf v)
  pub without : ℕ → Bool
  pub stays : Tests without (ReachedWithout v a)
  pub objects : sum.objects ≡ count_by (is_retained live without) (objects_in v.types.now v.heap.now)
  pub bytes : sum.bytes ≡ sum_by (object_size v.types.now)
      (filter (is_retained live without) (objects_in v.types.now v.heap.now))
