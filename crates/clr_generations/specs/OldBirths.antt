-- The birth of an object of generation 2, and the bricks that are to lead back to its own.
use Rattle.std.specs.Prelude.{◌≡◌, ℕ, ◌+◌, ◌*◌, ◌/◌, ◌%◌, ◌<◌, ◌≤◌, ◌⊎◌, ℤ, true, List, map}
use Rattle.clr_types.specs.Rising.{IsIn}
use Rattle.clr_types.specs.Segments.{ended_at, generation, Layout, stands_in}
use Rattle.clr_types.specs.Types.{TypeRow}
use Rattle.clr_types.specs.declared.segment.SegInfo.{SegInfo}
use Rattle.clr_bricks.specs.Bricks.{IsRoot}
use Rattle.clr_model.specs.Lookups.{object_size}
use Rattle.clr_model.specs.Machine.{Object}

-- The objects and one more, the newborn, in a segment whose places up to it are of generation 1 or 2. It shares no byte
-- with the others. Segments differ from those before in their ends alone, and generations begin where they did.
pub record HasOldNewborn (rows : List TypeRow) (before after : Layout) (objects now : List Object) (newborn : Object)
    : Type 0 where
  pub members : (o : Object) → IsIn o now → (o ≡ newborn) ⊎ IsIn o objects
  pub stays : (o : Object) → IsIn o objects → IsIn o now
  pub born : IsIn newborn now
  pub apart : (o : Object) → IsIn o objects → (o.place + object_size rows o ≤ newborn.place)
      ⊎ (newborn.place + object_size rows newborn ≤ o.place)
  pub segments : map (ended_at 0) after.segments ≡ map (ended_at 0) before.segments
  pub start1 : after.start1 ≡ before.start1
  pub start0 : after.start0 ≡ before.start0
  pub home : SegInfo
  pub listed : IsIn home before.segments
  pub base : home.base % 4096 ≡ 0
  pub reserved : home.reserved % 4096 ≡ 0
  pub inside : stands_in home newborn.place ≡ true
  pub old : (p : ℕ) → stands_in home p ≡ true → p ≤ newborn.place → 0 < generation before p

-- Of the bricks above that of the place, those below `to` are all that an object of this size there reaches into, but
-- for the last one where that names an offset.
pub record LeadUpTo (entry : ℕ → ℤ) (place size to : ℕ) : Type 0 where
  pub above : place / 4096 < to
  pub reached : (brick : ℕ) → place / 4096 < brick → brick < to → 4096 * brick < place + size
  pub rooted : (brick : ℕ) → place / 4096 < brick → brick < to → IsRoot (entry brick)
      → 4096 * (brick + 1) < place + size
  pub left : (brick : ℕ) → to ≤ brick → 4096 * brick < place + size → IsRoot (entry brick)
