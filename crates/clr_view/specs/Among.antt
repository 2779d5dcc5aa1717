-- Objects, marks and references among live items, over a word function: they hold of the heap's own words, and of words
-- that stand over them where others were written.
use Rattle.std.specs.Prelude.{◌≡◌, ℕ, Bool, true, List}
use Rattle.clr_types.specs.Rising.{IsIn}
use Rattle.clr_types.specs.Types.{TypeRow}
use Rattle.clr_types.specs.declared.item.Item.{Item}
use Rattle.clr_model.specs.Reach.{SlotNames}
use Rattle.clr_view.specs.Marks.{has_mark}
use Rattle.clr_view.specs.View.{is_object, objects_among, StandsAmong}

-- an object among the items stands at x, and its method table word carries the mark
pub record MarkedAmong (rows : List TypeRow) (word : ℕ → ℕ) (items : List Item) (x : ℕ) : Type 0 where
  pub stands : StandsAmong rows word items x
  pub mark : has_mark (word x) ≡ true

-- whatever an object among the items names is one of them
abbrev pub AreClosedAmong : List TypeRow → (ℕ → ℕ) → List Item → Type 0
AreClosedAmong rows word items = (x y : ℕ) → SlotNames (objects_among rows word items) x y
    → StandsAmong rows word items y

-- a test of places passes exactly the marked ones among the items that are objects
abbrev pub TestsMarksAmong : (ℕ → ℕ) → List Item → (ℕ → Bool) → Type 0
TestsMarksAmong word items kept = (i : Item) → IsIn i items → is_object i ≡ true
    → kept i.place ≡ has_mark (word i.place)
