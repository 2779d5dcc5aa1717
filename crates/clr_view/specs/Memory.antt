-- A heap as the memory of a machine, and tests of names that tell its marks.
use Rattle.std.specs.Prelude.{◌≡◌, ℕ, ◌≤◌, Bool, true, not, ◌&&◌, ◌||◌, ◌==◌, nat_le, List, if◌then◌else◌}
use Rattle.std.specs.List.{list_any}
use Rattle.clr_types.specs.Rising.{IsIn}
use Rattle.clr_types.specs.Segments.{generation}
use Rattle.clr_types.specs.Types.{TypeRow}
use Rattle.clr_types.specs.declared.item.Item.{Item}
use Rattle.clr_heap.specs.Parts.{unmarked}
use Rattle.clr_heap.specs.View.{frame, HeapView, word_of}
use Rattle.clr_model.specs.Machine.{Machine, Object}
use Rattle.clr_view.specs.Marks.{has_mark}
use Rattle.clr_view.specs.View.{layout_in, objects_in}

-- the heap is the memory of a machine of these types
pub record IsMemoryOf (rows : List TypeRow) (h : HeapView) (m : Machine) : Type 0 where
  pub types : m.types ≡ rows
  pub objects : m.objects ≡ objects_in rows h
  pub layout : m.layout ≡ layout_in rows h

-- whether a collection of generation g goes over the place: it is of that generation or a younger one
abbrev pub is_reached_by : HeapView → ℕ → ℕ → Bool
is_reached_by h g place = nat_le (generation (frame h) place) g

-- whether the object is marked
abbrev pub is_marked : HeapView → Object → Bool
is_marked h o = has_mark (word_of h o.place)

-- whether a collection of generation g leaves the object: it doesn't go over it, or finds it marked
abbrev pub is_left : HeapView → ℕ → Object → Bool
is_left h g o = not (is_reached_by h g o.place) || is_marked h o

-- of the objects that a collection of generation g goes over, a test of names passes exactly the marked ones
abbrev pub TestsMarks : List TypeRow → HeapView → ℕ → (ℕ → Bool) → Type 0
TestsMarks rows h g kept =
    (o : Object) → IsIn o (objects_in rows h) → generation (frame h) o.place ≤ g → kept o.name ≡ is_marked h o

-- whether an object of this name is left; what names no object isn't
abbrev pub is_left_name : List TypeRow → HeapView → ℕ → ℕ → Bool
is_left_name rows h g x = list_any (λ (o : Object). (o.name == x) && is_left h g o) (objects_in rows h)

-- an object of this name is left
pub record IsLeft (rows : List TypeRow) (h : HeapView) (g x : ℕ) : Type 0 where
  pub object : Object
  pub present : IsIn object (objects_in rows h)
  pub named : object.name ≡ x
  pub left : is_left h g object ≡ true

-- the word at b, without the mark where an object's method table word stands there
abbrev pub word_without_mark : HeapView → Item → ℕ → ℕ
word_without_mark h i b = if b == i.place then unmarked (word_of h b) else word_of h b
