-- All parts of an image whose fields are lawful, with the heap that they make.
use Rattle.std.specs.Prelude.{◌≡◌, ℕ, ◌<◌, ◌^◌, length, List, map, None, Some, Result, Ok, Err}
use Rattle.clr_fields.specs.Fields.{found}
use Rattle.clr_fields.specs.declared.fault.LoadFault.{LoadFault}
use Rattle.clr_fields.specs.declared.fault.LoadFault.TheVariants.{At, NoMemory}
use Rattle.clr_heap.specs.View.{IsHeap}
use Rattle.clr_format.specs.Images.{fields_of, Parts}
use Rattle.clr_format.specs.NameTests.{first_failed, reference_test}
use Rattle.clr_load.specs.KnownStarts.{AreStarts}
use Rattle.clr_load.specs.ReadTables.{rest_of}
use Rattle.clr_load.specs.declared.whole.Whole.{Whole}

-- what is kept stands for the parts of these bytes, in a lawful heap, in which each reference is null or names an
-- object
pub record IsWhole (bytes : List ℕ) (w : Whole) (p : Parts) : Type 0 where
  pub next : ℕ
  pub fields : fields_of bytes ≡ found p next
  pub small : length bytes < 2 ^ 63
  pub head : w.head ≡ p.head
  pub types : w.types ≡ p.types
  pub heap : w.heap ≡ p.body.heap
  pub lawful : IsHeap w.heap
  pub starts : AreStarts w.starts p.body.items
  pub rest : rest_of w.rest ≡ p.rest
  pub references : first_failed (map (reference_test p.body.items) p.body.references) ≡ None

-- what is kept stands for the parts, or the offset of their first bad reference is told
abbrev pub IsWholeOr : List ℕ → Parts → Result Whole LoadFault → Type 0
IsWholeOr bytes p (Ok whole) = IsWhole bytes whole p
IsWholeOr bytes p (Err (At o)) = first_failed (map (reference_test p.body.items) p.body.references) ≡ Some o
IsWholeOr bytes p (Err NoMemory) = ⊥
