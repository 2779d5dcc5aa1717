-- The heap that was read, as the program keeps it.
use Rattle.std.specs.Prelude.{◌≡◌, ℕ, ◌+◌, ◌-◌, ◌%◌, ◌^◌, ◌≤◌, length, List, [], ◌∷◌, ◌++◌, Result, Ok, Err}
use Rattle.clr_types.specs.Segments.{first_place}
use Rattle.clr_types.specs.Types.{TypeRow}
use Rattle.clr_types.specs.declared.item.Item.{Item}
use Rattle.clr_types.specs.declared.segment.SegInfo.{SegInfo}
use Rattle.clr_fields.specs.Fields.{Found, fault, found, Fields}
use Rattle.clr_fields.specs.Finds.{Reading}
use Rattle.clr_fields.specs.declared.fault.LoadFault.{LoadFault}
use Rattle.clr_fields.specs.declared.fault.LoadFault.TheVariants.{At, NoMemory}
use Rattle.clr_sos.specs.CheckedCells.{checked_items}
use Rattle.clr_sos.specs.Faults.{stands}
use Rattle.clr_format.specs.HeapFields as fields
use Rattle.clr_format.specs.HeapFields.{references_in, rules_with, words_from}
use Rattle.clr_load.specs.Starts.{AreBelow, has_start}
use Rattle.clr_load.specs.declared.body.Body.{Body}

-- a segment as it is read
pub record IsReadSegment (s : SegInfo) : Type 0 where
  pub base : s.base % 4096 ≡ 0
  pub lowest : 0x10000000 ≤ s.base
  pub highest : s.base ≤ 2 ^ 61
  pub low : first_place s ≤ s.end
  pub high : s.end ≤ s.base + 1073741824
  pub aligned : s.end % 8 ≡ 0

-- the items of a segment whose memory begins at an offset, by the boundaries and the threshold that it was read with
pub record IsSegmentRead (bytes : List ℕ) (rows : List TypeRow) (s : SegInfo) (o : ℕ) (items : List Item) : Type 0 where
  pub segment : IsReadSegment s
  pub within : o ≤ length bytes
  pub large : ℕ
  pub start1 : ℕ
  pub start0 : ℕ
  pub found : checked_items (s.end - first_place s) (rules_with large rows s start1 start0) (words_from bytes s o)
      (first_place s) ≡ Ok items

-- segments, the offsets of their memories, all items, and all references
abbrev pub AreRead : List ℕ → List TypeRow → List SegInfo → List ℕ → List Item → List (ℕ × ℕ) → Type 0
AreRead bytes rows [] [] items references = (items ≡ []) × (references ≡ [])
AreRead bytes rows [] (o ∷ os) items references = ⊥
AreRead bytes rows (s ∷ ss) [] items references = ⊥
AreRead bytes rows (s ∷ ss) (o ∷ os) items references =
    (here : List Item) × (rest : List Item) × (more : List (ℕ × ℕ)) × IsSegmentRead bytes rows s o here
    × (items ≡ here ++ rest) × (references ≡ references_in bytes rows s o here ++ more)
    × AreRead bytes rows ss os rest more

-- what is kept of a heap that was read
pub record IsBody (bytes : List ℕ) (rows : List TypeRow) (kept : Body) (body : fields.Body) : Type 0 where
  pub heap : kept.draft ≡ body.heap
  pub offsets : kept.offsets.items ≡ body.offsets
  pub starts : (x : ℕ) → has_start kept.starts x ≡ stands body.items x
  pub read : AreRead bytes rows body.heap.segments body.offsets body.items body.references

-- no bit of the starts is for the first place of a segment that may follow, or above it
abbrev pub LeavesRoom : Body → Type 0
LeavesRoom body = AreBelow (body.draft.top + 512) body.starts

-- what is there, of which something holds; or its fault
abbrev pub LoadsTo : {A B : Type 0} → (A → Type 0) → Found A → Result B LoadFault → ℕ → Type 0
LoadsTo {A = A} P there (Ok x) next = (value : A) × (there ≡ found value next) × P value
LoadsTo P there (Err (At o)) next = there ≡ fault o
LoadsTo P there (Err NoMemory) next = Unit {0}

-- a reader reads what stands where it is, of which something holds then
pub record Loads {A B : Type 0} (P : A → Type 0) (fields : Fields A) (old new : Reading) (answer : Result B LoadFault)
    : Type 0 where
  pub bytes : new.bytes ≡ old.bytes
  pub tells : LoadsTo P (fields old.bytes old.at) answer new.at
