-- What has to hold of what is written, so that it is read back.
use Rattle.std.specs.Prelude.{◌≡◌, ℕ, ◌+◌, ◌^◌, ◌<◌, ◌≤◌, List, [], ◌∷◌, length, true, false, Option, Some, None}
use Rattle.std.specs.Prelude.{slice_get}
use Rattle.std.specs.List.{AllByRecursion}
use Rattle.clr_types.specs.Types.{TypeRow}
use Rattle.clr_types.specs.Table.{HasDistinctNames, IsLawfulRow}
use Rattle.clr_types.specs.HandleCode.{number_of_kind}
use Rattle.clr_types.specs.declared.handle.Handle.{Handle}
use Rattle.clr_model.specs.LineGrammar.{is_name}
use Rattle.clr_fields.specs.Fields.{is_from_to}
use Rattle.clr_heap.specs.View.{HeapView}
use Rattle.clr_format.specs.HeapFields.{is_base, is_boundary, is_end, is_reserved, kind_number, kinds_of, may_follow}
use Rattle.clr_format.specs.declared.head.Head.{Head}
use Rattle.clr_heap.specs.declared.heap.draft.SegmentHead.{SegmentHead}
use Rattle.clr_format.specs.TableFields.{is_new_length, is_second, Tables}
use Rattle.clr_sos.specs.declared.step.Step.{Step}
use Rattle.clr_sos.specs.declared.step.Step.TheVariants.{Idle, Store, Begun}

-- a type's name is a name of a script
abbrev pub HasName : TypeRow → Type 0
HasName row = is_name row.name ≡ true

-- types that a script defined
pub record AreWritten (rows : List TypeRow) : Type 0 where
  pub few : length rows ≤ 1000
  pub lawful : AllByRecursion IsLawfulRow rows
  pub names : AllByRecursion HasName rows
  pub distinct : HasDistinctNames rows

-- ---- tables

-- what a thread may have begun
abbrev pub IsWrittenStep : List TypeRow → ℕ → Step → Type 0
IsWrittenStep rows large Idle = Unit {0}
IsWrittenStep rows large (Store object slot) = (object < 2 ^ 64) × (slot < 2 ^ 64)
IsWrittenStep rows large (Begun t len local front) =
    (is_from_to 1 (length rows) t.0 ≡ true) × (is_new_length rows large t.0 len ≡ true) × (len < 2 ^ 64) × (local ≤ 63)
    × (front < 2 ^ 64) × (t.0 < 2 ^ 64)

-- only a dependent handle of an object has a second
pub record IsWrittenHandle (row : Handle) : Type 0 where
  pub second : is_second (number_of_kind row.kind) row.target row.second ≡ true
  pub target_fits : row.target < 2 ^ 64
  pub second_fits : row.second < 2 ^ 64

-- handles by rising number, from `low` to 65,535
abbrev pub AreWrittenHandles : ℕ → List (ℕ × Handle) → Type 0
AreWrittenHandles low [] = Unit {0}
AreWrittenHandles low ((h, row) ∷ handles) =
    (low ≤ h) × (h < 65536) × IsWrittenHandle row × AreWrittenHandles (h + 1) handles

abbrev pub IsHolder : Option ℕ → Type 0
IsHolder None = Unit {0}
IsHolder (Some t) = (1 ≤ t) × (t ≤ 16)

abbrev pub IsWord : ℕ → Type 0
IsWord n = n < 2 ^ 64

-- places, whose number is a word too
pub record AreWords (places : List ℕ) : Type 0 where
  pub count : length places < 2 ^ 64
  pub each : AllByRecursion IsWord places

pub record AreWrittenTables (rows : List TypeRow) (large : ℕ) (t : Tables) : Type 0 where
  pub holder : IsHolder t.holder
  pub threads : length t.steps ≡ 16
  pub steps : AllByRecursion (IsWrittenStep rows large) t.steps
  pub few_handles : length t.handles ≤ 65536
  pub handles : AreWrittenHandles 0 t.handles
  pub entries : AreWords t.entries
  pub ready : AreWords t.ready

-- ---- heads

-- what stands before the types of an image of the second version
pub record IsWrittenHead (head : Head) : Type 0 where
  pub limit : is_from_to 524288 1073741824 head.limit ≡ true
  pub large : is_from_to 85000 67104768 head.large ≡ true
  pub second : head.first ≡ false

-- the next segment of a heap, of a kind of its version
pub record IsWrittenSegment (head : Head) (h : HeapView) (s : SegmentHead) : Type 0 where
  pub base : is_base h s.info.base ≡ true
  pub reserved : is_reserved head h s.info.reserved ≡ true
  pub known : slice_get (kinds_of head.first) (kind_number s.info.kind) ≡ Some s.info.kind
  pub kind : may_follow h.segments s.info.kind ≡ true
  pub end : is_end s.info.base s.info.reserved s.info.end ≡ true
  pub start1 : is_boundary s.info (s.info.base + 0x1000) s.start1 ≡ true
  pub start0 : is_boundary s.info s.start1 s.start0 ≡ true
  pub base_fits : s.info.base < 2 ^ 64
  pub reserved_fits : s.info.reserved < 2 ^ 64
  pub end_fits : s.info.end < 2 ^ 64
  pub start1_fits : s.start1 < 2 ^ 64
  pub start0_fits : s.start0 < 2 ^ 64
