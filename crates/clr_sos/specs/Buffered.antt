-- Texts that are written through a buffer, and how much of them was written.
use Rattle.std.specs.Prelude.{◌≡◌, ℕ, List, [], ◌∷◌, ◌++◌, codes, decimal, length, Option}
use Rattle.std.specs.List.{flat_map}
use Rattle.clr_types.specs.Types.{TypeRow}
use Rattle.clr_model.specs.Machine.{Object}
use Rattle.clr_model.specs.Sos.{line}
use Rattle.clr_sos.specs.TextPieces.{queued_line}
use Rattle.clr_streams.specs.Faults.{Appended, Rose}

-- Of what the buffer held and the text behind it, bytes from the front were written, and the buffer holds the others.
pub record IsPut (written written_after : Option (List ℕ)) (faults faults_after : ℕ) (text left : List ℕ) : Type 0
  where
    pub out : List ℕ
    pub appended : Appended written written_after out
    pub kept : out ++ left ≡ text
    pub counted : faults_after ≡ faults

-- A write failed: bytes from the front were written.
pub record IsCut (written written_after : Option (List ℕ)) (faults faults_after : ℕ) (text : List ℕ) : Type 0 where
  pub out : List ℕ
  pub rest : List ℕ
  pub appended : Appended written written_after out
  pub whole : out ++ rest ≡ text
  pub rose : Rose faults faults_after

-- the line with the lengths of both lists of a finalisation queue
abbrev pub counts_line : ℕ → ℕ → List ℕ
counts_line entries ready = line (codes "entries" ∷ decimal entries ∷ codes "ready" ∷ decimal ready ∷ [])

-- the lines of a finalisation queue, by its lists
abbrev pub queue_text : List TypeRow → List Object → List ℕ → List ℕ → List ℕ
queue_text rows objects entries ready =
    (flat_map (queued_line rows objects (codes "entry")) entries
    ++ flat_map (queued_line rows objects (codes "ready")) ready)
    ++ counts_line (length entries) (length ready)
