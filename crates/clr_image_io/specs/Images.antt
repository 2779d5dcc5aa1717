-- What the commands that look at an image come to: all bytes of the source are read, and then one text is written.
use Rattle.std.specs.Prelude.{◌≡◌, ◌⊎◌, ℕ, List, [], ◌∷◌, take, codes, decimal, Option, Result, Ok, Err, Vec}
use Rattle.std.specs.Global.{Global}
use Rattle.clr_fields.specs.declared.fault.LoadFault.{LoadFault}
use Rattle.clr_fields.specs.declared.fault.LoadFault.TheVariants.{At, NoMemory}
use Rattle.clr_model.specs.Sos.{line}
use Rattle.clr_format.specs.Images.{HasFault, IsImage, Parts}
use Rattle.clr_image.specs.Texts.{TextOf}
use Rattle.clr_streams.specs.Faults.{Appended}
use Rattle.clr_streams.specs.Reading.{ReadTooMuch, ReadWhole}
use Rattle.clr_streams.specs.declared.status.Status.{Status}
use Rattle.clr_streams.specs.declared.status.Status.TheVariants.{BadImage, Done, TooMuch, WriteFault}

-- the line that is written where bytes are no image, by the offset of their first fault
abbrev pub bad_image_text : ℕ → List ℕ
bad_image_text offset = line (codes "bad" ∷ codes "image" ∷ codes "at" ∷ decimal offset ∷ [])

-- the line that is written of an image from which no run goes on, by the offset of the first field that no run has
abbrev pub unfit_image_text : ℕ → List ℕ
unfit_image_text offset = line (codes "unfit" ∷ codes "image" ∷ codes "at" ∷ decimal offset ∷ [])

-- the bytes of the source are an image, whose text was written
pub record Showed (IsText : TextOf) (limit : ℕ) (held held_after written written_after : Option (List ℕ)) : Type 0
  where
    pub bytes : List ℕ
    pub read : ReadWhole limit held held_after bytes
    pub parts : Parts
    pub is : IsImage bytes parts
    pub text : List ℕ
    pub text_is : IsText bytes parts text
    pub wrote : Appended written written_after text

-- they aren't an image, and the offset of their first fault was written
pub record ShowedFault (limit : ℕ) (held held_after written written_after : Option (List ℕ)) : Type 0 where
  pub bytes : List ℕ
  pub read : ReadWhole limit held held_after bytes
  pub offset : ℕ
  pub is : HasFault bytes offset
  pub wrote : Appended written written_after (bad_image_text offset)

-- the text of an image, or the line with the first fault of other bytes
abbrev pub IsTextOf : TextOf → List ℕ → List ℕ → Type 0
IsTextOf IsText bytes text =
    ((parts : Parts) × IsImage bytes parts × IsText bytes parts text)
    ⊎ ((offset : ℕ) × HasFault bytes offset × (text ≡ bad_image_text offset))

-- a part from the front of the one or the other was written
pub record ShowedPart (IsText : TextOf) (limit : ℕ) (held held_after written written_after : Option (List ℕ)) : Type 0
  where
    pub bytes : List ℕ
    pub read : ReadWhole limit held held_after bytes
    pub text : List ℕ
    pub is : IsTextOf IsText bytes text
    pub count : ℕ
    pub wrote : Appended written written_after (take count text)

-- What a command that looks at an image comes to: its text is written where the source's bytes are one, and else the
-- offset of their first fault. Nothing is written before all is read.
pub record ShowsImage (IsText : TextOf) (limit : ℕ) (held held_after written written_after : Option (List ℕ))
    (result : Status) : Type 0 where
  pub done : result ≡ Done → Showed IsText limit held held_after written written_after
  pub bad_image : result ≡ BadImage → ShowedFault limit held held_after written written_after
  pub write_before : result ≡ WriteFault → ShowedPart IsText limit held held_after written written_after
  pub too_much : result ≡ TooMuch → ReadTooMuch limit held held_after

-- ---- what is written of an answer

-- this text was made
abbrev pub IsMade : Result (Vec ℕ Global) LoadFault → List ℕ → Type 0
IsMade (Ok made) text = text ≡ made.items
IsMade (Err fault) text = ⊥

-- the bytes have their first fault here
abbrev pub IsFaultAt : Result (Vec ℕ Global) LoadFault → ℕ → Type 0
IsFaultAt (Ok made) offset = ⊥
IsFaultAt (Err (At o)) offset = offset ≡ o
IsFaultAt (Err NoMemory) offset = ⊥

-- the text of an answer, or the line of its fault
abbrev pub IsAnswerOf : Result (Vec ℕ Global) LoadFault → List ℕ → Type 0
IsAnswerOf (Ok made) text = text ≡ made.items
IsAnswerOf (Err (At offset)) text = text ≡ bad_image_text offset
IsAnswerOf (Err NoMemory) text = ⊥
