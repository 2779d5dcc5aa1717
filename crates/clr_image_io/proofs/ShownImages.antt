-- What a command that looks at an image comes to, from what was read and what was made of it.
use Rattle.std.proofs.Common.{◌≡◌, ◌≢◌, ℕ, List, Option, Result, Ok, Err, Vec, Global, subst, sym, take, inl, inr}
use Rattle.std.proofs.Common.{◌∙◌, ◌++◌, ap, arith, length}
use Rattle.std.proofs.lemmas.List.{take-append-le, take_all}
use Rattle.clr_fields.specs.declared.fault.LoadFault.{LoadFault}
use Rattle.clr_fields.specs.declared.fault.LoadFault.TheVariants.{At, NoMemory}
use Rattle.clr_format.specs.Images.{HasFault, IsImage, Parts}
use Rattle.clr_image.specs.Texts.{Tells, TextOf}
use Rattle.clr_streams.specs.Faults.{Appended}
use Rattle.clr_streams.specs.Reading.{ReadTooMuch, ReadWhole}
use Rattle.clr_image_io.specs.Images.{bad_image_text, IsAnswerOf, IsFaultAt, IsMade, IsTextOf, Showed, ShowedFault}
use Rattle.clr_image_io.specs.Images.{ShowedPart, ShowsImage}
use Rattle.clr_streams.specs.declared.status.Status.{Status}
use Rattle.clr_streams.specs.declared.status.Status.TheVariants.{BadImage, Done, TooMuch, WriteFault}

showed : (IsText : TextOf) (limit : ℕ) (bytes : List ℕ) (made : Result (Vec ℕ Global) LoadFault)
    (held held_after written written_after : Option (List ℕ)) → ReadWhole limit held held_after bytes
    → Tells IsText bytes made → (text : List ℕ) → IsMade made text → Appended written written_after text
    → Showed IsText limit held held_after written written_after
showed IsText limit bytes (Ok v) held held_after written written_after read tells text is wrote = record {
  bytes = bytes;
  read = read;
  parts = tells.0;
  is = tells.1;
  text = text;
  text_is = subst (λ (t : List ℕ). IsText bytes tells.0 t) (sym is) tells.2;
  wrote = wrote;
}
showed IsText limit bytes (Err fault) held held_after written written_after read tells text is wrote = absurd is

fault_is : (IsText : TextOf) (bytes : List ℕ) (made : Result (Vec ℕ Global) LoadFault) (o : ℕ)
    → Tells IsText bytes made → IsFaultAt made o → HasFault bytes o
fault_is IsText bytes (Ok v) o tells is = absurd is
fault_is IsText bytes (Err (At p)) o tells is = subst (λ (x : ℕ). HasFault bytes x) (sym is) tells
fault_is IsText bytes (Err NoMemory) o tells is = absurd is

text_is : (IsText : TextOf) (bytes : List ℕ) (made : Result (Vec ℕ Global) LoadFault) (text : List ℕ)
    → Tells IsText bytes made → IsAnswerOf made text → IsTextOf IsText bytes text
text_is IsText bytes (Ok v) text tells is =
    inl (tells.0, tells.1, subst (λ (t : List ℕ). IsText bytes tells.0 t) (sym is) tells.2)
text_is IsText bytes (Err (At p)) text tells is = inr (p, tells, is)
text_is IsText bytes (Err NoMemory) text tells is = absurd is

-- all was read, and what was made of it was written
pub shows_answer : (IsText : TextOf) (limit : ℕ) (bytes : List ℕ) (made : Result (Vec ℕ Global) LoadFault)
    (held held_after written written_after : Option (List ℕ)) (result : Status)
    → ReadWhole limit held held_after bytes → Tells IsText bytes made
    → (result ≡ Done → (text : List ℕ) × IsMade made text × Appended written written_after text)
    → (result ≡ BadImage → (offset : ℕ) × IsFaultAt made offset
    × Appended written written_after (bad_image_text offset))
    → (result ≡ WriteFault → (text : List ℕ) × IsAnswerOf made text × (count : ℕ)
    × Appended written written_after (take count text))
    → result ≢ TooMuch → ShowsImage IsText limit held held_after written written_after result
shows_answer IsText limit bytes made held held_after written written_after result read tells done bad part much =
    record {
      done = λ e. let (text, is, wrote) = done e in
          showed IsText limit bytes made held held_after written written_after read tells text is wrote;
      bad_image = λ e. let (offset, is, wrote) = bad e in record {
        bytes = bytes;
        read = read;
        offset = offset;
        is = fault_is IsText bytes made offset tells is;
        wrote = wrote;
      };
      write_before = λ e. let (text, is, count, wrote) = part e in record {
        bytes = bytes;
        read = read;
        text = text;
        is = text_is IsText bytes made text tells is;
        count = count;
        wrote = wrote;
      };
      too_much = λ e. absurd (much e);
    }

-- all was read, and what it says was written
pub shows_written : (IsText : TextOf) (limit : ℕ) (bytes : List ℕ)
    (held held_after written written_after : Option (List ℕ)) (result : Status)
    → ReadWhole limit held held_after bytes
    → (result ≡ Done → (parts : Parts) × IsImage bytes parts × (text : List ℕ) × IsText bytes parts text
    × Appended written written_after text)
    → (result ≡ BadImage → (offset : ℕ) × HasFault bytes offset
    × Appended written written_after (bad_image_text offset))
    → (result ≡ WriteFault → (text : List ℕ) × IsTextOf IsText bytes text × (count : ℕ)
    × Appended written written_after (take count text))
    → result ≢ TooMuch → ShowsImage IsText limit held held_after written written_after result
shows_written IsText limit bytes held held_after written written_after result read done bad part much = record {
  done = λ e. let (parts, is, text, says, wrote) = done e in record {
    bytes = bytes;
    read = read;
    parts = parts;
    is = is;
    text = text;
    text_is = says;
    wrote = wrote;
  };
  bad_image = λ e. let (offset, is, wrote) = bad e in record {
    bytes = bytes;
    read = read;
    offset = offset;
    is = is;
    wrote = wrote;
  };
  write_before = λ e. let (text, is, count, wrote) = part e in record {
    bytes = bytes;
    read = read;
    text = text;
    is = is;
    count = count;
    wrote = wrote;
  };
  too_much = λ e. absurd (much e);
}

-- bytes from the front of a text are so many as they are
pub front_taken : (written written_after : Option (List ℕ)) (out rest text : List ℕ) → out ++ rest ≡ text
    → Appended written written_after out → Appended written written_after (take (length out) text)
front_taken written written_after out rest text e appended =
    subst (λ (l : List ℕ). Appended written written_after l)
    (sym (ap (take (length out)) (sym e) ∙ take-append-le (length out) out rest (omega arith)
    ∙ take_all (length out) out (omega arith)))
    appended

-- not all could be read
pub shows_none : (IsText : TextOf) (limit : ℕ) (held held_after written written_after : Option (List ℕ))
    (result : Status) → result ≢ Done → result ≢ BadImage → result ≢ WriteFault
    → (result ≡ TooMuch → ReadTooMuch limit held held_after)
    → ShowsImage IsText limit held held_after written written_after result
shows_none IsText limit held held_after written written_after result done bad part much = record {
  done = λ e. absurd (done e);
  bad_image = λ e. absurd (bad e);
  write_before = λ e. absurd (part e);
  too_much = much;
}
