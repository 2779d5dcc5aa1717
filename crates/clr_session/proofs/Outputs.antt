-- What is written and what waits, one text after another.
use Rattle.std.proofs.Common.{◌≡◌, ℕ, ◌+◌, List, [], ◌++◌, length, take, Option, Some, None, refl, sym, append_assoc}
use Rattle.std.proofs.Common.{append-nil, ap, ◌∙◌, arith, inl, inr}
use Rattle.std.proofs.lemmas.Bool.{cases_lt}
use Rattle.std.proofs.lemmas.List.{take_all, take-append-le}
use Rattle.std.proofs.Math.Seq.{take-append-add}
use Rattle.clr_streams.specs.Faults.{Appended}
use Rattle.clr_session.specs.Output.{Wrote, WroteSome}
use Rattle.clr_streams.proofs.ByteStreams.{appended_more}

-- nothing is appended
pub appended_none : (written : Option (List ℕ)) → Appended written written []
appended_none None = refl
appended_none (Some bytes) = rw append-nil refl

-- no text is put
pub wrote_none : (written : Option (List ℕ)) (waiting : List ℕ) → Wrote written written waiting waiting []
wrote_none written waiting = record { out = []; appended = appended_none written; kept = sym (append-nil waiting) }

-- a text waits behind what did
pub wrote_later : (written : Option (List ℕ)) (waiting left text : List ℕ) → left ≡ waiting ++ text
    → Wrote written written waiting left text
wrote_later written waiting left text e = record { out = []; appended = appended_none written; kept = e }

-- all that waited was written, and then the text
pub wrote_all : (before mid after : Option (List ℕ)) (waiting left text : List ℕ) → Appended before mid waiting
    → left ≡ [] → Appended mid after text → Wrote before after waiting left text
wrote_all before mid after waiting left text first none second = record {
  out = waiting ++ text;
  appended = appended_more before mid after waiting text _ first second refl;
  kept = rw none (append-nil (waiting ++ text));
}

-- one text after another
pub wrote_more : (before mid after : Option (List ℕ)) (waiting left last one other : List ℕ)
    → Wrote before mid waiting left one → Wrote mid after left last other
    → Wrote before after waiting last (one ++ other)
wrote_more before mid after waiting left last one other a b = record {
  out = a.out ++ b.out;
  appended = appended_more before mid after a.out b.out _ a.appended b.appended refl;
  kept = rw (append_assoc, b.kept, ← append_assoc, a.kept, append_assoc) refl;
}

-- a text, and then a part of what waits and of another
pub wrote_some : (before mid after : Option (List ℕ)) (waiting left one other : List ℕ)
    → Wrote before mid waiting left one → WroteSome mid after (left ++ other)
    → WroteSome before after (waiting ++ (one ++ other))
wrote_some before mid after waiting left one other a b =
    let whole : waiting ++ (one ++ other) ≡ a.out ++ (left ++ other) =
    rw (← append_assoc, ← a.kept, append_assoc) refl in
    record {
      count = length a.out + b.count;
      appended = rw whole (appended_more before mid after a.out (take b.count (left ++ other)) _ a.appended b.appended
          (sym (take-append-add a.out (left ++ other) b.count)));
    }

-- all that waited was written, and then a part of the text
pub wrote_then_some : (before mid after : Option (List ℕ)) (waiting text : List ℕ) (n : ℕ) → Appended before mid waiting
    → Appended mid after (take n text) → WroteSome before after (waiting ++ text)
wrote_then_some before mid after waiting text n first second = record {
  count = length waiting + n;
  appended = appended_more before mid after waiting (take n text) _ first second (sym (take-append-add waiting text n));
}

-- a text was put behind what waits, and then room was made
pub wrote_with_room : (before after : Option (List ℕ)) (waiting held left text : List ℕ) → held ≡ waiting ++ text
    → Wrote before after held left [] → Wrote before after waiting left text
wrote_with_room before after waiting held left text e room =
    record { out = room.out; appended = room.appended; kept = room.kept ∙ (append-nil held ∙ e) }

-- or a part of both was written
pub some_with_room : (before after : Option (List ℕ)) (waiting held text : List ℕ) → held ≡ waiting ++ text
    → WroteSome before after held → WroteSome before after (waiting ++ text)
some_with_room before after waiting held text e room = rw (← e) room

-- a part of what waited was written, before a text
pub some_before : (before after : Option (List ℕ)) (waiting text : List ℕ) → WroteSome before after waiting
    → WroteSome before after (waiting ++ text)
some_before before after waiting text some = elim (cases_lt some.count (length waiting)) [
  | inl lt ↦ record {
    count = some.count;
    appended = rw (take-append-le some.count waiting text (omega arith)) some.appended;
  }
  | inr ge ↦
      let whole : take (length waiting) (waiting ++ text) ≡ take some.count waiting =
      take-append-le (length waiting) waiting text (omega arith)
      ∙ (take_all (length waiting) waiting (omega arith) ∙ sym (take_all some.count waiting ge)) in
      record { count = length waiting; appended = rw whole some.appended }
]

-- what was lent of a buffer and given back is what waited, and a text behind it
pub behind_waiting : (items back lent held waiting text : List ℕ) (at end : ℕ) → items ≡ back
    → take end back ≡ take at lent ++ text → lent ≡ held → take at held ≡ waiting → take end items ≡ waiting ++ text
behind_waiting items back lent held waiting text at end returned is taken waits =
    ap (take end) returned ∙ (is ∙ ap (λ (front : List ℕ). front ++ text) (ap (take at) taken ∙ waits))
