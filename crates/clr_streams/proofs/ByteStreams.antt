-- What reads and writes do to the bytes of a source and of a sink.
use Rattle.std.proofs.Common.{◌≡◌, ℕ, ◌+◌, List, ◌++◌, ◌-◌, length, take, drop, Option, Some, None, refl, sym}
use Rattle.std.proofs.Common.{append_assoc, take-add}
use Rattle.clr_streams.specs.Faults.{Appended, Taken}
use Rattle.std.proofs.lemmas.List.{take-append-drop, drop-drop, take_rest}

-- the bytes from a place on are those that were copied, and what stands after them
pub held_after : (bytes buffer : List ℕ) (at n : ℕ) → take n buffer ≡ take n (drop at bytes)
    → drop at bytes ≡ take n buffer ++ drop (at + n) bytes
held_after bytes buffer at n e = rw (e, ← drop-drop n at bytes) (sym (take-append-drop n (drop at bytes)))

-- bytes appended after others
pub appended_more : (before mid after : Option (List ℕ)) (a b c : List ℕ) → Appended before mid a → Appended mid after b
    → a ++ b ≡ c → Appended before after c
appended_more None mid after a b c e f g = rw (f, e) refl
appended_more (Some xs) mid after a b c e f g = rw (f, e, append_assoc, g) refl

-- bytes taken after others
pub taken_more : (before mid after : Option (List ℕ)) (a b c : List ℕ) → Taken before mid a → Taken mid after b
    → a ++ b ≡ c → Taken before after c
taken_more before mid None a b c e f g = rw (e, f) refl
taken_more before mid (Some xs) a b c e f g = rw (e, f, ← append_assoc, g) refl

-- a write of a text goes on where the one before ended
pub write_more : (text : List ℕ) (at n : ℕ)
    → take at text ++ take n (take (length text - at) (drop at text)) ≡ take (at + n) text
write_more text at n = rw (take_rest) (sym (take-add at n text))
