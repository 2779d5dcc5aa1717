-- What a command may answer where the counts of faults and the bytes of the source leave no other.
use Rattle.std.proofs.Common.{◌≡◌, ◌≤◌, ◌⊎◌, ℕ, List, ◌∷◌, ◌++◌, length, Option, Some, None, option_map, IfSome, IsSome}
use Rattle.std.proofs.Common.{inl, inr, refl, ap, arith, length-append}
use Rattle.clr_streams.specs.Faults.{Taken}
use Rattle.clr_streams.specs.Reading.{ReadTooMuch}
use Rattle.clr_streams.specs.declared.status.Status.{Status}
use Rattle.clr_streams.specs.declared.status.Status.TheVariants.{Done, Usage, ReadFault, WriteFault, Memory, TooMuch}
use Rattle.clr_streams.specs.declared.status.Status.TheVariants.{BadImage}

some_same : (a b : List ℕ) → Some a ≡ Some b → a ≡ b
some_same a b e = cc

-- what is left where no other answer is
pub status_left : (status : Status) → (status ≡ Usage → ⊥) → (status ≡ ReadFault → ⊥) → (status ≡ WriteFault → ⊥)
    → (status ≡ TooMuch → ⊥) → (status ≡ BadImage → ⊥) →
    (status ≡ Done) ⊎ (status ≡ Memory)
status_left Done u r w t b = inl refl
status_left Usage u r w t b = absurd (u refl)
status_left ReadFault u r w t b = absurd (r refl)
status_left WriteFault u r w t b = absurd (w refl)
status_left Memory u r w t b = inr refl
status_left TooMuch u r w t b = absurd (t refl)
status_left BadImage u r w t b = absurd (b refl)

-- a script that is too long has more bytes than the limit
pub too_long : (held held_after : Option (List ℕ)) (taken : List ℕ) (byte limit : ℕ)
    → Taken held (option_map (λ rest. byte ∷ rest) held_after) taken →
    length taken ≡ limit → IsSome held → IfSome held (λ bytes. length bytes ≤ limit) → ⊥
too_long None held_after taken byte limit read count some short = cc
too_long (Some bytes) None taken byte limit read count some short = cc
too_long (Some bytes) (Some rest) taken byte limit read count some short =
    let e : bytes ≡ taken ++ byte ∷ rest = some_same bytes (taken ++ byte ∷ rest) read in
    let l = simp length-append at (ap length e) in omega (arith, l, count)

-- a generated script never ends as faulty arguments do
pub no_usage : (status : Status) → (status ≡ Done) ⊎ ((status ≡ WriteFault) ⊎ (status ≡ Memory)) → status ≡ Usage → ⊥
no_usage Usage complete usage = clash complete
  where
    clash : (◌≡◌ {A = Status} Usage Done) ⊎ ((◌≡◌ {A = Status} Usage WriteFault) ⊎ (◌≡◌ {A = Status} Usage Memory)) → ⊥
    clash (inl e) = cc
    clash (inr (inl e)) = cc
    clash (inr (inr e)) = cc
no_usage Done complete usage = cc
no_usage ReadFault complete usage = cc
no_usage WriteFault complete usage = cc
no_usage Memory complete usage = cc
no_usage TooMuch complete usage = cc
no_usage BadImage complete usage = cc

-- what is left where no count of faults rose and not too much was read, of a command that looks at an image
pub status_shown : (status : Status) → (status ≡ Usage → ⊥) → (status ≡ ReadFault → ⊥) → (status ≡ WriteFault → ⊥)
    → (status ≡ TooMuch → ⊥) → (status ≡ Done) ⊎ ((status ≡ Memory) ⊎ (status ≡ BadImage))
status_shown Done u r w t = inl refl
status_shown Usage u r w t = absurd (u refl)
status_shown ReadFault u r w t = absurd (r refl)
status_shown WriteFault u r w t = absurd (w refl)
status_shown Memory u r w t = inr (inl refl)
status_shown TooMuch u r w t = absurd (t refl)
status_shown BadImage u r w t = inr (inr refl)

-- a source from which too much was read holds more bytes than the limit
pub read_too_long : (held held_after : Option (List ℕ)) (limit : ℕ) → ReadTooMuch limit held held_after → IsSome held
    → IfSome held (λ bytes. length bytes ≤ limit) → ⊥
read_too_long None held_after limit much some short = cc
read_too_long (Some bytes) None limit much some short = let read = much.taken in cc
read_too_long (Some bytes) (Some rest) limit much some short =
    let e : bytes ≡ (much.bytes ++ much.more) ++ rest =
    some_same bytes ((much.bytes ++ much.more) ++ rest) much.taken in
    let all = simp length-append at (ap length e) in
    let full = much.full in
    let more = much.some in
    omega (arith, all, full, more, short)
