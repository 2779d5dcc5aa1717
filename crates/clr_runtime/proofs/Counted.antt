-- How the count of what compactions have moved goes on: through a collection, and through the steps of a ladder.
use Rattle.std.proofs.Common.{◌≡◌, ◌∙◌, ℕ, ◌+◌, ◌-◌, ◌^◌, ◌≤◌, ◌==◌, ◌&&◌, not, Bool, true, false, List, [], ◌∷◌}
use Rattle.std.proofs.Common.{None, Some, min, ap, arith, Err, Ok, Option, Result, refl, subst, sym}
use Rattle.clr_heap.specs.declared.heap.segments.AcquireFault.TheVariants.{NoMemory, OverLimit}
use Rattle.clr_model.specs.Checks.{first_of_all, refuse_if}
use Rattle.clr_model.specs.Collection.{Collects}
use Rattle.clr_model.specs.Lookups.{is_step, is_thread, step_of}
use Rattle.clr_model.specs.Machine.{Machine}
use Rattle.clr_model.specs.declared.Collected.{Collected}
use Rattle.clr_model.specs.declared.How.TheVariants.{Compact}
use Rattle.clr_model.specs.declared.Refusal.{Refusal}
use Rattle.clr_model.specs.declared.Refusal.TheVariants as refusal
use Rattle.clr_types.specs.Types.{TypeRow}
use Rattle.clr_runtime.specs.Births.{Measured}
use Rattle.clr_runtime.specs.Checks.{thread_refusal}
use Rattle.clr_runtime.specs.Outcomes.{refusal_of_room}
use Rattle.clr_runtime.specs.Slides.{CountsCollection, Grew}
use Rattle.clr_runtime.specs.declared.rooms.NoRoom.{NoRoom}
use Rattle.clr_runtime.specs.declared.rooms.NoRoom.TheVariants.{Acquire, Wait}
use Rattle.clr_runtime.proofs.NamesChecked.{thread_by}

-- ---- collections

-- a collection that is to compact does
pub compacting : (m : Machine) (g : ℕ) (answer : Collected) (after : Machine) → Collects m g Compact answer after
    → answer.compacted ≡ true
compacting m g answer after c = ap (λ (a : Collected). a.compacted) c.collects.answered

-- ---- a ladder

later : (top first mid last : ℕ) → min top (first + 1) ≤ mid → min top (mid + 1) ≤ last → min top (first + 1) ≤ last
later top first mid last one two = omega (arith, one, two)

-- two collections, of which the second compacted
pub grown : (compacted : Bool) (first mid last : ℕ) → CountsCollection compacted first mid → Grew mid last
    → Grew first last
grown true first mid last one two = later (2 ^ 64 - 1) first mid last one two
grown false first mid last one two = subst (λ n. Grew n last) one two

-- where a collection compacted, it is counted
pub surely : (compacted : Bool) (old new : ℕ) → compacted ≡ true → CountsCollection compacted old new → Grew old new
surely true old new is one = one
surely false old new is one = absurd cc

-- ---- refusals

-- only a lack of room is told as `Oom`
pub full-room : (why : NoRoom) (r : Refusal) → r ≡ refusal_of_room why → r ≡ refusal.Oom → why ≡ Acquire OverLimit
full-room (Wait k) r is oom = absurd (let e : refusal.Wait k ≡ refusal.Oom = sym is ∙ oom in cc)
full-room (Acquire OverLimit) r is oom = refl
full-room (Acquire NoMemory) r is oom = absurd (let e : refusal.NoMemory ≡ refusal.Oom = sym is ∙ oom in cc)

-- an answer that is a refusal is that one
pub refused-as : {A : Type 0} (r s : Refusal) → (let e : Result A Refusal = Err r in e) ≡ Err s → r ≡ s
refused-as r s e = cc

-- what is made is no refusal
pub made-not-refused : {A B : Type 0} (made : A) (why : B) → (let e : Result A B = Ok made in e) ≡ Err why → ⊥
made-not-refused made why e = cc

-- nor is a thread that is waited for a lack of room
pub wait-not-full : (k : ℕ)
    → (let e : Result (Unit {0}) NoRoom = Err (Wait k) in e) ≡ Err (Acquire OverLimit) → ⊥
wait-not-full k e = cc

-- nor a lack of memory
pub lacking-not-full :
    (let e : Result (Unit {0}) NoRoom = Err (Acquire NoMemory) in e) ≡ Err (Acquire OverLimit) → ⊥
lacking-not-full e = cc

-- and the refusal for it is none for a lack of room
pub memory-not-oom : {A : Type 0} → (let e : Result A Refusal = Err refusal.NoMemory in e) ≡ Err refusal.Oom → ⊥
memory-not-oom e = cc

-- nor is an object too big
pub size-not-oom : {A : Type 0} → (let e : Result A Refusal = Err refusal.TooBig in e) ≡ Err refusal.Oom → ⊥
size-not-oom e = cc

-- no check on a thread is told so
pub thread-not-oom : (s : Machine) (t : ℕ) → thread_refusal s t ≡ Some refusal.Oom → ⊥
thread-not-oom s t is = go (is_thread t) s.holder (is_step (step_of s t)) is
  where
    held : (h : ℕ) (same stepping : Bool)
        → first_of_all (refuse_if (not same && not stepping) (refusal.Blocked h)
        ∷ refuse_if (stepping && true) refusal.MidStep ∷ refuse_if (not stepping && false) refusal.NotMidStep ∷ [])
        ≡ Some refusal.Oom → ⊥
    held h true true e = cc
    held h true false e = cc
    held h false true e = cc
    held h false false e = cc

    go : (known : Bool) (holder : Option ℕ) (stepping : Bool) → first_of_all (thread_by t known holder stepping)
        ≡ Some refusal.Oom → ⊥
    go false holder stepping e = cc
    go true None true e = cc
    go true None false e = cc
    go true (Some h) stepping e = held h (h == t) stepping e

-- nor any on what is asked for
pub measure-not-oom : (rows : List TypeRow) (local : ℕ) (name : List ℕ) (len : Option ℕ) (r : Refusal)
    → Measured rows local name len (Err r) → r ≡ refusal.Oom → ⊥
measure-not-oom rows local name len r is oom =
    subst (λ (q : Refusal). Measured rows local name len (Err q)) oom is
