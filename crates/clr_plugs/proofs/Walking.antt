-- A walk over the plugs of a planned part: its start, and what keeps it.
use Rattle.std.proofs.Common.{◌≡◌, ℕ, ◌-◌, ◌/◌, ◌<◌, ◌≤◌, List, [], ◌∷◌, filter, refl, ap, arith, true, Bool, ◌&&◌, leb}
use Rattle.std.proofs.Common.{ltb}
use Rattle.std.proofs.lemmas.Bool.{le-leb, lt-ltb}
use Rattle.clr_types.specs.Rising.{first, IsIn, later}
use Rattle.clr_heap.specs.View.{HeapView, IsHeap, SameShape, word_of}
use Rattle.clr_bricks.specs.Bricks.{entry_at}
use Rattle.clr_plugs.specs.BrickEntries.{BricksView}
use Rattle.clr_plugs.specs.Cursors.{AreLeft, starts_between}
use Rattle.clr_plugs.specs.Plans.{IsBrickOf, IsPart, IsPlanned, past_bricks, PlannedPart, plug_starts}
use Rattle.clr_plugs.proofs.Finding.{part_fits}
use Rattle.clr_plugs.proofs.Keeping.{lies-same, tells-words}

-- A cursor can begin at the first brick of a planned part.
pub walk_begins : (h : HeapView) (bricks : BricksView) (part : PlannedPart) → IsHeap h → IsPlanned h bricks part
    → AreLeft h bricks (part.low / 4096) (past_bricks part)
walk_begins h bricks part heap plan =
    let near : (i : ℕ) → part.low / 4096 ≤ i → i < past_bricks part → IsBrickOf part i =
    λ i low high. (omega (arith, low), omega (arith, high)) in
    let fits = part_fits h part heap plan.lies in
    record {
      part = part;
      lies = plan.lies;
      covered = λ i low high. plan.covered i (near i low high);
      tell = λ i low high. plan.entries i (near i low high) high;
      fits = omega (arith, fits);
    }

filter_all : (test : ℕ → Bool) (xs : List ℕ) → ((x : ℕ) → IsIn x xs → test x ≡ true) → filter test xs ≡ xs
filter_all test [] all = refl
filter_all test (x ∷ xs) all =
    rw (all x first) (ap (λ (ys : List ℕ). x ∷ ys) (filter_all test xs (λ y i. all y (later i))))

-- Such a cursor gives all plugs of the part.
pub walk_whole : (h : HeapView) (part : PlannedPart) → IsPart h part
    → starts_between (part.low / 4096) (past_bricks part) (plug_starts part.plugs) ≡ plug_starts part.plugs
walk_whole h part lies =
    filter_all (λ x. leb (part.low / 4096) (x / 4096) && ltb (x / 4096) (past_bricks part)) (plug_starts part.plugs)
    (λ x i. (let p = lies.places x i in
    let low = p.low in
    let high = p.high in
    rw (
      le-leb (part.low / 4096) (x / 4096) (omega (arith, low)),
      lt-ltb (x / 4096) (past_bricks part) (omega (arith, high)),
    ) refl))

-- Writing keeps a walk where the children of the plugs that it is still to read stay. The plugs that it has given may
-- be written over.
pub walk_kept : (h now : HeapView) (bricks : BricksView) (brick past : ℕ) (left : AreLeft h bricks brick past)
    → SameShape h now
    → ((x : ℕ) → IsIn x (plug_starts left.part.plugs) → brick ≤ x / 4096 → word_of now (x - 16) ≡ word_of h (x - 16))
    → AreLeft now bricks brick past
walk_kept h now bricks brick past left shape same = record {
  part = left.part;
  lies = lies-same h now left.part shape left.lies;
  covered = left.covered;
  tell = λ i low high. tells-words (word_of h) (word_of now) (plug_starts left.part.plugs) i (entry_at bricks i)
      (λ x j at. same x j (omega (arith, at, low))) (left.tell i low high);
  fits = left.fits;
}
