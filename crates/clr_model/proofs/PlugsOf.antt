-- The plugs of survivors that lie apart.
use Rattle.std.proofs.Common.{sym, ◌≡◌, ℕ, ◌+◌, ◌<◌, ◌≤◌, List, [], ◌∷◌, refl, subst, arith, Bool, true, false, ◌&&◌}
use Rattle.std.proofs.Common.{◌==◌, if◌then◌else◌}
use Rattle.std.specs.Bool.{beq}
use Rattle.std.proofs.lemmas.Bool.{and_parts, eqb-true}
use Rattle.std.specs.List.{AllByRecursion}
use Rattle.clr_types.specs.Rising.{IsIn, first, later, IsRisingBy}
use Rattle.clr_types.proofs.RisingLists.{all_at}
use Rattle.clr_model.specs.Sweep.{Survivor}
use Rattle.clr_model.specs.Compaction.{Plug, plug_end, plug_of, joins, joined, plugs_of}
use Rattle.clr_types.proofs.PieceGaps.{IsGapped}
use Rattle.clr_types.proofs.ChangedLists.{all_members}

abbrev pub survivor_end : Survivor → ℕ
survivor_end k = k.place + k.size

-- the plug with one more survivor before it
abbrev pub longer : Survivor → Plug → Plug
longer k p = record p { start = k.place; size = k.size + p.size }

-- what is one run: they touch, in one segment and generation
pub record AreJoined (k : Survivor) (p : Plug) : Type 0 where
  pub touch : survivor_end k ≡ p.start
  pub segment : k.segment ≡ p.segment
  pub generation : k.generation ≡ p.generation
  pub pinned : k.pinned ≡ p.pinned

same_flags : (a b : Bool) → beq a b ≡ true → a ≡ b
same_flags true true e = refl
same_flags true false e = sym e
same_flags false true e = e
same_flags false false e = refl

pub joins-true : (k : Survivor) (p : Plug) → joins k p ≡ true → AreJoined k p
joins-true k p e =
    let (places, kinds) = and_parts ((k.place + k.size == p.start) && (k.segment == p.segment))
    ((k.generation == p.generation) && beq k.pinned p.pinned) e in
    let (touch, segment) = and_parts (k.place + k.size == p.start) (k.segment == p.segment) places in
    let (age, pin) = and_parts (k.generation == p.generation) (beq k.pinned p.pinned) kinds in
    record {
      touch = eqb-true (k.place + k.size) p.start touch;
      segment = eqb-true k.segment p.segment segment;
      generation = eqb-true k.generation p.generation age;
      pinned = same_flags k.pinned p.pinned pin;
    }

module _ (R : Survivor → Type 0) (S : Plug → Type 0) (alone : (k : Survivor) → R k
    → S (plug_of k)) (more : (k : Survivor) (p : Plug) → R k → S p → AreJoined k p → S (longer k p)) where
  joined-all : (k : Survivor) (ps : List Plug) → R k → AllByRecursion S ps → AllByRecursion S (joined k ps)
  joined-all k [] r s = (alone k r, tt)
  joined-all k (p ∷ ps) r s = go (joins k p) refl
    where
      go : (b : Bool) → joins k p ≡ b → AllByRecursion S (if b then longer k p ∷ ps else plug_of k ∷ p ∷ ps)
      go true e = (more k p r s.0 (joins-true k p e), s.1)
      go false e = (alone k r, s)

  -- what holds of the survivors holds of their plugs
  pub plugs-all : (ks : List Survivor) → AllByRecursion R ks → AllByRecursion S (plugs_of ks)
  plugs-all [] r = tt
  plugs-all (k ∷ ks) r = joined-all k (plugs_of ks) r.0 (plugs-all ks r.1)

-- each with nothing or room for a free item up to all behind it, and none of them older
abbrev pub AreSpaced : List Survivor → Type 0
AreSpaced [] = Unit {0}
AreSpaced (k ∷ ks) = AllByRecursion
    (λ (l : Survivor). IsGapped (survivor_end k) l.place × (l.generation ≤ k.generation)) ks × AreSpaced ks

abbrev pub ArePlugsSpaced : List Plug → Type 0
ArePlugsSpaced [] = Unit {0}
ArePlugsSpaced (p ∷ ps) = AllByRecursion
    (λ (q : Plug). IsGapped (plug_end p) q.start × (q.generation ≤ p.generation)) ps × ArePlugsSpaced ps

joined-spaced : (k : Survivor) (ps : List Plug)
    → AllByRecursion (λ (q : Plug). IsGapped (survivor_end k) q.start × (q.generation ≤ k.generation)) ps
    → ArePlugsSpaced ps → ArePlugsSpaced (joined k ps)
joined-spaced k [] a s = (tt, tt)
joined-spaced k (p ∷ ps) a s = go (joins k p) refl
  where
    go : (b : Bool) → joins k p ≡ b → ArePlugsSpaced (if b then longer k p ∷ ps else plug_of k ∷ p ∷ ps)
    go true e =
        let is : AreJoined k p = joins-true k p e in
        let touch : survivor_end k ≡ p.start = is.touch in
        let same : plug_end p ≡ plug_end (longer k p) = omega arith in (
          subst (λ n. AllByRecursion (λ (q : Plug). IsGapped n q.start × (q.generation ≤ p.generation)) ps) same s.0,
          s.1,
        )
    go false e = (a, s)

pub plugs-spaced : (ks : List Survivor) → AreSpaced ks → ArePlugsSpaced (plugs_of ks)
plugs-spaced [] s = tt
plugs-spaced (k ∷ ks) s =
    joined-spaced k (plugs_of ks)
    (plugs-all (λ l. IsGapped (survivor_end k) l.place × (l.generation ≤ k.generation))
    (λ q. IsGapped (survivor_end k) q.start × (q.generation ≤ k.generation)) (λ l r. r)
    (λ l p r t is. (r.0, t.1)) ks s.0)
    (plugs-spaced ks s.1)

-- survivors that rise, each apart from any higher one
pub spaced-from : (ks : List Survivor) → IsRisingBy (λ (k : Survivor). k.place) ks
    → ((k l : Survivor) → IsIn k ks → IsIn l ks → k.place < l.place
    → IsGapped (survivor_end k) l.place × (l.generation ≤ k.generation)) → AreSpaced ks
spaced-from [] rise apart = tt
spaced-from (k ∷ ks) rise apart = (
  all_members (λ (l : Survivor). IsGapped (survivor_end k) l.place × (l.generation ≤ k.generation)) ks
      (λ l i. apart k l first (later i) (all_at (λ (w : Survivor). k.place < w.place) i rise.0)),
  spaced-from ks
      rise.1 (λ l n i j. apart l n (later i) (later j)),
)

-- spaced plugs rise
pub spaced-rise : (ps : List Plug) → ArePlugsSpaced ps → ((p : Plug) → IsIn p ps → 0 < p.size)
    → IsRisingBy (λ (p : Plug). p.start) ps
spaced-rise [] s size = tt
spaced-rise (p ∷ ps) s size = (
  all_members (λ (q : Plug). p.start < q.start) ps
      (λ q i. let g : IsGapped (plug_end p) q.start
      × (q.generation ≤ p.generation) =
      all_at (λ (q : Plug). IsGapped (plug_end p) q.start × (q.generation ≤ p.generation)) i s.0 in
      let f : IsGapped (plug_end p) q.start = g.0 in let z : 0 < p.size = size p first in
      omega arith),
  spaced-rise ps s.1 (λ q i. size q (later i)),
)

-- and any lower one lies apart from a higher one
pub spaced-apart : (ps : List Plug) (p q : Plug) → ArePlugsSpaced ps → ((p : Plug) → IsIn p ps → 0 < p.size) → IsIn p ps
    → IsIn q ps → p.start < q.start → IsGapped (plug_end p) q.start × (q.generation ≤ p.generation)
spaced-apart ps p q s size first first l = absurd (omega arith)
spaced-apart (p ∷ ps) p' q s size first (later j) l =
    all_at (λ (q : Plug). IsGapped (plug_end p') q.start × (q.generation ≤ p'.generation)) j s.0
spaced-apart (p ∷ ps) p' q s size (later i) first l =
    let g : IsGapped (plug_end q) p'.start
    × (p'.generation ≤ q.generation) =
    all_at (λ (w : Plug). IsGapped (plug_end q) w.start × (w.generation ≤ q.generation)) i s.0 in
    let f : IsGapped (plug_end q) p'.start = g.0 in absurd (omega arith)
spaced-apart (p ∷ ps) p' q s size (later i) (later j) l = spaced-apart ps p' q s.1 (λ w k. size w (later k)) i j l
