-- Plugs of survivors one behind the other, where no plug goes over from the first ones to the others.
use Rattle.std.proofs.Common.{◌≡◌, ◌+◌, ◌≤◌, List, [], ◌∷◌, ◌++◌, length, refl, sym, ap, ◌∙◌, arith, Bool, true, false}
use Rattle.std.proofs.Common.{◌&&◌, ◌==◌, if◌then◌else◌}
use Rattle.std.specs.Bool.{beq}
use Rattle.std.proofs.lemmas.Bool.{and_left, and_right}
use Rattle.clr_types.specs.Rising.{IsIn, first, later}
use Rattle.clr_model.specs.Sweep.{Survivor}
use Rattle.clr_model.specs.Compaction.{Plug, plug_of, joins, joined, plugs_of}
use Rattle.clr_model.proofs.PlugsOf.{AreJoined, joins-true}

-- whether two survivors share their segment and generation
abbrev pub shares : Survivor → Survivor → Bool
shares k l = (k.segment == l.segment) && (k.generation == l.generation)

-- the first plug is of the segment and generation of the first survivor
abbrev Heads : Survivor → List Plug → Type 0
Heads l [] = ⊥
Heads l (p ∷ ps) = (p.segment ≡ l.segment) × (p.generation ≡ l.generation)

heads : (l : Survivor) (ps : List Plug) → Heads l (joined l ps)
heads l [] = (refl, refl)
heads l (p ∷ ps) = go (joins l p) refl
  where
    go : (b : Bool) → joins l p ≡ b → Heads l (if b then record p { start = l.place; size = l.size + p.size } ∷ ps
        else plug_of l ∷ p ∷ ps)
    go true e = let is : AreJoined l p = joins-true l p e in (sym is.segment, sym is.generation)
    go false e = (refl, refl)

-- a survivor before a plug of another segment or generation is a plug
joined-apart : (k l : Survivor) (qs : List Plug) → shares k l ≡ false → Heads l qs → joined k qs ≡ plug_of k ∷ qs
joined-apart k l [] off h = absurd h
joined-apart k l (q ∷ qs) off h = ap (λ b. if b then record q { start = k.place; size = k.size + q.size } ∷ qs
    else plug_of k ∷ q ∷ qs) differs
  where
    split : (a b : Bool) → (a && b) ≡ false → (c d : Bool) → ((c && a) && (b && d)) ≡ false
    split true true e c d = absurd cc
    split true false e c d = and_right (c && true) (false && d) refl
    split false b e c d = and_left (c && false) (b && d) (and_right c false refl)

    differs : joins k q ≡ false
    differs = split (k.segment == q.segment) (k.generation == q.generation)
        ((λ i. (k.segment == h.0 i) && (k.generation == h.1 i)) ∙ off) (k.place + k.size == q.start)
        (beq k.pinned q.pinned)

joined-front : (k : Survivor) (p : Plug) (ps qs : List Plug) → joined k ((p ∷ ps) ++ qs) ≡ joined k (p ∷ ps) ++ qs
joined-front k p ps qs = go (joins k p)
  where
    go : (b : Bool) → (if b then record p { start = k.place; size = k.size + p.size } ∷ (ps ++ qs) else plug_of
        k ∷ p ∷ (ps ++ qs)) ≡ (if b then record p { start = k.place; size = k.size + p.size } ∷ ps else plug_of
        k ∷ p ∷ ps) ++ qs
    go true = refl
    go false = refl

-- THE PLUGS of both are those of the first ones, and those of the others
pub plugs-append : (xs ys : List Survivor) → ((k l : Survivor) → IsIn k xs → IsIn l ys → shares k l ≡ false)
    → plugs_of (xs ++ ys) ≡ plugs_of xs ++ plugs_of ys
plugs-append [] ys apart = refl
plugs-append (x ∷ []) [] apart = refl
plugs-append (x ∷ []) (y ∷ ys) apart = joined-apart x y (plugs_of (y ∷ ys)) (apart x y first first)
    (heads y (plugs_of ys))
plugs-append (x ∷ z ∷ xs) ys apart = ap (joined x) (plugs-append (z ∷ xs) ys (λ k l i j. apart k l (later i) j))
    ∙ front (plugs_of (z ∷ xs)) (heads z (plugs_of xs))
  where
    front : (ps : List Plug) → Heads z ps → joined x (ps ++ plugs_of ys) ≡ joined x ps ++ plugs_of ys
    front [] h = absurd h
    front (p ∷ ps) h = joined-front x p ps (plugs_of ys)

-- there are no more plugs than survivors
pub few-plugs : (xs : List Survivor) → length (plugs_of xs) ≤ length xs
few-plugs [] = omega arith
few-plugs (x ∷ xs) = let l = few-plugs xs in let m = joined-length x (plugs_of xs) in omega arith
  where
    joined-length : (k : Survivor) (ps : List Plug) → length (joined k ps) ≤ length ps + 1
    joined-length k [] = omega arith
    joined-length k (p ∷ ps) = go (joins k p)
      where
        go : (b : Bool) → length (if b then record p { start = k.place; size = k.size + p.size } ∷ ps else plug_of
            k ∷ p ∷ ps) ≤ length (p ∷ ps) + 1
        go true = omega arith
        go false = omega arith
