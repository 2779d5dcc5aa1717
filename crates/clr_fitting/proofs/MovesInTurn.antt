-- Moves that are made one after the other, and a plug that goes in two parts.
use Rattle.std.proofs.Common.{◌≡◌, ℕ, ◌+◌, ◌-◌, ◌<◌, ◌≤◌, ◌⊎◌, inl, inr, List, ◌∷◌, ◌++◌, refl, sym, ap, ◌∙◌, arith}
use Rattle.std.proofs.Common.{Bool, true, false, if◌then◌else◌, ◌&&◌, nat_le, nat_lt}
use Rattle.std.proofs.lemmas.Bool.{and_from, cases_Bool, cases_lt, le-leb, le-ltb, lt-leb, lt-ltb}
use Rattle.clr_types.specs.Rising.{IsIn}
use Rattle.clr_model.specs.Compaction.{Move, moved_by}
use Rattle.clr_model.specs.Fitting.{is_moved}
use Rattle.clr_model.proofs.FitCompacted.{moved-append}
use Rattle.clr_model.proofs.FitFillings.{moved-covers, unmoved-still}
use Rattle.clr_model.proofs.MovedPlaces.{moved-is}

-- moves that land below where others start can be made before them
pub in_turn : (bound : ℕ) (vs ws : List Move) → ((v : Move) → IsIn v vs → v.to + v.size ≤ bound)
    → ((w : Move) → IsIn w ws → bound ≤ w.start) → (x : ℕ) → moved_by (vs ++ ws) x ≡ moved_by ws (moved_by vs x)
in_turn bound vs ws land start x = moved-append vs ws x ∙ by (cases_Bool (is_moved vs x))
  where
    still : (y : ℕ) → y < bound → moved_by ws y ≡ y
    still y l = elim (moved-is ws y) [
      | inr (none, e) ↦ e
      | inl (w, i, (a, b), e) ↦ let from = start w i in absurd (omega arith)
    ]

    landed : is_moved vs x ≡ true → moved_by vs x < bound
    landed t = elim (moved-is vs x) [
      | inl (v, i, (a, b), e) ↦ let to = land v i in omega arith
      | inr (none, e) ↦ let (v, i, c) = moved-covers vs x t in absurd (none v i c)
    ]

    by : (is_moved vs x ≡ true) ⊎ (is_moved vs x ≡ false)
        → (if is_moved vs x then moved_by vs x else moved_by ws x) ≡ moved_by ws (moved_by vs x)
    by (inl t) = ap (λ b. if b then moved_by vs x else moved_by ws x) t ∙ sym (still (moved_by vs x) (landed t))
    by (inr t) = ap (λ b. if b then moved_by vs x else moved_by ws x) t ∙ ap (moved_by ws) (sym (unmoved-still vs x t))

-- ---- a plug in two parts

-- whether a place stands in so many bytes from a start on
abbrev covers : ℕ → ℕ → ℕ → Bool
covers start size x = nat_le start x && nat_lt x (start + size)

inside : (start size x : ℕ) → start ≤ x → x < start + size → covers start size x ≡ true
inside start size x low high =
    and_from (nat_le start x) (nat_lt x (start + size)) (le-leb start x low) (lt-ltb x (start + size) high)

below : (start size x : ℕ) → x < start → covers start size x ≡ false
below start size x l = ap (λ b. b && nat_lt x (start + size)) (lt-leb start x l)

above : (start size x : ℕ) → start + size ≤ x → covers start size x ≡ false
above start size x l = go (nat_le start x) (le-ltb x (start + size) l)
  where
    go : (b : Bool) → nat_lt x (start + size) ≡ false → (b && nat_lt x (start + size)) ≡ false
    go true e = e
    go false e = refl

-- a plug that goes as one goes where its parts do, one behind the other
pub two_parts : (start a b to : ℕ) (vs : List Move) (x : ℕ)
    → moved_by (record { start = start; size = a + b; to = to } ∷ vs) x
    ≡ moved_by (record { start = start; size = a; to = to }
    ∷ record { start = start + a; size = b; to = to + a } ∷ vs) x
two_parts start a b to vs x = by (cases_lt x start) (cases_lt x (start + a)) (cases_lt x (start + a + b))
  where
    whole : Bool → ℕ
    whole t = if t then to + (x - start) else moved_by vs x

    parts : Bool → Bool → ℕ
    parts s t = if s then to + (x - start) else (if t then to + a + (x - (start + a)) else moved_by vs x)

    by : (x < start) ⊎ (start ≤ x) → (x < start + a) ⊎ (start + a ≤ x) → (x < start + a + b) ⊎ (start + a + b ≤ x)
        → whole (covers start (a + b) x) ≡ parts (covers start a x) (covers (start + a) b x)
    by (inl l) m n =
        ap whole (below start (a + b) x l)
        ∙ sym (let s = below start a x l in let t = below (start + a) b x (omega arith) in λ i. parts (s i) (t i))
    by (inr l) (inl m) n =
        ap whole (inside start (a + b) x l (omega arith))
        ∙ sym (ap (λ s. parts s (covers (start + a) b x)) (inside start a x l m))
    by (inr l) (inr m) (inl n) =
        let same : to + (x - start) ≡ to + a + (x - (start + a)) = omega arith in
        ap whole (inside start (a + b) x l (omega arith)) ∙ same
        ∙ sym (let s = above start a x m in let t = inside (start + a) b x m n in λ i. parts (s i) (t i))
    by (inr l) (inr m) (inr n) =
        ap whole (above start (a + b) x (omega arith))
        ∙ sym (let s = above start a x m in let t = above (start + a) b x n in λ i. parts (s i) (t i))
