-- What it is to read a value from words, and readers made of readers.
use Rattle.std.proofs.Common.{◌≡◌, ◌∙◌, ℕ, Bool, true, false, List, [], ◌∷◌, refl, sym, ap, subst, Option, Some, None}
use Rattle.std.proofs.Common.{cond}
use Rattle.std.specs.Option.{option_map, option_and_then}
use Rattle.std.specs.Prelude.{bytes_eq, if◌then◌else◌}
use Rattle.std.proofs.lemmas.Slice.Eq.{bytes_eq-Decides}
use Rattle.clr_model.specs.Parsing.{none_in, one_in, two_in, three_in, both_in, each_in}

-- each value that is valid is read from its spelling, and nothing else is read
pub record IsReader {W A : Type 0} (read : W → Option A) (spell : A → W) (Valid : A → Type 0) : Type 0 where
  pub found : (x : A) → Valid x → read (spell x) ≡ Some x
  pub told : (w : W) (x : A) → read w ≡ Some x → (w ≡ spell x) × Valid x

-- ---- a value that comes by steps

pub record Bound {A B : Type 0} (f : A → Option B) (o : Option A) (y : B) : Type 0 where
  pub value : A
  pub was : o ≡ Some value
  pub gives : f value ≡ Some y

-- there is one
pub bound : {A B : Type 0} (f : A → Option B) (o : Option A) (y : B) → option_and_then f o ≡ Some y → Bound f o y
bound f None y e = absurd cc
bound f (Some x) y e = record { value = x; was = refl; gives = e }

pub record Mapped {A B : Type 0} (f : A → B) (o : Option A) (y : B) : Type 0 where
  pub value : A
  pub was : o ≡ Some value
  pub gives : f value ≡ y

-- there is one
pub mapped : {A B : Type 0} (f : A → B) (o : Option A) (y : B) → option_map f o ≡ Some y → Mapped f o y
mapped f None y e = absurd cc
mapped f (Some x) y e = record { value = x; was = refl; gives = cc }

-- ---- so many words

-- no word is read where there is none
pub none_told : (ws none : List (List ℕ)) → none_in ws ≡ Some none → ws ≡ []
none_told [] none e = refl
none_told (a ∷ more) none e = absurd cc

-- one word where there is one
pub one_told : (ws : List (List ℕ)) (w : List ℕ) → one_in ws ≡ Some w → ws ≡ w ∷ []
one_told [] w e = absurd cc
one_told (a ∷ []) w e = cc
one_told (a ∷ b ∷ more) w e = absurd cc

-- two where there are two
pub two_told : (ws : List (List ℕ)) (w : List ℕ × List ℕ) → two_in ws ≡ Some w → ws ≡ w.0 ∷ w.1 ∷ []
two_told [] w e = absurd cc
two_told (a ∷ []) w e = absurd cc
two_told (a ∷ b ∷ []) w e = let p : (a, b) ≡ w = cc in ap (λ (v : List ℕ × List ℕ). v.0 ∷ v.1 ∷ []) p
two_told (a ∷ b ∷ c ∷ more) w e = absurd cc

-- three where there are three
pub three_told : (ws : List (List ℕ)) (w : List ℕ × List ℕ × List ℕ) → three_in ws ≡ Some w → ws ≡ w.0 ∷ w.1 ∷ w.2 ∷ []
three_told [] w e = absurd cc
three_told (a ∷ []) w e = absurd cc
three_told (a ∷ b ∷ []) w e = absurd cc
three_told (a ∷ b ∷ c ∷ []) w e = let p : (a, b, c) ≡ w = cc in
    ap (λ (v : List ℕ × List ℕ × List ℕ). v.0 ∷ v.1 ∷ v.2 ∷ []) p
three_told (a ∷ b ∷ c ∷ d ∷ more) w e = absurd cc

-- one word, read in its way
pub one_reader : {A : Type 0} (f : List ℕ → Option A) (s : A → List ℕ) (V : A → Type 0) → IsReader f s V
    → IsReader (λ ws. option_and_then f (one_in ws)) (λ x. s x ∷ []) V
one_reader {A} f s V r = record { found = λ x v. r.found x v; told = told }
  where
    told : (ws : List (List ℕ)) (x : A) → option_and_then f (one_in ws) ≡ Some x → (ws ≡ s x ∷ []) × V x
    told ws x e =
        let b = bound f (one_in ws) x e in
        let p = r.told b.value x b.gives in
        (one_told ws b.value b.was ∙ ap (λ (w : List ℕ). w ∷ []) p.0, p.1)

-- two words
pub both_reader : (f g : List ℕ → Option ℕ) (s t : ℕ → List ℕ) (V U : ℕ → Type 0) → IsReader f s V → IsReader g t U →
    IsReader (both_in f g) (λ p. s p.0 ∷ t p.1 ∷ []) (λ p. V p.0 × U p.1)
both_reader f g s t V U r q = record { found = λ p v. rw (r.found p.0 v.0, q.found p.1 v.1) refl; told = told }
  where
    told : (ws : List (List ℕ)) (p : ℕ × ℕ) → both_in f g ws ≡ Some p → (ws ≡ s p.0 ∷ t p.1 ∷ []) × (V p.0 × U p.1)
    told ws p e =
        let b = bound (λ w. option_and_then (λ a. option_map (λ b. (a, b)) (g w.1)) (f w.0)) (two_in ws) p e in
        let c = bound (λ a. option_map (λ b. (a, b)) (g b.value.1)) (f b.value.0) p b.gives in
        let d = mapped (λ b. (c.value, b)) (g b.value.1) p c.gives in
        let first = r.told b.value.0 c.value c.was in
        let second = q.told b.value.1 d.value d.was in
        subst (λ (o : ℕ × ℕ). (ws ≡ s o.0 ∷ t o.1 ∷ []) × (V o.0 × U o.1)) d.gives
        (two_told ws b.value b.was ∙ (λ i. first.0 i ∷ second.0 i ∷ []), (first.1, second.1))

-- three words
pub each_reader : (f g h : List ℕ → Option ℕ) (s t u : ℕ → List ℕ) (V U X : ℕ → Type 0) → IsReader f s V
    → IsReader g t U → IsReader h u X →
    IsReader (each_in f g h) (λ p. s p.0 ∷ t p.1 ∷ u p.2 ∷ []) (λ p. V p.0 × U p.1 × X p.2)
each_reader f g h s t u V U X r q l =
    record { found = λ p v. rw (r.found p.0 v.0, q.found p.1 v.1, l.found p.2 v.2) refl; told = told }
  where
    told : (ws : List (List ℕ)) (p : ℕ × ℕ × ℕ) → each_in f g h ws ≡ Some p
        → (ws ≡ s p.0 ∷ t p.1 ∷ u p.2 ∷ []) × (V p.0 × U p.1 × X p.2)
    told ws p e =
        let b = bound (λ w. option_and_then (λ a. option_and_then (λ b. option_map (λ c. (a, b, c)) (h w.2)) (g w.1))
        (f w.0)) (three_in ws) p e in
        let c = bound (λ x. option_and_then (λ y. option_map (λ z. (x, y, z)) (h b.value.2)) (g b.value.1))
        (f b.value.0) p b.gives in
        let d = bound (λ y. option_map (λ z. (c.value, y, z)) (h b.value.2)) (g b.value.1) p c.gives in
        let m = mapped (λ e. (c.value, d.value, e)) (h b.value.2) p d.gives in
        let first = r.told b.value.0 c.value c.was in
        let second = q.told b.value.1 d.value d.was in
        let third = l.told b.value.2 m.value m.was in
        subst (λ (o : ℕ × ℕ × ℕ). (ws ≡ s o.0 ∷ t o.1 ∷ u o.2 ∷ []) × (V o.0 × U o.1 × X o.2)) m.gives
        (three_told ws b.value b.was ∙ (λ i. first.0 i ∷ second.0 i ∷ third.0 i ∷ []), (first.1, second.1, third.1))

-- ---- choices by a word

-- what is read here is spelled so
abbrev pub IsTold : {W A : Type 0} → (A → W) → (A → Type 0) → W → Option A → Type 0
IsTold {A = A} spell Valid w read = (x : A) → read ≡ Some x → (w ≡ spell x) × Valid x

-- where nothing is read there is nothing to tell
pub nothing_told : {W A : Type 0} (spell : A → W) (Valid : A → Type 0) (w : W) → IsTold spell Valid w None
nothing_told spell Valid w x e = absurd cc

-- a test of a word, where the word is one of a list's
pub choice_told : {W A : Type 0} (spell : A → W) (Valid : A → Type 0) (at : List ℕ → W) (w k : List ℕ) (x y : Option A)
    → IsTold spell Valid (at k) x → IsTold spell Valid (at w) y →
    IsTold spell Valid (at w) (if bytes_eq w k then x else y)
choice_told {W} {A} spell Valid at w k x y here other = go (bytes_eq w k) refl
  where
    go : (b : Bool) → bytes_eq w k ≡ b → IsTold spell Valid (at w) (cond b x y)
    go true e = let same : w ≡ k = (bytes_eq-Decides w k).0 e in
        subst (λ (v : List ℕ). IsTold spell Valid (at v) x) (sym same) here
    go false e = other

-- one value, told by one word
pub value_told : {W A : Type 0} (spell : A → W) (Valid : A → Type 0) (w : W) (x : A) → w ≡ spell x → Valid x
    → IsTold spell Valid w (Some x)
value_told {W} {A} spell Valid w x is valid y e = let same : x ≡ y = cc in
    subst (λ (v : A). (w ≡ spell v) × Valid v) same (is, valid)

-- what is made of a value that is read
pub made_told : {W V A B : Type 0} (read : W → Option A) (s : A → W) (P : A → Type 0) (r : IsReader read s P) (spell : B
    → V) (Valid : B → Type 0) (at : W → V) (make : A → B) →
    ((x : A) → P x → (at (s x) ≡ spell (make x)) × Valid (make x)) → (w : W)
    → IsTold spell Valid (at w) (option_map make (read w))
made_told {W} {V} {A} {B} read s P r spell Valid at make all w y e =
    let m = mapped make (read w) y e in
    let p = r.told w m.value m.was in
    let q = all m.value p.1 in
    subst (λ (v : B). (at w ≡ spell v) × Valid v) m.gives (ap at p.0 ∙ q.0, q.1)

-- what needs no more words
pub made_none_told : {V B : Type 0} (spell : B → V) (Valid : B → Type 0) (at : List (List ℕ) → V) (b : B)
    → at [] ≡ spell b → Valid b → (ws : List (List ℕ))
    → IsTold spell Valid (at ws) (option_map (λ none. b) (none_in ws))
made_none_told {V} {B} spell Valid at b is valid ws y e =
    let m = mapped (λ none. b) (none_in ws) y e in
    subst (λ (v : B). (at ws ≡ spell v) × Valid v) m.gives (ap at (none_told ws m.value m.was) ∙ is, valid)
