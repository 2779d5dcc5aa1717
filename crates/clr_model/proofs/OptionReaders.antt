-- The reader of the options of `dumpheap`.
use Rattle.std.proofs.Common.{◌≡◌, ℕ, Bool, true, false, cond, List, [], ◌∷◌, ◌++◌, append-nil, append_assoc, refl, sym}
use Rattle.std.proofs.Common.{ap, subst, Option, Some, None, IfSome, codes}
use Rattle.std.specs.Prelude.{IsTrue, bytes_eq, if◌then◌else◌}
use Rattle.std.specs.Option.{option_map, option_and_then}
use Rattle.std.proofs.lemmas.Slice.Eq.{bytes_eq-Decides}
use Rattle.clr_model.specs.declared.Mode.{Mode}
use Rattle.clr_model.specs.declared.Mode.TheVariants.{Full, Stat, Short}
use Rattle.clr_model.specs.declared.Life.{Life}
use Rattle.clr_model.specs.declared.Life.TheVariants.{Any, Live, Dead}
use Rattle.clr_model.specs.Instructions.{DumpOptions}
use Rattle.clr_model.specs.LineGrammar.{IsWord, IsOneType, AreOptions, is_name, mode_words, life_words, mt_words}
use Rattle.clr_model.specs.LineGrammar.{name_words, segment_words, size_words, slots_words, option_words}
use Rattle.clr_model.specs.Parsing.{number_in, address_in, name_in, none_in, mode_in, life_in, TypeChoice, mt_choice_in}
use Rattle.clr_model.specs.Parsing.{name_choice_in, choice_in, number_then_in, size_in, options_in, generation_in}
use Rattle.clr_model.specs.Parsing.{generation_then_in, generation_choice_in, address_then_in, segment_choice_in}
use Rattle.clr_model.specs.Parsing.{places_in, slots_in, address_after_in}
use Rattle.clr_model.proofs.Readers.{IsReader, bound, mapped, none_told}
use Rattle.clr_model.proofs.WordReaders.{number_reader, address_reader, generation_reader, name_reader}
use Rattle.clr_model.proofs.WordReaders.{no_hex_word}
use Rattle.clr_model.proofs.ArgumentReaders.{address_after_reader}
use Rattle.clr_nums.specs.Numbers.{hex16, is_hex_form}
use Rattle.std.proofs.Common.{◌≤◌}

-- ---- what the words do not begin with

-- the first word is this one
abbrev begins : List ℕ → List (List ℕ) → Bool
begins k [] = false
begins k (word ∷ ws) = bytes_eq word k

-- they do not begin so with a life in front
skip_life : (k : List ℕ) (life : Life) (ws : List (List ℕ)) → bytes_eq (codes "-live") k ≡ false
    → bytes_eq (codes "-dead") k ≡ false → begins k ws ≡ false → begins k (life_words life ++ ws) ≡ false
skip_life k Any ws a b h = h
skip_life k Live ws a b h = a
skip_life k Dead ws a b h = b

-- nor with a method table word in front
skip_mt : (k : List ℕ) (mt : Option ℕ) (ws : List (List ℕ)) → bytes_eq (codes "-mt") k ≡ false → begins k ws ≡ false
    → begins k (mt_words mt ++ ws) ≡ false
skip_mt k None ws a h = h
skip_mt k (Some mt) ws a h = a

-- nor with a name in front
skip_name : (k : List ℕ) (name : Option (List ℕ)) (ws : List (List ℕ)) → bytes_eq (codes "-type") k ≡ false
    → begins k ws ≡ false → begins k (name_words name ++ ws) ≡ false
skip_name k None ws a h = h
skip_name k (Some name) ws a h = a

-- nor with a size in front
skip_size : (k option : List ℕ) (n : Option ℕ) (ws : List (List ℕ)) → bytes_eq option k ≡ false → begins k ws ≡ false
    → begins k (size_words option n ++ ws) ≡ false
skip_size k option None ws a h = h
skip_size k option (Some n) ws a h = a

-- nor with a segment alone
skip_segment : (k : List ℕ) (base : Option ℕ) → bytes_eq (codes "-segment") k ≡ false
    → begins k (segment_words base) ≡ false
skip_segment k None a = refl
skip_segment k (Some base) a = a

-- ---- each option, and the words behind it

-- a mode is read, and the words behind it are left
mode_found : (mode : Mode) (ws : List (List ℕ)) → begins (codes "-stat") ws ≡ false → begins (codes "-short") ws ≡ false
    → mode_in (mode_words mode ++ ws) ≡ (mode, ws)
unfolding mode_in
mode_found Full [] a b = refl
mode_found Full (word ∷ ws) a b = rw (a, b) refl
mode_found Stat ws a b = refl
mode_found Short ws a b = refl

-- so is a life
life_found : (life : Life) (ws : List (List ℕ)) → begins (codes "-live") ws ≡ false → begins (codes "-dead") ws ≡ false
    → life_in (life_words life ++ ws) ≡ (life, ws)
unfolding life_in
life_found Any [] a b = refl
life_found Any (word ∷ ws) a b = rw (a, b) refl
life_found Live ws a b = refl
life_found Dead ws a b = refl

-- and a type
choice_found : (mt : Option ℕ) (name : Option (List ℕ)) (ws : List (List ℕ)) → IfSome mt IsWord
    → IfSome name (λ n. IsTrue (is_name n)) → IsOneType mt name
    → begins (codes "-mt") ws ≡ false → begins (codes "-type") ws ≡ false
    → choice_in (mt_words mt ++ (name_words name ++ ws)) ≡ Some (record { mt = mt; name = name }, ws)
unfolding choice_in
choice_found None None [] m n one a b = refl
choice_found None None (word ∷ ws) m n one a b = rw (a, b) refl
choice_found None (Some name) ws m n one a b = rw (name_reader.found name n) refl
choice_found (Some mt) None ws m n one a b = rw (address_reader.found mt m) refl
choice_found (Some mt) (Some name) ws m n one a b = absurd one

-- and a size
size_found : (option : List ℕ) (n : Option ℕ) (ws : List (List ℕ)) → IfSome n IsWord → begins option ws ≡ false
    → size_in option (size_words option n ++ ws) ≡ Some (n, ws)
unfolding size_in
size_found option None [] v a = refl
size_found option None (word ∷ ws) v a = rw a refl
size_found option (Some n) ws v a = rw ((bytes_eq-Decides option option).1 refl, number_reader.found n v) refl

-- and a generation
generation_found : (g : Option ℕ) (ws : List (List ℕ)) → IfSome g (λ n. n ≤ 2) → begins (codes "-gen") ws ≡ false
    → generation_choice_in (size_words (codes "-gen") g ++ ws) ≡ Some (g, ws)
unfolding generation_choice_in
generation_found None [] v a = refl
generation_found None (word ∷ ws) v a = rw a refl
generation_found (Some g) ws v a = rw (generation_reader.found g v) refl

-- and a segment, behind which nothing stands
segment_found : (base : Option ℕ) → IfSome base IsWord → segment_choice_in (segment_words base) ≡ Some (base, [])
unfolding segment_choice_in
segment_found None v = refl
segment_found (Some base) v = rw (address_reader.found base v) refl

-- both of them
places_found : (g base : Option ℕ) → IfSome g (λ n. n ≤ 2) → IfSome base IsWord
    → places_in (size_words (codes "-gen") g ++ segment_words base) ≡ Some (g, base)
unfolding places_in
places_found g base v w =
    let first = generation_found g (segment_words base) v (skip_segment (codes "-gen") base refl) in
    let second = segment_found base w in
    rw (first, second) refl

-- ---- and what was there, if it is read

-- what was taken from the front, and what is left
abbrev Splits : {A : Type 0} → (A → List (List ℕ)) → List (List ℕ) → A × List (List ℕ) → Type 0
Splits spell ws p = ws ≡ spell p.0 ++ p.1

-- a test of the first word
split_choice : {A : Type 0} (spell : A → List (List ℕ)) (word k : List ℕ) (ws : List (List ℕ)) (x y : A × List (List ℕ))
    → Splits spell (k ∷ ws) x → Splits spell (word ∷ ws) y →
    Splits spell (word ∷ ws) (if bytes_eq word k then x else y)
split_choice {A} spell word k ws x y here other = go (bytes_eq word k) refl
  where
    go : (b : Bool) → bytes_eq word k ≡ b → Splits spell (word ∷ ws) (cond b x y)
    go true e = let same : word ≡ k = (bytes_eq-Decides word k).0 e in
        subst (λ (v : List ℕ). Splits spell (v ∷ ws) x) (sym same) here
    go false e = other

-- a mode that is read stood in front
mode_told : (ws : List (List ℕ)) → Splits mode_words ws (mode_in ws)
unfolding mode_in
mode_told [] = refl
mode_told (word ∷ ws) = split_choice mode_words word (codes "-stat") ws _ _ refl
    (split_choice mode_words word (codes "-short") ws (Short, ws) (Full, word ∷ ws) refl refl)

-- so did a life
life_told : (ws : List (List ℕ)) → Splits life_words ws (life_in ws)
unfolding life_in
life_told [] = refl
life_told (word ∷ ws) = split_choice life_words word (codes "-live") ws _ _ refl
    (split_choice life_words word (codes "-dead") ws (Dead, ws) (Any, word ∷ ws) refl refl)

-- the words of a choice
abbrev choice_words : TypeChoice → List (List ℕ)
choice_words c = mt_words c.mt ++ name_words c.name

-- a choice that may be written
abbrev IsChoice : TypeChoice → Type 0
IsChoice c = IfSome c.mt IsWord × IfSome c.name (λ n. IsTrue (is_name n)) × IsOneType c.mt c.name

-- what was taken is valid, and its words stood in front
abbrev Takes : {A : Type 0} → (A → List (List ℕ)) → (A → Type 0) → List (List ℕ) → Option (A × List (List ℕ)) → Type 0
Takes {A} spell Valid ws o = (p : A × List (List ℕ)) → o ≡ Some p → Splits spell ws p × Valid p.0

-- a test of the first word
take_choice : {A : Type 0} (spell : A → List (List ℕ)) (Valid : A
    → Type 0) (word k : List ℕ) (ws : List (List ℕ)) (x y : Option (A × List (List ℕ))) →
    Takes spell Valid (k ∷ ws) x → Takes spell Valid (word ∷ ws) y
    → Takes spell Valid (word ∷ ws) (if bytes_eq word k then x else y)
take_choice {A} spell Valid word k ws x y here other = go (bytes_eq word k) refl
  where
    go : (b : Bool) → bytes_eq word k ≡ b → Takes spell Valid (word ∷ ws) (cond b x y)
    go true e = let same : word ≡ k = (bytes_eq-Decides word k).0 e in
        subst (λ (v : List ℕ). Takes spell Valid (v ∷ ws) x) (sym same) here
    go false e = other

-- what is taken at once
take_value : {A : Type 0} (spell : A → List (List ℕ)) (Valid : A → Type 0) (ws : List (List ℕ)) (q : A × List (List ℕ))
    → Splits spell ws q → Valid q.0 → Takes spell Valid ws (Some q)
take_value {A} spell Valid ws q is valid p e = let same : q ≡ p = cc in
    subst (λ (o : A × List (List ℕ)). Splits spell ws o × Valid o.0) same (is, valid)

-- a method table word stood behind `-mt`
mt_told : (ws : List (List ℕ)) → Takes choice_words IsChoice (codes "-mt" ∷ ws) (mt_choice_in ws)
mt_told [] p e = absurd cc
mt_told (word ∷ ws) p e =
    let m = mapped (λ a. (record { mt = Some a; name = None }, ws)) (address_in word) p e in
    let r = address_reader.told word m.value m.was in
    subst (λ (o : TypeChoice × List (List ℕ)). Splits choice_words (codes "-mt" ∷ word ∷ ws) o × IsChoice o.0) m.gives
    (ap (λ (w : List ℕ). codes "-mt" ∷ w ∷ ws) r.0, (r.1, tt, tt))

-- a name stood behind `-type`
name_told : (ws : List (List ℕ)) → Takes choice_words IsChoice (codes "-type" ∷ ws) (name_choice_in ws)
name_told [] p e = absurd cc
name_told (word ∷ ws) p e =
    let m = mapped (λ name. (record { mt = None; name = Some name }, ws)) (name_in word) p e in
    let r = name_reader.told word m.value m.was in
    subst (λ (o : TypeChoice × List (List ℕ)). Splits choice_words (codes "-type" ∷ word ∷ ws) o × IsChoice o.0) m.gives
    (ap (λ (w : List ℕ). codes "-type" ∷ w ∷ ws) r.0, (tt, r.1, tt))

-- a choice that is read stood in front
choice_told : (ws : List (List ℕ)) → Takes choice_words IsChoice ws (choice_in ws)
unfolding choice_in
choice_told [] = take_value choice_words IsChoice [] (record { mt = None; name = None }, []) refl (tt, tt, tt)
choice_told (word ∷ ws) =
    take_choice choice_words IsChoice word (codes "-mt") ws _ _ (mt_told ws)
    (take_choice choice_words IsChoice word (codes "-type") ws _ _ (name_told ws)
    (take_value choice_words IsChoice (word ∷ ws) (record { mt = None; name = None }, word ∷ ws) refl (tt, tt, tt)))

-- a size that may be written
abbrev IsSize : Option ℕ → Type 0
IsSize n = IfSome n IsWord

-- a number stood behind its option
number_then_told : (option : List ℕ) (ws : List (List ℕ))
    → Takes (size_words option) IsSize (option ∷ ws) (number_then_in ws)
number_then_told option [] p e = absurd cc
number_then_told option (word ∷ ws) p e =
    let m = mapped (λ n. (Some n, ws)) (number_in word) p e in
    let r = number_reader.told word m.value m.was in
    subst (λ (o : Option ℕ × List (List ℕ)). Splits (size_words option) (option ∷ word ∷ ws) o × IsSize o.0) m.gives
    (ap (λ (w : List ℕ). option ∷ w ∷ ws) r.0, r.1)

-- a size that is read stood in front
size_told : (option : List ℕ) (ws : List (List ℕ)) → Takes (size_words option) IsSize ws (size_in option ws)
unfolding size_in
size_told option [] = take_value (size_words option) IsSize [] (None, []) refl tt
size_told option (word ∷ ws) =
    take_choice (size_words option) IsSize word option ws _ _ (number_then_told option ws)
    (take_value (size_words option) IsSize (word ∷ ws) (None, word ∷ ws) refl tt)

-- a generation that may be written
abbrev IsGeneration : Option ℕ → Type 0
IsGeneration g = IfSome g (λ n. n ≤ 2)

-- a generation stood behind `-gen`
generation_then_told : (ws : List (List ℕ))
    → Takes (size_words (codes "-gen")) IsGeneration (codes "-gen" ∷ ws) (generation_then_in ws)
generation_then_told [] p e = absurd cc
generation_then_told (word ∷ ws) p e =
    let m = mapped (λ g. (Some g, ws)) (generation_in word) p e in
    let r = generation_reader.told word m.value m.was in
    subst (λ (o : Option ℕ × List (List ℕ)). Splits (size_words (codes "-gen")) (codes "-gen" ∷ word ∷ ws) o
    × IsGeneration o.0) m.gives (ap (λ (w : List ℕ). codes "-gen" ∷ w ∷ ws) r.0, r.1)

-- a generation that is read stood in front
generation_told : (ws : List (List ℕ)) → Takes (size_words (codes "-gen")) IsGeneration ws (generation_choice_in ws)
unfolding generation_choice_in
generation_told [] = take_value (size_words (codes "-gen")) IsGeneration [] (None, []) refl tt
generation_told (word ∷ ws) =
    take_choice (size_words (codes "-gen")) IsGeneration word (codes "-gen") ws _ _ (generation_then_told ws)
    (take_value (size_words (codes "-gen")) IsGeneration (word ∷ ws) (None, word ∷ ws) refl tt)

-- an address stood behind `-segment`
address_then_told : (ws : List (List ℕ)) → Takes segment_words IsSize (codes "-segment" ∷ ws) (address_then_in ws)
address_then_told [] p e = absurd cc
address_then_told (word ∷ ws) p e =
    let m = mapped (λ a. (Some a, ws)) (address_in word) p e in
    let r = address_reader.told word m.value m.was in
    subst (λ (o : Option ℕ × List (List ℕ)). Splits segment_words (codes "-segment" ∷ word ∷ ws) o × IsSize o.0)
    m.gives (ap (λ (w : List ℕ). codes "-segment" ∷ w ∷ ws) r.0, r.1)

-- a segment that is read stood in front
segment_told : (ws : List (List ℕ)) → Takes segment_words IsSize ws (segment_choice_in ws)
unfolding segment_choice_in
segment_told [] = take_value segment_words IsSize [] (None, []) refl tt
segment_told (word ∷ ws) =
    take_choice segment_words IsSize word (codes "-segment") ws _ _ (address_then_told ws)
    (take_value segment_words IsSize (word ∷ ws) (None, word ∷ ws) refl tt)

-- parts of words put together
joined_parts : (a b ws v w : List (List ℕ)) → ws ≡ a ++ v → v ≡ b ++ w → w ≡ [] → ws ≡ a ++ b
joined_parts a b ws v w g h i = rw (g, h, i, append-nil) refl

-- both are spelled so
places_told : (ws : List (List ℕ)) (p : Option ℕ × Option ℕ) → places_in ws ≡ Some p
    → (ws ≡ size_words (codes "-gen") p.0 ++ segment_words p.1) × IsGeneration p.0 × IsSize p.1
unfolding places_in
places_told ws p e =
    let g = bound (λ g. option_and_then (λ s. option_map (λ none. (g.0, s.0)) (none_in s.1)) (segment_choice_in g.1))
    (generation_choice_in ws) p e in
    let s = bound (λ s. option_map (λ none. (g.value.0, s.0)) (none_in s.1)) (segment_choice_in g.value.1) p g.gives in
    let m = mapped (λ none. (g.value.0, s.value.0)) (none_in s.value.1) p s.gives in
    let first = generation_told ws g.value g.was in
    let second = segment_told g.value.1 s.value s.was in
    subst (λ (q : Option ℕ × Option ℕ). (ws ≡ size_words (codes "-gen") q.0 ++ segment_words q.1)
    × IsGeneration q.0 × IsSize q.1) m.gives (
      joined_parts (size_words (codes "-gen") g.value.0) (segment_words s.value.0) ws _ _ first.0 second.0
          (none_told s.value.1 m.value m.was),
      first.1,
      second.1,
    )

-- ---- all options

-- the words of all options from the right
grouped : (a b c d e f g h : List (List ℕ))
    → ((((((a ++ b) ++ c) ++ d) ++ e) ++ f) ++ g) ++ h ≡ a ++ (b ++ (c ++ (d ++ (e ++ (f ++ (g ++ h))))))
grouped a b c d e f g h = simp append_assoc

-- and from the left
ungrouped : (a b c d e f g h ws v w x y z : List (List ℕ)) → ws ≡ a ++ v → v ≡ b ++ w → w ≡ (c ++ d) ++ x → x ≡ e ++ y
    → y ≡ f ++ z → z ≡ g ++ h → ws ≡ ((((((a ++ b) ++ c) ++ d) ++ e) ++ f) ++ g) ++ h
ungrouped a b c d e f g h ws v w x y z p q r s t u = rw (p, q, r, s, t, u) (simp append_assoc)

-- the options of these parts
abbrev made_of : Mode → Life → TypeChoice → Option ℕ → Option ℕ → Option ℕ × Option ℕ → DumpOptions
made_of mode life c least greatest places = record {
  mode = mode;
  life = life;
  mt = c.mt;
  name = c.name;
  least = least;
  greatest = greatest;
  generation = places.0;
  segment = places.1;
}

-- options that are read are spelled so
options_told : (ws : List (List ℕ)) (o : DumpOptions) → options_in ws ≡ Some o → (ws ≡ option_words o) × AreOptions o
unfolding options_in
options_told ws o e =
    let mode = (mode_in ws).0 in
    let life = (life_in (mode_in ws).1).0 in
    let c = bound (λ c. option_and_then
    (λ l. option_and_then (λ g. option_map (λ p. made_of mode life c.0 l.0 g.0 p) (places_in g.1))
    (size_in (codes "-max") l.1)) (size_in (codes "-min") c.1)) (choice_in (life_in (mode_in ws).1).1) o e in
    let l = bound (λ l. option_and_then (λ g. option_map (λ p. made_of mode life c.value.0 l.0 g.0 p) (places_in g.1))
    (size_in (codes "-max") l.1)) (size_in (codes "-min") c.value.1) o c.gives in
    let g = bound (λ g. option_map (λ p. made_of mode life c.value.0 l.value.0 g.0 p) (places_in g.1))
    (size_in (codes "-max") l.value.1) o l.gives in
    let m = mapped (λ p. made_of mode life c.value.0 l.value.0 g.value.0 p) (places_in g.value.1) o g.gives in
    let choice = choice_told (life_in (mode_in ws).1).1 c.value c.was in
    let least = size_told (codes "-min") c.value.1 l.value l.was in
    let greatest = size_told (codes "-max") l.value.1 g.value g.was in
    let places = places_told g.value.1 m.value m.was in
    subst (λ (p : DumpOptions). (ws ≡ option_words p) × AreOptions p) m.gives (
      ungrouped (mode_words mode) (life_words life) (mt_words c.value.0.mt) (name_words c.value.0.name)
          (size_words (codes "-min") l.value.0) (size_words (codes "-max") g.value.0)
          (size_words (codes "-gen") m.value.0) (segment_words m.value.1) ws _ _ _ _ _
          (mode_told ws) (life_told (mode_in ws).1) choice.0 least.0 greatest.0 places.0,
      record {
        mt = choice.1.0;
        name = choice.1.1;
        one_type = choice.1.2;
        least = least.1;
        greatest = greatest.1;
        generation = places.1;
        segment = places.2;
      },
    )

-- and all are read
options_found : (o : DumpOptions) → AreOptions o → options_in (option_words o) ≡ Some o
unfolding options_in
options_found o v =
    let places = size_words (codes "-gen") o.generation ++ segment_words o.segment in
    let greatest = size_words (codes "-max") o.greatest ++ places in
    let sizes = size_words (codes "-min") o.least ++ greatest in
    let typed = mt_words o.mt ++ (name_words o.name ++ sizes) in
    let lived = life_words o.life ++ typed in
    let whole : option_words o ≡ mode_words o.mode ++ lived =
    grouped (mode_words o.mode) (life_words o.life) (mt_words o.mt) (name_words o.name)
    (size_words (codes "-min") o.least) (size_words (codes "-max") o.greatest) (size_words (codes "-gen") o.generation)
    (segment_words o.segment) in
    let past_places = λ (k : List ℕ) (a : bytes_eq (codes "-gen") k ≡ false) (b : bytes_eq (codes "-segment") k ≡ false).
    skip_size k (codes "-gen") o.generation (segment_words o.segment) a (skip_segment k o.segment b) in
    let past_greatest = λ (k : List ℕ) (a : bytes_eq (codes "-max") k ≡ false) (h : begins k places ≡ false).
    skip_size k (codes "-max") o.greatest places a h in
    let past_sizes = λ (k : List ℕ) (a : bytes_eq (codes "-min") k ≡ false) (b : bytes_eq (codes "-max") k ≡ false)
    (h : begins k places ≡ false). skip_size k (codes "-min") o.least greatest a (past_greatest k b h) in
    let past_types = λ (k : List ℕ) (a : bytes_eq (codes "-mt") k ≡ false) (b : bytes_eq (codes "-type") k ≡ false)
    (h : begins k sizes ≡ false). skip_mt k o.mt (name_words o.name ++ sizes) a (skip_name k o.name sizes b h) in
    let after_mode = mode_found o.mode lived
    (skip_life (codes "-stat") o.life typed refl refl
    (past_types (codes "-stat") refl refl
    (past_sizes (codes "-stat") refl refl (past_places (codes "-stat") refl refl))))
    (skip_life (codes "-short") o.life typed refl refl
    (past_types (codes "-short") refl refl
    (past_sizes (codes "-short") refl refl (past_places (codes "-short") refl refl)))) in
    let after_life = life_found o.life typed
    (past_types (codes "-live") refl refl
    (past_sizes (codes "-live") refl refl (past_places (codes "-live") refl refl)))
    (past_types (codes "-dead") refl refl
    (past_sizes (codes "-dead") refl refl (past_places (codes "-dead") refl refl))) in
    let after_choice = choice_found o.mt o.name sizes v.mt v.name v.one_type
    (past_sizes (codes "-mt") refl refl (past_places (codes "-mt") refl refl))
    (past_sizes (codes "-type") refl refl (past_places (codes "-type") refl refl)) in
    let after_least = size_found (codes "-min") o.least greatest v.least
    (past_greatest (codes "-min") refl (past_places (codes "-min") refl refl)) in
    let after_greatest = size_found (codes "-max") o.greatest places v.greatest (past_places (codes "-max") refl refl) in
    let after_places = places_found o.generation o.segment v.generation v.segment in
    rw (whole, after_mode, after_life, after_choice, after_least, after_greatest, after_places) refl

-- the options of `dumpheap`
pub options_reader : IsReader options_in option_words AreOptions
options_reader = record { found = options_found; told = options_told }

-- ---- the slots of an object

-- slots that may be written
abbrev AreSlots : Option ℕ × Option ℕ × ℕ → Type 0
AreSlots s = IsSize s.0 × IsSize s.1 × IsWord s.2

-- three parts of words put together
joined_three : (a b c ws v w : List (List ℕ)) → ws ≡ a ++ v → v ≡ b ++ w → w ≡ c → ws ≡ a ++ (b ++ c)
joined_three a b c ws v w g h i = rw (g, h, i) refl

-- what is read is spelled so
slots_told : (ws : List (List ℕ)) (p : Option ℕ × Option ℕ × ℕ) → slots_in ws ≡ Some p
    → (ws ≡ slots_words p) × AreSlots p
unfolding slots_in
slots_told ws p e =
    let s = bound (λ s. option_and_then (λ n. option_map (λ a. (s.0, n.0, a)) (address_after_in n.1))
    (size_in (codes "-length") s.1)) (size_in (codes "-start") ws) p e in
    let n = bound (λ n. option_map (λ a. (s.value.0, n.0, a)) (address_after_in n.1)) (size_in (codes "-length") s.value.1)
    p s.gives in
    let m = mapped (λ a. (s.value.0, n.value.0, a)) (address_after_in n.value.1) p n.gives in
    let first = size_told (codes "-start") ws s.value s.was in
    let second = size_told (codes "-length") s.value.1 n.value n.was in
    let third = address_after_reader.told n.value.1 m.value m.was in
    subst (λ (q : Option ℕ × Option ℕ × ℕ). (ws ≡ slots_words q) × AreSlots q) m.gives (
      joined_three (size_words (codes "-start") s.value.0) (size_words (codes "-length") n.value.0)
          (hex16 m.value ∷ []) ws _ _ first.0 second.0 third.0,
      (first.1, second.1, third.1),
    )

-- and all are read
slots_found : (p : Option ℕ × Option ℕ × ℕ) → AreSlots p → slots_in (slots_words p) ≡ Some p
unfolding slots_in
slots_found (start, count, a) (v, w, x) =
    let last = hex16 a ∷ [] in
    let first = size_found (codes "-start") start (size_words (codes "-length") count ++ last) v
    (skip_size (codes "-start") (codes "-length") count last refl (no_hex_word a (codes "-start") refl)) in
    let second = size_found (codes "-length") count last w (no_hex_word a (codes "-length") refl) in
    let third = address_after_reader.found a x in
    rw (first, second, third) refl

-- which slots of an object
pub slots_reader : IsReader slots_in slots_words AreSlots
slots_reader = record { found = slots_found; told = slots_told }
