-- The readers of what stands behind a verb.
use Rattle.std.proofs.Common.{◌≡◌, ℕ, Bool, true, false, List, [], ◌∷◌, refl, ap, subst, Option, Some, None, IfSome}
use Rattle.std.proofs.Common.{decimal, codes, ◌≤◌, ◌==◌, arith}
use Rattle.std.specs.Prelude.{IsTrue, if◌then◌else◌}
use Rattle.std.specs.Option.{option_map, option_and_then}
use Rattle.clr_nums.specs.Numbers.{hex16}
use Rattle.clr_types.specs.declared.handle.Kind.{Kind}
use Rattle.clr_types.specs.declared.handle.Kind.TheVariants.{Strong, Pinned, Weak, WeakLong, Dependent}
use Rattle.clr_model.specs.declared.How.{How}
use Rattle.clr_model.specs.declared.How.TheVariants.{Decide, Compact, Sweep, Fit}
use Rattle.clr_model.specs.LineGrammar.{IsWord, IsHandleForm, is_name, local_word, handle_word, number_words}
use Rattle.clr_model.specs.LineGrammar.{local_words, how_words, final_words, IsHowForm}
use Rattle.clr_model.specs.Parsing.{number_in, local_in, name_in, none_in, one_local_in, one_handle_in, locals_in}
use Rattle.clr_model.specs.Parsing.{local_and_number_in, local_and_handle_in, load_in, store_in, number_store_in}
use Rattle.clr_model.specs.Parsing.{length_in, birth_in, how_in, second_in, final_in, address_after_in, one_number_in}
use Rattle.clr_model.proofs.Readers.{IsReader, bound, mapped, none_told, one_reader, both_reader, each_reader}
use Rattle.clr_model.proofs.Readers.{IsTold, nothing_told, choice_told, value_told}
use Rattle.std.proofs.lemmas.Bool.{eq-eqb, eqb-true}
use Rattle.clr_model.proofs.WordReaders.{number_reader, address_reader, local_reader, handle_reader, name_reader}
use Rattle.clr_model.proofs.WordReaders.{kind_reader}
use Rattle.clr_model.specs.LineGrammar.{unrooted_words}
use Rattle.clr_model.specs.ReplyText.{kind_word}
use Rattle.clr_model.specs.Parsing.{addresses_in, one_kind_in, unrooted_in}

-- a local alone
pub one_local_reader : IsReader one_local_in (λ k. local_word k ∷ []) IsWord
unfolding one_local_in
one_local_reader = let r = one_reader _ _ _ local_reader in record { found = r.found; told = r.told }

-- a handle alone
pub one_handle_reader : IsReader one_handle_in (λ h. handle_word h ∷ []) IsWord
unfolding one_handle_in
one_handle_reader = let r = one_reader _ _ _ handle_reader in record { found = r.found; told = r.told }

-- a number alone
pub one_number_reader : IsReader one_number_in (λ n. decimal n ∷ []) IsWord
unfolding one_number_in
one_number_reader = let r = one_reader _ _ _ number_reader in record { found = r.found; told = r.told }

-- an address alone
pub address_after_reader : IsReader address_after_in (λ a. hex16 a ∷ []) IsWord
unfolding address_after_in
address_after_reader = let r = one_reader _ _ _ address_reader in record { found = r.found; told = r.told }

-- a kind alone
pub one_kind_reader : IsReader one_kind_in (λ kind. kind_word kind ∷ []) (λ kind. Unit {0})
unfolding one_kind_in
one_kind_reader = let r = one_reader _ _ _ kind_reader in record { found = r.found; told = r.told }

-- two addresses
pub addresses_reader : IsReader addresses_in (λ p. hex16 p.0 ∷ hex16 p.1 ∷ []) (λ p. IsWord p.0 × IsWord p.1)
unfolding addresses_in
addresses_reader = let r = both_reader _ _ _ _ _ _ address_reader address_reader in
    record { found = r.found; told = r.told }

-- two locals
pub locals_reader : IsReader locals_in (λ p. local_word p.0 ∷ local_word p.1 ∷ []) (λ p. IsWord p.0 × IsWord p.1)
unfolding locals_in
locals_reader = let r = both_reader _ _ _ _ _ _ local_reader local_reader in record { found = r.found; told = r.told }

-- a local and a number
pub local_and_number_reader : IsReader local_and_number_in (λ p. local_word p.0 ∷ decimal p.1 ∷ [])
    (λ p. IsWord p.0 × IsWord p.1)
unfolding local_and_number_in
local_and_number_reader = let r = both_reader _ _ _ _ _ _ local_reader number_reader in
    record { found = r.found; told = r.told }

-- a local and a handle
pub local_and_handle_reader : IsReader local_and_handle_in (λ p. local_word p.0 ∷ handle_word p.1 ∷ [])
    (λ p. IsWord p.0 × IsWord p.1)
unfolding local_and_handle_in
local_and_handle_reader = let r = both_reader _ _ _ _ _ _ local_reader handle_reader in
    record { found = r.found; told = r.told }

-- two locals and a number
pub load_reader : IsReader load_in (λ p. local_word p.0 ∷ local_word p.1 ∷ decimal p.2 ∷ [])
    (λ p. IsWord p.0 × IsWord p.1 × IsWord p.2)
unfolding load_in
load_reader = let r = each_reader _ _ _ _ _ _ _ _ _ local_reader local_reader number_reader in
    record { found = r.found; told = r.told }

-- a local, a number and a local
pub store_reader : IsReader store_in (λ p. local_word p.0 ∷ decimal p.1 ∷ local_word p.2 ∷ [])
    (λ p. IsWord p.0 × IsWord p.1 × IsWord p.2)
unfolding store_in
store_reader = let r = each_reader _ _ _ _ _ _ _ _ _ local_reader number_reader local_reader in
    record { found = r.found; told = r.told }

-- a local and two numbers
pub number_store_reader : IsReader number_store_in (λ p. local_word p.0 ∷ decimal p.1 ∷ decimal p.2 ∷ [])
    (λ p. IsWord p.0 × IsWord p.1 × IsWord p.2)
unfolding number_store_in
number_store_reader = let r = each_reader _ _ _ _ _ _ _ _ _ local_reader number_reader number_reader in
    record { found = r.found; told = r.told }

-- ---- births

-- a length that is read is spelled so
length_told : (ws : List (List ℕ)) (len : Option ℕ) → length_in ws ≡ Some len
    → (ws ≡ number_words len) × IfSome len IsWord
unfolding length_in
length_told [] len e = value_told number_words (λ o. IfSome o IsWord) [] None refl tt len e
length_told (word ∷ []) len e =
    let m = mapped Some (number_in word) len e in
    let p = number_reader.told word m.value m.was in
    subst (λ (o : Option ℕ). (word ∷ [] ≡ number_words o) × IfSome o IsWord) m.gives
    (ap (λ (w : List ℕ). w ∷ []) p.0, p.1)
length_told (word ∷ other ∷ more) len e = absurd cc

-- and each is read
length_found : (len : Option ℕ) → IfSome len IsWord → length_in (number_words len) ≡ Some len
unfolding length_in
length_found None h = refl
length_found (Some n) h = rw (number_reader.found n h) refl

-- a length, if one is written
pub length_reader : IsReader length_in number_words (λ len. IfSome len IsWord)
length_reader = record { found = length_found; told = length_told }

-- the words of a birth
abbrev BirthWords : ℕ × List ℕ × Option ℕ → List (List ℕ)
BirthWords b = local_word b.0 ∷ b.1 ∷ number_words b.2

-- a birth that may be written
abbrev IsBirth : ℕ × List ℕ × Option ℕ → Type 0
IsBirth b = IsWord b.0 × IsTrue (is_name b.1) × IfSome b.2 IsWord

-- a birth that is read is spelled so
birth_told : (ws : List (List ℕ)) (b : ℕ × List ℕ × Option ℕ) → birth_in ws ≡ Some b → (ws ≡ BirthWords b) × IsBirth b
unfolding birth_in
birth_told [] b e = absurd cc
birth_told (x ∷ []) b e = absurd cc
birth_told (x ∷ y ∷ more) b e =
    let l = bound (λ local. option_and_then (λ name. option_map (λ len. (local, name, len)) (length_in more))
    (name_in y)) (local_in x) b e in
    let n = bound (λ name. option_map (λ len. (l.value, name, len)) (length_in more)) (name_in y) b l.gives in
    let m = mapped (λ len. (l.value, n.value, len)) (length_in more) b n.gives in
    let p = local_reader.told x l.value l.was in
    let q = name_reader.told y n.value n.was in
    let r = length_told more m.value m.was in
    subst (λ (o : ℕ × List ℕ × Option ℕ). (x ∷ y ∷ more ≡ BirthWords o) × IsBirth o) m.gives
    ((λ i. p.0 i ∷ q.0 i ∷ r.0 i), (p.1, q.1, r.1))

-- and each is read
birth_found : (b : ℕ × List ℕ × Option ℕ) → IsBirth b → birth_in (BirthWords b) ≡ Some b
unfolding birth_in
birth_found b v = rw (local_reader.found b.0 v.0, name_reader.found b.1 v.1, length_found b.2 v.2) refl

-- a local, a name, and a length if one is written
pub birth_reader : IsReader birth_in (λ b. local_word b.0 ∷ b.1 ∷ number_words b.2)
    (λ b. IsWord b.0 × IsTrue (is_name b.1) × IfSome b.2 IsWord)
birth_reader = record { found = birth_found; told = birth_told }

-- ---- how to collect

-- a way to collect that is read is spelled so
how_told : (g : ℕ) → g ≤ 2 → (ws : List (List ℕ)) (how : How) → how_in g ws ≡ Some how
    → (ws ≡ how_words how) × IsHowForm g how
unfolding how_in
how_told g least [] how e = value_told how_words (IsHowForm g) [] Decide refl least how e
how_told g least (word ∷ []) how e =
    choice_told how_words (IsHowForm g) (λ w. w ∷ []) word (codes "compacting") _ _
    (value_told how_words (IsHowForm g) _ Compact refl least)
    (choice_told how_words (IsHowForm g) (λ w. w ∷ []) word (codes "sweeping") _ _
    (value_told how_words (IsHowForm g) _ Sweep refl least)
    (choice_told how_words (IsHowForm g) (λ w. w ∷ []) word (codes "fitting") _ _ (fit (g == 1) refl)
    (nothing_told _ _ _))) how e
  where
    fit : (b : Bool) → (g == 1) ≡ b
        → IsTold how_words (IsHowForm g) (codes "fitting" ∷ []) (if b then Some Fit else None)
    fit true one = value_told how_words (IsHowForm g) _ Fit refl (eqb-true g 1 one)
    fit false other = nothing_told _ _ _
how_told g least (word ∷ other ∷ more) how e = absurd cc

-- and each is read
how_found : (g : ℕ) (how : How) → IsHowForm g how → how_in g (how_words how) ≡ Some how
unfolding how_in
how_found g Decide h = refl
how_found g Compact h = refl
how_found g Sweep h = refl
how_found g Fit h = ap (λ b. if b then Some Fit else None) (eq-eqb g 1 h)

-- how to collect a generation
pub how_reader : (g : ℕ) → g ≤ 2 → IsReader (how_in g) how_words (IsHowForm g)
how_reader g least = record { found = how_found g; told = how_told g least }

-- which is 0, 1 or 2
pub how_least : (g : ℕ) (how : How) → IsHowForm g how → g ≤ 2
how_least g Decide h = h
how_least g Compact h = h
how_least g Sweep h = h
how_least g Fit h = omega (arith, h)

-- ---- the second local of a handle

-- no second local is read where no word is left
no_second_told : (ws : List (List ℕ)) (second : Option ℕ)
    → option_map {T = List (List ℕ)} (λ none. None) (none_in ws) ≡ Some second
    → (ws ≡ local_words second) × (second ≡ None)
no_second_told ws second e =
    let m = mapped {A = List (List ℕ)} (λ none. None) (none_in ws) second e in
    subst (λ (o : Option ℕ). (ws ≡ local_words o) × (o ≡ None)) m.gives (none_told ws m.value m.was, refl)

-- and that is read
no_second_found : (second : Option ℕ) → second ≡ None
    → option_map {T = List (List ℕ)} (λ none. None) (none_in (local_words second)) ≡ Some second
no_second_found None h = refl
no_second_found (Some k) h = absurd cc

-- a second local that is read is spelled so, and the kind has it
second_told : (kind : Kind) (ws : List (List ℕ)) (second : Option ℕ) → second_in kind ws ≡ Some second
    → (ws ≡ local_words second) × IsHandleForm kind second
unfolding second_in
second_told Dependent ws second e =
    let m = mapped Some (one_local_in ws) second e in
    let p = one_local_reader.told ws m.value m.was in
    subst (λ (o : Option ℕ). (ws ≡ local_words o) × IsHandleForm Dependent o) m.gives (p.0, p.1)
second_told Strong ws second e = no_second_told ws second e
second_told Pinned ws second e = no_second_told ws second e
second_told Weak ws second e = no_second_told ws second e
second_told WeakLong ws second e = no_second_told ws second e

-- and each is read
second_found : (kind : Kind) (second : Option ℕ) → IsHandleForm kind second
    → second_in kind (local_words second) ≡ Some second
unfolding second_in
second_found Dependent None h = absurd h
second_found Dependent (Some k) h = rw (one_local_reader.found k h) refl
second_found Strong second h = no_second_found second h
second_found Pinned second h = no_second_found second h
second_found Weak second h = no_second_found second h
second_found WeakLong second h = no_second_found second h

-- the second local of a kind
pub second_reader : (kind : Kind) → IsReader (second_in kind) local_words (IsHandleForm kind)
second_reader kind = record { found = second_found kind; told = second_told kind }

-- ---- `final`

-- what is read of `final` is spelled so
final_told : (ws : List (List ℕ)) (final : Bool) → final_in ws ≡ Some final → (ws ≡ final_words final) × Unit {0}
unfolding final_in
final_told [] final e = value_told final_words (λ f. Unit {0}) [] false refl tt final e
final_told (word ∷ []) final e =
    choice_told final_words (λ f. Unit {0}) (λ w. w ∷ []) word (codes "final") _ _
    (value_told final_words (λ f. Unit {0}) _ true refl tt) (nothing_told _ _ _) final e
final_told (word ∷ other ∷ more) final e = absurd cc

-- and each is read
final_found : (final : Bool) → Unit {0} → final_in (final_words final) ≡ Some final
unfolding final_in
final_found false h = refl
final_found true h = refl

-- whether `final` is written
pub final_reader : IsReader final_in final_words (λ final. Unit {0})
final_reader = record { found = final_found; told = final_told }

-- ---- `-inclUnrooted`

-- what is read of it is spelled so
unrooted_told : (ws : List (List ℕ)) (u : Bool) → unrooted_in ws ≡ Some u → (ws ≡ unrooted_words u) × Unit {0}
unfolding unrooted_in
unrooted_told [] u e = value_told unrooted_words (λ f. Unit {0}) [] false refl tt u e
unrooted_told (word ∷ []) u e =
    choice_told unrooted_words (λ f. Unit {0}) (λ w. w ∷ []) word (codes "-inclUnrooted") _ _
    (value_told unrooted_words (λ f. Unit {0}) _ true refl tt) (nothing_told _ _ _) u e
unrooted_told (word ∷ other ∷ more) u e = absurd cc

-- and each is read
unrooted_found : (u : Bool) → Unit {0} → unrooted_in (unrooted_words u) ≡ Some u
unfolding unrooted_in
unrooted_found false h = refl
unrooted_found true h = refl

-- whether `-inclUnrooted` is written
pub unrooted_reader : IsReader unrooted_in unrooted_words (λ u. Unit {0})
unrooted_reader = record { found = unrooted_found; told = unrooted_told }
