-- The opening state is lawful.
use Rattle.std.proofs.Common.{◌≡◌, ℕ, zero, suc, ◌+◌, ◌<◌, inl, List, [], ◌∷◌, refl, sym, subst, ap, ◌∙◌, arith}
use Rattle.std.proofs.Common.{replicate, length, lit≤, lit<, map}
use Rattle.std.specs.List.{AllByRecursion}
use Rattle.std.specs.FinMap as finmap
use Rattle.std.specs.Ordering.{nat_cmp}
use Rattle.clr_types.specs.declared.handle.Handle.{Handle}
use Rattle.clr_model.specs.Machine.{Options, Machine, no_step}
use Rattle.clr_model.specs.Lawful.{IsBirthNamed, AreLawfulOptions, NamesArePresent, HasItsSecond, IsNullOrPresent}
use Rattle.clr_model.specs.Lawful.{StepIsPresent, HasItsRoom, AllFrom}
use Rattle.clr_types.specs.Maps.{map_values}
use Rattle.clr_model.specs.Picture.{picture, renamed_row}
use Rattle.clr_model.specs.Lookups.{place_of}
use Rattle.clr_types.proofs.MapValues.{map_values-empty}
use Rattle.clr_model.specs.Run.{opening, defaults, StandsFor}
use Rattle.clr_types.specs.Segments.{opening_segment, opening_layout}
use Rattle.clr_types.specs.LawfulLayout.{IsLawfulLayout, IsLawfulSegment}
use Rattle.clr_types.specs.declared.segment.SegKind.TheVariants.{Ephemeral, Large}

-- each of so many copies has what the one has
pub all_copies : {X : Type 0} (P : X → Type 0) (n : ℕ) (x : X) → P x → AllByRecursion P (replicate n x)
all_copies P zero x h = tt
all_copies P (suc n) x h = (h, all_copies P n x h)

length_copies : {X : Type 0} (n : ℕ) (x : X) → length (replicate n x) ≡ n
length_copies zero x = refl
length_copies (suc n) x = ap suc (length_copies n x)

abbrev handles_of_opening : finmap.FinMap nat_cmp Handle
handles_of_opening = finmap.empty

abbrev entries_of_empty : List (ℕ × Handle)
entries_of_empty = finmap.entries handles_of_opening

-- both segments, the second after the first
first_segment : (options : Options) → AreLawfulOptions options
    → IsLawfulSegment (opening_segment 0x10000000 Ephemeral options.segment)
first_segment options h = record {
  base = refl;
  lowest = lit≤ tt;
  reserved = h.segment_aligned;
  least = h.segment_least;
  low = lit≤ tt;
  high = let least = h.segment_least in omega arith;
  aligned = refl;
}

second_segment : (options : Options) → AreLawfulOptions options
    → IsLawfulSegment (opening_segment (0x10000000 + options.segment) Large options.segment)
second_segment options h = record {
  base = let aligned = h.segment_aligned in omega arith;
  lowest = omega arith;
  reserved = h.segment_aligned;
  least = h.segment_least;
  low = omega arith;
  high = let least = h.segment_least in omega arith;
  aligned = let aligned = h.segment_aligned in omega arith;
}

layout_lawful : (options : Options) → AreLawfulOptions options → IsLawfulLayout (opening_layout options.segment)
layout_lawful options h = record {
  segments = (first_segment options h, (second_segment options h, tt));
  bounded = (λ small. h.segment_greatest, (λ small. absurd cc, tt));
  disjoint = ((omega arith, tt), (tt, tt));
  below_top = (omega arith, (omega arith, tt));
  top_aligned = let aligned = h.segment_aligned in omega arith;
  one_ephemeral = refl;
  ephemeral_last = tt;
  some_large = lit< tt;
  start1_low = lit≤ tt;
  start1_high = lit≤ tt;
  start0_high = lit≤ tt;
  aligned = (refl, refl);
  free_rise = tt;
  threads = refl;
}

no_items : {X : Type 0} (es : List X) → length es ≡ 0 → es ≡ []
no_items [] e = refl
no_items (x ∷ es) e = absurd (omega (arith, e))

no_entries : ◌≡◌ {A = List (ℕ × Handle)} entries_of_empty []
no_entries = no_items entries_of_empty (sym (finmap.len-entries handles_of_opening) ∙ finmap.len-empty nat_cmp Handle)

no_rows : ◌≡◌ {A = List Handle} (map (λ e. e.1) (entries_of_empty)) []
no_rows = ap (map (λ e. e.1)) no_entries

-- a thread that began nothing needs no room
all_idle : (m : Machine) (n t : ℕ) → AllFrom (HasItsRoom m) t (replicate n no_step)
all_idle m zero t = tt
all_idle m (suc n) t = (tt, all_idle m n (t + 1))

names_lawful : (options : Options) → NamesArePresent (opening options)
unfolding opening
names_lawful options = record {
  slots = tt;
  locals = all_copies (IsNullOrPresent (opening options)) 1024 0 (inl refl);
  handles =
      subst (AllByRecursion (λ (row : Handle). IsNullOrPresent (opening options) row.target
      × IsNullOrPresent (opening options) row.second)) (sym no_rows) tt;
  entries = tt;
  ready = tt;
  steps = all_copies (StepIsPresent (opening options)) 16 no_step tt;
}

pub opening_lawful : (options : Options) → AreLawfulOptions options → IsBirthNamed (opening options)
unfolding opening
opening_lawful options h = record {
  lawful = record {
    options = h;
    types = tt;
    type_count = lit≤ tt;
    type_names = tt;
    type_words = tt;
    names_rise = tt;
    shapes = tt;
    laid = record {
      layout = layout_lawful options h;
      housed = tt;
      tiled = (refl, (refl, tt));
      whole1 = tt;
      whole0 = tt;
    };
    rests_young = tt;
    suited = tt;
    limit = let least = h.limit_least in omega arith;
    names = names_lawful options;
    seconds = subst (AllByRecursion HasItsSecond) (sym no_rows) tt;
    locals = length_copies {X = ℕ} 1024 0;
    steps = refl;
    rooms = all_idle (opening options) 16 1;
    holder = tt;
    handle_count = let none = finmap.len-empty nat_cmp Handle in omega arith;
    handle_numbers = subst (AllByRecursion (λ (e : ℕ × Handle). e.0 < 65536)) (sym no_entries) tt;
    entries = tt;
    ready = tt;
    sums = record { spent0 = lit≤ tt; spent_large = lit≤ tt; promoted1 = lit≤ tt; promoted2 = lit≤ tt };
    marking = tt;
  };
  born = tt;
}

-- ---- the opening state is its own picture

null_map : (n : ℕ) → map (place_of []) (replicate n 0) ≡ replicate n 0
null_map zero = refl
null_map (suc n) = ap (λ xs. 0 ∷ xs) (null_map n)

-- the opening state looks like itself
pub picture-opening : (options : Options) → picture (opening options) ≡ opening options
unfolding opening
picture-opening options =
    let none : map_values (renamed_row (place_of [])) finmap.empty ≡ finmap.empty =
    map_values-empty (renamed_row (place_of [])) in
    let locals : map (place_of []) (replicate 1024 0) ≡ replicate 1024 0 = null_map 1024 in
    λ i. record (opening options) { handles = none i; locals = locals i }

-- what a script opens with stands for the opening state
pub opening_stands : (options : Options) → AreLawfulOptions options → StandsFor (opening options) (opening options)
opening_stands options h = record { lawful = opening_lawful options h; seen_is = picture-opening options }

pub defaults_lawful : AreLawfulOptions defaults
defaults_lawful = record {
  segment_least = lit≤ tt;
  segment_greatest = lit≤ tt;
  segment_aligned = refl;
  limit_least = lit≤ tt;
  limit_greatest = lit≤ tt;
  b0 = lit≤ tt;
  b1 = lit≤ tt;
  b2 = lit≤ tt;
  bl = lit≤ tt;
  compact = lit≤ tt;
  large_least = lit≤ tt;
  large_greatest = lit≤ tt;
}
