-- Texts that are written through a buffer, one after another.
use Rattle.std.proofs.Common.{◌≡◌, ◌∙◌, ℕ, ◌+◌, ◌<◌, List, [], ◌∷◌, ◌++◌, drop, get_or, length, take, refl, sym}
use Rattle.std.proofs.Common.{Option, ap, append_assoc, append-nil, subst}
use Rattle.std.specs.List.{flat_map}
use Rattle.std.proofs.lemmas.Grind.{flat_map-append}
use Rattle.std.proofs.lemmas.List.{take-append-drop, take_more}
use Rattle.clr_streams.specs.Faults.{Appended, Rose}
use Rattle.clr_streams.proofs.ByteStreams.{appended_more}
use Rattle.clr_sos.specs.Buffered.{IsCut, IsPut}

-- ---- one text

module _ (w0 w1 : Option (List ℕ)) (f0 f1 : ℕ) (held : List ℕ) where
  -- a part of what the buffer held was written
  pub cut_part : (bytes : List ℕ) (n : ℕ) → bytes ≡ held → Appended w0 w1 (take n bytes) → Rose f0 f1
      → IsCut w0 w1 f0 f1 held
  cut_part bytes n is appended rose = record {
    out = take n held;
    rest = drop n held;
    appended = subst (λ (l : List ℕ). Appended w0 w1 (take n l)) is appended;
    whole = take-append-drop n held;
    rose = rose;
  }

  -- a write failed before the end of a longer text
  pub cut_before : (a b text : List ℕ) → IsCut w0 w1 f0 f1 (held ++ a) → a ++ b ≡ text
      → IsCut w0 w1 f0 f1 (held ++ text)
  cut_before a b text cut e = record {
    out = cut.out;
    rest = cut.rest ++ b;
    appended = cut.appended;
    whole = sym (append_assoc cut.out cut.rest b) ∙ ap (λ (l : List ℕ). l ++ b) cut.whole ∙ append_assoc held a b
        ∙ ap (λ (l : List ℕ). held ++ l) e;
    rose = cut.rose;
  }

-- ---- one text after another

module _ (w0 w1 w2 : Option (List ℕ)) (f0 f1 f2 : ℕ) (held left : List ℕ) where
  -- all that was held was written, and then a text behind it
  pub put_past : (text : List ℕ) → IsPut w0 w1 f0 f1 held left → left ≡ [] → Appended w1 w2 text → f2 ≡ f1
      → IsPut w0 w2 f0 f2 (held ++ text) left
  put_past text put none appended counted =
      let all : put.out ≡ held =
      sym (append-nil put.out) ∙ ap (λ (l : List ℕ). put.out ++ l) (sym none) ∙ put.kept in
      record {
        out = put.out ++ text;
        appended = appended_more w0 w1 w2 put.out text _ put.appended appended refl;
        kept = ap (λ (l : List ℕ). (put.out ++ text) ++ l) none ∙ append-nil (put.out ++ text)
            ∙ ap (λ (l : List ℕ). l ++ text) all;
        counted = counted ∙ put.counted;
      }

  -- all that was held was written, and then a part of a text behind it
  pub cut_past : (text : List ℕ) (n : ℕ) → IsPut w0 w1 f0 f1 held left → left ≡ [] → Appended w1 w2 (take n text)
      → Rose f1 f2 → IsCut w0 w2 f0 f2 (held ++ text)
  cut_past text n put none appended rose =
      let all : put.out ≡ held =
      sym (append-nil put.out) ∙ ap (λ (l : List ℕ). put.out ++ l) (sym none) ∙ put.kept in
      record {
        out = put.out ++ take n text;
        rest = drop n text;
        appended = appended_more w0 w1 w2 put.out (take n text) _ put.appended appended refl;
        whole = append_assoc put.out (take n text) (drop n text)
            ∙ ap (λ (l : List ℕ). put.out ++ l) (take-append-drop n text)
            ∙ ap (λ (l : List ℕ). l ++ text) all;
        rose = subst (λ (before : ℕ). Rose before f2) put.counted rose;
      }

  -- a text was put, and another behind it
  pub put_more : (last a b text : List ℕ) → IsPut w0 w1 f0 f1 (held ++ a) left → IsPut w1 w2 f1 f2 (left ++ b) last
      → a ++ b ≡ text → IsPut w0 w2 f0 f2 (held ++ text) last
  put_more last a b text one other e = record {
    out = one.out ++ other.out;
    appended = appended_more w0 w1 w2 one.out other.out _ one.appended other.appended refl;
    kept = append_assoc one.out other.out last ∙ ap (λ (l : List ℕ). one.out ++ l) other.kept
        ∙ sym (append_assoc one.out left b) ∙ ap (λ (l : List ℕ). l ++ b) one.kept ∙ append_assoc held a b
        ∙ ap (λ (l : List ℕ). held ++ l) e;
    counted = other.counted ∙ one.counted;
  }

  -- a text was put, and a write of the one behind it failed
  pub cut_more : (a b text : List ℕ) → IsPut w0 w1 f0 f1 (held ++ a) left → IsCut w1 w2 f1 f2 (left ++ b)
      → a ++ b ≡ text → IsCut w0 w2 f0 f2 (held ++ text)
  cut_more a b text one other e = record {
    out = one.out ++ other.out;
    rest = other.rest;
    appended = appended_more w0 w1 w2 one.out other.out _ one.appended other.appended refl;
    whole = append_assoc one.out other.out other.rest ∙ ap (λ (l : List ℕ). one.out ++ l) other.whole
        ∙ sym (append_assoc one.out left b) ∙ ap (λ (l : List ℕ). l ++ b) one.kept ∙ append_assoc held a b
        ∙ ap (λ (l : List ℕ). held ++ l) e;
    rose = subst (λ (before : ℕ). Rose before f2) one.counted other.rose;
  }

  -- a text was put, a write of the one behind it failed, and a third would have come
  pub cut_within : (a b c text : List ℕ) → IsPut w0 w1 f0 f1 (held ++ a) left → IsCut w1 w2 f1 f2 (left ++ b)
      → (a ++ b) ++ c ≡ text → IsCut w0 w2 f0 f2 (held ++ text)
  cut_within a b c text one other e =
      cut_before w0 w2 f0 f2 held (a ++ b) c text (cut_more a b (a ++ b) one other refl) e

-- ---- lines

module _ {X : Type 0} (says : X → List ℕ) where
  -- the lines of elements, with one more behind them
  pub lines_one : (xs : List X) (x : X) → flat_map says xs ++ says x ≡ flat_map says (xs ++ x ∷ [])
  lines_one xs x = ap (λ (l : List ℕ). flat_map says xs ++ l) (sym (append-nil (says x)))
      ∙ sym (flat_map-append says xs (x ∷ []))

  -- the lines up to an element, those of the elements behind it, and what comes behind them all
  pub lines_cut : (xs left all : List X) (x : X) (end : List ℕ) → xs ++ (x ∷ left) ≡ all
      → (flat_map says xs ++ says x) ++ (flat_map says left ++ end) ≡ flat_map says all ++ end
  lines_cut xs left all x end e =
      append_assoc (flat_map says xs) (says x) (flat_map says left ++ end)
      ∙ ap (λ (l : List ℕ). flat_map says xs ++ l) (sym (append_assoc (says x) (flat_map says left) end))
      ∙ sym (append_assoc (flat_map says xs) (says x ++ flat_map says left) end)
      ∙ ap (λ (l : List ℕ). l ++ end) (sym (flat_map-append says xs (x ∷ left)))
      ∙ ap (λ (ys : List X). flat_map says ys ++ end) e

  -- the lines of elements up to an index, with the next one
  pub lines_next : (xs : List X) (k : ℕ) (d : X) → k < length xs
      → flat_map says (take k xs) ++ says (get_or xs k d) ≡ flat_map says (take (k + 1) xs)
  lines_next xs k d within =
      lines_one (take k xs) (get_or xs k d) ∙ ap (λ (ys : List X). flat_map says ys) (sym (take_more xs k d within))

  -- the lines of elements up to an index, with the next one and all behind it
  pub lines_stop : (xs : List X) (k : ℕ) (d : X) → k < length xs
      → (flat_map says (take k xs) ++ says (get_or xs k d)) ++ flat_map says (drop (k + 1) xs) ≡ flat_map says xs
  lines_stop xs k d within =
      ap (λ (l : List ℕ). l ++ flat_map says (drop (k + 1) xs)) (lines_next xs k d within)
      ∙ sym (flat_map-append says (take (k + 1) xs) (drop (k + 1) xs))
      ∙ ap (λ (ys : List X). flat_map says ys) (take-append-drop (k + 1) xs)
