-- The first line of a text is answered.
use Rattle.std.proofs.Common.{◌≡◌, ◌∙◌, ℕ, ◌+◌, ◌*◌, ◌^◌, ◌<◌, ◌≤◌, List, [], ◌∷◌, ◌++◌, length, take}
use Rattle.std.proofs.Common.{refl, sym, ap, Option, Some, None}
use Rattle.std.specs.Prelude.{Result, Ok, Err, IfOk, IfSome, OnErr}
use Rattle.std.proofs.Common.{arith, append_assoc, append-nil, subst, length-append, length-drop, drop, take-add, ◌-◌}
use Rattle.std.proofs.Math.Seq.{take-append-add}
use Rattle.std.proofs.lemmas.List.{take-append-drop, take-take, take_rest}
use Rattle.clr_model.specs.Machine.{Machine}
use Rattle.clr_model.specs.Outcomes.{Outcome}
use Rattle.clr_lines.specs.Fronts.{IsAnswered}
use Rattle.clr_session.specs.LineStretch.{IsFirstFeed}
use Rattle.clr_session.specs.FrontLines.{GoesOver, StopsFront}
use Rattle.clr_session.specs.Output.{Wrote, WroteSome}
use Rattle.clr_session.specs.Progress.{begun, Progress}
use Rattle.clr_session.specs.Runs.{run_text}
use Rattle.clr_session.specs.Sessions.{IsAt, Goes, GoesLine, Stops}
use Rattle.clr_session.specs.declared.session.Session.{Session}
use Rattle.clr_session.proofs.LineLists.{run_text-append}
use Rattle.clr_session.proofs.SessionSteps.{answered_line, follows_rest, goes_kept, goes_none, goes_on}
use Rattle.clr_session.proofs.SessionSteps.{run_text-one, stops_on}

-- no bytes are no bytes
none_left : (xs : List ℕ) → length xs ≡ 0 → xs ≡ []
none_left [] e = refl
none_left (x ∷ xs) e = absurd (omega (arith, e))

-- so much of a text is its first line with its line feed
record IsFirst (text line rest : List ℕ) (read : ℕ) : Type 0 where
  some : 0 < read
  within : read ≤ length text
  taken : line ++ 10 ∷ [] ≡ take read text

is_first : (text line rest : List ℕ) (read : ℕ) → text ≡ line ++ (10 ∷ rest) → read ≡ length line + 1
    → IsFirst text line rest read
is_first text line rest read cut count =
    let whole = ap length cut in
    let parts : length (line ++ (10 ∷ rest)) ≡ length line + length (10 ∷ rest) = length-append line (10 ∷ rest) in
    record {
      some = omega (arith, count);
      within = omega (arith, whole, parts, count);
      taken = sym (ap (take read) cut ∙ (ap (λ n. take n (line ++ (10 ∷ rest))) count
          ∙ take-append-add line (10 ∷ rest) 1));
    }

-- what is left of a piece
pub piece_rest : (piece : List ℕ) (from : ℕ)
    → length (take (length piece - from) (drop from piece)) ≡ length piece - from
piece_rest piece from = ap length (take_rest piece from) ∙ length-drop from piece

-- where no line was begun, the first line of a text goes on the script
over_line : (old new : Machine) (text reply : List ℕ) (read : ℕ) → IsAnswered old text read reply new
    → (0 < read) × (read ≤ length text) × GoesOver old (take read text) reply new
unfolding GoesOver
over_line old new text reply read answered =
    let front = is_first text answered.line answered.rest read answered.cut answered.read_is in (
      front.some,
      front.within,
      λ first taken outcomes at.
          let next = answered_line first old new [] taken answered.line outcomes answered.outcome at answered.unfed
          (follows_rest old new [] answered.line (begun taken) answered.outcome refl at.kept answered.follows) in (
            answered.outcome ∷ [],
            subst (λ (l : List ℕ). Progress first new [] (taken ++ l) (outcomes ++ answered.outcome ∷ [])) front.taken
                next,
            answered.told ∙ sym (run_text-one answered.outcome),
          ),
    )

-- bytes after others
over_on : (old mid new : Machine) (bytes more front reply : List ℕ) → GoesOver old bytes front mid
    → GoesOver mid more reply new → GoesOver old (bytes ++ more) (front ++ reply) new
unfolding GoesOver
over_on old mid new bytes more front reply goes goes_more = λ first taken outcomes at.
    let a = goes first taken outcomes at in
    let b = goes_more first (taken ++ bytes) (outcomes ++ a.0) a.1 in (
      a.0 ++ b.0,
      rw (← append_assoc, ← append_assoc) b.1,
      ap (λ (l : List ℕ). l ++ reply) a.2
          ∙ (ap (λ (l : List ℕ). run_text a.0 ++ l) b.2 ∙ sym (run_text-append a.0 b.0)),
    )

-- no bytes
pub over_none : (m : Machine) → GoesOver m [] [] m
unfolding GoesOver
over_none m = λ first taken outcomes at. ([], rw (append-nil, append-nil) at, refl)

-- a line more of a text
pub over_more : (old mid new : Machine) (text front reply : List ℕ) (from read : ℕ) → from ≤ length text
    → GoesOver old (take from text) front mid
    → IsAnswered mid (take (length text - from) (drop from text)) read reply new
    → (0 < read) × (from + read ≤ length text) × GoesOver old (take (from + read) text) (front ++ reply) new
over_more old mid new text front reply from read low goes answered =
    let rest = take (length text - from) (drop from text) in
    let (some, within, more) = over_line mid new rest reply read answered in
    let short = piece_rest text from in (
      some,
      omega (arith, within, short, low),
      subst (λ (l : List ℕ). GoesOver old l (front ++ reply) new) (sym (take-add from read text))
          (over_on old mid new (take from text) (take read (drop from text)) front reply goes
          (subst (λ (l : List ℕ). GoesOver mid (take read l) reply new) (take_rest text from) more)),
    )

-- what stood before a place that is kept stays
pub front_stays : (new old : List ℕ) (low high : ℕ) → low ≤ high → take high new ≡ take high old
    → take low new ≡ take low old
front_stays new old low high le kept =
    sym (take-take low high new le) ∙ (ap (take low) kept ∙ take-take low high old le)

-- where no line was begun, the lines in front of a text go on the script
pub goes_front : (old : Session) (new : Machine) (left bytes reply : List ℕ) (before after : Option (List ℕ))
    → length old.line.items ≡ 0 → GoesOver old.runtime.machine bytes reply new
    → Wrote before after old.pending left reply
    → (first : Machine) (taken : List ℕ) (outcomes : List Outcome) → IsAt first old taken outcomes
    → (more : List Outcome) × Progress first new old.line.items (taken ++ bytes) (outcomes ++ more)
    × Wrote before after old.pending left (run_text more)
unfolding GoesOver
goes_front old new left bytes reply before after none over wrote first taken outcomes at =
    let empty = none_left old.line.items none in
    let goes = over first taken outcomes
    (subst (λ (l : List ℕ). Progress first old.runtime.machine l taken outcomes) empty at) in (
      goes.0,
      subst (λ (l : List ℕ). Progress first new l (taken ++ bytes) (outcomes ++ goes.0)) (sym empty) goes.1,
      subst (λ (l : List ℕ). Wrote before after old.pending left l) goes.2 wrote,
    )

-- writing stopped at the lines in front of a text
pub stops_front : (old : Session) (new : Machine) (text : List ℕ) (before after : Option (List ℕ))
    → length old.line.items ≡ 0 → StopsFront old.runtime.machine new text before after old.pending
    → Stops old text before after
unfolding GoesOver
stops_front old new text before after none stopped = λ first taken outcomes at.
    let goes = stopped.goes first taken outcomes
    (subst (λ (l : List ℕ). Progress first old.runtime.machine l taken outcomes) (none_left old.line.items none) at)
    in
    record {
      part = take stopped.read text;
      rest = drop stopped.read text;
      cut = sym (take-append-drop stopped.read text);
      more = goes.0;
      last = goes.1.state;
      run = goes.1.run;
      wrote = subst (λ (l : List ℕ). WroteSome before after (old.pending ++ l)) goes.2 stopped.wrote;
    }

-- writing stopped at a line in front of a text
stops_more : (old : Session) (next rest text : List ℕ) (before after : Option (List ℕ)) → text ≡ next ++ rest
    → Stops old next before after → Stops old text before after
stops_more old next rest text before after e stops =
    stops_on old old [] next rest text before before after e (goes_none old before) stops

-- a line that a line feed ends is the first of the text
pub goes_feed : (old new : Session) (text : List ℕ) (at : ℕ) (before after : Option (List ℕ)) → IsFirstFeed text at
    → Goes old new (take at text ++ 10 ∷ []) before after → GoesLine old new text before after (Some (at + 1))
goes_feed old new text at before after feed goes =
    let within = feed.within in
    (omega arith, omega (arith, within), subst (λ (l : List ℕ). Goes old new l before after) (sym feed.here) goes)

pub stops_feed : (old : Session) (text : List ℕ) (at : ℕ) (before after : Option (List ℕ)) → IsFirstFeed text at
    → Stops old (take at text ++ 10 ∷ []) before after → Stops old text before after
stops_feed old text at before after feed stops =
    stops_more old (take at text ++ 10 ∷ []) (drop (at + 1) text) text before after
    (sym (take-append-drop (at + 1) text) ∙ ap (λ (l : List ℕ). l ++ drop (at + 1) text) feed.here) stops

-- a session of the same parts goes on in the same way
pub goes_same : (one two new : Session) (bytes : List ℕ) (before mid after : Option (List ℕ))
    → two.runtime.machine ≡ one.runtime.machine → two.line.items ≡ one.line.items → two.pending ≡ one.pending
    → mid ≡ before
    → Goes two new bytes mid after
    → Goes one new bytes before after
goes_same one two new bytes before mid after r l p w goes first taken outcomes at =
    let g = goes first taken outcomes (rw (r, l) at) in
    (g.0, g.1, rw (← w, ← p) g.2)

goes_line_same : (one two new : Session) (text : List ℕ) (before mid after : Option (List ℕ))
    → two.runtime.machine ≡ one.runtime.machine → two.line.items ≡ one.line.items → two.pending ≡ one.pending
    → mid ≡ before
    → (found : Option ℕ)
    → GoesLine two new text mid after found → GoesLine one new text before after found
goes_line_same one two new text before mid after r l p w None (unfed, stays, goes) =
    (unfed, stays ∙ r, goes_same one two new [] before mid after r l p w goes)
goes_line_same one two new text before mid after r l p w (Some count) (some, within, goes) =
    (some, within, goes_same one two new (take count text) before mid after r l p w goes)

pub ok_same : {E : Type 0} (one two new : Session) (text : List ℕ) (before mid after : Option (List ℕ))
    → two.runtime.machine ≡ one.runtime.machine → two.line.items ≡ one.line.items → two.pending ≡ one.pending
    → mid ≡ before
    → (found : Result (Option ℕ) E) → IfOk found (GoesLine two new text mid after)
    → IfOk found (GoesLine one new text before after)
ok_same one two new text before mid after r l p w (Ok found) goes =
    goes_line_same one two new text before mid after r l p w found goes
ok_same one two new text before mid after r l p w (Err e) goes = goes

-- ---- the lines of a piece

-- where writing stopped at the lines in front of a text, there is one
pub some_front : {old new : Machine} {text : List ℕ} {before after : Option (List ℕ)} {waiting : List ℕ}
    → StopsFront old new text before after waiting → 0 < length text
some_front stopped =
    let some = stopped.some in
    let within = stopped.within in
    omega (arith, some, within)

-- how far the highest end of a reservation rises over a line
pub grows_found : {E : Type 0} (found : Result (Option ℕ) E) (old new : Session) (text : List ℕ)
    (before after : Option (List ℕ)) (low high : ℕ) → IfOk found (GoesLine old new text before after)
    → high ≤ low + 2 ^ 30
    → IfOk found (λ line. IfSome line (λ count. high ≤ low + 2 ^ 30 * count))
grows_found (Ok None) old new text before after low high goes grown = tt
grows_found (Ok (Some count)) old new text before after low high goes grown =
    let some = goes.0 in omega (arith, some, grown)
grows_found (Err e) old new text before after low high goes grown = tt

pub rises_found : {V E : Type 0} (found : Result V E) (size low high : ℕ) → OnErr found (0 < size)
    → high ≤ low + 2 ^ 30 → OnErr found (high ≤ low + 2 ^ 30 * size)
rises_found (Ok v) size low high some grown = tt
rises_found (Err e) size low high some grown = omega (arith, some, grown)

-- a line more of a piece
pub piece_goes_on : (one two new : Session) (piece : List ℕ) (from count : ℕ) (found : Option ℕ)
    (before mid after : Option (List ℕ)) → from ≤ length piece → found ≡ Some count
    → Goes one two (take from piece) before mid
    → GoesLine two new (take (length piece - from) (drop from piece)) mid after found
    → (from + count ≤ length piece) × (0 < count) × Goes one new (take (from + count) piece) before after
piece_goes_on one two new piece from count found before mid after low is goes line =
    let rest = take (length piece - from) (drop from piece) in
    let (some, within, more) = subst (λ (f : Option ℕ). GoesLine two new rest mid after f) is line in
    let short = piece_rest piece from in (
      omega (arith, within, short, low),
      some,
      goes_on one two new (take from piece) (take count (drop from piece)) (take (from + count) piece) before mid after
          (take-add from count piece) goes
          (subst (λ (l : List ℕ). Goes two new (take count l) mid after) (take_rest piece from) more),
    )

-- no line more ends in a piece
pub piece_ends : (one two new : Session) (piece kept : List ℕ) (from : ℕ) (found : Option ℕ)
    (before mid after : Option (List ℕ)) → found ≡ None → Goes one two (take from piece) before mid
    → GoesLine two new (take (length piece - from) (drop from piece)) mid after found
    → kept ≡ take 4097 (new.line.items ++ take (length piece - from) (drop from piece))
    → (first : Machine) (taken : List ℕ) (outcomes : List Outcome) → IsAt first one taken outcomes
    → (x : List Outcome) × Progress first new.runtime.machine kept (taken ++ piece) (outcomes ++ x)
    × Wrote before after one.pending new.pending (run_text x)
piece_ends one two new piece kept from found before mid after is goes line left =
    let rest = take (length piece - from) (drop from piece) in
    let (unfed, stays, none) = subst (λ (f : Option ℕ). GoesLine two new rest mid after f) is line in
    goes_kept one new (take from piece) rest piece kept before after
    (sym (take-append-drop from piece) ∙ ap (λ (l : List ℕ). take from piece ++ l) (sym (take_rest piece from)))
    (goes_on one two new (take from piece) [] (take from piece) before mid after (sym (append-nil (take from piece)))
    goes
    none) unfed left

-- writing stopped at a line of a piece
pub piece_stops : (one two : Session) (piece : List ℕ) (from : ℕ) (before mid after : Option (List ℕ))
    → Goes one two (take from piece) before mid → Stops two (take (length piece - from) (drop from piece)) mid after
    → Stops one piece before after
piece_stops one two piece from before mid after goes stops =
    let rest = take (length piece - from) (drop from piece) in
    stops_on one two (take from piece) rest [] piece before mid after
    (sym (take-append-drop from piece) ∙ ap (λ (l : List ℕ). take from piece ++ l)
    (sym (take_rest piece from) ∙ sym (append-nil rest))) goes stops
