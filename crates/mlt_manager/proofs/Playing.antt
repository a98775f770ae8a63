-- A run of events, one after another
use Rattle.mlt_manager.proofs.Names.{zero, TraceItem, Limits, Event, Told, counted, IsRun, Meets, ManagerFields, IsNew, KeepsPromises}
use Rattle.std.proofs.Common.{suc, ◌≡◌, ◌<◌, ◌≤◌, ℕ, ◌+◌, List, [], ◌∷◌, ◌++◌, length, take, get_or, refl, sym, ap, subst, ◌∙◌, arith}
use Rattle.mlt_manager.{specs.Courses.Course, specs.Courses.HasAdded, specs.Courses.Tells, specs.Courses.TellsAll, specs.Events.Plays, proofs.Courses.tells_on}

-- the events so far, and what they were told
pub record HasPlayed {P : Type 0} (bits_of : P → ℕ → ℕ) (limits : Limits) (pseudo : P) (events : List Event) (tolds : List Told) (now : ManagerFields P) : Type 0 where
  pub opening : ManagerFields P
  pub is_new : IsNew opening limits pseudo
  pub run : IsRun bits_of opening events tolds now

run_on : {P : Type 0} (bits_of : P → ℕ → ℕ) (old m m' : ManagerFields P) (events : List Event) (tolds : List Told) (event : Event) (told : Told)
    → IsRun bits_of old events tolds m → Meets bits_of event told (counted m) m' → IsRun bits_of old (events ++ event ∷ []) (tolds ++ told ∷ []) m'
run_on bits_of old m m' [] [] event told same meets = (m', subst (λ (n : ManagerFields _). Meets bits_of event told (counted n) m') same meets, refl)
run_on bits_of old m m' [] (t ∷ ts) event told none meets = absurd none
run_on bits_of old m m' (e ∷ es) [] event told none meets = absurd none
run_on bits_of old m m' (e ∷ es) (t ∷ ts) event told (next, first, rest) meets = (next, first, run_on bits_of next m m' es ts event told rest meets)

take_one : (xs : List Event) (i : ℕ) (x : Event) → i < length xs → x ≡ get_or xs i x → take (suc i) xs ≡ take i xs ++ x ∷ []
take_one [] i x within is = absurd (omega (arith, within))
take_one (y ∷ xs) zero x within is = ap (λ z. z ∷ []) (sym is)
take_one (y ∷ xs) (suc i) x within is = ap (λ zs. y ∷ zs) (take_one xs i x (omega arith) is)

-- **One more event.**
pub played_on : {P : Type 0} (bits_of : P → ℕ → ℕ) (limits : Limits) (pseudo : P) (events : List Event) (i : ℕ) (tolds tolds' : List Told) (m m' : ManagerFields P) (event : Event) (told : Told)
    → i < length events → event ≡ get_or events i event → tolds' ≡ tolds ++ told ∷ [] → HasPlayed bits_of limits pseudo (take i events) tolds m → Meets bits_of event told (counted m) m'
    → HasPlayed bits_of limits pseudo (take (i + 1) events) tolds' m'
played_on bits_of limits pseudo events i tolds tolds' m m' event told within is more h meets =
    let next_place : i + 1 ≡ suc i = omega arith in
    let one_more : take (i + 1) events ≡ take i events ++ event ∷ [] = ap (λ k. take k events) next_place ∙ take_one events i event within is in
    record {
      opening = h.opening;
      is_new = h.is_new;
      run = subst (λ (es : List Event). IsRun bits_of h.opening es tolds' m') (sym one_more)
          (subst (λ (ts : List Told). IsRun bits_of h.opening (take i events ++ event ∷ []) ts m') (sym more) (run_on bits_of h.opening m m' (take i events) tolds event told h.run meets));
    }

pub told_on : (c d d' : Course) (events : List Event) (i : ℕ) (tolds tolds' : List Told) (items items' : List TraceItem) (event : Event) (told : Told)
    → i < length events → event ≡ get_or events i event → tolds' ≡ tolds ++ told ∷ [] → TellsAll c (take i events) tolds d items → Tells d event told d' → HasAdded d event told d' items items'
    → TellsAll c (take (i + 1) events) tolds' d' items'
told_on c d d' events i tolds tolds' items items' event told within is more tells one adds =
    let next_place : i + 1 ≡ suc i = omega arith in
    let one_more : take (i + 1) events ≡ take i events ++ event ∷ [] = ap (λ k. take k events) next_place ∙ take_one events i event within is in
    subst (λ (es : List Event). TellsAll c es tolds' d' items') (sym one_more)
    (subst (λ (ts : List Told). TellsAll c (take i events ++ event ∷ []) ts d' items') (sym more) (tells_on c d d' (take i events) tolds items items' event told tells one adds))

pub take_all : (xs : List Event) (i : ℕ) → length xs ≤ i → take i xs ≡ xs
take_all [] zero within = refl
take_all [] (suc i) within = refl
take_all (x ∷ xs) zero within = absurd (omega (arith, within))
take_all (x ∷ xs) (suc i) within = ap (λ zs. x ∷ zs) (take_all xs i (omega arith))

pub all_played : {P : Type 0} (bits_of : P → ℕ → ℕ) (limits : Limits) (pseudo : P) (events : List Event) (i : ℕ) (tolds : List Told) (m : ManagerFields P) → length events ≤ i
    → HasPlayed bits_of limits pseudo (take i events) tolds m → KeepsPromises bits_of m → Plays bits_of limits pseudo events tolds m
all_played bits_of limits pseudo events i tolds m over h promises = record {
  first = h.opening;
  is_new = h.is_new;
  run = subst (λ (es : List Event). IsRun bits_of h.opening es tolds m) (take_all events i over) h.run;
  promises = promises;
}
