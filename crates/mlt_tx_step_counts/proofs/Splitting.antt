-- The steps of the splits of a pass, and of the write of the record behind them, whosever walk it is that splits
use Rattle.std.proofs.Common.{ℕ, zero, suc, ◌≡◌, ◌≤◌, ◌+◌, ◌*◌, ◌-◌, ◌⊎◌, Option, Some, None, List, [], ◌∷◌, refl, sym, ap, subst, ◌∙◌, inl, inr, true, false, arith}
use Rattle.mlt_tx_step_counts.proofs.Names.{View, SplitFields, directory_steps, steps_to_bucket, bucket_depth, depth_after, directory_depth, steps_to_put_at, WalkContext, WalkFields, one_key, Phase, Answer, Transaction, TellsOfTransaction, IsRefusal, AreOwnSteps, GoesToTurn, GoesUpTo, OwnStep, answers_of, context_at, view_in, local, Stands, Pass, put_is_left}
use Rattle.mlt_hash_form.specs.File.{bucket_of}
use Rattle.mlt_hash_split.specs.Rests.{held_page}
use Rattle.mlt_hash.specs.{Changes.page_of, StepsLeft.steps_of_splits, StepsLeft.steps_to_put, Walks.Before, Walks.IsAdding, Walks.context_after}
use Rattle.mlt_tx_two_records.specs.{Depths.Depths, Depths.GoesDown, Depths.deeper, Depths.depths_at, WalkSteps.BeginsToSplit, WalkSteps.GoesNearer}
use Rattle.mlt_tx_step_counts.{specs.Counts.IsToSplit, specs.Counts.SplitsAndPutsOrNot, specs.Extra.extra_of_splits, proofs.Extra.of_one, proofs.Extra.of_splits}
use Rattle.mlt_tx_step_counts.proofs.Answers.{IsWait, one_more, refused_in, turn_after, turn_here, up_to_after}

-- the depths once the bucket is split so many times
abbrev pub down : ℕ → Depths → Depths
down zero depths = depths
down (suc j) depths = down j (deeper depths)

down_deeper : (j : ℕ) (depths : Depths) → down j (deeper depths) ≡ deeper (down j depths)
down_deeper zero depths = refl
down_deeper (suc j) depths = down_deeper j (deeper depths)

down_to : (j : ℕ) (depths : Depths) → ((down j depths).room ≡ depths.room) × ((down j depths).bucket ≡ depths.bucket + j)
down_to zero depths = omega arith
down_to (suc j) depths = omega (arith, down_to j (deeper depths))

-- the steps down to where there is room, and of the write of the record
abbrev whole : Depths → ℕ
whole depths = steps_of_splits (depths.room - depths.bucket) depths.bucket depths.directory

-- of j splits
abbrev taken : ℕ → Depths → ℕ
taken j depths = 3 * j + extra_of_splits j depths.bucket depths.directory

-- those of the first splits, and those of the others
in_two : (j : ℕ) (depths : Depths) → depths.bucket + j ≤ depths.room → whole depths ≡ taken j depths + whole (down j depths)
unfolding steps_of_splits extra_of_splits
in_two zero depths few = omega arith
in_two (suc j) depths few =
    let next : depths.room - depths.bucket ≡ suc (depths.room - (depths.bucket + 1)) = omega (arith, few) in
    let parts : whole depths ≡ 2 + directory_steps depths.bucket depths.directory + whole (deeper depths) = ap (λ n. steps_of_splits n depths.bucket depths.directory) next in
    omega (arith, parts, in_two j (deeper depths) (omega (arith, few)), of_one depths.bucket depths.directory)

-- no split takes no step
some_split : (j : ℕ) (depths : Depths) → (taken j depths ≡ 0 → ⊥) → 1 ≤ j
unfolding extra_of_splits
some_split zero depths some = absurd (some refl)
some_split (suc j) depths some = omega arith

-- a walk that splits has at least the write of its record to do
one_step_left : (p : Phase) (root : ℕ) (walk : WalkFields) (view : View) (depths : Depths) → depths_at p root walk view ≡ Some depths → 1 ≤ steps_to_put_at p root walk view
one_step_left (Phase.Adding value bucket d unsplit) root walk view depths is = put_is_left (d - bucket_depth view bucket) (bucket_depth view bucket) (directory_depth view root)
one_step_left (Phase.Splitting value d) root walk view depths is = by walk.split is
  where
    by : (o : Option SplitFields) → depths_at (Phase.Splitting value d) root (record walk { split = o }) view ≡ Some depths → 1 ≤ steps_to_put_at (Phase.Splitting value d) root (record walk { split = o }) view
    by None none = cc
    by (Some split) some = omega (arith, put_is_left (d - (split.depth + 1)) (split.depth + 1) (depth_after split.depth split.directory_depth))
one_step_left other root walk view depths is = cc

-- no split has begun
abbrev pub IsUnsplit : Phase → Type 0
IsUnsplit (Phase.Adding value bucket d true) = Unit {0}
IsUnsplit other = ⊥

-- A transaction runs an operation with a walk that splits, of which `At` is so. Its step is told to wait, and it stands where it
-- stood; or it goes on splitting; or it puts its record, of which `Puts` is so.
pub record StaysPut (At : WalkFields → Transaction → View → Type 0) (walk : WalkFields) (t : Transaction) (own : OwnStep) : Type 0 where
  pub waits : IsWait own.told
  pub same : view_in own.after own.new ≡ view_in t own.old
  pub is : At walk own.after (view_in own.after own.new)

pub record SplitsOn (context : WalkContext) (At : WalkFields → Transaction → View → Type 0) (walk : WalkFields) (t : Transaction) (own : OwnStep) : Type 0 where
  pub going : own.told ≡ Answer.Going
  pub next : WalkFields
  pub is : At next own.after (view_in own.after own.new)
  pub there : steps_to_bucket next.phase ≡ 0
  pub one : steps_to_put context.root next (view_in own.after own.new) + 1 ≡ steps_to_put context.root walk (view_in t own.old)
  pub down_by : GoesDown context.root walk next (view_in t own.old) (view_in own.after own.new)

-- so it is where it comes nearer to its change
pub splits_nearer : (context : WalkContext) (At : WalkFields → Transaction → View → Type 0) (walk next : WalkFields) (t : Transaction) (own : OwnStep)
    → steps_to_bucket walk.phase ≡ 0 → own.told ≡ Answer.Going
    → GoesNearer context.root (view_in t own.old) (view_in own.after own.new) walk next
    → (1 ≤ steps_to_put context.root next (view_in own.after own.new) → At next own.after (view_in own.after own.new)) → SplitsOn (one_key context) At walk t own
splits_nearer context At walk next t own there going near is = elim near.down [
  | inl way ↦ absurd (omega (arith, there, way))
  | inr down_by ↦
      let next_there : steps_to_bucket next.phase ≡ 0 = omega (arith, there, near.nearer) in
      record {
        going = going;
        next = next;
        is = is (one_step_left next.phase context.root next (view_in own.after own.new) down_by.is down_by.is_is);
        there = next_there;
        one = omega (arith, near.by_one, there, next_there);
        down_by = down_by;
      }
]

pub record PutsNow (context : WalkContext) (Puts : ℕ → Transaction → OwnStep → List OwnStep → Type 0) (walk : WalkFields) (t : Transaction) (own : OwnStep) : Type 0 where
  pub going : own.told ≡ Answer.Going
  pub value : ℕ
  pub bucket : ℕ
  pub room_depth : ℕ
  pub was : walk.phase ≡ Phase.Adding value bucket room_depth false
  pub puts : (l : ℕ) (back : List OwnStep) → bucket_depth (view_in t own.old) bucket ≡ l → AreOwnSteps (one_key context) own.after (view_in own.after own.new) back → Puts l t own back

abbrev pub SplitOutcome : WalkContext → (WalkFields → Transaction → View → Type 0) → (ℕ → Transaction → OwnStep → List OwnStep → Type 0) → WalkFields → Transaction → OwnStep → Type 0
SplitOutcome context At Puts walk t own = StaysPut At walk t own ⊎ IsRefusal own.told ⊎ PutsNow (one_key context) Puts walk t own ⊎ SplitsOn (one_key context) At walk t own

-- A pass has split its bucket j times, and has so many steps and one more to its record.
pub record HasSplit (context : WalkContext) (At : WalkFields → Transaction → View → Type 0) (depths : Depths) (j m : ℕ) (walk : WalkFields) (t : Transaction) (seen : View) : Type 0 where
  pub is : At walk t seen
  pub there : steps_to_bucket walk.phase ≡ 0
  pub left : steps_to_put context.root walk seen ≡ suc m
  pub depths_is : depths_at walk.phase context.root walk seen ≡ Some (down j depths)
  pub few : depths.bucket + j ≤ depths.room
  pub within : suc m ≤ whole depths
  pub fresh : suc m ≡ whole depths → IsUnsplit walk.phase

-- it is refused, or later the record is put, behind k splits
abbrev PutsOrNot : WalkContext → (ℕ → Transaction → OwnStep → List OwnStep → Type 0) → Depths → ℕ → List OwnStep → Type 0
PutsOrNot context Puts depths m steps =
    GoesUpTo (suc m) IsRefusal (answers_of steps)
    ⊎ ((k : ℕ) × (1 ≤ k) × (depths.bucket + k ≤ depths.room)
    × (n : ℕ) × (n + whole depths ≡ 2 + taken k depths + m) × GoesToTurn (one_key context) n (Puts (depths.bucket + k)) steps)

module _ (context : WalkContext) (At : WalkFields → Transaction → View → Type 0) (Puts : ℕ → Transaction → OwnStep → List OwnStep → Type 0) (depths : Depths) where
  after_wait : (m : ℕ) (step : OwnStep) (more : List OwnStep) → IsWait step.told → PutsOrNot (one_key context) Puts depths m more → PutsOrNot (one_key context) Puts depths m (step ∷ more)
  after_wait m step more waits (inl not) = inl (up_to_after step.told (suc m) (suc m) (answers_of more) (waits (suc m)) not)
  after_wait m step more waits (inr (k, some, few, n, count, turn)) = inr (k, some, few, n, count, turn_after (one_key context) (Puts (depths.bucket + k)) step more n n (waits n) turn)

  after_going : (m : ℕ) (step : OwnStep) (more : List OwnStep) → step.told ≡ Answer.Going → PutsOrNot (one_key context) Puts depths m more
      → PutsOrNot (one_key context) Puts depths (suc m) (step ∷ more)
  after_going m step more goes (inl not) = inl (up_to_after step.told (suc m) (suc (suc m)) (answers_of more) (one_more step.told (suc m) goes) not)
  after_going m step more goes (inr (k, some, few, n, count, turn)) =
      inr (k, some, few, suc n, omega (arith, count), turn_after (one_key context) (Puts (depths.bucket + k)) step more n (suc n) (one_more step.told n goes) turn)

  module _ (j m : ℕ) (walk : WalkFields) (t : Transaction) (seen : View) (s : HasSplit (one_key context) At depths j m walk t seen)
      (step : OwnStep) (more : List OwnStep) (own : AreOwnSteps (one_key context) t seen (step ∷ more)) where
    -- the record is put at this step
    puts_here : PutsNow (one_key context) Puts walk t step → PutsOrNot (one_key context) Puts depths m (step ∷ more)
    puts_here now =
        let at_put : Depths = record { room = now.room_depth; bucket = bucket_depth seen now.bucket; directory = directory_depth seen context.root } in
        let is : at_put ≡ down j depths = cc (sym (ap (λ (x : Phase). depths_at x context.root walk seen) now.was) ∙ s.depths_is) in
        let left : steps_to_put context.root walk seen ≡ whole (down j depths) = ap (λ (x : Phase). steps_to_put_at x context.root walk seen) now.was ∙ ap whole is in
        let all : whole depths ≡ taken j depths + suc m = omega (arith, left, s.left, in_two j depths s.few) in
        let depth : bucket_depth seen now.bucket ≡ depths.bucket + j = ap (λ (d : Depths). d.bucket) is ∙ (down_to j depths).1 in
        let some = some_split j depths (λ (none : taken j depths ≡ 0). subst IsUnsplit now.was (s.fresh (omega (arith, all, none)))) in
        let puts = now.puts (depths.bucket + j) more (ap (λ (view : View). bucket_depth view now.bucket) own.0 ∙ depth) own.2 in
        inr (j, some, s.few, 1, omega (arith, all), turn_here (one_key context) (Puts (depths.bucket + j)) step more t now.going puts own.2)

    -- the splits go on, by one at most; and there is a step more at least
    goes_down : (on : SplitsOn (one_key context) At walk t step) → (m ≡ suc (m - 1)) × (j' : ℕ) × HasSplit (one_key context) At depths j' (m - 1) on.next step.after (view_in step.after step.new)
    goes_down on =
        let was : on.down_by.was ≡ down j depths = cc (sym on.down_by.was_is ∙ ap (λ (view : View). depths_at walk.phase context.root walk view) own.0 ∙ s.depths_is) in
        let had : steps_to_put context.root walk (view_in t step.old) ≡ suc m = ap (steps_to_put context.root walk) own.0 ∙ s.left in
        let more_left : m ≡ suc (m - 1) = omega (arith, on.one, had, one_step_left on.next.phase context.root on.next (view_in step.after step.new) on.down_by.is on.down_by.is_is) in
        let made : (j' : ℕ) → on.down_by.is ≡ down j' depths → depths.bucket + j' ≤ depths.room
        → HasSplit (one_key context) At depths j' (m - 1) on.next step.after (view_in step.after step.new) = λ j' is few. record {
          is = on.is;
          there = on.there;
          left = omega (arith, on.one, had, more_left);
          depths_is = on.down_by.is_is ∙ ap Some is;
          few = few;
          within = omega (arith, s.within, more_left);
          fresh = λ all. absurd (omega (arith, all, s.within, more_left));
        } in
        elim on.down_by.by_one [
          | inl same ↦ (more_left, j, made j (same ∙ was) s.few)
          | inr (next, less) ↦
              let room : depths.bucket + suc j ≤ depths.room = omega (arith, less, ap (λ (d : Depths). d.room) was, ap (λ (d : Depths). d.bucket) was, down_to j depths) in
              (more_left, suc j, made (suc j) (next ∙ ap deeper was ∙ sym (down_deeper j depths)) room)
        ]

    waits_on : (waits : StaysPut At walk t step) → HasSplit (one_key context) At depths j m walk step.after (view_in step.after step.new)
    waits_on waits = record {
      is = waits.is;
      there = s.there;
      left = ap (steps_to_put context.root walk) (waits.same ∙ own.0) ∙ s.left;
      depths_is = ap (λ (view : View). depths_at walk.phase context.root walk view) (waits.same ∙ own.0) ∙ s.depths_is;
      few = s.few;
      within = s.within;
      fresh = s.fresh;
    }

  module _ (outcome : (walk : WalkFields) (t : Transaction) (seen : View) (step : OwnStep) → At walk t seen → steps_to_bucket walk.phase ≡ 0 → view_in t step.old ≡ seen
      → TellsOfTransaction (context_at (one_key context) step) t step.after step.old step.new step.told → SplitOutcome (one_key context) At Puts walk t step) where
    -- **Once a bucket is to be split, the record is put behind as many steps as the splits take that are made.**
    puts_or_not : (steps : List OwnStep) (j m : ℕ) (walk : WalkFields) (t : Transaction) (seen : View)
        → HasSplit (one_key context) At depths j m walk t seen → AreOwnSteps (one_key context) t seen steps → PutsOrNot (one_key context) Puts depths m steps
    puts_or_not [] j m walk t seen s own = inl tt
    puts_or_not (step ∷ more) j m walk t seen s own =
        elim (outcome walk t seen step s.is s.there own.0 own.1) [
          | inl waits ↦ after_wait m step more waits.waits (puts_or_not more j m walk step.after (view_in step.after step.new) (waits_on j m walk t seen s step more own waits) own.2)
          | inr (inl away) ↦ inl (refused_in m step.told (answers_of more) away)
          | inr (inr (inl now)) ↦ puts_here j m walk t seen s step more own now
          | inr (inr (inr on)) ↦
              let next = goes_down j m walk t seen s step more own on in
              subst (λ (n : ℕ). PutsOrNot (one_key context) Puts depths n (step ∷ more)) (sym next.0)
              (after_going (m - 1) step more on.going (puts_or_not more next.1 (m - 1) on.next step.after (view_in step.after step.new) next.2 own.2))
        ]

-- the bucket that is to be split, by what its walk sees, which may be over what was written before
pub plan_of : (context : WalkContext) (own : OwnStep) (since since' : Before) (walk next : WalkFields) (view : View) → ((p : ℕ) → held_page view p ≡ held_page (view_in own.after own.new) p)
    → (b : BeginsToSplit (context_after since (context_at (one_key context) own)) (local own.after.subtx own.new.pages) walk next) → (b.walk.pass ≡ Pass.First → ⊥)
    → Stands next.phase (context_after since' (context_at (one_key context) own)) next view → (l : ℕ) × (g : ℕ) × (d : ℕ) × IsToSplit (one_key context) (view_in own.after own.new) next l g d
plan_of context own since since' walk next view same b later stands =
    let seen = view_in own.after own.new in
    let q = page_of b.walk.phase in
    let split = b.needs.later later in
    let adding : IsAdding (context_after since' (context_at (one_key context) own)) next view q split.0 true =
    subst (λ (x : Phase). Stands x (context_after since' (context_at (one_key context) own)) next view) split.1 stands in
    let deep : bucket_depth seen q ≡ adding.fields.depth = ap (λ x. (bucket_of x).depth) (sym (same q) ∙ adding.rest.found) in (
      bucket_depth seen q,
      directory_depth seen context.root,
      split.0,
      record {
        value = b.value;
        bucket = q;
        phase = split.1;
        depth = refl;
        directory = refl;
        deeper = omega (arith, deep, adding.unsplit_is refl);
        most = adding.most;
      },
    )

-- **From where a bucket is to be split.**
module _ (context : WalkContext) (At : WalkFields → Transaction → View → Type 0) (Puts : ℕ → Transaction → OwnStep → List OwnStep → Type 0)
    (outcome : (walk : WalkFields) (t : Transaction) (seen : View) (step : OwnStep) → At walk t seen → steps_to_bucket walk.phase ≡ 0 → view_in t step.old ≡ seen
    → TellsOfTransaction (context_at (one_key context) step) t step.after step.old step.new step.told → SplitOutcome (one_key context) At Puts walk t step) where
  pub splits_and_puts : (steps : List OwnStep) (walk : WalkFields) (t : Transaction) (seen : View) (l g d : ℕ)
      → At walk t seen → IsToSplit (one_key context) seen walk l g d → AreOwnSteps (one_key context) t seen steps → SplitsAndPutsOrNot (one_key context) l g d Puts steps
  splits_and_puts steps walk t seen l g d here plan own =
      let depths : Depths = record { room = d; bucket = l; directory = g } in
      let m : ℕ = 3 * (d - l) + extra_of_splits (d - l) l g in
      let all = of_splits (d - l) l g in
      let left : steps_to_put context.root walk seen ≡ steps_of_splits (d - l) l g =
      ap (λ (x : Phase). steps_to_put_at x context.root walk seen) plan.phase ∙ (λ i. steps_of_splits (d - plan.depth i) (plan.depth i) (plan.directory i)) in
      elim (puts_or_not context At Puts depths outcome steps 0 m walk t seen (record {
        is = here;
        there = ap steps_to_bucket plan.phase;
        left = omega (arith, left, all);
        depths_is = ap (λ (x : Phase). depths_at x context.root walk seen) plan.phase ∙ (λ i. Some (record { room = d; bucket = plan.depth i; directory = plan.directory i }));
        few = omega (arith, plan.deeper);
        within = omega (arith, all);
        fresh = λ same. subst IsUnsplit (sym plan.phase) tt;
      }) own) [
        | inl not ↦ inr (subst (λ (n : ℕ). GoesUpTo n IsRefusal (answers_of steps)) (omega arith) not)
        | inr (k, some, few, n, count, turn) ↦
            let is : n ≡ 1 + 3 * k + extra_of_splits k l g = omega (arith, count, all) in
            inl (record { k = k; some = some; few = few; puts = subst (λ (n : ℕ). GoesToTurn (one_key context) n (Puts (l + k)) steps) is turn })
      ]
