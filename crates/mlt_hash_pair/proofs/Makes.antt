-- What is planned, and what its write makes of a view
use Rattle.std.proofs.Common.{◌≡◌, ◌≢◌, ◌⊎◌, ℕ, ◌<◌, ◌≤◌, true, Option, None, Some, cond, refl, sym, ap, subst, ◌∙◌, inl, inr, arith, IsSome, ◌==◌, nat_cmp, eq-eqb, ne_eqb}
use Rattle.std.specs.Cmp.{nat_cmp_total}
use Rattle.std.specs.FinMap as map
use Rattle.std.specs.FinSet as set
use Rattle.mlt_hash_pair.proofs.Names.{cases_eq, cond-false, cond-true, false≢true, Page, BucketFields, own_or_clean, MayStep, LocalState, WritesAtMost, IsSameView, ReadsHeldBucket, View, WritesPage, view_of, WriteFields, planned_page, OwesChange, TellsOfTwo, task_in, task_of, PairFields, later_of, FitsSlots, IsPlanned, bucket_after, can_write, MayWrite, TellsOfOne, WritesPlan, ChangeAnswer, Side, PairChanges, RecordChange, SlotPlan}
use Rattle.mlt_page_locks.proofs.Maps.{get_removed, same_entries}
use Rattle.mlt_page_subtx.specs.Images.{Images, image_of}
use Rattle.mlt_hash_access.proofs.Unwritten.{unwritten_image}
use Rattle.mlt_hash_pair.{specs.Changes.IsFull, specs.Changes.MakesAsked, specs.Writing.HasPlan, specs.Writing.OwesPlan, proofs.Together.later_left, proofs.Together.later_right, proofs.Slots.fits_after, proofs.Slots.plan_number}

-- **The write of a transaction that has written one page alone is not its third.**
pub second_is_not_third : (m : LocalState) (n : ℕ) → MayStep m → ((q : ℕ) → q ≢ n → (view_of m).own q ≡ None) → 2 ≤ map.len m.running.images → ⊥
second_is_not_third m n may none third =
    let others : (q : ℕ) → map.get (map.remove m.running.images n) q ≡ None = λ q. elim (cases_eq q n) [
      | inl here ↦ get_removed m.running.images n q ∙ cond-true (q == n) None (image_of m.running.images q) (eq-eqb q n here)
      | inr elsewhere ↦ get_removed m.running.images n q ∙ cond-false (q == n) None (image_of m.running.images q) (ne_eqb q n elsewhere) ∙ unwritten_image m q (image_of m.running.images q) refl may (none q elsewhere)
    ] in
    let empty : map.remove m.running.images n ≡ map.empty = same_entries (map.remove m.running.images n) map.empty (λ q. others q ∙ sym (map.get-empty {X = Option Page} nat_cmp q)) in
    let few : map.len (map.remove m.running.images n) ≡ 0 = ap (λ (images : Images). map.len images) empty ∙ map.len-empty nat_cmp (Option Page) in
    grind (arith, few, third, map.len-remove nat_cmp_total m.running.images n)

-- the same view
pub same_view : (old new : LocalState) → new ≡ old → IsSameView (view_of old) (view_of new)
same_view old new same = record { modes = ap (λ m. (view_of m).modes) same; seen = λ q. ap (λ m. (view_of m).seen q) same; own = λ q. ap (λ m. (view_of m).own q) same }

unchanged : (view : View) → IsSameView view view
unchanged view = record { modes = refl; seen = λ q. refl; own = λ q. refl }

-- a plan that may not be full
abbrev IsRoomy : SlotPlan → Type 0
IsRoomy this = this ≡ SlotPlan.Full → ⊥

module _ (active : set.FinSet nat_cmp) (tx key q : ℕ) (asked : Option RecordChange) (bucket : BucketFields) where
  -- **What is planned and written makes what is asked for.**
  pub makes_asked : (this : SlotPlan) (old new : LocalState) → IsRoomy this → IsPlanned this asked active tx key q bucket → ReadsHeldBucket (view_of old) q bucket → WritesPlan this old new → MakesAsked asked active tx key q (view_of old) (view_of new)
  makes_asked SlotPlan.Nothing old new roomy none reads same = subst (λ asked. MakesAsked asked active tx key q (view_of old) (view_of new)) (sym none) (same_view old new same)
  makes_asked (SlotPlan.Set write) old new roomy planned reads writes =
      let number = (plan_number planned.0 active tx key q bucket write planned.2).0 in
      subst (λ asked. MakesAsked asked active tx key q (view_of old) (view_of new)) (sym planned.1) (record {
        bucket = bucket;
        reads = reads;
        write = write;
        plan = planned.2;
        writes = subst (λ n. WritesPage (view_of old) (view_of new) n (planned_page bucket write)) number (writes.1 bucket (subst (λ n. ReadsHeldBucket (view_of old) n bucket) (sym number) reads));
      })
  makes_asked SlotPlan.Full old new roomy none reads same = absurd (roomy refl)

  -- and one that is not written is owed
  owes_asked : (write : WriteFields) (view : View) → IsPlanned (SlotPlan.Set write) asked active tx key q bucket → ReadsHeldBucket view q bucket → OwesChange asked active tx key q view (Some write)
  owes_asked write view planned reads = record { change = planned.0; asked_is = planned.1; bucket = bucket; reads = reads; write = write; owed_is = refl; plan = planned.2 }

  pub full_asked : (view : View) → IsPlanned SlotPlan.Full asked active tx key q bucket → ReadsHeldBucket view q bucket → IsFull asked active tx key q view
  full_asked view planned reads = record { change = planned.0; asked_is = planned.1; bucket = bucket; reads = reads; none = planned.2 }

  -- the view with the plan in it
  abbrev pub mid_of : SlotPlan → View → View
  mid_of SlotPlan.Nothing view = view
  mid_of (SlotPlan.Set write) view = record view { own = λ p. cond (p == q) (Some (planned_page bucket write)) (view.own p) }
  mid_of SlotPlan.Full view = view

  here_is : (write : WriteFields) (view : View) → (mid_of (SlotPlan.Set write) view).own q ≡ Some (planned_page bucket write)
  here_is write view = cond-true (q == q) (Some (planned_page bucket write)) (view.own q) (eq-eqb q q refl)

  others_are : (write : WriteFields) (view : View) (p : ℕ) → p ≢ q → (mid_of (SlotPlan.Set write) view).own p ≡ view.own p
  others_are write view p ne = cond-false (p == q) (Some (planned_page bucket write)) (view.own p) (ne_eqb p q ne)

  pub makes_mid : (this : SlotPlan) (view : View) → IsRoomy this → IsPlanned this asked active tx key q bucket → ReadsHeldBucket view q bucket → MakesAsked asked active tx key q view (mid_of this view)
  makes_mid SlotPlan.Nothing view roomy none reads = subst (λ asked. MakesAsked asked active tx key q view view) (sym none) (unchanged view)
  makes_mid (SlotPlan.Set write) view roomy planned reads = subst (λ asked. MakesAsked asked active tx key q view (mid_of (SlotPlan.Set write) view)) (sym planned.1) (record {
    bucket = bucket;
    reads = reads;
    write = write;
    plan = planned.2;
    writes = record { modes = refl; seen = λ p. refl; here = here_is write view; others = others_are write view };
  })
  makes_mid SlotPlan.Full view roomy none reads = absurd (roomy refl)

  pub mid_reads_here : (this : SlotPlan) (view : View) → ReadsHeldBucket view q bucket → ReadsHeldBucket (mid_of this view) q (bucket_after bucket this)
  mid_reads_here SlotPlan.Nothing view reads = reads
  mid_reads_here (SlotPlan.Set write) view reads = (reads.0, reads.1, ap (λ own. own_or_clean own reads.0) (here_is write view))
  mid_reads_here SlotPlan.Full view reads = reads

  mid_reads_other : (this : SlotPlan) (view : View) (p : ℕ) (other : BucketFields) → p ≢ q → ReadsHeldBucket view p other → ReadsHeldBucket (mid_of this view) p other
  mid_reads_other SlotPlan.Nothing view p other ne reads = reads
  mid_reads_other (SlotPlan.Set write) view p other ne reads = (reads.0, reads.1, ap (λ own. own_or_clean own reads.0) (others_are write view p ne) ∙ reads.2)
  mid_reads_other SlotPlan.Full view p other ne reads = reads

  -- a write of the page, on top of the plan
  pub mid_writes : (this : SlotPlan) (view new : View) (page : Page) → WritesPage view new q page → WritesPage (mid_of this view) new q page
  mid_writes SlotPlan.Nothing view new page writes = writes
  mid_writes (SlotPlan.Set write) view new page writes = record { modes = writes.modes; seen = writes.seen; here = writes.here; others = λ p ne. writes.others p ne ∙ sym (others_are write view p ne) }
  mid_writes SlotPlan.Full view new page writes = writes

  -- that leaves the page as planned is no change of it
  pub mid_same : (write : WriteFields) (view new : View) → WritesPage view new q (planned_page bucket write) → IsSameView (mid_of (SlotPlan.Set write) view) new
  mid_same write view new writes = record {
    modes = writes.modes;
    seen = writes.seen;
    own = λ p. elim (cases_eq p q) [
      | inl here ↦ ap new.own here ∙ writes.here ∙ sym (here_is write view) ∙ sym (ap (mid_of (SlotPlan.Set write) view).own here)
      | inr elsewhere ↦ writes.others p elsewhere ∙ sym (others_are write view p elsewhere)
    ];
  }

-- a plan of what is asked for is a write
set_if_asked : (this : SlotPlan) (asked : Option RecordChange) (active : set.FinSet nat_cmp) (tx key q : ℕ) (bucket : BucketFields) → IsRoomy this → IsPlanned this asked active tx key q bucket → IsSome asked → (write : WriteFields) × (this ≡ SlotPlan.Set write)
set_if_asked SlotPlan.Nothing asked active tx key q bucket roomy none some = absurd (false≢true (subst IsSome none some))
set_if_asked (SlotPlan.Set write) asked active tx key q bucket roomy planned some = (write, refl)
set_if_asked SlotPlan.Full asked active tx key q bucket roomy none some = absurd (roomy refl)

-- Both changes in one bucket
module _ (active : set.FinSet nat_cmp) (old : LocalState) (left right q : ℕ) (changes : PairChanges) (bucket : BucketFields) (reads : ReadsHeldBucket (view_of old) q bucket) (left_plan : SlotPlan) (left_roomy : IsRoomy left_plan)
    (left_planned : IsPlanned left_plan changes.left active old.running.tx left q bucket) where
  abbrev mid : View
  mid = mid_of active old.running.tx left q changes.left bucket left_plan (view_of old)

  left_made : MakesAsked changes.left active old.running.tx left q (view_of old) mid
  left_made = makes_mid active old.running.tx left q changes.left bucket left_plan (view_of old) left_roomy left_planned reads

  mid_reads : ReadsHeldBucket mid q (bucket_after bucket left_plan)
  mid_reads = mid_reads_here active old.running.tx left q changes.left bucket left_plan (view_of old) reads

  pub one_full : (new : LocalState) → new ≡ old → IsPlanned SlotPlan.Full changes.right active old.running.tx right q (bucket_after bucket left_plan) → TellsOfOne (task_in active left right q changes) old new (ChangeAnswer.Full Side.Right)
  one_full new same planned = ((mid, left_made, full_asked active old.running.tx right q changes.right (bucket_after bucket left_plan) mid planned mid_reads), same)

  right_made : (right_plan : SlotPlan) (new : View) → IsRoomy right_plan → IsPlanned right_plan changes.right active old.running.tx right q (bucket_after bucket left_plan) → (IsSome changes.left ⊎ IsSome changes.right)
      → WritesPage (view_of old) new q (Page.Bucket (bucket_after (bucket_after bucket left_plan) right_plan)) → MakesAsked changes.right active old.running.tx right q mid new
  right_made SlotPlan.Nothing new roomy none asked writes =
      subst (λ asked. MakesAsked asked active old.running.tx right q mid new) (sym none)
      (let some : IsSome changes.left = elim asked [
        | inl left ↦ left
        | inr right ↦ absurd (false≢true (subst IsSome none right))
      ] in
      let set = set_if_asked left_plan changes.left active old.running.tx left q bucket left_roomy left_planned some in
      subst (λ this. WritesPage (view_of old) new q (Page.Bucket (bucket_after bucket this)) → IsSameView (mid_of active old.running.tx left q changes.left bucket this (view_of old)) new) (sym set.1)
      (mid_same active old.running.tx left q changes.left bucket set.0 (view_of old) new) writes)
  right_made (SlotPlan.Set write) new roomy planned asked writes =
      subst (λ asked. MakesAsked asked active old.running.tx right q mid new) (sym planned.1) (record {
        bucket = bucket_after bucket left_plan;
        reads = mid_reads;
        write = write;
        plan = planned.2;
        writes = mid_writes active old.running.tx left q changes.left bucket left_plan (view_of old) new (planned_page (bucket_after bucket left_plan) write) writes;
      })
  right_made SlotPlan.Full new roomy planned asked writes = absurd (roomy refl)

  pub one_changed : (new : LocalState) (right_plan : SlotPlan) → IsRoomy right_plan → IsPlanned right_plan changes.right active old.running.tx right q (bucket_after bucket left_plan) → (IsSome changes.left ⊎ IsSome changes.right)
      → WritesPage (view_of old) (view_of new) q (Page.Bucket (bucket_after (bucket_after bucket left_plan) right_plan)) → TellsOfOne (task_in active left right q changes) old new ChangeAnswer.Changed
  one_changed new right_plan roomy planned asked writes = (mid, left_made, right_made right_plan (view_of new) roomy planned asked writes)

-- a plan that is written writes its page at most
writes_at_most : (this : SlotPlan) (asked : Option RecordChange) (active : set.FinSet nat_cmp) (tx key q : ℕ) (old new : LocalState) (bucket : BucketFields) → ReadsHeldBucket (view_of old) q bucket → IsRoomy this → IsPlanned this asked active tx key q bucket → WritesPlan this old new → WritesAtMost old new q
writes_at_most SlotPlan.Nothing asked active tx key q old new bucket reads roomy none same = inl same
writes_at_most (SlotPlan.Set write) asked active tx key q old new bucket reads roomy planned writes =
    let number = (plan_number planned.0 active tx key q bucket write planned.2).0 in
    subst (WritesAtMost old new) number (inr (planned_page bucket write, writes.0 bucket (subst (λ n. ReadsHeldBucket (view_of old) n bucket) (sym number) reads)))
writes_at_most SlotPlan.Full asked active tx key q old new bucket reads roomy none same = inl same

-- The changes in two buckets
module _ (active : set.FinSet nat_cmp) (old new : LocalState) (before after : PairFields) (left_page right_page : ℕ) (changes : PairChanges) (left_plan right_plan : SlotPlan)
    (left_has : HasPlan left_plan changes.left active old.running.tx before.left left_page (view_of old)) (right_has : HasPlan right_plan changes.right active old.running.tx before.right right_page (view_of old)) where
  module _ (apart : left_page ≢ right_page) (left_roomy : IsRoomy left_plan) where
    pub right_full : right_plan ≡ SlotPlan.Full → new ≡ old → after ≡ before → TellsOfTwo (task_of active before left_page right_page changes) old new before after (ChangeAnswer.Full Side.Right)
    right_full full same stays = (
      record {
        mid = mid_of active old.running.tx before.left left_page changes.left left_has.0 left_plan (view_of old);
        left = makes_mid active old.running.tx before.left left_page changes.left left_has.0 left_plan (view_of old) left_roomy left_has.2 left_has.1;
        right = full_asked active old.running.tx before.right right_page changes.right right_has.0 (mid_of active old.running.tx before.left left_page changes.left left_has.0 left_plan (view_of old))
            (subst (λ this. IsPlanned this changes.right active old.running.tx before.right right_page right_has.0) full right_has.2)
            (mid_reads_other active old.running.tx before.left left_page changes.left left_has.0 left_plan (view_of old) right_page right_has.0 (λ e. apart (sym e)) right_has.1);
      },
      same,
      stays,
    )

    module _ (right_roomy : IsRoomy right_plan) (told : ChangeAnswer) where
      -- the right bucket is the later one
      module _ (low : left_page < right_page) (writes : WritesPlan right_plan old new) (owes : OwesPlan left_plan before after told) where
        right_is_made : MakesAsked changes.right active old.running.tx before.right right_page (view_of old) (view_of new)
        right_is_made = makes_asked active old.running.tx before.right right_page changes.right right_has.0 right_plan old new right_roomy right_has.2 right_has.1 writes

        tells_left : (this : SlotPlan) → this ≡ left_plan → IsPlanned this changes.left active old.running.tx before.left left_page left_has.0 → OwesPlan this before after told → TellsOfTwo (task_of active before left_page right_page changes) old new before after told
        tells_left SlotPlan.Nothing is none owes = subst (TellsOfTwo (task_of active before left_page right_page changes) old new before after) (sym owes.1) (
          record {
            mid = view_of old;
            left = subst (λ asked. MakesAsked asked active old.running.tx before.left left_page (view_of old) (view_of old)) (sym none) (unchanged (view_of old));
            right = right_is_made;
            no_left = λ lt. none;
            no_right = λ lt. absurd (omega (arith, low, lt));
          },
          owes.0,
        )
        tells_left (SlotPlan.Set write) is planned owes = subst (TellsOfTwo (task_of active before left_page right_page changes) old new before after) (sym owes.1) (
          inl (record {
            earlier = low;
            right = right_is_made;
            owes = subst (OwesChange changes.left active old.running.tx before.left left_page (view_of old)) (sym (ap (λ (p : PairFields). p.owed) owes.0)) (owes_asked active old.running.tx before.left left_page changes.left left_has.0 write (view_of old) planned left_has.1);
          }),
          owes.0 ∙ ap (λ (o : Option WriteFields). record before { owed = o }) (sym (ap (λ (p : PairFields). p.owed) owes.0)),
        )
        tells_left SlotPlan.Full is none owes = absurd (left_roomy (sym is))

        pub tells_right_later : TellsOfTwo (task_of active before left_page right_page changes) old new before after told
        tells_right_later = tells_left left_plan refl left_has.2 owes

        pub writes_right_later : WritesAtMost old new (later_of left_page right_page)
        writes_right_later = subst (WritesAtMost old new) (sym (later_right left_page right_page low)) (writes_at_most right_plan changes.right active old.running.tx before.right right_page old new right_has.0 right_has.1 right_roomy right_has.2 writes)

      -- the left one is
      module _ (low : right_page < left_page) (writes : WritesPlan left_plan old new) (owes : OwesPlan right_plan before after told) where
        left_is_made : MakesAsked changes.left active old.running.tx before.left left_page (view_of old) (view_of new)
        left_is_made = makes_asked active old.running.tx before.left left_page changes.left left_has.0 left_plan old new left_roomy left_has.2 left_has.1 writes

        tells_right : (this : SlotPlan) → this ≡ right_plan → IsPlanned this changes.right active old.running.tx before.right right_page right_has.0 → OwesPlan this before after told → TellsOfTwo (task_of active before left_page right_page changes) old new before after told
        tells_right SlotPlan.Nothing is none owes = subst (TellsOfTwo (task_of active before left_page right_page changes) old new before after) (sym owes.1) (
          record {
            mid = view_of new;
            left = left_is_made;
            right = subst (λ asked. MakesAsked asked active old.running.tx before.right right_page (view_of new) (view_of new)) (sym none) (unchanged (view_of new));
            no_left = λ lt. absurd (omega (arith, low, lt));
            no_right = λ lt. none;
          },
          owes.0,
        )
        tells_right (SlotPlan.Set write) is planned owes = subst (TellsOfTwo (task_of active before left_page right_page changes) old new before after) (sym owes.1) (
          inr (record {
            earlier = low;
            left = left_is_made;
            owes = subst (OwesChange changes.right active old.running.tx before.right right_page (view_of old)) (sym (ap (λ (p : PairFields). p.owed) owes.0)) (owes_asked active old.running.tx before.right right_page changes.right right_has.0 write (view_of old) planned right_has.1);
          }),
          owes.0 ∙ ap (λ (o : Option WriteFields). record before { owed = o }) (sym (ap (λ (p : PairFields). p.owed) owes.0)),
        )
        tells_right SlotPlan.Full is none owes = absurd (right_roomy (sym is))

        pub tells_left_later : TellsOfTwo (task_of active before left_page right_page changes) old new before after told
        tells_left_later = tells_right right_plan refl right_has.2 owes

        pub writes_left_later : WritesAtMost old new (later_of left_page right_page)
        writes_left_later = let le : right_page ≤ left_page = omega (arith, low) in subst (WritesAtMost old new) (sym (later_left left_page right_page le)) (writes_at_most left_plan changes.left active old.running.tx before.left left_page old new left_has.0 left_has.1 left_roomy left_has.2 writes)

-- the same plan, of a key that is known otherwise
pub plan_for : (this : SlotPlan) (asked : Option RecordChange) (active : set.FinSet nat_cmp) (tx key key' q : ℕ) (view : View) → key ≡ key' → HasPlan this asked active tx key q view → HasPlan this asked active tx key' q view
plan_for this asked active tx key key' q view same has = subst (λ key. HasPlan this asked active tx key q view) same has

-- **What is planned on a page that is held exclusively may be written.**
pub may_write_plan : (this : SlotPlan) (asked : Option RecordChange) (active : set.FinSet nat_cmp) (key q : ℕ) (m : LocalState) → can_write m.locks m.running.tx q ≡ true → HasPlan this asked active m.running.tx key q (view_of m) → MayWrite this m
may_write_plan SlotPlan.Nothing asked active key q m held has = tt
may_write_plan (SlotPlan.Set write) asked active key q m held has =
    let number = (plan_number has.2.0 active m.running.tx key q has.0 write has.2.2).0 in
    (ap (can_write m.locks m.running.tx) number ∙ held, (has.0, subst (λ n. ReadsHeldBucket (view_of m) n has.0) (sym number) has.1))
may_write_plan SlotPlan.Full asked active key q m held has = tt

-- a page that is held reads as one bucket
pub one_reading : (view : View) (q : ℕ) (a b : BucketFields) → ReadsHeldBucket view q a → ReadsHeldBucket view q b → a ≡ b
one_reading view q a b reads reads' =
    let firsts : ◌≡◌ {A = Option (Option Page)} (Some reads.0) (Some reads'.0) = sym reads.1 ∙ reads'.1 in
    let first : reads.0 ≡ reads'.0 = cc in
    let pages : Some (Page.Bucket a) ≡ Some (Page.Bucket b) = sym reads.2 ∙ ap (own_or_clean (view.own q)) first ∙ reads'.2 in
    cc

-- **What fits the bucket of the right key fits it with the left one's plan in it.**
pub fits_between : (this : SlotPlan) (asked other : Option RecordChange) (active : set.FinSet nat_cmp) (tx left right q : ℕ) (bucket : BucketFields) → left ≢ right → IsPlanned this asked active tx left q bucket → FitsSlots other right bucket.slots → FitsSlots other right (bucket_after bucket this).slots
fits_between SlotPlan.Nothing asked other active tx left right q bucket apart none fits = fits
fits_between (SlotPlan.Set write) asked other active tx left right q bucket apart planned fits = fits_after other planned.0 active tx left right q bucket write apart planned.2 fits
fits_between SlotPlan.Full asked other active tx left right q bucket apart none fits = fits
