-- Where a pair stands behind its changes
use Rattle.std.proofs.Common.{◌≡◌, ◌≢◌, ◌⊎◌, ℕ, ◌<◌, ◌≤◌, true, Option, None, Some, refl, sym, ap, subst, ◌∙◌, inl, inr, arith, nat_cmp}
use Rattle.std.specs.FinMap as map
use Rattle.std.specs.FinSet as set
use Rattle.mlt_hash_pair.proofs.Names.{Exclusive, Page, BucketFields, Modes, can_write, own_or_clean, MayStep, LocalState, WritesAtMost, ReadsHeldBucket, View, WritesSlot, view_of, WriteFields, HasChanged, IsHolding, OwesChange, OwesIf, TellsOfTwo, task_in, task_of, HoldsDescents, IsFinding, IsFound, PairFields, later_of, FitsFound, IsPlan, HasRead, IsLocked, IsThere, found_of, page_of, MayPlan, TellsOfOne, Descent, ChangeAnswer, Side, PairChanges, RecordChange}
use Rattle.mlt_hash_access.{specs.Views.IsUnwritten, proofs.Views.may_write, proofs.Views.write_writes}
use Rattle.mlt_hash_pair.specs.Changes.{FitsBoth, HoldsOn, IsSide, MakesOwed, MayWriteEarlier, Owes, StandsBehind}
use Rattle.mlt_hash_pair.{specs.Pairs.later_page, proofs.Makes.second_is_not_third, proofs.Together.later_left, proofs.Together.later_right, proofs.Readings.read_still, proofs.Slots.fits_slots, proofs.Slots.plan_number}

-- **A pair that has found its keys may plan the changes that fit what was found.**
pub may_plan : (bits : ℕ → ℕ) (root key : ℕ) (view : View) (descent : Descent) (asked : Option RecordChange) → IsThere descent → HasRead bits root key view descent → IsUnwritten view → FitsFound asked (found_of descent) → MayPlan asked key (page_of descent) view
may_plan bits root key view (Descent.AtBucket dir bucket found) asked there read none fits = (read.fields, (Some (Page.Bucket read.fields), read.at, ap (λ own. own_or_clean own (Some (Page.Bucket read.fields))) (none bucket)), fits_slots asked key read.fields.slots found read.found_is fits)
may_plan bits root key view descent asked there read none fits = absurd there

-- it holds both buckets exclusively
there_locked : (root : ℕ) (descent : Descent) → IsThere descent → IsLocked root descent (page_of descent) Exclusive
there_locked root (Descent.AtBucket dir bucket found) there = inr (refl, refl)
there_locked root descent there = absurd there

pub left_held : (root : ℕ) (left right : Descent) (m : LocalState) → IsThere left → HoldsDescents root left right (view_of m) → can_write m.locks m.running.tx (page_of left) ≡ true
left_held root left right m there holds = may_write m (page_of left) ((holds (page_of left) Exclusive).1 (inl (there_locked root left there)))

pub right_held : (root : ℕ) (left right : Descent) (m : LocalState) → IsThere right → HoldsDescents root left right (view_of m) → can_write m.locks m.running.tx (page_of right) ≡ true
right_held root left right m there holds = may_write m (page_of right) ((holds (page_of right) Exclusive).1 (inr (there_locked root right there)))

-- what one bucket tells, told of the pair
pub one_tells : (told : ChangeAnswer) (active : set.FinSet nat_cmp) (old new : LocalState) (before after : PairFields) (q left_page right_page : ℕ) (changes : PairChanges) → q ≡ left_page → q ≡ right_page → after ≡ before
    → TellsOfOne (task_in active before.left before.right q changes) old new told → TellsOfTwo (task_of active before left_page right_page changes) old new before after told
one_tells told active old new before after q left_page right_page changes is_left is_right stays tells =
    subst (λ p. TellsOfTwo (task_of active before p right_page changes) old new before after told) is_left (subst (λ p. TellsOfTwo (task_of active before q p changes) old new before after told) is_right (go told tells))
  where
    go : (told : ChangeAnswer) → TellsOfOne (task_in active before.left before.right q changes) old new told → TellsOfTwo (task_of active before q q changes) old new before after told
    go ChangeAnswer.Changed tells = (record { mid = tells.0; left = tells.1; right = tells.2; no_left = λ lt. absurd (omega (arith, lt)); no_right = λ lt. absurd (omega (arith, lt)) }, stays)
    go ChangeAnswer.OneLeft tells = absurd tells
    go (ChangeAnswer.Full Side.Left) tells = (tells.0, tells.1, stays)
    go (ChangeAnswer.Full Side.Right) tells = (record { mid = tells.0.0; left = tells.0.1; right = tells.0.2 }, tells.1, stays)

pub one_later : (left_page right_page q : ℕ) → q ≡ left_page → q ≡ right_page → q ≡ later_of left_page right_page
one_later left_page right_page q is_left is_right = is_left ∙ sym (later_left left_page right_page (omega (arith, is_left, is_right)))

-- what a view is once one page is written at most
record WritesOne (old new : View) (q : ℕ) : Type 0 where
  pub modes : new.modes ≡ old.modes
  pub seen : (p : ℕ) → new.seen p ≡ old.seen p
  pub others : (p : ℕ) → p ≢ q → new.own p ≡ old.own p

writes_one : (old new : LocalState) (q : ℕ) → WritesAtMost old new q → WritesOne (view_of old) (view_of new) q
writes_one old new q (inl same) = record { modes = ap (λ m. (view_of m).modes) same; seen = λ p. ap (λ m. (view_of m).seen p) same; others = λ p ne. ap (λ m. (view_of m).own p) same }
writes_one old new q (inr write) = let writes = write_writes old new q write.0 write.1 in record { modes = writes.modes; seen = writes.seen; others = writes.others }

-- what is read of a page that is not written is what was seen
read_is_seen : (view : View) (q : ℕ) (bucket : BucketFields) → IsUnwritten view → ReadsHeldBucket view q bucket → view.seen q ≡ Some (Some (Page.Bucket bucket))
read_is_seen view q bucket none reads = reads.1 ∙ ap Some (sym (ap (λ own. own_or_clean own reads.0) (none q)) ∙ reads.2)

module _ (bits : ℕ → ℕ) (root : ℕ) (active : set.FinSet nat_cmp) (old new : LocalState) (before : PairFields) (finding : IsFinding bits root before (view_of old)) (found : IsFound before) (writes : WritesAtMost old new (later_page before)) where
  one : WritesOne (view_of old) (view_of new) (later_page before)
  one = writes_one old new (later_page before) writes

  holding : IsHolding bits root before (view_of new)
  holding = record {
    left = read_still bits root before.left (view_of old) (view_of new) before.left_descent (λ q first sees. one.seen q ∙ sees) finding.left;
    right = read_still bits root before.right (view_of old) (view_of new) before.right_descent (λ q first sees. one.seen q ∙ sees) finding.right;
    holds = λ q mode. (λ held. (finding.holds q mode).0 (sym (ap (λ (modes : Modes). map.get modes q) one.modes) ∙ held), λ locked. ap (λ (modes : Modes). map.get modes q) one.modes ∙ (finding.holds q mode).1 locked);
    few = let same = ap map.len one.modes in let few = finding.few in omega (arith, same, few);
  }

  unwritten : (q : ℕ) → q ≢ later_page before → (view_of new).own q ≡ None
  unwritten q ne = one.others q ne ∙ finding.unwritten q

  stands_with : (owed : Option WriteFields) → OwesIf owed active old.running.tx before (view_of new) → HasChanged bits root active old.running.tx (record before { owed = owed }) (view_of new)
  stands_with owed owes = record { found = found; holding = record { left = holding.left; right = holding.right; holds = holding.holds; few = holding.few }; unwritten = unwritten; owes = owes_as owed owes }
    where
      owes_as : (o : Option WriteFields) → OwesIf o active old.running.tx before (view_of new) → OwesIf o active old.running.tx (record before { owed = owed }) (view_of new)
      owes_as None owes = tt
      owes_as (Some write) owes = record { key = owes.key; change = owes.change; planners = owes.planners; bucket = owes.bucket; side = owes.side; earlier = owes.earlier; seen = owes.seen; plan = owes.plan; fewer = owes.fewer }

  stands_done : HasChanged bits root active old.running.tx before (view_of new)
  stands_done = subst (λ o. HasChanged bits root active old.running.tx (record before { owed = o }) (view_of new)) (sym finding.none_owed) (stands_with None tt)

  -- the change that is owed
  owes_it : (asked : Option RecordChange) (key q : ℕ) (owed : Option WriteFields) → ((key ≡ before.left) × (q ≡ page_of before.left_descent)) ⊎ ((key ≡ before.right) × (q ≡ page_of before.right_descent)) → q ≢ later_page before → OwesChange asked active old.running.tx key q (view_of old) owed
      → HasChanged bits root active old.running.tx (record before { owed = owed }) (view_of new)
  owes_it asked key q owed own ne owes =
      let number = (plan_number owes.change active old.running.tx key q owes.bucket owes.write owes.plan).0 in
      subst (λ o. HasChanged bits root active old.running.tx (record before { owed = o }) (view_of new)) (sym owes.owed_is)
      (stands_with (Some owes.write) (record {
        key = key;
        change = owes.change;
        planners = active;
        bucket = owes.bucket;
        side = subst (λ n. ((key ≡ before.left) × (n ≡ page_of before.left_descent)) ⊎ ((key ≡ before.right) × (n ≡ page_of before.right_descent))) (sym number) own;
        earlier = λ same. ne (sym number ∙ same);
        seen = one.seen owes.write.number ∙ ap (view_of old).seen number ∙ read_is_seen (view_of old) q owes.bucket finding.unwritten owes.reads;
        plan = subst (λ n. IsPlan owes.change active old.running.tx key n owes.bucket owes.write) (sym number) owes.plan;
        fewer = λ i kept. kept;
      }))

  -- **A pair that has made its changes stands where it stood, with the change of the earlier bucket owed or nothing.**
  pub stands_behind : (told : ChangeAnswer) (after : PairFields) (changes : PairChanges) → TellsOfTwo (task_of active before (page_of before.left_descent) (page_of before.right_descent) changes) old new before after told → StandsBehind told bits root active old.running.tx after (view_of new)
  stands_behind ChangeAnswer.Changed after changes tells = subst (λ p. HasChanged bits root active old.running.tx p (view_of new)) (sym tells.1) stands_done
  stands_behind ChangeAnswer.OneLeft after changes tells =
      subst (λ p. HasChanged bits root active old.running.tx p (view_of new)) (sym tells.1)
      (elim tells.0 [
        | inl leaves ↦ owes_it changes.left before.left (page_of before.left_descent) after.owed (inl (refl, refl))
            (λ same. let later = later_right (page_of before.left_descent) (page_of before.right_descent) leaves.earlier in let low = leaves.earlier in let both : page_of before.left_descent ≡ page_of before.right_descent = same ∙ later in omega (arith, low, both)) leaves.owes
        | inr leaves ↦ owes_it changes.right before.right (page_of before.right_descent) after.owed (inr (refl, refl))
            (λ same. let low = leaves.earlier in let le : page_of before.right_descent ≤ page_of before.left_descent = omega (arith, low) in let both : page_of before.right_descent ≡ page_of before.left_descent = same ∙ later_left (page_of before.left_descent) (page_of before.right_descent) le in omega (arith, low, both)) leaves.owes
      ])
  stands_behind (ChangeAnswer.Full which) after changes tells = tt

-- what is asked of both buckets, by their pages
module _ (bits : ℕ → ℕ) (root : ℕ) (pair : PairFields) (m : LocalState) (finding : IsFinding bits root pair (view_of m)) (found : IsFound pair) where
  pub left_fits : (changes : PairChanges) (q : ℕ) → q ≡ page_of pair.left_descent → FitsBoth changes pair → MayPlan changes.left pair.left q (view_of m)
  left_fits changes q is fits = subst (λ q. MayPlan changes.left pair.left q (view_of m)) (sym is) (may_plan bits root pair.left (view_of m) pair.left_descent changes.left found.0 finding.left finding.unwritten fits.0)

  pub right_fits : (changes : PairChanges) (q : ℕ) → q ≡ page_of pair.right_descent → FitsBoth changes pair → MayPlan changes.right pair.right q (view_of m)
  right_fits changes q is fits = subst (λ q. MayPlan changes.right pair.right q (view_of m)) (sym is) (may_plan bits root pair.right (view_of m) pair.right_descent changes.right found.1 finding.right finding.unwritten fits.1)

  pub left_writes : (q : ℕ) → q ≡ page_of pair.left_descent → can_write m.locks m.running.tx q ≡ true
  left_writes q is = ap (can_write m.locks m.running.tx) is ∙ left_held root pair.left_descent pair.right_descent m found.0 finding.holds

  pub right_writes : (q : ℕ) → q ≡ page_of pair.right_descent → can_write m.locks m.running.tx q ≡ true
  right_writes q is = ap (can_write m.locks m.running.tx) is ∙ right_held root pair.left_descent pair.right_descent m found.1 finding.holds

-- the change that is owed, where one is
owes_some : (owed : Option WriteFields) (write : WriteFields) (active : set.FinSet nat_cmp) (tx : ℕ) (pair : PairFields) (view : View) → owed ≡ Some write → OwesIf owed active tx pair view → Owes active tx pair view write
owes_some owed write active tx pair view is owes = subst (λ o. OwesIf o active tx pair view) is owes

side_held : (pair : PairFields) (m : LocalState) (bits : ℕ → ℕ) (root key q : ℕ) → IsFound pair → IsHolding bits root pair (view_of m) → IsSide pair key q → can_write m.locks m.running.tx q ≡ true
side_held pair m bits root key q found holding (inl left) = ap (can_write m.locks m.running.tx) left.1 ∙ left_held root pair.left_descent pair.right_descent m found.0 holding.holds
side_held pair m bits root key q found holding (inr right) = ap (can_write m.locks m.running.tx) right.1 ∙ right_held root pair.left_descent pair.right_descent m found.1 holding.holds

-- The last step
module _ (m : LocalState) (pair : PairFields) (write : WriteFields) (is : pair.owed ≡ Some write) (ready : MayWriteEarlier m.running.tx pair (view_of m)) where
  owes : Owes ready.2 m.running.tx pair (view_of m) write
  owes = owes_some pair.owed write ready.2 m.running.tx pair (view_of m) is ready.3.owes

  -- the earlier bucket is held exclusively,
  pub earlier_held : can_write m.locks m.running.tx write.number ≡ true
  earlier_held = side_held pair m ready.0 ready.1 owes.key write.number ready.3.found ready.3.holding owes.side

  -- and reads as it was read
  reads_as : (active : set.FinSet nat_cmp) (this : Owes active m.running.tx pair (view_of m) write) → ReadsHeldBucket (view_of m) write.number this.bucket
  reads_as active this = (Some (Page.Bucket this.bucket), this.seen, ap (λ own. own_or_clean own (Some (Page.Bucket this.bucket))) (ready.3.unwritten write.number this.earlier))

  pub earlier_reads : (bucket : BucketFields) × ReadsHeldBucket (view_of m) write.number bucket
  earlier_reads = (owes.bucket, reads_as ready.2 owes)

  pub earlier_within : write.at < 8
  earlier_within = (plan_number owes.change owes.planners m.running.tx owes.key write.number owes.bucket write owes.plan).1

  -- so its write is the second at most
  pub earlier_not_third : MayStep m → 2 ≤ map.len m.running.images → ⊥
  earlier_not_third may third = second_is_not_third m (later_page pair) may ready.3.unwritten third

  -- and makes the change that is owed
  pub earlier_makes : (new : View) → WritesSlot (view_of m) new write.number write.at write.slot → MakesOwed m.running.tx pair (view_of m) new
  earlier_makes new writes active other other_is this =
      let same : Some write ≡ Some other = sym is ∙ other_is in
      let one : write ≡ other = cc in
      let mine : Owes active m.running.tx pair (view_of m) write = subst (Owes active m.running.tx pair (view_of m)) (sym one) this in
      record {
        bucket = this.bucket;
        reads = (Some (Page.Bucket this.bucket), this.seen, ap (λ own. own_or_clean own (Some (Page.Bucket this.bucket))) (ready.3.unwritten other.number this.earlier));
        write = other;
        plan = this.plan;
        writes = subst (λ (w : WriteFields). WritesSlot (view_of m) new w.number w.at w.slot) one writes this.bucket (Some (Page.Bucket this.bucket), this.seen, ap (λ own. own_or_clean own (Some (Page.Bucket this.bucket))) (ready.3.unwritten other.number this.earlier));
      }

  -- while what was read and held stays so
  pub earlier_holds : (new : View) → WritesSlot (view_of m) new write.number write.at write.slot → HoldsOn pair (view_of m) new
  earlier_holds new writes bits root holding =
      let one = writes owes.bucket (reads_as ready.2 owes) in
      record {
        left = read_still bits root pair.left (view_of m) new pair.left_descent (λ q first sees. one.seen q ∙ sees) holding.left;
        right = read_still bits root pair.right (view_of m) new pair.right_descent (λ q first sees. one.seen q ∙ sees) holding.right;
        holds = λ q mode. (λ held. (holding.holds q mode).0 (sym (ap (λ (modes : Modes). map.get modes q) one.modes) ∙ held), λ locked. ap (λ (modes : Modes). map.get modes q) one.modes ∙ (holding.holds q mode).1 locked);
        few = let same = ap map.len one.modes in let few = holding.few in omega (arith, same, few);
      }
