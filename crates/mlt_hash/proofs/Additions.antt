-- An addition in place: in the slot of the transaction's own ghost, or in one with room
use Rattle.std.proofs.Common.{◌≡◌, ℕ, Bool, true, false, List, Option, Some, None, refl, sym, ap, subst, ◌∙◌, inl, inr, position, slice_index_or}
use Rattle.mlt_hash.proofs.Names.{false≢true, Exclusive, is_ghost_of, is_kept, is_live_of, Slot, Free, Live, BucketFields, can_write, value_in, LocalState, ReadsHeldBucket, View, WritesPage, view_of, IsNowhere, SetsFirst, WriteFields, has_room, planned_page, slot_after, WalkContext, FoundBefore, Stands, StoodBefore, WalkFields, nothing_before, view_for, IsAtAbsent, IsAtBucketPhase, IsFull, Makes, PlansSlot, RevivesFirst, SeesBucket, TellsOfChange, TellsOfWrite, directory_depth_of, page_of, Change, WalkAnswer}
use Rattle.std.proofs.lemmas.{Bool.not-false, Bool.not-true, List.Elements.All-from_get_or, List.Sums.list_all-from_AllPass, List.Quantifiers.position-Some}
use Rattle.mlt_hash.specs.Changes.{FillsFirst, HasOwnGhost, TakesSlot, TellsOfAddition}
use Rattle.mlt_hash.proofs.InPlace.{ReadsBucket, WritesPlan, absent_at, at_bucket_without, found_there, makes_change, may_write_bucket, no_live_slot, plan_reads, plans_slot, same_bucket, write_cases}

-- where a search ends that finds nothing
pub nowhere_found : (has : Slot → Bool) (slots : List Slot) (place : Option ℕ) → position has slots ≡ place → IsNowhere has slots → place ≡ None
nowhere_found has slots None is nowhere = refl
nowhere_found has slots (Some i) is nowhere =
    let at = position-Some has slots i Free is in
    absurd (false≢true (sym (nowhere i at.0) ∙ at.1))

-- a walk that found no record of its key has none in its bucket
pub absent_value : (context : WalkContext) (walk : WalkFields) (view : View) (fields : BucketFields) → IsAtAbsent walk.phase → Stands walk.phase context walk view → SeesBucket walk view fields → value_in walk.key fields.slots ≡ None
absent_value context walk view fields none stands sees = found_there context walk view (page_of walk.phase) (directory_depth_of walk.phase) None fields (absent_at context walk view walk.phase none stands) sees.at

pub absent_from_bucket : (context : WalkContext) (walk : WalkFields) (view : View) (key : ℕ) (fields : BucketFields) → IsAtAbsent walk.phase → Stands walk.phase context walk view → SeesBucket walk view fields → key ≡ walk.key → position (is_live_of key) fields.slots ≡ None
absent_from_bucket context walk view key fields none stands sees key_is = no_live_slot key fields.slots (ap (λ k. value_in k fields.slots) key_is ∙ absent_value context walk view fields none stands sees)

own_ghost_nowhere : (context : WalkContext) (walk : WalkFields) (key owner : ℕ) (fields : BucketFields) → key ≡ walk.key → owner ≡ context.tx → IsNowhere (is_ghost_of key owner) fields.slots → position (is_ghost_of walk.key context.tx) fields.slots ≡ None
own_ghost_nowhere context walk key owner fields key_is own nowhere =
    (λ i. position (is_ghost_of (sym key_is i) (sym own i)) fields.slots) ∙ nowhere_found (is_ghost_of key owner) fields.slots (position (is_ghost_of key owner) fields.slots) refl nowhere

-- which is full where no slot has room and none has the transaction's own ghost
pub is_full : (context : WalkContext) (walk : WalkFields) (view : View) (key owner : ℕ) (fields : BucketFields) → SeesBucket walk view fields → key ≡ walk.key → owner ≡ context.tx → IsNowhere (is_ghost_of key owner) fields.slots → IsNowhere (has_room context.active) fields.slots → IsFull context walk view fields
is_full context walk view key owner fields sees key_is own nowhere full = record {
  sees = sees;
  no_ghost = own_ghost_nowhere context walk key owner fields key_is own nowhere;
  no_room = list_all-from_AllPass (is_kept context.active) fields.slots (All-from_get_or (λ s. is_kept context.active s ≡ true) fields.slots Free (λ i within. not-false (is_kept context.active (slice_index_or fields.slots i Free)) (full i within)));
}

-- a walk whose transaction left a ghost there has a plan of what to do with it,
pub ghost_has_plan : (context : WalkContext) (walk : WalkFields) (view : View) (key owner : ℕ) (fields : BucketFields) → HasOwnGhost context.tx walk view → SeesBucket walk view fields → key ≡ walk.key → owner ≡ context.tx → IsNowhere (is_ghost_of key owner) fields.slots → ⊥
ghost_has_plan context walk view key owner fields ghost sees key_is own nowhere =
    let same : ghost.0 ≡ fields = same_bucket (view.seen (page_of walk.phase)) ghost.0 fields ghost.2.at sees.at in
    let here : position (is_ghost_of key owner) fields.slots ≡ Some ghost.1 = (λ i. position (is_ghost_of (key_is i) (own i)) fields.slots) ∙ ap (λ (b : BucketFields). position (is_ghost_of walk.key context.tx) b.slots) (sym same) ∙ ghost.3 in
    let at = position-Some (is_ghost_of key owner) fields.slots ghost.1 Free here in
    false≢true (sym (nowhere ghost.1 at.0) ∙ at.1)

-- and may write it.
pub absent_may_write : (context : WalkContext) (walk : WalkFields) (old : LocalState) (number : ℕ) (fields : BucketFields) (has : Slot → Bool) (s : Slot) (write : WriteFields) → IsAtAbsent walk.phase → Stands walk.phase context walk (view_for context old) → walk.mode ≡ Exclusive
    → number ≡ page_of walk.phase → SetsFirst number fields has s write → can_write old.locks old.running.tx write.number ≡ true
absent_may_write context walk old number fields has s write none stands = may_write_bucket context walk old number (directory_depth_of walk.phase) None fields has s write (absent_at context walk (view_for context old) walk.phase none stands)

-- Its plan is one of what it reads.
pub absent_plans : (context : WalkContext) (walk : WalkFields) (old : LocalState) (number key : ℕ) (fields : BucketFields) (has : Slot → Bool) (s : Slot) (write : WriteFields) → IsAtAbsent walk.phase → (reads : ReadsBucket context walk old number key fields)
    → SetsFirst number fields has s write → PlansSlot (view_of old) write
absent_plans context walk old number key fields has s write none reads =
    plans_slot context walk old number (directory_depth_of walk.phase) None fields has s write reads.ready.written (absent_at context walk (view_for context old) walk.phase none reads.ready.stands) reads.sees reads.here

module _ (context : WalkContext) (walk after : WalkFields) (old new : LocalState) (number key : ℕ) (fields : BucketFields) (write : WriteFields) (result : WalkAnswer) (reads : ReadsBucket context walk old number key fields) (none : IsAtAbsent walk.phase) where
  -- the plan of a walk whose key had no record is the change of it
  absent_makes : (done : Change) (has : Slot → Bool) → FoundBefore done None → (plan : SetsFirst number fields has (slot_after done walk.key context.tx) write) → StoodBefore done context walk.key fields.slots (slice_index_or fields.slots plan.slot Free)
      → WritesPlan context walk after old new write done → Makes context new walk after done
  absent_makes done has fits plan was wrote =
      makes_change context walk after old new number (directory_depth_of walk.phase) None fields done has write reads.ready.bounded reads.ready.small (absent_at context walk (view_for context old) walk.phase none reads.ready.stands) reads.sees reads.here plan fits was wrote.writes wrote.walk_is

  no_value : value_in walk.key fields.slots ≡ None
  no_value = absent_value context walk (view_for context old) fields none reads.ready.stands reads.sees

  at_bucket : IsAtBucketPhase walk.phase
  at_bucket = at_bucket_without walk.phase none

  -- the plan of a revival is one of the walk's own key and transaction
  own_plan : (value owner : ℕ) → owner ≡ context.tx → SetsFirst number fields (is_ghost_of key owner) (Live key value) write → SetsFirst number fields (is_ghost_of walk.key context.tx) (Live walk.key value) write
  own_plan value owner own plan =
      let of_walk : SetsFirst number fields (is_ghost_of walk.key owner) (Live walk.key value) write = subst (λ k. SetsFirst number fields (is_ghost_of k owner) (Live k value) write) reads.key_is plan in
      subst (λ tx. SetsFirst number fields (is_ghost_of walk.key tx) (Live walk.key value) write) own of_walk

  revive_makes : (value owner : ℕ) → owner ≡ context.tx → SetsFirst number fields (is_ghost_of key owner) (Live key value) write → WritesPlan context walk after old new write (Change.Revive value) → Makes context new walk after (Change.Revive value)
  revive_makes value owner own plan wrote =
      let mine = own_plan value owner own plan in
      absent_makes (Change.Revive value) (is_ghost_of walk.key context.tx) refl mine (no_value, mine.was) wrote

  -- **A revival,**
  pub revive_tells : (value owner : ℕ) → owner ≡ context.tx → SetsFirst number fields (is_ghost_of key owner) (Live key value) write → TellsOfWrite old new walk after write (Change.Revive value) result → TellsOfChange context new walk after (Change.Revive value) result
  revive_tells value owner own plan told =
      write_cases context walk after old new write (Change.Revive value) reads.ready at_bucket (λ r. TellsOfChange context new walk after (Change.Revive value) r) result told (λ wrote. revive_makes value owner own plan wrote) (λ lacks. lacks)

  -- **an addition in the place of the transaction's own ghost,**
  pub revival_tells : (value owner : ℕ) → owner ≡ context.tx → SetsFirst number fields (is_ghost_of key owner) (Live key value) write → TellsOfWrite old new walk after write (Change.Revive value) result → TellsOfAddition context new walk after value result
  revival_tells value owner own plan told =
      write_cases context walk after old new write (Change.Revive value) reads.ready at_bucket (λ r. TellsOfAddition context new walk after value r) result told (λ wrote. inl (revive_makes value owner own plan wrote)) (λ lacks. lacks)

  -- **and one in a slot with room.**
  pub put_tells : (value owner : ℕ) → owner ≡ context.tx → IsNowhere (is_ghost_of key owner) fields.slots → SetsFirst number fields (has_room context.active) (Live key value) write → TellsOfWrite old new walk after write (Change.Put value) result → TellsOfAddition context new walk after value result
  put_tells value owner own nowhere plan told =
      let of_walk : SetsFirst number fields (has_room context.active) (Live walk.key value) write = subst (λ k. SetsFirst number fields (has_room context.active) (Live k value) write) reads.key_is plan in
      let no_ghost : position (is_ghost_of walk.key context.tx) fields.slots ≡ None = own_ghost_nowhere context walk key owner fields reads.key_is own nowhere in
      let free : is_kept context.active (slice_index_or fields.slots of_walk.slot Free) ≡ false = not-true (is_kept context.active (slice_index_or fields.slots of_walk.slot Free)) of_walk.was in
      write_cases context walk after old new write (Change.Put value) reads.ready at_bucket (λ r. TellsOfAddition context new walk after value r) result told
      (λ wrote. inr (absent_makes (Change.Put value) (has_room context.active) refl of_walk (no_value, no_ghost, free) wrote)) (λ lacks. lacks)

  -- The slot that its plan names is the first one with the property.
  fills : (has : Slot → Bool) (s : Slot) (done : Change) → (plan : SetsFirst number fields has s write) → WritesPlan context walk after old new write done → FillsFirst (view_for context old) (view_for context new) (page_of walk.phase) has s
  fills has s done plan wrote =
      let on : write.number ≡ page_of walk.phase = ap (λ (w : WriteFields). w.number) plan.written ∙ reads.here in
      let here : ReadsHeldBucket (view_for context old) write.number fields = plan_reads context walk (view_for context old) number (directory_depth_of walk.phase) None fields has s write (absent_at context walk (view_for context old) walk.phase none reads.ready.stands) reads.sees reads.here plan in
      record {
        bucket = fields;
        reads = subst (λ q. ReadsHeldBucket (view_for context old) q fields) on here;
        write = write;
        first = subst (λ q. SetsFirst q fields has s write) reads.here plan;
        writes = subst (λ q. WritesPage (view_for context old) (view_for context new) q (planned_page fields write)) on (wrote.writes fields here);
      }

  -- **A revival takes the first ghost,**
  revival_takes_first : (value owner : ℕ) → owner ≡ context.tx → SetsFirst number fields (is_ghost_of key owner) (Live key value) write → WritesPlan context walk after old new write (Change.Revive value) → RevivesFirst context.tx (view_for context old) (view_for context new) walk (page_of walk.phase) value
  revival_takes_first value owner own plan wrote = fills (is_ghost_of walk.key context.tx) (Live walk.key value) (Change.Revive value) (own_plan value owner own plan) wrote

  -- **as it does where the key is the walk's first,**
  pub first_revival : (value owner : ℕ) → owner ≡ context.tx → SetsFirst number fields (is_ghost_of key owner) (Live key value) write → context.before ≡ nothing_before → TellsOfWrite old new walk after write (Change.Revive value) result → RevivesFirst context.tx (view_for context old) (view_for context new) walk (page_of walk.phase) value
  first_revival value owner own plan anew told =
      write_cases context walk after old new write (Change.Revive value) reads.ready at_bucket (λ r. RevivesFirst context.tx (view_for context old) (view_for context new) walk (page_of walk.phase) value) result told (λ wrote. revival_takes_first value owner own plan wrote) (λ lacks. absurd (lacks.1 anew))

  -- **an addition too,**
  pub revival_takes : (value owner : ℕ) → owner ≡ context.tx → SetsFirst number fields (is_ghost_of key owner) (Live key value) write → TellsOfWrite old new walk after write (Change.Revive value) result → TakesSlot result context (view_for context old) (view_for context new) walk value
  revival_takes value owner own plan told =
      write_cases context walk after old new write (Change.Revive value) reads.ready at_bucket (λ r. TakesSlot r context (view_for context old) (view_for context new) walk value) result told (λ wrote. inl (revival_takes_first value owner own plan wrote)) (λ lacks. tt)

  -- **and where there is none, the lowest slot with room.**
  pub put_takes : (value owner : ℕ) → owner ≡ context.tx → IsNowhere (is_ghost_of key owner) fields.slots → SetsFirst number fields (has_room context.active) (Live key value) write → TellsOfWrite old new walk after write (Change.Put value) result → TakesSlot result context (view_for context old) (view_for context new) walk value
  put_takes value owner own nowhere plan told =
      let of_walk : SetsFirst number fields (has_room context.active) (Live walk.key value) write = subst (λ k. SetsFirst number fields (has_room context.active) (Live k value) write) reads.key_is plan in
      let no_ghost : HasOwnGhost context.tx walk (view_for context old) → ⊥ = λ ghost. ghost_has_plan context walk (view_for context old) key owner fields ghost reads.sees reads.key_is own nowhere in
      write_cases context walk after old new write (Change.Put value) reads.ready at_bucket (λ r. TakesSlot r context (view_for context old) (view_for context new) walk value) result told
      (λ wrote. inr (no_ghost, fills (has_room context.active) (Live walk.key value) (Change.Put value) of_walk wrote)) (λ lacks. tt)

-- what is not made takes no slot
pub unmade_takes : (told : WalkAnswer) (context : WalkContext) (old new : View) (walk : WalkFields) (value : ℕ) → (told ≡ WalkAnswer.Changed → ⊥) → TakesSlot told context old new walk value
unmade_takes WalkAnswer.Changed context old new walk value unchanged = absurd (unchanged refl)
unmade_takes other context old new walk value unchanged = tt
