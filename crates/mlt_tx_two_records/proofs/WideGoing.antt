-- How a walk goes on within its pass, over whatever was written before
use Rattle.std.proofs.Common.{◌≡◌, ℕ, ◌<◌, false, refl, sym, subst, inl, inr, arith}
use Rattle.mlt_tx_two_records.proofs.Names.{LocalState, Leaves, view_of, written_stays, Makes, IsUnderWay, TellsAt, GoesOn, IsSameWalk, steps_to_bucket, IsPutting, steps_to_put, WalkContext, IsStanding, MayWalk, WalkFields, view_for, WalkAnswer, Change, Phase, put_on_way, GoesNearer, PutsThen}
use Rattle.mlt_hash.proofs.StepsLeft.{one_fewer}
use Rattle.mlt_tx_two_records.proofs.{WideDepths.goes_down, WideDepths.same_steps, WideTurns.agrees_after, WideTurns.clean_agrees, WideTurns.clean_over}

-- on the way to the bucket there is a next step, and nothing to be put yet
under_way_there : (p : Phase) → 0 < steps_to_bucket p → IsUnderWay p
under_way_there Phase.Start more = tt
under_way_there (Phase.Headed dir row depth) more = tt
under_way_there (Phase.Placed bucket depth) more = tt
under_way_there other more = absurd (omega (arith, more))

puts_none_on_way : (p : Phase) (Is : ℕ → Type 0) → 0 < steps_to_bucket p → PutsThen p Is
puts_none_on_way Phase.Start Is more = tt
puts_none_on_way (Phase.Headed dir row depth) Is more = tt
puts_none_on_way (Phase.Placed bucket depth) Is more = tt
puts_none_on_way other Is more = absurd (omega (arith, more))

-- What is so of a walk after a step that does not change the record.
pub record GoesFurther (context : WalkContext) (old new : LocalState) (before after : WalkFields) : Type 0 where
  pub nearer : GoesNearer context.root (view_of old) (view_of new) before after
  pub same : IsSameWalk before after
  pub under_way : IsUnderWay after.phase
  pub stands : IsStanding context after (view_for context new)

-- the phase of a walk that adds or splits
abbrev IsAddingPhase : Phase → ℕ → Type 0
IsAddingPhase (Phase.Adding v bucket depth unsplit) value = v ≡ value
IsAddingPhase (Phase.Splitting v depth) value = v ≡ value
IsAddingPhase other value = ⊥

none_to_bucket : (p : Phase) (value : ℕ) → IsAddingPhase p value → steps_to_bucket p ≡ 0
none_to_bucket (Phase.Adding v bucket depth unsplit) value is = refl
none_to_bucket (Phase.Splitting v depth) value is = refl
none_to_bucket other value is = absurd is

is_putting : (p : Phase) (value : ℕ) → IsAddingPhase p value → IsPutting p
is_putting (Phase.Adding v bucket depth unsplit) value is = tt
is_putting (Phase.Splitting v depth) value is = tt
is_putting other value is = absurd is

is_under_way : (p : Phase) (value : ℕ) → IsAddingPhase p value → IsUnderWay p
is_under_way (Phase.Adding v bucket depth unsplit) value is = tt
is_under_way (Phase.Splitting v depth) value is = tt
is_under_way other value is = absurd is

puts_of : (p : Phase) (value : ℕ) (Is : ℕ → Type 0) → IsAddingPhase p value → Is value → PutsThen p Is
puts_of (Phase.Adding v bucket depth unsplit) value Is same is = subst Is (sym same) is
puts_of (Phase.Splitting v depth) value Is same is = subst Is (sym same) is
puts_of other value Is same is = absurd same

module _ (context : WalkContext) (old new : LocalState) (before after : WalkFields) (may : MayWalk context old before) (leaves : Leaves old new) where
  -- a step on the way
  on_way : GoesOn context new before after → 0 < steps_to_bucket after.phase → GoesFurther context old new before after
  on_way goes more =
      let was : 0 < steps_to_bucket before.phase = omega (arith, goes.fewer, more) in
      let none_before = put_on_way before.phase context.root before (view_of old) was in
      let none_after = put_on_way after.phase context.root after (view_of new) more in
      record {
        nearer = record {
          nearer = omega (arith, goes.fewer);
          by_one = omega (arith, goes.fewer, none_before, none_after);
          down = inl was;
        };
        same = goes.same;
        under_way = under_way_there after.phase more;
        stands = goes.stands;
      }

  -- a step of a split, or one that begins it
  splits_on : (value : ℕ) → TellsAt before.phase context old new before after WalkAnswer.Going → IsSameWalk before after → IsStanding context after (view_for context new)
      → IsAddingPhase before.phase value → IsAddingPhase after.phase value → GoesFurther context old new before after
  splits_on value tells alike stands was is =
      let clean = clean_over context old before may in
      let less = one_fewer context old new before after clean (agrees_after context old new before may leaves) may.file.form (is_putting before.phase value was) tells in
      let is_written = written_stays context.before.written old new may.may leaves.touches may.written in
      let put_before : steps_to_put context.root before (view_for context old) ≡ steps_to_put context.root before (view_of old) = same_steps context old may.written before.phase before in
      let put_after : steps_to_put context.root after (view_for context new) ≡ steps_to_put context.root after (view_of new) = same_steps context new is_written after.phase after in
      let none_before = none_to_bucket before.phase value was in
      let none_after = none_to_bucket after.phase value is in
      record {
        nearer = record {
          nearer = omega (arith, none_after);
          by_one = omega (arith, less, put_before, put_after, none_before, none_after);
          down = inr (goes_down context old new before after may.written is_written clean (clean_agrees context old before may) may.file.form may.stands (is_putting before.phase value was) tells);
        };
        same = alike;
        under_way = is_under_way after.phase value is;
        stands = stands;
      }

  -- **A walk that goes on is nearer to its change.**
  pub goes_further : TellsAt before.phase context old new before after WalkAnswer.Going → GoesFurther context old new before after
  goes_further tells = by before.phase refl tells
    where
      by : (p : Phase) → before.phase ≡ p → TellsAt p context old new before after WalkAnswer.Going → GoesFurther context old new before after
      by (Phase.Adding value bucket depth unsplit) is told =
          splits_on value tells told.on.same told.on.stands (subst (λ (p : Phase). IsAddingPhase p value) (sym is) refl) (subst (λ (p : Phase). IsAddingPhase p value) (sym told.phase) refl)
      by (Phase.Splitting value depth) is (told, inl goes) =
          splits_on value tells goes.on.same goes.on.stands (subst (λ (p : Phase). IsAddingPhase p value) (sym is) refl) (subst (λ (p : Phase). IsAddingPhase p value) (sym goes.phase) refl)
      by (Phase.Splitting value depth) is (told, inr closes) =
          splits_on value tells closes.on.same closes.on.stands (subst (λ (p : Phase). IsAddingPhase p value) (sym is) refl) (subst (λ (p : Phase). IsAddingPhase p value) (sym closes.phase) refl)
      by other is told = on_way told.0 told.1

-- **It puts the same value then.**
pub puts_still : (p : Phase) (context : WalkContext) (old new : LocalState) (before after : WalkFields) (Is : ℕ → Type 0) → TellsAt p context old new before after WalkAnswer.Going → PutsThen p Is → PutsThen after.phase Is
puts_still (Phase.Adding value bucket depth unsplit) context old new before after Is told puts = puts_of after.phase value Is (subst (λ (p : Phase). IsAddingPhase p value) (sym told.phase) refl) puts
puts_still (Phase.Splitting value depth) context old new before after Is (told, inl goes) puts = puts_of after.phase value Is (subst (λ (p : Phase). IsAddingPhase p value) (sym goes.phase) refl) puts
puts_still (Phase.Splitting value depth) context old new before after Is (told, inr closes) puts = puts_of after.phase value Is (subst (λ (p : Phase). IsAddingPhase p value) (sym closes.phase) refl) puts
puts_still other context old new before after Is told puts = puts_none_on_way after.phase Is told.1

-- What is so of a walk that has put its record behind splits.
pub record PutsRecord (context : WalkContext) (new : LocalState) (before after : WalkFields) : Type 0 where
  pub value : ℕ
  pub bucket : ℕ
  pub room_depth : ℕ
  pub was : before.phase ≡ Phase.Adding value bucket room_depth false
  pub makes : Makes context new before after (Change.Put value)

-- **So it was, where it tells of a change.**
pub puts_behind : (p : Phase) (context : WalkContext) (old new : LocalState) (before after : WalkFields) → before.phase ≡ p → TellsAt p context old new before after WalkAnswer.Changed → PutsRecord context new before after
puts_behind (Phase.Adding value bucket depth unsplit) context old new before after is (behind, makes, writes, lowest) = record { value = value; bucket = bucket; room_depth = depth; was = behind; makes = makes }
puts_behind other context old new before after is never = absurd never
