-- The splits of a walk alone: they come to an end, and make no more pages than they lead to
use Rattle.std.proofs.Common.{◌≡◌, ℕ, ◌<◌, ◌≤◌, ◌+◌, Bool, true, Option, Some, refl, sym, ap, subst, ◌∙◌, inl, inr, arith}
use Rattle.std.specs.FinSet as set
use Rattle.mlt_hash_file.proofs.Names.{TellsAt, IsSameWalk, IsPutting, steps_to_put, Before, Stands, WalkContext, WalkFields, WalkAnswer, Change, Phase, LocalState, HasWritten, view_of, view_over, HasNotWaited, IsAlone, KeepsBefore, context_alone, pages_since, HasMade, IsHashFile, IsReadySince, TellsOfSplits, added_value, left_from, pages_in_the_end, pages_left_at, pages_to_make, bucket_of, header_of, Agrees, Root, SplitTarget, SplitFields, steps_left_at, IsDone, is_kept, BucketFields, Page, Refusal, list_all}
use Rattle.mlt_hash_split.proofs.{Closing.HasClean, OldBucket.depths_are_small}
use Rattle.mlt_hash.specs.Splitting.{BeginsSplit, HasToSplit, IsUnderWay as HasNextStep, OfSplit, StandsOn, TellsOfAdding, TellsOfSplitting, walk_step}
use Rattle.mlt_hash.{proofs.Puts.kept_is_shallow, proofs.StepsLeft.one_fewer, proofs.StepsLeft.some_is_one, specs.Walks.IsAdding, specs.Walks.IsSplitting, specs.Walks.split_target}
use Rattle.mlt_hash_file.proofs.AlonePages.{MayStandAt, begun, made, may_stand, one_is_left, pages_close, pages_go_on}
use Rattle.mlt_hash_file.{proofs.Alone.keeps_both, proofs.Alone.sees_since, proofs.AloneChanges.held_is_stored, proofs.AloneChanges.made_alone, proofs.AlonePasses.retell_made, proofs.AloneWalks.file_kept, proofs.AloneWalks.ready_on, proofs.AloneWalks.same_context, proofs.AloneWalks.same_walks, specs.SplitPages.left_from_split}

pub next_step : (phase : Phase) → IsPutting phase → HasNextStep phase
next_step (Phase.Adding value bucket room_depth unsplit) adds = tt
next_step (Phase.Splitting value room_depth) adds = tt
next_step other adds = absurd adds

-- what splits tell they tell of the walk as it was before, and of more pages that they lead to
retell_splits : (context : WalkContext) (new : LocalState) (before walk after : WalkFields) (value value' less most : ℕ) (told : WalkAnswer) → IsSameWalk before walk → value ≡ value' → less ≤ most → TellsOfSplits context new walk after value less told → TellsOfSplits context new before after value' most told
retell_splits context new before walk after value value' less most WalkAnswer.Changed same is within tells =
    retell_made context new before walk after (Some value') same (subst (λ (v : ℕ). HasMade context new walk after (Some v)) is tells)
retell_splits context new before walk after value value' less most (WalkAnswer.Refused Refusal.NoRoom) same is within tells = omega (arith, within, tells)
retell_splits context new before walk after value value' less most (WalkAnswer.Refused reason) same is within tells = tells
retell_splits context new before walk after value value' less most other same is within tells = absurd tells

-- a walk alone that splits
pub record IsSplittingOn {P : Type 0} (since : Before) (bits_of : P → ℕ → ℕ) (root : Root P) (old now : LocalState) (before walk : WalkFields) : Type 0 where
  pub same : IsSameWalk before walk
  pub value : added_value walk.phase ≡ added_value before.phase
  pub adds : IsPutting walk.phase
  pub ready : IsReadySince since bits_of root now walk
  pub keeps : KeepsBefore old now
  pub pages : pages_in_the_end root.page walk now ≤ pages_in_the_end root.page before old

module _ {P : Type 0} (since : Before) (bits_of : P → ℕ → ℕ) (root : Root P) (old now new : LocalState) (before walk after : WalkFields) (alone : IsAlone now × IsAlone new) (on : IsSplittingOn since bits_of root old now before walk) (keeps : KeepsBefore now new) (written : HasWritten since.written (view_of new)) where
  abbrev ours : WalkContext
  ours = context_alone since bits_of root now

  agrees : Agrees (view_over since.written now).seen (pages_since since now)
  agrees = sees_since since now alone.0.may

  file : IsHashFile (bits_of root.pseudo) (pages_since since new) root.page root.max_depth
  file = file_kept since bits_of root now new keeps on.ready.file

  advances : StandsOn ours new walk after → (was is : Phase) → walk.phase ≡ was → after.phase ≡ is → IsPutting is → added_value is ≡ added_value was → pages_in_the_end root.page after new ≤ pages_in_the_end root.page walk now → IsSplittingOn since bits_of root old new before after
  advances stands was is before_is after_is adds value pages = record {
    same = same_walks before walk after on.same stands.same;
    value = ap added_value after_is ∙ value ∙ sym (ap added_value before_is) ∙ on.value;
    adds = subst IsPutting (sym after_is) adds;
    ready = ready_on since bits_of root now new after keeps written on.ready.file stands.stands;
    keeps = keeps_both old now new on.keeps keeps;
    pages = omega (arith, pages, on.pages);
  }

  -- where the walk is at rest,
  module _ (value n room_depth : ℕ) (unsplit : Bool) (adding : IsAdding ours walk (view_over since.written now) n room_depth unsplit) (phase_is : walk.phase ≡ Phase.Adding value n room_depth unsplit) where
    left_at_rest : pages_left_at walk.phase root.page walk now ≡ pages_to_make adding.fields.depth adding.header.depth room_depth
    left_at_rest =
        let bucket = held_is_stored ours now n (Page.Bucket adding.fields) alone.0.may on.ready.written adding.rest.found in
        let head = held_is_stored ours now root.page (Page.Head adding.header) alone.0.may on.ready.written adding.rest.head in
        ap (λ (phase : Phase). pages_left_at phase root.page walk now) phase_is ∙ (λ i. pages_to_make (bucket_of (bucket i)).depth (header_of (head i)).depth room_depth)

    has_to_be_deeper : HasToSplit ours now walk value n room_depth → adding.fields.depth < room_depth
    has_to_be_deeper (inl unsplit_yet) = adding.unsplit_is (cc)
    has_to_be_deeper (inr full) =
        let same : full.0 ≡ adding.fields = cc (full.1, adding.rest.found) in
        let clean : HasClean (split_target ours walk room_depth) (view_over since.written now) = record { clean = pages_since since now; agrees = agrees; form = on.ready.file.form } in
        kept_is_shallow (split_target ours walk room_depth) (view_over since.written now) n adding.header adding.fields adding.rest clean (subst (λ (b : BucketFields). list_all (is_kept set.empty) b.slots ≡ true) same full.2)

    -- a split that begins makes one of the pages that it leads to
    begins : BeginsSplit ours (walk_step now new walk after) value n room_depth → IsSplittingOn since bits_of root old new before after
    begins b =
        let l : b.split.depth ≡ adding.fields.depth = b.depth ∙ ap (λ (p : Option Page). (bucket_of p).depth) (sym b.found ∙ adding.rest.found) in
        let g : b.split.directory_depth ≡ adding.header.depth = b.directory_depth ∙ ap (λ (p : Option Page). (header_of p).depth) (sym b.head ∙ adding.rest.head) in
        let all : pages_to_make b.split.depth b.split.directory_depth room_depth ≡ pages_to_make adding.fields.depth adding.header.depth room_depth = λ i. pages_to_make (l i) (g i) room_depth in
        let new_left : pages_left_at after.phase root.page after new ≡ left_from b.split.depth b.split.directory_depth room_depth b.split.phase = ap (λ (phase : Phase). pages_left_at phase root.page after new) b.phase ∙ ap (λ (o : Option SplitFields). left_from_split o room_depth) b.split_is in
        let less = begun b.split.depth b.split.directory_depth room_depth b.split.phase (subst (λ d. d < room_depth) (sym l) (has_to_be_deeper b.needed)) in
        advances b.on _ _ phase_is b.phase tt refl (omega (arith, made now new b.split.new_page b.made.0 b.made.1, left_at_rest, all, new_left, less))

    adding_ends : (told : WalkAnswer) → (told ≡ WalkAnswer.Going → ⊥) → TellsOfAdding ours (walk_step now new walk after) value n room_depth told → TellsOfSplits ours new walk after value (pages_in_the_end root.page walk now) told
    adding_ends WalkAnswer.Going not tells = absurd (not refl)
    adding_ends WalkAnswer.Changed not tells = made_alone ours new walk after (Change.Put value) alone.1 written file tells.1
    -- where the store is full and a split is to begin, the splits lead to more pages than there may be
    adding_ends (WalkAnswer.Refused Refusal.NoRoom) not tells =
        omega (arith, tells.1, keeps.max_pages, left_at_rest, has_to_be_deeper tells.0)
    adding_ends (WalkAnswer.Refused reason) not tells = tells
    adding_ends other not tells = absurd tells

  -- and in the midst of a split
  module _ (value room_depth : ℕ) (splitting : IsSplitting ours walk (view_over since.written now) room_depth) (phase_is : walk.phase ≡ Phase.Splitting value room_depth) where
    abbrev target : SplitTarget
    target = split_target ours walk room_depth

    -- what is known of the split, whatever it is called
    known : (was : SplitFields) → walk.split ≡ Some was → MayStandAt was.phase was.depth was.directory_depth × (was.depth ≤ was.directory_depth)
    known was is =
        let under = splitting.under_way in
        let stands = may_stand splitting.split.phase target _ _ _ splitting.split under.bucket (under.stands (pages_since since now) agrees on.ready.file.form) in
        let within = (depths_are_small target _ splitting.split under.bucket (under.begins (pages_since since now) agrees on.ready.file.form)).0 in
        subst (λ (split : SplitFields). MayStandAt split.phase split.depth split.directory_depth × (split.depth ≤ split.directory_depth)) (some_is_one splitting.split was walk.split splitting.split_is is) (stands, within)

    is_done : (was : SplitFields) → walk.split ≡ Some was → OfSplit walk (λ (split : SplitFields). IsDone split.phase target now new split) → IsDone was.phase target now new was
    is_done was is done = subst (λ (split : SplitFields). IsDone split.phase target now new split) (some_is_one done.0 was walk.split done.1 is) done.2

    left_now : (was : SplitFields) → walk.split ≡ Some was → pages_left_at walk.phase root.page walk now ≡ left_from was.depth was.directory_depth room_depth was.phase
    left_now was is = ap (λ (phase : Phase). pages_left_at phase root.page walk now) phase_is ∙ ap (λ (o : Option SplitFields). left_from_split o room_depth) is

    splitting_goes : TellsOfSplitting ours (walk_step now new walk after) value room_depth WalkAnswer.Going → IsSplittingOn since bits_of root old new before after
    splitting_goes (done, inl s) =
        let steps : steps_left_at s.was.depth s.was.directory_depth s.is.phase + 1 ≡ steps_left_at s.was.depth s.was.directory_depth s.was.phase = sym (λ i. steps_left_at (s.depth i) (s.directory_depth i) s.is.phase + 1) ∙ s.fewer in
        let new_left : pages_left_at after.phase root.page after new ≡ left_from s.was.depth s.was.directory_depth room_depth s.is.phase = ap (λ (phase : Phase). pages_left_at phase root.page after new) s.phase ∙ ap (λ (o : Option SplitFields). left_from_split o room_depth) s.is_is ∙ (λ i. left_from (s.depth i) (s.directory_depth i) room_depth s.is.phase) in
        let facts = known s.was s.was_is in
        let pages = pages_go_on target now new s.was s.was.depth s.was.directory_depth room_depth alone.0.may facts.1 s.was.phase s.is.phase facts.0 steps (is_done s.was s.was_is done) in
        advances s.on _ _ phase_is s.phase tt refl (omega (arith, pages, left_now s.was s.was_is, new_left))
    splitting_goes (done, inr s) =
        let head = held_is_stored ours new root.page (Page.Head s.rests.header) alone.1.may written s.rests.rest.head in
        let bucket = held_is_stored ours new s.bucket (Page.Bucket s.rests.bucket) alone.1.may written s.rests.rest.found in
        let new_left : pages_left_at after.phase root.page after new ≡ pages_to_make (s.was.depth + 1) s.rests.header.depth room_depth =
        ap (λ (phase : Phase). pages_left_at phase root.page after new) s.phase ∙ (λ i. pages_to_make (bucket_of (bucket i)).depth (header_of (head i)).depth room_depth) ∙ ap (λ l. pages_to_make l s.rests.header.depth room_depth) s.rests.deeper in
        let pages = pages_close target now new s.was s.was.depth s.was.directory_depth room_depth alone.0.may (known s.was s.was_is).1 s.was.phase s.rests.header.depth s.last s.rests.in_place s.rests.doubled (is_done s.was s.was_is done) in
        advances s.on _ _ phase_is s.phase tt refl (omega (arith, pages, left_now s.was s.was_is, new_left))

    splitting_ends : (told : WalkAnswer) → (told ≡ WalkAnswer.Going → ⊥) → HasNotWaited told → TellsOfSplitting ours (walk_step now new walk after) value room_depth told → TellsOfSplits ours new walk after value (pages_in_the_end root.page walk now) told
    splitting_ends WalkAnswer.Going not went tells = absurd (not refl)
    splitting_ends (WalkAnswer.Waiting page by) not went tells = absurd went
    -- where the store is full and a page is to be made, the splits lead to more pages than there may be
    splitting_ends (WalkAnswer.Refused Refusal.NoRoom) not went tells =
        let split = tells.0.0 in
        omega (arith, tells.2, keeps.max_pages, left_now split tells.0.1, one_is_left split.phase split.depth split.directory_depth room_depth (known split tells.0.1).0 tells.0.2)
    splitting_ends (WalkAnswer.Refused reason) not went tells = tells.0
    splitting_ends other not went tells = absurd tells

  advances_at : (phase : Phase) → walk.phase ≡ phase → IsPutting phase → Stands phase ours walk (view_over since.written now) → TellsAt phase ours now new walk after WalkAnswer.Going → IsSplittingOn since bits_of root old new before after
  advances_at (Phase.Adding value n room_depth unsplit) is adds stands tells = begins value n room_depth unsplit stands is tells
  advances_at (Phase.Splitting value room_depth) is adds stands tells = splitting_goes value room_depth stands is tells
  advances_at other is adds stands tells = absurd adds

  ends_at : (phase : Phase) → walk.phase ≡ phase → IsPutting phase → Stands phase ours walk (view_over since.written now) → (told : WalkAnswer) → (told ≡ WalkAnswer.Going → ⊥) → HasNotWaited told → TellsAt phase ours now new walk after told
      → TellsOfSplits ours new walk after (added_value phase) (pages_in_the_end root.page walk now) told
  ends_at (Phase.Adding value n room_depth unsplit) is adds stands told not went tells = adding_ends value n room_depth unsplit stands is told not tells
  ends_at (Phase.Splitting value room_depth) is adds stands told not went tells = splitting_ends value room_depth stands is told not went tells
  ends_at other is adds stands told not went tells = absurd adds

  -- **A step of a walk that splits goes on,**
  pub splits_on : TellsAt walk.phase ours now new walk after WalkAnswer.Going → IsSplittingOn since bits_of root old new before after
  splits_on tells = advances_at walk.phase refl on.adds on.ready.stands tells

  -- **with fewer steps left,**
  pub fewer_steps : TellsAt walk.phase ours now new walk after WalkAnswer.Going → steps_to_put root.page after (view_over since.written new) < steps_to_put root.page walk (view_over since.written now)
  fewer_steps tells = omega (arith, one_fewer ours now new walk after (pages_since since new) (sees_since since new alone.1.may) file.form on.adds tells)

  -- **or tells how it ended.**
  pub splits_end : (told : WalkAnswer) → (told ≡ WalkAnswer.Going → ⊥) → HasNotWaited told → TellsAt walk.phase ours now new walk after told → TellsOfSplits (context_alone since bits_of root old) new before after (added_value before.phase) (pages_in_the_end root.page before old) told
  splits_end told not went tells =
      let ended = ends_at walk.phase refl on.adds on.ready.stands told not went tells in
      retell_splits (context_alone since bits_of root old) new before walk after _ _ _ _ told on.same on.value on.pages
      (subst (λ (context : WalkContext). TellsOfSplits context new walk after (added_value walk.phase) (pages_in_the_end root.page walk now) told) (same_context since bits_of root old now on.keeps) ended)
