-- The way of a walk that runs alone
use Rattle.std.proofs.Common.{◌≡◌, ℕ, ◌<◌, Option, refl, sym, ap, subst, ◌∙◌, arith, rules}
use Rattle.mlt_hash_file.proofs.Names.{TellsAt, IsSameWalk, steps_to_bucket, Before, IsAtStart, Stands, WalkContext, WalkFields, nothing_before, view_for, WalkAnswer, Phase, nothing_written, LocalState, HasWritten, view_of, view_over, HasNotWaited, IsAlone, KeepsBefore, context_alone, pages_before, pages_since, HasArrived, IsFileBefore, IsHashFile, IsReadySince, over, Root, Page, Exclusive}
use Rattle.mlt_hash.specs.{Splitting.IsUnderWay, Steps.TellsOfPath, Steps.next_mode, Walks.IsStanding}
use Rattle.mlt_hash_file.proofs.Alone.{keeps_both, nobody_to_wait_for}

-- the pages stand as they stood before, all at once
pub same_before : (old new : LocalState) → KeepsBefore old new → pages_before new ≡ pages_before old
same_before old new keeps i q = keeps.pages q i

-- and as they stood when the walk went on to its key
pub same_since : (since : Before) (old new : LocalState) → KeepsBefore old new → pages_since since new ≡ pages_since since old
same_since since old new keeps = ap (λ pages. over pages since.written) (same_before old new keeps)

-- so the file is the one that it was
pub file_kept : {P : Type 0} (since : Before) (bits_of : P → ℕ → ℕ) (root : Root P) (old new : LocalState) → KeepsBefore old new → IsHashFile (bits_of root.pseudo) (pages_since since old) root.page root.max_depth → IsHashFile (bits_of root.pseudo) (pages_since since new) root.page root.max_depth
file_kept since bits_of root old new keeps file = subst (λ (pages : ℕ → Option Page). IsHashFile (bits_of root.pseudo) pages root.page root.max_depth) (sym (same_since since old new keeps)) file

-- what a walk goes by is the same at each of its steps
pub same_context : {P : Type 0} (since : Before) (bits_of : P → ℕ → ℕ) (root : Root P) (old new : LocalState) → KeepsBefore old new → context_alone since bits_of root new ≡ context_alone since bits_of root old
same_context since bits_of root old new keeps i = record (context_alone since bits_of root old) { tx = keeps.tx i }

-- a walk that stands at a later state is ready there
pub ready_on : {P : Type 0} (since : Before) (bits_of : P → ℕ → ℕ) (root : Root P) (old new : LocalState) (walk : WalkFields) → KeepsBefore old new → HasWritten since.written (view_of new) → IsHashFile (bits_of root.pseudo) (pages_since since old) root.page root.max_depth
    → IsStanding (context_alone since bits_of root old) walk (view_over since.written new) → IsReadySince since bits_of root new walk
ready_on since bits_of root old new walk keeps written file stands = record {
  written = written;
  file = file_kept since bits_of root old new keeps file;
  stands = subst (λ (context : WalkContext). IsStanding context walk (view_for context new)) (sym (same_context since bits_of root old new keeps)) stands;
}

-- a walk that has not begun is on its way, over what it has not written
pub ready_at_start : {P : Type 0} (bits_of : P → ℕ → ℕ) (root : Root P) (m : LocalState) (walk : WalkFields) → walk.phase ≡ Phase.Start → IsAtStart (view_of m) → IsFileBefore bits_of root m → (0 < steps_to_bucket walk.phase) × IsReadySince nothing_before bits_of root m walk
ready_at_start bits_of root m walk start nothing file =
    let more : 0 < steps_to_bucket walk.phase = subst (λ (phase : Phase). 0 < steps_to_bucket phase) (sym start) (omega arith) in
    let stands : IsStanding (context_alone nothing_before bits_of root m) walk (view_of m) = subst (λ (phase : Phase). Stands phase (context_alone nothing_before bits_of root m) walk (view_of m)) (sym start) (nothing, refl) in
    search (rules, nothing_written (view_of m))

-- then it has a next step,
pub under_way_at : (phase : Phase) → 0 < steps_to_bucket phase → IsUnderWay phase
under_way_at Phase.Start more = tt
under_way_at (Phase.Headed dir row depth) more = tt
under_way_at (Phase.Placed bucket depth) more = tt
under_way_at other more = absurd (omega (arith, more))

-- which tells of its way
path_tells : (phase : Phase) (context : WalkContext) (old new : LocalState) (before after : WalkFields) (told : WalkAnswer) → 0 < steps_to_bucket phase → TellsAt phase context old new before after told → TellsOfPath context old new before after told
path_tells (Phase.Adding value bucket room_depth unsplit) context old new before after told more tells = absurd (omega (arith, more))
path_tells (Phase.Splitting value room_depth) context old new before after told more tells = absurd (omega (arith, more))
path_tells other context old new before after told more tells = tells

pub same_walks : (first next last : WalkFields) → IsSameWalk first next → IsSameWalk next last → IsSameWalk first last
same_walks first next last one two = record { key = two.key ∙ one.key; mode = two.mode ∙ one.mode; pass = two.pass ∙ one.pass }

-- a walk is on its way to its bucket
pub record IsOnItsWay {P : Type 0} (since : Before) (bits_of : P → ℕ → ℕ) (root : Root P) (old now : LocalState) (before walk : WalkFields) : Type 0 where
  pub more : 0 < steps_to_bucket walk.phase
  pub same : IsSameWalk before walk
  pub keeps : KeepsBefore old now
  pub ready : IsReadySince since bits_of root now walk

module _ {P : Type 0} (since : Before) (bits_of : P → ℕ → ℕ) (root : Root P) (old now new : LocalState) (before walk after : WalkFields) (way : IsOnItsWay since bits_of root old now before walk) where
  -- it goes on,
  pub on_its_way : KeepsBefore now new → HasWritten since.written (view_of new) → TellsAt walk.phase (context_alone since bits_of root now) now new walk after WalkAnswer.Going → IsOnItsWay since bits_of root old new before after
  on_its_way keeps written tells =
      let told = path_tells walk.phase (context_alone since bits_of root now) now new walk after WalkAnswer.Going way.more tells in
      record { more = told.1; same = same_walks _ _ _ way.same told.0.same; keeps = keeps_both _ _ _ way.keeps keeps; ready = ready_on since bits_of root now new after keeps written way.ready.file told.0.stands }

  -- with a step fewer,
  pub one_step_fewer : TellsAt walk.phase (context_alone since bits_of root now) now new walk after WalkAnswer.Going → steps_to_bucket after.phase < steps_to_bucket walk.phase
  one_step_fewer tells = let told = path_tells walk.phase (context_alone since bits_of root now) now new walk after WalkAnswer.Going way.more tells in omega (arith, told.0.fewer)

  -- or has arrived
  pub arrives : (found : Option ℕ) → TellsAt walk.phase (context_alone since bits_of root now) now new walk after (WalkAnswer.Found found) → HasArrived (context_alone since bits_of root old) new before after found
  arrives found tells =
      let told = path_tells walk.phase (context_alone since bits_of root now) now new walk after (WalkAnswer.Found found) way.more tells in
      let stands = subst (λ (context : WalkContext). IsStanding context after (view_for context new)) (same_context since bits_of root old now way.keeps) told.0.stands in
      record { same = same_walks before walk after way.same told.0.same; stands = stands; found = told.1 }

-- **A walk that runs alone is never told to wait.**
pub goes : (phase : Phase) (context : WalkContext) (old new : LocalState) (before after : WalkFields) (told : WalkAnswer) → IsAlone old → TellsAt phase context old new before after told → HasNotWaited told
goes (Phase.Splitting value room_depth) context old new before after (WalkAnswer.Waiting page by) alone tells = nobody_to_wait_for old page by Exclusive alone tells.1
goes (Phase.Adding value bucket room_depth unsplit) context old new before after (WalkAnswer.Waiting page by) alone tells = tells
goes other context old new before after (WalkAnswer.Waiting page by) alone tells = nobody_to_wait_for old page by (next_mode before before.phase) alone tells.1
goes phase context old new before after other alone tells = tt
