-- What a walk tells that waits, is refused or has reached its bucket, over whatever was written before
use Rattle.std.proofs.Common.{◌≡◌, ◌⊎◌, ℕ, ◌↔◌, None, Option, refl, sym, ap, subst, ◌∙◌, inl, inr, arith}
use Rattle.mlt_tx_two_records.proofs.Names.{Exclusive, Refusal, LocalState, HasToMake, TellsAt, GoesOn, HasFound, steps_to_bucket, WalkContext, WalkFields, view_for, WalkAnswer, Phase, ReachesBucket}
use Rattle.mlt_hash_access.specs.PageSteps.{HasNoPageLeft}
use Rattle.mlt_hash.{specs.Steps.next_mode, specs.Steps.next_page, proofs.Splittings.none_left}
use Rattle.mlt_tx_two_records.specs.WalkSteps.{AsksForAt, LacksPage, WalkWaits}

-- **What it waits for**
waits_at : (p : Phase) (context : WalkContext) (old new : LocalState) (before after : WalkFields) (page by : ℕ) → before.phase ≡ p → TellsAt p context old new before after (WalkAnswer.Waiting page by) → WalkWaits context old new before after page by
waits_at (Phase.Adding value bucket depth unsplit) context old new before after page by is told = absurd told
waits_at (Phase.Splitting value depth) context old new before after page by is (next, lowest, pages, walk) = record {
  mode = Exclusive;
  asks = subst (λ (p : Phase). AsksForAt p context (view_for context old) before page Exclusive) (sym is) (next, refl);
  lowest = lowest;
  pages = pages;
  stays = walk;
}
waits_at other context old new before after page by is (next, lowest, pages, walk) = record {
  mode = next_mode before before.phase;
  asks = subst (λ (p : Phase). AsksForAt p context (view_for context old) before page (next_mode before before.phase)) (sym is) (next ∙ ap (λ (p : Phase). next_page context.root p) is, ap (λ (p : Phase). next_mode before p) is);
  lowest = lowest;
  pages = pages;
  stays = walk;
}

pub waits : (context : WalkContext) (old new : LocalState) (before after : WalkFields) (page by : ℕ) → TellsAt before.phase context old new before after (WalkAnswer.Waiting page by) → WalkWaits context old new before after page by
waits context old new before after page by told = waits_at before.phase context old new before after page by refl told

-- **What it tells that has found its key,**
pub found_by_path : (p : Phase) (context : WalkContext) (old mid : LocalState) (walk after : WalkFields) (found : Option ℕ) → TellsAt p context old mid walk after (WalkAnswer.Found found) → GoesOn context mid walk after × HasFound after.phase found
found_by_path (Phase.Adding value bucket depth unsplit) context old mid walk after found told = absurd told
found_by_path (Phase.Splitting value depth) context old mid walk after found told = absurd told
found_by_path other context old mid walk after found told = told

-- **by the last step of its way.**
pub was_last : (context : WalkContext) (mid : LocalState) (before walk : WalkFields) (found : Option ℕ) → GoesOn context mid before walk → HasFound walk.phase found → steps_to_bucket before.phase ≡ 1
was_last context mid before walk found goes is = let left = none_left walk.phase found is in omega (arith, goes.fewer, left)

pub reaches : (context : WalkContext) (mid : LocalState) (before walk : WalkFields) → GoesOn context mid before walk → HasFound walk.phase None → ReachesBucket context mid before walk
reaches context mid before walk goes none = record { last = was_last context mid before walk None goes none; same = goes.same; found = none; stands = goes.stands }

-- memory is told only where no page is lacked
no_memory : (p : Phase) (context : WalkContext) (old : LocalState) (before : WalkFields) → before.phase ≡ p → steps_to_bucket p ≡ 0
    → ((WalkAnswer.Refused Refusal.OutOfMemory ≡ WalkAnswer.Refused Refusal.NoRoom) ↔ (HasToMake p context old before × HasNoPageLeft old.store))
    → (steps_to_bucket before.phase ≡ 0) × (LacksPage context old before → ⊥)
no_memory p context old before is zero_left exact =
    (ap steps_to_bucket is ∙ zero_left, λ lacks. (let same : WalkAnswer.Refused Refusal.OutOfMemory ≡ WalkAnswer.Refused Refusal.NoRoom = exact.1 (subst (λ (q : Phase). HasToMake q context old before) is lacks.makes, lacks.full) in absurd cc))

-- Why it is refused on its way.
abbrev pub IsWhy : Refusal → WalkContext → LocalState → WalkFields → Type 0
IsWhy Refusal.NoRoom context old before = LacksPage context old before
IsWhy Refusal.OutOfMemory context old before = (steps_to_bucket before.phase ≡ 0) × (LacksPage context old before → ⊥)
IsWhy other context old before = ⊥

refused_at : (p : Phase) (context : WalkContext) (old mid : LocalState) (before after : WalkFields) (reason : Refusal) → before.phase ≡ p
    → TellsAt p context old mid before after (WalkAnswer.Refused reason)
    → ((WalkAnswer.Refused reason ≡ WalkAnswer.Refused Refusal.NoRoom) ↔ (HasToMake p context old before × HasNoPageLeft old.store))
    → IsWhy reason context old before
refused_at (Phase.Adding value bucket depth unsplit) context old mid before after Refusal.NoRoom is told exact =
    record { makes = subst (λ (p : Phase). HasToMake p context old before) (sym is) told.0; full = told.1 }
refused_at (Phase.Adding value bucket depth unsplit) context old mid before after Refusal.OutOfMemory is told exact = no_memory (Phase.Adding value bucket depth unsplit) context old before is refl exact
refused_at (Phase.Adding value bucket depth unsplit) context old mid before after other is told exact = absurd (let only : other ≡ Refusal.OutOfMemory = told in cc)
refused_at (Phase.Splitting value depth) context old mid before after Refusal.NoRoom is told exact =
    record { makes = subst (λ (p : Phase). HasToMake p context old before) (sym is) told.0; full = told.2 }
refused_at (Phase.Splitting value depth) context old mid before after Refusal.OutOfMemory is told exact = no_memory (Phase.Splitting value depth) context old before is refl exact
refused_at (Phase.Splitting value depth) context old mid before after other is told exact = absurd (let only : other ≡ Refusal.OutOfMemory = told.0 in cc)
refused_at other context old mid before after reason is told exact = absurd told

-- **Why it is refused**
pub refused : (context : WalkContext) (old mid : LocalState) (before after : WalkFields) (reason : Refusal) → TellsAt before.phase context old mid before after (WalkAnswer.Refused reason)
    → ((WalkAnswer.Refused reason ≡ WalkAnswer.Refused Refusal.NoRoom) ↔ (HasToMake before.phase context old before × HasNoPageLeft old.store)) → IsWhy reason context old before
refused context old mid before after reason told exact = refused_at before.phase context old mid before after reason refl told exact

-- no step says that a split is needed, or a wide pass
never_splits : (p : Phase) (context : WalkContext) (old new : LocalState) (before after : WalkFields) → TellsAt p context old new before after WalkAnswer.NeedSplit → ⊥
never_splits (Phase.Adding value bucket depth unsplit) context old new before after told = told
never_splits (Phase.Splitting value depth) context old new before after told = told
never_splits other context old new before after told = told

never_widens : (p : Phase) (context : WalkContext) (old new : LocalState) (before after : WalkFields) → TellsAt p context old new before after WalkAnswer.Widen → ⊥
never_widens (Phase.Adding value bucket depth unsplit) context old new before after told = told
never_widens (Phase.Splitting value depth) context old new before after told = told
never_widens other context old new before after told = told

pub never_needs : (context : WalkContext) (old new : LocalState) (before after : WalkFields) (told : WalkAnswer) → TellsAt before.phase context old new before after told → (told ≡ WalkAnswer.NeedSplit) ⊎ (told ≡ WalkAnswer.Widen) → ⊥
never_needs context old new before after told tells (inl is) = never_splits before.phase context old new before after (subst (λ (a : WalkAnswer). TellsAt before.phase context old new before after a) is tells)
never_needs context old new before after told tells (inr is) = never_widens before.phase context old new before after (subst (λ (a : WalkAnswer). TellsAt before.phase context old new before after a) is tells)
