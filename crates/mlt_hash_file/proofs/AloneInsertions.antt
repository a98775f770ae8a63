-- What an addition alone tells with all its passes
use Rattle.std.proofs.Common.{◌≡◌, ℕ, Some, refl, sym, ap, subst, ◌∙◌, inl, inr, arith}
use Rattle.std.specs.FinMap as map
use Rattle.mlt_hash_file.proofs.Names.{WalkContext, WalkFields, WalkAnswer, Pass, LocalState, KeepsBefore, HasChanged, NeedsRoom, RefusesFor, TellsOfPass, TellsOfSplits, added_value, pages_in_the_end, same_pages, Pages, page_at-put_back, put_back, Refusal}
use Rattle.mlt_hash.specs.Walks.{one_key}
use Rattle.mlt_hash_file.{proofs.AloneWalks.same_before, specs.AloneWalks.TellsOfLater, specs.AloneWalks.bounded_before, specs.SplitPages.BoundedFile, specs.SplitPages.LacksPages}

-- a pass of a first key that needs no split tells what it told
pub pass_is_later : (context : WalkContext) (new : LocalState) (before after : WalkFields) (value : ℕ) (told : WalkAnswer) → (told ≡ WalkAnswer.NeedSplit → ⊥) → TellsOfPass (one_key context) new before after value told → TellsOfLater (one_key context) new before after value told
pass_is_later context new before after value WalkAnswer.NeedSplit not tells = absurd (not refl)
pass_is_later context new before after value WalkAnswer.Changed not tells = tells.changed
pass_is_later context new before after value WalkAnswer.Widen not tells = tells
pass_is_later context new before after value (WalkAnswer.Refused Refusal.NoRoom) not tells = (tells.1, inl tells.2)
pass_is_later context new before after value (WalkAnswer.Refused reason) not tells = absurd (tells.1 refl)
pass_is_later context new before after value other not tells = absurd tells

-- the file before an addition is the same with its bounds at each of its steps
same_bounds : (context : WalkContext) (mid new : LocalState) → KeepsBefore mid new → bounded_before context mid ≡ bounded_before context new
same_bounds context mid new keeps =
    let back : put_back mid.running.images mid.store.pages ≡ put_back new.running.images new.store.pages = same_pages _ _ (λ q. page_at-put_back _ mid.store.pages q ∙ sym (keeps.pages q) ∙ sym (page_at-put_back _ new.store.pages q)) in
    λ i. record (bounded_before context mid) { has = sym (same_before mid new keeps) i; pages = back i; max_pages = sym keeps.max_pages i }

-- the splits of a pass tell for the pass
pub splits_are_later : (context : WalkContext) (mid new : LocalState) (before at after : WalkFields) (value : ℕ) (told : WalkAnswer) → KeepsBefore mid new → NeedsRoom (one_key context) mid before at value → (before.pass ≡ Pass.First → ⊥) → TellsOfSplits (one_key context) new at after (added_value at.phase) (pages_in_the_end context.root at mid) told
    → TellsOfLater (one_key context) new before after value told
splits_are_later context mid new before at after value WalkAnswer.Changed keeps needs later tells =
    subst (λ (key : ℕ). HasChanged (one_key context) new key (Some value)) needs.same.key (subst (λ (value : ℕ). HasChanged (one_key context) new at.key (Some value)) (needs.later later).value_is tells.changed)
splits_are_later context mid new before at after value (WalkAnswer.Refused Refusal.NoRoom) keeps needs later tells =
    let splits = needs.later later in
    let stored : mid.store.pages ≡ put_back mid.running.images mid.store.pages = same_pages _ _ (λ q. (λ i. splits.unwritten i q) ∙ sym (page_at-put_back mid.running.images mid.store.pages q)) in
    let lacks : LacksPages (bounded_before (one_key context) mid) before.key = record { d = splits.d; least = splits.least; lacks = omega (arith, tells, keeps.max_pages, splits.pages, ap (λ (pages : Pages). map.len pages) stored) } in
    subst (λ (file : BoundedFile). RefusesFor file before.key Refusal.NoRoom) (same_bounds (one_key context) mid new keeps) (needs.full, inr lacks)
splits_are_later context mid new before at after value (WalkAnswer.Refused Refusal.OutOfMemory) keeps needs later tells =
    subst (λ (file : BoundedFile). RefusesFor file before.key Refusal.OutOfMemory) (same_bounds (one_key context) mid new keeps) (needs.full, (needs.later later).ever)
splits_are_later context mid new before at after value (WalkAnswer.Refused reason) keeps needs later tells = absurd (let only : reason ≡ Refusal.OutOfMemory = tells in cc)
splits_are_later context mid new before at after value other keeps needs later tells = absurd tells
