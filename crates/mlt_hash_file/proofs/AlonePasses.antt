-- What a pass finds that runs alone, and what it tells of its addition
use Rattle.std.proofs.Common.{◌≡◌, ℕ, ◌≤◌, ◌+◌, true, Option, None, Some, refl, sym, ap, subst, ◌∙◌, ◌↔◌, inl, inr, arith, rules}
use Rattle.std.specs.FinMap as map
use Rattle.std.specs.FinSet as set
use Rattle.mlt_hash_file.proofs.Names.{page_of, IsSameWalk, IsPutting, Before, Stands, WalkContext, WalkFields, view_for, WalkAnswer, Change, Pass, Phase, LocalState, Leaves, HasWritten, view_of, view_over, IsAlone, KeepsBefore, context_alone, pages_since, HasArrived, HasChanged, HasMade, IsReadySince, NeedsRoom, TellsOfPass, added_value, pages_in_the_end, pages_left_at, pages_to_make, bucket_of, depth_of, look_up, Root, is_kept, page_at, BucketFields, Page, Refusal, list_all}
use Rattle.std.proofs.lemmas.Bool.{false≢true}
use Rattle.mlt_hash_form.{proofs.Crowd.crowded_in_fewer, proofs.Crowd.crowded_test, proofs.InPages.led_at, specs.File.buckets_of, specs.File.lead_of, specs.Room.is_crowded}
use Rattle.mlt_hash.specs.Changes.{HasNoRoom, IsAtAbsent, IsFull, IsNext, NeedsSplit, TellsOfAddition, WritesIfChanged, crowded_at, directory_depth_of}
use Rattle.mlt_hash.{proofs.InPlace.absent_at, proofs.Laws.found_there, proofs.Laws.path_taken, specs.Passes.HasRoomFrom, specs.Passes.next_of, specs.Steps.HasFound, specs.Walks.IsAtBucket}
use Rattle.mlt_hash_file.{proofs.Alone.sees_since, proofs.Alone.unwritten_store, proofs.AloneChanges.made_then, proofs.AloneWalks.same_since, proofs.AloneWalks.same_walks, specs.AloneWalks.IsFullFor, specs.AloneWalks.NeedsSplits, specs.AloneWalks.NeverHasRoomFor, specs.SplitPages.HasRoomAt, specs.SplitPages.bucket_for, specs.SplitPages.pages_for}

-- what a walk has found is in its phase,
pub found_at : (phase : Phase) (value : Option ℕ) → HasFound phase value → phase ≡ Phase.AtBucket (page_of phase) (directory_depth_of phase) value
found_at (Phase.AtBucket bucket depth found) value is = ap (Phase.AtBucket bucket depth) is
found_at other value is = absurd is

-- and once it has arrived it is at its bucket
arrived_at : (context : WalkContext) (m : LocalState) (before walk : WalkFields) (value : Option ℕ) → HasArrived context m before walk value → IsAtBucket context walk (view_for context m) (page_of walk.phase) (directory_depth_of walk.phase) value
arrived_at context m before walk value arrived = subst (λ (phase : Phase). Stands phase context walk (view_for context m)) (found_at walk.phase value arrived.found) arrived.stands

-- so it has written nothing
pub arrived_store : (context : WalkContext) (m : LocalState) (before walk : WalkFields) (value : Option ℕ) → IsAlone m → HasWritten context.before.written (view_of m) → HasArrived context m before walk value → page_at m.store.pages ≡ pages_since context.before m
arrived_store context m before walk value alone written arrived = unwritten_store context.before m alone.may written (arrived_at context m before walk value arrived).unwritten

-- **What a walk alone has found is the value of its key.**
pub found_is_value : (context : WalkContext) (m : LocalState) (before walk : WalkFields) (value : Option ℕ) → IsAlone m → HasArrived context m before walk value → look_up context.bits (pages_since context.before m) context.root before.key ≡ value
found_is_value context m before walk value alone arrived =
    ap (look_up context.bits (pages_since context.before m) context.root) (sym arrived.same.key)
    ∙ found_there context walk (view_for context m) (page_of walk.phase) (directory_depth_of walk.phase) value (pages_since context.before m) (arrived_at context m before walk value arrived) (sees_since context.before m alone.may)

-- so it finds none where there is none
pub absent_here : {P : Type 0} (since : Before) (bits_of : P → ℕ → ℕ) (root : Root P) (first old : LocalState) (before walk : WalkFields) (value : Option ℕ) → IsAlone old → KeepsBefore first old → HasArrived (context_alone since bits_of root first) old before walk value
    → look_up (bits_of root.pseudo) (pages_since since first) root.page before.key ≡ None → IsAtAbsent walk.phase
absent_here since bits_of root first old before walk value alone keeps arrived none =
    let found : look_up (bits_of root.pseudo) (pages_since since old) root.page before.key ≡ value = found_is_value (context_alone since bits_of root first) old before walk value alone arrived in
    let absent : value ≡ None = sym found ∙ ap (λ (pages : ℕ → Option Page). look_up (bits_of root.pseudo) pages root.page before.key) (same_since since first old keeps) ∙ none in
    subst IsAtAbsent (sym (found_at walk.phase value arrived.found)) absent

-- what a pass tells that has written nothing
module _ {P : Type 0} (since : Before) (bits_of : P → ℕ → ℕ) (root : Root P) (m : LocalState) (walk after : WalkFields) (value : ℕ) (alone : IsAlone m) (ready : IsReadySince since bits_of root m walk) (none : IsAtAbsent walk.phase) where
  abbrev ours : WalkContext
  ours = context_alone since bits_of root m

  abbrev bits : ℕ → ℕ
  bits = bits_of root.pseudo

  abbrev pages : ℕ → Option Page
  pages = pages_since since m

  here : IsAtBucket ours walk (view_over since.written m) (page_of walk.phase) (directory_depth_of walk.phase) None
  here = absent_at ours walk (view_over since.written m) walk.phase none ready.stands

  -- the bucket that the walk sees is the key's
  leads : lead_of pages root.page (bits walk.key) ≡ page_of walk.phase
  leads = (led_at pages root.page (bits walk.key) here.header here.dir (page_of walk.phase) here.fields (path_taken ours walk (view_over since.written m) (page_of walk.phase) (directory_depth_of walk.phase) None pages here (sees_since since m alone.may))).0

  key_bucket : (fields : BucketFields) → (view_over since.written m).seen (page_of walk.phase) ≡ Some (Some (Page.Bucket fields)) → bucket_for bits pages root.page walk.key ≡ fields
  key_bucket fields sees = ap (buckets_of pages) leads ∙ ap bucket_of (sees_since since m alone.may (page_of walk.phase) (Some (Page.Bucket fields)) sees)

  is_full : (fields : BucketFields) → IsFull ours walk (view_over since.written m) fields → IsFullFor bits pages root.page walk.key
  is_full fields full = ap (λ (b : BucketFields). list_all (is_kept set.empty) b.slots) (key_bucket fields full.sees.at) ∙ full.no_room

  -- the file has no room for the key where its bucket has none at any depth
  crowded : (fields : BucketFields) → (view_over since.written m).seen (page_of walk.phase) ≡ Some (Some (Page.Bucket fields)) → NeverHasRoomFor bits pages root.max_depth walk.key ↔ (crowded_at ours walk fields root.max_depth ≡ true)
  crowded fields sees =
      let fine : (bucket_for bits pages root.page walk.key).depth ≤ root.max_depth = omega (arith, ready.file.form.form.fine (bits walk.key) (ready.file.bounded walk.key), ready.file.shallow) in
      let test = crowded_test bits set.empty _ (lead_of pages root.page) (buckets_of pages) root.max_depth (bits walk.key) (ready.file.bounded walk.key) ready.file.bounded ready.file.form.form fine (omega (arith, ready.file.small)) in
      subst (λ (b : BucketFields). NeverHasRoomFor bits pages root.max_depth walk.key ↔ (crowded_at ours walk b root.max_depth ≡ true)) (key_bucket fields sees) test

  needs_splits : NeedsSplit ours m walk after value → (walk.pass ≡ Pass.First → ⊥) → NeedsSplits ours m walk after value
  needs_splits needs later =
      let next = needs.later later in
      let stored : page_at m.store.pages ≡ pages = unwritten_store since m alone.may ready.written here.unwritten in
      record {
        value_is = ap added_value next.1;
        may = record { stands = needs.stands; adds = subst IsPutting (sym next.1) tt };
        ever = λ never. false≢true (sym next.2.2 ∙ crowded_in_fewer bits set.empty next.0 root.max_depth (bits walk.key) needs.fields.slots next.2.1 (omega (arith, ready.file.small)) ((crowded needs.fields needs.full.sees.at).0 never));
        d = next.0;
        least = subst (λ (b : BucketFields). HasRoomFrom (λ e. is_crowded bits set.empty e (bits walk.key) b.slots) b.depth root.max_depth next.0) (sym (key_bucket needs.fields needs.full.sees.at)) next.2;
        unwritten = stored;
        pages =
            ap (λ (phase : Phase). map.len m.store.pages + pages_left_at phase root.page after m) next.1
            ∙ (λ i. map.len m.store.pages + pages_to_make (buckets_of (stored i) (sym leads i)).depth (depth_of (stored i) root.page) next.0);
      }

  needs_room : NeedsSplit ours m walk after value → NeedsRoom ours m walk after value
  needs_room needs = record {
    full = is_full needs.fields needs.full;
    same = needs.same;
    first = λ is. let next = needs.first is in subst (λ (phase : Phase). (phase ≡ Phase.Full (next_of phase)) × (next_of phase ≡ Pass.First → ⊥)) (sym next.1) (refl, λ same. subst (IsNext ours walk needs.fields) same next.2);
    later = needs_splits needs;
  }

  has_no_room : HasNoRoom ours m walk after → TellsOfPass ours m walk after value (WalkAnswer.Refused Refusal.NoRoom)
  has_no_room has = (has.later, is_full has.fields has.full, (crowded has.fields has.full.sees.at).1 (has.never root.max_depth has.shallow (omega arith)))

  -- **A pass alone tells what its addition told at the bucket that it went to.**
  pub addition_tells : (new : LocalState) (told : WalkAnswer) → Leaves m new → WritesIfChanged m new (page_of walk.phase) told → TellsOfAddition ours new walk after value told → TellsOfPass ours new walk after value told
  addition_tells new WalkAnswer.Changed leaves writes tells =
      elim tells [
        | inl revives ↦ made_then since bits_of root m walk alone ready new after (Change.Revive value) leaves revives
        | inr puts ↦ made_then since bits_of root m walk alone ready new after (Change.Put value) leaves puts
      ]
  addition_tells new WalkAnswer.NeedSplit leaves writes tells = subst (λ m'. NeedsSplit ours m' walk after value → NeedsRoom ours m' walk after value) (sym writes) needs_room tells
  addition_tells new WalkAnswer.Widen leaves writes tells = record { same = tells.same; narrow = tells.narrow; phase = tells.phase }
  addition_tells new (WalkAnswer.Refused Refusal.NoRoom) leaves writes tells =
      subst (λ m'. HasNoRoom ours m' walk after → TellsOfPass ours m' walk after value (WalkAnswer.Refused Refusal.NoRoom)) (sym writes) has_no_room tells
  addition_tells new (WalkAnswer.Refused reason) leaves writes tells = (tells.0, tells.1)
  addition_tells new other leaves writes tells = absurd tells

retell_splits : (context : WalkContext) (new : LocalState) (before walk after : WalkFields) (value : ℕ) → IsSameWalk before walk → NeedsSplits context new walk after value → NeedsSplits context new before after value
retell_splits context new before walk after value same needs = record {
  value_is = needs.value_is;
  may = needs.may;
  ever = subst (λ (key : ℕ). NeverHasRoomFor context.bits (pages_since context.before new) context.max_depth key → ⊥) same.key needs.ever;
  d = needs.d;
  least = subst (λ (key : ℕ). HasRoomAt context.bits (pages_since context.before new) context.root context.max_depth key needs.d) same.key needs.least;
  unwritten = needs.unwritten;
  pages = subst (λ (key : ℕ). pages_in_the_end context.root after new ≡ map.len new.store.pages + pages_for context.bits (pages_since context.before new) context.root key needs.d) same.key needs.pages;
}

pub retell_made : (context : WalkContext) (new : LocalState) (before walk after : WalkFields) (value : Option ℕ) → IsSameWalk before walk → HasMade context new walk after value → HasMade context new before after value
retell_made context new before walk after value same has =
    let changed : HasChanged context new before.key value = subst (λ (key : ℕ). HasChanged context new key value) same.key has.changed in
    search (rules, same_walks before walk after same has.same)

-- a pass tells the same of the walk as it was before it went to its bucket
pub retell : (context : WalkContext) (new : LocalState) (before walk after : WalkFields) (value : ℕ) (told : WalkAnswer) → IsSameWalk before walk → TellsOfPass context new walk after value told → TellsOfPass context new before after value told
retell context new before walk after value WalkAnswer.Changed same tells = retell_made context new before walk after (Some value) same tells
retell context new before walk after value WalkAnswer.NeedSplit same tells = record {
  full = subst (λ (key : ℕ). IsFullFor context.bits (pages_since context.before new) context.root key) same.key tells.full;
  same = same_walks before walk after same tells.same;
  first = λ is. tells.first (same.pass ∙ is);
  later = λ later. retell_splits context new before walk after value same (tells.later (λ is. later (sym same.pass ∙ is)));
}
retell context new before walk after value WalkAnswer.Widen same tells = record { same = same_walks before walk after same tells.same; narrow = sym same.pass ∙ tells.narrow; phase = tells.phase }
retell context new before walk after value (WalkAnswer.Refused Refusal.NoRoom) same tells = (λ is. tells.0 (same.pass ∙ is), subst (λ (key : ℕ). IsFullFor context.bits (pages_since context.before new) context.root key) same.key tells.1, subst (λ (key : ℕ). NeverHasRoomFor context.bits (pages_since context.before new) context.max_depth key) same.key tells.2)
retell context new before walk after value (WalkAnswer.Refused reason) same tells = tells
retell context new before walk after value other same tells = absurd tells
