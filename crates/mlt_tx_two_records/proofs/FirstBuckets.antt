-- What a first pass does once it has found both keys
use Rattle.std.proofs.Common.{◌≡◌, ◌⊎◌, ℕ, Option, None, Some, is_some, refl, sym, ap, subst, ◌∙◌, inl, inr, IsSome, position}
use Rattle.mlt_tx_two_records.proofs.Names.{false≢true, none-some, is_ghost_of, BucketFields, ObjReply, RecChange, Add, Set, ToGhost, Revive, Plus, Minus, Request, CanChange, decision, size_decision, size_key_of, FilePages, bucket_of, lead_of, Agrees, over, own_or_clean, LocalState, IsRolledBack, ReadsHeldBucket, view_of, agrees, HasChanged, LeavesLeft, LeavesRight, MakesBoth, PairFields, later_page, FitsFound, found_of, RecordChange, holds_read, both_lead, WalkContext, nowhere_found, MayActOnBoth, Writes, HasGhostOn, AsksForBoth, AsksForNone, HasToldFirst, OwesOne, task_for, AddsElement, asked_of}
use Rattle.mlt_hash_access.proofs.Leaving.{leaves_it}
use Rattle.mlt_hash_pair.specs.Changes.{FitsBoth, IsFull, IsFullBehind, TellsOfTwo, task_of}
use Rattle.mlt_hash_pair.specs.{Plans.HasNoPlan, Descents.page_of, declared.answer.ChangeAnswer.ChangeAnswer, declared.answer.Side.Side, declared.asked.PairChanges.PairChanges}
use Rattle.mlt_tx_two_records.{specs.AtBuckets.RollsBack, specs.FirstPass.HasFullBucket, specs.FirstPass.changes_for, proofs.Asking.adds_by_own, proofs.Asking.adds_by_size, proofs.Asking.asked_fits, proofs.Asking.never_revives_size, proofs.Planning.GhostThere, proofs.RollingBack.starts_again}
use Rattle.mlt_tx_two_records.proofs.FirstChanges.{buckets_alone, makes_both, owes_one, told_both, told_none}

-- of two options that are there or not alike
none_too : {A B : Type 0} (a : Option A) (b : Option B) → is_some a ≡ is_some b → b ≡ None → a ≡ None
none_too None b alike none = refl
none_too (Some x) b alike none = absurd (false≢true (sym (alike ∙ ap is_some none)))

module _ (context : WalkContext) (old : LocalState) (request : Request) (pair : PairFields) (own size : Option ℕ) (ready : MayActOnBoth context old request pair own size) (decided : ObjReply × Option RecChange) (told : decided ≡ decision request own) (resize : Option RecChange) (resized : resize ≡ size_decision request decided.0 size) where
  -- **What asks for no change leaves all as it is.**
  pub told_nothing : is_some resize ≡ is_some decided.1 → (decided.1 ≡ None) ⊎ (resize ≡ None) → Writes old old (later_page pair) × HasToldFirst context request pair decided.0 (view_of old)
  told_nothing alike none = (
    record { leaves = leaves_it old old ready.may refl; writes = inl refl },
    told_none context request pair decided.0 (view_of old) ready.keys ready.found ready.finding asks,
  )
    where
      no_change : decided.1 ≡ None
      no_change = elim none [
        | inl own_none ↦ own_none
        | inr size_none ↦ none_too decided.1 resize (sym alike) size_none
      ]

      asks : AsksForNone request decided.0 (found_of pair.left_descent) (found_of pair.right_descent)
      asks = record {
        decided = ap (decision request) ready.own_is ∙ sym told ∙ ap (λ (c : Option RecChange). (decided.0, c)) no_change;
        resized = ap (size_decision request decided.0) ready.size_is ∙ sym resized ∙ none_too resize decided.1 alike no_change;
      }

  module _ (change : RecChange) (own_is : decided.1 ≡ Some change) (change' : RecChange) (size_is : resize ≡ Some change') (can : CanChange decided.1 own) where
    abbrev asks : AsksForBoth request decided.0 (found_of pair.left_descent) (found_of pair.right_descent)
    asks = record {
      change = change;
      resize = change';
      decided = ap (decision request) ready.own_is ∙ sym told ∙ ap (λ (c : Option RecChange). (decided.0, c)) own_is;
      resized = ap (size_decision request decided.0) ready.size_is ∙ sym resized ∙ size_is;
    }

    own_can : CanChange (Some change) (found_of pair.left_descent)
    own_can = subst (CanChange (Some change)) (sym ready.own_is) (subst (λ (c : Option RecChange). CanChange c own) own_is can)

    size_asked : size_decision request (decision request own).0 size ≡ Some change'
    size_asked = ap (λ (d : ObjReply × Option RecChange). size_decision request d.0 size) (sym told) ∙ sym resized ∙ size_is

    size_can : CanChange (Some change') (found_of pair.right_descent)
    size_can = subst (CanChange (Some change')) (sym ready.size_is) (subst (λ (c : Option RecChange). CanChange c size) size_asked ready.fits)

    agree : Agrees (view_of old).seen ready.file.clean
    agree = agrees old ready.file.clean ready.may ready.file.is_clean

    unwritten : over ready.file.clean (view_of old).own ≡ ready.file.clean
    unwritten i q = ap (λ p. own_or_clean p (ready.file.clean q)) (ready.finding.unwritten q) i

    leads : lead_of ready.file.clean context.root (context.bits pair.left) ≡ page_of pair.left_descent
    leads = subst (λ (pages : FilePages). lead_of pages context.root (context.bits pair.left) ≡ page_of pair.left_descent) unwritten
        (both_lead context.bits context.root pair (view_of old) ready.file.clean ready.found (holds_read context.bits context.root pair (view_of old) ready.finding) agree (λ q ne ne'. ready.finding.unwritten q)).0

    bucket_is : (bucket : BucketFields) → ReadsHeldBucket (view_of old) (page_of pair.left_descent) bucket → bucket_of (ready.file.clean (lead_of ready.file.clean context.root (context.bits pair.left))) ≡ bucket
    bucket_is bucket reads =
        ap (λ q. bucket_of (ready.file.clean q)) leads
        ∙ ap bucket_of (agree (page_of pair.left_descent) reads.0 reads.1 ∙ sym (ap (λ p. own_or_clean p reads.0) (ready.finding.unwritten (page_of pair.left_descent))) ∙ reads.2)

    ghost : GhostThere context change pair.left (page_of pair.left_descent) (view_of old)
    ghost revives bucket reads =
        let is : decision request own ≡ (decided.0, Some change) = sym told ∙ ap (λ (c : Option RecChange). (decided.0, c)) own_is in
        let there : HasGhostOn context ready.file.clean pair.left = ready.ghost (ap (λ (d : ObjReply × Option RecChange). d.1) is ∙ ap Some revives) in
        (there.0, ap (λ (b : BucketFields). position (is_ghost_of pair.left context.tx) b.slots) (sym (bucket_is bucket reads)) ∙ there.1)

    -- what is asked of the pair
    abbrev asked : PairChanges
    asked = changes_for change change' (found_of pair.left_descent) (found_of pair.right_descent)

    asked_is : (changes : PairChanges) → changes.left ≡ Some (asked_of change own) → changes.right ≡ Some (asked_of change' size) → changes ≡ asked
    asked_is changes left right =
        (λ i. record { left = left i; right = right i }) ∙ (λ i. record { left = Some (asked_of change (sym ready.own_is i)); right = Some (asked_of change' (sym ready.size_is i)) })

    -- only an addition finds no room: the ghost that is to be revived has its slot
    no_plan : (one asked_one : RecordChange) (tx key : ℕ) (bucket : BucketFields) → Some asked_one ≡ Some one → HasNoPlan one context.active tx key bucket → HasNoPlan asked_one context.active tx key bucket
    no_plan one asked_one tx key bucket same none = let is : one ≡ asked_one = cc in subst (λ a. HasNoPlan a context.active tx key bucket) is none

    own_adds : (c : RecChange) → c ≡ change → (bucket : BucketFields) → ReadsHeldBucket (view_of old) (page_of pair.left_descent) bucket → HasNoPlan (asked_of c (found_of pair.left_descent)) context.active context.tx pair.left bucket → AddsElement request
    own_adds (Add v) is bucket reads none = adds_by_own request pair.right own decided.0 v ready.keys.size_is (sym told ∙ ap (λ (o : Option RecChange). (decided.0, o)) (own_is ∙ ap Some (sym is)))
    own_adds Revive is bucket reads none =
        let there = ghost (sym is) bucket reads in
        absurd (none-some there.0 (sym (nowhere_found (is_ghost_of pair.left context.tx) bucket.slots (position (is_ghost_of pair.left context.tx) bucket.slots) refl none.0) ∙ there.1))
    own_adds (Set v) is bucket reads none = absurd none
    own_adds ToGhost is bucket reads none = absurd none
    own_adds (Plus n) is bucket reads none = absurd none
    own_adds (Minus n) is bucket reads none = absurd none

    size_adds : (c : RecChange) → c ≡ change' → (bucket : BucketFields) → HasNoPlan (asked_of c (found_of pair.right_descent)) context.active context.tx pair.right bucket → AddsElement request
    size_adds (Add v) is bucket none = adds_by_size request decided.0 size v (sym resized ∙ size_is ∙ ap Some (sym is))
    size_adds Revive is bucket none = absurd (never_revives_size request decided.0 size (sym resized ∙ size_is ∙ ap Some (sym is)))
    size_adds (Set v) is bucket none = absurd none
    size_adds ToGhost is bucket none = absurd none
    size_adds (Plus n) is bucket none = absurd none
    size_adds (Minus n) is bucket none = absurd none

    abbrev FullLeft : PairChanges → ℕ → Type 0
    FullLeft c tx = IsFull c.left context.active tx pair.left (page_of pair.left_descent) (view_of old)

    abbrev FullRight : PairChanges → ℕ → Type 0
    FullRight c tx = IsFullBehind (task_of context.active pair (page_of pair.left_descent) (page_of pair.right_descent) c) tx (view_of old)

    rolled : (then_ : LocalState) → IsRolledBack old then_ → AddsElement request → HasFullBucket (task_for context pair change change') context.tx (view_of old) → RollsBack context old then_ request pair
    rolled then_ back adds full = record {
      back = back;
      start = starts_again old then_ back;
      adds = adds;
      reply = decided.0;
      asks = asks;
      full = full;
    }

    module _ (new : LocalState) (after : PairFields) (changes : PairChanges) (left : changes.left ≡ Some (asked_of change own)) (right : changes.right ≡ Some (asked_of change' size)) where
      -- **Both changes are made,**
      pub told_changed : TellsOfTwo (task_of context.active pair (page_of pair.left_descent) (page_of pair.right_descent) changes) old new pair after ChangeAnswer.Changed → context.tx ≡ old.running.tx → HasChanged context.bits context.root context.active context.tx after (view_of new)
          → HasToldFirst context request after decided.0 (view_of new)
      told_changed tells tx changed =
          let made : MakesBoth (task_for context pair change change') context.tx (view_of old) (view_of new) =
          subst (λ t. MakesBoth (task_for context pair change change') t (view_of old) (view_of new)) (sym tx)
          (subst (λ c. MakesBoth (task_of context.active pair (page_of pair.left_descent) (page_of pair.right_descent) c) old.running.tx (view_of old) (view_of new)) (asked_is changes left right) tells.0) in
          let still : HasChanged context.bits context.root context.active context.tx pair (view_of new) = subst (λ p. HasChanged context.bits context.root context.active context.tx p (view_of new)) tells.1 changed in
          let both = makes_both context request pair (view_of old) ready.keys ready.finding ready.found decided.0 asks own_can size_can ghost (view_of new) made in
          subst (λ p. HasToldFirst context request p decided.0 (view_of new)) (sym tells.1)
          (told_both context request pair decided.0 (view_of new) ready.keys still.found still.holding (buckets_alone pair (view_of new) still.unwritten) both)

      abbrev Leaving : PairChanges → ℕ → Type 0
      Leaving c tx = LeavesLeft (task_of context.active pair (page_of pair.left_descent) (page_of pair.right_descent) c) tx (view_of old) (view_of new) after.owed
          ⊎ LeavesRight (task_of context.active pair (page_of pair.left_descent) (page_of pair.right_descent) c) tx (view_of old) (view_of new) after.owed

      -- **or one of them, and the other is owed;**
      pub told_one_left : TellsOfTwo (task_of context.active pair (page_of pair.left_descent) (page_of pair.right_descent) changes) old new pair after ChangeAnswer.OneLeft → context.tx ≡ old.running.tx → HasChanged context.bits context.root context.active context.tx after (view_of new)
          → OwesOne context request after decided.0 (view_of new)
      told_one_left tells tx changed =
          let left_over : Leaving asked context.tx = subst (Leaving asked) (sym tx) (subst (λ c. Leaving c old.running.tx) (asked_is changes left right) tells.0) in
          let still : HasChanged context.bits context.root context.active context.tx (record pair { owed = after.owed }) (view_of new) = subst (λ p. HasChanged context.bits context.root context.active context.tx p (view_of new)) tells.1 changed in
          subst (λ p. OwesOne context request p decided.0 (view_of new)) (sym tells.1)
          (owes_one context request pair (view_of old) ready.keys ready.finding ready.found decided.0 asks own_can size_can ghost (view_of new) after.owed still left_over)

      -- nothing has changed where there is no room
      pub full_stays : (which : Side) → TellsOfTwo (task_of context.active pair (page_of pair.left_descent) (page_of pair.right_descent) changes) old new pair after (ChangeAnswer.Full which) → new ≡ old
      full_stays Side.Left tells = tells.1
      full_stays Side.Right tells = tells.1

      -- **or there is no room.**
      pub told_full : (which : Side) → TellsOfTwo (task_of context.active pair (page_of pair.left_descent) (page_of pair.right_descent) changes) old new pair after (ChangeAnswer.Full which) → context.tx ≡ old.running.tx → (then_ : LocalState) → IsRolledBack old then_
          → RollsBack context old then_ request pair
      told_full Side.Left tells tx then_ back =
          let full : FullLeft asked context.tx = subst (FullLeft asked) (sym tx) (subst (λ c. FullLeft c old.running.tx) (asked_is changes left right) tells.0) in
          rolled then_ back (own_adds change refl full.bucket full.reads (no_plan full.change (asked_of change (found_of pair.left_descent)) context.tx pair.left full.bucket full.asked_is full.none)) (inl full)
      told_full Side.Right tells tx then_ back =
          let full : FullRight asked context.tx = subst (FullRight asked) (sym tx) (subst (λ c. FullRight c old.running.tx) (asked_is changes left right) tells.0) in
          rolled then_ back (size_adds change' refl full.right.bucket (no_plan full.right.change (asked_of change' (found_of pair.right_descent)) context.tx pair.right full.right.bucket full.right.asked_is full.right.none)) (inr full)

  -- **What is asked of the pair fits what it has found.**
  pub asked_fits_both : (change : RecChange) → decided.1 ≡ Some change → (change' : RecChange) → resize ≡ Some change' → CanChange decided.1 own → (changes : PairChanges) → changes.left ≡ Some (asked_of change own) → changes.right ≡ Some (asked_of change' size) → FitsBoth changes pair
  asked_fits_both change own_is change' size_is can changes left right = (
    subst (λ (a : Option RecordChange). FitsFound a (found_of pair.left_descent)) (sym left) (subst (λ (o : Option ℕ). FitsFound (Some (asked_of change own)) o) (sym ready.own_is) (asked_fits change own (subst (λ (c : Option RecChange). CanChange c own) own_is can))),
    subst (λ (a : Option RecordChange). FitsFound a (found_of pair.right_descent)) (sym right) (subst (λ (o : Option ℕ). FitsFound (Some (asked_of change' size)) o) (sym ready.size_is)
        (asked_fits change' size (subst (λ (c : Option RecChange). CanChange c size) (ap (λ (d : ObjReply × Option RecChange). size_decision request d.0 size) (sym told) ∙ sym resized ∙ size_is) ready.fits))),
  )

  -- the size is changed where the own record is
  pub both_or_none : ((found : Option ℕ) → IsSome (size_key_of request) → decided.0 ≡ (decision request found).0 → is_some resize ≡ is_some (decision request found).1) → is_some resize ≡ is_some decided.1
  both_or_none both =
      both own (subst IsSome (sym ready.keys.size_is) refl) (ap (λ (d : ObjReply × Option RecChange). d.0) told) ∙ ap (λ (d : ObjReply × Option RecChange). is_some d.1) (sym told)
