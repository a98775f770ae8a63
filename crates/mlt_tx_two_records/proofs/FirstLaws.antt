-- What a first pass knows, whatever other transactions do
use Rattle.std.proofs.Common.{◌≡◌, ℕ, true, List, length, None, Some, refl, sym, ap, subst, ◌∙◌, inl, inr, slice_index_or, slice_set, nat_cmp, get_or-set_other, get_or-set_same}
use Rattle.std.specs.FinSet as set
use Rattle.mlt_tx_two_records.proofs.Names.{cases_eq, cases_lt, false≢true, is_kept, Page, Slot, Free, BucketFields, with_slot, ObjReply, Request, bucket_of, own_or_clean, ReadsHeldBucket, View, WriteFields, KeepsNoMore, PairFields, slot_after, WalkContext, StoodBefore, Change, ChangesBoth, HasToldFirst, OwesEither, OwesOne, PlansRecord, WritesRecord}
use Rattle.std.proofs.lemmas.List.{set_past}
use Rattle.mlt_page_subtx.proofs.ImageLaws.{not_true}
use Rattle.mlt_hash_pair.{specs.Descents.page_of, proofs.Laws.owners_close}
use Rattle.mlt_tx_two_records.proofs.Planning.{reads_written}

-- what stood in a slot is what stands there by those that are open now, if its room is not kept now where it was not before
stood_fewer : (done : Change) (context : WalkContext) (fewer : set.FinSet nat_cmp) (key : ℕ) (slots : List Slot) (slot : Slot) → (is_kept fewer slot ≡ true → is_kept context.active slot ≡ true) → StoodBefore done context key slots slot → StoodBefore done (record context { active = fewer }) key slots slot
stood_fewer (Change.Put value) context fewer key slots slot kept was = (was.0, was.1, not_true (is_kept fewer slot) (λ is. false≢true (sym was.2 ∙ kept is)))
stood_fewer (Change.Revive value) context fewer key slots slot kept was = was
stood_fewer (Change.Set value) context fewer key slots slot kept was = was
stood_fewer Change.Remove context fewer key slots slot kept was = was

-- the room of what a change writes is kept, as long as its transaction is open
written_kept : (done : Change) (active : set.FinSet nat_cmp) (key tx : ℕ) → set.contains active tx ≡ true → is_kept active (slot_after done key tx) ≡ true
written_kept (Change.Put value) active key tx is_open = refl
written_kept (Change.Revive value) active key tx is_open = refl
written_kept (Change.Set value) active key tx is_open = refl
written_kept Change.Remove active key tx is_open = is_open

module _ (context : WalkContext) (fewer : set.FinSet nat_cmp) (view : View) (no_more : KeepsNoMore context.active fewer view) (is_open : set.contains context.active context.tx ≡ true) where
  -- no slot of a bucket keeps its room now that did not before
  abbrev KeptFewer : BucketFields → Type 0
  KeptFewer bucket = (i : ℕ) → is_kept fewer (slice_index_or bucket.slots i Free) ≡ true → is_kept context.active (slice_index_or bucket.slots i Free) ≡ true

  -- neither of one that is not written,
  seen_fewer : (old : View) (q : ℕ) (bucket : BucketFields) → ((p : ℕ) → view.seen p ≡ old.seen p) → old.own q ≡ None → ReadsHeldBucket old q bucket → KeptFewer bucket
  seen_fewer old q bucket seen none reads i kept =
      let first : reads.0 ≡ Some (Page.Bucket bucket) = sym (ap (λ own. own_or_clean own reads.0) none) ∙ reads.2 in
      let same : bucket_of reads.0 ≡ bucket = ap bucket_of first in
      ap (λ (b : BucketFields). is_kept context.active (slice_index_or b.slots i Free)) (sym same)
      ∙ no_more q reads.0 (seen q ∙ reads.1) i (ap (λ (b : BucketFields). is_kept fewer (slice_index_or b.slots i Free)) same ∙ kept)

  -- nor of one in which a slot is set
  set_fewer : (bucket : BucketFields) (at : ℕ) (slot : Slot) → is_kept context.active slot ≡ true → KeptFewer bucket → KeptFewer (with_slot bucket at slot)
  set_fewer bucket at slot own kept i is =
      elim (cases_lt at (length bucket.slots)) [
        | inl within ↦ elim (cases_eq i at) [
          | inl here ↦ ap (λ j. is_kept context.active (slice_index_or (slice_set bucket.slots at slot) j Free)) here ∙ ap (is_kept context.active) (get_or-set_same bucket.slots at slot Free within) ∙ own
          | inr elsewhere ↦
              let same = get_or-set_other bucket.slots at i slot Free elsewhere in
              ap (is_kept context.active) same ∙ kept i (ap (is_kept fewer) (sym same) ∙ is)
        ]
        | inr past ↦
            let same : slice_set bucket.slots at slot ≡ bucket.slots = set_past bucket.slots at slot past in
            ap (λ s. is_kept context.active (slice_index_or s i Free)) same ∙ kept i (ap (λ s. is_kept fewer (slice_index_or s i Free)) (sym same) ∙ is)
      ]

  abbrev plan_fewer : (done : Change) (key q : ℕ) (old : View) (write : WriteFields) → (plan : PlansRecord context done key q old write) → KeptFewer plan.bucket → PlansRecord (record context { active = fewer }) done key q old write
  plan_fewer done key q old write plan kept = record {
    bucket = plan.bucket;
    reads = plan.reads;
    number = plan.number;
    within = plan.within;
    slot = plan.slot;
    was = stood_fewer done context fewer key plan.bucket.slots (slice_index_or plan.bucket.slots write.at Free) (kept write.at) plan.was;
  }

  write_fewer : (done : Change) (key q : ℕ) (old new : View) → (writes : WritesRecord context done key q old new) → KeptFewer writes.plan.bucket → WritesRecord (record context { active = fewer }) done key q old new
  write_fewer done key q old new writes kept = record {
    write = writes.write;
    plan = plan_fewer done key q old writes.write writes.plan kept;
    writes = writes.writes;
  }

  -- **Owners that close leave a pass that owes a change where it stands,**
  pub owes_fewer : (request : Request) (pair : PairFields) (reply : ObjReply) → OwesOne context request pair reply view → OwesOne (record context { active = fewer }) request pair reply view
  owes_fewer request pair reply owes = record {
    keys = owes.keys;
    changed = owners_close context.bits context.root context.active fewer context.tx pair view owes.changed (λ q bucket sees. no_more q (Some (Page.Bucket bucket)) sees);
    asks = owes.asks;
    own_done = owes.own_done;
    size_done = owes.size_done;
    own_performs = owes.own_performs;
    size_performs = owes.size_performs;
    two = owes.two;
    old = owes.old;
    unwritten = owes.unwritten;
    write = owes.write;
    owed = owes.owed;
    owes = go owes.owes;
  }
    where
      go : OwesEither context owes.own_done owes.size_done pair owes.old view owes.write → OwesEither (record context { active = fewer }) owes.own_done owes.size_done pair owes.old view owes.write
      go (inl (size, own)) = inl (
        write_fewer owes.size_done pair.right (page_of pair.right_descent) owes.old view size (seen_fewer owes.old (page_of pair.right_descent) size.plan.bucket size.writes.seen (owes.unwritten (page_of pair.right_descent)) size.plan.reads),
        plan_fewer owes.own_done pair.left (page_of pair.left_descent) view owes.write own (seen_fewer view (page_of pair.left_descent) own.bucket (λ p. refl) (size.writes.others (page_of pair.left_descent) owes.two ∙ owes.unwritten (page_of pair.left_descent)) own.reads),
      )
      go (inr (own, size)) = inr (
        write_fewer owes.own_done pair.left (page_of pair.left_descent) owes.old view own (seen_fewer owes.old (page_of pair.left_descent) own.plan.bucket own.writes.seen (owes.unwritten (page_of pair.left_descent)) own.plan.reads),
        plan_fewer owes.size_done pair.right (page_of pair.right_descent) view owes.write size (seen_fewer view (page_of pair.right_descent) size.bucket (λ p. refl) (own.writes.others (page_of pair.right_descent) (λ same. owes.two (sym same)) ∙ owes.unwritten (page_of pair.right_descent)) size.reads),
      )

  both_fewer : (request : Request) (pair : PairFields) (reply : ObjReply) → ChangesBoth context request pair reply view → ChangesBoth (record context { active = fewer }) request pair reply view
  both_fewer request pair reply both = record {
    asks = both.asks;
    own_done = both.own_done;
    size_done = both.size_done;
    own_performs = both.own_performs;
    size_performs = both.size_performs;
    old = both.old;
    mid = both.mid;
    unwritten = both.unwritten;
    own = write_fewer both.own_done pair.left (page_of pair.left_descent) both.old both.mid both.own own_kept;
    size = write_fewer both.size_done pair.right (page_of pair.right_descent) both.mid view both.size size_kept;
  }
    where
      own_kept : KeptFewer both.own.plan.bucket
      own_kept = seen_fewer both.old (page_of pair.left_descent) both.own.plan.bucket (λ p. both.size.writes.seen p ∙ both.own.writes.seen p) (both.unwritten (page_of pair.left_descent)) both.own.plan.reads

      size_kept : KeptFewer both.size.plan.bucket
      size_kept = elim (cases_eq (page_of pair.right_descent) (page_of pair.left_descent)) [
        | inl same ↦
            let reads : ReadsHeldBucket both.mid (page_of pair.left_descent) both.size.plan.bucket = subst (λ q. ReadsHeldBucket both.mid q both.size.plan.bucket) same both.size.plan.reads in
            let is : both.size.plan.bucket ≡ with_slot both.own.plan.bucket both.own.write.at both.own.write.slot = reads_written both.old both.mid (page_of pair.left_descent) both.size.plan.bucket (with_slot both.own.plan.bucket both.own.write.at both.own.write.slot) both.own.writes reads in
            let own : is_kept context.active both.own.write.slot ≡ true = ap (is_kept context.active) both.own.plan.slot ∙ written_kept both.own_done context.active pair.left context.tx is_open in
            subst KeptFewer (sym is) (set_fewer both.own.plan.bucket both.own.write.at both.own.write.slot own own_kept)
        | inr ne ↦ seen_fewer both.mid (page_of pair.right_descent) both.size.plan.bucket both.size.writes.seen (both.own.writes.others (page_of pair.right_descent) ne ∙ both.unwritten (page_of pair.right_descent)) both.size.plan.reads
      ]

  -- **and one that has told its reply.**
  pub told_fewer : (request : Request) (pair : PairFields) (reply : ObjReply) → HasToldFirst context request pair reply view → HasToldFirst (record context { active = fewer }) request pair reply view
  told_fewer request pair reply told = record {
    keys = told.keys;
    found = told.found;
    holding = told.holding;
    alone = told.alone;
    done = elim told.done [
      | inl none ↦ inl none
      | inr both ↦ inr (both_fewer request pair reply both)
    ];
  }
