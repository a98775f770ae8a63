-- What a walk knows of its splits once owners have closed
use Rattle.std.proofs.Common.{ℕ, ◌≡◌, true, is_some, Option, sym, ◌∙◌, ap, subst, inl, inr, slice_index_or, nat_cmp}
use Rattle.std.specs.FinSet as set
use Rattle.mlt_hash_split.proofs.Names.{is_kept, Free, BucketFields, HeadFields, Page, HasForm, bucket_of, buckets_of, Agrees, KeepsFile, over, seen_as, View, SplitTarget, IsAtRest, seed_of, IsUnderWay, SplitFields, StandsAt, SplitPhase}
use Rattle.mlt_hash_form.{specs.Form.slot_at, proofs.Crowd.crowded_with_fewer, proofs.HeldPages.keeps_fewer, proofs.Splitting.used_from_kept}
use Rattle.mlt_hash_split.{specs.Rests.KeepsNoMore, proofs.Closing.held_page_over, proofs.Closing.not_true}

-- the slots of a held page of the walk's file were on held clean pages, so no more of them are kept than were
kept_before : (bits : ℕ → ℕ) (active fewer : set.FinSet nat_cmp) (root : ℕ) (view : View) (own clean : ℕ → Option Page) → KeepsFile bits active root view.seen own → KeepsNoMore active fewer view → Agrees view.seen clean → HasForm bits clean root
    → (m i : ℕ) → is_some (view.seen m) ≡ true → is_kept fewer (slot_at (buckets_of (over clean own)) m i) ≡ true → is_kept active (slot_at (buckets_of (over clean own)) m i) ≡ true
kept_before bits active fewer root view own clean keeps no_more agrees form m i held kept =
    let b = (keeps clean agrees form).stood m i (used_from_kept fewer _ kept) in
    let on : is_some (view.seen b.0) ≡ true = elim b.2 [ inl same ↦ ap (λ o. is_some (view.seen o)) same ∙ held | inr h ↦ h ] in
    let p = seen_as (view.seen b.0) on in
    let here : slice_index_or (bucket_of p.0).slots i Free ≡ slot_at (buckets_of (over clean own)) m i = sym (ap (λ q. slice_index_or (bucket_of q).slots i Free) (agrees b.0 p.0 p.1)) ∙ b.1 in
    subst (λ s. is_kept active s ≡ true) here (no_more b.0 p.0 p.1 i (subst (λ s. is_kept fewer s ≡ true) (sym here) kept))

-- a bucket that is on a held page of the walk's file
bucket_kept_before : (bits : ℕ → ℕ) (active fewer : set.FinSet nat_cmp) (root : ℕ) (view : View) (own clean : ℕ → Option Page) (m : ℕ) (bucket : BucketFields) → KeepsFile bits active root view.seen own → KeepsNoMore active fewer view → Agrees view.seen clean → HasForm bits clean root
    → is_some (view.seen m) ≡ true → buckets_of (over clean own) m ≡ bucket
    → (i : ℕ) → is_kept fewer (slice_index_or bucket.slots i Free) ≡ true → is_kept active (slice_index_or bucket.slots i Free) ≡ true
bucket_kept_before bits active fewer root view own clean m bucket keeps no_more agrees form held is i kept =
    subst (λ (b : BucketFields). is_kept active (slice_index_or b.slots i Free) ≡ true) is (kept_before bits active fewer root view own clean keeps no_more agrees form m i held (subst (λ (b : BucketFields). is_kept fewer (slice_index_or b.slots i Free) ≡ true) (sym is) kept))

pub rest_with_fewer : (target : SplitTarget) (fewer : set.FinSet nat_cmp) (view : View) (n : ℕ) (header : HeadFields) (bucket : BucketFields) (clean : ℕ → Option Page) → Agrees view.seen clean → HasForm target.bits clean target.root
    → IsAtRest target view n header bucket → KeepsNoMore target.active fewer view → IsAtRest (record target { active = fewer }) view n header bucket
rest_with_fewer target fewer view n header bucket clean agrees form rest no_more =
    let is : buckets_of (over clean view.own) n ≡ bucket = ap bucket_of (sym (held_page_over view clean n agrees rest.bucket_held) ∙ rest.found) in
    let kept = bucket_kept_before target.bits target.active fewer target.root view view.own clean n bucket rest.keeps no_more agrees form rest.bucket_held is in
    record {
      bounded = rest.bounded;
      keeps = keeps_fewer target.bits target.active target.root view.seen fewer view.own no_more rest.keeps;
      leads = rest.leads;
      head_held = rest.head_held;
      head = rest.head;
      bucket_held = rest.bucket_held;
      found = rest.found;
      exclusive = rest.exclusive;
      absent = rest.absent;
      no_ghost = rest.no_ghost;
      room = not_true _ _ (crowded_with_fewer target.bits target.active fewer target.room_depth (seed_of target) bucket.slots (λ i lt. kept i)) rest.room;
      small = rest.small;
      few_before = rest.few_before;
      among = rest.among;
    }

-- where a split stands says nothing of who is open now
stands_with_fewer : (phase : SplitPhase) (target : SplitTarget) (fewer splitters : set.FinSet nat_cmp) (base pages : ℕ → Option Page) (split : SplitFields) (bucket : BucketFields) → StandsAt phase target splitters base pages split bucket → StandsAt phase (record target { active = fewer }) splitters base pages split bucket
stands_with_fewer SplitPhase.OldBucket target fewer splitters base pages split bucket s = record { zeros = s.zeros; ones = s.ones; doubles = s.doubles }
stands_with_fewer (SplitPhase.InPlace place end) target fewer splitters base pages split bucket s = record { shallow = s.shallow; filled = s.filled; first = s.first; places = s.places; from = s.from; more = s.more; last = s.last }
stands_with_fewer (SplitPhase.Double place) target fewer splitters base pages split bucket s = record { deep = s.deep; filled = s.filled; more = s.more; deeper = s.deeper }
stands_with_fewer (SplitPhase.SecondHalf place) target fewer splitters base pages split bucket s = record { deep = s.deep; filled = s.filled; more = s.more; deeper = s.deeper; long = s.long; sized = s.sized; right = s.right }
stands_with_fewer SplitPhase.Header target fewer splitters base pages split bucket s = record { deep = s.deep; taken = s.taken; filled = s.filled; deeper = s.deeper }

pub under_way_with_fewer : (target : SplitTarget) (fewer : set.FinSet nat_cmp) (view : View) (split : SplitFields) (clean : ℕ → Option Page) → Agrees view.seen clean → HasForm target.bits clean target.root
    → IsUnderWay target view split → KeepsNoMore target.active fewer view → IsUnderWay (record target { active = fewer }) view split
under_way_with_fewer target fewer view split clean agrees form way no_more =
    let is : buckets_of (over clean way.rest) split.old_page ≡ way.bucket = ap bucket_of (way.begins clean agrees form).was in
    let kept = bucket_kept_before target.bits target.active fewer target.root view way.rest clean split.old_page way.bucket way.keeps no_more agrees form way.old_held is in
    record {
      bounded = way.bounded;
      rest = way.rest;
      splitters = way.splitters;
      header = way.header;
      bucket = way.bucket;
      keeps = keeps_fewer target.bits target.active target.root view.seen fewer way.rest no_more way.keeps;
      head_held = way.head_held;
      head = way.head;
      old_held = way.old_held;
      exclusive = way.exclusive;
      new_exclusive = way.new_exclusive;
      doubles = way.doubles;
      fewer = λ i k. way.fewer i (kept i k);
      absent = way.absent;
      no_ghost = way.no_ghost;
      room = not_true _ _ (crowded_with_fewer target.bits target.active fewer target.room_depth (seed_of target) way.bucket.slots (λ i lt. kept i)) way.room;
      small = way.small;
      few_before = way.few_before;
      begins = λ clean2 a f. let b = way.begins clean2 a f in record { may = b.may; was = b.was; seed = b.seed; depth = b.depth; directory_depth = b.directory_depth; deep = b.deep };
      stands = λ clean2 a f. stands_with_fewer split.phase target fewer way.splitters (over clean2 way.rest) (over clean2 view.own) split way.bucket (way.stands clean2 a f);
      among = way.among;
    }
