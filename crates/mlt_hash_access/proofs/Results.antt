-- What the calls on a page tell, as steps
use Rattle.std.proofs.Common.{◌≡◌, ℕ, true, Option, None, Some, is_some, Result, Ok, Err, IfOk, OnErr, OnOk, refl, sym, ap, subst, ◌∙◌, MatchResult}
use Rattle.std.specs.FinMap as map
use Rattle.mlt_hash_access.proofs.Names.{Mode, Exclusive, Page, Slot, BucketFields, page_with_slot, PageStore, page_at, LockTable, can_read, can_write, writer_reads, IsNobody, conflicts, granted, Running, with_image, own_or_clean, seen_as, MayStep, LocalState, page_before, Leaves, LocksPage, MakesLockedPage, WritesHeldPage, MakesPage, ReadsHeldPage, WritesPage, WritesSlot, own_at, seen_at, view_of}
use Rattle.mlt_page.specs.Stores.{SetsSlot}
use Rattle.mlt_hash_form.proofs.Paths.{one_page}
use Rattle.mlt_hash_access.{specs.PageSteps.WritesHeldSlot, specs.Views.ReadsHeldBucket, proofs.Leaving.leaves_by_making, proofs.Leaving.leaves_by_writing, proofs.Leaving.leaves_it, proofs.Views.make_makes, proofs.Views.reads_what_is_there, proofs.Views.seen_held, proofs.Views.write_writes}

-- a lock of the transaction of this number, which was granted
pub lock_granted : (m : LocalState) (locks : LockTable) (tx q : ℕ) (mode : Mode) → tx ≡ m.running.tx → is_some (page_at m.store.pages q) ≡ true → IsNobody (conflicts m.locks tx q mode) × (locks ≡ granted m.locks tx q mode)
    → LocksPage m (record { running = m.running; locks = locks; store = m.store }) q mode
lock_granted m locks tx q mode own there answer = record {
  free = subst (λ tx. IsNobody (conflicts m.locks tx q mode)) own answer.0;
  there = there;
  locks = answer.1 ∙ ap (λ tx. granted m.locks tx q mode) own;
  running = refl;
  store = refl;
}

-- what a held page has is read in the view
pub read_in_view : (m : LocalState) (q : ℕ) (page : Page) → MayStep m → can_read m.locks m.running.tx q ≡ true → page_at m.store.pages q ≡ Some page → (first : Option Page) × (seen_at m q ≡ Some first) × (own_or_clean (own_at m q) first ≡ Some page)
read_in_view m q page may held is = (page_before m.running.images m.store.pages q, seen_held m q held, reads_what_is_there m q page may is)

-- and what is read in the view of a held page is there
pub read_is_there : (m : LocalState) (q : ℕ) (page : Page) → MayStep m → can_read m.locks m.running.tx q ≡ true → ReadsHeldPage (view_of m) q page → page_at m.store.pages q ≡ Some page
read_is_there m q page may held reads =
    let there = seen_as (page_at m.store.pages q) (may.locks_there m.running.tx q held) in
    let own = read_in_view m q there.0 may held there.1 in
    let firsts : ◌≡◌ {A = Option (Option Page)} (Some reads.0) (Some own.0) = sym reads.1 ∙ own.1 in
    let first : reads.0 ≡ own.0 = cc in
    there.1 ∙ ap Some (one_page (own_or_clean (own_at m q) own.0) there.0 page own.2 (subst (λ (o : Option Page). own_or_clean (own_at m q) o ≡ Some page) first reads.2))

-- a write that was done, or refused
abbrev pub WriteTold : {A E : Type 0} → LocalState → LocalState → ℕ → Page → Result A E → Type 0
WriteTold m new q page result = MatchResult result (λ _. WritesHeldPage m new q page) (λ _. new ≡ m)

pub write_told : {A E : Type 0} (m : LocalState) (running : Running) (store : PageStore) (q : ℕ) (page : Page) (result : Result A E) → can_write m.locks m.running.tx q ≡ true
    → OnOk result (store ≡ record m.store { pages = map.insert m.store.pages q page })
    → OnOk result (running ≡ record m.running { images = with_image m.running.images q (page_at m.store.pages q) })
    → OnErr result ((running ≡ m.running) × (store ≡ m.store))
    → WriteTold m (record { running = running; locks = m.locks; store = store }) q page result
write_told m running store q page (Ok done) held pages images same = record { held = held; locks = refl; running = images; store = pages }
write_told m running store q page (Err refusal) held pages images same = λ i. record { running = same.0 i; locks = m.locks; store = same.1 i }

pub leaves_after_write_told : {A E : Type 0} (m new : LocalState) (q : ℕ) (page : Page) (result : Result A E) → MayStep m → WriteTold m new q page result → Leaves m new
leaves_after_write_told m new q page (Ok done) may told = leaves_by_writing m new q page may told
leaves_after_write_told m new q page (Err refusal) may told = leaves_it m new may told

pub view_after_write_told : {A E : Type 0} (m new : LocalState) (q : ℕ) (page : Page) (result : Result A E) → WriteTold m new q page result → OnOk result (WritesPage (view_of m) (view_of new) q page)
view_after_write_told m new q page (Ok done) told = write_writes m new q page told
view_after_write_told m new q page (Err refusal) told = tt

on_ok : {A E P Q : Type 0} (result : Result A E) → (P → Q) → OnOk result P → OnOk result Q
on_ok (Ok done) f is = f is
on_ok (Err refusal) f is = tt

each_on_ok : {A E X : Type 0} (P Q : X → Type 0) (result : Result A E) → ((x : X) → P x → OnOk result (Q x)) → OnOk result ((x : X) → P x → Q x)
each_on_ok P Q (Ok done) f = f
each_on_ok P Q (Err refusal) f = tt

writes_if_told : {A E : Type 0} (m new : LocalState) (q : ℕ) (page : Page) (result : Result A E) → WriteTold m new q page result → OnOk result (WritesHeldPage m new q page)
writes_if_told m new q page (Ok done) told = told
writes_if_told m new q page (Err refusal) told = tt

-- a bucket that is read in the view of a page that may be written is there
pub bucket_there : (m : LocalState) (q : ℕ) (bucket : BucketFields) → MayStep m → can_write m.locks m.running.tx q ≡ true → ReadsHeldBucket (view_of m) q bucket → page_at m.store.pages q ≡ Some (Page.Bucket bucket)
bucket_there m q bucket may held reads = read_is_there m q (Page.Bucket bucket) may (writer_reads m.locks m.running.tx q held) reads

-- a slot of it was set, or not
module _ {A E : Type 0} (m : LocalState) (running : Running) (store : PageStore) (q i : ℕ) (s : Slot) (result : Result A E) (may : MayStep m) (held : can_write m.locks m.running.tx q ≡ true) (sets : OnOk result (SetsSlot m.store store q i s))
    (images : OnOk result (running ≡ record m.running { images = with_image m.running.images q (page_at m.store.pages q) }))
    (same : OnErr result ((running ≡ m.running) × (store ≡ m.store))) where
  abbrev pub now : LocalState
  now = record { running = running; locks = m.locks; store = store }

  slot_told : (bucket : BucketFields) → ReadsHeldBucket (view_of m) q bucket → WriteTold m now q (page_with_slot bucket i s) result
  slot_told bucket reads = write_told m running store q (page_with_slot bucket i s) result held (on_ok result (λ (is : SetsSlot m.store store q i s). is bucket (bucket_there m q bucket may held reads)) sets) images same

  pub slot_writes : OnOk result (WritesHeldSlot m now q i s)
  slot_writes = each_on_ok (ReadsHeldBucket (view_of m) q) (λ bucket. WritesHeldPage m now q (page_with_slot bucket i s)) result (λ bucket reads. writes_if_told m now q (page_with_slot bucket i s) result (slot_told bucket reads))

  pub slot_writes_in_view : OnOk result (WritesSlot (view_of m) (view_of now) q i s)
  slot_writes_in_view = each_on_ok (ReadsHeldBucket (view_of m) q) (λ bucket. WritesPage (view_of m) (view_of now) q (page_with_slot bucket i s)) result (λ bucket reads. view_after_write_told m now q (page_with_slot bucket i s) result (slot_told bucket reads))

  pub slot_leaves : (bucket : BucketFields) → ReadsHeldBucket (view_of m) q bucket → Leaves m now
  slot_leaves bucket reads = leaves_after_write_told m now q (page_with_slot bucket i s) result may (slot_told bucket reads)

-- a page that was made, or refused
abbrev pub MakeTold : {E : Type 0} → LocalState → LocalState → Page → Result ℕ E → Type 0
MakeTold m new page result = MatchResult result (λ q. MakesLockedPage m new q page) (λ _. new ≡ m)

pub make_told : {E : Type 0} (m new : LocalState) (page : Page) (result : Result ℕ E)
    → IfOk result (λ q. page_at m.store.pages q ≡ None)
    → IfOk result (λ q. new.store ≡ record m.store { pages = map.insert m.store.pages q page })
    → IfOk result (λ q. new.running ≡ record m.running { images = map.insert m.running.images q None })
    → IfOk result (λ q. new.locks ≡ granted m.locks m.running.tx q Exclusive)
    → OnErr result ((new.running ≡ m.running) × (new.store ≡ m.store) × (new.locks ≡ m.locks))
    → MakeTold m new page result
make_told m new page (Ok q) fresh pages images locks same = record { fresh = fresh; locks = locks; running = images; store = pages }
make_told m new page (Err refusal) fresh pages images locks same = λ i. record { running = same.0 i; locks = same.2 i; store = same.1 i }

pub leaves_after_make_told : {E : Type 0} (m new : LocalState) (page : Page) (result : Result ℕ E) → MayStep m → MakeTold m new page result → Leaves m new
leaves_after_make_told m new page (Ok q) may told = leaves_by_making m new q page may told
leaves_after_make_told m new page (Err refusal) may told = leaves_it m new may told

pub view_after_make_told : {E : Type 0} (m new : LocalState) (page : Page) (result : Result ℕ E) → MayStep m → MakeTold m new page result → IfOk result (λ q. MakesPage (view_of m) (view_of new) q page)
view_after_make_told m new page (Ok q) may told = make_makes m new q page may told
view_after_make_told m new page (Err refusal) may told = tt
