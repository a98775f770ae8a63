-- Additions whose bucket had no room: what a walk at rest knows of its file, and the record that it puts at last
use Rattle.std.proofs.Common.{ℕ, suc, ◌≡◌, ◌<◌, ◌≤◌, ◌+◌, Bool, true, false, not, List, [], ◌∷◌, length, Option, Some, None, is_some, refl, sym, ◌∙◌, ap, subst, inl, inr, ◌⊎◌, arith, unwrap_or, ◌↔◌, slice_index_or, position, Err, Result, nat_cmp}
use Rattle.mlt_hash.proofs.Names.{list_all, cases_lt, false≢true, Exclusive, Refusal, is_ghost_of, is_kept, is_live_of, Slot, Free, Live, page_with_slot, BucketFields, HeadFields, Page, IsHome, HasForm, bucket_of, buckets_of, header_of, lead_of, value_in, Agrees, over, own_or_clean, crowds, is_crowded, crowded_at_own_depth, HasFileOver, MayStep, LocalState, WritesHeldSlot, HasWritten, MakesPage, ReadsHeldBucket, ReadsHeldPage, View, WritesPage, view_of, reads_over_writes, can_write, can_read, may_write, write_writes, writes_over_clean, may_read, seen_held, IsNowhere, SetsFirst, WriteFields, has_room, planned_page, SplitTarget, IsAtRest, held_page, HasHalves, IsUnderWay, MayBegin, SplitFields, directory_steps, steps_left, HasClean, rest_holds_few, WalkContext, HasRead, HoldsByPass, IsAdding, IsChanged, IsSplitting, IsStanding, Stands, WalkFields, split_target, one_key, view_for, Makes, PlansSlot, TellsOfWrite, page_of, BeginsSplit, TellsOfAdding, walk_step, WalkAnswer, Pass, Phase, Change}
use Rattle.std.specs.FinMap as map
use Rattle.std.specs.FinSet as set
use Rattle.std.proofs.lemmas.List.Folds.{list_all_at}
use Rattle.mlt_hash_form.proofs.{Crowd.crowded_in_fewer, HeldPages.keeps_more}
use Rattle.mlt_hash_access.{specs.LocalStates.page_before, specs.PageSteps.MakesLockedPage, specs.PageSteps.WritesHeldPage, specs.Views.own_at, proofs.Rebased.rebased_makes_page, proofs.Rebased.rebased_writes_page, proofs.Since.read_over_writes, proofs.Views.make_makes}
use Rattle.mlt_hash_split.{specs.Rests.seed_of, proofs.Beginning.rest_bucket, proofs.Beginning.rest_is_shallow, proofs.Beginning.rest_is_small, proofs.HeldPages.not_made}
use Rattle.mlt_hash.{specs.Changes.PutsLowest, specs.Splitting.HasToSplit, proofs.Additions.nowhere_found, proofs.Beside.more_beside, proofs.Beside.still_beside, proofs.InPlace.changes_by, proofs.Splittings.stays_exclusive_in_step}
use Rattle.mlt_hash.proofs.Passed.{StepsOn, holds_on, reads_on, steps_by_making, steps_by_write}

-- what no slot has stands nowhere
pub nowhere : (has : Slot → Bool) (slots : List Slot) → ((i : ℕ) → has (slice_index_or slots i Free) ≡ false) → position has slots ≡ None
nowhere has slots none = nowhere_found has slots (position has slots) refl (λ i within. none i)

-- over all clean pages that agree, the bucket of a walk at rest is where its key leads
pub rest_home : (target : SplitTarget) (view : View) (n : ℕ) (header : HeadFields) (bucket : BucketFields) → IsAtRest target view n header bucket → (clean : ℕ → Option Page) → Agrees view.seen clean → HasForm target.bits clean target.root
    → IsHome target.bits (over clean view.own) target.root target.key n bucket
rest_home target view n header bucket rest clean agree form = record {
  bounded = rest.bounded;
  form = (rest.keeps clean agree form).form;
  leads = rest.leads clean agree form;
  found = rest_bucket target view n header bucket rest clean agree;
}

-- **The record that is put into a bucket at rest changes the file at its key alone.**
pub put_is_changed : (context : WalkContext) (walk : WalkFields) (old new : View) (room_depth n : ℕ) (header : HeadFields) (fields : BucketFields) (value i : ℕ) → (read : HasRead context walk.key old None) → HoldsByPass context.before.held walk.pass walk.mode context.root read.dir read.bucket old → header.depth ≤ context.max_depth → map.len old.modes < 300 → fields.depth ≤ 16 → IsAtRest (split_target context walk room_depth) old n header fields → i < 8
    → is_kept context.active (slice_index_or fields.slots i Free) ≡ false → WritesPage old new n (page_with_slot fields i (Live walk.key value)) → IsChanged context (record walk { phase = Phase.Changed n (Change.Put value) }) new n (Change.Put value)
put_is_changed context walk old new room_depth n header fields value i read holds shallow few low rest within room writes =
    let target = split_target context walk room_depth in
    let absent = nowhere (is_live_of walk.key) fields.slots rest.absent in
    let none : value_in walk.key fields.slots ≡ None = rw absent refl in
    let no_ghost = nowhere (is_ghost_of walk.key context.tx) fields.slots rest.no_ghost in
    let before : (clean : ℕ → Option Page) → Agrees new.seen clean → Agrees old.seen clean = λ clean agree q first is. agree q first (writes.seen q ∙ is) in
    let not_header : context.root ≡ n → ⊥ = λ same. (let both : Some (Page.Head header) ≡ Some (Page.Bucket fields) = sym rest.head ∙ ap (held_page old) same ∙ rest.found in cc) in
    let step : StepsOn walk old new = steps_by_write walk old new n (page_with_slot fields i (Live walk.key value)) writes in
    record {
      found = None;
      fits = refl;
      read = reads_on context walk old new step None read;
      holds = holds_on context walk old new step None read holds;
      header = header;
      head = (λ k. own_or_clean (writes.others context.root not_header k) (unwrap_or (writes.seen context.root k) None)) ∙ rest.head;
      shallow = shallow;
      few = let same : map.len new.modes ≡ map.len old.modes = ap map.len writes.modes in omega (arith, few, same);
      among = more_beside new header (context.before.buckets + 2 + fields.depth) (context.before.buckets + 18) (omega (arith, low)) (still_beside old new header (context.before.buckets + 2 + fields.depth) writes.modes rest.among);
      rest = old.own;
      slot = i;
      within = within;
      held = ap is_some (writes.seen n) ∙ rest.bucket_held;
      fields = fields;
      home = λ clean agree form. rest_home target old n header fields rest clean (before clean agree) form;
      was = (none, no_ghost, room);
      changes = record {
        keeps = keeps_more context.bits context.active context.root old.seen new.seen old.own (λ q first is. writes.seen q ∙ is) rest.keeps;
        changes = λ clean agree form. changes_by context (over clean old.own) (over clean new.own) walk.key n i fields (Change.Put value) (rest_home target old n header fields rest clean (before clean agree) form) within (none, no_ghost, room) (writes_over_clean old new n (page_with_slot fields i (Live walk.key value)) clean writes);
      };
    }

-- what the splits of a walk are for, by what it goes by, whatever it did before
pub target_is : (own context : WalkContext) → own ≡ one_key context → (walk : WalkFields) (key depth room_depth : ℕ) → key ≡ walk.key → depth ≡ room_depth
    → record { bits = own.bits; active = own.active; root = own.root; key = key; owner = own.tx; room_depth = depth; before = context.before.written; held_before = context.before.buckets } ≡ split_target context walk room_depth
target_is own context same walk key depth room_depth key_is depth_is =
    λ i. record { bits = (same i).bits; active = (same i).active; root = (same i).root; key = key_is i; owner = (same i).tx; room_depth = depth_is i; before = context.before.written; held_before = context.before.buckets }

-- where a walk that adds stands
pub adding_at : (context : WalkContext) (walk : WalkFields) (old : LocalState) (value n room_depth : ℕ) (unsplit : Bool) → walk.phase ≡ Phase.Adding value n room_depth unsplit → IsStanding context walk (view_for context old) → IsAdding context walk (view_for context old) n room_depth unsplit
adding_at context walk old value n room_depth unsplit phase stands = subst (λ p. Stands p context walk (view_for context old)) phase stands

-- a bucket at rest without room is less deep than is needed
kept_everywhere : (active : set.FinSet nat_cmp) (slots : List Slot) → ((i : ℕ) → i < length slots → not (is_kept active (slice_index_or slots i Free)) ≡ false) → list_all (is_kept active) slots ≡ true
kept_everywhere active [] full = refl
kept_everywhere active (s ∷ slots) full =
    let here : is_kept active s ≡ true = grind (arith, full 0 (omega arith)) in
    rw here (kept_everywhere active slots (λ i lt. full (suc i) (omega (arith, lt))))

module _ (target : SplitTarget) (view : View) (n : ℕ) (header : HeadFields) (bucket : BucketFields) (rest : IsAtRest target view n header bucket) (clean : HasClean target view) where
  crowded_here : list_all (is_kept target.active) bucket.slots ≡ true → is_crowded target.bits target.active bucket.depth (seed_of target) bucket.slots ≡ true
  crowded_here kept =
      let pages : ℕ → Option Page = over clean.clean view.own in
      let form = (rest.keeps clean.clean clean.agrees clean.form).form in
      let home = rest_home target view n header bucket rest clean.clean clean.agrees clean.form in
      let same : buckets_of pages (lead_of pages target.root (seed_of target)) ≡ bucket = ap (buckets_of pages) home.leads ∙ ap bucket_of home.found in
      let law = crowded_at_own_depth target.bits target.active (header_of (pages target.root)).depth (lead_of pages target.root) (buckets_of pages) (seed_of target) (rest.bounded target.key) rest.bounded form.form in
      subst (λ (b : BucketFields). list_all (crowds target.bits target.active b.depth (seed_of target)) b.slots ≡ true) same (law.1 (subst (λ (b : BucketFields). list_all (is_kept target.active) b.slots ≡ true) (sym same) kept))

  pub kept_is_shallow : list_all (is_kept target.active) bucket.slots ≡ true → bucket.depth < target.room_depth
  kept_is_shallow kept =
      elim (cases_lt bucket.depth target.room_depth) [
        | inl lt ↦ lt
        | inr ge ↦
            let shallow = rest_is_shallow target view n header bucket rest clean in
            let small = rest_is_small target view n header bucket rest clean in
            absurd (false≢true (sym rest.room ∙ crowded_in_fewer target.bits target.active target.room_depth bucket.depth (seed_of target) bucket.slots ge (omega (arith, shallow, small)) (crowded_here kept)))
      ]

  pub full_is_shallow : IsNowhere (has_room target.active) bucket.slots → bucket.depth < target.room_depth
  full_is_shallow nowhere_free = kept_is_shallow (kept_everywhere target.active bucket.slots nowhere_free)

  -- a slot with room is one of the eight
  eight_slots : length bucket.slots ≡ 8
  eight_slots =
      let pages : ℕ → Option Page = over clean.clean view.own in
      let form = (rest.keeps clean.clean clean.agrees clean.form).form in
      let home = rest_home target view n header bucket rest clean.clean clean.agrees clean.form in
      let same : buckets_of pages (lead_of pages target.root (seed_of target)) ≡ bucket = ap (buckets_of pages) home.leads ∙ ap bucket_of home.found in
      subst (λ (b : BucketFields). length b.slots ≡ 8) same (form.form.whole (seed_of target) (rest.bounded target.key))

  pub room_is_seen : (i : ℕ) → i < 8 → has_room target.active (slice_index_or bucket.slots i Free) ≡ true → list_all (is_kept target.active) bucket.slots ≡ true → ⊥
  room_is_seen i within room full =
      let free : is_kept target.active (slice_index_or bucket.slots i Free) ≡ false = grind (arith, room) in
      false≢true (sym (list_all_at (is_kept target.active) bucket.slots i Free (omega (arith, within, eight_slots)) free) ∙ full)

same_bucket : (p : Option Page) (one other : BucketFields) → p ≡ Some (Page.Bucket one) → p ≡ Some (Page.Bucket other) → one ≡ other
same_bucket p one other is_one is_other = ap bucket_of (sym is_one ∙ is_other)

true_unless : (p : Phase) (value n room_depth : ℕ) → p ≡ Phase.Adding value n room_depth true → p ≡ Phase.Adding value n room_depth false → ⊥
true_unless p value n room_depth one other = let both : Phase.Adding value n room_depth true ≡ Phase.Adding value n room_depth false = sym one ∙ other in cc

module _ (context : WalkContext) (walk : WalkFields) (old : LocalState) (value n room_depth : ℕ) (unsplit : Bool) (phase : walk.phase ≡ Phase.Adding value n room_depth unsplit) (adds : IsAdding context walk (view_for context old) n room_depth unsplit) where
  -- a walk that finds no room has to split,
  pub has_to_split : (unsplit ≡ true) ⊎ IsNowhere (has_room context.active) adds.fields.slots → HasToSplit context old walk value n room_depth
  has_to_split (inl first) = inl (phase ∙ ap (Phase.Adding value n room_depth) first)
  has_to_split (inr full) = inr (adds.fields, adds.rest.found, kept_everywhere context.active adds.fields.slots full)

  -- and one that finds room has not
  pub need_not_split : (s : Slot) (write : WriteFields) → HasClean (split_target context walk room_depth) (view_for context old) → unsplit ≡ false → SetsFirst n adds.fields (has_room context.active) s write → HasToSplit context old walk value n room_depth → ⊥
  need_not_split s write clean split plan (inl first) = true_unless walk.phase value n room_depth first (phase ∙ ap (Phase.Adding value n room_depth) split)
  need_not_split s write clean split plan (inr (bucket, found, full)) =
      let same : bucket ≡ adds.fields = same_bucket (held_page (view_for context old) n) bucket adds.fields found adds.rest.found in
      room_is_seen (split_target context walk room_depth) (view_for context old) n adds.header adds.fields adds.rest clean plan.slot plan.within plan.was (subst (λ (b : BucketFields). list_all (is_kept context.active) b.slots ≡ true) same full)

-- **A walk that adds may begin to split.**
pub may_begin : (context : WalkContext) (walk : WalkFields) (old : LocalState) (n room_depth : ℕ) (unsplit : Bool) → MayStep old → HasFileOver context.bits context.root context.before.written old → (adds : IsAdding context walk (view_for context old) n room_depth unsplit)
    → adds.fields.depth < room_depth → MayBegin (split_target context walk room_depth) (view_for context old) n
may_begin context walk old n room_depth unsplit may file adds shallow = record {
  header = adds.header;
  bucket = adds.fields;
  rest = adds.rest;
  shallow = shallow;
  doubles = λ deep. exclusive_header walk.pass refl deep;
}
  where
    exclusive_header : (p : Pass) → walk.pass ≡ p → adds.fields.depth ≡ adds.header.depth → map.get (view_for context old).modes context.root ≡ Some Exclusive
    exclusive_header Pass.First is deep = absurd (adds.later is)
    exclusive_header Pass.Narrow is deep = (let fits = (adds.narrow is).enough in absurd (omega (arith, fits, shallow, deep)))
    exclusive_header Pass.Wide is deep = adds.wide is

-- what a page that is held has is read there
held_reads : (m : LocalState) (q : ℕ) (p : Page) → can_read m.locks m.running.tx q ≡ true → held_page (view_of m) q ≡ Some p → ReadsHeldPage (view_of m) q p
held_reads m q p held is = (page_before m.running.images m.store.pages q, seen_held m q held, ap (λ o. own_or_clean (own_at m q) (unwrap_or o None)) (sym (seen_held m q held)) ∙ is)

-- what a page that is held has, over what was written before, is what it has
pub found_below : (context : WalkContext) (m : LocalState) (q : ℕ) (p : Option Page) → HasWritten context.before.written (view_of m) → held_page (view_for context m) q ≡ p → held_page (view_of m) q ≡ p
found_below context m q p written is = sym (read_over_writes (context.before.written q) ((view_of m).own q) ((view_of m).seen q) (λ some. (written q some).1)) ∙ is

-- the plan of a walk that adds is one of the bucket that it has split
adding_reads : (context : WalkContext) (walk : WalkFields) (old : LocalState) (n room_depth : ℕ) (unsplit : Bool) → HasWritten context.before.written (view_of old) → (adds : IsAdding context walk (view_for context old) n room_depth unsplit) (has : Slot → Bool) (s : Slot) (write : WriteFields) → SetsFirst n adds.fields has s write → ReadsHeldBucket (view_of old) write.number adds.fields
adding_reads context walk old n room_depth unsplit written adds has s write plan =
    let held = may_read old n Exclusive adds.rest.exclusive in
    subst (λ q. ReadsHeldBucket (view_of old) q adds.fields) (sym (ap (λ (w : WriteFields). w.number) plan.written)) (held_reads old n (Page.Bucket adds.fields) held (found_below context old n (Some (Page.Bucket adds.fields)) written adds.rest.found))

pub adding_plans : (context : WalkContext) (walk : WalkFields) (old : LocalState) (n room_depth : ℕ) (unsplit : Bool) → HasWritten context.before.written (view_of old) → (adds : IsAdding context walk (view_for context old) n room_depth unsplit) (has : Slot → Bool) (s : Slot) (write : WriteFields) → SetsFirst n adds.fields has s write → PlansSlot (view_of old) write
adding_plans context walk old n room_depth unsplit written adds has s write plan = record {
  bucket = adds.fields;
  reads = adding_reads context walk old n room_depth unsplit written adds has s write plan;
  within = subst (λ i. i < 8) (sym (ap (λ (w : WriteFields). w.at) plan.written)) plan.within;
}

module _ (context : WalkContext) (walk after : WalkFields) (old new : LocalState) (value n room_depth : ℕ) (phase : walk.phase ≡ Phase.Adding value n room_depth false) (adds : IsAdding context walk (view_for context old) n room_depth false) (write : WriteFields) (plan : SetsFirst n adds.fields (has_room context.active) (Live walk.key value) write) (clean : HasClean (split_target context walk room_depth) (view_for context old)) (written : HasWritten context.before.written (view_of old)) where
  reads : ReadsHeldBucket (view_of old) write.number adds.fields
  reads = adding_reads context walk old n room_depth false written adds (has_room context.active) (Live walk.key value) write plan

  writes_planned : WritesHeldSlot old new write.number write.at write.slot → WritesPage (view_for context old) (view_for context new) write.number (page_with_slot adds.fields write.at write.slot)
  writes_planned writes = rebased_writes_page context.before.written (view_of old) (view_of new) write.number (page_with_slot adds.fields write.at write.slot) (write_writes old new write.number (page_with_slot adds.fields write.at write.slot) (writes adds.fields reads))

  put_makes : WritesHeldSlot old new write.number write.at write.slot → after ≡ record walk { phase = Phase.Changed write.number (Change.Put value) } → Makes context new walk after (Change.Put value)
  put_makes writes after_is =
      let on : write.number ≡ n = ap (λ (w : WriteFields). w.number) plan.written in
      let page = page_with_slot adds.fields write.at write.slot in
      let what : page ≡ page_with_slot adds.fields plan.slot (Live walk.key value) = ap (λ (w : WriteFields). page_with_slot adds.fields w.at w.slot) plan.written in
      let here : WritesPage (view_for context old) (view_for context new) n (page_with_slot adds.fields plan.slot (Live walk.key value)) =
      subst (λ q. WritesPage (view_for context old) (view_for context new) q (page_with_slot adds.fields plan.slot (Live walk.key value))) on (subst (λ p. WritesPage (view_for context old) (view_for context new) write.number p) what (writes_planned writes)) in
      let free : is_kept context.active (slice_index_or adds.fields.slots plan.slot Free) ≡ false = grind (arith, plan.was) in
      let low : adds.fields.depth ≤ 16 = (let shallow = rest_is_shallow (split_target context walk room_depth) (view_for context old) n adds.header adds.fields adds.rest clean in let small = rest_is_small (split_target context walk room_depth) (view_for context old) n adds.header adds.fields adds.rest clean in omega (arith, shallow, small)) in
      let changed = put_is_changed context walk (view_for context old) (view_for context new) room_depth n adds.header adds.fields value plan.slot adds.read adds.holds adds.shallow (rest_holds_few (split_target context walk room_depth) (view_for context old) n adds.header adds.fields clean adds.rest) low adds.rest plan.within free here in
      let now : after ≡ record walk { phase = Phase.Changed n (Change.Put value) } = after_is ∙ ap (λ q. record walk { phase = Phase.Changed q (Change.Put value) }) on in
      record {
        same = record { key = ap (λ (w : WalkFields). w.key) now; mode = ap (λ (w : WalkFields). w.mode) now; pass = ap (λ (w : WalkFields). w.pass) now };
        phase = ap (λ (w : WalkFields). w.phase) now ∙ ap (λ p. Phase.Changed (page_of p) (Change.Put value)) (sym phase);
        stands = subst (λ (w : WalkFields). Stands w.phase context w (view_for context new)) (sym now) changed;
      }

  puts_lowest : WritesHeldSlot old new write.number write.at write.slot → PutsLowest context (view_for context old) (view_for context new) walk n value
  puts_lowest writes =
      let on : write.number ≡ n = ap (λ (w : WriteFields). w.number) plan.written in
      let planned = planned_page adds.fields write in
      record {
        bucket = adds.fields;
        reads = subst (λ q. ReadsHeldBucket (view_for context old) q adds.fields) on (reads_over_writes context.before.written old written write.number (Page.Bucket adds.fields) reads);
        write = write;
        first = plan;
        writes = subst (λ q. WritesPage (view_for context old) (view_for context new) q planned) on (writes_planned writes);
      }

  -- **What the record that is put tells.**
  pub put_tells : (told : WalkAnswer) → TellsOfWrite old new walk after write (Change.Put value) told → TellsOfAdding context (walk_step old new walk after) value n room_depth told
  put_tells WalkAnswer.Changed tells = (
    phase,
    put_makes tells.0 tells.1,
    inr (page_with_slot adds.fields write.at write.slot, subst (λ q. WritesHeldPage old new q (page_with_slot adds.fields write.at write.slot)) (ap (λ (w : WriteFields). w.number) plan.written) (tells.0 adds.fields reads)),
    puts_lowest tells.0,
  )
  put_tells (WalkAnswer.Refused reason) tells = subst (λ r. TellsOfAdding context (walk_step old new walk after) value n room_depth (WalkAnswer.Refused r)) (sym tells.0) refl
  put_tells other tells = absurd tells

-- a put is never refused for want of room
pub put_has_room : (old new : LocalState) (before after : WalkFields) (write : WriteFields) (value : ℕ) (told : WalkAnswer) → TellsOfWrite old new before after write (Change.Put value) told → told ≡ WalkAnswer.Refused Refusal.NoRoom → ⊥
put_has_room old new before after write value told tells is =
    let memory : Refusal.NoRoom ≡ Refusal.OutOfMemory = (subst (λ (r : WalkAnswer). TellsOfWrite old new before after write (Change.Put value) r) is tells).0 in
    cc

-- **A split that could not begin.**
pub begin_is_refused : (context : WalkContext) (walk after : WalkFields) (old new : LocalState) (value n room_depth : ℕ) (why : Refusal) → after ≡ walk → HasToSplit context old walk value n room_depth → (why ≡ Refusal.NoRoom → map.len old.store.pages ≡ old.store.max_pages)
    → (why ≡ Refusal.NoRoom) ⊎ (why ≡ Refusal.OutOfMemory) → TellsOfAdding context (walk_step old new walk after) value n room_depth (WalkAnswer.Refused why)
begin_is_refused context walk after old new value n room_depth why same needed full either =
    elim either [
      | inl room ↦ subst (λ w. TellsOfAdding context (walk_step old new walk after) value n room_depth (WalkAnswer.Refused w)) (sym room) (needed, full room)
      | inr memory ↦ subst (λ w. TellsOfAdding context (walk_step old new walk after) value n room_depth (WalkAnswer.Refused w)) (sym memory) refl
    ]

-- a walk is refused for the reason for which its split was not begun
pub begun_alike : {A : Type 0} (result : Result A Refusal) (why : Refusal) → result ≡ Err why → (result ≡ Err Refusal.NoRoom) ↔ (WalkAnswer.Refused why ≡ WalkAnswer.Refused Refusal.NoRoom)
begun_alike {A} result why is = (
  λ room. ap WalkAnswer.Refused (reason_of why Refusal.NoRoom (sym is ∙ room)),
  λ room. is ∙ ap err (told_reason why Refusal.NoRoom room),
)
  where
    err : Refusal → Result A Refusal
    err why = Err why

    reason_of : (one other : Refusal) → err one ≡ err other → one ≡ other
    reason_of one other same = cc

    told_reason : (one other : Refusal) → WalkAnswer.Refused one ≡ WalkAnswer.Refused other → one ≡ other
    told_reason one other same = cc

-- **A split that has begun.**
pub begins_split : (context : WalkContext) (walk after : WalkFields) (old new : LocalState) (value n room_depth : ℕ) (unsplit : Bool) (split : SplitFields) (made : Page) → MayStep old → HasWritten context.before.written (view_of old) → MakesLockedPage old new split.new_page made → (adds : IsAdding context walk (view_for context old) n room_depth unsplit) → HasToSplit context old walk value n room_depth
    → IsUnderWay (split_target context walk room_depth) (view_for context new) split → steps_left split ≡ 1 + directory_steps split.depth split.directory_depth → split.depth ≡ adds.fields.depth → split.directory_depth ≡ adds.header.depth → HasHalves (split_target context walk room_depth) new.store.pages adds.fields split
    → after ≡ record walk { phase = Phase.Splitting value room_depth; split = Some split } → BeginsSplit context (walk_step old new walk after) value n room_depth
begins_split context walk after old new value n room_depth unsplit split made may written makes adds needed under_way steps bucket_depth depth halves after_is =
    let made_there : MakesPage (view_for context old) (view_for context new) split.new_page made = rebased_makes_page context.before.written (view_of old) (view_of new) written split.new_page made (make_makes old new split.new_page made may makes) in
    let step : StepsOn walk (view_for context old) (view_for context new) = steps_by_making walk (view_for context old) (view_for context new) split.new_page made adds.later made_there in
    let here : IsSplitting context (record walk { phase = Phase.Splitting value room_depth; split = Some split }) (view_for context new) room_depth = record {
      split = split;
      split_is = refl;
      read = reads_on context walk (view_for context old) (view_for context new) step None adds.read;
      holds = holds_on context walk (view_for context old) (view_for context new) step None adds.read adds.holds;
      shallow = let most = adds.shallow in omega (arith, most, depth);
      under_way = under_way;
      most = adds.most;
      later = adds.later;
      narrow = λ narrow. let fits = adds.narrow narrow in record {
        enough = let enough = fits.enough in omega (arith, enough, depth);
        one_page = let one = fits.one_page in omega (arith, one, depth, bucket_depth);
        unwritten = made_there.own_others context.root (not_made (view_for context old) (view_for context new) split.new_page made made_there context.root (ap is_some adds.read.way.placed.head)) ∙ fits.unwritten;
      };
      wide = λ wide. stays_exclusive_in_step old new context.root may (split.new_page, inr (made, makes)) (adds.wide wide);
    } in
    record {
      needed = needed;
      on = record {
        same = record { key = ap (λ (w : WalkFields). w.key) after_is; mode = ap (λ (w : WalkFields). w.mode) after_is; pass = ap (λ (w : WalkFields). w.pass) after_is };
        stands = subst (λ (w : WalkFields). Stands w.phase context w (view_for context new)) (sym after_is) here;
      };
      phase = ap (λ (w : WalkFields). w.phase) after_is;
      split = split;
      split_is = ap (λ (w : WalkFields). w.split) after_is;
      header = adds.header;
      head = adds.rest.head;
      bucket = adds.fields;
      found = adds.rest.found;
      depth = bucket_depth;
      directory_depth = depth;
      steps = steps;
      made = (made, makes);
      halves = halves;
    }

-- a bucket at rest may be written
pub may_put : (context : WalkContext) (walk : WalkFields) (old : LocalState) (n room_depth : ℕ) (unsplit : Bool) (adds : IsAdding context walk (view_for context old) n room_depth unsplit) (has : Slot → Bool) (s : Slot) (write : WriteFields) → SetsFirst n adds.fields has s write → can_write old.locks old.running.tx write.number ≡ true
may_put context walk old n room_depth unsplit adds has s write plan =
    let on : write.number ≡ n = ap (λ (w : WriteFields). w.number) plan.written in
    ap (λ q. can_write old.locks old.running.tx q) on ∙ may_write old n adds.rest.exclusive
