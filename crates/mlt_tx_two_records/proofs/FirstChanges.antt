-- The changes of a first pass: both at once, or one with the other owed
use Rattle.std.proofs.Common.{◌≡◌, ◌≢◌, ◌⊎◌, ℕ, Option, None, Some, refl, sym, ap, subst, ◌∙◌, inl, inr, arith, ◌==◌, if◌then◌else◌, eq-eqb, ne_eqb, nat_lt}
use Rattle.mlt_tx_two_records.proofs.Names.{cases_eq, cond-false, cond-true, Page, ObjReply, Request, CanChange, ReadsHeldBucket, View, WritesPage, WriteFields, planned_page, HasChanged, IsHolding, LeavesLeft, LeavesRight, MakesBoth, IsFinding, IsFound, PairFields, later_page, found_of, holds_read, WalkContext, Change, AsksForBoth, AsksForNone, ChangesBoth, HasKeys, HasToldFirst, OwesEither, OwesOne, task_for, asked_of, PlansRecord, WritesRecord}
use Rattle.std.proofs.lemmas.Bool.{cases_Bool}
use Rattle.mlt_hash_access.specs.Views.{WritesSlot}
use Rattle.mlt_hash_pair.specs.{Changes.Task, Changes.WritesBucketsAlone, Pairs.later_of, Descents.page_of}
use Rattle.mlt_tx_two_records.proofs.Asking.{asked_fits, never_revives_size}
use Rattle.mlt_tx_two_records.proofs.Planning.{FitsThere, GhostThere, IsMade, IsOwed, fits_beside, is_made, is_owed, planned_beside, planned_beside_before, way_fits}

-- the later of two pages is one of them
later_is : (left right : ℕ) → (later_of left right ≡ left) ⊎ (later_of left right ≡ right)
later_is left right = elim (cases_Bool (nat_lt left right)) [
  | inl lower ↦ inr (cond-true (nat_lt left right) right left lower)
  | inr higher ↦ inl (cond-false (nat_lt left right) right left higher)
]

-- **A pair that has written its later bucket at most has written its buckets alone.**
pub buckets_alone : (pair : PairFields) (view : View) → ((q : ℕ) → q ≢ later_page pair → view.own q ≡ None) → WritesBucketsAlone pair view
buckets_alone pair view none q ne ne' = none q (λ same. elim (later_is (page_of pair.left_descent) (page_of pair.right_descent)) [
  | inl left ↦ ne (same ∙ left)
  | inr right ↦ ne' (same ∙ right)
])

module _ (context : WalkContext) (request : Request) (pair : PairFields) (view : View) (keys : HasKeys request pair.left pair.right) (finding : IsFinding context.bits context.root pair view) (found : IsFound pair) (reply : ObjReply)
    (asks : AsksForBoth request reply (found_of pair.left_descent) (found_of pair.right_descent)) (own_can : CanChange (Some asks.change) (found_of pair.left_descent)) (size_can : CanChange (Some asks.resize) (found_of pair.right_descent))
    (ghost : GhostThere context asks.change pair.left (page_of pair.left_descent) view) where
  abbrev own_page : ℕ
  own_page = page_of pair.left_descent

  abbrev size_page : ℕ
  size_page = page_of pair.right_descent

  abbrev task : Task
  task = task_for context pair asks.change asks.resize

  own_fits : FitsThere (Some (asked_of asks.change (found_of pair.left_descent))) pair.left own_page view
  own_fits = way_fits context.bits context.root pair.left view (Some (asked_of asks.change (found_of pair.left_descent))) pair.left_descent found.0 finding.left finding.unwritten (asked_fits asks.change (found_of pair.left_descent) own_can)

  size_fits : FitsThere (Some (asked_of asks.resize (found_of pair.right_descent))) pair.right size_page view
  size_fits = way_fits context.bits context.root pair.right view (Some (asked_of asks.resize (found_of pair.right_descent))) pair.right_descent found.1 finding.right finding.unwritten (asked_fits asks.resize (found_of pair.right_descent) size_can)

  size_ghost : (v : View) → GhostThere context asks.resize pair.right size_page v
  size_ghost v revives bucket reads = absurd (never_revives_size request reply (found_of pair.right_descent) (asks.resized ∙ ap Some revives))

  -- **Both are made in one step.**
  pub makes_both : (new : View) → MakesBoth task context.tx view new → ChangesBoth context request pair reply new
  makes_both new makes =
      let own : IsMade context asks.change (found_of pair.left_descent) pair.left own_page view makes.mid = is_made context asks.change (found_of pair.left_descent) pair.left own_page view makes.mid own_can own_fits ghost makes.left in
      let fits = fits_beside (Some (asked_of asks.resize (found_of pair.right_descent))) (asked_of asks.change (found_of pair.left_descent)) context.active context.tx pair.left pair.right own_page size_page view makes.mid keys.apart size_fits makes.left in
      let size : IsMade context asks.resize (found_of pair.right_descent) pair.right size_page makes.mid new = is_made context asks.resize (found_of pair.right_descent) pair.right size_page makes.mid new size_can fits (size_ghost makes.mid) makes.right in
      record { asks = asks; own_done = own.done; size_done = size.done; own_performs = own.performs; size_performs = size.performs; old = view; mid = makes.mid; unwritten = finding.unwritten; own = own.writes; size = size.writes }

  -- **Or that of the later bucket is made, and the other is owed.**
  pub owes_one : (new : View) (owed : Option WriteFields) → HasChanged context.bits context.root context.active context.tx (record pair { owed = owed }) new → LeavesLeft task context.tx view new owed ⊎ LeavesRight task context.tx view new owed
      → OwesOne context request (record pair { owed = owed }) reply new
  owes_one new owed changed (inl leaves) =
      let low = leaves.earlier in
      let ne : own_page ≢ size_page = λ same. omega (arith, low, same) in
      let size : IsMade context asks.resize (found_of pair.right_descent) pair.right size_page view new = is_made context asks.resize (found_of pair.right_descent) pair.right size_page view new size_can size_fits (size_ghost view) leaves.right in
      let own : IsOwed context asks.change (found_of pair.left_descent) pair.left own_page view owed = is_owed context asks.change (found_of pair.left_descent) pair.left own_page view owed own_can own_fits ghost leaves.owes in
      record {
        keys = keys;
        changed = changed;
        asks = asks;
        own_done = own.done;
        size_done = size.done;
        own_performs = own.performs;
        size_performs = size.performs;
        two = ne;
        old = view;
        unwritten = finding.unwritten;
        write = own.write;
        owed = own.owed_is;
        owes = inl (size.writes, planned_beside context own.done pair.left own_page size_page view new (planned_page size.writes.plan.bucket size.writes.write) own.write size.writes.writes ne own.plan);
      }
  owes_one new owed changed (inr leaves) =
      let low = leaves.earlier in
      let ne : own_page ≢ size_page = λ same. omega (arith, low, same) in
      let own : IsMade context asks.change (found_of pair.left_descent) pair.left own_page view new = is_made context asks.change (found_of pair.left_descent) pair.left own_page view new own_can own_fits ghost leaves.left in
      let size : IsOwed context asks.resize (found_of pair.right_descent) pair.right size_page view owed = is_owed context asks.resize (found_of pair.right_descent) pair.right size_page view owed size_can size_fits (size_ghost view) leaves.owes in
      record {
        keys = keys;
        changed = changed;
        asks = asks;
        own_done = own.done;
        size_done = size.done;
        own_performs = own.performs;
        size_performs = size.performs;
        two = ne;
        old = view;
        unwritten = finding.unwritten;
        write = size.write;
        owed = size.owed_is;
        owes = inr (own.writes, planned_beside context size.done pair.right size_page own_page view new (planned_page own.writes.plan.bucket own.writes.write) size.write own.writes.writes (λ same. ne (sym same)) size.plan);
      }

-- a view with a page written in it
abbrev with_page_written : View → ℕ → Page → View
with_page_written view q page = record view { own = λ p. if p == q then Some page else view.own p }

abbrev page_written_there : (view : View) (q : ℕ) (page : Page) → WritesPage view (with_page_written view q page) q page
page_written_there view q page = record {
  modes = refl;
  seen = λ p. refl;
  here = cond-true (q == q) (Some page) (view.own q) (eq-eqb q q refl);
  others = λ p ne. cond-false (p == q) (Some page) (view.own p) (ne_eqb p q ne);
}

module _ (context : WalkContext) (own_done size_done : Change) (left right own_page size_page : ℕ) (ne : own_page ≢ size_page) (old view new : View) (size : WritesRecord context size_done right size_page old view) (own : WritesRecord context own_done left own_page view new) where
  -- the own change is written first, as well as last: the two buckets differ
  abbrev pub own_on_old : PlansRecord context own_done left own_page old own.write
  own_on_old = planned_beside_before context own_done left own_page size_page old view (planned_page size.plan.bucket size.write) own.write size.writes ne own.plan

  abbrev pub mid : View
  mid = with_page_written old own_page (planned_page own_on_old.bucket own.write)

  abbrev pub own_first : WritesRecord context own_done left own_page old mid
  own_first = record { write = own.write; plan = own_on_old; writes = page_written_there old own_page (planned_page own_on_old.bucket own.write) }

  abbrev size_on_mid : PlansRecord context size_done right size_page mid size.write
  size_on_mid = planned_beside context size_done right size_page own_page old mid (planned_page own_on_old.bucket own.write) size.write own_first.writes (λ same. ne (sym same)) size.plan

  pub size_last : WritesRecord context size_done right size_page mid new
  size_last = record {
    write = size.write;
    plan = size_on_mid;
    writes = record {
      modes = own.writes.modes ∙ size.writes.modes;
      seen = λ p. own.writes.seen p ∙ size.writes.seen p;
      here = own.writes.others size_page (λ same. ne (sym same)) ∙ size.writes.here;
      others = λ p off. elim (cases_eq p own_page) [
        | inl here ↦ ap new.own here ∙ own.writes.here ∙ sym own_first.writes.here ∙ sym (ap mid.own here)
        | inr elsewhere ↦ own.writes.others p elsewhere ∙ size.writes.others p off ∙ sym (own_first.writes.others p elsewhere)
      ];
    };
  }

-- what is planned is made, where the slot is written
made_where_planned : (context : WalkContext) (done : Change) (key q : ℕ) (view new : View) (write : WriteFields) → PlansRecord context done key q view write → WritesSlot view new write.number write.at write.slot → WritesRecord context done key q view new
made_where_planned context done key q view new write plan writes = record {
  write = write;
  plan = plan;
  writes = subst (λ n. WritesPage view new n (planned_page plan.bucket write)) plan.number (writes plan.bucket (subst (λ n. ReadsHeldBucket view n plan.bucket) (sym plan.number) plan.reads));
}

-- **Once the change that was owed is made, both are.**
pub owed_made : (context : WalkContext) (request : Request) (pair : PairFields) (reply : ObjReply) (view new : View) (owes : OwesOne context request pair reply view) → WritesSlot view new owes.write.number owes.write.at owes.write.slot
    → ChangesBoth context request (record pair { owed = None }) reply new
owed_made context request pair reply view new owes writes = go owes.owes
  where
    both : (mid : View) → WritesRecord context owes.own_done pair.left (page_of pair.left_descent) owes.old mid → WritesRecord context owes.size_done pair.right (page_of pair.right_descent) mid new → ChangesBoth context request (record pair { owed = None }) reply new
    both mid own size = record { asks = owes.asks; own_done = owes.own_done; size_done = owes.size_done; own_performs = owes.own_performs; size_performs = owes.size_performs; old = owes.old; mid = mid; unwritten = owes.unwritten; own = own; size = size }

    go : OwesEither context owes.own_done owes.size_done pair owes.old view owes.write → ChangesBoth context request (record pair { owed = None }) reply new
    go (inl (size, plan)) =
        let own = made_where_planned context owes.own_done pair.left (page_of pair.left_descent) view new owes.write plan writes in
        both (mid context owes.own_done owes.size_done pair.left pair.right (page_of pair.left_descent) (page_of pair.right_descent) owes.two owes.old view new size own)
        (own_first context owes.own_done owes.size_done pair.left pair.right (page_of pair.left_descent) (page_of pair.right_descent) owes.two owes.old view new size own)
        (size_last context owes.own_done owes.size_done pair.left pair.right (page_of pair.left_descent) (page_of pair.right_descent) owes.two owes.old view new size own)
    go (inr (own, plan)) = both view own (made_where_planned context owes.size_done pair.right (page_of pair.right_descent) view new owes.write plan writes)

-- **With all written, it is told its reply:** both changes are made,
pub told_both : (context : WalkContext) (request : Request) (pair : PairFields) (reply : ObjReply) (view : View) → HasKeys request pair.left pair.right → IsFound pair → IsHolding context.bits context.root pair view → WritesBucketsAlone pair view → ChangesBoth context request pair reply view
    → HasToldFirst context request pair reply view
told_both context request pair reply view keys found holding alone both = record { keys = keys; found = found; holding = holding; alone = alone; done = inr both }

-- or none is asked for.
pub told_none : (context : WalkContext) (request : Request) (pair : PairFields) (reply : ObjReply) (view : View) → HasKeys request pair.left pair.right → IsFound pair → IsFinding context.bits context.root pair view → AsksForNone request reply (found_of pair.left_descent) (found_of pair.right_descent)
    → HasToldFirst context request pair reply view
told_none context request pair reply view keys found finding asks = record {
  keys = keys;
  found = found;
  holding = holds_read context.bits context.root pair view finding;
  alone = λ q ne ne'. finding.unwritten q;
  done = inl (record { asks = asks; unwritten = finding.unwritten });
}
