-- What a walk knows by its view alone
use Rattle.std.proofs.Common.{◌≡◌, ℕ, false, Option, is_some, sym, ap, ◌∙◌, nat_cmp}
use Rattle.std.specs.FinMap as map
use Rattle.mlt_hash.proofs.Names.{Mode, Page, Modes, can_read, IsPath, look_up, Agrees, LocalState, View, view_of, read_is_there, WalkContext, IsAtBucket, IsAtStart, WalkFields}
use Rattle.mlt_page_locks.specs.LockTables.{pages_of}
use Rattle.mlt_hash_access.proofs.{Reading.path_read, Views.own_free, Views.seen_free}
use Rattle.mlt_hash.proofs.Passed.{read_at_bucket}

-- who holds no page reads none
reads_none : (m : LocalState) (q : ℕ) → pages_of m.locks m.running.tx ≡ map.empty → can_read m.locks m.running.tx q ≡ false
reads_none m q none = ap (λ (modes : Modes). is_some (map.get modes q)) none ∙ ap is_some (map.get-empty {X = Mode} nat_cmp q)

pub at_start : (m : LocalState) → pages_of m.locks m.running.tx ≡ map.empty → IsAtStart (view_of m)
at_start m none = record {
  unwritten = λ q. own_free m q (reads_none m q none);
  unheld = none;
  unseen = λ q. seen_free m q (reads_none m q none);
}

-- the path of a walk at its bucket
pub path_taken : (context : WalkContext) (walk : WalkFields) (view : View) (bucket depth : ℕ) (found : Option ℕ) (clean : ℕ → Option Page) (here : IsAtBucket context walk view bucket depth found) → Agrees view.seen clean
    → IsPath clean context.root (context.bits walk.key) here.header here.dir bucket here.fields
path_taken context walk view bucket depth found clean here agree =
    let read = read_at_bucket context walk view bucket depth found here in
    path_read context.bits context.root walk.key view read.dir bucket found clean read.way agree

pub found_there : (context : WalkContext) (walk : WalkFields) (view : View) (bucket depth : ℕ) (found : Option ℕ) (clean : ℕ → Option Page) → IsAtBucket context walk view bucket depth found → Agrees view.seen clean
    → look_up context.bits clean context.root walk.key ≡ found
found_there context walk view bucket depth found clean here agree =
    let read = read_at_bucket context walk view bucket depth found here in
    sym (read_is_there context.bits context.root walk.key view read.dir bucket found clean read.way agree)

-- views that read alike are one
pub same_view : (before after : View) → after.modes ≡ before.modes → ((q : ℕ) → after.seen q ≡ before.seen q) → ((q : ℕ) → after.own q ≡ before.own q) → before ≡ after
same_view before after modes seen own = sym (λ i. record { modes = modes i; seen = λ q. seen q i; own = λ q. own q i })
