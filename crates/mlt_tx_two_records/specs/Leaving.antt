-- What an operation on two records leaves of the clean pages, and what it found there
use Rattle.std.specs.Prelude.{ℕ, ◌≡◌, ◌≤◌, ◌⊎◌, None, Some}
use Rattle.mlt_object_kinds.specs.declared.operation.ObjReply.{ObjReply}
use Rattle.mlt_object_base.specs.{declared.record.RecChange.RecChange, declared.request.Request.Request, Requests.decision, Requests.size_decision, Requests.size_key_of, Requests.target_of}
use Rattle.mlt_hash_form.specs.Changes.{ChangesRecord, IsAtHome, Spot, slot_change, slot_of}
use Rattle.mlt_hash_form.specs.{File.FilePages, File.depth_of, File.look_up, Held.RearrangesSlots, Held.SeenPages, Held.over}
use Rattle.mlt_hash_access.specs.Views.{View}
use Rattle.mlt_hash.specs.{Passes.slot_after, Passes.value_after, Walks.WalkContext, Walks.StoodBefore, declared.pass.Change.Change}
use Rattle.mlt_tx_two_records.specs.Performing.{Performs}

-- The record of a key is changed: slots of the pages were rearranged, on pages that are seen, up to `rest`; and then one slot of
-- the bucket that the key leads to was set.
pub record LeavesRecord (context : WalkContext) (key : ℕ) (done : Change) (seen : SeenPages)
    (pages pages' : FilePages) : Type 0 where
  pub rest : FilePages
  pub keeps : RearrangesSlots context.bits context.active seen pages rest context.root
  pub spot : Spot
  pub home : IsAtHome context.bits rest context.root key spot
  pub was : StoodBefore done context key spot.bucket.slots (slot_of spot)
  pub changes : ChangesRecord context.bits rest pages' context.root
      (slot_change key (value_after done) spot.number spot.at (slot_after done key context.tx))
  pub shallow : depth_of pages' context.root ≤ context.max_depth

-- Both are changed: the own record, as the reply asks for that goes with what the clean pages have of the key; and over that the
-- size's. What is written first, `written`, is on pages that are held.
pub record LeavesBoth (context : WalkContext) (request : Request) (reply : ObjReply) (size_key : ℕ)
    (view : View) (clean : FilePages) : Type 0 where
  pub change : RecChange
  pub decided : decision request (look_up context.bits clean context.root (target_of request).0)
      ≡ (reply, Some change)
  pub resize : RecChange
  pub resized : size_decision request reply (look_up context.bits clean context.root size_key)
      ≡ Some resize
  pub own_done : Change
  pub own_performs : Performs change
      (look_up context.bits clean context.root (target_of request).0) own_done
  pub size_done : Change
  pub size_performs : Performs resize (look_up context.bits clean context.root size_key) size_done
  pub written : FilePages
  pub held : (q : ℕ) → view.seen q ≡ None → written q ≡ None
  pub own : LeavesRecord context (target_of request).0 own_done view.seen
      clean (over clean written)
  pub between : SeenPages
  pub size : LeavesRecord context size_key size_done between (over clean written) (over clean view.own)

-- Nothing is changed: what the clean pages have of both keys asks for no change, and tells the reply.
pub record LeavesAll (context : WalkContext) (request : Request) (reply : ObjReply) (size_key : ℕ)
    (view : View) (clean : FilePages) : Type 0 where
  pub decided : decision request (look_up context.bits clean context.root (target_of request).0)
      ≡ (reply, None)
  pub resized : size_decision request reply (look_up context.bits clean context.root size_key) ≡ None
  pub unwritten : (q : ℕ) → view.own q ≡ None

-- what is told goes with what the clean pages have of both keys, and just the changes that this
-- asks for are left
abbrev pub LeavesAsTold : WalkContext → Request → ObjReply → View → FilePages → Type 0
LeavesAsTold context request reply view clean =
    (size : ℕ) × (size_key_of request ≡ Some size)
    × (LeavesAll context request reply size view clean
    ⊎ LeavesBoth context request reply size view clean)
