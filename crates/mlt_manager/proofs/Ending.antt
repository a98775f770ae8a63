-- What a transaction that ends has room for, and leaves
use Rattle.std.proofs.Common.{◌≡◌, ◌≤◌, ℕ, ◌+◌, ap, arith}
use Rattle.mlt_manager.proofs.Names.{TraceItem, room_within_total, pending_room, room_of, HasEnded, IsIdleWith, IsManager, ManagerFields}

-- the history has room for the end of one that is idle, and for each of its operations
pub room_to_end : {P : Type 0} (bits_of : P → ℕ → ℕ) (m : ManagerFields P) (tx count : ℕ) → IsManager bits_of m → IsIdleWith m.txs tx count → 1 + count ≤ m.shared.history.room
room_to_end bits_of m tx count h idle =
    let within = room_within_total room_of m.txs tx idle.one idle.there in
    let none : pending_room idle.one.at ≡ 0 = ap pending_room idle.idle in
    omega (arith, within, none, idle.counts, h.sound.room)

-- an end does not depend on the count of commits
pub ended_at : {P : Type 0} (m m' : ManagerFields P) (commits' tx : ℕ) (item : TraceItem) → HasEnded m m' tx item → HasEnded m (record m' { commits = commits' }) tx item
ended_at m m' commits' tx item e = record {
  one = e.one;
  there = e.there;
  idle = e.idle;
  pages = e.pages;
  held = e.held;
  unreserved = e.unreserved;
  reserved = e.reserved;
  items = e.items;
  room = e.room;
  txs = e.txs;
  active = e.active;
}
