use Rattle.mlt_trace.proofs.RoomLaws.{total_room-empty, total_room-insert_new, total_room-insert, total_room-remove, room_within_total}
use Rattle.mlt_trace.proofs.rooms.rooms_add_up.Goals as goal

pub returns : goal.returns
returns g c = record {
  none = total_room-empty g.T.Rooms.room_of;
  comes = total_room-insert_new g.T.Rooms.room_of;
  changes = total_room-insert g.T.Rooms.room_of;
  goes = total_room-remove g.T.Rooms.room_of;
  within = room_within_total g.T.Rooms.room_of;
}
