use Rattle.std.proofs.Common.{◌≡◌, ◌≤◌, vec_len, vec_capacity}
use Rattle.std.specs.List.{All}
use Rattle.checkpoint.specs.Room.{IsRoomOf}
use Rattle.apply_round.proofs.crew.make_rooms.Given as goal

abbrev pub invariant-loop : goal.invariant-loop
invariant-loop l = (vec_len l.rooms ≡ l.counter) × (l.split.engines ≤ vec_capacity l.rooms) × (l.end ≡ l.split.engines) × All (IsRoomOf l.split) l.rooms.items
