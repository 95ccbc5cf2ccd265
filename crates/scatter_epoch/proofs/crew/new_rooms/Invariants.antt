use Rattle.std.proofs.Common.{◌≡◌, ◌≤◌, vec_len, vec_capacity}
use Rattle.std.specs.List.{All}
use Rattle.scatter_phase.specs.Rooms.{IsRoom}
use Rattle.scatter_epoch.proofs.crew.new_rooms.Given as goal

abbrev pub invariant-loop : goal.invariant-loop
invariant-loop l = record {
  many : vec_len l.rooms ≡ l.counter;
  rooms : All (IsRoom l.job) l.rooms.items;
  room : l.job.engines ≤ vec_capacity l.rooms;
}
