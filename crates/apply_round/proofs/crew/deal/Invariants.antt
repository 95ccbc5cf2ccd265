use Rattle.std.proofs.Common.{◌≡◌, ℕ, ◌+◌, ◌<◌, ◌≤◌, ◌++◌, map, slice_index_or, vec_len, vec_capacity}
use Rattle.std.specs.List.{All}
use Rattle.checkpoint.specs.Room.{IsRoomOf}
use Rattle.apply_round.proofs.crew.deal.Given as goal

abbrev pub invariant-loop-engine : goal.invariant-loop-engine
invariant-loop-engine g l =
    (map (λ d. d.disk) l.desks.items ++ l.values.items ≡ l.initial.values.items)
    × (map (λ d. d.meter) l.desks.items ++ l.meters.items ≡ l.initial.meters.items)
    × ((e : ℕ) (d : _) → e < l.engine → (slice_index_or l.desks.items e d).engine ≡ e)
    × All (λ d. IsRoomOf l.split d.room) l.desks.items
    × All (IsRoomOf l.split) l.rooms.items
    × (vec_len l.desks ≡ l.engine)
    × (vec_len l.rooms + l.engine ≡ l.split.engines)
    × (vec_len l.values + l.engine ≡ l.split.engines)
    × (vec_len l.meters + l.engine ≡ l.split.engines)
    × (vec_capacity l.rooms ≡ vec_capacity l.initial.rooms)
    × (vec_capacity l.values ≡ vec_capacity l.initial.values)
    × (vec_capacity l.meters ≡ vec_capacity l.initial.meters)
    × (l.split.engines ≤ vec_capacity l.desks)
