use Rattle.std.proofs.Common.{◌≡◌, ◌+◌, ◌^◌, ◌<◌, ◌≤◌, ◌∷◌, ◌++◌, map, vec_len, vec_capacity}
use Rattle.worker_outcomes.specs.Lowest.{lowest_outcome}
use Rattle.apply_round.specs.Crew.{capped}
use Rattle.apply_round.proofs.apply.collect.Given as goal

abbrev pub invariant-loop : goal.invariant-loop
invariant-loop g l =
    (l.values.items ++ map (λ d. d.disk) l.desks.items ≡ map (λ d. d.disk) l.initial.desks.items)
    × (l.meters.items ++ map (λ d. d.meter) l.desks.items ≡ map (λ d. d.meter) l.initial.desks.items)
    × (l.rooms.items ++ map (λ d. d.room) l.desks.items ≡ map (λ d. d.room) l.initial.desks.items)
    × (lowest_outcome (l.applied.outcome ∷ map (λ d. d.outcome) l.desks.items) ≡ lowest_outcome (map (λ d. d.outcome) l.initial.desks.items))
    × (capped (l.applied.changed ∷ map (λ d. d.changed) l.desks.items) ≡ capped (map (λ d. d.changed) l.initial.desks.items))
    × (l.applied.changed < 2 ^ 64)
    × (vec_len l.desks + l.counter ≡ l.end)
    × (l.end ≡ vec_len l.initial.desks)
    × (vec_len l.values ≡ l.counter)
    × (vec_len l.meters ≡ l.counter)
    × (vec_len l.rooms ≡ l.counter)
    × (l.end ≤ vec_capacity l.values)
    × (l.end ≤ vec_capacity l.meters)
    × (l.end ≤ vec_capacity l.rooms)
    × (vec_capacity l.desks ≡ vec_capacity l.initial.desks)
    × (vec_capacity l.initial.values ≤ vec_capacity l.values)
    × (vec_capacity l.initial.meters ≤ vec_capacity l.meters)
