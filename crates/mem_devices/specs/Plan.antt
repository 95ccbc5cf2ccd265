-- Which calls of an object in memory fail.
use Rattle.std.specs.Prelude.{ℕ, List, Bool, ◌==◌, if◌then◌else◌}
use Rattle.std.specs.List.{list_any}
use Rattle.ports.specs.Faults.{next_count}

-- The numbers of the calls that fail, how many calls were made, and how often one has failed.
pub record Plan : Type 0 where
  pub fails : List ℕ
  pub calls : ℕ
  pub faults : ℕ

-- before the first call
abbrev pub new_plan : List ℕ → Plan
new_plan fails = record { fails = fails; calls = 0; faults = 0 }

-- whether the number of the next call is among those that fail
abbrev pub next_call_fails : Plan → Bool
next_call_fails plan = list_any (λ number. number == next_count plan.calls) plan.fails

-- one call more
abbrev pub with_call : Plan → Plan
with_call plan = record plan { calls = next_count plan.calls }

-- one fault more
abbrev pub with_fault : Plan → Plan
with_fault plan = record plan { faults = next_count plan.faults }

-- one call more, and a fault more where it did not succeed
abbrev pub after_answer : Bool → Plan → Plan
after_answer succeeded plan = if succeeded then with_call plan else with_fault (with_call plan)
