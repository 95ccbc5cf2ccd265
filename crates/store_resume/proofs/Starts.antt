-- What was recovered of the store of a job, as the rounds begin with it.
use Rattle.std.proofs.Common.{◌≡◌, ◌∙◌, ℕ, ◌+◌, ◌<◌, ◌≤◌, List, length, get_or, refl, sym, ap, subst, arith}
use Rattle.graph_model.specs.declared.edge.Edge.{Edge}
use Rattle.graph_model.specs.declared.job.Job.{Job}
use Rattle.graph_model.specs.Programs.{rules_of}
use Rattle.ports.specs.Disk.{DiskState, InEveryImage}
use Rattle.storage_engine.specs.Making.{HasPlaces}
use Rattle.store_model.specs.Damage.{head_of, own_in}
use Rattle.store_checks.specs.Rounds.{StandsEverywhere}
use Rattle.store_model.specs.Graphs.{edge_chunks}
use Rattle.restart.specs.declared.recovering.Recovered.{Recovered}
use Rattle.restart.specs.declared.recovering.Recovered.TheVariants.{Found, Fresh as NoneFound}
use Rattle.restart.specs.Recovering.{job_in, index_in, IsOpened, IsRecovered}
use Rattle.restart.specs.Resuming.{changed_of_all, Resumes}
use Rattle.round_loop.specs.declared.run.Start.{Start}
use Rattle.round_loop.specs.declared.run.Start.TheVariants.{Fresh, At}
use Rattle.round_loop.specs.Starts.{first_made}
use Rattle.round_loop.specs.Kept.{Holds, HasStood}
use Rattle.store_rounds.specs.Going.{start_of}
use Rattle.store_rounds.specs.Images.{AreSettledAs}
use Rattle.store_rounds.proofs.Starting.{settled_start}
use Rattle.store_resume.specs.Resumes.{IsStartOf}

-- what is so of all that is recovered
pub opened_found : (graphs values : List (List ℕ)) (found : Recovered) → IsRecovered graphs values found → IsOpened graphs values (job_in found) (index_in found)
opened_found graphs values (Found held index round changed) recovered = recovered.0
opened_found graphs values (NoneFound held index) recovered = recovered.0

-- a round that is handed in stands in an open slot of every engine
pub handed_in : (graphs values : List (List ℕ)) (found : Recovered) (round : ℕ) → round + 1 ≡ first_made (start_of found) → IsRecovered graphs values found → StandsEverywhere (own_in (head_of graphs 0)) values round
handed_in graphs values (Found held index at changed) round is recovered = subst (StandsEverywhere (own_in (head_of graphs 0)) values) (let same : at ≡ round = omega arith in same) recovered.1.everywhere
handed_in graphs values (NoneFound held index) round is recovered = absurd (omega arith)

module _ (job : Job) (edges : List Edge) (values : List (List ℕ)) where
  pub job_found : (found : Recovered) → Resumes job edges values found → job_in found ≡ job
  job_found (Found held index round changed) resumes = resumes.0
  job_found (NoneFound held index) resumes = resumes.0

  pub places_found : (found : Recovered) → Resumes job edges values found → HasPlaces job (edge_chunks job edges) (index_in found)
  places_found (Found held index round changed) resumes = resumes.1
  places_found (NoneFound held index) resumes = resumes.1

  pub start_found : (found : Recovered) → Resumes job edges values found → IsStartOf job edges values (start_of found)
  start_found (Found held index round changed) resumes = (resumes.2, resumes.3)
  start_found (NoneFound held index) resumes = resumes.2

  -- **A store has one start.**
  pub one_start : (a b : Start) → IsStartOf job edges values a → IsStartOf job edges values b → a ≡ b
  one_start Fresh Fresh one other = refl
  one_start Fresh (At round changed) one other = absurd (one round other.0.everywhere)
  one_start (At round changed) Fresh one other = absurd (other round one.0.everywhere)
  one_start (At round changed) (At round' changed') one other =
      let up = other.0.greatest round one.0.everywhere in
      let down = one.0.greatest round' other.0.everywhere in
      let same : round ≡ round' = omega (arith, up, down) in
      let count : changed ≡ changed' = one.1 ∙ ap (changed_of_all job edges) same ∙ sym other.1 in
      cc

  -- the first round that is made is the one behind the kept round
  pub behind_kept : (start : Start) (round : ℕ) → IsStartOf job edges values start → IsStartOf job edges values (At round (changed_of_all job edges round)) → first_made start ≡ round + 1
  behind_kept start round is kept = ap first_made (one_start start (At round (changed_of_all job edges round)) is kept)

  -- **Where no device has another image, the round before the first that is made stands in each.**
  pub stood_from : {D : Type 0} (state : D → DiskState) (devices : List D) (found : Recovered) (round : ℕ) → length devices ≡ job.engines → AreSettledAs state devices values → Resumes job edges values found
      → ((kept changed : ℕ) → start_of found ≡ At kept changed → kept ≤ round) → (e : ℕ) (d : D) → e < job.engines → HasStood (rules_of job.program) job edges (first_made (start_of found)) round e (state (get_or devices e d))
  stood_from state devices (Found held index at count) round many settled resumes from e d below before =
      let early = from at count refl in
      let same : at ≡ round = omega (arith, before, early) in
      subst (λ r. InEveryImage (state (get_or devices e d)) (Holds (rules_of job.program) job edges r e)) same
      (settled_start state job edges devices values (Found held index at count) at count many settled resumes refl e d below)
  stood_from state devices (NoneFound held index) round many settled resumes from e d below before = absurd (omega (arith, before))
