-- What stands on devices, and what a run begins with.
use Rattle.std.proofs.Common.{◌≡◌, ℕ, ◌-◌, ◌<◌, ◌≤◌, Some, List, length, get_or, sum_by, refl, sym, ◌∙◌, ap, subst, arith}
use Rattle.std.specs.List.{range_with_len}
use Rattle.graph_model.specs.declared.edge.Edge.{Edge}
use Rattle.graph_model.specs.declared.job.Job.{Job}
use Rattle.graph_model.specs.Jobs.{IsWellFormedJob}
use Rattle.graph_model.specs.Programs.{rules_of}
use Rattle.ports.specs.Disk.{DiskState, IsDisk, InEveryImage}
use Rattle.ports.proofs.Told.{present_at}
use Rattle.partitioner.specs.Splits.{IsSplit, split_for}
use Rattle.partitioner.proofs.Made.{some_part, job-is_split}
use Rattle.store_model.specs.Kept.{own_vertices, device, IsReached, HasRound, IsEverywhere}
use Rattle.store_checks.specs.Causes.{Tell}
use Rattle.apply_round.proofs.Shares as shares
use Rattle.restart.specs.declared.recovering.Recovered.{Recovered}
use Rattle.restart.specs.declared.recovering.Recovered.TheVariants as recovered
use Rattle.restart.specs.Resuming.{Resumes, changed_of_all}
use Rattle.round_steps.specs.Going as going
use Rattle.round_loop.specs.declared.run.Start.{Start}
use Rattle.round_loop.specs.declared.run.Start.TheVariants.{At}
use Rattle.round_loop.specs.Starts as run
use Rattle.round_loop.specs.Starts.{first_made}
use Rattle.round_loop.specs.Kept as rounds
use Rattle.round_loop.specs.Kept.{Holds, HasStood, IsKept, IsRead, IsGoodStart, StandsAfter}
use Rattle.list_moves.proofs.Desks.{some_of}
use Rattle.store_rounds.specs.Images.{HaveImages, AreSettledAs}
use Rattle.store_rounds.specs.Going.{start_of}
use Rattle.store_rounds.proofs.SameRounds.{changed_same, reached_by_run, held_by_run, held_in_store}

-- The split of a job is one.
pub job_split : (job : Job) → IsWellFormedJob job → IsSplit (split_for job)
job_split job well = job-is_split job (split_for job) well (record { vertices = refl; engines = refl; parts = refl; span = refl })

-- **The changed vertices of all engines are those of all vertices.**
changed_all : (job : Job) (edges : List Edge) (round : ℕ) → IsWellFormedJob job → changed_of_all job edges round ≡ rounds.changed_in (rules_of job.program) job edges round
changed_all job edges round well =
    ap (λ (f : ℕ → ℕ). sum_by f (range_with_len 0 job.engines)) (λ i e. changed_same job edges (own_vertices job e) round i)
    ∙ shares.changed_of_all (split_for job) round (rounds.round_values (rules_of job.program) job edges (round - 1)) (rounds.round_values (rules_of job.program) job edges round) well.engines.0 (some_part (split_for job) (job_split job well))

module _ {D : Type 0} (state : D → DiskState) (job : Job) (edges : List Edge) where
  -- **A round that is kept stands everywhere, in whichever images.**
  pub kept_everywhere : (round : ℕ) (devices : List D) (values : List (List ℕ)) → length devices ≡ job.engines → IsReached job edges round → IsKept (rules_of job.program) job edges state round devices
      → HaveImages state devices values → IsEverywhere job edges values round
  kept_everywhere round devices values many reached kept images e below =
      let within : e < length devices = omega (arith, many, below) in
      let d : D = some_of devices e within in
      held_in_store job edges e round (device values e) reached (kept e d below (device values e) (images.each e d within))

  -- **And so does one that is read.**
  pub read_everywhere : (round : ℕ) (devices : List D) (values : List (List ℕ)) → length devices ≡ job.engines → IsReached job edges round → IsRead (rules_of job.program) job edges state round devices
      → Tell state devices values → IsEverywhere job edges values round
  read_everywhere round devices values many reached read tell e below =
      let within : e < length devices = omega (arith, many, below) in
      let d : D = some_of devices e within in
      let gives = read e d below in
      let same : Some gives.0 ≡ Some (device values e) = sym gives.1 ∙ tell.told e d within in
      let same_bytes : gives.0 ≡ device values e = cc in
      held_in_store job edges e round (device values e) reached (subst (λ bytes. Holds (rules_of job.program) job edges round e bytes) same_bytes gives.2)

  -- what stands everywhere in what devices tell is read
  told_is_read : (round : ℕ) (devices : List D) (values : List (List ℕ)) → length devices ≡ job.engines → Tell state devices values → IsEverywhere job edges values round → IsRead (rules_of job.program) job edges state round devices
  told_is_read round devices values many tell everywhere e d below =
      (device values e, tell.told e d (omega (arith, many, below)), held_by_run job edges e round (device values e) (everywhere e below))

  -- **What is recovered is a good start.**
  pub good_start : (devices : List D) (values : List (List ℕ)) (found : Recovered) → IsWellFormedJob job → length devices ≡ job.engines → Tell state devices values → Resumes job edges values found
      → IsGoodStart (rules_of job.program) job edges state (start_of found) devices
  good_start devices values (recovered.Found found index at count) well many tell resumes =
      let first : (round changed : ℕ) → ◌≡◌ {A = Start} (At at count) (At round changed) → at ≡ round = λ round changed is. cc in
      let second : (round changed : ℕ) → ◌≡◌ {A = Start} (At at count) (At round changed) → count ≡ changed = λ round changed is. cc in
      record {
        read = λ round changed is. subst (λ r. IsRead (rules_of job.program) job edges state r devices) (first round changed is) (told_is_read at devices values many tell resumes.2.everywhere);
        counted = λ round changed is. sym (second round changed is) ∙ resumes.3 ∙ changed_all job edges at well ∙ ap (rounds.changed_in (rules_of job.program) job edges) (first round changed is);
        reached = λ round changed is. subst (run.IsReached (rules_of job.program) job.vertices edges job.limit) (first round changed is) (reached_by_run job edges at (resumes.2.everywhere 0 (omega (arith, well.engines.0))).reached);
      }
  good_start devices values (recovered.Fresh found index) well many tell resumes = record {
    read = λ round changed is. absurd cc;
    counted = λ round changed is. absurd cc;
    reached = λ round changed is. absurd cc;
  }

  -- **Where no device has another image, the round that was found stands in every one.**
  pub settled_start : (devices : List D) (values : List (List ℕ)) (found : Recovered) (round changed : ℕ) → length devices ≡ job.engines → AreSettledAs state devices values → Resumes job edges values found
      → start_of found ≡ At round changed → IsKept (rules_of job.program) job edges state round devices
  settled_start devices values (recovered.Found found index at count) round changed many settled resumes is =
      let first : at ≡ round = cc in
      λ e d below c image. subst (λ r. Holds (rules_of job.program) job edges r e c) first
      (held_by_run job edges e at c (subst (λ bytes. HasRound job edges e bytes at) (sym (settled.each e d (omega (arith, many, below)) c image)) (resumes.2.everywhere e below)))
  settled_start devices values (recovered.Fresh found index) round changed many settled resumes is = absurd cc

  -- what is kept on devices that tell is read
  pub kept_is_read : ((d : D) → IsDisk (state d)) → (round : ℕ) (devices : List D) → length devices ≡ job.engines → going.Tell state devices → IsKept (rules_of job.program) job edges state round devices → IsRead (rules_of job.program) job edges state round devices
  kept_is_read lawful round devices many tell kept e d below =
      let told = tell e d (omega (arith, many, below)) in
      (told.0, told.1, kept e d below told.0 (present_at (state (get_or devices e d)) told.0 (lawful (get_or devices e d)) told.1))

  -- what stands after a run is kept, where it was made or was kept before
  pub kept_after : (start : Start) (round : ℕ) (old new : List D) → ((e : ℕ) (d : D) → e < job.engines → HasStood (rules_of job.program) job edges (first_made start) round e (state (get_or old e d))) → StandsAfter (rules_of job.program) job edges state start round old new
      → IsKept (rules_of job.program) job edges state round new
  kept_after start round old new stood stands e d below = (stands e d below).images (stood e d below)

  pub kept_from_found : (found changed round : ℕ) (old new : List D) → IsKept (rules_of job.program) job edges state found old → found ≤ round → StandsAfter (rules_of job.program) job edges state (At found changed) round old new
      → IsKept (rules_of job.program) job edges state round new
  kept_from_found found changed round old new kept from stands = kept_after (At found changed) round old new
      (λ e d below before.
      let same : found ≡ round = omega (arith, before, from) in
      subst (λ r. InEveryImage (state (get_or old e d)) (Holds (rules_of job.program) job edges r e)) same (kept e d below))
      stands
