-- What command lines mean, run on worked examples.
use Rattle.std.proofs.Common.{◌≡◌, ℕ, [], ◌∷◌, Some, None, true, false, refl, codes}
use Rattle.graph_model.specs.EdgeText.{number}
use Rattle.graph_model.specs.declared.job.Job.{Job}
use Rattle.graph_model.specs.declared.job.Program.{Program}
use Rattle.graph_model.specs.declared.job.Program.TheVariants.{Bfs, Degrees}
use Rattle.job_words.specs.declared.command.Command.TheVariants.{Run, Bench, Resume}
use Rattle.job_words.specs.Commands.{command_of}

-- a job with the defaults
abbrev plain_job : Program → ℕ → Job
plain_job program vertices = record {
  program = program;
  vertices = vertices;
  engines = 1;
  most = 2097152;
  chunk = 4096;
  seed = 1;
  alpha = 100;
  limit = 100000;
  format = 2;
  keep = 1;
}

defaults : command_of (codes "run" ∷ codes "bfs" ∷ codes "0" ∷ codes "--vertices" ∷ codes "4" ∷ []) ≡ Some (Run (plain_job (Bfs 0) 4) false)
unfolding number
defaults = refl

twice : command_of (codes "run" ∷ codes "bfs" ∷ codes "0" ∷ codes "--vertices" ∷ codes "4" ∷ codes "--seed" ∷ codes "1" ∷ codes "--seed" ∷ codes "1" ∷ []) ≡ None
unfolding number
twice = refl

joined : command_of (codes "run" ∷ codes "bfs" ∷ codes "0" ∷ codes "--seed=1" ∷ codes "--vertices" ∷ codes "4" ∷ []) ≡ Some (Run (plain_job (Bfs 0) 4) false)
unfolding number
joined = refl

many : command_of (codes "run" ∷ codes "labels" ∷ codes "--most" ∷ codes "10" ∷ codes "--vertices" ∷ codes "1000" ∷ []) ≡ None
unfolding number
many = refl

zeros : command_of (codes "run" ∷ codes "bfs" ∷ codes "00" ∷ codes "--vertices" ∷ codes "04" ∷ []) ≡ Some (Run (plain_job (Bfs 0) 4) false)
unfolding number
zeros = refl

flag : command_of (codes "resume" ∷ codes "--report" ∷ codes "--engines=8" ∷ []) ≡ Some (Resume 8 true)
unfolding number
flag = refl

made : command_of (codes "bench" ∷ codes "degrees" ∷ codes "--scale" ∷ codes "0" ∷ codes "--edges" ∷ codes "3" ∷ []) ≡ Some (Bench (plain_job Degrees 1) 0 3 1)
unfolding number
made = refl

no_argument : command_of (codes "run" ∷ codes "degrees" ∷ codes "1" ∷ codes "--vertices" ∷ codes "2" ∷ []) ≡ None
unfolding number
no_argument = refl

no_vertex : command_of (codes "run" ∷ codes "bfs" ∷ codes "0" ∷ codes "--vertices" ∷ codes "0" ∷ []) ≡ None
unfolding number
no_vertex = refl

hyphens : command_of (codes "resume" ∷ codes "--" ∷ []) ≡ None
unfolding number
hyphens = refl
