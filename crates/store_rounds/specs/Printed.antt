-- What was printed, where it is the answer of a job over its edges.
use Rattle.std.specs.Prelude.{ℕ, List, ◌++◌, Option}
use Rattle.graph_model.specs.declared.edge.Edge.{Edge}
use Rattle.graph_model.specs.declared.job.Job.{Job}
use Rattle.graph_model.specs.Answer.{IsAnswer}
use Rattle.ports.specs.Sink.{Appends}
use Rattle.ports.specs.Told.{AsTold}

-- the answer was printed, and nothing else
pub record AnswerPrinted (job : Job) (edges : List Edge) (old new : Option (List ℕ)) : Type 0 where
  pub printed : List ℕ
  pub prints : AsTold (Appends printed) old new
  pub is_answer : IsAnswer job edges printed

-- a front of the answer was printed
pub record FrontPrinted (job : Job) (edges : List Edge) (old new : Option (List ℕ)) : Type 0 where
  pub printed : List ℕ
  pub rest : List ℕ
  pub prints : AsTold (Appends printed) old new
  pub is_answer : IsAnswer job edges (printed ++ rest)
