-- What the rounds of a job came to, by the way in which the job ended.
use Rattle.std.specs.Prelude.{Result, Ok, Err}
use Rattle.round_loop.specs.declared.run.Done.{Done}
use Rattle.round_loop.specs.declared.fault.RoundFault.{RoundFault}
use Rattle.job_run.specs.declared.finish.Finish.{Finish}
use Rattle.job_run.specs.declared.finish.Finish.TheVariants.{Answered, NotWritten, NotRead, Stopped}

-- what the rounds came to; they are done wherever printing has begun
abbrev pub rounds_of : Finish → Result Done RoundFault
rounds_of (Answered done) = Ok done
rounds_of (NotWritten done) = Ok done
rounds_of (NotRead done) = Ok done
rounds_of (Stopped fault) = Err fault
