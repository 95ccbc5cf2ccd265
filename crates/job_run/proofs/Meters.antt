-- Meters of which one is read through, and what their counts say of a fault of printing.
use Rattle.std.proofs.Common.{◌≡◌, ℕ, ◌<◌, List, length, get_or, slice_set, Err, sym, ◌∙◌, subst}
use Rattle.std.proofs.lemmas.List.{get_or_default, get_or-set_same}
use Rattle.ports.specs.Faults.{Rose}
use Rattle.ports.specs.Devices.{MetersGoOn, OneCountRose, SameCounts}
use Rattle.answer_lines.specs.declared.print.PrintFault.{PrintFault}
use Rattle.answer_lines.specs.declared.print.PrintFault.TheVariants.{DiskFault}
use Rattle.answer_lines.specs.Printing.{IsCaused as IsCausedPrinting}
use Rattle.round_steps.proofs.Kept.{meter_rose_later}
use Rattle.round_loop.proofs.Ending.{on_made_weaker}
use Rattle.job_run.specs.declared.finish.Finish.{Finish}
use Rattle.job_run.specs.declared.finish.Finish.TheVariants.{Answered, NotWritten, NotRead, Stopped}
use Rattle.job_run.specs.Running.{IsCaused, HasFinishCause}

pub disk_rose : (disk sink : Type 0) (fault : PrintFault) → fault ≡ DiskFault → IsCausedPrinting disk sink fault → disk
disk_rose disk sink fault is caused = subst (IsCausedPrinting disk sink) is caused

module _ {M : Type 0} (faults : M → ℕ) where
  -- the count of the meter that was read through rose
  pub meter_rose : (meters : List M) (k : ℕ) → k < length meters → (old new : M) → old ≡ get_or meters k old → Rose (faults old) (faults new) → OneCountRose faults meters (slice_set meters k new)
  meter_rose meters k below old new is rose = (
    k,
    below,
    λ m.
        subst (λ a. Rose (faults a) (faults (get_or (slice_set meters k new) k m))) (is ∙ get_or_default meters k old m below)
        (subst (λ a. Rose (faults old) (faults a)) (sym (get_or-set_same meters k new m below)) rose),
  )

  module _ (old mid new : List M) (first : MetersGoOn faults old mid) (calm : SameCounts faults old mid) (writes writes' : ℕ) where
    caused_since : (finish : Finish) → IsCaused faults mid new writes writes' finish → IsCaused faults old new writes writes' finish
    caused_since (Answered done) caused = (caused.0 ∙ calm, caused.1)
    caused_since (NotWritten done) caused = caused
    caused_since (NotRead done) caused = meter_rose_later faults old mid new first caused
    caused_since (Stopped fault) caused = (on_made_weaker (SameCounts faults mid new) (SameCounts faults old new) (Err fault) (λ still. still ∙ calm) caused.0, caused.1)

    -- the cause of a fault, counted from before meters have gone on
    pub cause_since : (finish : Finish) → HasFinishCause faults mid new writes writes' finish → HasFinishCause faults old new writes writes' finish
    cause_since finish cause = record { later = cause.later; caused = caused_since finish cause.caused }
