-- What the text and the devices call for, by the cause of the ending.
use Rattle.std.proofs.Common.{◌≡◌, inl, inr, ℕ, ◌<◌, List, length, true, Option, None, Some, IfSome, refl, ap, subst, arith}
use Rattle.std.specs.List.{All}
use Rattle.std.proofs.lemmas.List.Elements.{All-get_or}
use Rattle.ports.specs.Disk.{DiskState}
use Rattle.graph_model.specs.declared.edge.TextFault.{TextFault}
use Rattle.graph_model.specs.declared.edge.TextFault.TheVariants as fault
use Rattle.graph_model.specs.declared.job.Job.{Job}
use Rattle.graph_model.specs.Answer.{edges, refusal_of, IsAccepted, NeverSettles}
use Rattle.store_model.specs.Heads.{IsOpenGraph, IsShutGraph}
use Rattle.store_model.specs.Kept.{IsPrepared, IsUnprepared}
use Rattle.store_reader.specs.Devices.{IsOpenDevice, SomeShut}
use Rattle.endings.specs.declared.ending.Ending.{Ending}
use Rattle.endings.specs.declared.ending.Ending.TheVariants.{Answered, Dropped, Usage, BadLine, DiskFault, RoundLimit, Memory, ReadFault, WriteFault, NotPrepared, EnginesDiffer, Damaged, TooLong, StoreHolds}
use Rattle.run_model.specs.Calls.{Call, OfText, OfTold}
use Rattle.run_model.specs.Causes.{is_interrupted, IsAnswered, HasCause, IsExact}
use Rattle.list_moves.proofs.Desks.{some_of}

-- what holds of a text that is told
pub of_some : (told : Option (List ℕ)) (P : List ℕ → Type 0) → IfSome told P → OfText told P
of_some told P holds text is = subst (λ (x : Option (List ℕ)). IfSome x P) is holds

-- a text is not both accepted and refused
pub not_accepted : (refusal : Option TextFault) (why : TextFault) → refusal ≡ None → refusal ≡ Some why → ⊥
not_accepted None why accepted refused = absurd (cc)
not_accepted (Some x) why accepted refused = absurd (cc)

same_line : (refusal : Option TextFault) (a b : ℕ) → refusal ≡ Some (fault.BadLine a) → refusal ≡ Some (fault.BadLine b) → BadLine a ≡ BadLine b
same_line refusal a b first second = cc

one_refusal : (refusal : Option TextFault) (a : ℕ) → refusal ≡ Some (fault.BadLine a) → refusal ≡ Some fault.TooLong → ⊥
one_refusal refusal a first second = cc

not_both : (graphs : List (List ℕ)) → IsPrepared graphs → IsUnprepared graphs → ⊥
not_both graphs prepared unprepared = unprepared.2 (prepared unprepared.0 unprepared.1)

module _ {D M : Type 0} (state : D → DiskState) (faults : M → ℕ) (job : Job) (call : Call D M) where
  abbrev pub AreUnprepared : Type 0
  AreUnprepared = OfTold state call.before.store IsUnprepared

  -- some graph device that is not open is one, where the devices tell
  pub unprepared : SomeShut state call.before.store.graphs.items → AreUnprepared
  unprepared shut graphs tells =
      let d : D = some_of call.before.store.graphs.items shut.0 shut.1 in (
        shut.0,
        omega (arith, shut.1, tells.graphs.many),
        subst (λ (x : Option (List ℕ)). IfSome x IsShutGraph) (tells.graphs.told shut.0 d shut.1) (shut.2 d),
      )

  -- and where all are open, they are so
  pub prepared : All (λ disk. IsOpenDevice (state disk)) call.before.store.graphs.items → OfTold state call.before.store IsPrepared
  prepared are graphs tells e below =
      let here : e < length call.before.store.graphs.items = omega (arith, below, tells.graphs.many) in
      let d : D = some_of call.before.store.graphs.items e here in
      subst (λ (x : Option (List ℕ)). IfSome x IsOpenGraph) (tells.graphs.told e d here)
      (All-get_or (λ (disk : D). IsOpenDevice (state disk)) call.before.store.graphs.items e d here are).gate

  pub exact_interrupted : (ending : Ending) → is_interrupted ending ≡ true → IsExact state faults job call ending
  exact_interrupted ending is = record {
    holds = λ graphs tells open_now. inr is;
    bad_line = λ graphs tells shut text told line refused. inr is;
    too_long = λ graphs tells shut text told refused. inr is;
    unsettled = λ graphs tells shut text told accepted never. inr is;
    settled = λ graphs tells shut text told accepted settles. inr is;
  }

  -- **The store that holds a job**
  pub exact_held : OfTold state call.before.store IsPrepared → IsExact state faults job call StoreHolds
  exact_held are = record {
    holds = λ graphs tells open_now. inl refl;
    bad_line = λ graphs tells shut text told line refused. absurd (not_both graphs (are graphs tells) shut);
    too_long = λ graphs tells shut text told refused. absurd (not_both graphs (are graphs tells) shut);
    unsettled = λ graphs tells shut text told accepted never. absurd (not_both graphs (are graphs tells) shut);
    settled = λ graphs tells shut text told accepted settles. absurd (not_both graphs (are graphs tells) shut);
  }

  -- **A store of which some graph device was not open**: the cause of the ending says the rest
  module _ (shut_now : AreUnprepared) where
    exact_line : (line : ℕ) → HasCause state faults job call (BadLine line) → IsExact state faults job call (BadLine line)
    exact_line line cause = record {
      holds = λ graphs tells open_now. absurd (not_both graphs open_now (shut_now graphs tells));
      bad_line = λ graphs tells shut text told other refused. inl (same_line (refusal_of job text) line other (cause text told) refused);
      too_long = λ graphs tells shut text told refused. absurd (one_refusal (refusal_of job text) line (cause text told) refused);
      unsettled = λ graphs tells shut text told accepted never. absurd (not_accepted (refusal_of job text) (fault.BadLine line) accepted (cause text told));
      settled = λ graphs tells shut text told accepted settles. absurd (not_accepted (refusal_of job text) (fault.BadLine line) accepted (cause text told));
    }

    exact_long : (limit : ℕ) → HasCause state faults job call (TooLong limit) → IsExact state faults job call (TooLong limit)
    exact_long limit cause = record {
      holds = λ graphs tells open_now. absurd (not_both graphs open_now (shut_now graphs tells));
      bad_line = λ graphs tells shut text told other refused. absurd (one_refusal (refusal_of job text) other refused (cause.1 text told));
      too_long = λ graphs tells shut text told refused. inl (ap TooLong cause.0);
      unsettled = λ graphs tells shut text told accepted never. absurd (not_accepted (refusal_of job text) fault.TooLong accepted (cause.1 text told));
      settled = λ graphs tells shut text told accepted settles. absurd (not_accepted (refusal_of job text) fault.TooLong accepted (cause.1 text told));
    }

    exact_limit : (limit : ℕ) → HasCause state faults job call (RoundLimit limit) → IsExact state faults job call (RoundLimit limit)
    exact_limit limit cause = record {
      holds = λ graphs tells open_now. absurd (not_both graphs open_now (shut_now graphs tells));
      bad_line = λ graphs tells shut text told other refused. absurd (not_accepted (refusal_of job text) (fault.BadLine other) (cause.1 text told graphs tells).1 refused);
      too_long = λ graphs tells shut text told refused. absurd (not_accepted (refusal_of job text) fault.TooLong (cause.1 text told graphs tells).1 refused);
      unsettled = λ graphs tells shut text told accepted never. inl (ap RoundLimit cause.0);
      settled = λ graphs tells shut text told accepted settles. absurd (settles (cause.1 text told graphs tells).2);
    }

    -- **The answer was printed**
    pub exact_answered : (ending : Ending) → (OfText call.text (λ text. OfTold state call.before.store (λ graphs. IsUnprepared graphs × IsAccepted job text × (¬ (NeverSettles job (edges job text)))))) → IsAnswered ending → IsExact state faults job call ending
    exact_answered ending cause is = record {
      holds = λ graphs tells open_now. absurd (not_both graphs open_now (shut_now graphs tells));
      bad_line = λ graphs tells shut text told other refused. absurd (not_accepted (refusal_of job text) (fault.BadLine other) (cause text told graphs tells).1 refused);
      too_long = λ graphs tells shut text told refused. absurd (not_accepted (refusal_of job text) fault.TooLong (cause text told graphs tells).1 refused);
      unsettled = λ graphs tells shut text told accepted never. absurd ((cause text told graphs tells).2 never);
      settled = λ graphs tells shut text told accepted settles. inl is;
    }

    exact_damaged : (ending : Ending) → OfTold state call.before.store (λ graphs. ⊥) → IsExact state faults job call ending
    exact_damaged ending cause = record {
      holds = λ graphs tells open_now. absurd (cause graphs tells);
      bad_line = λ graphs tells shut text told line refused. absurd (cause graphs tells);
      too_long = λ graphs tells shut text told refused. absurd (cause graphs tells);
      unsettled = λ graphs tells shut text told accepted never. absurd (cause graphs tells);
      settled = λ graphs tells shut text told accepted settles. absurd (cause graphs tells);
    }

    pub exact : (ending : Ending) → HasCause state faults job call ending → IsExact state faults job call ending
    exact (Answered report) cause = exact_answered (Answered report) cause tt
    exact (BadLine line) cause = exact_line line cause
    exact DiskFault cause = exact_interrupted DiskFault refl
    exact (RoundLimit limit) cause = exact_limit limit cause
    exact Memory cause = exact_interrupted Memory refl
    exact ReadFault cause = exact_interrupted ReadFault refl
    exact WriteFault cause = exact_interrupted WriteFault refl
    exact (Damaged part engine place) cause = exact_damaged (Damaged part engine place) cause.0
    exact (TooLong limit) cause = exact_long limit cause
    exact StoreHolds cause = exact_held cause
    exact Dropped cause = absurd cause
    exact Usage cause = absurd cause
    exact NotPrepared cause = absurd cause
    exact (EnginesDiffer held asked) cause = absurd cause
