-- Why a run over a text ends so, and what the text and the devices call for.
use Rattle.std.specs.Prelude.{◌≡◌, ◌⊎◌, ⊤, ℕ, Bool, true, false, Some, List}
use Rattle.ports.specs.Disk.{DiskState}
use Rattle.ports.specs.Faults.{Rose}
use Rattle.graph_model.specs.declared.edge.Edge.{Edge}
use Rattle.graph_model.specs.declared.edge.TextFault.TheVariants as fault
use Rattle.graph_model.specs.declared.job.Job.{Job}
use Rattle.graph_model.specs.EdgeText.{text_limit}
use Rattle.graph_model.specs.Answer.{edges, refusal_of, IsAccepted, NeverSettles}
use Rattle.partitioner.specs.Splits.{split_for}
use Rattle.chunk_file.specs.declared.index.Place.{Place}
use Rattle.store_model.specs.Kept.{IsPrepared, IsUnprepared}
use Rattle.store_reader.specs.declared.store.Part.{Part}
use Rattle.storage_engine.specs.Preparing.{IsMadeOf}
use Rattle.round_steps.specs.Damage.{IsDamage}
use Rattle.endings.specs.declared.ending.Ending.{Ending}
use Rattle.endings.specs.declared.ending.Ending.TheVariants.{Answered, Dropped, Usage, BadLine, DiskFault, RoundLimit, Memory, ReadFault, WriteFault, NotPrepared, EnginesDiffer, Damaged, TooLong, StoreHolds}
use Rattle.run_model.specs.Calls.{Call, OfText, OfTold, AnyRose}

-- want of memory, or a fault
abbrev pub is_interrupted : Ending → Bool
is_interrupted Memory = true
is_interrupted DiskFault = true
is_interrupted ReadFault = true
is_interrupted WriteFault = true
is_interrupted _ = false

-- the answer was printed
abbrev pub IsAnswered : Ending → Type 0
IsAnswered (Answered report) = ⊤
IsAnswered _ = ⊥

-- **No failed call lies behind it**: nothing has interrupted the call, and no damage has ended it
abbrev pub IsFaultless : Ending → Type 0
IsFaultless (Damaged part engine place) = ⊥
IsFaultless ending = is_interrupted ending ≡ false

-- an ending comes, unless want of memory or a fault is met before it
abbrev pub Comes : (due ending : Ending) → Type 0
Comes due ending = (ending ≡ due) ⊎ (is_interrupted ending ≡ true)

module _ {D M : Type 0} (state : D → DiskState) (faults : M → ℕ) (job : Job) (call : Call D M) where
  -- **Damage in a run**: the store was made of some edges, those of the text where the source tells it, and a chunk that was
  -- made of them and is in its index is refused, or one of updates
  pub record IsDamageOfMade (part : Part) (engine place : ℕ) : Type 0 where
    pub given : List Edge
    pub index : List (List Place)
    pub made : IsMadeOf state job call.text index call.after.store.graphs.items given
    pub refused : IsDamage state job (split_for job) index call.after.store.graphs.items call.after.store.lanes.items part engine place

  -- **Why a run ends so.** Want of memory is free, a fault has raised its count, and all else the text or the devices call
  -- for; where the devices tell their bytes, no damage is found, and on any devices it is that of a chunk.
  abbrev pub HasCause : Ending → Type 0
  HasCause (Answered report) = OfText call.text (λ text. OfTold state call.before.store (λ graphs. IsUnprepared graphs × IsAccepted job text × (¬ (NeverSettles job (edges job text)))))
  HasCause (BadLine line) = OfText call.text (λ text. refusal_of job text ≡ Some (fault.BadLine line))
  HasCause DiskFault = AnyRose state faults call.before call.after
  HasCause (RoundLimit limit) = (limit ≡ job.limit) × OfText call.text (λ text. OfTold state call.before.store (λ graphs. IsUnprepared graphs × IsAccepted job text × NeverSettles job (edges job text)))
  HasCause Memory = ⊤
  HasCause ReadFault = Rose call.read_faults call.read_faults_after
  HasCause WriteFault = Rose call.write_faults call.write_faults_after
  HasCause (Damaged part engine place) = OfTold state call.before.store (λ graphs. ⊥) × IsDamageOfMade part engine place
  HasCause (TooLong limit) = (limit ≡ text_limit job.chunk) × OfText call.text (λ text. refusal_of job text ≡ Some fault.TooLong)
  HasCause StoreHolds = OfTold state call.before.store IsPrepared
  HasCause Dropped = ⊥
  HasCause Usage = ⊥
  HasCause NotPrepared = ⊥
  HasCause (EnginesDiffer held asked) = ⊥

  -- **What the text and the devices call for comes.** A store that holds a job is refused; otherwise the text decides, and
  -- where nothing is to be refused the answer is printed.
  pub record IsExact (ending : Ending) : Type 0 where
    pub holds : OfTold state call.before.store (λ graphs. IsPrepared graphs → Comes StoreHolds ending)
    pub bad_line : OfTold state call.before.store (λ graphs. IsUnprepared graphs → OfText call.text (λ text. (line : ℕ) → refusal_of job text ≡ Some (fault.BadLine line) → Comes (BadLine line) ending))
    pub too_long : OfTold state call.before.store (λ graphs. IsUnprepared graphs → OfText call.text (λ text. refusal_of job text ≡ Some fault.TooLong → Comes (TooLong (text_limit job.chunk)) ending))
    pub unsettled : OfTold state call.before.store (λ graphs. IsUnprepared graphs → OfText call.text (λ text. IsAccepted job text → NeverSettles job (edges job text) → Comes (RoundLimit job.limit) ending))
    pub settled : OfTold state call.before.store (λ graphs. IsUnprepared graphs → OfText call.text (λ text. IsAccepted job text → ¬ (NeverSettles job (edges job text)) → IsAnswered ending ⊎ (is_interrupted ending ≡ true)))
