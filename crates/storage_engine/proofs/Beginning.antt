-- What stands on the devices of a store before any chunk.
use Rattle.std.proofs.Common.{◌≡◌, ◌≢◌, ◌∙◌, ℕ, ◌<◌, List, [], ◌∷◌, ◌++◌, length, get_or, replicate, Option, Some, None, IfSome, IsSome, refl, ap, sym, subst, arith}
use Rattle.std.proofs.lemmas.List.{length-replicate, length-append, get_or-replicate}
use Rattle.graph_model.specs.declared.job.Job.{Job}
use Rattle.graph_model.specs.Partitions.{own_count}
use Rattle.partitioner.specs.declared.split.Split.{Split}
use Rattle.partitioner.specs.Splits.{IsSplitOf}
use Rattle.store_reader.specs.Reading.{own_in}
use Rattle.ports.specs.Disk.{DiskState, IsDisk, InEveryImage}
use Rattle.ports.specs.Told.{AsTold}
use Rattle.store_model.specs.Gates.{OPEN}
use Rattle.store_model.specs.Heads.{MARK, front}
use Rattle.store_model.specs.Slots.{device_size, slot_start, IsBlank}
use Rattle.store_model.specs.Kept.{own_of}
use Rattle.store_model.proofs.Growing.{length-head}
use Rattle.storage_engine.specs.Steps.{Step, IsClosedFront, HoldsExactly, Appended}
use Rattle.storage_engine.specs.Making.{HasHead, IsBlankDevice}
use Rattle.storage_engine.proofs.Keeping.{keeps_now}

pub length-front : (job : Job) (e : ℕ) → length (front 0 job e) ≡ 64
length-front job e = omega (arith, length-head 0 job e, length-append (front 0 job e) (MARK ∷ []))

front_gate : (job : Job) (e : ℕ) → get_or (front 0 job e) 0 0 ≡ 0
unfolding front
front_gate job e = refl

pub front_closed : (job : Job) (e : ℕ) → IsClosedFront (front 0 job e)
front_closed job e = record {
  long = omega (arith, length-front job e);
  closed = λ same. let zero_is : ◌≡◌ {A = ℕ} 0 165 = sym (front_gate job e) ∙ same in omega arith;
}

pub all_closed : (job : Job) (e : ℕ) (disk : DiskState) → HoldsExactly (front 0 job e) disk → InEveryImage disk IsClosedFront
all_closed job e disk holds c image = subst IsClosedFront (sym (holds.images c image)) (front_closed job e)

read_then : (piece a : List ℕ) (x y : Option (List ℕ)) → IfSome x (λ told. told ≡ a) → AsTold (λ old new. new ≡ old ++ piece) x y → IfSome y (λ told. told ≡ a ++ piece)
read_then piece a (Some x) (Some y) is appended = appended ∙ ap (λ b. b ++ piece) is
read_then piece a (Some x) None is appended = tt
read_then piece a None (Some y) is appended = absurd appended
read_then piece a None None is appended = tt

-- the front of a head, and the mark behind it
pub head_made : (job : Job) (e number : ℕ) (mid new : DiskState) → IsDisk new → HoldsExactly (front 0 job e) mid → Step IsClosedFront number mid new → Appended (MARK ∷ []) mid new → HasHead job e new
head_made job e number mid new law holds step appended = record {
  size = omega (arith, appended.size, holds.size, length-front job e);
  read = read_then (MARK ∷ []) (front 0 job e) mid.bytes new.bytes holds.read appended.bytes;
  closed = keeps_now IsClosedFront number mid new law step.keeps (all_closed job e mid holds);
}

zeros_closed : (own slot : ℕ) → slot_start own slot < device_size own → get_or (replicate (device_size own) 0) (slot_start own slot) 0 ≢ OPEN
zeros_closed own slot within same =
    let none : ◌≡◌ {A = ℕ} 0 165 = sym (get_or-replicate (device_size own) (slot_start own slot) 0 0 within) ∙ same in omega arith

pub zeros_blank : (own : ℕ) → IsBlank own (replicate (device_size own) 0)
zeros_blank own = record {
  exact = length-replicate (device_size own) 0;
  first = zeros_closed own 0 (omega arith);
  second = zeros_closed own 1 (omega arith);
}

-- zero bytes in the whole size of a values device
pub blank_made : (job : Job) (e n : ℕ) (disk : DiskState) → IsDisk disk → n ≡ device_size (own_of job e) → HoldsExactly (replicate n 0) disk → IsBlankDevice job e disk
blank_made job e n disk law size holds = record {
  size = holds.size ∙ length-replicate n 0 ∙ size;
  blank = λ c image. subst (IsBlank (own_of job e)) (sym (holds.images c image ∙ ap (λ k. replicate k 0) size)) (zeros_blank (own_of job e));
  settled = λ c image. told_is disk.bytes (law.told c image) holds.read (holds.images c image);
}
  where
    told_is : {a c : List ℕ} (x : Option (List ℕ)) → IsSome x → IfSome x (λ told. told ≡ a) → c ≡ a → x ≡ Some c
    told_is (Some told) some is same = ap Some (is ∙ sym same)
    told_is None some is same = absurd cc

-- the vertices of an engine are those of the job's split
pub own_same : (job : Job) (split : Split) (e : ℕ) → IsSplitOf job split → own_in split e ≡ own_of job e
own_same job split e of_job =
    ap (λ n. own_count n split.engines split.parts e) of_job.vertices
    ∙ ap (λ n. own_count job.vertices n split.parts e) of_job.engines
    ∙ ap (λ n. own_count job.vertices job.engines n e) of_job.parts
