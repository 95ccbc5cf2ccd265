-- What apply makes on every engine is a round of all vertices.
use Rattle.std.proofs.Common.{◌≡◌, ℕ, ◌<◌, List, length, map, sum, sym, ◌∙◌, ap, subst, arith, slice_index, slice_index_or}
use Rattle.std.specs.List.{range_with_len}
use Rattle.std.proofs.lemmas.List.FromFn.{length-range_with_len, fill_by_all}
use Rattle.std.proofs.lemmas.List.Sums.{sum-map}
use Rattle.graph_model.specs.declared.value.Value.{Value}
use Rattle.partitioner.specs.Splits.{IsSplit}
use Rattle.partitioner.proofs.Made.{some_part}
use Rattle.ports.specs.Disk.{DiskState, InEveryImage}
use Rattle.ports.specs.Stops.{Leaves}
use Rattle.store_model.specs.Slots.{slot_of, HoldsRound}
use Rattle.store_reader.specs.Reading.{own_in}
use Rattle.checkpoint.specs.Applied.{changed_by}
use Rattle.checkpoint.specs.Storing.{WhileStoring}
use Rattle.list_moves.proofs.Desks.{some_of}
use Rattle.apply_round.specs.Crew.{capped}
use Rattle.apply_round.specs.Made.{made, changed_among, own_by, share_of}
use Rattle.apply_round.specs.Applying.{RoundTerms, Tells, AppliesToEach, StoresOnEach, StandsBefore, MakesRound, applied_by}
use Rattle.apply_round.proofs.Shares.{share_made, changed_share, changed_among-le, changed_of_all, length-share, fit_share}

module _ {D : Type 0} (state : D → DiskState) (t : RoundTerms) (numbers : ℕ → ℕ) (before : List Value) (old new : List D) (split : IsSplit t.split) (many : length old ≡ t.split.engines) (stands : StandsBefore state t numbers before old) where
  now : List Value
  now = made t.rules t.split.vertices t.round numbers before

  tells : (e : ℕ) (d : D) → e < length old → Tells t e (state (slice_index_or old e d)) stands.numbers_are.devices (share_of t.split e before)
  tells e d below =
      let share = stands.shares e d below in
      record {
        spilled = stands.numbers_are.told;
        read = share.read;
        told = share.told;
        stands = λ later. record {
          fit = fit_share (own_by t.split e) before (stands.fit later);
          long = length-share t.split e before;
          stand = sym (share.stand later);
        };
      }

  values_are : (e : ℕ) → applied_by t e stands.numbers_are.devices (share_of t.split e before) ≡ share_of t.split e now
  unfolding now
  values_are e = share_made t.rules t.split t.replicas t.spills numbers before stands.numbers_are e t.round

  changed_are : (e : ℕ) → changed_by t.round (share_of t.split e before) (applied_by t e stands.numbers_are.devices (share_of t.split e before)) ≡ changed_among t.round before now (own_by t.split e)
  changed_are e = ap (changed_by t.round (share_of t.split e before)) (values_are e) ∙ changed_share t.split e t.round before now

  sum_capped : (changed : ℕ) (counts : List ℕ) → length counts ≡ t.split.engines → changed ≡ capped counts → ((e : ℕ) → e < t.split.engines → slice_index counts e ≡ changed_among t.round before now (own_by t.split e)) →
      changed ≡ changed_among t.round before now (range_with_len 0 t.split.vertices)
  sum_capped changed counts long is each =
      let count : ℕ → ℕ = λ e. changed_among t.round before now (own_by t.split e) in
      let filled : counts ≡ map count (range_with_len 0 t.split.engines) = fill_by_all count counts t.split.engines 0 long each in
      let total : sum counts ≡ changed_among t.round before now (range_with_len 0 t.split.vertices) =
      ap sum filled ∙ sum-map count (range_with_len 0 t.split.engines) ∙ changed_of_all t.split t.round before now split.engines.0 (some_part t.split split) in
      let few = changed_among-le t.round before now (range_with_len 0 t.split.vertices) in
      let vertices = split.vertices in
      omega (arith, total, few, vertices, length-range_with_len 0 t.split.vertices)

  pub makes_round : (done : Type 0) (changed : ℕ) → AppliesToEach state t old new → (done → StoresOnEach state t changed old new) → MakesRound state t numbers before (made t.rules t.split.vertices t.round numbers before) done changed old new
  unfolding now
  makes_round done changed applies stores = record {
    any_moment = λ e d below.
        let start : DiskState = state (slice_index_or old e d) in
        let end : DiskState = state (slice_index_or new e d) in
        let leaves = (applies e d below).any_moment stands.numbers_are.devices (share_of t.split e before) (tells e d below) in
        subst (λ (values : List Value). Leaves t.number start end (WhileStoring (own_in t.split e) (slot_of t.round) t.round (changed_among t.round before now (own_by t.split e)) values start)) (values_are e)
        (subst (λ (n : ℕ). Leaves t.number start end (WhileStoring (own_in t.split e) (slot_of t.round) t.round n (applied_by t e stands.numbers_are.devices (share_of t.split e before)) start)) (changed_are e) leaves);
    stored = λ is_done e d below.
        let end : DiskState = state (slice_index_or new e d) in
        let stored = (stores is_done).each e d below in
        let holds = stored.holds stands.numbers_are.devices (share_of t.split e before) (tells e d below) in
        let count = stored.counted stands.numbers_are.devices (share_of t.split e before) (tells e d below) ∙ changed_are e in
        subst (λ (values : List Value). InEveryImage end (HoldsRound (own_in t.split e) (slot_of t.round) t.round (changed_among t.round before now (own_by t.split e)) values)) (values_are e)
        (subst (λ (n : ℕ). InEveryImage end (HoldsRound (own_in t.split e) (slot_of t.round) t.round n (applied_by t e stands.numbers_are.devices (share_of t.split e before)))) count holds);
    changed_are = λ is_done.
        sum_capped changed (stores is_done).counts ((stores is_done).many ∙ many) (stores is_done).sum
        (λ e below.
        let within : e < length old = omega (arith, many, below) in
        let d : D = some_of old e within in
        ((stores is_done).each e d within).counted stands.numbers_are.devices (share_of t.split e before) (tells e d within) ∙ changed_are e);
  }
