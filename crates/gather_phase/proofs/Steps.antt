-- What a worker has gathered, step by step.
use Rattle.std.proofs.Common.{◌≡◌, ◌≢◌, ℕ, zero, suc, ◌+◌, ◌*◌, ◌%◌, ◌<◌, ◌≤◌, Option, Some, None, List, [], ◌∷◌, ◌++◌, length, replicate, refl, ap, sym, ◌∙◌, subst, ⊎_elim, arith, length-append}
use Rattle.std.specs.Prelude.{slice_index_or}
use Rattle.std.specs.List.{All}
use Rattle.std.proofs.lemmas.List.{append-nil}
use Rattle.chunk_object.specs.History.{total}
use Rattle.std.proofs.lemmas.Bool.{cases_eq}
use Rattle.std.proofs.lemmas.List.Elements.{All-nil, All-cons, All-append}
use Rattle.graph_model.specs.declared.value.Update.{Update}
use Rattle.graph_model.specs.Partitions.{first_vertex}
use Rattle.ports.specs.Told.{AsTold}
use Rattle.ports.proofs.Told.{as_told_from}
use Rattle.partitioner.specs.declared.split.Split.{Split}
use Rattle.phase_model.specs.Taken.{records_of}
use Rattle.phase_model.proofs.Lists.{records_of-append}
use Rattle.worker_duty.specs.Views.{NoneOf}
use Rattle.replica_merge.specs.declared.replicas.Replicas.{Replicas}
use Rattle.replica_merge.specs.Accumulators.{split_of, unit_of, begun_of, sums_of, place_of, len_of, accumulators_at, accumulators_of, IsUnspilled, LiesWithin, KeepsOthers}
use Rattle.gather_phase.specs.Summing.{HasSummed}
use Rattle.gather_phase.specs.Memory.{SameSpills}
use Rattle.gather_phase.specs.Gathering.{Adding, partition_sums, of_partition, touched_but, touched, IsOf, KeepsSums, Rests, StandsHere, Meets}
use Rattle.gather_phase.proofs.Partition.{none_there, one_there, one_elsewhere, touched_fresh, touched_here, touched_more, sums_none, sums_more}

accumulators_same : (old new : Replicas) → SameSpills old new → (device : List ℕ) (q : ℕ) → accumulators_of new device q ≡ accumulators_of old device q
accumulators_same old new same device q = λ i. accumulators_at (slice_index_or (same.places i).items q None) (len_of (same.split i) q) (same.unit i) device

within_same : (old new : Replicas) (size : ℕ) → SameSpills old new → LiesWithin old size → LiesWithin new size
within_same old new size same within = λ q at below is.
    let there : place_of old q ≡ Some at = ap (λ places. slice_index_or places.items q None) (sym same.places) ∙ is in
    let inside = within q at (subst (λ (s : Split). q < s.parts) same.split below) there in
    subst (λ (s : Split). at + 8 * len_of s q ≤ size) (sym same.split) inside

module _ (a : Adding) (engines : ℕ) (lens : ℕ → ℕ) (Described : (ℕ → ℕ → List Update) → Type 0) where
  -- replicas that are fresh, and a device without bytes
  pub rests_first : (told : Option (List ℕ)) (size beat number : ℕ) (replicas : Replicas) (begun : Option ℕ) → begun ≡ None → split_of replicas ≡ a.split → unit_of replicas ≡ a.unit → IsUnspilled replicas → size ≡ 0 → beat ≤ number → Rests a engines lens Described told size beat number replicas begun []
  rests_first told size beat number replicas begun idle split unit fresh empty in_time = record {
    idle = idle;
    split = split;
    unit = unit;
    within = λ q at below is. absurd (none at (sym (fresh q) ∙ is));
    width = empty ∙ (let e : 0 ≡ 8 * touched a.split [] = zeros in e);
    in_time = in_time;
    known = All-nil (IsOf engines a.split.parts lens);
    sums = λ q below items described device tells.
        ap (λ place. accumulators_at place (len_of replicas.split q) replicas.unit device) (fresh q)
        ∙ (ap (λ (s : Split). replicate (len_of s q) replicas.unit) split ∙ (ap (λ u. replicate (len_of a.split q) u) unit ∙ sym (sums_none a q)));
  }
    where
      none : (at : ℕ) → None ≡ Some at → ⊥
      none at e = cc

      zero_total : (m : ℕ) → total m (λ q. 0) ≡ 0
      zero_total zero = refl
      zero_total (suc m) = let e = zero_total m in omega (arith, e)

      zeros : 0 ≡ 8 * touched a.split []
      zeros = let e : touched a.split [] ≡ 0 = zero_total a.split.parts in omega (arith, e)

  -- the worker comes to a partition of which it took no chunk yet
  pub enters : (told : Option (List ℕ)) (size beat number : ℕ) (replicas : Replicas) (begun : Option ℕ) (chunks : List (ℕ × ℕ)) (p : ℕ) → p < a.split.parts → Rests a engines lens Described told size beat number replicas begun chunks → NoneOf p chunks → Meets a engines lens Described told size beat number replicas begun chunks p
  enters told size beat number replicas begun chunks p below rests none = record {
    split = rests.split;
    unit = rests.unit;
    within = rests.within;
    width = rests.width ∙ ap (λ n. 8 * n) (sym (touched_fresh a.split p chunks none));
    in_time = rests.in_time;
    known = rests.known;
    sums = λ q inside ne. rests.sums q inside;
    here = subst (λ b. StandsHere a engines lens Described told replicas b chunks p) (sym rests.idle) (none, rests.sums p below);
  }

  -- Between a claim and the fold of its chunk the partition is in memory.
  pub record Loaded (told : Option (List ℕ)) (size beat number : ℕ) (replicas : Replicas) (chunks : List (ℕ × ℕ)) (p : ℕ) : Type 0 where
    pub split : split_of replicas ≡ a.split
    pub unit : unit_of replicas ≡ a.unit
    pub within : LiesWithin replicas size
    pub width : size ≡ 8 * touched_but a.split chunks p
    pub in_time : beat ≤ number
    pub known : All (IsOf engines a.split.parts lens) chunks
    pub sums : (q : ℕ) → q < a.split.parts → q ≢ p → KeepsSums a engines lens Described told replicas chunks q
    pub is_begun : begun_of replicas ≡ p
    pub memory : (items : ℕ → ℕ → List Update) → Described items → sums_of replicas ≡ partition_sums a (records_of items (of_partition p chunks)) p

  pub loaded_first : (told : Option (List ℕ)) (size beat number : ℕ) (old new : Replicas) (begun : Option ℕ) (chunks : List (ℕ × ℕ)) (p : ℕ) → begun ≡ None → Meets a engines lens Described told size beat number old begun chunks p → SameSpills old new → begun_of new ≡ p → sums_of new ≡ replicate (len_of (split_of old) p) (unit_of old) → Loaded told size beat number new chunks p
  loaded_first told size beat number old new begun chunks p none meets same is units =
      let here : NoneOf p chunks × KeepsSums a engines lens Described told old chunks p = subst (λ b. StandsHere a engines lens Described told old b chunks p) none meets.here in
      record {
        split = same.split ∙ meets.split;
        unit = same.unit ∙ meets.unit;
        within = within_same old new size same meets.within;
        width = meets.width;
        in_time = meets.in_time;
        known = meets.known;
        sums = λ q below ne items described device tells. accumulators_same old new same device q ∙ meets.sums q below ne items described device tells;
        is_begun = is;
        memory = λ items described.
            units
            ∙ (ap (λ (s : Split). replicate (len_of s p) (unit_of old)) meets.split
            ∙ (ap (λ u. replicate (len_of a.split p) u) meets.unit ∙ (sym (sums_none a p) ∙ ap (λ l. partition_sums a (records_of items l) p) (sym (none_there p chunks here.0)))));
      }

  pub loaded_on : (told : Option (List ℕ)) (size beat number : ℕ) (replicas : Replicas) (begun : Option ℕ) (b : ℕ) (chunks : List (ℕ × ℕ)) (p : ℕ) → begun ≡ Some b → Meets a engines lens Described told size beat number replicas begun chunks p → Loaded told size beat number replicas chunks p
  loaded_on told size beat number replicas begun b chunks p some meets =
      let here = subst (λ x. StandsHere a engines lens Described told replicas x chunks p) some meets.here in
      record {
        split = meets.split;
        unit = meets.unit;
        within = meets.within;
        width = meets.width;
        in_time = meets.in_time;
        known = meets.known;
        sums = meets.sums;
        is_begun = here.1;
        memory = here.3;
      }

  -- the chunk's updates were taken in
  pub took : (told : Option (List ℕ)) (size beat number : ℕ) (old new : Replicas) (chunks : List (ℕ × ℕ)) (p w t : ℕ) (us : List Update) → Loaded told size beat number old chunks p → SameSpills old new → begun_of new ≡ begun_of old → HasSummed a.add (first_vertex a.split.vertices a.split.parts p) us (sums_of old) (sums_of new) → w % 64 ≡ p → IsOf engines a.split.parts lens (w, t) → ((items : ℕ → ℕ → List Update) → Described items → items w t ≡ us)
      → Meets a engines lens Described told size beat number new (Some p) (chunks ++ (w, t) ∷ []) p
  took told size beat number old new chunks p w t us loaded same still summed here is_of reads = record {
    split = same.split ∙ loaded.split;
    unit = same.unit ∙ loaded.unit;
    within = within_same old new size same loaded.within;
    width = loaded.width ∙ ap (λ n. 8 * n) (sym (touched_more a.split p chunks w t here));
    in_time = loaded.in_time;
    known = All-append (IsOf engines a.split.parts lens) chunks ((w, t) ∷ []) loaded.known (All-cons (IsOf engines a.split.parts lens) (w, t) [] is_of (All-nil (IsOf engines a.split.parts lens)));
    sums = λ q below ne items described device tells.
        accumulators_same old new same device q ∙ (loaded.sums q below ne items described device tells ∙ ap (λ l. partition_sums a (records_of items l) q) (sym (one_elsewhere q chunks w t (λ e. ne (sym e ∙ here)))));
    here = (
      refl,
      still ∙ loaded.is_begun,
      some,
      λ items described.
          sums_more a p (records_of items (of_partition p chunks)) us (sums_of old) (sums_of new) (loaded.memory items described) summed
          ∙ ap (λ l. partition_sums a l p) (sym (ap (records_of items) (one_there p chunks w t here) ∙ (records_of-append items (of_partition p chunks) ((w, t) ∷ []) ∙ ap (λ l. records_of items (of_partition p chunks) ++ l) (one_chunk items ∙ reads items described)))),
    );
  }
    where
      one_chunk : (items : ℕ → ℕ → List Update) → records_of items ((w, t) ∷ []) ≡ items w t
      one_chunk items = append-nil (items w t)

      some : length (of_partition p (chunks ++ (w, t) ∷ [])) ≡ 0 → ⊥
      some none = let e = ap length (one_there p chunks w t here) in let n = length-append (of_partition p chunks) ((w, t) ∷ []) in omega (arith, none, e, n)

  -- The worker leaves a partition: it was spilled, or no chunk of it was taken.
  pub left_spilled : (told told' : Option (List ℕ)) (size size' beat beat' number : ℕ) (old new : Replicas) (begun : Option ℕ) (b : ℕ) (chunks : List (ℕ × ℕ)) (p : ℕ) → p < a.split.parts → begun ≡ Some b → Meets a engines lens Described told size beat number old begun chunks p → split_of new ≡ split_of old → unit_of new ≡ unit_of old → LiesWithin new size' → size' ≡ size + 8 * len_of (split_of old) p → beat' ≤ number
      → AsTold (λ before now. accumulators_of new now p ≡ sums_of old) told told' → AsTold (KeepsOthers old new p) told told' → Rests a engines lens Described told' size' beat' number new None chunks
  left_spilled told told' size size' beat beat' number old new begun b chunks p below some meets split unit within grown in_time spilled others =
      let here = subst (λ x. StandsHere a engines lens Described told old x chunks p) some meets.here in
      record {
        idle = refl;
        split = split ∙ meets.split;
        unit = unit ∙ meets.unit;
        within = within;
        width = let e = touched_here a.split p chunks below here.2 in let l : len_of (split_of old) p ≡ len_of a.split p = ap (λ (s : Split). len_of s p) meets.split in omega (arith, grown, meets.width, e, l);
        in_time = in_time;
        known = meets.known;
        sums = λ q inside items described device tells. ⊎_elim
            (λ same.
            let from = as_told_from (λ before now. accumulators_of new now p ≡ sums_of old) told device (subst (λ x. AsTold (λ before now. accumulators_of new now p ≡ sums_of old) told x) tells spilled) in
            subst (λ k. accumulators_of new device k ≡ partition_sums a (records_of items (of_partition k chunks)) k) (sym same) (from.2 ∙ here.3 items described))
            (λ ne.
            let from = as_told_from (KeepsOthers old new p) told device (subst (λ x. AsTold (KeepsOthers old new p) told x) tells others) in
            from.2 q ne (subst (λ (s : Split). q < s.parts) (sym meets.split) inside) ∙ meets.sums q inside ne items described from.0 from.1)
            (cases_eq q p);
      }

  pub left_idle : (told : Option (List ℕ)) (size beat number : ℕ) (replicas : Replicas) (begun : Option ℕ) (chunks : List (ℕ × ℕ)) (p : ℕ) → begun ≡ None → Meets a engines lens Described told size beat number replicas begun chunks p → Rests a engines lens Described told size beat number replicas begun chunks
  left_idle told size beat number replicas begun chunks p none meets =
      let here = subst (λ b. StandsHere a engines lens Described told replicas b chunks p) none meets.here in
      record {
        idle = none;
        split = meets.split;
        unit = meets.unit;
        within = meets.within;
        width = meets.width ∙ ap (λ n. 8 * n) (touched_fresh a.split p chunks here.0);
        in_time = meets.in_time;
        known = meets.known;
        sums = λ q inside items described device tells. ⊎_elim
            (λ same. subst (λ k. accumulators_of replicas device k ≡ partition_sums a (records_of items (of_partition k chunks)) k) (sym same) (here.1 items described device tells))
            (λ ne. meets.sums q inside ne items described device tells)
            (cases_eq q p);
      }
