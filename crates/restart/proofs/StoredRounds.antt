-- The slots of a job's values devices pass their checks, and the round that stands in them everywhere is the job's kept one.
use Rattle.std.proofs.Common.{◌≡◌, ◌∙◌, ℕ, zero, suc, ◌+◌, ◌<◌, ◌≤◌, ◌==◌, ◌&&◌, ◌||◌, not, nat_le, true, List, [], ◌∷◌, length, flat_map, Option, None, inl, inr, refl, sym, ap, subst, arith, length-append}
use Rattle.std.specs.List.{range_with_len, sum_by}
use Rattle.std.proofs.lemmas.Bool.{eq-eqb, eqb-true, le-leb, ne_eqb}
use Rattle.std.proofs.lemmas.List.FromFn.{length-range_with_len}
use Rattle.std.proofs.lemmas.List.Sums.{count_by-le-length, sum_by-cons}
use Rattle.graph_model.specs.declared.edge.Edge.{Edge}
use Rattle.graph_model.specs.declared.job.Job.{Job}
use Rattle.graph_model.specs.Partitions as ranges
use Rattle.graph_model.specs.Rounds.{has_changed}
use Rattle.graph_model.specs.Jobs.{IsWellFormedJob, parts_of}
use Rattle.partitioner.proofs.Owned.{own_count-le}
use Rattle.store_model.specs.declared.field.Field.TheVariants.{Engines, Vertices}
use Rattle.store_model.specs.Heads.{head}
use Rattle.store_model.specs.Slots.{slot_of}
use Rattle.store_model.specs.Kept.{own_of, own_vertices, round_values, changed_in, device, HasRound, IsValuesOf, IsEverywhere, IsKeptRound, IsFresh}
use Rattle.store_model.specs.Damage.{Fault, first_over, value_of, parts_in, own_in, is_open_slot, round_in, changed_of, is_good_slot, device_fault, values_fault}
use Rattle.store_reader.specs.declared.store.SlotHead.{SlotHead}
use Rattle.store_reader.specs.Reading.{TellsHead}
use Rattle.store_checks.specs.Rounds.{StandsEverywhere, IsKept, NoneKept}
use Rattle.store_checks.proofs.HeadChecks.{over_more as check_more}
use Rattle.store_checks.proofs.SlotReads.{right_size, good_slot, open_read, round_read, changed_read}
use Rattle.restart.proofs.HeadsOfJobs.{head_says, parts_said, few_vertices}
use Rattle.restart.proofs.RoundsOfJobs.{reached_few}
use Rattle.restart.proofs.PlacedChunks.{over_same}

-- The vertices of an engine.
pub own_said : (job : Job) → IsWellFormedJob job → ◌≡◌ {A = ℕ → ℕ} (λ e. own_in (head 165 job 0) e) (λ e. own_of job e)
own_said job well =
    ap {B = ℕ → ℕ} (λ v. λ e. ranges.own_count v (value_of Engines (head 165 job 0)) (parts_in (head 165 job 0)) e) (head_says job 0 well Vertices)
    ∙ ap {B = ℕ → ℕ} (λ n. λ e. ranges.own_count job.vertices n (parts_in (head 165 job 0)) e) (head_says job 0 well Engines)
    ∙ ap {B = ℕ → ℕ} (λ k. λ e. ranges.own_count job.vertices job.engines k e) (parts_said job 0 well)

length_over : (vertices parts : ℕ) (ps : List ℕ) → length (flat_map (ranges.vertices_in vertices parts) ps) ≡ sum_by (ranges.part_len vertices parts) ps
length_over vertices parts [] = refl
length_over vertices parts (p ∷ ps) =
    length-append (ranges.vertices_in vertices parts p) (flat_map (ranges.vertices_in vertices parts) ps)
    ∙ ap (λ n. n + length (flat_map (ranges.vertices_in vertices parts) ps)) (length-range_with_len (ranges.first_vertex vertices parts p) (ranges.part_len vertices parts p))
    ∙ ap (λ n. ranges.part_len vertices parts p + n) (length_over vertices parts ps)
    ∙ sym (sum_by-cons (ranges.part_len vertices parts) p ps)

pub own_length : (job : Job) (e : ℕ) → length (own_vertices job e) ≡ own_of job e
own_length job e = length_over job.vertices (parts_of job) (ranges.parts_of_master job.engines (parts_of job) e)

changed_few : (job : Job) (edges : List Edge) (e round : ℕ) → changed_in job edges (own_vertices job e) round ≤ own_of job e
changed_few job edges e zero = omega (arith, own_length job e)
changed_few job edges e (suc round) = omega (arith, own_length job e, count_by-le-length (has_changed (round_values job edges round) (round_values job edges (suc round))) (own_vertices job e))

-- checks that find nothing at any engine
pub none_over : (check : ℕ → Option Fault) (count : ℕ) → ((e : ℕ) → e < count → check e ≡ None) → first_over check count ≡ None
none_over check zero none = refl
none_over check (suc count) none =
    let next : count + 1 ≡ suc count = omega arith in
    subst (λ n. first_over check n ≡ None) next (check_more check count (none_over check count (λ e below. none e (omega arith))) (none count (omega arith)))

module _ (job : Job) (edges : List Edge) (well : IsWellFormedJob job) where
  own_small : (e : ℕ) → own_of job e ≤ 67108864
  own_small e = omega (arith, own_count-le job.vertices job.engines (parts_of job) e, few_vertices job well)

  -- what a slot's numbers are
  pub record Reads (e slot round : ℕ) (bytes : List ℕ) : Type 0 where
    pub is_open : is_open_slot (own_of job e) slot bytes ≡ true
    pub round_is : round_in (own_of job e) slot bytes ≡ round
    pub changed_is : changed_of (own_of job e) slot bytes ≡ changed_in job edges (own_vertices job e) round
    pub within : round ≤ 1000000

  reads : (e round : ℕ) (bytes : List ℕ) → HasRound job edges e bytes round → Reads e (slot_of round) round bytes
  reads e round bytes has =
      let few = reached_few job edges round well has.reached in
      let changed = changed_in job edges (own_vertices job e) round in
      let slot_head : SlotHead = record { is_open = true; round = round; changed = changed } in
      let tells : TellsHead (own_of job e) (slot_of round) slot_head bytes = record { gate = ((λ _. has.holds.is_open), λ _. refl); numbers = has.holds.numbers } in
      record {
        is_open = open_read (own_of job e) (slot_of round) slot_head bytes tells;
        round_is = round_read (own_of job e) (slot_of round) slot_head bytes (omega (arith, few)) tells;
        changed_is = changed_read (own_of job e) (slot_of round) slot_head bytes (omega (arith, changed_few job edges e round, own_small e)) tells;
        within = few;
      }

  -- **A slot of the job passes its check.**
  slot_passes : (e slot : ℕ) (bytes : List ℕ) → slot < 2 → IsValuesOf job edges e bytes → is_good_slot (own_of job e) slot bytes ≡ true
  slot_passes e slot bytes below is = elim (is.slots slot below) [
    | inl closed ↦
        ap (λ b. not b || ((slot_of (round_in (own_of job e) slot bytes) == slot) && nat_le (round_in (own_of job e) slot bytes) 1000000 && nat_le (changed_of (own_of job e) slot bytes) (own_of job e))) (ne_eqb _ 165 closed)
    | inr found ↦
        let round = found.0 in
        let here : Reads e slot round bytes = subst (λ s. Reads e s round bytes) found.1 (reads e round bytes found.2) in
        ap (λ b. not b || ((slot_of (round_in (own_of job e) slot bytes) == slot) && nat_le (round_in (own_of job e) slot bytes) 1000000 && nat_le (changed_of (own_of job e) slot bytes) (own_of job e))) here.is_open
        ∙ ap (λ n. (slot_of n == slot) && nat_le n 1000000 && nat_le (changed_of (own_of job e) slot bytes) (own_of job e)) here.round_is
        ∙ ap (λ b. b && nat_le round 1000000 && nat_le (changed_of (own_of job e) slot bytes) (own_of job e)) (eq-eqb (slot_of round) slot found.1)
        ∙ ap (λ b. b && nat_le (changed_of (own_of job e) slot bytes) (own_of job e)) (le-leb round 1000000 here.within)
        ∙ ap (λ n. nat_le n (own_of job e)) here.changed_is
        ∙ le-leb (changed_in job edges (own_vertices job e) round) (own_of job e) (changed_few job edges e round)
  ]

  device_passes : (e : ℕ) (bytes : List ℕ) → IsValuesOf job edges e bytes → device_fault (own_of job e) e bytes ≡ None
  device_passes e bytes is =
      right_size (own_of job e) e bytes None None is.exact
      (good_slot (own_of job e) e 0 bytes (slot_passes e 0 bytes (omega arith) is))
      (good_slot (own_of job e) e 1 bytes (slot_passes e 1 bytes (omega arith) is))

  -- **And so do all values devices.**
  pub values_pass : (values : List (List ℕ)) → length values ≡ job.engines → ((e : ℕ) → e < job.engines → IsValuesOf job edges e (device values e)) → values_fault (head 165 job 0) values ≡ None
  values_pass values many are =
      ap (λ (own : ℕ → ℕ). first_over (λ e. device_fault (own e) e (device values e)) (length values)) (own_said job well)
      ∙ none_over (λ e. device_fault (own_of job e) e (device values e)) (length values) (λ e below. device_passes e (device values e) (are e (omega (arith, many, below))))

  -- A round that stands everywhere.
  module _ (values : List (List ℕ)) (many : length values ≡ job.engines) (are : (e : ℕ) → e < job.engines → IsValuesOf job edges e (device values e)) where
    to_bytes : (round : ℕ) → IsEverywhere job edges values round → StandsEverywhere (own_of job) values round
    to_bytes round everywhere e below =
        let here = reads e round (device values e) (everywhere e (omega (arith, many, below))) in
        (here.is_open, here.round_is)

    from_bytes : (round : ℕ) → StandsEverywhere (own_of job) values round → IsEverywhere job edges values round
    from_bytes round stands e below =
        let here = stands e (omega (arith, many, below)) in
        elim ((are e below).slots (slot_of round) (omega arith)) [
          | inl closed ↦ absurd (closed (eqb-true _ 165 here.0))
          | inr found ↦
              let mine : Reads e (slot_of round) found.0 (device values e) = subst (λ s. Reads e s found.0 (device values e)) found.1 (reads e found.0 (device values e) found.2) in
              let same : found.0 ≡ round = sym mine.round_is ∙ here.1 in
              subst (HasRound job edges e (device values e)) same found.2
        ]

    -- **It is the kept one, where it is the greatest.**
    pub kept_is : (round changed : ℕ) → IsKept (own_of job) values round changed → IsKeptRound job edges values round
    kept_is round changed kept = record {
      everywhere = from_bytes round kept.everywhere;
      greatest = λ other everywhere. kept.greatest other (to_bytes other everywhere);
    }

    pub changed_kept : (round changed : ℕ) → IsKept (own_of job) values round changed → changed ≡ sum_by (λ e. changed_in job edges (own_vertices job e) round) (range_with_len 0 job.engines)
    changed_kept round changed kept =
        kept.changed_is
        ∙ over_same (λ e. changed_of (own_of job e) (slot_of round) (device values e)) (λ e. changed_in job edges (own_vertices job e) round) (length values)
        (λ e below. (reads e round (device values e) (from_bytes round kept.everywhere e (omega (arith, many, below)))).changed_is)
        ∙ ap (λ n. sum_by (λ e. changed_in job edges (own_vertices job e) round) (range_with_len 0 n)) many

    pub fresh_is : NoneKept (own_of job) values → IsFresh job edges values
    fresh_is none round everywhere = none round (to_bytes round everywhere)
