-- What the report of a run counts.
use Rattle.std.proofs.Common.{◌≡◌, ◌∙◌, ℕ, ◌<◌, ◌≤◌, List, length, map, Some, refl, ap, subst, arith}
use Rattle.std.specs.Prelude.{slice_get}
use Rattle.std.specs.List.{sum_by, range_with_len}
use Rattle.std.proofs.lemmas.Option.{slice_get-get_or}
use Rattle.std.proofs.lemmas.List.FromFn.{get_or-map-range_with_len, length-map-range_with_len}
use Rattle.graph_model.specs.declared.edge.Edge.{Edge}
use Rattle.graph_model.specs.declared.job.Job.{Job}
use Rattle.graph_model.specs.Jobs.{IsWellFormedJob, parts_of}
use Rattle.chunk_file.specs.declared.index.Place.{Place}
use Rattle.chunk_file.specs.Places.{places_of}
use Rattle.store_model.specs.Graphs.{edge_chunks, chunks_on}
use Rattle.round_loop.specs.declared.run.Done.{Done}
use Rattle.round_loop.specs.declared.fault.RoundFault.TheVariants as fault
use Rattle.job_run.specs.declared.finish.Finish.{Finish}
use Rattle.job_run.specs.declared.finish.Finish.TheVariants as finish
use Rattle.endings.specs.declared.ending.Report.{Report}
use Rattle.endings.specs.declared.ending.Ending.TheVariants.{Answered, RoundLimit}
use Rattle.run_model.specs.Telling.{count_on, counts_of, report_of, ending_of, CountsChunks}

pub same_report : (a b : Report) → Answered a ≡ Answered b → a ≡ b
same_report a b same = cc

pub same_limit : (a b : ℕ) → RoundLimit a ≡ RoundLimit b → a ≡ b
same_limit a b same = cc

module _ (job : Job) (edges : List Edge) (index : List (List Place)) (well : IsWellFormedJob job)
    (counted : (parts : ℕ) → parts_of job ≤ parts → parts ≤ 64 → (e : ℕ) → e < 8 → sum_by (λ p. length (places_of index e p)) (range_with_len 0 parts) ≡ length (chunks_on job e (edge_chunks job edges))) where
  count_is : (e : ℕ) → e < 8 → count_on index e ≡ length (chunks_on job e (edge_chunks job edges))
  unfolding count_on
  count_is e few = counted 64 well.few_parts (omega arith) e few

  count_at : (e : ℕ) → e < 8 → slice_get (counts_of index) e ≡ Some (count_on index e)
  unfolding counts_of
  count_at e few =
      slice_get-get_or (map (count_on index) (range_with_len 0 8)) e 0 (omega (arith, few, length-map-range_with_len (count_on index) 0 8))
      ∙ ap Some (get_or-map-range_with_len (count_on index) 0 8 e e 0 few (omega arith))

  counts_chunks : (done : Done) → CountsChunks job edges (report_of job index done)
  counts_chunks done = record {
    engines = refl;
    chunks = λ e below. let few : e < 8 = omega (arith, below, well.engines.1) in count_at e few ∙ ap Some (count_is e few);
  }

  -- **The report of a finish counts the chunks.**
  pub counts_of_finish : (ended : Finish) (report : Report) → ending_of job index ended ≡ Answered report → CountsChunks job edges report
  counts_of_finish (finish.Answered done) report is = subst (CountsChunks job edges) (same_report (report_of job index done) report is) (counts_chunks done)
  counts_of_finish (finish.NotWritten done) report is = absurd (cc)
  counts_of_finish (finish.NotRead done) report is = absurd (cc)
  counts_of_finish (finish.Stopped fault.RoundLimit) report is = absurd (cc)
  counts_of_finish (finish.Stopped fault.DiskFault) report is = absurd (cc)
  counts_of_finish (finish.Stopped (fault.Damaged part engine place)) report is = absurd (cc)
  counts_of_finish (finish.Stopped fault.Memory) report is = absurd (cc)
