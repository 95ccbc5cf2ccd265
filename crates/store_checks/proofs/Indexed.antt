-- The chunks of the graph devices of the engines that were scanned.
use Rattle.std.proofs.Common.{◌≡◌, ◌≢◌, ◌∙◌, ℕ, zero, suc, ◌+◌, ◌*◌, ◌<◌, ◌≤◌, ◌==◌, cond, List, [], ◌∷◌, ◌++◌, length, drop, map, replicate, inl, inr, refl, sym, ap, subst, arith, add-one}
use Rattle.std.specs.List.{range_with_len, sum_by}
use Rattle.std.proofs.lemmas.Bool.{cases_eq, eq-eqb, ne_eqb}
use Rattle.std.proofs.lemmas.List.{get_or-replicate}
use Rattle.std.proofs.lemmas.List.Folds.{sum_by-replicate}
use Rattle.std.proofs.lemmas.List.Sums.{sum_by_push}
use Rattle.graph_model.specs.declared.edge.Edge.{Edge}
use Rattle.graph_model.specs.declared.job.Job.{Job}
use Rattle.graph_model.proofs.ListLemmas.{range_with_len-more}
use Rattle.partitioner.specs.declared.split.Split.{Split}
use Rattle.chunk_model.specs.Chunks.{Chunk}
use Rattle.chunk_model.specs.Layout.{edge_layout}
use Rattle.chunk_model.specs.ChunkBytes.{starts_of}
use Rattle.chunk_file.specs.declared.index.Place.{Place}
use Rattle.chunk_file.specs.declared.index.TheConstants.{MOST_PLACES}
use Rattle.chunk_file.specs.Places.{no_places, places_of, total_of, on_graph}
use Rattle.chunk_file.specs.Scans.{Scanned, StopsAt}
use Rattle.store_model.specs.Kept.{device}
use Rattle.store_model.specs.Damage.{chunks_before, MOST_CHUNKS}
use Rattle.store_checks.specs.Indexing.{Begins, IsIndexed, StopsIn}

-- the engines below this one were scanned, and no other has a place
pub record ScannedBelow (job : Job) (split : Split) (told : List (List ℕ)) (e : ℕ) (index : List (List Place)) : Type 0 where
  pub made : ℕ → List (Chunk Edge)
  pub each : (k : ℕ) → k < e → Begins job split (made k) [] (device told k)
  pub counted : chunks_before made e ≡ total_of index
  pub here : (k p : ℕ) → k < e → p < 64 → places_of index k p ≡ map on_graph (starts_of (edge_layout job.format) p 65 (made k))
  pub rest : (k p : ℕ) → e ≤ k → k < 8 → p < 64 → places_of index k p ≡ no_places

nothing : List (Chunk Edge)
nothing = []

pub none_scanned : (job : Job) (split : Split) (told : List (List ℕ)) (index : List (List Place)) → index ≡ replicate 512 no_places → ScannedBelow job split told 0 index
unfolding nothing
none_scanned job split told index empty = record {
  made = λ k. nothing;
  each = λ k below. absurd (omega arith);
  counted = sym (ap total_of empty ∙ sum_by-replicate (λ (places : List Place). length places) 512 no_places);
  here = λ k p below below'. absurd (omega arith);
  rest = λ k p from few below. ap (λ i. places_of i k p) empty ∙ get_or-replicate 512 (64 * k + p) no_places no_places (omega arith);
}

-- another list at one engine
abbrev with_at : (ℕ → List (Chunk Edge)) → ℕ → List (Chunk Edge) → ℕ → List (Chunk Edge)
with_at made e chunks k = cond (k == e) chunks (made k)

at_it : (made : ℕ → List (Chunk Edge)) (e : ℕ) (chunks : List (Chunk Edge)) (k : ℕ) → k ≡ e → with_at made e chunks k ≡ chunks
at_it made e chunks k same = ap (λ b. cond b chunks (made k)) (eq-eqb k e same)

at_other : (made : ℕ → List (Chunk Edge)) (e : ℕ) (chunks : List (Chunk Edge)) (k : ℕ) → k ≢ e → with_at made e chunks k ≡ made k
at_other made e chunks k other = ap (λ b. cond b chunks (made k)) (ne_eqb k e other)

sum_same : (f g : ℕ → ℕ) (n : ℕ) → ((k : ℕ) → k < n → f k ≡ g k) → sum_by f (range_with_len 0 n) ≡ sum_by g (range_with_len 0 n)
sum_same f g zero same = refl
sum_same f g (suc n) same =
    let more : range_with_len 0 (suc n) ≡ range_with_len 0 n ++ n ∷ [] = ap (range_with_len 0) (sym (add-one n)) ∙ range_with_len-more n in
    ap (sum_by f) more ∙ sum_by_push f (range_with_len 0 n) n
    ∙ ap (λ s. s + f n) (sum_same f g n (λ k below. same k (omega arith)))
    ∙ ap (λ s. sum_by g (range_with_len 0 n) + s) (same n (omega arith))
    ∙ sym (ap (sum_by g) more ∙ sum_by_push g (range_with_len 0 n) n)

count_more : (made : ℕ → List (Chunk Edge)) (e : ℕ) (chunks : List (Chunk Edge)) → chunks_before (with_at made e chunks) (e + 1) ≡ chunks_before made e + length chunks
count_more made e chunks =
    ap (sum_by (λ k. length (with_at made e chunks k))) (range_with_len-more e)
    ∙ sum_by_push (λ k. length (with_at made e chunks k)) (range_with_len 0 e) e
    ∙ ap (λ s. s + length (with_at made e chunks e)) (sum_same (λ k. length (with_at made e chunks k)) (λ k. length (made k)) e (λ k below. ap length (at_other made e chunks k (λ same. absurd (omega arith)))))
    ∙ ap (λ xs. chunks_before made e + length xs) (at_it made e chunks e refl)

-- **One engine more.**
pub one_scanned : (job : Job) (split : Split) (told : List (List ℕ)) (e : ℕ) (old new : List (List Place)) → e < 8
    → ScannedBelow job split told e old → Scanned job.format split job.chunk e (device told e) old new [] → ScannedBelow job split told (e + 1) new
one_scanned job split told e old new few below now = record {
  made = with_at below.made e now.chunks;
  each = λ k less. elim (cases_eq k e) [
    | inl same ↦ subst (λ cs. Begins job split cs [] (device told k)) (sym (at_it below.made e now.chunks k same)) (subst (λ j. Begins job split now.chunks [] (device told j)) (sym same) (record { are = now.are_chunks; stand = now.stand }))
    | inr other ↦ subst (λ cs. Begins job split cs [] (device told k)) (sym (at_other below.made e now.chunks k other)) (below.each k (omega arith))
  ];
  counted = count_more below.made e now.chunks ∙ ap (λ n. n + length now.chunks) below.counted ∙ sym now.counted;
  here = λ k p less within. elim (cases_eq k e) [
    | inl same ↦
        subst (λ cs. places_of new k p ≡ map on_graph (starts_of (edge_layout job.format) p 65 cs)) (sym (at_it below.made e now.chunks k same))
        (subst (λ j. places_of new j p ≡ map on_graph (starts_of (edge_layout job.format) p 65 now.chunks)) (sym same)
        (now.added.here p within ∙ ap (λ places. places ++ map on_graph (starts_of (edge_layout job.format) p 65 now.chunks)) (below.rest e p (omega arith) few within)))
    | inr other ↦
        subst (λ cs. places_of new k p ≡ map on_graph (starts_of (edge_layout job.format) p 65 cs)) (sym (at_other below.made e now.chunks k other))
        (now.added.elsewhere k p other within ∙ below.here k p (omega arith) within)
  ];
  rest = λ k p from small within. now.added.elsewhere k p (λ same. absurd (omega arith)) within ∙ below.rest k p (omega arith) small within;
}

-- **All engines.**
pub all_scanned : (job : Job) (split : Split) (told : List (List ℕ)) (e : ℕ) (index : List (List Place)) → e ≡ length told → total_of index ≤ MOST_PLACES → ScannedBelow job split told e index → IsIndexed job split told index
all_scanned job split told e index all few below = record {
  made = below.made;
  each = λ k less. below.each k (omega arith);
  few = subst (λ n. chunks_before below.made n ≤ MOST_CHUNKS) all (omega (arith, below.counted));
  index_is = record {
    here = λ k p less within. below.here k p (omega arith) within;
    elsewhere = λ k p from small within. below.rest k p (omega arith) small within;
    total = sym (subst (λ n. chunks_before below.made n ≡ total_of index) all below.counted);
  };
}

-- **A scan that stops.**
pub scan_stops : (job : Job) (split : Split) (told : List (List ℕ)) (e at : ℕ) (old new : List (List Place)) → e < length told → total_of new ≤ MOST_PLACES
    → ScannedBelow job split told e old → StopsAt job.format split job.chunk e old new at (device told e) → StopsIn job split told e at
scan_stops job split told e at old new engine few below stops = record {
  engine = engine;
  made = with_at below.made e stops.scanned.chunks;
  before = λ k less. subst (λ cs. Begins job split cs [] (device told k)) (sym (at_other below.made e stops.scanned.chunks k (λ same. absurd (omega arith)))) (below.each k less);
  here = subst (λ cs. Begins job split cs (drop at (device told e)) (device told e)) (sym (at_it below.made e stops.scanned.chunks e refl)) (record { are = stops.scanned.are_chunks; stand = stops.scanned.stand });
  within = stops.within;
  few = omega (arith, total);
  stopped = elim stops.stopped [ inl none ↦ inl none | inr full ↦ inr (omega (arith, total, full)) ];
}
  where
    total : chunks_before (with_at below.made e stops.scanned.chunks) (e + 1) ≡ total_of new
    total = count_more below.made e stops.scanned.chunks ∙ ap (λ n. n + length stops.scanned.chunks) below.counted ∙ sym stops.scanned.counted
