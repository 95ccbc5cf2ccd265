-- A claim, with the chunk that was taken or without.
use Rattle.std.proofs.Common.{◌≡◌, ℕ, ◌%◌, ◌<◌, Option, Some, None, List, length, refl, ap, sym, ◌∙◌, subst, arith}
use Rattle.graph_model.specs.declared.value.Update.{Update}
use Rattle.graph_model.specs.Partitions.{first_vertex}
use Rattle.chunk_object.specs.declared.call.Call.TheVariants.{Took, Exhausted}
use Rattle.chunk_object.specs.Epochs.{cursor_of}
use Rattle.chunk_cursor.specs.declared.view.View.{View}
use Rattle.chunk_cursor.specs.View.{with_call, MayTake}
use Rattle.worker_duty.specs.Views.{taken_by_seat, IsReady}
use Rattle.worker_duty.proofs.Cursors.{taken_here-more, taken_here-none}
use Rattle.replica_merge.specs.declared.replicas.Replicas.{Replicas}
use Rattle.replica_merge.specs.Accumulators.{split_of, begun_of, sums_of, len_of}
use Rattle.gather_phase.specs.Summing.{HasSummed}
use Rattle.gather_phase.specs.Memory.{SameSpills, HasCome, begun_or}
use Rattle.gather_phase.specs.Gathering.{Adding, IsOf, StandsHere, Meets}
use Rattle.gather_phase.proofs.Steps.{Loaded, loaded_first, loaded_on, took}

module _ (a : Adding) (engines : ℕ) (lens : ℕ → ℕ) (Described : (ℕ → ℕ → List Update) → Type 0) (told : Option (List ℕ)) (size beat number p : ℕ) where
  abbrev pub MeetsWith : Replicas → Option ℕ → List (ℕ × ℕ) → Type 0
  MeetsWith replicas begun chunks = Meets a engines lens Described told size beat number replicas begun chunks p

  pub met_none : (old new : View) (cursor : ℕ) (replicas : Replicas) (begun : Option ℕ) → MeetsWith replicas begun (taken_by_seat old) → new ≡ with_call old (Exhausted cursor) → MeetsWith replicas begun (taken_by_seat new)
  met_none old new cursor replicas begun meets call = subst (MeetsWith replicas begun) (sym (taken_here-none cursor old new call)) meets

  -- the partition is begun, and has its accumulators
  pub come_begun : (old new : Replicas) (begun : Option ℕ) (chunks : List (ℕ × ℕ)) → MeetsWith old begun chunks → HasCome old new begun p → begun_of new ≡ p
  come_begun old new None chunks meets come = come.1
  come_begun old new (Some b) chunks meets come = ap begun_of come ∙ meets.here.1

  pub come_split : (old new : Replicas) (begun : Option ℕ) (chunks : List (ℕ × ℕ)) → MeetsWith old begun chunks → HasCome old new begun p → split_of new ≡ a.split
  come_split old new None chunks meets come = come.0.split ∙ meets.split
  come_split old new (Some b) chunks meets come = ap split_of come ∙ meets.split

  met_next : (old new : View) (cursor t : ℕ) (r s u : Replicas) (begun : Option ℕ) (us : List Update) → MeetsWith r begun (taken_by_seat old) → HasCome r s begun p → SameSpills s u → begun_of u ≡ begun_of s → HasSummed a.add (first_vertex a.split.vertices a.split.parts p) us (sums_of s) (sums_of u) → cursor % 64 ≡ p → IsOf engines a.split.parts lens (cursor, t)
      → ((items : ℕ → ℕ → List Update) → Described items → items cursor t ≡ us) → new ≡ with_call old (Took cursor t) → MeetsWith u (Some (begun_or begun p)) (taken_by_seat new)
  met_next old new cursor t r s u None us meets come same still summed here is_of reads call =
      subst (MeetsWith u (Some p)) (sym (taken_here-more cursor t old new call))
      (took a engines lens Described told size beat number s u (taken_by_seat old) p cursor t us (loaded_first a engines lens Described told size beat number r s None (taken_by_seat old) p refl meets come.0 come.1 come.2) same still summed here is_of reads)
  met_next old new cursor t r s u (Some b) us meets come same still summed here is_of reads call =
      let loaded = subst (λ x. Loaded a engines lens Described told size beat number x (taken_by_seat old) p) (sym come) (loaded_on a engines lens Described told size beat number r (Some b) b (taken_by_seat old) p refl meets) in
      subst (λ x. MeetsWith u (Some x) (taken_by_seat new)) (sym meets.here.0)
      (subst (MeetsWith u (Some p)) (sym (taken_here-more cursor t old new call)) (took a engines lens Described told size beat number s u (taken_by_seat old) p cursor t us loaded same still summed here is_of reads))

  pub met_more : (add : ℕ → ℕ → ℕ) (first : ℕ) (old new : View) (cursor t : ℕ) (r s u : Replicas) (begun next : Option ℕ) (us : List Update) → add ≡ a.add → first ≡ first_vertex a.split.vertices a.split.parts p → MeetsWith r begun (taken_by_seat old) → HasCome r s begun p → next ≡ Some (begun_or begun p) → SameSpills s u → begun_of u ≡ begun_of s → HasSummed add first us (sums_of s) (sums_of u)
      → cursor % 64 ≡ p → IsOf engines a.split.parts lens (cursor, t) → ((items : ℕ → ℕ → List Update) → Described items → items cursor t ≡ us) → new ≡ with_call old (Took cursor t) → MeetsWith u next (taken_by_seat new)
  met_more add first old new cursor t r s u begun next us add_is first_is meets come next_is same still summed here is_of reads call =
      subst (λ x. MeetsWith u x (taken_by_seat new)) (sym next_is)
      (met_next old new cursor t r s u begun us meets come same still (subst (λ f. HasSummed f (first_vertex a.split.vertices a.split.parts p) us (sums_of s) (sums_of u)) add_is (subst (λ n. HasSummed add n us (sums_of s) (sums_of u)) first_is summed)) here is_of reads call)

-- the chunk that was taken is one of those of the cursor
pub taken_of : (engines parts : ℕ) (lens : ℕ → ℕ) (v : View) (engine p t : ℕ) → p < 64 → engine < engines → p < parts → IsReady v (cursor_of engine p) (lens (cursor_of engine p)) → MayTake v (cursor_of engine p) t → IsOf engines parts lens (cursor_of engine p, t)
taken_of engines parts lens v engine p t small inside below ready may = record {
  engine = omega arith;
  partition = let e : cursor_of engine p % 64 ≡ p = omega arith in omega (arith, e);
  place = let len = ready.opened in omega (arith, may.1, len);
}

-- the accumulators in memory are as many as the partition's vertices
pub long_sums : (r : Replicas) (p : ℕ) → begun_of r ≡ p → length (sums_of r) ≡ len_of (split_of r) p
long_sums r p is = sym r.sums.ok.0 ∙ (r.long ∙ ap (len_of (split_of r)) is)

-- what stands where a partition is begun, and where none is
pub stands_begun : (a : Adding) (engines : ℕ) (lens : ℕ → ℕ) (Described : (ℕ → ℕ → List Update) → Type 0) (told : Option (List ℕ)) (size beat number : ℕ) (r : Replicas) (begun : Option ℕ) (b : ℕ) (p : ℕ) {chunks : List (ℕ × ℕ)} → begun ≡ Some b → Meets a engines lens Described told size beat number r begun chunks p → (b ≡ p) × (begun_of r ≡ p)
stands_begun a engines lens Described told size beat number r begun b p {chunks} some meets = let here = subst (λ x. StandsHere a engines lens Described told r x chunks p) some meets.here in (here.0, here.1)

-- coming to a partition leaves the split
pub come_stays : (old new : Replicas) (begun : Option ℕ) (p : ℕ) → HasCome old new begun p → split_of new ≡ split_of old
come_stays old new None p come = come.0.split
come_stays old new (Some b) p come = ap split_of come
