-- What was read of a chunk that was taken is what stands there.
use Rattle.std.proofs.Common.{◌≡◌, ℕ, ◌^◌, ◌<◌, Option, Some, None, IfSome, List, length, take, refl, sym, subst, arith}
use Rattle.ports.specs.Disk.{DiskState}
use Rattle.chunk_object.specs.Epochs.{cursor_of}
use Rattle.chunk_model.specs.Layout.{Layout, IsLayout}
use Rattle.chunk_model.proofs.OnDevice.{one_chunk}
use Rattle.chunk_file.specs.Places.{places_of}
use Rattle.chunk_file.specs.Chunks.{IsChunkIn, NoChunkIn}
use Rattle.store_reader.specs.declared.serving.Serving.{Serving}
use Rattle.store_reader.specs.Serving.{told_at, place_at, ReadsAt, RefusesAt, IsFoundChunk, IsRefusedChunk}
use Rattle.store_reader.specs.Indexed.{HasRecords}

module _ {D M : Type 0} (state : D → DiskState) (serving : Serving D M) (engine p t : ℕ) (inside : engine < serving.job.now.engines) (below : p < serving.split.now.parts) (there : t < length (places_of serving.index.now engine p)) {X : Type 0} (layout : Layout X) where
  abbrev at : ℕ
  at = (place_at serving.index.now engine p t).at

  abbrev told : Option (List ℕ)
  told = told_at state serving.shelf engine (place_at serving.index.now engine p t).lane

  -- where all chunks stand on devices that tell, what was read is the chunk
  pub reads_records : IsLayout layout → p < 2 ^ 32 → serving.job.now.chunk < 2 ^ 32 → (records : ℕ → ℕ → List X) (count : ℕ) (into : List X) → HasRecords state layout serving records → length into ≡ serving.job.now.chunk
      → ReadsAt layout serving.split.now p (place_at serving.index.now engine p t) told count into → records (cursor_of engine p) t ≡ take count into
  reads_records laws small few records count into has long reads =
      let here = has engine p t inside below there in
      let stands : IsChunkIn layout serving.split.now (length into) p at here.0 (take count into) =
      subst (λ bytes. IfSome bytes (λ bytes. IsChunkIn layout serving.split.now (length into) p at bytes (take count into))) here.1 reads.stands in
      (one_chunk layout laws p p at here.0 (records (cursor_of engine p) t) (take count into) small small (omega (arith, here.2.are.few)) (omega (arith, stands.are.few, long)) here.2.are.held stands.are.held here.2.stands stands.stands).1

  -- and no chunk is refused
  pub refuses_none : (records : ℕ → ℕ → List X) (most place : ℕ) → HasRecords state layout serving records → most ≡ serving.job.now.chunk
      → RefusesAt layout serving.split.now p (place_at serving.index.now engine p t) told most place → ⊥
  refuses_none records most place has long refuses =
      let here = has engine p t inside below there in
      let none : NoChunkIn layout serving.split.now most p at here.0 = subst (λ bytes. IfSome bytes (NoChunkIn layout serving.split.now most p at)) here.1 refuses.none in
      none (records (cursor_of engine p) t) (subst (λ n. IsChunkIn layout serving.split.now n p at here.0 (records (cursor_of engine p) t)) (sym long) here.2)

  -- a chunk that was read is found, whatever stands elsewhere
  pub found_chunk : (count : ℕ) (into : List X) → length into ≡ serving.job.now.chunk → ReadsAt layout serving.split.now p (place_at serving.index.now engine p t) told count into
      → IsFoundChunk state layout serving serving.job.now.chunk (cursor_of engine p) t
  found_chunk count into long reads = record {
    engine = engine;
    partition = p;
    cursor_is = refl;
    engine_is = inside;
    partition_is = below;
    there = there;
    stands = some_stands told (subst (λ most. IfSome told (λ bytes. IsChunkIn layout serving.split.now most p at bytes (take count into))) long reads.stands);
  }
    where
      some_stands : (bytes : Option (List ℕ)) → IfSome bytes (λ bytes. IsChunkIn layout serving.split.now serving.job.now.chunk p at bytes (take count into))
          → IfSome bytes (λ bytes. (items : List X) × IsChunkIn layout serving.split.now serving.job.now.chunk p at bytes items)
      some_stands (Some bytes) stands = (take count into, stands)
      some_stands None stands = tt

  -- and one that is refused is a chunk of the index
  pub refused_chunk : (most place : ℕ) → most ≡ serving.job.now.chunk → RefusesAt layout serving.split.now p (place_at serving.index.now engine p t) told most place
      → IsRefusedChunk state layout serving serving.job.now.chunk engine place
  refused_chunk most place long refuses = record {
    partition = p;
    t = t;
    engine_is = inside;
    partition_is = below;
    there = there;
    refuses = subst (λ most. RefusesAt layout serving.split.now p (place_at serving.index.now engine p t) told most place) long refuses;
  }
