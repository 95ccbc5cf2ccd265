-- The next chunk is folded into the worker's row.
use Rattle.std.proofs.Common.{◌≡◌, ℕ, suc, ◌+◌, ◌*◌, ◌<◌, ◌∙◌, List, ◌++◌, take, drop, length, get_or, set, sym, ap, subst, arith}
use Rattle.std.specs.List.{All}
use Rattle.std.proofs.lemmas.Grind.{get_or_default_zero}
use Rattle.std.proofs.lemmas.List.{with_items_is}
use Rattle.graph_model.specs.declared.value.Update.{Update}
use Rattle.graph_model.specs.Programs.{Rules}
use Rattle.chunk_object.specs.Object.{put_at}
use Rattle.phase_model.specs.Shelves.{lens_of, records_at}
use Rattle.phase_core.specs.declared.chunk.PutChunk.{PutChunk}
use Rattle.phase_core.specs.declared.state.Core.{Core}
use Rattle.phase_core.specs.Machine.{Machine}
use Rattle.phase_core.specs.View.{entry, machine_of, shelf_of}
use Rattle.phase_core.proofs.Gathering.{gathered}
use Rattle.phase_core.proofs.Tables.{written, in_table}
use Rattle.phase_core.proofs.Chunked.{lens_few}
use Rattle.phase_core.proofs.Steps.{entry-folded, taken_machine}
use Rattle.phase_core.proofs.run.take.Goals as goal

-- the updates of the chunk at this index go to vertices
of_vertices : (core : Core) (index : ℕ) (d : PutChunk) → index < length core.chunks.items → (updates : List Update) → updates ≡ (get_or core.chunks.items index d).updates.items → All (λ (u : Update). u.dst < core.split.vertices) updates
of_vertices core index d below updates is = subst (All (λ (u : Update). u.dst < core.split.vertices)) (sym is) (core.within index d below)

pub overflow_add-index_mut : goal.overflow_add-index_mut
overflow_add-index_mut g c =
    let core : Core = c.args.core.now in
    let below : c.args.cursor < length core.nexts.items = subst (λ k. c.args.cursor < k) (sym core.nexts_long) c.requires.cursor in
    let read : c.index_mut.result.now ≡ get_or core.nexts.items c.args.cursor 0 = c.index_mut.ensures.value ∙ get_or_default_zero core.nexts.items c.args.cursor c.index_mut.result.now below in
    let counted : get_or core.nexts.items c.args.cursor 0 < lens_of (shelf_of core.chunks.items) c.args.cursor = c.requires.index.counted in
    omega (arith, read, counted, lens_few core.chunks.items c.args.cursor, core.chunks.ok.0, core.chunks.ok.1, core.chunks.small)

pub fold_updates-requires-after_bounds : goal.fold_updates-requires-after_bounds
fold_updates-requires-after_bounds g c κs within = λ k d below.
    let core : Core = c.args.core.now in
    let dst = of_vertices core c.args.index c.index.result.now c.requires.index.below c.deref.result.now (c.deref.ensures.value ∙ ap (λ (p : PutChunk). p.updates.items) c.index.ensures) k d below in
    let inside = in_table core.split.vertices c.args.worker core.split.engines (get_or c.deref.result.now k d).dst dst c.requires.worker in
    let long : length c.deref_mut.result.now ≡ core.split.vertices * core.split.engines = ap length c.deref_mut.ensures.value ∙ core.sums_long in
    omega (arith, inside, long)

pub returns : goal.returns
returns g c =
    let core : Core = c.args.core.now in
    let m : Machine = machine_of core in
    let rules : Rules = g.P.VertexProgram.rules c.args.program.now in
    let w : ℕ = c.args.worker in
    let cursor : ℕ = c.args.cursor in
    let below : cursor < length core.nexts.items = subst (λ k. cursor < k) (sym core.nexts_long) c.requires.cursor in
    let read : c.index_mut.result.now ≡ m.object.next cursor = c.index_mut.ensures.value ∙ get_or_default_zero core.nexts.items cursor c.index_mut.result.now below in
    let updates : List Update = c.deref.result.now in
    let is : updates ≡ (get_or core.chunks.items c.args.index c.index.result.now).updates.items = c.deref.ensures.value ∙ ap (λ (p : PutChunk). p.updates.items) c.index.ensures in
    let within = of_vertices core c.args.index c.index.result.now c.requires.index.below updates is in
    let taken : updates ≡ records_at m.chunks cursor (m.object.next cursor) = is ∙ sym (c.requires.index.records c.index.result.now) in
    let new : List ℕ = c.fold_updates.new.sums in
    let value : c.deref_mut.result.now ≡ core.sums.items = c.deref_mut.ensures.value in
    let same_long : length new ≡ length core.sums.items = c.fold_updates.auto.sums ∙ ap length value in
    let sums = entry-folded rules core.split.vertices core.split.engines core.unit w core.sums.items new updates same_long core.sums_long c.requires.worker within
    (λ place. subst (λ (l : List ℕ). get_or new place 0 ≡ gathered rules.fold (core.split.vertices * w) l updates place) value (c.fold_updates.ensures place)) in
    let more : c.index_mut.result.now + 1 ≡ suc (m.object.next cursor) = omega (arith, read) in
    let kept : take core.sums.len (new ++ drop (length new) core.sums.items) ≡ new = with_items_is core.sums new (same_long ∙ sym core.sums.ok.0) in
    ap (λ (l : List ℕ). record m { object = record m.object { next = λ i. get_or (set core.nexts.items cursor (c.index_mut.result.now + 1)) i 0 }; sums = entry core.split.vertices core.unit l }) kept
    ∙ taken_machine rules m w cursor _ _ updates
    (written core.nexts.items cursor (c.index_mut.result.now + 1) 0 below ∙ ap (λ k. put_at cursor k m.object.next) more)
    taken sums
