-- The chunk that was found has the number that was wanted.
use Rattle.std.proofs.Common.{◌≡◌, ◌==◌, true, take, get_or, subst, sym, ◌∙◌, eq-eqb, arith}
use Rattle.chunk_object.specs.Epochs.{cursor_of}
use Rattle.phase_model.specs.Shelves.{lens_of}
use Rattle.phase_core.specs.declared.chunk.PutChunk.{PutChunk}
use Rattle.phase_core.specs.View.{IsNumbered, shelf_of}
use Rattle.phase_core.proofs.Chunked.{numbered}
use Rattle.phase_core.proofs.chunks.index_of.Goals as goal

pub returns-then-left-eq0-clause-found : goal.returns-then-left-eq0-clause-found
returns-then-left-eq0-clause-found c =
    let chunk : PutChunk = c.index-chunks-index.result in
    let own : cursor_of chunk.engine chunk.partition ≡ c.args.cursor = sym c.cursor_of.ensures ∙ c.if-cursor_of-cursor.true in
    let read : PutChunk = get_or c.args.chunks.now c.loop-index.index chunk in
    let test : cursor_of read.engine read.partition == c.args.cursor ≡ true =
    eq-eqb (cursor_of read.engine read.partition) c.args.cursor (subst (λ (k : PutChunk). cursor_of k.engine k.partition ≡ c.args.cursor) c.index-chunks-index.is own) in
    let number : lens_of (shelf_of (take c.loop-index.index c.args.chunks.now)) c.args.cursor ≡ c.args.number = omega (arith, c.loop-index.invariant, c.if-left-eq0.true) in
    subst (λ k. IsNumbered c.args.chunks.now c.args.cursor k c.loop-index.index) number (numbered c.args.chunks.now c.args.cursor c.loop-index.index chunk c.loop-index-test.true test)
