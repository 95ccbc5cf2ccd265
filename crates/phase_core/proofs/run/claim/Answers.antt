-- A claim that finds no chunk left is noted.
use Rattle.std.proofs.Common.{◌≡◌, ℕ, ◌+◌, ◌*◌, ◌<◌, ◌≤◌, ◌∙◌, sym, ap, subst, List, length, get_or, set, true, false, arith}
use Rattle.std.proofs.lemmas.Grind.{get_or_default_zero}
use Rattle.phase_model.specs.Shelves.{lens_of}
use Rattle.phase_core.specs.declared.chunk.PutChunk.{PutChunk}
use Rattle.chunk_object.specs.Epochs.{cursor_of}
use Rattle.phase_core.specs.declared.state.Core.{Core}
use Rattle.phase_core.specs.Machine.{Machine}
use Rattle.phase_core.specs.View.{machine_of, entry, shelf_of}
use Rattle.phase_core.proofs.Tables.{entry-written, in_table}
use Rattle.phase_core.proofs.Steps.{claim_bounds, refused_now}
use Rattle.phase_core.proofs.run.claim.Goals as goal

pub returns-in-None-clause-after : goal.returns-in-None-clause-after
returns-in-None-clause-after g c =
    let core : Core = c.args.core.now in
    let m : Machine = machine_of core in
    let w : ℕ = c.args.worker in
    let cursor : ℕ = cursor_of c.args.engine c.args.partition in
    let timely = sym c.may_claim.ensures ∙ c.if-not-may_claim.false in
    let bounds = claim_bounds m w c.args.engine c.args.partition timely in
    let below : cursor < 64 * core.split.engines = omega (arith, bounds.1, bounds.2, core.split_is.few) in
    let low : cursor < length core.nexts.items = subst (λ k. cursor < k) (sym core.nexts_long) below in
    let small : cursor < 512 = omega (arith, below, core.split_is.engines.1) in
    let is : c.cursor_of-cursor.result ≡ cursor = c.cursor_of-cursor.ensures in
    let read : c.index-next.result.now ≡ m.object.next cursor =
    c.index-next.ensures ∙ ap (λ k. get_or core.nexts.items k c.index-next.result.now) is ∙ get_or_default_zero core.nexts.items cursor c.index-next.result.now low in
    let none : m.object.len cursor ≤ m.object.next cursor =
    subst (λ (l : List PutChunk). lens_of (shelf_of l) cursor ≤ m.object.next cursor) c.deref.ensures.value
    (subst (λ k. lens_of (shelf_of c.deref.result.now) k ≤ m.object.next cursor) is (omega (arith, read, c.in-None.ensures.none))) in
    let place : c.refusal_place.result ≡ 512 * w + cursor = c.refusal_place.ensures in
    let inside : 512 * w + cursor < length core.refused.items = subst (λ k. 512 * w + cursor < k) (sym core.refused_long) (in_table 512 w core.split.engines cursor small bounds.0) in
    ap (λ k. record m { refused = entry 512 false (set core.refused.items k true) }) place
    ∙ refused_now (g.P.VertexProgram.rules c.args.program.now) m w c.args.engine c.args.partition _ timely none (entry-written 512 false core.refused.items w cursor true small inside)
