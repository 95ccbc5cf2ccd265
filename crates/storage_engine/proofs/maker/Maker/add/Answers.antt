use Rattle.std.proofs.Common.{◌≡◌, ◌∙◌, ◌/◌, ◌<◌, ◌∷◌, [], ◌++◌, length, ap, sym, subst, arith}
use Rattle.std.proofs.lemmas.List.{length-set}
use Rattle.graph_model.specs.Jobs.{parts_of}
use Rattle.store_model.specs.Graphs.{home_of}
use Rattle.chunk_model.specs.Chunks.{full_chunks}
use Rattle.ports.proofs.Told.{on_ok_two}
use Rattle.storage_engine.specs.Waiting.{waiting}
use Rattle.storage_engine.proofs.Adding.{home_is, home_below, kept_at, fills_at, held_at}
use Rattle.storage_engine.proofs.Few.{room_while_given}
use Rattle.storage_engine.proofs.maker.Maker.add.Goals as goal

pub add-requires : goal.add-requires
add-requires g c =
    let job = c.args.self.now.job in
    let home = home_is job c.args.edge c.args.self.now.span c.args.self.now.span_is in
    omega (arith, home, home_below job c.args.edge c.requires.job c.requires.source, c.requires.making.1.holds.many)

pub edges-requires : goal.edges-requires
edges-requires g c =
    let job = c.args.self.now.job in
    let home = home_is job c.args.edge c.args.self.now.span c.args.self.now.span_is in
    let p = c.args.edge.src / c.args.self.now.span in
    let long : length c.add.new.self ≡ length c.args.self.now.buffers = ap length c.in_ok-add.ensures.ok ∙ length-set c.args.self.now.buffers p (waiting c.args.self.now.buffers p ++ c.args.edge ∷ []) in
    omega (arith, long, home, home_below job c.args.edge c.requires.job c.requires.source, c.requires.making.1.holds.many)

pub returns-then-edges-self-clause-making : goal.returns-then-edges-self-clause-making
returns-then-edges-self-clause-making g c = λ edges making.
    let job = c.args.self.now.job in
    let p = c.args.edge.src / c.args.self.now.span in
    kept_at g.D.Disk.state job edges c.args.edge p c.args.self.now.buffers c.add.new.self c.args.self.now.placer c.args.self.now.index c.args.graphs.now
    (home_is job c.args.edge c.args.self.now.span c.args.self.now.span_is) c.requires.job c.requires.source c.requires.held making c.in_ok-add.ensures.ok
    (omega (arith, c.if-edges-self.true, ap length c.edges.ensures))

pub write-requires-clause-held : goal.write-requires-clause-held
write-requires-clause-held g c = λ _ _.
    let job = c.args.self.now.job in
    let p = c.args.edge.src / c.args.self.now.span in
    let home = home_is job c.args.edge c.args.self.now.span c.args.self.now.span_is in
    let p_below : p < parts_of job = subst (λ k. k < parts_of job) (sym home) (home_below job c.args.edge c.requires.job c.requires.source) in
    held_at job c.requires.making.0 c.args.self.now.buffers c.add.new.self p c.args.edge (omega (arith, p_below, c.requires.making.1.holds.many)) (c.requires.making.1.held p p_below) c.requires.held c.in_ok-add.ensures.ok

pub returns-clause-making : goal.returns-clause-making
returns-clause-making g c = λ edges making.
    let job = c.args.self.now.job in
    let p = c.args.edge.src / c.args.self.now.span in
    on_ok_two c.write.result
    (λ made emptied. fills_at g.D.Disk.state job edges c.args.edge p c.args.self.now.buffers c.add.new.self c.write.new.self.buffers c.args.self.now.placer c.write.new.self.placer c.args.self.now.index c.write.new.self.index c.args.graphs.now c.write.new.graphs
    (home_is job c.args.edge c.args.self.now.span c.args.self.now.span_is) c.requires.job c.requires.source making c.in_ok-add.ensures.ok emptied
    (omega (arith, c.if-edges-self.false, ap length c.edges.ensures)) made)
    (c.write.ensures.made (full_chunks job.chunk (home_of job) [] edges) making.made) c.write.ensures.emptied

pub write-requires-clause-room_for_one : goal.write-requires-clause-room_for_one
write-requires-clause-room_for_one g c = λ _ _.
    room_while_given g.D.Disk.state c.args.self.now.job c.requires.making.0 (c.args.edge ∷ []) c.args.self.now.buffers c.args.self.now.placer c.args.self.now.index c.args.graphs.now c.requires.job c.requires.making.1 c.requires.making.2
