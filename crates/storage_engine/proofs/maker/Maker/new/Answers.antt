use Rattle.std.proofs.Common.{◌∙◌, replicate, ap}
use Rattle.storage_engine.specs.Waiting.{no_edges}
use Rattle.storage_engine.proofs.Flushing.{making_begins}
use Rattle.storage_engine.proofs.maker.Maker.new.Goals as goal

pub returns-clause-making : goal.returns-clause-making
returns-clause-making g c =
    making_begins g.D.Disk.state c.args.job.now c.in_ok-new.field-0 c.new-2.result c.in_ok-new-2.field-0 c.args.graphs.now c.requires.job
    (c.in_ok-new.ensures ∙ ap (λ n. replicate n no_edges) c.requires.split.0) c.new-2.ensures c.in_ok-new-2.ensures c.requires.graphs c.requires.heads
