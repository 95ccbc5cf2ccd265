use Rattle.std.proofs.Common.{◌∙◌}
use Rattle.storage_engine.proofs.Flushing.{flushed}
use Rattle.storage_engine.proofs.maker.Maker.flush.Goals as goal

pub returns-clause-made : goal.returns-clause-made
returns-clause-made g c = λ edges making.
    let disks = g.met.D.Disk g.world.𝓛 g.world.𝓜 g.world.𝓡 ((λ s x. x), (λ x. x), (λ x. x), λ x. x) in
    flushed g.D.Disk.state c.args.self.job edges c.write_rest.new.self.placer c.write_rest.new.self.index c.write_rest.new.graphs c.sync_all.new.disks c.args.beat.now disks.lawful
    (c.in_ok-write_rest.ensures.made edges making) c.sync_all.ensures.steps c.in_ok-sync_all.ensures.done

pub returns-clause-calm : goal.returns-clause-calm
returns-clause-calm g c = λ _. c.in_ok-sync_all.ensures.calm ∙ c.in_ok-write_rest.ensures.calm (λ is. absurd cc)
