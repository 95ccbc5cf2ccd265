-- What was counted, or accumulators that are new.
use Rattle.std.proofs.Common.{◌≡◌, Bool, true, false, refl, subst, arith, map}
use Rattle.graph_model.specs.Rounds.{merged, out_degree}
use Rattle.store_reader.specs.declared.store.Outcome.TheVariants.{Done}
use Rattle.round_steps.specs.Rounds.{MakesFirst}
use Rattle.round_steps.proofs.Begun.{no_epochs}
use Rattle.round_steps.proofs.Counts.{bytes_of}
use Rattle.round_steps.proofs.Firsts.{first_sums}
use Rattle.round_steps.proofs.Gathered.{new_lie, new_merge, new_unspilled}
use Rattle.round_steps.proofs.epochs.sum_first.Goals as goal

pub returns-then-counts-clause-epochs : goal.returns-then-counts-clause-epochs
returns-then-counts-clause-epochs g c =
    subst (λ (counts : Bool). MakesFirst counts c.args.run.now.job.now c.args.run.now.index.now (c.count_edges.result.outcome ≡ Done) c.args.seat.now.view c.count_edges.new.seat.view c.count_edges.result.claims c.count_edges.result.admitted)
    (let is : true ≡ (g.P.VertexProgram.rules c.args.run.now.program.now).counts = cc in is) c.count_edges.ensures.epochs

pub returns-then-counts-clause-damaged : goal.returns-then-counts-clause-damaged
returns-then-counts-clause-damaged g c = c.count_edges.ensures.damaged

pub returns-then-counts-clause-sums : goal.returns-then-counts-clause-sums
returns-then-counts-clause-sums g c = λ done edges has tell.
    let counts : (g.P.VertexProgram.rules c.args.run.now.program.now).counts ≡ true = cc in
    first_sums (g.P.VertexProgram.rules c.args.run.now.program.now) c.args.run.now.split.now edges c.count_edges.new.crews.replicas.items (map (λ d. (g.D.Disk.state d).bytes) c.count_edges.new.spills.items) (out_degree edges)
    c.edges_are_counted.ensures.start (c.count_edges.ensures.counted done counts edges has tell) (λ counts v. refl)

pub returns-clause-crews : goal.returns-clause-crews
returns-clause-crews g c =
    let crews = c.requires.crews in
    record { scatter = crews.scatter; gather = crews.gather; apply = crews.apply; replicas = (omega arith, c.reset_all.ensures.splits c.args.run.now.split.now crews.replicas.1) }

pub returns-clause-epochs : goal.returns-clause-epochs
returns-clause-epochs g c =
    no_epochs (g.P.VertexProgram.rules c.args.run.now.program.now).counts c.args.run.now.job.now c.args.run.now.index.now (Done ≡ Done) c.args.seat.now.view (let is : (g.P.VertexProgram.rules c.args.run.now.program.now).counts ≡ false = cc in is) c.requires.between

pub returns-clause-damaged : goal.returns-clause-damaged
returns-clause-damaged g c = tt

pub returns-clause-within : goal.returns-clause-within
returns-clause-within g c = λ done. new_lie g.D.Disk.state c.reset_all.new.all.items c.args.spills.now.items (new_unspilled c.unit-unit.result c.reset_all.new.all.items c.reset_all.ensures.reset)

pub returns-clause-sums : goal.returns-clause-sums
returns-clause-sums g c = λ done edges has tell.
    let rules = g.P.VertexProgram.rules c.args.run.now.program.now in
    let bytes = bytes_of g.D.Disk.state c.args.spills.now.items tell in
    first_sums rules c.args.run.now.split.now edges c.reset_all.new.all.items (map (λ d. (g.D.Disk.state d).bytes) c.args.spills.now.items) (λ v. merged rules (map (λ r. c.unit-unit.result) c.reset_all.new.all.items))
    c.edges_are_counted.ensures.start
    (new_merge rules c.args.run.now.split.now c.reset_all.new.all.items bytes.all (map (λ d. (g.D.Disk.state d).bytes) c.args.spills.now.items) c.unit-unit.result (omega (arith, bytes.many)) bytes.are
    (c.reset_all.ensures.splits c.args.run.now.split.now c.requires.crews.replicas.1) c.reset_all.ensures.reset)
    (λ counts v. let never : (g.P.VertexProgram.rules c.args.run.now.program.now).counts ≡ false = cc in cc)
