use Rattle.std.proofs.Common.{◌≡◌, ◌∙◌, ℕ, ◌*◌, ◌<◌, ◌≤◌, ◌∷◌, [], ◌++◌, List, length, take, sym, subst, arith, rules}
use Rattle.std.proofs.lemmas.Grind.{common_steps}
use Rattle.graph_model.specs.declared.edge.Edge.{Edge}
use Rattle.std.proofs.lemmas.List.{length-append, length-take}
use Rattle.graph_model.specs.declared.job.Job.{Job}
use Rattle.ports.specs.Disk.{DiskState}
use Rattle.ports.specs.Devices.{OneRose}
use Rattle.chunk_file.specs.declared.index.Place.{Place}
use Rattle.seeded_place.specs.Placing.{Placing}
use Rattle.storage_engine.specs.Making.{AreFew, HasRoomFor, IsMaking}
use Rattle.storage_engine.specs.Steps.{IsClosedFront}
use Rattle.storage_engine.proofs.Every.{each_then, one_rose_later}
use Rattle.storage_engine.proofs.Flushing.{rose_cause, making_further}
use Rattle.storage_engine.proofs.maker.Maker.add_all.Goals as goal

pub returns-in-Err-clause-steps : goal.returns-in-Err-clause-steps
returns-in-Err-clause-steps g c =
    let disks = g.met.D.Disk g.world.𝓛 g.world.𝓜 g.world.𝓡 ((λ s x. x), (λ x. x), (λ x. x), λ x. x) in
    each_then g.D.Disk.state IsClosedFront c.args.beat.now c.args.graphs.now c.loop-k.graphs c.add.new.graphs disks.lawful c.loop-k.invariant.steps c.add.ensures.steps

pub returns-in-Err-clause-rose : goal.returns-in-Err-clause-rose
returns-in-Err-clause-rose g c = λ is.
    one_rose_later g.D.Disk.state IsClosedFront c.args.beat.now c.args.graphs.now c.loop-k.graphs c.add.new.graphs c.loop-k.invariant.steps
    (rose_cause (OneRose g.D.Disk.state c.loop-k.graphs c.add.new.graphs) c.in-Err.fault c.in-Err.ensures.cause is)

pub returns-in-Err-clause-calm : goal.returns-in-Err-clause-calm
returns-in-Err-clause-calm g c = λ no_fault. c.in-Err.ensures.calm no_fault ∙ c.loop-k.invariant.calm

pub loop-k-preserved : goal.loop-k-preserved
loop-k-preserved g c =
    let disks = g.met.D.Disk g.world.𝓛 g.world.𝓜 g.world.𝓡 ((λ s x. x), (λ x. x), (λ x. x), λ x. x) in
    let within : c.loop-k.k < length c.args.edges.now = first_of (omega arith, search rules, grind (arith, common_steps)) in
    record {
      steps = each_then g.D.Disk.state IsClosedFront c.args.beat.now c.args.graphs.now c.loop-k.graphs c.add.new.graphs disks.lawful c.loop-k.invariant.steps c.add.ensures.steps;
      calm = c.in_default.ensures.calm (λ is. absurd cc) ∙ c.loop-k.invariant.calm;
      job = c.add.ensures.job ∙ c.loop-k.invariant.job;
      making = λ before making.
          making_further g.D.Disk.state c.args.self.now.job c.loop-k.self.job before c.args.edges.now c.loop-k.k _ c.loop-k.self.buffers c.add.new.self.buffers c.loop-k.self.placer c.add.new.self.placer c.loop-k.self.index c.add.new.self.index c.loop-k.graphs c.add.new.graphs
          c.loop-k.invariant.job within (c.loop-k.invariant.making before making) (λ so_far now. c.in_default.ensures.making so_far now);
    }

-- one edge more of those that are few
few_with : (k most : ℕ) (before edges : List Edge) (edge : Edge) → k < length edges → length (before ++ edges) ≤ most → length ((before ++ take k edges) ++ edge ∷ []) ≤ most
few_with k most before edges edge within few =
    omega (arith, few, within, length-append before edges, length-append (before ++ take k edges) (edge ∷ []), length-append before (take k edges), length-take k edges)

room_with : {X : Type 0} (state : X → DiskState) (job now : Job) (before edges : List Edge) (k : ℕ) (edge : Edge) (buffers : List (List Edge)) (placer : Placing) (index : List (List Place)) (graphs : List X)
    → now ≡ job → k < length edges → AreFew job (before ++ edges) → IsMaking state job (before ++ take k edges) buffers placer index graphs → HasRoomFor state now buffers placer index graphs (edge ∷ [])
room_with state job now before edges k edge buffers placer index graphs same within few making =
    subst (λ j. HasRoomFor state j buffers placer index graphs (edge ∷ [])) (sym same)
    (before ++ take k edges, making, few_with k (1073741824 * job.chunk) before edges edge within few)

pub add-requires-clause-making : goal.add-requires-clause-making
add-requires-clause-making g c = λ _ _.
    let within : c.loop-k.k < length c.args.edges.now = first_of (omega arith, search rules, grind (arith, common_steps)) in
    let before = c.requires.making.0 in
    room_with g.D.Disk.state c.args.self.now.job c.loop-k.self.job before c.args.edges.now c.loop-k.k _ c.loop-k.self.buffers c.loop-k.self.placer c.loop-k.self.index c.loop-k.graphs
    c.loop-k.invariant.job within c.requires.making.2 (c.loop-k.invariant.making before c.requires.making.1)
