use Rattle.std.proofs.Common.{◌<◌, map, inl, inr, sym, subst}
use Rattle.std.specs.List.{All}
use Rattle.std.specs.Vec.{with_items}
use Rattle.std.proofs.lemmas.List.{length-map}
use Rattle.ports.specs.Disk.{InEveryImage}
use Rattle.ports.proofs.Rising.{on_err}
use Rattle.ports.specs.Devices.{Each, OneRose}
use Rattle.store_model.specs.Heads.{IsShutGraph}
use Rattle.ports.specs.Stops.{Empties}
use Rattle.restart.specs.Dropping.{Closes}
use Rattle.std.proofs.lemmas.Result.{on_err_weaker}
use Rattle.restart.proofs.Devices.{holds_given_back}
use Rattle.restart.proofs.Dropped.{graphs_dropped, graphs_closed, all_values_emptied, all_values_kept, stops_of_drop, rose_later}
use Rattle.restart.proofs.dropping.drop_store.Goals as goal

pub returns-in_err-close_all-clause-graphs : goal.returns-in_err-close_all-clause-graphs
returns-in_err-close_all-clause-graphs g c =
    let graphs = c.args.store.now.graphs in
    let closes = holds_given_back (Each g.D.Disk.state (Closes c.args.beat.now)) graphs c.deref_mut.result.now c.close_all.new.graphs c.deref_mut.ensures.value c.close_all.ensures.closes.many c.close_all.ensures.closes in
    graphs_closed g.D.Disk.state c.args.beat.now graphs.items (with_items graphs c.close_all.new.graphs).items closes

pub returns-in_err-close_all-clause-values : goal.returns-in_err-close_all-clause-values
returns-in_err-close_all-clause-values g c =
    let disks = g.met.D.Disk g.world.𝓛 g.world.𝓜 g.world.𝓡 ((λ s x. x), (λ x. x), (λ x. x), λ x. x) in
    all_values_kept g.D.Disk.state c.args.beat.now c.args.store.now.values.items disks.lawful

pub returns-in_err-close_all-clause-stops : goal.returns-in_err-close_all-clause-stops
returns-in_err-close_all-clause-stops g c =
    let graphs = c.args.store.now.graphs in
    let values = map g.D.Disk.state c.args.store.now.values.items in
    λ b images images' within some stop stop'.
    stops_of_drop c.args.beat.now c.args.beat.now (map g.D.Disk.state graphs.items) (map g.D.Disk.state (with_items graphs c.close_all.new.graphs).items) values values
    (returns-in_err-close_all-clause-graphs g c) (returns-in_err-close_all-clause-values g c) b images images' within (subst (λ n. 0 < n) (sym (length-map graphs.items g.D.Disk.state)) some) stop stop'

pub returns-in_err-close_all-clause-cause : goal.returns-in_err-close_all-clause-cause
returns-in_err-close_all-clause-cause g c =
    on_err c.from_residual.result
    (elim c.in_err-close_all.ensures.cause [
      | inl rose ↦ inl rose
      | inr rose ↦ inr (inl (holds_given_back (OneRose g.D.Disk.state) c.args.store.now.graphs c.deref_mut.result.now c.close_all.new.graphs c.deref_mut.ensures.value c.close_all.ensures.closes.many rose))
    ])

pub returns-clause-graphs : goal.returns-clause-graphs
returns-clause-graphs g c =
    let disks = g.met.D.Disk g.world.𝓛 g.world.𝓜 g.world.𝓡 ((λ s x. x), (λ x. x), (λ x. x), λ x. x) in
    let graphs = c.args.store.now.graphs in
    let mids = (with_items graphs c.close_all.new.graphs).items in
    let many = c.close_all.ensures.closes.many in
    let closes = holds_given_back (Each g.D.Disk.state (Closes c.args.beat.now)) graphs c.deref_mut.result.now c.close_all.new.graphs c.deref_mut.ensures.value many c.close_all.ensures.closes in
    let shut = holds_given_back (λ olds news. All (λ disk. InEveryImage (g.D.Disk.state disk) IsShutGraph) news) graphs c.deref_mut.result.now c.close_all.new.graphs c.deref_mut.ensures.value many c.in_ok-close_all.ensures.shut in
    let empties = subst (λ n. Each g.D.Disk.state (Empties n) mids c.empty_store.new.store.graphs.items) c.next.ensures c.empty_store.ensures.graphs in
    graphs_dropped g.D.Disk.state c.args.beat.now c.next.new.self graphs.items mids c.empty_store.new.store.graphs.items disks.lawful c.requires.graph_beats closes shut empties

pub returns-clause-values : goal.returns-clause-values
returns-clause-values g c =
    let disks = g.met.D.Disk g.world.𝓛 g.world.𝓜 g.world.𝓡 ((λ s x. x), (λ x. x), (λ x. x), λ x. x) in
    let values = c.args.store.now.values.items in
    let empties = subst (λ n. Each g.D.Disk.state (Empties n) values c.empty_store.new.store.values.items) c.next.ensures c.empty_store.ensures.values in
    all_values_emptied g.D.Disk.state c.args.beat.now c.next.new.self values c.empty_store.new.store.values.items disks.lawful c.requires.value_beats empties

pub returns-clause-stops : goal.returns-clause-stops
returns-clause-stops g c =
    let graphs = c.args.store.now.graphs.items in
    λ b images images' within some stop stop'.
    stops_of_drop c.args.beat.now c.next.new.self (map g.D.Disk.state graphs) (map g.D.Disk.state c.empty_store.new.store.graphs.items)
    (map g.D.Disk.state c.args.store.now.values.items) (map g.D.Disk.state c.empty_store.new.store.values.items)
    (returns-clause-graphs g c) (returns-clause-values g c) b images images' within (subst (λ n. 0 < n) (sym (length-map graphs g.D.Disk.state)) some) stop stop'

pub returns-clause-cause : goal.returns-clause-cause
returns-clause-cause g c =
    let graphs = c.args.store.now.graphs in
    let mids = (with_items graphs c.close_all.new.graphs).items in
    let closes = holds_given_back (Each g.D.Disk.state (Closes c.args.beat.now)) graphs c.deref_mut.result.now c.close_all.new.graphs c.deref_mut.ensures.value c.close_all.ensures.closes.many c.close_all.ensures.closes in
    on_err_weaker c.empty_store.result
    (λ rose. elim rose [
      | inl first ↦ inr (inl (rose_later g.D.Disk.state c.args.beat.now graphs.items mids c.empty_store.new.store.graphs.items closes first))
      | inr others ↦ inr (inr others)
    ])
    c.empty_store.ensures.cause
