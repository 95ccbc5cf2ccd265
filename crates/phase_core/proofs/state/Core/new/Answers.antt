-- New tables have one value each.
use Rattle.phase_core.proofs.Steps.{fresh_machine}
use Rattle.phase_core.proofs.state.Core.new.Goals as goal

pub returns : goal.returns
returns c =
    fresh_machine c.args.split.now c.args.unit _ _ _ _ _ _ _ _ _ _ _ _
    c.new.ensures.items
    (c.in_ok-vec.ensures.items_if_clones_equal (λ y same. same))
    (c.in_ok-vec-2.ensures.items_if_clones_equal (λ y same. same))
    (c.in_ok-vec-3.ensures.items_if_clones_equal (λ y same. same))
    (c.in_ok-vec-4.ensures.items_if_clones_equal (λ y same. same))
    (c.in_ok-vec-5.ensures.items_if_clones_equal (λ y same. same))
    (c.in_ok-vec-6.ensures.items_if_clones_equal (λ y same. same))
