-- Each vertex of the partition has got its merge.
use Rattle.std.proofs.Common.{◌≡◌, ℕ, ◌+◌, ◌<◌, List, length, get_or, map, sym, ◌∙◌, arith}
use Rattle.std.specs.List.{range_with_len}
use Rattle.std.proofs.lemmas.List.{ext_get_or}
use Rattle.std.proofs.lemmas.List.FromFn.{length-map-range_with_len, get_or-map-range_with_len}
use Rattle.phase_model.specs.Sums.{sums_over}
use Rattle.phase_core.specs.Sums.{merged_at}
use Rattle.phase_core.specs.View.{machine_of}
use Rattle.phase_core.proofs.run.merged.Goals as goal

-- a list of the values from a first one on
sums_are : (f : ℕ → ℕ) (xs : List ℕ) (first start n : ℕ) → first ≡ start → length xs ≡ n → ((k : ℕ) → k < n → get_or xs k 0 ≡ f (first + k)) → xs ≡ sums_over f start n
sums_are f xs first start n same long each =
    ext_get_or 0 xs (map f (range_with_len start n)) (long ∙ sym (length-map-range_with_len f start n))
    (λ i below.
    let within : i < n = omega (arith, below, long) in
    each i within ∙ sym (get_or-map-range_with_len f start n i (first + i) 0 within (omega (arith, same))))

pub returns : goal.returns
returns g c =
    sums_are (merged_at (g.P.VertexProgram.rules c.args.program.now) (machine_of c.args.core.now)) c.loop-place.into c.range-first.result.0 _ _
    c.range-first.ensures.first c.loop-place.auto.into (λ k below. c.loop-place.invariant k (omega arith))
